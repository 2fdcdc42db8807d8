-- What is read of a sketch is spelled so, and what is spelled so is read.
use Rattle.std.proofs.Common.{◌≡◌, ℕ, zero, suc, ◌+◌, ◌-◌, ◌<◌, ◌≤◌, ◌^◌, Bool, true, cond, min, List, [], ◌∷◌, ◌++◌, length, take, drop, get_or, leb, Result, Ok, Err, refl, sym, ap, subst, ◌∙◌, arith, lit<}
use Rattle.std.specs.Int.{w16, w32, from_be_bytes}
use Rattle.std.specs.List.{flat_map, AllByRecursion}
use Rattle.std.proofs.lemmas.Bool.{leb-true, le-leb}
use Rattle.byte_fields.specs.Field.{◌>>=◌, digits, number_at, span_at, ruled, each_at, EachFits}
use Rattle.byte_fields.specs.Codec.{Stands, IsBytes, IsCodec}
use Rattle.byte_fields.proofs.Codec.{byte_span_codec, u16_codec, u32_codec, ruled_codec, codec_for, each_codec, found3, again3, fault3, bind_ok, kept_ok}
use Rattle.byte_fields.proofs.Loop.{with_front, SoFar}
use Rattle.rs_parity.specs.Limits.{max_len}
use Rattle.rs_parity.specs.Blocks.{blocks_in, IsCheck}
use Rattle.sha2.specs.Sha256.{sha256, digest_bytes, final_hash, initial_hash_256}
use Rattle.sha2.proofs.Facts256.{length-sha256}
use Rattle.byte_fields.proofs.Facts.{no_bytes, bytes_appended, four_are_bytes}
use Rattle.rs_parity.specs.Weight.{HasElements}
use Rattle.rs_parity.specs.Spelling.{parity_spelling, sketch_spelling, SketchFits, parity_at, parities_at, sketch_at, OneSpelling, SketchesFit}
use Rattle.rs_parity.specs.declared.sketch.Sketch.{Sketch}

-- symbols that fit, one by one, and as elements
elements_from : (ws : List ℕ) → EachFits (λ (state : Unit {0}) w. w < 2 ^ 16) (λ state w. state) tt ws → HasElements ws
elements_from [] fits k = lit< tt
elements_from (w ∷ ws) fits zero = fits.0
elements_from (w ∷ ws) fits (suc k) = elements_from ws fits.1 k

pub elements_to : (ws : List ℕ) → HasElements ws → EachFits (λ (state : Unit {0}) w. w < 2 ^ 16) (λ state w. state) tt ws
elements_to [] elements = tt
elements_to (w ∷ ws) elements = (elements 0, elements_to ws (λ k. elements (suc k)))

pub parity_codec : IsCodec parity_at parity_spelling IsCheck
unfolding parity_at parity_spelling
parity_codec =
    codec_for (each_codec (λ (state : Unit {0}). number_at w16) (λ state w. state) (digits w16) (λ state w. w < 2 ^ 16) (λ state. u16_codec) 32 tt)
    (λ ws fits. record { size = fits.0; elements = elements_from ws fits.1 })
    (λ ws check. (check.size, elements_to ws check.elements))

checks_from : (ps : List (List ℕ)) → EachFits (λ (state : Unit {0}) p. IsCheck p) (λ state p. state) tt ps → AllByRecursion IsCheck ps
checks_from [] fits = tt
checks_from (p ∷ ps) fits = (fits.0, checks_from ps fits.1)

pub checks_to : (ps : List (List ℕ)) → AllByRecursion IsCheck ps → EachFits (λ (state : Unit {0}) p. IsCheck p) (λ state p. state) tt ps
checks_to [] all = tt
checks_to (p ∷ ps) all = (all.0, checks_to ps all.1)

pub parities_codec : (count : ℕ) → IsCodec (parities_at count) (flat_map parity_spelling) (λ ps. (length ps ≡ count) × AllByRecursion IsCheck ps)
unfolding parities_at
parities_codec count =
    codec_for (each_codec (λ (state : Unit {0}). parity_at) (λ state p. state) parity_spelling (λ state p. IsCheck p) (λ state. parity_codec) count tt)
    (λ ps fits. (fits.0, checks_from ps fits.1))
    (λ ps all. (all.0, checks_to ps all.1))

abbrev pub sketch_of_parts : ℕ → List ℕ → List (List ℕ) → Sketch
sketch_of_parts len print parities = record { len = len; print = print; parities = parities }

module _ (room : ℕ) where
  abbrev pub within : ℕ → Bool
  within len = leb len (min room max_len)

  pub len_codec : IsCodec (ruled within (number_at w32)) (digits w32) (λ len. (len < 2 ^ 32) × (within len ≡ true))
  len_codec = ruled_codec within u32_codec

  pub len_fits : (sketch : Sketch) → SketchFits room sketch → (sketch.len < 2 ^ 32) × (within sketch.len ≡ true)
  len_fits sketch fits = (omega (arith, fits.len), le-leb _ _ fits.len)

  pub sketch_codec : IsCodec (sketch_at room) sketch_spelling (SketchFits room)
  unfolding sketch_at sketch_spelling
  sketch_codec = record {
    found = λ bytes at sketch next fits le e.
        let f = found3 len_codec (λ len fit. byte_span_codec 32) (λ len print fit fit'. parities_codec (blocks_in len)) sketch_of_parts bytes at sketch next fits le e in
        subst (λ (s : Sketch). Stands bytes at (digits w32 s.len ++ (s.print ++ flat_map parity_spelling s.parities)) next × SketchFits room s) f.is
        (f.stands, record { len = leb-true _ _ f.first_fits.1; print = f.second_fits.0; print_bytes = f.second_fits.1; count = f.third_fits.0; checks = f.third_fits.1 });
    again = λ bytes at sketch next stands fits.
        again3 len_codec (λ len fit. byte_span_codec 32) (λ len print fit fit'. parities_codec (blocks_in len)) sketch_of_parts bytes at sketch.len sketch.print sketch.parities next stands
        (len_fits sketch fits) (fits.print, fits.print_bytes) (fits.count, fits.checks);
    fault = fault3 len_codec (λ len fit. byte_span_codec 32) (λ len print fit fit'. parities_codec (blocks_in len)) sketch_of_parts;
  }

-- a value that is read begins within the bytes
len_within : (room : ℕ) (bytes : List ℕ) (at : ℕ) (x : ℕ × ℕ) → ruled (within room) (number_at w32) bytes at ≡ Ok x → at ≤ length bytes
unfolding ruled number_at span_at
len_within room bytes at x e =
    let n = bind_ok (number_at w32 bytes at) (λ y. cond (within room y.0) (Ok y) (Err at)) x e in
    let s = bind_ok (span_at 4 bytes at) (λ span. Ok (from_be_bytes w32 span.0, span.1)) n.0 n.1 in
    let long : at + 4 ≤ length bytes = leb-true _ _ (kept_ok (leb (at + 4) (length bytes)) at (take 4 (drop at bytes), at + 4) s.0 s.1).0 in
    omega (arith, long)

-- a sketch that was read fits
pub read_fits : (room : ℕ) (bytes : List ℕ) (at : ℕ) (sketch : Sketch) (next : ℕ) → IsBytes bytes → sketch_at room bytes at ≡ Ok (sketch, next) → SketchFits room sketch
unfolding sketch_at
read_fits room bytes at sketch next fits e =
    let len = bind_ok (ruled (within room) (number_at w32) bytes at) (λ len. span_at 32 bytes len.1 >>= λ print. parities_at (blocks_in len.0) bytes print.1 >>= λ ps. Ok (sketch_of_parts len.0 print.0 ps.0, ps.1)) (sketch, next) e in
    ((sketch_codec room).found bytes at sketch next fits (len_within room bytes at len.0 len.1) e).1

pub one_spelling_each : OneSpelling
one_spelling_each room = sketch_codec room

-- before a loop over items nothing stands in front
from_start : {A : Type 0} (read : Result (List A × ℕ) ℕ) → with_front [] read ≡ read
from_start (Ok x) = refl
from_start (Err place) = refl

pub symbols_start : (bytes : List ℕ) (start : ℕ) → SoFar (λ (state : Unit {0}). number_at w16) (λ state symbol. state) bytes (parity_at bytes start) [] 32 tt start
unfolding parity_at
symbols_start bytes start = from_start (parity_at bytes start)

pub parities_start : (bytes : List ℕ) (count start : ℕ) (parities : List (List ℕ)) → parities ≡ []
    → SoFar (λ (state : Unit {0}). parity_at) (λ state parity. state) bytes (parities_at count bytes start) parities (count - 0) tt start
unfolding parities_at
parities_start bytes count start parities none =
    let left : count - 0 ≡ count = omega arith in
    (λ i. with_front (none i) (each_at (λ (state : Unit {0}). parity_at) (λ state parity. state) (left i) tt bytes start)) ∙ from_start (parities_at count bytes start)

checks_each : (ps : List (List ℕ)) → ((i : ℕ) → i < length ps → IsCheck (get_or ps i [])) → AllByRecursion IsCheck ps
checks_each [] each = tt
checks_each (p ∷ ps) each = (each 0 (omega arith), checks_each ps (λ i h. each (suc i) (omega arith)))

-- a digest is bytes
digest_are_bytes : (h : List ℕ) (n : ℕ) → IsBytes (digest_bytes h n)
unfolding digest_bytes digits
digest_are_bytes h zero = no_bytes
digest_are_bytes h (suc n) = bytes_appended (digest_bytes h n) (digits w32 (get_or h n 0)) (digest_are_bytes h n) (four_are_bytes (get_or h n 0))

sha256_bytes : (content : List ℕ) → IsBytes (sha256 content)
unfolding sha256
sha256_bytes content = digest_are_bytes (final_hash initial_hash_256 content) 8

pub sketches_fit_each : SketchesFit
sketches_fit_each content sketch room is short = record {
  len = omega (arith, is.len);
  print = ap length is.print ∙ length-sha256 content;
  print_bytes = subst IsBytes (sym is.print) (sha256_bytes content);
  count = is.parities.count ∙ ap blocks_in (sym is.len);
  checks = checks_each sketch.parities (λ i h. (is.parities.each i (omega (arith, is.parities.count))).check);
}
