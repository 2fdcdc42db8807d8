-- Each entry that a command made has a sketch, and so it is light just where the sizes say so.
use Rattle.std.proofs.Common.{◌≡◌, inl, ℕ, zero, suc, ◌+◌, ◌*◌, ◌<◌, ◌^◌, List, [], ◌∷◌, ◌++◌, length, drop, get_or, map, replicate, Option, Some, None, true, refl, sym, ◌∙◌, ap, subst, arith, append_assoc, length-append}
use Rattle.std.specs.Prelude.{IsTrue, is_some, nat_lt, ◌↔◌}
use Rattle.std.specs.List.{AllByRecursion}
use Rattle.std.proofs.lemmas.Bool.{ltb-true, lt-ltb}
use Rattle.std.specs.Int.Bits.{bit_xor}
use Rattle.std.proofs.lemmas.List.{append-nil, get_or-map}
use Rattle.sha2.specs.Sha256.{sha256}
use Rattle.byte_fields.specs.Codec.{IsBytes}
use Rattle.byte_fields.specs.Numbers.{as_u64}
use Rattle.byte_fields.proofs.Facts.{bytes_taken, bytes_dropped}
use Rattle.gf_65536.specs.Field.{gf_mul}
use Rattle.rs_parity.specs.CodeWord.{symbols, IsCodeWord}
use Rattle.rs_parity.specs.Weight.{HasElements}
use Rattle.rs_parity.specs.Inside.{generator}
use Rattle.rs_parity.specs.Blocks.{block_size, block_of, block_count, IsParity}
use Rattle.rs_parity.specs.Sketches.{IsSketch}
use Rattle.rs_parity.specs.declared.sketch.Sketch.{Sketch}
use Rattle.rs_parity.proofs.Sums.{zip_sum, length-zip, get_or-zip, sum-zeros}
use Rattle.rs_parity.proofs.Division.{IsStep, step_keeps, step_elements, zeros_elements}
use Rattle.tree_values.specs.Spelling.{EffectFits, EffectsFit}
use Rattle.tree_values.specs.declared.node.Effect.{Effect}
use Rattle.tree_values.specs.declared.node.Effect.TheVariants.{Make, Put, Remove, Move, Mode}
use Rattle.mod_log.specs.declared.log.Entry.{Entry}
use Rattle.mod_log.specs.declared.origin.Origin.{Origin}
use Rattle.mod_log.specs.declared.sketched.SketchEffect.{SketchEffect}
use Rattle.mod_log.specs.declared.sketched.SketchEffect.TheVariants as of_sketch
use Rattle.mod_log.specs.declared.sketching.SketchEntry.{SketchEntry}
use Rattle.mod_log.specs.Sketched.{IsSketchedAs, AreSketchedAs, IsSketchOf}
use Rattle.mod_log.proofs.Sketches.{one_sketch_of}
use Rattle.wire_frames.specs.declared.message.Message.TheVariants.{Operate}
use Rattle.wire_frames.specs.Frame.{frame, IsValid}
use Rattle.wire_frames.proofs.Sizes.{frame_small}
use Rattle.client_core.specs.declared.route.Route.{Route}
use Rattle.client_core.specs.Syncing.{store_alone, IsLight, StoreIsDue}
use Rattle.client_core.specs.Inside.{IsLightEntry}

-- ---- a block has a parity

-- the remainder after one more symbol
next_word : List ℕ → ℕ → List ℕ
next_word [] symbol = []
next_word (first ∷ rest) symbol = zip_sum (rest ++ 0 ∷ []) (map (gf_mul (bit_xor first symbol)) generator)

padded : (xs : List ℕ) (k : ℕ) → get_or (xs ++ 0 ∷ []) k 0 ≡ get_or xs k 0
padded [] zero = refl
padded [] (suc k) = refl
padded (x ∷ xs) zero = refl
padded (x ∷ xs) (suc k) = padded xs k

is_step : (old : List ℕ) (symbol : ℕ) → length old ≡ 32 → IsStep old (next_word old symbol) symbol
unfolding next_word zip_sum
is_step [] symbol size = absurd (omega (arith, size))
is_step (first ∷ rest) symbol size = record { old_length = size; new_length = length-zip (rest ++ 0 ∷ []) row same ∙ long; each = at }
  where
    row : List ℕ
    row = map (gf_mul (bit_xor first symbol)) generator

    long : length (rest ++ 0 ∷ []) ≡ 32
    long = omega (arith, length-append rest (0 ∷ []), size)

    same : length (rest ++ 0 ∷ []) ≡ length row
    same = long

    at : (k : ℕ) → k < 32 → get_or (zip_sum (rest ++ 0 ∷ []) row) k 0 ≡ bit_xor (get_or (first ∷ rest) (k + 1) 0) (gf_mul (bit_xor first symbol) (get_or generator k 0))
    at k below =
        let up : suc k ≡ k + 1 = omega arith in
        let on : get_or rest k 0 ≡ get_or (first ∷ rest) (k + 1) 0 = ap (λ (n : ℕ). get_or (first ∷ rest) n 0) up in
        get_or-zip (rest ++ 0 ∷ []) row k same
        ∙ (λ i. bit_xor ((padded rest k ∙ on) i) (get_or-map (gf_mul (bit_xor first symbol)) generator k 0 0 below i))

-- a code word with these symbols after the front
record HasWord (front : List ℕ) : Type 0 where
  check : List ℕ
  size : length check ≡ 32
  elements : HasElements check
  code_word : IsCodeWord (front ++ check)

no_symbols : HasWord []
no_symbols = record { check = replicate 32 0; size = refl; elements = zeros_elements 32; code_word = record { vanishes = λ j from to. sum-zeros j 32 } }

one_more : (front : List ℕ) (symbol : ℕ) → symbol < 2 ^ 16 → HasWord front → HasWord (front ++ symbol ∷ [])
one_more front symbol fits so_far =
    let step = is_step so_far.check symbol so_far.size in
    record {
      check = next_word so_far.check symbol;
      size = step.new_length;
      elements = step_elements so_far.check (next_word so_far.check symbol) symbol step so_far.elements;
      code_word = step_keeps front so_far.check (next_word so_far.check symbol) symbol fits step so_far.code_word;
    }

all_symbols : (front word : List ℕ) → AllByRecursion (λ symbol. symbol < 2 ^ 16) word → HasWord front → HasWord (front ++ word)
all_symbols front [] all so_far = subst HasWord (sym (append-nil front)) so_far
all_symbols front (symbol ∷ word) all so_far =
    subst HasWord (append_assoc front (symbol ∷ []) word) (all_symbols (front ++ symbol ∷ []) word all.1 (one_more front symbol all.0 so_far))

symbols_small : (bytes : List ℕ) → IsBytes bytes → AllByRecursion (λ symbol. symbol < 2 ^ 16) (symbols bytes)
unfolding symbols
symbols_small [] fits = tt
symbols_small (high ∷ []) fits = (omega (arith, fits 0), tt)
symbols_small (high ∷ low ∷ bytes) fits = (omega (arith, fits 0, fits 1), symbols_small bytes (λ i. fits (suc (suc i))))

a_parity : (block : List ℕ) → IsBytes block → (parity : List ℕ) × IsParity block parity
a_parity block fits =
    let word = all_symbols [] (symbols block) (symbols_small block fits) no_symbols in
    (word.check, record { check = record { size = word.size; elements = word.elements }; code_word = word.code_word })

-- ---- a content has a sketch

module _ (content : List ℕ) (fits : IsBytes content) where
  block_bytes : (i : ℕ) → IsBytes (block_of content i)
  block_bytes i = bytes_taken block_size (drop (i * block_size) content) (bytes_dropped (i * block_size) content fits)

  -- the parities of so many blocks, from this one on
  record Parities (at count : ℕ) : Type 0 where
    parities : List (List ℕ)
    counted : length parities ≡ count
    each : (i : ℕ) → i < count → IsParity (block_of content (at + i)) (get_or parities i [])

  one_before : (at count : ℕ) → Parities (at + 1) count → Parities at (suc count)
  one_before at count more = record { parities = here.0 ∷ more.parities; counted = ap suc more.counted; each = both }
    where
      here : (parity : List ℕ) × IsParity (block_of content at) parity
      here = a_parity (block_of content at) (block_bytes at)

      both : (i : ℕ) → i < suc count → IsParity (block_of content (at + i)) (get_or (here.0 ∷ more.parities) i [])
      both zero below = let same : at ≡ at + 0 = omega arith in subst (λ (k : ℕ). IsParity (block_of content k) here.0) same here.1
      both (suc i) below =
          let same : at + 1 + i ≡ at + suc i = omega arith in
          subst (λ (k : ℕ). IsParity (block_of content k) (get_or more.parities i [])) same (more.each i (omega (arith, below)))

  some_parities : (at count : ℕ) → Parities at count
  some_parities at zero = record { parities = []; counted = refl; each = λ i below. absurd (omega (arith, below)) }
  some_parities at (suc count) = one_before at count (some_parities (at + 1) count)

  a_sketch : (sketch : Sketch) × IsSketch content sketch
  a_sketch =
      let all = some_parities 0 (block_count content) in (
        record { len = length content; print = sha256 content; parities = all.parities },
        record { len = refl; print = refl; parities = record { count = all.counted; each = at_place all } },
      )
    where
      at_place : (all : Parities 0 (block_count content)) → (i : ℕ) → i < block_count content → IsParity (block_of content i) (get_or all.parities i [])
      at_place all i below = let same : 0 + i ≡ i = omega arith in subst (λ (k : ℕ). IsParity (block_of content k) (get_or all.parities i [])) same (all.each i below)

-- ---- effects and entries have

sketched_so : (e : Effect) → EffectFits e → (k : SketchEffect) × IsSketchedAs e k
sketched_so (Make p) fits = (of_sketch.Make p, refl)
sketched_so (Put p content) fits = let made = a_sketch content fits.0.1 in (of_sketch.Put p made.0, (refl, made.1))
sketched_so (Remove p) fits = (of_sketch.Remove p, refl)
sketched_so (Move p to) fits = (of_sketch.Move p to, (refl, refl))
sketched_so (Mode p exec) fits = (of_sketch.Mode p exec, (refl, refl))

all_sketched : (es : List Effect) → AllByRecursion EffectFits es → (ks : List SketchEffect) × AreSketchedAs es ks
all_sketched [] fits = ([], tt)
all_sketched (e ∷ es) fits =
    let one = sketched_so e fits.0 in
    let more = all_sketched es fits.1 in
    (one.0 ∷ more.0, (one.1, more.1))

pub an_entry_sketch : (entry : Entry) (origin : Origin) → entry.origin ≡ Some origin → EffectsFit entry.effects → (sketched : SketchEntry) × IsSketchOf entry sketched
an_entry_sketch entry origin made fits =
    let all = all_sketched entry.effects fits.each in (
      record { seq = entry.seq; origin = origin; base = entry.base; effects = all.0 },
      record { numbered = refl; made_by = made; based = refl; effects_are = all.1 },
    )

-- ---- which entries are light

short : (route : Route) (entry : Entry) (client size stored : ℕ) → IsValid (store_alone client entry) → stored ≡ as_u64 (length (frame (store_alone client entry)))
    → (sketched : SketchEntry) → size ≡ as_u64 (length (frame (Operate client sketched))) → size < stored → length (frame (Operate client sketched)) < length (frame (store_alone client entry))
short route entry client size stored valid stores sketched operates lower = omega (arith, stores, operates, lower, frame_small (store_alone client entry) valid)

-- An entry is light just where both are there and the size of its operation is lower.
pub light_by : (client : ℕ) (route : Route) (entry : Entry) (size stored : ℕ) → IsValid (store_alone client entry) → is_some route.surrogate ≡ true → is_some entry.origin ≡ true
    → ((sketched : SketchEntry) → IsSketchOf entry sketched → size ≡ as_u64 (length (frame (Operate client sketched)))) → stored ≡ as_u64 (length (frame (store_alone client entry)))
    → IsTrue (nat_lt size stored) ↔ IsLightEntry client route entry
light_by client route entry size stored valid there made operates stores = (light route.surrogate entry.origin refl refl there made, heavy)
  where
    light : (address : Option (List ℕ)) (origin : Option Origin) → route.surrogate ≡ address → entry.origin ≡ origin → is_some address ≡ true → is_some origin ≡ true
        → IsTrue (nat_lt size stored) → IsLightEntry client route entry
    light None origin place by some also is = absurd (cc some)
    light (Some address) None place by some also is = absurd (cc also)
    light (Some address) (Some origin) place by some also is =
        let sketch = an_entry_sketch entry origin by valid.body_fits.each.0.0 in
        (address, sketch.0, record { surrogate = place; sketch = sketch.1; shorter = short route entry client size stored valid stores sketch.0 (operates sketch.0 sketch.1) (ltb-true size stored is) })

    heavy : IsLightEntry client route entry → IsTrue (nat_lt size stored)
    heavy found =
        let shorter = found.2.shorter in
        lt-ltb size stored (omega (arith, stores, operates found.1 found.2.sketch, shorter, frame_small (store_alone client entry) valid))

-- and each sketch of it, at the address that there is, tells that it is light
pub light_so : (client : ℕ) (route : Route) (entry : Entry) (address : List ℕ) (sketched : SketchEntry) → route.surrogate ≡ Some address → IsSketchOf entry sketched → IsLightEntry client route entry
    → IsLight client route entry address sketched
light_so client route entry address sketched place is light = record {
  surrogate = place;
  sketch = is;
  shorter = subst (λ (k : SketchEntry). length (frame (Operate client k)) < length (frame (store_alone client entry))) (one_sketch_of entry light.1 sketched light.2.sketch is) light.2.shorter;
}

-- the store of one that is not light is due at once
pub heavy_due : (client : ℕ) (route : Route) (entry : Entry) → (IsLightEntry client route entry → ⊥) → StoreIsDue client route entry []
heavy_due client route entry heavy = inl (λ address sketched light. heavy (address, sketched, light), refl)
