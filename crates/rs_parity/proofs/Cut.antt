-- Bytes that end inside a sketch, and sketches that break a rule: the field that is the faulty one.
use Rattle.std.proofs.Common.{◌≡◌, ℕ, ◌+◌, ◌-◌, ◌<◌, ◌^◌, ◌⊎◌, inl, inr, true, min, [], ◌∷◌, ◌++◌, length, take, Err, subst, arith, length-append}
use Rattle.std.specs.Int.{w16, w32}
use Rattle.std.specs.List.{flat_map, AllByRecursion}
use Rattle.byte_fields.specs.Field.{digits, number_at, span_at, ruled, two}
use Rattle.byte_fields.specs.Codec.{IsBytes}
use Rattle.byte_fields.specs.Broken.{IsRefused}
use Rattle.byte_fields.specs.Cuts.{start_of, IsCut}
use Rattle.byte_fields.proofs.Codec.{byte_span_codec, u16_codec, u32_codec}
use Rattle.byte_fields.proofs.Facts.{sum_more, le_fails}
use Rattle.byte_fields.proofs.Cutting.{span_cut, u16_cut, u32_cut, ruled_cut, cut_for, three_cut, each_cut}
use Rattle.byte_fields.proofs.Breaking.{read_again, first_refused, rule_refused}
use Rattle.rs_parity.specs.Limits.{max_len}
use Rattle.rs_parity.specs.Blocks.{blocks_in, IsCheck}
use Rattle.rs_parity.specs.Spelling.{parity_spelling, sketch_spelling, SketchFits, parity_at, parities_at, sketch_at}
use Rattle.rs_parity.specs.Fields.{parity_fields, sketch_fields}
use Rattle.rs_parity.specs.Broken.{BrokenSketches}
use Rattle.rs_parity.proofs.Spelled.{elements_to, checks_to, parity_codec, within, len_codec, len_fits, sketch_of_parts}

parity_cut : IsCut parity_at parity_spelling parity_fields IsCheck
unfolding parity_at parity_spelling
parity_cut =
    cut_for (each_cut (λ (state : Unit {0}). number_at w16) (λ state w. state) (digits w16) (λ w. 2 ∷ []) (λ state w. w < 2 ^ 16) (λ state. u16_codec) (λ state. u16_cut) 32 tt)
    (λ ws check. (check.size, elements_to ws check.elements))

parities_cut : (count : ℕ) → IsCut (parities_at count) (flat_map parity_spelling) (flat_map parity_fields) (λ ps. (length ps ≡ count) × AllByRecursion IsCheck ps)
unfolding parities_at
parities_cut count =
    cut_for (each_cut (λ (state : Unit {0}). parity_at) (λ state p. state) parity_spelling parity_fields (λ state p. IsCheck p) (λ state. parity_codec) (λ state. parity_cut) count tt)
    (λ ps all. (all.0, checks_to ps all.1))

print_cut : IsCut (span_at 32) (λ text. text) (λ text. 32 ∷ []) (λ text. (length text ≡ 32) × IsBytes text)
print_cut = record {
  whole = λ text fits. omega (arith, sum_more 32 [], fits.0);
  cut = λ bytes at text next end stands fits le lt.
      subst (λ (n : ℕ). span_at 32 (take end bytes) at ≡ Err (at + start_of (end - at) (n ∷ []))) fits.0 ((span_cut 32).cut bytes at text next end stands fits.0 le lt);
}

module _ (room : ℕ) where
  len_cut : IsCut (ruled (within room) (number_at w32)) (digits w32) (λ len. 4 ∷ []) (λ len. (len < 2 ^ 32) × (within room len ≡ true))
  len_cut = ruled_cut u32_cut (within room)

  pub sketch_cut : IsCut (sketch_at room) sketch_spelling sketch_fields (SketchFits room)
  unfolding sketch_at sketch_spelling
  sketch_cut = record {
    whole = λ sketch fits.
        let parities = (parities_cut (blocks_in sketch.len)).whole sketch.parities (fits.count, fits.checks) in
        omega (
          arith,
          sum_more 4 (32 ∷ flat_map parity_fields sketch.parities),
          sum_more 32 (flat_map parity_fields sketch.parities),
          length-append (digits w32 sketch.len) (sketch.print ++ flat_map parity_spelling sketch.parities),
          length-append sketch.print (flat_map parity_spelling sketch.parities),
          sum_more 4 [],
          u32_cut.whole sketch.len (len_fits room sketch fits).0,
          fits.print,
          parities,
        );
    cut = λ bytes at sketch next end stands fits le lt.
        three_cut (len_codec room) len_cut (λ len fit. byte_span_codec 32) (λ len fit. print_cut) (λ len print fit fit'. parities_cut (blocks_in len)) sketch_of_parts bytes at sketch.len sketch.print sketch.parities next end stands
        (len_fits room sketch fits) (fits.print, fits.print_bytes) (fits.count, fits.checks) le lt;
  }

  pub len_refused : (len : ℕ) → len < 2 ^ 32 → (max_len < len) ⊎ (room < len) → IsRefused (sketch_at room) (digits w32 len) 0
  unfolding sketch_at
  len_refused len small large =
      first_refused (ruled (within room) (number_at w32)) (λ n. two (span_at 32) (λ print. parities_at (blocks_in n)) (sketch_of_parts n)) (digits w32 len) 0
      (rule_refused (number_at w32) (within room) (digits w32 len) len (read_again u32_codec len small) (le_fails len (min room max_len) (elim large [ inl h ↦ omega arith | inr h ↦ omega arith ])))

pub broken_sketches : BrokenSketches
broken_sketches = record { len_is_large = len_refused }
