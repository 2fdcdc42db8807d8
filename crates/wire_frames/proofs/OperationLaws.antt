-- The laws of operations: one spelling for each, where bytes end inside one, and that their spellings are bytes.
use Rattle.std.proofs.Common.{◌≡◌, ℕ, ◌*◌, ◌^◌, ◌<◌, ◌≤◌, List, [], ◌∷◌, ◌++◌, length, Ok, refl, ap, subst, arith, lit<, length-append}
use Rattle.std.specs.List.{flat_map}
use Rattle.std.proofs.lemmas.List.{length-map}
use Rattle.std.proofs.lemmas.List.Concat.{flat_map-cons}
use Rattle.byte_fields.specs.Codec.{Stands, IsBytes, IsCodec}
use Rattle.byte_fields.specs.Cuts.{IsCut}
use Rattle.byte_fields.proofs.Facts.{bytes_appended}
use Rattle.byte_fields.proofs.Codec.{found2, again2, fault2}
use Rattle.byte_fields.proofs.Cutting.{sum_both, two_cut}
use Rattle.tree_values.specs.Limits.{max_files, max_effects}
use Rattle.tree_values.specs.declared.node.Base.{Base}
use Rattle.tree_values.specs.Effects.{distinct}
use Rattle.tree_values.specs.Spelling.{bases, AreBasesOf}
use Rattle.tree_values.specs.Fields.{bases_fields}
use Rattle.tree_values.specs.Reading.{bases_at}
use Rattle.tree_laws.proofs.Parts.{bases_codec}
use Rattle.tree_laws.proofs.CutParts.{bases_cut}
use Rattle.tree_laws.proofs.SpelledBytes.{bases_are_bytes}
use Rattle.mod_log.specs.declared.origin.Origin.{Origin}
use Rattle.mod_log.specs.declared.sketched.SketchEffect.{SketchEffect}
use Rattle.mod_log.specs.declared.sketched.SketchEffect.TheVariants.{Make, Put, Remove, Move, Mode}
use Rattle.mod_log.specs.declared.sketching.SketchEntry.{SketchEntry}
use Rattle.mod_log.specs.Origin.{origin}
use Rattle.mod_log.specs.Sketched.{sketch_paths, sketches_touch}
use Rattle.mod_log.specs.Spelling.{sketch_effects, SketchEffectsFit}
use Rattle.mod_log.specs.Fields.{origin_fields, sketch_effects_fields}
use Rattle.mod_log.proofs.Origins.{origin_codec, origin_cut}
use Rattle.mod_log.proofs.Codec.{sketch_effects_codec}
use Rattle.mod_log.proofs.Cut.{sketch_effects_cut}
use Rattle.mod_log.proofs.SpelledBytes.{origin_is_bytes, sketch_effects_are_bytes}
use Rattle.wire_frames.specs.Operation.{operation, operation_fields, OperationFits, sketch_effects_at, sketches_at, operation_at}
use Rattle.tree_laws.proofs.Few.{distinct_length}

-- ---- the paths that sketched effects touch are few

touches_length : (e : SketchEffect) → length (sketch_paths e) ≤ 2
touches_length (Make p) = omega arith
touches_length (Put p s) = omega arith
touches_length (Remove p) = omega arith
touches_length (Move p q) = omega arith
touches_length (Mode p exec) = omega arith

all_touches_length : (es : List SketchEffect) → length (sketches_touch es) ≤ 2 * length es
all_touches_length [] = omega arith
all_touches_length (e ∷ es) =
    omega (arith, ap length (flat_map-cons sketch_paths e es), length-append (sketch_paths e) (flat_map sketch_paths es), touches_length e, all_touches_length es)

touched_few : (es : List SketchEffect) → SketchEffectsFit es → length (distinct (sketches_touch es)) < 2 ^ 32
touched_few es fits = omega (arith, distinct_length (sketches_touch es), all_touches_length es, fits.few)

pub few_bases : (es : List SketchEffect) (bs : List Base) → AreBasesOf (distinct (sketches_touch es)) bs → SketchEffectsFit es → length bs ≤ 8192
few_bases es bs are fits =
    omega (arith, length-map bs (λ (b : Base). b.path), ap length are.0, distinct_length (sketches_touch es), all_touches_length es, fits.few)

-- ---- sketched effects and bases

abbrev pub Sketches : Type 0
Sketches = List SketchEffect × List Base

abbrev SketchesFit : Sketches → Type 0
SketchesFit x = SketchEffectsFit x.0 × AreBasesOf (distinct (sketches_touch x.0)) x.1

abbrev pub both_of : List SketchEffect → List Base → Sketches
both_of es bs = (es, bs)

pub sketched_effects_codec : IsCodec sketch_effects_at sketch_effects SketchEffectsFit
sketched_effects_codec = sketch_effects_codec max_effects max_files (lit< tt)

effects_cut : IsCut sketch_effects_at sketch_effects sketch_effects_fields SketchEffectsFit
effects_cut = sketch_effects_cut max_effects max_files (lit< tt)

pub bases_of : (es : List SketchEffect) → SketchEffectsFit es → IsCodec (bases_at (distinct (sketches_touch es))) bases (AreBasesOf (distinct (sketches_touch es)))
bases_of es fits = bases_codec (distinct (sketches_touch es)) (touched_few es fits)

cut_of : (es : List SketchEffect) → SketchEffectsFit es → IsCut (bases_at (distinct (sketches_touch es))) bases bases_fields (AreBasesOf (distinct (sketches_touch es)))
cut_of es fits = bases_cut (distinct (sketches_touch es)) (touched_few es fits)

sketches_codec : IsCodec sketches_at (λ x. sketch_effects x.0 ++ bases x.1) SketchesFit
unfolding sketches_at
sketches_codec = record {
  found = λ bytes at x next fits le e.
      let r = found2 sketched_effects_codec bases_of both_of bytes at x next fits le e in
      subst (λ (y : Sketches). Stands bytes at (sketch_effects y.0 ++ bases y.1) next × SketchesFit y) r.is (r.stands, (r.first_fits, r.second_fits));
  again = λ bytes at x next stands fits. again2 sketched_effects_codec bases_of both_of bytes at x.0 x.1 next stands fits.0 fits.1;
  fault = fault2 sketched_effects_codec bases_of both_of;
}

sketches_cut : IsCut sketches_at (λ x. sketch_effects x.0 ++ bases x.1) (λ x. sketch_effects_fields x.0 ++ bases_fields x.1) SketchesFit
unfolding sketches_at
sketches_cut = record {
  whole = λ x fits.
      omega (
        arith,
        sum_both (sketch_effects_fields x.0) (bases_fields x.1),
        length-append (sketch_effects x.0) (bases x.1),
        effects_cut.whole x.0 fits.0,
        (cut_of x.0 fits.0).whole x.1 fits.1,
      );
  cut = λ bytes at x next end stands fits le lt. two_cut sketched_effects_codec effects_cut cut_of both_of bytes at x.0 x.1 next end stands fits.0 fits.1 le lt;
}

-- ---- operations

abbrev pub operation_of : ℕ → Origin → Sketches → SketchEntry
operation_of number o sketched = record { seq = number; origin = o; base = sketched.1; effects = sketched.0 }

module _ (number : ℕ) where
  abbrev Numbered : SketchEntry → Type 0
  Numbered e = (e.seq ≡ number) × OperationFits e

  pub operation_codec : IsCodec (operation_at number) operation Numbered
  unfolding operation_at
  operation_codec = record {
    found = λ bytes at x next fits le e.
        let r = found2 origin_codec (λ _ _. sketches_codec) (operation_of number) bytes at x next fits le e in
        subst (λ (y : SketchEntry). Stands bytes at (operation y) next × Numbered y) r.is
        (r.stands, (refl, record { origin_fits = r.first_fits; effects_fit = r.second_fits.0; based = r.second_fits.1 }));
    again = λ bytes at x next stands fits.
        subst (λ (n : ℕ). operation_at n bytes at ≡ Ok (x, next)) fits.0
        (again2 origin_codec (λ _ _. sketches_codec) (operation_of x.seq) bytes at x.origin (x.effects, x.base) next stands fits.1.origin_fits (fits.1.effects_fit, fits.1.based));
    fault = fault2 origin_codec (λ _ _. sketches_codec) (operation_of number);
  }

  pub operation_cut : IsCut (operation_at number) operation operation_fields Numbered
  unfolding operation_at
  operation_cut = record {
    whole = λ x fits.
        omega (
          arith,
          sum_both (origin_fields x.origin) (sketch_effects_fields x.effects ++ bases_fields x.base),
          length-append (origin x.origin) (sketch_effects x.effects ++ bases x.base),
          origin_cut.whole x.origin fits.1.origin_fits,
          sketches_cut.whole (x.effects, x.base) (fits.1.effects_fit, fits.1.based),
        );
    cut = λ bytes at x next end stands fits le lt.
        two_cut origin_codec origin_cut (λ _ _. sketches_cut) (operation_of number) bytes at x.origin (x.effects, x.base) next end stands fits.1.origin_fits (fits.1.effects_fit, fits.1.based) le lt;
  }

pub operation_is_bytes : (e : SketchEntry) → OperationFits e → IsBytes (operation e)
operation_is_bytes e fits =
    bytes_appended (origin e.origin) (sketch_effects e.effects ++ bases e.base) (origin_is_bytes e.origin fits.origin_fits)
    (bytes_appended (sketch_effects e.effects) (bases e.base) (sketch_effects_are_bytes e.effects fits.effects_fit) (bases_are_bytes (distinct (sketches_touch e.effects)) e.base fits.based))
