-- Bytes that end inside an entry or inside sketched effects: the field in which they end is the faulty one.
use Rattle.std.proofs.Common.{◌≡◌, ℕ, ◌+◌, ◌-◌, ◌^◌, ◌<◌, ◌≤◌, ◌&&◌, leb, List, [], ◌∷◌, ◌++◌, length, take, Err, refl, subst, arith, lit<, length-append}
use Rattle.std.specs.Prelude.{sum}
use Rattle.std.proofs.lemmas.Bool.{le-leb}
use Rattle.byte_fields.specs.Codec.{Stands}
use Rattle.byte_fields.specs.Cuts.{start_of, IsCut}
use Rattle.byte_fields.proofs.Codec.{u32_codec, ruled_codec, stands_second}
use Rattle.byte_fields.proofs.Facts.{sum_more}
use Rattle.byte_fields.proofs.Cutting.{sum_both, u32_cut, ruled_cut, cut_for, one_cut, two_cut, three_cut, tagged_cut, each_cut, counted_cut}
use Rattle.rs_parity.specs.Spelling.{sketch_spelling}
use Rattle.rs_parity.specs.Fields.{sketch_fields}
use Rattle.rs_parity.proofs.Cut.{sketch_cut}
use Rattle.tree_values.specs.Effects.{touched_all, distinct}
use Rattle.file_paths.specs.Spelling.{path}
use Rattle.tree_values.specs.Spelling.{bit, effects, bases, EffectsFit, AreBasesOf}
use Rattle.file_paths.specs.Fields.{path_fields}
use Rattle.tree_values.specs.Fields.{effects_fields, bases_fields}
use Rattle.tree_values.specs.Reading.{bases_at}
use Rattle.tree_values.proofs.Sizes.{mode_length}
use Rattle.tree_values.specs.declared.node.Effect.{Effect}
use Rattle.file_paths.proofs.Parts.{path_codec, path_cut}
use Rattle.tree_laws.proofs.Parts.{effects_codec}
use Rattle.tree_laws.proofs.CutParts.{effects_cut, bases_cut, bit_cut}
use Rattle.tree_laws.proofs.Few.{touched_few}
use Rattle.mod_log.specs.declared.log.Entry.{Entry}
use Rattle.mod_log.specs.declared.sketched.SketchEffect.{SketchEffect}
use Rattle.mod_log.specs.declared.sketched.SketchEffect.TheVariants.{Make, Put, Remove, Move, Mode}
use Rattle.mod_log.specs.Origin.{made_by}
use Rattle.mod_log.specs.Log.{entry}
use Rattle.mod_log.specs.Spelling.{sketch_effect, sketch_effects, SketchEffectFitsIn, SketchEffectsFitWithin}
use Rattle.mod_log.specs.Reading.{entry_at, EntryFits, sketch_effect_kinds, sketch_effect_at, sketch_room_after, sketch_effects_within}
use Rattle.mod_log.specs.Fields.{made_by_fields, entry_fields, sketch_effect_fields, sketch_effects_fields}
use Rattle.mod_log.proofs.Origins.{made_by_codec, made_by_cut}
use Rattle.mod_log.proofs.Codec.{in_room, sketch_effect_codec, rooms_again}

-- ---- entries

bases_of_cut : (es : List Effect) → EffectsFit es → IsCut (bases_at (distinct (touched_all es))) bases bases_fields (AreBasesOf (distinct (touched_all es)))
bases_of_cut es fits = bases_cut (distinct (touched_all es)) (touched_few es fits)

entry_ends : (bytes : List ℕ) (at : ℕ) (x : Entry) (next end : ℕ) → Stands bytes at (entry x) next → EntryFits x.seq x → at ≤ end → end < next → entry_at x.seq (take end bytes) at ≡ Err (at + start_of (end - at) (entry_fields x))
unfolding entry_at
entry_ends bytes at x next end stands fits le lt =
    three_cut made_by_codec made_by_cut (λ _ _. effects_codec) (λ _ _. effects_cut) (λ _ es _ f. bases_of_cut es f) (λ o es bs. record { seq = x.seq; origin = o; effects = es; base = bs }) bytes at x.origin x.effects x.base next end stands
    fits.origin_fits fits.fits fits.based le lt

pub entry_cut : (number : ℕ) → IsCut (entry_at number) entry entry_fields (EntryFits number)
entry_cut number = record {
  whole = λ x fits.
      omega (
        arith,
        sum_both (made_by_fields x.origin) (effects_fields x.effects ++ bases_fields x.base),
        sum_both (effects_fields x.effects) (bases_fields x.base),
        length-append (made_by x.origin) (effects x.effects ++ bases x.base),
        length-append (effects x.effects) (bases x.base),
        made_by_cut.whole x.origin fits.origin_fits,
        effects_cut.whole x.effects fits.fits,
        (bases_of_cut x.effects fits.fits).whole x.base fits.based,
      );
  cut = λ bytes at x next end stands fits le lt.
      subst (λ (n : ℕ). entry_at n (take end bytes) at ≡ Err (at + start_of (end - at) (entry_fields x))) fits.numbered
      (entry_ends bytes at x next end stands (record { numbered = refl; origin_fits = fits.origin_fits; fits = fits.fits; based = fits.based }) le lt);
}

-- ---- sketched effects

module _ (room : ℕ) where
  effect_whole : (x : SketchEffect) → SketchEffectFitsIn room x → sum (sketch_effect_fields x) ≡ length (sketch_effect x)
  effect_whole (Make p) fits = omega (arith, sum_more 1 (path_fields p), path_cut.whole p fits.0)
  effect_whole (Put p s) fits =
      omega (arith, sum_more 1 (path_fields p ++ sketch_fields s), sum_both (path_fields p) (sketch_fields s), length-append (path p) (sketch_spelling s), path_cut.whole p fits.0.0, (sketch_cut room).whole s (in_room room s fits.0.1 fits.1))
  effect_whole (Remove p) fits = omega (arith, sum_more 1 (path_fields p), path_cut.whole p fits.0)
  effect_whole (Move p q) fits =
      omega (arith, sum_more 1 (path_fields p ++ path_fields q), sum_both (path_fields p) (path_fields q), length-append (path p) (path q), path_cut.whole p fits.0.0, path_cut.whole q fits.0.1)
  effect_whole (Mode p exec) fits =
      omega (arith, sum_more 1 (path_fields p ++ 1 ∷ []), sum_both (path_fields p) (1 ∷ []), sum_more 1 [], mode_length p exec, path_cut.whole p fits.0)

  effect_ends : (bytes : List ℕ) (at : ℕ) (x : SketchEffect) (next end : ℕ) → Stands bytes at (sketch_effect x) next → SketchEffectFitsIn room x → at ≤ end → end < next
      → sketch_effect_at room (take end bytes) at ≡ Err (at + start_of (end - at) (sketch_effect_fields x))
  unfolding sketch_effect_at
  effect_ends bytes at (Make p) next end stands fits le lt =
      tagged_cut (sketch_effect_kinds room) 1 (lit< tt) bytes at (path p) next end (path_fields p) stands le (λ ge. one_cut path_cut Make bytes (at + 1) p next end (stands_second bytes at (1 ∷ []) (path p) next stands) fits.0 ge lt)
  effect_ends bytes at (Put p s) next end stands fits le lt =
      tagged_cut (sketch_effect_kinds room) 2 (lit< tt) bytes at (path p ++ sketch_spelling s) next end (path_fields p ++ sketch_fields s) stands le
      (λ ge. two_cut path_codec path_cut (λ _ _. sketch_cut room) Put bytes (at + 1) p s next end (stands_second bytes at (2 ∷ []) (path p ++ sketch_spelling s) next stands) fits.0.0 (in_room room s fits.0.1 fits.1) ge lt)
  effect_ends bytes at (Remove p) next end stands fits le lt =
      tagged_cut (sketch_effect_kinds room) 3 (lit< tt) bytes at (path p) next end (path_fields p) stands le (λ ge. one_cut path_cut Remove bytes (at + 1) p next end (stands_second bytes at (3 ∷ []) (path p) next stands) fits.0 ge lt)
  effect_ends bytes at (Move p q) next end stands fits le lt =
      tagged_cut (sketch_effect_kinds room) 4 (lit< tt) bytes at (path p ++ path q) next end (path_fields p ++ path_fields q) stands le
      (λ ge. two_cut path_codec path_cut (λ _ _. path_cut) Move bytes (at + 1) p q next end (stands_second bytes at (4 ∷ []) (path p ++ path q) next stands) fits.0.0 fits.0.1 ge lt)
  effect_ends bytes at (Mode p exec) next end stands fits le lt =
      tagged_cut (sketch_effect_kinds room) 5 (lit< tt) bytes at (path p ++ bit exec) next end (path_fields p ++ 1 ∷ []) stands le
      (λ ge. two_cut path_codec path_cut (λ _ _. bit_cut) Mode bytes (at + 1) p exec next end (stands_second bytes at (5 ∷ []) (path p ++ bit exec) next stands) fits.0 tt ge lt)

  pub sketch_effect_cut : IsCut (sketch_effect_at room) sketch_effect sketch_effect_fields (SketchEffectFitsIn room)
  sketch_effect_cut = record { whole = effect_whole; cut = effect_ends }

pub sketch_effects_cut : (most room : ℕ) → most < 2 ^ 32 → IsCut (sketch_effects_within most room) sketch_effects sketch_effects_fields (SketchEffectsFitWithin most room)
unfolding sketch_effects_within
sketch_effects_cut most room lt =
    cut_for (counted_cut length (ruled_codec (λ n. leb 1 n && leb n most) u32_codec) (ruled_cut u32_cut (λ n. leb 1 n && leb n most)) (λ n _. each_cut sketch_effect_at sketch_room_after sketch_effect sketch_effect_fields SketchEffectFitsIn sketch_effect_codec sketch_effect_cut n room))
    (λ es fits. ((omega (arith, fits.few, lt), rw (le-leb 1 (length es) fits.some, le-leb (length es) most fits.few) refl), (refl, rooms_again room es fits.each fits.all_contents)))
