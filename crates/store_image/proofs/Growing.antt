-- The laws of effects that a tree takes while they are read.
use Rattle.std.proofs.Common.{◌≡◌, ℕ, ◌+◌, ◌≤◌, true, ◌&&◌, leb, List, [], ◌∷◌, ◌++◌, length, Result, Ok, Err, refl, sym, ap, ◌∙◌, arith, true≢false}
use Rattle.std.specs.Result.{is_ok}
use Rattle.std.specs.List.{sum_by, AllByRecursion}
use Rattle.std.proofs.lemmas.Bool.{leb-true, le-leb, and_parts}
use Rattle.std.proofs.lemmas.List.Sums.{sum_by-cons}
use Rattle.byte_fields.specs.Field.{EachFits}
use Rattle.byte_fields.specs.Codec.{IsCodec}
use Rattle.byte_fields.proofs.Codec.{u32_codec, ruled_codec, each_codec, counted_codec, codec_for}
use Rattle.tree_values.specs.declared.node.Effect.{Effect}
use Rattle.tree_values.specs.declared.node.TreeError.{TreeError}
use Rattle.tree_values.specs.Tree.{Volume, apply, changed}
use Rattle.tree_values.specs.Effects.{content_size, changed_all, apply_all, unless_refused_at}
use Rattle.tree_values.specs.Spelling.{effect, effects, IsEffectOf, EffectFits, EffectFitsOf, EffectsFit}
use Rattle.tree_laws.proofs.Parts.{effect_in_codec}
use Rattle.vol_tree.proofs.Behind.{applied-changed}
use Rattle.tree_values.specs.declared.format.Format.{Format}
use Rattle.tree_values.specs.declared.format.Format.TheVariants.{Second}
use Rattle.store_image.specs.Reading.{Growing, growing_effect_at, grown, applied_effects_at}

-- one more effect
pub changed_all-push : (es : List Effect) (e : Effect) (v : Volume) → changed_all (es ++ e ∷ []) v ≡ changed e (changed_all es v)
changed_all-push [] e v = refl
changed_all-push (first ∷ es) e v = changed_all-push es e (changed first v)

-- ---- each effect applies to the tree after those before it

is_applied : (r : Result Volume TreeError) → is_ok r ≡ true → (new : Volume) × (r ≡ Ok new)
is_applied (Ok new) h = (new, refl)
is_applied (Err refusal) h = absurd (true≢false (sym h))

-- an effect that applies leads to its change
applies : (e : Effect) (v : Volume) → is_ok (apply e v) ≡ true → apply e v ≡ Ok (changed e v)
applies e v h = let r = is_applied (apply e v) h in r.1 ∙ ap Ok (applied-changed e v r.0 r.1)

apply_first : (e : Effect) (es : List Effect) (v : Volume) (at : ℕ) → apply e v ≡ Ok (changed e v) → apply_all at (e ∷ es) v ≡ apply_all (at + 1) es (changed e v)
apply_first e es v at h = ap (λ r. unless_refused_at at r (apply_all (at + 1) es)) h

first_applies : (e : Effect) (es : List Effect) (v : Volume) (at : ℕ) (after : Volume) → apply_all at (e ∷ es) v ≡ Ok after → is_ok (apply e v) ≡ true
first_applies e es v at after = by (apply e v)
  where
    by : (r : Result Volume TreeError) → unless_refused_at at r (apply_all (at + 1) es) ≡ Ok after → is_ok r ≡ true
    by (Ok new) h = refl
    by (Err refusal) h = absurd cc

-- an effect that has room and applies
abbrev pub GrowingFits : Format → Growing → Effect → Type 0
GrowingFits format growing e = EffectFitsOf format growing.room e × (is_ok (apply e growing.tree) ≡ true)

pub growing_codec : (format : Format) (growing : Growing) → IsCodec (growing_effect_at format growing) effect (GrowingFits format growing)
unfolding growing_effect_at
growing_codec format growing = ruled_codec (λ e. is_ok (apply e growing.tree)) (effect_in_codec format growing.room)

-- effects that have room and apply, the first of which has this index
record AreTaken (format : Format) (at room : ℕ) (v : Volume) (es : List Effect) : Type 0 where
  each : AllByRecursion EffectFits es
  known : AllByRecursion (IsEffectOf format) es
  all_contents : sum_by content_size es ≤ room
  apply : apply_all at es v ≡ Ok (changed_all es v)

taken_found : (format : Format) (at : ℕ) (growing : Growing) (es : List Effect) → EachFits (GrowingFits format) grown growing es → AreTaken format at growing.room growing.tree es
taken_found format at growing [] fits = record { each = tt; known = tt; all_contents = omega arith; apply = refl }
taken_found format at growing (e ∷ es) fits =
    let rest = taken_found format (at + 1) (grown growing e) es fits.1 in
    record {
      each = (fits.0.0.0.0, rest.each);
      known = (fits.0.0.1, rest.known);
      all_contents = omega (arith, fits.0.0.0.1, rest.all_contents, sum_by-cons content_size e es);
      apply = apply_first e es growing.tree at (applies e growing.tree fits.0.1) ∙ rest.apply;
    }

pub taken_again : (format : Format) (at : ℕ) (growing : Growing) (es : List Effect) → AllByRecursion EffectFits es → AllByRecursion (IsEffectOf format) es → sum_by content_size es ≤ growing.room → apply_all at es growing.tree ≡ Ok (changed_all es growing.tree)
    → EachFits (GrowingFits format) grown growing es
taken_again format at growing [] each known room apply = tt
taken_again format at growing (e ∷ es) each known room apply =
    let sum = sum_by-cons content_size e es in
    let here = first_applies e es growing.tree at (changed_all (e ∷ es) growing.tree) apply in
    let later = sym (apply_first e es growing.tree at (applies e growing.tree here)) ∙ apply in
    ((((each.0, omega (arith, room, sum)), known.0), here), taken_again format (at + 1) (grown growing e) es each.1 known.1 (omega (arith, room, sum)) later)

-- the second format has all effects
pub all_known : (es : List Effect) → AllByRecursion (IsEffectOf Second) es
all_known [] = tt
all_known (e ∷ es) = (tt, all_known es)

-- effects that fit, that the format has, and that the tree takes
pub record EffectsApply (format : Format) (v : Volume) (es : List Effect) : Type 0 where
  pub fits : EffectsFit es
  pub known : AllByRecursion (IsEffectOf format) es
  pub applies : apply_all 0 es v ≡ Ok (changed_all es v)

abbrev pub start_of_entry : Volume → Growing
start_of_entry v = record { tree = v; room = 33554432 }

pub applied_effects_codec : (format : Format) (v : Volume) → IsCodec (applied_effects_at format v) effects (EffectsApply format v)
unfolding applied_effects_at
applied_effects_codec format v =
    codec_for (counted_codec length (ruled_codec (λ n. leb 1 n && leb n 4096) u32_codec) (λ n _. each_codec (growing_effect_at format) grown effect (GrowingFits format) (growing_codec format) n (start_of_entry v)) (λ n es fits. fits.0))
    (λ es fits.
    let b = and_parts (leb 1 (length es)) (leb (length es) 4096) fits.0.1 in
    let r = taken_found format 0 (start_of_entry v) es fits.1.1 in
    record { fits = record { some = leb-true 1 (length es) b.0; few = leb-true (length es) 4096 b.1; each = r.each; all_contents = r.all_contents }; known = r.known; applies = r.apply })
    (λ es is.
    ((omega (arith, is.fits.few), rw (le-leb 1 (length es) is.fits.some, le-leb (length es) 4096 is.fits.few) refl), (refl, taken_again format 0 (start_of_entry v) es is.fits.each is.known is.fits.all_contents is.applies)))
