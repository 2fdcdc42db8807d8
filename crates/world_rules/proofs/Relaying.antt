-- What a surrogate may send fits a log in step, where no content of the log's entries is taken for another.
use Rattle.std.proofs.Common.{◌≡◌, inl, ℕ, ◌≤◌, List, [], ◌∷◌, ◌++◌, Some, refl, sym, ◌∙◌, subst, arith}
use Rattle.std.specs.Prelude.{IsSome, Option}
use Rattle.tree_values.specs.Tree.{Volume}
use Rattle.tree_values.specs.Lists.{IsIn}
use Rattle.tree_values.specs.declared.node.Effect.{Effect}
use Rattle.tree_values.specs.declared.node.Base.{Base}
use Rattle.vol_tree.proofs.Behind.{IsIn-left}
use Rattle.mod_log.specs.declared.origin.Origin.{Origin}
use Rattle.mod_log.specs.declared.sketching.SketchEntry.{SketchEntry}
use Rattle.mod_log.specs.Log.{Log}
use Rattle.mod_log.specs.Sketched.{AllFill}
use Rattle.mod_log.proofs.Sketches.{fillings_are_equal}
use Rattle.wire_frames.specs.declared.message.Message.{Message}
use Rattle.wire_frames.specs.declared.message.Message.TheVariants.{Store, Operate, Pull, Accepted, Stale, Unfit, Done, Declined, Full}
use Rattle.byte_fields.proofs.Facts.{le_of}
use Rattle.wire_frames.specs.Parts.{part_of}
use Rattle.wire_frames.specs.Frame.{client_of, IsValid}
use Rattle.world_rules.specs.World.{IsLicensed}
use Rattle.world_rules.specs.InStep.{IsFitting, IsSketchPending, IsPendingAt, ArePendingAbove, IsRefusal, HasNoCollision}
use Rattle.world_rules.proofs.Asks.{IsIn-last}

-- ---- a message that a surrogate may send

is_some : (origin : Option Origin) (made : Origin) → origin ≡ Some made → IsSome origin
is_some origin made is = subst IsSome (sym is) refl

store_of_entry : (client : ℕ) (log : Log) (number : ℕ) (packets : List Message) (sketched : SketchEntry) (effects : List Effect) (base : List Base)
    → IsSketchPending log sketched → number ≡ sketched.seq → base ≡ sketched.base → AllFill sketched.effects effects → IsIn (Operate client sketched) packets
    → HasNoCollision client log.pending (packets ++ Store client number (part_of effects base ∷ []) ∷ []) → IsPendingAt log number effects base
store_of_entry client log number packets sketched effects base pending numbered based fills among none =
    let store = Store client number (part_of effects base ∷ []) in
    let entry = pending.0 in
    let sketch = pending.2 in (
      entry,
      pending.1,
      sym (numbered ∙ sketch.numbered),
      fillings_are_equal entry.effects effects sketched.effects sketch.effects_are fills
          (λ x y writes others same. none sketched (IsIn-left (Operate client sketched) packets (store ∷ []) among) x y
          (entry, pending.1, is_some entry.origin sketched.origin sketch.made_by, writes)
          (store, IsIn-last store packets, (refl, part_of effects base, inl refl, others)) same),
      based ∙ sketch.based,
    )

pub relay_fits : (client : ℕ) (log : Log) (last : ℕ) (volume : Volume) (packets : List Message) (message : Message) → log.acked ≤ last
    → ((other : Message) → IsIn other packets → client_of other ≡ client → IsFitting log last volume other) → ((other : Message) → IsIn other packets → IsValid other) → IsLicensed client packets message
    → HasNoCollision client log.pending (packets ++ message ∷ []) → IsFitting log last volume message
relay_fits client log last volume packets (Store of number parts) low fitting valid may none =
    let sketched = may.1.0 in
    let holds = may.1.2 in
    let effects = holds.1.0 in
    let fits = fitting (Operate client sketched) may.1.1 refl in
    let apart : HasNoCollision client log.pending (packets ++ Store client number (part_of effects sketched.base ∷ []) ∷ []) =
    subst (λ ps. HasNoCollision client log.pending (packets ++ Store client number ps ∷ [])) holds.1.1
    (subst (λ c. HasNoCollision client log.pending (packets ++ Store c number parts ∷ [])) may.0 none) in (
      record { at_most_next = omega (arith, holds.0, fits.0.at_most_next); at_most_logged = omega (arith, holds.0, fits.0.at_most_logged) },
      subst (ArePendingAbove log last number) (sym holds.1.1)
          (λ above. store_of_entry client log number packets sketched effects sketched.base (fits.1 (omega (arith, holds.0, above))) holds.0 refl holds.1.2 may.1.1 apart, tt),
    )
relay_fits client log last volume packets (Pull of number) low fitting valid may none =
    let fits = fitting (Operate client may.1.0) may.1.1 refl in omega (arith, may.1.2, fits.0.at_most_next, low)
relay_fits client log last volume packets (Declined of number cause) low fitting valid may none = tt
relay_fits client log last volume packets (Done of number) low fitting valid may none =
    let upto = may.2.0 in
    let told = le_of number upto (valid (Accepted client number upto) may.2.1).body_fits.1 in
    omega (arith, told, fitting (Accepted client number upto) may.2.1 refl)
relay_fits client log last volume packets _ low fitting valid may none = absurd may

-- it refuses nothing, and is no operation
pub relay_refuses_none : (client number : ℕ) (packets : List Message) (message : Message) → IsLicensed client packets message → IsRefusal client number message → ⊥
relay_refuses_none client number packets (Stale of stored upto path theirs ours) may is = may
relay_refuses_none client number packets (Unfit of stored upto index fault) may is = may
relay_refuses_none client number packets (Full of stored upto index fault) may is = may
relay_refuses_none client number packets _ may is = is
