-- At most one end is due before the pull.
use Rattle.std.proofs.Common.{◌≡◌, ℕ, List, Option, None, Some, Err, refl, sym, ◌∙◌, ap}
use Rattle.outside.specs.Keeper.{Images}
use Rattle.tree_values.specs.declared.node.Effect.{Effect}
use Rattle.mod_log.specs.Log.{Log}
use Rattle.store_image.specs.Image.{Keeps}
use Rattle.store_image.proofs.Keeping.{client_once}
use Rattle.client_shelf.specs.declared.ends.Ending.{Ending}
use Rattle.client_shelf.specs.declared.ends.Ending.TheVariants as ends
use Rattle.client_shelf.specs.Shelving.{Shelving, IsAbsent, IsStored, IsStoredOther, IsUnused, IsUsed, planned, Plans}
use Rattle.client_shelf.specs.Ending.{IsDue}
use Rattle.client_shelf.specs.Laws.{OneEndIsDue}

-- what is kept under a name is kept for one log of a client
pub keeps_once : (found : Option (List ℕ)) (client : ℕ) (log other : Log) → Keeps found client log → Keeps found client other → log ≡ other
keeps_once None client log other is also = is ∙ sym also
keeps_once (Some bytes) client log other is also = (client_once client client log other bytes is also).1

module _ (asked : Shelving) (i : Images) where
  -- the logs of both clients are found, and this end is due by them
  record IsPlanned (ending : Ending) : Type 0 where
    stuck : Log
    start : Log
    stored : IsStored (Some i) asked.image asked.client stuck
    kept : Keeps (i asked.new_image) asked.new_client start
    unused : IsUnused start
    is : planned asked.folder stuck.pending ≡ Err ending

  -- the first two ends, or one of the others
  data Due (ending : Ending) : Type 0 where
    Absent : ending ≡ ends.NoImage → IsAbsent (Some i) asked.image → Due ending
    Used : ending ≡ ends.NewImage → (stuck : Log) → IsStored (Some i) asked.image asked.client stuck → IsUsed (Some i) asked.new_image asked.new_client → Due ending
    Planned : IsPlanned ending → Due ending

  planned_by_due : (ending : Ending) (stuck start : Log) → IsStored (Some i) asked.image asked.client stuck → Keeps (i asked.new_image) asked.new_client start → IsUnused start
      → planned asked.folder stuck.pending ≡ Err ending → Due ending
  planned_by_due ending stuck start stored kept unused is = Planned (record { stuck = stuck; start = start; stored = stored; kept = kept; unused = unused; is = is })

  due : (ending : Ending) → IsDue asked (Some i) ending → Due ending
  due ends.NoImage is = Absent refl is
  due ends.NewImage is = Used refl is.0 is.1 is.2
  due (ends.BadFolder fault) is = planned_by_due (ends.BadFolder fault) is.0 is.1 is.2 is.3 is.4 is.5
  due ends.NothingPending is = planned_by_due ends.NothingPending is.0 is.1 is.2 is.3 is.4 is.5
  due (ends.BadPlace fault) is = planned_by_due (ends.BadPlace fault) is.0 is.1 is.2 is.3 is.4 is.5
  due ends.Unanswered is = planned_by_due ends.Unanswered is.0 is.1 is.2 is.3 is.4 is.5
  due (ends.OtherLast last) is = planned_by_due (ends.OtherLast last) is.0 is.1 is.2 is.3 is.4 is.5
  due (ends.Older path theirs ours) is = planned_by_due (ends.Older path theirs ours) is.0 is.1 is.2 is.3 is.4 is.5
  due (ends.Unlogged refusal) is = planned_by_due (ends.Unlogged refusal) is.0 is.1 is.2 is.3 is.4 is.5
  due (ends.Shelved entries names) is = planned_by_due (ends.Shelved entries names) is.0 is.1 is.2 is.3 is.4 is.5

  stuck_once : (log other : Log) → IsStored (Some i) asked.image asked.client log → IsStored (Some i) asked.image asked.client other → log ≡ other
  stuck_once log other is also = keeps_once (i asked.image) asked.client log other is.1 also.1

  planned_one : (first second : Ending) → IsPlanned first → IsPlanned second → first ≡ second
  planned_one first second p q =
      let same = sym p.is ∙ ap (λ (log : Log). planned asked.folder log.pending) (stuck_once p.stuck q.stuck p.stored q.stored) ∙ q.is in cc

  one : (first second : Ending) → Due first → Due second → first ≡ second
  one first second (Absent is none) (Absent also other) = is ∙ sym also
  one first second (Absent is none) (Used also stuck stored used) = absurd (stored.0 none)
  one first second (Absent is none) (Planned p) = absurd (p.stored.0 none)
  one first second (Used is stuck stored used) (Absent also none) = absurd (stored.0 none)
  one first second (Used is stuck stored used) (Used also other stands taken) = is ∙ sym also
  one first second (Used is stuck stored used) (Planned p) = absurd (used p.start p.kept p.unused)
  one first second (Planned p) (Absent also none) = absurd (p.stored.0 none)
  one first second (Planned p) (Used also stuck stored used) = absurd (used p.start p.kept p.unused)
  one first second (Planned p) (Planned q) = planned_one first second p q

  not_other : (ending : Ending) → IsStoredOther (Some i) asked.image asked.client → Due ending → ⊥
  not_other ending other (Absent is none) = other.0 none
  not_other ending other (Used is stuck stored used) = other.1 stuck stored.1
  not_other ending other (Planned p) = other.1 p.stuck p.stored.1

  module _ (stuck start : Log) (lists : List (List Effect)) (plans : Plans asked (Some i) stuck start lists) where
    not_planned : (ending : Ending) → Due ending → ⊥
    not_planned ending (Absent is none) = plans.stuck_is.0 none
    not_planned ending (Used is other stored used) = used start plans.start_is plans.unused
    not_planned ending (Planned p) =
        let same = sym p.is ∙ ap (λ (log : Log). planned asked.folder log.pending) (stuck_once p.stuck stuck p.stored plans.stuck_is) ∙ plans.planned_so in absurd (cc)

pub one_end_is_due : OneEndIsDue
one_end_is_due = record {
  one = λ asked i first second p q. one asked i first second (due asked i first p) (due asked i second q);
  not_other = λ asked i ending other p. not_other asked i ending other (due asked i ending p);
  not_planned = λ asked i ending stuck start lists plans p. not_planned asked i stuck start lists plans ending (due asked i ending p);
  planned_once = λ asked i stuck start lists plans other. other.1 stuck plans.stuck_is.1;
}
