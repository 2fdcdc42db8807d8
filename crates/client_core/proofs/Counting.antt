-- How often the keeper failed.
use Rattle.std.proofs.Common.{◌≡◌, ◌∙◌, ℕ, Option, Some, None, Result, Ok, Err, refl, ap, arith}
use Rattle.outside.specs.Outside.{Rose, raised, RisesWhere, CountsFault}
use Rattle.outside.specs.declared.errors.KeepError.{KeepError}
use Rattle.outside.specs.declared.errors.KeepError.TheVariants as keepers
use Rattle.wire_frames.specs.declared.message.Message.{Message}
use Rattle.wire_frames.specs.declared.message.Message.TheVariants.{Accepted, Done, Stale, Unfit, Gap, Full}
use Rattle.client_core.specs.declared.syncing.SyncEnd.{SyncEnd}
use Rattle.client_core.specs.declared.syncing.SyncEnd.TheVariants as syncs
use Rattle.client_core.specs.declared.pulling.PullEnd.TheVariants as pulls
use Rattle.client_core.specs.Syncing.{end_by, unkept_end}
use Rattle.client_core.specs.Pulling.{pulled_end}

pub rose_once : (before now : ℕ) → now ≡ raised 1 before → Rose before now
rose_once before now is = omega (arith, is)

-- a count that did not rise
pub unrisen : (is : Type 0) (before now : ℕ) → (is → ⊥) → now ≡ before → RisesWhere is before now
unrisen is before now none same = record { later = omega (arith, same); once = λ here. absurd (none here); never = λ not. same }

-- the keeping of an acknowledgement was refused
pub unkept_rises : (e : KeepError) (before between now : ℕ) → between ≡ before → CountsFault {T = Unit {0}} keepers.Failed between now (Err e) → RisesWhere (unkept_end e ≡ syncs.KeepFault) before now
unkept_rises keepers.Failed before between now same counts =
    record { later = omega (arith, same, counts.later); once = λ here. counts.once refl ∙ ap (raised 1) same; never = λ not. absurd (not refl) }
unkept_rises keepers.Memory before between now same counts = unrisen (syncs.Memory ≡ syncs.KeepFault) before now (λ is. absurd (cc)) (counts.never (λ is. absurd (cc)) ∙ same)

-- no reply ends a sync as a failed keeping does
pub end_by_reply : (number : ℕ) (reply : Option Message) (end : SyncEnd) → Some end ≡ end_by number reply → end ≡ syncs.KeepFault → ⊥
end_by_reply number None end by is = absurd (cc)
end_by_reply number (Some (Accepted client seq upto)) end by is = absurd (cc)
end_by_reply number (Some (Done client seq)) end by is = absurd (cc)
end_by_reply number (Some (Stale client seq upto path theirs ours)) end by is = absurd (cc)
end_by_reply number (Some (Unfit client seq upto index fault)) end by is = absurd (cc)
end_by_reply number (Some (Full client seq upto index fault)) end by is = absurd (cc)
end_by_reply number (Some (Gap client seq last)) end by is = absurd (cc)
end_by_reply number (Some _) end by is = absurd (cc)

-- rows were taken, and the log was to be kept
pub pulled_rises : (count : ℕ) (r : Result (Unit {0}) KeepError) (before now : ℕ) → CountsFault keepers.Failed before now r → RisesWhere (pulled_end count r ≡ pulls.KeepFault) before now
pulled_rises count (Ok done) before now counts = unrisen (pulls.Pulled count ≡ pulls.KeepFault) before now (λ is. absurd (cc)) (counts.never (λ is. absurd (cc)))
pulled_rises count (Err keepers.Failed) before now counts = record { later = counts.later; once = λ here. counts.once refl; never = λ not. absurd (not refl) }
pulled_rises count (Err keepers.Memory) before now counts = unrisen (pulls.Memory ≡ pulls.KeepFault) before now (λ is. absurd (cc)) (counts.never (λ is. absurd (cc)))
