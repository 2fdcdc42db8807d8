-- The first pending entry: it has the next number, and the store of its window may be sent.
use Rattle.std.proofs.Common.{Bool, ◌≡◌, ◌≢◌, inl, inr, ℕ, zero, suc, ◌+◌, ◌-◌, ◌<◌, ◌≤◌, List, [], ◌∷◌, length, Some, None, slice_get, refl, sym, ◌∙◌, ap, subst, arith}
use Rattle.std.proofs.lemmas.List.{length-drop}
use Rattle.tree_values.specs.Tree.{Volume}
use Rattle.tree_values.specs.Lists.{IsIn}
use Rattle.mod_log.specs.declared.log.Entry.{Entry}
use Rattle.mod_log.specs.Log.{Log, IsLog, AreEntriesOf, acknowledged}
use Rattle.wire_frames.specs.Frame.{IsValid}
use Rattle.world_rules.specs.InStep.{MaySend}
use Rattle.world_rules.proofs.Sending.{fronts_may, pending_valid}
use Rattle.client_core.specs.declared.route.Route.{Route}
use Rattle.client_core.specs.Syncing.{IsFirst, IsWindow, store_of, store_alone}

pub first_is : (pending : List Entry) (entry : Entry) → Some entry ≡ slice_get pending 0 → IsFirst entry pending
first_is [] entry is = absurd (cc)
first_is (first ∷ entries) entry is = cc

pub none_is : (pending : List Entry) → None ≡ slice_get pending 0 → pending ≡ []
none_is [] is = refl
none_is (first ∷ entries) is = absurd (cc)

-- where there is a first entry, some entry is pending
pub first_pending : (pending : List Entry) (entry : Entry) → IsFirst entry pending → 1 ≤ length pending
first_pending [] entry first = absurd first
first_pending (next ∷ entries) entry first = omega arith

pub first_some : (pending : List Entry) (entry : Entry) → IsFirst entry pending → pending ≢ []
first_some [] entry first = absurd first
first_some (e ∷ entries) entry first = λ none. absurd (cc)

numbered : (number : ℕ) (base : Volume) (pending : List Entry) (entry : Entry) → AreEntriesOf number base pending → IsFirst entry pending → entry.seq ≡ number
numbered number base [] entry are first = absurd first
numbered number base (e ∷ entries) entry are first = ap (λ (x : Entry). x.seq) (sym first) ∙ are.0.numbered

pub first_in : (pending : List Entry) (entry : Entry) → IsFirst entry pending → IsIn entry pending
first_in [] entry first = absurd first
first_in (e ∷ entries) entry first = inl (sym first)

pub first_number : (log : Log) (entry : Entry) → IsLog log → IsFirst entry log.pending → entry.seq ≡ log.acked + 1
first_number log entry is first = numbered (log.acked + 1) log.base log.pending entry is.entries first

-- ---- what may be sent

pub may_send : (client : ℕ) (ships : Bool) (route : Route) (log : Log) (entry : Entry) (chosen : List Entry) → IsLog log → IsFirst entry log.pending → IsWindow client route log.pending chosen
    → MaySend client ships log (store_of client entry.seq chosen)
may_send client ships route log entry chosen is first window =
    subst (λ (number : ℕ). MaySend client ships log (store_of client number chosen)) (sym (first_number log entry is first)) (fronts_may client ships log chosen window.left is window.front window.fits.storable)

-- the store of the first entry alone is valid
pub store_valid : (client : ℕ) (log : Log) (entry : Entry) → 1 ≤ client → client ≤ 64 → IsLog log → IsFirst entry log.pending → IsValid (store_alone client entry)
store_valid client log entry low high is first = pending_valid client low high log entry is (first_in log.pending entry first)

-- what stands at a place is pending, and its store is valid
pub got_in : (pending : List Entry) (i : ℕ) (entry : Entry) → Some entry ≡ slice_get pending i → IsIn entry pending
got_in [] i entry is = absurd (cc is)
got_in (first ∷ entries) zero entry is = let same : entry ≡ first = cc is in inl same
got_in (first ∷ entries) (suc i) entry is = inr (got_in entries i entry is)

pub pending_store : (client : ℕ) (log : Log) (entry : Entry) → 1 ≤ client → client ≤ 64 → IsLog log → IsIn entry log.pending → IsValid (store_alone client entry)
pending_store client log entry low high is among = pending_valid client low high log entry is among

-- ---- once some are acknowledged

-- fewer are pending
pub shorter : (log next : Log) (upto : ℕ) → log.acked < upto → 1 ≤ length log.pending → next ≡ acknowledged upto log → length next.pending < length log.pending
shorter log next upto more some new = omega (arith, ap (λ (l : Log). length l.pending) new, length-drop (upto - log.acked) log.pending)

-- one is left
pub some_left : (log : Log) (upto : ℕ) → log.acked ≤ upto → upto < log.acked + length log.pending → (acknowledged upto log).pending ≢ []
some_left log upto low high none = absurd (omega (arith, ap (λ (entries : List Entry). length entries) none, length-drop (upto - log.acked) log.pending))
