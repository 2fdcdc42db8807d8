-- Some of the pending entries, from the first on, are acknowledged.
use Rattle.std.proofs.Common.{◌≡◌, inl, inr, ⊎_elim, ℕ, zero, suc, ◌+◌, ◌-◌, ◌<◌, ◌≤◌, List, [], ◌∷◌, ◌++◌, length, drop, Option, Some, None, refl, sym, ◌∙◌, ap, subst, arith, length-drop}
use Rattle.std.proofs.lemmas.Bool.{cases_lt}
use Rattle.mod_log.specs.Log.{Log, tree_at, acknowledged}
use Rattle.world_rules.specs.declared.asking.Ask.{Ask}
use Rattle.world_rules.proofs.Next.{drop_twice, tree_at-acknowledged}
use Rattle.client_core.specs.declared.route.Route.{Route}
use Rattle.client_core.specs.declared.syncing.SyncEnd.{SyncEnd}
use Rattle.client_core.specs.Trace.{Trace, last_log}
use Rattle.client_core.specs.Syncing.{taken_upto, EntryTurn, Acknowledges, acknowledging, EndsSync, BreaksTurn, SyncEnds}
use Rattle.client_core.specs.Causes.{AcknowledgesSome, AcknowledgesMore}
use Rattle.client_core.proofs.Firsts.{first_pending}
use Rattle.client_core.proofs.Going.{acknowledged_same, acknowledging_some, acknowledging_none, last_log-append}
use Rattle.client_core.proofs.Ships.{ships_reply, told_upto, goes_on}

-- first up to one number, and then up to a later one
acknowledged_twice : (log : Log) (n m : ℕ) → log.acked ≤ n → n ≤ m → acknowledged m (acknowledged n log) ≡ acknowledged m log
acknowledged_twice log n m low high =
    let base : tree_at m (acknowledged n log) ≡ tree_at m log = tree_at-acknowledged log n m low high in
    let sum : (n - log.acked) + (m - n) ≡ m - log.acked = omega (arith, low, high) in
    let pending : drop (m - n) (drop (n - log.acked) log.pending) ≡ drop (m - log.acked) log.pending = drop_twice (n - log.acked) (m - n) log.pending ∙ ap (λ k. drop k log.pending) sum in
    λ i. record { acked = m; base = base i; pending = pending i }

-- none yet
pub some_none : (log : Log) → AcknowledgesSome log log
some_none log = (log.acked, omega arith, omega arith, sym (acknowledged_same log log.acked refl))

pub some_then : (a b c : Log) → AcknowledgesSome a b → AcknowledgesSome b c → AcknowledgesSome a c
some_then a b c first second =
    let n = first.0 in
    let m = second.0 in
    let acked : b.acked ≡ n = ap (λ (l : Log). l.acked) first.3 in
    let left : length b.pending ≡ length (drop (n - a.acked) a.pending) = ap (λ (l : Log). length l.pending) first.3 in
    let count = length-drop (n - a.acked) a.pending in
    (m, omega (arith, first.1, second.1, acked), omega (arith, first.1, first.2, second.2, acked, left, count), second.3 ∙ ap (acknowledged m) first.3 ∙ acknowledged_twice a n m first.1 (omega (arith, second.1, acked)))

-- ---- one change after the other

pub some_all : (before : Log) (changes : List Log) → AcknowledgesMore before changes → AcknowledgesSome before (last_log before changes)
some_all before [] more = some_none before
some_all before (change ∷ changes) more = some_then before change (last_log change changes) more.0 (some_all change changes more.2)

pub more_then : (before : Log) (xs ys : List Log) → AcknowledgesMore before xs → AcknowledgesMore (last_log before xs) ys → AcknowledgesMore before (xs ++ ys)
more_then before [] ys first second = second
more_then before (x ∷ xs) ys first second = (first.0, first.1, more_then x xs ys first.2 second)

-- what a last turn changes
acknowledging_more : (before after : Log) → AcknowledgesSome before after → AcknowledgesMore before (acknowledging before after).changes
acknowledging_more before after some = ⊎_elim rose same (cases_lt before.acked after.acked)
  where
    rose : before.acked < after.acked → AcknowledgesMore before (acknowledging before after).changes
    rose more = subst (λ (t : Trace). AcknowledgesMore before t.changes) (sym (acknowledging_some before after more)) (some, more, tt)

    same : after.acked ≤ before.acked → AcknowledgesMore before (acknowledging before after).changes
    same low =
        let acked : after.acked ≡ some.0 = ap (λ (l : Log). l.acked) some.3 in
        subst (λ (t : Trace). AcknowledgesMore before t.changes) (sym (acknowledging_none before after (omega (arith, low, acked, some.1)))) tt

-- ---- turns

module _ (client : ℕ) (route : Route) where
  -- what a turn acknowledges
  pub turn_some : (before after : Log) (end : Option SyncEnd) (asks : List Ask) → EntryTurn client route before after end asks → AcknowledgesSome before after
  turn_some before after end asks turn =
      let told = told_upto client route before.pending turn.entry before.acked turn.number turn.came (first_pending before.pending turn.entry turn.first)
      (ships_reply client route before.pending turn.entry turn.came asks turn.ships) in
      (taken_upto before.acked turn.came, told.0, told.1, turn.after_is)

  -- one after which the sync goes on acknowledges more
  pub turn_rises : (before after : Log) (asks : List Ask) → EntryTurn client route before after None asks → before.acked < after.acked
  turn_rises before after asks turn =
      let on = goes_on client route before.pending turn.entry before.acked turn.number (after.acked + 1) turn.came (sym turn.end_is)
      (ships_reply client route before.pending turn.entry turn.came asks turn.ships) in
      omega (arith, on.2, ap (λ (l : Log). l.acked) turn.after_is)

  record Acked (before after : Log) (changes : List Log) : Type 0 where
    more : AcknowledgesMore before changes
    last : after ≡ last_log before changes

  acks_more : (count : ℕ) (before after : Log) (trace : Trace) → Acknowledges client route count before after trace → Acked before after trace.changes
  acks_more zero before after trace so =
      subst (λ (t : Trace). Acked before after t.changes) (sym so.1) (record { more = tt; last = so.0 })
  acks_more (suc count) before after trace so =
      let middle = so.0 in
      let front = acks_more count before middle so.1 so.3 in
      let some = turn_some middle after None so.2 so.4 in
      let rises = turn_rises middle after so.2 so.4 in
      subst (λ (t : Trace). Acked before after t.changes) (sym so.5)
      (record {
        more = more_then before so.1.changes (after ∷ []) front.more (subst (λ (l : Log). AcknowledgesMore l (after ∷ [])) front.last (some, rises, tt));
        last = sym (last_log-append before so.1.changes (after ∷ []));
      })

  module _ (before : Log) where
    last_more : (count : ℕ) (middle : Log) (earlier last trace : Trace) → Acknowledges client route count before middle earlier → AcknowledgesMore middle last.changes → trace.changes ≡ earlier.changes ++ last.changes
        → AcknowledgesMore before trace.changes
    last_more count middle earlier last trace so more is =
        let front = acks_more count before middle earlier so in
        subst (AcknowledgesMore before) (sym is) (more_then before earlier.changes last.changes front.more (subst (λ (l : Log). AcknowledgesMore l last.changes) front.last more))

    ending_more : (middle after : Log) (end : SyncEnd) (last : Trace) → EndsSync client route middle end after last → AcknowledgesMore middle last.changes
    ending_more middle after end last (inl synced) = subst (λ (t : Trace). AcknowledgesMore middle t.changes) (sym synced.3) tt
    ending_more middle after end last (inr turn) =
        subst (λ (t : Trace). AcknowledgesMore middle t.changes) (sym turn.2) (acknowledging_more middle after (turn_some middle after (Some end) turn.0 turn.1))

    breaking_more : (middle after : Log) (last : Trace) → BreaksTurn client route middle after last → AcknowledgesMore middle last.changes
    breaking_more middle after last (inl none) = subst (λ (t : Trace). AcknowledgesMore middle t.changes) (sym none.1) tt
    breaking_more middle after last (inr (inl asked)) = subst (λ (t : Trace). AcknowledgesMore middle t.changes) (sym asked.1.4) tt
    breaking_more middle after last (inr (inr turn)) =
        subst (λ (t : Trace). AcknowledgesMore middle t.changes) (sym turn.4) (turn_some middle after (Some turn.0) turn.1 turn.2, turn.3, tt)

    -- what a whole sync acknowledges
    pub sync_more : (after kept : Log) (end : SyncEnd) (trace : Trace) → SyncEnds client route before end after kept trace → AcknowledgesMore before trace.changes
    sync_more after kept end trace (inl whole) =
        let turn = whole.0 in
        last_more turn.0 turn.1 turn.2 turn.3 trace turn.4 (ending_more turn.1 after end turn.3 turn.5) (ap (λ (t : Trace). t.changes) turn.6)
    sync_more after kept end trace (inr broken) =
        let turn = broken.1 in
        last_more turn.0 turn.1 turn.2 turn.3 trace turn.4 (breaking_more turn.1 after turn.3 turn.5) (ap (λ (t : Trace). t.changes) turn.6)
