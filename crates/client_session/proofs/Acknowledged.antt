-- What the turns of a sync acknowledge, and what holds of all they do.
use Rattle.std.proofs.Common.{◌≡◌, inl, inr, ℕ, zero, suc, ◌<◌, ◌≤◌, Bool, true, false, nat_lt, if◌then◌else◌, List, [], Option, None, Some, refl, sym, ◌∙◌, ap, subst, arith}
use Rattle.std.proofs.lemmas.Bool.Decides.{nat_tests}
use Rattle.mod_log.specs.declared.log.Entry.{Entry}
use Rattle.mod_log.specs.Log.{Log}
use Rattle.wire_frames.specs.declared.message.Message.{Message}
use Rattle.world_rules.specs.declared.asking.Ask.{Ask}
use Rattle.client_core.specs.declared.route.Route.{Route}
use Rattle.client_core.specs.declared.syncing.SyncEnd.{SyncEnd}
use Rattle.client_core.specs.Trace.{Trace, nothing, followed, asking, changing}
use Rattle.client_core.specs.Syncing.{Ships, BreaksShipping, EntryTurn, Acknowledges, acknowledging, EndsSync, SyncTurn, BreaksTurn, BreaksSync}
use Rattle.client_core.proofs.Acknowledging.{turn_some}
use Rattle.client_core.proofs.Going.{acknowledged_same}

-- ---- a last turn

-- one that acknowledges none leaves the log
pub turn_unrisen : (client : ℕ) (route : Route) (before after : Log) (end : Option SyncEnd) (asks : List Ask) → EntryTurn client route before after end asks → (before.acked < after.acked → ⊥) → after ≡ before
turn_unrisen client route before after end asks turn none =
    let some = turn_some client route before after end asks turn in
    let acked : after.acked ≡ some.0 = ap (λ (log : Log). log.acked) some.3 in
    some.3 ∙ acknowledged_same before some.0 (by (nat_lt before.acked after.acked) refl some.1 acked)
  where
    by : (less : Bool) → nat_lt before.acked after.acked ≡ less → {number : ℕ} → before.acked ≤ number → after.acked ≡ number → number ≡ before.acked
    by true is low acked = absurd (none (grind (arith, nat_tests)))
    by false is low acked =
        let most : after.acked ≤ before.acked = grind (arith, nat_tests) in omega (arith, low, acked, most)

-- what holds of a change, and of nothing, holds of the change that a last turn makes
pub acknowledging_so : (P : Trace → Type 0) (before after : Log) → (before.acked < after.acked → P (changing after)) → ((before.acked < after.acked → ⊥) → P nothing) → P (acknowledging before after)
acknowledging_so P before after some none = by (nat_lt before.acked after.acked) refl
  where
    by : (less : Bool) → nat_lt before.acked after.acked ≡ less → P (if less then changing after else nothing)
    by true is = some (grind (arith, nat_tests))
    by false is = none (λ (less : before.acked < after.acked). grind (arith, nat_tests))

-- it asks nothing
pub acknowledging_asks : (before after : Log) → (acknowledging before after).asks ≡ []
acknowledging_asks before after = acknowledging_so (λ trace. trace.asks ≡ []) before after (λ less. refl) (λ none. refl)

-- ---- what holds of all that a sync does

-- What holds of nothing, of each shipping and of each change, and of one after the other, holds of a sync.
module _ (P : Trace → Type 0) (none : P nothing) (joined : (m n : Trace) → P m → P n → P (followed m n)) (changes : (log : Log) → P (changing log)) (client : ℕ) (route : Route)
    (ships : (pending : List Entry) (entry : Entry) (came : Option Message) (asks : List Ask) → Ships client route pending entry came asks → P (asking asks)) where
  turn_holds : (before after : Log) (end : Option SyncEnd) (asks : List Ask) → EntryTurn client route before after end asks → P (asking asks)
  turn_holds before after end asks turn = ships before.pending turn.entry turn.came asks turn.ships

  acks_hold : (count : ℕ) (before after : Log) (trace : Trace) → Acknowledges client route count before after trace → P trace
  acks_hold zero before after trace turn = subst P (sym turn.1) none
  acks_hold (suc count) before after trace turn =
      subst P (sym turn.5)
      (joined turn.1 (followed (asking turn.2) (changing after)) (acks_hold count before turn.0 turn.1 turn.3)
      (joined (asking turn.2) (changing after) (turn_holds turn.0 after None turn.2 turn.4) (changes after)))

  ends_hold : (before : Log) (end : SyncEnd) (after : Log) (trace : Trace) → EndsSync client route before end after trace → P trace
  ends_hold before end after trace (inl synced) = subst P (sym synced.3) none
  ends_hold before end after trace (inr ended) =
      subst P (sym ended.2)
      (joined (asking ended.0) (acknowledging before after) (turn_holds before after (Some end) ended.0 ended.1) (acknowledging_so P before after (λ less. changes after) (λ no. none)))

  pub sync_holds : (before : Log) (end : SyncEnd) (after : Log) (trace : Trace) → SyncTurn client route before end after trace → P trace
  sync_holds before end after trace turn = subst P (sym turn.6) (joined turn.2 turn.3 (acks_hold turn.0 before turn.1 turn.2 turn.4) (ends_hold turn.1 end after turn.3 turn.5))

  -- and what holds of each shipping that is broken off holds of a sync that is broken off
  module _ (breaks : (pending : List Entry) (entry : Entry) (asks : List Ask) → BreaksShipping client route pending entry asks → P (asking asks)) where
    turn_broken : (before after : Log) (trace : Trace) → BreaksTurn client route before after trace → P trace
    turn_broken before after trace (inl idle) = subst P (sym idle.1) none
    turn_broken before after trace (inr (inl broken)) = subst P (sym broken.1.4) (breaks before.pending broken.1.0 broken.1.1 broken.1.3)
    turn_broken before after trace (inr (inr unkept)) =
        subst P (sym unkept.4) (joined (asking unkept.1) (changing after) (turn_holds before after (Some unkept.0) unkept.1 unkept.2) (changes after))

    pub broken_holds : (before after : Log) (trace : Trace) → BreaksSync client route before after trace → P trace
    broken_holds before after trace turn = subst P (sym turn.6) (joined turn.2 turn.3 (acks_hold turn.0 before turn.1 turn.2 turn.4) (turn_broken turn.1 after turn.3 turn.5))
