-- What the lines of a session ask: no two of its entries have one number, so what a store carries is of one sync.
use Rattle.std.proofs.Common.{◌≡◌, ◌⊎◌, inl, inr, ⊎_elim, ℕ, ◌+◌, ◌-◌, List, [], ◌∷◌, ◌++◌, length, Option, Some, None, Result, Ok, Err, refl, sym, ◌∙◌, ap, subst, arith, length-append}
use Rattle.tree_values.specs.Lists.{IsIn}
use Rattle.cmd_capture.specs.Capture.{capture}
use Rattle.cmd_capture.specs.declared.command.Command.{Command}
use Rattle.cmd_capture.specs.declared.capturing.CaptureError.{CaptureError}
use Rattle.mod_log.specs.declared.log.Entry.{Entry}
use Rattle.mod_log.specs.Log.{Log, IsLog}
use Rattle.vol_tree.proofs.Behind.{IsIn-left, IsIn-right}
use Rattle.wire_frames.specs.declared.message.Message.TheVariants.{Operate, Done, Snapshot}
use Rattle.world_rules.specs.declared.asking.Peer.TheVariants.{Server, Surrogate}
use Rattle.world_rules.specs.declared.asking.Ask.{Ask}
use Rattle.world_rules.specs.declared.asking.Answer.TheVariants.{Reply}
use Rattle.world_rules.specs.Asking.{ask_of}
use Rattle.world_rules.proofs.Asks.{in_either}
use Rattle.client_core.specs.declared.route.Route.{Route}
use Rattle.client_core.specs.declared.syncing.SyncEnd.{SyncEnd}
use Rattle.client_core.specs.declared.syncing.SyncEnd.TheVariants as syncs
use Rattle.client_core.specs.declared.pulling.PullEnd.{PullEnd}
use Rattle.client_core.specs.declared.pulling.PullEnd.TheVariants as pulls
use Rattle.client_core.specs.Trace.{Trace, nothing, asking}
use Rattle.client_core.specs.Syncing.{SyncEnds}
use Rattle.client_core.specs.Pulling.{pull_of, PullsSnapshot, PullTurn, BreaksPull}
use Rattle.client_core.specs.Licence.{Carries, AreLicensed}
use Rattle.client_core.proofs.Truths.{sync_logs_none}
use Rattle.client_core.proofs.Licensing.{AllOf, both_of, settling_of, breaking_of, AreNumbered, IsNumbered, AreApart, numbered_apart, numbered_left, log_numbered, dropped_in, licensed_then, uncarried_licensed, numbered_licensed, pending_costs}
use Rattle.shell_lang.specs.declared.line.Line.{Line}
use Rattle.shell_lang.specs.declared.line.Line.TheVariants as lines
use Rattle.shell_lang.specs.declared.line.LineError.{LineError}
use Rattle.shell_lang.specs.declared.answer.LineAnswer.{LineAnswer}
use Rattle.client_session.specs.Session.{SessionState, LineTurn, Chain, BreaksCommand, BreaksOff, Broken}
use Rattle.client_session.specs.Laws.{CostsItsOperation, IsLicensedTurn, SessionsAreLicensed, BrokenSessionsAreLicensed}
use Rattle.client_session.proofs.Changing.{line_number}
use Rattle.client_session.proofs.Lines.{LineDoes, line_does, sync_some, some_last, pull_does, pull_same}

-- ---- what pulls ask and log

module _ (client : ℕ) (route : Route) (before after : Log) (trace : Trace) where
  -- each ask is of the client's pull, and nothing is logged
  abbrev pub OnlyPulls : Type 0
  OnlyPulls = AllOf (pull_of client before) trace.asks × (trace.entries ≡ [])

  only_asks : (asks : List Ask) → AllOf (pull_of client before) asks → trace ≡ asking asks → OnlyPulls
  only_asks asks all is = (subst (λ (t : Trace). AllOf (pull_of client before) t.asks) (sym is) all, ap (λ (t : Trace). t.entries) is)

  only_nothing : trace ≡ nothing → OnlyPulls
  only_nothing is = only_asks [] (λ ask among. absurd among) is

  snapshot_only : (end : PullEnd) → PullsSnapshot client route before end after trace → OnlyPulls
  snapshot_only end turn = (
    subst (λ (t : Trace). AllOf (pull_of client before) t.asks) (sym turn.trace_is)
        (both_of (pull_of client before) turn.asks []
        (settling_of Server route.server (pull_of client before) (Some (Snapshot client before.acked turn.last turn.seen)) turn.asks turn.settling)
        (λ ask among. absurd among)),
    ap (λ (t : Trace). t.entries) turn.trace_is,
  )

  pub pull_only : (end : PullEnd) → PullTurn client route before end after trace → OnlyPulls
  pull_only (pulls.Pending count) turn = only_nothing turn.3
  pull_only pulls.Unanswered turn = only_asks turn.1.0 (settling_of Server route.server (pull_of client before) None turn.1.0 turn.1.1) turn.1.3
  pull_only (pulls.Pulled count) turn = snapshot_only (pulls.Pulled count) turn
  pull_only (pulls.OtherLast last acked) turn = snapshot_only (pulls.OtherLast last acked) turn
  pull_only (pulls.Older path theirs ours) turn = snapshot_only (pulls.Older path theirs ours) turn
  pull_only pulls.KeepFault turn = snapshot_only pulls.KeepFault turn
  pull_only pulls.Memory turn = snapshot_only pulls.Memory turn

  pub broken_only : BreaksPull client route before after trace → OnlyPulls
  broken_only (inl breaks) = only_asks breaks.0 (breaking_of Server route.server (pull_of client before) breaks.0 breaks.3) breaks.4
  broken_only (inr replaced) = snapshot_only (pulls.Pulled replaced.0) replaced.1

-- ---- what a line asks

-- nothing, or what a sync asks, or pulls
abbrev AsksSo : ℕ → Route → Log → Trace → Type 0
AsksSo client route before trace =
    (trace.asks ≡ []) ⊎ ((end : SyncEnd) × (after : Log) × (kept : Log) × SyncEnds client route before end after kept trace) ⊎ AllOf (pull_of client before) trace.asks

module _ (client : ℕ) (route : Route) (before : Log) (trace : Trace) where
  module _ (is : IsNumbered before) where
    asks_licensed : (entries : List Entry) → AreApart entries → ((entry : Entry) → IsIn entry before.pending → IsIn entry entries) → (seen : List Ask) → AsksSo client route before trace → AreLicensed client route entries seen trace.asks
    asks_licensed entries apart hold seen (inl none) = subst (AreLicensed client route entries seen) (sym none) tt
    asks_licensed entries apart hold seen (inr (inl sync)) = numbered_licensed client route before sync.1 sync.2 sync.0 trace is sync.3 entries apart hold seen
    asks_licensed entries apart hold seen (inr (inr all)) =
        uncarried_licensed client route entries seen trace.asks (λ ask among number carries. subst (Carries number) (all ask among) carries)

    asks_cost : AsksSo client route before trace → CostsItsOperation client route before.pending trace.asks
    asks_cost (inl none) entry address sketched member light answered ask among of = absurd (subst (IsIn ask) none among)
    asks_cost (inr (inl sync)) entry address sketched member light answered ask among of =
        pending_costs client route before sync.1 sync.2 sync.0 trace is sync.3 entry address sketched member light answered ask among of
    asks_cost (inr (inr all)) entry address sketched member light answered ask among of =
        let is_pull : Operate client sketched ≡ pull_of client before = all (ask_of Surrogate address (Operate client sketched) (Reply (Done client entry.seq))) answered in
        absurd (cc is_pull)

    turn_licensed : AsksSo client route before trace → IsLicensedTurn client route before.pending trace.asks
    turn_licensed so = record {
      licensed = asks_licensed before.pending (numbered_apart (before.acked + 1) before.pending is) (λ entry among. among) [] so;
      costs = asks_cost so;
    }

-- ---- the numbers of the entries

numbered_append : (number : ℕ) (xs ys : List Entry) → AreNumbered number xs → AreNumbered (number + length xs) ys → AreNumbered number (xs ++ ys)
numbered_append number [] ys first second = let same : number + 0 ≡ number = omega arith in subst (λ (n : ℕ). AreNumbered n ys) same second
numbered_append number (x ∷ xs) ys first second =
    let same : number + length (x ∷ xs) ≡ number + 1 + length xs = omega arith in
    (first.0, numbered_append (number + 1) xs ys first.1 (subst (λ (n : ℕ). AreNumbered n ys) same second))

-- the entries that are logged have the numbers behind the last one, and with them that one rises
pub record Counts (before after : Log) (entries : List Entry) : Type 0 where
  pub numbers : AreNumbered (before.acked + length before.pending + 1) entries
  pub last : after.acked + length after.pending ≡ before.acked + length before.pending + length entries

counts_none : (before after : Log) (entries : List Entry) → entries ≡ [] → after.acked + length after.pending ≡ before.acked + length before.pending → Counts before after entries
counts_none before after entries none same = record {
  numbers = subst (AreNumbered (before.acked + length before.pending + 1)) (sym none) tt;
  last = omega (arith, same, ap (λ (es : List Entry). length es) none);
}

-- which of the entries are pending, and that they are numbered
pub record Follows (before after : Log) (trace : Trace) : Type 0 where
  pub counts : Counts before after trace.entries
  pub numbered : IsNumbered before → IsNumbered after
  pub from : (entry : Entry) → IsIn entry after.pending → IsIn entry before.pending ⊎ IsIn entry trace.entries

module _ (route : Route) (before after : SessionState) (trace : Trace) where
  abbrev log : Log
  log = before.client.log

  abbrev next : Log
  next = after.client.log

  does_ask : LineDoes route before after trace → AsksSo before.client.number route log trace
  does_ask (inl stays) = inl stays.asks
  does_ask (inr (inl one)) = inl one.asks
  does_ask (inr (inr (inl sync))) = inr (inl (sync.0, next, next, inl (sync.1, refl)))
  does_ask (inr (inr (inr pull))) = inr (inr (pull_only before.client.number route log next trace pull.0 pull.1).0)

  does_follow : LineDoes route before after trace → Follows log next trace
  does_follow (inl stays) = record {
    counts = counts_none log next trace.entries stays.entries (ap (λ (l : Log). l.acked + length l.pending) stays.same);
    numbered = λ is. subst IsNumbered (sym stays.same) is;
    from = λ entry among. inl (subst (λ (l : Log). IsIn entry l.pending) stays.same among);
  }
  does_follow (inr (inl one)) = record {
    counts = record {
      numbers = subst (AreNumbered (log.acked + length log.pending + 1)) (sym one.entries) (one.number, tt);
      last = omega (arith, ap (λ (l : Log). l.acked + length l.pending) one.log, length-append log.pending (one.entry ∷ []), ap (λ (es : List Entry). length es) one.entries);
    };
    numbered = λ is. subst IsNumbered (sym one.log) (numbered_append (log.acked + 1) log.pending (one.entry ∷ []) is (omega (arith, one.number), tt));
    from = λ entry among. ⊎_elim (λ old. inl old) (λ new. inr (subst (IsIn entry) (sym one.entries) new))
        (in_either entry log.pending (one.entry ∷ []) (subst (λ (l : Log). IsIn entry l.pending) one.log among));
  }
  does_follow (inr (inr (inl sync))) =
      let some = sync_some before.client.number route log sync.0 next trace sync.1 in
      record {
        counts = counts_none log next trace.entries (sync_logs_none before.client.number route log next next sync.0 trace (inl (sync.1, refl))) (some_last log next some);
        numbered = λ is. subst IsNumbered (sym some.3) (numbered_left log some.0 some.1 is);
        from = λ entry among. inl (dropped_in (some.0 - log.acked) log.pending entry (subst (λ (l : Log). IsIn entry l.pending) some.3 among));
      }
  does_follow (inr (inr (inr pull))) =
      let same = pull_same before.client.number route log next trace (pull_does before.client.number route log next trace pull.0 pull.1) in
      record {
        counts = counts_none log next trace.entries (pull_only before.client.number route log next trace pull.0 pull.1).1
            (omega (arith, same.0, ap (λ (es : List Entry). length es) same.1));
        numbered = λ is. subst (λ (es : List Entry). AreNumbered (next.acked + 1) es) (sym same.1) (subst (λ (n : ℕ). AreNumbered (n + 1) log.pending) (sym same.0) is);
        from = λ entry among. inl (subst (IsIn entry) same.1 among);
      }

  -- ---- a line that is broken off

  -- what it asks, and the numbers of what it logs
  abbrev BreaksSo : Type 0
  BreaksSo = AsksSo before.client.number route log trace × AreNumbered (log.acked + length log.pending + 1) trace.entries

  breaks_quiet : trace.asks ≡ [] → trace.entries ≡ [] → BreaksSo
  breaks_quiet asks entries = (inl asks, subst (AreNumbered (log.acked + length log.pending + 1)) (sym entries) tt)

  command_breaks : (made : Result Command CaptureError) → BreaksCommand route made log next trace → BreaksSo
  command_breaks (Ok command) breaks =
      ⊎_elim (λ (none : trace ≡ nothing). breaks_quiet (ap (λ (t : Trace). t.asks) none) (ap (λ (t : Trace). t.entries) none))
      (λ ran. breaks_quiet (ap (λ (t : Trace). t.asks) ran.2) (ap (λ (t : Trace). t.entries) ran.2)) breaks.0
  command_breaks (Err refusal) breaks = absurd breaks

  off_breaks : (line : Result Line LineError) → BreaksOff route before line next trace → BreaksSo
  off_breaks (Ok (lines.Run words)) breaks = command_breaks (capture words before.folder) breaks
  off_breaks (Ok lines.Sync) breaks =
      let ends : SyncEnds before.client.number route log syncs.Memory next next trace = inr (refl, breaks) in (
        inr (inl (syncs.Memory, next, next, ends)),
        subst (AreNumbered (log.acked + length log.pending + 1)) (sym (sync_logs_none before.client.number route log next next syncs.Memory trace ends)) tt,
      )
  off_breaks (Ok lines.Pull) breaks =
      let only = broken_only before.client.number route log next trace breaks in
      (inr (inr only.0), subst (AreNumbered (log.acked + length log.pending + 1)) (sym only.1) tt)
  off_breaks (Err refusal) breaks = absurd breaks
  off_breaks (Ok lines.Empty) breaks = absurd breaks
  off_breaks (Ok (lines.Put word text)) breaks = absurd breaks
  off_breaks (Ok (lines.Make word)) breaks = absurd breaks
  off_breaks (Ok (lines.Remove word)) breaks = absurd breaks
  off_breaks (Ok (lines.Move from to)) breaks = absurd breaks
  off_breaks (Ok (lines.Cat word)) breaks = absurd breaks
  off_breaks (Ok (lines.List word)) breaks = absurd breaks
  off_breaks (Ok (lines.Enter word)) breaks = absurd breaks
  off_breaks (Ok lines.Status) breaks = absurd breaks
  off_breaks (Ok lines.Quit) breaks = absurd breaks

  broken_breaks : (line : Result Line LineError) → Broken route before line after trace → BreaksSo
  broken_breaks line (inl none) = breaks_quiet (ap (λ (t : Trace). t.asks) none.1) (ap (λ (t : Trace). t.entries) none.1)
  broken_breaks line (inr (inl turn)) = let does = line_does route before after trace line turn.0 turn.1 in (does_ask does, (does_follow does).counts.numbers)
  broken_breaks line (inr (inr breaks)) = off_breaks line breaks.0

-- ---- from line to line

module _ (route : Route) where
  -- what follows a chain of lines
  pub chain_follows : (before : SessionState) (handled : List (Result Line LineError)) (answers : List (Option LineAnswer)) (after : SessionState) (trace : Trace)
      → Chain route before handled answers after trace → Follows before.client.log after.client.log trace
  chain_follows before [] answers after trace chain = record {
    counts = counts_none before.client.log after.client.log trace.entries (ap (λ (t : Trace). t.entries) chain.2) (ap (λ (s : SessionState). s.client.log.acked + length s.client.log.pending) chain.1);
    numbered = λ is. subst (λ (s : SessionState). IsNumbered s.client.log) (sym chain.1) is;
    from = λ entry among. inl (subst (λ (s : SessionState). IsIn entry s.client.log.pending) chain.1 among);
  }
  chain_follows before (line ∷ handled) answers after trace chain =
      let log : Log = before.client.log in
      let first = does_follow route before chain.0 chain.1 (line_does route before chain.0 chain.1 line chain.3 chain.5) in
      let rest = chain_follows chain.0 handled chain.4 after chain.2 chain.6 in
      let entries : trace.entries ≡ chain.1.entries ++ chain.2.entries = ap (λ (t : Trace). t.entries) chain.8 in
      let next : chain.0.client.log.acked + length chain.0.client.log.pending + 1 ≡ log.acked + length log.pending + 1 + length chain.1.entries = omega (arith, first.counts.last) in
      record {
        counts = record {
          numbers = subst (AreNumbered (log.acked + length log.pending + 1)) (sym entries)
              (numbered_append (log.acked + length log.pending + 1) chain.1.entries chain.2.entries first.counts.numbers (subst (λ (n : ℕ). AreNumbered n chain.2.entries) next rest.counts.numbers));
          last = omega (arith, first.counts.last, rest.counts.last, ap (λ (es : List Entry). length es) entries, length-append chain.1.entries chain.2.entries);
        };
        numbered = λ is. rest.numbered (first.numbered is);
        from = λ entry among. ⊎_elim
            (λ middle. ⊎_elim (λ old. inl old) (λ new. inr (subst (IsIn entry) (sym entries) (IsIn-left entry chain.1.entries chain.2.entries new))) (first.from entry middle))
            (λ later. inr (subst (IsIn entry) (sym entries) (IsIn-right entry chain.1.entries chain.2.entries later)))
            (rest.from entry among);
      }

  pub chain_number : (before : SessionState) (handled : List (Result Line LineError)) (answers : List (Option LineAnswer)) (after : SessionState) (trace : Trace)
      → Chain route before handled answers after trace → after.client.number ≡ before.client.number
  chain_number before [] answers after trace chain = ap (λ (s : SessionState). s.client.number) chain.1
  chain_number before (line ∷ handled) answers after trace chain =
      chain_number chain.0 handled chain.4 after chain.2 chain.6 ∙ line_number before chain.0 chain.1 route line chain.3 chain.5

  -- among entries of which no two have one number
  module _ (client : ℕ) (entries : List Entry) (apart : AreApart entries) where
    state_licensed : (state : SessionState) (trace : Trace) → state.client.number ≡ client → IsNumbered state.client.log → ((entry : Entry) → IsIn entry state.client.log.pending → IsIn entry entries)
        → AsksSo state.client.number route state.client.log trace → (seen : List Ask) → AreLicensed client route entries seen trace.asks
    state_licensed state trace number is hold so seen =
        subst (λ (c : ℕ). AreLicensed c route entries seen trace.asks) number (asks_licensed state.client.number route state.client.log trace is entries apart hold seen so)

    chain_licensed : (before : SessionState) (handled : List (Result Line LineError)) (answers : List (Option LineAnswer)) (after : SessionState) (trace : Trace)
        → Chain route before handled answers after trace → before.client.number ≡ client → IsNumbered before.client.log → ((entry : Entry) → IsIn entry before.client.log.pending → IsIn entry entries)
        → ((entry : Entry) → IsIn entry trace.entries → IsIn entry entries) → (seen : List Ask) → AreLicensed client route entries seen trace.asks
    chain_licensed before [] answers after trace chain number is hold logs seen = subst (λ (t : Trace). AreLicensed client route entries seen t.asks) (sym chain.2) tt
    chain_licensed before (line ∷ handled) answers after trace chain number is hold logs seen =
        let does = line_does route before chain.0 chain.1 line chain.3 chain.5 in
        let first = does_follow route before chain.0 chain.1 does in
        let all : (entry : Entry) → IsIn entry (chain.1.entries ++ chain.2.entries) → IsIn entry entries = λ entry among. logs entry (subst (λ (t : Trace). IsIn entry t.entries) (sym chain.8) among) in
        subst (λ (t : Trace). AreLicensed client route entries seen t.asks) (sym chain.8)
        (licensed_then client route entries seen chain.1.asks chain.2.asks
        (state_licensed before chain.1 number is hold (does_ask route before chain.0 chain.1 does) seen)
        (chain_licensed chain.0 handled chain.4 after chain.2 chain.6 (line_number before chain.0 chain.1 route line chain.3 chain.5 ∙ number) (first.numbered is)
        (λ entry among. ⊎_elim (λ old. hold entry old) (λ new. all entry (IsIn-left entry chain.1.entries chain.2.entries new)) (first.from entry among))
        (λ entry among. all entry (IsIn-right entry chain.1.entries chain.2.entries among))
        (seen ++ chain.1.asks)))

-- ---- the laws

-- the entries of a session are numbered on from those that were pending
session_numbers : (log : Log) (entries : List Entry) → IsNumbered log → AreNumbered (log.acked + length log.pending + 1) entries → AreApart (log.pending ++ entries)
session_numbers log entries is more =
    let next : log.acked + length log.pending + 1 ≡ log.acked + 1 + length log.pending = omega arith in
    numbered_apart (log.acked + 1) (log.pending ++ entries) (numbered_append (log.acked + 1) log.pending entries is (subst (λ (n : ℕ). AreNumbered n entries) next more))

pub sessions_licensed : SessionsAreLicensed
sessions_licensed route before handled answers after trace is chain =
    let log : Log = before.client.log in
    let numbered = log_numbered log is in
    let follows = chain_follows route before handled answers after trace chain in
    chain_licensed route before.client.number (log.pending ++ trace.entries) (session_numbers log trace.entries numbered follows.counts.numbers) before handled answers after trace chain refl numbered
    (λ entry among. IsIn-left entry log.pending trace.entries among) (λ entry among. IsIn-right entry log.pending trace.entries among) []

pub broken_sessions_licensed : BrokenSessionsAreLicensed
broken_sessions_licensed route before handled answers after kept trace is chain =
    let log : Log = before.client.log in
    let middle : SessionState = chain.2 in
    let numbered = log_numbered log is in
    let follows = chain_follows route before chain.0 answers middle chain.3 chain.6 in
    let breaks = broken_breaks route middle after chain.4 chain.1 chain.7 in
    let entries : trace.entries ≡ chain.3.entries ++ chain.4.entries = ap (λ (t : Trace). t.entries) chain.9 in
    let next : middle.client.log.acked + length middle.client.log.pending + 1 ≡ log.acked + length log.pending + 1 + length chain.3.entries = omega (arith, follows.counts.last) in
    let numbers : AreNumbered (log.acked + length log.pending + 1) trace.entries =
    subst (AreNumbered (log.acked + length log.pending + 1)) (sym entries)
    (numbered_append (log.acked + length log.pending + 1) chain.3.entries chain.4.entries follows.counts.numbers (subst (λ (n : ℕ). AreNumbered n chain.4.entries) next breaks.1)) in
    let apart = session_numbers log trace.entries numbered numbers in
    let all : List Entry = log.pending ++ trace.entries in
    let logs : (entry : Entry) → IsIn entry chain.3.entries → IsIn entry all =
    λ entry among. IsIn-right entry log.pending trace.entries (subst (IsIn entry) (sym entries) (IsIn-left entry chain.3.entries chain.4.entries among)) in
    let hold : (entry : Entry) → IsIn entry log.pending → IsIn entry all = λ entry among. IsIn-left entry log.pending trace.entries among in
    subst (λ (t : Trace). AreLicensed before.client.number route all [] t.asks) (sym chain.9)
    (licensed_then before.client.number route all [] chain.3.asks chain.4.asks
    (chain_licensed route before.client.number all apart before chain.0 answers middle chain.3 chain.6 refl numbered hold logs [])
    (state_licensed route before.client.number all apart middle chain.4 (chain_number route before chain.0 answers middle chain.3 chain.6) (follows.numbered numbered)
    (λ entry among. ⊎_elim (λ old. hold entry old) (λ new. logs entry new) (follows.from entry among)) breaks.0 chain.3.asks))

-- ---- turns that a session reached

-- where it began with a log, the turn of a line is licensed
module _ (route : Route) (start before : SessionState) (handled : List (Result Line LineError)) (told : List (Option LineAnswer)) (front turn : Trace) (reached : Chain route start handled told before front) where
  abbrev Licensed : Type 0
  Licensed = IsLog start.client.log → IsLicensedTurn start.client.number route before.client.log.pending turn.asks

  reached_licensed : AsksSo before.client.number route before.client.log turn → Licensed
  reached_licensed so is =
      subst (λ (c : ℕ). IsLicensedTurn c route before.client.log.pending turn.asks) (chain_number route start handled told before front reached)
      (turn_licensed before.client.number route before.client.log turn ((chain_follows route start handled told before front reached).numbered (log_numbered start.client.log is)) so)

  pub turn_is_licensed : (after : SessionState) (line : Result Line LineError) (answer : Option LineAnswer) → LineTurn route before line answer after turn → Licensed
  turn_is_licensed after line answer so = reached_licensed (does_ask route before after turn (line_does route before after turn line answer so))

  pub broken_is_licensed : (after : SessionState) (line : Result Line LineError) → Broken route before line after turn → Licensed
  broken_is_licensed after line breaks = reached_licensed (broken_breaks route before after turn line breaks).0
