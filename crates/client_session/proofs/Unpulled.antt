-- The client's tree at the end of a session whose pulls brought nothing: its entries made it of the tree at the beginning.
use Rattle.std.proofs.Common.{◌≡◌, inl, inr, ⊎_elim, ℕ, List, [], ◌∷◌, ◌++◌, Option, Some, Result, Ok, Err, refl, sym, ◌∙◌, ap, subst}
use Rattle.tree_values.specs.Lists.{IsIn}
use Rattle.vol_tree.proofs.Behind.{IsIn-left, IsIn-right}
use Rattle.cmd_capture.specs.Capture.{capture}
use Rattle.cmd_capture.specs.declared.command.Command.{Command}
use Rattle.cmd_capture.specs.declared.capturing.CaptureError.{CaptureError}
use Rattle.mod_log.specs.declared.log.Entry.{Entry}
use Rattle.mod_log.specs.Log.{Log, after, tree_of}
use Rattle.mod_log.proofs.Entries.{after-append, acknowledged_keeps}
use Rattle.client_core.specs.declared.route.Route.{Route}
use Rattle.client_core.specs.declared.syncing.SyncEnd.TheVariants as syncs
use Rattle.client_core.specs.declared.pulling.PullEnd.TheVariants as pulls
use Rattle.client_core.specs.Trace.{Trace, nothing}
use Rattle.client_core.specs.Syncing.{BreaksTurn, BreaksSync}
use Rattle.client_core.specs.Pulling.{BreaksPull}
use Rattle.client_core.specs.Causes.{AcknowledgesSome}
use Rattle.client_core.specs.Noting.{TakesNoRows}
use Rattle.client_core.proofs.Acknowledging.{some_none, some_then, turn_some}
use Rattle.client_core.proofs.Truths.{sync_logs_none}
use Rattle.shell_lang.specs.declared.line.Line.{Line}
use Rattle.shell_lang.specs.declared.line.Line.TheVariants as lines
use Rattle.shell_lang.specs.declared.line.LineError.{LineError}
use Rattle.shell_lang.specs.declared.answer.LineAnswer.{LineAnswer}
use Rattle.client_session.specs.Session.{SessionState, Chain, BreaksCommand, BreaksOff, Broken, BreaksChain}
use Rattle.client_session.proofs.Lines.{PullDoes, LineDoes, line_does, acks_some, sync_some, snapshot_does, pull_does}
use Rattle.client_session.proofs.Licensed.{pull_only, broken_only}

-- the entries of this trace made the tree of the one before
abbrev pub Makes : Log → Log → Trace → Type 0
Makes before now trace = tree_of now ≡ after trace.entries (tree_of before)

makes_none : (before now : Log) (trace : Trace) → tree_of now ≡ tree_of before → trace.entries ≡ [] → Makes before now trace
makes_none before now trace same none = same ∙ ap (λ (es : List Entry). after es (tree_of before)) (sym none)

makes_same : (before now : Log) (trace : Trace) → now ≡ before → trace.entries ≡ [] → Makes before now trace
makes_same before now trace same none = makes_none before now trace (ap tree_of same) none

-- acknowledging leaves the tree
some_tree : (before now : Log) → AcknowledgesSome before now → tree_of now ≡ tree_of before
some_tree before now some = ap tree_of some.3 ∙ acknowledged_keeps before some.0

pull_makes : (before now : Log) (trace : Trace) → TakesNoRows trace → PullDoes before now trace → trace.entries ≡ [] → Makes before now trace
pull_makes before now trace none (inl same) entries = makes_same before now trace same entries
pull_makes before now trace none (inr replaced) entries = absurd (none replaced.1 replaced.3)

module _ (client : ℕ) (route : Route) where
  breaks_some : (before now : Log) (trace : Trace) → BreaksTurn client route before now trace → AcknowledgesSome before now
  breaks_some before now trace (inl none) = subst (AcknowledgesSome before) (sym none.0) (some_none before)
  breaks_some before now trace (inr (inl shipping)) = subst (AcknowledgesSome before) (sym shipping.0) (some_none before)
  breaks_some before now trace (inr (inr unkept)) = turn_some client route before now (Some unkept.0) unkept.1 unkept.2

  broken_some : (before now : Log) (trace : Trace) → BreaksSync client route before now trace → AcknowledgesSome before now
  broken_some before now trace turn =
      some_then before turn.1 now (acks_some client route turn.0 before turn.1 turn.2 turn.4) (breaks_some turn.1 now turn.3 turn.5)

  broken_pull_makes : (before now : Log) (trace : Trace) → TakesNoRows trace → BreaksPull client route before now trace → Makes before now trace
  broken_pull_makes before now trace none (inl breaks) = makes_same before now trace breaks.2 (broken_only client route before now trace (inl breaks)).1
  broken_pull_makes before now trace none (inr replaced) =
      pull_makes before now trace none (snapshot_does client route before now trace (pulls.Pulled replaced.0) replaced.1) (broken_only client route before now trace (inr replaced)).1

-- ---- lines

module _ (route : Route) (before now : SessionState) (trace : Trace) (none : TakesNoRows trace) where
  abbrev LineMakes : Type 0
  LineMakes = Makes before.client.log now.client.log trace

  does_make : LineDoes route before now trace → LineMakes
  does_make (inl stays) = makes_same before.client.log now.client.log trace stays.same stays.entries
  does_make (inr (inl one)) =
      ap tree_of one.log ∙ after-append before.client.log.pending (one.entry ∷ []) before.client.log.base
      ∙ ap (λ (es : List Entry). after es (tree_of before.client.log)) (sym one.entries)
  does_make (inr (inr (inl sync))) =
      makes_none before.client.log now.client.log trace (some_tree before.client.log now.client.log (sync_some before.client.number route before.client.log sync.0 now.client.log trace sync.1))
      (sync_logs_none before.client.number route before.client.log now.client.log now.client.log sync.0 trace (inl (sync.1, refl)))
  does_make (inr (inr (inr pull))) =
      pull_makes before.client.log now.client.log trace none (pull_does before.client.number route before.client.log now.client.log trace pull.0 pull.1)
      (pull_only before.client.number route before.client.log now.client.log trace pull.0 pull.1).1

  command_makes : (made : Result Command CaptureError) → BreaksCommand route made before.client.log now.client.log trace → LineMakes
  command_makes (Ok command) breaks =
      makes_same before.client.log now.client.log trace breaks.1
      (⊎_elim (λ (idle : trace ≡ nothing). ap (λ (t : Trace). t.entries) idle) (λ ran. ap (λ (t : Trace). t.entries) ran.2) breaks.0)
  command_makes (Err refusal) breaks = absurd breaks

  off_makes : (line : Result Line LineError) → BreaksOff route before line now.client.log trace → LineMakes
  off_makes (Ok (lines.Run words)) breaks = command_makes (capture words before.folder) breaks
  off_makes (Ok lines.Sync) breaks =
      makes_none before.client.log now.client.log trace (some_tree before.client.log now.client.log (broken_some before.client.number route before.client.log now.client.log trace breaks))
      (sync_logs_none before.client.number route before.client.log now.client.log now.client.log syncs.Memory trace (inr (refl, breaks)))
  off_makes (Ok lines.Pull) breaks = broken_pull_makes before.client.number route before.client.log now.client.log trace none breaks
  off_makes (Err refusal) breaks = absurd breaks
  off_makes (Ok lines.Empty) breaks = absurd breaks
  off_makes (Ok (lines.Put word text)) breaks = absurd breaks
  off_makes (Ok (lines.Make word)) breaks = absurd breaks
  off_makes (Ok (lines.Remove word)) breaks = absurd breaks
  off_makes (Ok (lines.Move from to)) breaks = absurd breaks
  off_makes (Ok (lines.Cat word)) breaks = absurd breaks
  off_makes (Ok (lines.List word)) breaks = absurd breaks
  off_makes (Ok (lines.Enter word)) breaks = absurd breaks
  off_makes (Ok lines.Status) breaks = absurd breaks
  off_makes (Ok lines.Quit) breaks = absurd breaks

  broken_makes : (line : Result Line LineError) → Broken route before line now trace → LineMakes
  broken_makes line (inl idle) = makes_same before.client.log now.client.log trace (ap (λ (s : SessionState). s.client.log) idle.0) (ap (λ (t : Trace). t.entries) idle.1)
  broken_makes line (inr (inl turn)) = does_make (line_does route before now trace line turn.0 turn.1)
  broken_makes line (inr (inr breaks)) = off_makes line breaks.0

-- ---- sessions

-- one trace and then another, with whose parts it made the tree so
makes_then : (before middle now : Log) (first rest : Trace) → Makes before middle first → Makes middle now rest → tree_of now ≡ after (first.entries ++ rest.entries) (tree_of before)
makes_then before middle now first rest one two = two ∙ ap (after rest.entries) one ∙ sym (after-append first.entries rest.entries (tree_of before))

-- where neither replaced the base
replaced_parts : (first rest trace : Trace) → trace.pulls ≡ first.pulls ++ rest.pulls → TakesNoRows trace → TakesNoRows first × TakesNoRows rest
replaced_parts first rest trace is none = (
  λ count among. none count (subst (λ ends. IsIn (pulls.Pulled count) ends) (sym is) (IsIn-left (pulls.Pulled count) first.pulls rest.pulls among)),
  λ count among. none count (subst (λ ends. IsIn (pulls.Pulled count) ends) (sym is) (IsIn-right (pulls.Pulled count) first.pulls rest.pulls among)),
)

pub chain_makes : (route : Route) (before : SessionState) (handled : List (Result Line LineError)) (answers : List (Option LineAnswer)) (now : SessionState) (trace : Trace)
    → Chain route before handled answers now trace → TakesNoRows trace → Makes before.client.log now.client.log trace
chain_makes route before [] answers now trace chain none =
    makes_same before.client.log now.client.log trace (ap (λ (s : SessionState). s.client.log) chain.1) (ap (λ (t : Trace). t.entries) chain.2)
chain_makes route before (line ∷ handled) answers now trace chain none =
    let parts = replaced_parts chain.1 chain.2 trace (ap (λ (t : Trace). t.pulls) chain.8) none in
    makes_then before.client.log chain.0.client.log now.client.log chain.1 chain.2
    (does_make route before chain.0 chain.1 parts.0 (line_does route before chain.0 chain.1 line chain.3 chain.5))
    (chain_makes route chain.0 handled chain.4 now chain.2 chain.6 parts.1)
    ∙ ap (λ (t : Trace). after t.entries (tree_of before.client.log)) (sym chain.8)

pub broken_chain_makes : (route : Route) (before : SessionState) (handled : List (Result Line LineError)) (answers : List (Option LineAnswer)) (now : SessionState) (kept : Log) (trace : Trace)
    → BreaksChain route before handled answers now kept trace → TakesNoRows trace → Makes before.client.log now.client.log trace
broken_chain_makes route before handled answers now kept trace chain none =
    let parts = replaced_parts chain.3 chain.4 trace (ap (λ (t : Trace). t.pulls) chain.9) none in
    makes_then before.client.log chain.2.client.log now.client.log chain.3 chain.4
    (chain_makes route before chain.0 answers chain.2 chain.3 chain.6 parts.0)
    (broken_makes route chain.2 now chain.4 parts.1 chain.1 chain.7)
    ∙ ap (λ (t : Trace). after t.entries (tree_of before.client.log)) (sym chain.9)
