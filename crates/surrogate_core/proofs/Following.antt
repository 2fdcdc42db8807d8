-- One round of a handling, from its settling and from what came of that.
use Rattle.std.proofs.Common.{◌≡◌, inl, inr, ⊎_elim, ℕ, ◌<◌, true, List, [], Option, Some, None, Result, Ok, Err, refl, sym, ap, subst, arith}
use Rattle.std.specs.declared.alloc.AllocError.{AllocError}
use Rattle.tree_values.specs.Tree.{Volume}
use Rattle.cmd_capture.specs.declared.job.Job.{Job}
use Rattle.cmd_capture.specs.declared.job.Outcome.{Outcome}
use Rattle.cmd_capture.specs.declared.runner.Run.{Run}
use Rattle.cmd_capture.specs.Runs.{RunnerTelling, HasRun}
use Rattle.mod_log.specs.declared.sketching.SketchEntry.{SketchEntry}
use Rattle.wire_frames.specs.declared.cause.Cause.{Cause}
use Rattle.wire_frames.specs.declared.message.Message.{Message}
use Rattle.wire_frames.specs.declared.message.Message.TheVariants as messages
use Rattle.world_rules.specs.declared.asking.Peer.TheVariants.{Server}
use Rattle.world_rules.specs.World.{World, MovedBy, Moved, Is}
use Rattle.world_rules.specs.Asking.{AnswersStand}
use Rattle.world_rules.specs.Settling.{Settled}
use Rattle.world_rules.specs.Telling.{LinkTelling}
use Rattle.world_rules.proofs.Asks.{told_as}
use Rattle.surrogate_core.specs.declared.step.NextStep.TheVariants as steps
use Rattle.surrogate_core.specs.Handling.{Phase, Idle, Fetching, Holding, Machine, Reaction, Held, job_for, held_by, after_verdict, AfterJob, Tries, closed, refusal_kind, HandlesReply, IsSilenced}
use Rattle.surrogate_core.specs.Serving.{Steps, failed_step}
use Rattle.surrogate_core.specs.Inside.{Asked, Follows, asks_left}
use Rattle.surrogate_core.proofs.Trying.{runs_none}

has_asked : (server : List ℕ) (request : Message) (link now : LinkTelling) (result : Result (Option Message) AllocError) (settled : Settled Server server request link now result)
    → Asked request settled.asks link now
has_asked server request link now result settled = record {
  troubles = settled.rose;
  went = told_as link.world now.world (λ (v w : World). Moved request settled.asks v w × AnswersStand w settled.asks) (λ (v w : World). MovedBy (Is request) settled.asks v w × AnswersStand w settled.asks)
      settled.told (λ v w went. (went.0.moves, went.1));
}

module _ (server work : List ℕ) (request : Message) (machine : Machine) (reaction : Reaction) (link now : LinkTelling) where
  pub replied : (came : Option Message) (reply : Message) (runner ran : RunnerTelling) → came ≡ Some reply → Settled Server server request link now (Ok came)
      → Steps (HandlesReply machine.phase machine.copy reply work) reaction runner ran
      → Follows server work request (record { step = steps.Ask request; after = machine }) reaction runner ran link now
  replied came reply runner ran is settled stepped =
      let so = subst (λ (o : Option Message). Settled Server server request link now (Ok o)) is settled in
      record {
        round = record { asks = so.asks; came = Some reply; runs = stepped.runs; after = reaction };
        is_round = (so.settling, stepped.does);
        after_is = refl;
        has_run = stepped.told;
        has_asked = has_asked server request link now (Ok (Some reply)) so;
      }

  silent_none : (phase : Phase) → IsSilenced phase machine.copy reaction → failed_step reaction.step ≡ 0
  silent_none Idle silenced = absurd silenced
  silent_none (Fetching client sketched) silenced = ap (λ (r : Reaction). failed_step r.step) silenced
  silent_none (Holding client number before) silenced = ap (λ (r : Reaction). failed_step r.step) silenced

  pub silenced_follows : (came : Option Message) (runner : RunnerTelling) → came ≡ None → Settled Server server request link now (Ok came) → IsSilenced machine.phase machine.copy reaction
      → Follows server work request (record { step = steps.Ask request; after = machine }) reaction runner runner link now
  silenced_follows came runner is settled silenced =
      let so = subst (λ (o : Option Message). Settled Server server request link now (Ok o)) is settled in
      record {
        round = record { asks = so.asks; came = None; runs = []; after = reaction };
        is_round = (so.settling, (silenced, refl));
        after_is = refl;
        has_run = subst (λ (k : ℕ). HasRun [] k runner runner) (sym (silent_none machine.phase silenced)) (runs_none runner);
        has_asked = has_asked server request link now (Ok None) so;
      }

-- ---- fewer asks are left

held_left : (copy : Volume) (client : ℕ) (sketched : SketchEntry) (held : Result Held Cause) → asks_left (after_verdict copy client sketched held).after.phase < 2
held_left copy client sketched (Ok held) = omega arith
held_left copy client sketched (Err cause) = omega arith

tries_left : (copy : Volume) (client : ℕ) (sketched : SketchEntry) (work : List ℕ) (runs : List Run) (reaction : Reaction) → Tries true copy client sketched work runs reaction
    → asks_left reaction.after.phase < 2
tries_left copy client sketched work runs reaction tries =
    ⊎_elim (λ came. by (job_for copy sketched) tries.ran came) (λ none. subst (λ (r : Reaction). asks_left r.after.phase < 2) (sym none) (omega arith)) tries.came
  where
    by : (job : Result Job Cause) (ran : Option Outcome) → AfterJob true copy client sketched job ran reaction → asks_left reaction.after.phase < 2
    by (Ok job) None came = subst (λ (r : Reaction). asks_left r.after.phase < 2) (sym came) (omega arith)
    by (Ok job) (Some outcome) came = subst (λ (r : Reaction). asks_left r.after.phase < 2) (sym came.2) (held_left copy client sketched (held_by copy job came.0))
    by (Err cause) ran came = subst (λ (r : Reaction). asks_left r.after.phase < 2) (sym came) (omega arith)

closed_left : (copy : Volume) (client number : ℕ) (before : Volume) (kind : Option ℕ) → asks_left (closed copy client number before kind).after.phase < 1
closed_left copy client number before None = omega arith
closed_left copy client number before (Some kind) = omega arith

pub reply_left : (phase : Phase) (copy : Volume) (reply : Message) (work : List ℕ) (runs : List Run) (reaction : Reaction) → HandlesReply phase copy reply work runs reaction
    → asks_left reaction.after.phase < asks_left phase
reply_left Idle copy reply work runs reaction handles = absurd handles
reply_left (Fetching client sketched) copy (messages.Snapshot c n last rows) work runs reaction (inl tries) = tries_left rows client sketched work runs reaction tries
reply_left (Fetching client sketched) copy (messages.Snapshot c n last rows) work runs reaction (inr starved) =
    subst (λ (r : Reaction). asks_left r.after.phase < 2) (sym starved.0) (omega arith)
reply_left (Fetching client sketched) copy reply work runs reaction handles = absurd handles
reply_left (Holding client number before) copy reply work runs reaction handles =
    subst (λ (r : Reaction). asks_left r.after.phase < 1) (sym handles.0) (closed_left copy client number before (refusal_kind reply))
