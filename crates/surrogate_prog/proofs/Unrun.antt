-- Runs that failed.
use Rattle.std.proofs.Common.{◌≡◌, ℕ, ◌+◌, List, [], ◌∷◌, Result, Ok, Err, refl, sym, ◌∙◌, ap, arith}
use Rattle.std.specs.Prelude.{count_by, cond}
use Rattle.tree_values.specs.Tree.{Volume}
use Rattle.wire_frames.specs.declared.cause.Cause.{Cause}
use Rattle.wire_frames.specs.declared.cause.Cause.TheVariants.{NotRun}
use Rattle.wire_frames.specs.declared.message.FrameError.{FrameError}
use Rattle.wire_frames.specs.declared.message.Message.{Message}
use Rattle.wire_frames.specs.declared.message.Message.TheVariants.{Declined}
use Rattle.wire_frames.specs.Reading.{frame_of}
use Rattle.surrogate_core.specs.Serving.{failed_cause, failed_runs}
use Rattle.surrogate_prog.specs.Serving.{Doings, ServesRead}
use Rattle.surrogate_prog.specs.Laws.{unrun_cause, is_not_run, FailedRunsAreTold}
use Rattle.surrogate_prog.proofs.Silent.{counted}

cause_told : (cause : Cause) → cond (unrun_cause cause) 1 0 ≡ failed_cause cause
cause_told NotRun = refl
cause_told cause = refl

reply_told : (reply : Message) → cond (is_not_run reply) 1 0 ≡ failed_runs reply
reply_told (Declined client number cause) = cause_told cause
reply_told reply = refl

read_told : (server work : List ℕ) (copy after : Volume) (came : Result Message FrameError) (did : Doings) (reply : Message) → ServesRead server work copy came did reply after
    → cond (is_not_run reply) 1 0 ≡ did.failed
read_told server work copy after (Ok request) did reply serves = reply_told reply ∙ sym serves.1
read_told server work copy after (Err refusal) did reply serves =
    ap (λ (m : Message). cond (is_not_run m) 1 0) serves.0 ∙ sym (ap (λ (d : Doings). d.failed) serves.1)

pub failed_runs_are_told : FailedRunsAreTold
failed_runs_are_told server work copy after [] did serves = ([], tt, sym (ap (λ (d : Doings). d.failed) serves.0))
failed_runs_are_told server work copy after (pair ∷ pairs) did serves =
    let one = serves.3 in
    let more = failed_runs_are_told server work serves.2 after pairs serves.1 serves.4 in
    let told = read_told server work copy serves.2 (frame_of pair.0) serves.0 one.reply one.serves in
    let rest = more.2 in
    let both : cond (is_not_run one.reply) 1 0 + count_by is_not_run more.0 ≡ serves.0.failed + serves.1.failed = omega (arith, told, rest) in (
      one.reply ∷ more.0,
      (one.spells, more.1),
      counted is_not_run one.reply more.0 ∙ both ∙ sym (ap (λ (d : Doings). d.failed) serves.5),
    )
