-- What holds of every judgement.
use Rattle.std.specs.Prelude.{◌≡◌, List}
use Rattle.tree_values.specs.declared.node.Effect.{Effect}
use Rattle.cmd_capture.specs.declared.job.Job.{Job}
use Rattle.cmd_capture.specs.declared.job.Outcome.{Outcome}
use Rattle.mod_log.specs.Sketched.{AllFill}
use Rattle.mod_log.specs.declared.sketched.SketchEffect.{SketchEffect}
use Rattle.mod_log.specs.declared.sketching.SketchEntry.{SketchEntry}
use Rattle.replay_judge.specs.declared.verdict.Verdict.{Verdict}
use Rattle.replay_judge.specs.Agreement.{AllAgree}
use Rattle.replay_judge.specs.Judgement.{IsJudgement}

-- an outcome has one judgement, repairs included
abbrev pub OneJudgement : Type 0
OneJudgement = (sketched : SketchEntry) (job : Job) (outcome : Outcome) (v w : Verdict) → IsJudgement sketched job outcome v
    → IsJudgement sketched job outcome w → v ≡ w

-- what an entry and a replay agree on has contents of the sketches' lengths and prints
abbrev pub AgreementsFill : Type 0
AgreementsFill = (wanted : List SketchEffect) (found agreed : List Effect) → AllAgree wanted found agreed → AllFill wanted agreed
