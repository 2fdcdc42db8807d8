-- The judgement of an outcome: the status first, then whether its rows are legal, and then what it changed.
use Rattle.std.specs.Prelude.{◌≡◌, ◌≢◌, List}
use Rattle.tree_values.specs.declared.node.Effect.{Effect}
use Rattle.cmd_capture.specs.declared.job.Job.{Job}
use Rattle.cmd_capture.specs.declared.job.JobRow.{JobRow}
use Rattle.cmd_capture.specs.declared.job.Outcome.{Outcome}
use Rattle.cmd_capture.specs.Rows.{AreLegal, read_rows}
use Rattle.work_area.specs.declared.rows.RowsFault.TheVariants as rows_faults
use Rattle.work_area.specs.Outcomes.{IsRowsFault}
use Rattle.work_area.specs.Changes.{changes}
use Rattle.temp_names.specs.Renaming.{renaming}
use Rattle.temp_names.specs.Rename.{rename}
use Rattle.mod_log.specs.declared.sketching.SketchEntry.{SketchEntry}
use Rattle.replay_judge.specs.declared.verdict.Verdict.{Verdict}
use Rattle.replay_judge.specs.declared.verdict.Verdict.TheVariants.{Agree, Status, OddTree, Mismatch}
use Rattle.replay_judge.specs.Agreement.{AllAgree, IsFirstMismatch}

-- the replay's rows under the client's names
abbrev pub under_client_names : SketchEntry → Job → List JobRow → List JobRow
under_client_names sketched job rows =
    rename (renaming sketched.origin.command.templates sketched.effects job.rows rows) rows

-- what the replay changed, under the client's names
abbrev pub replay_changes : SketchEntry → Job → List JobRow → List Effect
replay_changes sketched job rows = changes job.rows (under_client_names sketched job rows)

-- the rows of a replay that has the entry's status, and whose rows are legal
pub record IsReplay (sketched : SketchEntry) (outcome : Outcome) (rows : List JobRow) : Type 0 where
  pub status : outcome.status ≡ sketched.origin.status
  pub legal : AreLegal outcome.rows
  pub rows_are : rows ≡ read_rows outcome.rows

-- each verdict exactly where it holds
abbrev pub IsJudgement : SketchEntry → Job → Outcome → Verdict → Type 0
IsJudgement sketched job outcome (Agree agreed) =
    (rows : List JobRow) × IsReplay sketched outcome rows × AllAgree sketched.effects (replay_changes sketched job rows) agreed
IsJudgement sketched job outcome (Status logged replayed) =
    (logged ≡ sketched.origin.status) × (replayed ≡ outcome.status) × (replayed ≢ logged)
IsJudgement sketched job outcome (OddTree i) =
    (outcome.status ≡ sketched.origin.status) × IsRowsFault outcome.rows (rows_faults.OddTree i)
IsJudgement sketched job outcome (Mismatch path) =
    (rows : List JobRow) × IsReplay sketched outcome rows × IsFirstMismatch sketched.effects (replay_changes sketched job rows) path
