-- What a runner of drills answers.
use Rattle.std.specs.Prelude.{◌≡◌, ℕ, ◌+◌, ◌-◌, ◌%◌, ◌==◌, ◌&&◌, Bool, true, false, List, [], ◌∷◌, ◌++◌, map, find, replicate, codes}
use Rattle.std.specs.Prelude.{Option, None, Some, option_to_list, if◌then◌else◌}
use Rattle.std.specs.List.{AllByRecursion}
use Rattle.std.specs.Str.{bytes_eq}
use Rattle.program_words.specs.Numbers.{printed_number}
use Rattle.tree_values.specs.declared.node.Node.TheVariants.{File}
use Rattle.cmd_capture.specs.declared.job.Job.{Job}
use Rattle.cmd_capture.specs.declared.job.JobRow.{JobRow}
use Rattle.cmd_capture.specs.declared.job.RawRow.{RawRow}
use Rattle.cmd_capture.specs.declared.job.Outcome.{Outcome}
use Rattle.cmd_capture.specs.declared.runner.Run.{Run}
use Rattle.cmd_capture.specs.Runs.{raw_row, unchanged}
use Rattle.mem_net.specs.Limits.{max_job}

-- ---- the jobs of a drill

abbrev pub number_in : Bool → List (List ℕ) → Option ℕ
number_in true (word ∷ []) = printed_number 1 max_job word
number_in named args = None

-- the number of a job of a drill: its command is `/bin/job` with that number alone
abbrev pub number_of_job : Job → Option ℕ
number_of_job job = number_in (bytes_eq job.command.program (codes "/bin/job")) job.command.args

-- ---- what they come to

-- how many bytes in front are others at a surrogate
abbrev pub changed_bytes : ℕ → ℕ
changed_bytes number = if number % 4 == 1 then 20 else if number % 4 == 2 then 34 else 0

-- how many bytes in front are others
abbrev pub changed_at : Bool → ℕ → ℕ
changed_at far number = if far then changed_bytes number else 0

-- the file that a job leaves
abbrev pub out_of : Bool → ℕ → List ℕ
out_of far number = replicate (changed_at far number) 45 ++ replicate (2000 + number - changed_at far number) (97 + number % 26)

abbrev pub is_named_e : List (List ℕ) → Bool
is_named_e (name ∷ []) = bytes_eq name (codes "e")
is_named_e names = false

abbrev pub is_e : JobRow → Bool
is_e row = is_named_e row.path

-- the job's row e, and the file behind it
abbrev pub rows_with_out : Bool → ℕ → Job → List RawRow
rows_with_out far number job =
    map raw_row (option_to_list (find is_e job.rows))
    ++ record { path = codes "e/out"; node = File (out_of far number) false } ∷ []

-- a job of a number that leaves three over comes to another status at a surrogate
abbrev pub drilled_status : Bool → ℕ → ℕ
drilled_status far number = if far && (number % 4 == 3) then 1 else 0

abbrev pub drilled_as : Option ℕ → Bool → Job → Outcome
drilled_as (Some number) far job = record { status = drilled_status far number; rows = rows_with_out far number job }
drilled_as None far job = unchanged job

-- what a job comes to: a job of a drill by its number, and any other leaves its own rows with status 0
abbrev pub drilled : Bool → Job → Outcome
drilled far job = drilled_as (number_of_job job) far job

-- ---- the runner

-- whether it is a surrogate's, its runs, and how many it was asked for
pub record InDrill : Type 0 where
  pub far : Bool
  pub runs : List Run
  pub calls : ℕ

-- the run has the answer to its job
abbrev pub IsDrilled : Bool → Run → Type 0
IsDrilled far run = run.outcome ≡ drilled far run.job

-- each of these runs has
abbrev pub AreAnswered : Bool → List Run → Type 0
AreAnswered far runs = AllByRecursion (IsDrilled far) runs
