-- A drill: the lines and the fates that follow from a seed and a number of steps.
use Rattle.std.specs.Prelude.{ℕ, zero, suc, ◌+◌, ◌*◌, ◌/◌, ◌%◌, ◌==◌, Bool, List, [], ◌∷◌, ◌++◌, replicate, decimal, codes, if◌then◌else◌}
use Rattle.shell_lang.specs.Faults.{number}
use Rattle.shell_lang.specs.Lines.{with_ends}
use Rattle.mem_wires.specs.declared.fate.Fate.{Fate}
use Rattle.mem_wires.specs.declared.fate.Fate.TheVariants.{Pass, LoseRequest, LoseReply, Twice}

-- ---- the numbers

-- the number behind one
abbrev pub next : ℕ → ℕ
next x = (75 * x + 74) % 65537

-- Number 0 of a seed is the seed, and each other one stands behind the one before it.
abbrev pub number_at : ℕ → ℕ → ℕ
number_at seed zero = seed
number_at seed (suc i) = next (number_at seed i)

-- ---- the lines

-- whether the step of a number runs a job; any other puts a text
abbrev pub is_job : ℕ → Bool
is_job x = x % 4 == 3

-- how many of the first steps run a job; step i has number i
abbrev pub jobs_upto : ℕ → ℕ → ℕ
jobs_upto seed zero = 0
jobs_upto seed (suc i) = jobs_upto seed i + (if is_job (number_at seed (suc i)) then 1 else 0)

-- a text of at most 1,000 letters, all of them the same, is put to one of sixteen files
abbrev pub put_line : ℕ → List ℕ
put_line x = codes "put /d/f" ++ (decimal (x / 4 % 16) ++ 32 ∷ replicate (x % 1000 + 1) (97 + x % 26))

-- a job is run
abbrev pub run_line : ℕ → List ℕ
run_line job = codes "run -- /bin/job" ++ number job

-- the line of the step of a number, up to which so many steps run a job
abbrev pub step_line : ℕ → ℕ → List ℕ
step_line x jobs = if is_job x then run_line jobs else put_line x

-- a sync stands behind each tenth step
abbrev pub sync_behind : ℕ → List (List ℕ)
sync_behind i = if i % 10 == 0 then codes "sync" ∷ [] else []

-- the lines of step i
abbrev pub lines_of_step : ℕ → ℕ → List (List ℕ)
lines_of_step seed i = step_line (number_at seed i) (jobs_upto seed i) ∷ sync_behind i

-- the lines of the first steps
abbrev pub lines_upto : ℕ → ℕ → List (List ℕ)
lines_upto seed zero = []
lines_upto seed (suc i) = lines_upto seed i ++ lines_of_step seed (suc i)

-- Two folders are made, the steps are taken in the second one, and a sync ends them.
abbrev pub drill_lines : ℕ → ℕ → List (List ℕ)
drill_lines seed count = codes "mkdir d" ∷ codes "mkdir e" ∷ codes "cd e" ∷ (lines_upto seed count ++ codes "sync" ∷ [])

abbrev pub script : ℕ → ℕ → List ℕ
script seed count = with_ends (drill_lines seed count)

-- ---- the fates

-- the fate by a number
abbrev pub fate_by : ℕ → Fate
fate_by x = if x % 8 == 0 then LoseRequest else if x % 8 == 1 then LoseReply else if x % 8 == 2 then Twice else Pass

-- Fate k, counted from 0, of a drill of so many steps: each fourth is to pass, and the others go by the numbers behind those of the steps.
abbrev pub fate_at : ℕ → ℕ → ℕ → Fate
fate_at seed count k = if k % 4 == 3 then Pass else fate_by (number_at seed (count + 1 + k))

-- so many of them, from fate k on
abbrev pub fates_from : ℕ → ℕ → ℕ → ℕ → List Fate
fates_from seed count k zero = []
fates_from seed count k (suc left) = fate_at seed count k ∷ fates_from seed count (suc k) left

-- four for each step
abbrev pub drill_fates : ℕ → ℕ → List Fate
drill_fates seed count = fates_from seed count 0 (4 * count)
