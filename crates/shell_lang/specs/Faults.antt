-- The texts of refusals: the name of the variant, then its values, each behind a space.
use Rattle.std.specs.Prelude.{◌≢◌, ⊤, ℕ, List, [], ◌∷◌, ◌++◌, codes, decimal}
use Rattle.file_paths.specs.Path.{FilePath, path_text}
use Rattle.file_paths.specs.declared.path.PathError.{PathError}
use Rattle.file_paths.specs.declared.path.PathError.TheVariants as paths
use Rattle.tree_values.specs.declared.node.TreeError.{TreeError}
use Rattle.tree_values.specs.declared.node.TreeError.TheVariants as trees
use Rattle.mod_log.specs.declared.log.LogError.{LogError}
use Rattle.mod_log.specs.declared.log.LogError.TheVariants as logs
use Rattle.cmd_capture.specs.declared.capturing.CaptureError.{CaptureError}
use Rattle.cmd_capture.specs.declared.capturing.CaptureError.TheVariants as captures
use Rattle.work_area.specs.declared.jobs.JobError.{JobError}
use Rattle.work_area.specs.declared.jobs.JobError.TheVariants as jobs
use Rattle.shell_lang.specs.declared.line.LineError.{LineError}
use Rattle.shell_lang.specs.declared.line.LineError.TheVariants as lines
use Rattle.shell_lang.specs.declared.answer.Fault.{Fault}
use Rattle.shell_lang.specs.declared.answer.Fault.TheVariants as faults

-- ---- values

-- a path is shown as its text, and the root as `/`
abbrev pub shown_path : FilePath → List ℕ
shown_path [] = 47 ∷ []
shown_path (name ∷ names) = path_text (name ∷ names)

-- a number behind a space
unfoldable pub number : ℕ → List ℕ
number n = 32 ∷ decimal n

-- a path behind a space
unfoldable pub spaced_path : FilePath → List ℕ
spaced_path p = 32 ∷ shown_path p

-- ---- names and values of each kind of refusal

abbrev pub path_fault_name : PathError → List ℕ
path_fault_name (paths.BadName i) = codes "BadName"
path_fault_name (paths.TooDeep n) = codes "TooDeep"
path_fault_name (paths.TooLong n) = codes "TooLong"
path_fault_name paths.Memory = codes "Memory"

abbrev pub path_fault_values : PathError → List ℕ
path_fault_values (paths.BadName i) = number i
path_fault_values (paths.TooDeep n) = number n
path_fault_values (paths.TooLong n) = number n
path_fault_values paths.Memory = []

abbrev pub line_fault_name : LineError → List ℕ
line_fault_name (lines.BadWord i) = codes "BadWord"
line_fault_name lines.OpenQuote = codes "OpenQuote"
line_fault_name lines.UnknownWord = codes "UnknownWord"
line_fault_name (lines.WrongCount n) = codes "WrongCount"
line_fault_name lines.Memory = codes "Memory"

abbrev pub line_fault_values : LineError → List ℕ
line_fault_values (lines.BadWord i) = number i
line_fault_values lines.OpenQuote = []
line_fault_values lines.UnknownWord = []
line_fault_values (lines.WrongCount n) = number n
line_fault_values lines.Memory = []

abbrev pub tree_fault_name : TreeError → List ℕ
tree_fault_name trees.RootFixed = codes "RootFixed"
tree_fault_name (trees.NoParent p) = codes "NoParent"
tree_fault_name (trees.Exists p) = codes "Exists"
tree_fault_name (trees.Missing p) = codes "Missing"
tree_fault_name (trees.IsFolder p) = codes "IsFolder"
tree_fault_name (trees.NotEmpty p child) = codes "NotEmpty"
tree_fault_name (trees.RowsFull n) = codes "RowsFull"
tree_fault_name (trees.FileTooLarge n) = codes "FileTooLarge"
tree_fault_name (trees.TreeFull n) = codes "TreeFull"
tree_fault_name (trees.VersionTop p) = codes "VersionTop"
tree_fault_name trees.Memory = codes "Memory"

abbrev pub tree_fault_values : TreeError → List ℕ
tree_fault_values trees.RootFixed = []
tree_fault_values (trees.NoParent p) = spaced_path p
tree_fault_values (trees.Exists p) = spaced_path p
tree_fault_values (trees.Missing p) = spaced_path p
tree_fault_values (trees.IsFolder p) = spaced_path p
tree_fault_values (trees.NotEmpty p child) = spaced_path p ++ spaced_path child
tree_fault_values (trees.RowsFull n) = number n
tree_fault_values (trees.FileTooLarge n) = number n
tree_fault_values (trees.TreeFull n) = number n
tree_fault_values (trees.VersionTop p) = spaced_path p
tree_fault_values trees.Memory = []

-- a refused effect of an entry is shown as the tree's refusal
abbrev pub log_fault_name : LogError → List ℕ
log_fault_name (logs.EntryTooLarge effects bytes) = codes "EntryTooLarge"
log_fault_name (logs.LogFull entries bytes) = codes "LogFull"
log_fault_name logs.LastNumber = codes "LastNumber"
log_fault_name (logs.Tree i refusal) = tree_fault_name refusal
log_fault_name logs.Memory = codes "Memory"

abbrev pub log_fault_values : LogError → List ℕ
log_fault_values (logs.EntryTooLarge effects bytes) = number effects ++ number bytes
log_fault_values (logs.LogFull entries bytes) = number entries ++ number bytes
log_fault_values logs.LastNumber = []
log_fault_values (logs.Tree i refusal) = tree_fault_values refusal
log_fault_values logs.Memory = []

abbrev pub capture_fault_name : CaptureError → List ℕ
capture_fault_name captures.NoProgram = codes "NoProgram"
capture_fault_name (captures.BadOption i) = codes "BadOption"
capture_fault_name (captures.BadInput i) = codes "BadInput"
capture_fault_name (captures.BadEnv i) = codes "BadEnv"
capture_fault_name (captures.BadTemplate i) = codes "BadTemplate"
capture_fault_name captures.NotAbsolute = codes "NotAbsolute"
capture_fault_name (captures.ZeroByte i) = codes "ZeroByte"
capture_fault_name (captures.CommandTooLong n) = codes "CommandTooLong"
capture_fault_name captures.Memory = codes "Memory"

abbrev pub capture_fault_values : CaptureError → List ℕ
capture_fault_values captures.NoProgram = []
capture_fault_values (captures.BadOption i) = number i
capture_fault_values (captures.BadInput i) = number i
capture_fault_values (captures.BadEnv i) = number i
capture_fault_values (captures.BadTemplate i) = number i
capture_fault_values captures.NotAbsolute = []
capture_fault_values (captures.ZeroByte i) = number i
capture_fault_values (captures.CommandTooLong n) = number n
capture_fault_values captures.Memory = []

abbrev pub job_fault_name : JobError → List ℕ
job_fault_name (jobs.NoFolder p) = codes "NoFolder"
job_fault_name (jobs.NoInput i) = codes "NoInput"
job_fault_name jobs.Memory = codes "Memory"

abbrev pub job_fault_values : JobError → List ℕ
job_fault_values (jobs.NoFolder p) = spaced_path p
job_fault_values (jobs.NoInput i) = number i
job_fault_values jobs.Memory = []

abbrev pub fault_name : Fault → List ℕ
fault_name (faults.Path refusal) = path_fault_name refusal
fault_name (faults.Line refusal) = line_fault_name refusal
fault_name (faults.Tree refusal) = tree_fault_name refusal
fault_name (faults.Log refusal) = log_fault_name refusal
fault_name (faults.Capture refusal) = capture_fault_name refusal
fault_name (faults.Job refusal) = job_fault_name refusal
fault_name (faults.NotFolder p) = codes "NotFolder"
fault_name (faults.Pending n) = codes "Pending"

abbrev pub fault_values : Fault → List ℕ
fault_values (faults.Path refusal) = path_fault_values refusal
fault_values (faults.Line refusal) = line_fault_values refusal
fault_values (faults.Tree refusal) = tree_fault_values refusal
fault_values (faults.Log refusal) = log_fault_values refusal
fault_values (faults.Capture refusal) = capture_fault_values refusal
fault_values (faults.Job refusal) = job_fault_values refusal
fault_values (faults.NotFolder p) = spaced_path p
fault_values (faults.Pending n) = number n

-- the words of a refusal by the tree, of one by the log, and of any
abbrev pub tree_fault_text : TreeError → List ℕ
tree_fault_text refusal = tree_fault_name refusal ++ tree_fault_values refusal

abbrev pub fault_text : Fault → List ℕ
fault_text refusal = fault_name refusal ++ fault_values refusal

-- a refusal that is shown: want of memory is none
abbrev pub IsShown : Fault → Type 0
IsShown (faults.Path refusal) = refusal ≢ paths.Memory
IsShown (faults.Line refusal) = refusal ≢ lines.Memory
IsShown (faults.Tree refusal) = refusal ≢ trees.Memory
IsShown (faults.Log refusal) = (refusal ≢ logs.Memory) × ((i : ℕ) → refusal ≢ logs.Tree i trees.Memory)
IsShown (faults.Capture refusal) = refusal ≢ captures.Memory
IsShown (faults.Job refusal) = refusal ≢ jobs.Memory
IsShown (faults.NotFolder p) = ⊤
IsShown (faults.Pending n) = ⊤
