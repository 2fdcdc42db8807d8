-- Words that only the contracts of private functions cite.
use Rattle.std.specs.Prelude.{◌≡◌, ℕ, ◌≤◌, List, Option, Some, Ok}
use Rattle.std.specs.Option.{option_copied}
use Rattle.file_paths.specs.Path.{FilePath, path_of}
use Rattle.wire_frames.specs.Limits.{max_client}
use Rattle.client_drill.specs.Limits.{max_steps}
use Rattle.client_shelf.specs.Shelving.{said, IsShelving}
use Rattle.client_prog.specs.declared.words.RunWords.{RunWords}
use Rattle.client_prog.specs.declared.words.DrillWords.{DrillWords}
use Rattle.client_prog.specs.declared.words.CheckWords.{CheckWords}
use Rattle.client_prog.specs.declared.words.Form.{Form}
use Rattle.client_prog.specs.declared.words.Form.TheVariants as forms
use Rattle.client_prog.specs.Words.{Invocation, DrillInvocation, CheckInvocation, Run, Drill, Shelve, Check, form_of}

-- what the words of a run say
abbrev pub run_said : RunWords → Invocation
run_said words = record {
  client = words.client;
  image = words.image.now;
  server = words.server.now;
  surrogate = option_copied words.surrogate;
  work = words.work.now;
}

-- what those of a drill say
abbrev pub drill_said : DrillWords → DrillInvocation
drill_said words = record { seed = words.seed; count = words.count }

-- what is said of a check is this root, and the path of this text
abbrev pub IsSaid : Option CheckInvocation → CheckWords → Type 0
IsSaid said check = (path : FilePath) × (path_of check.path.now ≡ Ok path) × (said ≡ Some (record { root = check.root; path = path }))

-- the words are of this form, and say this
abbrev pub IsForm : Form → List (List ℕ) → Type 0
IsForm (forms.Run run) words = (form_of words ≡ Some (Run (run_said run))) × (1 ≤ run.client) × (run.client ≤ max_client)
IsForm (forms.Drill drill) words =
    (form_of words ≡ Some (Drill (drill_said drill))) × (1 ≤ drill.count) × (drill.count ≤ max_steps)
IsForm (forms.Shelve asked) words = (form_of words ≡ Some (Shelve (said asked))) × IsShelving (said asked)
IsForm (forms.Check check) words = (path : FilePath) × (path_of check.path.now ≡ Ok path)
    × (form_of words ≡ Some (Check (record { root = check.root; path = path })))
