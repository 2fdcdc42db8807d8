-- The words behind the program's name.
use Rattle.std.specs.Prelude.{◌≡◌, ◌≤◌, ℕ, Bool, ◌&&◌, List, [], ◌∷◌, length, Option, None, Some, option_map, if◌then◌else◌, nat_lt, codes}
use Rattle.std.specs.Str.{bytes_eq}
use Rattle.outside.specs.Port.{most_connections}
use Rattle.port_serving.specs.Words.{count_of}
use Rattle.surrogate_prog.specs.declared.words.RunWords.{RunWords}
use Rattle.surrogate_prog.specs.declared.words.Form.{Form}
use Rattle.surrogate_prog.specs.declared.words.Form.TheVariants as forms

-- what the words of a run say: the address at which the surrogate listens, its server's address, the folder in which commands
-- are run, and how many connections it takes at most
pub record SurrogateInvocation : Type 0 where
  pub address : List ℕ
  pub server : List ℕ
  pub work : List ℕ
  pub count : ℕ

-- the word `run`, and two addresses and a folder that are not empty
abbrev pub is_surrogate_run : List ℕ → List ℕ → List ℕ → List ℕ → Bool
is_surrogate_run run address server work =
    bytes_eq run (codes "run") && nat_lt 0 (length address) && nat_lt 0 (length server) && nat_lt 0 (length work)

abbrev pub surrogate_run_with : List ℕ → List ℕ → List ℕ → Option ℕ → Option SurrogateInvocation
surrogate_run_with address server work None = None
surrogate_run_with address server work (Some count) = Some (record { address = address; server = server; work = work; count = count })

-- what `run LISTEN SERVER WORK COUNT` says; any other words are of no form
abbrev pub surrogate_run_of : List (List ℕ) → Option SurrogateInvocation
surrogate_run_of (run ∷ address ∷ server ∷ work ∷ count ∷ []) =
    if is_surrogate_run run address server work then surrogate_run_with address server work (count_of count) else None
surrogate_run_of words = None

-- ---- the forms of the words

-- what words of a form say
pub data SurrogateForm : Type 0 where
  Run : SurrogateInvocation → SurrogateForm

-- the form that the words have; other words have none
abbrev pub form_of : List (List ℕ) → Option SurrogateForm
form_of words = option_map Run (surrogate_run_of words)

-- what the words of a run say, as the code has them
abbrev pub run_said : RunWords → SurrogateInvocation
run_said words = record { address = words.address.now; server = words.server.now; work = words.work.now; count = words.count }

-- the words have this form
abbrev pub HasForm : List (List ℕ) → Form → Type 0
HasForm words (forms.Run run) = (surrogate_run_of words ≡ Some (run_said run)) × (1 ≤ run.count) × (run.count ≤ most_connections)
