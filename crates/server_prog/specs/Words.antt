-- The words behind the program's name.
use Rattle.std.specs.Prelude.{◌≡◌, ◌≤◌, ℕ, Bool, ◌&&◌, List, [], ◌∷◌, length, Option, None, Some, option_map, Result, Ok, Err}
use Rattle.std.specs.Prelude.{if◌then◌else◌, nat_lt, codes}
use Rattle.std.specs.Str.{bytes_eq}
use Rattle.file_paths.specs.Path.{FilePath, path_of}
use Rattle.file_paths.specs.declared.path.PathError.{PathError}
use Rattle.outside.specs.Port.{most_connections}
use Rattle.port_serving.specs.Words.{count_of}
use Rattle.server_prog.specs.declared.words.RunWords.{RunWords}
use Rattle.server_prog.specs.declared.words.Form.{Form}
use Rattle.server_prog.specs.declared.words.Form.TheVariants as forms

-- what the words of a run say: the address at which the server listens, the name under which it is kept, and how many
-- connections it takes at most
pub record ServerInvocation : Type 0 where
  pub address : List ℕ
  pub image : List ℕ
  pub count : ℕ

-- the word `run`, and an address and an image that are not empty
abbrev pub is_server_run : List ℕ → List ℕ → List ℕ → Bool
is_server_run run address image = bytes_eq run (codes "run") && nat_lt 0 (length address) && nat_lt 0 (length image)

abbrev pub with_count : List ℕ → List ℕ → Option ℕ → Option ServerInvocation
with_count address image None = None
with_count address image (Some count) = Some (record { address = address; image = image; count = count })

-- what `run LISTEN IMAGE COUNT` says; any other words are of no form
abbrev pub server_run_of : List (List ℕ) → Option ServerInvocation
server_run_of (run ∷ address ∷ image ∷ count ∷ []) =
    if is_server_run run address image then with_count address image (count_of count) else None
server_run_of words = None

-- ---- the forms of the words

-- what words of a form say: to serve; to write the root of what is kept under a name, or the certificate of a path in it
pub data ServerForm : Type 0 where
  Run : ServerInvocation → ServerForm
  Root : List ℕ → ServerForm
  Prove : List ℕ → FilePath → ServerForm

-- the word `root`, or `prove`, and an image that is not empty
abbrev pub is_root_word : List ℕ → List ℕ → Bool
is_root_word root image = bytes_eq root (codes "root") && nat_lt 0 (length image)

abbrev pub is_prove_word : List ℕ → List ℕ → Bool
is_prove_word prove image = bytes_eq prove (codes "prove") && nat_lt 0 (length image)

abbrev pub with_path : List ℕ → Result FilePath PathError → Option ServerForm
with_path image (Ok path) = Some (Prove image path)
with_path image (Err refused) = None

-- the form that the words have: `root IMAGE`, `prove IMAGE PATH`, or that of a run; other words have none
abbrev pub form_of : List (List ℕ) → Option ServerForm
form_of (root ∷ image ∷ []) = if is_root_word root image then Some (Root image) else None
form_of (prove ∷ image ∷ path ∷ []) = if is_prove_word prove image then with_path image (path_of path) else None
form_of words = option_map Run (server_run_of words)

-- what the words of a run say, as the code has them
abbrev pub run_said : RunWords → ServerInvocation
run_said words = record { address = words.address.now; image = words.image.now; count = words.count }

-- the words have this form; a path is told by its text
abbrev pub HasForm : List (List ℕ) → Form → Type 0
HasForm words (forms.Run run) = (server_run_of words ≡ Some (run_said run)) × (1 ≤ run.count) × (run.count ≤ most_connections)
HasForm words (forms.Root image) = form_of words ≡ Some (Root image.now)
HasForm words (forms.Prove image text) =
    (path : FilePath) × (path_of text.now ≡ Ok path) × (form_of words ≡ Some (Prove image.now path))
