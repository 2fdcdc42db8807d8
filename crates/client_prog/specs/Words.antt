-- The words behind the program's name.
use Rattle.std.specs.Prelude.{ℕ, ◌==◌, Bool, ◌&&◌, List, [], ◌∷◌, length, Option, None, Some, option_map, Result, Ok, Err}
use Rattle.std.specs.Prelude.{if◌then◌else◌, nat_lt, codes}
use Rattle.std.specs.Str.{bytes_eq}
use Rattle.std.specs.Option.{option_or}
use Rattle.program_words.specs.Numbers.{printed_number}
use Rattle.wire_frames.specs.Limits.{max_client}
use Rattle.client_core.specs.declared.route.Route.{Route}
use Rattle.surrogate_pool.specs.Addresses.{are_addresses}
use Rattle.file_paths.specs.Path.{FilePath, path_of}
use Rattle.file_paths.specs.declared.path.PathError.{PathError}
use Rattle.tree_proof.specs.Tops.{Digest}
use Rattle.client_drill.specs.Limits.{max_steps}
use Rattle.client_proof.specs.Words.{root_of_word}
use Rattle.client_shelf.specs.Shelving.{Shelving, are_apart}

-- what the words of a run say: the client's number, its image, the server's address, those of the surrogates, joined by commas, where
-- there are any, and the work folder
pub record Invocation : Type 0 where
  pub client : ℕ
  pub image : List ℕ
  pub server : List ℕ
  pub surrogate : Option (List ℕ)
  pub work : List ℕ

-- the addresses that a word joins; `-` is none
abbrev pub address_of : List ℕ → Option (List ℕ)
address_of word = if bytes_eq word (codes "-") then None else Some word

-- the word `run`, and an image, a server and a work folder, of which no word is empty, and addresses of surrogates, or `-`
abbrev pub is_run : List ℕ → List ℕ → List ℕ → List ℕ → List ℕ → Bool
is_run run image server surrogate work =
    bytes_eq run (codes "run") && nat_lt 0 (length image) && nat_lt 0 (length server) && are_addresses surrogate
    && nat_lt 0 (length work)

abbrev pub run_by : List ℕ → List ℕ → List ℕ → List ℕ → Option ℕ → Option Invocation
run_by image server surrogate work None = None
run_by image server surrogate work (Some client) =
    Some (record { client = client; image = image; server = server; surrogate = address_of surrogate; work = work })

-- what `run NUMBER IMAGE SERVER SURROGATE WORK` says; any other words say nothing of a run
abbrev pub run_of : List (List ℕ) → Option Invocation
run_of (run ∷ number ∷ image ∷ server ∷ surrogate ∷ work ∷ []) =
    if is_run run image server surrogate work then run_by image server surrogate work (printed_number 1 max_client number) else None
run_of words = None

-- where the client's image, peers and commands are, by the words of a run
abbrev pub route_of : Invocation → Route
route_of run = record { image = run.image; server = run.server; surrogate = run.surrogate; work = run.work }

-- ---- a drill

-- the greatest seed
abbrev pub max_seed : ℕ
max_seed = 65535

-- what the words of a drill say: the seed, and of how many steps it is
pub record DrillInvocation : Type 0 where
  pub seed : ℕ
  pub count : ℕ

-- the seed that a word prints: `0`, or a number without a leading zero
abbrev pub seed_of : List ℕ → Option ℕ
seed_of word = if bytes_eq word (codes "0") then Some 0 else printed_number 1 max_seed word

abbrev pub drill_by : Option ℕ → Option ℕ → Option DrillInvocation
drill_by (Some seed) (Some count) = Some (record { seed = seed; count = count })
drill_by (Some seed) None = None
drill_by None count = None

-- what `drill SEED COUNT` says; any other words say nothing of a drill
abbrev pub drill_of : List (List ℕ) → Option DrillInvocation
drill_of (drill ∷ seed ∷ count ∷ []) =
    if bytes_eq drill (codes "drill") then drill_by (seed_of seed) (printed_number 1 max_steps count) else None
drill_of words = None

-- ---- a shelving

-- the word `shelve`, images that are apart, and no empty word
abbrev pub is_shelve : List ℕ → List ℕ → List ℕ → List ℕ → List ℕ → Bool
is_shelve shelve image new_image server folder =
    bytes_eq shelve (codes "shelve") && nat_lt 0 (length image) && nat_lt 0 (length new_image) && nat_lt 0 (length server)
    && nat_lt 0 (length folder) && are_apart image new_image

abbrev pub shelve_by : List ℕ → List ℕ → List ℕ → List ℕ → Option ℕ → Option ℕ → Option Shelving
shelve_by image new_image server folder (Some client) (Some new_client) =
    if new_client == client then None else Some (record {
      client = client;
      image = image;
      new_client = new_client;
      new_image = new_image;
      server = server;
      folder = folder;
    })
shelve_by image new_image server folder (Some client) None = None
shelve_by image new_image server folder None new_client = None

-- what `shelve NUMBER IMAGE NEW NEWIMAGE SERVER FOLDER` says; any other words say nothing of a shelving
abbrev pub shelve_of : List (List ℕ) → Option Shelving
shelve_of (shelve ∷ number ∷ image ∷ new ∷ new_image ∷ server ∷ folder ∷ []) =
    if is_shelve shelve image new_image server folder
    then shelve_by image new_image server folder (printed_number 1 max_client number) (printed_number 1 max_client new) else None
shelve_of words = None

-- ---- a check

-- what the words of a check say: the root of a volume, and a path
pub record CheckInvocation : Type 0 where
  pub root : Digest
  pub path : FilePath

abbrev pub check_by : Option Digest → Result FilePath PathError → Option CheckInvocation
check_by (Some root) (Ok path) = Some (record { root = root; path = path })
check_by (Some root) (Err refused) = None
check_by None path = None

-- what a root's word and a path's word say
unfoldable pub checked_by : List ℕ → List ℕ → Option CheckInvocation
checked_by root path = check_by (root_of_word root) (path_of path)

-- what `check ROOT PATH` says; any other words say nothing of a check
abbrev pub check_of : List (List ℕ) → Option CheckInvocation
check_of (check ∷ root ∷ path ∷ []) =
    if bytes_eq check (codes "check") then checked_by root path else None
check_of words = None

-- ---- the forms of the words

-- What the words ask for: to answer the lines of an input; to make a large run from a seed, and tell what came of it; to set a stuck log
-- aside; to check what an input holds against the root of a volume.
pub data ClientForm : Type 0 where
  Run : Invocation → ClientForm
  Drill : DrillInvocation → ClientForm
  Shelve : Shelving → ClientForm
  Check : CheckInvocation → ClientForm

-- what the words ask for; any others are of no form
abbrev pub form_of : List (List ℕ) → Option ClientForm
form_of words =
    option_or (option_map Run (run_of words))
    (option_or (option_map Drill (drill_of words)) (option_or (option_map Shelve (shelve_of words)) (option_map Check (check_of words))))
