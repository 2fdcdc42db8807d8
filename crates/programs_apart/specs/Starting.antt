-- What is started for a command, and what stands before its own words.
use Rattle.std.specs.Prelude.{ℕ, ◌==◌, Bool, true, false, List, [], ◌∷◌, ◌++◌, map, codes, string_bytes}
use Rattle.std.specs.List.{flat_map, slice_split}
use Rattle.programs_apart.specs.declared.ways.Way.{Way}
use Rattle.programs_apart.specs.declared.ways.Way.TheVariants.{Plain, Led, Split, Apart}
use Rattle.programs_apart.specs.declared.ways.Walls.{Walls}
use Rattle.programs_apart.specs.declared.ways.Seen.{Seen}
use Rattle.programs_apart.specs.declared.ways.Seen.TheVariants.{Own, Hidden, Shown, Masked, Given, Sealed}

-- the words of a text, which stand one space apart
abbrev pub words : List ℕ → List (List ℕ)
words text = slice_split (λ b. b == 32) text

-- the limits of each process, where they can be set
abbrev pub limits : Bool → List (List ℕ)
limits false = []
limits true = words (codes "/usr/bin/prlimit --fsize=134217728 --nproc=512 --data=4294967296 --core=0 --nofile=1024 --")

-- a variable with its value as one word
abbrev pub assigned : List ℕ × List ℕ → List ℕ
assigned variable = variable.0 ++ 61 ∷ variable.1

-- What stands inside: the limits, these variables and no others, and a session of its own. What runs the program has none of the
-- variables itself, since some of them have other code run.
abbrev pub inner_words : Bool → List (List ℕ × List ℕ) → List (List ℕ)
inner_words limited variables =
    limits limited ++ words (codes "/usr/bin/env -i --") ++ map assigned variables ++ codes "/usr/bin/setsid" ∷ []

-- Root keeps these rights alone. Another user has none, among users of its own.
abbrev pub rights : Bool → List (List ℕ)
rights true = words (codes "--cap-drop ALL --cap-add CAP_CHOWN --cap-add CAP_FOWNER --cap-add CAP_FSETID --cap-add CAP_DAC_OVERRIDE --cap-add CAP_SETUID --cap-add CAP_SETGID")
rights false = words (codes "--unshare-user --disable-userns")

-- What a program is given at a place: a folder of its own, an empty folder, what stands there to be read, an empty file, what stands
-- there, and what earlier words put there to be read.
abbrev pub place_words : Seen → List ℕ → List (List ℕ)
place_words Own place = codes "--perms" ∷ codes "1777" ∷ codes "--size" ∷ codes "268435456" ∷ codes "--tmpfs" ∷ place ∷ []
place_words Hidden place = codes "--tmpfs" ∷ place ∷ []
place_words Shown place = codes "--ro-bind" ∷ place ∷ place ∷ []
place_words Masked place = codes "--ro-bind" ∷ codes "/dev/null" ∷ place ∷ []
place_words Given place = codes "--bind" ∷ place ∷ place ∷ []
place_words Sealed place = codes "--remount-ro" ∷ place ∷ []

abbrev pub places_words : Seen → List (List ℕ) → List (List ℕ)
places_words seen places = flat_map (place_words seen) places

-- the system, to be read, without other processes, the network, and what is hidden
abbrev pub view_words : Walls → List (List ℕ)
view_words walls =
    rights walls.bounds.is_root
    ++ words (codes "--unshare-pid --unshare-net --unshare-ipc --unshare-cgroup-try --die-with-parent --ro-bind / / --dev /dev --proc /proc")
    ++ places_words Own (map string_bytes walls.own.items)
    ++ places_words Hidden (map string_bytes walls.hidden.items)
    ++ places_words Shown (map string_bytes walls.shown.items)
    ++ places_words Masked (map string_bytes walls.masked.items)

-- The run's folder in a WORK that is empty beside it, and where the program starts. A later word covers what earlier ones put at its
-- place and below.
abbrev pub folder_words : Walls → List ℕ → List ℕ → List (List ℕ)
folder_words walls folder cwd =
    place_words Hidden (string_bytes walls.work)
    ++ place_words Given folder
    ++ place_words Sealed (string_bytes walls.work)
    ++ places_words Sealed (map string_bytes walls.hidden.items)
    ++ place_words Sealed (codes "/dev")
    ++ codes "--chdir" ∷ cwd ∷ codes "--" ∷ []

-- other processes and the network are kept away, and no file is
abbrev pub split_words : Bool → List (List ℕ)
split_words true =
    words (codes "--pid --net --ipc --fork --kill-child --mount-proc -- /bin/sh -c") ++ codes "\"$@\"; exit $?" ∷ codes "-"
    ∷ words (codes "/usr/bin/setpriv --bounding-set=-all,+chown,+fowner,+fsetid,+dac_override,+setuid,+setgid")
split_words false =
    words (codes "--user --map-current-user --pid --net --ipc --fork --kill-child --mount-proc -- /bin/sh -c") ++ codes "\"$@\"; exit $?" ∷ codes "-" ∷ []

-- the program under its own word, or what runs it
abbrev pub started_program : Way → List ℕ → List ℕ
started_program Plain program = program
started_program (Led limited) program = codes "/usr/bin/setsid"
started_program (Split bounds) program = codes "/usr/bin/unshare"
started_program (Apart walls) program = codes "/usr/bin/bwrap"

-- what stands before the program's own words: to what runs it the program is a word, too
abbrev pub first_words : Way → List ℕ → List ℕ → List (List ℕ × List ℕ) → List ℕ → List (List ℕ)
first_words Plain folder cwd variables program = []
first_words (Led limited) folder cwd variables program = limits limited ++ program ∷ []
first_words (Split bounds) folder cwd variables program =
    split_words bounds.is_root ++ inner_words bounds.is_limited variables ++ program ∷ []
first_words (Apart walls) folder cwd variables program =
    view_words walls ++ folder_words walls folder cwd ++ inner_words walls.bounds.is_limited variables ++ program ∷ []

-- the variables that are set for what is started: where words set them for the program, none
abbrev pub set_variables : Way → List (List ℕ × List ℕ) → List (List ℕ × List ℕ)
set_variables Plain variables = variables
set_variables (Led limited) variables = variables
set_variables (Split bounds) variables = []
set_variables (Apart walls) variables = []
