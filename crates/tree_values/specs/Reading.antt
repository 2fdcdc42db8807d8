-- Reading effects, bases and rows, with the place of the first faulty field.
use Rattle.std.specs.Prelude.{ℕ, ◌-◌, min, nat_le, ◌==◌, ◌&&◌, not, Bool, true, false, List, [], ◌∷◌, ◌++◌, length, Option, Some, None, Ok}
use Rattle.std.specs.Prelude.{Err}
use Rattle.std.specs.Int.{w32, w64}
use Rattle.std.specs.List.{list_all}
use Rattle.std.specs.Ordering.{is_lt}
use Rattle.byte_fields.specs.Field.{Reader, ◌>>=◌, ruled, none, tagged_at, number_at, each_at}
use Rattle.file_paths.specs.Limits.{max_file}
use Rattle.file_paths.specs.Path.{FilePath, path_cmp, is_same_path, folder_of}
use Rattle.file_paths.specs.Reading.{path_at, content_at}
use Rattle.tree_values.specs.Limits.{max_rows, max_files, max_effects}
use Rattle.tree_values.specs.Tree.{Volume, is_root, is_folder, total_size}
use Rattle.tree_values.specs.Effects.{content_size}
use Rattle.tree_values.specs.declared.format.Format.{Format}
use Rattle.tree_values.specs.declared.format.Format.TheVariants.{First, Second}
use Rattle.tree_values.specs.declared.node.Effect.{Effect}
use Rattle.tree_values.specs.declared.node.Effect.TheVariants.{Make, Put, Remove, Move, Mode}
use Rattle.tree_values.specs.declared.node.Base.{Base}
use Rattle.tree_values.specs.declared.node.Row.{Row}
use Rattle.tree_values.specs.declared.node.Node.{Node}
use Rattle.tree_values.specs.declared.node.Node.TheVariants.{Folder, File}

-- ---- effects

-- where a folder is made
unfoldable pub make_at : Reader Effect
make_at bytes at = do
  path ← path_at bytes at
  Ok (Make path.0, path.1)

-- where a content is put, and the content, where there is still room for so many bytes
unfoldable pub put_at : ℕ → Reader Effect
put_at room bytes at = do
  path ← path_at bytes at
  content ← content_at (min max_file room) bytes path.1
  Ok (Put path.0 content.0, content.1)

-- where something is removed
unfoldable pub remove_at : Reader Effect
remove_at bytes at = do
  path ← path_at bytes at
  Ok (Remove path.0, path.1)

-- from where something is moved, and to where
unfoldable pub move_at : Reader Effect
move_at bytes at = do
  from ← path_at bytes at
  to ← path_at bytes from.1
  Ok (Move from.0 to.0, to.1)

-- a yes or no
unfoldable pub bit_at : Reader Bool
bit_at = tagged_at ((0, none false) ∷ (1, none true) ∷ [])

-- which file may be run or not, and which of both
unfoldable pub mode_at : Reader Effect
mode_at bytes at = do
  path ← path_at bytes at
  exec ← bit_at bytes path.1
  Ok (Mode path.0 exec.0, exec.1)

-- the kinds of effects that the first format has not
abbrev pub later_effect_kinds : Format → List (ℕ × Reader Effect)
later_effect_kinds First = []
later_effect_kinds Second = (5, mode_at) ∷ []

-- each kind of effect that a format has, with what follows it
abbrev pub effect_kinds : Format → ℕ → List (ℕ × Reader Effect)
effect_kinds format room = (1, make_at) ∷ (2, put_at room) ∷ (3, remove_at) ∷ (4, move_at) ∷ later_effect_kinds format

-- an effect of a format where there is still room for so many bytes of content
unfoldable pub effect_in : Format → ℕ → Reader Effect
effect_in format room = tagged_at (effect_kinds format room)

-- an effect where there is still room for so many bytes of content
abbrev pub effect_at : ℕ → Reader Effect
effect_at = effect_in Second

-- the room that an effect leaves
abbrev pub room_after : ℕ → Effect → ℕ
room_after room e = room - content_size e

-- 1 to so many effects, with contents of at most so many bytes together
unfoldable pub effects_within : ℕ → ℕ → Reader (List Effect)
effects_within most room bytes at = do
  count ← ruled (λ n. nat_le 1 n && nat_le n most) (number_at w32) bytes at
  each_at effect_at room_after count.0 room bytes count.1

-- 1 to 4,096 effects, with contents of at most 32 MiB together
unfoldable pub effects_at : Reader (List Effect)
effects_at = effects_within max_effects max_files

-- ---- bases

-- the version of a path that is known
unfoldable pub base_at : FilePath → Reader Base
base_at known bytes at = do
  path ← ruled (is_same_path known) path_at bytes at
  version ← number_at w64 bytes path.1
  Ok (record { path = path.0; version = version.0 }, version.1)

-- the version of the first of the paths
unfoldable pub first_base_at : List FilePath → Reader Base
first_base_at [] bytes at = Err at
first_base_at (known ∷ others) bytes at = base_at known bytes at

-- the paths that are left
abbrev pub others_after : List FilePath → Base → List FilePath
others_after [] b = []
others_after (known ∷ others) b = others

-- the versions of all these paths, in their order
unfoldable pub bases_at : List FilePath → Reader (List Base)
bases_at touched bytes at = do
  count ← ruled (λ n. n == length touched) (number_at w32) bytes at
  each_at first_base_at others_after count.0 touched bytes count.1

-- ---- rows

-- whether a row of this path may stand behind these rows: not the root, and above them all
abbrev pub may_stand : Volume → FilePath → Bool
may_stand rows path = not (is_root path) && list_all (λ before. is_lt (path_cmp before.path path)) rows

-- a file where there is still room for so many bytes, which may be run or not
unfoldable pub file_at : Bool → ℕ → Reader (Option Node)
file_at exec room bytes at = do
  content ← content_at (min max_file room) bytes at
  Ok (Some (File content.0 exec), content.1)

-- what the first format has not
abbrev pub later_node_kinds : Format → ℕ → List (ℕ × Reader (Option Node))
later_node_kinds First room = []
later_node_kinds Second room = (3, file_at true room) ∷ []

-- what may stand at a path: anything that the format has where its parent is a folder, and else nothing
abbrev pub node_kinds : Format → Bool → ℕ → List (ℕ × Reader (Option Node))
node_kinds format false room = (0, none None) ∷ []
node_kinds format true room = (0, none None) ∷ (1, none (Some Folder)) ∷ (2, file_at false room) ∷ later_node_kinds format room

-- the kind of what stands there, and its content
unfoldable pub standing_at : Format → Bool → ℕ → Reader (Option Node)
standing_at format in_folder room = tagged_at (node_kinds format in_folder room)

-- the bytes of content for which a tree of these rows has room
abbrev pub room_beside : Volume → ℕ
room_beside rows = max_files - total_size rows

-- the row of a format behind these
unfoldable pub next_row_at : Format → Volume → Reader Row
next_row_at format rows bytes at = do
  path ← ruled (may_stand rows) path_at bytes at
  version ← ruled (nat_le 1) (number_at w64) bytes path.1
  node ← standing_at format (is_folder rows (folder_of path.0)) (room_beside rows) bytes version.1
  Ok (record { path = path.0; version = version.0; node = node.0 }, node.1)

-- the rows with one more behind them
abbrev pub with_next : Volume → Row → Volume
with_next rows row = rows ++ row ∷ []

-- at most 16,384 rows of a format, each of them given those before it
unfoldable pub rows_in : Format → Reader Volume
rows_in format bytes at = do
  count ← ruled (λ n. nat_le n max_rows) (number_at w32) bytes at
  each_at (next_row_at format) with_next count.0 [] bytes count.1

-- at most 16,384 rows, each of them given those before it
abbrev pub rows_at : Reader Volume
rows_at = rows_in Second
