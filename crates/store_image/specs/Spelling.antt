-- The one spelling of each image, and which values have one.
use Rattle.std.specs.Prelude.{◌≡◌, ℕ, ◌<◌, ◌≤◌, ◌^◌, List, ◌∷◌, ◌++◌, length}
use Rattle.std.specs.Int.{w32, w64}
use Rattle.std.specs.List.{flat_map, AllByRecursion}
use Rattle.byte_fields.specs.Field.{digits}
use Rattle.tree_values.specs.Tree.{IsTree}
use Rattle.tree_values.specs.Spelling.{rows, AreRowsOf, IsEffectOf}
use Rattle.tree_values.specs.declared.format.Format.{Format}
use Rattle.tree_values.specs.declared.format.Format.TheVariants.{Second}
use Rattle.mod_log.specs.declared.log.Entry.{Entry}
use Rattle.mod_log.specs.Log.{Log, entry, IsLog}
use Rattle.store_image.specs.declared.image.ClientImage.{ClientImage}
use Rattle.store_image.specs.declared.image.ServerImage.{ServerImage}
use Rattle.store_image.specs.Reading.{client_mark, server_mark, version_of}

-- the entries, behind their number
abbrev pub entries : List Entry → List ℕ
entries es = digits w32 (length es) ++ flat_map entry es

-- the acknowledged number, the base and the pending entries
abbrev pub log : Log → List ℕ
log l = digits w64 l.acked ++ (rows l.base ++ entries l.pending)

-- the mark, the version, the client's number and its log
abbrev pub client_in : Format → ClientImage → List ℕ
client_in format image = client_mark ++ (version_of format ∷ image.client ∷ log image.log)

-- what is written is of the second format
abbrev pub client : ClientImage → List ℕ
client = client_in Second

-- a client from 1 to 64 and a log
pub record ClientFits (image : ClientImage) : Type 0 where
  pub some : 1 ≤ image.client
  pub few : image.client ≤ 64
  pub log : IsLog image.log

-- a log that the format has: no file that may be run, and no effect that says so, in the first
pub record IsLogOf (format : Format) (l : Log) : Type 0 where
  pub rows_are : AreRowsOf format l.base
  pub entries_are : AllByRecursion (λ e. AllByRecursion (IsEffectOf format) e.effects) l.pending

-- a client that the format has
pub record ClientFitsIn (format : Format) (image : ClientImage) : Type 0 where
  pub fits : ClientFits image
  pub known : IsLogOf format image.log

-- the numbers, eight bytes each
abbrev pub numbers : List ℕ → List ℕ
numbers last = flat_map (digits w64) last

-- the mark, the version, the last numbers and the rows
abbrev pub server_in : Format → ServerImage → List ℕ
server_in format image = server_mark ++ (version_of format ∷ (numbers image.last ++ rows image.tree))

-- what is written is of the second format
abbrev pub server : ServerImage → List ℕ
server = server_in Second

-- 64 numbers of 64 bits, and a tree
pub record ServerFits (image : ServerImage) : Type 0 where
  pub count : length image.last ≡ 64
  pub numbers : AllByRecursion (λ n. n < 2 ^ 64) image.last
  pub tree : IsTree image.tree

-- a server that the format has
pub record ServerFitsIn (format : Format) (image : ServerImage) : Type 0 where
  pub fits : ServerFits image
  pub known : AreRowsOf format image.tree
