-- Reading images, with the place of the first faulty field. What was read decides what is wanted next: the tree so far
-- says which effects apply, and the log so far which entry comes next.
use Rattle.std.specs.Prelude.{ℕ, ◌+◌, ◌-◌, nat_le, ◌==◌, ◌&&◌, Bool, List, [], ◌∷◌, length, slice_index_or, Option, Ok, Err, if◌then◌else◌}
use Rattle.std.specs.Int.{w8, w32, w64}
use Rattle.std.specs.Str.{bytes_eq}
use Rattle.std.specs.Result.{is_ok}
use Rattle.byte_fields.specs.Field.{Reader, ◌>>=◌, ruled, limited, span_at, number_at, tagged_at, each_at}
use Rattle.file_paths.specs.Path.{is_same_path}
use Rattle.tree_values.specs.Limits.{max_files, max_effects}
use Rattle.tree_values.specs.Tree.{Volume, apply, changed}
use Rattle.tree_values.specs.Effects.{base_of}
use Rattle.file_paths.specs.Reading.{path_at}
use Rattle.tree_values.specs.Reading.{effect_in, room_after, rows_in}
use Rattle.tree_values.specs.declared.format.Format.{Format}
use Rattle.tree_values.specs.declared.format.Format.TheVariants.{First, Second}
use Rattle.tree_values.specs.declared.node.Effect.{Effect}
use Rattle.tree_values.specs.declared.node.Base.{Base}
use Rattle.mod_log.specs.declared.origin.Origin.{Origin}
use Rattle.mod_log.specs.declared.log.Entry.{Entry}
use Rattle.mod_log.specs.Limits.{max_entries, max_log}
use Rattle.mod_log.specs.Log.{Log, tree_of, new_log_of, logged}
use Rattle.mod_log.specs.Reading.{made_by_at}
use Rattle.store_image.specs.declared.image.ClientImage.{ClientImage}
use Rattle.store_image.specs.declared.image.ServerImage.{ServerImage}

-- ---- entries

-- the tree so far, and the bytes of content for which an entry has still room
pub record Growing : Type 0 where
  pub tree : Volume
  pub room : ℕ

-- an effect of a format that applies to the tree; one that does not is a fault of its first byte
unfoldable pub growing_effect_at : Format → Growing → Reader Effect
growing_effect_at format growing = ruled (λ effect. is_ok (apply effect growing.tree)) (effect_in format growing.room)

-- the tree and the room after an effect
abbrev pub grown : Growing → Effect → Growing
grown growing effect = record { tree = changed effect growing.tree; room = room_after growing.room effect }

-- 1 to 4,096 effects with contents of at most 32 MiB together, each of which applies to the tree after those before it
unfoldable pub applied_effects_at : Format → Volume → Reader (List Effect)
applied_effects_at format tree bytes at = do
  count ← ruled (λ n. nat_le 1 n && nat_le n max_effects) (number_at w32) bytes at
  each_at (growing_effect_at format) grown count.0 (record { tree = tree; room = max_files }) bytes count.1

-- just this path and this version
unfoldable pub known_base_at : Base → Reader Base
known_base_at known bytes at = do
  path ← ruled (is_same_path known.path) path_at bytes at
  version ← ruled (λ n. n == known.version) (number_at w64) bytes path.1
  Ok (record { path = path.0; version = version.0 }, version.1)

-- the first of these
unfoldable pub first_kept_base_at : List Base → Reader Base
first_kept_base_at [] bytes at = Err at
first_kept_base_at (known ∷ others) bytes at = known_base_at known bytes at

-- those that are left
abbrev pub kept_bases_after : List Base → Base → List Base
kept_bases_after [] base = []
kept_bases_after (known ∷ others) base = others

-- just these paths and versions, in their order
unfoldable pub known_bases_at : List Base → Reader (List Base)
known_bases_at known bytes at = do
  count ← ruled (λ n. n == length known) (number_at w32) bytes at
  each_at first_kept_base_at kept_bases_after count.0 known bytes count.1

-- effects that apply to the log's tree, and the versions that this tree has: the next entry, which this made
abbrev pub based_entry_at : Format → Option Origin → Log → Reader Entry
based_entry_at format origin log bytes at = do
  effects ← applied_effects_at format (tree_of log) bytes at
  base ← known_bases_at (base_of effects.0 (tree_of log)) bytes effects.1
  Ok (record { seq = log.acked + length log.pending + 1; origin = origin; effects = effects.0; base = base.0 }, base.1)

-- the entry behind those of the log: what made it, and the rest
unfoldable pub next_entry_at : Format → Log → Reader Entry
next_entry_at format log bytes at = do
  made_by ← made_by_at bytes at
  based_entry_at format made_by.0 log bytes made_by.1

-- the log with one more entry
abbrev pub with_entry : Log → Entry → Log
with_entry log entry = logged entry log

-- whether so many entries may be pending behind the acknowledged number
abbrev pub is_count : ℕ → ℕ → Bool
is_count acked n = nat_le n max_entries && nat_le n (18446744073709551615 - acked)

-- the pending entries of a log with nothing pending yet, which are spelled in at most 64 MiB
unfoldable pub entries_at : Format → Log → Reader (List Entry)
entries_at format log bytes at = do
  count ← ruled (is_count log.acked) (number_at w32) bytes at
  limited max_log (each_at (next_entry_at format) with_entry count.0 log) bytes count.1

-- the acknowledged number, the base and the pending entries
unfoldable pub log_at : Format → Reader Log
log_at format bytes at = do
  acked ← number_at w64 bytes at
  base ← rows_in format bytes acked.1
  pending ← entries_at format (new_log_of acked.0 base.0) bytes base.1
  Ok (record { acked = acked.0; base = base.0; pending = pending.0 }, pending.1)

-- ---- images

-- the version byte of a format
abbrev pub version_of : Format → ℕ
version_of First = 1
version_of Second = 2

-- the format that the fifth byte tells; where it tells none, the second one's readers refuse it
abbrev pub format_of : List ℕ → Format
format_of bytes = if slice_index_or bytes 4 0 == 1 then First else Second

-- a mark of four bytes, and what follows it
unfoldable pub marked : {A : Type 0} → List ℕ → Reader A → Reader A
marked mark read bytes at = do
  found ← ruled (bytes_eq mark) (span_at 4) bytes at
  read bytes found.1

-- O, S, C, I
abbrev pub client_mark : List ℕ
client_mark = 79 ∷ 83 ∷ 67 ∷ 73 ∷ []

-- O, S, S, I
abbrev pub server_mark : List ℕ
server_mark = 79 ∷ 83 ∷ 83 ∷ 73 ∷ []

-- a client's number and its log
unfoldable pub client_body_at : Format → Reader ClientImage
client_body_at format bytes at = do
  client ← ruled (λ n. nat_le 1 n && nat_le n 64) (number_at w8) bytes at
  log ← log_at format bytes client.1
  Ok (record { client = client.0; log = log.0 }, log.1)

-- the one version of a client's image in a format, with what follows it
abbrev pub client_versions : Format → List (ℕ × Reader ClientImage)
client_versions format = (version_of format, client_body_at format) ∷ []

-- the mark, the version and what follows it
unfoldable pub client_at : Format → Reader ClientImage
client_at format = marked client_mark (tagged_at (client_versions format))

-- the 64 numbers of clients 1, 2, 3 and so on
unfoldable pub numbers_at : Reader (List ℕ)
numbers_at = each_at (λ (_ : Unit {0}). number_at w64) (λ _ _. tt {0}) 64 (tt {0})

-- the last numbers of the clients, and the rows
unfoldable pub server_body_at : Format → Reader ServerImage
server_body_at format bytes at = do
  last ← numbers_at bytes at
  rows ← rows_in format bytes last.1
  Ok (record { last = last.0; tree = rows.0 }, rows.1)

-- the one version of a server's image in a format, with what follows it
abbrev pub server_versions : Format → List (ℕ × Reader ServerImage)
server_versions format = (version_of format, server_body_at format) ∷ []

-- the mark, the version and what follows it
unfoldable pub server_at : Format → Reader ServerImage
server_at format = marked server_mark (tagged_at (server_versions format))
