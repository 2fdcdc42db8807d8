-- Records that break a rule: the field that is refused, behind what is kept whole, whatever stands behind the record.
use Rattle.std.specs.Prelude.{◌≡◌, ◌≢◌, ◌⊎◌, ℕ, ◌+◌, ◌^◌, ◌<◌, ◌≤◌, false, List, [], ◌∷◌, ◌++◌, length, take, Err}
use Rattle.std.specs.Int.{w32, w64}
use Rattle.std.specs.List.{flat_map, AllByRecursion}
use Rattle.byte_fields.specs.Field.{digits}
use Rattle.byte_fields.specs.Numbers.{as_u32}
use Rattle.byte_fields.specs.Cuts.{start_of}
use Rattle.byte_fields.specs.Broken.{IsRefused}
use Rattle.byte_fields.specs.Records.{framed}
use Rattle.tree_values.specs.declared.node.Effect.{Effect}
use Rattle.tree_values.specs.Limits.{max_effects}
use Rattle.tree_values.specs.Spelling.{effect}
use Rattle.mod_log.specs.declared.log.Entry.{Entry}
use Rattle.mod_log.specs.Log.{Log, tree_of, IsEntryOf}
use Rattle.tree_values.specs.declared.format.Format.TheVariants.{Second}
use Rattle.store_image.specs.declared.image.ServerImage.{ServerImage}
use Rattle.store_image.specs.declared.image.ImageError.TheVariants.{BadImage}
use Rattle.store_image.specs.declared.record.ClientRecord.{ClientRecord}
use Rattle.store_image.specs.declared.record.ClientRecord.TheVariants.{Logged, Acked}
use Rattle.store_image.specs.declared.record.ServerRecord.{ServerRecord}
use Rattle.store_image.specs.Reading.{growing_effect_at, next_entry_at}
use Rattle.store_image.specs.Fields.{client_note_fields, server_note_fields}
use Rattle.store_image.specs.Records.{client_note, client_kinds, has_room, IsNoteOf, server_note, server_kinds, last_of, IsTakenOf}
use Rattle.store_image.specs.Image.{kept_client_of, server_of, IsKeptWholeFor, IsKeptWholeForServer}
use Rattle.store_image.specs.Broken.{AreTaken, growing_behind}

-- behind what is kept whole for a client with this log, a record of this text is refused so many bytes behind its start
abbrev pub IsRefusedClientRecord : Log → List ℕ → ℕ → Type 0
IsRefusedClientRecord log text offset = (number : ℕ) (bytes more : List ℕ) → IsKeptWholeFor number log bytes → length text < 2 ^ 32
    → kept_client_of (bytes ++ (framed text ++ more)) ≡ Err (BadImage (as_u32 (length bytes + offset)))

-- so is one behind what is kept whole for this server
abbrev pub IsRefusedServerRecord : ServerImage → List ℕ → ℕ → Type 0
IsRefusedServerRecord image text offset = (bytes more : List ℕ) → IsKeptWholeForServer image bytes → length text < 2 ^ 32
    → server_of (bytes ++ (framed text ++ more)) ≡ Err (BadImage (as_u32 (length bytes + offset)))

-- the record tells what comes next, and an entry does so whether or not the log has room for it
abbrev pub ComesNext : Log → ClientRecord → Type 0
ComesNext log (Logged e) = IsEntryOf (log.acked + length log.pending + 1) (tree_of log) e
ComesNext log (Acked number) = IsNoteOf log (Acked number)

pub record BrokenClientRecords : Type 0 where
  -- no kind: where it would stand
  pub kind_is_missing : (log : Log) → IsRefusedClientRecord log [] 4
  -- another kind than 1 and 2: there
  pub kind_is_another : (log : Log) (kind : ℕ) (rest : List ℕ) → kind < 2 ^ 8
      → AllByRecursion (λ known. kind ≢ known.0) (client_kinds Second log)
      → IsRefusedClientRecord log (kind ∷ rest) 4
  -- an entry that is refused behind those of the log: in it
  pub entry_is_none : (log : Log) (text rest : List ℕ) (offset : ℕ) → IsRefused (next_entry_at Second log) text offset
      → IsRefusedClientRecord log (1 ∷ (text ++ rest)) (5 + offset)
  -- an entry for which the log has no room, or no number: at the first byte of the record
  pub log_is_full : (log : Log) (e : Entry) → ComesNext log (Logged e) → has_room log (Logged e) ≡ false
      → IsRefusedClientRecord log (client_note (Logged e)) 0
  -- a number that was acknowledged, or of no entry yet: behind the kind
  pub number_is_none : (log : Log) (number : ℕ) (rest : List ℕ) → number < 2 ^ 64
      → (number ≤ log.acked) ⊎ (log.acked + length log.pending < number)
      → IsRefusedClientRecord log (2 ∷ (digits w64 number ++ rest)) 5
  -- a record that ends inside what it tells: the field in which it ends
  pub text_is_cut : (log : Log) (note : ClientRecord) (end : ℕ) → ComesNext log note → end < length (client_note note)
      → IsRefusedClientRecord log (take end (client_note note)) (4 + start_of end (client_note_fields note))
  -- bytes behind what it tells: at the first of them
  pub bytes_are_left : (log : Log) (note : ClientRecord) (left : List ℕ) → ComesNext log note → 0 < length left
      → IsRefusedClientRecord log (client_note note ++ left) (4 + length (client_note note))

-- a client from 1 to 64, and a number above that of its last accepted entry
pub record IsLaterEntry (image : ServerImage) (client last : ℕ) : Type 0 where
  pub some : 1 ≤ client
  pub few : client ≤ 64
  pub later : last_of image client < last
  pub number : last < 2 ^ 64

pub record BrokenServerRecords : Type 0 where
  -- no kind: where it would stand
  pub kind_is_missing : (image : ServerImage) → IsRefusedServerRecord image [] 4
  -- another kind than 3: there
  pub kind_is_another : (image : ServerImage) (kind : ℕ) (rest : List ℕ) → kind < 2 ^ 8
      → AllByRecursion (λ known. kind ≢ known.0) (server_kinds Second image)
      → IsRefusedServerRecord image (kind ∷ rest) 4
  -- a number that no client has: behind the kind
  pub client_is_none : (image : ServerImage) (client : ℕ) (rest : List ℕ) → client < 2 ^ 8 → (client ≡ 0) ⊎ (64 < client)
      → IsRefusedServerRecord image (3 ∷ client ∷ rest) 5
  -- a number that is not above the client's last one: behind the client
  pub number_is_taken : (image : ServerImage) (client last : ℕ) (rest : List ℕ) → 1 ≤ client → client ≤ 64 → last < 2 ^ 64
      → last ≤ last_of image client
      → IsRefusedServerRecord image (3 ∷ client ∷ (digits w64 last ++ rest)) 6
  -- no effect, or more than 4,096: behind the number
  pub effects_are_none : (image : ServerImage) (client last count : ℕ) (rest : List ℕ) → IsLaterEntry image client last
      → count < 2 ^ 32 → (count ≡ 0) ⊎ (max_effects < count)
      → IsRefusedServerRecord image (3 ∷ client ∷ (digits w64 last ++ (digits w32 count ++ rest))) 14
  -- an effect that is refused, as one that does not apply: behind those before it
  pub effect_is_refused : (image : ServerImage) (client last : ℕ) (before : List Effect) (count : ℕ) (text rest : List ℕ) (offset : ℕ)
      → IsLaterEntry image client last → AreTaken image.tree before → length before < count → count ≤ max_effects
      → IsRefused (growing_effect_at Second (growing_behind before image.tree)) text offset
      → IsRefusedServerRecord image (3 ∷ client ∷ (digits w64 last ++ (digits w32 count ++ (flat_map effect before ++ (text ++ rest)))))
      (18 + (length (flat_map effect before) + offset))
  -- a record that ends inside what it tells: the field in which it ends
  pub text_is_cut : (image : ServerImage) (note : ServerRecord) (end : ℕ) → IsTakenOf image note → end < length (server_note note)
      → IsRefusedServerRecord image (take end (server_note note)) (4 + start_of end (server_note_fields note))
  -- bytes behind what it tells: at the first of them
  pub bytes_are_left : (image : ServerImage) (note : ServerRecord) (left : List ℕ) → IsTakenOf image note → 0 < length left
      → IsRefusedServerRecord image (server_note note ++ left) (4 + length (server_note note))
