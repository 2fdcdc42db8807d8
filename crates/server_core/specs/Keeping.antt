-- What images and records keep of a server.
use Rattle.std.specs.Prelude.{◌≡◌, ℕ, ◌≤◌, ◌<◌, ◌^◌, List, [], ◌∷◌, ◌++◌, length, take, Option, Some, None, Ok, option_to_list}
use Rattle.std.specs.List.{flat_map}
use Rattle.tree_values.specs.Effects.{apply_all}
use Rattle.tree_values.specs.Spelling.{EffectsFit}
use Rattle.wire_frames.specs.Limits.{max_client}
use Rattle.store_image.specs.declared.image.ServerImage.{ServerImage}
use Rattle.store_image.specs.declared.record.ServerRecord.{ServerRecord}
use Rattle.store_image.specs.Records.{server_record}
use Rattle.store_image.specs.Spelling.{server}
use Rattle.store_image.specs.Image.{IsKeptForServer, IsKeptWholeForServer}
use Rattle.world_rules.specs.Served.{Served, TakenEntry, new_served, with_last}
use Rattle.server_core.specs.Holding.{Holding, served}
use Rattle.server_core.specs.Framing.{frame_after, messages_of}
use Rattle.server_core.specs.Laws.{taken_among}

-- the image of what a server holds
abbrev pub server_image : Holding → ServerImage
server_image holding = record { last = holding.last; tree = holding.rows }

-- what the server of an image holds
abbrev pub holding_of : ServerImage → Holding
holding_of image = record { rows = image.tree; last = image.last }

-- the bytes are kept for a server that serves so: an image and records behind it, of which the last may be torn
pub record IsKeptForServed (state : Served) (bytes : List ℕ) : Type 0 where
  pub image : ServerImage
  pub kept : IsKeptForServer image bytes
  pub serves : served (holding_of image) ≡ state

-- the same, and no record is torn
pub record IsKeptWholeForServed (state : Served) (bytes : List ℕ) : Type 0 where
  pub image : ServerImage
  pub kept : IsKeptWholeForServer image bytes
  pub serves : served (holding_of image) ≡ state

-- the same, and no record stands behind the image
pub record IsImageForServed (state : Served) (bytes : List ℕ) : Type 0 where
  pub image : ServerImage
  pub kept : IsKeptWholeForServer image bytes
  pub spelled : bytes ≡ server image
  pub serves : served (holding_of image) ≡ state

-- what is kept under a name is kept for a server that serves so; nothing is kept for a new server
abbrev pub KeepsServed : Option (List ℕ) → Served → Type 0
KeepsServed None state = state ≡ new_served
KeepsServed (Some bytes) state = IsKeptForServed state bytes

-- what is kept is kept for one served state
abbrev pub OneStateIsKept : Type 0
OneStateIsKept = (kept : Option (List ℕ)) (state other : Served) → KeepsServed kept state → KeepsServed kept other → state ≡ other

-- the record leads from one served state to the other: its number is above the client's last one and becomes it, and its
-- effects are applied
pub record Leads (note : ServerRecord) (before after : Served) : Type 0 where
  pub some : 1 ≤ note.client
  pub few : note.client ≤ max_client
  pub higher : before.last note.client < note.last
  pub small : note.last < 2 ^ 64
  pub effects : EffectsFit note.effects
  pub applies : apply_all 0 note.effects before.volume ≡ Ok after.volume
  pub numbered : after.last ≡ with_last before.last note.client note.last

-- what was noted leads from one served state to the other: without a record there is no change
abbrev pub NoteLeads : Option ServerRecord → Served → Served → Type 0
NoteLeads None before after = after ≡ before
NoteLeads (Some note) before after = Leads note before after

-- the number of the last of these entries
abbrev pub number_after : ℕ → List TakenEntry → ℕ
number_after number [] = number
number_after number (entry ∷ entries) = number_after entry.number entries

-- One record of all entries that were taken of a store, which are of one client: whose they are, the number of the last, and their
-- effects, one after the other. There is none where none was taken.
abbrev pub record_of_all : List TakenEntry → Option ServerRecord
record_of_all [] = None
record_of_all (entry ∷ entries) = Some (record {
  client = entry.client;
  last = number_after entry.number entries;
  effects = flat_map (λ taken. taken.effects) (entry ∷ entries);
})

-- the records of what is taken of these frames, one for each of which anything is, in order
abbrev pub records_taken : List (List ℕ) → Served → List ServerRecord
records_taken [] state = []
records_taken (bytes ∷ frames) state =
    option_to_list (record_of_all (taken_among (messages_of (bytes ∷ [])) state)) ++ records_taken frames (frame_after bytes state)

-- what is kept whole is kept
abbrev pub WholeIsKept : Type 0
WholeIsKept = (state : Served) (bytes : List ℕ) → IsKeptWholeForServed state bytes → IsKeptForServed state bytes

-- with a record behind it, what is kept whole for the state before the record is kept whole for the state after it
abbrev pub RecordsLeadOn : Type 0
RecordsLeadOn = (before after : Served) (note : ServerRecord) (bytes : List ℕ) → IsKeptWholeForServed before bytes → Leads note before after
    → IsKeptWholeForServed after (bytes ++ server_record note)

-- with a front of the record behind it, it is still kept for the state before the record
abbrev pub TornRecordsAreDropped : Type 0
TornRecordsAreDropped =
    (before after : Served) (note : ServerRecord) (bytes : List ℕ) (count : ℕ) → IsKeptWholeForServed before bytes → Leads note before after
    → count < length (server_record note) → IsKeptForServed before (bytes ++ take count (server_record note))
