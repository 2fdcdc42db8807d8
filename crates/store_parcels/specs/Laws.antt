-- What holds of parcels.
use Rattle.std.specs.Prelude.{ℕ, ◌≡◌, true, List, Some, None, Err}
use Rattle.sha2.specs.Sha256.{sha256}
use Rattle.tree_values.specs.Tree.{Volume}
use Rattle.wire_frames.specs.declared.message.Message.{Message}
use Rattle.wire_frames.specs.declared.message.Kind.TheVariants.{Store}
use Rattle.wire_frames.specs.declared.message.FrameError.TheVariants.{BadKind}
use Rattle.wire_frames.specs.declared.head.Head.{Head}
use Rattle.wire_frames.specs.Frame.{frame, IsValid}
use Rattle.wire_frames.specs.Head.{head_at}
use Rattle.wire_frames.specs.Reading.{frame_of}
use Rattle.store_parcels.specs.declared.front.NamedStore.{NamedStore}
use Rattle.store_parcels.specs.Front.{is_parcel, named_store}
use Rattle.store_parcels.specs.Opening.{opened}

-- the head of the frame of a store
abbrev pub head_named : NamedStore → Head
head_named named = record { kind = Store; client = named.client; number = named.number; entries = named.entries }

-- What a parcel opens to has the head of a store, which is the one that the parcel names.
abbrev pub StoresAreNamed : Type 0
StoresAreNamed = (volume : Volume) (bytes opens : List ℕ) → opened volume bytes ≡ Some opens
    → (named : NamedStore) × (named_store bytes ≡ Some named) × (head_at opens ≡ Some (head_named named))

-- whatever the volumes, what a parcel opens to has one print
abbrev pub PrintsAreOne : Type 0
PrintsAreOne = (volume other : Volume) (bytes opens others : List ℕ) → opened volume bytes ≡ Some opens → opened other bytes ≡ Some others
    → sha256 opens ≡ sha256 others

-- a parcel is a frame of no known kind
abbrev pub ParcelsHaveNoKind : Type 0
ParcelsHaveNoKind = (bytes : List ℕ) → is_parcel bytes ≡ true → frame_of bytes ≡ Err BadKind

-- the frame of a message does not open, and stays as it is
abbrev pub FramesStay : Type 0
FramesStay = (volume : Volume) (message : Message) → IsValid message → opened volume (frame message) ≡ None
