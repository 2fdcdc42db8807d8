-- What stands before the steps of a parcel: of which store it is, the print of the store's frame, and where the known bytes are.
use Rattle.std.specs.Prelude.{ℕ, ◌==◌, ◌&&◌, nat_le, Bool, List, [], ◌∷◌, ◌++◌, length, take, drop, slice_index, slice_get}
use Rattle.std.specs.Prelude.{Option, None, if◌then◌else◌}
use Rattle.std.specs.Int.{w16, w64, from_be_bytes}
use Rattle.std.specs.List.{flat_map}
use Rattle.std.specs.Option.{option_map, option_and_then}
use Rattle.std.specs.Result.{result_ok}
use Rattle.byte_fields.specs.Field.{Reader, ◌>>=◌, ruled, two, digits, span_at, number_at, each_at}
use Rattle.file_paths.specs.Path.{FilePath}
use Rattle.file_paths.specs.Spelling.{path}
use Rattle.file_paths.specs.Reading.{path_at}
use Rattle.wire_frames.specs.Frame.{frame_version}
use Rattle.wire_frames.specs.Reading.{is_sized}
use Rattle.store_parcels.specs.Limits.{max_sources}
use Rattle.store_parcels.specs.declared.front.NamedStore.{NamedStore}
use Rattle.store_parcels.specs.declared.front.Front.{Front}

-- the byte that tells the kind of a parcel; no message has it
abbrev pub parcel_kind : ℕ
parcel_kind = 5

-- as long as it says, of this version, and of the kind of parcels
abbrev pub is_parcel : List ℕ → Bool
is_parcel bytes = is_sized bytes && (slice_index bytes 4 == frame_version && slice_index bytes 5 == parcel_kind)

-- ---- spelling

-- the client, the number of the first entry, and how many entries there are
abbrev pub store : NamedStore → List ℕ
store named = named.client ∷ (digits w64 named.number ++ named.entries ∷ [])

-- paths, behind their number
abbrev pub sources : List FilePath → List ℕ
sources paths = digits w16 (length paths) ++ flat_map path paths

-- the store, the print of its frame, and the paths of the files whose contents are known
abbrev pub front : Front → List ℕ
front f = store f.store ++ (f.print ++ sources f.sources)

-- ---- reading

-- the client at byte 6, the number in the eight bytes behind it, and so many entries
abbrev pub store_with : List ℕ → ℕ → NamedStore
store_with bytes entries = record { client = slice_index bytes 6; number = from_be_bytes w64 (take 8 (drop 7 bytes)); entries = entries }

-- the store that a parcel names, whose entries are counted by the byte behind the number
abbrev pub named_store : List ℕ → Option NamedStore
named_store bytes = if is_parcel bytes then option_map (store_with bytes) (slice_get bytes 15) else None

-- so many paths
unfoldable pub paths_at : ℕ → Reader (List FilePath)
paths_at count = each_at {S = Unit {0}} {A = FilePath} (λ state. path_at) (λ state x. state) count tt

-- paths, behind their number, which is no greater than a parcel's may be
unfoldable pub sources_at : Reader (List FilePath)
sources_at bytes at = do
  count ← ruled (λ n. nat_le n max_sources) (number_at w16) bytes at
  paths_at count.0 bytes count.1

-- what stands behind the store
unfoldable pub front_at : NamedStore → Reader Front
front_at store =
    two (span_at 32) (λ print. sources_at) (λ print sources. record { store = store; print = print; sources = sources })

-- the front of a parcel, and where its steps begin
abbrev pub front_of : List ℕ → Option (Front × ℕ)
front_of bytes = option_and_then (λ store. result_ok (front_at store bytes 16)) (named_store bytes)
