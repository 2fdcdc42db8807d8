-- What a parcel opens to, where a volume stands.
use Rattle.std.specs.Prelude.{ℕ, ◌+◌, ◌==◌, ◌&&◌, Bool, false, true, nat_le, List, [], ◌∷◌, ◌++◌, length, drop}
use Rattle.std.specs.Prelude.{Option, Some, None, if◌then◌else◌}
use Rattle.std.specs.Option.{option_map, option_and_then}
use Rattle.std.specs.Result.{result_ok}
use Rattle.std.specs.Str.{bytes_eq}
use Rattle.sha2.specs.Sha256.{sha256}
use Rattle.file_paths.specs.Path.{FilePath}
use Rattle.tree_values.specs.declared.node.Node.{Node}
use Rattle.tree_values.specs.declared.node.Node.TheVariants.{Folder, File}
use Rattle.tree_values.specs.Limits.{max_files}
use Rattle.tree_values.specs.Tree.{Volume, node_at}
use Rattle.wire_frames.specs.Limits.{max_frame}
use Rattle.wire_frames.specs.Head.{head_at}
use Rattle.wire_frames.specs.declared.head.Head.{Head}
use Rattle.wire_frames.specs.declared.message.Kind.{Kind}
use Rattle.wire_frames.specs.declared.message.Kind.TheVariants.{Store}
use Rattle.delta_pieces.specs.declared.pieces.Step.{Step}
use Rattle.delta_pieces.specs.Making.{expanded, at_start}
use Rattle.short_numbers.specs.Numbers.{first_number}
use Rattle.step_spelling.specs.Reading.{steps_read}
use Rattle.store_parcels.specs.declared.front.NamedStore.{NamedStore}
use Rattle.store_parcels.specs.declared.front.Front.{Front}
use Rattle.store_parcels.specs.Limits.{max_steps}
use Rattle.store_parcels.specs.Front.{front_of}

-- ---- the known bytes

-- the content of a file; a folder has none
abbrev pub content_of : Node → Option (List ℕ)
content_of Folder = None
content_of (File content exec) = Some content

-- the content of the file at a path
abbrev pub file_at : Volume → FilePath → Option (List ℕ)
file_at volume path = option_and_then content_of (node_at volume path)

-- the contents of the files at these paths, one behind the other
abbrev pub joined : Volume → List FilePath → Option (List ℕ)
joined volume [] = Some []
joined volume (path ∷ paths) =
    option_and_then (λ content. option_map (λ others. content ++ others) (joined volume paths)) (file_at volume path)

-- bytes, where they are no more than a tree has
abbrev pub few : List ℕ → Option (List ℕ)
few bytes = if nat_le (length bytes) max_files then Some bytes else None

-- the same, where they are together no more than a tree has
abbrev pub known_in : Volume → List FilePath → Option (List ℕ)
known_in volume paths = option_and_then few (joined volume paths)

-- ---- the frame

-- what steps and new bytes make over known bytes, behind these, at most as many as a frame has
abbrev pub made_by : List ℕ → List Step × List ℕ → Option (List ℕ)
made_by known pieces =
    option_map (drop (length known)) (result_ok (expanded (length known + max_frame) 0 pieces.0 (at_start known pieces.1)))

abbrev pub few_told : Option (ℕ × List ℕ) → Bool
few_told None = false
few_told (Some told) = nat_le told.0 max_steps

-- whether the number at the front is no greater than that of a parcel's steps may be
abbrev pub tells_few : List ℕ → Bool
tells_few bytes = few_told (first_number bytes)

-- the same of bytes that spell steps, and behind them the new bytes
abbrev pub made_of : List ℕ → List ℕ → Option (List ℕ)
made_of known bytes = if tells_few bytes then option_and_then (made_by known) (steps_read (length known) bytes) else None

abbrev pub is_store_kind : Kind → Bool
is_store_kind Store = true
is_store_kind _ = false

-- whether a head is that of the store
abbrev pub is_head_of : NamedStore → Option Head → Bool
is_head_of named None = false
is_head_of named (Some head) =
    is_store_kind head.kind && (head.client == named.client && (head.number == named.number && head.entries == named.entries))

-- whether a frame is the one that the front names: it has this print, and is of this store
abbrev pub is_frame_of : Front → List ℕ → Bool
is_frame_of front frame = bytes_eq (sha256 frame) front.print && is_head_of front.store (head_at frame)

-- a frame, where it is the one that the front names
abbrev pub if_named : Front → List ℕ → Option (List ℕ)
if_named front frame = if is_frame_of front frame then Some frame else None

-- what the bytes behind a front open to
abbrev pub opened_behind : Volume → Front → List ℕ → Option (List ℕ)
opened_behind volume front bytes =
    option_and_then (λ known. option_and_then (if_named front) (made_of known bytes)) (known_in volume front.sources)

-- The frame that a parcel opens to over a volume; none where the bytes are no parcel, or anything of it is faulty.
abbrev pub opened : Volume → List ℕ → Option (List ℕ)
opened volume bytes = option_and_then (λ x. opened_behind volume x.0 (drop x.1 bytes)) (front_of bytes)
