-- Reading a frame: the first refusal that fits, or the message.
use Rattle.std.specs.Prelude.{ℕ, ◌+◌, nat_le, ◌==◌, ◌&&◌, not, Bool, List, [], ◌∷◌, length, take, slice_index, Option, Some, None, Result}
use Rattle.std.specs.Prelude.{Ok, Err, if◌then◌else◌}
use Rattle.std.specs.Int.{w8, w32, w64, from_be_bytes}
use Rattle.std.specs.List.{find}
use Rattle.byte_fields.specs.Field.{Reader, Answers, none, one, two, three, ◌>>=◌, ruled, number_at}
use Rattle.tree_values.specs.Effects.{Conflict}
use Rattle.file_paths.specs.Reading.{path_at}
use Rattle.tree_values.specs.Reading.{rows_at}
use Rattle.wire_frames.specs.Fault.{unfit_fault_at, full_fault_at}
use Rattle.wire_frames.specs.Cause.{cause_at}
use Rattle.wire_frames.specs.Operation.{operation_at}
use Rattle.wire_frames.specs.Parts.{parts_at}
use Rattle.wire_frames.specs.Limits.{max_frame}
use Rattle.wire_frames.specs.declared.message.Message.{Message}
use Rattle.wire_frames.specs.declared.message.Message.TheVariants as messages
use Rattle.wire_frames.specs.declared.message.Kind.{Kind}
use Rattle.wire_frames.specs.declared.message.Kind.TheVariants.{Store, Operate, Pull, Accepted, Stale, Unfit, Gap, Snapshot, Done, Declined}
use Rattle.wire_frames.specs.declared.message.Kind.TheVariants.{Full, Malformed}
use Rattle.wire_frames.specs.declared.message.FrameError.{FrameError}
use Rattle.wire_frames.specs.declared.message.FrameError.TheVariants.{BadLength, BadVersion, BadKind, BadClient, BadField, Trailing, Memory}
use Rattle.wire_frames.specs.Frame.{frame_version, code_of, client_rule, number_rule, offset_rule, accepted_rule, refused_rule}

-- the entries, numbered on from the message's number
unfoldable pub store_at : ℕ → ℕ → Reader Message
store_at client number = one (parts_at number) (messages.Store client number)

-- the operation, whose number is the message's
unfoldable pub operate_at : ℕ → ℕ → Reader Message
operate_at client number = one (operation_at number) (messages.Operate client)

-- the number up to which entries were taken, at least the message's
unfoldable pub accepted_at : ℕ → ℕ → Reader Message
accepted_at client number = one (ruled (accepted_rule number) (number_at w64)) (messages.Accepted client number)

-- the number up to which entries were taken before one was refused, at least the one before the message's
unfoldable pub refused_upto : ℕ → Reader ℕ
refused_upto number = ruled (refused_rule number) (number_at w64)

-- the path, the server's version and the client's, which is another
unfoldable pub conflict_at : Reader Conflict
conflict_at bytes at = do
  path ← path_at bytes at
  theirs ← number_at w64 bytes path.1
  ours ← ruled (λ n. not (n == theirs.0)) (number_at w64) bytes theirs.1
  Ok (record { path = path.0; theirs = theirs.0; ours = ours.0 }, ours.1)

-- the number up to which entries were taken, and the first path that is out of date
unfoldable pub stale_at : ℕ → ℕ → Reader Message
stale_at client number =
    two (refused_upto number) (λ _. conflict_at) (λ upto c. messages.Stale client number upto c.path c.theirs c.ours)

-- the number up to which entries were taken, the index of the effect, and why it was refused for another cause than want of room
unfoldable pub unfit_at : ℕ → ℕ → Reader Message
unfit_at client number =
    three (refused_upto number) (λ _. number_at w32) (λ _ _. unfit_fault_at) (messages.Unfit client number)

-- the client's last accepted number, and the rows
unfoldable pub snapshot_at : ℕ → ℕ → Reader Message
snapshot_at client number = two (number_at w64) (λ _. rows_at) (messages.Snapshot client number)

-- the number up to which entries were taken, the index of the effect, and why there was no room for it
unfoldable pub full_at : ℕ → ℕ → Reader Message
full_at client number =
    three (refused_upto number) (λ _. number_at w32) (λ _ _. full_fault_at) (messages.Full client number)

-- why the operation is not carried out
unfoldable pub declined_at : ℕ → ℕ → Reader Message
declined_at client number = one cause_at (messages.Declined client number)

-- the last accepted number, the one after which is below the message's
unfoldable pub gap_at : ℕ → ℕ → Reader Message
gap_at client number bytes at = do
  last ← ruled (λ n. nat_le (n + 2) number) (number_at w64) bytes at
  Ok (messages.Gap client number last.0, last.1)

-- the code of the refusal, and the place that it names
unfoldable pub malformed_at : Reader Message
malformed_at bytes at = do
  code ← ruled (λ n. nat_le 1 n && nat_le n 7) (number_at w8) bytes at
  offset ← ruled (offset_rule code.0) (number_at w32) bytes code.1
  Ok (messages.Malformed code.0 offset.0, offset.1)

-- what stands behind the number, kind by kind
abbrev pub body_at : Kind → ℕ → ℕ → Reader Message
body_at Store client number = store_at client number
body_at Operate client number = operate_at client number
body_at Pull client number = none (messages.Pull client number)
body_at Accepted client number = accepted_at client number
body_at Stale client number = stale_at client number
body_at Unfit client number = unfit_at client number
body_at Full client number = full_at client number
body_at Gap client number = gap_at client number
body_at Snapshot client number = snapshot_at client number
body_at Done client number = none (messages.Done client number)
body_at Declined client number = declined_at client number
body_at Malformed client number = malformed_at

-- the number and the body
unfoldable pub message_at : Kind → ℕ → Reader Message
message_at kind client bytes at = do
  number ← ruled (number_rule kind) (number_at w64) bytes at
  body_at kind client number.0 bytes number.1

-- all kinds
abbrev pub kinds : List Kind
kinds = Store ∷ Operate ∷ Pull ∷ Accepted ∷ Stale ∷ Unfit ∷ Gap ∷ Snapshot ∷ Done ∷ Declined ∷ Full ∷ Malformed ∷ []

-- the kind with this code
abbrev pub kind_of : ℕ → Option Kind
kind_of code = find (λ k. code_of k == code) kinds

-- the message, where nothing is left over
abbrev pub whole : List ℕ → Result (Message × ℕ) ℕ → Result Message FrameError
whole bytes (Ok x) = if x.1 == length bytes then Ok x.0 else Err (Trailing x.1)
whole bytes (Err place) = Err (BadField place)

-- a message of this kind, behind the client's number at byte 6
abbrev pub message_of_kind : Option Kind → List ℕ → Result Message FrameError
message_of_kind None bytes = Err BadKind
message_of_kind (Some kind) bytes =
    let client = slice_index bytes 6 in
    if client_rule kind client then whole bytes (message_at kind client bytes 7) else Err BadClient

-- 15 bytes to the most that a frame has, the first four of which count those behind them
abbrev pub is_sized : List ℕ → Bool
is_sized bytes =
    nat_le 15 (length bytes) && nat_le (length bytes) max_frame && from_be_bytes w32 (take 4 bytes) + 4 == length bytes

-- the message that the bytes spell, or the first refusal: of the length, the version, the kind, the client, a field,
-- and what is left over
unfoldable pub frame_of : List ℕ → Result Message FrameError
frame_of bytes =
    if is_sized bytes then
    (if slice_index bytes 4 == frame_version then message_of_kind (kind_of (slice_index bytes 5)) bytes else Err BadVersion)
    else Err BadLength

-- the refusal that an error names; want of memory is none
abbrev pub frame_refusal_of : FrameError → Option FrameError
frame_refusal_of Memory = None
frame_refusal_of e = Some e

-- what a call returned is what the bytes come to, unless memory ran out
abbrev pub GivesFrame : Result Message FrameError → Result Message FrameError → Type 0
GivesFrame = Answers (λ m. m) frame_refusal_of
