-- What stands before a frame's body, and how many entries a store carries.
use Rattle.std.specs.Prelude.{◌≡◌, ℕ, ◌+◌, ◌<◌, nat_le, List, length, take, drop, slice_index, if◌then◌else◌, Option, None, option_map}
use Rattle.std.specs.Int.{w64, from_be_bytes}
use Rattle.wire_frames.specs.declared.message.Message.{Message}
use Rattle.wire_frames.specs.declared.message.Kind.{Kind}
use Rattle.wire_frames.specs.declared.message.Kind.TheVariants.{Store}
use Rattle.wire_frames.specs.declared.head.Head.{Head}
use Rattle.wire_frames.specs.Frame.{kind, client_of, number_of, entry_count, speaks_upto}
use Rattle.wire_frames.specs.Reading.{kind_of}
use Rattle.wire_frames.specs.Laws.{IsReplyKind}

-- of which kind a message is, of which client and of which number, and how many entries it carries
abbrev pub head_of : Message → Head
head_of m = record { kind = kind m; client = client_of m; number = number_of m; entries = entry_count m }

-- the entries of a store are counted by the byte behind the number
abbrev pub entries_told : List ℕ → Kind → ℕ
entries_told bytes Store = slice_index bytes 15
entries_told bytes _ = 1

-- a kind, the client at byte 6, the number in the eight bytes behind it, and how many entries it carries
abbrev pub head_with : List ℕ → Kind → Head
head_with bytes kind = record {
  kind = kind;
  client = slice_index bytes 6;
  number = from_be_bytes w64 (take 8 (drop 7 bytes));
  entries = entries_told bytes kind;
}

-- what the bytes say between the version and the body, whatever stands around it
abbrev pub head_at : List ℕ → Option Head
head_at bytes = if nat_le 15 (length bytes) then option_map (head_with bytes) (kind_of (slice_index bytes 5)) else None

-- The reply's kind answers that of the head, it is of the head's client and number, and it speaks of no entry behind the head's.
abbrev pub IsEchoedBy : Head → Message → Type 0
IsEchoedBy head reply = IsReplyKind head.kind (kind reply) × (head.client ≡ client_of reply) × (head.number ≡ number_of reply)
    × (speaks_upto reply < head.number + head.entries)
