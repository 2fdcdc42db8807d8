-- The frames of valid messages are bytes.
use Rattle.std.proofs.Common.{◌≡◌, ℕ, ◌<◌, true, ◌&&◌, leb, List, ◌∷◌, ◌++◌, length, arith}
use Rattle.std.specs.Int.{w32, w64}
use Rattle.byte_fields.specs.Field.{digits}
use Rattle.byte_fields.specs.Codec.{IsBytes}
use Rattle.byte_fields.proofs.Facts.{and_of, le_of, eq_of, no_bytes, byte_before, bytes_appended, four_are_bytes, eight_are_bytes}
use Rattle.file_paths.specs.Spelling.{path}
use Rattle.file_paths.proofs.SpelledBytes.{path_is_bytes}
use Rattle.tree_values.specs.Spelling.{rows}
use Rattle.tree_values.specs.Fault.{tree_fault}
use Rattle.tree_laws.proofs.SpelledBytes.{rows_are_bytes, fault_is_bytes}
use Rattle.wire_frames.specs.declared.message.Message.{Message}
use Rattle.wire_frames.specs.declared.message.Message.TheVariants as messages
use Rattle.wire_frames.specs.declared.message.Kind.{Kind}
use Rattle.wire_frames.specs.declared.message.Kind.TheVariants.{Store, Operate, Pull, Accepted, Stale, Unfit, Gap, Snapshot, Done, Declined, Full, Malformed}
use Rattle.wire_frames.specs.Frame.{frame_version, kind, client_of, number_of, code_of, body, payload, frame, client_rule, BodyFits, IsValid}
use Rattle.wire_frames.proofs.FaultLaws.{unfit_fits, full_fits}
use Rattle.wire_frames.proofs.CauseLaws.{cause_is_bytes}
use Rattle.wire_frames.proofs.OperationLaws.{operation_is_bytes}
use Rattle.wire_frames.proofs.PartLaws.{parts_are_bytes}

code_is_byte : (k : Kind) → code_of k < 256
code_is_byte Store = omega arith
code_is_byte Operate = omega arith
code_is_byte Pull = omega arith
code_is_byte Accepted = omega arith
code_is_byte Stale = omega arith
code_is_byte Unfit = omega arith
code_is_byte Gap = omega arith
code_is_byte Snapshot = omega arith
code_is_byte Done = omega arith
code_is_byte Declined = omega arith
code_is_byte Full = omega arith
code_is_byte Malformed = omega arith

low_client : (client : ℕ) → (leb 1 client && leb client 64) ≡ true → client < 256
low_client client rule = omega (arith, le_of client 64 (and_of (leb 1 client) (leb client 64) rule).1)

client_is_byte : (k : Kind) (client : ℕ) → client_rule k client ≡ true → client < 256
client_is_byte Malformed client rule = omega (arith, eq_of client 0 rule)
client_is_byte Store client rule = low_client client rule
client_is_byte Operate client rule = low_client client rule
client_is_byte Pull client rule = low_client client rule
client_is_byte Accepted client rule = low_client client rule
client_is_byte Stale client rule = low_client client rule
client_is_byte Unfit client rule = low_client client rule
client_is_byte Gap client rule = low_client client rule
client_is_byte Snapshot client rule = low_client client rule
client_is_byte Done client rule = low_client client rule
client_is_byte Declined client rule = low_client client rule
client_is_byte Full client rule = low_client client rule

body_is_bytes : (m : Message) → BodyFits m → IsBytes (body m)
body_is_bytes (messages.Store client number ps) fits = parts_are_bytes number ps fits
body_is_bytes (messages.Operate client entry) fits = operation_is_bytes entry fits
body_is_bytes (messages.Pull client number) fits = no_bytes
body_is_bytes (messages.Accepted client number upto) fits = eight_are_bytes upto
body_is_bytes (messages.Stale client number upto p theirs ours) fits =
    bytes_appended (digits w64 upto) (path p ++ (digits w64 theirs ++ digits w64 ours)) (eight_are_bytes upto)
    (bytes_appended (path p) (digits w64 theirs ++ digits w64 ours) (path_is_bytes p fits.1.0)
    (bytes_appended (digits w64 theirs) (digits w64 ours) (eight_are_bytes theirs) (eight_are_bytes ours)))
body_is_bytes (messages.Unfit client number upto index fault) fits =
    bytes_appended (digits w64 upto) (digits w32 index ++ tree_fault fault) (eight_are_bytes upto)
    (bytes_appended (digits w32 index) (tree_fault fault) (four_are_bytes index) (fault_is_bytes fault (unfit_fits fault fits.2).0))
body_is_bytes (messages.Gap client number last) fits = eight_are_bytes last
body_is_bytes (messages.Snapshot client number last rs) fits =
    bytes_appended (digits w64 last) (rows rs) (eight_are_bytes last) (rows_are_bytes rs fits.1)
body_is_bytes (messages.Done client number) fits = no_bytes
body_is_bytes (messages.Declined client number why) fits = cause_is_bytes why fits
body_is_bytes (messages.Full client number upto index fault) fits =
    bytes_appended (digits w64 upto) (digits w32 index ++ tree_fault fault) (eight_are_bytes upto)
    (bytes_appended (digits w32 index) (tree_fault fault) (four_are_bytes index) (fault_is_bytes fault (full_fits fault fits.2).0))
body_is_bytes (messages.Malformed code offset) fits = byte_before code (digits w32 offset) (omega (arith, fits.0)) (four_are_bytes offset)

pub frame_is_bytes : (m : Message) → IsValid m → IsBytes (frame m)
frame_is_bytes m valid =
    let behind : List ℕ = digits w64 (number_of m) ++ body m in
    let rest : IsBytes behind = bytes_appended (digits w64 (number_of m)) (body m) (eight_are_bytes (number_of m)) (body_is_bytes m valid.body_fits) in
    let of_client : IsBytes (client_of m ∷ behind) = byte_before (client_of m) behind (client_is_byte (kind m) (client_of m) valid.client_fits) rest in
    let of_kind : IsBytes (code_of (kind m) ∷ client_of m ∷ behind) = byte_before (code_of (kind m)) (client_of m ∷ behind) (code_is_byte (kind m)) of_client in
    let told : IsBytes (payload m) = byte_before frame_version (code_of (kind m) ∷ client_of m ∷ behind) (omega arith) of_kind in
    bytes_appended (digits w32 (length (payload m))) (payload m) (four_are_bytes (length (payload m))) told
