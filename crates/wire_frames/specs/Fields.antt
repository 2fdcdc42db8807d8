-- The fields of a message behind its client in their order, given by their numbers of bytes.
use Rattle.std.specs.Prelude.{ℕ, List, [], ◌∷◌, ◌++◌}
use Rattle.file_paths.specs.Fields.{path_fields}
use Rattle.tree_values.specs.Fields.{rows_fields}
use Rattle.tree_values.specs.Fault.{fault_fields}
use Rattle.wire_frames.specs.Cause.{cause_fields}
use Rattle.wire_frames.specs.Operation.{operation_fields}
use Rattle.wire_frames.specs.Parts.{parts_fields}
use Rattle.wire_frames.specs.declared.message.Message.{Message}
use Rattle.wire_frames.specs.declared.message.Message.TheVariants as messages

-- the fields of the body
abbrev pub body_fields : Message → List ℕ
body_fields (messages.Store client number ps) = parts_fields ps
body_fields (messages.Operate client entry) = operation_fields entry
body_fields (messages.Pull client number) = []
body_fields (messages.Accepted client number upto) = 8 ∷ []
body_fields (messages.Stale client number upto p theirs ours) = 8 ∷ path_fields p ++ (8 ∷ 8 ∷ [])
body_fields (messages.Unfit client number upto index fault) = 8 ∷ 4 ∷ fault_fields fault
body_fields (messages.Gap client number last) = 8 ∷ []
body_fields (messages.Snapshot client number last rs) = 8 ∷ rows_fields rs
body_fields (messages.Done client number) = []
body_fields (messages.Declined client number why) = cause_fields why
body_fields (messages.Full client number upto index fault) = 8 ∷ 4 ∷ fault_fields fault
body_fields (messages.Malformed code offset) = 1 ∷ 4 ∷ []

-- the number, and the fields of the body
abbrev pub message_fields : Message → List ℕ
message_fields m = 8 ∷ body_fields m
