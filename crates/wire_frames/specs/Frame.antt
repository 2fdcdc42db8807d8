-- The frame of each message, and which messages have one.
use Rattle.std.specs.Prelude.{◌≡◌, ℕ, ◌+◌, ◌<◌, ◌^◌, nat_le, ◌==◌, ◌&&◌, ◌||◌, not, Bool, true, List, [], ◌∷◌, ◌++◌, length}
use Rattle.std.specs.Int.{w32, w64}
use Rattle.byte_fields.specs.Field.{digits}
use Rattle.file_paths.specs.Path.{IsPath}
use Rattle.tree_values.specs.Tree.{IsTree}
use Rattle.file_paths.specs.Spelling.{path}
use Rattle.tree_values.specs.Effects.{Conflict}
use Rattle.tree_values.specs.Spelling.{rows}
use Rattle.tree_values.specs.Fault.{tree_fault}
use Rattle.wire_frames.specs.Fault.{UnfitFits, FullFits}
use Rattle.wire_frames.specs.Cause.{cause, CauseFits}
use Rattle.wire_frames.specs.Operation.{operation, OperationFits}
use Rattle.wire_frames.specs.Parts.{parts, PartsFit}
use Rattle.wire_frames.specs.Limits.{max_client}
use Rattle.wire_frames.specs.declared.message.Message.{Message}
use Rattle.wire_frames.specs.declared.message.Message.TheVariants as messages
use Rattle.wire_frames.specs.declared.message.Kind.{Kind}
use Rattle.wire_frames.specs.declared.message.Kind.TheVariants.{Store, Operate, Pull, Accepted, Stale, Unfit, Gap, Snapshot, Done, Declined}
use Rattle.wire_frames.specs.declared.message.Kind.TheVariants.{Full, Malformed}

abbrev pub kind : Message → Kind
kind (messages.Store client number ps) = Store
kind (messages.Operate client entry) = Operate
kind (messages.Pull client number) = Pull
kind (messages.Accepted client number upto) = Accepted
kind (messages.Stale client number upto p theirs ours) = Stale
kind (messages.Unfit client number upto index fault) = Unfit
kind (messages.Gap client number last) = Gap
kind (messages.Snapshot client number last rs) = Snapshot
kind (messages.Done client number) = Done
kind (messages.Declined client number why) = Declined
kind (messages.Full client number upto index fault) = Full
kind (messages.Malformed code offset) = Malformed

-- the client that a message is of or for; no client has number 0
abbrev pub client_of : Message → ℕ
client_of (messages.Store client number ps) = client
client_of (messages.Operate client entry) = client
client_of (messages.Pull client number) = client
client_of (messages.Accepted client number upto) = client
client_of (messages.Stale client number upto p theirs ours) = client
client_of (messages.Unfit client number upto index fault) = client
client_of (messages.Gap client number last) = client
client_of (messages.Snapshot client number last rs) = client
client_of (messages.Done client number) = client
client_of (messages.Declined client number why) = client
client_of (messages.Full client number upto index fault) = client
client_of (messages.Malformed code offset) = 0

abbrev pub number_of : Message → ℕ
number_of (messages.Store client number ps) = number
number_of (messages.Operate client entry) = entry.seq
number_of (messages.Pull client number) = number
number_of (messages.Accepted client number upto) = number
number_of (messages.Stale client number upto p theirs ours) = number
number_of (messages.Unfit client number upto index fault) = number
number_of (messages.Gap client number last) = number
number_of (messages.Snapshot client number last rs) = number
number_of (messages.Done client number) = number
number_of (messages.Declined client number why) = number
number_of (messages.Full client number upto index fault) = number
number_of (messages.Malformed code offset) = 0

-- the byte that tells the kind
abbrev pub code_of : Kind → ℕ
code_of Store = 1
code_of Operate = 2
code_of Pull = 3
code_of Accepted = 17
code_of Stale = 18
code_of Unfit = 19
code_of Gap = 20
code_of Snapshot = 21
code_of Done = 22
code_of Declined = 23
code_of Full = 24
code_of Malformed = 31

-- a path, the server's version and the client's
abbrev pub conflict : Conflict → List ℕ
conflict c = path c.path ++ (digits w64 c.theirs ++ digits w64 c.ours)

-- what stands behind the number
abbrev pub body : Message → List ℕ
body (messages.Store client number ps) = parts ps
body (messages.Operate client entry) = operation entry
body (messages.Pull client number) = []
body (messages.Accepted client number upto) = digits w64 upto
body (messages.Stale client number upto p theirs ours) = digits w64 upto ++ conflict (record { path = p; theirs = theirs; ours = ours })
body (messages.Unfit client number upto index fault) = digits w64 upto ++ (digits w32 index ++ tree_fault fault)
body (messages.Gap client number last) = digits w64 last
body (messages.Snapshot client number last rs) = digits w64 last ++ rows rs
body (messages.Done client number) = []
body (messages.Declined client number why) = cause why
body (messages.Full client number upto index fault) = digits w64 upto ++ (digits w32 index ++ tree_fault fault)
body (messages.Malformed code offset) = code ∷ digits w32 offset

-- the version of the format
abbrev pub frame_version : ℕ
frame_version = 3

-- what follows the length: version, kind, client, number and body
abbrev pub payload : Message → List ℕ
payload m = frame_version ∷ code_of (kind m) ∷ client_of m ∷ digits w64 (number_of m) ++ body m

-- the message's one spelling
abbrev pub frame : Message → List ℕ
frame m = digits w32 (length (payload m)) ++ payload m

-- ---- which messages are valid

-- a message has a client from 1 to the greatest, but for Malformed, which has none
abbrev pub client_rule : Kind → ℕ → Bool
client_rule Malformed client = client == 0
client_rule _ client = nat_le 1 client && nat_le client max_client

-- entries are numbered from 1; a Pull may come before the first
abbrev pub number_rule : Kind → ℕ → Bool
number_rule Pull number = true
number_rule Snapshot number = true
number_rule Malformed number = number == 0
number_rule _ number = nat_le 1 number

-- an offset is told for a faulty field and for bytes that are left over
abbrev pub offset_rule : ℕ → ℕ → Bool
offset_rule code offset = offset == 0 || code == 5 || code == 6

-- an acceptance tells at least its own number
abbrev pub accepted_rule : ℕ → ℕ → Bool
accepted_rule number upto = nat_le number upto

-- a refusal tells at least the number before its own
abbrev pub refused_rule : ℕ → ℕ → Bool
refused_rule number upto = nat_le number (upto + 1)

-- a path, and two versions that differ
abbrev pub ConflictFits : Conflict → Type 0
ConflictFits c = IsPath c.path × (c.theirs < 2 ^ 64) × (c.ours < 2 ^ 64) × (not (c.ours == c.theirs) ≡ true)

-- the number up to which a refusal tells the entries to be taken
abbrev pub RefusedFits : ℕ → ℕ → Type 0
RefusedFits number upto = (upto < 2 ^ 64) × (refused_rule number upto ≡ true)

abbrev pub BodyFits : Message → Type 0
BodyFits (messages.Store client number ps) = PartsFit number ps
BodyFits (messages.Operate client entry) = OperationFits entry
BodyFits (messages.Stale client number upto p theirs ours) =
    RefusedFits number upto × ConflictFits (record { path = p; theirs = theirs; ours = ours })
BodyFits (messages.Unfit client number upto index fault) = RefusedFits number upto × (index < 2 ^ 32) × UnfitFits fault
BodyFits (messages.Full client number upto index fault) = RefusedFits number upto × (index < 2 ^ 32) × FullFits fault
BodyFits (messages.Gap client number last) = (last < 2 ^ 64) × (nat_le (last + 2) number ≡ true)
BodyFits (messages.Snapshot client number last rs) = (last < 2 ^ 64) × IsTree rs
BodyFits (messages.Malformed code offset) =
    (code < 2 ^ 8) × ((nat_le 1 code && nat_le code 7) ≡ true) × (offset < 2 ^ 32) × (offset_rule code offset ≡ true)
BodyFits (messages.Declined client number why) = CauseFits why
BodyFits (messages.Pull client number) = Unit {0}
BodyFits (messages.Accepted client number upto) = (upto < 2 ^ 64) × (accepted_rule number upto ≡ true)
BodyFits (messages.Done client number) = Unit {0}

-- the message keeps all rules, so that it has a frame
pub record IsValid (m : Message) : Type 0 where
  pub client_fits : client_rule (kind m) (client_of m) ≡ true
  pub number_fits : number_rule (kind m) (number_of m) ≡ true
  pub number_small : number_of m < 2 ^ 64
  pub body_fits : BodyFits m

-- the bytes are the message's frame
abbrev pub Spells : Message → List ℕ → Type 0
Spells m bytes = IsValid m × (bytes ≡ frame m)

-- ---- which replies answer a request

-- what a Store may be answered by
abbrev pub AnswersStore : Message → Type 0
AnswersStore (messages.Store client number ps) = ⊥
AnswersStore (messages.Operate client entry) = ⊥
AnswersStore (messages.Pull client number) = ⊥
AnswersStore (messages.Accepted client number upto) = Unit {0}
AnswersStore (messages.Stale client number upto p theirs ours) = Unit {0}
AnswersStore (messages.Unfit client number upto index fault) = Unit {0}
AnswersStore (messages.Gap client number last) = Unit {0}
AnswersStore (messages.Snapshot client number last rs) = ⊥
AnswersStore (messages.Done client number) = ⊥
AnswersStore (messages.Declined client number why) = ⊥
AnswersStore (messages.Full client number upto index fault) = Unit {0}
AnswersStore (messages.Malformed code offset) = ⊥

-- what an Operate may be answered by
abbrev pub AnswersOperation : Message → Type 0
AnswersOperation (messages.Store client number ps) = ⊥
AnswersOperation (messages.Operate client entry) = ⊥
AnswersOperation (messages.Pull client number) = ⊥
AnswersOperation (messages.Accepted client number upto) = ⊥
AnswersOperation (messages.Stale client number upto p theirs ours) = ⊥
AnswersOperation (messages.Unfit client number upto index fault) = ⊥
AnswersOperation (messages.Gap client number last) = ⊥
AnswersOperation (messages.Snapshot client number last rs) = ⊥
AnswersOperation (messages.Done client number) = Unit {0}
AnswersOperation (messages.Declined client number why) = Unit {0}
AnswersOperation (messages.Full client number upto index fault) = ⊥
AnswersOperation (messages.Malformed code offset) = ⊥

-- what a Pull may be answered by
abbrev pub AnswersPull : Message → Type 0
AnswersPull (messages.Store client number ps) = ⊥
AnswersPull (messages.Operate client entry) = ⊥
AnswersPull (messages.Pull client number) = ⊥
AnswersPull (messages.Accepted client number upto) = ⊥
AnswersPull (messages.Stale client number upto p theirs ours) = ⊥
AnswersPull (messages.Unfit client number upto index fault) = ⊥
AnswersPull (messages.Gap client number last) = ⊥
AnswersPull (messages.Snapshot client number last rs) = Unit {0}
AnswersPull (messages.Done client number) = ⊥
AnswersPull (messages.Declined client number why) = ⊥
AnswersPull (messages.Full client number upto index fault) = ⊥
AnswersPull (messages.Malformed code offset) = ⊥

-- what each message may be answered by: a reply by nothing
abbrev pub MayAnswer : Message → Message → Type 0
MayAnswer (messages.Store client number ps) reply = AnswersStore reply
MayAnswer (messages.Operate client entry) reply = AnswersOperation reply
MayAnswer (messages.Pull client number) reply = AnswersPull reply
MayAnswer (messages.Accepted client number upto) reply = ⊥
MayAnswer (messages.Stale client number upto p theirs ours) reply = ⊥
MayAnswer (messages.Unfit client number upto index fault) reply = ⊥
MayAnswer (messages.Gap client number last) reply = ⊥
MayAnswer (messages.Snapshot client number last rs) reply = ⊥
MayAnswer (messages.Done client number) reply = ⊥
MayAnswer (messages.Declined client number why) reply = ⊥
MayAnswer (messages.Full client number upto index fault) reply = ⊥
MayAnswer (messages.Malformed code offset) reply = ⊥

-- how many entries a store carries; 1 for any other message
abbrev pub entry_count : Message → ℕ
entry_count (messages.Store client number ps) = length ps
entry_count (messages.Operate client entry) = 1
entry_count (messages.Pull client number) = 1
entry_count (messages.Accepted client number upto) = 1
entry_count (messages.Stale client number upto p theirs ours) = 1
entry_count (messages.Unfit client number upto index fault) = 1
entry_count (messages.Gap client number last) = 1
entry_count (messages.Snapshot client number last rs) = 1
entry_count (messages.Done client number) = 1
entry_count (messages.Declined client number why) = 1
entry_count (messages.Full client number upto index fault) = 1
entry_count (messages.Malformed code offset) = 1

-- the greatest number of an entry of which a reply to a store speaks: the last that is taken, or the one behind it, which is
-- refused; 0 for any other message
abbrev pub speaks_upto : Message → ℕ
speaks_upto (messages.Accepted client number upto) = upto
speaks_upto (messages.Stale client number upto p theirs ours) = upto + 1
speaks_upto (messages.Unfit client number upto index fault) = upto + 1
speaks_upto (messages.Full client number upto index fault) = upto + 1
speaks_upto (messages.Store client number ps) = 0
speaks_upto (messages.Operate client entry) = 0
speaks_upto (messages.Pull client number) = 0
speaks_upto (messages.Gap client number last) = 0
speaks_upto (messages.Snapshot client number last rs) = 0
speaks_upto (messages.Done client number) = 0
speaks_upto (messages.Declined client number why) = 0
speaks_upto (messages.Malformed code offset) = 0

-- The reply may answer the request, is of its client and its number, and speaks of no entry behind those of the request.
abbrev pub Echoes : Message → Message → Type 0
Echoes request reply = MayAnswer request reply × (client_of request ≡ client_of reply) × (number_of request ≡ number_of reply)
    × (speaks_upto reply < number_of request + entry_count request)
