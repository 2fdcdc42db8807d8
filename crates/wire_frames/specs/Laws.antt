-- Which frames are refused, and why: the refusals of a header, and what is left over. Which operations stand for which
-- stores. Which replies answer a request.
use Rattle.std.specs.Prelude.{◌≡◌, ◌≢◌, ◌↔◌, ℕ, ◌+◌, ◌-◌, ◌≤◌, ◌<◌, ◌++◌, false, true, List, [], ◌∷◌, length, take, drop, slice_index, Err}
use Rattle.std.specs.Int.{w32}
use Rattle.byte_fields.specs.Field.{digits}
use Rattle.byte_fields.specs.Codec.{IsBytes}
use Rattle.byte_fields.specs.Cuts.{start_of}
use Rattle.tree_values.specs.declared.node.Effect.{Effect}
use Rattle.mod_log.specs.declared.log.Entry.{Entry}
use Rattle.mod_log.specs.declared.sketching.SketchEntry.{SketchEntry}
use Rattle.mod_log.specs.Origin.{MadeByFits}
use Rattle.mod_log.specs.Sketched.{AllFill, IsSketchOf}
use Rattle.wire_frames.specs.declared.message.TheConstants.{MAX_FRAME, CLIENTS}
use Rattle.wire_frames.specs.declared.parts.TheConstants.{MAX_PARTS}
use Rattle.wire_frames.specs.declared.message.Message.{Message}
use Rattle.wire_frames.specs.declared.message.Message.TheVariants as messages
use Rattle.wire_frames.specs.declared.message.Kind.{Kind}
use Rattle.wire_frames.specs.declared.message.Kind.TheVariants.{Store, Operate, Pull, Accepted, Stale, Unfit, Gap, Snapshot, Done, Declined}
use Rattle.wire_frames.specs.declared.message.Kind.TheVariants.{Full}
use Rattle.wire_frames.specs.declared.message.FrameError.TheVariants.{BadLength, BadVersion, BadKind, BadClient, BadField, Trailing}
use Rattle.wire_frames.specs.Limits.{max_frame, max_parts, max_client}
use Rattle.wire_frames.specs.Frame.{frame_version, kind, client_of, number_of, code_of, client_rule, frame, IsValid}
use Rattle.wire_frames.specs.Frame.{entry_count, speaks_upto, Echoes}
use Rattle.wire_frames.specs.Parts.{part_of}
use Rattle.wire_frames.specs.Fields.{message_fields}
use Rattle.wire_frames.specs.Reading.{is_sized, frame_of}

-- the limits of the code are those of these definitions
pub record LimitsAgree : Type 0 where
  pub frames_are : MAX_FRAME ≡ max_frame
  pub parts_are : MAX_PARTS ≡ max_parts
  pub clients_are : CLIENTS ≡ max_client

-- the bytes are as long as they say, and of this version
pub record HasVersion (bytes : List ℕ) : Type 0 where
  pub sized : is_sized bytes ≡ true
  pub version : slice_index bytes 4 ≡ frame_version

-- the length is refused exactly where the bytes are too few, too many, or not as many as they say
abbrev pub LengthIsFirst : Type 0
LengthIsFirst = (bytes : List ℕ) → (frame_of bytes ≡ Err BadLength) ↔ (is_sized bytes ≡ false)

-- the version is refused exactly where the length stands and it is another
abbrev pub VersionIsSecond : Type 0
VersionIsSecond = (bytes : List ℕ) → (frame_of bytes ≡ Err BadVersion) ↔ ((is_sized bytes ≡ true) × (slice_index bytes 4 ≢ frame_version))

-- the kind is refused exactly where the version stands and no kind has this code
abbrev pub KindIsThird : Type 0
KindIsThird = (bytes : List ℕ) → (frame_of bytes ≡ Err BadKind) ↔ (HasVersion bytes × ((kind : Kind) → code_of kind ≢ slice_index bytes 5))

-- the client is refused exactly where a kind has this code and takes no such client
abbrev pub ClientIsFourth : Type 0
ClientIsFourth = (bytes : List ℕ) → (frame_of bytes ≡ Err BadClient)
    ↔ (HasVersion bytes × ((kind : Kind) × (code_of kind ≡ slice_index bytes 5) × (client_rule kind (slice_index bytes 6) ≡ false)))

-- a faulty field begins behind the client
abbrev pub FieldsAreBehindTheClient : Type 0
FieldsAreBehindTheClient =
    (bytes : List ℕ) (place : ℕ) → IsBytes bytes → frame_of bytes ≡ Err (BadField place) → (7 ≤ place) × (place ≤ length bytes)

-- what is left over stands behind the fields of a valid message
abbrev pub MessagesStandBeforeWhatIsLeft : Type 0
MessagesStandBeforeWhatIsLeft = (bytes : List ℕ) (place : ℕ) → IsBytes bytes → frame_of bytes ≡ Err (Trailing place)
    → (place < length bytes) × ((message : Message) × IsValid message × (drop 4 (frame message) ≡ drop 4 (take place bytes)))

-- A valid message's frame that is cut short, and says its new length, is refused at the field in which it ends.
abbrev pub CutFramesNameTheField : Type 0
CutFramesNameTheField = (message : Message) (end : ℕ) → IsValid message → 15 ≤ end → end < length (frame message)
    → frame_of (take end (digits w32 (end - 4) ++ drop 4 (frame message))) ≡ Err
    (BadField (7 + start_of (end - 7) (message_fields message)))

-- ---- operations beside stores

-- what fills the sketches of a valid operation is, with the operation's number and bases, a valid store of one entry
abbrev pub FilledStoresAreValid : Type 0
FilledStoresAreValid = (client : ℕ) (sketched : SketchEntry) (effects : List Effect) → IsValid (messages.Operate client sketched)
    → AllFill sketched.effects effects
    → IsValid (messages.Store client sketched.seq (part_of effects sketched.base ∷ []))

-- an entry that has a valid store of its own has a valid operation, if a command made it
abbrev pub SketchedStoresAreValid : Type 0
SketchedStoresAreValid = (client : ℕ) (entry : Entry) (sketched : SketchEntry)
    → IsValid (messages.Store client entry.seq (part_of entry.effects entry.base ∷ [])) → MadeByFits entry.origin
    → IsSketchOf entry sketched → IsValid (messages.Operate client sketched)

-- ---- replies

-- the kinds of the replies to a request of each kind
abbrev pub IsReplyKind : Kind → Kind → Type 0
IsReplyKind Store Accepted = Unit {0}
IsReplyKind Store Stale = Unit {0}
IsReplyKind Store Unfit = Unit {0}
IsReplyKind Store Gap = Unit {0}
IsReplyKind Store Full = Unit {0}
IsReplyKind Operate Done = Unit {0}
IsReplyKind Operate Declined = Unit {0}
IsReplyKind Pull Snapshot = Unit {0}
IsReplyKind _ _ = ⊥

-- A reply answers a request exactly where its kind answers the request's, it is of its client and its number, and it speaks of no
-- entry behind those of the request.
abbrev pub KindsDecideReplies : Type 0
KindsDecideReplies = (request reply : Message)
    → Echoes request reply
    ↔ (IsReplyKind (kind request) (kind reply) × (client_of request ≡ client_of reply) × (number_of request ≡ number_of reply)
    × (speaks_upto reply < number_of request + entry_count request))
