-- The head of a frame is its message's.
use Rattle.std.proofs.Common.{◌≡◌, ◌↔◌, ℕ, ◌^◌, ◌<◌, Bool, true, leb, List, length, get_or, take, drop, Some, refl, ap, subst, ◌∙◌, arith}
use Rattle.std.specs.Prelude.{IsTrue}
use Rattle.std.specs.Int.{w64, from_be_bytes}
use Rattle.std.proofs.lemmas.Bool.{le-leb}
use Rattle.std.proofs.lemmas.Nat.{from_be_bytes-to_be_bytes_8}
use Rattle.byte_fields.specs.Field.{digits}
use Rattle.wire_frames.specs.declared.message.Message.{Message}
use Rattle.wire_frames.specs.declared.head.Head.{Head}
use Rattle.wire_frames.specs.declared.message.Message.TheVariants as messages
use Rattle.wire_frames.specs.Frame.{kind, client_of, number_of, entry_count, code_of, frame, IsValid, Spells, Echoes}
use Rattle.wire_frames.specs.Head.{head_of, head_at, entries_told, IsEchoedBy}
use Rattle.wire_frames.proofs.Frames.{kind_again}
use Rattle.wire_frames.proofs.Echoing.{kinds_decide}

number_again : (n : ℕ) → n < 2 ^ 64 → from_be_bytes w64 (digits w64 n) ≡ n
unfolding digits
number_again n small = from_be_bytes-to_be_bytes_8 n small

head_by : (bytes : List ℕ) (m : Message) → leb 15 (length bytes) ≡ true → get_or bytes 5 0 ≡ code_of (kind m) → get_or bytes 6 0 ≡ client_of m
    → take 8 (drop 7 bytes) ≡ digits w64 (number_of m) → number_of m < 2 ^ 64 → entries_told bytes (kind m) ≡ entry_count m → head_at bytes ≡ Some (head_of m)
head_by bytes m long code client number small entries =
    rw (long, code, kind_again (kind m), client, number, number_again (number_of m) small, entries) refl

-- behind the number of a store's frame stands how many entries it carries
told_again : (m : Message) → entries_told (frame m) (kind m) ≡ entry_count m
unfolding digits
told_again (messages.Store client number ps) = refl
told_again (messages.Operate client entry) = refl
told_again (messages.Pull client number) = refl
told_again (messages.Accepted client number upto) = refl
told_again (messages.Stale client number upto p theirs ours) = refl
told_again (messages.Unfit client number upto index fault) = refl
told_again (messages.Gap client number last) = refl
told_again (messages.Snapshot client number last rs) = refl
told_again (messages.Done client number) = refl
told_again (messages.Declined client number why) = refl
told_again (messages.Full client number upto index fault) = refl
told_again (messages.Malformed code offset) = refl

head_again : (m : Message) → IsValid m → head_at (frame m) ≡ Some (head_of m)
unfolding digits
head_again m valid = head_by (frame m) m (le-leb 15 (length (frame m)) (omega arith)) refl refl refl valid.number_small (told_again m)

pub head_is_told : (bytes : List ℕ) (m : Message) → Spells m bytes → head_at bytes ≡ Some (head_of m)
head_is_told bytes m spells = ap head_at spells.1 ∙ head_again m spells.0

pub echoes_head : (request reply : Message) → Echoes request reply ↔ IsEchoedBy (head_of request) reply
echoes_head = kinds_decide

pub echoed : (request reply : Message) (head : Head) (fits : Bool) → head ≡ head_of request → (IsTrue fits ↔ IsEchoedBy head reply)
    → IsTrue fits ↔ Echoes request reply
echoed request reply head fits is tells =
    let told : IsTrue fits ↔ IsEchoedBy (head_of request) reply = subst (λ (h : Head). IsTrue fits ↔ IsEchoedBy h reply) is tells in
    (λ t. (echoes_head request reply).1 (told.0 t), λ e. told.1 ((echoes_head request reply).0 e))
