-- What packets say to be done, packet by packet.
use Rattle.std.proofs.Common.{◌≡◌, ℕ, zero, suc, ◌+◌, ◌<◌, ◌≤◌, List, [], ◌∷◌, ◌++◌, length, take, Some, None, slice_get, refl, sym, ◌∙◌, ap, arith}
use Rattle.std.specs.Prelude.{fold, option_map}
use Rattle.std.specs.List.{flat_map}
use Rattle.std.proofs.lemmas.Grind.{flat_map-append}
use Rattle.std.proofs.lemmas.List.{take_more, append-nil}
use Rattle.std.proofs.lemmas.List.Sums.{fold-append}
use Rattle.std.proofs.lemmas.Option.{slice_get_within, get_or_from_slice_get}
use Rattle.wire_frames.specs.declared.message.Message.{Message}
use Rattle.wire_frames.specs.Frame.{frame}
use Rattle.client_drill.specs.Drilled.{done_in, with_number, done_among}

-- no packet is left
pub none_left : (packets : List Message) (k : ℕ) → None ≡ option_map frame (slice_get packets k) → length packets ≤ k
none_left [] k none = omega arith
none_left (m ∷ packets) zero none = absurd (cc (none))
none_left (m ∷ packets) (suc k) none = omega (arith, none_left packets k none)

-- the packet of a frame
pub one_left : (packets : List Message) (k : ℕ) (bytes : List ℕ) → Some bytes ≡ option_map frame (slice_get packets k)
    → (message : Message) × (slice_get packets k ≡ Some message) × (bytes ≡ frame message)
one_left [] k bytes is = absurd (cc (is))
one_left (m ∷ packets) zero bytes is = (m, refl, cc (is))
one_left (m ∷ packets) (suc k) bytes is = one_left packets k bytes is

-- one packet more
pub done_more : (packets : List Message) (k : ℕ) (message : Message) → slice_get packets k ≡ Some message
    → fold with_number (done_among (take k packets)) (done_in message) ≡ done_among (take (k + 1) packets)
done_more packets k message is =
    let within : k < length packets = slice_get_within packets k message is in
    let front : List ℕ = flat_map done_in (take k packets) in
    sym
    (ap done_among (take_more packets k message within ∙ ap (λ (m : Message). take k packets ++ m ∷ []) (get_or_from_slice_get packets k message message is))
    ∙ ap (λ (ns : List ℕ). fold with_number [] ns) (flat_map-append done_in (take k packets) (message ∷ []))
    ∙ ap (λ (ns : List ℕ). fold with_number [] (front ++ ns)) (append-nil (done_in message))
    ∙ fold-append with_number [] front (done_in message))

pub within_more : (packets : List Message) (k : ℕ) (message : Message) → slice_get packets k ≡ Some message → k + 1 ≤ length packets
within_more packets k message is = omega (arith, slice_get_within packets k message is)
