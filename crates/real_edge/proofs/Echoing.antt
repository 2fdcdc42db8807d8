-- A reply to a request's head is one to the request.
use Rattle.std.proofs.Common.{◌≡◌, ℕ, List, Option, Some, subst}
use Rattle.wire_frames.specs.declared.message.Message.{Message}
use Rattle.wire_frames.specs.declared.head.Head.{Head}
use Rattle.wire_frames.specs.Head.{head_of}
use Rattle.wire_frames.proofs.Heads.{echoes_head}
use Rattle.world_rules.specs.Asking.{IsReplyTo}
use Rattle.real_edge.specs.Inside.{IsEchoTo}

head_is : (x y : Head) → (let o : Option Head = Some x in o ≡ Some y) → x ≡ y
head_is x y e = cc

pub echo_is_reply : (request : Message) (head : Head) (bytes : List ℕ) → (let o : Option Head = Some head in o ≡ Some (head_of request)) → IsEchoTo head bytes → IsReplyTo request bytes
echo_is_reply request head bytes e echo =
    let told : IsEchoTo (head_of request) bytes = subst (λ (h : Head). IsEchoTo h bytes) (head_is head (head_of request) e) echo in
    (told.0, told.1, (echoes_head request told.0).1 told.2)
