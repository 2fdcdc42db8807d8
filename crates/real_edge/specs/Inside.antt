-- What a reply is to a head.
use Rattle.std.specs.Prelude.{ℕ, List}
use Rattle.wire_frames.specs.declared.message.Message.{Message}
use Rattle.wire_frames.specs.declared.head.Head.{Head}
use Rattle.wire_frames.specs.Frame.{Spells}
use Rattle.wire_frames.specs.Head.{IsEchoedBy}

-- the bytes spell a reply to the request with this head
abbrev pub IsEchoTo : Head → List ℕ → Type 0
IsEchoTo head bytes = (reply : Message) × Spells reply bytes × IsEchoedBy head reply
