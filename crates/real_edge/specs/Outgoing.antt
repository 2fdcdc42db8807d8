-- How frames go to a peer, and what is taken of what comes back.
use Rattle.std.specs.Prelude.{◌≡◌, ℕ, List, Option, None, Some}
use Rattle.world_rules.specs.declared.asking.Peer.{Peer}
use Rattle.world_rules.specs.declared.asking.Peer.TheVariants.{Server, Surrogate}
use Rattle.sealed_frames.specs.declared.sealing.Way.{Way}
use Rattle.sealed_frames.specs.declared.sealing.Way.TheVariants.{ToServer, ToSurrogate, Back}
use Rattle.sealed_frames.specs.Sealing.{tag_of, key_of, IsSealable, IsSealedUnder, IsSealedBy}
use Rattle.real_edge.specs.declared.outgoing.Outgoing.{Outgoing}
use Rattle.real_edge.specs.declared.outgoing.Outgoing.TheVariants.{Plain, Sealed}

-- the way to a peer
abbrev pub way_to : Peer → Way
way_to Server = ToServer
way_to Surrogate = ToSurrogate

-- the frame goes as it is
abbrev pub GoesPlain : List ℕ → Outgoing → Type 0
GoesPlain frame (Plain bytes) = bytes.now ≡ frame
GoesPlain frame (Sealed bytes key tag) = ⊥

-- the frame goes to this peer sealed by the key of its client, with this tag
abbrev pub GoesSealed : List (Option (List ℕ)) → Peer → List ℕ → Outgoing → Type 0
GoesSealed keys to frame (Plain bytes) = ⊥
GoesSealed keys to frame (Sealed bytes key tag) =
    IsSealedBy keys (way_to to) bytes.items key frame × (tag ≡ tag_of key (way_to to) frame)

-- the frame goes to this peer as it is, or, where there are keys, sealed by that of its client
abbrev pub GoesOut : Option (List (Option (List ℕ))) → Peer → List ℕ → Outgoing → Type 0
GoesOut None to frame outgoing = GoesPlain frame outgoing
GoesOut (Some keys) to frame outgoing = GoesSealed keys to frame outgoing

-- there are keys, and none is that of the frame's client
abbrev pub LacksKey : Option (List (Option (List ℕ))) → List ℕ → Type 0
LacksKey None frame = ⊥
LacksKey (Some keys) frame = key_of keys frame ≡ None

-- there is the key of the frame's client, and no seal of so long a frame
abbrev pub LacksRoom : Option (List (Option (List ℕ))) → List ℕ → Type 0
LacksRoom None frame = ⊥
LacksRoom (Some keys) frame = (key_of keys frame ≡ None → ⊥) × (IsSealable frame → ⊥)

-- the bytes that go
abbrev pub bytes_of : Outgoing → List ℕ
bytes_of (Plain bytes) = bytes.now
bytes_of (Sealed bytes key tag) = bytes.items

-- what came back is this frame: as it is, or sealed by the key of the ask, as the answer to it
abbrev pub OpensAs : Outgoing → List ℕ → List ℕ → Type 0
OpensAs (Plain bytes) came frame = came ≡ frame
OpensAs (Sealed bytes key tag) came frame = IsSealedUnder key (Back tag) came frame
