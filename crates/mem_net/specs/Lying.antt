-- A link that gives replies of its own, whatever it is asked.
use Rattle.std.specs.Prelude.{◌≡◌, ℕ, ◌+◌, List, [], ◌∷◌, drop, Result, Ok, Err, Vec, refl}
use Rattle.std.specs.declared.alloc.Global.{Global}
use Rattle.std.proofs.Common.{◌∙◌, ap}
use Rattle.std.proofs.lemmas.List.{drop-drop}
use Rattle.wire_frames.specs.declared.message.Message.{Message}
use Rattle.world_rules.specs.declared.link.LinkError.{LinkError}
use Rattle.world_rules.specs.declared.link.LinkError.TheVariants.{Failed, Memory}
use Rattle.world_rules.specs.Asking.{IsReplyTo}

-- the replies that it has yet to give, in order, and the troubles that it counted
pub record Liar : Type 0 where
  pub replies : List (Vec ℕ Global)
  pub troubles : ℕ

-- What it answers to a request: the next bytes, where they spell a reply to it. Where they do not, or none are left, it fails.
abbrev pub LiesTo : Message → List (Vec ℕ Global) → Result (Vec ℕ Global) LinkError → Type 0
LiesTo request [] result = result ≡ Err Failed
LiesTo request (bytes ∷ replies) (Ok frame) = (frame ≡ bytes) × IsReplyTo request bytes.items
LiesTo request (bytes ∷ replies) (Err Failed) = IsReplyTo request bytes.items → ⊥
LiesTo request (bytes ∷ replies) (Err Memory) = Unit {0}

-- so many of its replies were taken from the front
abbrev pub GivesReplies : List (Vec ℕ Global) → List (Vec ℕ Global) → Type 0
GivesReplies old new = (count : ℕ) × (new ≡ drop count old)

pub gives_none : (replies : List (Vec ℕ Global)) → GivesReplies replies replies
gives_none replies = (0, refl)

pub gives_then : (a b c : List (Vec ℕ Global)) → GivesReplies a b → GivesReplies b c → GivesReplies a c
gives_then a b c first second =
    (first.0 + second.0, second.1 ∙ ap (drop second.0) first.1 ∙ drop-drop second.0 first.0 a)
