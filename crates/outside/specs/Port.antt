-- What a port tells, and what its calls do to that.
use Rattle.std.specs.Prelude.{◌≡◌, ℕ, List, [], ◌∷◌, ◌++◌, Option, None, Some, Result, Ok, Err, Vec}
use Rattle.std.specs.declared.alloc.Global.{Global}
use Rattle.outside.specs.Outside.{Told}

-- the most connections that a port takes, and that a run serves
abbrev pub most_connections : ℕ
most_connections = 65536

-- a frame that was taken, and the answer that its connection was given
pub record Talk : Type 0 where
  pub frame : List ℕ
  pub reply : Option (List ℕ)

-- what a port tells: how many connections are left, the talks over those that came, where it tells them, and how often it failed
pub record PortTelling : Type 0 where
  pub left : ℕ
  pub talks : Option (List Talk)
  pub faults : ℕ

-- a port that tells its talks has these behind those that it had, in order
abbrev pub AddsTalks : Option (List Talk) → Option (List Talk) → List Talk → Type 0
AddsTalks old new talks = Told old new (λ before after. after ≡ before ++ talks)

-- the talk that a take begins; a take that finds no connection, or is refused, begins none
abbrev pub talks_begun : {E : Type 0} → Result (Option (Vec ℕ Global)) E → List Talk
talks_begun (Ok (Some frame)) = record { frame = frame.items; reply = None } ∷ []
talks_begun (Ok None) = []
talks_begun (Err e) = []

-- an answer goes to the talk that was begun last, which had none; an answer that is refused goes to none
abbrev pub AnswersLast : {T E : Type 0} → List ℕ → Result T E → List Talk → List Talk → Type 0
AnswersLast reply (Ok done) old new =
    (before : List Talk) × (frame : List ℕ) × (old ≡ before ++ record { frame = frame; reply = None } ∷ [])
    × (new ≡ before ++ record { frame = frame; reply = Some reply } ∷ [])
AnswersLast reply (Err e) old new = new ≡ old
