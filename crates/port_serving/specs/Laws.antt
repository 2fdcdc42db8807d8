-- What the connections of a run amount to. Its fall is the number by which the connections left fell.
use Rattle.std.specs.Prelude.{◌≡◌, ◌≤◌, ◌⊎◌, ℕ, ◌-◌, List, ◌++◌, length, map, Option, Some}
use Rattle.std.specs.List.{flat_map}
use Rattle.std.specs.Option.{option_to_list}
use Rattle.outside.specs.Outside.{Told, Adds, raised}
use Rattle.outside.specs.Port.{Talk, PortTelling}
use Rattle.port_serving.specs.Serving.{Connection, frames_taken, frames_answered, Uses, served_line}

-- the frames of talks, and the answers that were given in them
abbrev pub frames_of : List Talk → List (List ℕ)
frames_of talks = map (λ talk. talk.frame) talks

abbrev pub replies_of : List Talk → List (List ℕ)
replies_of talks = flat_map (λ talk. option_to_list talk.reply) talks

-- what a port tells of its talks tells the frames that it took, and those that it answered
pub record TellsBoth (connections : List Connection) (old new : PortTelling) : Type 0 where
  pub taken : Told old.talks new.talks (λ before after. frames_of after ≡ frames_of before ++ frames_taken connections)
  pub answered : Told old.talks new.talks (λ before after. replies_of after ≡ replies_of before ++ frames_answered connections)

abbrev pub TalksAreExchanges : Type 0
TalksAreExchanges = (connections : List Connection) (old new : PortTelling) → Uses connections old new → TellsBoth connections old new

abbrev pub fall : PortTelling → PortTelling → ℕ
fall old new = old.left - new.left

-- never more connections are used up than were to be; where serving came to its end, as many, or all that were left
pub record HasFallen (count : ℕ) (whole : Type 0) (old new : PortTelling) : Type 0 where
  pub fewer : new.left ≤ old.left
  pub most : fall old new ≤ count
  pub ended : whole → (fall old new ≡ count) ⊎ (new.left ≡ 0)

-- a port that tells its talks has these of a run
pub record HasTalks (talks : List Talk) (old new : PortTelling) : Type 0 where
  pub before : List Talk
  pub old_talks : old.talks ≡ Some before
  pub new_talks : new.talks ≡ Some (before ++ talks)

-- Each connection without an answer is one call of the port that failed, and no other call of it failed; where serving did not come
-- to its end one may be none, that at hand. Where the last line was written, the output ends with the number of frames taken, and
-- that of connections without an answer.
pub record IsTold (whole lined : Type 0) (talks : List Talk) (old new : PortTelling) (written now : Option (List ℕ)) : Type 0 where
  pub all : whole → new.faults ≡ raised (fall old new - length (replies_of talks)) old.faults
  pub at_hand : (new.faults ≡ raised (fall old new - length (replies_of talks)) old.faults)
      ⊎ (new.faults ≡ raised (fall old new - length (replies_of talks) - 1) old.faults)
  pub line : lined → Adds written now (served_line (length (frames_of talks)) (fall old new - length (replies_of talks)))
