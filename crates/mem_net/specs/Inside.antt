-- Words that only contracts inside the network in memory cite.
use Rattle.std.specs.Prelude.{◌≡◌, ℕ, ◌≤◌, false, List, ◌∷◌}
use Rattle.mem_wires.specs.declared.fate.Fate.{Fate}
use Rattle.mem_wires.specs.Wire.{Wire, world_of}
use Rattle.mem_wires.specs.Fates.{decides, is_trouble, AreTakenFrom}
use Rattle.mem_wires.specs.Spending.{AreQuiet, TakesFront}
use Rattle.mem_wires.specs.Underway.{MovedFree}

-- what goes on while a request is not yet answered: moves of no client's own, and fates from the front
pub record GoesFree (old new : Wire) : Type 0 where
  pub moved : MovedFree (world_of old) (world_of new)
  pub takes : TakesFront old.fates new.fates old.troubles new.troubles

-- the first of the fates, where there is one, decides no ask
abbrev pub FrontWaits : List Fate → Type 0
FrontWaits fates = (first : Fate) (rest : List Fate) → fates ≡ first ∷ rest → decides first ≡ false

-- Fates were taken from the front while this fate was met. Where it is no trouble, and none of them is, none was counted.
pub record TakesBeside (fate : Fate) (fates left : List Fate) (troubles now : ℕ) : Type 0 where
  pub taken : List Fate
  pub split : AreTakenFrom taken fates left
  pub later : troubles ≤ now
  pub calm : is_trouble fate ≡ false → AreQuiet taken → now ≡ troubles
