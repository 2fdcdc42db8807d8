-- What a pool passes on, of what its link's asks were answered.
use Rattle.std.specs.Prelude.{◌≡◌, ℕ, true, false, List, map}
use Rattle.std.specs.List.{AllByRecursion}
use Rattle.tree_values.specs.Lists.{IsIn}
use Rattle.world_rules.specs.declared.asking.Ask.{Ask}
use Rattle.world_rules.specs.declared.asking.Answer.TheVariants.{Failed}
use Rattle.surrogate_pool.specs.Rounds.{tells_done, pooled, is_answered, AsksEach}

-- An answer that does not tell that the operation is done is passed on only where each of the addresses was asked, once and in order, and
-- none told it.
abbrev pub RefusalsAreOfAll : Type 0
RefusalsAreOfAll = (addresses : List (List ℕ)) (asks : List Ask) → AsksEach true addresses asks → tells_done (pooled asks) ≡ false
    → (map (λ ask. ask.address) asks ≡ addresses) × AllByRecursion (λ ask. tells_done ask.answer ≡ false) asks

-- A pool fails only where each of the addresses was asked and each ask failed.
abbrev pub FailuresAreOfAll : Type 0
FailuresAreOfAll = (addresses : List (List ℕ)) (asks : List Ask) → AsksEach true addresses asks
    → AllByRecursion (λ ask. is_answered ask ≡ true) asks → pooled asks ≡ Failed
    → (map (λ ask. ask.address) asks ≡ addresses) × AllByRecursion (λ ask. ask.answer ≡ Failed) asks

-- Where one told that the operation is done, that is passed on, and nobody was asked behind it.
abbrev pub DoneIsPassedOn : Type 0
DoneIsPassedOn = (addresses : List (List ℕ)) (asks : List Ask) (ask : Ask) → AsksEach true addresses asks → IsIn ask asks
    → tells_done ask.answer ≡ true → pooled asks ≡ ask.answer
