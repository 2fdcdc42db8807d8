-- What a link tells of itself, and what is said of it between two moments.
use Rattle.std.specs.Prelude.{ℕ, Option}
use Rattle.outside.specs.Outside.{Told, RoseBy}
use Rattle.world_rules.specs.World.{World}

-- The world about one client, where the link tells it, and how often the link had trouble. That count stands still at the end
-- of its type.
pub record LinkTelling : Type 0 where
  pub world : Option World
  pub troubles : ℕ

-- the worlds of two moments, where they are told, are related so
abbrev pub ToldWorlds : LinkTelling → LinkTelling → (World → World → Type 0) → Type 0
ToldWorlds old new relation = Told old.world new.world relation

-- the link had so many troubles at least between two moments
abbrev pub HadTroubles : ℕ → LinkTelling → LinkTelling → Type 0
HadTroubles many old new = RoseBy many old.troubles new.troubles

-- the link had no trouble between two moments
abbrev pub IsCalm : LinkTelling → LinkTelling → Type 0
IsCalm old new = HadTroubles 1 old new → ⊥
