-- A client's log: the acknowledged number, the base volume and the pending entries.
use Rattle.std.specs.Prelude.{◌≡◌, ℕ, ◌+◌, ◌-◌, ◌≤◌, List, [], ◌∷◌, ◌++◌, length, take, drop, Ok}
use Rattle.std.specs.List.{flat_map}
use Rattle.tree_values.specs.Tree.{Volume, IsTree}
use Rattle.tree_values.specs.Effects.{changed_all, apply_all, base_of}
use Rattle.tree_values.specs.Spelling.{effects, bases, EffectsFit}
use Rattle.mod_log.specs.Limits.{max_entries, max_log}
use Rattle.mod_log.specs.declared.log.Entry.{Entry}
use Rattle.mod_log.specs.Origin.{made_by, MadeByFits}

-- Entry i of the pending ones, from 0, has number acked + 1 + i.
pub record Log : Type 0 where
  pub acked : ℕ
  pub base : Volume
  pub pending : List Entry

-- the one spelling of an entry, whose number is not spelled
abbrev pub entry : Entry → List ℕ
entry e = made_by e.origin ++ (effects e.effects ++ bases e.base)

-- the volume after the entries' effects
abbrev pub after : List Entry → Volume → Volume
after [] volume = volume
after (entry ∷ entries) volume = after entries (changed_all entry.effects volume)

-- the client's tree after its first `count` pending entries
abbrev pub tree_after : ℕ → Log → Volume
tree_after count log = after (take count log.pending) log.base

-- the client's tree after all its entries up to this number
abbrev pub tree_at : ℕ → Log → Volume
tree_at number log = tree_after (number - log.acked) log

-- the client's tree after all its entries
abbrev pub tree_of : Log → Volume
tree_of log = after log.pending log.base

-- The entry has this number, and its effects apply to the volume, whose versions its base list has. What made it has
-- a spelling.
pub record IsEntryOf (number : ℕ) (volume : Volume) (entry : Entry) : Type 0 where
  pub numbered : entry.seq ≡ number
  pub origin_fits : MadeByFits entry.origin
  pub fits : EffectsFit entry.effects
  pub applies : apply_all 0 entry.effects volume ≡ Ok (changed_all entry.effects volume)
  pub based : entry.base ≡ base_of entry.effects volume

-- each is one of the volume after those before it, numbered on from here
abbrev pub AreEntriesOf : ℕ → Volume → List Entry → Type 0
AreEntriesOf number volume [] = Unit {0}
AreEntriesOf number volume (entry ∷ entries) =
    IsEntryOf number volume entry × AreEntriesOf (number + 1) (changed_all entry.effects volume) entries

-- what every log keeps
pub record IsLog (log : Log) : Type 0 where
  pub base_is : IsTree log.base
  pub entries : AreEntriesOf (log.acked + 1) log.base log.pending
  pub few : length log.pending ≤ max_entries
  pub small : length (flat_map entry log.pending) ≤ max_log
  pub last : log.acked + length log.pending ≤ 18446744073709551615

-- ---- what a client does to its log

-- a log with nothing pending
abbrev pub new_log_of : ℕ → Volume → Log
new_log_of acked base = record { acked = acked; base = base; pending = [] }

-- a new client's log
abbrev pub new_log : Log
new_log = new_log_of 0 []

-- the log with one more entry
abbrev pub logged : Entry → Log → Log
logged entry log = record { acked = log.acked; base = log.base; pending = log.pending ++ entry ∷ [] }

-- the entries up to this number go into the base
abbrev pub acknowledged : ℕ → Log → Log
acknowledged number log = record { acked = number; base = tree_at number log; pending = drop (number - log.acked) log.pending }

-- the base is what the server had
abbrev pub pulled : Volume → Log → Log
pulled seen log = record { acked = log.acked; base = seen; pending = log.pending }
