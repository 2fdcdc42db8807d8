-- The entries of a store, one after the other: their one spelling, their fields, and how they are read.
use Rattle.std.specs.Prelude.{◌≡◌, ℕ, ◌+◌, ◌-◌, ◌≤◌, min, nat_le, Bool, true, ◌&&◌, List, ◌∷◌, ◌++◌, length, Ok}
use Rattle.std.specs.Int.{w8}
use Rattle.std.specs.List.{flat_map, sum_by, AllByRecursion}
use Rattle.byte_fields.specs.Field.{Reader, ◌>>=◌, ruled, number_at, each_at}
use Rattle.tree_values.specs.Limits.{max_files, max_effects}
use Rattle.tree_values.specs.declared.node.Base.{Base}
use Rattle.tree_values.specs.declared.node.Effect.{Effect}
use Rattle.tree_values.specs.Effects.{touched_all, distinct, contents_size}
use Rattle.tree_values.specs.Spelling.{effects, bases, EffectsFit, AreBasesOf}
use Rattle.tree_values.specs.Fields.{effects_fields, bases_fields}
use Rattle.tree_values.specs.Reading.{effects_within, bases_at}
use Rattle.wire_frames.specs.Limits.{max_parts}
use Rattle.wire_frames.specs.declared.parts.Part.{Part}
use Rattle.wire_frames.specs.declared.parts.Room.{Room}

-- an entry's effects and base list, as a store carries them
abbrev pub part_of : List Effect → List Base → Part
part_of changes versions = record { effects = changes; base = versions }

-- the effects, and the versions of the paths that they touch
abbrev pub part : Part → List ℕ
part p = effects p.effects ++ bases p.base

-- the parts, behind their number, which is one byte
abbrev pub parts : List Part → List ℕ
parts ps = length ps ∷ flat_map part ps

-- the fields of the effects and of the bases
abbrev pub part_fields : Part → List ℕ
part_fields p = effects_fields p.effects ++ bases_fields p.base

-- the number, and the fields of the parts
abbrev pub parts_fields : List Part → List ℕ
parts_fields ps = 1 ∷ flat_map part_fields ps

-- how many effects the parts have together
abbrev pub effects_count : List Part → ℕ
effects_count ps = sum_by (λ p. length p.effects) ps

-- the bytes of all contents that the parts write
abbrev pub contents_count : List Part → ℕ
contents_count ps = sum_by (λ p. contents_size p.effects) ps

-- the effects of an entry, and the versions of just the paths that they touch
abbrev pub PartFits : Part → Type 0
PartFits p = EffectsFit p.effects × AreBasesOf (distinct (touched_all p.effects)) p.base

-- 1 to 8 parts may stand behind a number, where that of the last has 64 bits
abbrev pub count_rule : ℕ → ℕ → Bool
count_rule number count = nat_le 1 count && nat_le count max_parts && nat_le (number + count) 18446744073709551616

-- 1 to 8 parts, numbered on from this number, with 1 to 4,096 effects and contents of at most 32 MiB, all of them together
pub record PartsFit (number : ℕ) (ps : List Part) : Type 0 where
  pub counted : count_rule number (length ps) ≡ true
  pub each : AllByRecursion PartFits ps
  pub few : effects_count ps ≤ max_effects
  pub all_contents : contents_count ps ≤ max_files

-- A part, where there is still room for so many effects and so many bytes of content. It has no more of either than an entry has.
unfoldable pub part_at : Room → Reader Part
part_at room bytes at = do
  effects ← effects_within (min max_effects room.effects) (min max_files room.content) bytes at
  base ← bases_at (distinct (touched_all effects.0)) bytes effects.1
  Ok (record { effects = effects.0; base = base.0 }, base.1)

-- the room that a part leaves
abbrev pub room_behind : Room → Part → Room
room_behind room p =
    record { effects = room.effects - length p.effects; content = room.content - contents_size p.effects }

-- the room that a store has
abbrev pub store_room : Room
store_room = record { effects = max_effects; content = max_files }

-- the parts behind this number
unfoldable pub parts_at : ℕ → Reader (List Part)
parts_at number bytes at = do
  count ← ruled (count_rule number) (number_at w8) bytes at
  each_at part_at room_behind count.0 store_room bytes count.1
