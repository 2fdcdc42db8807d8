-- Reading entries and sketched effects, with the place of the first faulty field.
use Rattle.std.specs.Prelude.{◌≡◌, ℕ, ◌-◌, ◌&&◌, nat_le, List, [], ◌∷◌, Option, Some, None, Ok}
use Rattle.std.specs.Int.{w8, w32}
use Rattle.byte_fields.specs.Field.{Reader, ◌>>=◌, none, one, two, ruled, tagged_at, span_at, number_at, each_at}
use Rattle.rs_parity.specs.Spelling.{sketch_at}
use Rattle.tree_values.specs.Effects.{touched_all, distinct}
use Rattle.tree_values.specs.Spelling.{EffectsFit, AreBasesOf}
use Rattle.file_paths.specs.Reading.{path_at}
use Rattle.tree_values.specs.Reading.{bit_at, effects_at, bases_at}
use Rattle.cmd_capture.specs.Reading.{command_at}
use Rattle.mod_log.specs.Origin.{MadeByFits}
use Rattle.mod_log.specs.Sketched.{sketched_size}
use Rattle.mod_log.specs.declared.origin.Origin.{Origin}
use Rattle.mod_log.specs.declared.log.Entry.{Entry}
use Rattle.mod_log.specs.declared.sketched.SketchEffect.{SketchEffect}
use Rattle.mod_log.specs.declared.sketched.SketchEffect.TheVariants.{Make, Put, Remove, Move, Mode}

-- ---- entries

-- the print of the job, the status and the command
unfoldable pub origin_at : Reader Origin
origin_at bytes at = do
  print ← span_at 32 bytes at
  status ← number_at w8 bytes print.1
  command ← command_at bytes status.1
  Ok (record { command = command.0; job_print = print.0; status = status.0 }, command.1)

-- the byte 0 where no command made an entry, or the byte 1 and the origin
abbrev pub made_by_kinds : List (ℕ × Reader (Option Origin))
made_by_kinds = (0, none None) ∷ (1, one origin_at Some) ∷ []

unfoldable pub made_by_at : Reader (Option Origin)
made_by_at = tagged_at made_by_kinds

-- what made it, the effects, and the versions of the paths that they touch; the entry has this number
unfoldable pub entry_at : ℕ → Reader Entry
entry_at number bytes at = do
  made_by ← made_by_at bytes at
  effects ← effects_at bytes made_by.1
  base ← bases_at (distinct (touched_all effects.0)) bytes effects.1
  Ok (record { seq = number; origin = made_by.0; effects = effects.0; base = base.0 }, base.1)

-- an entry of this number with what made it, its effects, and the versions of just the paths that they touch
pub record EntryFits (number : ℕ) (entry : Entry) : Type 0 where
  pub numbered : entry.seq ≡ number
  pub origin_fits : MadeByFits entry.origin
  pub fits : EffectsFit entry.effects
  pub based : AreBasesOf (distinct (touched_all entry.effects)) entry.base

-- ---- sketched effects

-- where a content is put, and its sketch, where there is still room for so many bytes
abbrev pub sketch_put_at : ℕ → Reader SketchEffect
sketch_put_at room = two path_at (λ path. sketch_at room) Put

-- each kind of sketched effect with what follows it
abbrev pub sketch_effect_kinds : ℕ → List (ℕ × Reader SketchEffect)
sketch_effect_kinds room =
    (1, one path_at Make) ∷ (2, sketch_put_at room) ∷ (3, one path_at Remove) ∷ (4, two path_at (λ from. path_at) Move)
    ∷ (5, two path_at (λ path. bit_at) Mode) ∷ []

-- a sketched effect where there is still room for so many bytes of content
unfoldable pub sketch_effect_at : ℕ → Reader SketchEffect
sketch_effect_at room = tagged_at (sketch_effect_kinds room)

-- the room that the content of a sketched effect leaves
abbrev pub sketch_room_after : ℕ → SketchEffect → ℕ
sketch_room_after room e = room - sketched_size e

-- 1 to so many sketched effects, with contents of at most so many bytes together
unfoldable pub sketch_effects_within : ℕ → ℕ → Reader (List SketchEffect)
sketch_effects_within most room bytes at = do
  count ← ruled (λ n. nat_le 1 n && nat_le n most) (number_at w32) bytes at
  each_at sketch_effect_at sketch_room_after count.0 room bytes count.1
