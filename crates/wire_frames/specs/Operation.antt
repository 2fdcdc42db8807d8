-- Operations: an entry with sketches in its contents' places, its one spelling and its fields, and how it is read.
use Rattle.std.specs.Prelude.{ℕ, List, ◌++◌, Ok}
use Rattle.byte_fields.specs.Field.{Reader, ◌>>=◌, two}
use Rattle.tree_values.specs.Limits.{max_files, max_effects}
use Rattle.tree_values.specs.Effects.{distinct}
use Rattle.tree_values.specs.Spelling.{bases, AreBasesOf}
use Rattle.tree_values.specs.Fields.{bases_fields}
use Rattle.tree_values.specs.Reading.{bases_at}
use Rattle.tree_values.specs.declared.node.Base.{Base}
use Rattle.mod_log.specs.Origin.{origin, OriginFits}
use Rattle.mod_log.specs.Sketched.{sketches_touch}
use Rattle.mod_log.specs.Spelling.{sketch_effects, SketchEffectsFit}
use Rattle.mod_log.specs.Fields.{origin_fields, sketch_effects_fields}
use Rattle.mod_log.specs.Reading.{origin_at, sketch_effects_within}
use Rattle.mod_log.specs.declared.sketched.SketchEffect.{SketchEffect}
use Rattle.mod_log.specs.declared.sketching.SketchEntry.{SketchEntry}

-- the origin, the sketched effects and the bases; the number is not spelled
abbrev pub operation : SketchEntry → List ℕ
operation e = origin e.origin ++ (sketch_effects e.effects ++ bases e.base)

-- the fields of the origin, the sketched effects and the bases
abbrev pub operation_fields : SketchEntry → List ℕ
operation_fields e = origin_fields e.origin ++ (sketch_effects_fields e.effects ++ bases_fields e.base)

-- a command made it, and it has the versions of just the paths that its sketched effects touch
pub record OperationFits (e : SketchEntry) : Type 0 where
  pub origin_fits : OriginFits e.origin
  pub effects_fit : SketchEffectsFit e.effects
  pub based : AreBasesOf (distinct (sketches_touch e.effects)) e.base

-- the sketched effects, as many as an entry has effects
abbrev pub sketch_effects_at : Reader (List SketchEffect)
sketch_effects_at = sketch_effects_within max_effects max_files

-- the sketched effects, and the versions of the paths that they touch
unfoldable pub sketches_at : Reader (List SketchEffect × List Base)
sketches_at bytes at = do
  effects ← sketch_effects_at bytes at
  base ← bases_at (distinct (sketches_touch effects.0)) bytes effects.1
  Ok ((effects.0, base.0), base.1)

-- the operation of this number
unfoldable pub operation_at : ℕ → Reader SketchEntry
operation_at number = two origin_at (λ origin. sketches_at)
    (λ origin sketched. record { seq = number; origin = origin; base = sketched.1; effects = sketched.0 })
