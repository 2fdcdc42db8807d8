-- The one spelling of sketched effects, and which have one.
use Rattle.std.specs.Prelude.{ℕ, ◌≤◌, List, ◌∷◌, ◌++◌, length}
use Rattle.std.specs.Int.{w32}
use Rattle.std.specs.List.{flat_map, AllByRecursion}
use Rattle.byte_fields.specs.Field.{digits}
use Rattle.rs_parity.specs.Spelling.{sketch_spelling, SketchFits}
use Rattle.file_paths.specs.Limits.{max_file}
use Rattle.file_paths.specs.Path.{IsPath}
use Rattle.file_paths.specs.Spelling.{path}
use Rattle.tree_values.specs.Limits.{max_files, max_effects}
use Rattle.tree_values.specs.Spelling.{bit, EffectsFit}
use Rattle.tree_values.specs.declared.node.Effect.{Effect}
use Rattle.mod_log.specs.Sketched.{sketched_size, sketched_sizes, AreSketchedAs, AllFill}
use Rattle.mod_log.specs.declared.sketched.SketchEffect.{SketchEffect}
use Rattle.mod_log.specs.declared.sketched.SketchEffect.TheVariants.{Make, Put, Remove, Move, Mode}

-- the kind, and what the sketched effect names
abbrev pub sketch_effect : SketchEffect → List ℕ
sketch_effect (Make p) = 1 ∷ path p
sketch_effect (Put p sketch) = 2 ∷ path p ++ sketch_spelling sketch
sketch_effect (Remove p) = 3 ∷ path p
sketch_effect (Move p q) = 4 ∷ path p ++ path q
sketch_effect (Mode p exec) = 5 ∷ path p ++ bit exec

-- the sketched effects, behind their number
abbrev pub sketch_effects : List SketchEffect → List ℕ
sketch_effects es = digits w32 (length es) ++ flat_map sketch_effect es

-- a sketched effect with paths, and a sketch as a content of at most 8 MiB has it
abbrev pub SketchEffectFits : SketchEffect → Type 0
SketchEffectFits (Make p) = IsPath p
SketchEffectFits (Put p sketch) = IsPath p × SketchFits max_file sketch
SketchEffectFits (Remove p) = IsPath p
SketchEffectFits (Move p q) = IsPath p × IsPath q
SketchEffectFits (Mode p exec) = IsPath p

-- a sketched effect that has still room for its content
abbrev pub SketchEffectFitsIn : ℕ → SketchEffect → Type 0
SketchEffectFitsIn room e = SketchEffectFits e × (sketched_size e ≤ room)

-- 1 to so many sketched effects with contents of at most so many bytes together
pub record SketchEffectsFitWithin (most room : ℕ) (es : List SketchEffect) : Type 0 where
  pub some : 1 ≤ length es
  pub few : length es ≤ most
  pub each : AllByRecursion SketchEffectFits es
  pub all_contents : sketched_sizes es ≤ room

-- 1 to 4,096 sketched effects with contents of at most 32 MiB together
abbrev pub SketchEffectsFit : List SketchEffect → Type 0
SketchEffectsFit = SketchEffectsFitWithin max_effects max_files

-- ---- laws

-- what fills sketches that fit, fits
abbrev pub FillingsFit : Type 0
FillingsFit =
    (effects : List Effect) (sketched : List SketchEffect) → SketchEffectsFit sketched → AllFill sketched effects → EffectsFit effects

-- the sketches of effects that fit, fit
abbrev pub SketchesOfEffectsFit : Type 0
SketchesOfEffectsFit =
    (effects : List Effect) (sketched : List SketchEffect) → EffectsFit effects → AreSketchedAs effects sketched → SketchEffectsFit sketched
