-- What stands for effects where they are sent without their contents, and which effects may stand for it.
use Rattle.std.specs.Prelude.{◌≡◌, ℕ, List, [], ◌∷◌, length, Some}
use Rattle.std.specs.List.{flat_map, sum_by, AllByRecursion}
use Rattle.sha2.specs.Sha256.{sha256}
use Rattle.byte_fields.specs.Codec.{IsBytes}
use Rattle.rs_parity.specs.Sketches.{IsSketch, Distinct}
use Rattle.file_paths.specs.Path.{FilePath}
use Rattle.tree_values.specs.Lists.{IsIn}
use Rattle.tree_values.specs.Tree.{IsLegalEffect}
use Rattle.tree_values.specs.Effects.{touched_all, contents_size}
use Rattle.tree_values.specs.declared.node.Effect.{Effect}
use Rattle.tree_values.specs.declared.node.Effect.TheVariants.{Make, Put, Remove, Move, Mode}
use Rattle.mod_log.specs.declared.log.Entry.{Entry}
use Rattle.mod_log.specs.declared.sketched.SketchEffect.{SketchEffect}
use Rattle.mod_log.specs.declared.sketched.SketchEffect.TheVariants as of_sketch
use Rattle.mod_log.specs.declared.sketching.SketchEntry.{SketchEntry}

-- ---- what sketched effects touch, and how much they stand for

abbrev pub sketch_paths : SketchEffect → List FilePath
sketch_paths (of_sketch.Make p) = p ∷ []
sketch_paths (of_sketch.Put p sketch) = p ∷ []
sketch_paths (of_sketch.Remove p) = p ∷ []
sketch_paths (of_sketch.Move p q) = p ∷ q ∷ []
sketch_paths (of_sketch.Mode p exec) = p ∷ []

-- the paths that sketched effects touch, one after the other
abbrev pub sketches_touch : List SketchEffect → List FilePath
sketches_touch effects = flat_map sketch_paths effects

-- the bytes of the content that a sketched effect stands for
abbrev pub sketched_size : SketchEffect → ℕ
sketched_size (of_sketch.Make p) = 0
sketched_size (of_sketch.Put p sketch) = sketch.len
sketched_size (of_sketch.Remove p) = 0
sketched_size (of_sketch.Move p q) = 0
sketched_size (of_sketch.Mode p exec) = 0

-- the bytes of all contents that sketched effects stand for
abbrev pub sketched_sizes : List SketchEffect → ℕ
sketched_sizes effects = sum_by sketched_size effects

-- ---- the sketches of effects

-- the same effect, with the sketch of its content in the content's place
abbrev pub IsSketchedAs : Effect → SketchEffect → Type 0
IsSketchedAs (Make p) (of_sketch.Make q) = q ≡ p
IsSketchedAs (Put p content) (of_sketch.Put q sketch) = (q ≡ p) × IsSketch content sketch
IsSketchedAs (Remove p) (of_sketch.Remove q) = q ≡ p
IsSketchedAs (Move p to) (of_sketch.Move q onto) = (q ≡ p) × (onto ≡ to)
IsSketchedAs (Mode p exec) (of_sketch.Mode q bit) = (q ≡ p) × (bit ≡ exec)
IsSketchedAs effect sketched = ⊥

-- each effect is sketched as the one in its place
abbrev pub AreSketchedAs : List Effect → List SketchEffect → Type 0
AreSketchedAs [] [] = Unit {0}
AreSketchedAs (effect ∷ effects) (sketched ∷ more) = IsSketchedAs effect sketched × AreSketchedAs effects more
AreSketchedAs effects sketched = ⊥

-- the entry with the sketches of its contents in their places; a command made it
pub record IsSketchOf (entry : Entry) (sketched : SketchEntry) : Type 0 where
  pub numbered : sketched.seq ≡ entry.seq
  pub made_by : entry.origin ≡ Some sketched.origin
  pub based : sketched.base ≡ entry.base
  pub effects_are : AreSketchedAs entry.effects sketched.effects

-- ---- what may stand for them

-- the same effect, with a content of bytes that has the sketch's length and print; the parities are not compared
abbrev pub Fills : SketchEffect → Effect → Type 0
Fills (of_sketch.Make p) (Make q) = q ≡ p
Fills (of_sketch.Put p sketch) (Put q content) = (q ≡ p) × (length content ≡ sketch.len) × (sha256 content ≡ sketch.print) × IsBytes content
Fills (of_sketch.Remove p) (Remove q) = q ≡ p
Fills (of_sketch.Move p to) (Move q onto) = (q ≡ p) × (onto ≡ to)
Fills (of_sketch.Mode p exec) (Mode q bit) = (q ≡ p) × (bit ≡ exec)
Fills sketched effect = ⊥

-- each sketched effect is filled by the effect in its place
abbrev pub AllFill : List SketchEffect → List Effect → Type 0
AllFill [] [] = Unit {0}
AllFill (sketched ∷ more) (effect ∷ effects) = Fills sketched effect × AllFill more effects
AllFill sketched effects = ⊥

-- the effects write this content
abbrev pub WritesContent : List Effect → List ℕ → Type 0
WritesContent effects content = (path : FilePath) × IsIn (Put path content) effects

-- ---- laws

-- legal effects fill their own sketches
abbrev pub SketchesAreFilled : Type 0
SketchesAreFilled = (effects : List Effect) (sketched : List SketchEffect) → AllByRecursion IsLegalEffect effects
    → AreSketchedAs effects sketched → AllFill sketched effects

-- only the effects themselves do, where no two contents have one print
abbrev pub FillingsAreEqual : Type 0
FillingsAreEqual = (effects others : List Effect) (sketched : List SketchEffect) → AreSketchedAs effects sketched
    → AllFill sketched others → Distinct (WritesContent effects) (WritesContent others) → others ≡ effects

-- what fills sketches touches the same paths, and writes as many bytes as they stand for
abbrev pub FillingsTouchAlike : Type 0
FillingsTouchAlike = (effects : List Effect) (sketched : List SketchEffect) → AllFill sketched effects
    → (touched_all effects ≡ sketches_touch sketched) × (contents_size effects ≡ sketched_sizes sketched)

-- effects have one list of sketches
abbrev pub OneSketchList : Type 0
OneSketchList = (effects : List Effect) (a b : List SketchEffect) → AreSketchedAs effects a → AreSketchedAs effects b → a ≡ b

-- an entry has one sketch
abbrev pub OneSketchOf : Type 0
OneSketchOf = (entry : Entry) (a b : SketchEntry) → IsSketchOf entry a → IsSketchOf entry b → a ≡ b
