-- What the private functions of this crate give one another.
use Rattle.std.specs.Prelude.{◌≡◌, ◌++◌, ℕ, Bool, List}
use Rattle.file_paths.specs.Path.{FilePath}
use Rattle.tree_values.specs.declared.node.Effect.{Effect}
use Rattle.tree_values.specs.declared.node.Effect.TheVariants.{Put}
use Rattle.rs_parity.specs.declared.sketch.Sketch.{Sketch}
use Rattle.mod_log.specs.declared.sketched.SketchEffect.{SketchEffect}
use Rattle.replay_judge.specs.declared.verdict.Verdict.{Verdict}
use Rattle.replay_judge.specs.declared.verdict.Verdict.TheVariants.{Agree, Status, OddTree, Mismatch}
use Rattle.replay_judge.specs.Agreement.{Mends, is_sketched, StandsFor, AllAgree, IsFirstMismatch}

abbrev pub IsBeyondMending : Sketch → List ℕ → Type 0
IsBeyondMending sketch content = (x : List ℕ) → Mends sketch content x → ⊥

abbrev pub HasNoStandIn : Bool → Sketch → List ℕ → Type 0
HasNoStandIn sketched sketch content = (x : List ℕ) → StandsFor sketched sketch content x → ⊥

-- the effect puts what stands for the content
abbrev pub PutsStandIn : FilePath → Sketch → List ℕ → Effect → Type 0
PutsStandIn path sketch content agreed = (x : List ℕ) × (agreed ≡ Put path x) × StandsFor (is_sketched sketch content) sketch content x

abbrev pub IsNoPut : FilePath → Effect → Type 0
IsNoPut path effect = (content : List ℕ) → effect ≡ Put path content → ⊥

-- the verdict on effects alone
abbrev pub IsComparison : List SketchEffect → List Effect → Verdict → Type 0
IsComparison wanted found (Agree agreed) = AllAgree wanted found agreed
IsComparison wanted found (Status logged replayed) = ⊥
IsComparison wanted found (OddTree i) = ⊥
IsComparison wanted found (Mismatch path) = IsFirstMismatch wanted found path

-- what the first places agreed on, and how they and those left make the verdict on all
pub record Decides (wanted : List SketchEffect) (found : List Effect) (left : List SketchEffect) (left_found agreed : List Effect) :
    Type 0 where
  pub agrees : (more : List Effect) → AllAgree left left_found more → AllAgree wanted found (agreed ++ more)
  pub differs : (path : FilePath) → IsFirstMismatch left left_found path → IsFirstMismatch wanted found path
