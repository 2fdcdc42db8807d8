-- Where the changes of a replay agree with the effects of an entry: place by place.
use Rattle.std.specs.Prelude.{◌≡◌, ◌⊎◌, ℕ, Bool, true, false, ◌&&◌, ◌==◌, List, [], ◌∷◌, length}
use Rattle.std.specs.Str.{bytes_eq}
use Rattle.sha2.specs.Sha256.{sha256}
use Rattle.byte_fields.specs.Codec.{IsBytes}
use Rattle.file_paths.specs.Path.{FilePath}
use Rattle.tree_values.specs.declared.node.Effect.{Effect}
use Rattle.tree_values.specs.declared.node.Effect.TheVariants.{Make, Put, Remove, Move, Mode}
use Rattle.work_area.specs.Changes.{first_path}
use Rattle.rs_parity.specs.declared.sketch.Sketch.{Sketch}
use Rattle.rs_repair.specs.Repair.{Repairs}
use Rattle.mod_log.specs.declared.sketched.SketchEffect.{SketchEffect}
use Rattle.mod_log.specs.declared.sketched.SketchEffect.TheVariants as of_sketch

-- ---- one content

-- bytes that repair the content, and have the sketch's print
abbrev pub Mends : Sketch → List ℕ → List ℕ → Type 0
Mends sketch content x = IsBytes x × Repairs content sketch x × (sha256 x ≡ sketch.print)

-- whether the content has the sketch's length and print
abbrev pub is_sketched : Sketch → List ℕ → Bool
is_sketched sketch content = length content == sketch.len && bytes_eq (sha256 content) sketch.print

-- x stands for the replay's content: the content itself where that is the sketched one, and else what mends it
abbrev pub StandsFor : Bool → Sketch → List ℕ → List ℕ → Type 0
StandsFor true sketch content x = IsBytes x × (x ≡ content)
StandsFor false sketch content x = Mends sketch content x

-- ---- one place

abbrev pub AgreesOnPut : FilePath → Sketch → Effect → Effect → Type 0
AgreesOnPut path sketch found agreed =
    (content x : List ℕ) × (found ≡ Put path content) × (agreed ≡ Put path x) × StandsFor (is_sketched sketch content) sketch content x

-- the replay's effect is the entry's, but that a `Put` may have another content; the last is what they agree on
unfoldable pub Agrees : SketchEffect → Effect → Effect → Type 0
Agrees (of_sketch.Make p) found agreed = (found ≡ Make p) × (agreed ≡ Make p)
Agrees (of_sketch.Put p sketch) found agreed = AgreesOnPut p sketch found agreed
Agrees (of_sketch.Remove p) found agreed = (found ≡ Remove p) × (agreed ≡ Remove p)
Agrees (of_sketch.Move p q) found agreed = (found ≡ Move p q) × (agreed ≡ Move p q)
Agrees (of_sketch.Mode p exec) found agreed = (found ≡ Mode p exec) × (agreed ≡ Mode p exec)

abbrev pub Disagree : SketchEffect → Effect → Type 0
Disagree wanted found = (agreed : Effect) → Agrees wanted found agreed → ⊥

-- ---- all places

abbrev pub AllAgree : List SketchEffect → List Effect → List Effect → Type 0
AllAgree [] [] [] = Unit {0}
AllAgree (s ∷ wanted) (e ∷ found) (a ∷ agreed) = Agrees s e a × AllAgree wanted found agreed
AllAgree wanted found agreed = ⊥

-- the first path of a sketched effect
abbrev pub wanted_path : SketchEffect → FilePath
wanted_path (of_sketch.Make p) = p
wanted_path (of_sketch.Put p sketch) = p
wanted_path (of_sketch.Remove p) = p
wanted_path (of_sketch.Move p q) = p
wanted_path (of_sketch.Mode p exec) = p

-- the first path of the entry's effect at the first place that does not agree, or of the replay's where the entry has none there
abbrev pub IsFirstMismatch : List SketchEffect → List Effect → FilePath → Type 0
IsFirstMismatch [] [] path = ⊥
IsFirstMismatch [] (e ∷ found) path = path ≡ first_path e
IsFirstMismatch (s ∷ wanted) [] path = path ≡ wanted_path s
IsFirstMismatch (s ∷ wanted) (e ∷ found) path =
    (Disagree s e × (path ≡ wanted_path s)) ⊎ (((agreed : Effect) × Agrees s e agreed) × IsFirstMismatch wanted found path)
