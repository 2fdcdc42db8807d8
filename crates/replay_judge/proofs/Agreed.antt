-- What an outcome and an entry agree on fills the entry's sketches.
use Rattle.std.proofs.Common.{◌≡◌, ℕ, Bool, true, false, ◌==◌, List, [], ◌∷◌, length, refl, sym, ◌∙◌, ap, subst}
use Rattle.std.specs.Str.{bytes_eq}
use Rattle.std.proofs.lemmas.Slice.Eq.{bytes_eq-Decides}
use Rattle.sha2.specs.Sha256.{sha256}
use Rattle.byte_fields.specs.Codec.{IsBytes}
use Rattle.tree_values.specs.declared.node.Effect.{Effect}
use Rattle.rs_parity.specs.declared.sketch.Sketch.{Sketch}
use Rattle.mod_log.specs.Sketched.{Fills}
use Rattle.mod_log.specs.declared.sketched.SketchEffect.{SketchEffect}
use Rattle.mod_log.specs.declared.sketched.SketchEffect.TheVariants as of_sketch
use Rattle.replay_judge.specs.Agreement.{is_sketched, StandsFor, Agrees}
use Rattle.replay_judge.specs.Laws.{AgreementsFill}
use Rattle.byte_fields.proofs.Facts.{eq_of, and_of}

-- bytes that have the sketch's length and print
abbrev HasPrint : Sketch → List ℕ → Type 0
HasPrint sketch x = (length x ≡ sketch.len) × (sha256 x ≡ sketch.print) × IsBytes x

stands : (b : Bool) (sketch : Sketch) (content x : List ℕ) → is_sketched sketch content ≡ b → StandsFor b sketch content x → HasPrint sketch x
stands true sketch content x e is =
    let each = and_of (length content == sketch.len) (bytes_eq (sha256 content) sketch.print) e in
    (ap length is.1 ∙ eq_of (length content) sketch.len each.0, ap sha256 is.1 ∙ (bytes_eq-Decides (sha256 content) sketch.print).0 each.1, is.0)
stands false sketch content x e is = (is.1.len, is.2, is.0)

place : (s : SketchEffect) (e a : Effect) → Agrees s e a → Fills s a
unfolding Agrees
place (of_sketch.Make p) e a is = subst (Fills (of_sketch.Make p)) (sym is.1) refl
place (of_sketch.Put p sketch) e a is =
    let print = stands (is_sketched sketch is.0) sketch is.0 is.1 refl is.4 in
    subst (Fills (of_sketch.Put p sketch)) (sym is.3) (refl, print.0, print.1, print.2)
place (of_sketch.Remove p) e a is = subst (Fills (of_sketch.Remove p)) (sym is.1) refl
place (of_sketch.Move p q) e a is = subst (Fills (of_sketch.Move p q)) (sym is.1) (refl, refl)
place (of_sketch.Mode p exec) e a is = subst (Fills (of_sketch.Mode p exec)) (sym is.1) (refl, refl)

pub all_fill : AgreementsFill
all_fill [] [] [] all = tt
all_fill [] [] (a ∷ agreed) all = absurd all
all_fill [] (e ∷ found) agreed all = absurd all
all_fill (s ∷ wanted) [] agreed all = absurd all
all_fill (s ∷ wanted) (e ∷ found) [] all = absurd all
all_fill (s ∷ wanted) (e ∷ found) (a ∷ agreed) all = (place s e a all.0, all_fill wanted found agreed all.1)
