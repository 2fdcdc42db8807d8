-- An outcome has one judgement.
use Rattle.std.proofs.Common.{◌≡◌, ◌≢◌, inl, inr, ℕ, ◌<◌, Bool, true, false, List, [], ◌∷◌, refl, sym, ◌∙◌, ap, subst, true≢false, arith}
use Rattle.file_paths.specs.Path.{FilePath}
use Rattle.tree_values.specs.declared.node.Effect.{Effect}
use Rattle.tree_values.specs.declared.node.Effect.TheVariants.{Make, Put, Remove, Move, Mode}
use Rattle.rs_parity.specs.declared.sketch.Sketch.{Sketch}
use Rattle.rs_repair.proofs.Blocks.{one_repair_whole}
use Rattle.byte_fields.specs.Numbers.{as_u32}
use Rattle.cmd_capture.specs.declared.job.RawRow.{RawRow}
use Rattle.cmd_capture.specs.declared.job.Outcome.{Outcome}
use Rattle.cmd_capture.specs.Rows.{AreLegal, IsFirstOdd}
use Rattle.work_area.specs.declared.rows.RowsFault.TheVariants as rows_faults
use Rattle.work_area.specs.Outcomes.{IsRowsFault}
use Rattle.mod_log.specs.declared.sketched.SketchEffect.{SketchEffect}
use Rattle.mod_log.specs.declared.sketched.SketchEffect.TheVariants as of_sketch
use Rattle.mod_log.specs.declared.sketching.SketchEntry.{SketchEntry}
use Rattle.replay_judge.specs.declared.verdict.Verdict.TheVariants.{Agree, Status, OddTree, Mismatch}
use Rattle.replay_judge.specs.Agreement.{is_sketched, StandsFor, AgreesOnPut, Agrees, AllAgree, IsFirstMismatch}
use Rattle.replay_judge.specs.Judgement.{replay_changes}
use Rattle.replay_judge.specs.Laws.{OneJudgement}

abbrev content_of : Effect → List ℕ → List ℕ
content_of (Put p content) other = content
content_of (Make p) other = other
content_of (Remove p) other = other
content_of (Move p q) other = other
content_of (Mode p exec) other = other

one_stand : (b : Bool) (sketch : Sketch) (content x y : List ℕ) → StandsFor b sketch content x → StandsFor b sketch content y → x ≡ y
one_stand true sketch content x y first second = first.1 ∙ sym second.1
one_stand false sketch content x y first second = one_repair_whole content sketch x y first.0 second.0 first.1 second.1

one_put : (p : FilePath) (sketch : Sketch) (e a b : Effect) → AgreesOnPut p sketch e a → AgreesOnPut p sketch e b → a ≡ b
one_put p sketch e a b first second =
    let same : second.0 ≡ first.0 = ap (λ f. content_of f first.0) (sym second.2 ∙ first.2) in
    first.3 ∙ ap (Put p) (one_stand (is_sketched sketch first.0) sketch first.0 first.1 second.1 first.4
    (subst (λ c. StandsFor (is_sketched sketch c) sketch c second.1) same second.4)) ∙ sym second.3

one_place : (s : SketchEffect) (e a b : Effect) → Agrees s e a → Agrees s e b → a ≡ b
unfolding Agrees
one_place (of_sketch.Make p) e a b first second = first.1 ∙ sym second.1
one_place (of_sketch.Put p sketch) e a b first second = one_put p sketch e a b first second
one_place (of_sketch.Remove p) e a b first second = first.1 ∙ sym second.1
one_place (of_sketch.Move p q) e a b first second = first.1 ∙ sym second.1
one_place (of_sketch.Mode p exec) e a b first second = first.1 ∙ sym second.1

one_agreement : (wanted : List SketchEffect) (found a b : List Effect) → AllAgree wanted found a → AllAgree wanted found b → a ≡ b
one_agreement [] [] [] [] first second = refl
one_agreement [] [] [] (y ∷ b) first second = absurd second
one_agreement [] [] (x ∷ a) b first second = absurd first
one_agreement [] (e ∷ found) a b first second = absurd first
one_agreement (s ∷ wanted) [] a b first second = absurd first
one_agreement (s ∷ wanted) (e ∷ found) [] b first second = absurd first
one_agreement (s ∷ wanted) (e ∷ found) (x ∷ a) [] first second = absurd second
one_agreement (s ∷ wanted) (e ∷ found) (x ∷ a) (y ∷ b) first second =
    let head = one_place s e x y first.0 second.0 in
    let tail = one_agreement wanted found a b first.1 second.1 in
    λ i. head i ∷ tail i

mismatch_apart : (wanted : List SketchEffect) (found agreed : List Effect) (path : FilePath) → AllAgree wanted found agreed → IsFirstMismatch wanted found path → ⊥
mismatch_apart [] [] agreed path all none = none
mismatch_apart [] (e ∷ found) agreed path all some = absurd all
mismatch_apart (s ∷ wanted) [] agreed path all some = absurd all
mismatch_apart (s ∷ wanted) (e ∷ found) [] path all some = absurd all
mismatch_apart (s ∷ wanted) (e ∷ found) (a ∷ agreed) path all (inl here) = here.0 a all.0
mismatch_apart (s ∷ wanted) (e ∷ found) (a ∷ agreed) path all (inr later) = mismatch_apart wanted found agreed path all.1 later.1

one_mismatch : (wanted : List SketchEffect) (found : List Effect) (p q : FilePath) → IsFirstMismatch wanted found p → IsFirstMismatch wanted found q → p ≡ q
one_mismatch [] [] p q first second = absurd first
one_mismatch [] (e ∷ found) p q first second = first ∙ sym second
one_mismatch (s ∷ wanted) [] p q first second = first ∙ sym second
one_mismatch (s ∷ wanted) (e ∷ found) p q (inl first) (inl second) = first.1 ∙ sym second.1
one_mismatch (s ∷ wanted) (e ∷ found) p q (inl first) (inr second) = absurd (first.0 second.0.0 second.0.1)
one_mismatch (s ∷ wanted) (e ∷ found) p q (inr first) (inl second) = absurd (second.0 first.0.0 first.0.1)
one_mismatch (s ∷ wanted) (e ∷ found) p q (inr first) (inr second) = one_mismatch wanted found p q first.1 second.1

-- of two rows that are each the first odd one, none is before the other
not_before : (raws : List RawRow) (i k : ℕ) → IsFirstOdd raws i → IsFirstOdd raws k → i < k → ⊥
not_before raws i k first second below = true≢false (sym (second.first i below) ∙ first.odd)

one_first_odd : (raws : List RawRow) (i k : ℕ) → IsFirstOdd raws i → IsFirstOdd raws k → i ≡ k
one_first_odd raws i k first second =
    let low = not_before raws i k first second in
    let high = not_before raws k i second first in
    grind (arith)

one_fault : (raws : List RawRow) (i k : ℕ) → IsRowsFault raws (rows_faults.OddTree i) → IsRowsFault raws (rows_faults.OddTree k) → i ≡ k
one_fault raws i k first second = first.1 ∙ ap as_u32 (one_first_odd raws first.0 second.0 first.2 second.2) ∙ sym second.1

legal_apart : (raws : List RawRow) (i : ℕ) → AreLegal raws → IsRowsFault raws (rows_faults.OddTree i) → ⊥
legal_apart raws i legal fault = true≢false (sym (legal fault.0 fault.2.within) ∙ fault.2.odd)

clash : (sketched : SketchEntry) (outcome : Outcome) (logged replayed : ℕ) → (logged ≡ sketched.origin.status) × (replayed ≡ outcome.status) × (replayed ≢ logged)
    → outcome.status ≡ sketched.origin.status → ⊥
clash sketched outcome logged replayed is same = is.2 (is.1 ∙ same ∙ sym is.0)

pub one_judgement_whole : OneJudgement
one_judgement_whole sketched job outcome (Status l r) (Status k s) x y = λ i. Status ((x.0 ∙ sym y.0) i) ((x.1 ∙ sym y.1) i)
one_judgement_whole sketched job outcome (Status l r) (OddTree k) x y = absurd (clash sketched outcome l r x y.0)
one_judgement_whole sketched job outcome (Status l r) (Mismatch q) x y = absurd (clash sketched outcome l r x y.1.status)
one_judgement_whole sketched job outcome (Status l r) (Agree b) x y = absurd (clash sketched outcome l r x y.1.status)
one_judgement_whole sketched job outcome (OddTree i) (Status k s) x y = absurd (clash sketched outcome k s y x.0)
one_judgement_whole sketched job outcome (OddTree i) (OddTree k) x y = ap OddTree (one_fault outcome.rows i k x.1 y.1)
one_judgement_whole sketched job outcome (OddTree i) (Mismatch q) x y = absurd (legal_apart outcome.rows i y.1.legal x.1)
one_judgement_whole sketched job outcome (OddTree i) (Agree b) x y = absurd (legal_apart outcome.rows i y.1.legal x.1)
one_judgement_whole sketched job outcome (Mismatch p) (Status k s) x y = absurd (clash sketched outcome k s y x.1.status)
one_judgement_whole sketched job outcome (Mismatch p) (OddTree k) x y = absurd (legal_apart outcome.rows k x.1.legal y.1)
one_judgement_whole sketched job outcome (Mismatch p) (Mismatch q) x y =
    ap Mismatch (one_mismatch sketched.effects (replay_changes sketched job x.0) p q x.2
    (subst (λ r. IsFirstMismatch sketched.effects (replay_changes sketched job r) q) (y.1.rows_are ∙ sym x.1.rows_are) y.2))
one_judgement_whole sketched job outcome (Mismatch p) (Agree b) x y =
    absurd (mismatch_apart sketched.effects (replay_changes sketched job x.0) b p
    (subst (λ r. AllAgree sketched.effects (replay_changes sketched job r) b) (y.1.rows_are ∙ sym x.1.rows_are) y.2) x.2)
one_judgement_whole sketched job outcome (Agree a) (Status k s) x y = absurd (clash sketched outcome k s y x.1.status)
one_judgement_whole sketched job outcome (Agree a) (OddTree k) x y = absurd (legal_apart outcome.rows k x.1.legal y.1)
one_judgement_whole sketched job outcome (Agree a) (Mismatch q) x y =
    absurd (mismatch_apart sketched.effects (replay_changes sketched job y.0) a q
    (subst (λ r. AllAgree sketched.effects (replay_changes sketched job r) a) (x.1.rows_are ∙ sym y.1.rows_are) x.2) y.2)
one_judgement_whole sketched job outcome (Agree a) (Agree b) x y =
    ap Agree (one_agreement sketched.effects (replay_changes sketched job x.0) a b x.2
    (subst (λ r. AllAgree sketched.effects (replay_changes sketched job r) b) (y.1.rows_are ∙ sym x.1.rows_are) y.2))
