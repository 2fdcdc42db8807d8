-- What agrees at one place, and what the places before say of all.
use Rattle.std.proofs.Common.{◌≡◌, ℕ, true, false, List, [], ◌∷◌, ◌++◌, sym, ◌∙◌, ap, subst, ◌+◌, ◌<◌, length, take, get_or, Option, None, Result, Ok, Err, IfOk}
use Rattle.std.specs.Str.{bytes_eq}
use Rattle.std.specs.Prelude.{slice_get}
use Rattle.std.specs.List.{AllByRecursion}
use Rattle.std.specs.declared.alloc.AllocError.{AllocError}
use Rattle.std.proofs.lemmas.Option.{none-some}
use Rattle.std.proofs.lemmas.Bool.{false≢true}
use Rattle.std.proofs.lemmas.Slice.Eq.{bytes_eq-Decides}
use Rattle.std.proofs.lemmas.List.{append-nil, take_more}
use Rattle.std.proofs.lemmas.List.Concat.{flat_map-append, flat_map-cons}
use Rattle.sha2.specs.Sha256.{sha256}
use Rattle.byte_fields.specs.Codec.{IsBytes}
use Rattle.file_paths.specs.Path.{FilePath, IsPath}
use Rattle.tree_values.specs.declared.node.Effect.{Effect}
use Rattle.tree_values.specs.declared.node.Effect.TheVariants.{Make, Put, Remove, Move, Mode}
use Rattle.rs_parity.specs.declared.sketch.Sketch.{Sketch}
use Rattle.rs_repair.specs.Repair.{Repairs}
use Rattle.rs_repair.proofs.Blocks.{one_repair_whole}
use Rattle.cmd_capture.specs.declared.job.Job.{Job}
use Rattle.cmd_capture.specs.declared.job.JobRow.{JobRow}
use Rattle.cmd_capture.specs.declared.job.Outcome.{Outcome}
use Rattle.mod_log.specs.declared.sketching.SketchEntry.{SketchEntry}
use Rattle.mod_log.specs.Sketched.{sketch_paths, sketches_touch}
use Rattle.mod_log.specs.declared.sketched.SketchEffect.{SketchEffect}
use Rattle.mod_log.specs.declared.sketched.SketchEffect.TheVariants as of_sketch
use Rattle.temp_names.proofs.Rising.{all_append}
use Rattle.replay_judge.specs.Agreement.{Mends, is_sketched, StandsFor, Agrees, Disagree, AllAgree}
use Rattle.replay_judge.specs.Judgement.{IsReplay, replay_changes, IsJudgement}
use Rattle.replay_judge.specs.declared.verdict.Verdict.{Verdict}
use Rattle.replay_judge.specs.declared.verdict.Verdict.TheVariants.{Agree, Status, OddTree, Mismatch}
use Rattle.replay_judge.specs.Inside.{IsBeyondMending, HasNoStandIn, IsComparison, Decides}

-- ---- one place

-- where the one repair has another print, nothing mends
pub other_print : (sketch : Sketch) (content found : List ℕ) → IsBytes found → Repairs content sketch found → bytes_eq (sha256 found) sketch.print ≡ false
    → IsBeyondMending sketch content
other_print sketch content found bytes repairs differs x mends =
    let same : x ≡ found = one_repair_whole content sketch x found mends.0 bytes mends.1 repairs in
    false≢true (sym differs ∙ (bytes_eq-Decides (sha256 found) sketch.print).1 (ap sha256 (sym same) ∙ mends.2))

-- and where it has the sketch's print, it mends
pub same_print : (sketch : Sketch) (content found : List ℕ) → IsBytes found → Repairs content sketch found → bytes_eq (sha256 found) sketch.print ≡ true → Mends sketch content found
same_print sketch content found bytes repairs same = (bytes, repairs, (bytes_eq-Decides (sha256 found) sketch.print).0 same)

abbrev content_of : Effect → List ℕ
content_of (Make p) = []
content_of (Put p content) = content
content_of (Remove p) = []
content_of (Move p q) = []
content_of (Mode p exec) = []

-- where nothing stands for the content that the replay put, there is no agreement
pub put_disagrees : (p : FilePath) (sketch : Sketch) (content : List ℕ) (found : Effect) → found ≡ Put p content
    → HasNoStandIn (is_sketched sketch content) sketch content → Disagree (of_sketch.Put p sketch) found
unfolding Agrees
put_disagrees p sketch content found e none agreed h =
    let same : h.0 ≡ content = ap content_of (sym h.2 ∙ e) in
    none h.1 (subst (λ c. StandsFor (is_sketched sketch c) sketch c h.1) same h.4)

-- ---- all places

pub decides_all : (wanted left : List SketchEffect) (found left_found agreed : List Effect) → length left ≡ 0 → ◌≡◌ {A = Option Effect} None (slice_get left_found 0)
    → Decides wanted found left left_found agreed → AllAgree wanted found agreed
decides_all wanted [] found [] agreed left none decides = subst (AllAgree wanted found) (append-nil agreed) (decides.agrees [] tt)
decides_all wanted [] found (e ∷ rest) agreed left none decides = absurd (none-some e none)
decides_all wanted (s ∷ more) found left_found agreed left none decides = absurd (cc left)

-- what the comparison of a replay's changes says is the judgement
pub judged : (sketched : SketchEntry) (job : Job) (outcome : Outcome) (rows : List JobRow) → IsReplay sketched outcome rows
    → (result : Result Verdict AllocError) → IfOk result (IsComparison sketched.effects (replay_changes sketched job rows)) → IfOk result (IsJudgement sketched job outcome)
judged sketched job outcome rows replay (Err e) compared = compared
judged sketched job outcome rows replay (Ok (Agree agreed)) compared = (rows, replay, compared)
judged sketched job outcome rows replay (Ok (Status logged replayed)) compared = absurd compared
judged sketched job outcome rows replay (Ok (OddTree i)) compared = absurd compared
judged sketched job outcome rows replay (Ok (Mismatch path)) compared = (rows, replay, compared)

-- ---- the paths of sketched effects

pub paths_more : (effects : List SketchEffect) (i : ℕ) (e : SketchEffect) → i < length effects → e ≡ get_or effects i e
    → AllByRecursion IsPath (sketches_touch (take i effects)) → AllByRecursion IsPath (sketch_paths e) → AllByRecursion IsPath (sketches_touch (take (i + 1) effects))
paths_more effects i e within at before here =
    let one : sketches_touch (e ∷ []) ≡ sketch_paths e = flat_map-cons sketch_paths e [] ∙ append-nil (sketch_paths e) in
    let more : sketches_touch (take (i + 1) effects) ≡ sketches_touch (take i effects) ++ sketch_paths e =
    ap sketches_touch (take_more effects i e within)
    ∙ flat_map-append sketch_paths (take i effects) (get_or effects i e ∷ [])
    ∙ ap (λ x. sketches_touch (take i effects) ++ sketches_touch (x ∷ [])) (sym at)
    ∙ ap (λ x. sketches_touch (take i effects) ++ x) one
    in subst (AllByRecursion IsPath) (sym more) (all_append IsPath (sketches_touch (take i effects)) (sketch_paths e) before here)
