-- What a copy refuses can be told, and what is agreed on can be asked.
use Rattle.std.proofs.Common.{◌≡◌, inl, inr, ℕ, List, Option, Some, None, Result, Ok, Err, IfOk, sym, subst}
use Rattle.std.specs.Prelude.{find}
use Rattle.tree_values.specs.Tree.{Volume, IsTree}
use Rattle.tree_values.specs.Effects.{apply_all}
use Rattle.tree_values.specs.Fault.{FaultFits}
use Rattle.tree_values.specs.Spelling.{EffectsFit}
use Rattle.tree_values.specs.declared.node.Effect.{Effect}
use Rattle.tree_values.specs.declared.node.TreeError.{TreeError}
use Rattle.tree_values.specs.declared.node.TreeError.TheVariants.{RootFixed, NoParent, Exists, Missing, IsFolder, NotEmpty, RowsFull, FileTooLarge, TreeFull, VersionTop, Memory}
use Rattle.cmd_capture.specs.declared.job.Job.{Job}
use Rattle.cmd_capture.specs.declared.job.Outcome.{Outcome}
use Rattle.work_area.specs.Changes.{clashes}
use Rattle.mod_log.specs.Sketched.{AllFill}
use Rattle.mod_log.specs.declared.sketching.SketchEntry.{SketchEntry}
use Rattle.replay_judge.specs.Judgement.{IsJudgement}
use Rattle.replay_judge.specs.declared.verdict.Verdict.{Verdict}
use Rattle.replay_judge.specs.declared.verdict.Verdict.TheVariants.{Agree, Status, OddTree, Mismatch}
use Rattle.replay_judge.proofs.Agreed.{all_fill}
use Rattle.wire_frames.specs.Frame.{IsValid}
use Rattle.wire_frames.specs.declared.parts.Part.{Part}
use Rattle.wire_frames.specs.declared.cause.Cause.{Cause}
use Rattle.wire_frames.specs.declared.message.Message.TheVariants.{Store, Operate}
use Rattle.wire_frames.proofs.Standing.{filled_stores}
use Rattle.world_rules.proofs.Replies.{IsTold, refused_all-told}
use Rattle.surrogate_core.specs.declared.replaying.Held.{Held}
use Rattle.surrogate_core.specs.Handling.{Held as HeldEffects, held_by, unless_clash, unless_unfit}
use Rattle.surrogate_core.specs.Inside.{IsJudgedReplay}

-- ---- refusals

told_fits : (fault : TreeError) → IsTold fault → FaultFits fault
told_fits RootFixed told = tt
told_fits (NoParent p) (inl told) = absurd told.1
told_fits (NoParent p) (inr told) = told.1
told_fits (Exists p) (inl told) = absurd told.1
told_fits (Exists p) (inr told) = told.1
told_fits (Missing p) (inl told) = absurd told.1
told_fits (Missing p) (inr told) = told.1
told_fits (IsFolder p) (inl told) = absurd told.1
told_fits (IsFolder p) (inr told) = told.1
told_fits (NotEmpty p child) (inl told) = absurd told.1
told_fits (NotEmpty p child) (inr told) = told.1
told_fits (RowsFull n) (inl told) = told.1
told_fits (RowsFull n) (inr told) = absurd told.1
told_fits (FileTooLarge n) (inl told) = absurd told.1
told_fits (FileTooLarge n) (inr told) = told.1
told_fits (TreeFull n) (inl told) = told.1
told_fits (TreeFull n) (inr told) = absurd told.1
told_fits (VersionTop p) (inl told) = absurd told.1
told_fits (VersionTop p) (inr told) = told.1
told_fits Memory (inl told) = absurd told.1
told_fits Memory (inr told) = absurd told.1

pub refused_fits : (effects : List Effect) (rows : Volume) (index : ℕ) (fault : TreeError) → EffectsFit effects → IsTree rows → apply_all 0 effects rows ≡ Err (index, fault) → FaultFits fault
refused_fits effects rows index fault fits tree refused = told_fits fault (refused_all-told effects 0 rows (index, fault) fits.each tree refused).1

-- ---- effects that were agreed on

agreed_fills : (sketched : SketchEntry) (job : Job) (outcome : Outcome) (effects : List Effect) → IsJudgement sketched job outcome (Agree effects) → AllFill sketched.effects effects
agreed_fills sketched job outcome effects judged = all_fill sketched.effects _ effects judged.2

pub agreed_fit : (client : ℕ) (sketched : SketchEntry) (job : Job) (outcome : Outcome) (effects : List Effect) → IsValid (Operate client sketched)
    → IsJudgement sketched job outcome (Agree effects) → EffectsFit effects
agreed_fit client sketched job outcome effects valid judged = (filled_stores client sketched effects valid (agreed_fills sketched job outcome effects judged)).body_fits.each.0.0

-- what is held is what was agreed on
abbrev Holds : SketchEntry → Result HeldEffects Cause → Type 0
Holds sketched held = IfOk held (λ h. AllFill sketched.effects h.effects)

applied_holds : (sketched : SketchEntry) (effects : List Effect) (applied : Result Volume (ℕ × TreeError)) → AllFill sketched.effects effects → Holds sketched (unless_unfit effects applied)
applied_holds sketched effects (Ok copy) fills = fills
applied_holds sketched effects (Err refusal) fills = tt

clash_holds : (sketched : SketchEntry) (copy : Volume) (effects : List Effect) (clash : Option Effect) → AllFill sketched.effects effects → Holds sketched (unless_clash copy effects clash)
clash_holds sketched copy effects (Some effect) fills = tt
clash_holds sketched copy effects None fills = applied_holds sketched effects (apply_all 0 effects copy) fills

verdict_holds : (sketched : SketchEntry) (copy : Volume) (job : Job) (outcome : Outcome) (verdict : Verdict) → IsJudgement sketched job outcome verdict → Holds sketched (held_by copy job verdict)
verdict_holds sketched copy job outcome (Agree effects) judged = clash_holds sketched copy effects (find (clashes copy job.rows) effects) (agreed_fills sketched job outcome effects judged)
verdict_holds sketched copy job outcome (Status logged replayed) judged = tt
verdict_holds sketched copy job outcome (OddTree i) judged = tt
verdict_holds sketched copy job outcome (Mismatch path) judged = tt

pub store_valid : (client : ℕ) (sketched : SketchEntry) (old new : Volume) (job : Job) (outcome : Outcome) (result : Result Held Cause) → IsValid (Operate client sketched)
    → IsJudgedReplay old new sketched job outcome result → IfOk result (λ held. IsValid (Store client sketched.seq held.entries))
store_valid client sketched old new job outcome (Ok held) valid replayed =
    subst (λ (parts : List Part). IsValid (Store client sketched.seq parts)) (sym replayed.held.entry)
    (filled_stores client sketched replayed.held.effects valid (subst (Holds sketched) replayed.held.is_wanted (verdict_holds sketched old job outcome replayed.verdict replayed.judged)))
store_valid client sketched old new job outcome (Err cause) valid replayed = tt
