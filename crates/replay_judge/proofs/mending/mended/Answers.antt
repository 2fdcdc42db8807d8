use Rattle.std.proofs.Common.{IfNone, IfSome, subst, sym, ◌∙◌, ap}
use Rattle.std.specs.Str.{bytes_eq}
use Rattle.sha2.specs.Sha256.{sha256}
use Rattle.byte_fields.specs.Codec.{IsBytes}
use Rattle.rs_repair.specs.Repair.{Repairs, IsBeyondRepair}
use Rattle.replay_judge.specs.Agreement.{Mends}
use Rattle.replay_judge.proofs.Places.{other_print, same_print}
use Rattle.replay_judge.proofs.mending.mended.Goals as goal

pub returns-then-not-has_print-clause-none : goal.returns-then-not-has_print-clause-none
returns-then-not-has_print-clause-none c =
    other_print c.args.sketch.now c.args.content.now c.in-Some.found.items
    (subst IsBytes c.deref.ensures.value c.has_print.ensures.bytes)
    (subst (λ o. IfSome o (λ v. Repairs c.args.content.now c.args.sketch.now v.items)) c.in-Some.is c.in_ok-repaired.ensures.some)
    (ap (λ b. bytes_eq (sha256 b) c.args.sketch.now.print) (sym c.deref.ensures.value) ∙ sym c.has_print.ensures.test ∙ c.if-not-has_print.true)

pub returns-in-None-clause-none : goal.returns-in-None-clause-none
returns-in-None-clause-none c x mends =
    subst (λ o. IfNone o (IsBeyondRepair c.args.content.now c.args.sketch.now)) c.in-None.is c.in_ok-repaired.ensures.none x mends.0 mends.1

pub returns-in_ok-from_vec-in-Some-clause-some : goal.returns-in_ok-from_vec-in-Some-clause-some
returns-in_ok-from_vec-in-Some-clause-some c =
    subst (Mends c.args.sketch.now c.args.content.now) (sym c.in_ok-from_vec-in-Some.ensures)
    (same_print c.args.sketch.now c.args.content.now c.in-Some.found.items
    (subst IsBytes c.deref.ensures.value c.has_print.ensures.bytes)
    (subst (λ o. IfSome o (λ v. Repairs c.args.content.now c.args.sketch.now v.items)) c.in-Some.is c.in_ok-repaired.ensures.some)
    (ap (λ b. bytes_eq (sha256 b) c.args.sketch.now.print) (sym c.deref.ensures.value) ∙ sym c.has_print.ensures.test ∙ c.if-not-has_print.false))
