use Rattle.std.proofs.Common.{◌≡◌, ◌+◌, ap, sym, subst, ◌∙◌, arith}
use Rattle.std.proofs.Math.Numerals.{add-one}
use Rattle.gf_65536.specs.Field.{gf_mul, gf_pow}
use Rattle.gf_65536.proofs.Powers.{pow_next}
use Rattle.rs_repair.specs.Inside.{value, AreRoots}
use Rattle.rs_repair.proofs.Search.{roots_start, roots_skip, roots_push}
use Rattle.rs_repair.proofs.errors.roots_of.Goals as goal
use Rattle.rs_repair.proofs.errors.roots_of.Goals.{then-value_at-eq0+in_ok-push, else-value_at-eq0}

pub loop-exponent-init : goal.loop-exponent-init
loop-exponent-init c = record { power = c.pow-x.ensures; roots = roots_start c.args.row.now c.new-roots.result.items (λ k. omega (arith, c.fits-row k)) c.new-roots.ensures.items }

pub loop-exponent-preserved : goal.loop-exponent-preserved
loop-exponent-preserved c =
    let row = c.args.row.now in
    let e = c.loop-exponent.exponent in
    let kept = c.loop-exponent.invariant in
    let value_is = c.value_at.ensures ∙ ap (value row) kept.power in
    record {
      power = c.mul-x.ensures ∙ ap (gf_mul 2) kept.power ∙ sym (ap (gf_pow 2) (add-one e) ∙ pow_next 2 e);
      roots = elim c.if-value_at-eq0.branch [
        | then-value_at-eq0+in_ok-push w ↦ subst (λ v. AreRoots row (e + 1) v) (sym (ap (λ v. v.items) w.roots-is ∙ w.in_ok-push.ensures.items))
            (roots_push row c.loop-exponent.roots.items e kept.roots (sym value_is ∙ w.if-value_at-eq0.true))
        | else-value_at-eq0 w ↦ subst (λ v. AreRoots row (e + 1) v) (sym (ap (λ v. v.items) w.roots-is)) (roots_skip row c.loop-exponent.roots.items e kept.roots (λ z. w.if-value_at-eq0.false (value_is ∙ z)))
      ];
    }

pub returns : goal.returns
returns c = let last : c.loop-exponent.exponent ≡ c.args.bound = omega arith in subst (λ b. AreRoots c.args.row.now b c.loop-exponent.roots.items) last c.loop-exponent.invariant.roots
