use Rattle.std.proofs.Common.{◌≡◌, get_or, ap, ◌∙◌, arith}
use Rattle.rs_repair.proofs.Pairings.{last_unmarked}
use Rattle.rs_repair.proofs.elimination.first_unmarked.Goals as goal

pub returns-after-loop-i-clause-unmarked : goal.returns-after-loop-i-clause-unmarked
returns-after-loop-i-clause-unmarked c =
    let kept = c.loop-i.invariant in
    let last : c.loop-i.i ≡ 16 = omega arith in
    ap (λ k. get_or c.args.marks.now k 0) last ∙ last_unmarked c.args.marks.now 16 c.told-marks (λ k h. kept.marked k (omega arith)) c.requires
