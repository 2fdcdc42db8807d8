use Rattle.std.proofs.Common.{ℕ, ◌+◌, ◌<◌, length, sym, subst, arith}
use Rattle.std.specs.List.{IsFirstBest}
use Rattle.paced_talks.specs.Coming.{goes_before}
use Rattle.paced_talks.proofs.Turns.{first_stays, first_goes_on}
use Rattle.paced_talks.proofs.gathering.Gathering.idlest.Goals as goal
use Rattle.paced_talks.proofs.gathering.Gathering.idlest.Goals.{then-goes_before, else-goes_before}

pub loop-place-preserved : goal.loop-place-preserved
loop-place-preserved g c =
    let talks = c.args.self.now.talks.items in
    let place : ℕ = c.loop-place.place in
    let within : place < length talks = omega (arith, c.len-place-end.ensures, c.loop-place-test.true) in
    elim c.if-goes_before.branch [
      | then-goes_before w ↦ subst (λ (b : ℕ). IsFirstBest goes_before talks (place + 1) b) (sym w.idlest-is)
          (first_goes_on talks place c.loop-place.idlest c.index.result.now c.index-in-loop-place.result.now c.goes_before.result c.loop-place.invariant within
          c.index.ensures c.index-in-loop-place.ensures c.goes_before.ensures w.if-goes_before.true)
      | else-goes_before w ↦ subst (λ (b : ℕ). IsFirstBest goes_before talks (place + 1) b) (sym w.idlest-is)
          (first_stays talks place c.loop-place.idlest c.index.result.now c.index-in-loop-place.result.now c.goes_before.result c.loop-place.invariant within
          c.index.ensures c.index-in-loop-place.ensures c.goes_before.ensures w.if-goes_before.false)
    ]
