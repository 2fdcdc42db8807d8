use Rattle.std.proofs.Common.{ℕ, ◌+◌, ◌<◌, length, sym, subst, arith}
use Rattle.std.specs.List.{IsFirstBest}
use Rattle.paced_talks.specs.Going.{is_idler}
use Rattle.paced_talks.proofs.Turns.{idlest_stays, idlest_goes_on}
use Rattle.paced_talks.proofs.answers.Answers.idlest.Goals as goal
use Rattle.paced_talks.proofs.answers.Answers.idlest.Goals.{then-is_idler, else-is_idler}

pub loop-place-preserved : goal.loop-place-preserved
loop-place-preserved g c =
    let talks = c.args.self.now.talks.items in
    let place : ℕ = c.loop-place.place in
    let within : place < length talks = omega (arith, c.len-place-end.ensures, c.loop-place-test.true) in
    elim c.if-is_idler.branch [
      | then-is_idler w ↦ subst (λ (b : ℕ). IsFirstBest is_idler talks (place + 1) b) (sym w.idlest-is)
          (idlest_goes_on talks place c.loop-place.idlest c.index.result.now c.index-in-loop-place.result.now c.is_idler.result c.loop-place.invariant within
          c.index.ensures c.index-in-loop-place.ensures c.is_idler.ensures w.if-is_idler.true)
      | else-is_idler w ↦ subst (λ (b : ℕ). IsFirstBest is_idler talks (place + 1) b) (sym w.idlest-is)
          (idlest_stays talks place c.loop-place.idlest c.index.result.now c.index-in-loop-place.result.now c.is_idler.result c.loop-place.invariant within
          c.index.ensures c.index-in-loop-place.ensures c.is_idler.ensures w.if-is_idler.false)
    ]
