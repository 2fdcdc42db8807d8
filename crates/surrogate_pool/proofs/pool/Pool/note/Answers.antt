use Rattle.std.proofs.Common.{◌≡◌, ◌∙◌, ◌+◌, ◌++◌, ◌∷◌, [], length, arith}
use Rattle.surrogate_pool.proofs.Pooling.{noted_last, address_of_last}
use Rattle.surrogate_pool.proofs.pool.Pool.note.Goals as goal

pub returns-in-Some-clause-rounds : goal.returns-in-Some-clause-rounds
returns-in-Some-clause-rounds g c = λ before round is.
    let items = c.args.self.now.rounds.items in
    let at : c.in-Some.last + 1 ≡ length items = omega (arith, c.in-Some.ensures.0, c.in-Some.ensures.1, c.len.ensures, c.args.self.now.rounds.ok.0) in
    let same : c.index_mut-round.result.now ≡ round =
    c.index_mut-round.ensures.value ∙ address_of_last items before round c.index_mut-round.result.now c.in-Some.last is at in
    noted_last items before round _ c.in-Some.last is at
    ∙ (λ i. before ++ (record { address = (same i).address; tries = c.args.tries.now.count; answered = c.is_answered-round.ensures i }) ∷ [])
