use Rattle.std.proofs.Common.{rules, ◌≡◌, ℕ, sym, subst}
use Rattle.world_rules.specs.declared.asking.Peer.TheVariants.{Server}
use Rattle.world_rules.proofs.Asks.{told_as}
use Rattle.surrogate_pool.specs.Inside.{HasAsked}
use Rattle.surrogate_pool.proofs.Trying.{tries_of, passed_on}
use Rattle.surrogate_pool.proofs.tries.pass_on.Goals as goal
use Rattle.surrogate_pool.proofs.tries.pass_on.Goals.{in-Err-Memory, in-Ok, in-Ok-2}

pub returns-clause-asked : goal.returns-clause-asked
returns-clause-asked g c = λ request spells.
    let count : c.match-answer.count ≡ tries_of c.ask-answer.result =
    elim c.match-answer.branch [ in-Err-Memory w ↦ search rules | in-Ok w ↦ search rules | in-Ok-2 w ↦ search rules ] in
    told_as _ _ _ _ (c.ask-answer.ensures.world request spells)
    (λ v w once. subst (λ (n : ℕ). HasAsked Server c.args.address.now request n c.ask-answer.result v w) (sym count)
    (passed_on c.args.address.now request v w c.ask-answer.result once))
