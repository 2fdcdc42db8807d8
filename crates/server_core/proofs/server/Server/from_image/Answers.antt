use Rattle.std.proofs.Common.{rules, ◌≡◌, ℕ, ◌<◌, ◌^◌, length, get_or, arith}
use Rattle.server_core.proofs.Numbers.{image-legal}
use Rattle.server_core.proofs.server.Server.from_image.Goals as goal

pub invariant_of-result : goal.invariant_of-result
invariant_of-result c =
    let count : length c.args.image.last ≡ 64 = omega arith in
    let small : (i : ℕ) → get_or c.args.image.last i 0 < 2 ^ 64 = search rules in
    image-legal c.args.image.tree c.args.image.last c.count-rows.ensures.tree count small

pub returns-clause-legal : goal.returns-clause-legal
returns-clause-legal c = invariant_of-result c
