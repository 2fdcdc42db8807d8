use Rattle.std.proofs.Common.{◌≤◌, sym, subst, arith, length-take}
use Rattle.std.proofs.Math.Nat.{le_trans}
use Rattle.server_core.proofs.Merging.{between_few}
use Rattle.server_core.proofs.server.record_of.Goals as goal

pub count_upto-requires-clause-few : goal.count_upto-requires-clause-few
count_upto-requires-clause-few c = le_trans (between_few c.args.number c.args.entries.now c.args.before c.args.last) c.requires.body_fits.few

pub from_vec-requires : goal.from_vec-requires
from_vec-requires c =
    let few : c.count_upto.result ≤ 4096 = subst (λ n. n ≤ 4096) (sym c.count_upto.ensures) (le_trans (between_few c.args.number c.args.entries.now c.args.before c.args.last) c.requires.body_fits.few) in
    grind (arith, few, length-take)
