use Rattle.rs_repair.proofs.Pairings.{basis_marked}
use Rattle.rs_repair.proofs.elimination.eliminate.Goals as goal

pub returns-then-pivot-lt-COEFFICIENTS : goal.returns-then-pivot-lt-COEFFICIENTS
returns-then-pivot-lt-COEFFICIENTS c =
    let found = c.first_pivot-pivot.ensures in
    let below = c.if-pivot-lt-COEFFICIENTS.true in
    basis_marked c.args.place c.first_pivot-pivot.result c.args.sums.now c.args.basis.now c.clear_above.new.basis c.args.marks.now c.requires.basis below
    (found.unmarked below) found.cleared c.clear_above.ensures
