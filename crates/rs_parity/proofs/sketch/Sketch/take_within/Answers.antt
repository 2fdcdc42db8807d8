use Rattle.std.proofs.Common.{◌≡◌, Ok, rules, arith}
use Rattle.byte_fields.specs.Field.{ruled}
use Rattle.rs_parity.specs.Spelling.{sketch_at}
use Rattle.rs_parity.proofs.Spelled.{read_fits}
use Rattle.rs_parity.proofs.sketch.Sketch.take_within.Goals as goal

pub returns-clause-fits : goal.returns-clause-fits
unfolding sketch_at ruled
returns-clause-fits c =
    let read : sketch_at c.args.room c.args.bytes.now c.args.at ≡ Ok (record { len = c.in_ok-len.len; print = c.copy_from_slice.new.self; parities = c.in_ok-parities.parities }, c.in_ok-parities.next) = search rules in
    read_fits c.args.room c.args.bytes.now c.args.at _ c.in_ok-parities.next (λ i. omega (arith, c.type_inv.bytes i)) read
