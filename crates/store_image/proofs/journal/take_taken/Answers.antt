use Rattle.std.proofs.Common.{◌<◌, ◌≤◌, ◌-◌, ap, arith}
use Rattle.std.specs.Prelude.{set}
use Rattle.tree_values.specs.Tree.{Volume}
use Rattle.store_image.specs.Records.{last_of, made_taken}
use Rattle.store_image.proofs.Images.{server_made}
use Rattle.store_image.proofs.Spelled.{last_at, taken_reads}
use Rattle.store_image.proofs.journal.take_taken.Goals as goal

pub returns : goal.returns
returns c =
    let image = c.args.image.now in
    let client = c.in_ok-client.client in
    let last = c.in_ok-last.last in
    let effects = c.in_ok-effects.effects in
    let some : 1 ≤ client = omega (arith, c.if-client-lt1.false) in
    let few : client ≤ 64 = omega (arith, c.if-client-gt64.false) in
    let later : last_of image client < last = omega (arith, last_at image client some, c.if-last-image.false) in
    let read = taken_reads c.args.format image c.args.bytes.now c.args.at client c.in_ok-client.middle last c.in_ok-last.start effects c.in_ok-effects.next c.in_ok-client.ensures some few c.in_ok-last.ensures later c.in_ok-effects.ensures.read in
    (made_taken client last effects, (read, ap (λ (tree : Volume). server_made (set image.last (client - 1) last) tree) c.in_ok-effects.ensures.applied))
