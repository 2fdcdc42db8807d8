use Rattle.std.proofs.Common.{rules, ◌≡◌}
use Rattle.store_image.specs.Spelling.{client, ClientFits}
use Rattle.store_image.proofs.Images.{client_made}
use Rattle.store_image.proofs.Sizes.{client_size}
use Rattle.store_image.proofs.Appended.{client_image_kept}
use Rattle.store_image.proofs.writing.write_client.Goals as goal

pub returns-clause-kept : goal.returns-clause-kept
returns-clause-kept c =
    let is : c.put_log.new.out.items ≡ client (client_made c.args.client c.args.log.now) = search rules in
    (client_image_kept c.args.client c.args.log.now c.put_log.new.out.items (record { some = c.requires.low; few = c.requires.high; log = c.tree.ensures.log }) is).1

pub returns-clause-whole : goal.returns-clause-whole
returns-clause-whole c =
    let is : c.put_log.new.out.items ≡ client (client_made c.args.client c.args.log.now) = search rules in
    (client_image_kept c.args.client c.args.log.now c.put_log.new.out.items (record { some = c.requires.low; few = c.requires.high; log = c.tree.ensures.log }) is).0

pub returns-clause-small : goal.returns-clause-small
returns-clause-small c =
    let is : c.put_log.new.out.items ≡ client (client_made c.args.client c.args.log.now) = search rules in
    let fits : ClientFits (client_made c.args.client c.args.log.now) = record { some = c.requires.low; few = c.requires.high; log = c.tree.ensures.log } in
    rw is (client_size (client_made c.args.client c.args.log.now) fits)
