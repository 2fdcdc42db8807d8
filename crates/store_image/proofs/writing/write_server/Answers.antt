use Rattle.std.proofs.Common.{rules, ◌≡◌, length, arith}
use Rattle.store_image.specs.Spelling.{server, ServerFits}
use Rattle.store_image.proofs.Images.{server_made}
use Rattle.store_image.proofs.Sizes.{server_size}
use Rattle.store_image.proofs.Appended.{server_image_kept}
use Rattle.store_image.proofs.writing.write_server.Goals as goal

pub returns-clause-kept : goal.returns-clause-kept
returns-clause-kept c =
    let is : c.spell_rows.new.out.items ≡ server (server_made c.args.last.now c.args.tree.now) = search rules in
    let count : length c.args.last.now ≡ 64 = omega arith in
    (server_image_kept (server_made c.args.last.now c.args.tree.now) c.spell_rows.new.out.items (record { count = count; numbers = search rules; tree = c.spell_rows.ensures.tree }) is).1

pub returns-clause-whole : goal.returns-clause-whole
returns-clause-whole c =
    let is : c.spell_rows.new.out.items ≡ server (server_made c.args.last.now c.args.tree.now) = search rules in
    let count : length c.args.last.now ≡ 64 = omega arith in
    (server_image_kept (server_made c.args.last.now c.args.tree.now) c.spell_rows.new.out.items (record { count = count; numbers = search rules; tree = c.spell_rows.ensures.tree }) is).0

pub returns-clause-small : goal.returns-clause-small
returns-clause-small c =
    let is : c.spell_rows.new.out.items ≡ server (server_made c.args.last.now c.args.tree.now) = search rules in
    let count : length c.args.last.now ≡ 64 = omega arith in
    let fits : ServerFits (server_made c.args.last.now c.args.tree.now) = record { count = count; numbers = search rules; tree = c.spell_rows.ensures.tree } in
    rw is (server_size (server_made c.args.last.now c.args.tree.now) fits)
