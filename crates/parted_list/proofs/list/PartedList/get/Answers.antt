use Rattle.std.proofs.Common.{◌∙◌, ◌<◌, ap, get_or, length, arith}
use Rattle.std.specs.List.{concat}
use Rattle.parted_list.proofs.Places.{located_at, read_number}
use Rattle.parted_list.proofs.list.PartedList.get.Goals as goal

pub index-requires : goal.index-requires
index-requires c =
    let within : c.args.k < length (concat c.self.inside.parts.items) = rw c.self.view_is c.requires in
    omega (arith, (located_at c.self.inside.parts.items c.args.k c.self.invariant.0 within).there)

pub get-requires : goal.get-requires
get-requires c =
    let within : c.args.k < length (concat c.self.inside.parts.items) = rw c.self.view_is c.requires in
    (read_number c.self.inside.parts.items c.args.k c.index.result.now c.self.invariant.0 within c.index.ensures).0

pub returns : goal.returns
returns c =
    let within : c.args.k < length (concat c.self.inside.parts.items) = rw c.self.view_is c.requires in
    c.get.ensures ∙ (read_number c.self.inside.parts.items c.args.k c.index.result.now c.self.invariant.0 within c.index.ensures).1 ∙ ap (λ s. get_or s c.args.k 0) c.self.view_is
