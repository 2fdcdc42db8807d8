use Rattle.std.proofs.Common.{◌∙◌, ◌≤◌, length, ap, insert}
use Rattle.std.specs.List.{concat}
use Rattle.parted_list.proofs.Moves.{inserted}
use Rattle.parted_list.proofs.list.PartedList.insert.Goals as goal

pub returns-clause-ok : goal.returns-clause-ok
returns-clause-ok c =
    let numbers = rw c.in_ok-push.ensures.ok at c.push_through.ensures.numbers in
    let within : c.args.k ≤ length (concat c.self.inside.parts.items) = rw c.self.view_is c.requires in
    inserted (concat c.self.inside.parts.items) (concat c.push_through.new.parts.items) c.args.k c.args.number c.push_through.result 0 within numbers
    ∙ ap (λ s. insert s c.args.k c.args.number) c.self.view_is
