use Rattle.std.proofs.Common.{◌∙◌, ◌++◌, map, sym, ap}
use Rattle.std.proofs.lemmas.Result.{err_from_is_err_and}
use Rattle.conflict_shelf.specs.Shelf.{all_or_fault, set_aside, puts_from}
use Rattle.conflict_shelf.proofs.Shelving.{shelf_more, shelf_stop}
use Rattle.conflict_shelf.proofs.shelf.Shelf.add.Goals as goal

pub returns-in_err-shelved-clause-err : goal.returns-in_err-shelved-clause-err
returns-in_err-shelved-clause-err c =
    let p = err_from_is_err_and c.from_residual.result c.from_residual.ensures.1 in
    rw (p.1, p.2)
    (λ other before after is.
    shelf_stop c.args.folder.now before c.args.entry.now after c.args.self.now c.in_err-shelved.field-0.0 is
    (ap (λ effects. all_or_fault (map (set_aside c.args.folder.now) (puts_from c.args.entry.now.seq 0 effects))) (sym c.as_slice-effects.ensures.items)
    ∙ c.in_err-shelved.ensures.err other))

pub returns-clause-ok : goal.returns-clause-ok
returns-clause-ok c =
    λ before is.
    shelf_more c.args.folder.now before c.args.entry.now c.args.self.now (record { entries = c.push_some.new.entries; names = c.push_names.new.names }) c.in_ok-shelved.shelved is
    (ap (λ effects. all_or_fault (map (set_aside c.args.folder.now) (puts_from c.args.entry.now.seq 0 effects))) (sym c.as_slice-effects.ensures.items)
    ∙ c.in_ok-shelved.ensures.ok)
    c.in_ok-push_some.ensures
    (c.in_ok-push_names.ensures
    ∙ ap (λ effects. c.args.self.now.names ++ map (λ put. put.name) (puts_from c.args.entry.now.seq 0 effects)) c.as_slice-effects.ensures.items)
