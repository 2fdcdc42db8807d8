use Rattle.std.proofs.Common.{◌∙◌, List, ◌+◌, take, drop, sym, ap, subst}
use Rattle.mod_log.specs.declared.log.Entry.{Entry}
use Rattle.conflict_shelf.specs.Shelf.{IsShelfOf, shelved}
use Rattle.conflict_shelf.proofs.Shelving.{entries_more, entries_cut}
use Rattle.conflict_shelf.proofs.shelf.shelf_of.Goals as goal

pub returns-in-Err-clause-err : goal.returns-in-Err-clause-err
returns-in-Err-clause-err c =
    let pending = c.args.log.now.pending in
    let i = c.loop-i.i in
    λ other. ap (shelved c.args.folder.now) (entries_cut pending i c.in-Some.entry.now c.in-Some.ensures.entry)
    ∙ c.in-Err.ensures.err other (take i pending) (drop (i + 1) pending) c.loop-i.invariant

pub loop-i-preserved : goal.loop-i-preserved
loop-i-preserved c =
    let pending = c.args.log.now.pending in
    let i = c.loop-i.i in
    subst (λ (entries : List Entry). IsShelfOf c.args.folder.now entries c.add.new.self) (sym (entries_more pending i c.in-Some.entry.now c.in-Some.ensures.entry))
    (c.in-Ok.ensures.ok (take i pending) c.loop-i.invariant)
