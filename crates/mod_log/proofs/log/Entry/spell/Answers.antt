use Rattle.std.proofs.Common.{ℕ, List, ◌++◌, ap, ◌∙◌, append_assoc}
use Rattle.std.proofs.lemmas.Result.{on_ok_weaker, on_err_weaker}
use Rattle.byte_fields.proofs.Fronts.{on_error, front_first, front_second, front_third}
use Rattle.tree_values.specs.Spelling.{effects, bases}
use Rattle.mod_log.specs.Origin.{made_by}
use Rattle.mod_log.proofs.log.Entry.spell.Goals as goal

pub returns-in_err-put_made_by-clause-err : goal.returns-in_err-put_made_by-clause-err
returns-in_err-put_made_by-clause-err c =
    let entry = c.args.value.now in
    on_error c.from_residual.result
    (front_first c.args.out.now.items c.put_made_by.new.out.items (made_by entry.origin) (effects entry.effects ++ bases entry.base) c.in_err-put_made_by.ensures.err)

pub returns-in_err-spell-clause-err : goal.returns-in_err-spell-clause-err
returns-in_err-spell-clause-err c =
    let entry = c.args.value.now in
    on_error c.from_residual-in_err-spell.result
    (front_second c.args.out.now.items c.put_made_by.new.out.items c.spell.new.out.items (made_by entry.origin) (effects entry.effects ++ bases entry.base) c.in_ok-put_made_by.ensures.ok
    (front_first c.put_made_by.new.out.items c.spell.new.out.items (effects entry.effects) (bases entry.base) c.in_err-spell.ensures.err))

pub returns-clause-ok : goal.returns-clause-ok
returns-clause-ok c =
    let entry = c.args.value.now in
    let changed = c.in_ok-spell.ensures.ok ∙ ap (λ (t : List ℕ). t ++ effects entry.effects) c.in_ok-put_made_by.ensures.ok ∙ append_assoc c.args.out.now.items (made_by entry.origin) (effects entry.effects) in
    on_ok_weaker c.spell-2.result
    (λ all. all ∙ ap (λ (t : List ℕ). t ++ bases entry.base) changed ∙ append_assoc c.args.out.now.items (made_by entry.origin ++ effects entry.effects) (bases entry.base)
    ∙ ap (λ (t : List ℕ). c.args.out.now.items ++ t) (append_assoc (made_by entry.origin) (effects entry.effects) (bases entry.base)))
    c.spell-2.ensures.ok

pub returns-clause-err : goal.returns-clause-err
returns-clause-err c =
    let entry = c.args.value.now in
    on_err_weaker c.spell-2.result
    (front_third c.args.out.now.items c.put_made_by.new.out.items c.spell.new.out.items c.spell-2.new.out.items (made_by entry.origin) (effects entry.effects) (bases entry.base)
    c.in_ok-put_made_by.ensures.ok c.in_ok-spell.ensures.ok)
    c.spell-2.ensures.err
