use Rattle.std.proofs.Common.{◌≡◌, ◌++◌, OnOk, OnErr, sym, subst}
use Rattle.std.specs.List.{flat_map, AllByRecursion}
use Rattle.byte_fields.specs.Field.{IsFront}
use Rattle.tree_values.specs.Spelling.{row as spelled_row}
use Rattle.tree_slots.specs.Arena.{rows_of}
use Rattle.tree_slots.proofs.arena.Arena.spell.Goals as goal

pub spell_rows-requires-clause-small : goal.spell_rows-requires-clause-small
unfolding rows_of
spell_rows-requires-clause-small c = rw (c.deref.ensures.value, c.root-root.ensures) (subst (AllByRecursion _) (sym c.self.view_is) c.requires)

pub returns-clause-ok : goal.returns-clause-ok
unfolding rows_of
returns-clause-ok c = subst (λ rows. OnOk c.spell_rows.result (c.spell_rows.new.out.items ≡ c.args.out.now.items ++ flat_map spelled_row rows)) c.self.view_is (rw (c.deref.ensures.value, c.root-root.ensures) at c.spell_rows.ensures.ok)

pub returns-clause-err : goal.returns-clause-err
unfolding rows_of
returns-clause-err c = subst (λ rows. OnErr c.spell_rows.result (IsFront c.args.out.now.items c.spell_rows.new.out.items (flat_map spelled_row rows))) c.self.view_is (rw (c.deref.ensures.value, c.root-root.ensures) at c.spell_rows.ensures.err)
