use Rattle.std.proofs.Common.{rules, ◌≡◌, None, Some, position, refl}
use Rattle.outside.specs.MemoryKeeper.{has_name}
use Rattle.outside.specs.declared.memory_keeper.NamedImage.{NamedImage}
use Rattle.outside.proofs.Keeping.{replaced, added}
use Rattle.outside.proofs.memory_keeper.put.Goals as goal

pub returns-in-Some-clause-ok : goal.returns-in-Some-clause-ok
returns-in-Some-clause-ok c =
    let new : NamedImage = record { name = c.index_mut.result.now.name; image = c.in_ok-image.image } in
    let image : new.image.items ≡ c.args.image.now = search rules in
    let place : position (has_name c.args.name.now) c.args.slots.now.items ≡ Some c.in-Some.i = search rules in
    rw (← image) (replaced c.args.slots.now.items c.in-Some.i c.args.name.now c.index_mut.result.now new place c.index_mut.ensures.value refl)

pub returns-in_ok-push-in-None-clause-ok : goal.returns-in_ok-push-in-None-clause-ok
returns-in_ok-push-in-None-clause-ok c =
    let new : NamedImage = record { name = c.in_ok-name-in-None.name; image = c.in_ok-image.image } in
    let image : new.image.items ≡ c.args.image.now = search rules in
    let name : new.name.items ≡ c.args.name.now = search rules in
    let nowhere : position (has_name c.args.name.now) c.args.slots.now.items ≡ None = search rules in
    rw (c.in_ok-push-in-None.ensures.items, ← image) (added c.args.slots.now.items c.args.name.now new nowhere name)
