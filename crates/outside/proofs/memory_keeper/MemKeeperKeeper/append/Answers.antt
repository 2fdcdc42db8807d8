use Rattle.std.proofs.Common.{rules, ◌≡◌, List, subst}
use Rattle.outside.specs.declared.memory_keeper.NamedImage.{NamedImage}
use Rattle.outside.specs.Keeper.{IsPut, followed_by}
use Rattle.outside.specs.MemoryKeeper.{images_of}
use Rattle.outside.proofs.Keeping.{left_is_a_front}
use Rattle.outside.proofs.memory_keeper.MemKeeperKeeper.append.Goals as goal

pub returns-in_ok-add-in-Some-clause-images : goal.returns-in_ok-add-in-Some-clause-images
returns-in_ok-add-in-Some-clause-images c =
    let new = c.add-in-Some.new.slots.items in
    let name = c.args.name.now in
    let left = c.left_of.result.now in
    let same : c.self.inside.slots.items ≡ c.args.self.now.slots = search rules in
    let put = subst (λ (old : List NamedImage). IsPut name (followed_by left (images_of old name)) (images_of old) (images_of new)) same c.in_ok-add-in-Some.ensures.ok in
    left_is_a_front c.in-Some.fail.now name c.args.piece.now (images_of c.args.self.now.slots) (images_of new) left c.left_of.ensures put
