use Rattle.std.proofs.Common.{◌≡◌, sym, ◌∙◌, ap, subst}
use Rattle.std.specs.Ordering.{nat_cmp}
use Rattle.std.specs.declared.cmp.Ordering.TheVariants.{Less, Greater}
use Rattle.tree_slots.specs.Arena.{Place, name_cmp}
use Rattle.tree_slots.specs.Head.{head_bytes, name_head}
use Rattle.tree_slots.proofs.Heads.{told_lower, told_higher}
use Rattle.tree_slots.proofs.arena.Slot.compare.Goals as goal

pub returns-in-Less : goal.returns-in-Less
returns-in-Less c =
    let name = ap (λ (slot : Place). slot.name) c.self.view_is in
    let heads : nat_cmp (name_head head_bytes c.self.inside.name) (name_head head_bytes c.args.name.now) ≡ Less = (λ i. nat_cmp (sym c.self.invariant.0 i) (sym c.requires.head i)) ∙ sym c.cmp.ensures ∙ c.in-Less.is in
    subst (λ n. Less ≡ name_cmp n c.args.name.now) name (sym (told_lower c.self.inside.name c.args.name.now c.self.invariant.1 c.requires.bytes heads))

pub returns-in-Greater : goal.returns-in-Greater
returns-in-Greater c =
    let name = ap (λ (slot : Place). slot.name) c.self.view_is in
    let heads : nat_cmp (name_head head_bytes c.self.inside.name) (name_head head_bytes c.args.name.now) ≡ Greater = (λ i. nat_cmp (sym c.self.invariant.0 i) (sym c.requires.head i)) ∙ sym c.cmp.ensures ∙ c.in-Greater.is in
    subst (λ n. Greater ≡ name_cmp n c.args.name.now) name (sym (told_higher c.self.inside.name c.args.name.now c.self.invariant.1 c.requires.bytes heads))
