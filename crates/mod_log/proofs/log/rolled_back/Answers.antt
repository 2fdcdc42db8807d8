use Rattle.std.proofs.Common.{◌≡◌, ℕ, suc, ◌-◌, length, drop, sym, ap, ◌∙◌, subst, arith}
use Rattle.vol_tree.specs.Undos.{CanUndoAll}
use Rattle.mod_log.specs.Inside.{rolled_back}
use Rattle.mod_log.proofs.Kept.{one_back}
use Rattle.mod_log.proofs.log.rolled_back.Goals as goal

pub undo_all-requires : goal.undo_all-requires
undo_all-requires c =
    let k : ℕ = length c.args.pending.now - 1 - c.loop-i.i in
    let next : suc k ≡ length c.args.pending.now - c.loop-i.i = omega arith in
    let back = one_back c.args.pending.now k c.args.tree.now c.requires (omega arith) c.index-pending-count.result in
    let base = ap (λ n. rolled_back (drop n c.args.pending.now) c.args.tree.now) next ∙ sym c.loop-i.invariant in
    let undos = sym (c.in_ok-undos.ensures ∙ c.deref.ensures.value) in
    subst (CanUndoAll c.in_ok-undos.undos.items) base (subst (λ u. CanUndoAll u (rolled_back (drop (suc k) c.args.pending.now) c.args.tree.now)) undos back.0)
