use Rattle.std.proofs.Common.{◌≡◌, ◌+◌, false, Ok, sym, ap, ◌∙◌, subst}
use Rattle.vol_tree.specs.Applying.{IsAllRefusal}
use Rattle.mod_log.specs.declared.log.Pending.{Pending}
use Rattle.mod_log.specs.Log.{tree_of, IsLog}
use Rattle.mod_log.specs.Append.{log_has_no_room}
use Rattle.mod_log.specs.Inside.{AreFields, log_of}
use Rattle.mod_log.proofs.Appending.{effects_fit, some_effects}
use Rattle.mod_log.proofs.Kept.{after_kept, logged_next, refused_as}
use Rattle.mod_log.proofs.log.Log.log_entry.Goals as goal

pub returns-in-Err-clause-err : goal.returns-in-Err-clause-err
returns-in-Err-clause-err c =
    let tree = sym (after_kept c.self.inside.pending.items c.self.inside.tree c.self.invariant.kept) ∙ ap tree_of c.self.view_is in
    let room = subst (λ e. log_has_no_room e c.args.self.now ≡ false) c.requires.next c.requires.room in
    λ no_memory.
    refused_as c.args.entry.origin c.args.entry.effects c.args.self.now c.in-Err.refusal c.from.result c.requires.small room c.requires.number
    (subst (λ t. IsAllRefusal c.args.entry.effects t c.in-Err.refusal) tree c.in-Err.ensures.err) c.from.ensures no_memory

pub invariant_of-self-in-Ok-push : goal.invariant_of-self-in-Ok-push
invariant_of-self-in-Ok-push c =
    let entry = c.args.entry in
    let kept : Pending = record { entry = entry; undos = c.in-Ok.undos; size = c.args.size } in
    let fits = effects_fit entry.effects c.self.inside.tree c.apply_all.new.tree (some_effects entry.effects c.requires.some) c.requires.small c.in-Ok.ensures.legal c.in-Ok.ensures.ok in
    let done = logged_next c.args.self.now c.self.inside.acked c.self.inside.tree c.apply_all.new.tree c.self.inside.pending.items c.self.inside.size kept c.self.view_is c.self.invariant
    c.requires.next c.requires.size c.in-Ok.ensures.undoes c.in-Ok.ensures.can_undo c.in-Ok.ensures.ok c.requires.made_by fits c.requires.small c.requires.room c.requires.number in
    subst (λ items. AreFields c.self.inside.acked c.apply_all.new.tree items (c.self.inside.size + c.args.size)) (sym c.in-Ok-push.ensures.ok) done.0.fields

pub returns-in-Ok-push-clause-ok : goal.returns-in-Ok-push-clause-ok
returns-in-Ok-push-clause-ok c =
    let entry = c.args.entry in
    let kept : Pending = record { entry = entry; undos = c.in-Ok.undos; size = c.args.size } in
    let fits = effects_fit entry.effects c.self.inside.tree c.apply_all.new.tree (some_effects entry.effects c.requires.some) c.requires.small c.in-Ok.ensures.legal c.in-Ok.ensures.ok in
    let done = logged_next c.args.self.now c.self.inside.acked c.self.inside.tree c.apply_all.new.tree c.self.inside.pending.items c.self.inside.size kept c.self.view_is c.self.invariant
    c.requires.next c.requires.size c.in-Ok.ensures.undoes c.in-Ok.ensures.can_undo c.in-Ok.ensures.ok c.requires.made_by fits c.requires.small c.requires.room c.requires.number in
    done.1 ∙ ap Ok (sym done.0.view ∙ ap (log_of c.self.inside.acked c.apply_all.new.tree) (sym c.in-Ok-push.ensures.ok))

pub returns-in-Ok-push-clause-log : goal.returns-in-Ok-push-clause-log
returns-in-Ok-push-clause-log c =
    let entry = c.args.entry in
    let kept : Pending = record { entry = entry; undos = c.in-Ok.undos; size = c.args.size } in
    let fits = effects_fit entry.effects c.self.inside.tree c.apply_all.new.tree (some_effects entry.effects c.requires.some) c.requires.small c.in-Ok.ensures.legal c.in-Ok.ensures.ok in
    let done = logged_next c.args.self.now c.self.inside.acked c.self.inside.tree c.apply_all.new.tree c.self.inside.pending.items c.self.inside.size kept c.self.view_is c.self.invariant
    c.requires.next c.requires.size c.in-Ok.ensures.undoes c.in-Ok.ensures.can_undo c.in-Ok.ensures.ok c.requires.made_by fits c.requires.small c.requires.room c.requires.number in
    subst (λ items. IsLog (log_of c.self.inside.acked c.apply_all.new.tree items)) (sym c.in-Ok-push.ensures.ok) done.0.fields.log
