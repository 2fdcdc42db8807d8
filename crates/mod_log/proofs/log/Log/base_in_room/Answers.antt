use Rattle.std.proofs.Common.{◌≡◌, false, Err, length, sym, ap, ◌∙◌, subst}
use Rattle.file_paths.specs.Refusals.{unless_refused}
use Rattle.tree_values.specs.Effects.{base_of}
use Rattle.mod_log.specs.Log.{tree_of, entry}
use Rattle.mod_log.specs.Append.{log_has_no_room}
use Rattle.mod_log.specs.Inside.{entry_with, room_refusals}
use Rattle.mod_log.proofs.Kept.{after_kept, refused_in_room}
use Rattle.mod_log.proofs.log.Log.base_in_room.Goals as goal

pub returns-in-Err-clause-err : goal.returns-in-Err-clause-err
returns-in-Err-clause-err c =
    let tree = sym (after_kept c.self.inside.pending.items c.self.inside.tree c.self.invariant.kept) ∙ ap tree_of c.self.view_is in
    let base = c.in_ok-base.ensures ∙ ap (base_of c.args.effects.now) tree in
    λ no_memory.
    refused_in_room c.args.origin.now c.args.effects.now c.args.self.now c.in-Err.refusal c.in_ok-check_size.ensures.ok
    (subst (λ b. unless_refused (room_refusals (entry_with c.args.origin.now c.args.effects.now b c.args.self.now) c.args.self.now) c.args.self.now ≡ Err c.in-Err.refusal) base (c.in-Err.ensures.err no_memory))

pub returns-in-Ok-clause-base : goal.returns-in-Ok-clause-base
returns-in-Ok-clause-base c =
    let tree = sym (after_kept c.self.inside.pending.items c.self.inside.tree c.self.invariant.kept) ∙ ap tree_of c.self.view_is in
    c.in_ok-base.ensures ∙ ap (base_of c.args.effects.now) tree

pub returns-in-Ok-clause-size : goal.returns-in-Ok-clause-size
returns-in-Ok-clause-size c =
    let tree = sym (after_kept c.self.inside.pending.items c.self.inside.tree c.self.invariant.kept) ∙ ap tree_of c.self.view_is in
    let base = c.in_ok-base.ensures ∙ ap (base_of c.args.effects.now) tree in
    subst (λ b. c.in-Ok.size ≡ length (entry (entry_with c.args.origin.now c.args.effects.now b c.args.self.now))) base c.in-Ok.ensures.size

pub returns-in-Ok-clause-room : goal.returns-in-Ok-clause-room
returns-in-Ok-clause-room c =
    let tree = sym (after_kept c.self.inside.pending.items c.self.inside.tree c.self.invariant.kept) ∙ ap tree_of c.self.view_is in
    let base = c.in_ok-base.ensures ∙ ap (base_of c.args.effects.now) tree in
    subst (λ b. log_has_no_room (entry_with c.args.origin.now c.args.effects.now b c.args.self.now) c.args.self.now ≡ false) base c.in-Ok.ensures.room
