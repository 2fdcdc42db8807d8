use Rattle.std.proofs.Common.{ℕ, List, [], ◌∷◌, ◌++◌, ap, ◌∙◌, append_assoc}
use Rattle.std.proofs.lemmas.Result.{on_ok_weaker, on_err_weaker}
use Rattle.byte_fields.proofs.Fronts.{on_error, front_none, front_before, front_third}
use Rattle.cmd_capture.specs.Spelling.{command}
use Rattle.mod_log.proofs.origin.Origin.spell.Goals as goal

pub returns-in_err-extend_from_slice-clause-err : goal.returns-in_err-extend_from_slice-clause-err
returns-in_err-extend_from_slice-clause-err c =
    on_error c.from_residual.result
    (front_none c.args.out.now.items c.extend_from_slice.new.self.items (c.args.value.now.job_print ++ (c.args.value.now.status ∷ command c.args.value.now.command)) c.in_err-extend_from_slice.ensures.items)

pub returns-in_err-push-clause-err : goal.returns-in_err-push-clause-err
returns-in_err-push-clause-err c =
    on_error c.from_residual-in_err-push.result
    (front_before c.args.out.now.items c.push.new.self.items c.args.value.now.job_print (c.args.value.now.status ∷ command c.args.value.now.command)
    (c.in_err-push.ensures.items ∙ c.in_ok-extend_from_slice.ensures.items))

pub returns-clause-ok : goal.returns-clause-ok
returns-clause-ok c =
    let o = c.args.value.now in
    on_ok_weaker c.spell.result
    (λ all. all ∙ ap (λ (t : List ℕ). t ++ command o.command) (c.in_ok-push.ensures.items ∙ ap (λ (t : List ℕ). t ++ (o.status ∷ [])) c.in_ok-extend_from_slice.ensures.items ∙ append_assoc c.args.out.now.items o.job_print (o.status ∷ []))
    ∙ append_assoc c.args.out.now.items (o.job_print ++ (o.status ∷ [])) (command o.command) ∙ ap (λ (t : List ℕ). c.args.out.now.items ++ t) (append_assoc o.job_print (o.status ∷ []) (command o.command)))
    c.spell.ensures.ok

pub returns-clause-err : goal.returns-clause-err
returns-clause-err c =
    on_err_weaker c.spell.result
    (front_third c.args.out.now.items c.extend_from_slice.new.self.items c.push.new.self.items c.spell.new.out.items
    c.args.value.now.job_print (c.args.value.now.status ∷ []) (command c.args.value.now.command)
    c.in_ok-extend_from_slice.ensures.items c.in_ok-push.ensures.items)
    c.spell.ensures.err
