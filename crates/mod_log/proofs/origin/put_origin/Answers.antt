use Rattle.std.proofs.Common.{ℕ, List, [], ◌∷◌, ◌++◌, ap, ◌∙◌, append_assoc}
use Rattle.std.proofs.lemmas.Result.{on_ok_weaker, on_err_weaker}
use Rattle.byte_fields.proofs.Fronts.{on_error, front_none, front_second}
use Rattle.mod_log.specs.Origin.{origin}
use Rattle.mod_log.proofs.origin.put_origin.Goals as goal

pub returns-in_err-push-clause-err : goal.returns-in_err-push-clause-err
returns-in_err-push-clause-err c =
    on_error c.from_residual.result
    (front_none c.args.out.now.items c.push.new.self.items (1 ∷ origin c.args.origin.now) c.in_err-push.ensures.items)

pub returns-clause-ok : goal.returns-clause-ok
returns-clause-ok c =
    on_ok_weaker c.spell.result
    (λ all. all ∙ ap (λ (t : List ℕ). t ++ origin c.args.origin.now) c.in_ok-push.ensures.items ∙ append_assoc c.args.out.now.items (1 ∷ []) (origin c.args.origin.now))
    c.spell.ensures.ok

pub returns-clause-err : goal.returns-clause-err
returns-clause-err c =
    on_err_weaker c.spell.result
    (front_second c.args.out.now.items c.push.new.self.items c.spell.new.out.items (1 ∷ []) (origin c.args.origin.now) c.in_ok-push.ensures.items)
    c.spell.ensures.err
