use Rattle.std.proofs.Common.{sym, subst}
use Rattle.byte_fields.specs.Field.{IsFront}
use Rattle.byte_fields.proofs.Fronts.{on_error, front_none}
use Rattle.mod_log.specs.Origin.{made_by}
use Rattle.mod_log.proofs.origin.put_made_by.Goals as goal

pub returns-in_err-push-in-None-clause-err : goal.returns-in_err-push-in-None-clause-err
returns-in_err-push-in-None-clause-err c =
    on_error c.from_residual.result (front_none c.args.out.now.items c.push.new.self.items (made_by c.args.origin.now) c.in_err-push-in-None.ensures.items)

pub returns-in_err-put_origin-in-Some-clause-err : goal.returns-in_err-put_origin-in-Some-clause-err
returns-in_err-put_origin-in-Some-clause-err c =
    on_error c.from_residual-in_err-put_origin-in-Some.result
    (subst (λ o. IsFront c.args.out.now.items c.put_origin.new.out.items (made_by o)) (sym c.in-Some.is) c.in_err-put_origin-in-Some.ensures.err)
