use Rattle.std.proofs.Common.{ℕ, ◌++◌, length, ap, ◌∙◌}
use Rattle.std.specs.Int.{w16}
use Rattle.std.specs.List.{flat_map}
use Rattle.byte_fields.specs.Field.{digits}
use Rattle.byte_fields.proofs.Fronts.{front_none, front_second, on_error}
use Rattle.cmd_capture.specs.Spelling.{counted, variable}
use Rattle.cmd_capture.proofs.environment.Env.spell.Goals as goal

pub returns-in_err-put_count16-clause-err : goal.returns-in_err-put_count16-clause-err
returns-in_err-put_count16-clause-err c =
    on_error c.from_residual.result
    (front_none c.args.out.now.items c.put_count16.new.out.items (counted variable c.args.self.now) c.in_err-put_count16.ensures.err)

pub returns-in_err-put_pairs-clause-err : goal.returns-in_err-put_pairs-clause-err
returns-in_err-put_pairs-clause-err c =
    on_error c.from_residual-in_err-put_pairs.result
    (front_second c.args.out.now.items c.put_count16.new.out.items c.put_pairs.new.out.items (digits w16 (length c.args.self.now))
    (flat_map variable c.args.self.now)
    (c.in_ok-put_count16.ensures.ok ∙ ap (λ (n : ℕ). c.args.out.now.items ++ digits w16 n) c.len.ensures.value)
    c.in_err-put_pairs.ensures.err)
