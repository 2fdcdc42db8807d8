use Rattle.byte_fields.proofs.Fronts.{on_error}
use Rattle.cmd_capture.proofs.Passing.{front_program, front_args, front_cwd, front_env, front_inputs, front_templates}
use Rattle.cmd_capture.proofs.command.Command.spell.Goals as goal

pub returns-in_err-put_text-clause-err : goal.returns-in_err-put_text-clause-err
returns-in_err-put_text-clause-err c =
    on_error c.from_residual.result
    (front_program c.args.value.now c.args.out.now.items c.put_text.new.out.items (rw c.bytes.ensures.value at c.in_err-put_text.ensures.err))

pub returns-in_err-put_texts-clause-err : goal.returns-in_err-put_texts-clause-err
returns-in_err-put_texts-clause-err c =
    on_error c.from_residual-in_err-put_texts.result
    (front_args c.args.value.now c.args.out.now.items
    c.put_text.new.out.items (rw c.bytes.ensures.value at c.in_ok-put_text.ensures.ok)
    c.put_texts.new.out.items (rw c.as_slice.ensures.items at c.in_err-put_texts.ensures.err))

pub returns-in_err-spell-clause-err : goal.returns-in_err-spell-clause-err
returns-in_err-spell-clause-err c =
    on_error c.from_residual-in_err-spell.result
    (front_cwd c.args.value.now c.args.out.now.items
    c.put_text.new.out.items (rw c.bytes.ensures.value at c.in_ok-put_text.ensures.ok)
    c.put_texts.new.out.items (rw c.as_slice.ensures.items at c.in_ok-put_texts.ensures.ok)
    c.spell.new.out.items c.in_err-spell.ensures.err)

pub returns-in_err-spell-2-clause-err : goal.returns-in_err-spell-2-clause-err
returns-in_err-spell-2-clause-err c =
    on_error c.from_residual-in_err-spell-2.result
    (front_env c.args.value.now c.args.out.now.items
    c.put_text.new.out.items (rw c.bytes.ensures.value at c.in_ok-put_text.ensures.ok)
    c.put_texts.new.out.items (rw c.as_slice.ensures.items at c.in_ok-put_texts.ensures.ok)
    c.spell.new.out.items c.in_ok-spell.ensures.ok
    c.spell-2.new.out.items c.in_err-spell-2.ensures.err)

pub returns-in_err-put_paths-clause-err : goal.returns-in_err-put_paths-clause-err
returns-in_err-put_paths-clause-err c =
    on_error c.from_residual-in_err-put_paths.result
    (front_inputs c.args.value.now c.args.out.now.items
    c.put_text.new.out.items (rw c.bytes.ensures.value at c.in_ok-put_text.ensures.ok)
    c.put_texts.new.out.items (rw c.as_slice.ensures.items at c.in_ok-put_texts.ensures.ok)
    c.spell.new.out.items c.in_ok-spell.ensures.ok
    c.spell-2.new.out.items c.in_ok-spell-2.ensures.ok
    c.put_paths.new.out.items (rw c.as_slice-2.ensures.items at c.in_err-put_paths.ensures.err))

pub returns-in_err-put_templates-clause-err : goal.returns-in_err-put_templates-clause-err
returns-in_err-put_templates-clause-err c =
    on_error c.from_residual-in_err-put_templates.result
    (front_templates c.args.value.now c.args.out.now.items
    c.put_text.new.out.items (rw c.bytes.ensures.value at c.in_ok-put_text.ensures.ok)
    c.put_texts.new.out.items (rw c.as_slice.ensures.items at c.in_ok-put_texts.ensures.ok)
    c.spell.new.out.items c.in_ok-spell.ensures.ok
    c.spell-2.new.out.items c.in_ok-spell-2.ensures.ok
    c.put_paths.new.out.items (rw c.as_slice-2.ensures.items at c.in_ok-put_paths.ensures.ok)
    c.put_templates.new.out.items (rw c.as_slice-3.ensures.items at c.in_err-put_templates.ensures.err))
