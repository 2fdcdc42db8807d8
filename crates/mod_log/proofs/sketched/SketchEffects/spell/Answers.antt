use Rattle.std.proofs.Common.{ℕ, List, ◌++◌, length, ap, ◌∙◌, append_assoc}
use Rattle.std.specs.Int.{w32}
use Rattle.std.specs.List.{flat_map}
use Rattle.std.proofs.lemmas.Result.{on_ok_weaker, on_err_weaker}
use Rattle.byte_fields.specs.Field.{digits}
use Rattle.byte_fields.proofs.Fronts.{on_error, front_none, front_second}
use Rattle.mod_log.specs.Spelling.{sketch_effect, sketch_effects}
use Rattle.mod_log.proofs.sketched.SketchEffects.spell.Goals as goal

pub returns-in_err-put_u32-clause-err : goal.returns-in_err-put_u32-clause-err
returns-in_err-put_u32-clause-err c =
    on_error c.from_residual.result
    (front_none c.args.out.now.items c.put_u32.new.out.items (sketch_effects c.args.value.now) c.in_err-put_u32.ensures.err)

pub returns-clause-ok : goal.returns-clause-ok
returns-clause-ok c =
    let es = c.args.value.now in
    let counted = c.in_ok-put_u32.ensures.ok ∙ ap (λ (n : ℕ). c.args.out.now.items ++ digits w32 n) c.len.ensures.value in
    on_ok_weaker c.put_each.result
    (λ all. all ∙ ap (λ (t : List ℕ). t ++ flat_map sketch_effect c.as_slice-items.result.now) counted ∙ append_assoc c.args.out.now.items (digits w32 (length es)) (flat_map sketch_effect c.as_slice-items.result.now)
    ∙ ap (λ xs. c.args.out.now.items ++ (digits w32 (length es) ++ flat_map sketch_effect xs)) c.as_slice-items.ensures.items)
    c.put_each.ensures.ok

pub returns-clause-err : goal.returns-clause-err
returns-clause-err c =
    on_err_weaker c.put_each.result
    (front_second c.args.out.now.items c.put_u32.new.out.items c.put_each.new.out.items (digits w32 (length c.args.value.now)) (flat_map sketch_effect c.args.value.now)
    (c.in_ok-put_u32.ensures.ok ∙ ap (λ (n : ℕ). c.args.out.now.items ++ digits w32 n) c.len.ensures.value))
    (rw c.as_slice-items.ensures.items at c.put_each.ensures.err)
