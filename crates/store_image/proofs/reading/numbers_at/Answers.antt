use Rattle.std.proofs.Common.{◌≡◌, ◌∙◌, ℕ, ◌<◌, List, take, length, Ok, ap, arith}
use Rattle.std.specs.Int.{w64}
use Rattle.std.proofs.lemmas.List.{take_more_set, take_all, length-set}
use Rattle.std.proofs.lemmas.Result.{err_from_is_err_and}
use Rattle.byte_fields.specs.Field.{number_at}
use Rattle.byte_fields.proofs.Loop.{goes_on, breaks_off, is_done}
use Rattle.store_image.proofs.reading.numbers_at.Goals as goal

pub returns-in_err-number : goal.returns-in_err-number
returns-in_err-number c =
    let p = err_from_is_err_and c.from_residual.result c.from_residual.ensures.1 in
    rw (p.1, p.2) (breaks_off (λ (_ : Unit {0}). number_at w64) (λ _ _. tt {0}) c.args.bytes.now _ c.in_err-number.field-0.0 (take c.loop-i.i c.loop-i.numbers) 64 c.loop-i.i (tt {0}) c.loop-i.at c.loop-i-test.true c.in_err-number.ensures c.loop-i.invariant.so_far)

pub loop-i-preserved : goal.loop-i-preserved
loop-i-preserved c =
    let i = c.loop-i.i in
    let inside : i < length c.loop-i.numbers = omega (arith, c.loop-i-test.true, c.loop-i.invariant.count) in
    let step = goes_on (λ (_ : Unit {0}). number_at w64) (λ _ _. tt {0}) c.args.bytes.now _ (take i c.loop-i.numbers) 64 i (tt {0}) c.loop-i.at c.in_ok-number.number c.in_ok-number.next c.loop-i-test.true c.in_ok-number.ensures c.loop-i.invariant.so_far in
    record {
      so_far = rw (take_more_set c.loop-i.numbers i c.in_ok-number.number inside) step;
      count = length-set c.loop-i.numbers i c.in_ok-number.number ∙ c.loop-i.invariant.count;
    }

pub returns : goal.returns
returns c =
    let i = c.loop-i.i in
    let all : take i c.loop-i.numbers ≡ c.loop-i.numbers = take_all i c.loop-i.numbers (omega (arith, c.loop-i-test.false, c.loop-i.invariant.count)) in
    is_done (λ (_ : Unit {0}). number_at w64) (λ _ _. tt {0}) c.args.bytes.now _ (take i c.loop-i.numbers) 64 i (tt {0}) c.loop-i.at c.loop-i-test.false c.loop-i.invariant.so_far
    ∙ ap (λ (ns : List ℕ). Ok (ns, c.loop-i.at)) all
