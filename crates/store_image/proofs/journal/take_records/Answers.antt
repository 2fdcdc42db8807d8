use Rattle.std.proofs.Common.{◌≡◌, ◌∙◌, true, false, sym, arith}
use Rattle.std.proofs.lemmas.Result.{err_from_is_err_and}
use Rattle.store_image.proofs.Records.{goes_on, breaks_off, all_taken}
use Rattle.store_image.proofs.journal.take_records.Goals as goal

pub take_record-requires-clause-within : goal.take_record-requires-clause-within
take_record-requires-clause-within c =
    let test : c.is_torn.result ≡ false = cc c.loop-format-test.true in
    omega (arith, c.is_torn.ensures.left test)

pub returns-in_err-at : goal.returns-in_err-at
returns-in_err-at c =
    let p = err_from_is_err_and c.from_residual.result c.from_residual.ensures.1 in
    let test : c.is_torn.result ≡ false = cc c.loop-format-test.true in
    rw (p.1, p.2) (breaks_off c.args.format c.args.bytes.now _ c.in_err-at.field-0.0 c.args.log.now c.loop-format.log c.loop-format.at (sym c.is_torn.ensures.torn ∙ test) (c.is_torn.ensures.left test) c.in_err-at.ensures.into c.loop-format.invariant.so_far)

pub loop-format-preserved : goal.loop-format-preserved
loop-format-preserved c =
    let test : c.is_torn.result ≡ false = cc c.loop-format-test.true in
    record {
      so_far = goes_on c.args.format c.args.bytes.now _ c.args.log.now c.loop-format.log c.loop-format.at _ _ (sym c.is_torn.ensures.torn ∙ test) (c.is_torn.ensures.left test) c.in_ok-at.ensures.further c.in_ok-at.ensures.into c.loop-format.invariant.so_far;
      ahead = c.in_ok-at.ensures.same;
    }

pub returns : goal.returns
returns c =
    let test : c.is_torn.result ≡ true = cc c.loop-format-test.false in
    all_taken c.args.format c.args.bytes.now _ c.args.log.now c.loop-format.log c.loop-format.at (sym c.is_torn.ensures.torn ∙ test) c.loop-format.invariant.so_far
