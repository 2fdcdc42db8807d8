use Rattle.std.proofs.Common.{◌∙◌}
use Rattle.outside.specs.declared.errors.SinkError.{SinkError}
use Rattle.outside.proofs.Writing.{piece_written, front_written, on_err}
use Rattle.outside.proofs.sink.write_all.Goals as goal

pub loop-rest-preserved : goal.loop-rest-preserved
loop-rest-preserved g c = record {
  written = piece_written SinkError _ _ _ _ _ c.in_ok-count.count c.loop-rest.invariant.written c.in_ok-count.ensures.bytes;
  faults = c.in_ok-count.ensures.cause.never (λ is. absurd (cc is)) ∙ c.loop-rest.invariant.faults;
}

pub returns-in_err-count-clause-front : goal.returns-in_err-count-clause-front
returns-in_err-count-clause-front g c =
    on_err _ _ _ _ (front_written SinkError _ _ _ _ _ c.in_err-count.field-0.0 c.loop-rest.invariant.written c.in_err-count.ensures.bytes)
