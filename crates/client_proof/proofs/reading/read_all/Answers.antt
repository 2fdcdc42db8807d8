use Rattle.std.proofs.Common.{Option, subst}
use Rattle.outside.proofs.Writing.{on_err}
use Rattle.client_lines.specs.declared.input.InputEnd.{InputEnd}
use Rattle.client_proof.specs.Inside.{AddsPiece}
use Rattle.client_proof.proofs.Piecing.{all_read, lost}
use Rattle.client_proof.proofs.reading.read_all.Goals as goal

pub returns-in_err-end-clause-err : goal.returns-in_err-end-clause-err
returns-in_err-end-clause-err g c = on_err _ _ _ c.from_residual.result (lost _ _ _ _ c.loop-end.invariant.taken c.in_err-end.ensures.err)

pub returns-in-Some-clause-ok : goal.returns-in-Some-clause-ok
returns-in-Some-clause-ok g c =
    all_read _ _ _ _ _ c.in-Some.end c.loop-end.invariant.taken
    (subst (λ (end : Option InputEnd). AddsPiece (g.I.Source.left c.loop-end.input) (g.I.Source.left c.read_piece.new.input) c.loop-end.bytes.items c.read_piece.new.bytes.items end) c.in-Some.is c.in_ok-end.ensures.ok)
