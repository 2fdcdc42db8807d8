use Rattle.std.proofs.Common.{take}
use Rattle.outside.specs.declared.errors.Failed.{Failed}
use Rattle.outside.proofs.Taking.{takes_read}
use Rattle.client_lines.proofs.InputReading.{end_piece}
use Rattle.client_lines.proofs.input.LineReader.read_piece.Goals as goal

pub returns-in-Ok-eq0-clause-ok : goal.returns-in-Ok-eq0-clause-ok
returns-in-Ok-eq0-clause-ok g c = end_piece Failed _ _ _ c.read.new.buf c.in-Ok-eq0.field-0 c.in-Ok-eq0.ensures.bytes c.in-Ok-eq0.field-0-test c.requires

pub returns-in-Err-add-clause-err : goal.returns-in-Err-add-clause-err
returns-in-Err-add-clause-err g c = (
  take c.in-Ok.count c.read.new.buf,
  takes_read Failed _ _ c.read.new.buf c.in-Ok.count c.in-Ok.ensures.bytes,
  c.add.ensures.fits,
)
