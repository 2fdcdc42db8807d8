use Rattle.std.proofs.Common.{get_or, arith}
use Rattle.wire_frames.proofs.Messages.{message_fault, message_found}
use Rattle.wire_frames.proofs.Frames.{sized}
use Rattle.wire_frames.proofs.reading.frame_of.Goals as goal

pub overflow_cast-result : goal.overflow_cast-result
overflow_cast-result c =
    let long = sized c.args.bytes.now cc in
    let fault = rw c.in-Err-At.field-0-is at c.in-Err-At.ensures in
    let within = message_fault c.in-Some.kind (get_or c.args.bytes.now 6 0) c.args.bytes.now 7 c.in-Err-At.place (λ i. omega (arith, c.type_inv.bytes i)) (omega (arith, long)) fault in
    omega (arith, within.within, long)

pub overflow_cast-result-else-next-bytes : goal.overflow_cast-result-else-next-bytes
overflow_cast-result-else-next-bytes c =
    let long = sized c.args.bytes.now cc in
    let found = message_found c.in-Some.kind (get_or c.args.bytes.now 6 0) (cc) c.args.bytes.now 7 c.in-Ok.message c.in-Ok.next (λ i. omega (arith, c.type_inv.bytes i)) (omega (arith, long)) c.in-Ok.ensures in
    omega (arith, found.stands.within, long)
