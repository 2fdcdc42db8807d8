use Rattle.std.proofs.Common.{arith, length-take}
use Rattle.std.specs.Int.{w32}
use Rattle.byte_fields.proofs.Tails.{number_ends, span_ends}
use Rattle.store_image.proofs.journal.framed_note_at.Goals as goal

pub slice_bounds-note_at-end : goal.slice_bounds-note_at-end
slice_bounds-note_at-end c =
    let ends = span_ends c.in_ok-size.size c.args.bytes.now c.in_ok-size.start c.in_ok-_span._span.now c.in_ok-_span.end c.in_ok-_span.ensures.exact in
    omega (arith, length-take c.in_ok-_span.end c.args.bytes.now, ends.1)

pub returns-clause-further : goal.returns-clause-further
returns-clause-further c =
    let start = number_ends w32 c.args.bytes.now c.args.at c.in_ok-size.size c.in_ok-size.start c.in_ok-size.ensures in
    let ends = span_ends c.in_ok-size.size c.args.bytes.now c.in_ok-size.start c.in_ok-_span._span.now c.in_ok-_span.end c.in_ok-_span.ensures.exact in
    omega (arith, start, ends.0, c.if-next-end.false)
