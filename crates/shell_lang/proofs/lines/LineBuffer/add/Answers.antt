use Rattle.std.proofs.Common.{◌≡◌, ◌∙◌, ap, length}
use Rattle.shell_lang.specs.Lines.{Buffered}
use Rattle.shell_lang.proofs.Searching.{line_end_added, line_end_stays}
use Rattle.shell_lang.proofs.lines.LineBuffer.add.Goals as goal

pub invariant_of-self-then-is_none : goal.invariant_of-self-then-is_none
invariant_of-self-then-is_none c =
    let empty : c.self.inside.start ≡ 0 = ap (λ (b : Buffered). b.passed) (c.self.view_is ∙ c.compact.ensures) in
    let count : c.len-count.result ≡ length c.self.inside.bytes.items = search in
    line_end_added c.self.inside.start c.len-count.result c.self.inside.bytes.items c.args.piece.now
    c.extend_from_slice.new.self.items c.self.inside.end c.line_end_behind-self-inside.result empty count
    c.in_ok-extend_from_slice.ensures.items c.self.invariant.1 c.if-is_none.ensures c.line_end_behind-self-inside.ensures

pub invariant_of-self-else-is_none : goal.invariant_of-self-else-is_none
invariant_of-self-else-is_none c =
    let empty : c.self.inside.start ≡ 0 = ap (λ (b : Buffered). b.passed) (c.self.view_is ∙ c.compact.ensures) in
    line_end_stays c.self.inside.start c.self.inside.bytes.items c.args.piece.now c.extend_from_slice.new.self.items
    c.self.inside.end empty c.in_ok-extend_from_slice.ensures.items c.self.invariant.1 c.if-is_none.ensures
