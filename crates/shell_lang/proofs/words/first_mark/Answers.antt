use Rattle.std.proofs.Common.{true, false, sym, ap, ◌∙◌}
use Rattle.std.specs.List.{position}
use Rattle.shell_lang.specs.Words.{is_mark}
use Rattle.memchr.specs.Find.{is_byte, is_byte2}
use Rattle.shell_lang.proofs.Pieces.{mark_inside, mark_outside}
use Rattle.shell_lang.proofs.Searching.{found_first}
use Rattle.shell_lang.proofs.words.first_mark.Goals as goal

pub returns-then-inside : goal.returns-then-inside
returns-then-inside c =
    found_first (is_byte 39) (is_mark true) c.args.text.now c.memchr.result mark_inside c.memchr.ensures
    ∙ ap (λ inside. position (is_mark inside) c.args.text.now) (sym c.if-inside.true)

pub returns-else-inside : goal.returns-else-inside
returns-else-inside c =
    found_first (is_byte2 39 32) (is_mark false) c.args.text.now c.memchr2.result mark_outside c.memchr2.ensures
    ∙ ap (λ inside. position (is_mark inside) c.args.text.now) (sym c.if-inside.false)
