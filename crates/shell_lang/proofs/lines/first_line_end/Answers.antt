use Rattle.std.proofs.Common.{◌==◌, refl}
use Rattle.shell_lang.proofs.Searching.{found_first}
use Rattle.shell_lang.proofs.lines.first_line_end.Goals as goal

pub returns : goal.returns
returns c =
    found_first (λ b. b == 10) (λ b. b == 10) c.args.bytes.now c.memchr.result (λ b. refl) c.memchr.ensures
