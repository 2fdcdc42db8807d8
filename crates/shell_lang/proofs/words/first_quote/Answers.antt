use Rattle.std.proofs.Common.{◌==◌, refl}
use Rattle.shell_lang.proofs.Searching.{found_first}
use Rattle.shell_lang.proofs.words.first_quote.Goals as goal

pub returns : goal.returns
returns c =
    found_first (λ b. b == 39) (λ b. b == 39) c.args.text.now c.memchr.result (λ b. refl) c.memchr.ensures
