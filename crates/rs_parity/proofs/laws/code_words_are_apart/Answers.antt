use Rattle.rs_parity.proofs.Distance.{code_words_apart}
use Rattle.rs_parity.proofs.laws.code_words_are_apart.Goals as goal

pub returns : goal.returns
returns c = code_words_apart
