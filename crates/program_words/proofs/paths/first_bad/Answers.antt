use Rattle.std.proofs.Common.{rules, tests, not}
use Rattle.std.proofs.lemmas.Iterator.Search.{position_from_yields_List}
use Rattle.std.proofs.lemmas.Iterator.Splits.{YieldsList-from_slice_split}
use Rattle.file_paths.specs.Path.{is_name}
use Rattle.program_words.proofs.paths.first_bad.Goals as goal

pub returns : goal.returns
returns c =
    position_from_yields_List (λ piece. not (is_name piece)) _ _ _ c.position.ensures.ran
    (YieldsList-from_slice_split _ _ c.args.text.now c.split.ensures.rest c.split.ensures.done c.split.ensures.closure (λ x r q k. search (rules, tests)))
    (λ x r q k. search (rules, tests))
