use Rattle.std.proofs.Common.{◌≡◌, ◌++◌, subst, sym}
use Rattle.std.specs.Prelude.{OnOk}
use Rattle.std.specs.Process.{command_args}
use Rattle.programs_apart.specs.Starting.{place_words}
use Rattle.programs_apart.specs.declared.ways.Seen.{Seen}
use Rattle.programs_apart.proofs.ways.add_place.Goals as goal

pub returns-in-Own-clause-words : goal.returns-in-Own-clause-words
returns-in-Own-clause-words c =
    subst (λ (seen : Seen). OnOk c.add_texts.result (command_args c.add_texts.new.start ≡ command_args c.args.start.now ++ place_words seen c.args.place.now)) (sym c.in-Own.is) c.add_texts.ensures.words
