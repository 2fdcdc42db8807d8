use Rattle.std.proofs.Common.{◌∙◌, None, Some}
use Rattle.std.proofs.lemmas.Bool.Decides.{Decides-eqb}
use Rattle.std.proofs.lemmas.Slice.Eq.{strip_prefix_is}
use Rattle.client_shelf.proofs.Endings.{behind_front, without_front}
use Rattle.client_shelf.proofs.apart.has_ending.Goals as goal

pub returns-in-Some : goal.returns-in-Some
returns-in-Some c =
    c.eq.ensures ∙ behind_front c.args.name.now c.args.image.now c.in-Some.rest.now c.args.ending.now
    (strip_prefix_is Decides-eqb c.args.name.now c.args.image.now (Some c.in-Some.rest) c.in-Some.ensures.cases)

pub returns-in-None : goal.returns-in-None
returns-in-None c = without_front c.args.name.now c.args.image.now c.args.ending.now
    (strip_prefix_is Decides-eqb c.args.name.now c.args.image.now None c.in-None.ensures.cases)
