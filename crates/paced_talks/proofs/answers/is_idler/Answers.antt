use Rattle.std.proofs.Common.{◌∙◌, sym}
use Rattle.std.specs.Time.{instant_nanos}
use Rattle.paced_talks.proofs.Turns.{later}
use Rattle.paced_talks.proofs.answers.is_idler.Goals as goal

pub returns : goal.returns
returns g c =
    later (instant_nanos c.args.one.now.moved_at) (instant_nanos c.args.other.now.moved_at) c.is_zero.result
    (λ none. sym c.duration_since.ensures ∙ c.is_zero.ensures.0 none)
    (λ none. c.is_zero.ensures.1 (c.duration_since.ensures ∙ none))
