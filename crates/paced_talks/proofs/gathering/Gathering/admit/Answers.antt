use Rattle.std.proofs.Common.{◌≡◌, ◌⊎◌, inl, ◌<◌, length, ap, arith}
use Rattle.std.proofs.lemmas.Result.{on_ok_weaker}
use Rattle.paced_talks.specs.declared.gathering.Gathering.{Gathering}
use Rattle.paced_talks.specs.Talks.{most_asking}
use Rattle.paced_talks.specs.Coming.{LetsIdlestGo}
use Rattle.paced_talks.proofs.Turns.{made_place}
use Rattle.paced_talks.proofs.gathering.Gathering.admit.Goals as goal
use Rattle.paced_talks.proofs.gathering.Gathering.admit.Goals.{then-len-ge-MOST_ASKING, else-len-ge-MOST_ASKING}

pub returns-clause-let_in : goal.returns-clause-let_in
returns-clause-let_in g c =
    let old = c.args.self.now.talks.items in
    let kept = c.if-len-ge-MOST_ASKING.self.talks.items in
    let few : length kept < most_asking = omega (arith, c.len-2.ensures, c.if-len-ge-MOST_ASKING-2.false) in
    let place : ((length old < most_asking) × (kept ≡ old)) ⊎ ((length old ≡ most_asking) × LetsIdlestGo old kept) =
    elim c.if-len-ge-MOST_ASKING.branch [
      | then-len-ge-MOST_ASKING w ↦ made_place old kept w.let_idlest_go.new.self.talks.items c.args.self.now.places
          (omega (arith, c.len.ensures, w.if-len-ge-MOST_ASKING)) w.let_idlest_go.ensures.one (ap (λ (self : Gathering _ _). self.talks.items) w.self-is) few
      | else-len-ge-MOST_ASKING w ↦ inl (omega (arith, c.len.ensures, w.if-len-ge-MOST_ASKING), ap (λ (self : Gathering _ _). self.talks.items) w.self-is)
    ] in
    on_ok_weaker c.push.result (λ is. (kept, c.new.result, place, is, c.new.ensures.stream, c.new.ensures.window)) c.push.ensures.ok
