use Rattle.std.proofs.Common.{◌∙◌, nat_le, length, sym}
use Rattle.std.specs.Time.{instant_nanos}
use Rattle.paced_talks.specs.Window.{length_bytes}
use Rattle.paced_talks.proofs.Turns.{by_whole, by_head, by_time}
use Rattle.paced_talks.proofs.gathering.goes_before.Goals as goal

pub returns-then-one-other : goal.returns-then-one-other
returns-then-one-other g c =
    let one = c.args.one.now in
    let other = c.args.other.now in
    by_whole one.is_whole (nat_le length_bytes (length one.frame.items)) other.is_whole (nat_le length_bytes (length other.frame.items))
    (instant_nanos one.moved_at) (instant_nanos other.moved_at) c.if-one-other.true

pub returns-then-has_head-other_has : goal.returns-then-has_head-other_has
returns-then-has_head-other_has g c =
    let one = c.args.one.now in
    let other = c.args.other.now in
    c.has_head-other_has.ensures
    ∙ by_head one.is_whole (nat_le length_bytes (length one.frame.items)) other.is_whole (nat_le length_bytes (length other.frame.items))
    (instant_nanos one.moved_at) (instant_nanos other.moved_at) c.if-one-other.false (cc (c.if-has_head-other_has.true, c.has_head-has_head.ensures, c.has_head-other_has.ensures))

pub returns : goal.returns
returns g c =
    let one = c.args.one.now in
    let other = c.args.other.now in
    by_time one.is_whole (nat_le length_bytes (length one.frame.items)) other.is_whole (nat_le length_bytes (length other.frame.items))
    (instant_nanos one.moved_at) (instant_nanos other.moved_at) c.is_zero.result c.if-one-other.false
    (cc (c.if-has_head-other_has.false, c.has_head-has_head.ensures, c.has_head-other_has.ensures))
    (λ none. sym c.duration_since.ensures ∙ c.is_zero.ensures.0 none)
    (λ none. c.is_zero.ensures.1 (c.duration_since.ensures ∙ none))
