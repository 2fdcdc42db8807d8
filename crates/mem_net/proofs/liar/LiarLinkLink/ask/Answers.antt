use Rattle.mem_net.proofs.Lying.{is_reply_by, no_reply_by, lies_by, fails_by, one_taken, caused, counts}
use Rattle.mem_net.proofs.liar.LiarLinkLink.ask.Goals as goal

-- ---- none is left

pub returns-in_default-clause-cause : goal.returns-in_default-clause-cause
returns-in_default-clause-cause c =
    caused c.args.self.now c.take_reply.new.self c.fail.new.self c.fail.result c.in_default.ensures.rest c.fail.ensures.later c.fail.ensures.rose

pub returns-in_default-clause-troubles : goal.returns-in_default-clause-troubles
returns-in_default-clause-troubles c =
    counts c.args.self.now c.take_reply.new.self c.fail.new.self c.fail.result c.in_default.ensures.rest c.fail.ensures.later c.fail.ensures.error c.fail.ensures.counted

-- ---- a reply to the request

pub returns-in-Ok-true-clause-reply : goal.returns-in-Ok-true-clause-reply
returns-in-Ok-true-clause-reply c = λ request spells.
    is_reply_by request c.in-Some.bytes c.deref.result.now c.deref.ensures.value c.in-Ok-true.field-0 (c.in-Ok-true.ensures request spells) c.in-Ok-true.field-0-test

pub returns-in-Ok-true-clause-lies : goal.returns-in-Ok-true-clause-lies
returns-in-Ok-true-clause-lies c = λ request spells.
    lies_by request c.args.self.now.replies c.take_reply.new.self.replies c.in-Some.bytes c.in-Some.ensures.some
    (is_reply_by request c.in-Some.bytes c.deref.result.now c.deref.ensures.value c.in-Ok-true.field-0 (c.in-Ok-true.ensures request spells) c.in-Ok-true.field-0-test)

-- ---- other bytes

pub returns-in-Ok-false-clause-cause : goal.returns-in-Ok-false-clause-cause
returns-in-Ok-false-clause-cause c =
    let failed = c.fail-in-Ok-false in
    caused c.args.self.now c.take_reply.new.self failed.new.self failed.result c.in-Some.ensures.rest failed.ensures.later failed.ensures.rose

pub returns-in-Ok-false-clause-kept : goal.returns-in-Ok-false-clause-kept
returns-in-Ok-false-clause-kept c =
    (1, one_taken c.args.self.now c.take_reply.new.self c.fail-in-Ok-false.new.self c.in-Some.bytes c.in-Some.ensures.some c.fail-in-Ok-false.ensures.counted)

pub returns-in-Ok-false-clause-lies : goal.returns-in-Ok-false-clause-lies
returns-in-Ok-false-clause-lies c = λ request spells.
    fails_by request c.args.self.now.replies c.take_reply.new.self.replies c.in-Some.bytes c.fail-in-Ok-false.result c.in-Some.ensures.some c.fail-in-Ok-false.ensures.error
    (no_reply_by request c.in-Some.bytes c.deref.result.now c.deref.ensures.value c.in-Ok-false.field-0 (c.in-Ok-false.ensures request spells) c.in-Ok-false.field-0-test)

pub returns-in-Ok-false-clause-taken : goal.returns-in-Ok-false-clause-taken
returns-in-Ok-false-clause-taken c =
    one_taken c.args.self.now c.take_reply.new.self c.fail-in-Ok-false.new.self c.in-Some.bytes c.in-Some.ensures.some c.fail-in-Ok-false.ensures.counted

pub returns-in-Ok-false-clause-troubles : goal.returns-in-Ok-false-clause-troubles
returns-in-Ok-false-clause-troubles c =
    let failed = c.fail-in-Ok-false in
    counts c.args.self.now c.take_reply.new.self failed.new.self failed.result c.in-Some.ensures.rest failed.ensures.later failed.ensures.error failed.ensures.counted
