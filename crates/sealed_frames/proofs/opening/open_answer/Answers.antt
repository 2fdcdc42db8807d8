use Rattle.std.proofs.Common.{sym, ◌∙◌, true≢false}
use Rattle.sealed_frames.specs.declared.sealing.Way.TheVariants.{Back}
use Rattle.sealed_frames.proofs.Parts.{found, no_answer_form, refused_tag}
use Rattle.sealed_frames.proofs.opening.open_answer.Goals as goal

pub returns-then-not-has_seal-clause-refused : goal.returns-then-not-has_seal-clause-refused
returns-then-not-has_seal-clause-refused c frame =
    no_answer_form c.args.key.now (Back c.args.asked.now) c.args.bytes.now frame
    (λ form. true≢false (sym (c.has_seal.ensures.1 form) ∙ c.if-not-has_seal.true))

pub returns-then-not-is_same-clause-refused : goal.returns-then-not-is_same-clause-refused
returns-then-not-is_same-clause-refused c frame =
    refused_tag (Back c.args.asked.now) c.args.bytes.now c.args.key.now frame c.parts_of.result.1.now c.parts_of.result.0.now
    c.parts_of.ensures.frame c.parts_of.ensures.tag
    (λ same. true≢false (sym (c.is_same.ensures.1 (c.tag_of.ensures ∙ same)) ∙ c.if-not-is_same.true))

pub returns-clause-frame : goal.returns-clause-frame
returns-clause-frame c =
    found (Back c.args.asked.now) c.args.bytes.now c.args.key.now c.parts_of.result.1.now c.parts_of.result.0.now
    (c.has_seal.ensures.0 c.if-not-has_seal.false) c.parts_of.ensures.frame c.parts_of.ensures.tag
    (sym c.tag_of.ensures ∙ c.is_same.ensures.0 c.if-not-is_same.false)
