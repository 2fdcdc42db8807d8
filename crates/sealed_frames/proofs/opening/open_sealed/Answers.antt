use Rattle.std.proofs.Common.{sym, ◌∙◌, true≢false}
use Rattle.sealed_frames.proofs.Parts.{found, refused_key, refused_tag_by}
use Rattle.sealed_frames.proofs.opening.open_sealed.Goals as goal

pub returns-in_default-clause-refused : goal.returns-in_default-clause-refused
returns-in_default-clause-refused c key frame by =
    refused_key c.args.keys.now c.args.way.now c.args.bytes.now key frame c.parts_of.result.1.now c.parts_of.ensures.frame
    (sym c.key_of.ensures ∙ c.in_default.is) by

pub returns-then-not-is_same-clause-refused : goal.returns-then-not-is_same-clause-refused
returns-then-not-is_same-clause-refused c key frame by =
    refused_tag_by c.args.keys.now c.args.way.now c.args.bytes.now key frame c.parts_of.result.1.now c.parts_of.result.0.now c.in-Some.key
    c.parts_of.ensures.frame c.parts_of.ensures.tag (sym c.key_of.ensures ∙ c.in-Some.is)
    (λ same. true≢false (sym (c.is_same.ensures.1 (c.tag_of-tag.ensures ∙ same)) ∙ c.if-not-is_same.true)) by

pub returns-clause-frame : goal.returns-clause-frame
returns-clause-frame c = record {
  known = sym c.key_of.ensures ∙ c.in-Some.is;
  sealed = found c.args.way.now c.args.bytes.now c.in-Some.key c.parts_of.result.1.now c.parts_of.result.0.now
      (c.has_seal.ensures.0 c.if-not-has_seal.false) c.parts_of.ensures.frame c.parts_of.ensures.tag
      (sym c.tag_of-tag.ensures ∙ c.is_same.ensures.0 c.if-not-is_same.false);
}
