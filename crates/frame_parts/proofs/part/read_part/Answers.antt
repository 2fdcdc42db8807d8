use Rattle.std.proofs.Common.{arith, sym, ◌∙◌, true≢false}
use Rattle.frame_parts.proofs.Parts.{found, refused_size}
use Rattle.frame_parts.proofs.part.read_part.Goals as goal

pub returns-then-not-fits-clause-none : goal.returns-then-not-fits-clause-none
returns-then-not-fits-clause-none c part piece =
    refused_size c.args.bytes.now c.split_at.result.1.now c.part_in-part.result part piece c.part_in-part.ensures c.split_at.ensures.back
    (λ within. true≢false (sym (c.fits.ensures.1 within) ∙ c.if-not-fits.true))

pub returns-clause-read : goal.returns-clause-read
returns-clause-read c =
    let within = c.fits.ensures.0 c.if-not-fits.false in
    found c.args.bytes.now c.split_at.result.1.now c.part_in-part.result (λ i. omega (arith, c.type_inv.bytes i)) (c.has_head.ensures.0 c.if-not-has_head.false)
    c.part_in-part.ensures c.split_at.ensures.back within.0 within.1
