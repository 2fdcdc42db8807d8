use Rattle.std.proofs.Common.{◌≡◌, ◌+◌, ◌-◌, ◌*◌, ◌∙◌, min, length, take, drop, ap, arith}
use Rattle.std.proofs.lemmas.List.{take_min, length-drop}
use Rattle.rs_parity.specs.Blocks.{block_size}
use Rattle.rs_parity.proofs.sketch.block.Goals as goal

pub returns : goal.returns
returns c =
    let start = c.args.i * block_size in
    let rest = drop start c.args.content.now in
    let size : start + c.min-size.result - start ≡ min block_size (length rest) = omega (arith, length-drop start c.args.content.now, c.min-size.ensures) in
    ap (λ n. take n rest) size ∙ take_min block_size rest
