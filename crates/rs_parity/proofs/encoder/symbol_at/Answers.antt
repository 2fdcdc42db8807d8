use Rattle.std.proofs.Common.{◌≡◌, ◌+◌, ◌*◌, ◌∙◌, get_or, sym}
use Rattle.std.proofs.lemmas.List.{get_or_past}
use Rattle.rs_parity.proofs.Symbols.{get_or-symbols}
use Rattle.rs_parity.proofs.encoder.symbol_at.Goals as goal
use Rattle.rs_parity.proofs.encoder.symbol_at.Goals.{then-i-block, else-i-block}

pub returns : goal.returns
returns c =
    let bytes = c.args.block.now in
    let i = c.args.i in
    let low : c.if-i-block.low ≡ get_or bytes (2 * i + 1) 0 = elim c.if-i-block.branch [
      | then-i-block w ↦ w.low-is ∙ w.from-low.ensures
      | else-i-block w ↦ w.low-is ∙ sym (get_or_past bytes (2 * i + 1) 0 w.if-i-block.false)
    ] in
    (λ j. c.from-high.ensures j * 256 + low j) ∙ sym (get_or-symbols bytes i)
