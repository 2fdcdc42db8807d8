use Rattle.std.proofs.Common.{◌*◌, ◌<◌, ◌++◌, ◌∷◌, [], length, get_or, take, ap, sym, refl, subst, ◌∙◌, arith}
use Rattle.std.proofs.lemmas.List.{take_more, take_all}
use Rattle.std.proofs.lemmas.Nat.{and_mask}
use Rattle.rs_parity.specs.CodeWord.{symbols, IsCodeWord}
use Rattle.rs_parity.specs.Inside.{IsMultiple}
use Rattle.rs_parity.proofs.Division.{IsStep, step_keeps, step_elements, zeros_elements, rows_step}
use Rattle.rs_parity.proofs.Sums.{sum-zeros}
use Rattle.rs_parity.proofs.Symbols.{length-symbols}
use Rattle.rs_parity.proofs.encoder.parity.Goals as goal

pub loop-i-init : goal.loop-i-init
loop-i-init c = record { size = refl; elements = zeros_elements 32; code_word = record { vanishes = λ j from to. sum-zeros j 32 } }

pub loop-i-preserved : goal.loop-i-preserved
loop-i-preserved c =
    let word = symbols c.args.block.now in
    let i = c.loop-i.i in
    let symbol = c.symbol_at.result in
    let factor = c.add-factor.result in
    let high = get_or c.multiples-by_high.result c.from.result [] in
    let low = get_or c.multiples-by_low.result c.from-in-loop-i.result [] in
    let low_byte = c.from-in-loop-i.ensures ∙ and_mask factor 8 in
    let step : IsStep c.loop-i.remainder c.moved_plus-remainder.result symbol =
    rows_step c.loop-i.remainder high low c.moved_plus-remainder.result symbol factor c.loop-i.invariant.size c.add-factor.ensures
    (subst (λ b. IsMultiple (b * 256) high) c.from.ensures (c.multiples-by_high.ensures.each c.from.result (omega arith)))
    (subst (λ b. IsMultiple (b * 1) low) low_byte (c.multiples-by_low.ensures.each c.from-in-loop-i.result (omega arith)))
    c.moved_plus-remainder.ensures in
    let within : i < length word = omega (arith, length-symbols c.args.block.now, c.div_ceil-i-end.ensures) in
    let more = take_more word i 0 within ∙ ap (λ w. take i word ++ w ∷ []) (sym c.symbol_at.ensures) in
    record {
      size = step.new_length;
      elements = step_elements c.loop-i.remainder c.moved_plus-remainder.result symbol step c.loop-i.invariant.elements;
      code_word = subst (λ front. IsCodeWord (front ++ c.moved_plus-remainder.result)) (sym more)
          (step_keeps (take i word) c.loop-i.remainder c.moved_plus-remainder.result symbol (omega arith) step c.loop-i.invariant.code_word);
    }

pub returns : goal.returns
returns c =
    let word = symbols c.args.block.now in
    let all = take_all c.loop-i.i word (omega (arith, length-symbols c.args.block.now, c.div_ceil-i-end.ensures)) in
    record { check = record { size = c.loop-i.invariant.size; elements = c.loop-i.invariant.elements }; code_word = subst (λ front. IsCodeWord (front ++ c.loop-i.remainder)) all c.loop-i.invariant.code_word }
