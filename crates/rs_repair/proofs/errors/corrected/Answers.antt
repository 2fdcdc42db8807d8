use Rattle.std.proofs.Common.{◌≡◌, ◌+◌, ◌-◌, ◌*◌, ◌<◌, ◌++◌, length, ltb, bit_xor, ap, subst, ◌∙◌, arith}
use Rattle.rs_parity.specs.CodeWord.{symbols}
use Rattle.rs_parity.proofs.Symbols.{length-symbols}
use Rattle.rs_repair.specs.Inside.{symbol_bytes, IsErrorAt}
use Rattle.rs_repair.proofs.Check.{take_symbol}
use Rattle.rs_repair.proofs.errors.corrected.Goals as goal

pub loop-s-preserved : goal.loop-s-preserved
loop-s-preserved c x bytes size corrects =
    let block = c.args.block.now in
    let s = c.loop-s.s in
    let places : c.div_ceil-places.result ≡ length (symbols block) = omega (arith, length-symbols block, c.div_ceil-places.ensures) in
    let within : s < length (symbols block) = omega arith in
    let found = subst (λ n. IsErrorAt c.args.sums.now c.args.exponents.now c.args.powers.now (n + 31 - s) c.error_at-error.result) places c.error_at-error.ensures in
    let symbol_is = c.add-symbol.ensures ∙ ap (λ v. bit_xor v c.error_at-error.result) c.symbol_at.ensures ∙ corrects s c.error_at-error.result within found in
    c.in_ok-push_symbol.ensures ∙ ap (λ b. b ++ symbol_bytes (ltb (2 * s + 1) (length block)) c.add-symbol.result) (c.loop-s.invariant x bytes size corrects)
    ∙ take_symbol x s c.add-symbol.result (ltb (2 * s + 1) (length block)) bytes (omega (arith, length-symbols block)) symbol_is (ap (ltb (2 * s + 1)) size)
