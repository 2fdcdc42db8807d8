use Rattle.std.proofs.Common.{ℕ, get_or, drop, cond, ap, sym, ◌∙◌, arith}
use Rattle.std.proofs.lemmas.Bool.{eq-eqb, ne_eqb}
use Rattle.std.proofs.lemmas.List.{drop_all}
use Rattle.rs_parity.specs.CodeWord.{symbols}
use Rattle.rs_parity.specs.Weight.{differing}
use Rattle.rs_parity.proofs.Symbols.{length-symbols}
use Rattle.rs_repair.proofs.Check.{differing_turn, differing_none}
use Rattle.rs_repair.proofs.block.differing_symbols.Goals as goal
use Rattle.rs_repair.proofs.block.differing_symbols.Goals.{then-symbol_at, else-symbol_at}

pub loop-s-preserved : goal.loop-s-preserved
loop-s-preserved c =
    let a = symbols c.args.a.now in
    let b = symbols c.args.b.now in
    let s = c.loop-s.s in
    let turn = differing_turn a b s (omega (arith, length-symbols c.args.a.now, c.div_ceil-s-end.ensures)) (omega (arith, length-symbols c.args.b.now, c.div_ceil-s-end.ensures)) in
    let here = c.symbol_at.ensures in
    let there = c.symbol_at-in-loop-s.ensures in
    elim c.if-symbol_at.branch [
      | then-symbol_at w ↦ record {
        most = omega (arith, w.count-is);
        same = omega (arith, w.count-is, turn, ap {B = ℕ} (λ t. cond t 0 1) (ne_eqb (get_or a s 0) (get_or b s 0) (λ e. w.if-symbol_at.true (here ∙ e ∙ sym there))));
      }
      | else-symbol_at w ↦ record {
        most = omega (arith, w.count-is);
        same = omega (arith, w.count-is, turn, ap {B = ℕ} (λ t. cond t 0 1) (eq-eqb (get_or a s 0) (get_or b s 0) (sym here ∙ w.if-symbol_at.false ∙ there)));
      }
    ]

pub returns : goal.returns
returns c =
    let a = symbols c.args.a.now in
    let b = symbols c.args.b.now in
    let none = drop_all c.loop-s.s a (omega (arith, length-symbols c.args.a.now, c.div_ceil-s-end.ensures)) in
    omega (arith, c.loop-s.invariant.same, ap (λ r. differing r (drop c.loop-s.s b)) none ∙ differing_none (drop c.loop-s.s b))
