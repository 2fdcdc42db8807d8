use Rattle.std.proofs.Common.{ℕ, List, ◌+◌, ◌-◌, take, Ok, refl, sym, ap, subst, ◌∙◌, arith}
use Rattle.std.proofs.lemmas.List.{take_more_set, length-set, take_all}
use Rattle.std.proofs.lemmas.Result.{err_from_is_err_and}
use Rattle.std.specs.Int.{w16}
use Rattle.byte_fields.specs.Field.{number_at}
use Rattle.byte_fields.proofs.Loop.{SoFar, goes_on, breaks_off, is_done}
use Rattle.rs_parity.specs.Spelling.{parity_at}
use Rattle.rs_parity.proofs.Spelled.{symbols_start}
use Rattle.rs_parity.proofs.spelling.take_parity.Goals as goal

pub loop-k-init : goal.loop-k-init
loop-k-init c = record { size = refl; so_far = symbols_start c.args.bytes.now c.args.start }

pub returns-in_err-symbol : goal.returns-in_err-symbol
returns-in_err-symbol c =
    let p = err_from_is_err_and c.from_residual.result c.from_residual.ensures.1 in
    rw (p.1, p.2)
    (breaks_off (λ (state : Unit {0}). number_at w16) (λ state symbol. state) c.args.bytes.now _ c.in_err-symbol.field-0.0 (take c.loop-k.k c.loop-k.symbols) 32 c.loop-k.k tt c.loop-k.at
    c.loop-k-test.true c.in_err-symbol.ensures c.loop-k.invariant.so_far)

pub loop-k-preserved : goal.loop-k-preserved
loop-k-preserved c =
    let k = c.loop-k.k in
    let symbols = c.loop-k.symbols in
    let step = goes_on (λ (state : Unit {0}). number_at w16) (λ state symbol. state) c.args.bytes.now (parity_at c.args.bytes.now c.args.start) (take k symbols) 32 k tt c.loop-k.at c.in_ok-symbol.symbol c.in_ok-symbol.next
    c.loop-k-test.true c.in_ok-symbol.ensures c.loop-k.invariant.so_far in
    record {
      size = length-set _ _ _ ∙ c.loop-k.invariant.size;
      so_far = subst (λ (front : List ℕ). SoFar (λ (state : Unit {0}). number_at w16) (λ state symbol. state) c.args.bytes.now (parity_at c.args.bytes.now c.args.start) front (32 - (k + 1)) tt c.in_ok-symbol.next)
          (sym (take_more_set symbols k c.in_ok-symbol.symbol (omega (arith, c.loop-k.invariant.size)))) step;
    }

pub returns : goal.returns
returns c =
    is_done (λ (state : Unit {0}). number_at w16) (λ state symbol. state) c.args.bytes.now _ (take c.loop-k.k c.loop-k.symbols) 32 c.loop-k.k tt c.loop-k.at c.loop-k-test.false c.loop-k.invariant.so_far
    ∙ ap (λ (symbols : List ℕ). Ok (symbols, c.loop-k.at)) (take_all c.loop-k.k c.loop-k.symbols (omega (arith, c.loop-k.invariant.size)))
