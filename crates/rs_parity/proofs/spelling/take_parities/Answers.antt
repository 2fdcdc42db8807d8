use Rattle.std.proofs.Common.{ℕ, List, ◌+◌, ◌-◌, sym, subst}
use Rattle.std.proofs.lemmas.Result.{err_from_is_err_and}
use Rattle.byte_fields.proofs.Loop.{SoFar, goes_on, breaks_off, is_done}
use Rattle.rs_parity.specs.Spelling.{parity_at, parities_at}
use Rattle.rs_parity.proofs.Spelled.{parities_start}
use Rattle.rs_parity.proofs.spelling.take_parities.Goals as goal

pub loop-init : goal.loop-init
loop-init c = parities_start c.args.bytes.now c.args.count c.args.start c.new-parities.result c.new-parities.ensures

pub returns-in_err-parity : goal.returns-in_err-parity
returns-in_err-parity c =
    let p = err_from_is_err_and c.from_residual.result c.from_residual.ensures.1 in
    rw (p.1, p.2)
    (breaks_off (λ (state : Unit {0}). parity_at) (λ state parity. state) c.args.bytes.now _ c.in_err-parity.field-0.0 c.loop.parities c.args.count c.loop.counter tt c.loop.at
    c.loop-test.true c.in_err-parity.ensures c.loop.invariant)

pub loop-preserved : goal.loop-preserved
loop-preserved c =
    subst (λ (front : List (List ℕ)). SoFar (λ (state : Unit {0}). parity_at) (λ state parity. state) c.args.bytes.now (parities_at c.args.count c.args.bytes.now c.args.start) front (c.args.count - (c.loop.counter + 1)) tt c.in_ok-parity.next)
    (sym c.in_ok-push.ensures.ok)
    (goes_on (λ (state : Unit {0}). parity_at) (λ state parity. state) c.args.bytes.now (parities_at c.args.count c.args.bytes.now c.args.start) c.loop.parities c.args.count c.loop.counter tt c.loop.at c.in_ok-parity.parity c.in_ok-parity.next
    c.loop-test.true c.in_ok-parity.ensures c.loop.invariant)

pub returns : goal.returns
returns c =
    is_done (λ (state : Unit {0}). parity_at) (λ state parity. state) c.args.bytes.now _ c.loop.parities c.args.count c.loop.counter tt c.loop.at c.loop-test.false c.loop.invariant
