use Rattle.std.proofs.Common.{ℕ, List, ◌+◌, ◌-◌, sym, subst}
use Rattle.std.proofs.lemmas.Result.{err_from_is_err_and}
use Rattle.byte_fields.specs.Field.{span_at}
use Rattle.byte_fields.proofs.Loop.{SoFar, goes_on, breaks_off, is_done}
use Rattle.tree_proof.specs.Certificate.{digests_at}
use Rattle.tree_proof.proofs.Spelled.{digests_start}
use Rattle.tree_proof.proofs.taking.digests_at.Goals as goal

pub loop-init : goal.loop-init
loop-init c = digests_start c.args.bytes.now c.args.count c.args.start c.new-digests.result c.new-digests.ensures

pub returns-in_err-digest : goal.returns-in_err-digest
returns-in_err-digest c =
    let p = err_from_is_err_and c.from_residual.result c.from_residual.ensures.1 in
    rw (p.1, p.2)
    (breaks_off (λ (state : Unit {0}). span_at 32) (λ state digest. state) c.args.bytes.now _ c.in_err-digest.field-0.0 c.loop.digests c.args.count c.loop.counter tt c.loop.at
    c.loop-test.true c.in_err-digest.ensures c.loop.invariant)

pub loop-preserved : goal.loop-preserved
loop-preserved c =
    subst (λ (front : List (List ℕ)). SoFar (λ (state : Unit {0}). span_at 32) (λ state digest. state) c.args.bytes.now (digests_at c.args.count c.args.bytes.now c.args.start) front (c.args.count - (c.loop.counter + 1)) tt c.in_ok-digest.next)
    (sym c.in_ok-push.ensures.ok)
    (goes_on (λ (state : Unit {0}). span_at 32) (λ state digest. state) c.args.bytes.now (digests_at c.args.count c.args.bytes.now c.args.start) c.loop.digests c.args.count c.loop.counter tt c.loop.at c.in_ok-digest.digest c.in_ok-digest.next
    c.loop-test.true c.in_ok-digest.ensures c.loop.invariant)

pub returns : goal.returns
returns c =
    is_done (λ (state : Unit {0}). span_at 32) (λ state digest. state) c.args.bytes.now _ c.loop.digests c.args.count c.loop.counter tt c.loop.at c.loop-test.false c.loop.invariant
