use Rattle.std.proofs.Common.{◌≡◌, ℕ, Ok, Err, None, ◌+◌, alloc_error, ap, subst, arith}
use Rattle.world_rules.specs.declared.link.LinkError.{LinkError}
use Rattle.world_rules.specs.declared.link.AskError.{AskError}
use Rattle.world_rules.specs.declared.link.AskError.TheVariants.{Memory as AskMemory}
use Rattle.world_rules.specs.Telling.{LinkTelling, ToldWorlds, HadTroubles, IsCalm}
use Rattle.world_rules.specs.Asking.{AsksOnce, IsDirect}
use Rattle.world_rules.proofs.Asks.{told_then}
use Rattle.world_rules.proofs.Settled.{Failures, first_try, fails, replies, breaks, exhausts}
use Rattle.world_rules.proofs.link.ask_eight.Goals as goal

pub returns-in-Ok-clause-settled : goal.returns-in-Ok-clause-settled
returns-in-Ok-clause-settled g c = λ request spells.
    replies c.args.to c.args.address.now request c.loop-tried._tried (g.L.Link.tells c.args.link.now) (g.L.Link.tells c.loop-tried.link) (g.L.Link.tells c.ask.new.self)
    (omega arith) c.loop-tried.invariant.rose c.in-Ok.ensures.cause.later (c.loop-tried.invariant.world request spells)
    c.in-Ok.reply (c.in-Ok.ensures.reply request spells) (c.in-Ok.ensures.world request spells)

pub returns-in-Ok-clause-direct : goal.returns-in-Ok-clause-direct
returns-in-Ok-clause-direct g c = λ request spells to_server calm.
    let to = c.args.to in
    let address = c.args.address.now in
    let t : LinkTelling = g.L.Link.tells c.args.link.now in
    let none : c.loop-tried._tried ≡ 0 = first_try c.loop-tried._tried t (g.L.Link.tells c.loop-tried.link) (g.L.Link.tells c.ask.new.self) c.loop-tried.invariant.rose c.in-Ok.ensures.cause.later calm in
    let same = c.loop-tried.invariant.unasked none in
    subst (λ l. IsCalm (g.L.Link.tells l) (g.L.Link.tells c.ask.new.self) → ToldWorlds (g.L.Link.tells l) (g.L.Link.tells c.ask.new.self) (λ x y. IsDirect {E = AskError} to address request x y (Ok c.in-Ok.reply))) same
    (c.in-Ok.ensures.direct request spells to_server) calm

pub returns-in-Err-Memory-clause-settled : goal.returns-in-Err-Memory-clause-settled
returns-in-Err-Memory-clause-settled g c = λ request spells.
    let to = c.args.to in
    let address = c.args.address.now in
    let u : LinkTelling = g.L.Link.tells c.loop-tried.link in
    let v : LinkTelling = g.L.Link.tells c.ask.new.self in (
      Err alloc_error,
      tt,
      breaks to address request c.loop-tried._tried (g.L.Link.tells c.args.link.now) u v
          (omega arith) c.loop-tried.invariant.rose c.in-Err-Memory.ensures.cause.later (c.loop-tried.invariant.world request spells) alloc_error
          (subst (λ (e : LinkError). ToldWorlds u v (λ y z. AsksOnce to address request y z (Err e))) c.in-Err-Memory.field-0-is (c.in-Err-Memory.ensures.world request spells)),
    )

pub returns-in-Err-Memory-clause-direct : goal.returns-in-Err-Memory-clause-direct
returns-in-Err-Memory-clause-direct g c = λ request spells to_server calm.
    told_then _ _ _ _ _ (λ x y. IsDirect {E = AskError} c.args.to c.args.address.now request x y (Err AskMemory)) (c.loop-tried.invariant.world request spells) (c.in-Err-Memory.ensures.world request spells)
    (λ x y z so_far once. tt)

pub loop-tried-preserved : goal.loop-tried-preserved
loop-tried-preserved g c = record {
  unasked = λ none. absurd (omega (arith, none));
  later = omega (arith, c.in-Err-Failed.ensures.cause.later);
  rose = omega (arith, c.in-Err-Failed.ensures.cause.failed (ap Err c.in-Err-Failed.field-0-is));
  kept = g.met.L.Link.keeps_then c.args.link.now c.loop-tried.link c.ask.new.self c.loop-tried.invariant.kept c.in-Err-Failed.ensures.kept;
  world = λ request spells.
      let to = c.args.to in
      let address = c.args.address.now in
      let n = c.loop-tried._tried in
      told_then _ _ _ (Failures to address request n) (λ x y. AsksOnce to address request x y (Err c.in-Err-Failed.field-0)) (Failures to address request (n + 1))
      (c.loop-tried.invariant.world request spells) (c.in-Err-Failed.ensures.world request spells)
      (λ x y z so_far once. fails to address request n x y z so_far (subst (λ (e : LinkError). AsksOnce to address request y z (Err e)) c.in-Err-Failed.field-0-is once));
}

pub returns-clause-settled : goal.returns-clause-settled
returns-clause-settled g c = λ request spells.
    let t : LinkTelling = g.L.Link.tells c.args.link.now in
    let u : LinkTelling = g.L.Link.tells c.loop-tried.link in
    let eight : c.loop-tried._tried ≡ 8 = omega (arith, c.loop-tried-test.false, c.loop-tried.auto._tried-end) in (
      Ok None,
      tt,
      exhausts c.args.to c.args.address.now request t u
          (subst (λ (n : ℕ). HadTroubles n t u) eight c.loop-tried.invariant.rose)
          (subst (λ (n : ℕ). ToldWorlds t u (Failures c.args.to c.args.address.now request n)) eight (c.loop-tried.invariant.world request spells)),
    )
