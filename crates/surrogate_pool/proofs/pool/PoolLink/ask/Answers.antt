use Rattle.std.proofs.Common.{inl, inr, sym, subst}
use Rattle.surrogate_pool.proofs.Pooling.{told_once, told_rounds, told_directly, told_nothing}
use Rattle.surrogate_pool.specs.Keeping.{adds_none}
use Rattle.surrogate_pool.proofs.pool.PoolLink.ask.Goals as goal

-- ---- without room

pub returns-in-Err-clause-world : goal.returns-in-Err-clause-world
returns-in-Err-clause-world g c = λ request spells.
    rw (c.in-Err.ensures.err, c.in-Err.ensures.link)
    (told_nothing c.args.self.now.rounds.items c.args.to c.args.address.now request (g.L.Link.tells c.args.self.now.link))

pub returns-in-Err-clause-kept : goal.returns-in-Err-clause-kept
returns-in-Err-clause-kept g c = rw (c.in-Err.ensures.err, c.in-Err.ensures.link)
    (g.met.L.Link.keeps_none c.args.self.now.link, adds_none c.args.self.now.rounds.items (g.L.Link.tells c.args.self.now.link).world)

pub returns-in-Err-clause-once : goal.returns-in-Err-clause-once
returns-in-Err-clause-once g c = inl c.in-Err.ensures.err

-- ---- the asks

pub returns-clause-once : goal.returns-clause-once
returns-clause-once g c = inr (_, c.note.ensures.rounds _ _ c.in-Ok.ensures.ok)

pub returns-clause-world : goal.returns-clause-world
returns-clause-world g c = λ request spells.
    rw (c.note.ensures.rounds _ _ c.in-Ok.ensures.ok, c.note.ensures.link)
    (told_once c.args.self.now.rounds.items c.args.to c.args.address.now request c.ask_link-tries.result.count c.ask_link-tries.result.answer
    (g.L.Link.tells c.args.self.now.link) (g.L.Link.tells c.ask_link-tries.new.link) (rw (sym c.in-Ok.ensures.link) (c.ask_link-tries.ensures.asked request spells)))

pub returns-clause-direct : goal.returns-clause-direct
returns-clause-direct g c = λ request spells to_server calm.
    rw (c.note.ensures.rounds _ _ c.in-Ok.ensures.ok, c.note.ensures.link, to_server)
    (told_directly c.args.self.now.rounds.items c.args.address.now request c.ask_link-tries.result.count c.ask_link-tries.result.answer
    (g.L.Link.tells c.args.self.now.link) (g.L.Link.tells c.ask_link-tries.new.link) (c.ask_link-tries.ensures.once to_server)
    (rw (sym c.in-Ok.ensures.link, sym to_server) (c.ask_link-tries.ensures.direct request spells to_server (rw (c.in-Ok.ensures.link, sym c.note.ensures.link) calm))))

pub returns-clause-kept : goal.returns-clause-kept
returns-clause-kept g c = rw (c.note.ensures.rounds _ _ c.in-Ok.ensures.ok, c.note.ensures.link) (
  subst (λ l. g.L.Link.keeps l c.ask_link-tries.new.link) c.in-Ok.ensures.link c.ask_link-tries.ensures.kept,
  told_rounds c.args.self.now.rounds.items c.args.to c.args.address.now c.requires.0 c.ask_link-tries.result.count c.ask_link-tries.result.answer
      (g.L.Link.tells c.args.self.now.link) (g.L.Link.tells c.ask_link-tries.new.link) (rw (sym c.in-Ok.ensures.link) (c.ask_link-tries.ensures.asked c.requires.0 c.requires.1)),
)
