use Rattle.std.proofs.Common.{◌≡◌, ◌∙◌, ◌+◌, ◌-◌, ℕ, length, take, ap, arith}
use Rattle.server_core.specs.Holding.{served}
use Rattle.mem_wires.specs.Wire.{Wire}
use Rattle.mem_wires.proofs.Taking.{on_both, reply_valid, not_lower, cut_within, cut_is}
use Rattle.mem_wires.proofs.wires.Wires.handle.Goals as goal

pub overflow_sub-taken : goal.overflow_sub-taken
overflow_sub-taken c =
    let a : Wire = c.args.self.now in
    let b : Wire = c.serve_noted-reply.new.self in
    let done = c.serve_noted-reply.ensures in
    not_lower c.args.request.now c.requires.request a.server b.server a.taken b.taken c.last_of-before.result c.last_of.result c.last_of-before.ensures.last c.last_of.ensures.last c.serve_noted-reply.result done.state done.err

pub overflow_add-count : goal.overflow_add-count
overflow_add-count c =
    let a : Wire = c.args.self.now in
    let b : Wire = c.serve_noted-reply.new.self in
    let done = c.serve_noted-reply.ensures in
    let within = cut_within c.args.request.now c.requires.request a.server b.server a.taken b.taken c.last_of-before.result c.last_of.result c.last_of-before.ensures.last c.last_of.ensures.last c.serve_noted-reply.result done.state done.err done.noted done.front in
    let count : c.len-count.result ≡ length a.taken = omega (arith, c.len-count.ensures, c.self.inside.taken.ok.0, ap (λ (n : Wire). length n.taken) c.self.view_is) in
    let long : length c.self-2.inside.taken.items ≡ length b.taken = ap (λ (n : Wire). length n.taken) c.self-2.view_is in
    omega (arith, within, count, long, c.self-2.inside.taken.ok.0, c.self-2.inside.taken.ok.1, c.self-2.inside.taken.small)

pub returns-clause-ok : goal.returns-clause-ok
returns-clause-ok c = reply_valid c.args.request.now (served c.args.self.now.server) c.serve_noted-reply.result c.requires.valid c.last_of-before.ensures.legal c.requires.request c.serve_noted-reply.ensures.ok

pub returns-clause-world : goal.returns-clause-world
returns-clause-world c =
    let m = c.args.request.now in
    let a : Wire = c.args.self.now in
    let b : Wire = c.serve_noted-reply.new.self in
    let done = c.serve_noted-reply.ensures in
    let more : ℕ = c.last_of.result - c.last_of-before.result in
    let count : c.len-count.result ≡ length a.taken = omega (arith, c.len-count.ensures, c.self.inside.taken.ok.0, ap (λ (n : Wire). length n.taken) c.self.view_is) in
    let inside = c.self-2.view_is in
    on_both c.serve_noted-reply.result done.state done.noted
    (λ state noted.
    let cut = cut_is m c.requires.request a.server b.server a.taken b.taken c.last_of-before.result c.last_of.result c.last_of-before.ensures.last c.last_of.ensures.last state noted in
    let taking = c.truncate.ensures.items
    ∙ ap (λ (k : ℕ). take (k + more) c.self-2.inside.taken.items) count
    ∙ ap (λ (n : Wire). take (length a.taken + more) n.taken) inside
    ∙ cut in
    λ i. record {
      client = (ap (λ (n : Wire). n.client) inside ∙ ap (λ (n : Wire). n.client) done.rest) i;
      opening = (ap (λ (n : Wire). served n.opening) inside ∙ ap (λ (n : Wire). served n.opening) done.rest) i;
      taken = taking i;
      served = (ap (λ (n : Wire). served n.server) inside ∙ state) i;
      packets = (ap (λ (n : Wire). n.packets) inside ∙ ap (λ (n : Wire). n.packets) done.rest) i;
      asks = (ap (λ (n : Wire). n.asks) inside ∙ ap (λ (n : Wire). n.asks) done.rest) i;
    })
