use Rattle.std.proofs.Common.{◌≡◌, ◌≤◌, ◌+◌, ◌-◌, length, IfOk, subst, arith}
use Rattle.wire_frames.specs.declared.message.Message.{Message}
use Rattle.world_rules.specs.Served.{end_of, reply, served_through, verdict_through}
use Rattle.world_rules.proofs.Sending.{some_parts}
use Rattle.server_core.specs.Holding.{served}
use Rattle.server_core.specs.Inside.{IsAnsweredBy}
use Rattle.server_core.proofs.server.Server.store.Goals as goal

pub returns-clause-ok : goal.returns-clause-ok
returns-clause-ok c =
    let s = served c.args.self.now in
    let client = c.args.client in
    let number = c.args.number in
    let parts = c.args.entries.now in
    let slice : c.as_slice.result.now ≡ parts = c.as_slice.ensures.items in
    let some : 1 ≤ length parts = some_parts number parts c.requires.valid.body_fits in
    let upto : number + (c.len.result - 1) ≡ end_of number parts = omega (arith, c.len.ensures.value, some) in
    let at : number + 0 ≡ number = omega arith in
    subst (λ (m : Message). IfOk c.go_through.result (IsAnsweredBy m))
    (λ i. reply client number (upto i) ((served_through client (at i) (slice i) s).last client) (verdict_through client (at i) (slice i) s)) c.go_through.ensures.ok
