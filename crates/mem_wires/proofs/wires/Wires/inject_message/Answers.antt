use Rattle.std.proofs.Common.{◌≡◌, ◌∙◌, Result, Ok, refl, true, false, ap, arith}
use Rattle.std.proofs.lemmas.Bool.Decides.{nat_tests}
use Rattle.wire_frames.specs.declared.message.Message.{Message}
use Rattle.wire_frames.specs.declared.message.FrameError.{FrameError}
use Rattle.wire_frames.specs.Frame.{client_of}
use Rattle.world_rules.specs.World.{delivered}
use Rattle.mem_wires.specs.Wire.{Wire, world_of}
use Rattle.mem_wires.specs.Underway.{is_store}
use Rattle.mem_wires.proofs.Delivering.{world-sent, sent_among, injected-store, injected-own, injected-other, moved-injected}
use Rattle.mem_wires.proofs.wires.Wires.inject_message.Goals as goal
use Rattle.mem_wires.proofs.wires.Wires.inject_message.Goals.{then-not-is_store-via-then-not-is_store, then-not-is_store-via-else-not-is_store+then-client-self}

pub returns-then-not-is_store-clause-world : goal.returns-then-not-is_store-clause-world
returns-then-not-is_store-clause-world c =
    let a : Wire = c.args.self.now in
    let m = c.args.message.now in
    let found : Result Message FrameError = Ok m in
    elim c.then-not-is_store.branch [
      | then-not-is_store-via-then-not-is_store w ↦
          let no : is_store m ≡ false = grind (arith, w.if-not-is_store.true, c.is_store.ensures) in
          injected-other found (world_of a) m refl no
      | then-not-is_store-via-else-not-is_store+then-client-self w ↦
          let own : client_of m ≡ a.client = grind (arith, nat_tests, w.if-client-self.true, w.client.ensures, ap (λ (n : Wire). n.client) c.self.view_is) in
          injected-own found (world_of a) m refl own
    ]

pub deliver-requires-clause-sent : goal.deliver-requires-clause-sent
deliver-requires-clause-sent c = sent_among c.args.message.now c.args.self.now c.send.new.self c.in_ok-send.ensures.ok

pub returns-in_err-reply-clause-moved : goal.returns-in_err-reply-clause-moved
returns-in_err-reply-clause-moved c =
    let a : Wire = c.args.self.now in
    let m = c.args.message.now in
    let other : client_of m ≡ a.client → ⊥ = λ (own : client_of m ≡ a.client). grind (arith, nat_tests, own, c.if-client-self.false, c.client.ensures, ap (λ (n : Wire). n.client) c.self.view_is) in
    moved-injected m a c.send.new.self c.deliver.new.self other c.requires c.in_ok-send.ensures.ok c.in_err-reply.ensures.moved

pub returns-clause-world : goal.returns-clause-world
returns-clause-world c =
    let a : Wire = c.args.self.now in
    let m = c.args.message.now in
    let other : client_of m ≡ a.client → ⊥ = λ (own : client_of m ≡ a.client). grind (arith, nat_tests, own, c.if-client-self.false, c.client.ensures, ap (λ (n : Wire). n.client) c.self.view_is) in
    let store : is_store m ≡ true = grind (arith, c.if-not-is_store.false, c.is_store.ensures) in
    c.in_ok-reply.ensures.world ∙ ap (delivered m true) (world-sent m a c.send.new.self c.in_ok-send.ensures.ok)
    ∙ injected-store (Ok m) (world_of a) m refl store other

pub returns-clause-moved : goal.returns-clause-moved
returns-clause-moved c =
    let a : Wire = c.args.self.now in
    let m = c.args.message.now in
    let other : client_of m ≡ a.client → ⊥ = λ (own : client_of m ≡ a.client). grind (arith, nat_tests, own, c.if-client-self.false, c.client.ensures, ap (λ (n : Wire). n.client) c.self.view_is) in
    moved-injected m a c.send.new.self c.deliver.new.self other c.requires c.in_ok-send.ensures.ok c.in_ok-reply.ensures.moved
