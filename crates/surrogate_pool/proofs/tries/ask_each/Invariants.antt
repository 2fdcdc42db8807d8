use Rattle.std.proofs.Common.{◌≡◌, ◌≤◌, take, None}
use Rattle.std.specs.Prelude.{IfSome}
use Rattle.outside.specs.Outside.{Rose}
use Rattle.wire_frames.specs.declared.message.Message.{Message}
use Rattle.wire_frames.specs.Frame.{Spells}
use Rattle.world_rules.specs.Telling.{ToldWorlds}
use Rattle.world_rules.specs.Asking.{IsReplyTo}
use Rattle.surrogate_pool.specs.Addresses.{addresses_in}
use Rattle.surrogate_pool.proofs.Trying.{HasTried}
use Rattle.surrogate_pool.proofs.tries.ask_each.Given as goal

abbrev pub invariant-loop-tried : goal.invariant-loop-tried
invariant-loop-tried g l = record {
  later : (g.L.Link.tells l.fn.link).troubles ≤ (g.L.Link.tells l.link).troubles;
  rose : l.first ≡ None → 1 ≤ l.tried → Rose (g.L.Link.tells l.fn.link).troubles (g.L.Link.tells l.link).troubles;
  kept : g.L.Link.keeps l.fn.link l.link;
  first : (request : Message) → Spells request l.frame → IfSome l.first (λ bytes. IsReplyTo request bytes.items);
  tried : (request : Message) → Spells request l.frame → ToldWorlds (g.L.Link.tells l.fn.link) (g.L.Link.tells l.link) (HasTried request (take l.tried (addresses_in l.address)) l.first);
}
