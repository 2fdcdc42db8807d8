use Rattle.std.proofs.Common.{◌≡◌, ◌≤◌}
use Rattle.wire_frames.specs.declared.message.Message.{Message}
use Rattle.wire_frames.specs.Frame.{Spells}
use Rattle.world_rules.specs.Telling.{ToldWorlds, HadTroubles}
use Rattle.world_rules.proofs.Settled.{Failures}
use Rattle.world_rules.proofs.link.ask_eight.Given as goal

abbrev pub invariant-loop-tried : goal.invariant-loop-tried
invariant-loop-tried g l = record {
  later : (g.L.Link.tells l.fn.link).troubles ≤ (g.L.Link.tells l.link).troubles;
  unasked : l._tried ≡ 0 → l.link ≡ l.fn.link;
  rose : HadTroubles l._tried (g.L.Link.tells l.fn.link) (g.L.Link.tells l.link);
  kept : g.L.Link.keeps l.fn.link l.link;
  world : (request : Message) → Spells request l.frame → ToldWorlds (g.L.Link.tells l.fn.link) (g.L.Link.tells l.link) (Failures l.to l.address request l._tried);
}
