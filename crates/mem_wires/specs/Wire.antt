-- The wires of one client and one server in memory, as contracts see them.
use Rattle.std.specs.Prelude.{ℕ, List, []}
use Rattle.wire_frames.specs.declared.message.Message.{Message}
use Rattle.world_rules.specs.declared.asking.Ask.{Ask}
use Rattle.world_rules.specs.Served.{Served, TakenEntry}
use Rattle.world_rules.specs.World.{World}
use Rattle.server_core.specs.Holding.{Holding, served}
use Rattle.mem_wires.specs.declared.fate.Fate.{Fate}

-- The client, the server, and what stands between them. The world about the client is `world_of` it.
pub record Wire : Type 0 where
  pub client : ℕ
  -- what the server held when the wires were made
  pub opening : Holding
  pub server : Holding
  -- the entries that were taken, in order
  pub taken : List TakenEntry
  pub packets : List Message
  pub asks : List Ask
  -- what becomes of the asks to come, in order
  pub fates : List Fate
  pub troubles : ℕ

-- the world that the wires tell
abbrev pub world_of : Wire → World
world_of wires = record {
  client = wires.client;
  opening = served wires.opening;
  taken = wires.taken;
  served = served wires.server;
  packets = wires.packets;
  asks = wires.asks;
}

-- the world of a client in which a server begins with this, and nothing was sent
abbrev pub new_world : ℕ → Served → World
new_world client opening = record { client = client; opening = opening; taken = []; served = opening; packets = []; asks = [] }
