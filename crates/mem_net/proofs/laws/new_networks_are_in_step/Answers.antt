use Rattle.std.proofs.Common.{refl}
use Rattle.world_rules.proofs.Runs.{new_in_step}
use Rattle.mem_wires.specs.Wire.{new_world}
use Rattle.mem_net.proofs.laws.new_networks_are_in_step.Goals as goal

pub returns : goal.returns
returns c = λ client opening low high served_is untaken. new_in_step client (new_world client opening) refl low high served_is untaken (λ message among. absurd among)
