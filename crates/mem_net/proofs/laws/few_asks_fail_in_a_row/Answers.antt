use Rattle.mem_net.proofs.Ruling.{few_asks_fail_in_a_row}
use Rattle.mem_net.proofs.laws.few_asks_fail_in_a_row.Goals as goal

pub returns : goal.returns
returns c = few_asks_fail_in_a_row
