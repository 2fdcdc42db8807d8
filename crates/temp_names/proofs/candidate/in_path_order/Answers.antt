use Rattle.std.proofs.Common.{sym, subst}
use Rattle.temp_names.specs.Laws.{RisesBy}
use Rattle.temp_names.specs.Inside.{path_of_candidate}
use Rattle.temp_names.proofs.Found.{in_order_already}
use Rattle.temp_names.proofs.candidate.in_path_order.Goals as goal

pub returns-then-are_rising : goal.returns-then-are_rising
returns-then-are_rising c =
    sym (in_order_already c.args.candidates.items (subst (RisesBy path_of_candidate) c.deref.ensures.value (c.are_rising.ensures c.if-are_rising.true)))
