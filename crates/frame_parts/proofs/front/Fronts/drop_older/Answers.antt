use Rattle.std.proofs.Common.{rules, nat_le}
use Rattle.std.proofs.lemmas.Fn.{filter_same}
use Rattle.frame_parts.specs.declared.front.Front.{Front}
use Rattle.frame_parts.proofs.front.Fronts.drop_older.Goals as goal

pub returns-clause-kept : goal.returns-clause-kept
returns-clause-kept c = filter_same _ (λ (front : Front). nat_le c.args.since front.seen) _ (λ x b f' k. search rules) _ _ c.retain.ensures.filtered
