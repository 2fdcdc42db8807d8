use Rattle.byte_fields.proofs.Breaking.{rule_refused, meaning_refused, later_refused, items_refused}
use Rattle.byte_fields.proofs.laws.broken_rules_are_refused_at_their_field.Goals as goal

pub returns : goal.returns
returns g c = record { rules = rule_refused; meanings = meaning_refused; later = later_refused; items = items_refused }
