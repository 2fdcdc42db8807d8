use Rattle.server_core.proofs.Records.{whole_is_kept, records_lead_on, torn_records_are_dropped}
use Rattle.server_core.proofs.laws.records_lead_on.Goals as goal

pub returns : goal.returns
returns c = record { whole = whole_is_kept; records = records_lead_on; torn = torn_records_are_dropped }
