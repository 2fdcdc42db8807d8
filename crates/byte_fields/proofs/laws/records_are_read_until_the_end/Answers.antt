use Rattle.byte_fields.proofs.Tails.{whole_records, torn_records, only_records, faulty_records, left_bytes}
use Rattle.byte_fields.proofs.Torn.{only_fronts}
use Rattle.byte_fields.proofs.laws.records_are_read_until_the_end.Goals as goal

pub returns : goal.returns
returns g c = record { whole = whole_records; torn = torn_records; only = only_records; faulty = faulty_records; left = left_bytes; fronts = only_fronts }
