use Rattle.store_image.proofs.BreakingRecords.{broken_client_records}
use Rattle.store_image.proofs.BreakingTaken.{broken_server_records}
use Rattle.store_image.proofs.laws.broken_records_name_the_field.Goals as goal

pub returns-clause-clients : goal.returns-clause-clients
returns-clause-clients c = broken_client_records

pub returns-clause-servers : goal.returns-clause-servers
returns-clause-servers c = broken_server_records
