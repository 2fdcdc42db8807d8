use Rattle.mod_log.proofs.Origins.{broken_origins}
use Rattle.mod_log.proofs.Breaking.{broken_entries}
use Rattle.mod_log.proofs.spelling_laws.broken_entries_are_refused_at_their_field.Goals as goal

pub returns : goal.returns
returns c = record { origins = broken_origins; entries = broken_entries }
