use Rattle.mod_log.proofs.Origins.{origin_cut}
use Rattle.mod_log.proofs.Cut.{entry_cut}
use Rattle.mod_log.proofs.spelling_laws.entries_end_with_their_bytes.Goals as goal

pub returns : goal.returns
returns c = record { origins = origin_cut; entries = entry_cut }
