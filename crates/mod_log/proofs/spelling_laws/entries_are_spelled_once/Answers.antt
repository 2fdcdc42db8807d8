use Rattle.mod_log.proofs.Origins.{origin_codec}
use Rattle.mod_log.proofs.Codec.{entry_codec}
use Rattle.mod_log.proofs.spelling_laws.entries_are_spelled_once.Goals as goal

pub returns : goal.returns
returns c = record { origins = origin_codec; entries = entry_codec }
