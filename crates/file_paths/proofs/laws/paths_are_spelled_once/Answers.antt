use Rattle.file_paths.proofs.Parts.{path_codec, content_codec}
use Rattle.file_paths.proofs.laws.paths_are_spelled_once.Goals as goal

pub returns : goal.returns
returns c = record { paths = path_codec; contents = content_codec }
