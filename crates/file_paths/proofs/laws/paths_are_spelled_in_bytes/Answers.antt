use Rattle.file_paths.proofs.SpelledBytes.{names_are_bytes, path_is_bytes, content_is_bytes}
use Rattle.file_paths.proofs.laws.paths_are_spelled_in_bytes.Goals as goal

pub returns : goal.returns
returns c = record { names = names_are_bytes; paths = path_is_bytes; contents = content_is_bytes }
