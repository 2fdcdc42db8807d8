use Rattle.file_paths.proofs.Parts.{path_cut, content_cut}
use Rattle.file_paths.proofs.laws.paths_end_with_their_bytes.Goals as goal

pub returns : goal.returns
returns c = record { paths = path_cut; contents = content_cut }
