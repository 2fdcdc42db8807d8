use Rattle.file_paths.proofs.PathTexts.{path_of_text, text_of_path_read}
use Rattle.file_paths.proofs.laws.paths_are_read_from_their_texts.Goals as goal

pub returns : goal.returns
returns c = record { read = path_of_text; again = text_of_path_read }
