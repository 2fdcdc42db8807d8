use Rattle.file_paths.proofs.Parts.{text_refused, length_refused}
use Rattle.file_paths.proofs.laws.broken_paths_are_refused_at_their_field.Goals as goal

pub returns : goal.returns
returns c = record { texts = text_refused; lengths = length_refused }
