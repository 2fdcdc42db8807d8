use Rattle.std.proofs.Common.{◌≡◌, position, not, None, arith}
use Rattle.file_paths.specs.Path.{is_name}
use Rattle.file_paths.proofs.PathLemmas.{pieces_are_path}
use Rattle.file_paths.proofs.path.Path.read.Goals as goal

pub invariant_of-result : goal.invariant_of-result
invariant_of-result c =
    let none : position (λ piece. not (is_name piece)) c.in_ok-names.names ≡ None = cc in
    pieces_are_path c.args.text.now c.in_ok-names.names c.in_ok-names.ensures none (omega arith) (omega arith)
