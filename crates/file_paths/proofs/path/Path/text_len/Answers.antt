use Rattle.std.proofs.Common.{arith, ap}
use Rattle.file_paths.specs.Inside.{joined_size}
use Rattle.file_paths.specs.Path.{path_text}
use Rattle.std.specs.Prelude.{length}
use Rattle.file_paths.proofs.PathLemmas.{text_length, joined_small}
use Rattle.file_paths.proofs.path.Path.text_len.Goals as goal

pub size_of_names-requires : goal.size_of_names-requires
size_of_names-requires c = rw c.as_slice.ensures.items (joined_small c.self.inside.names c.self.invariant)

pub returns-clause-value : goal.returns-clause-value
returns-clause-value c =
    let names = ap joined_size c.as_slice.ensures.items in
    let text = text_length c.self.inside.names in
    let same = ap (λ path. length (path_text path)) c.self.view_is in
    omega (arith, names, text, same)

pub returns-clause-bound : goal.returns-clause-bound
returns-clause-bound c =
    let names = ap joined_size c.as_slice.ensures.items in
    let text = text_length c.self.inside.names in
    omega (arith, names, text, c.self.invariant.short)
