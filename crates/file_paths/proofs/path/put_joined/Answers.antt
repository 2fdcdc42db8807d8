use Rattle.std.proofs.Common.{◌≡◌, ◌∷◌, ◌++◌, ap, sym, ◌∙◌, arith}
use Rattle.std.specs.List.{flat_map}
use Rattle.byte_fields.proofs.Fronts.{front_same, front_second, front_at, on_error}
use Rattle.file_paths.specs.Path.{path_text}
use Rattle.file_paths.proofs.PathLemmas.{joined_whole, text_of_parts}
use Rattle.file_paths.proofs.path.put_joined.Goals as goal

pub returns-clause-ok : goal.returns-clause-ok
returns-clause-ok c =
    let names : c.args.names.now ≡ c.in-Some.first.now ∷ c.in-Some.rest.now = cc (c.in-Some.ensures.cases.0) in
    let start : c.extend_from_slice.new.self.items ≡ c.args.out.now.items ++ c.in-Some.first.now = cc (c.in_ok-extend_from_slice.ensures.items) in
    joined_whole _ _ _ c.loop-name.name-index c.args.out.now.items _ names (rw start at c.loop-name.invariant) (omega arith)

pub returns-in_err-put_next-clause-err : goal.returns-in_err-put_next-clause-err
returns-in_err-put_next-clause-err c =
    let names : c.args.names.now ≡ c.in-Some.first.now ∷ c.in-Some.rest.now = cc (c.in-Some.ensures.cases.0) in
    let start : c.extend_from_slice.new.self.items ≡ c.args.out.now.items ++ c.in-Some.first.now = cc (c.in_ok-extend_from_slice.ensures.items) in
    let text : c.in-Some.first.now ++ flat_map (λ name. 47 ∷ name) c.in-Some.rest.now ≡ path_text c.args.names.now =
    sym (text_of_parts c.in-Some.first.now c.in-Some.rest.now) ∙ ap path_text (sym names) in
    on_error c.from_residual-in_err-put_next.result
    (front_same _ _ _ _ text
    (front_second c.args.out.now.items c.extend_from_slice.new.self.items c.put_next.new.out.items c.in-Some.first.now (flat_map (λ name. 47 ∷ name) c.in-Some.rest.now) start
    (front_at (λ name. 47 ∷ name) c.extend_from_slice.new.self.items c.loop-name.out.items c.put_next.new.out.items c.in-Some.rest.now c.loop-name.name-index c.name-item.result c.loop-name-test.true c.name-item.is c.loop-name.invariant c.in_err-put_next.ensures.err)))
