use Rattle.std.proofs.Common.{◌≡◌, ◌∙◌, ap}
use Rattle.std.proofs.lemmas.Result.{err_from_is_err_and}
use Rattle.outside.specs.Keeper.{kept_under}
use Rattle.tree_values.specs.Tree.{Volume}
use Rattle.server_core.specs.Holding.{served}
use Rattle.server_prog.specs.Run.{path_proof}
use Rattle.server_prog.proofs.Texts.{writes_all, writes_front}
use Rattle.server_prog.proofs.telling.tell_proof.Goals as goal

pub returns-in_err-write_all-clause-writes : goal.returns-in_err-write_all-clause-writes
returns-in_err-write_all-clause-writes g c = λ path is.
    let text : c.deref.result.now ≡ path_proof path (served c.in_ok-server.server).volume =
    c.deref.ensures.value ∙ c.in_ok-proof.ensures path is ∙ ap (λ (rows : Volume). path_proof path rows) c.tree.ensures.tree in
    let p = err_from_is_err_and c.from_residual-in_err-write_all.result c.from_residual-in_err-write_all.ensures.1 in
    rw (p.1, p.2) (writes_front (path_proof path) (kept_under c.args.name.now (g.K.Keeper.images c.args.keeper.now)) (g.O.Sink.written c.args.output.now) (g.O.Sink.written c.write_all.new.output)
    (served c.in_ok-server.server) c.in_ok-server.ensures.opens c.deref.result.now text c.in_err-write_all.field-0.0 c.in_err-write_all.ensures.front)

pub returns-clause-writes : goal.returns-clause-writes
returns-clause-writes g c = λ path is.
    let text : c.deref.result.now ≡ path_proof path (served c.in_ok-server.server).volume =
    c.deref.ensures.value ∙ c.in_ok-proof.ensures path is ∙ ap (λ (rows : Volume). path_proof path rows) c.tree.ensures.tree in
    writes_all (path_proof path) (kept_under c.args.name.now (g.K.Keeper.images c.args.keeper.now)) (g.O.Sink.written c.args.output.now) (g.O.Sink.written c.write_all.new.output)
    (served c.in_ok-server.server) c.in_ok-server.ensures.opens c.deref.result.now text c.in_ok-write_all.ensures.all
