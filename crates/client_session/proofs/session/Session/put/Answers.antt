use Rattle.std.proofs.Common.{ap, subst}
use Rattle.file_paths.specs.Path.{FilePath}
use Rattle.client_session.specs.Session.{Sitting, state_of, put_effect}
use Rattle.client_session.specs.Inside.{LogsOrRefuses}
use Rattle.client_session.proofs.session.Session.put.Goals as goal

pub returns-clause-logs : goal.returns-clause-logs
returns-clause-logs g c =
    let i = g.K.Keeper.images c.args.keeper.now in
    let j = g.K.Keeper.images c.log.new.keeper in
    subst (λ (folder : FilePath). LogsOrRefuses c.args.image.now (put_effect folder c.args.path.now c.args.text) (state_of c.args.self.now) c.log.result (state_of c.log.new.self) i j) (ap (λ (s : Sitting). s.folder) c.self.view_is)
    (c.log.ensures.logs (put_effect c.self.inside.folder c.args.path.now c.args.text) c.put_effect-made.ensures)
