use Rattle.std.proofs.Common.{ap, subst}
use Rattle.file_paths.specs.Path.{FilePath}
use Rattle.client_session.specs.Session.{Sitting, state_of, move_effect}
use Rattle.client_session.specs.Inside.{LogsOrRefuses}
use Rattle.client_session.proofs.session.Session.relocate.Goals as goal

pub returns-clause-logs : goal.returns-clause-logs
returns-clause-logs g c =
    let i = g.K.Keeper.images c.args.keeper.now in
    let j = g.K.Keeper.images c.log.new.keeper in
    subst (λ (folder : FilePath). LogsOrRefuses c.args.image.now (move_effect folder c.args.from.now c.args.to.now) (state_of c.args.self.now) c.log.result (state_of c.log.new.self) i j) (ap (λ (s : Sitting). s.folder) c.self.view_is)
    (c.log.ensures.logs (move_effect c.self.inside.folder c.args.from.now c.args.to.now) c.move_effect-made.ensures)
