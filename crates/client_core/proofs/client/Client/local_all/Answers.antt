use Rattle.std.proofs.Common.{sym, subst}
use Rattle.client_core.specs.Keeping.{IsReady}
use Rattle.client_core.proofs.Locals.{local_ready}
use Rattle.client_core.proofs.client.Client.local_all.Goals as goal

pub returns-clause-ready : goal.returns-clause-ready
returns-clause-ready c = λ images name ready.
    local_ready c.args.effects c.self.inside.log c.append.new.self c.append.result c.append.ensures.ok c.append.ensures.unchanged name c.self.inside.number c.self.inside.journal images (subst (IsReady images name) (sym c.self.view_is) ready)
