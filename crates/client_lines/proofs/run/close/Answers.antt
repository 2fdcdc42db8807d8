use Rattle.std.proofs.Common.{◌≡◌, ⊎_elim, [], ap, sym, subst}
use Rattle.outside.specs.Outside.{Adds}
use Rattle.outside.proofs.Writing.{adds_nothing}
use Rattle.client_lines.specs.declared.input.InputEnd.{InputEnd}
use Rattle.client_session.specs.Session.{state_of}
use Rattle.client_lines.specs.Run.{closing_at}
use Rattle.client_lines.proofs.run.close.Goals as goal

pub returns-in-Failed-clause-all : goal.returns-in-Failed-clause-all
returns-in-Failed-clause-all g c =
    let o = g.O.Sink.written c.args.output.now in
    let s = state_of c.args.session.now in
    let none : closing_at c.args.end s ≡ [] =
    ⊎_elim (λ is. ap (λ (e : InputEnd). closing_at e s) is) (λ is. ap (λ (e : InputEnd). closing_at e s) is) c.in-Failed.is in
    subst (Adds o o) (sym none) (adds_nothing o)
