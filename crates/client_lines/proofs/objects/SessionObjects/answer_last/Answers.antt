use Rattle.std.proofs.Common.{◌≡◌, ⊎_elim, ℕ, List, [], Ok, refl, ap, sym, subst}
use Rattle.client_core.specs.Trace.{nothing}
use Rattle.client_session.specs.Session.{state_of}
use Rattle.client_lines.specs.declared.input.InputEnd.{InputEnd}
use Rattle.client_lines.specs.Input.{last_at}
use Rattle.client_lines.specs.InsideRun.{AllAnswered, AnswersLines}
use Rattle.client_lines.specs.Objects.{objects_tell}
use Rattle.client_lines.proofs.RunningLines.{answers_nothing}
use Rattle.client_lines.proofs.RunningObjects.{none_done}
use Rattle.client_lines.proofs.objects.SessionObjects.answer_last.Goals as goal

pub returns-in-Failed-clause-did : goal.returns-in-Failed-clause-did
returns-in-Failed-clause-did g c =
    let p = objects_tell g.O.Sink g.K.Keeper g.R.Runner g.L.Link c.args.self.now in
    let a = state_of c.args.session.now in
    let bytes = c.args.reader.now.bytes in
    let none : last_at c.args.end bytes ≡ [] =
    ⊎_elim (λ is. ap (λ (e : InputEnd). last_at e bytes) is) (λ is. ap (λ (e : InputEnd). last_at e bytes) is) c.in-Failed.is in
    none_done (tt {0}) (AnswersLines {T = Unit {0}} p.route a (last_at c.args.end bytes) p.written p.written (Ok tt) a) c.args.session.now p c.requires
    (subst (λ (ls : List (List ℕ)). AllAnswered p.route a ls p.written p.written a nothing) (sym none) (answers_nothing p.route a p.written), refl)
