use Rattle.std.proofs.Common.{◌≡◌, ℕ, List, [], ◌∷◌, Bool, Ok, Err, refl, arith, sym, subst}
use Rattle.std.proofs.lemmas.Bool.Decides.{nat_tests}
use Rattle.std.proofs.lemmas.Result.{err_from_is_err_and}
use Rattle.shell_lang.specs.Lines.{last_line}
use Rattle.client_core.specs.Trace.{nothing}
use Rattle.client_session.specs.Session.{state_of}
use Rattle.client_lines.specs.InsideRun.{AllAnswered, AnswersLines}
use Rattle.client_lines.specs.Objects.{objects_tell}
use Rattle.client_lines.proofs.RunningLines.{answers_nothing}
use Rattle.client_lines.proofs.RunningInput.{last_line_none, last_line_some}
use Rattle.client_lines.proofs.RunningObjects.{none_done, went_ends, went_stops}
use Rattle.client_lines.proofs.objects.SessionObjects.answer_unfinished.Goals as goal

pub returns-then-is_empty-clause-did : goal.returns-then-is_empty-clause-did
returns-then-is_empty-clause-did g c =
    let p = objects_tell g.O.Sink g.K.Keeper g.R.Runner g.L.Link c.args.self.now in
    let a = state_of c.args.session.now in
    let none : last_line c.args.line.now ≡ [] = last_line_none c.args.line.now (grind (arith, nat_tests)) in
    none_done (tt {0}) (AnswersLines {T = Unit {0}} p.route a (last_line c.args.line.now) p.written p.written (Ok tt) a) c.args.session.now p c.requires
    (subst (λ (ls : List (List ℕ)). AllAnswered p.route a ls p.written p.written a nothing) (sym none) (answers_nothing p.route a p.written), refl)

pub returns-clause-did : goal.returns-clause-did
returns-clause-did g c =
    let p = objects_tell g.O.Sink g.K.Keeper g.R.Runner g.L.Link c.args.self.now in
    let q = objects_tell g.O.Sink g.K.Keeper g.R.Runner g.L.Link c.answer.new.self in
    let a = state_of c.args.session.now in
    let b = state_of c.answer.new.session in
    let line = c.args.line.now in
    let done = c.in_ok-answer.field-0 in
    let one : last_line line ≡ line ∷ [] = last_line_some line (grind (arith, nat_tests)) in
    went_ends (AnswersLines p.route a (line ∷ []) p.written q.written (Ok done) b) (AnswersLines {T = Unit {0}} p.route a (last_line line) p.written q.written (Ok tt) b) c.args.session.now c.answer.new.session p q
    (λ k trace turn. (subst (λ (ls : List (List ℕ)). AllAnswered p.route a ls p.written q.written b trace) (sym one) turn.0, turn.1)) done (tt {0}) c.in_ok-answer.ensures.did

pub returns-in_err-answer-clause-did : goal.returns-in_err-answer-clause-did
returns-in_err-answer-clause-did g c =
    let is = err_from_is_err_and c.from_residual.result c.from_residual.ensures.1 in
    let p = objects_tell g.O.Sink g.K.Keeper g.R.Runner g.L.Link c.args.self.now in
    let q = objects_tell g.O.Sink g.K.Keeper g.R.Runner g.L.Link c.answer.new.self in
    let a = state_of c.args.session.now in
    let b = state_of c.answer.new.session in
    let line = c.args.line.now in
    let stop = c.in_err-answer.field-0.0 in
    let one : last_line line ≡ line ∷ [] = last_line_some line (grind (arith, nat_tests)) in
    rw (is.1, is.2) (went_stops (AnswersLines {T = Bool} p.route a (line ∷ []) p.written q.written (Err stop) b) (AnswersLines {T = Unit {0}} p.route a (last_line line) p.written q.written (Err stop) b) c.args.session.now c.answer.new.session p q
    (λ k trace turn. subst (λ (ls : List (List ℕ)). AnswersLines {T = Unit {0}} p.route a ls p.written q.written (Err stop) b k trace) (sym one) turn) {U = Bool} (Unit {0}) stop c.in_err-answer.ensures.did)
