use Rattle.std.proofs.Common.{◌≡◌, Bool, true, false, [], ◌∷◌, ◌++◌, Ok, Err, refl, sym, ap, ◌∙◌}
use Rattle.std.proofs.lemmas.Result.{err_from_is_err_and}
use Rattle.shell_lang.specs.Lines.{whole_lines, BeginsWithLine, cut_lines}
use Rattle.shell_lang.proofs.Cutting.{all_lines_taken}
use Rattle.client_core.specs.declared.route.Route.{Route}
use Rattle.client_session.specs.Session.{state_of}
use Rattle.client_lines.specs.Input.{Reading}
use Rattle.client_lines.specs.Run.{quits, up_to_quit}
use Rattle.client_lines.specs.InsideRun.{AnswersLines}
use Rattle.client_lines.specs.Objects.{objects_tell}
use Rattle.client_lines.proofs.RunningInput.{line_cut, one_quits, no_line_quits, front_none, front_line, front_quits, front_stops, front_done}
use Rattle.client_lines.proofs.RunningObjects.{same_then, goes_none, goes_ends, goes_then, goes_next, goes_stops}
use Rattle.client_lines.proofs.SoFar.{AnswersFront}
use Rattle.client_lines.proofs.objects.SessionObjects.answer_lines.Goals as goal

pub loop-line-init : goal.loop-line-init
loop-line-init g c =
    let p = objects_tell g.O.Sink g.K.Keeper g.R.Runner g.L.Link c.args.self.now in
    let a = state_of c.args.session.now in
    let bytes = c.args.reader.now.bytes in
    record {
      count = refl;
      cut = ([], (refl, refl));
      same = record { output = refl; keeper = refl; runner = refl; link = refl };
      did = goes_none (AnswersFront p.route a bytes bytes p.written p.written a) c.args.session.now p c.requires (front_none p.route a bytes p.written);
    }

pub loop-line-preserved : goal.loop-line-preserved
loop-line-preserved g c =
    let p = objects_tell g.O.Sink g.K.Keeper g.R.Runner g.L.Link c.args.self.now in
    let q = objects_tell g.O.Sink g.K.Keeper g.R.Runner g.L.Link c.loop-line.self in
    let s = objects_tell g.O.Sink g.K.Keeper g.R.Runner g.L.Link c.answer.new.self in
    let a = state_of c.args.session.now in
    let b = state_of c.loop-line.session in
    let d = state_of c.answer.new.session in
    let bytes = c.args.reader.now.bytes in
    let left = c.loop-line.reader.bytes in
    let line = c.in-Some.line.now in
    let behind = c.pass.new.self.bytes in
    let lines = c.loop-line.invariant.cut in
    let begins : BeginsWithLine left line = c.in-Some.ensures in
    let goes_on : quits line ≡ false = sym c.in_ok-quit.ensures.quit ∙ c.if-quit.false in
    let is = ap (λ (x : Reading). x.bytes) c.pass.ensures in
    let done = c.in_ok-quit.quit in
    record {
      count = ap (λ (x : Reading). x.count) c.pass.ensures ∙ c.loop-line.invariant.count;
      cut = (lines.0 ++ line ∷ [], line_cut bytes left line lines.0 lines.1 begins behind is goes_on);
      same = same_then c.args.self.now c.loop-line.self c.answer.new.self c.loop-line.invariant.same c.answer.ensures.same;
      did = goes_then (AnswersFront p.route a bytes left p.written q.written b) (λ (route : Route). AnswersLines route b (line ∷ []) q.written s.written (Ok done) d) c.args.session.now c.loop-line.session c.answer.new.session p q s
          c.loop-line.invariant.did done (AnswersFront p.route a bytes behind p.written s.written d) c.in_ok-quit.ensures.did (λ k trace turn. turn.1)
          (λ m n first last. front_line p.route a bytes p.written left behind line b d q.written s.written m n begins is goes_on first last.0);
    }

pub returns-then-quit-clause-did : goal.returns-then-quit-clause-did
returns-then-quit-clause-did g c =
    let p = objects_tell g.O.Sink g.K.Keeper g.R.Runner g.L.Link c.args.self.now in
    let q = objects_tell g.O.Sink g.K.Keeper g.R.Runner g.L.Link c.loop-line.self in
    let s = objects_tell g.O.Sink g.K.Keeper g.R.Runner g.L.Link c.answer.new.self in
    let a = state_of c.args.session.now in
    let b = state_of c.loop-line.session in
    let d = state_of c.answer.new.session in
    let bytes = c.args.reader.now.bytes in
    let left = c.loop-line.reader.bytes in
    let line = c.in-Some.line.now in
    let begins : BeginsWithLine left line = c.in-Some.ensures in
    let quit : quits line ≡ true = sym c.in_ok-quit.ensures.quit ∙ c.if-quit.true in
    let done = c.in_ok-quit.quit in
    goes_next (AnswersFront p.route a bytes left p.written q.written b) (λ (route : Route). AnswersLines route b (line ∷ []) q.written s.written (Ok done) d) c.args.session.now c.loop-line.session c.answer.new.session p q s
    c.loop-line.invariant.did done true (AnswersLines p.route a (up_to_quit (whole_lines bytes)) p.written s.written (Ok true) d) c.in_ok-quit.ensures.did
    (λ k m n first last. (front_quits p.route a bytes p.written left line b d q.written s.written m n begins quit first last.0, last.1))

pub returns-then-quit-clause-quit : goal.returns-then-quit-clause-quit
returns-then-quit-clause-quit g c =
    let lines = c.loop-line.invariant.cut in
    sym (one_quits c.args.reader.now.bytes c.loop-line.reader.bytes c.in-Some.line.now lines.0 lines.1 c.in-Some.ensures (sym c.in_ok-quit.ensures.quit ∙ c.if-quit.true))

pub returns-in_err-quit-clause-did : goal.returns-in_err-quit-clause-did
returns-in_err-quit-clause-did g c =
    let is = err_from_is_err_and c.from_residual.result c.from_residual.ensures.1 in
    let p = objects_tell g.O.Sink g.K.Keeper g.R.Runner g.L.Link c.args.self.now in
    let q = objects_tell g.O.Sink g.K.Keeper g.R.Runner g.L.Link c.loop-line.self in
    let s = objects_tell g.O.Sink g.K.Keeper g.R.Runner g.L.Link c.answer.new.self in
    let a = state_of c.args.session.now in
    let b = state_of c.loop-line.session in
    let d = state_of c.answer.new.session in
    let bytes = c.args.reader.now.bytes in
    let left = c.loop-line.reader.bytes in
    let line = c.in-Some.line.now in
    let stop = c.in_err-quit.field-0.0 in
    let begins : BeginsWithLine left line = c.in-Some.ensures in
    rw (is.1, is.2) (goes_stops (AnswersFront p.route a bytes left p.written q.written b) (λ (route : Route). AnswersLines {T = Bool} route b (line ∷ []) q.written s.written (Err stop) d) c.args.session.now c.loop-line.session c.answer.new.session p q s
    c.loop-line.invariant.did {U = Bool} Bool stop (AnswersLines {T = Bool} p.route a (up_to_quit (whole_lines bytes)) p.written s.written (Err stop) d) c.in_err-quit.ensures.did
    (λ k m n first last. front_stops p.route a bytes p.written stop left line b d k q.written s.written m n begins first last))

pub returns-clause-did : goal.returns-clause-did
returns-clause-did g c =
    let p = objects_tell g.O.Sink g.K.Keeper g.R.Runner g.L.Link c.args.self.now in
    let q = objects_tell g.O.Sink g.K.Keeper g.R.Runner g.L.Link c.loop-line.self in
    let a = state_of c.args.session.now in
    let b = state_of c.loop-line.session in
    let bytes = c.args.reader.now.bytes in
    let left = c.loop-line.reader.bytes in
    let none : cut_lines left ≡ left ∷ [] = c.in_default.ensures in
    goes_ends (AnswersFront p.route a bytes left p.written q.written b) (AnswersLines p.route a (up_to_quit (whole_lines bytes)) p.written q.written (Ok false) b) c.args.session.now c.loop-line.session p q c.loop-line.invariant.did
    (λ m front. (front_done p.route a bytes p.written left b q.written m none front, refl)) false

pub returns-clause-quit : goal.returns-clause-quit
returns-clause-quit g c =
    let lines = c.loop-line.invariant.cut in
    sym (no_line_quits c.args.reader.now.bytes c.loop-line.reader.bytes lines.0 lines.1 c.in_default.ensures)

pub returns-clause-left : goal.returns-clause-left
returns-clause-left g c =
    let left = c.loop-line.reader.bytes in
    let none : cut_lines left ≡ left ∷ [] = c.in_default.ensures in
    λ on. record {
      bytes = sym (all_lines_taken c.loop-line.invariant.cut.0 c.args.reader.now.bytes left c.loop-line.invariant.cut.1.0 none).1;
      no_line = none;
      count = c.loop-line.invariant.count;
    }
