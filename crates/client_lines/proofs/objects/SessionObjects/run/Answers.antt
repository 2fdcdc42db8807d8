use Rattle.std.proofs.Common.{◌≢◌, Ok, Err, ap, ◌∙◌}
use Rattle.std.proofs.lemmas.Result.{err_from_is_err_and}
use Rattle.client_session.specs.Session.{state_of}
use Rattle.client_lines.specs.declared.input.InputEnd.{InputEnd}
use Rattle.client_lines.specs.declared.run.Stop.TheVariants.{Keeper}
use Rattle.client_lines.specs.declared.run.Stop.TheVariants as stops
use Rattle.client_lines.specs.InsideRun.{AnswersInput, RunAnswers}
use Rattle.client_lines.specs.Objects.{objects_tell}
use Rattle.client_lines.proofs.Counting.{no_fault, wanted_fault, same_fault}
use Rattle.client_lines.proofs.RunningEnds.{run_stops, run_ends, run_closing}
use Rattle.client_lines.proofs.RunningObjects.{went_stops}
use Rattle.client_lines.proofs.RunningRecords.{stops_as, ends_as}
use Rattle.client_lines.proofs.objects.SessionObjects.run.Goals as goal

pub returns-in_err-end-clause-did : goal.returns-in_err-end-clause-did
returns-in_err-end-clause-did g c =
    let is = err_from_is_err_and c.from_residual.result c.from_residual.ensures.1 in
    let p = objects_tell g.O.Sink g.K.Keeper g.R.Runner g.L.Link c.args.self.now in
    let q = objects_tell g.O.Sink g.K.Keeper g.R.Runner g.L.Link c.answer_input.new.self in
    let a = state_of c.args.session.now in
    let b = state_of c.answer_input.new.session in
    let left = g.I.Source.left c.args.input.now in
    let rest = g.I.Source.left c.answer_input.new.input in
    let stop = c.in_err-end.field-0.0 in
    rw (is.1, is.2) (went_stops (AnswersInput p.route a left rest p.written q.written (Err stop) b) (RunAnswers p.route a left rest p.written q.written (Err stop) b) c.args.session.now c.answer_input.new.session p q
    (λ k trace turn. run_stops p.route a left rest p.written stop q.written b k trace turn) {U = InputEnd} InputEnd stop c.in_err-end.ensures.did)

pub returns-clause-did : goal.returns-clause-did
returns-clause-did g c =
    let p = objects_tell g.O.Sink g.K.Keeper g.R.Runner g.L.Link c.args.self.now in
    let q = objects_tell g.O.Sink g.K.Keeper g.R.Runner g.L.Link c.answer_input.new.self in
    let a = state_of c.args.session.now in
    let b = state_of c.answer_input.new.session in
    let n = g.O.Sink.written c.close.new.output in
    let left = g.I.Source.left c.args.input.now in
    let rest = g.I.Source.left c.answer_input.new.input in
    let end = c.in_ok-end.end in
    let went = c.in_ok-end.ensures.did in
    record {
      did = ends_as p.route end end (AnswersInput p.route a left rest p.written q.written (Ok end) b) (RunAnswers p.route a left rest p.written n (Ok end) b) c.args.session.now c.answer_input.new.session p.images q.images p.told q.told went.did
          (λ k trace turn. run_ends p.route a left rest p.written end q.written n b k trace turn c.in_ok-close.ensures.all);
      kept = went.kept;
      route = went.route;
      later = went.later;
      runner_later = went.runner_later;
      sink = no_fault stops.Sink p.sink (g.O.Sink.faults c.close.new.output) end (c.in_ok-close.ensures.cause.never (λ same. absurd (cc (same))) ∙ went.sink.never (λ same. absurd (cc (same))));
      keeper = no_fault stops.Keeper p.keeper q.keeper end (went.keeper.never (λ same. absurd (cc (same))));
    }

pub returns-in_err-close-clause-did : goal.returns-in_err-close-clause-did
returns-in_err-close-clause-did g c =
    let is = err_from_is_err_and c.from_residual-in_err-close.result c.from_residual-in_err-close.ensures.1 in
    let p = objects_tell g.O.Sink g.K.Keeper g.R.Runner g.L.Link c.args.self.now in
    let q = objects_tell g.O.Sink g.K.Keeper g.R.Runner g.L.Link c.answer_input.new.self in
    let a = state_of c.args.session.now in
    let b = state_of c.answer_input.new.session in
    let n = g.O.Sink.written c.close.new.output in
    let left = g.I.Source.left c.args.input.now in
    let rest = g.I.Source.left c.answer_input.new.input in
    let end = c.in_ok-end.end in
    let went = c.in_ok-end.ensures.did in
    let stop = c.in_err-close.field-0.0 in
    let front = c.in_err-close.ensures.front in
    let other : stop ≢ Keeper = λ same. c.in_err-close.ensures.keeper (ap Err same) in
    rw (is.1, is.2) (record {
      did = stops_as p.route InputEnd (Ok end) stop (AnswersInput p.route a left rest p.written q.written (Ok end) b) (RunAnswers p.route a left rest p.written n (Err stop) b) c.args.session.now c.answer_input.new.session p.images q.images p.told q.told went.did
          (λ k trace turn. run_closing p.route a left rest p.written end stop front.1.0 q.written n b k trace front.0 other turn front.1.1);
      kept = tt;
      route = went.route;
      later = went.later;
      runner_later = went.runner_later;
      sink = same_fault {T = Unit {0}} {U = InputEnd} stops.Sink p.sink q.sink (g.O.Sink.faults c.close.new.output) stop (went.sink.never (λ same. absurd (cc (same)))) c.in_err-close.ensures.cause;
      keeper = wanted_fault {U = InputEnd} stop stops.Keeper p.keeper q.keeper other (went.keeper.never (λ same. absurd (cc (same))));
    })
