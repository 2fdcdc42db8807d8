use Rattle.std.proofs.Common.{◌≤◌, ℕ, Bool, List, ◌∷◌, [], length, take, Result, Ok, Err, refl, subst}
use Rattle.std.proofs.lemmas.Result.{err_from_is_err_and}
use Rattle.outside.specs.Outside.{Adds}
use Rattle.shell_lang.specs.Commands.{read_line}
use Rattle.shell_lang.specs.declared.line.Line.{Line}
use Rattle.shell_lang.specs.declared.line.LineError.{LineError}
use Rattle.cmd_capture.specs.Runs.{telling}
use Rattle.client_session.specs.Session.{state_of}
use Rattle.client_session.specs.Doing.{WentDoing, LineNoting, beside}
use Rattle.client_lines.specs.declared.run.Stop.TheVariants.{Memory}
use Rattle.client_lines.specs.declared.run.Stop.TheVariants as stops
use Rattle.client_lines.specs.Run.{stop_by, stop_of, WritesFront}
use Rattle.client_lines.specs.InsideRun.{AnswersLines}
use Rattle.client_lines.specs.Objects.{objects_tell}
use Rattle.client_lines.proofs.Counting.{no_fault, keeper_fault, sink_fault, wanted_fault, not_sink, not_keeper}
use Rattle.client_lines.proofs.RunningLines.{line_unread, line_broken, line_untold, line_answered, line_cut, cut_front}
use Rattle.client_lines.proofs.RunningObjects.{none_wanted}
use Rattle.client_lines.proofs.RunningRecords.{notes_line, stopped_as, ended_as}
use Rattle.client_lines.proofs.objects.SessionObjects.answer.Goals as goal

pub returns-in_err-asked-clause-did : goal.returns-in_err-asked-clause-did
returns-in_err-asked-clause-did g c =
    let is = err_from_is_err_and c.from_residual.result c.from_residual.ensures.1 in
    let p = objects_tell g.O.Sink g.K.Keeper g.R.Runner g.L.Link c.args.self.now in
    let a = state_of c.args.session.now in
    let line = c.args.line.now in
    rw (is.1, is.2) (none_wanted Bool (AnswersLines {T = Bool} p.route a (line ∷ []) p.written p.written (Err Memory) a) c.args.session.now p c.requires (line_unread p.route a line p.written))

pub returns-in_err-answer-clause-did : goal.returns-in_err-answer-clause-did
returns-in_err-answer-clause-did g c =
    let is = err_from_is_err_and c.from_residual-in_err-answer.result c.from_residual-in_err-answer.ensures.1 in
    let p = objects_tell g.O.Sink g.K.Keeper g.R.Runner g.L.Link c.args.self.now in
    let x = c.args.session.now in
    let y = c.answer.new.self in
    let a = state_of x in
    let b = state_of y in
    let u = beside (g.L.Link.tells c.answer.new.link) (telling (g.R.Runner.runs c.answer.new.runner) (g.R.Runner.faults c.answer.new.runner)) in
    let j = g.K.Keeper.images c.answer.new.keeper in
    let line = c.args.line.now in
    let e = c.in_err-answer.field-0.0 in
    let turn : WentDoing p.route (LineNoting p.route x (read_line line) (Err e) y p.images j) a b p.images j p.told u =
    subst (λ (l : Result Line LineError). WentDoing p.route (LineNoting p.route x l (Err e) y p.images j) a b p.images j p.told u) c.in_ok-asked.ensures c.in_err-answer.ensures.did in
    rw (is.1, is.2) (record {
      did = stopped_as p.route Bool (stop_by e) (LineNoting p.route x (read_line line) (Err e) y p.images j) (AnswersLines {T = Bool} p.route a (line ∷ []) p.written p.written (Err (stop_by e)) b) x y p.images j p.told u turn
          (λ k trace broken behind. line_broken p.route a b k line p.written e trace broken.0 behind);
      kept = tt;
      route = refl;
      later = c.answer.ensures.later;
      runner_later = c.answer.ensures.runner_later;
      sink = wanted_fault {U = Bool} (stop_by e) stops.Sink p.sink p.sink (not_sink e) refl;
      keeper = keeper_fault {U = Bool} p.keeper (g.K.Keeper.faults c.answer.new.keeper) e c.in_err-answer.ensures.keeper;
    })

pub returns-in_err-text-clause-did : goal.returns-in_err-text-clause-did
returns-in_err-text-clause-did g c =
    let is = err_from_is_err_and c.from_residual-in_err-text.result c.from_residual-in_err-text.ensures.1 in
    let p = objects_tell g.O.Sink g.K.Keeper g.R.Runner g.L.Link c.args.self.now in
    let x = c.args.session.now in
    let y = c.answer.new.self in
    let a = state_of x in
    let b = state_of y in
    let u = beside (g.L.Link.tells c.answer.new.link) (telling (g.R.Runner.runs c.answer.new.runner) (g.R.Runner.faults c.answer.new.runner)) in
    let j = g.K.Keeper.images c.answer.new.keeper in
    let line = c.args.line.now in
    let answer = c.in_ok-answer.answer in
    let turn : WentDoing p.route (LineNoting p.route x (read_line line) (Ok answer) y p.images j) a b p.images j p.told u =
    subst (λ (l : Result Line LineError). WentDoing p.route (LineNoting p.route x l (Ok answer) y p.images j) a b p.images j p.told u) c.in_ok-asked.ensures c.in_ok-answer.ensures.did in
    rw (is.1, is.2) (record {
      did = stopped_as p.route Bool Memory (LineNoting p.route x (read_line line) (Ok answer) y p.images j) (AnswersLines {T = Bool} p.route a (line ∷ []) p.written p.written (Err Memory) b) x y p.images j p.told u turn
          (λ k trace turned behind. line_untold p.route a b k line p.written answer trace turned.0 behind);
      kept = tt;
      route = refl;
      later = c.answer.ensures.later;
      runner_later = c.answer.ensures.runner_later;
      sink = wanted_fault {U = Bool} Memory stops.Sink p.sink p.sink (λ same. absurd (cc (same))) refl;
      keeper = wanted_fault {U = Bool} Memory stops.Keeper p.keeper (g.K.Keeper.faults c.answer.new.keeper) (λ same. absurd (cc (same))) (c.in_ok-answer.ensures.keeper.never (λ same. absurd (cc (same))));
    })

pub returns-clause-did : goal.returns-clause-did
returns-clause-did g c =
    let p = objects_tell g.O.Sink g.K.Keeper g.R.Runner g.L.Link c.args.self.now in
    let x = c.args.session.now in
    let y = c.answer.new.self in
    let a = state_of x in
    let b = state_of y in
    let u = beside (g.L.Link.tells c.answer.new.link) (telling (g.R.Runner.runs c.answer.new.runner) (g.R.Runner.faults c.answer.new.runner)) in
    let j = g.K.Keeper.images c.answer.new.keeper in
    let n = g.O.Sink.written c.write_all.new.output in
    let line = c.args.line.now in
    let answer = c.in_ok-answer.answer in
    let text = c.in_ok-text.text in
    let quit = c.is_quit-quit.result in
    let adds : Adds p.written n text.items = subst (λ (l : List ℕ). Adds p.written n l) c.deref.ensures.value c.in_ok-write_all.ensures.all in
    let turn : WentDoing p.route (LineNoting p.route x (read_line line) (Ok answer) y p.images j) a b p.images j p.told u =
    subst (λ (l : Result Line LineError). WentDoing p.route (LineNoting p.route x l (Ok answer) y p.images j) a b p.images j p.told u) c.in_ok-asked.ensures c.in_ok-answer.ensures.did in
    record {
      did = ended_as p.route quit (LineNoting p.route x (read_line line) (Ok answer) y p.images j) (AnswersLines p.route a (line ∷ []) p.written n (Ok quit) b) x y p.images j p.told u turn
          (λ k trace turned. ((line_answered p.route a b k line p.written n answer text.items trace turned.0 c.in_ok-text.ensures adds, turned.0.1), notes_line p.route.image p.route x y (read_line line) answer p.images j trace turned.0.0 turned.1));
      kept = c.in_ok-answer.ensures.kept;
      route = refl;
      later = c.answer.ensures.later;
      runner_later = c.answer.ensures.runner_later;
      sink = no_fault stops.Sink p.sink (g.O.Sink.faults c.write_all.new.output) quit (c.in_ok-write_all.ensures.cause.never (λ same. absurd (cc (same))));
      keeper = no_fault stops.Keeper p.keeper (g.K.Keeper.faults c.answer.new.keeper) quit (c.in_ok-answer.ensures.keeper.never (λ same. absurd (cc (same))));
    }

pub returns-in_err-write_all-clause-did : goal.returns-in_err-write_all-clause-did
returns-in_err-write_all-clause-did g c =
    let is = err_from_is_err_and c.from_residual-in_err-write_all.result c.from_residual-in_err-write_all.ensures.1 in
    let p = objects_tell g.O.Sink g.K.Keeper g.R.Runner g.L.Link c.args.self.now in
    let x = c.args.session.now in
    let y = c.answer.new.self in
    let a = state_of x in
    let b = state_of y in
    let u = beside (g.L.Link.tells c.answer.new.link) (telling (g.R.Runner.runs c.answer.new.runner) (g.R.Runner.faults c.answer.new.runner)) in
    let j = g.K.Keeper.images c.answer.new.keeper in
    let n = g.O.Sink.written c.write_all.new.output in
    let line = c.args.line.now in
    let answer = c.in_ok-answer.answer in
    let text = c.in_ok-text.text in
    let refused = c.in_err-write_all.field-0.0 in
    let cut : (count : ℕ) × (count ≤ length text.items) × Adds p.written n (take count text.items) =
    subst (λ (l : List ℕ). (count : ℕ) × (count ≤ length l) × Adds p.written n (take count l)) c.deref.ensures.value c.in_err-write_all.ensures.front in
    let writes : WritesFront (stop_of refused) text.items p.written n = cut_front refused text.items p.written n (cut.0, cut.2) in
    let turn : WentDoing p.route (LineNoting p.route x (read_line line) (Ok answer) y p.images j) a b p.images j p.told u =
    subst (λ (l : Result Line LineError). WentDoing p.route (LineNoting p.route x l (Ok answer) y p.images j) a b p.images j p.told u) c.in_ok-asked.ensures c.in_ok-answer.ensures.did in
    rw (is.1, is.2) (record {
      did = stopped_as p.route Bool (stop_of refused) (LineNoting p.route x (read_line line) (Ok answer) y p.images j) (AnswersLines {T = Bool} p.route a (line ∷ []) p.written n (Err (stop_of refused)) b) x y p.images j p.told u turn
          (λ k trace turned behind. line_cut p.route (stop_of refused) a b k line p.written n answer text.items trace turned.0 c.in_ok-text.ensures writes);
      kept = tt;
      route = refl;
      later = c.answer.ensures.later;
      runner_later = c.answer.ensures.runner_later;
      sink = sink_fault {U = Bool} p.sink (g.O.Sink.faults c.write_all.new.output) refused c.in_err-write_all.ensures.cause;
      keeper = wanted_fault {U = Bool} (stop_of refused) stops.Keeper p.keeper (g.K.Keeper.faults c.answer.new.keeper) (not_keeper refused) (c.in_ok-answer.ensures.keeper.never (λ same. absurd (cc (same))));
    })
