-- What a line that runs a command makes of the client, of what is kept of it, of what the runner tells and of the world.
use Rattle.std.proofs.Common.{◌≡◌, ◌≢◌, inl, inr, ℕ, true, List, [], Option, Some, None, Result, Ok, Err, IfOk, is_some, refl, sym, ◌∙◌, ap, subst}
use Rattle.outside.specs.Outside.{Told}
use Rattle.outside.specs.Keeper.{Images}
use Rattle.outside.specs.declared.errors.KeepError.{KeepError}
use Rattle.cmd_capture.specs.declared.command.Command.{Command}
use Rattle.cmd_capture.specs.declared.capturing.CaptureError.{CaptureError}
use Rattle.cmd_capture.specs.declared.capturing.CaptureError.TheVariants as captures
use Rattle.cmd_capture.specs.Capture.{capture}
use Rattle.mod_log.specs.Log.{Log, IsLog}
use Rattle.world_rules.specs.Telling.{LinkTelling}
use Rattle.client_core.specs.declared.route.Route.{Route}
use Rattle.client_core.specs.declared.running.RunEnd.{RunEnd}
use Rattle.client_core.specs.declared.running.RunEnd.TheVariants as ends
use Rattle.client_core.specs.Trace.{Trace, nothing}
use Rattle.cmd_capture.specs.Runs.{RunnerTelling, HasRun}
use Rattle.client_core.specs.Running.{RunEnds, RunsCommand, has_logged}
use Rattle.client_core.specs.Keeping.{IsKept}
use Rattle.client_core.specs.Goes.{Goes}
use Rattle.client_core.proofs.Going.{changed_so, goes_as, goes_saved}
use Rattle.client_core.proofs.Runs.{run_goes}
use Rattle.client_core.proofs.Journal.{KeepsLog}
use Rattle.shell_lang.specs.declared.line.Line.TheVariants.{Run as RunLine}
use Rattle.shell_lang.specs.declared.answer.LineAnswer.{LineAnswer}
use Rattle.client_session.specs.Session.{SessionState, CommandTurn, LineTurn, BreaksCommand, Broken, capture_answer, run_answer}
use Rattle.client_session.specs.Doing.{beside, WentDoing, LineEnds}
use Rattle.client_session.specs.declared.stop.LineStop.{LineStop}
use Rattle.client_session.specs.declared.stop.LineStop.TheVariants as stops
use Rattle.client_session.specs.Inside.{RunsLine, RunsMade}
use Rattle.client_session.specs.Stops.{or_memory, told}
use Rattle.client_session.proofs.Doing.{does_none}
use Rattle.client_session.proofs.Turning.{same_but_log}

-- ---- over a link

module _ (route : Route) (words : List (List ℕ)) (before after : SessionState) (r : Result LineAnswer LineStop) (i j : Option Images) (p q : RunnerTelling) (runs : RunsLine route words before r after i j p q) (t : LinkTelling) where
  pub run_went : WentDoing route (LineEnds route before (Ok (RunLine words)) (told r) after) before after i j (beside t p) (beside t q)
  run_went = runs t

  pub run_caused : (kept : Log) × (trace : Trace) × LineEnds route before (Ok (RunLine words)) (told r) after kept trace × HasRun trace.runs trace.missed p q
  run_caused = let here = runs t in (here.0, here.1.goes.trace, here.1.goes.turn, here.1.goes.has_run)

-- ---- words that make no command

module _ (route : Route) (words : List (List ℕ)) (before : SessionState) (i : Option Images) (keeps : IsKept i route.image before.client.number before.client.log) (p : RunnerTelling) where
  named_refusal : (refusal : CaptureError) (answer : LineAnswer) → capture_answer refusal ≡ Some answer → refusal ≢ captures.Memory
  named_refusal refusal answer is memory = absurd (cc (ap capture_answer memory, is))

  capture_told : (refusal : CaptureError) (answer : Option LineAnswer) → (refusal ≢ captures.Memory → capture words before.folder ≡ Err refusal) → capture_answer refusal ≡ answer
      → RunsLine route words before (or_memory answer) before i i p p
  capture_told refusal (Some answer) refused shown = λ link.
      let is : capture words before.folder ≡ Err refusal = refused (named_refusal refusal answer shown) in
      let turn : LineTurn route before (Ok (RunLine words)) (Some answer) before nothing =
      subst (λ (c : Result Command CaptureError). CommandTurn route c before (Some answer) before nothing) (sym is) (sym shown, refl, refl) in
      (before.client.log, does_none (is_some route.surrogate) route.image (LineEnds route before (Ok (RunLine words)) (Ok (Some answer)) before before.client.log) before i (beside link p) keeps (turn, refl))
  capture_told refusal None refused shown = λ link.
      (before.client.log, does_none (is_some route.surrogate) route.image (LineEnds route before (Ok (RunLine words)) (Err stops.Memory) before before.client.log) before i (beside link p) keeps (inl (refl, refl)))

  pub capture_given : (refusal : CaptureError) (r : Result LineAnswer LineStop) → (refusal ≢ captures.Memory → capture words before.folder ≡ Err refusal) → r ≡ or_memory (capture_answer refusal)
      → RunsLine route words before r before i i p p
  capture_given refusal r refused shown =
      subst (λ (a : Result LineAnswer LineStop). RunsLine route words before a before i i p p) (sym shown) (capture_told refusal (capture_answer refusal) refused refl)

-- ---- a command

-- what holds whatever is answered
pub whatever : {T E : Type 0} (r : Result T E) (K : Type 0) → K → IfOk r (λ answer. K)
whatever (Ok answer) K is = is
whatever (Err e) K is = tt

-- an end that is logged is answered
logged_answer : (end : RunEnd) → has_logged end ≡ true → run_answer end ≡ None → ⊥
logged_answer (ends.Logged seq status) logged is = absurd (cc (is))
logged_answer (ends.Nothing status) logged is = absurd (cc (logged))
logged_answer (ends.NoJob fault) logged is = absurd (cc (logged))
logged_answer ends.NotRun logged is = absurd (cc (logged))
logged_answer (ends.OddTree n) logged is = absurd (cc (logged))
logged_answer (ends.Clash path) logged is = absurd (cc (logged))
logged_answer (ends.Refused refusal) logged is = absurd (cc (logged))
logged_answer ends.Memory logged is = absurd (cc (logged))

-- and changes the log
logged_changes : (work : List ℕ) (command : Command) (before : Log) (end : RunEnd) (after : Log) (trace : Trace) → has_logged end ≡ true → RunEnds work command before end after trace → trace.changes ≢ []
logged_changes work command before (ends.Logged seq status) after trace logged (inl turn) = changed_so trace.changes after [] (ap (λ (t : Trace). t.changes) turn.3)
logged_changes work command before end after trace logged (inr broken) = absurd (cc (sym logged ∙ ap has_logged broken.0))
logged_changes work command before (ends.Nothing status) after trace logged (inl turn) = absurd (cc (logged))
logged_changes work command before (ends.NoJob fault) after trace logged (inl turn) = absurd (cc (logged))
logged_changes work command before ends.NotRun after trace logged (inl turn) = absurd (cc (logged))
logged_changes work command before (ends.OddTree n) after trace logged (inl turn) = absurd (cc (logged))
logged_changes work command before (ends.Clash path) after trace logged (inl turn) = absurd (cc (logged))
logged_changes work command before (ends.Refused refusal) after trace logged (inl turn) = absurd (cc (logged))
logged_changes work command before ends.Memory after trace logged (inl turn) = absurd (cc (logged))

module _ (route : Route) (command : Command) (before after : SessionState) (number : after.client.number ≡ before.client.number) (folder : after.folder ≡ before.folder) (end : RunEnd) where
  abbrev Ends : Trace → Type 0
  Ends = RunEnds route.work command before.client.log end after.client.log

  answered_turn : (words : List (List ℕ)) → capture words before.folder ≡ Ok command → (answer : LineAnswer) → run_answer end ≡ Some answer → (trace : Trace) → Ends trace → LineTurn route before (Ok (RunLine words)) (Some answer) after trace
  answered_turn words made answer told trace (inl turn) =
      subst (λ (c : Result Command CaptureError). CommandTurn route c before (Some answer) after trace) (sym made) (end, turn, same_but_log before after number folder, sym told)
  answered_turn words made answer told trace (inr broken) = absurd (cc (ap run_answer broken.0, told))

  broken_turn : (words : List (List ℕ)) → capture words before.folder ≡ Ok command → (trace : Trace) → Ends trace → Broken route before (Ok (RunLine words)) after trace
  broken_turn words made trace (inl turn) =
      inr (inl (run_answer end, subst (λ (c : Result Command CaptureError). CommandTurn route c before (run_answer end) after trace) (sym made) (end, turn, same_but_log before after number folder, refl)))
  broken_turn words made trace (inr broken) =
      inr (inr (subst (λ (c : Result Command CaptureError). BreaksCommand route c before.client.log after.client.log trace) (sym made) (broken.2, broken.1), same_but_log before after number folder))

  module _ (i : Option Images) (p q : RunnerTelling) (keeps : IsKept i route.image before.client.number before.client.log) (did : RunsCommand route.work command before.client.log end after.client.log p q) (is_log : IsLog after.client.log) where
    went : (t : LinkTelling) → Goes before.client.number (is_some route.surrogate) route.image Ends before.client.log after.client.log before.client.log i i p q t t
    went t = run_goes route.image before.client.number (is_some route.surrogate) route.work command before.client.log i keeps p q t end after.client.log did is_log

    -- the log is as before
    run_told : (answer : Option LineAnswer) → run_answer end ≡ answer → after.client.log ≡ before.client.log → RunsMade route command before (or_memory answer) after i i p q
    run_told (Some answer) shown same = λ words made link. (
      before.client.log,
      record {
        number = number;
        goes = goes_as route.image before.client.number (is_some route.surrogate) Ends (LineEnds route before (Ok (RunLine words)) (Ok (Some answer)) after before.client.log) before.client.log after.client.log before.client.log i i p q link link
            (went link) (λ trace turn. (answered_turn words made answer shown trace turn, sym same));
      },
    )
    run_told None shown same = λ words made link. (
      before.client.log,
      record {
        number = number;
        goes = goes_as route.image before.client.number (is_some route.surrogate) Ends (LineEnds route before (Ok (RunLine words)) (Err stops.Memory) after before.client.log) before.client.log after.client.log before.client.log i i p q link link
            (went link) (λ trace turn. broken_turn words made trace turn);
      },
    )

    pub run_given : (r : Result LineAnswer LineStop) → r ≡ or_memory (run_answer end) → after.client.log ≡ before.client.log → RunsMade route command before r after i i p q
    run_given r shown same = subst (λ (a : Result LineAnswer LineStop). RunsMade route command before a after i i p q) (sym shown) (run_told (run_answer end) refl same)

    -- the log was changed, and was to be kept
    module _ (logged : has_logged end ≡ true) (j : Option Images) where
      saved : (r : Result (Unit {0}) KeepError) → Told i j (KeepsLog route.image before.client.number after.client.log r) → (t : LinkTelling)
          → (kept : Log) × Goes before.client.number (is_some route.surrogate) route.image Ends before.client.log after.client.log kept i j p q t t × IfOk r (λ done. kept ≡ after.client.log)
      saved r save t =
          let goes = went t in
          goes_saved route.image before.client.number (is_some route.surrogate) Ends before.client.log after.client.log before.client.log i i j p q t t r goes
          (logged_changes route.work command before.client.log end after.client.log goes.trace logged goes.turn) save

      run_kept_told : (done : Unit {0}) (answer : Option LineAnswer) → run_answer end ≡ answer → Told i j (KeepsLog {E = KeepError} route.image before.client.number after.client.log (Ok done))
          → RunsMade route command before (or_memory answer) after i j p q
      run_kept_told done (Some answer) shown save = λ words made link.
          let all = saved (Ok done) save link in (
            all.0,
            record {
              number = number;
              goes = goes_as route.image before.client.number (is_some route.surrogate) Ends (LineEnds route before (Ok (RunLine words)) (Ok (Some answer)) after all.0) before.client.log after.client.log all.0 i j p q link link
                  all.1 (λ trace turn. (answered_turn words made answer shown trace turn, all.2));
            },
          )
      run_kept_told done None shown save = absurd (logged_answer end logged shown)

      pub run_kept : (done : Unit {0}) (r : Result LineAnswer LineStop) → r ≡ or_memory (run_answer end)
          → Told i j (KeepsLog {E = KeepError} route.image before.client.number after.client.log (Ok done)) → RunsMade route command before r after i j p q
      run_kept done r shown save = subst (λ (a : Result LineAnswer LineStop). RunsMade route command before a after i j p q) (sym shown) (run_kept_told done (run_answer end) refl save)

      pub run_unkept : (e : KeepError) (stop : LineStop) → Told i j (KeepsLog {E = KeepError} route.image before.client.number after.client.log (Err e)) → RunsMade route command before (Err stop) after i j p q
      run_unkept e stop save = λ words made link.
          let all = saved (Err e) save link in (
            all.0,
            record {
              number = number;
              goes = goes_as route.image before.client.number (is_some route.surrogate) Ends (LineEnds route before (Ok (RunLine words)) (Err stop) after all.0) before.client.log after.client.log all.0 i j p q link link
                  all.1 (λ trace turn. broken_turn words made trace turn);
            },
          )
