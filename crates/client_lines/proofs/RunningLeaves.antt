-- What a run of a client leaves.
use Rattle.std.proofs.Common.{◌≡◌, ◌≢◌, ⊎_elim, ℕ, Bool, false, List, ◌++◌, Option, Some, None, is_some, Result, Ok, Err, IfOk, refl, ◌∙◌, subst}
use Rattle.outside.specs.Outside.{Told, RoseBy}
use Rattle.outside.specs.Keeper.{Images}
use Rattle.mod_log.specs.declared.log.Entry.{Entry}
use Rattle.mod_log.specs.Log.{Log}
use Rattle.world_rules.specs.declared.asking.Ask.{Ask}
use Rattle.world_rules.specs.World.{World}
use Rattle.world_rules.specs.InStep.{InStep, HasNoCollision}
use Rattle.world_rules.specs.Run.{Runs, kept_at, AreInStep, taken_in}
use Rattle.world_rules.specs.Asking.{AnswersStand}
use Rattle.world_rules.specs.Settling.{failed_asks}
use Rattle.world_rules.proofs.Asks.{told_as}
use Rattle.world_rules.proofs.Runs.{both_in_step, runs_in_step, run_taken, entries_in_order, path_is_kept, lone_kept, pending_later, run_asked, run_answers}
use Rattle.world_rules.proofs.Colliding.{kept_none}
use Rattle.world_rules.proofs.Operations.{operated_before, never_collides}
use Rattle.world_rules.proofs.Unrefused.{lone_unrefused}
use Rattle.client_lines.specs.declared.input.InputEnd.{InputEnd}
use Rattle.client_lines.specs.declared.run.Stop.{Stop}
use Rattle.client_lines.specs.declared.run.Stop.TheVariants.{Sink, Keeper, Memory}
use Rattle.client_core.specs.declared.route.Route.{Route}
use Rattle.client_core.specs.Trace.{Trace}
use Rattle.client_core.specs.Keeping.{IsKept}
use Rattle.client_core.specs.Goes.{WorldGoes, Goes, stand}
use Rattle.client_core.specs.Noting.{AreRecorded, TakesNoRows}
use Rattle.client_core.proofs.Going.{goes_none}
use Rattle.shell_lang.specs.declared.answer.LineAnswer.{LineAnswer}
use Rattle.shell_lang.specs.declared.answer.LineAnswer.TheVariants.{OtherLast, Older}
use Rattle.client_session.specs.Session.{SessionState, opened}
use Rattle.client_lines.specs.Run.{status_of, Handles, WholeRun}
use Rattle.client_lines.specs.InsideRun.{RunAnswers}
use Rattle.client_lines.specs.Headline.{Leaves, MayGoOn, Around, WorldRan, Ran}
use Rattle.client_session.proofs.Answered.{log_past}
use Rattle.client_session.proofs.Pulls.{answers_no_other, answers_no_older}
use Rattle.client_lines.proofs.RunningAnswers.{unbehind, unrefused, synced, none_failed, few_unrun, unrun_rose, few_unanswered, unanswered_rose, pull_of_run}
use Rattle.client_lines.proofs.RunningEnds.{run_nothing}
use Rattle.client_lines.proofs.RunningPeers.{run_peers, run_licensed}
use Rattle.client_lines.proofs.RunningTrees.{run_pulls_nothing, run_unrefused}

module _ (client : ℕ) (ships : Bool) (entries : List Entry) (asks : List Ask) (start last kept : Log) (old new : World) where
  -- so that the next one may begin there
  pub goes_on : InStep client start old → Runs client ships entries asks (kept_at start old) (stand last kept new) → HasNoCollision client (start.pending ++ entries) new.packets → MayGoOn client last kept new
  goes_on now runs none =
      let end : AreInStep client (stand last kept new) = both_in_step client ships entries asks (kept_at start old) (stand last kept new) (record { in_memory = now; kept = now }) runs (kept_none client entries (kept_at start old) (stand last kept new) refl none) in
      record { in_step = end.kept; in_memory = end.in_memory }

  pub leaves : InStep client start old → Runs client ships entries asks (kept_at start old) (stand last kept new) → HasNoCollision client (start.pending ++ entries) new.packets → Leaves client start last kept entries old new
  leaves now runs none =
      let both : AreInStep client (kept_at start old) = record { in_memory = now; kept = now } in
      let next : MayGoOn client last kept new = goes_on now runs none in
      record {
        taken = taken_in runs.moves (kept_at start old);
        since = run_taken client ships entries asks (kept_at start old) (stand last kept new) runs;
        not_lower = next.in_step.not_lower;
        not_higher = next.in_step.not_higher.at_most_ahead;
        within = next.in_step.not_higher.at_most_logged;
        pending = (pending_later client ships entries asks (kept_at start old) (stand last kept new) now runs none).1;
        once = entries_in_order client ships entries asks (kept_at start old) (stand last kept new) now runs none;
        spared = λ path same spare. path_is_kept client ships entries asks (kept_at start old) (stand last kept new) path both refl runs same spare none;
        alone = λ same own_only. lone_kept client ships entries asks (kept_at start old) (stand last kept new) both refl runs own_only same none;
      }

-- ---- what is kept at the end

module _ (route : Route) (before after : SessionState) (left rest o n : Option (List ℕ)) (kept : Log) where
  kept_handled : (stop : Stop) (lines : List (List ℕ)) (answers : List (Option LineAnswer)) (trace : Trace) → status_of (Err stop) ≢ 5 → status_of (Err stop) ≢ 7 → Handles stop route before lines answers after kept trace → kept ≡ after.client.log
  kept_handled Sink lines answers trace other more handled = handled.1
  kept_handled Keeper lines answers trace other more handled = absurd (other refl)
  kept_handled Memory lines answers trace other more handled = absurd (more refl)

  kept_at_end : (ended : Result InputEnd Stop) (answers : List (Option LineAnswer)) (trace : Trace) → status_of ended ≢ 5 → status_of ended ≢ 7 → WholeRun route before left rest answers o n ended after kept trace → kept ≡ after.client.log
  kept_at_end (Ok end) answers trace other more turn = turn.3.1
  kept_at_end (Err stop) answers trace other more turn =
      ⊎_elim (λ stops. kept_handled stop stops.0 answers trace other more stops.4) (λ closing. closing.1.3.1) turn.3

-- what a run answers, and what it keeps record by record where it is not stopped
abbrev pub RunRecords : Route → SessionState → Option (List ℕ) → Option (List ℕ) → Option (List ℕ) → Option (List ℕ) → Result InputEnd Stop → SessionState → Option Images → Option Images → Log → Trace → Type 0
RunRecords route before left rest o n ended after i j kept trace =
    RunAnswers route before left rest o n ended after kept trace
    × IfOk ended (λ end. TakesNoRows trace → Told i j (λ images now. AreRecorded before.client.number trace.changes (images route.image) (now route.image)))

recorded : (ended : Result InputEnd Stop) (status : ℕ) (K : Type 0) → status ≡ status_of ended → IfOk ended (λ end. K) → status ≢ 4 → status ≢ 5 → status ≢ 7 → K
recorded (Ok end) status K is kept sink keeper memory = kept
recorded (Err Sink) status K is kept sink keeper memory = absurd (sink is)
recorded (Err Keeper) status K is kept sink keeper memory = absurd (keeper is)
recorded (Err Memory) status K is kept sink keeper memory = absurd (memory is)

-- a run that goes so, from a log that is kept on
module _ (client : ℕ) (route : Route) (start : Log) (around around_now : Around) where
  -- what it is in the worlds
  module _ (ended : Result InputEnd Stop) (answers : List (Option LineAnswer)) (after : SessionState) (kept : Log) (trace : Trace)
      (turn : WholeRun route (opened client start) around.left around_now.left answers around.written around_now.written ended after kept trace) (t u : ℕ) (rose : RoseBy (failed_asks trace.asks) t u) (x y : World)
      (goes : WorldGoes client (is_some route.surrogate) start after.client.log kept trace t u x y) where
    abbrev Moves : Bool → Type 0
    Moves ships = Runs client ships trace.entries trace.asks (kept_at start x) (stand after.client.log kept y)

    by_stores : route.surrogate ≡ None → Moves false
    by_stores none = subst (λ (surrogate : Option (List ℕ)). Moves (is_some surrogate)) none goes.runs

    at_end : InStep client start x → HasNoCollision client (start.pending ++ trace.entries) y.packets → InStep client after.client.log y
    at_end now apart = runs_in_step client (is_some route.surrogate) trace.entries trace.asks (kept_at start x) (stand after.client.log kept y) now goes.runs apart

    answers_stand : AnswersStand y trace.asks
    answers_stand = run_answers client (is_some route.surrogate) trace.entries trace.asks (kept_at start x) (stand after.client.log kept y) goes.runs

    world_ran : WorldRan client route start after.client.log kept trace answers t u x y
    unfolding leaves
    world_ran = record {
      asked = run_asked client (is_some route.surrogate) trace.entries trace.asks (kept_at start x) (stand after.client.log kept y) goes.runs;
      unoperated = λ none now sketched among. operated_before client trace.entries trace.asks (kept_at start x) (stand after.client.log kept y) sketched now.about (by_stores none) among;
      apart = λ none now unsent. never_collides client trace.entries trace.asks (kept_at start x) (stand after.client.log kept y) (start.pending ++ trace.entries) now.about unsent (by_stores none);
      leaves = λ now apart. leaves client (is_some route.surrogate) trace.entries trace.asks start after.client.log kept x y now goes.runs apart;
      goes_on = λ now apart. goes_on client (is_some route.surrogate) trace.entries trace.asks start after.client.log kept x y now goes.runs apart;
      honest = λ now apart.
          unbehind client route (opened client start) after kept answers trace around.left around_now.left around.written around_now.written ended after.client.log y refl (at_end now apart) answers_stand turn;
      same_last = λ now apart last among.
          let told = pull_of_run route (opened client start) after kept answers trace around.left around_now.left around.written around_now.written ended turn (Some (OtherLast last)) among tt in
          answers_no_other told.0 last told.2 (goes.true_pulls now apart told.0 told.1).0;
      fresh = λ now apart quiet path theirs ours among.
          let told = pull_of_run route (opened client start) after kept answers trace around.left around_now.left around.written around_now.written ended turn (Some (Older path theirs ours)) among tt in
          answers_no_older told.0 path theirs ours told.2 ((goes.true_pulls now apart told.0 told.1).1 quiet);
      calm = λ now apart same own_only quiet.
          synced client route (opened client start) after kept answers trace around.left around_now.left around.written around_now.written ended after.client.log y refl (at_end now apart) answers_stand turn start.acked
          (lone_unrefused client (is_some route.surrogate) trace.entries trace.asks (kept_at start x) (stand after.client.log kept y) now goes.runs own_only same apart)
          (log_past start now.log_is) (none_failed (failed_asks trace.asks) t u rose quiet);
      complete = λ now apart replaced unahead answer among pending.
          let pulled = run_pulls_nothing route (opened client start) after kept answers trace replaced around.left around_now.left around.written around_now.written ended turn in
          (unrefused client route (opened client start) after kept answers trace around.left around_now.left around.written around_now.written ended after.client.log y refl (at_end now apart) answers_stand turn start.acked
          (run_unrefused client (is_some route.surrogate) trace.entries trace.asks start after.client.log kept x y now goes.runs apart pulled unahead)
          (log_past start now.log_is) answer among pending).0;
    }

  pub ran : (ended : Result InputEnd Stop) (after : SessionState) (kept : Log) (status : ℕ) → status ≡ status_of ended
      → Goes client (is_some route.surrogate) route.image (RunRecords route (opened client start) around.left around_now.left around.written around_now.written ended after around.images around_now.images kept) start after.client.log kept around.images around_now.images
      around.runner around_now.runner around.link around_now.link → Ran client route start around around_now status
  ran ended after kept status is goes =
      let answers = goes.turn.0.0 in
      record {
        ended = ended;
        status_is = is;
        answers = answers;
        after = after;
        kept = kept;
        goes = record { trace = goes.trace; turn = goes.turn.0.1; keeping = goes.keeping; has_run = goes.has_run; rose = goes.rose; told = goes.told };
        kept_last = λ other more.
            kept_at_end route (opened client start) after around.left around_now.left around.written around_now.written kept ended answers goes.trace (λ five. absurd (other (is ∙ five))) (λ seven. absurd (more (is ∙ seven))) goes.turn.0.1
            ∙ goes.keeping.last;
        records = recorded ended status (TakesNoRows goes.trace → Told around.images around_now.images (λ images now. AreRecorded client goes.trace.changes (images route.image) (now route.image))) is goes.turn.1;
        unrun = unrun_rose answers goes.trace around.runner around_now.runner
            (few_unrun route (opened client start) after kept answers goes.trace around.left around_now.left around.written around_now.written ended goes.turn.0.1) goes.has_run;
        unanswered = unanswered_rose answers goes.trace around.link.troubles around_now.link.troubles
            (few_unanswered route (opened client start) after kept answers goes.trace around.left around_now.left around.written around_now.written ended goes.turn.0.1) goes.rose;
        peers = λ ask among.
            run_peers route (opened client start) after kept answers goes.trace ask among around.left around_now.left around.written around_now.written ended goes.turn.0.1;
        licensed = λ log.
            run_licensed route (opened client start) after kept answers goes.trace log around.left around_now.left around.written around_now.written ended goes.turn.0.1;
        told = told_as around.link.world around_now.link.world (WorldGoes client (is_some route.surrogate) start after.client.log kept goes.trace around.link.troubles around_now.link.troubles)
            (WorldRan client route start after.client.log kept goes.trace answers around.link.troubles around_now.link.troubles) goes.told
            (λ x y. world_ran ended answers after kept goes.trace goes.turn.0.1 around.link.troubles around_now.link.troubles goes.rose x y);
      }

-- a run that did nothing
pub nothing_ran : (client : ℕ) (route : Route) (start : Log) (around : Around) (stop : Stop) (status : ℕ) → IsKept around.images route.image client start → status ≡ status_of (Err stop)
    → Ran client route start around around status
nothing_ran client route start around stop status keeps is =
    let first = opened client start in
    ran client route start around around (Err stop) first start status is
    (goes_none route.image client (is_some route.surrogate) (RunRecords route first around.left around.left around.written around.written (Err stop) first around.images around.images start) start around.images around.runner around.link keeps
    (run_nothing stop route first around.left around.written, tt))
