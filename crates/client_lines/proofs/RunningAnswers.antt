-- What a run answers where its log was in step when it began.
use Rattle.std.proofs.Common.{true, ◌≡◌, inl, inr, ⊎_elim, ℕ, zero, suc, ◌+◌, ◌*◌, ◌≤◌, List, [], ◌∷◌, ◌++◌, Option, Some, Result, Ok, Err, refl, sym, ap, subst, arith}
use Rattle.std.proofs.lemmas.List.{append-nil}
use Rattle.std.specs.List.{count_by}
use Rattle.outside.specs.Outside.{RoseBy, Rose}
use Rattle.cmd_capture.specs.Runs.{RunnerTelling, HasRun}
use Rattle.tree_values.specs.Lists.{IsIn}
use Rattle.vol_tree.proofs.Behind.{IsIn-left}
use Rattle.mod_log.specs.Log.{Log}
use Rattle.wire_frames.specs.declared.message.Message.TheVariants.{Gap}
use Rattle.world_rules.specs.declared.asking.Ask.{Ask}
use Rattle.world_rules.specs.Asking.{AnswerStands, AnswersStand}
use Rattle.world_rules.specs.Settling.{failed_asks}
use Rattle.world_rules.specs.World.{World}
use Rattle.world_rules.specs.InStep.{InStep}
use Rattle.world_rules.proofs.Settled.{failed-append}
use Rattle.client_core.specs.declared.route.Route.{Route}
use Rattle.client_core.specs.Trace.{Trace, nothing}
use Rattle.shell_lang.specs.declared.line.Line.{Line}
use Rattle.shell_lang.specs.declared.line.LineError.{LineError}
use Rattle.shell_lang.specs.declared.answer.LineAnswer.{LineAnswer}
use Rattle.shell_lang.specs.declared.answer.LineAnswer.TheVariants.{Behind}
use Rattle.client_session.specs.Session.{SessionState, Chain, BreaksChain, LeavesPending, is_unrun, is_unanswered}
use Rattle.client_session.proofs.Counted.{unrun_lines_are_counted}
use Rattle.client_session.proofs.Pulls.{IsRefusedPull, IsOfPull, session_pulls}
use Rattle.client_session.proofs.Answered.{Stand, Gapless, Unrefused, IsPast, stand_parts, never_behind, all_unrefused, unanswered_lines_cost_asks}
use Rattle.client_lines.specs.declared.input.InputEnd.{InputEnd}
use Rattle.client_lines.specs.declared.run.Stop.{Stop}
use Rattle.client_lines.specs.declared.run.Stop.TheVariants.{Sink, Keeper, Memory}
use Rattle.client_lines.specs.Run.{asked_for, HandlesAll, Handles, WholeRun}

-- ---- the session behind the answers

-- these are the answers of a session, whose asks are the first of these
abbrev SessionAnswers : Route → SessionState → List (Option LineAnswer) → Trace → Type 0
SessionAnswers route before answers trace =
    (asked : List (Result Line LineError)) × (after : SessionState) × (earlier later : Trace) × Chain route before asked answers after earlier × (trace.asks ≡ earlier.asks ++ later.asks)
    × (trace.missed ≡ earlier.missed + later.missed) × (trace.pulls ≡ earlier.pulls ++ later.pulls)

module _ (route : Route) (before after : SessionState) (kept : Log) (answers : List (Option LineAnswer)) (trace : Trace) where
  all_handled : (lines : List (List ℕ)) → HandlesAll route before lines answers after kept trace → SessionAnswers route before answers trace
  all_handled lines all = (asked_for lines, after, trace, nothing, all.0, sym (append-nil trace.asks), omega arith, sym (append-nil trace.pulls))

  some_handled : (lines : List (List ℕ)) → BreaksChain route before (asked_for lines) answers after kept trace → SessionAnswers route before answers trace
  some_handled lines breaks = (breaks.0, breaks.2, breaks.3, breaks.4, breaks.6, ap (λ (t : Trace). t.asks) breaks.9, ap (λ (t : Trace). t.missed) breaks.9, ap (λ (t : Trace). t.pulls) breaks.9)

  handled : (stop : Stop) (lines : List (List ℕ)) → Handles stop route before lines answers after kept trace → SessionAnswers route before answers trace
  handled Sink lines all = all_handled lines all
  handled Keeper lines some = ⊎_elim (λ all. all_handled lines all) (λ breaks. some_handled lines breaks) some
  handled Memory lines some = ⊎_elim (λ all. all_handled lines all) (λ breaks. some_handled lines breaks) some

  session_of : (left rest o n : Option (List ℕ)) (ended : Result InputEnd Stop) → WholeRun route before left rest answers o n ended after kept trace → SessionAnswers route before answers trace
  session_of left rest o n (Ok end) turn = all_handled turn.0 turn.3
  session_of left rest o n (Err stop) turn = ⊎_elim (λ stops. handled stop stops.0 stops.4) (λ closing. all_handled turn.0 closing.1.3) turn.3

  -- the lines that were answered `not run` are no more than the runs that failed
  pub few_unrun : (left rest o n : Option (List ℕ)) (ended : Result InputEnd Stop) → WholeRun route before left rest answers o n ended after kept trace → count_by is_unrun answers ≤ trace.missed
  few_unrun left rest o n ended turn =
      let session = session_of left rest o n ended turn in
      omega (arith, unrun_lines_are_counted route before session.0 answers session.1 session.2 session.4, session.6)

  -- each sync that was answered `unanswered` cost eight asks
  pub few_unanswered : (left rest o n : Option (List ℕ)) (ended : Result InputEnd Stop) → WholeRun route before left rest answers o n ended after kept trace
      → 8 * count_by is_unanswered answers ≤ failed_asks trace.asks
  few_unanswered left rest o n ended turn =
      let session = session_of left rest o n ended turn in
      omega (arith, unanswered_lines_cost_asks route before session.0 answers session.1 session.2 session.4, ap failed_asks session.5, failed-append session.2.asks session.3.asks)

  -- a pull that is answered so is told
  pub pull_of_run : (left rest o n : Option (List ℕ)) (ended : Result InputEnd Stop) → WholeRun route before left rest answers o n ended after kept trace
      → (answer : Option LineAnswer) → IsIn answer answers → IsRefusedPull answer → IsOfPull answer trace
  pull_of_run left rest o n ended turn answer among refused =
      let session = session_of left rest o n ended turn in
      let told = session_pulls route before session.0 answers session.1 session.2 session.4 answer among refused in
      (told.0, subst (IsIn told.0) (sym session.7) (IsIn-left told.0 session.2.pulls session.3.pulls told.1), told.2)

pub unrun_rose : (answers : List (Option LineAnswer)) (trace : Trace) (old new : RunnerTelling) → count_by is_unrun answers ≤ trace.missed → HasRun trace.runs trace.missed old new → RoseBy (count_by is_unrun answers) old.faults new.faults
unrun_rose answers trace old new few ran = omega (arith, few, ran.counted)

pub unanswered_rose : (answers : List (Option LineAnswer)) (trace : Trace) (before now : ℕ) → 8 * count_by is_unanswered answers ≤ failed_asks trace.asks → RoseBy (failed_asks trace.asks) before now
    → RoseBy (8 * count_by is_unanswered answers) before now
unanswered_rose answers trace before now few rose = omega (arith, few, rose)

-- ---- the replies

stands : (world : World) (asks : List Ask) → AnswersStand world asks → Stand world.packets asks
stands world [] all to address request reply among = absurd among
stands world (ask ∷ asks) all to address request reply (inl is) = (subst (AnswerStands world) (sym is) all.0).0
stands world (ask ∷ asks) all to address request reply (inr among) = stands world asks all.1 to address request reply among

gapless : (client : ℕ) (log : Log) (world : World) → InStep client log world → Gapless client world.packets
gapless client log world now number last among = now.fitting (Gap client number last) among refl

-- no ask failed where the troubles did not rise
pub none_failed : (failed before now : ℕ) → RoseBy failed before now → (Rose before now → ⊥) → failed ≡ 0
none_failed zero before now rose calm = refl
none_failed (suc failed) before now rose calm = absurd (calm (omega (arith, rose)))

module _ (client : ℕ) (route : Route) (before after : SessionState) (kept : Log) (answers : List (Option LineAnswer)) (trace : Trace) (left rest o n : Option (List ℕ)) (ended : Result InputEnd Stop) (log : Log) (world : World)
    (number : before.client.number ≡ client) (now : InStep client log world) (stand : AnswersStand world trace.asks) (turn : WholeRun route before left rest answers o n ended after kept trace) where
  pub unbehind : (seq last : ℕ) → IsIn (Some (Behind seq last)) answers → ⊥
  unbehind seq last among =
      let session = session_of route before after kept answers trace left rest o n ended turn in
      let all : Stand world.packets (session.2.asks ++ session.3.asks) = subst (Stand world.packets) session.5 (stands world trace.asks stand) in
      never_behind world.packets client (gapless client log world now) route before session.0 answers session.1 session.2 session.4 number (stand_parts world.packets session.2.asks session.3.asks all).0
      (Some (Behind seq last)) among (seq, last, refl)

  -- where nothing refuses an entry, a sync that leaves some pending is answered `unanswered`, and cost eight asks that failed
  pub unrefused : (from : ℕ) → Unrefused client from world.packets → IsPast from before.client.log → (answer : Option LineAnswer) → IsIn answer answers → LeavesPending answer
      → (is_unanswered answer ≡ true) × (8 ≤ failed_asks trace.asks)
  unrefused from none past answer among leaves =
      let session = session_of route before after kept answers trace left rest o n ended turn in
      let all : Stand world.packets (session.2.asks ++ session.3.asks) = subst (Stand world.packets) session.5 (stands world trace.asks stand) in
      let told = all_unrefused world.packets client from (gapless client log world now) none route before session.0 answers session.1 session.2 session.4 number past
      (stand_parts world.packets session.2.asks session.3.asks all).0 answer among leaves in
      (told.0, omega (arith, told.1, ap failed_asks session.5, failed-append session.2.asks session.3.asks))

  pub synced : (from : ℕ) → Unrefused client from world.packets → IsPast from before.client.log → failed_asks trace.asks ≡ 0 → (answer : Option LineAnswer) → IsIn answer answers → LeavesPending answer → ⊥
  synced from none past calm answer among leaves = omega (arith, calm, (unrefused from none past answer among leaves).1)
