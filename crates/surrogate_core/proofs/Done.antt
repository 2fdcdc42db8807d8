-- What a try comes to, and when a handling ends as done.
use Rattle.std.proofs.Common.{◌≡◌, ◌⊎◌, inl, inr, ⊎_elim, ℕ, zero, suc, Bool, true, false, List, [], ◌∷◌, ◌++◌, Option, Some, None, Result, Ok, Err, sym, ◌∙◌, ap, subst}
use Rattle.std.specs.List.{flat_map}
use Rattle.std.proofs.Math.ListN.{replicate}
use Rattle.std.proofs.lemmas.Option.{none-some}
use Rattle.tree_values.specs.Tree.{Volume}
use Rattle.mod_log.specs.declared.sketching.SketchEntry.{SketchEntry}
use Rattle.tree_values.specs.Lists.{IsIn}
use Rattle.cmd_capture.specs.declared.runner.Run.{Run}
use Rattle.cmd_capture.specs.declared.job.Job.{Job}
use Rattle.cmd_capture.specs.declared.job.Outcome.{Outcome}
use Rattle.replay_judge.specs.Judgement.{IsJudgement}
use Rattle.replay_judge.specs.Laws.{AgreementsFill, OneJudgement}
use Rattle.wire_frames.specs.declared.cause.Cause.TheVariants.{NoMemory, NotRun, Refused}
use Rattle.wire_frames.specs.declared.message.Message.TheVariants.{Store, Operate, Pull, Accepted, Stale, Unfit, Gap, Full, Snapshot, Done, Declined, Malformed}
use Rattle.wire_frames.specs.declared.cause.Cause.{Cause}
use Rattle.wire_frames.specs.declared.message.Message.{Message}
use Rattle.world_rules.specs.declared.asking.Peer.TheVariants.{Server}
use Rattle.world_rules.specs.declared.asking.Answer.TheVariants.{Reply, Failed, Memory}
use Rattle.world_rules.specs.Settling.{IsSettling, failures, settled}
use Rattle.world_rules.specs.Asking.{ask_of}
use Rattle.world_rules.specs.declared.asking.Answer.{Answer}
use Rattle.world_rules.specs.declared.asking.Ask.{Ask}
use Rattle.surrogate_core.specs.declared.step.NextStep.TheVariants as steps
use Rattle.surrogate_core.specs.Handling.{Phase, Idle, Fetching, Holding, Reaction, answering, declining, closed, refusal_kind, job_for, held_by, after_verdict, AfterJob, runs_of_job, HandlesReply, HandlesCome, Round, IsRound, GoesOn}
use Rattle.surrogate_core.specs.Laws.{EndsOperation, AcceptedHandlingsAreDone, RefusedHandlingsAreDeclined, UnpreparedTriesAreDeclined, UnrunTriesAreDeclined, JudgedTriesGoOn}
use Rattle.surrogate_core.proofs.Copies.{keeps_the_copy}
use Rattle.surrogate_core.specs.declared.step.NextStep.{NextStep}

-- ---- each try has its one end

abbrev first_run : List Run → Run → Run
first_run [] run = run
first_run (x ∷ xs) run = x

pub judged_tries : OneJudgement → JudgedTriesGoOn
judged_tries one pulled tried client sketched work run verdict reaction tries judged =
    ⊎_elim (λ came. by pulled (job_for tried sketched) tries.ran tries.runs_are came) (λ none. inr none) tries.came
  where
    by : (pulled : Bool) (job : Result Job Cause) (ran : Option Outcome) → run ∷ [] ≡ runs_of_job work job ran → AfterJob pulled tried client sketched job ran reaction
        → (reaction ≡ after_verdict tried client sketched (held_by tried run.job verdict)) ⊎ (reaction ≡ declining tried client sketched.seq NoMemory)
    by pulled (Ok job) (Some outcome) e came =
        let is_job : run.job ≡ job = ap (λ l. (first_run l run).job) e in
        let is_outcome : run.outcome ≡ outcome = ap (λ l. (first_run l run).outcome) e in
        let as_run : IsJudgement sketched job outcome verdict =
        subst (λ j. IsJudgement sketched j outcome verdict) is_job (subst (λ o. IsJudgement sketched run.job o verdict) is_outcome judged) in
        let same : came.0 ≡ verdict = one sketched job outcome came.0 verdict came.1 as_run in
        inl (came.2
        ∙ ap (λ v. after_verdict tried client sketched (held_by tried job v)) same
        ∙ ap (λ (j : Job). after_verdict tried client sketched (held_by tried j verdict)) (sym is_job))
    by pulled (Ok job) None e came = absurd (cc)
    by true (Err cause) ran e came = absurd (cc)
    by false (Err cause) ran e came = absurd (cc)

pub unprepared_tries : UnpreparedTriesAreDeclined
unprepared_tries tried client sketched work runs cause reaction tries none =
    ⊎_elim (λ came. inl (subst (λ job. AfterJob true tried client sketched job tries.ran reaction) none came)) (λ starved. inr starved) tries.came

pub unrun_tries : UnrunTriesAreDeclined
unrun_tries pulled tried client sketched work job reaction tries is =
    ⊎_elim (λ came. inl (by tries.ran (tries.runs_are ∙ ap (λ j. runs_of_job work j tries.ran) is) (subst (λ j. AfterJob pulled tried client sketched j tries.ran reaction) is came)))
    (λ starved. inr starved) tries.came
  where
    by : (ran : Option Outcome) → [] ≡ runs_of_job work (Ok job) ran → AfterJob pulled tried client sketched (Ok job) ran reaction
        → reaction ≡ declining tried client sketched.seq NotRun
    by None none came = came
    by (Some outcome) none came = absurd (cc)

-- ---- an acceptance ends as done

apart : (x : Ask) (xs ys : List Ask) → IsIn x (xs ++ ys) → IsIn x xs ⊎ IsIn x ys
apart x [] ys among = inr among
apart x (y ∷ xs) ys (inl is) = inl (inl is)
apart x (y ∷ xs) ys (inr among) = ⊎_elim (λ a. inl (inr a)) (λ b. inr b) (apart x xs ys among)

failed_in : (ask one : Ask) (count : ℕ) → IsIn ask (replicate count one) → ask ≡ one
failed_in ask one zero among = absurd among
failed_in ask one (suc count) (inl is) = is
failed_in ask one (suc count) (inr among) = failed_in ask one count among

abbrev message_of : Answer → Message → Message
message_of (Reply reply) m = reply
message_of Failed m = m
message_of Memory m = m

abbrev IsAnswered : Answer → Type 0
IsAnswered (Reply reply) = Unit {0}
IsAnswered Failed = ⊥
IsAnswered Memory = ⊥

-- an ask of a settling that was answered, was answered so
answered_so : (server : List ℕ) (request reply m : Message) (failed : ℕ) (ask : Ask) → IsIn ask (settled Server server request failed reply) → ask.answer ≡ Reply m → reply ≡ m
answered_so server request reply m failed ask among e = by (apart ask (failures Server server request failed) (ask_of Server server request (Reply reply) ∷ []) among)
  where
    by : IsIn ask (failures Server server request failed) ⊎ IsIn ask (ask_of Server server request (Reply reply) ∷ []) → reply ≡ m
    by (inl front) = absurd (subst IsAnswered (sym e ∙ ap (λ a. a.answer) (failed_in ask (ask_of Server server request Failed) failed front)) tt)
    by (inr (inl is)) = ap (λ a. message_of a m) (sym (ap (λ a. a.answer) is) ∙ e)
    by (inr (inr none)) = absurd none

-- what an answer comes to, where that ends the handling
module _ (server work : List ℕ) (ask : Ask) (told : Message) (e : ask.answer ≡ Reply told) (Ends : Reaction → Type 0)
    (came_so : (phase : Phase) (now : Volume) (runs : List Run) (reaction : Reaction) → HandlesReply phase now told work runs reaction → Ends reaction)
    (is_last : (reaction : Reaction) (round : Round) → Ends reaction → IsRound server work reaction round → ⊥) where
  settled_so : (request : Message) (phase : Phase) (now : Volume) (asks : List Ask) (came : Option Message) (runs : List Run) (reaction : Reaction) → IsIn ask asks
      → IsSettling Server server request came asks → HandlesCome (record { copy = now; phase = phase }) came work runs reaction → Ends reaction
  settled_so request phase now asks None runs reaction among settles handles =
      absurd (subst IsAnswered (sym e ∙ ap (λ a. a.answer) (failed_in ask (ask_of Server server request Failed) 8 (subst (IsIn ask) settles among))) tt)
  settled_so request phase now asks (Some reply) runs reaction among settles handles =
      came_so phase now runs reaction (subst (λ r. HandlesReply phase now r work runs reaction)
      (answered_so server request reply told settles.0 ask (subst (IsIn ask) settles.4 among) e) handles)

  round_so : (step : NextStep) (phase : Phase) (now : Volume) (round : Round) → IsIn ask round.asks
      → IsRound server work (record { step = step; after = record { copy = now; phase = phase } }) round → Ends round.after
  round_so (steps.Answer reply) phase now round among is = absurd is
  round_so (steps.Ask request) phase now round among is = settled_so request phase now round.asks round.came round.runs round.after among is.0 is.1

  stops : (first last : Reaction) (rounds : List Round) → Ends first → GoesOn server work first rounds last → Ends last
  stops first last [] ends goes = subst Ends (sym goes) ends
  stops first last (round ∷ rounds) ends goes = absurd (is_last first round ends goes.0)

  goes_so : (rounds : List Round) (first last : Reaction) → IsIn ask (flat_map (λ round. round.asks) rounds) → GoesOn server work first rounds last → Ends last
  goes_so [] first last among goes = absurd among
  goes_so (round ∷ rounds) first last among goes =
      ⊎_elim
      (λ here. stops round.after last rounds (round_so first.step first.after.phase first.after.copy round here goes.0) goes.1)
      (λ later. goes_so rounds round.after last later goes.1)
      (apart ask round.asks (flat_map (λ r. r.asks) rounds) among)

abbrev answer_of : NextStep → Message → Message
answer_of (steps.Answer reply) m = reply
answer_of (steps.Ask request) m = m

no_round : (server work : List ℕ) (now : Volume) (reply : Message) (reaction : Reaction) (round : Round) → reaction ≡ answering now reply
    → IsRound server work reaction round → ⊥
no_round server work now reply reaction round is goes = subst (λ r. IsRound server work r round) is goes

-- a reaction that answers that an operation is done
abbrev IsDone : Reaction → Type 0
IsDone reaction = (now : Volume) × (c n : ℕ) × (reaction ≡ answering now (Done c n))

came_done : (work : List ℕ) (k m u : ℕ) (phase : Phase) (now : Volume) (runs : List Run) (reaction : Reaction)
    → HandlesReply phase now (Accepted k m u) work runs reaction → IsDone reaction
came_done work k m u Idle now runs reaction handles = absurd handles
came_done work k m u (Fetching c s) now runs reaction handles = absurd handles
came_done work k m u (Holding c n before) now runs reaction handles = (now, c, n, handles.0)

pub accepted_handlings : AgreementsFill → AcceptedHandlingsAreDone
accepted_handlings agreements_fill server work copy after client sketched runs asks reply ask c n u handling among e =
    let done =
    goes_so server work ask (Accepted c n u) e IsDone (came_done work c n u)
    (λ reaction round ends. no_round server work ends.0 (Done ends.1 ends.2) reaction round ends.3) handling.rounds handling.first
    (answering after reply) (subst (IsIn ask) handling.asks_are among) handling.goes_on in
    let is : reply ≡ Done done.1 done.2 = ap (λ r. answer_of r.step reply) done.3 in
    let ends = subst (EndsOperation client sketched copy asks after) is (keeps_the_copy agreements_fill client sketched copy server work runs asks reply after handling) in
    is ∙ ap (λ a. Done a done.2) ends.0 ∙ ap (Done client) ends.1

-- ---- a refusal ends as declined

abbrev IsRefused : ℕ → Reaction → Type 0
IsRefused kind reaction = (now : Volume) × (c n : ℕ) × (reaction ≡ declining now c n (Refused kind))

-- what refuses a store is no snapshot
not_fetched : (client : ℕ) (sketched : SketchEntry) (work : List ℕ) (kind : ℕ) (now : Volume) (runs : List Run) (reaction : Reaction)
    (refusal : Message) → refusal_kind refusal ≡ Some kind → HandlesReply (Fetching client sketched) now refusal work runs reaction → ⊥
not_fetched client sketched work kind now runs reaction (Snapshot c n last rows) refuses handles = none-some kind refuses
not_fetched client sketched work kind now runs reaction (Store c n parts) refuses handles = handles
not_fetched client sketched work kind now runs reaction (Operate c s) refuses handles = handles
not_fetched client sketched work kind now runs reaction (Pull c n) refuses handles = handles
not_fetched client sketched work kind now runs reaction (Accepted c n u) refuses handles = handles
not_fetched client sketched work kind now runs reaction (Stale c n u path theirs ours) refuses handles = handles
not_fetched client sketched work kind now runs reaction (Unfit c n u index fault) refuses handles = handles
not_fetched client sketched work kind now runs reaction (Gap c n last) refuses handles = handles
not_fetched client sketched work kind now runs reaction (Full c n u index fault) refuses handles = handles
not_fetched client sketched work kind now runs reaction (Done c n) refuses handles = handles
not_fetched client sketched work kind now runs reaction (Declined c n cause) refuses handles = handles
not_fetched client sketched work kind now runs reaction (Malformed code place) refuses handles = handles

came_refused : (work : List ℕ) (refusal : Message) (kind : ℕ) → refusal_kind refusal ≡ Some kind → (phase : Phase) (now : Volume) (runs : List Run)
    (reaction : Reaction) → HandlesReply phase now refusal work runs reaction → IsRefused kind reaction
came_refused work refusal kind refuses Idle now runs reaction handles = absurd handles
came_refused work refusal kind refuses (Fetching c s) now runs reaction handles =
    absurd (not_fetched c s work kind now runs reaction refusal refuses handles)
came_refused work refusal kind refuses (Holding c n before) now runs reaction handles =
    (before, c, n, handles.0 ∙ ap (closed now c n before) refuses)

pub refused_handlings : AgreementsFill → RefusedHandlingsAreDeclined
refused_handlings agreements_fill server work copy after client sketched runs asks reply ask refusal kind handling among e refuses =
    let ended =
    goes_so server work ask refusal e (IsRefused kind) (came_refused work refusal kind refuses)
    (λ reaction round ends. no_round server work ends.0 (Declined ends.1 ends.2 (Refused kind)) reaction round ends.3) handling.rounds
    handling.first (answering after reply) (subst (IsIn ask) handling.asks_are among) handling.goes_on in
    let is : reply ≡ Declined ended.1 ended.2 (Refused kind) = ap (λ r. answer_of r.step reply) ended.3 in
    let ends = subst (EndsOperation client sketched copy asks after) is (keeps_the_copy agreements_fill client sketched copy server work runs asks reply after handling) in
    is ∙ ap (λ a. Declined a ended.2 (Refused kind)) ends.0 ∙ ap (λ n. Declined client n (Refused kind)) ends.1
