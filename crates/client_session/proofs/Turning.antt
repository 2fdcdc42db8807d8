-- What the answer of a line makes of the client, of what is kept of it and of the world.
use Rattle.std.proofs.Common.{◌≡◌, ◌≢◌, ◌⊎◌, inl, inr, ⊎_elim, ℕ, Bool, true, false, List, [], ◌∷◌, Option, Some, None, Result, Ok, Err, IfOk, OnErr, IsOkAnd, MatchResult, is_some, refl, arith, sym, ◌∙◌, ap, subst}
use Rattle.outside.specs.Outside.{Told, RisesWhere, CountsFault}
use Rattle.outside.specs.Keeper.{Images}
use Rattle.outside.specs.declared.errors.KeepError.{KeepError}
use Rattle.outside.specs.declared.errors.KeepError.TheVariants as keepers
use Rattle.file_paths.specs.Path.{FilePath}
use Rattle.file_paths.specs.declared.path.PathError.{PathError}
use Rattle.file_paths.specs.declared.path.PathError.TheVariants as paths
use Rattle.tree_values.specs.declared.node.Effect.{Effect}
use Rattle.mod_log.specs.declared.log.LogError.{LogError}
use Rattle.mod_log.specs.declared.log.LogError.TheVariants as logs
use Rattle.mod_log.specs.Log.{Log, IsLog, tree_of}
use Rattle.mod_log.specs.Append.{appended}
use Rattle.world_rules.specs.Telling.{LinkTelling}
use Rattle.client_core.specs.declared.route.Route.{Route}
use Rattle.client_core.specs.declared.syncing.SyncEnd.{SyncEnd}
use Rattle.client_core.specs.declared.syncing.SyncEnd.TheVariants as syncs
use Rattle.client_core.specs.declared.pulling.PullEnd.{PullEnd}
use Rattle.client_core.specs.declared.pulling.PullEnd.TheVariants as pulls
use Rattle.client_core.specs.Client.{Client}
use Rattle.client_core.specs.Causes.{HasSyncCause, HasPullCause, AcknowledgesSome, SyncKeeps, PullKeeps}
use Rattle.client_core.specs.Trace.{Trace, nothing}
use Rattle.client_core.specs.Logging.{local_entry}
use Rattle.client_core.specs.Syncing.{SyncEnds, is_broken_sync}
use Rattle.client_core.specs.Noting.{SyncsNoting}
use Rattle.client_core.specs.Pulling.{PullEnds, is_broken_pull}
use Rattle.client_core.specs.Keeping.{IsKept, IsReady, IsKeptReady}
use Rattle.cmd_capture.specs.Runs.{RunnerTelling, HasRun}
use Rattle.client_core.specs.Goes.{no_runner}
use Rattle.client_core.specs.Goes.{Goes, Went}
use Rattle.client_core.proofs.Going.{changed_so, kept_now, goes_none, goes_as, goes_beside, goes_saved}
use Rattle.client_core.proofs.Locals.{LocalEnds, local_goes}
use Rattle.client_core.proofs.Journal.{KeepsLog}
use Rattle.shell_lang.specs.declared.line.Line.{Line}
use Rattle.shell_lang.specs.declared.line.Line.TheVariants.{Enter, Status, Sync, Pull}
use Rattle.shell_lang.specs.declared.line.LineError.{LineError}
use Rattle.shell_lang.specs.declared.answer.LineAnswer.{LineAnswer}
use Rattle.shell_lang.specs.declared.answer.LineAnswer.TheVariants as answers
use Rattle.shell_lang.specs.declared.answer.Fault.TheVariants as faults
use Rattle.client_session.specs.declared.stop.LineStop.{LineStop}
use Rattle.client_session.specs.declared.stop.LineStop.TheVariants as stops
use Rattle.client_session.specs.Session.{SessionState, ClientState, Sitting, state_of, with_log, with_folder, LogTurn, LineTurn, local_answer, word_answer, status_answer, sync_answer, pull_answer}
use Rattle.client_session.specs.Looking.{enter_answer, folder_by}
use Rattle.client_session.specs.Doing.{Telling, beside, Does, WentDoing, LineEnds, LineNoting}
use Rattle.client_session.specs.Inside.{GivesEffect, LogEnds, LogsOrRefuses, LogsMade}
use Rattle.client_session.specs.Causes.{HasLineCause}
use Rattle.client_session.specs.Stops.{line_stop_of, or_memory, sync_result, pull_result, told}
use Rattle.client_session.proofs.Doing.{does_none, does_as}

-- what a line that asks nothing of the server does over any link, with a surrogate or without, where the keeper's images were these and
-- are those now
abbrev pub Quietly : List ℕ → SessionState → Result Line LineError → Result (Option LineAnswer) LineStop → SessionState → Option Images → Option Images → Type 0
Quietly name before line result after images now =
    (ships : Bool) (route : Route) (told : Telling) → (kept : Log) × Does ships name (LineEnds route before line result after kept) before after kept images now told told

-- a state of the same client in the same folder has another log at most
pub same_but_log : (before after : SessionState) → after.client.number ≡ before.client.number → after.folder ≡ before.folder → after ≡ with_log before after.client.log
same_but_log before after number folder = λ i. record { client = record { number = number i; log = after.client.log }; folder = folder i }

-- what was kept surely is kept
pub kept_ok : (name : List ℕ) (client : ℕ) (log : Log) (i j : Option Images) (done : Unit {0}) → Told i j (KeepsLog {E = KeepError} name client log (Ok done)) → IsKept j name client log
kept_ok name client log (Some i) (Some j) done told = told.0
kept_ok name client log (Some i) None done told = absurd told
kept_ok name client log None None done told = tt
kept_ok name client log None (Some j) done told = absurd (cc)

-- a client that is kept, and after that call may go on, is so with the same number and log
pub kept_still : (name : List ℕ) (client now : Client) (i : Option Images) → now.number ≡ client.number → now.log ≡ client.log → IsKept i name client.number client.log → IsReady i name now → IsKeptReady i name now
kept_still name client now i number log keeps ready =
    (subst (λ (n : ℕ). IsKept i name n now.log) (sym number) (subst (IsKept i name client.number) (sym log) keeps), ready)

pub both_ok : {T E : Type 0} (r : Result T E) (A B : Type 0) → IfOk r (λ done. A) → B → IfOk r (λ done. A × B)
both_ok (Ok done) A B a b = (a, b)
both_ok (Err e) A B a b = tt

-- turns see the same of it
pub seen_same : (client now : Client) (folder : FilePath) → now.number ≡ client.number → now.log ≡ client.log → state_of (record { client = client; folder = folder }) ≡ state_of (record { client = now; folder = folder })
seen_same client now folder number log = λ i. record { client = record { number = sym number i; log = sym log i }; folder = folder }

-- ---- a line that asks nothing of the server

module _ (route : Route) (i : Option Images) where
  -- over each link it does the same
  pub quietly_told : (before : SessionState) (line : Result Line LineError) (r : Result (Option LineAnswer) LineStop) (after : SessionState) (j : Option Images) → Quietly route.image before line r after i j → (t : Telling)
      → WentDoing route (LineEnds route before line r after) before after i j t t
  quietly_told before line r after j quiet t = quiet (is_some route.surrogate) route t

  -- and so it has its turn over any link
  pub quietly_caused : (before : SessionState) (line : Result Line LineError) (r : Result (Option LineAnswer) LineStop) (after : SessionState) (j : Option Images) → Quietly route.image before line r after i j → (t : Telling)
      → (kept : Log) × (trace : Trace) × LineEnds route before line r after kept trace × HasRun trace.runs trace.missed t.runner t.runner
  quietly_caused before line r after j quiet t = let here = quiet (is_some route.surrogate) route t in (here.0, here.1.goes.trace, here.1.goes.turn, here.1.goes.has_run)

  -- as what the line reads as
  pub line_world : (before : SessionState) (read line : Result Line LineError) (r : Result (Option LineAnswer) LineStop) (after : SessionState) (j : Option Images) (t : Telling) → read ≡ line
      → Quietly route.image before line r after i j → WentDoing route (LineEnds route before read r after) before after i j t t
  line_world before read line r after j t is quiet =
      subst (λ (l : Result Line LineError). WentDoing route (LineEnds route before l r after) before after i j t t) (sym is) (quietly_told before line r after j quiet t)

module _ (name : List ℕ) (i : Option Images) where
  module _ (before : SessionState) (keeps : IsKept i name before.client.number before.client.log) where
    -- a line that does nothing but answer
    pub tells_quietly : (line : Result Line LineError) (answer : Option LineAnswer) → ((route : Route) → LineTurn route before line answer before nothing) → Quietly name before line (Ok answer) before i i
    tells_quietly line answer turn = λ ships route t. (before.client.log, does_none ships name (LineEnds route before line (Ok answer) before before.client.log) before i t keeps (turn route, refl))

    pub silent_quietly : (line : Result Line LineError) → ((route : Route) → LineTurn route before line None before nothing) → Quietly name before line (Ok None) before i i
    silent_quietly line turn = tells_quietly line None turn

    -- a line for which memory was wanted before it did anything
    pub breaks_quietly : (line : Result Line LineError) (e : LineStop) → Quietly name before line (Err e) before i i
    breaks_quietly line e = λ ships route t. (before.client.log, does_none ships name (LineEnds route before line (Err e) before before.client.log) before i t keeps (inl (refl, refl)))

    -- a line that does nothing but answer, unless memory is wanted
    pub told_quietly : (line : Result Line LineError) (answer : Option LineAnswer) (r : Result (Option LineAnswer) LineStop) → ((route : Route) → LineTurn route before line answer before nothing)
        → IfOk r (λ given. given ≡ answer) → Quietly name before line r before i i
    told_quietly line answer (Ok given) turn is = subst (λ (a : Option LineAnswer). Quietly name before line (Ok a) before i i) (sym is) (tells_quietly line answer turn)
    told_quietly line answer (Err e) turn is = breaks_quietly line e

    -- a line that enters a folder
    pub enter_quietly : (after : SessionState) (word : List ℕ) (r : Result (Option LineAnswer) LineStop)
        → IfOk r (λ given. given ≡ Some (enter_answer (tree_of before.client.log) before.folder word))
        → IfOk r (λ given. after ≡ with_folder before (folder_by (enter_answer (tree_of before.client.log) before.folder word) before.folder))
        → OnErr r (after ≡ before) → Quietly name before (Ok (Enter word)) r after i i
    enter_quietly after word (Ok given) is entered same =
        let there = with_folder before (folder_by (enter_answer (tree_of before.client.log) before.folder word) before.folder) in
        subst (λ (s : SessionState). Quietly name before (Ok (Enter word)) (Ok given) s i i) (sym entered)
        (λ ships route t. (
          before.client.log,
          record {
            number = refl;
            goes = goes_none name before.client.number ships (LineEnds route before (Ok (Enter word)) (Ok given) there before.client.log) before.client.log i t.runner t.link keeps ((is, refl, refl), refl);
          },
        ))
    enter_quietly after word (Err e) is entered same = subst (λ (s : SessionState). Quietly name before (Ok (Enter word)) (Err e) s i i) (sym same) (breaks_quietly (Ok (Enter word)) e)

    -- the line of status
    pub status_quietly : (answer : LineAnswer) → answer ≡ status_answer before → Quietly name before (Ok Status) (Ok (Some answer)) before i i
    status_quietly answer is = told_quietly (Ok Status) (Some (status_answer before)) (Ok (Some answer)) (λ route. (refl, refl, refl)) (ap Some is)

    -- ---- a line that logs nothing

    -- memory was wanted before
    unlogged : (named : Result Effect PathError) (e : LineStop) → LogsOrRefuses name named before (Err e) before i i
    unlogged named e = λ ships t. (before.client.log, does_none ships name (LogEnds named before (Err e) before before.client.log) before i t keeps (inl (refl, refl)))

    -- the refusal of a path word
    refused_word : (refusal : PathError) (answer : LineAnswer) → word_answer refusal ≡ Some answer → LogsOrRefuses name (Err refusal) before (Ok answer) before i i
    refused_word refusal answer is = λ ships t. (before.client.log, does_none ships name (LogEnds (Err refusal) before (Ok answer) before before.client.log) before i t keeps ((sym is, refl, refl), refl))

    no_memory_word : (refusal : PathError) (answer : LineAnswer) → word_answer refusal ≡ Some answer → refusal ≢ paths.Memory
    no_memory_word refusal answer is memory = absurd (cc (ap word_answer memory, is))

    word_told : (made : Result Effect PathError) (refusal : PathError) (told : Option LineAnswer) → made ≡ Err refusal → word_answer refusal ≡ told → LogsMade name made before (or_memory told) before i i
    word_told made refusal (Some answer) is word = λ named gives.
        let is_named : named ≡ Err refusal = subst (λ (m : Result Effect PathError). GivesEffect m named) is gives (no_memory_word refusal answer word) in
        subst (λ (n : Result Effect PathError). LogsOrRefuses name n before (Ok answer) before i i) (sym is_named) (refused_word refusal answer word)
    word_told made refusal None is word = λ named gives. unlogged named stops.Memory

    pub word_given : (made : Result Effect PathError) (refusal : PathError) (r : Result LineAnswer LineStop) → made ≡ Err refusal → r ≡ or_memory (word_answer refusal) → LogsMade name made before r before i i
    word_given made refusal r is shown = subst (λ (a : Result LineAnswer LineStop). LogsMade name made before a before i i) (sym shown) (word_told made refusal (word_answer refusal) is refl)

    -- ---- a line that logs

    module _ (effect : Effect) (after : SessionState) (number : after.client.number ≡ before.client.number) (folder : after.folder ≡ before.folder) where
      refused_turn : (refusal : LogError) (answer : LineAnswer) → Some answer ≡ local_answer (Err refusal) → (trace : Trace) → LocalEnds (effect ∷ []) before.client.log (Err refusal) after.client.log trace → LogTurn (Ok effect) before (Some answer) after trace
      refused_turn refusal answer shown trace (inl turn) = (Err refusal, turn, same_but_log before after number folder, shown)
      refused_turn refusal answer shown trace (inr memory) = absurd (cc (ap local_answer memory.0, shown))

      -- the log refused the effect
      refusal_told : (made : Result Effect PathError) (refusal : LogError) (told : Option LineAnswer) → made ≡ Ok effect → local_answer (Err refusal) ≡ told
          → (refusal ≢ logs.Memory → appended None (effect ∷ []) before.client.log ≡ Err refusal) → after.client ≡ before.client → IsLog after.client.log → LogsMade name made before (or_memory told) after i i
      refusal_told made refusal (Some answer) is shown err same is_log = λ named gives.
          let is_named : named ≡ Ok effect = subst (λ (m : Result Effect PathError). GivesEffect m named) is gives in
          let log_same : after.client.log ≡ before.client.log = ap (λ (c : ClientState). c.log) same in
          subst (λ (n : Result Effect PathError). LogsOrRefuses name n before (Ok answer) after i i) (sym is_named)
          (λ ships t. (
            before.client.log,
            record {
              number = number;
              goes = goes_as name before.client.number ships (LocalEnds (effect ∷ []) before.client.log (Err refusal) after.client.log) (LogEnds (Ok effect) before (Ok answer) after before.client.log) before.client.log after.client.log before.client.log i i t.runner t.runner t.link t.link
                  (local_goes name before.client.number ships (effect ∷ []) before.client.log after.client.log i keeps (Err refusal) tt tt err log_same is_log t.runner t.link)
                  (λ trace turn. (refused_turn refusal answer (sym shown) trace turn, sym log_same));
            },
          ))
      refusal_told made refusal None is shown err same is_log = λ named gives.
          let unchanged : after ≡ before = λ k. record { client = same k; folder = folder k } in
          subst (λ (s : SessionState). LogsOrRefuses name named before (Err stops.Memory) s i i) (sym unchanged) (unlogged named stops.Memory)

      pub refusal_given : (made : Result Effect PathError) (refusal : LogError) (r : Result LineAnswer LineStop) → made ≡ Ok effect → r ≡ or_memory (local_answer (Err refusal))
          → (refusal ≢ logs.Memory → appended None (effect ∷ []) before.client.log ≡ Err refusal) → after.client ≡ before.client → IsLog after.client.log → LogsMade name made before r after i i
      refusal_given made refusal r is shown err same is_log =
          subst (λ (a : Result LineAnswer LineStop). LogsMade name made before a after i i) (sym shown) (refusal_told made refusal (local_answer (Err refusal)) is refl err same is_log)

      -- it was logged, and the client was to be kept
      module _ (seq : ℕ) (j : Option Images) (ok : appended None (effect ∷ []) before.client.log ≡ Ok after.client.log) (shown : seq ≡ (local_entry (effect ∷ []) before.client.log).seq) (is_log : IsLog after.client.log) where
        local_changes : (trace : Trace) → LocalEnds (effect ∷ []) before.client.log (Ok seq) after.client.log trace → trace.changes ≢ []
        local_changes trace (inl turn) = changed_so trace.changes after.client.log [] (ap (λ (n : Trace). n.changes) turn.2)
        local_changes trace (inr memory) = absurd (cc (memory.0))

        logged_turn : (trace : Trace) → LocalEnds (effect ∷ []) before.client.log (Ok seq) after.client.log trace → LogTurn (Ok effect) before (Some (answers.Logged seq)) after trace
        logged_turn trace (inl turn) = (Ok seq, turn, same_but_log before after number folder, refl)
        logged_turn trace (inr memory) = absurd (cc (memory.0))

        goes_kept : (r : Result (Unit {0}) KeepError) → Told i j (KeepsLog name before.client.number after.client.log r) → (ships : Bool) (t : Telling)
            → (kept : Log) × Goes before.client.number ships name (LocalEnds (effect ∷ []) before.client.log (Ok seq) after.client.log) before.client.log after.client.log kept i j t.runner t.runner t.link t.link × IfOk r (λ done. kept ≡ after.client.log)
        goes_kept r save ships t =
            let goes = local_goes name before.client.number ships (effect ∷ []) before.client.log after.client.log i keeps (Ok seq) ok shown tt tt is_log t.runner t.link in
            goes_saved name before.client.number ships (LocalEnds (effect ∷ []) before.client.log (Ok seq) after.client.log) before.client.log after.client.log before.client.log i i j t.runner t.runner t.link t.link r goes (local_changes goes.trace goes.turn) save

        pub logged_kept : (made : Result Effect PathError) (done : Unit {0}) → made ≡ Ok effect → Told i j (KeepsLog {E = KeepError} name before.client.number after.client.log (Ok done))
            → LogsMade name made before (Ok (answers.Logged seq)) after i j
        logged_kept made done is save = λ named gives.
            let is_named : named ≡ Ok effect = subst (λ (m : Result Effect PathError). GivesEffect m named) is gives in
            subst (λ (n : Result Effect PathError). LogsOrRefuses name n before (Ok (answers.Logged seq)) after i j) (sym is_named)
            (λ ships t.
            let saved = goes_kept (Ok done) save ships t in (
              saved.0,
              record {
                number = number;
                goes = goes_as name before.client.number ships (LocalEnds (effect ∷ []) before.client.log (Ok seq) after.client.log) (LogEnds (Ok effect) before (Ok (answers.Logged seq)) after saved.0) before.client.log after.client.log saved.0 i j t.runner t.runner t.link t.link
                    saved.1 (λ trace turn. (logged_turn trace turn, saved.2));
              },
            ))

        pub logged_unkept : (made : Result Effect PathError) (e : KeepError) (stop : LineStop) → made ≡ Ok effect → Told i j (KeepsLog {E = KeepError} name before.client.number after.client.log (Err e)) → LogsMade name made before (Err stop) after i j
        logged_unkept made e stop is save = λ named gives.
            let is_named : named ≡ Ok effect = subst (λ (m : Result Effect PathError). GivesEffect m named) is gives in
            subst (λ (n : Result Effect PathError). LogsOrRefuses name n before (Err stop) after i j) (sym is_named)
            (λ ships t.
            let saved = goes_kept (Err e) save ships t in (
              saved.0,
              record {
                number = number;
                goes = goes_as name before.client.number ships (LocalEnds (effect ∷ []) before.client.log (Ok seq) after.client.log) (LogEnds (Ok effect) before (Err stop) after saved.0) before.client.log after.client.log saved.0 i j t.runner t.runner t.link t.link
                    saved.1 (λ trace turn. inr (Some (answers.Logged seq), logged_turn trace turn));
              },
            ))

  -- over any link, as its line
  pub logs_quietly : (named : Result Effect PathError) (before : SessionState) (line : Result Line LineError) (r : Result LineAnswer LineStop) (after : SessionState) (j : Option Images)
      → ((route : Route) (answer : Option LineAnswer) (trace : Trace) → LogTurn named before answer after trace → LineTurn route before line answer after trace)
      → LogsOrRefuses name named before r after i j → Quietly name before line (told r) after i j
  logs_quietly named before line (Ok answer) after j to logs = λ ships route t.
      let done = logs ships t in (
        done.0,
        does_as ships name (LogEnds named before (Ok answer) after done.0) (LineEnds route before line (Ok (Some answer)) after done.0) before after done.0 i j t t done.1
            (λ trace turn behind. (to route (Some answer) trace turn.0, turn.1)),
      )
  logs_quietly named before line (Err e) after j to logs = λ ships route t.
      let done = logs ships t in (
        done.0,
        does_as ships name (LogEnds named before (Err e) after done.0) (LineEnds route before line (Err e) after done.0) before after done.0 i j t t done.1
            (λ trace turn behind. ⊎_elim (λ none. inl none) (λ some. inr (inl (some.0, to route some.0 trace some.1))) turn),
      )

-- ---- the keeper's faults

-- a call that does not answer the keeper's fault counts none
pub uncounted : {T : Type 0} (r : Result T LineStop) (p q : ℕ) → q ≡ p → (r ≡ Err stops.Keeper → ⊥) → CountsFault stops.Keeper p q r
uncounted r p q same none = record { later = omega (arith, same); once = λ is. absurd (none is); never = λ no. same }

-- memory that is wanted for an answer is no fault of the keeper
pub or_memory_unfaulty : (answer : Option LineAnswer) (r : Result LineAnswer LineStop) → r ≡ or_memory answer → r ≡ Err stops.Keeper → ⊥
or_memory_unfaulty None r is faulty = absurd (cc (is, faulty))
or_memory_unfaulty (Some answer) r is faulty = absurd (cc (is, faulty))

-- what a keeping counts, the line counts that it stops
pub stop_counts : {T U : Type 0} (p q : ℕ) (e : KeepError) → CountsFault {T = T} keepers.Failed p q (Err e) → CountsFault {T = U} stops.Keeper p q (Err (line_stop_of e))
stop_counts p q keepers.Failed counts = record { later = counts.later; once = λ is. counts.once refl; never = λ no. absurd (no refl) }
stop_counts p q keepers.Memory counts = record { later = counts.later; once = λ is. absurd (cc (is)); never = λ no. counts.never (λ is. absurd (cc (is))) }

-- and a keeping that did not fail counted none
pub kept_counts : {T : Type 0} (p q : ℕ) (done : T) → CountsFault {T = T} keepers.Failed p q (Ok done) → q ≡ p
kept_counts p q done counts = counts.never (λ is. absurd (cc (is)))

-- ---- what a line comes to that has an answer

pub as_told : (r : Result LineAnswer LineStop) (s : Result (Option LineAnswer) LineStop) → MatchResult r (λ answer. IsOkAnd s (λ given. given ≡ Some answer)) (λ stop. s ≡ Err stop) → s ≡ told r
as_told (Ok answer) (Ok given) is = ap Ok is
as_told (Ok answer) (Err stop) is = absurd is
as_told (Err stop) s is = is

pub told_holds : (r : Result LineAnswer LineStop) (s : Result (Option LineAnswer) LineStop) (P : Type 0) → s ≡ told r → IfOk r (λ answer. P) → IfOk s (λ answer. P)
told_holds r s P is holds = subst (λ (a : Result (Option LineAnswer) LineStop). IfOk a (λ answer. P)) (sym is) (by r holds)
  where
    by : (r : Result LineAnswer LineStop) → IfOk r (λ answer. P) → IfOk (told r) (λ answer. P)
    by (Ok answer) holds = holds
    by (Err stop) holds = tt

pub told_counts : (p q : ℕ) (r : Result LineAnswer LineStop) (s : Result (Option LineAnswer) LineStop) → s ≡ told r → CountsFault stops.Keeper p q r → CountsFault stops.Keeper p q s
told_counts p q r s is counts = subst (CountsFault stops.Keeper p q) (sym is) (by r counts)
  where
    by : (r : Result LineAnswer LineStop) → CountsFault stops.Keeper p q r → CountsFault stops.Keeper p q (told r)
    by (Ok answer) counts = uncounted (Ok (Some answer)) p q (counts.never (λ is. absurd (cc (is)))) (λ is. absurd (cc (is)))
    by (Err stops.Keeper) counts = record { later = counts.later; once = λ is. counts.once refl; never = λ no. absurd (no refl) }
    by (Err stops.Memory) counts = uncounted (Err stops.Memory) p q (counts.never (λ is. absurd (cc (is)))) (λ is. absurd (cc (is)))

-- ---- a sync

broken_silent : (end : SyncEnd) → is_broken_sync end ≡ true → sync_answer end ≡ None
broken_silent (syncs.Synced seq) is = absurd (cc)
broken_silent (syncs.Stale seq path theirs ours) is = absurd (cc)
broken_silent (syncs.Unfit seq index fault) is = absurd (cc)
broken_silent (syncs.Full seq index fault) is = absurd (cc)
broken_silent (syncs.Unanswered seq) is = absurd (cc)
broken_silent (syncs.Behind seq last) is = absurd (cc)
broken_silent syncs.KeepFault is = refl
broken_silent syncs.Memory is = refl

pub unbroken : (end : SyncEnd) (answer : LineAnswer) → sync_answer end ≡ Some answer → is_broken_sync end ≡ false
unbroken (syncs.Synced seq) answer is = refl
unbroken (syncs.Stale seq path theirs ours) answer is = refl
unbroken (syncs.Unfit seq index fault) answer is = refl
unbroken (syncs.Full seq index fault) answer is = refl
unbroken (syncs.Unanswered seq) answer is = refl
unbroken (syncs.Behind seq last) answer is = refl
unbroken syncs.KeepFault answer is = absurd (cc)
unbroken syncs.Memory answer is = absurd (cc)

-- a sync is answered as its end says, or stops its line
sync_either : (end : SyncEnd) → ((answer : LineAnswer) × (sync_answer end ≡ Some answer) × (sync_result end ≡ Ok answer)) ⊎ ((stop : LineStop) × (sync_result end ≡ Err stop))
sync_either (syncs.Synced seq) = inl (answers.Synced seq, refl, refl)
sync_either (syncs.Stale seq path theirs ours) = inl (answers.Stale seq path theirs ours, refl, refl)
sync_either (syncs.Unfit seq index fault) = inl (answers.Unfit seq index fault, refl, refl)
sync_either (syncs.Full seq index fault) = inl (answers.Full seq index fault, refl, refl)
sync_either (syncs.Unanswered seq) = inl (answers.Unanswered seq, refl, refl)
sync_either (syncs.Behind seq last) = inl (answers.Behind seq last, refl, refl)
sync_either syncs.KeepFault = inr (stops.Keeper, refl)
sync_either syncs.Memory = inr (stops.Memory, refl)

module _ (route : Route) (before after : SessionState) (k : Log) (number : after.client.number ≡ before.client.number) (folder : after.folder ≡ before.folder) (end : SyncEnd) where
  told_turn : (answer : LineAnswer) → sync_answer end ≡ Some answer → (trace : Trace) → SyncEnds before.client.number route before.client.log end after.client.log k trace → LineEnds route before (Ok Sync) (Ok (Some answer)) after k trace
  told_turn answer is trace (inl turn) = ((end, turn.0, same_but_log before after number folder, sym is), turn.1)
  told_turn answer is trace (inr broken) = absurd (cc (broken_silent end broken.0, is))

  broken_turn : (e : LineStop) (trace : Trace) → SyncEnds before.client.number route before.client.log end after.client.log k trace → LineEnds route before (Ok Sync) (Err e) after k trace
  broken_turn e trace (inl turn) = inr (inl (sync_answer end, (end, turn.0, same_but_log before after number folder, refl)))
  broken_turn e trace (inr broken) = inr (inr (broken.1, same_but_log before after number folder))

module _ (route : Route) (x y : Sitting) (k : Log) (i j : Option Images) (t u : LinkTelling) (number : y.client.number ≡ x.client.number) (folder : y.folder ≡ x.folder) (end : SyncEnd)
    (goes : Goes x.client.number (is_some route.surrogate) route.image (SyncsNoting x.client.number route x.client end y.client i j k) x.client.log y.client.log k i j no_runner no_runner t u) (runner : RunnerTelling) where
  abbrev Did : Result (Option LineAnswer) LineStop → Type 0
  Did r = (kept : Log) × Does (is_some route.surrogate) route.image (LineNoting route x (Ok Sync) r y i j kept) (state_of x) (state_of y) kept i j (beside t runner) (beside u runner)

  sync_as : (r : Result (Option LineAnswer) LineStop) → ((trace : Trace) → SyncsNoting x.client.number route x.client end y.client i j k trace → LineNoting route x (Ok Sync) r y i j k trace) → Did r
  sync_as r to = (
    k,
    record {
      number = number;
      goes = goes_as route.image x.client.number (is_some route.surrogate) (SyncsNoting x.client.number route x.client end y.client i j k) (LineNoting route x (Ok Sync) r y i j k) x.client.log y.client.log k i j runner runner t u
          (goes_beside route.image x.client.number (is_some route.surrogate) (SyncsNoting x.client.number route x.client end y.client i j k) x.client.log y.client.log k i j t u goes runner) to;
    },
  )

  sync_given : (r : Result LineAnswer LineStop) → r ≡ sync_result end → Did (told r)
  sync_given r is = ⊎_elim
      (λ ok. subst (λ (a : Result LineAnswer LineStop). Did (told a)) (sym (is ∙ ok.2))
      (sync_as (Ok (Some ok.0)) (λ trace ended. (told_turn route (state_of x) (state_of y) k number folder end ok.0 ok.1 trace ended.0, λ none. ended.1 (unbroken end ok.0 ok.1)))))
      (λ stopped. subst (λ (a : Result LineAnswer LineStop). Did (told a)) (sym (is ∙ stopped.1))
      (sync_as (Err stopped.0) (λ trace ended. (broken_turn route (state_of x) (state_of y) k number folder end stopped.0 trace ended.0, tt))))
      (sync_either end)

-- over a link
pub sync_went : (route : Route) (x y : Sitting) (i j : Option Images) (t u : LinkTelling) (number : y.client.number ≡ x.client.number) (folder : y.folder ≡ x.folder) (end : SyncEnd)
    (r : Result LineAnswer LineStop) → r ≡ sync_result end
    → Went x.client.number (is_some route.surrogate) route.image (SyncsNoting x.client.number route x.client end y.client i j) x.client.log y.client.log i j t u
    → (runner : RunnerTelling) → WentDoing route (LineNoting route x (Ok Sync) (told r) y i j) (state_of x) (state_of y) i j (beside t runner) (beside u runner)
sync_went route x y i j t u number folder end r is went runner = sync_given route x y went.0 i j t u number folder end went.1 runner r is

pub sync_cause : (route : Route) (before after : SessionState) (t u : LinkTelling) (p q : ℕ) (number : after.client.number ≡ before.client.number) (folder : after.folder ≡ before.folder)
    → AcknowledgesSome before.client.log after.client.log → (end : SyncEnd) (r : Result LineAnswer LineStop) → r ≡ sync_result end
    → HasSyncCause end after.client.log t.troubles u.troubles p q → ((runner : RunnerTelling) → HasLineCause route before (Ok Sync) (told r) after (beside t runner) (beside u runner) p q)
sync_cause route before after t u p q number folder some end r is cause runner = (same_but_log before after number folder, some, (end, ap told is, cause))

-- the keeper's faults are counted by the answer as by the end
pub sync_counts : (p q : ℕ) (end : SyncEnd) (r : Result LineAnswer LineStop) → r ≡ sync_result end → RisesWhere (end ≡ syncs.KeepFault) p q → CountsFault stops.Keeper p q r
sync_counts p q end r is rises = subst (CountsFault stops.Keeper p q) (sym is) (by end rises)
  where
    by : (end : SyncEnd) → RisesWhere (end ≡ syncs.KeepFault) p q → CountsFault stops.Keeper p q (sync_result end)
    by syncs.KeepFault rises = record { later = rises.later; once = λ is. rises.once refl; never = λ no. absurd (no refl) }
    by syncs.Memory rises = record { later = rises.later; once = λ is. absurd (cc (is)); never = λ no. rises.never (λ is. absurd (cc (is))) }
    by (syncs.Synced n) rises = record { later = rises.later; once = λ is. absurd (cc (is)); never = λ no. rises.never (λ is. absurd (cc (is))) }
    by (syncs.Stale n path theirs ours) rises = record { later = rises.later; once = λ is. absurd (cc (is)); never = λ no. rises.never (λ is. absurd (cc (is))) }
    by (syncs.Unfit n index cause) rises = record { later = rises.later; once = λ is. absurd (cc (is)); never = λ no. rises.never (λ is. absurd (cc (is))) }
    by (syncs.Full n index cause) rises = record { later = rises.later; once = λ is. absurd (cc (is)); never = λ no. rises.never (λ is. absurd (cc (is))) }
    by (syncs.Unanswered n) rises = record { later = rises.later; once = λ is. absurd (cc (is)); never = λ no. rises.never (λ is. absurd (cc (is))) }
    by (syncs.Behind n last) rises = record { later = rises.later; once = λ is. absurd (cc (is)); never = λ no. rises.never (λ is. absurd (cc (is))) }

-- a sync that is answered leaves its log kept
pub sync_kept : (name : List ℕ) (client : ℕ) (before after : Log) (end : SyncEnd) (i j : Option Images) (r : Result LineAnswer LineStop) → r ≡ sync_result end
    → SyncKeeps name client before end after i j → IfOk r (λ answer. IsKept j name client after)
sync_kept name client before after end i j r is keeps = ⊎_elim
    (λ ok. subst (λ (a : Result LineAnswer LineStop). IfOk a (λ answer. IsKept j name client after)) (sym (is ∙ ok.2))
    (subst (IsKept j name client) (keeps.whole (unbroken end ok.0 ok.1)) (kept_now name client before after keeps.kept keeps.changes i j keeps.keeping)))
    (λ stopped. subst (λ (a : Result LineAnswer LineStop). IfOk a (λ answer. IsKept j name client after)) (sym (is ∙ stopped.1)) tt)
    (sync_either end)

-- ---- a pull

broken_unsaid : (end : PullEnd) → is_broken_pull end ≡ true → pull_answer end ≡ None
broken_unsaid (pulls.Pulled count) is = absurd (cc)
broken_unsaid (pulls.Pending count) is = absurd (cc)
broken_unsaid (pulls.OtherLast last acked) is = absurd (cc)
broken_unsaid (pulls.Older path theirs ours) is = absurd (cc)
broken_unsaid pulls.Unanswered is = absurd (cc)
broken_unsaid pulls.KeepFault is = refl
broken_unsaid pulls.Memory is = refl

-- a pull is answered as its end says, or stops its line
pub pull_either : (end : PullEnd) → ((answer : LineAnswer) × (pull_answer end ≡ Some answer) × (pull_result end ≡ Ok answer)) ⊎ ((stop : LineStop) × (pull_result end ≡ Err stop))
pull_either (pulls.Pulled count) = inl (answers.Pulled count, refl, refl)
pull_either (pulls.Pending count) = inl (answers.Refused (faults.Pending count), refl, refl)
pull_either (pulls.OtherLast last acked) = inl (answers.OtherLast last, refl, refl)
pull_either (pulls.Older path theirs ours) = inl (answers.Older path theirs ours, refl, refl)
pull_either pulls.Unanswered = inl (answers.PullUnanswered, refl, refl)
pull_either pulls.KeepFault = inr (stops.Keeper, refl)
pull_either pulls.Memory = inr (stops.Memory, refl)

module _ (route : Route) (before after : SessionState) (k : Log) (i j : Option Images) (t u : LinkTelling) (number : after.client.number ≡ before.client.number) (folder : after.folder ≡ before.folder) (end : PullEnd)
    (goes : Goes before.client.number (is_some route.surrogate) route.image (PullEnds before.client.number route before.client.log end after.client.log k) before.client.log after.client.log k i j no_runner no_runner t u) (runner : RunnerTelling) where
  abbrev Pulls_so : Result (Option LineAnswer) LineStop → Type 0
  Pulls_so r = (kept : Log) × Does (is_some route.surrogate) route.image (LineEnds route before (Ok Pull) r after kept) before after kept i j (beside t runner) (beside u runner)

  pull_as : (r : Result (Option LineAnswer) LineStop) → ((trace : Trace) → PullEnds before.client.number route before.client.log end after.client.log k trace → LineEnds route before (Ok Pull) r after k trace) → Pulls_so r
  pull_as r to = (
    k,
    record {
      number = number;
      goes = goes_as route.image before.client.number (is_some route.surrogate) (PullEnds before.client.number route before.client.log end after.client.log k) (LineEnds route before (Ok Pull) r after k) before.client.log after.client.log k i j runner runner t u
          (goes_beside route.image before.client.number (is_some route.surrogate) (PullEnds before.client.number route before.client.log end after.client.log k) before.client.log after.client.log k i j t u goes runner) to;
    },
  )

  pull_told : (answer : LineAnswer) → pull_answer end ≡ Some answer → (trace : Trace) → PullEnds before.client.number route before.client.log end after.client.log k trace → LineEnds route before (Ok Pull) (Ok (Some answer)) after k trace
  pull_told answer is trace (inl turn) = ((end, turn.0, same_but_log before after number folder, sym is), turn.1)
  pull_told answer is trace (inr broken) = absurd (cc (broken_unsaid end broken.0, is))

  pull_broken : (e : LineStop) (trace : Trace) → PullEnds before.client.number route before.client.log end after.client.log k trace → LineEnds route before (Ok Pull) (Err e) after k trace
  pull_broken e trace (inl turn) = inr (inl (pull_answer end, (end, turn.0, same_but_log before after number folder, refl)))
  pull_broken e trace (inr broken) = inr (inr (broken.1, same_but_log before after number folder))

  pull_given : (r : Result LineAnswer LineStop) → r ≡ pull_result end → Pulls_so (told r)
  pull_given r is = ⊎_elim
      (λ ok. subst (λ (a : Result LineAnswer LineStop). Pulls_so (told a)) (sym (is ∙ ok.2)) (pull_as (Ok (Some ok.0)) (pull_told ok.0 ok.1)))
      (λ stopped. subst (λ (a : Result LineAnswer LineStop). Pulls_so (told a)) (sym (is ∙ stopped.1)) (pull_as (Err stopped.0) (pull_broken stopped.0)))
      (pull_either end)

-- over a link
pub pull_went : (route : Route) (before after : SessionState) (i j : Option Images) (t u : LinkTelling) (number : after.client.number ≡ before.client.number) (folder : after.folder ≡ before.folder) (end : PullEnd)
    (r : Result LineAnswer LineStop) → r ≡ pull_result end
    → Went before.client.number (is_some route.surrogate) route.image (PullEnds before.client.number route before.client.log end after.client.log) before.client.log after.client.log i j t u
    → (runner : RunnerTelling) → WentDoing route (LineEnds route before (Ok Pull) (told r) after) before after i j (beside t runner) (beside u runner)
pull_went route before after i j t u number folder end r is went runner = pull_given route before after went.0 i j t u number folder end went.1 runner r is

pub pull_cause : (route : Route) (before after : SessionState) (t u : LinkTelling) (p q : ℕ) (number : after.client.number ≡ before.client.number) (folder : after.folder ≡ before.folder)
    → (end : PullEnd) (r : Result LineAnswer LineStop) → r ≡ pull_result end
    → HasPullCause end before.client.log after.client.log t.troubles u.troubles p q → ((runner : RunnerTelling) → HasLineCause route before (Ok Pull) (told r) after (beside t runner) (beside u runner) p q)
pull_cause route before after t u p q number folder end r is cause runner = (same_but_log before after number folder, (end, ap told is, cause))

pub pull_counts : (p q : ℕ) (end : PullEnd) (r : Result LineAnswer LineStop) → r ≡ pull_result end → RisesWhere (end ≡ pulls.KeepFault) p q → CountsFault stops.Keeper p q r
pull_counts p q end r is rises = subst (CountsFault stops.Keeper p q) (sym is) (by end rises)
  where
    by : (end : PullEnd) → RisesWhere (end ≡ pulls.KeepFault) p q → CountsFault stops.Keeper p q (pull_result end)
    by pulls.KeepFault rises = record { later = rises.later; once = λ is. rises.once refl; never = λ no. absurd (no refl) }
    by pulls.Memory rises = record { later = rises.later; once = λ is. absurd (cc (is)); never = λ no. rises.never (λ is. absurd (cc (is))) }
    by (pulls.Pulled count) rises = record { later = rises.later; once = λ is. absurd (cc (is)); never = λ no. rises.never (λ is. absurd (cc (is))) }
    by (pulls.Pending count) rises = record { later = rises.later; once = λ is. absurd (cc (is)); never = λ no. rises.never (λ is. absurd (cc (is))) }
    by (pulls.OtherLast last acked) rises = record { later = rises.later; once = λ is. absurd (cc (is)); never = λ no. rises.never (λ is. absurd (cc (is))) }
    by (pulls.Older path theirs ours) rises = record { later = rises.later; once = λ is. absurd (cc (is)); never = λ no. rises.never (λ is. absurd (cc (is))) }
    by pulls.Unanswered rises = record { later = rises.later; once = λ is. absurd (cc (is)); never = λ no. rises.never (λ is. absurd (cc (is))) }

pub unbroken_pull : (end : PullEnd) (answer : LineAnswer) → pull_answer end ≡ Some answer → is_broken_pull end ≡ false
unbroken_pull (pulls.Pulled count) answer is = refl
unbroken_pull (pulls.Pending count) answer is = refl
unbroken_pull (pulls.OtherLast last acked) answer is = refl
unbroken_pull (pulls.Older path theirs ours) answer is = refl
unbroken_pull pulls.Unanswered answer is = refl
unbroken_pull pulls.KeepFault answer is = absurd (cc)
unbroken_pull pulls.Memory answer is = absurd (cc)

-- a pull that is answered leaves its log kept
pub pull_kept : (name : List ℕ) (client : ℕ) (before after : Log) (end : PullEnd) (i j : Option Images) (r : Result LineAnswer LineStop) → r ≡ pull_result end
    → PullKeeps name client before end after i j → IfOk r (λ answer. IsKept j name client after)
pull_kept name client before after end i j r is keeps = ⊎_elim
    (λ ok. subst (λ (a : Result LineAnswer LineStop). IfOk a (λ answer. IsKept j name client after)) (sym (is ∙ ok.2))
    (subst (IsKept j name client) (keeps.whole (unbroken_pull end ok.0 ok.1)) (kept_now name client before after keeps.kept keeps.changes i j keeps.keeping)))
    (λ stopped. subst (λ (a : Result LineAnswer LineStop). IfOk a (λ answer. IsKept j name client after)) (sym (is ∙ stopped.1)) tt)
    (pull_either end)
