-- Which entries of a session a command made, and which lines of a drill run one.
use Rattle.std.proofs.Common.{◌≡◌, ℕ, zero, suc, ◌+◌, ◌-◌, ◌≤◌, ◌==◌, ◌%◌, Bool, true, false, List, [], ◌∷◌, ◌++◌, length, length-append, decimal, Option, Result, Ok, Err, refl, sym, ◌∙◌, ap, subst, arith}
use Rattle.std.specs.Prelude.{codes, replicate, cond, if◌then◌else◌, ◌/◌}
use Rattle.std.specs.List.{count_by}
use Rattle.std.proofs.lemmas.List.{map-append}
use Rattle.std.proofs.lemmas.List.Sums.{sum_by-cons, sum_by-append}
use Rattle.tree_values.specs.declared.node.Effect.{Effect}
use Rattle.file_paths.specs.declared.path.PathError.{PathError}
use Rattle.cmd_capture.specs.declared.command.Command.{Command}
use Rattle.cmd_capture.specs.declared.capturing.CaptureError.{CaptureError}
use Rattle.cmd_capture.specs.Capture.{capture}
use Rattle.mod_log.specs.declared.log.Entry.{Entry}
use Rattle.mod_log.specs.declared.log.LogError.{LogError}
use Rattle.client_core.specs.declared.route.Route.{Route}
use Rattle.client_core.specs.declared.syncing.SyncEnd.{SyncEnd}
use Rattle.client_core.specs.declared.pulling.PullEnd.{PullEnd}
use Rattle.client_core.specs.declared.pulling.PullEnd.TheVariants.{Pulled, Pending, OtherLast, Older, Unanswered, KeepFault, Memory}
use Rattle.client_core.specs.declared.running.RunEnd.{RunEnd}
use Rattle.client_core.specs.declared.running.RunEnd.TheVariants as runs
use Rattle.client_core.specs.Running.{RunTurn}
use Rattle.client_core.specs.Trace.{Trace, nothing}
use Rattle.client_core.specs.Logging.{LocalTurn}
use Rattle.client_core.specs.Syncing.{SyncTurn}
use Rattle.client_core.specs.Pulling.{PullsSnapshot, PullTurn}
use Rattle.shell_lang.specs.declared.line.Line.{Line}
use Rattle.shell_lang.specs.declared.line.Line.TheVariants as lines
use Rattle.shell_lang.specs.declared.line.LineError.{LineError}
use Rattle.shell_lang.specs.declared.line.LineError.TheVariants.{BadWord, OpenQuote, UnknownWord, WrongCount}
use Rattle.shell_lang.specs.declared.line.LineError.TheVariants.{Memory as Wanted}
use Rattle.shell_lang.specs.declared.answer.LineAnswer.{LineAnswer}
use Rattle.shell_lang.specs.Faults.{number}
use Rattle.shell_lang.specs.Words.{words_of, ◌>>=◌}
use Rattle.shell_lang.specs.Spelling.{Spelling}
use Rattle.shell_lang.specs.Refusing.{counted_on}
use Rattle.shell_lang.specs.Commands.{read_line, line_of_words}
use Rattle.shell_lang.proofs.Refused.{front_is_read}
use Rattle.client_session.specs.Session.{SessionState, put_effect, make_effect, remove_effect, move_effect, LogTurn, CommandTurn, LineTurn, Chain}
use Rattle.client_session.specs.Causes.{asks_to_run}
use Rattle.client_session.proofs.Acknowledged.{sync_holds}
use Rattle.client_lines.specs.Run.{asked_for}
use Rattle.client_drill.specs.Drill.{number_at, is_job, jobs_upto, put_line, run_line, step_line, sync_behind, lines_of_step, lines_upto, drill_lines}
use Rattle.client_drill.specs.Drilled.{was_run}
use Rattle.client_drill.proofs.Reading.{few_jobs}

-- ---- what a line logs

-- whether a line may log an entry that no command made
abbrev may_put : Result Line LineError → Bool
may_put (Ok (lines.Put word text)) = true
may_put (Ok (lines.Make word)) = true
may_put (Ok (lines.Remove word)) = true
may_put (Ok (lines.Move from to)) = true
may_put line = false

abbrev one : Bool → ℕ
one b = cond b 1 0

-- at most one of a command, where it asks for a run, and at most one other
record Logs (runs puts : ℕ) (trace : Trace) : Type 0 where
  ran : count_by was_run trace.entries ≤ runs
  rest : length trace.entries ≤ count_by was_run trace.entries + puts

none_logged : (runs puts : ℕ) (trace : Trace) → trace.entries ≡ [] → Logs runs puts trace
none_logged runs puts trace none = record {
  ran = omega (arith, ap (count_by was_run) none);
  rest = omega (arith, ap (λ (es : List Entry). length es) none);
}

nothing_logged : (runs puts : ℕ) (trace : Trace) → trace ≡ nothing → Logs runs puts trace
nothing_logged runs puts trace none = none_logged runs puts trace (ap (λ (t : Trace). t.entries) none)

module _ (before after : SessionState) (trace : Trace) where
  put_logs : (named : Result Effect PathError) (answer : Option LineAnswer) → LogTurn named before answer after trace → Logs 0 1 trace
  put_logs (Err refusal) answer turn = nothing_logged 0 1 trace turn.2
  put_logs (Ok effect) answer turn = by turn.0 turn.1
    where
      by : (result : Result ℕ LogError) → LocalTurn (effect ∷ []) before.client.log result after.client.log trace → Logs 0 1 trace
      by (Ok n) local = subst (Logs 0 1) (sym local.2) (record { ran = omega arith; rest = omega arith })
      by (Err refusal) local = nothing_logged 0 1 trace local.2

  run_logs : (work : List ℕ) (command : Command) (end : RunEnd) → RunTurn work command before.client.log end after.client.log trace → Logs 1 0 trace
  run_logs work command (runs.Logged seq status) turn = subst (Logs 1 0) (sym turn.3) (record { ran = omega arith; rest = omega arith })
  run_logs work command (runs.Nothing status) turn = none_logged 1 0 trace (ap (λ (t : Trace). t.entries) turn.3)
  run_logs work command (runs.OddTree n) turn = none_logged 1 0 trace (ap (λ (t : Trace). t.entries) turn.3)
  run_logs work command (runs.Clash path) turn = none_logged 1 0 trace (ap (λ (t : Trace). t.entries) turn.3)
  run_logs work command (runs.Refused refusal) turn = none_logged 1 0 trace (ap (λ (t : Trace). t.entries) turn.3)
  run_logs work command (runs.NoJob fault) turn = nothing_logged 1 0 trace turn.2
  run_logs work command runs.NotRun turn = none_logged 1 0 trace (ap (λ (t : Trace). t.entries) turn.2)
  run_logs work command runs.Memory turn = absurd turn.2

  command_logs : (route : Route) (made : Result Command CaptureError) (answer : Option LineAnswer) → CommandTurn route made before answer after trace → Logs 1 0 trace
  command_logs route (Ok command) answer turn = run_logs route.work command turn.0 turn.1
  command_logs route (Err refusal) answer turn = nothing_logged 1 0 trace turn.2

  sync_logs : (route : Route) (end : SyncEnd) → SyncTurn before.client.number route before.client.log end after.client.log trace → Logs 0 0 trace
  sync_logs route end turn =
      none_logged 0 0 trace
      (sync_holds (λ (t : Trace). t.entries ≡ []) refl (λ m n one_none other. ap (λ (es : List Entry). es ++ n.entries) one_none ∙ other) (λ log. refl) before.client.number route
      (λ pending entry came asks ships. refl) before.client.log end after.client.log trace turn)

  snapshot_logs : (route : Route) (end : PullEnd) → PullsSnapshot before.client.number route before.client.log end after.client.log trace → Logs 0 0 trace
  snapshot_logs route (Pulled count) turn = none_logged 0 0 trace (ap (λ (t : Trace). t.entries) turn.trace_is)
  snapshot_logs route (OtherLast last acked) turn = none_logged 0 0 trace (ap (λ (t : Trace). t.entries) turn.trace_is)
  snapshot_logs route (Older path theirs ours) turn = none_logged 0 0 trace (ap (λ (t : Trace). t.entries) turn.trace_is)
  snapshot_logs route (Pending count) turn = absurd turn.met
  snapshot_logs route Unanswered turn = absurd turn.met
  snapshot_logs route KeepFault turn = absurd turn.met
  snapshot_logs route Memory turn = absurd turn.met

  pull_logs : (route : Route) (end : PullEnd) → PullTurn before.client.number route before.client.log end after.client.log trace → Logs 0 0 trace
  pull_logs route (Pending count) turn = nothing_logged 0 0 trace turn.3
  pull_logs route Unanswered turn = none_logged 0 0 trace (ap (λ (t : Trace). t.entries) turn.1.3)
  pull_logs route (Pulled count) turn = snapshot_logs route (Pulled count) turn
  pull_logs route (OtherLast last acked) turn = snapshot_logs route (OtherLast last acked) turn
  pull_logs route (Older path theirs ours) turn = snapshot_logs route (Older path theirs ours) turn
  pull_logs route KeepFault turn = snapshot_logs route KeepFault turn
  pull_logs route Memory turn = snapshot_logs route Memory turn

  line_logs : (route : Route) (line : Result Line LineError) (answer : Option LineAnswer) → LineTurn route before line answer after trace → Logs (one (asks_to_run line)) (one (may_put line)) trace
  line_logs route (Err refusal) answer turn = nothing_logged 0 0 trace turn.2
  line_logs route (Ok lines.Empty) answer turn = nothing_logged 0 0 trace turn.2
  line_logs route (Ok (lines.Put word text)) answer turn = put_logs (put_effect before.folder word text) answer turn
  line_logs route (Ok (lines.Make word)) answer turn = put_logs (make_effect before.folder word) answer turn
  line_logs route (Ok (lines.Remove word)) answer turn = put_logs (remove_effect before.folder word) answer turn
  line_logs route (Ok (lines.Move from to)) answer turn = put_logs (move_effect before.folder from to) answer turn
  line_logs route (Ok (lines.Cat word)) answer turn = nothing_logged 0 0 trace turn.2
  line_logs route (Ok (lines.List word)) answer turn = nothing_logged 0 0 trace turn.2
  line_logs route (Ok (lines.Enter word)) answer turn = nothing_logged 0 0 trace turn.2
  line_logs route (Ok (lines.Run words)) answer turn = command_logs route (capture words before.folder) answer turn
  line_logs route (Ok lines.Status) answer turn = nothing_logged 0 0 trace turn.2
  line_logs route (Ok lines.Sync) answer turn = sync_logs route turn.0 turn.1
  line_logs route (Ok lines.Pull) answer turn = pull_logs route turn.0 turn.1
  line_logs route (Ok lines.Quit) answer turn = nothing_logged 0 0 trace turn.2

count_more : {X : Type 0} (test : X → Bool) (x : X) (xs : List X) → count_by test (x ∷ xs) ≡ one (test x) + count_by test xs
count_more test x xs = sum_by-cons (λ y. cond (test y) 1 0) x xs

count_both : {X : Type 0} (test : X → Bool) (xs ys : List X) → count_by test (xs ++ ys) ≡ count_by test xs + count_by test ys
count_both test xs ys = sum_by-append (λ y. cond (test y) 1 0) xs ys

-- what a session logs
session_logs : (route : Route) (before : SessionState) (lines : List (Result Line LineError)) (answers : List (Option LineAnswer)) (after : SessionState) (trace : Trace)
    → Chain route before lines answers after trace → Logs (count_by asks_to_run lines) (count_by may_put lines) trace
session_logs route before [] answers after trace chain = nothing_logged 0 0 trace chain.2
session_logs route before (line ∷ more) answers after trace chain =
    let first = line_logs before chain.0 chain.1 route line chain.3 chain.5 in
    let rest = session_logs route chain.0 more chain.4 after chain.2 chain.6 in
    let is = ap (λ (t : Trace). t.entries) chain.8 in
    let counted = ap (count_by was_run) is ∙ count_both was_run chain.1.entries chain.2.entries in
    record {
      ran = omega (arith, counted, first.ran, rest.ran, count_more asks_to_run line more);
      rest = omega (arith, counted, ap (λ (es : List Entry). length es) is, length-append chain.1.entries chain.2.entries, first.rest, rest.rest, count_more may_put line more);
    }

-- ---- the lines of a drill

abbrev bare : List ℕ → Spelling
bare word = record { quoted = false; word = word }

-- a line whose first word is `put`
put_reads : (rest : List ℕ) → asks_to_run (read_line (codes "put" ++ 32 ∷ rest)) ≡ false
put_reads rest = ap (λ (words : Result (List (List ℕ)) LineError). asks_to_run (words >>= line_of_words)) (front_is_read (bare (codes "put")) [] rest refl) ∙ by (words_of rest)
  where
    by_words : (words : List (List ℕ)) → asks_to_run (line_of_words (codes "put" ∷ words)) ≡ false
    by_words [] = refl
    by_words (a ∷ []) = refl
    by_words (a ∷ b ∷ []) = refl
    by_words (a ∷ b ∷ c ∷ more) = refl

    by : (words : Result (List (List ℕ)) LineError) → asks_to_run (counted_on (codes "put" ∷ []) words >>= line_of_words) ≡ false
    by (Ok words) = by_words words
    by (Err (BadWord i)) = refl
    by (Err OpenQuote) = refl
    by (Err UnknownWord) = refl
    by (Err (WrongCount n)) = refl
    by (Err Wanted) = refl

-- one whose first word is `run`
run_reads : (rest : List ℕ) → may_put (read_line (codes "run" ++ 32 ∷ rest)) ≡ false
run_reads rest = ap (λ (words : Result (List (List ℕ)) LineError). may_put (words >>= line_of_words)) (front_is_read (bare (codes "run")) [] rest refl) ∙ by (words_of rest)
  where
    by : (words : Result (List (List ℕ)) LineError) → may_put (counted_on (codes "run" ∷ []) words >>= line_of_words) ≡ false
    by (Ok words) = refl
    by (Err (BadWord i)) = refl
    by (Err OpenQuote) = refl
    by (Err UnknownWord) = refl
    by (Err (WrongCount n)) = refl
    by (Err Wanted) = refl

record Few (runs puts : ℕ) (read : List (Result Line LineError)) : Type 0 where
  ran : count_by asks_to_run read ≤ runs
  rest : count_by may_put read ≤ puts

few_both : (a b c d : ℕ) (xs ys : List (Result Line LineError)) → Few a b xs → Few c d ys → Few (a + c) (b + d) (xs ++ ys)
few_both a b c d xs ys first second = record {
  ran = omega (arith, first.ran, second.ran, count_both asks_to_run xs ys);
  rest = omega (arith, first.rest, second.rest, count_both may_put xs ys);
}

one_most : (b : Bool) → one b ≤ 1
one_most true = omega arith
one_most false = omega arith

put_few : (x : ℕ) → Few 0 1 (read_line (put_line x) ∷ [])
put_few x =
    let line = read_line (put_line x) in
    record {
      ran = omega (arith, count_more asks_to_run line [], ap one (put_reads (codes "/d/f" ++ (decimal (x / 4 % 16) ++ 32 ∷ replicate (x % 1000 + 1) (97 + x % 26)))));
      rest = omega (arith, count_more may_put line [], one_most (may_put line));
    }

run_few : (job : ℕ) → Few 1 0 (read_line (run_line job) ∷ [])
run_few job =
    let line = read_line (run_line job) in
    record {
      ran = omega (arith, count_more asks_to_run line [], one_most (asks_to_run line));
      rest = omega (arith, count_more may_put line [], ap one (run_reads (codes "-- /bin/job" ++ number job)));
    }

step_few : (x jobs : ℕ) → Few (one (is_job x)) (1 - one (is_job x)) (read_line (step_line x jobs) ∷ [])
step_few x jobs = by (is_job x)
  where
    by : (b : Bool) → Few (one b) (1 - one b) (read_line (if b then run_line jobs else put_line x) ∷ [])
    by true = run_few jobs
    by false = put_few x

behind_few : (i : ℕ) → Few 0 0 (asked_for (sync_behind i))
behind_few i = by (i % 10 == 0)
  where
    by : (b : Bool) → Few 0 0 (asked_for (if b then codes "sync" ∷ [] else []))
    by true = record { ran = omega arith; rest = omega arith }
    by false = record { ran = omega arith; rest = omega arith }

-- the first steps
module _ (seed : ℕ) where
  upto_few : (i : ℕ) → Few (jobs_upto seed i) (i - jobs_upto seed i) (asked_for (lines_upto seed i))
  upto_few zero = record { ran = omega arith; rest = omega arith }
  upto_few (suc i) =
      let x = number_at seed (suc i) in
      let jobs = jobs_upto seed (suc i) in
      let step = few_both (one (is_job x)) (1 - one (is_job x)) 0 0 (read_line (step_line x jobs) ∷ []) (asked_for (sync_behind (suc i))) (step_few x jobs) (behind_few (suc i)) in
      let whole = few_both (jobs_upto seed i) (i - jobs_upto seed i) (one (is_job x) + 0) (1 - one (is_job x) + 0) (asked_for (lines_upto seed i)) (read_line (step_line x jobs) ∷ asked_for (sync_behind (suc i))) (upto_few i) step in
      let is = map-append read_line (lines_upto seed i) (lines_of_step seed (suc i)) in
      record {
        ran = omega (arith, ap (count_by asks_to_run) is, whole.ran, same (is_job x));
        rest = omega (arith, ap (count_by may_put) is, whole.rest, same (is_job x), few_jobs seed i, one_most (is_job x));
      }
    where
      same : (b : Bool) → (if b then 1 else 0) ≡ one b
      same true = refl
      same false = refl

  none_more : (n : ℕ) → 0 + n ≡ n
  none_more n = omega arith

  drill_few : (count : ℕ) → Few (jobs_upto seed count) (count + 2 - jobs_upto seed count) (asked_for (drill_lines seed count))
  drill_few count =
      let both = few_both 0 2 (jobs_upto seed count) (count - jobs_upto seed count) (asked_for (codes "mkdir d" ∷ codes "mkdir e" ∷ codes "cd e" ∷ [])) (asked_for (lines_upto seed count))
      (record { ran = omega arith; rest = omega arith }) (upto_few count) in
      let first = subst (λ (n : ℕ). Few n (2 + (count - jobs_upto seed count)) (asked_for (codes "mkdir d" ∷ codes "mkdir e" ∷ codes "cd e" ∷ lines_upto seed count))) (none_more (jobs_upto seed count)) both in
      let whole = few_both (jobs_upto seed count) (2 + (count - jobs_upto seed count)) 0 0 (asked_for (codes "mkdir d" ∷ codes "mkdir e" ∷ codes "cd e" ∷ lines_upto seed count)) (asked_for (codes "sync" ∷ []))
      first (record { ran = omega arith; rest = omega arith }) in
      let is = map-append read_line (codes "mkdir d" ∷ codes "mkdir e" ∷ codes "cd e" ∷ lines_upto seed count) (codes "sync" ∷ []) in
      record {
        ran = omega (arith, ap (count_by asks_to_run) is, whole.ran);
        rest = omega (arith, ap (count_by may_put) is, whole.rest, few_jobs seed count);
      }

-- Where a session over the lines of a drill logged an entry for each step and two more, a command made as many as its lines run.
pub commands_are : (seed count : ℕ) (route : Route) (before : SessionState) (answers : List (Option LineAnswer)) (after : SessionState) (trace : Trace)
    → Chain route before (asked_for (drill_lines seed count)) answers after trace → length trace.entries ≡ count + 2 → jobs_upto seed count ≡ count_by was_run trace.entries
commands_are seed count route before answers after trace chain all =
    let logs = session_logs route before (asked_for (drill_lines seed count)) answers after trace chain in
    let few = drill_few seed count in
    omega (arith, logs.ran, logs.rest, few.ran, few.rest, all, few_jobs seed count)
