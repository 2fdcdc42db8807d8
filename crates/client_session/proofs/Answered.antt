-- How the syncs of a session are answered, told from the replies to its asks.
use Rattle.std.proofs.Common.{◌≡◌, ◌⊎◌, inl, inr, ⊎_elim, ℕ, true, ◌+◌, ◌*◌, ◌-◌, ◌<◌, ◌≤◌, List, [], ◌∷◌, ◌++◌, length, Option, None, Some, Result, Ok, Err, refl, sym, ◌∙◌, ap, subst, arith}
use Rattle.std.specs.Prelude.{cond}
use Rattle.std.specs.List.{count_by}
use Rattle.std.proofs.lemmas.List.Sums.{sum_by-cons}
use Rattle.std.proofs.lemmas.Bool.Decides.{nat_tests}
use Rattle.file_paths.specs.Path.{FilePath, resolved}
use Rattle.file_paths.specs.declared.path.PathError.{PathError}
use Rattle.file_paths.specs.declared.path.PathError.TheVariants as paths
use Rattle.tree_values.specs.Tree.{Volume}
use Rattle.tree_values.specs.Lists.{IsIn}
use Rattle.tree_values.specs.declared.node.Effect.{Effect}
use Rattle.tree_values.specs.declared.node.Node.{Node}
use Rattle.tree_values.specs.declared.node.Node.TheVariants as nodes
use Rattle.vol_tree.proofs.Behind.{IsIn-left, IsIn-right}
use Rattle.cmd_capture.specs.declared.command.Command.{Command}
use Rattle.cmd_capture.specs.declared.capturing.CaptureError.{CaptureError}
use Rattle.cmd_capture.specs.declared.capturing.CaptureError.TheVariants as captures
use Rattle.cmd_capture.specs.Capture.{capture}
use Rattle.work_area.specs.declared.jobs.JobError.{JobError}
use Rattle.work_area.specs.declared.jobs.JobError.TheVariants as jobs
use Rattle.mod_log.specs.declared.log.Entry.{Entry}
use Rattle.mod_log.specs.declared.log.LogError.{LogError}
use Rattle.mod_log.specs.declared.log.LogError.TheVariants as logs
use Rattle.mod_log.specs.Log.{Log, IsLog, tree_of}
use Rattle.wire_frames.specs.declared.message.Message.{Message}
use Rattle.wire_frames.specs.declared.message.Message.TheVariants as messages
use Rattle.wire_frames.specs.Frame.{number_of, refused_rule}
use Rattle.world_rules.specs.declared.asking.Peer.{Peer}
use Rattle.world_rules.specs.declared.asking.Peer.TheVariants.{Server}
use Rattle.world_rules.specs.declared.asking.Ask.{Ask}
use Rattle.world_rules.specs.declared.asking.Answer.TheVariants.{Reply}
use Rattle.world_rules.specs.Asking.{ask_of}
use Rattle.world_rules.specs.Settling.{failures, failed_asks, IsSettling}
use Rattle.world_rules.specs.InStep.{IsRefusal}
use Rattle.client_core.specs.declared.route.Route.{Route}
use Rattle.client_core.specs.declared.syncing.SyncEnd.{SyncEnd}
use Rattle.client_core.specs.declared.syncing.SyncEnd.TheVariants as syncs
use Rattle.client_core.specs.declared.pulling.PullEnd.{PullEnd}
use Rattle.client_core.specs.declared.pulling.PullEnd.TheVariants as pulls
use Rattle.client_core.specs.declared.running.RunEnd.{RunEnd}
use Rattle.client_core.specs.declared.running.RunEnd.TheVariants as runs
use Rattle.client_core.specs.Trace.{Trace}
use Rattle.world_rules.proofs.Settled.{failed-append, failed-failures}
use Rattle.client_core.specs.Syncing.{store_of, IsFirst, Ships, end_by, acknowledging, EndsSync, SyncTurn}
use Rattle.client_core.specs.Pulling.{pull_of, PullTurn}
use Rattle.client_core.proofs.Ships.{ships_failed}
use Rattle.client_core.proofs.Licensing.{AreNumbered, log_numbered, numbered_left, unanswered_failed}
use Rattle.shell_lang.specs.declared.line.Line.{Line}
use Rattle.shell_lang.specs.declared.line.Line.TheVariants as lines
use Rattle.shell_lang.specs.declared.line.LineError.{LineError}
use Rattle.shell_lang.specs.declared.answer.LineAnswer.{LineAnswer}
use Rattle.shell_lang.specs.declared.answer.LineAnswer.TheVariants as answers
use Rattle.client_session.specs.Session.{SessionState, is_unanswered, put_effect, make_effect, remove_effect, move_effect, sync_answer, pull_answer, local_answer, word_answer, capture_answer, job_answer, run_answer, status_answer, LogTurn, CommandTurn, LineTurn, Chain, LeavesPending}
use Rattle.client_session.specs.Looking.{node_found, shown, listed, entered, about, cat_answer, list_answer, enter_answer}
use Rattle.client_session.specs.Laws.{IsChange, ChangesLeadTo, UnansweredLinesCostAsks}
use Rattle.client_session.proofs.Changing.{acknowledged_leads, line_leads, line_number}
use Rattle.client_session.proofs.Pulls.{only_pulls}

-- ---- only a sync is answered so

-- what reads the tree is not
abbrev NotPending : LineAnswer → Type 0
NotPending answer = LeavesPending (Some answer) → ⊥

shown_quiet : (path : FilePath) (found : Option Node) → NotPending (shown path found)
shown_quiet path None leaves = leaves
shown_quiet path (Some nodes.Folder) leaves = leaves
shown_quiet path (Some (nodes.File content exec)) leaves = leaves

listed_quiet : (tree : Volume) (path : FilePath) (found : Option Node) → NotPending (listed tree path found)
listed_quiet tree path None leaves = leaves
listed_quiet tree path (Some nodes.Folder) leaves = leaves
listed_quiet tree path (Some (nodes.File content exec)) leaves = leaves

entered_quiet : (path : FilePath) (found : Option Node) → NotPending (entered path found)
entered_quiet path None leaves = leaves
entered_quiet path (Some nodes.Folder) leaves = leaves
entered_quiet path (Some (nodes.File content exec)) leaves = leaves

about_quiet : (found : Result FilePath PathError) (answer : FilePath → LineAnswer) → ((path : FilePath) → NotPending (answer path)) → NotPending (about found answer)
about_quiet (Ok path) answer quiet leaves = quiet path leaves
about_quiet (Err refusal) answer quiet leaves = leaves

list_quiet : (tree : Volume) (folder : FilePath) (word : Option (List ℕ)) → NotPending (list_answer tree folder word)
list_quiet tree folder None leaves = listed_quiet tree folder (node_found tree folder) leaves
list_quiet tree folder (Some word) leaves = about_quiet (resolved folder word) (λ path. listed tree path (node_found tree path)) (λ path. listed_quiet tree path (node_found tree path)) leaves

local_quiet : (result : Result ℕ LogError) → LeavesPending (local_answer result) → ⊥
local_quiet (Ok number) leaves = leaves
local_quiet (Err logs.Memory) leaves = leaves
local_quiet (Err (logs.EntryTooLarge effects bytes)) leaves = leaves
local_quiet (Err (logs.LogFull entries bytes)) leaves = leaves
local_quiet (Err logs.LastNumber) leaves = leaves
local_quiet (Err (logs.Tree index refusal)) leaves = leaves

word_quiet : (refusal : PathError) → LeavesPending (word_answer refusal) → ⊥
word_quiet paths.Memory leaves = leaves
word_quiet (paths.BadName index) leaves = leaves
word_quiet (paths.TooDeep names) leaves = leaves
word_quiet (paths.TooLong bytes) leaves = leaves

pull_quiet : (end : PullEnd) → LeavesPending (pull_answer end) → ⊥
pull_quiet (pulls.Pulled count) leaves = leaves
pull_quiet (pulls.Pending count) leaves = leaves
pull_quiet (pulls.OtherLast last acked) leaves = leaves
pull_quiet (pulls.Older path theirs ours) leaves = leaves
pull_quiet pulls.Unanswered leaves = leaves
pull_quiet pulls.KeepFault leaves = leaves
pull_quiet pulls.Memory leaves = leaves

capture_quiet : (refusal : CaptureError) → LeavesPending (capture_answer refusal) → ⊥
capture_quiet captures.Memory leaves = leaves
capture_quiet captures.NoProgram leaves = leaves
capture_quiet (captures.BadOption i) leaves = leaves
capture_quiet (captures.BadInput i) leaves = leaves
capture_quiet (captures.BadEnv i) leaves = leaves
capture_quiet (captures.BadTemplate i) leaves = leaves
capture_quiet captures.NotAbsolute leaves = leaves
capture_quiet (captures.ZeroByte i) leaves = leaves
capture_quiet (captures.CommandTooLong n) leaves = leaves

job_quiet : (refusal : JobError) → LeavesPending (job_answer refusal) → ⊥
job_quiet (jobs.NoFolder path) leaves = leaves
job_quiet (jobs.NoInput i) leaves = leaves
job_quiet jobs.Memory leaves = leaves

run_quiet : (end : RunEnd) → LeavesPending (run_answer end) → ⊥
run_quiet (runs.Logged seq status) leaves = leaves
run_quiet (runs.Nothing status) leaves = leaves
run_quiet (runs.NoJob refusal) leaves = job_quiet refusal leaves
run_quiet runs.NotRun leaves = leaves
run_quiet (runs.OddTree i) leaves = leaves
run_quiet (runs.Clash path) leaves = leaves
run_quiet (runs.Refused refusal) leaves = local_quiet (Err refusal) leaves
run_quiet runs.Memory leaves = leaves

module _ (route : Route) (before after : SessionState) (trace : Trace) (answer : Option LineAnswer) (leaves : LeavesPending answer) where
  abbrev WasSync : Type 0
  WasSync = (end : SyncEnd) × SyncTurn before.client.number route before.client.log end after.client.log trace × (answer ≡ sync_answer end)

  -- it is not, where it is answered so
  not_so : (told : Option LineAnswer) → answer ≡ told → (LeavesPending told → ⊥) → WasSync
  not_so told is quiet = absurd (quiet (subst LeavesPending is leaves))

  log_quiet : (named : Result Effect PathError) → LogTurn named before answer after trace → WasSync
  log_quiet (Ok effect) turn = not_so (local_answer turn.0) turn.3 (local_quiet turn.0)
  log_quiet (Err refusal) turn = not_so (word_answer refusal) turn.0 (word_quiet refusal)

  command_quiet : (made : Result Command CaptureError) → CommandTurn route made before answer after trace → WasSync
  command_quiet (Ok command) turn = not_so (run_answer turn.0) turn.3 (run_quiet turn.0)
  command_quiet (Err refusal) turn = not_so (capture_answer refusal) turn.0 (capture_quiet refusal)

  only_syncs : (line : Result Line LineError) → LineTurn route before line answer after trace → WasSync
  only_syncs (Err refusal) turn = not_so _ turn.0 (λ none. none)
  only_syncs (Ok lines.Empty) turn = not_so None turn.0 (λ none. none)
  only_syncs (Ok (lines.Put word text)) turn = log_quiet (put_effect before.folder word text) turn
  only_syncs (Ok (lines.Make word)) turn = log_quiet (make_effect before.folder word) turn
  only_syncs (Ok (lines.Remove word)) turn = log_quiet (remove_effect before.folder word) turn
  only_syncs (Ok (lines.Move from to)) turn = log_quiet (move_effect before.folder from to) turn
  only_syncs (Ok (lines.Cat word)) turn =
      let tree : Volume = tree_of before.client.log in
      not_so (Some (cat_answer tree before.folder word)) turn.0 (about_quiet (resolved before.folder word) (λ path. shown path (node_found tree path)) (λ path. shown_quiet path (node_found tree path)))
  only_syncs (Ok (lines.List word)) turn =
      let tree : Volume = tree_of before.client.log in not_so (Some (list_answer tree before.folder word)) turn.0 (list_quiet tree before.folder word)
  only_syncs (Ok (lines.Enter word)) turn =
      let tree : Volume = tree_of before.client.log in
      not_so (Some (enter_answer tree before.folder word)) turn.0 (about_quiet (resolved before.folder word) (λ path. entered path (node_found tree path)) (λ path. entered_quiet path (node_found tree path)))
  only_syncs (Ok (lines.Run words)) turn = command_quiet (capture words before.folder) turn
  only_syncs (Ok lines.Status) turn = not_so (Some (status_answer before)) turn.0 (λ none. none)
  only_syncs (Ok lines.Sync) turn = (turn.0, turn.1, turn.3)
  only_syncs (Ok lines.Pull) turn = not_so (pull_answer turn.0) turn.3 (pull_quiet turn.0)
  only_syncs (Ok lines.Quit) turn = not_so None turn.0 (λ none. none)

-- ---- from line to line

-- What holds of the state before a line and of its asks, and goes on to the next line, excludes an answer at each line.
pub walk : (route : Route) (P : Option LineAnswer → Type 0) (I : SessionState → Type 0) (Q : List Ask → Type 0) → ((xs ys : List Ask) → Q (xs ++ ys) → Q xs × Q ys)
    → ((a b : SessionState) (trace : Trace) (line : Result Line LineError) (x : Option LineAnswer) → LineTurn route a line x b trace → I a → Q trace.asks → I b × (P x → ⊥))
    → (before : SessionState) (asked : List (Result Line LineError)) (answers : List (Option LineAnswer)) (after : SessionState) (trace : Trace) → Chain route before asked answers after trace → I before → Q trace.asks
    → (x : Option LineAnswer) → IsIn x answers → P x → ⊥
walk route P I Q parts turns before [] answers after trace chain begun asks x among so = subst (IsIn x) chain.0 among
walk route P I Q parts turns before (line ∷ asked) answers after trace chain begun asks x among so =
    let both = parts chain.1.asks chain.2.asks (subst Q (ap (λ (t : Trace). t.asks) chain.8) asks) in
    let here = turns before chain.0 chain.1 line chain.3 chain.5 begun both.0 in
    ⊎_elim (λ (is : x ≡ chain.3). here.1 (subst P is so))
    (λ (later : IsIn x chain.4). walk route P I Q parts turns chain.0 asked chain.4 after chain.2 chain.6 here.0 both.1 x later so)
    (subst (IsIn x) chain.7 among)

-- ---- replies

-- each reply that these asks were answered with is among the messages
abbrev pub Stand : List Message → List Ask → Type 0
Stand packets asks = (to : Peer) (address : List ℕ) (request reply : Message) → IsIn (ask_of to address request (Reply reply)) asks → IsIn reply packets

-- what the messages refuse of the client is numbered up to here
abbrev pub Unrefused : ℕ → ℕ → List Message → Type 0
Unrefused client from packets = (number : ℕ) (reply : Message) → IsRefusal client number reply → IsIn reply packets → number ≤ from

-- no message of the client tells of a gap
abbrev pub Gapless : ℕ → List Message → Type 0
Gapless client packets = (number last : ℕ) → IsIn (messages.Gap client number last) packets → ⊥

pub stand_parts : (packets : List Message) (xs ys : List Ask) → Stand packets (xs ++ ys) → Stand packets xs × Stand packets ys
stand_parts packets xs ys all = (
  λ to address request reply among. all to address request reply (IsIn-left _ xs ys among),
  λ to address request reply among. all to address request reply (IsIn-right _ xs ys among),
)

-- the store of these entries is settled
module _ (packets : List Message) (client : ℕ) (route : Route) (seq : ℕ) (chosen : List Entry) (asks : List Ask) (stand : Stand packets asks) where
  abbrev Settles : Option Message → Type 0
  Settles reply = IsSettling Server route.server (store_of client seq chosen) reply asks

  -- the reply of a settling stands among the messages
  reply_stands : (reply : Message) → Settles (Some reply) → IsIn reply packets
  reply_stands reply settling =
      let store : Message = store_of client seq chosen in
      stand Server route.server store reply
      (subst (IsIn (ask_of Server route.server store (Reply reply))) (sym settling.4)
      (IsIn-right _ (failures Server route.server store settling.0) (ask_of Server route.server store (Reply reply) ∷ []) (inl refl)))

  -- it tells no gap
  not_a_gap : (number : ℕ) (reply : Option Message) (n last : ℕ) → Gapless client packets → Settles reply → end_by number reply ≡ Some (syncs.Behind n last) → ⊥
  not_a_gap number None n last gapless settling is = absurd (cc (is))
  not_a_gap number (Some (messages.Accepted of m upto)) n last gapless settling is = absurd (cc (is))
  not_a_gap number (Some (messages.Stale of m upto path theirs ours)) n last gapless settling is = absurd (cc (is))
  not_a_gap number (Some (messages.Unfit of m upto index fault)) n last gapless settling is = absurd (cc (is))
  not_a_gap number (Some (messages.Full of m upto index fault)) n last gapless settling is = absurd (cc (is))
  not_a_gap number (Some (messages.Gap of m beyond)) n last gapless settling is =
      gapless m beyond (subst (λ (c : ℕ). IsIn (messages.Gap c m beyond) packets) (sym settling.3.1) (reply_stands (messages.Gap of m beyond) settling))
  not_a_gap number (Some (messages.Store of m parts)) n last gapless settling is = settling.3.0
  not_a_gap number (Some (messages.Pull of m)) n last gapless settling is = settling.3.0
  not_a_gap number (Some (messages.Operate of sketched)) n last gapless settling is = settling.3.0
  not_a_gap number (Some (messages.Done of m)) n last gapless settling is = settling.3.0
  not_a_gap number (Some (messages.Declined of m why)) n last gapless settling is = settling.3.0
  not_a_gap number (Some (messages.Snapshot of m then seen)) n last gapless settling is = settling.3.0
  not_a_gap number (Some (messages.Malformed code offset)) n last gapless settling is = settling.3.0

  -- a refusal, which is of no entry before those of the store, would stand among them
  refused_so : (from upto : ℕ) (reply : Message) → Unrefused client from packets → from < seq → Settles (Some reply) → refused_rule (number_of reply) upto ≡ true → IsRefusal client (upto + 1) reply → ⊥
  refused_so from upto reply none above settling rule refuses =
      let most = none (upto + 1) reply refuses (reply_stands reply settling) in
      let least : number_of reply ≤ upto + 1 = grind (arith, nat_tests) in
      omega (arith, above, most, least, settling.3.2)

  -- where nothing refuses an entry of the store, a settling that ends a sync had no reply
  unreplied : (from number : ℕ) (reply : Option Message) (end : SyncEnd) → Gapless client packets → Unrefused client from packets → from < seq → Settles reply → end_by number reply ≡ Some end → reply ≡ None
  unreplied from number None end gapless none above settling is = refl
  unreplied from number (Some (messages.Accepted of m upto)) end gapless none above settling is = absurd (cc (is))
  unreplied from number (Some (messages.Stale of m upto path theirs ours)) end gapless none above settling is =
      absurd (refused_so from upto (messages.Stale of m upto path theirs ours) none above settling settling.2.body_fits.0.1 (sym settling.3.1, refl))
  unreplied from number (Some (messages.Unfit of m upto index fault)) end gapless none above settling is =
      absurd (refused_so from upto (messages.Unfit of m upto index fault) none above settling settling.2.body_fits.0.1 (sym settling.3.1, refl))
  unreplied from number (Some (messages.Full of m upto index fault)) end gapless none above settling is =
      absurd (refused_so from upto (messages.Full of m upto index fault) none above settling settling.2.body_fits.0.1 (sym settling.3.1, refl))
  unreplied from number (Some (messages.Gap of m beyond)) end gapless none above settling is =
      absurd (gapless m beyond (subst (λ (c : ℕ). IsIn (messages.Gap c m beyond) packets) (sym settling.3.1) (reply_stands (messages.Gap of m beyond) settling)))
  unreplied from number (Some (messages.Store of m parts)) end gapless none above settling is = absurd settling.3.0
  unreplied from number (Some (messages.Pull of m)) end gapless none above settling is = absurd settling.3.0
  unreplied from number (Some (messages.Operate of sketched)) end gapless none above settling is = absurd settling.3.0
  unreplied from number (Some (messages.Done of m)) end gapless none above settling is = absurd settling.3.0
  unreplied from number (Some (messages.Declined of m why)) end gapless none above settling is = absurd settling.3.0
  unreplied from number (Some (messages.Snapshot of m then seen)) end gapless none above settling is = absurd settling.3.0
  unreplied from number (Some (messages.Malformed code offset)) end gapless none above settling is = absurd settling.3.0

-- ---- how what is pending is shipped

-- the store that is settled last, or an operation that is done
module _ (packets : List Message) (client : ℕ) (route : Route) (pending : List Entry) (entry : Entry) (asks : List Ask) (stand : Stand packets asks) where
  ships_no_gap : (number : ℕ) (came : Option Message) (seq last : ℕ) → Gapless client packets → Ships client route pending entry came asks → end_by number came ≡ Some (syncs.Behind seq last) → ⊥
  ships_no_gap number came seq last gapless (inl done) is = absurd (cc (sym (ap (end_by number) done.0) ∙ is))
  ships_no_gap number came seq last gapless (inr stored) is =
      not_a_gap packets client route entry.seq stored.2 stored.1 (stand_parts packets stored.0 stored.1 (subst (Stand packets) stored.6 stand)).1 number came seq last gapless stored.5 is

  shipped : (from number : ℕ) (came : Option Message) (end : SyncEnd) → Gapless client packets → Unrefused client from packets → from < entry.seq → Ships client route pending entry came asks
      → end_by number came ≡ Some end → came ≡ None
  shipped from number came end gapless none above (inl done) is = absurd (cc (sym (ap (end_by number) done.0) ∙ is))
  shipped from number came end gapless none above (inr stored) is =
      unreplied packets client route entry.seq stored.2 stored.1 (stand_parts packets stored.0 stored.1 (subst (Stand packets) stored.6 stand)).1 from number came end gapless none above stored.5 is

-- ---- an honest server

module _ (packets : List Message) (client : ℕ) (gapless : Gapless client packets) (route : Route) where
  ends_unbehind : (before : Log) (end : SyncEnd) (after : Log) (trace : Trace) → Stand packets trace.asks → EndsSync client route before end after trace → (seq last : ℕ) → end ≡ syncs.Behind seq last → ⊥
  ends_unbehind before end after trace stand (inl synced) seq last is = absurd (cc (sym synced.1 ∙ is))
  ends_unbehind before end after trace stand (inr ended) seq last is =
      let asked : Stand packets (ended.0 ++ (acknowledging before after).asks) = subst (λ (t : Trace). Stand packets t.asks) ended.2 stand in
      ships_no_gap packets client route before.pending ended.1.entry ended.0 (stand_parts packets ended.0 (acknowledging before after).asks asked).0 (after.acked + 1) ended.1.came seq last gapless ended.1.ships
      (ended.1.end_is ∙ ap (λ (e : SyncEnd). Some e) is)

  unbehind : (before : Log) (end : SyncEnd) (after : Log) (trace : Trace) → Stand packets trace.asks → EndsSync client route before end after trace → (seq last : ℕ) → sync_answer end ≡ Some (answers.Behind seq last) → ⊥
  unbehind before (syncs.Behind n l) after trace stand ended seq last is = ends_unbehind before (syncs.Behind n l) after trace stand ended n l refl
  unbehind before (syncs.Synced n) after trace stand ended seq last is = absurd (cc (is))
  unbehind before (syncs.Stale n path theirs ours) after trace stand ended seq last is = absurd (cc (is))
  unbehind before (syncs.Unfit n index fault) after trace stand ended seq last is = absurd (cc (is))
  unbehind before (syncs.Full n index fault) after trace stand ended seq last is = absurd (cc (is))
  unbehind before (syncs.Unanswered n) after trace stand ended seq last is = absurd (cc (is))
  unbehind before syncs.KeepFault after trace stand ended seq last is = absurd (cc (is))
  unbehind before syncs.Memory after trace stand ended seq last is = absurd (cc (is))

  abbrev IsBehind : Option LineAnswer → Type 0
  IsBehind x = (seq : ℕ) × (last : ℕ) × (x ≡ Some (answers.Behind seq last))

  behind_turn : (a b : SessionState) (trace : Trace) (line : Result Line LineError) (x : Option LineAnswer) → LineTurn route a line x b trace → a.client.number ≡ client → Stand packets trace.asks
      → (b.client.number ≡ client) × (IsBehind x → ⊥)
  behind_turn a b trace line x turn number stand = (
    line_number a b trace route line x turn ∙ number,
    λ so.
        let was = only_syncs route a b trace x (subst LeavesPending (sym so.2) tt) line turn in
        let synced : SyncTurn client route a.client.log was.0 b.client.log trace = subst (λ (n : ℕ). SyncTurn n route a.client.log was.0 b.client.log trace) number was.1 in
        let asks : Stand packets (synced.2.asks ++ synced.3.asks) = subst (Stand packets) (ap (λ (t : Trace). t.asks) synced.6) stand in
        unbehind synced.1 was.0 b.client.log synced.3 (stand_parts packets synced.2.asks synced.3.asks asks).1 synced.5 so.0 so.1 (sym was.2 ∙ so.2),
  )

  -- no sync of a session is answered `behind`
  pub never_behind : (before : SessionState) (asked : List (Result Line LineError)) (answers : List (Option LineAnswer)) (after : SessionState) (trace : Trace) → Chain route before asked answers after trace
      → before.client.number ≡ client → Stand packets trace.asks → (x : Option LineAnswer) → IsIn x answers → IsBehind x → ⊥
  never_behind before asked answers after trace chain number stand x among so =
      walk route IsBehind (λ s. s.client.number ≡ client) (Stand packets) (stand_parts packets) behind_turn before asked answers after trace chain number stand x among so

-- ---- the numbers of what is pending

numbered_more : (number : ℕ) (entries : List Entry) (entry : Entry) → AreNumbered number entries → entry.seq ≡ number + length entries → AreNumbered number (entries ++ entry ∷ [])
numbered_more number [] entry all is = (omega (arith, is), tt)
numbered_more number (first ∷ entries) entry all is = (all.0, numbered_more (number + 1) entries entry all.1 (omega (arith, is)))

-- a log whose entries are numbered on from the acknowledged one, which is not before this one
abbrev pub IsPast : ℕ → Log → Type 0
IsPast from log = (from ≤ log.acked) × AreNumbered (log.acked + 1) log.pending

change_past : (from : ℕ) (before after : Log) → IsChange before after → IsPast from before → IsPast from after
change_past from before after (inl logs_one) past =
    subst (IsPast from) (sym logs_one.2) (past.0, numbered_more (before.acked + 1) before.pending logs_one.0 past.1 (omega (arith, logs_one.1)))
change_past from before after (inr (inl acknowledges)) past =
    let some = acknowledges.0 in
    subst (IsPast from) (sym some.3) (omega (arith, past.0, some.1), numbered_left before some.0 some.1 past.1)
change_past from before after (inr (inr replaces)) past = subst (IsPast from) (sym replaces.1) past

changes_past : (from : ℕ) (before : Log) (changes : List Log) (after : Log) → ChangesLeadTo before changes after → IsPast from before → IsPast from after
changes_past from before [] after leads past = subst (IsPast from) (sym leads) past
changes_past from before (change ∷ changes) after leads past = changes_past from change changes after leads.1 (change_past from before change leads.0 past)

pub log_past : (log : Log) → IsLog log → IsPast log.acked log
log_past log is = (omega arith, log_numbered log is)

first_past : (from : ℕ) (log : Log) (entry : Entry) → IsPast from log → IsFirst entry log.pending → from < entry.seq
first_past from log entry past first = by log.pending past.1 first
  where
    by : (entries : List Entry) → AreNumbered (log.acked + 1) entries → IsFirst entry entries → from < entry.seq
    by [] numbers first = absurd first
    by (one ∷ entries) numbers first = omega (arith, past.0, numbers.0, ap (λ (e : Entry). e.seq) first)

-- ---- a session that nothing refuses

module _ (packets : List Message) (client from : ℕ) (gapless : Gapless client packets) (none : Unrefused client from packets) (route : Route) where
  -- how a sync ends: with nothing pending, or unanswered, which costs eight asks
  abbrev EndsUnrefused : Log → SyncEnd → Log → List Ask → Type 0
  EndsUnrefused before end after asks = (end ≡ syncs.Synced before.acked) ⊎ ((end ≡ syncs.Unanswered (after.acked + 1)) × (8 ≤ failed_asks asks))

  ends_unrefused : (before : Log) (end : SyncEnd) (after : Log) (trace : Trace) → IsPast from before → Stand packets trace.asks → EndsSync client route before end after trace → EndsUnrefused before end after trace.asks
  ends_unrefused before end after trace past stand (inl synced) = inl synced.1
  ends_unrefused before end after trace past stand (inr ended) =
      let more : List Ask = (acknowledging before after).asks in
      let all : trace.asks ≡ ended.0 ++ more = ap (λ (t : Trace). t.asks) ended.2 in
      let first = (stand_parts packets ended.0 more (subst (Stand packets) all stand)).0 in
      let turn = ended.1 in
      let came : turn.came ≡ None =
      shipped packets client route before.pending turn.entry ended.0 first from (after.acked + 1) turn.came end gapless none (first_past from before turn.entry past turn.first) turn.ships turn.end_is in
      let eight : 8 ≤ failed_asks ended.0 =
      ships_failed client route before.pending turn.entry ended.0 (subst (λ (c : Option Message). Ships client route before.pending turn.entry c ended.0) came turn.ships) in
      inr (cc (sym turn.end_is ∙ ap (end_by (after.acked + 1)) came), omega (arith, eight, ap failed_asks all, failed-append ended.0 more))

  -- a sync that leaves entries pending is answered `unanswered`, and cost eight asks
  abbrev IsUnrefused : Option LineAnswer → List Ask → Type 0
  IsUnrefused x asks = LeavesPending x → (is_unanswered x ≡ true) × (8 ≤ failed_asks asks)

  answer_unrefused : (before : Log) (end : SyncEnd) (after : Log) (asks : List Ask) (x : Option LineAnswer) → EndsUnrefused before end after asks → x ≡ sync_answer end → IsUnrefused x asks
  answer_unrefused before end after asks x (inl synced) is leaves = absurd (subst LeavesPending (is ∙ ap sync_answer synced) leaves)
  answer_unrefused before end after asks x (inr unanswered) is leaves = (ap is_unanswered (is ∙ ap sync_answer unanswered.0), unanswered.1)

  line_unrefused : (a b : SessionState) (trace : Trace) (line : Result Line LineError) (x : Option LineAnswer) → LineTurn route a line x b trace → (a.client.number ≡ client) × IsPast from a.client.log → Stand packets trace.asks
      → ((b.client.number ≡ client) × IsPast from b.client.log) × IsUnrefused x trace.asks
  line_unrefused a b trace line x turn begun stand =
      let past : IsPast from b.client.log = changes_past from a.client.log trace.changes b.client.log (line_leads a b trace route line x turn) begun.1 in (
        (line_number a b trace route line x turn ∙ begun.0, past),
        λ leaves.
            let was = only_syncs route a b trace x leaves line turn in
            let synced : SyncTurn client route a.client.log was.0 b.client.log trace = subst (λ (n : ℕ). SyncTurn n route a.client.log was.0 b.client.log trace) begun.0 was.1 in
            let all : trace.asks ≡ synced.2.asks ++ synced.3.asks = ap (λ (t : Trace). t.asks) synced.6 in
            let middle : IsPast from synced.1 =
            changes_past from a.client.log synced.2.changes synced.1 (acknowledged_leads client route synced.0 a.client.log synced.1 synced.2 synced.4) begun.1 in
            let ends = ends_unrefused synced.1 was.0 b.client.log synced.3 middle (stand_parts packets synced.2.asks synced.3.asks (subst (Stand packets) all stand)).1 synced.5 in
            let told = answer_unrefused synced.1 was.0 b.client.log synced.3.asks x ends was.2 leaves in
            (told.0, omega (arith, told.1, ap failed_asks all, failed-append synced.2.asks synced.3.asks)),
      )

  -- each sync of a session comes through, or is answered `unanswered`
  pub all_unrefused : (before : SessionState) (asked : List (Result Line LineError)) (answers : List (Option LineAnswer)) (after : SessionState) (trace : Trace) → Chain route before asked answers after trace
      → before.client.number ≡ client → IsPast from before.client.log → Stand packets trace.asks → (x : Option LineAnswer) → IsIn x answers → IsUnrefused x trace.asks
  all_unrefused before [] answers after trace chain number past stand x among leaves = absurd (subst (IsIn x) chain.0 among)
  all_unrefused before (line ∷ asked) answers after trace chain number past stand x among leaves =
      let all : trace.asks ≡ chain.1.asks ++ chain.2.asks = ap (λ (t : Trace). t.asks) chain.8 in
      let sum = failed-append chain.1.asks chain.2.asks in
      let stands = stand_parts packets chain.1.asks chain.2.asks (subst (Stand packets) all stand) in
      let here = line_unrefused before chain.0 chain.1 line chain.3 chain.5 (number, past) stands.0 in
      ⊎_elim
      (λ (is : x ≡ chain.3). let told = here.1 (subst LeavesPending is leaves) in (ap is_unanswered is ∙ told.0, omega (arith, told.1, ap failed_asks all, sum)))
      (λ (later : IsIn x chain.4).
      let told = all_unrefused chain.0 asked chain.4 after chain.2 chain.6 here.0.0 here.0.1 stands.1 x later leaves in (told.0, omega (arith, told.1, ap failed_asks all, sum)))
      (subst (IsIn x) chain.7 among)

-- ---- syncs and pulls that are not answered

-- a sync that is answered so has asked the store eight times at its end
sync_costs : (client : ℕ) (route : Route) (before after : Log) (end : SyncEnd) (trace : Trace) (seq : ℕ) → SyncTurn client route before end after trace → Some (answers.Unanswered seq) ≡ sync_answer end
    → 8 ≤ failed_asks trace.asks
sync_costs client route before after (syncs.Unanswered n) trace seq turn is =
    let asked = unanswered_failed client route before after n trace turn in
    let store : Message = store_of client n asked.1 in
    omega (arith, ap failed_asks asked.6, failed-append asked.2 (failures Server route.server store 8), failed-failures Server route.server store 8)
sync_costs client route before after (syncs.Synced n) trace seq turn is = absurd (cc (is))
sync_costs client route before after (syncs.Stale n path theirs ours) trace seq turn is = absurd (cc (is))
sync_costs client route before after (syncs.Unfit n index fault) trace seq turn is = absurd (cc (is))
sync_costs client route before after (syncs.Full n index fault) trace seq turn is = absurd (cc (is))
sync_costs client route before after (syncs.Behind n last) trace seq turn is = absurd (cc (is))
sync_costs client route before after syncs.KeepFault trace seq turn is = absurd (cc (is))
sync_costs client route before after syncs.Memory trace seq turn is = absurd (cc (is))

-- and so has a pull
pull_costs : (client : ℕ) (route : Route) (before after : Log) (end : PullEnd) (trace : Trace) → PullTurn client route before end after trace → Some answers.PullUnanswered ≡ pull_answer end → 8 ≤ failed_asks trace.asks
pull_costs client route before after pulls.Unanswered trace turn is =
    omega (arith, ap (λ (t : Trace). failed_asks t.asks) turn.1.3, ap failed_asks turn.1.1, failed-failures Server route.server (pull_of client before) 8)
pull_costs client route before after (pulls.Pulled count) trace turn is = absurd (cc (is))
pull_costs client route before after (pulls.Pending count) trace turn is = absurd (cc (is))
pull_costs client route before after (pulls.OtherLast last acked) trace turn is = absurd (cc (is))
pull_costs client route before after (pulls.Older path theirs ours) trace turn is = absurd (cc (is))
pull_costs client route before after pulls.KeepFault trace turn is = absurd (cc (is))
pull_costs client route before after pulls.Memory trace turn is = absurd (cc (is))

line_costs : (route : Route) (before after : SessionState) (trace : Trace) (answer : Option LineAnswer) (line : Result Line LineError) → LineTurn route before line answer after trace
    → 8 * cond (is_unanswered answer) 1 0 ≤ failed_asks trace.asks
line_costs route before after trace (Some (answers.Unanswered seq)) line turn =
    let was = only_syncs route before after trace (Some (answers.Unanswered seq)) tt line turn in
    omega (arith, sync_costs before.client.number route before.client.log after.client.log was.0 trace seq was.1 was.2)
line_costs route before after trace (Some answers.PullUnanswered) line turn =
    let was = only_pulls route before after trace (Some answers.PullUnanswered) tt line turn in
    omega (arith, pull_costs before.client.number route before.client.log after.client.log was.0 trace was.1 was.2)
line_costs route before after trace answer line turn = omega arith

pub unanswered_lines_cost_asks : UnansweredLinesCostAsks
unanswered_lines_cost_asks route before [] answers after trace chain = omega (arith, ap (count_by is_unanswered) chain.0)
unanswered_lines_cost_asks route before (line ∷ more) answers after trace chain =
    let one = line_costs route before chain.0 chain.1 chain.3 line chain.5 in
    let rest = unanswered_lines_cost_asks route chain.0 more chain.4 after chain.2 chain.6 in
    let first : count_by is_unanswered (chain.3 ∷ chain.4) ≡ cond (is_unanswered chain.3) 1 0 + count_by is_unanswered chain.4 = sum_by-cons (λ x. cond (is_unanswered x) 1 0) chain.3 chain.4 in
    omega (arith, ap (count_by is_unanswered) chain.7, first, one, rest, ap (λ (t : Trace). failed_asks t.asks) chain.8, failed-append chain.1.asks chain.2.asks)
