-- The last line of a session is a sync, and comes through.
use Rattle.std.proofs.Common.{◌≡◌, inl, inr, ℕ, ◌+◌, ◌<◌, Bool, true, false, List, [], ◌∷◌, ◌++◌, Option, None, Some, is_some, Result, Ok, refl, sym, ◌∙◌, ap, subst, arith, append_assoc}
use Rattle.std.proofs.lemmas.List.{append-nil}
use Rattle.tree_values.specs.Tree.{Volume, version_at}
use Rattle.mod_log.specs.Log.{Log, tree_at}
use Rattle.wire_frames.specs.declared.message.Message.{Message}
use Rattle.wire_frames.specs.declared.message.Message.TheVariants as messages
use Rattle.world_rules.specs.declared.asking.Ask.{Ask}
use Rattle.world_rules.specs.declared.asking.Peer.TheVariants.{Server}
use Rattle.world_rules.specs.Served.{TakenEntry}
use Rattle.world_rules.specs.World.{World}
use Rattle.world_rules.specs.Asking.{AnswersStand}
use Rattle.world_rules.specs.Settling.{failures}
use Rattle.world_rules.specs.InStep.{InStep, HasNoCollision}
use Rattle.world_rules.specs.Run.{AreAllOf, kept_at}
use Rattle.world_rules.proofs.Asks.{told_as}
use Rattle.world_rules.proofs.Runs.{run_answers}
use Rattle.client_core.specs.declared.route.Route.{Route}
use Rattle.client_core.specs.declared.syncing.SyncEnd.{SyncEnd}
use Rattle.client_core.specs.declared.syncing.SyncEnd.TheVariants as ends
use Rattle.client_core.specs.Trace.{Trace}
use Rattle.client_core.specs.Syncing.{store_of, end_by, EndsSync, SyncTurn}
use Rattle.client_core.specs.Goes.{WorldGoes, stand}
use Rattle.client_core.specs.Honest.{IsTrueSync}
use Rattle.client_core.proofs.Truths.{sync_true}
use Rattle.client_core.proofs.Licensing.{unanswered_failed}
use Rattle.shell_lang.specs.declared.line.Line.{Line}
use Rattle.shell_lang.specs.declared.line.Line.TheVariants.{Sync}
use Rattle.shell_lang.specs.declared.line.LineError.{LineError}
use Rattle.shell_lang.specs.declared.answer.LineAnswer.{LineAnswer}
use Rattle.client_session.specs.Session.{SessionState, opened, Chain}
use Rattle.client_session.proofs.Changing.{line_number}
use Rattle.client_lines.specs.Headline.{last_taken, Leaves, MayGoOn, Around, Ran}
use Rattle.client_lines.specs.Completing.{EndInFailures, LastSyncsComplete}
use Rattle.client_lines.proofs.RunningLeaves.{leaves, goes_on}

-- ---- the last line

-- the turn of a sync that is the last of a session, and the asks before it
record EndsBySync (route : Route) (before after : SessionState) (trace : Trace) : Type 0 where
  middle : SessionState
  earlier : List Ask
  last : Trace
  end : SyncEnd
  number : middle.client.number ≡ before.client.number
  turn : SyncTurn middle.client.number route middle.client.log end after.client.log last
  asks : trace.asks ≡ earlier ++ last.asks

last_line : (route : Route) (before : SessionState) (front : List (Result Line LineError)) (answers : List (Option LineAnswer)) (after : SessionState) (trace : Trace)
    → Chain route before (front ++ Ok Sync ∷ []) answers after trace → EndsBySync route before after trace
last_line route before [] answers after trace chain = record {
  middle = before;
  earlier = [];
  last = chain.1;
  end = chain.5.0;
  number = refl;
  turn = subst (λ (s : SessionState). SyncTurn before.client.number route before.client.log chain.5.0 s.client.log chain.1) (sym chain.6.1) chain.5.1;
  asks = ap (λ (t : Trace). t.asks) chain.8 ∙ ap (λ (t : Trace). chain.1.asks ++ t.asks) chain.6.2 ∙ append-nil chain.1.asks;
}
last_line route before (line ∷ front) answers after trace chain =
    let rest = last_line route chain.0 front chain.4 after chain.2 chain.6 in
    record {
      middle = rest.middle;
      earlier = chain.1.asks ++ rest.earlier;
      last = rest.last;
      end = rest.end;
      number = rest.number ∙ line_number before chain.0 chain.1 route line chain.3 chain.5;
      turn = rest.turn;
      asks = ap (λ (t : Trace). t.asks) chain.8 ∙ ap (λ (ys : List Ask). chain.1.asks ++ ys) rest.asks ∙ sym (append_assoc chain.1.asks rest.earlier rest.last.asks);
    }

-- ---- how it ends

-- what stands behind the same is the same
same_behind : {X : Type 0} (xs ys zs : List X) → xs ++ ys ≡ xs ++ zs → ys ≡ zs
same_behind [] ys zs is = is
same_behind (x ∷ xs) ys zs is = let rest : xs ++ ys ≡ xs ++ zs = cc is in same_behind xs ys zs rest

stands_behind : (world : World) (xs ys : List Ask) → AnswersStand world (xs ++ ys) → AnswersStand world ys
stands_behind world [] ys all = all
stands_behind world (ask ∷ xs) ys all = stands_behind world xs ys all.1

-- whether what shipping an entry came to ends a sync so
abbrev ends_turn : SyncEnd → Bool
ends_turn (ends.Synced n) = false
ends_turn ends.KeepFault = false
ends_turn ends.Memory = false
ends_turn end = true

abbrev goes_or_ends : Option SyncEnd → Bool
goes_or_ends None = true
goes_or_ends (Some end) = ends_turn end

turn_ends : (number : ℕ) (came : Option Message) → goes_or_ends (end_by number came) ≡ true
turn_ends number None = refl
turn_ends number (Some (messages.Store of n parts)) = refl
turn_ends number (Some (messages.Operate of sketched)) = refl
turn_ends number (Some (messages.Pull of n)) = refl
turn_ends number (Some (messages.Accepted of n upto)) = refl
turn_ends number (Some (messages.Stale of n upto path theirs ours)) = refl
turn_ends number (Some (messages.Unfit of n upto index fault)) = refl
turn_ends number (Some (messages.Full of n upto index fault)) = refl
turn_ends number (Some (messages.Gap of n last)) = refl
turn_ends number (Some (messages.Done of n)) = refl
turn_ends number (Some (messages.Declined of n cause)) = refl
turn_ends number (Some (messages.Snapshot of n last rows)) = refl
turn_ends number (Some (messages.Malformed code offset)) = refl

-- a sync that no turn of an entry ends so ends with nothing pending
nothing_left : (client : ℕ) (route : Route) (before : Log) (end : SyncEnd) (after : Log) (trace : Trace) → ends_turn end ≡ false → EndsSync client route before end after trace → after.pending ≡ []
nothing_left client route before end after trace is (inl none) = ap (λ (log : Log). log.pending) none.2 ∙ none.0
nothing_left client route before end after trace is (inr turn) =
    absurd (cc (sym is ∙ sym (ap goes_or_ends turn.1.end_is) ∙ turn_ends (after.acked + 1) turn.1.came))

module _ (client : ℕ) (route : Route) (before after : Log) (trace : Trace) (world : World) (same : world.served.volume ≡ tree_at (last_taken client world) after) (unfailed : EndInFailures route trace.asks → ⊥) where
  not_newer : (path : _) → version_at (tree_at (last_taken client world) after) path < version_at world.served.volume path → ⊥
  not_newer path newer = omega (arith, newer, ap (λ (v : Volume). version_at v path) same)

  complete : (end : SyncEnd) → SyncTurn client route before end after trace → IsTrueSync end client after world → after.pending ≡ []
  complete (ends.Synced n) turn is = nothing_left client route turn.1 (ends.Synced n) after turn.3 refl turn.5
  complete ends.KeepFault turn is = nothing_left client route turn.1 ends.KeepFault after turn.3 refl turn.5
  complete ends.Memory turn is = nothing_left client route turn.1 ends.Memory after turn.3 refl turn.5
  complete (ends.Stale seq path theirs ours) turn is = absurd (not_newer path is)
  complete (ends.Unfit seq index fault) turn is = absurd (not_newer is.0 is.1)
  complete (ends.Full seq index fault) turn is = absurd (not_newer is.0 is.1)
  complete (ends.Behind seq last) turn is = absurd is
  complete (ends.Unanswered seq) turn is =
      let failed = unanswered_failed client route before after seq trace turn in absurd (unfailed (failed.2, store_of client seq failed.1, failed.6))

-- ---- the law

module _ (client : ℕ) (route : Route) (start : Log) (around around_now : Around) (front : List (Result Line LineError)) (ran : Ran client route start around around_now 0)
    (chain : Chain route (opened client start) (front ++ Ok Sync ∷ []) ran.answers ran.after ran.goes.trace) (unfailed : EndInFailures route ran.goes.trace.asks → ⊥) where
  abbrev log : Log
  log = ran.after.client.log

  abbrev trace : Trace
  trace = ran.goes.trace

  abbrev Goes : World → World → Type 0
  Goes = WorldGoes client (is_some route.surrogate) start log ran.kept trace around.link.troubles around_now.link.troubles

  kept_is : ran.kept ≡ log
  kept_is = ran.kept_last (λ five. omega (arith, five)) (λ seven. omega (arith, seven)) ∙ sym ran.goes.keeping.last

  in_worlds : (x y : World) → Goes x y → InStep client start x → HasNoCollision client (start.pending ++ trace.entries) y.packets → x.served.volume ≡ tree_at (last_taken client x) start
      → (taken : List TakenEntry) → y.taken ≡ x.taken ++ taken → AreAllOf client taken → log.pending ≡ []
  in_worlds x y goes begun apart served taken since own =
      let all : Leaves client start log ran.kept trace.entries x y = leaves client (is_some route.surrogate) trace.entries trace.asks start log ran.kept x y begun goes.runs apart in
      let next : MayGoOn client log ran.kept y = goes_on client (is_some route.surrogate) trace.entries trace.asks start log ran.kept x y begun goes.runs apart in
      let answered : AnswersStand y trace.asks = run_answers client (is_some route.surrogate) trace.entries trace.asks (kept_at start x) (stand log ran.kept y) goes.runs in
      let sync : EndsBySync route (opened client start) ran.after trace = last_line route (opened client start) front ran.answers ran.after trace chain in
      let same : y.served.volume ≡ tree_at (last_taken client y) log =
      all.alone served (subst (AreAllOf client) (same_behind x.taken taken all.taken (sym since ∙ all.since)) own)
      ∙ ap (λ (l : Log). tree_at (last_taken client y) l) kept_is in
      let turn : SyncTurn client route sync.middle.client.log sync.end log sync.last = subst (λ (n : ℕ). SyncTurn n route sync.middle.client.log sync.end log sync.last) sync.number sync.turn in
      let stands : AnswersStand y sync.last.asks = stands_behind y sync.earlier sync.last.asks (subst (AnswersStand y) sync.asks answered) in
      complete client route sync.middle.client.log log sync.last y same
      (λ failed. unfailed (sync.earlier ++ failed.0, failed.1, sync.asks ∙ ap (λ (ys : List Ask). sync.earlier ++ ys) failed.2 ∙ sym (append_assoc sync.earlier failed.0 (failures Server route.server failed.1 8))))
      sync.end turn (sync_true client route sync.middle.client.log log sync.end sync.last y turn stands next.in_memory)

pub last_syncs_complete : LastSyncsComplete
last_syncs_complete client route start around around_now front ran chain unfailed =
    told_as around.link.world around_now.link.world (WorldGoes client (is_some route.surrogate) start ran.after.client.log ran.kept ran.goes.trace around.link.troubles around_now.link.troubles)
    (λ (x y : World). InStep client start x → HasNoCollision client (start.pending ++ ran.goes.trace.entries) y.packets → x.served.volume ≡ tree_at (last_taken client x) start
    → (taken : List TakenEntry) → y.taken ≡ x.taken ++ taken → AreAllOf client taken → ran.after.client.log.pending ≡ [])
    ran.goes.told (in_worlds client route start around around_now front ran chain unfailed)
