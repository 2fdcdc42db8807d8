-- What a sync makes of the settlings of its windows.
use Rattle.std.proofs.Common.{Bool, is_some, true, false, ◌≡◌, ◌≢◌, ◌⊎◌, inl, inr, ℕ, suc, ◌+◌, ◌<◌, ◌≤◌, arith, List, [], ◌∷◌, ◌++◌, length, Option, Some, None, IfSome, Result, Ok, Err, IfOk, refl, sym, ◌∙◌, ap, subst}
use Rattle.std.specs.declared.alloc.AllocError.{AllocError}
use Rattle.outside.specs.Outside.{Told, RoseBy, Rose}
use Rattle.outside.specs.Keeper.{Images}
use Rattle.tree_values.specs.Lists.{IsIn}
use Rattle.outside.specs.declared.errors.KeepError.{KeepError}
use Rattle.outside.specs.declared.errors.KeepError.TheVariants as keepers
use Rattle.mod_log.specs.declared.log.Entry.{Entry}
use Rattle.mod_log.specs.Log.{Log, IsLog, acknowledged}
use Rattle.wire_frames.specs.declared.message.Message.{Message}
use Rattle.wire_frames.specs.declared.message.Message.TheVariants.{Accepted, Stale, Unfit, Gap, Full, Done}
use Rattle.wire_frames.specs.Frame.{IsValid, number_of}
use Rattle.world_rules.specs.declared.asking.Ask.{Ask}
use Rattle.world_rules.specs.Telling.{LinkTelling, IsCalm}
use Rattle.world_rules.specs.Run.{Runs, kept_at}
use Rattle.world_rules.proofs.Asks.{told_as}
use Rattle.world_rules.proofs.Runs.{run_answers}
use Rattle.client_core.specs.declared.route.Route.{Route}
use Rattle.client_core.specs.declared.keeping.Journal.{Journal}
use Rattle.client_core.specs.declared.syncing.SyncEnd.{SyncEnd}
use Rattle.client_core.specs.declared.syncing.SyncEnd.TheVariants as ends
use Rattle.client_core.specs.Client.{Client}
use Rattle.client_core.specs.Journal.{next_notes}
use Rattle.client_core.specs.Trace.{Trace, nothing, followed, asking, changing}
use Rattle.client_core.specs.Syncing.{IsFirst, taken_upto, end_by, unkept_end, Ships, BreaksShipping, EntryTurn, Acknowledges, acknowledging, BreaksTurn, is_broken_sync, SyncEnds}
use Rattle.client_core.specs.Keeping.{IsKept, KeepsNext}
use Rattle.client_core.specs.Noting.{KeepsChanges, SyncsNoting}
use Rattle.client_core.specs.Goes.{Goes, Went, no_runner}
use Rattle.client_core.specs.Causes.{AcknowledgesSome, HasSyncCause, SyncKeeps}
use Rattle.client_core.specs.Honest.{FromInStepApart, IsTrueSync, IsComplete}
use Rattle.client_core.specs.Inside.{AskedFor, ShipsTo, KeepsUpto}
use Rattle.client_core.proofs.Acknowledging.{some_all, sync_more}
use Rattle.client_core.proofs.Firsts.{first_number, first_pending, some_left}
use Rattle.client_core.proofs.Going.{acknowledged_same, acknowledging_some, acknowledging_none, followed-nothing, changed_so, kept_now, goes_none, goes_as, goes_then, goes_asked, goes_acked, goes_saved}
use Rattle.client_core.proofs.Journal.{KeepsLog, JournalIsCurrent, acked_one, next_keeps, next_current}
use Rattle.client_core.proofs.Noting.{client_at, changes_same, changes_then, changes_acked}
use Rattle.client_core.proofs.Truths.{went_true, went_complete}
use Rattle.client_core.proofs.Ships.{EchoesWindow, IsShippingReply, ships_reply, reply_number, told_upto, tells_taken, goes_on, ending_leaves, ending_echoes, reply_stands}

-- ---- why a sync ends

-- it goes on whatever the next number
pub goes_on_any : (m n : ℕ) (came : Option Message) → None ≡ end_by m came → end_by n came ≡ None
goes_on_any m n None on = absurd (cc)
goes_on_any m n (Some (Accepted of number upto)) on = refl
goes_on_any m n (Some (Done of number)) on = refl
goes_on_any m n (Some _) on = absurd (cc)

module _ (client : ℕ) (route : Route) (pending : List Entry) (entry : Entry) (after : Log) (t v p q : ℕ) (end : SyncEnd) (some : after.pending ≢ []) where
  abbrev number_next : ℕ
  number_next = after.acked + 1

  refused : (reply : Message) (is : SyncEnd) → IsValid reply → number_of reply ≤ number_next → end_by number_next (Some reply) ≡ Some is
      → (after.pending ≢ []) × ((m : Message) × IsValid m × (number_of m ≤ number_next) × (end_by number_next (Some m) ≡ Some is))
  refused reply is valid low by = (some, (reply, valid, low, by))

  -- why a sync ends with this end
  replied : (reply : Message) → Some end ≡ end_by number_next (Some reply) → number_of reply ≤ number_next → IsValid reply × EchoesWindow client route pending entry reply → HasSyncCause end after t v p q
  replied (Accepted of number upto) is low told = absurd (cc)
  replied (Stale of number upto path theirs ours) is low told =
      let same : ends.Stale number_next path theirs ours ≡ end = cc in
      subst (λ (e : SyncEnd). HasSyncCause e after t v p q) same (refused (Stale of number upto path theirs ours) (ends.Stale number_next path theirs ours) told.0 low refl)
  replied (Unfit of number upto index fault) is low told =
      let same : ends.Unfit number_next index fault ≡ end = cc in
      subst (λ (e : SyncEnd). HasSyncCause e after t v p q) same (refused (Unfit of number upto index fault) (ends.Unfit number_next index fault) told.0 low refl)
  replied (Full of number upto index fault) is low told =
      let same : ends.Full number_next index fault ≡ end = cc in
      subst (λ (e : SyncEnd). HasSyncCause e after t v p q) same (refused (Full of number upto index fault) (ends.Full number_next index fault) told.0 low refl)
  replied (Gap of number last) is low told =
      let same : ends.Behind number_next last ≡ end = cc in
      subst (λ (e : SyncEnd). HasSyncCause e after t v p q) same (refused (Gap of number last) (ends.Behind number_next last) told.0 low refl)
  replied _ is low told = absurd told.1.2.0

  came_so : (came : Option Message) → Some end ≡ end_by number_next came → IfSome came (IsShippingReply client route pending entry) → IfSome came (λ reply. number_of reply ≤ number_next) → (came ≡ None → RoseBy 8 t v)
      → HasSyncCause end after t v p q
  came_so None is told low rose =
      let same : ends.Unanswered number_next ≡ end = cc in
      subst (λ (e : SyncEnd). HasSyncCause e after t v p q) same (some, refl, rose refl)
  came_so (Some reply) is told low rose = replied reply is low (ending_echoes client route pending entry number_next reply end is told)

-- a sync after which nothing is pending, and in which no keeping failed
pub settled_end : (end : SyncEnd) (after : Log) (t v p q : ℕ) → HasSyncCause end after t v p q → after.pending ≡ [] → (Rose p q → ⊥) → (end ≡ ends.Synced after.acked) ⊎ (end ≡ ends.Memory)
settled_end (ends.Synced number) after t v p q cause none sound = inl (ap ends.Synced cause.1)
settled_end (ends.Stale number path theirs ours) after t v p q cause none sound = absurd (cause.0 none)
settled_end (ends.Unfit number index fault) after t v p q cause none sound = absurd (cause.0 none)
settled_end (ends.Full number index fault) after t v p q cause none sound = absurd (cause.0 none)
settled_end (ends.Unanswered number) after t v p q cause none sound = absurd (cause.0 none)
settled_end (ends.Behind number last) after t v p q cause none sound = absurd (cause.0 none)
settled_end ends.KeepFault after t v p q cause none sound = absurd (sound cause)
settled_end ends.Memory after t v p q cause none sound = inr refl

-- a sync whose log could not be kept
pub unkept_cause : (e : KeepError) (after : Log) (t v p m q : ℕ) → p ≤ m → (e ≡ keepers.Failed → Rose m q) → HasSyncCause (unkept_end e) after t v p q
unkept_cause keepers.Failed after t v p m q later rose = omega (arith, later, rose refl)
unkept_cause keepers.Memory after t v p m q later rose = tt

unkept_broken : (e : KeepError) → is_broken_sync (unkept_end e) ≡ true
unkept_broken keepers.Failed = refl
unkept_broken keepers.Memory = refl

not_whole : (end : SyncEnd) → is_broken_sync end ≡ true → is_broken_sync end ≡ false → ⊥
not_whole end broken whole = absurd (cc (sym broken ∙ whole))

-- ---- what a sync does

module _ (client : ℕ) (route : Route) (before : Log) (journal : Option Journal) where
  abbrev name : List ℕ
  name = route.image

  abbrev ships : Bool
  ships = is_some route.surrogate

  abbrev begun : Client
  begun = client_at name client before journal

  -- A sync so far: turns after which it goes on, each change of which was kept by a record of its own.
  pub record SoFar (mid : Log) (now : Option Journal) (i j : Option Images) (trace : Trace) : Type 0 where
    pub count : ℕ
    pub turns : Acknowledges client route count before mid trace
    pub notes : KeepsChanges name begun (client_at name client mid now) trace.changes i j

  -- and what it did over the link, each log being kept
  abbrev pub WentSoFar : Log → Option Journal → Option Images → Option Images → LinkTelling → LinkTelling → Type 0
  WentSoFar mid now i j t u = Goes client ships name (SoFar mid now i j) before mid mid i j no_runner no_runner t u

  -- a sync that ended
  abbrev pub Ended : SyncEnd → Log → Option Journal → Option Images → Option Images → LinkTelling → LinkTelling → Type 0
  Ended end after now i j t u = Went client ships name (SyncsNoting client route begun end (client_at name client after now) i j) before after i j t u

  pub acked_none : (i : Option Images) (t : LinkTelling) → IsKept i name client before → WentSoFar before journal i i t t
  acked_none i t keeps =
      goes_none name client ships (SoFar before journal i i) before i no_runner t keeps (record { count = 0; turns = (refl, refl); notes = changes_same name begun i })

  -- nothing is pending
  pub sync_synced : (mid : Log) (now : Option Journal) (i j : Option Images) (t u : LinkTelling) → mid.pending ≡ [] → WentSoFar mid now i j t u → Ended (ends.Synced mid.acked) mid now i j t u
  sync_synced mid now i j t u none so_far = (
    mid,
    goes_as name client ships (SoFar mid now i j) (SyncsNoting client route begun (ends.Synced mid.acked) (client_at name client mid now) i j mid) before mid mid i j no_runner no_runner t u so_far
        (λ m so. (inl ((so.count, mid, m, nothing, so.turns, inl (none, refl, refl, refl), followed-nothing m), refl), λ whole. so.notes)),
  )

  module _ (mid : Log) (now : Option Journal) (entry : Entry) (is : IsLog mid) (first : IsFirst entry mid.pending) (i j : Option Images) (t u v : LinkTelling) (so_far : WentSoFar mid now i j t u) where
    keeps : IsKept j name client mid
    keeps = kept_now name client before mid mid so_far.trace.changes i j so_far.keeping

    -- memory was wanted in the shipping
    pub sync_breaks : (e : AllocError) → AskedFor client route mid (ShipsTo client route mid.pending entry (Err e)) u v → Ended ends.Memory mid now i j t v
    sync_breaks e shipped = (
      mid,
      goes_then name client ships (SoFar mid now i j) (λ (n : Trace). n ≡ asking shipped.asks) (SyncsNoting client route begun ends.Memory (client_at name client mid now) i j mid) before mid mid mid i j j
          no_runner no_runner no_runner t u v so_far
          (goes_asked name client ships (λ (n : Trace). n ≡ asking shipped.asks) shipped.asks mid j no_runner u v keeps shipped.told shipped.rose refl)
          (λ m n so is. (inr (refl, (so.count, mid, m, n, so.turns, broken shipped.asks shipped.made n is, refl)), λ whole. absurd (not_whole ends.Memory refl whole))),
    )
      where
        broken : (asks : List Ask) → (asks ≡ []) ⊎ BreaksShipping client route mid.pending entry asks → (n : Trace) → n ≡ asking asks → BreaksTurn client route mid mid n
        broken asks (inl none) n is = inl (refl, is ∙ ap asking none)
        broken asks (inr breaks) n is = inr (inl (refl, (entry, asks, first, breaks, is)))

    module _ (came : Option Message) (shipped : AskedFor client route mid (Ships client route mid.pending entry came) u v) where
      abbrev pub upto : ℕ
      upto = taken_upto mid.acked came

      abbrev pub next : Log
      next = acknowledged upto mid

      numbered : entry.seq ≡ mid.acked + 1
      numbered = first_number mid entry is first

      some : 1 ≤ length mid.pending
      some = first_pending mid.pending entry first

      told : IfSome came (IsShippingReply client route mid.pending entry)
      told = ships_reply client route mid.pending entry came shipped.asks shipped.made

      -- it tells no more than is pending
      pub bounds : (mid.acked ≤ upto) × (upto ≤ mid.acked + length mid.pending)
      bounds = told_upto client route mid.pending entry mid.acked numbered came some told

      pub rises : (m : ℕ) → None ≡ end_by m came → mid.acked < upto
      rises m on = (goes_on client route mid.pending entry mid.acked numbered m came on told).2

      -- where the sync ends, the next number is one of 64 bits
      pub same_end : (m : ℕ) (end : SyncEnd) → (upto + 1 ≤ 18446744073709551615 → m ≡ upto + 1) → Some end ≡ end_by m came → end_by (upto + 1) came ≡ Some end
      same_end m end small by =
          let one = ending_leaves client route mid.pending entry mid.acked numbered m came end some by told in
          ap (λ (k : ℕ). end_by k came) (sym (small (omega (arith, one, is.last)))) ∙ sym by

      turn : (end : Option SyncEnd) → end_by (upto + 1) came ≡ end → EntryTurn client route mid next end shipped.asks
      turn end by = record { entry = entry; first = first; number = numbered; came = came; ships = shipped.made; after_is = refl; end_is = by }

      -- why the sync ends
      pub has_cause : (end : SyncEnd) (p q : ℕ) → end_by (upto + 1) came ≡ Some end → (came ≡ None → RoseBy 8 t.troubles v.troubles) → HasSyncCause end next t.troubles v.troubles p q
      has_cause end p q by rose =
          came_so client route mid.pending entry next t.troubles v.troubles p q end
          (some_left mid upto bounds.0 (ending_leaves client route mid.pending entry mid.acked numbered (upto + 1) came end some (sym by) told))
          came (sym by) told (low came told bounds.0) rose
        where
          low : (came : Option Message) → IfSome came (IsShippingReply client route mid.pending entry) → mid.acked ≤ taken_upto mid.acked came → IfSome came (λ reply. number_of reply ≤ taken_upto mid.acked came + 1)
          low None told above = tt
          low (Some reply) told above = omega (arith, above, numbered, reply_number client route mid.pending entry reply told)

      abbrev change : Trace
      change = followed (asking shipped.asks) (acknowledging mid next)

      abbrev Changes : Trace → Type 0
      Changes n = n ≡ change

      -- nothing was told to be taken
      asked : upto ≡ mid.acked → Goes client ships name Changes mid next next j j no_runner no_runner u v
      asked same =
          subst (λ (log : Log). Goes client ships name Changes mid log log j j no_runner no_runner u v) (sym (acknowledged_same mid upto same))
          (goes_asked name client ships Changes shipped.asks mid j no_runner u v keeps shipped.told shipped.rose
          (followed-nothing (asking shipped.asks) ∙ ap (followed (asking shipped.asks)) (sym (acknowledging_none mid next same))))

      -- what was, is acknowledged, and is to be kept
      acked_by : (rose : mid.acked < upto) → Goes client ships name Changes mid next mid j j no_runner no_runner u v
      acked_by rose = by came shipped.made told rose refl
        where
          by : (c : Option Message) → Ships client route mid.pending entry c shipped.asks → IfSome c (IsShippingReply client route mid.pending entry) → mid.acked < taken_upto mid.acked c → c ≡ came
              → Goes client ships name Changes mid next mid j j no_runner no_runner u v
          by None made reads rose same = absurd (omega (arith, rose))
          by (Some reply) made reads rose same =
              let number : taken_upto mid.acked (Some reply) ≡ upto = ap (taken_upto mid.acked) same in
              let tells = tells_taken client route mid.pending entry mid.acked numbered reply reads rose in
              subst (λ (n : ℕ). Goes client ships name Changes mid (acknowledged n mid) mid j j no_runner no_runner u v) number
              (goes_acked name client ships Changes (taken_upto mid.acked (Some reply)) reply shipped.asks mid j no_runner u v keeps
              (told_as u.world v.world (λ y z. Runs client ships [] shipped.asks (kept_at mid y) (kept_at mid z)) (λ y z. Runs client ships [] shipped.asks (kept_at mid y) (kept_at mid z) × IsIn reply z.packets) shipped.told
              (λ y z runs. (runs, reply_stands client route mid.pending entry z reply shipped.asks (run_answers client ships [] shipped.asks (kept_at mid y) (kept_at mid z) runs) made)))
              shipped.rose (omega (arith, rose)) tells
              (ap (λ (n : ℕ). followed (asking shipped.asks) (changing (acknowledged n mid))) number
              ∙ ap (followed (asking shipped.asks)) (sym (acknowledging_some mid next (subst (λ (n : ℕ). mid.acked < n) number rose)))))

      module _ (later : Option Journal) (l : Option Images) (current : JournalIsCurrent j name client mid now) where
        abbrev Keeps : Result (Unit {0}) KeepError → Type 0
        Keeps r = KeepsUpto name client mid upto now later r j l

        kept_log : (r : Result (Unit {0}) KeepError) → mid.acked < upto → Told j l (KeepsNext name client next (next_notes now true next) r) → Told j l (KeepsLog name client next r)
        kept_log r rose save = next_keeps name client next (next_notes now true next) r j l (acked_one name client mid upto rose bounds.1 now j current) save

        -- what the turn made of the client, and of what is kept
        turned : (r : Result (Unit {0}) KeepError) → Keeps r → (kept : Log) × Goes client ships name Changes mid next kept j l no_runner no_runner u v × IfOk r (λ done. kept ≡ next)
        turned r (inl same) =
            (next, subst (λ (k : Option Images). Goes client ships name Changes mid next next j k no_runner no_runner u v) (sym same.3) (asked same.0), sure r)
          where
            sure : (r : Result (Unit {0}) KeepError) → IfOk r (λ done. next ≡ next)
            sure (Ok done) = refl
            sure (Err e) = tt
        turned r (inr risen) =
            let did = acked_by risen.0 in
            goes_saved name client ships Changes mid next mid j j l no_runner no_runner u v r did
            (changed_so did.trace.changes next [] (ap (λ (n : Trace). n.changes) (did.turn ∙ ap (followed (asking shipped.asks)) (acknowledging_some mid next risen.0)))) (kept_log r risen.0 risen.1)

        -- the next keeping finds what this one left
        pub current_now : (r : Result (Unit {0}) KeepError) → Keeps r → JournalIsCurrent l name client next later
        current_now r (inl same) =
            subst (λ (log : Log). JournalIsCurrent l name client log later) (sym (acknowledged_same mid upto same.0))
            (subst (JournalIsCurrent l name client mid) (sym same.2) (subst (λ (k : Option Images). JournalIsCurrent k name client mid now) (sym same.3) current))
        current_now r (inr risen) = subst (JournalIsCurrent l name client next) (sym risen.2) (next_current name client next now (next_notes now true next) r j l risen.1)

        -- and each change has a record
        noted : (done : Unit {0}) → Keeps (Ok done) → KeepsChanges name (client_at name client mid now) (client_at name client next later) change.changes j l
        noted done (inl same) =
            subst (λ (k : Option Images). KeepsChanges name (client_at name client mid now) (client_at name client next later) change.changes j k) (sym same.3)
            (subst (λ (n : Option Journal). KeepsChanges name (client_at name client mid now) (client_at name client next n) change.changes j j) (sym same.2)
            (subst (λ (log : Log). KeepsChanges name (client_at name client mid now) (client_at name client log now) change.changes j j) (sym (acknowledged_same mid upto same.0))
            (subst (λ (n : Trace). KeepsChanges name (client_at name client mid now) (client_at name client mid now) n.changes j j) (sym (acknowledging_none mid next same.0))
            (changes_same name (client_at name client mid now) j))))
        noted done (inr risen) =
            subst (λ (n : Trace). KeepsChanges name (client_at name client mid now) (client_at name client next later) n.changes j l) (sym (acknowledging_some mid next risen.0))
            (subst (λ (n : Option Journal). KeepsChanges name (client_at name client mid now) (client_at name client next n) (next ∷ []) j l) (sym risen.2)
            (changes_acked name client mid now upto done j l risen.0 bounds.1 current risen.1))

        noted_then : (done : Unit {0}) → Keeps (Ok done) → (m n : Trace) → SoFar mid now i j m → Changes n → KeepsChanges name begun (client_at name client next later) (followed m n).changes i l
        noted_then done kept m n so is =
            subst (λ (c : Trace). KeepsChanges name begun (client_at name client next later) (m.changes ++ c.changes) i l) (sym is)
            (changes_then name begun (client_at name client mid now) (client_at name client next later) m.changes change.changes i j l so.notes (noted done kept))

        -- a turn more
        turned_more : (m n : Trace) → SoFar mid now i j m → Changes n → mid.acked < upto → end_by (upto + 1) came ≡ None → (count : ℕ) × Acknowledges client route count before next (followed m n)
        turned_more m n so is rose on =
            (suc so.count, (mid, m, shipped.asks, so.turns, turn None on, ap (followed m) (is ∙ ap (followed (asking shipped.asks)) (acknowledging_some mid next rose))))

        -- the sync goes on
        pub acked_more : (done : Unit {0}) → Keeps (Ok done) → (m : ℕ) → None ≡ end_by m came → WentSoFar next later i l t v
        acked_more done kept m on =
            let last = turned (Ok done) kept in
            subst (λ (k : Log). Goes client ships name (SoFar next later i l) before next k i l no_runner no_runner t v) last.2
            (goes_then name client ships (SoFar mid now i j) Changes (SoFar next later i l) before mid next last.0 i j l no_runner no_runner no_runner t u v so_far last.1
            (λ m1 n so is. let more = turned_more m1 n so is (rises m on) (goes_on_any m (upto + 1) came on) in record { count = more.0; turns = more.1; notes = noted_then done kept m1 n so is }))

        -- the sync ends with what came
        pub sync_ends : (done : Unit {0}) → Keeps (Ok done) → (end : SyncEnd) → end_by (upto + 1) came ≡ Some end → Ended end next later i l t v
        sync_ends done kept end by =
            let last = turned (Ok done) kept in (
              last.0,
              goes_then name client ships (SoFar mid now i j) Changes (SyncsNoting client route begun end (client_at name client next later) i l last.0) before mid next last.0 i j l no_runner no_runner no_runner t u v so_far last.1
                  (λ m n so is. (
                    inl ((so.count, mid, m, n, so.turns, inr (shipped.asks, turn (Some end) by, is), refl), last.2),
                    λ whole. noted_then done kept m n so is,
                  )),
            )

        -- what was acknowledged could not be kept
        pub sync_unkept : (e : KeepError) → Keeps (Err e) → Ended (unkept_end e) next later i l t v
        sync_unkept e (inl same) = absurd (cc (same.1))
        sync_unkept e (inr risen) =
            let last = turned (Err e) (inr risen) in (
              last.0,
              goes_then name client ships (SoFar mid now i j) Changes (SyncsNoting client route begun (unkept_end e) (client_at name client next later) i l last.0) before mid next last.0 i j l no_runner no_runner no_runner
                  t u v so_far last.1
                  (λ m n so is. (inr (unkept_broken e, by m n so is (end_by (upto + 1) came) refl), λ whole. absurd (not_whole (unkept_end e) (unkept_broken e) whole))),
            )
          where
            by : (m n : Trace) → SoFar mid now i j m → Changes n → (end : Option SyncEnd) → end_by (upto + 1) came ≡ end
                → (count : ℕ) × (middle : Log) × (earlier last : Trace) × Acknowledges client route count before middle earlier × BreaksTurn client route middle next last × (followed m n ≡ followed earlier last)
            by m n so is None on =
                let more = turned_more m n so is risen.0 on in
                (more.0, next, followed m n, nothing, more.1, inl (refl, refl), followed-nothing (followed m n))
            by m n so is (Some end) on =
                (so.count, mid, m, n, so.turns, inr (inr (end, shipped.asks, turn (Some end) on, risen.0, is ∙ ap (followed (asking shipped.asks)) (acknowledging_some mid next risen.0))), refl)

-- ---- what follows of a sync that ended

module _ (client : ℕ) (route : Route) (x y : Client) (end : SyncEnd) (i j : Option Images) (t u : LinkTelling)
    (went : Went client (is_some route.surrogate) route.image (SyncsNoting client route x end y i j) x.log y.log i j t u) where
  -- without its records
  pub went_plain : Went client (is_some route.surrogate) route.image (SyncEnds client route x.log end y.log) x.log y.log i j t u
  went_plain = (
    went.0,
    goes_as route.image client (is_some route.surrogate) (SyncsNoting client route x end y i j went.0) (SyncEnds client route x.log end y.log went.0) x.log y.log went.0 i j no_runner no_runner t u went.1 (λ m turn. turn.0),
  )

  -- what is kept
  pub went_keeps : SyncKeeps route.image client x.log end y.log i j
  went_keeps = record {
    kept = went.0;
    changes = went.1.trace.changes;
    acknowledged_so = sync_more client route x.log y.log went.0 end went.1.trace went.1.turn.0;
    keeping = went.1.keeping;
    whole = λ whole. by went.1.turn.0 whole;
  }
    where
      by : SyncEnds client route x.log end y.log went.0 went.1.trace → is_broken_sync end ≡ false → went.0 ≡ y.log
      by (inl turn) whole = turn.1
      by (inr broken) whole = absurd (not_whole end broken.0 whole)

  -- and what was acknowledged
  pub went_some : AcknowledgesSome x.log y.log
  went_some =
      subst (AcknowledgesSome x.log) (sym went.1.keeping.last) (some_all x.log went.1.trace.changes (sync_more client route x.log y.log went.0 end went.1.trace went.1.turn.0))

  -- what it means to a client in step
  pub went_honest : FromInStepApart client x.log t u (IsTrueSync end client y.log)
  went_honest = went_true client (is_some route.surrogate) route x.log y.log end route.image i j t u went_plain

  pub went_settles : (p q : ℕ) → HasSyncCause end y.log t.troubles u.troubles p q → IsCalm t u → (Rose p q → ⊥) → FromInStepApart client x.log t u (IsComplete end client y.log)
  went_settles p q cause calm sound = went_complete client (is_some route.surrogate) route x.log y.log end route.image i j t u went_plain p q cause calm sound

-- the same of the client as it is seen
pub ended_as : (client : ℕ) (route : Route) (before : Log) (journal : Option Journal) (end : SyncEnd) (after : Log) (now : Option Journal) (i j : Option Images) (t v : LinkTelling) (self : Client) (number : ℕ)
    → client_at route.image client before journal ≡ self → number ≡ client → Ended client route before journal end after now i j t v
    → Went self.number (is_some route.surrogate) route.image (SyncsNoting self.number route self end (record { number = number; log = after; journal = now }) i j) self.log after i j t v
ended_as client route before journal end after now i j t v self number is same ended =
    subst (λ (s : Client). Went s.number (is_some route.surrogate) route.image (SyncsNoting s.number route s end (record { number = number; log = after; journal = now }) i j) s.log after i j t v) is
    (subst (λ (n : ℕ). Went client (is_some route.surrogate) route.image (SyncsNoting client route (client_at route.image client before journal) end (record { number = n; log = after; journal = now }) i j) before after i j t v) (sym same) ended)

-- a number and a name that are those of the step
pub kept_as : (name n : List ℕ) (client : ℕ) (mid : Log) (taken k : ℕ) (now later : Option Journal) (r : Result (Unit {0}) KeepError) (j l : Option Images) → n ≡ name → k ≡ taken → KeepsUpto n client mid k now later r j l
    → KeepsUpto name client mid taken now later r j l
kept_as name n client mid taken k now later r j l named numbered keeps =
    subst (λ (m : ℕ). KeepsUpto name client mid m now later r j l) numbered (subst (λ (s : List ℕ). KeepsUpto s client mid k now later r j l) named keeps)
