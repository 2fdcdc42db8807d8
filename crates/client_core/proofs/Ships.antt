-- What shipping what is pending comes to.
use Rattle.std.proofs.Common.{Bool, is_some, ◌≡◌, ◌⊎◌, inl, inr, ⊎_elim, ℕ, ◌+◌, ◌<◌, ◌≤◌, List, [], ◌++◌, length, Option, Some, None, IfSome, Result, Ok, Err, refl, sym, ◌∙◌, ap, subst, arith, length-append}
use Rattle.std.specs.declared.alloc.AllocError.{AllocError}
use Rattle.std.proofs.lemmas.List.{append-nil, length-map}
use Rattle.std.proofs.lemmas.Bool.{leb-true}
use Rattle.tree_values.specs.Lists.{IsIn}
use Rattle.mod_log.specs.declared.log.Entry.{Entry}
use Rattle.mod_log.specs.declared.sketching.SketchEntry.{SketchEntry}
use Rattle.mod_log.specs.Log.{Log, IsLog}
use Rattle.wire_frames.specs.declared.message.Message.{Message}
use Rattle.wire_frames.specs.declared.message.Message.TheVariants.{Operate, Accepted, Stale, Unfit, Full, Done, Declined}
use Rattle.wire_frames.specs.Parts.{part_of}
use Rattle.wire_frames.specs.Frame.{IsValid, Echoes, speaks_upto, client_of, number_of}
use Rattle.world_rules.specs.declared.asking.Peer.{Peer}
use Rattle.world_rules.specs.declared.asking.Peer.TheVariants.{Server, Surrogate}
use Rattle.world_rules.specs.declared.asking.Ask.{Ask}
use Rattle.world_rules.specs.World.{World, Moved}
use Rattle.world_rules.specs.Telling.{LinkTelling, HadTroubles}
use Rattle.world_rules.specs.Asking.{AnswersStand}
use Rattle.world_rules.specs.Settling.{failed_asks, SettlesTo, Settled}
use Rattle.world_rules.specs.InStep.{MaySend, TellsTaken, parts_of}
use Rattle.world_rules.specs.Run.{Runs, kept_at}
use Rattle.world_rules.proofs.Asks.{told_then, told_as, told_start, answers_end}
use Rattle.world_rules.proofs.Runs.{runs_none, runs_then, moved_runs}
use Rattle.world_rules.proofs.Settled.{failed-append, failed-failures}
use Rattle.client_core.specs.declared.route.Route.{Route}
use Rattle.client_core.specs.declared.syncing.SyncEnd.{SyncEnd}
use Rattle.client_core.specs.Syncing.{store_of, IsFirst, taken_upto, end_by, IsLight, StoreIsDue, IsWindow, Ships}
use Rattle.client_core.specs.Inside.{AskedFor, done_of, OperatesTo, SettlesWindow, ShipsTo}
use Rattle.client_core.proofs.Firsts.{first_in, first_number, may_send}
use Rattle.client_core.proofs.Standing.{settled_stands}

-- ---- asks beside a log

module _ (client : ℕ) (route : Route) (log : Log) where
  abbrev ships : Bool
  ships = is_some route.surrogate

  -- beside the log these asks are a run
  abbrev AsksRun : List Ask → World → World → Type 0
  AsksRun asks v w = Runs client ships [] asks (kept_at log v) (kept_at log w)

  pub asked_none : (P : List Ask → Type 0) (t : LinkTelling) → P [] → AskedFor client route log P t t
  asked_none P t none = record { asks = []; made = none; rose = omega arith; told = told_start t.world (AsksRun []) (λ w. runs_none client ships (kept_at log w)) }

  pub asked_as : (P Q : List Ask → Type 0) (t u : LinkTelling) → AskedFor client route log P t u → ((asks : List Ask) → P asks → Q asks) → AskedFor client route log Q t u
  asked_as P Q t u asked to = record { asks = asked.asks; made = to asked.asks asked.made; rose = asked.rose; told = asked.told }

  pub asked_then : (P Q R : List Ask → Type 0) (t u v : LinkTelling) → AskedFor client route log P t u → AskedFor client route log Q u v → ((xs ys : List Ask) → P xs → Q ys → R (xs ++ ys))
      → AskedFor client route log R t v
  asked_then P Q R t u v first second join = record {
    asks = first.asks ++ second.asks;
    made = join first.asks second.asks first.made second.made;
    rose = omega (arith, failed-append first.asks second.asks, first.rose, second.rose);
    told = told_then t.world u.world v.world (AsksRun first.asks) (AsksRun second.asks) (AsksRun (first.asks ++ second.asks)) first.told second.told
        (λ x y z p q. runs_then client ships [] [] first.asks second.asks (kept_at log x) (kept_at log y) (kept_at log z) p q);
  }

  -- the asks of a settling, of a request that may be sent
  pub asked_settled : (to : Peer) (address : List ℕ) (request : Message) (came : Result (Option Message) AllocError) (t u : LinkTelling) → Settled to address request t u came
      → MaySend client ships log request → AskedFor client route log (SettlesTo to address request came) t u
  asked_settled to address request came t u done may = record {
    asks = done.asks;
    made = done.settling;
    rose = done.rose;
    told = told_as t.world u.world (λ x y. Moved request done.asks x y × AnswersStand y done.asks) (AsksRun done.asks) done.told
        (λ x y moved. moved_runs client ships log request done.asks x y may moved.0 moved.1);
  }

  module _ (entry : Entry) where
    -- ---- the operation

    module _ (address : List ℕ) (sketched : SketchEntry) (light : IsLight client route entry address sketched) where
      abbrev operation : Message
      operation = Operate client sketched

      may_operate : IsLog log → IsFirst entry log.pending → MaySend client ships log operation
      may_operate is first =
          (refl, light.sketch.numbered ∙ first_number log entry is first, (entry, first_in log.pending entry first, light.sketch), ap is_some light.surrogate)

      operated_so : (came : Result (Option Message) AllocError) (asks : List Ask) → SettlesTo Surrogate address operation came asks → OperatesTo client route log.pending entry (done_of came) asks
      operated_so (Ok None) asks settling = inr (None, tt, (address, sketched, light, settling))
      operated_so (Ok (Some (Done of number))) asks settling =
          let same : Done of number ≡ Done client entry.seq = λ i. Done (sym settling.3.1 i) ((sym settling.3.2 ∙ light.sketch.numbered) i) in
          (address, sketched, light, subst (λ (m : Message). SettlesTo Surrogate address operation (Ok (Some m)) asks) same settling)
      operated_so (Ok (Some (Declined of number cause))) asks settling = inr (Some (Declined of number cause), tt, (address, sketched, light, settling))
      operated_so (Ok (Some _)) asks settling = absurd settling.3.0
      operated_so (Err e) asks settling = inr (inl (address, sketched, light, settling))

      -- it was settled
      pub operated : (came : Result (Option Message) AllocError) (t u : LinkTelling) → IsLog log → IsFirst entry log.pending → Settled Surrogate address operation t u came
          → AskedFor client route log (OperatesTo client route log.pending entry (done_of came)) t u
      operated came t u is first done =
          asked_as (SettlesTo Surrogate address operation came) (OperatesTo client route log.pending entry (done_of came)) t u
          (asked_settled Surrogate address operation came t u done (may_operate is first)) (operated_so came)

    -- ---- the store of the window

    module _ (chosen : List Entry) (window : IsWindow client route log.pending chosen) where
      abbrev store : Message
      store = store_of client entry.seq chosen

      settled_so : (came : Result (Option Message) AllocError) (asks : List Ask) → SettlesTo Server route.server store came asks → SettlesWindow client route log.pending entry came asks
      settled_so (Ok came) asks settling = (chosen, window, settling)
      settled_so (Err e) asks settling = inr (chosen, window, settling)

      -- it was settled
      pub settled_window : (came : Result (Option Message) AllocError) (t u : LinkTelling) → IsLog log → IsFirst entry log.pending → Settled Server route.server store t u came
          → AskedFor client route log (SettlesWindow client route log.pending entry came) t u
      settled_window came t u is first done =
          asked_as (SettlesTo Server route.server store came) (SettlesWindow client route log.pending entry came) t u
          (asked_settled Server route.server store came t u done (may_send client ships route log entry chosen is first window)) (settled_so came)

    -- behind the asks after which it is due
    stored_so : (came : Result (Option Message) AllocError) (xs ys : List Ask) → StoreIsDue client route entry xs → SettlesWindow client route log.pending entry came ys → ShipsTo client route log.pending entry came (xs ++ ys)
    stored_so (Ok came) xs ys due settling = inr (xs, ys, settling.0, due, settling.1, settling.2, refl)
    stored_so (Err e) xs ys due (inl none) = inr (inr (inl (subst (StoreIsDue client route entry) (sym (ap (λ (more : List Ask). xs ++ more) none ∙ append-nil xs)) due)))
    stored_so (Err e) xs ys due (inr settling) = inr (inr (inr (xs, ys, settling.0, due, settling.1, settling.2, refl)))

    pub stored : (came : Result (Option Message) AllocError) (t u v : LinkTelling) → AskedFor client route log (StoreIsDue client route entry) t u
        → AskedFor client route log (SettlesWindow client route log.pending entry came) u v → AskedFor client route log (ShipsTo client route log.pending entry came) t v
    stored came t u v due done =
        asked_then (StoreIsDue client route entry) (SettlesWindow client route log.pending entry came) (ShipsTo client route log.pending entry came) t u v due done (stored_so came)

-- ---- what came of it

module _ (client : ℕ) (route : Route) (pending : List Entry) (entry : Entry) where
  -- the reply answers the store of the window
  abbrev pub EchoesWindow : Message → Type 0
  EchoesWindow reply = (chosen : List Entry) × IsWindow client route pending chosen × Echoes (store_of client entry.seq chosen) reply

  -- a valid reply to that store, or that the entry is done
  abbrev pub IsShippingReply : Message → Type 0
  IsShippingReply reply = IsValid reply × (EchoesWindow reply ⊎ (reply ≡ Done client entry.seq))

  pub ships_reply : (came : Option Message) (asks : List Ask) → Ships client route pending entry came asks → IfSome came IsShippingReply
  ships_reply None asks shipped = tt
  ships_reply (Some reply) asks (inl done) =
      let same : reply ≡ Done client entry.seq = cc (done.0) in
      (done.1.3.2, inr same)
  ships_reply (Some reply) asks (inr stored) = (stored.5.2, inl (stored.2, stored.4, stored.5.3))

  -- its number is the entry's
  pub reply_number : (reply : Message) → IsShippingReply reply → number_of reply ≡ entry.seq
  reply_number reply told = ⊎_elim (λ (e : EchoesWindow reply). sym e.2.2) (λ (is : reply ≡ Done client entry.seq). ap number_of is) told.1

  -- it speaks of nothing behind what is pending
  within : (reply : Message) (acked : ℕ) → entry.seq ≡ acked + 1 → EchoesWindow reply → speaks_upto reply ≤ acked + length pending
  within reply acked next echoes =
      let window = echoes.1 in
      let long : length (parts_of echoes.0) ≡ length echoes.0 = length-map echoes.0 (λ (e : Entry). part_of e.effects e.base) in
      omega (arith, next, echoes.2.3, long, ap length window.front, length-append echoes.0 window.left)

  module _ (acked : ℕ) (next : entry.seq ≡ acked + 1) where
    -- how far a reply speaks: not below the acknowledged number, and not beyond what is pending
    pub told_upto : (came : Option Message) → 1 ≤ length pending → IfSome came IsShippingReply → (acked ≤ taken_upto acked came) × (taken_upto acked came ≤ acked + length pending)
    told_upto None some told = (omega arith, omega arith)
    told_upto (Some (Accepted of number upto)) some told =
        (omega (arith, next, reply_number (Accepted of number upto) told, leb-true number upto told.0.body_fits.1), ⊎_elim (within (Accepted of number upto) acked next) (λ (is : Accepted of number upto ≡ Done client entry.seq). absurd (cc is)) told.1)
    told_upto (Some (Stale of number upto path theirs ours)) some told = (
      omega (arith, next, reply_number (Stale of number upto path theirs ours) told, leb-true number (upto + 1) told.0.body_fits.0.1),
      ⊎_elim (λ (e : EchoesWindow (Stale of number upto path theirs ours)). omega (arith, within (Stale of number upto path theirs ours) acked next e)) (λ (is : Stale of number upto path theirs ours ≡ Done client entry.seq). absurd (cc is)) told.1,
    )
    told_upto (Some (Unfit of number upto index fault)) some told = (
      omega (arith, next, reply_number (Unfit of number upto index fault) told, leb-true number (upto + 1) told.0.body_fits.0.1),
      ⊎_elim (λ (e : EchoesWindow (Unfit of number upto index fault)). omega (arith, within (Unfit of number upto index fault) acked next e)) (λ (is : Unfit of number upto index fault ≡ Done client entry.seq). absurd (cc is)) told.1,
    )
    told_upto (Some (Full of number upto index fault)) some told = (
      omega (arith, next, reply_number (Full of number upto index fault) told, leb-true number (upto + 1) told.0.body_fits.0.1),
      ⊎_elim (λ (e : EchoesWindow (Full of number upto index fault)). omega (arith, within (Full of number upto index fault) acked next e)) (λ (is : Full of number upto index fault ≡ Done client entry.seq). absurd (cc is)) told.1,
    )
    told_upto (Some (Done of number)) some told = (omega (arith, next, reply_number (Done of number) told), omega (arith, some, next, reply_number (Done of number) told))
    told_upto (Some _) some told = (omega arith, omega arith)

    of_client : (reply : Message) → IsShippingReply reply → client_of reply ≡ client
    of_client reply told = ⊎_elim (λ (e : EchoesWindow reply). sym e.2.1) (λ (is : reply ≡ Done client entry.seq). ap client_of is) told.1

    -- where it tells more than the acknowledged number
    pub tells_taken : (reply : Message) → IsShippingReply reply → acked < taken_upto acked (Some reply) → TellsTaken client (taken_upto acked (Some reply)) reply
    tells_taken (Accepted of number upto) told more = (of_client (Accepted of number upto) told, refl)
    tells_taken (Stale of number upto path theirs ours) told more = (of_client (Stale of number upto path theirs ours) told, refl)
    tells_taken (Unfit of number upto index fault) told more = (of_client (Unfit of number upto index fault) told, refl)
    tells_taken (Full of number upto index fault) told more = (of_client (Full of number upto index fault) told, refl)
    tells_taken (Done of number) told more = (of_client (Done of number) told, refl)
    tells_taken _ told more = absurd (omega (arith, more))

    module _ (number : ℕ) where
      -- a sync goes on only where more is told to be taken
      pub goes_on : (came : Option Message) → None ≡ end_by number came → IfSome came IsShippingReply
          → (reply : Message) × (came ≡ Some reply) × (acked < taken_upto acked came) × TellsTaken client (taken_upto acked came) reply
      goes_on None on told = absurd (cc)
      goes_on (Some (Accepted of seq upto)) on told =
          (Accepted of seq upto, refl, omega (arith, next, reply_number (Accepted of seq upto) told, leb-true seq upto told.0.body_fits.1), (of_client (Accepted of seq upto) told, refl))
      goes_on (Some (Done of seq)) on told = (Done of seq, refl, omega (arith, next, reply_number (Done of seq) told), (of_client (Done of seq) told, refl))
      goes_on (Some _) on told = absurd (cc)

      -- where it ends, one is left
      pub ending_leaves : (came : Option Message) (end : SyncEnd) → 1 ≤ length pending → Some end ≡ end_by number came → IfSome came IsShippingReply → taken_upto acked came < acked + length pending
      ending_leaves None end some by told = omega (arith, some)
      ending_leaves (Some (Accepted of seq upto)) end some by told = absurd (cc)
      ending_leaves (Some (Done of seq)) end some by told = absurd (cc)
      ending_leaves (Some (Stale of seq upto path theirs ours)) end some by told =
          ⊎_elim (λ (e : EchoesWindow (Stale of seq upto path theirs ours)). omega (arith, within (Stale of seq upto path theirs ours) acked next e)) (λ (is : Stale of seq upto path theirs ours ≡ Done client entry.seq). absurd (cc is)) told.1
      ending_leaves (Some (Unfit of seq upto index fault)) end some by told =
          ⊎_elim (λ (e : EchoesWindow (Unfit of seq upto index fault)). omega (arith, within (Unfit of seq upto index fault) acked next e)) (λ (is : Unfit of seq upto index fault ≡ Done client entry.seq). absurd (cc is)) told.1
      ending_leaves (Some (Full of seq upto index fault)) end some by told =
          ⊎_elim (λ (e : EchoesWindow (Full of seq upto index fault)). omega (arith, within (Full of seq upto index fault) acked next e)) (λ (is : Full of seq upto index fault ≡ Done client entry.seq). absurd (cc is)) told.1
      ending_leaves (Some _) end some by told = omega (arith, some)

  -- what ends it answers the store
  pub ending_echoes : (number : ℕ) (reply : Message) (end : SyncEnd) → Some end ≡ end_by number (Some reply) → IsShippingReply reply → IsValid reply × EchoesWindow reply
  ending_echoes number reply end by told = (told.0, ⊎_elim (λ (e : EchoesWindow reply). e) (λ (is : reply ≡ Done client entry.seq). none_left (by ∙ ap (λ (m : Message). end_by number (Some m)) is)) told.1)
    where
      none_left : Some end ≡ None → EchoesWindow reply
      none_left is = absurd (cc is)

  -- where nothing came, eight asks of the store failed
  pub ships_failed : (asks : List Ask) → Ships client route pending entry None asks → 8 ≤ failed_asks asks
  ships_failed asks (inl done) = absurd (cc (done.0))
  ships_failed asks (inr stored) =
      omega (arith, ap failed_asks stored.6, failed-append stored.0 stored.1, ap failed_asks stored.5, failed-failures Server route.server (store_of client entry.seq stored.2) 8)

  module _ (world : World) (reply : Message) (asks : List Ask) (stand : AnswersStand world asks) where
    -- the reply was sent
    pub reply_stands : Ships client route pending entry (Some reply) asks → IsIn reply world.packets
    reply_stands (inl done) = (settled_stands Surrogate done.1.0 (Operate client done.1.1) world (Some reply) asks done.1.3 stand).0
    reply_stands (inr stored) =
        (settled_stands Server route.server (store_of client entry.seq stored.2) world (Some reply) stored.1 stored.5 (answers_end stored.0 stored.1 world (subst (AnswersStand world) stored.6 stand))).0

    pub ending_stands : (number : ℕ) (end : SyncEnd) → Some end ≡ end_by number (Some reply) → Ships client route pending entry (Some reply) asks → IsIn reply world.packets × IsValid reply × EchoesWindow reply
    ending_stands number end by shipped =
        let told = ending_echoes number reply end by (ships_reply (Some reply) asks shipped) in
        (reply_stands shipped, told.0, told.1)

pub shipped_troubles : (client : ℕ) (route : Route) (log : Log) (entry : Entry) (t u : LinkTelling) (came : Option Message) → AskedFor client route log (Ships client route log.pending entry came) t u → came ≡ None → HadTroubles 8 t u
shipped_troubles client route log entry t u None shipped none = omega (arith, shipped.rose, ships_failed client route log.pending entry shipped.asks shipped.made)
shipped_troubles client route log entry t u (Some reply) shipped none = absurd (cc)
