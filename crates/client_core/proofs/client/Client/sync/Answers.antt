use Rattle.std.proofs.Common.{true, ◌≡◌, ◌∙◌, ℕ, ◌+◌, List, Ok, Err, Some, None, refl, ap, sym, subst, arith}
use Rattle.outside.specs.Outside.{RisesWhere}
use Rattle.mod_log.specs.Log.{Log, acknowledged}
use Rattle.world_rules.specs.Telling.{LinkTelling}
use Rattle.client_core.specs.Client.{Client}
use Rattle.client_core.specs.declared.syncing.SyncEnd.{SyncEnd}
use Rattle.client_core.specs.declared.syncing.SyncEnd.TheVariants.{Synced, KeepFault, Memory}
use Rattle.client_core.specs.Causes.{HasSyncCause}
use Rattle.client_core.specs.Syncing.{IsFirst, taken_upto, end_by, unkept_end}
use Rattle.client_core.specs.Journal.{next_notes}
use Rattle.client_core.specs.Inside.{MayKeep, IsCountedBy, KeepsUpto}
use Rattle.client_core.specs.Keeping.{IsKept, IsReady}
use Rattle.client_core.proofs.Counting.{rose_once, unrisen, unkept_rises, end_by_reply}
use Rattle.client_core.proofs.Journal.{JournalIsCurrent, current_ready, ready_current, ready_counted, may_keep_acked}
use Rattle.client_core.proofs.Firsts.{first_is, none_is, first_pending, shorter}
use Rattle.client_core.proofs.Ships.{shipped_troubles}
use Rattle.client_core.proofs.Syncs.{WentSoFar, Ended, bounds, rises, same_end, has_cause, current_now, acked_none, acked_more, sync_breaks, sync_ends, sync_unkept, sync_synced, unkept_cause, settled_end, ended_as, went_keeps, went_some, went_honest, went_settles, kept_as}
use Rattle.client_core.proofs.client.Client.sync.Goals as goal

pub loop-entry-init : goal.loop-entry-init
loop-entry-init g c =
    let client = c.self.inside.number in
    let route = c.args.route.now in
    let before = c.self.inside.log in
    let i = g.K.Keeper.images c.args.keeper.now in
    let keeps : IsKept i route.image client before = subst (λ (self : Client). IsKept i route.image self.number self.log) (sym c.self.view_is) c.requires.0 in
    let ready : IsReady i route.image (record { number = client; log = before; journal = c.self.inside.journal }) = subst (IsReady i route.image) (sym c.self.view_is) c.requires.1 in
    record {
      later = omega arith;
      faults = refl;
      number = refl;
      current = ready_current route.image client before c.self.inside.journal i keeps ready;
      counted = ready_counted route.image client before c.self.inside.journal i ready;
      did = acked_none client route before c.self.inside.journal i (g.L.Link.tells c.args.link.now) keeps;
    }

pub ship-requires-clause-first : goal.ship-requires-clause-first
ship-requires-clause-first g c =
    let mid = c.loop-entry.self-inside.log in
    let entry = c.in-Some.entry.now in
    first_is mid.pending entry c.in-Some.ensures.entry

-- ---- memory was wanted in a shipping

pub returns-in-Err-clause-did : goal.returns-in-Err-clause-did
returns-in-Err-clause-did g c =
    let client = c.self.inside.number in
    let route = c.args.route.now in
    let before = c.self.inside.log in
    let journal = c.self.inside.journal in
    let mid = c.loop-entry.self-inside.log in
    let now = c.loop-entry.self-inside.journal in
    let i = g.K.Keeper.images c.args.keeper.now in
    let j = g.K.Keeper.images c.loop-entry.keeper in
    let t : LinkTelling = g.L.Link.tells c.args.link.now in
    let u : LinkTelling = g.L.Link.tells c.loop-entry.link in
    let entry = c.in-Some.entry.now in
    let is = c.in-Some.ensures.log in
    let first : IsFirst entry mid.pending = first_is mid.pending entry c.in-Some.ensures.entry in
    let so_far = c.loop-entry.invariant.did in
    let v : LinkTelling = g.L.Link.tells c.ship.new.link in
    ended_as client route before journal (Memory) mid now i j t v c.args.self.now c.loop-entry.self-inside.number c.self.view_is c.loop-entry.invariant.number
    (sync_breaks client route before journal mid now entry is first i j t u v so_far c.in-Err._refused c.in-Err.ensures.shipped)

pub returns-in-Err-clause-cause : goal.returns-in-Err-clause-cause
returns-in-Err-clause-cause g c = tt

pub returns-in-Err-clause-log : goal.returns-in-Err-clause-log
returns-in-Err-clause-log g c =
    went_some c.args.self.now.number c.args.route.now c.args.self.now (record { number = c.loop-entry.self-inside.number; log = c.loop-entry.self-inside.log; journal = c.loop-entry.self-inside.journal }) Memory (g.K.Keeper.images c.args.keeper.now) (g.K.Keeper.images c.loop-entry.keeper) (g.L.Link.tells c.args.link.now) (g.L.Link.tells c.ship.new.link) (returns-in-Err-clause-did g c)

pub returns-in-Err-clause-keeps : goal.returns-in-Err-clause-keeps
returns-in-Err-clause-keeps g c =
    went_keeps c.args.self.now.number c.args.route.now c.args.self.now (record { number = c.loop-entry.self-inside.number; log = c.loop-entry.self-inside.log; journal = c.loop-entry.self-inside.journal }) Memory (g.K.Keeper.images c.args.keeper.now) (g.K.Keeper.images c.loop-entry.keeper) (g.L.Link.tells c.args.link.now) (g.L.Link.tells c.ship.new.link) (returns-in-Err-clause-did g c)

pub returns-in-Err-clause-honest : goal.returns-in-Err-clause-honest
returns-in-Err-clause-honest g c =
    went_honest c.args.self.now.number c.args.route.now c.args.self.now (record { number = c.loop-entry.self-inside.number; log = c.loop-entry.self-inside.log; journal = c.loop-entry.self-inside.journal }) Memory (g.K.Keeper.images c.args.keeper.now) (g.K.Keeper.images c.loop-entry.keeper) (g.L.Link.tells c.args.link.now) (g.L.Link.tells c.ship.new.link) (returns-in-Err-clause-did g c)

pub returns-in-Err-clause-complete : goal.returns-in-Err-clause-complete
returns-in-Err-clause-complete g c = λ calm sound.
    went_settles c.args.self.now.number c.args.route.now c.args.self.now (record { number = c.loop-entry.self-inside.number; log = c.loop-entry.self-inside.log; journal = c.loop-entry.self-inside.journal }) Memory (g.K.Keeper.images c.args.keeper.now) (g.K.Keeper.images c.loop-entry.keeper) (g.L.Link.tells c.args.link.now) (g.L.Link.tells c.ship.new.link) (returns-in-Err-clause-did g c) (g.K.Keeper.faults c.args.keeper.now) (g.K.Keeper.faults c.loop-entry.keeper) (returns-in-Err-clause-cause g c) calm sound

pub returns-in-Err-clause-settled : goal.returns-in-Err-clause-settled
returns-in-Err-clause-settled g c = λ none sound.
    settled_end Memory c.loop-entry.self-inside.log (g.L.Link.tells c.args.link.now).troubles (g.L.Link.tells c.ship.new.link).troubles (g.K.Keeper.faults c.args.keeper.now) (g.K.Keeper.faults c.loop-entry.keeper) (returns-in-Err-clause-cause g c) none sound

pub returns-in-Err-clause-number : goal.returns-in-Err-clause-number
returns-in-Err-clause-number g c =
    c.loop-entry.invariant.number ∙ ap (λ (self : Client). self.number) c.self.view_is

pub returns-in-Err-clause-faults : goal.returns-in-Err-clause-faults
returns-in-Err-clause-faults g c =
    unrisen (Memory ≡ KeepFault) (g.K.Keeper.faults c.args.keeper.now) (g.K.Keeper.faults c.loop-entry.keeper) (λ is. absurd (cc)) c.loop-entry.invariant.faults

pub returns-in-Err-clause-ready : goal.returns-in-Err-clause-ready
returns-in-Err-clause-ready g c =
    subst (λ (n : ℕ). IsReady (g.K.Keeper.images c.loop-entry.keeper) c.args.route.now.image (record { number = n; log = c.loop-entry.self-inside.log; journal = c.loop-entry.self-inside.journal })) (sym c.loop-entry.invariant.number)
    (current_ready c.args.route.now.image c.self.inside.number c.loop-entry.self-inside.log c.loop-entry.self-inside.journal (g.K.Keeper.images c.loop-entry.keeper) c.loop-entry.invariant.current
    c.loop-entry.invariant.counted)

-- ---- what a reply tells is acknowledged

pub keep_upto-requires-clause-from : goal.keep_upto-requires-clause-from
keep_upto-requires-clause-from g c =
    let client = c.self.inside.number in
    let route = c.args.route.now in
    let before = c.self.inside.log in
    let journal = c.self.inside.journal in
    let mid = c.loop-entry.self-inside.log in
    let now = c.loop-entry.self-inside.journal in
    let i = g.K.Keeper.images c.args.keeper.now in
    let j = g.K.Keeper.images c.loop-entry.keeper in
    let t : LinkTelling = g.L.Link.tells c.args.link.now in
    let u : LinkTelling = g.L.Link.tells c.loop-entry.link in
    let entry = c.in-Some.entry.now in
    let is = c.in-Some.ensures.log in
    let first : IsFirst entry mid.pending = first_is mid.pending entry c.in-Some.ensures.entry in
    let so_far = c.loop-entry.invariant.did in
    let v : LinkTelling = g.L.Link.tells c.ship.new.link in
    let came = c.in-Ok.reply in
    let shipped = c.in-Ok.ensures.shipped in
    let up_is : c.taken_upto-upto.result ≡ taken_upto mid.acked came = c.taken_upto-upto.ensures ∙ ap (λ (n : ℕ). taken_upto n came) c.acked.ensures.acked in
    omega (arith, (bounds client route before journal mid now entry is first i j t u v so_far came shipped).0, up_is)

pub keep_upto-requires-clause-pending : goal.keep_upto-requires-clause-pending
keep_upto-requires-clause-pending g c =
    let client = c.self.inside.number in
    let route = c.args.route.now in
    let before = c.self.inside.log in
    let journal = c.self.inside.journal in
    let mid = c.loop-entry.self-inside.log in
    let now = c.loop-entry.self-inside.journal in
    let i = g.K.Keeper.images c.args.keeper.now in
    let j = g.K.Keeper.images c.loop-entry.keeper in
    let t : LinkTelling = g.L.Link.tells c.args.link.now in
    let u : LinkTelling = g.L.Link.tells c.loop-entry.link in
    let entry = c.in-Some.entry.now in
    let is = c.in-Some.ensures.log in
    let first : IsFirst entry mid.pending = first_is mid.pending entry c.in-Some.ensures.entry in
    let so_far = c.loop-entry.invariant.did in
    let v : LinkTelling = g.L.Link.tells c.ship.new.link in
    let came = c.in-Ok.reply in
    let shipped = c.in-Ok.ensures.shipped in
    let up_is : c.taken_upto-upto.result ≡ taken_upto mid.acked came = c.taken_upto-upto.ensures ∙ ap (λ (n : ℕ). taken_upto n came) c.acked.ensures.acked in
    omega (arith, (bounds client route before journal mid now entry is first i j t u v so_far came shipped).1, up_is)

pub keep_upto-requires-clause-ready : goal.keep_upto-requires-clause-ready
keep_upto-requires-clause-ready g c = λ rose.
    let client = c.self.inside.number in
    let route = c.args.route.now in
    let before = c.self.inside.log in
    let journal = c.self.inside.journal in
    let mid = c.loop-entry.self-inside.log in
    let now = c.loop-entry.self-inside.journal in
    let i = g.K.Keeper.images c.args.keeper.now in
    let j = g.K.Keeper.images c.loop-entry.keeper in
    let t : LinkTelling = g.L.Link.tells c.args.link.now in
    let u : LinkTelling = g.L.Link.tells c.loop-entry.link in
    let entry = c.in-Some.entry.now in
    let is = c.in-Some.ensures.log in
    let first : IsFirst entry mid.pending = first_is mid.pending entry c.in-Some.ensures.entry in
    let so_far = c.loop-entry.invariant.did in
    let v : LinkTelling = g.L.Link.tells c.ship.new.link in
    let came = c.in-Ok.reply in
    let shipped = c.in-Ok.ensures.shipped in
    let up_is : c.taken_upto-upto.result ≡ taken_upto mid.acked came = c.taken_upto-upto.ensures ∙ ap (λ (n : ℕ). taken_upto n came) c.acked.ensures.acked in
    subst (λ (n : List ℕ). MayKeep (next_notes now true (acknowledged c.taken_upto-upto.result mid)) j n client (acknowledged c.taken_upto-upto.result mid)) (sym c.bytes-image.ensures.value)
    (may_keep_acked route.image client mid c.taken_upto-upto.result rose (omega (arith, (bounds client route before journal mid now entry is first i j t u v so_far came shipped).1, up_is)) now j c.loop-entry.invariant.current)

pub keep_upto-requires-clause-counted : goal.keep_upto-requires-clause-counted
keep_upto-requires-clause-counted g c =
    let now = c.loop-entry.self-inside.journal in
    let j = g.K.Keeper.images c.loop-entry.keeper in
    subst (λ (n : List ℕ). IsCountedBy j n now) (sym c.bytes-image.ensures.value) c.loop-entry.invariant.counted

-- ---- that could not be kept

pub returns-in-Err-keep_upto-clause-did : goal.returns-in-Err-keep_upto-clause-did
returns-in-Err-keep_upto-clause-did g c =
    let client = c.self.inside.number in
    let route = c.args.route.now in
    let before = c.self.inside.log in
    let journal = c.self.inside.journal in
    let mid = c.loop-entry.self-inside.log in
    let now = c.loop-entry.self-inside.journal in
    let i = g.K.Keeper.images c.args.keeper.now in
    let j = g.K.Keeper.images c.loop-entry.keeper in
    let t : LinkTelling = g.L.Link.tells c.args.link.now in
    let u : LinkTelling = g.L.Link.tells c.loop-entry.link in
    let entry = c.in-Some.entry.now in
    let is = c.in-Some.ensures.log in
    let first : IsFirst entry mid.pending = first_is mid.pending entry c.in-Some.ensures.entry in
    let so_far = c.loop-entry.invariant.did in
    let v : LinkTelling = g.L.Link.tells c.ship.new.link in
    let came = c.in-Ok.reply in
    let shipped = c.in-Ok.ensures.shipped in
    let up_is : c.taken_upto-upto.result ≡ taken_upto mid.acked came = c.taken_upto-upto.ensures ∙ ap (λ (n : ℕ). taken_upto n came) c.acked.ensures.acked in
    let next_is : acknowledged (taken_upto mid.acked came) mid ≡ c.keep_upto.new.log = ap (λ (n : ℕ). acknowledged n mid) (sym up_is) ∙ sym c.in-Err-keep_upto.ensures.log in
    let l = g.K.Keeper.images c.keep_upto.new.keeper in
    let later = c.keep_upto.new.journal in
    let current = c.loop-entry.invariant.current in
    let refused = c.in-Err-keep_upto.refused in
    let kept : KeepsUpto route.image client mid (taken_upto mid.acked came) now later (Err refused) j l = kept_as route.image c.bytes-image.result.now client mid (taken_upto mid.acked came) c.taken_upto-upto.result now later (Err refused) j l c.bytes-image.ensures.value up_is c.in-Err-keep_upto.ensures.kept in
    ended_as client route before journal (c.unkept_end.result) c.keep_upto.new.log later i l t v c.args.self.now c.loop-entry.self-inside.number c.self.view_is c.loop-entry.invariant.number
    (subst (λ (end : SyncEnd). Ended client route before journal end c.keep_upto.new.log later i l t v) (sym c.unkept_end.ensures)
    (subst (λ (log : Log). Ended client route before journal (unkept_end refused) log later i l t v) next_is
    (sync_unkept client route before journal mid now entry is first i j t u v so_far came shipped later l current refused kept)))

pub returns-in-Err-keep_upto-clause-cause : goal.returns-in-Err-keep_upto-clause-cause
returns-in-Err-keep_upto-clause-cause g c =
    let p = g.K.Keeper.faults c.args.keeper.now in
    let m = g.K.Keeper.faults c.loop-entry.keeper in
    let q = g.K.Keeper.faults c.keep_upto.new.keeper in
    let refused = c.in-Err-keep_upto.refused in
    subst (λ (end : SyncEnd). HasSyncCause end c.keep_upto.new.log (g.L.Link.tells c.args.link.now).troubles (g.L.Link.tells c.ship.new.link).troubles p q) (sym c.unkept_end.ensures)
    (unkept_cause refused c.keep_upto.new.log _ _ p m q (omega (arith, c.loop-entry.invariant.faults)) (λ is. rose_once m q (c.in-Err-keep_upto.ensures.cause.once (ap Err is))))

pub returns-in-Err-keep_upto-clause-log : goal.returns-in-Err-keep_upto-clause-log
returns-in-Err-keep_upto-clause-log g c =
    went_some c.args.self.now.number c.args.route.now c.args.self.now (record { number = c.loop-entry.self-inside.number; log = c.keep_upto.new.log; journal = c.keep_upto.new.journal }) c.unkept_end.result (g.K.Keeper.images c.args.keeper.now) (g.K.Keeper.images c.keep_upto.new.keeper) (g.L.Link.tells c.args.link.now) (g.L.Link.tells c.ship.new.link) (returns-in-Err-keep_upto-clause-did g c)

pub returns-in-Err-keep_upto-clause-keeps : goal.returns-in-Err-keep_upto-clause-keeps
returns-in-Err-keep_upto-clause-keeps g c =
    went_keeps c.args.self.now.number c.args.route.now c.args.self.now (record { number = c.loop-entry.self-inside.number; log = c.keep_upto.new.log; journal = c.keep_upto.new.journal }) c.unkept_end.result (g.K.Keeper.images c.args.keeper.now) (g.K.Keeper.images c.keep_upto.new.keeper) (g.L.Link.tells c.args.link.now) (g.L.Link.tells c.ship.new.link) (returns-in-Err-keep_upto-clause-did g c)

pub returns-in-Err-keep_upto-clause-honest : goal.returns-in-Err-keep_upto-clause-honest
returns-in-Err-keep_upto-clause-honest g c =
    went_honest c.args.self.now.number c.args.route.now c.args.self.now (record { number = c.loop-entry.self-inside.number; log = c.keep_upto.new.log; journal = c.keep_upto.new.journal }) c.unkept_end.result (g.K.Keeper.images c.args.keeper.now) (g.K.Keeper.images c.keep_upto.new.keeper) (g.L.Link.tells c.args.link.now) (g.L.Link.tells c.ship.new.link) (returns-in-Err-keep_upto-clause-did g c)

pub returns-in-Err-keep_upto-clause-complete : goal.returns-in-Err-keep_upto-clause-complete
returns-in-Err-keep_upto-clause-complete g c = λ calm sound.
    went_settles c.args.self.now.number c.args.route.now c.args.self.now (record { number = c.loop-entry.self-inside.number; log = c.keep_upto.new.log; journal = c.keep_upto.new.journal }) c.unkept_end.result (g.K.Keeper.images c.args.keeper.now) (g.K.Keeper.images c.keep_upto.new.keeper) (g.L.Link.tells c.args.link.now) (g.L.Link.tells c.ship.new.link) (returns-in-Err-keep_upto-clause-did g c) (g.K.Keeper.faults c.args.keeper.now) (g.K.Keeper.faults c.keep_upto.new.keeper) (returns-in-Err-keep_upto-clause-cause g c) calm sound

pub returns-in-Err-keep_upto-clause-settled : goal.returns-in-Err-keep_upto-clause-settled
returns-in-Err-keep_upto-clause-settled g c = λ none sound.
    settled_end c.unkept_end.result c.keep_upto.new.log (g.L.Link.tells c.args.link.now).troubles (g.L.Link.tells c.ship.new.link).troubles (g.K.Keeper.faults c.args.keeper.now) (g.K.Keeper.faults c.keep_upto.new.keeper) (returns-in-Err-keep_upto-clause-cause g c) none sound

pub returns-in-Err-keep_upto-clause-number : goal.returns-in-Err-keep_upto-clause-number
returns-in-Err-keep_upto-clause-number g c =
    c.loop-entry.invariant.number ∙ ap (λ (self : Client). self.number) c.self.view_is

pub returns-in-Err-keep_upto-clause-faults : goal.returns-in-Err-keep_upto-clause-faults
returns-in-Err-keep_upto-clause-faults g c =
    let q = g.K.Keeper.faults c.keep_upto.new.keeper in
    subst (λ (end : SyncEnd). RisesWhere (end ≡ KeepFault) (g.K.Keeper.faults c.args.keeper.now) q) (sym c.unkept_end.ensures)
    (unkept_rises c.in-Err-keep_upto.refused (g.K.Keeper.faults c.args.keeper.now) (g.K.Keeper.faults c.loop-entry.keeper) q c.loop-entry.invariant.faults c.in-Err-keep_upto.ensures.cause)

pub returns-in-Err-keep_upto-clause-ready : goal.returns-in-Err-keep_upto-clause-ready
returns-in-Err-keep_upto-clause-ready g c =
    let client = c.self.inside.number in
    let route = c.args.route.now in
    let before = c.self.inside.log in
    let journal = c.self.inside.journal in
    let mid = c.loop-entry.self-inside.log in
    let now = c.loop-entry.self-inside.journal in
    let i = g.K.Keeper.images c.args.keeper.now in
    let j = g.K.Keeper.images c.loop-entry.keeper in
    let t : LinkTelling = g.L.Link.tells c.args.link.now in
    let u : LinkTelling = g.L.Link.tells c.loop-entry.link in
    let entry = c.in-Some.entry.now in
    let is = c.in-Some.ensures.log in
    let first : IsFirst entry mid.pending = first_is mid.pending entry c.in-Some.ensures.entry in
    let so_far = c.loop-entry.invariant.did in
    let v : LinkTelling = g.L.Link.tells c.ship.new.link in
    let came = c.in-Ok.reply in
    let shipped = c.in-Ok.ensures.shipped in
    let up_is : c.taken_upto-upto.result ≡ taken_upto mid.acked came = c.taken_upto-upto.ensures ∙ ap (λ (n : ℕ). taken_upto n came) c.acked.ensures.acked in
    let next_is : acknowledged (taken_upto mid.acked came) mid ≡ c.keep_upto.new.log = ap (λ (n : ℕ). acknowledged n mid) (sym up_is) ∙ sym c.in-Err-keep_upto.ensures.log in
    let l = g.K.Keeper.images c.keep_upto.new.keeper in
    let later = c.keep_upto.new.journal in
    let current = c.loop-entry.invariant.current in
    let kept : KeepsUpto route.image client mid (taken_upto mid.acked came) now later (Err c.in-Err-keep_upto.refused) j l = kept_as route.image c.bytes-image.result.now client mid (taken_upto mid.acked came) c.taken_upto-upto.result now later (Err c.in-Err-keep_upto.refused) j l c.bytes-image.ensures.value up_is c.in-Err-keep_upto.ensures.kept in
    let newly : JournalIsCurrent l route.image client c.keep_upto.new.log later = subst (λ (log : Log). JournalIsCurrent l route.image client log later) next_is (current_now client route before journal mid now entry is first i j t u v so_far came shipped later l current (Err c.in-Err-keep_upto.refused) kept) in
    subst (λ (n : ℕ). IsReady l route.image (record { number = n; log = c.keep_upto.new.log; journal = later })) (sym c.loop-entry.invariant.number)
    (current_ready route.image client c.keep_upto.new.log later l newly
    (subst (λ (n : List ℕ). IsCountedBy l n later) c.bytes-image.ensures.value c.in-Err-keep_upto.ensures.counted))

-- ---- what came ends the sync

pub returns-in-Some-end_by-clause-did : goal.returns-in-Some-end_by-clause-did
returns-in-Some-end_by-clause-did g c =
    let client = c.self.inside.number in
    let route = c.args.route.now in
    let before = c.self.inside.log in
    let journal = c.self.inside.journal in
    let mid = c.loop-entry.self-inside.log in
    let now = c.loop-entry.self-inside.journal in
    let i = g.K.Keeper.images c.args.keeper.now in
    let j = g.K.Keeper.images c.loop-entry.keeper in
    let t : LinkTelling = g.L.Link.tells c.args.link.now in
    let u : LinkTelling = g.L.Link.tells c.loop-entry.link in
    let entry = c.in-Some.entry.now in
    let is = c.in-Some.ensures.log in
    let first : IsFirst entry mid.pending = first_is mid.pending entry c.in-Some.ensures.entry in
    let so_far = c.loop-entry.invariant.did in
    let v : LinkTelling = g.L.Link.tells c.ship.new.link in
    let came = c.in-Ok.reply in
    let shipped = c.in-Ok.ensures.shipped in
    let up_is : c.taken_upto-upto.result ≡ taken_upto mid.acked came = c.taken_upto-upto.ensures ∙ ap (λ (n : ℕ). taken_upto n came) c.acked.ensures.acked in
    let next_is : acknowledged (taken_upto mid.acked came) mid ≡ c.keep_upto.new.log = ap (λ (n : ℕ). acknowledged n mid) (sym up_is) ∙ sym c.in_default-keep_upto.ensures.log in
    let l = g.K.Keeper.images c.keep_upto.new.keeper in
    let later = c.keep_upto.new.journal in
    let current = c.loop-entry.invariant.current in
    let end = c.in-Some-end_by.end in
    let by : end_by (taken_upto mid.acked came + 1) came ≡ Some end = same_end client route before journal mid now entry is first i j t u v so_far came shipped c.saturating_add.result end (λ fits. omega (arith, fits, up_is, c.saturating_add.ensures)) c.in-Some-end_by.ensures in
    let kept : KeepsUpto route.image client mid (taken_upto mid.acked came) now later (Ok c.in_default-keep_upto.field-0) j l = kept_as route.image c.bytes-image.result.now client mid (taken_upto mid.acked came) c.taken_upto-upto.result now later (Ok c.in_default-keep_upto.field-0) j l c.bytes-image.ensures.value up_is c.in_default-keep_upto.ensures.kept in
    ended_as client route before journal (end) c.keep_upto.new.log later i l t v c.args.self.now c.loop-entry.self-inside.number c.self.view_is c.loop-entry.invariant.number
    (subst (λ (log : Log). Ended client route before journal end log later i l t v) next_is (sync_ends client route before journal mid now entry is first i j t u v so_far came shipped later l current c.in_default-keep_upto.field-0 kept end by))

pub returns-in-Some-end_by-clause-cause : goal.returns-in-Some-end_by-clause-cause
returns-in-Some-end_by-clause-cause g c =
    let client = c.self.inside.number in
    let route = c.args.route.now in
    let before = c.self.inside.log in
    let journal = c.self.inside.journal in
    let mid = c.loop-entry.self-inside.log in
    let now = c.loop-entry.self-inside.journal in
    let i = g.K.Keeper.images c.args.keeper.now in
    let j = g.K.Keeper.images c.loop-entry.keeper in
    let t : LinkTelling = g.L.Link.tells c.args.link.now in
    let u : LinkTelling = g.L.Link.tells c.loop-entry.link in
    let entry = c.in-Some.entry.now in
    let is = c.in-Some.ensures.log in
    let first : IsFirst entry mid.pending = first_is mid.pending entry c.in-Some.ensures.entry in
    let so_far = c.loop-entry.invariant.did in
    let v : LinkTelling = g.L.Link.tells c.ship.new.link in
    let came = c.in-Ok.reply in
    let shipped = c.in-Ok.ensures.shipped in
    let up_is : c.taken_upto-upto.result ≡ taken_upto mid.acked came = c.taken_upto-upto.ensures ∙ ap (λ (n : ℕ). taken_upto n came) c.acked.ensures.acked in
    let next_is : acknowledged (taken_upto mid.acked came) mid ≡ c.keep_upto.new.log = ap (λ (n : ℕ). acknowledged n mid) (sym up_is) ∙ sym c.in_default-keep_upto.ensures.log in
    let p = g.K.Keeper.faults c.args.keeper.now in
    let q = g.K.Keeper.faults c.keep_upto.new.keeper in
    let end = c.in-Some-end_by.end in
    let by : end_by (taken_upto mid.acked came + 1) came ≡ Some end = same_end client route before journal mid now entry is first i j t u v so_far came shipped c.saturating_add.result end (λ fits. omega (arith, fits, up_is, c.saturating_add.ensures)) c.in-Some-end_by.ensures in
    subst (λ (log : Log). HasSyncCause end log t.troubles v.troubles p q) next_is
    (has_cause client route before journal mid now entry is first i j t u v so_far came shipped end p q by (λ none. omega (arith, c.loop-entry.invariant.later, shipped_troubles client route mid entry u v came shipped none)))

pub returns-in-Some-end_by-clause-log : goal.returns-in-Some-end_by-clause-log
returns-in-Some-end_by-clause-log g c =
    went_some c.args.self.now.number c.args.route.now c.args.self.now (record { number = c.loop-entry.self-inside.number; log = c.keep_upto.new.log; journal = c.keep_upto.new.journal }) c.in-Some-end_by.end (g.K.Keeper.images c.args.keeper.now) (g.K.Keeper.images c.keep_upto.new.keeper) (g.L.Link.tells c.args.link.now) (g.L.Link.tells c.ship.new.link) (returns-in-Some-end_by-clause-did g c)

pub returns-in-Some-end_by-clause-keeps : goal.returns-in-Some-end_by-clause-keeps
returns-in-Some-end_by-clause-keeps g c =
    went_keeps c.args.self.now.number c.args.route.now c.args.self.now (record { number = c.loop-entry.self-inside.number; log = c.keep_upto.new.log; journal = c.keep_upto.new.journal }) c.in-Some-end_by.end (g.K.Keeper.images c.args.keeper.now) (g.K.Keeper.images c.keep_upto.new.keeper) (g.L.Link.tells c.args.link.now) (g.L.Link.tells c.ship.new.link) (returns-in-Some-end_by-clause-did g c)

pub returns-in-Some-end_by-clause-honest : goal.returns-in-Some-end_by-clause-honest
returns-in-Some-end_by-clause-honest g c =
    went_honest c.args.self.now.number c.args.route.now c.args.self.now (record { number = c.loop-entry.self-inside.number; log = c.keep_upto.new.log; journal = c.keep_upto.new.journal }) c.in-Some-end_by.end (g.K.Keeper.images c.args.keeper.now) (g.K.Keeper.images c.keep_upto.new.keeper) (g.L.Link.tells c.args.link.now) (g.L.Link.tells c.ship.new.link) (returns-in-Some-end_by-clause-did g c)

pub returns-in-Some-end_by-clause-complete : goal.returns-in-Some-end_by-clause-complete
returns-in-Some-end_by-clause-complete g c = λ calm sound.
    went_settles c.args.self.now.number c.args.route.now c.args.self.now (record { number = c.loop-entry.self-inside.number; log = c.keep_upto.new.log; journal = c.keep_upto.new.journal }) c.in-Some-end_by.end (g.K.Keeper.images c.args.keeper.now) (g.K.Keeper.images c.keep_upto.new.keeper) (g.L.Link.tells c.args.link.now) (g.L.Link.tells c.ship.new.link) (returns-in-Some-end_by-clause-did g c) (g.K.Keeper.faults c.args.keeper.now) (g.K.Keeper.faults c.keep_upto.new.keeper) (returns-in-Some-end_by-clause-cause g c) calm sound

pub returns-in-Some-end_by-clause-settled : goal.returns-in-Some-end_by-clause-settled
returns-in-Some-end_by-clause-settled g c = λ none sound.
    settled_end c.in-Some-end_by.end c.keep_upto.new.log (g.L.Link.tells c.args.link.now).troubles (g.L.Link.tells c.ship.new.link).troubles (g.K.Keeper.faults c.args.keeper.now) (g.K.Keeper.faults c.keep_upto.new.keeper) (returns-in-Some-end_by-clause-cause g c) none sound

pub returns-in-Some-end_by-clause-number : goal.returns-in-Some-end_by-clause-number
returns-in-Some-end_by-clause-number g c =
    c.loop-entry.invariant.number ∙ ap (λ (self : Client). self.number) c.self.view_is

pub returns-in-Some-end_by-clause-faults : goal.returns-in-Some-end_by-clause-faults
returns-in-Some-end_by-clause-faults g c =
    unrisen (c.in-Some-end_by.end ≡ KeepFault) (g.K.Keeper.faults c.args.keeper.now) (g.K.Keeper.faults c.keep_upto.new.keeper) (end_by_reply c.saturating_add.result c.in-Ok.reply c.in-Some-end_by.end c.in-Some-end_by.ensures)
    (c.in_default-keep_upto.ensures.cause.never (λ is. absurd (cc)) ∙ c.loop-entry.invariant.faults)

pub returns-in-Some-end_by-clause-ready : goal.returns-in-Some-end_by-clause-ready
returns-in-Some-end_by-clause-ready g c =
    let client = c.self.inside.number in
    let route = c.args.route.now in
    let before = c.self.inside.log in
    let journal = c.self.inside.journal in
    let mid = c.loop-entry.self-inside.log in
    let now = c.loop-entry.self-inside.journal in
    let i = g.K.Keeper.images c.args.keeper.now in
    let j = g.K.Keeper.images c.loop-entry.keeper in
    let t : LinkTelling = g.L.Link.tells c.args.link.now in
    let u : LinkTelling = g.L.Link.tells c.loop-entry.link in
    let entry = c.in-Some.entry.now in
    let is = c.in-Some.ensures.log in
    let first : IsFirst entry mid.pending = first_is mid.pending entry c.in-Some.ensures.entry in
    let so_far = c.loop-entry.invariant.did in
    let v : LinkTelling = g.L.Link.tells c.ship.new.link in
    let came = c.in-Ok.reply in
    let shipped = c.in-Ok.ensures.shipped in
    let up_is : c.taken_upto-upto.result ≡ taken_upto mid.acked came = c.taken_upto-upto.ensures ∙ ap (λ (n : ℕ). taken_upto n came) c.acked.ensures.acked in
    let next_is : acknowledged (taken_upto mid.acked came) mid ≡ c.keep_upto.new.log = ap (λ (n : ℕ). acknowledged n mid) (sym up_is) ∙ sym c.in_default-keep_upto.ensures.log in
    let l = g.K.Keeper.images c.keep_upto.new.keeper in
    let later = c.keep_upto.new.journal in
    let current = c.loop-entry.invariant.current in
    let kept : KeepsUpto route.image client mid (taken_upto mid.acked came) now later (Ok c.in_default-keep_upto.field-0) j l = kept_as route.image c.bytes-image.result.now client mid (taken_upto mid.acked came) c.taken_upto-upto.result now later (Ok c.in_default-keep_upto.field-0) j l c.bytes-image.ensures.value up_is c.in_default-keep_upto.ensures.kept in
    let newly : JournalIsCurrent l route.image client c.keep_upto.new.log later = subst (λ (log : Log). JournalIsCurrent l route.image client log later) next_is (current_now client route before journal mid now entry is first i j t u v so_far came shipped later l current (Ok c.in_default-keep_upto.field-0) kept) in
    subst (λ (n : ℕ). IsReady l route.image (record { number = n; log = c.keep_upto.new.log; journal = later })) (sym c.loop-entry.invariant.number)
    (current_ready route.image client c.keep_upto.new.log later l newly
    (subst (λ (n : List ℕ). IsCountedBy l n later) c.bytes-image.ensures.value c.in_default-keep_upto.ensures.counted))

-- ---- the sync goes on

pub loop-entry-smaller : goal.loop-entry-smaller
loop-entry-smaller g c =
    let client = c.self.inside.number in
    let route = c.args.route.now in
    let before = c.self.inside.log in
    let journal = c.self.inside.journal in
    let mid = c.loop-entry.self-inside.log in
    let now = c.loop-entry.self-inside.journal in
    let i = g.K.Keeper.images c.args.keeper.now in
    let j = g.K.Keeper.images c.loop-entry.keeper in
    let t : LinkTelling = g.L.Link.tells c.args.link.now in
    let u : LinkTelling = g.L.Link.tells c.loop-entry.link in
    let entry = c.in-Some.entry.now in
    let is = c.in-Some.ensures.log in
    let first : IsFirst entry mid.pending = first_is mid.pending entry c.in-Some.ensures.entry in
    let so_far = c.loop-entry.invariant.did in
    let v : LinkTelling = g.L.Link.tells c.ship.new.link in
    let came = c.in-Ok.reply in
    let shipped = c.in-Ok.ensures.shipped in
    let up_is : c.taken_upto-upto.result ≡ taken_upto mid.acked came = c.taken_upto-upto.ensures ∙ ap (λ (n : ℕ). taken_upto n came) c.acked.ensures.acked in
    let on : None ≡ end_by c.saturating_add.result came = c.in_default-end_by.ensures in
    shorter mid c.keep_upto.new.log c.taken_upto-upto.result (omega (arith, up_is, rises client route before journal mid now entry is first i j t u v so_far came shipped c.saturating_add.result on)) (first_pending mid.pending entry first) c.in_default-keep_upto.ensures.log

pub loop-entry-preserved : goal.loop-entry-preserved
loop-entry-preserved g c =
    let client = c.self.inside.number in
    let route = c.args.route.now in
    let before = c.self.inside.log in
    let journal = c.self.inside.journal in
    let mid = c.loop-entry.self-inside.log in
    let now = c.loop-entry.self-inside.journal in
    let i = g.K.Keeper.images c.args.keeper.now in
    let j = g.K.Keeper.images c.loop-entry.keeper in
    let t : LinkTelling = g.L.Link.tells c.args.link.now in
    let u : LinkTelling = g.L.Link.tells c.loop-entry.link in
    let entry = c.in-Some.entry.now in
    let is = c.in-Some.ensures.log in
    let first : IsFirst entry mid.pending = first_is mid.pending entry c.in-Some.ensures.entry in
    let so_far = c.loop-entry.invariant.did in
    let v : LinkTelling = g.L.Link.tells c.ship.new.link in
    let came = c.in-Ok.reply in
    let shipped = c.in-Ok.ensures.shipped in
    let up_is : c.taken_upto-upto.result ≡ taken_upto mid.acked came = c.taken_upto-upto.ensures ∙ ap (λ (n : ℕ). taken_upto n came) c.acked.ensures.acked in
    let next_is : acknowledged (taken_upto mid.acked came) mid ≡ c.keep_upto.new.log = ap (λ (n : ℕ). acknowledged n mid) (sym up_is) ∙ sym c.in_default-keep_upto.ensures.log in
    let l = g.K.Keeper.images c.keep_upto.new.keeper in
    let later = c.keep_upto.new.journal in
    let current = c.loop-entry.invariant.current in
    let on : None ≡ end_by c.saturating_add.result came = c.in_default-end_by.ensures in
    let kept : KeepsUpto route.image client mid (taken_upto mid.acked came) now later (Ok c.in_default-keep_upto.field-0) j l = kept_as route.image c.bytes-image.result.now client mid (taken_upto mid.acked came) c.taken_upto-upto.result now later (Ok c.in_default-keep_upto.field-0) j l c.bytes-image.ensures.value up_is c.in_default-keep_upto.ensures.kept in
    let newly : JournalIsCurrent l route.image client c.keep_upto.new.log later = subst (λ (log : Log). JournalIsCurrent l route.image client log later) next_is (current_now client route before journal mid now entry is first i j t u v so_far came shipped later l current (Ok c.in_default-keep_upto.field-0) kept) in
    record {
      later = omega (arith, c.loop-entry.invariant.later, c.in-Ok.ensures.later);
      faults = c.in_default-keep_upto.ensures.cause.never (λ is. absurd (cc)) ∙ c.loop-entry.invariant.faults;
      number = c.loop-entry.invariant.number;
      current = newly;
      counted = subst (λ (n : List ℕ). IsCountedBy l n later) c.bytes-image.ensures.value c.in_default-keep_upto.ensures.counted;
      did = subst (λ (log : Log). WentSoFar client route before journal log later i l t v) next_is (acked_more client route before journal mid now entry is first i j t u v so_far came shipped later l current c.in_default-keep_upto.field-0 kept c.saturating_add.result on);
    }

-- ---- nothing is pending

pub returns-clause-did : goal.returns-clause-did
returns-clause-did g c =
    let client = c.self.inside.number in
    let route = c.args.route.now in
    let before = c.self.inside.log in
    let journal = c.self.inside.journal in
    let mid = c.loop-entry.self-inside.log in
    let now = c.loop-entry.self-inside.journal in
    let i = g.K.Keeper.images c.args.keeper.now in
    let j = g.K.Keeper.images c.loop-entry.keeper in
    let t : LinkTelling = g.L.Link.tells c.args.link.now in
    let u : LinkTelling = g.L.Link.tells c.loop-entry.link in
    let so_far = c.loop-entry.invariant.did in
    ended_as client route before journal (Synced c.acked-2.result) mid now i j t u c.args.self.now c.loop-entry.self-inside.number c.self.view_is c.loop-entry.invariant.number
    (subst (λ (n : ℕ). Ended client route before journal (Synced n) mid now i j t u) (sym c.acked-2.ensures.acked)
    (sync_synced client route before journal mid now i j t u (none_is mid.pending c.in_default.ensures.entry) so_far))

pub returns-clause-cause : goal.returns-clause-cause
returns-clause-cause g c =
    let mid = c.loop-entry.self-inside.log in
    (none_is mid.pending c.in_default.ensures.entry, c.acked-2.ensures.acked)

pub returns-clause-log : goal.returns-clause-log
returns-clause-log g c =
    went_some c.args.self.now.number c.args.route.now c.args.self.now (record { number = c.loop-entry.self-inside.number; log = c.loop-entry.self-inside.log; journal = c.loop-entry.self-inside.journal }) (Synced c.acked-2.result) (g.K.Keeper.images c.args.keeper.now) (g.K.Keeper.images c.loop-entry.keeper) (g.L.Link.tells c.args.link.now) (g.L.Link.tells c.loop-entry.link) (returns-clause-did g c)

pub returns-clause-keeps : goal.returns-clause-keeps
returns-clause-keeps g c =
    went_keeps c.args.self.now.number c.args.route.now c.args.self.now (record { number = c.loop-entry.self-inside.number; log = c.loop-entry.self-inside.log; journal = c.loop-entry.self-inside.journal }) (Synced c.acked-2.result) (g.K.Keeper.images c.args.keeper.now) (g.K.Keeper.images c.loop-entry.keeper) (g.L.Link.tells c.args.link.now) (g.L.Link.tells c.loop-entry.link) (returns-clause-did g c)

pub returns-clause-honest : goal.returns-clause-honest
returns-clause-honest g c =
    went_honest c.args.self.now.number c.args.route.now c.args.self.now (record { number = c.loop-entry.self-inside.number; log = c.loop-entry.self-inside.log; journal = c.loop-entry.self-inside.journal }) (Synced c.acked-2.result) (g.K.Keeper.images c.args.keeper.now) (g.K.Keeper.images c.loop-entry.keeper) (g.L.Link.tells c.args.link.now) (g.L.Link.tells c.loop-entry.link) (returns-clause-did g c)

pub returns-clause-complete : goal.returns-clause-complete
returns-clause-complete g c = λ calm sound.
    went_settles c.args.self.now.number c.args.route.now c.args.self.now (record { number = c.loop-entry.self-inside.number; log = c.loop-entry.self-inside.log; journal = c.loop-entry.self-inside.journal }) (Synced c.acked-2.result) (g.K.Keeper.images c.args.keeper.now) (g.K.Keeper.images c.loop-entry.keeper) (g.L.Link.tells c.args.link.now) (g.L.Link.tells c.loop-entry.link) (returns-clause-did g c) (g.K.Keeper.faults c.args.keeper.now) (g.K.Keeper.faults c.loop-entry.keeper) (returns-clause-cause g c) calm sound

pub returns-clause-settled : goal.returns-clause-settled
returns-clause-settled g c = λ none sound.
    settled_end (Synced c.acked-2.result) c.loop-entry.self-inside.log (g.L.Link.tells c.args.link.now).troubles (g.L.Link.tells c.loop-entry.link).troubles (g.K.Keeper.faults c.args.keeper.now) (g.K.Keeper.faults c.loop-entry.keeper) (returns-clause-cause g c) none sound

pub returns-clause-number : goal.returns-clause-number
returns-clause-number g c =
    c.loop-entry.invariant.number ∙ ap (λ (self : Client). self.number) c.self.view_is

pub returns-clause-faults : goal.returns-clause-faults
returns-clause-faults g c =
    unrisen (Synced c.acked-2.result ≡ KeepFault) (g.K.Keeper.faults c.args.keeper.now) (g.K.Keeper.faults c.loop-entry.keeper) (λ is. absurd (cc)) c.loop-entry.invariant.faults

pub returns-clause-ready : goal.returns-clause-ready
returns-clause-ready g c =
    subst (λ (n : ℕ). IsReady (g.K.Keeper.images c.loop-entry.keeper) c.args.route.now.image (record { number = n; log = c.loop-entry.self-inside.log; journal = c.loop-entry.self-inside.journal })) (sym c.loop-entry.invariant.number)
    (current_ready c.args.route.now.image c.self.inside.number c.loop-entry.self-inside.log c.loop-entry.self-inside.journal (g.K.Keeper.images c.loop-entry.keeper) c.loop-entry.invariant.current
    c.loop-entry.invariant.counted)
