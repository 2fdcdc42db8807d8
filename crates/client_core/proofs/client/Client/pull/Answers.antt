use Rattle.std.proofs.Common.{is_some, None, false, ◌≡◌, ◌≢◌, ◌∙◌, ℕ, List, refl, sym, subst}
use Rattle.outside.specs.Outside.{Told, RisesWhere}
use Rattle.world_rules.specs.Telling.{LinkTelling}
use Rattle.client_core.specs.Client.{Client}
use Rattle.client_core.specs.declared.pulling.PullEnd.{PullEnd}
use Rattle.client_core.specs.declared.pulling.PullEnd.TheVariants.{Pulled, KeepFault}
use Rattle.client_core.specs.declared.pulling.Pulling.TheVariants.{Ended}
use Rattle.mod_log.specs.Log.{Log}
use Rattle.client_core.specs.Inside.{PullLeaves, IsCountedBy}
use Rattle.client_core.specs.Pulling.{IsKeptBase, PullEnds, is_broken_pull}
use Rattle.client_core.specs.Keeping.{IsKept, IsReady, KeepsNext, WritesNext}
use Rattle.client_core.specs.Causes.{HasPullCause, PullKeeps, PullWrites}
use Rattle.client_core.specs.Goes.{Went}
use Rattle.client_core.specs.Honest.{FromInStep, IsNotOlder}
use Rattle.client_core.proofs.Journal.{KeepsLog, JournalIsCurrent, current_ready, none_added, next_keeps, next_current}
use Rattle.client_core.proofs.Counting.{rose_once, unrisen, pulled_rises}
use Rattle.client_core.proofs.Pulls.{pulled_went, unchanged_went, pull_keeps, pull_keeps_same, pulled_cause, older_never, leaves_same, kept_pulled, pulled_writes, unchanged_writes}
use Rattle.client_core.proofs.Truths.{pull_not_other}
use Rattle.client_core.proofs.client.Client.pull.Goals as goal

-- ---- rows were taken

pub returns-clause-did : goal.returns-clause-did
returns-clause-did g c =
    let client = c.self.inside.number in
    let route = c.args.route.now in
    let before = c.self.inside.log in
    let after = c.pull_log.new.log in
    let i = g.K.Keeper.images c.args.keeper.now in
    let t : LinkTelling = g.L.Link.tells c.args.link.now in
    let u : LinkTelling = g.L.Link.tells c.pull_log.new.link in
    let keeps : IsKept i route.image client before = subst (λ (self : Client). IsKept i route.image self.number self.log) (sym c.self.view_is) c.requires.0 in
    let count = c.in-Replaced.count in
    let r = c.keep_log-kept.result in
    let end = c.pulled_end.result in
    let l = g.K.Keeper.images c.keep_log-kept.new.keeper in
    let save : Told i l (KeepsLog route.image client after r) =
    next_keeps route.image client after None r i l (none_added i) (subst (λ (n : List ℕ). Told i l (KeepsNext n client after None r)) c.bytes.ensures.value c.keep_log-kept.ensures.kept) in
    subst (λ (self : Client). Went self.number (is_some route.surrogate) route.image (PullEnds self.number route self.log end after) self.log after i l t u) c.self.view_is
    (subst (λ (e : PullEnd). Went client (is_some route.surrogate) route.image (PullEnds client route before e after) before after i l t u) (sym c.pulled_end.ensures)
    (pulled_went client route before after i l t u count r c.in-Replaced.ensures.leaves.2 save (c.in-Replaced.ensures.did i keeps)))

pub returns-clause-cause : goal.returns-clause-cause
returns-clause-cause g c =
    let client = c.self.inside.number in
    let route = c.args.route.now in
    let before = c.self.inside.log in
    let after = c.pull_log.new.log in
    let i = g.K.Keeper.images c.args.keeper.now in
    let t : LinkTelling = g.L.Link.tells c.args.link.now in
    let u : LinkTelling = g.L.Link.tells c.pull_log.new.link in
    let count = c.in-Replaced.count in
    let r = c.keep_log-kept.result in
    let end = c.pulled_end.result in
    let l = g.K.Keeper.images c.keep_log-kept.new.keeper in
    let p = g.K.Keeper.faults c.args.keeper.now in
    let q = g.K.Keeper.faults c.keep_log-kept.new.keeper in
    subst (λ (self : Client). HasPullCause end self.log after t.troubles u.troubles p q) c.self.view_is
    (subst (λ (e : PullEnd). HasPullCause e before after t.troubles u.troubles p q) (sym c.pulled_end.ensures)
    (pulled_cause before after t.troubles u.troubles p q count r (c.in-Replaced.ensures.cause p q) c.in-Replaced.ensures.leaves.1 (λ is. rose_once p q (c.keep_log-kept.ensures.cause.once is))))

pub returns-clause-keeps : goal.returns-clause-keeps
returns-clause-keeps g c =
    let client = c.self.inside.number in
    let route = c.args.route.now in
    let before = c.self.inside.log in
    let after = c.pull_log.new.log in
    let i = g.K.Keeper.images c.args.keeper.now in
    let t : LinkTelling = g.L.Link.tells c.args.link.now in
    let u : LinkTelling = g.L.Link.tells c.pull_log.new.link in
    let keeps : IsKept i route.image client before = subst (λ (self : Client). IsKept i route.image self.number self.log) (sym c.self.view_is) c.requires.0 in
    let count = c.in-Replaced.count in
    let r = c.keep_log-kept.result in
    let end = c.pulled_end.result in
    let l = g.K.Keeper.images c.keep_log-kept.new.keeper in
    let save : Told i l (KeepsLog route.image client after r) =
    next_keeps route.image client after None r i l (none_added i) (subst (λ (n : List ℕ). Told i l (KeepsNext n client after None r)) c.bytes.ensures.value c.keep_log-kept.ensures.kept) in
    subst (λ (self : Client). PullKeeps route.image self.number self.log end after i l) c.self.view_is
    (subst (λ (e : PullEnd). PullKeeps route.image client before e after i l) (sym c.pulled_end.ensures)
    (pull_keeps route.image client before after i l keeps count r c.in-Replaced.ensures.leaves.1 save))

pub returns-clause-honest : goal.returns-clause-honest
returns-clause-honest g c =
    let route = c.args.route.now in
    let after = c.pull_log.new.log in
    let i = g.K.Keeper.images c.args.keeper.now in
    let t : LinkTelling = g.L.Link.tells c.args.link.now in
    let u : LinkTelling = g.L.Link.tells c.pull_log.new.link in
    let count = c.in-Replaced.count in
    let r = c.keep_log-kept.result in
    let end = c.pulled_end.result in
    let l = g.K.Keeper.images c.keep_log-kept.new.keeper in
    pull_not_other c.args.self.now.number route c.args.self.now.log after (is_some route.surrogate) route.image end i l t u (returns-clause-did g c)

pub returns-clause-fresh : goal.returns-clause-fresh
returns-clause-fresh g c = λ calm.
    let client = c.self.inside.number in
    let route = c.args.route.now in
    let before = c.self.inside.log in
    let after = c.pull_log.new.log in
    let i = g.K.Keeper.images c.args.keeper.now in
    let t : LinkTelling = g.L.Link.tells c.args.link.now in
    let u : LinkTelling = g.L.Link.tells c.pull_log.new.link in
    let count = c.in-Replaced.count in
    let r = c.keep_log-kept.result in
    let end = c.pulled_end.result in
    let l = g.K.Keeper.images c.keep_log-kept.new.keeper in
    subst (λ (self : Client). FromInStep self.number self.log t u (λ new. IsNotOlder end)) c.self.view_is
    (older_never client before t.world u.world _ count r end c.pulled_end.ensures (c.in-Replaced.ensures.fresh calm))

-- ---- nothing was changed

pub returns-in-Ended-clause-did : goal.returns-in-Ended-clause-did
returns-in-Ended-clause-did g c =
    let client = c.self.inside.number in
    let route = c.args.route.now in
    let before = c.self.inside.log in
    let after = c.pull_log.new.log in
    let i = g.K.Keeper.images c.args.keeper.now in
    let t : LinkTelling = g.L.Link.tells c.args.link.now in
    let u : LinkTelling = g.L.Link.tells c.pull_log.new.link in
    let keeps : IsKept i route.image client before = subst (λ (self : Client). IsKept i route.image self.number self.log) (sym c.self.view_is) c.requires.0 in
    let end = c.in-Ended.end in
    subst (λ (self : Client). Went self.number (is_some route.surrogate) route.image (PullEnds self.number route self.log end after) self.log after i i t u) c.self.view_is
    (unchanged_went client route before after i t u end c.in-Ended.ensures.leaves (c.in-Ended.ensures.did i keeps))

pub returns-in-Ended-clause-cause : goal.returns-in-Ended-clause-cause
returns-in-Ended-clause-cause g c =
    let client = c.self.inside.number in
    let route = c.args.route.now in
    let before = c.self.inside.log in
    let after = c.pull_log.new.log in
    let i = g.K.Keeper.images c.args.keeper.now in
    let t : LinkTelling = g.L.Link.tells c.args.link.now in
    let u : LinkTelling = g.L.Link.tells c.pull_log.new.link in
    let p = g.K.Keeper.faults c.args.keeper.now in
    subst (λ (self : Client). HasPullCause c.in-Ended.end self.log after t.troubles u.troubles p p) c.self.view_is (c.in-Ended.ensures.cause p p)

pub returns-in-Ended-clause-keeps : goal.returns-in-Ended-clause-keeps
returns-in-Ended-clause-keeps g c =
    let client = c.self.inside.number in
    let route = c.args.route.now in
    let before = c.self.inside.log in
    let after = c.pull_log.new.log in
    let i = g.K.Keeper.images c.args.keeper.now in
    let t : LinkTelling = g.L.Link.tells c.args.link.now in
    let u : LinkTelling = g.L.Link.tells c.pull_log.new.link in
    let keeps : IsKept i route.image client before = subst (λ (self : Client). IsKept i route.image self.number self.log) (sym c.self.view_is) c.requires.0 in
    let end = c.in-Ended.end in
    subst (λ (self : Client). PullKeeps route.image self.number self.log end after i i) c.self.view_is
    (pull_keeps_same route.image client before after i i keeps end c.in-Ended.ensures.leaves)

pub returns-in-Ended-clause-honest : goal.returns-in-Ended-clause-honest
returns-in-Ended-clause-honest g c =
    let route = c.args.route.now in
    let after = c.pull_log.new.log in
    let i = g.K.Keeper.images c.args.keeper.now in
    let t : LinkTelling = g.L.Link.tells c.args.link.now in
    let u : LinkTelling = g.L.Link.tells c.pull_log.new.link in
    pull_not_other c.args.self.now.number route c.args.self.now.log after (is_some route.surrogate) route.image c.in-Ended.end i i t u (returns-in-Ended-clause-did g c)

pub returns-in-Ended-clause-fresh : goal.returns-in-Ended-clause-fresh
returns-in-Ended-clause-fresh g c = λ calm.
    let client = c.self.inside.number in
    let route = c.args.route.now in
    let before = c.self.inside.log in
    let after = c.pull_log.new.log in
    let i = g.K.Keeper.images c.args.keeper.now in
    let t : LinkTelling = g.L.Link.tells c.args.link.now in
    let u : LinkTelling = g.L.Link.tells c.pull_log.new.link in
    subst (λ (self : Client). FromInStep self.number self.log t u (λ new. IsNotOlder c.in-Ended.end)) c.self.view_is (c.in-Ended.ensures.fresh calm)

-- ---- how often the keeper failed

pub returns-clause-faults : goal.returns-clause-faults
returns-clause-faults g c =
    let p = g.K.Keeper.faults c.args.keeper.now in
    let q = g.K.Keeper.faults c.keep_log-kept.new.keeper in
    subst (λ (e : PullEnd). RisesWhere (e ≡ KeepFault) p q) (sym c.pulled_end.ensures) (pulled_rises c.in-Replaced.count c.keep_log-kept.result p q c.keep_log-kept.ensures.cause)

pub returns-in-Ended-clause-faults : goal.returns-in-Ended-clause-faults
returns-in-Ended-clause-faults g c =
    let p = g.K.Keeper.faults c.args.keeper.now in
    unrisen (c.in-Ended.end ≡ KeepFault) p p (λ is. subst (λ (e : PullEnd). PullLeaves (Ended e) c.self.inside.log c.pull_log.new.log) is c.in-Ended.ensures.leaves) refl

-- ---- what the next keeping finds

pub returns-clause-ready : goal.returns-clause-ready
returns-clause-ready g c =
    let client = c.self.inside.number in
    let route = c.args.route.now in
    let after = c.pull_log.new.log in
    let i = g.K.Keeper.images c.args.keeper.now in
    let r = c.keep_log-kept.result in
    let l = g.K.Keeper.images c.keep_log-kept.new.keeper in
    let told : Told i l (KeepsNext route.image client after None r) = subst (λ (n : List ℕ). Told i l (KeepsNext n client after None r)) c.bytes.ensures.value c.keep_log-kept.ensures.kept in
    current_ready route.image client after c.keep_log-kept.new.journal l
    (subst (JournalIsCurrent l route.image client after) (sym c.keep_log-kept.ensures.journal) (next_current route.image client after None None r i l told))
    (subst (λ (n : List ℕ). IsCountedBy l n c.keep_log-kept.new.journal) c.bytes.ensures.value c.keep_log-kept.ensures.counted)

pub returns-in-Ended-clause-ready : goal.returns-in-Ended-clause-ready
returns-in-Ended-clause-ready g c =
    let client = c.self.inside.number in
    let route = c.args.route.now in
    let before = c.self.inside.log in
    let i = g.K.Keeper.images c.args.keeper.now in
    let end = c.in-Ended.end in
    let ready : IsReady i route.image (record { number = client; log = before; journal = c.self.inside.journal }) = subst (IsReady i route.image) (sym c.self.view_is) c.requires.1 in
    subst (λ (log : Log). IsReady i route.image (record { number = client; log = log; journal = c.self.inside.journal })) (sym (leaves_same before c.pull_log.new.log end c.in-Ended.ensures.leaves)) ready

-- ---- what is as before

pub returns-clause-unchanged : goal.returns-clause-unchanged
returns-clause-unchanged g c = λ whole other.
    absurd (kept_pulled c.in-Replaced.count c.keep_log-kept.result (subst (λ (e : PullEnd). is_broken_pull e ≡ false) c.pulled_end.ensures whole)
    (subst (λ (e : PullEnd). (count : ℕ) → e ≢ Pulled count) c.pulled_end.ensures other))

pub returns-in-Ended-clause-unchanged : goal.returns-in-Ended-clause-unchanged
returns-in-Ended-clause-unchanged g c = λ whole other.
    let same = leaves_same c.self.inside.log c.pull_log.new.log c.in-Ended.end c.in-Ended.ensures.leaves in
    let before : Client = record { number = c.self.inside.number; log = c.self.inside.log; journal = c.self.inside.journal } in
    let after : Client = record { number = c.self.inside.number; log = c.pull_log.new.log; journal = c.self.inside.journal } in
    let stays : after ≡ before = λ k. record { number = c.self.inside.number; log = same k; journal = c.self.inside.journal } in
    (stays ∙ c.self.view_is, refl)

-- ---- what is written

pub returns-clause-writes : goal.returns-clause-writes
returns-clause-writes g c =
    let client = c.self.inside.number in
    let route = c.args.route.now in
    let before = c.self.inside.log in
    let after = c.pull_log.new.log in
    let i = g.K.Keeper.images c.args.keeper.now in
    let l = g.K.Keeper.images c.keep_log-kept.new.keeper in
    let r = c.keep_log-kept.result in
    subst (λ (self : Client). PullWrites route.image self.number self.log c.pulled_end.result after i l) c.self.view_is
    (subst (λ (e : PullEnd). PullWrites route.image client before e after i l) (sym c.pulled_end.ensures)
    (pulled_writes route.image client before after i l c.in-Replaced.count r c.in-Replaced.ensures.leaves.2
    (subst (λ (n : List ℕ). Told i l (WritesNext n client after None r)) c.bytes.ensures.value c.keep_log-kept.ensures.writes)))

pub returns-in-Ended-clause-writes : goal.returns-in-Ended-clause-writes
returns-in-Ended-clause-writes g c =
    let route = c.args.route.now in
    let after = c.pull_log.new.log in
    let i = g.K.Keeper.images c.args.keeper.now in
    subst (λ (self : Client). PullWrites route.image self.number self.log c.in-Ended.end after i i) c.self.view_is
    (unchanged_writes route.image c.self.inside.number c.self.inside.log after i c.in-Ended.end c.in-Ended.ensures.leaves)

pub returns-clause-untouched : goal.returns-clause-untouched
returns-clause-untouched g c = λ kept.
    absurd (c.in-Replaced.ensures.leaves.2 (subst (λ (self : Client). IsKeptBase self.log c.pull_log.new.log.base) (sym c.self.view_is) kept))

pub returns-in-Ended-clause-untouched : goal.returns-in-Ended-clause-untouched
returns-in-Ended-clause-untouched g c = λ kept.
    let same = leaves_same c.self.inside.log c.pull_log.new.log c.in-Ended.end c.in-Ended.ensures.leaves in
    let before : Client = record { number = c.self.inside.number; log = c.self.inside.log; journal = c.self.inside.journal } in
    let after : Client = record { number = c.self.inside.number; log = c.pull_log.new.log; journal = c.self.inside.journal } in
    let stays : after ≡ before = λ k. record { number = c.self.inside.number; log = same k; journal = c.self.inside.journal } in
    (stays ∙ c.self.view_is, refl)
