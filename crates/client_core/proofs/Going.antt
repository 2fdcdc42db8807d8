-- How what a client did goes on from call to call.
use Rattle.std.proofs.Common.{Bool, ◌≡◌, ◌≢◌, ◌⊎◌, inl, inr, ⊎_elim, ℕ, zero, suc, ◌+◌, ◌-◌, ◌<◌, ◌≤◌, List, [], ◌∷◌, ◌++◌, drop, Option, None, Some, unwrap_or, option_map, Result, Ok, Err, IfOk, refl, sym, ◌∙◌, ap, subst, arith, append_assoc}
use Rattle.std.specs.Prelude.{if◌then◌else◌}
use Rattle.std.proofs.lemmas.Bool.{lt-ltb, le-ltb}
use Rattle.std.proofs.lemmas.List.{append-nil}
use Rattle.outside.specs.Outside.{Told, RoseBy, Rose}
use Rattle.cmd_capture.specs.declared.runner.Run.{Run}
use Rattle.cmd_capture.specs.Runs.{RunnerTelling, HasRun}
use Rattle.outside.specs.Keeper.{Images}
use Rattle.tree_values.specs.Lists.{IsIn}
use Rattle.vol_tree.proofs.Behind.{IsIn-left, IsIn-right}
use Rattle.mod_log.specs.declared.log.Entry.{Entry}
use Rattle.mod_log.specs.Log.{Log, IsLog, logged, acknowledged, tree_after}
use Rattle.wire_frames.specs.declared.message.Message.{Message}
use Rattle.world_rules.specs.declared.asking.Ask.{Ask}
use Rattle.world_rules.specs.World.{World}
use Rattle.world_rules.specs.Telling.{LinkTelling, ToldWorlds, HadTroubles}
use Rattle.world_rules.specs.Settling.{failed_asks}
use Rattle.world_rules.specs.InStep.{InStep, HasNoCollision, TellsTaken}
use Rattle.world_rules.specs.Run.{State, Runs, kept_at, Acknowledges, Logs, Saves}
use Rattle.world_rules.proofs.Asks.{told_then, told_as, told_start, in_either}
use Rattle.world_rules.proofs.Colliding.{fewer_collide}
use Rattle.world_rules.proofs.Runs.{runs_none, runs_then, runs_once, runs_in_step, run_packets, pending_later}
use Rattle.world_rules.proofs.Settled.{failed-append}
use Rattle.store_image.specs.Image.{Keeps}
use Rattle.client_core.specs.declared.pulling.PullEnd.{PullEnd}
use Rattle.client_core.specs.Trace.{Trace, nothing, followed, asking, changing, logging, running, pulling, last_log, log_before_last, IsLastOrBefore}
use Rattle.client_core.specs.Syncing.{acknowledging}
use Rattle.client_core.specs.Keeping.{OthersStay, IsSmall, StaysSmall, IsKept, Kept, Keeping}
use Rattle.client_core.specs.Goes.{Goes, WorldGoes, stand, no_runner}
use Rattle.client_core.specs.Honest.{IsTruePull}
use Rattle.client_core.proofs.Journal.{KeepsLog}

-- ---- traces

pub followed-nothing : (trace : Trace) → trace ≡ followed trace nothing
followed-nothing trace =
    let missed : trace.missed ≡ trace.missed + 0 = omega arith in
    λ i. record {
      asks = sym (append-nil trace.asks) i;
      runs = sym (append-nil trace.runs) i;
      missed = missed i;
      entries = sym (append-nil trace.entries) i;
      changes = sym (append-nil trace.changes) i;
      pulls = sym (append-nil trace.pulls) i;
    }

pub followed-assoc : (a b c : Trace) → followed (followed a b) c ≡ followed a (followed b c)
followed-assoc a b c =
    let missed : a.missed + b.missed + c.missed ≡ a.missed + (b.missed + c.missed) = omega arith in
    λ i. record {
      asks = append_assoc a.asks b.asks c.asks i;
      runs = append_assoc a.runs b.runs c.runs i;
      missed = missed i;
      entries = append_assoc a.entries b.entries c.entries i;
      changes = append_assoc a.changes b.changes c.changes i;
      pulls = append_assoc a.pulls b.pulls c.pulls i;
    }

-- ---- what a last turn acknowledges

-- a log that acknowledges up to its own number stays
pub acknowledged_same : (log : Log) (upto : ℕ) → upto ≡ log.acked → acknowledged upto log ≡ log
acknowledged_same log upto is =
    let none : upto - log.acked ≡ 0 = omega (arith, is) in
    λ i. record { acked = is i; base = tree_after (none i) log; pending = drop (none i) log.pending }

pub acknowledging_some : (before after : Log) → before.acked < after.acked → acknowledging before after ≡ changing after
acknowledging_some before after more = ap (λ (test : Bool). if test then changing after else nothing) (lt-ltb before.acked after.acked more)

pub acknowledging_none : (before after : Log) → after.acked ≡ before.acked → acknowledging before after ≡ nothing
acknowledging_none before after same =
    let low : after.acked ≤ before.acked = omega (arith, same) in
    ap (λ (test : Bool). if test then changing after else nothing) (le-ltb before.acked after.acked low)

pub changed_so : (changes : List Log) (change : Log) (more : List Log) → changes ≡ change ∷ more → changes ≢ []
changed_so changes change more is = λ none. absurd (cc (sym none ∙ is))

-- ---- what a runner tells

none_more : (runs : Option (List Run)) → runs ≡ option_map (λ list. list ++ []) runs
none_more None = refl
none_more (Some runs) = ap Some (sym (append-nil runs))

more_then : (runs : Option (List Run)) (xs ys : List Run) → option_map (λ list. list ++ ys) (option_map (λ list. list ++ xs) runs) ≡ option_map (λ list. list ++ (xs ++ ys)) runs
more_then None xs ys = refl
more_then (Some runs) xs ys = ap Some (append_assoc runs xs ys)

-- a runner that is left alone
pub has_run_none : (r : RunnerTelling) → HasRun [] 0 r r
has_run_none r = record { told = none_more r.runs; counted = omega arith }

pub has_run_then : (xs ys : List Run) (m n : ℕ) (p q r : RunnerTelling) → HasRun xs m p q → HasRun ys n q r → HasRun (xs ++ ys) (m + n) p r
has_run_then xs ys m n p q r first second = record {
  told = second.told ∙ ap (option_map (λ list. list ++ ys)) first.told ∙ more_then p.runs xs ys;
  counted = omega (arith, first.counted, second.counted);
}

-- what made no run of one runner made none of any
pub has_run_alone : (xs : List Run) (m : ℕ) (r : RunnerTelling) → HasRun xs m no_runner no_runner → HasRun xs m r r
has_run_alone xs m r alone =
    let none : [] ≡ xs = ap (λ (told : Option (List Run)). unwrap_or told []) alone.told in
    let sound : 0 ≡ m = omega (arith, alone.counted) in
    subst (λ (runs : List Run). HasRun runs m r r) none (subst (λ (n : ℕ). HasRun [] n r r) sound (has_run_none r))

-- ---- what is kept

pub last_log-append : (log : Log) (xs ys : List Log) → last_log log (xs ++ ys) ≡ last_log (last_log log xs) ys
last_log-append log [] ys = refl
last_log-append log (x ∷ xs) ys = last_log-append x xs ys

before_last-append : (log : Log) (xs : List Log) (y : Log) (ys : List Log) → log_before_last log (xs ++ y ∷ ys) ≡ log_before_last (last_log log xs) (y ∷ ys)
before_last-append log [] y ys = refl
before_last-append log (x ∷ []) y ys = refl
before_last-append log (x ∷ z ∷ xs) y ys = before_last-append x (z ∷ xs) y ys

-- behind further changes the last two of those stand
behind_then : (log : Log) (xs ys : List Log) (kept : Log) → IsLastOrBefore (last_log log xs) ys kept → IsLastOrBefore log (xs ++ ys) kept
behind_then log xs ys kept (inl is) = inl (is ∙ sym (last_log-append log xs ys))
behind_then log xs [] kept (inr is) = inl (is ∙ sym (last_log-append log xs []))
behind_then log xs (y ∷ ys) kept (inr is) = inr (is ∙ sym (before_last-append log xs y ys))

both_none : (xs ys : List Log) → xs ++ ys ≡ [] → (xs ≡ []) × (ys ≡ [])
both_none [] ys none = (refl, none)
both_none (x ∷ xs) ys none = absurd (cc)

small_then : (name : List ℕ) (i j l : Images) → StaysSmall name i j → StaysSmall name j l → StaysSmall name i l
small_then name i j l (inl first) (inl second) = inl (second ∙ first)
small_then name i j l (inr first) (inl second) = inr (subst IsSmall (sym second) first)
small_then name i j l first (inr second) = inr second

module _ (name : List ℕ) (client : ℕ) where
  kept_then : (b k : Log) (xs ys : List Log) (i j l : Images) → Kept name client b xs i j → Kept name client k ys j l → Kept name client k (xs ++ ys) i l
  kept_then b k xs ys i j l first second = record {
    keeps = second.keeps;
    unchanged = λ none. let each = both_none xs ys none in second.unchanged each.1 ∙ first.unchanged each.0;
    small = small_then name i j l first.small second.small;
    others = λ other differs. second.others other differs ∙ first.others other differs;
  }

  kept_still : (log : Log) (i : Images) → Keeps (i name) client log → Kept name client log [] i i
  kept_still log i keeps = record { keeps = keeps; unchanged = λ none. refl; small = inl refl; others = λ other differs. refl }

  told_still : (log : Log) (i : Option Images) → IsKept i name client log → Told i i (Kept name client log [])
  told_still log None keeps = refl
  told_still log (Some i) keeps = kept_still log i keeps

  -- what stands there at the end
  is_kept : (log : Log) (xs : List Log) (i j : Option Images) → Told i j (Kept name client log xs) → IsKept j name client log
  is_kept log xs (Some i) (Some j) told = told.keeps
  is_kept log xs (Some i) None told = absurd told
  is_kept log xs None None told = tt
  is_kept log xs None (Some j) told = absurd (cc)

  pub kept_now : (a b k : Log) (xs : List Log) (i j : Option Images) → Keeping name client a b k xs i j → IsKept j name client k
  kept_now a b k xs i j keeping = is_kept k xs i j keeping.told

  pub keeping_none : (log : Log) (i : Option Images) → IsKept i name client log → Keeping name client log log log [] i i
  keeping_none log i keeps = record { last = refl; behind = inl refl; told = told_still log i keeps }

  -- one change, which is not kept
  pub keeping_unkept : (log next : Log) (i : Option Images) → IsKept i name client log → Keeping name client log next log (next ∷ []) i i
  keeping_unkept log next i keeps = record { last = refl; behind = inr refl; told = told_changed i keeps }
    where
      told_changed : (i : Option Images) → IsKept i name client log → Told i i (Kept name client log (next ∷ []))
      told_changed None keeps = refl
      told_changed (Some i) keeps = record { keeps = keeps; unchanged = λ none. absurd (cc); small = inl refl; others = λ other differs. refl }

  pub keeping_then : (a b c k : Log) (xs ys : List Log) (i j l : Option Images) → Keeping name client a b b xs i j → Keeping name client b c k ys j l → Keeping name client a c k (xs ++ ys) i l
  keeping_then a b c k xs ys i j l first second = record {
    last = second.last ∙ ap (λ log. last_log log ys) first.last ∙ sym (last_log-append a xs ys);
    behind = behind_then a xs ys k (subst (λ log. IsLastOrBefore log ys k) first.last second.behind);
    told = told_then i j l (Kept name client b xs) (Kept name client k ys) (Kept name client k (xs ++ ys)) first.told second.told (λ x y z p q. kept_then b k xs ys x y z p q);
  }

  -- a log that was changed is kept, or, where that was refused, what was kept before perhaps still is
  module _ (a b k : Log) (xs : List Log) (some : xs ≢ []) where
    now_kept : (x y z : Images) → Kept name client k xs x y → Keeps (z name) client b → OthersStay name y z → StaysSmall name y z → Kept name client b xs x z
    now_kept x y z first keeps others small = record { keeps = keeps; unchanged = λ none. absurd (some none); small = small_then name x y z first.small small; others = λ other differs. others other differs ∙ first.others other differs }

    still_kept : (x y z : Images) → Kept name client k xs x y → Keeps (z name) client k → OthersStay name y z → StaysSmall name y z → Kept name client k xs x z
    still_kept x y z first keeps others small = record { keeps = keeps; unchanged = λ none. absurd (some none); small = small_then name x y z first.small small; others = λ other differs. others other differs ∙ first.others other differs }

    told_saved : {E : Type 0} (i j l : Option Images) (r : Result (Unit {0}) E) → Told i j (Kept name client k xs) → Told j l (KeepsLog name client b r)
        → Told i l (Kept name client b xs) ⊎ (IfOk r (λ done. ⊥) × Told i l (Kept name client k xs))
    told_saved {E} i j l (Ok done) first save = inl (told_then i j l (Kept name client k xs) (KeepsLog {E = E} name client b (Ok done)) (Kept name client b xs) first save (λ x y z p q. now_kept x y z p q.0 q.1 q.2))
    told_saved None None l (Err e) first save = inr (tt, save)
    told_saved None (Some y) l (Err e) first save = absurd (cc)
    told_saved (Some x) None l (Err e) first save = absurd first
    told_saved (Some x) (Some y) None (Err e) first save = absurd save
    told_saved (Some x) (Some y) (Some z) (Err e) first save =
        ⊎_elim (λ still. inr (tt, still_kept x y z first (still client k first.keeps) save.1 save.2)) (λ keeps. inl (now_kept x y z first keeps save.1 save.2)) save.0

    pub keeping_saved : {E : Type 0} (i j l : Option Images) (r : Result (Unit {0}) E) → Keeping name client a b k xs i j → Told j l (KeepsLog name client b r)
        → Keeping name client a b b xs i l ⊎ (IfOk r (λ done. ⊥) × Keeping name client a b k xs i l)
    keeping_saved i j l r keeping save =
        ⊎_elim (λ now. inl (record { last = keeping.last; behind = inl keeping.last; told = now })) (λ still. inr (still.0, record { last = keeping.last; behind = keeping.behind; told = still.1 }))
        (told_saved i j l r keeping.told save)

-- ---- what is told of its pulls

in_dropped : (count : ℕ) (entry : Entry) (entries : List Entry) → IsIn entry (drop count entries) → IsIn entry entries
in_dropped zero entry entries among = among
in_dropped (suc count) entry [] among = absurd among
in_dropped (suc count) entry (first ∷ entries) among = inr (in_dropped count entry entries among)

-- What begins in step is so between two stretches, and no content is taken for another in each where none is in both.
both_apart : (client : ℕ) (ships : Bool) (es fs : List Entry) (m n : List Ask) (old mid new : State) → InStep client old.log old.world → Runs client ships es m old mid → Runs client ships fs n mid new
    → HasNoCollision client (old.log.pending ++ (es ++ fs)) new.world.packets
    → InStep client mid.log mid.world × HasNoCollision client (old.log.pending ++ es) mid.world.packets × HasNoCollision client (mid.log.pending ++ fs) new.world.packets
both_apart client ships es fs m n old mid new begun first second apart = (
  runs_in_step client ships es m old mid begun first front,
  front,
  fewer_collide client (mid.log.pending ++ fs) (old.log.pending ++ (es ++ fs)) new.world.packets new.world.packets
      (λ entry among. ⊎_elim (λ pending. in_all entry (was_there entry pending)) (λ logged. IsIn-right entry old.log.pending (es ++ fs) (IsIn-right entry es fs logged)) (in_either entry mid.log.pending fs among))
      (λ message among. among) apart,
)
  where
    in_all : (entry : Entry) → IsIn entry (old.log.pending ++ es) → IsIn entry (old.log.pending ++ (es ++ fs))
    in_all entry among = subst (IsIn entry) (append_assoc old.log.pending es fs) (IsIn-left entry (old.log.pending ++ es) fs among)

    front : HasNoCollision client (old.log.pending ++ es) mid.world.packets
    front = fewer_collide client (old.log.pending ++ es) (old.log.pending ++ (es ++ fs)) mid.world.packets new.world.packets in_all (λ message among. run_packets client ships fs n mid new message second among) apart

    was_there : (entry : Entry) → IsIn entry mid.log.pending → IsIn entry (old.log.pending ++ es)
    was_there entry among =
        let left = pending_later client ships es m old mid begun first front in
        in_dropped (mid.log.acked - old.log.acked) entry (old.log.pending ++ es) (subst (IsIn entry) left.1 among)

-- what is so of a pull where fewer troubles are looked at
true_longer : (t v s u : ℕ) (end : PullEnd) → (Rose s u → Rose t v) → IsTruePull s u end → IsTruePull t v end
true_longer t v s u end more is = (is.0, λ calm. is.1 (λ rose. calm (more rose)))

-- ---- stretches of a client's life

-- ---- what a stretch is in the worlds

module _ (client : ℕ) (ships : Bool) where
  -- where no pull met a snapshot
  worlds_unpulled : (trace : Trace) (a b k : Log) (t u : ℕ) (x y : World) → trace.pulls ≡ [] → Runs client ships trace.entries trace.asks (kept_at a x) (stand b k y) → WorldGoes client ships a b k trace t u x y
  worlds_unpulled trace a b k t u x y none runs =
      record { runs = runs; true_pulls = λ begun apart end among. absurd (subst (IsIn end) none among) }

  worlds_then : (m n : Trace) (a b c k : Log) (t u v : ℕ) (x y z : World) → RoseBy 0 t u → RoseBy 0 u v → WorldGoes client ships a b b m t u x y → WorldGoes client ships b c k n u v y z
      → WorldGoes client ships a c k (followed m n) t v x z
  worlds_then m n a b c k t u v x y z before after first second = record {
    runs = runs_then client ships m.entries n.entries m.asks n.asks (kept_at a x) (kept_at b y) (stand c k z) first.runs second.runs;
    true_pulls = λ begun apart end among.
        let parts = both_apart client ships m.entries n.entries m.asks n.asks (kept_at a x) (kept_at b y) (stand c k z) begun first.runs second.runs apart in
        ⊎_elim (λ here. true_longer t v t u end (λ rose. omega (arith, rose, after)) (first.true_pulls begun parts.1 end here))
        (λ later. true_longer t v u v end (λ rose. omega (arith, rose, before)) (second.true_pulls parts.0 parts.2 end later))
        (in_either end m.pulls n.pulls among);
  }

  -- and then the log is kept
  worlds_saved : (trace : Trace) (a b k : Log) (t u : ℕ) (x y : World) → WorldGoes client ships a b k trace t u x y → WorldGoes client ships a b b trace t u x y
  worlds_saved trace a b k t u x y goes = record {
    runs = subst (λ (m : List Ask). Runs client ships trace.entries m (kept_at a x) (kept_at b y)) (append-nil trace.asks)
        (subst (λ (es : List Entry). Runs client ships es (trace.asks ++ []) (kept_at a x) (kept_at b y)) (append-nil trace.entries)
        (runs_then client ships trace.entries [] trace.asks [] (kept_at a x) (stand b k y) (kept_at b y) goes.runs (runs_once client ships (stand b k y) Saves tt)));
    true_pulls = goes.true_pulls;
  }

module _ (name : List ℕ) (client : ℕ) (ships : Bool) where
  pub goes_none : (T : Trace → Type 0) (s : Log) (i : Option Images) (r : RunnerTelling) (t : LinkTelling) → IsKept i name client s → T nothing → Goes client ships name T s s s i i r r t t
  goes_none T s i r t keeps turn = record {
    trace = nothing;
    turn = turn;
    keeping = keeping_none name client s i keeps;
    has_run = has_run_none r;
    rose = omega arith;
    told = told_start t.world (WorldGoes client ships s s s nothing t.troubles t.troubles)
        (λ w. worlds_unpulled client ships nothing s s s t.troubles t.troubles w w refl (runs_none client ships (kept_at s w)));
  }

  -- another relation of the same turns
  pub goes_as : (T S : Trace → Type 0) (a b k : Log) (i j : Option Images) (p q : RunnerTelling) (t u : LinkTelling) → Goes client ships name T a b k i j p q t u
      → ((trace : Trace) → T trace → S trace) → Goes client ships name S a b k i j p q t u
  goes_as T S a b k i j p q t u goes to =
      record { trace = goes.trace; turn = to goes.trace goes.turn; keeping = goes.keeping; has_run = goes.has_run; rose = goes.rose; told = goes.told }

  -- beside any runner, where none was asked
  pub goes_beside : (T : Trace → Type 0) (a b k : Log) (i j : Option Images) (t u : LinkTelling) → Goes client ships name T a b k i j no_runner no_runner t u
      → (r : RunnerTelling) → Goes client ships name T a b k i j r r t u
  goes_beside T a b k i j t u goes r =
      record { trace = goes.trace; turn = goes.turn; keeping = goes.keeping; has_run = has_run_alone goes.trace.runs goes.trace.missed r goes.has_run; rose = goes.rose; told = goes.told }

  -- one stretch, at whose end the log is kept, after another
  pub goes_then : (T S R : Trace → Type 0) (a b c k : Log) (i j l : Option Images) (p q r : RunnerTelling) (t u v : LinkTelling) → Goes client ships name T a b b i j p q t u
      → Goes client ships name S b c k j l q r u v → ((m n : Trace) → T m → S n → R (followed m n)) → Goes client ships name R a c k i l p r t v
  goes_then T S R a b c k i j l p q r t u v first second join = record {
    trace = followed first.trace second.trace;
    turn = join first.trace second.trace first.turn second.turn;
    keeping = keeping_then name client a b c k first.trace.changes second.trace.changes i j l first.keeping second.keeping;
    has_run = has_run_then first.trace.runs second.trace.runs first.trace.missed second.trace.missed p q r first.has_run second.has_run;
    rose = omega (arith, failed-append first.trace.asks second.trace.asks, first.rose, second.rose);
    told = told_then t.world u.world v.world (WorldGoes client ships a b b first.trace t.troubles u.troubles) (WorldGoes client ships b c k second.trace u.troubles v.troubles)
        (WorldGoes client ships a c k (followed first.trace second.trace) t.troubles v.troubles) first.told second.told
        (λ x y z. worlds_then client ships first.trace second.trace a b c k t.troubles u.troubles v.troubles x y z (omega (arith, first.rose)) (omega (arith, second.rose)));
  }

  -- asks that are a run of the kept log
  pub goes_asked : (T : Trace → Type 0) (asks : List Ask) (s : Log) (i : Option Images) (r : RunnerTelling) (t u : LinkTelling) → IsKept i name client s
      → ToldWorlds t u (λ x y. Runs client ships [] asks (kept_at s x) (kept_at s y)) → HadTroubles (failed_asks asks) t u → T (asking asks) → Goes client ships name T s s s i i r r t u
  goes_asked T asks s i r t u keeps told rose turn = record {
    trace = asking asks;
    turn = turn;
    keeping = keeping_none name client s i keeps;
    has_run = has_run_none r;
    rose = rose;
    told = told_as t.world u.world (λ x y. Runs client ships [] asks (kept_at s x) (kept_at s y)) (WorldGoes client ships s s s (asking asks) t.troubles u.troubles) told
        (λ x y runs. worlds_unpulled client ships (asking asks) s s s t.troubles u.troubles x y refl runs);
  }

  -- and a change of the log by one move, which is not kept yet
  pub goes_changed : (T : Trace → Type 0) (asks : List Ask) (s next : Log) (i : Option Images) (r : RunnerTelling) (t u : LinkTelling) → IsKept i name client s
      → ToldWorlds t u (λ x y. Runs client ships [] asks (kept_at s x) (kept_at s y) × Runs client ships [] [] (kept_at s y) (stand next s y)) → HadTroubles (failed_asks asks) t u
      → T (followed (asking asks) (changing next)) → Goes client ships name T s next s i i r r t u
  goes_changed T asks s next i r t u keeps told rose turn = record {
    trace = followed (asking asks) (changing next);
    turn = turn;
    keeping = keeping_unkept name client s next i keeps;
    has_run = has_run_none r;
    rose = omega (arith, failed-append asks [], rose);
    told = told_as t.world u.world (λ x y. Runs client ships [] asks (kept_at s x) (kept_at s y) × Runs client ships [] [] (kept_at s y) (stand next s y))
        (WorldGoes client ships s next s (followed (asking asks) (changing next)) t.troubles u.troubles) told
        (λ x y runs. worlds_unpulled client ships (followed (asking asks) (changing next)) s next s t.troubles u.troubles x y refl
        (runs_then client ships [] [] asks [] (kept_at s x) (kept_at s y) (stand next s y) runs.0 runs.1));
  }

  -- in each world the asks of a pull and its change of the log, if any; and where that is in step, how a pull may end
  abbrev pub Met : List Ask → PullEnd → Log → Log → ℕ → ℕ → World → World → Type 0
  Met asks end s next t u x y = Runs client ships [] asks (kept_at s x) (kept_at s y) × Runs client ships [] [] (kept_at s y) (stand next s y) × (InStep client s x → InStep client s y → IsTruePull t u end)

  -- the asks of a pull that met a snapshot, and its change of the log, if any, which is not kept yet
  pub goes_pulled : (T : Trace → Type 0) (end : PullEnd) (asks : List Ask) (changes : List Log) (s next : Log) (i : Option Images) (r : RunnerTelling) (t u : LinkTelling)
      → Keeping name client s next s changes i i → ToldWorlds t u (Met asks end s next t.troubles u.troubles) → HadTroubles (failed_asks asks) t u
      → T (followed (asking asks) (pulling end changes)) → Goes client ships name T s next s i i r r t u
  goes_pulled T end asks changes s next i r t u keeping told rose turn = record {
    trace = followed (asking asks) (pulling end changes);
    turn = turn;
    keeping = keeping;
    has_run = has_run_none r;
    rose = omega (arith, failed-append asks [], rose);
    told = told_as t.world u.world (Met asks end s next t.troubles u.troubles) (WorldGoes client ships s next s (followed (asking asks) (pulling end changes)) t.troubles u.troubles) told
        (λ x y met. record {
          runs = runs_then client ships [] [] asks [] (kept_at s x) (kept_at s y) (stand next s y) met.0 met.1;
          true_pulls = λ begun apart ended among.
              ⊎_elim (λ (is : ended ≡ end). subst (IsTruePull t.troubles u.troubles) (sym is) (met.2 begun (runs_in_step client ships [] asks (kept_at s x) (kept_at s y) begun met.0 apart)))
              (λ none. absurd none) among;
        });
  }

  -- such as the acknowledgement up to a number, on a reply that was sent and tells it to be taken
  pub goes_acked : (T : Trace → Type 0) (upto : ℕ) (reply : Message) (asks : List Ask) (s : Log) (i : Option Images) (r : RunnerTelling) (t u : LinkTelling) → IsKept i name client s
      → ToldWorlds t u (λ x y. Runs client ships [] asks (kept_at s x) (kept_at s y) × IsIn reply y.packets) → HadTroubles (failed_asks asks) t u → s.acked ≤ upto → TellsTaken client upto reply
      → T (followed (asking asks) (changing (acknowledged upto s))) → Goes client ships name T s (acknowledged upto s) s i i r r t u
  goes_acked T upto reply asks s i r t u keeps told rose above tells turn =
      goes_changed T asks s (acknowledged upto s) i r t u keeps
      (told_as t.world u.world (λ x y. Runs client ships [] asks (kept_at s x) (kept_at s y) × IsIn reply y.packets)
      (λ x y. Runs client ships [] asks (kept_at s x) (kept_at s y) × Runs client ships [] [] (kept_at s y) (stand (acknowledged upto s) s y)) told
      (λ x y asked. (asked.0, runs_once client ships (kept_at s y) (Acknowledges upto reply) (above, tells, asked.1))))
      rose turn

  -- an entry that is logged, and not kept yet
  pub goes_logged : (T : Trace → Type 0) (entry : Entry) (s : Log) (i : Option Images) (r : RunnerTelling) (t : LinkTelling) → IsKept i name client s → IsLog (logged entry s)
      → T (logging entry (logged entry s)) → Goes client ships name T s (logged entry s) s i i r r t t
  goes_logged T entry s i r t keeps log_is turn = record {
    trace = logging entry (logged entry s);
    turn = turn;
    keeping = keeping_unkept name client s (logged entry s) i keeps;
    has_run = has_run_none r;
    rose = omega arith;
    told = told_start t.world (WorldGoes client ships s (logged entry s) s (logging entry (logged entry s)) t.troubles t.troubles)
        (λ w. worlds_unpulled client ships (logging entry (logged entry s)) s (logged entry s) s t.troubles t.troubles w w refl (runs_once client ships (kept_at s w) (Logs entry) log_is));
  }

  -- a runner that was asked, while the log stood still
  pub goes_ran : (T : Trace → Type 0) (runs : List Run) (missed : ℕ) (s : Log) (i : Option Images) (p q : RunnerTelling) (t : LinkTelling) → IsKept i name client s → HasRun runs missed p q
      → T (running runs missed) → Goes client ships name T s s s i i p q t t
  goes_ran T runs missed s i p q t keeps has_run turn = record {
    trace = running runs missed;
    turn = turn;
    keeping = keeping_none name client s i keeps;
    has_run = has_run;
    rose = omega arith;
    told = told_start t.world (WorldGoes client ships s s s (running runs missed) t.troubles t.troubles)
        (λ w. worlds_unpulled client ships (running runs missed) s s s t.troubles t.troubles w w refl (runs_none client ships (kept_at s w)));
  }

  -- and then an entry that is logged, and not kept yet
  pub goes_ran_logged : (T : Trace → Type 0) (runs : List Run) (missed : ℕ) (entry : Entry) (s : Log) (i : Option Images) (p q : RunnerTelling) (t : LinkTelling) → IsKept i name client s
      → IsLog (logged entry s) → HasRun (runs ++ []) (missed + 0) p q → T (followed (running runs missed) (logging entry (logged entry s)))
      → Goes client ships name T s (logged entry s) s i i p q t t
  goes_ran_logged T runs missed entry s i p q t keeps log_is has_run turn = record {
    trace = followed (running runs missed) (logging entry (logged entry s));
    turn = turn;
    keeping = keeping_unkept name client s (logged entry s) i keeps;
    has_run = has_run;
    rose = omega arith;
    told = told_start t.world (WorldGoes client ships s (logged entry s) s (followed (running runs missed) (logging entry (logged entry s))) t.troubles t.troubles)
        (λ w. worlds_unpulled client ships (followed (running runs missed) (logging entry (logged entry s))) s (logged entry s) s t.troubles t.troubles w w refl
        (runs_once client ships (kept_at s w) (Logs entry) log_is));
  }

  -- What a keeping makes of a stretch that changed the log: the log is kept now, or, where it was refused, perhaps what was kept before.
  pub goes_saved : {E : Type 0} (T : Trace → Type 0) (a b k : Log) (i j l : Option Images) (p q : RunnerTelling) (t u : LinkTelling) (r : Result (Unit {0}) E)
      (goes : Goes client ships name T a b k i j p q t u) → goes.trace.changes ≢ [] → Told j l (KeepsLog name client b r)
      → (now : Log) × Goes client ships name T a b now i l p q t u × IfOk r (λ done. now ≡ b)
  goes_saved {E} T a b k i j l p q t u r goes some save = by (keeping_saved name client a b k goes.trace.changes some i j l r goes.keeping save)
    where
      sure : (r : Result (Unit {0}) E) → IfOk r (λ done. b ≡ b)
      sure (Ok done) = refl
      sure (Err e) = tt

      unsure : (r : Result (Unit {0}) E) → IfOk r (λ done. ⊥) → IfOk r (λ done. k ≡ b)
      unsure (Ok done) none = absurd none
      unsure (Err e) none = tt

      by : Keeping name client a b b goes.trace.changes i l ⊎ (IfOk r (λ done. ⊥) × Keeping name client a b k goes.trace.changes i l)
          → (now : Log) × Goes client ships name T a b now i l p q t u × IfOk r (λ done. now ≡ b)
      by (inl now) = (
        b,
        record {
          trace = goes.trace;
          turn = goes.turn;
          keeping = now;
          has_run = goes.has_run;
          rose = goes.rose;
          told = told_as t.world u.world (WorldGoes client ships a b k goes.trace t.troubles u.troubles) (WorldGoes client ships a b b goes.trace t.troubles u.troubles) goes.told
              (λ x y. worlds_saved client ships goes.trace a b k t.troubles u.troubles x y);
        },
        sure r,
      )
      by (inr still) = (k, record { trace = goes.trace; turn = goes.turn; keeping = still.1; has_run = goes.has_run; rose = goes.rose; told = goes.told }, unsure r still.0)
