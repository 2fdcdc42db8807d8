-- Runs in a row, the first of a new client.
use Rattle.std.proofs.Common.{◌≡◌, ⊎_elim, ℕ, ◌-◌, Bool, true, false, IsTrue, List, [], ◌∷◌, ◌++◌, take, drop, Option, Some, is_some, refl, sym, ◌∙◌, ap, subst, take-append-drop}
use Rattle.outside.specs.Outside.{Told}
use Rattle.tree_values.specs.Lists.{IsIn}
use Rattle.vol_tree.proofs.Behind.{IsIn-left, IsIn-right}
use Rattle.mod_log.specs.declared.log.Entry.{Entry}
use Rattle.mod_log.specs.Log.{Log, new_log}
use Rattle.wire_frames.specs.declared.message.Message.{Message}
use Rattle.wire_frames.specs.declared.message.Message.TheVariants.{Operate}
use Rattle.world_rules.specs.declared.asking.Ask.{Ask}
use Rattle.world_rules.specs.World.{World, GoesOnAlone}
use Rattle.world_rules.specs.InStep.{InStep, HasNoCollision}
use Rattle.world_rules.specs.Run.{kept_at, Runs}
use Rattle.world_rules.proofs.Asks.{in_either}
use Rattle.world_rules.proofs.Colliding.{fewer_collide}
use Rattle.world_rules.proofs.Runs.{new_in_step, runs_in_step, runs_more, runs_then, run_packets, pending_later}
use Rattle.world_rules.proofs.Operations.{never_collides}
use Rattle.world_rules.proofs.Restarts.{restart_runs, alone_runs}
use Rattle.client_core.specs.Goes.{WorldGoes, IsNew, stand}
use Rattle.client_lines.specs.FirstRuns.{ToldRun, AreInRow, logged_in, StayOfAll, ShipStores, FirstRunsLeave, FirstRunsGoOn, FirstStoresNeverCollide}
use Rattle.client_lines.specs.Headline.{Leaves, MayGoOn}
use Rattle.client_lines.proofs.RunningLeaves.{leaves, goes_on}
use Rattle.client_lines.proofs.Composing.{among_first, part_apart, stays}

in_told : {A : Type 0} (a b : Option A) (P : A → A → Type 0) (x y : A) → a ≡ Some x → b ≡ Some y → Told a b P → P x y
in_told {A} a b P x y from to told = subst (λ (o : Option A). Told (Some x) o P) to (subst (λ (o : Option A). Told o b P) from told)

in_drop : (count : ℕ) (entry : Entry) (entries : List Entry) → IsIn entry (drop count entries) → IsIn entry entries
in_drop count entry entries among = subst (IsIn entry) (take-append-drop count entries) (IsIn-right entry (take count entries) (drop count entries) among)

module _ (client : ℕ) (ships : Bool) where
  abbrev MayShip : ToldRun client → Type 0
  MayShip run = IsTrue (is_some run.route.surrogate) → IsTrue ships

  -- each of the runs may ship so
  abbrev AllMayShip : List (ToldRun client) → Type 0
  AllMayShip [] = Unit {0}
  AllMayShip (run ∷ runs) = MayShip run × AllMayShip runs

  -- ---- the moves of a run

  abbrev entries_of : ToldRun client → List Entry
  entries_of run = run.ran.goes.trace.entries

  abbrev asks_of : ToldRun client → List Ask
  asks_of run = run.ran.goes.trace.asks

  abbrev last_of : ToldRun client → Log
  last_of run = run.ran.after.client.log

  went : (run : ToldRun client) → MayShip run → Runs client ships (entries_of run) (asks_of run) (kept_at run.start run.old) (stand (last_of run) run.ran.kept run.new)
  went run may =
      let goes : WorldGoes client (is_some run.route.surrogate) run.start (last_of run) run.ran.kept run.ran.goes.trace run.around.link.troubles run.around_now.link.troubles run.old run.new =
      in_told run.around.link.world run.around_now.link.world (WorldGoes client (is_some run.route.surrogate) run.start (last_of run) run.ran.kept run.ran.goes.trace run.around.link.troubles run.around_now.link.troubles)
      run.old run.new run.told run.told_now run.ran.goes.told in
      runs_more client (is_some run.route.surrogate) ships (entries_of run) (asks_of run) (kept_at run.start run.old) (stand (last_of run) run.ran.kept run.new) may goes.runs

  -- those of what stays of it
  abbrev Part : ToldRun client → Type 0
  Part run = (stayed lost : List Entry) × (entries_of run ≡ stayed ++ lost) × Runs client ships stayed (asks_of run) (kept_at run.start run.old) (kept_at run.ran.kept run.new)

  part_of : (run : ToldRun client) → MayShip run → Part run
  part_of run may = restart_runs client ships (entries_of run) (asks_of run) (kept_at run.start run.old) (stand (last_of run) run.ran.kept run.new) refl (went run may)

  -- a world that goes on alone, a run, and others behind it
  joined : (run : ToldRun client) (stayed later : List Entry) (asks : List Ask) (kept : Log) (old new : World) → GoesOnAlone old run.old
      → Runs client ships stayed (asks_of run) (kept_at run.start run.old) (kept_at run.ran.kept run.new) → Runs client ships later asks (kept_at run.ran.kept run.new) (kept_at kept new)
      → Runs client ships (stayed ++ later) (asks_of run ++ asks) (kept_at run.start old) (kept_at kept new)
  joined run stayed later asks kept old new alone part rest =
      runs_then client ships [] (stayed ++ later) [] (asks_of run ++ asks) (kept_at run.start old) (kept_at run.start run.old) (kept_at kept new) (alone_runs client ships run.start old run.old alone)
      (runs_then client ships stayed later (asks_of run) asks (kept_at run.start run.old) (kept_at run.ran.kept run.new) (kept_at kept new) part rest)

  -- ---- the moves of a row

  row_runs : (runs : List (ToldRun client)) (start kept : Log) (old new : World) → AllMayShip runs → AreInRow client start old runs kept new
      → (entries : List Entry) × (asks : List Ask) × Runs client ships entries asks (kept_at start old) (kept_at kept new)
  row_runs [] start kept old new may row = ([], [], subst (λ (log : Log). Runs client ships [] [] (kept_at start old) (kept_at log new)) (sym row.0) (alone_runs client ships start old new row.1))
  row_runs (run ∷ runs) start kept old new may row =
      let rest = row_runs runs run.ran.kept kept run.new new may.1 row.2 in
      let part : Part run = part_of run may.0 in (
        part.0 ++ rest.0,
        asks_of run ++ rest.1,
        subst (λ (log : Log). Runs client ships (part.0 ++ rest.0) (asks_of run ++ rest.1) (kept_at log old) (kept_at kept new)) row.0 (joined run part.0 rest.0 rest.1 kept old new row.1 part.3 rest.2),
      )

  row_packets : (runs : List (ToldRun client)) (start kept : Log) (old new : World) (message : Message) → AllMayShip runs → AreInRow client start old runs kept new → IsIn message old.packets → IsIn message new.packets
  row_packets runs start kept old new message may row among =
      let goes = row_runs runs start kept old new may row in
      run_packets client ships goes.0 goes.1 (kept_at start old) (kept_at kept new) message goes.2 among

  -- What stays of a row, and its moves.
  record RowGoes (runs : List (ToldRun client)) (start kept : Log) (old new : World) : Type 0 where
    stayed : List Entry
    asks : List Ask
    stay : StayOfAll client runs stayed
    logged : (entry : Entry) → IsIn entry stayed → IsIn entry (logged_in client runs)
    goes : Runs client ships stayed asks (kept_at start old) (kept_at kept new)

  -- all that these logs write is among these entries
  abbrev AreAmong : List Entry → List Entry → Type 0
  AreAmong entries all = (entry : Entry) → IsIn entry entries → IsIn entry all

  module _ (all : List Entry) (kept : Log) (new : World) (none : HasNoCollision client all new.packets) where
    first_goes : (run : ToldRun client) (runs : List (ToldRun client)) (old : World) → MayShip run → AllMayShip runs → GoesOnAlone old run.old → AreInRow client run.ran.kept run.new runs kept new
        → (InStep client run.ran.kept run.new → AreAmong (run.ran.kept.pending ++ logged_in client runs) all → RowGoes runs run.ran.kept kept run.new new)
        → InStep client run.start old → AreAmong (run.start.pending ++ logged_in client (run ∷ runs)) all → RowGoes (run ∷ runs) run.start kept old new
    first_goes run runs old may others alone row rest now among_all =
        let start : Log = run.start in
        let left : Log = run.ran.kept in
        let entries : List Entry = entries_of run in
        let later : List Entry = logged_in client runs in
        let part : Part run = part_of run may in
        let stay = λ (message : Message) (among : IsIn message run.new.packets). row_packets runs left kept run.new new message others row among in
        let apart : HasNoCollision client (start.pending ++ entries) run.new.packets =
        fewer_collide client (start.pending ++ entries) all run.new.packets new.packets (λ entry among. among_all entry (among_first entry start.pending entries later among)) stay none in
        let apart_before : HasNoCollision client (start.pending ++ []) run.old.packets =
        fewer_collide client (start.pending ++ []) all run.old.packets new.packets
        (λ entry among. among_all entry (IsIn-left entry start.pending (entries ++ later) (⊎_elim (λ before. before) (λ never. absurd never) (in_either entry start.pending [] among))))
        (λ message among. stay message (run_packets client ships entries (asks_of run) (kept_at start run.old) (stand (last_of run) left run.new) message (went run may) among)) none in
        let begun : InStep client start run.old =
        runs_in_step client ships [] [] (kept_at start old) (kept_at start run.old) now (alone_runs client ships start old run.old alone) apart_before in
        let apart_part : HasNoCollision client (start.pending ++ part.0) run.new.packets =
        part_apart client ships run.route start run.around run.around_now run.status run.ran run.old run.new part.0 part.1 part.2 apart in
        let then : InStep client left run.new = runs_in_step client ships part.0 (asks_of run) (kept_at start run.old) (kept_at left run.new) begun part.3 apart_part in
        let pending = (pending_later client ships part.0 (asks_of run) (kept_at start run.old) (kept_at left run.new) begun part.3 apart_part).1 in
        let was = λ (entry : Entry) (among : IsIn entry left.pending).
        among_first entry start.pending entries later
        (subst (λ (es : List Entry). IsIn entry (start.pending ++ es)) (sym part.2)
        (among_first entry start.pending part.0 part.1 (in_drop (left.acked - start.acked) entry (start.pending ++ part.0) (subst (IsIn entry) pending among)))) in
        let more : RowGoes runs left kept run.new new =
        rest then
        (λ entry among. among_all entry
        (⊎_elim (λ pends. was entry pends) (λ logs. IsIn-right entry start.pending (entries ++ later) (IsIn-right entry entries later logs)) (in_either entry left.pending later among))) in
        record {
          stayed = part.0 ++ more.stayed;
          asks = asks_of run ++ more.asks;
          stay = (
            part.0,
            more.stayed,
            refl,
            stays client ships run.route start run.around run.around_now run.status run.ran run.old run.new part.0 part.1 (went run may) part.2 part.3 begun apart,
            more.stay,
          );
          logged = λ entry among.
              ⊎_elim (λ first. IsIn-left entry entries later (subst (IsIn entry) (sym part.2) (IsIn-left entry part.0 part.1 first)))
              (λ second. IsIn-right entry entries later (more.logged entry second)) (in_either entry part.0 more.stayed among);
          goes = joined run part.0 more.stayed more.asks kept old new alone part.3 more.goes;
        }

    row_goes : (runs : List (ToldRun client)) (start : Log) (old : World) → AllMayShip runs → InStep client start old → AreAmong (start.pending ++ logged_in client runs) all → AreInRow client start old runs kept new
        → RowGoes runs start kept old new
    row_goes [] start old may now among_all row = record {
      stayed = [];
      asks = [];
      stay = refl;
      logged = λ entry among. among;
      goes = subst (λ (log : Log). Runs client ships [] [] (kept_at start old) (kept_at log new)) (sym row.0) (alone_runs client ships start old new row.1);
    }
    row_goes (run ∷ runs) start old may now among_all row =
        let rest = λ (then : InStep client run.ran.kept run.new) (among : AreAmong (run.ran.kept.pending ++ logged_in client runs) all).
        row_goes runs run.ran.kept run.new may.1 then among row.2 in
        subst (λ (log : Log). InStep client log old → AreAmong (log.pending ++ logged_in client (run ∷ runs)) all → RowGoes (run ∷ runs) log kept old new) row.0
        (first_goes run runs old may.0 may.1 row.1 row.2 rest) now among_all

-- ---- the laws

may_all : (client : ℕ) (runs : List (ToldRun client)) → AllMayShip client true runs
may_all client [] = tt
may_all client (run ∷ runs) = ((λ some. refl), may_all client runs)

begins : (client : ℕ) (old : World) → IsNew client old → InStep client new_log old
begins client old new = new_in_step client old new.about new.own_number.0 new.own_number.1 new.served_is new.untaken new.unsent

-- what the runs leave, and that a next one may begin there
runs_leave : (client : ℕ) (earlier later : List (ToldRun client)) (middle kept : Log) (old between new : World) → IsNew client old
    → AreInRow client new_log old earlier middle between → AreInRow client middle between later kept new
    → HasNoCollision client (logged_in client earlier ++ logged_in client later) new.packets
    → ((stayed : List Entry) × StayOfAll client later stayed × Leaves client middle kept kept stayed between new) × MayGoOn client kept kept new
runs_leave client earlier later middle kept old between new is row rows none =
    let before : List Entry = logged_in client earlier in
    let behind : List Entry = logged_in client later in
    let now : InStep client new_log old = begins client old is in
    let none_before : HasNoCollision client (before ++ behind) between.packets =
    fewer_collide client (before ++ behind) (before ++ behind) between.packets new.packets (λ entry among. among)
    (λ message among. row_packets client true later middle kept between new message (may_all client later) rows among) none in
    let first = row_goes client true (before ++ behind) middle between none_before earlier new_log old (may_all client earlier) now (λ entry among. IsIn-left entry before behind among) row in
    let first_apart : HasNoCollision client first.stayed between.packets =
    fewer_collide client first.stayed (before ++ behind) between.packets between.packets (λ entry among. IsIn-left entry before behind (first.logged entry among)) (λ message among. among) none_before in
    let begun : InStep client middle between = runs_in_step client true first.stayed first.asks (kept_at new_log old) (kept_at middle between) now first.goes first_apart in
    let pending = (pending_later client true first.stayed first.asks (kept_at new_log old) (kept_at middle between) now first.goes first_apart).1 in
    let was = λ (entry : Entry) (among : IsIn entry middle.pending).
    IsIn-left entry before behind (first.logged entry (in_drop (middle.acked - new_log.acked) entry first.stayed (subst (IsIn entry) pending among))) in
    let second = row_goes client true (before ++ behind) kept new none later middle between (may_all client later) begun
    (λ entry among. ⊎_elim (λ pends. was entry pends) (λ logs. IsIn-right entry before behind logs) (in_either entry middle.pending behind among)) rows in
    let apart : HasNoCollision client (middle.pending ++ second.stayed) new.packets =
    fewer_collide client (middle.pending ++ second.stayed) (before ++ behind) new.packets new.packets
    (λ entry among. ⊎_elim (λ pends. was entry pends) (λ logs. IsIn-right entry before behind (second.logged entry logs)) (in_either entry middle.pending second.stayed among)) (λ message among. among) none in (
      (second.stayed, second.stay, leaves client true second.stayed second.asks middle kept kept between new begun second.goes apart),
      goes_on client true second.stayed second.asks middle kept kept between new begun second.goes apart,
    )

pub first_runs_leave : FirstRunsLeave
first_runs_leave client earlier later middle kept old between new is row rows none =
    (runs_leave client earlier later middle kept old between new is row rows none).0

pub first_runs_go_on : FirstRunsGoOn
first_runs_go_on client earlier later middle kept old between new is row rows none =
    (runs_leave client earlier later middle kept old between new is row rows none).1

-- without surrogates each run ships stores alone
stores_all : (client : ℕ) (runs : List (ToldRun client)) → ShipStores client runs → AllMayShip client false runs
stores_all client [] ship = tt
stores_all client (run ∷ runs) ship =
    ((λ some. absurd (cc (sym some ∙ ap is_some ship.0))), stores_all client runs ship.1)

pub first_stores_never_collide : FirstStoresNeverCollide
first_stores_never_collide client runs kept old new entries is row ship =
    let goes = row_runs client false runs new_log kept old new (stores_all client runs ship) row in
    never_collides client goes.0 goes.1 (kept_at new_log old) (kept_at kept new) entries is.about
    (λ sketched among. absurd ((is.unsent (Operate client sketched) among).0 refl)) goes.2
