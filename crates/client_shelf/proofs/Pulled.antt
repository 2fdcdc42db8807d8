-- What the pull of a client that has logged nothing leaves.
use Rattle.std.proofs.Common.{false, ◌≡◌, ◌≢◌, inl, inr, ℕ, List, [], ◌∷◌, ◌++◌, Option, Ok, Err, refl, sym, ◌∙◌, ap, subst, arith}
use Rattle.outside.specs.Outside.{Told}
use Rattle.outside.specs.Keeper.{Images}
use Rattle.tree_values.specs.Tree.{Volume}
use Rattle.tree_values.specs.Lists.{IsIn}
use Rattle.tree_values.specs.declared.node.Effect.{Effect}
use Rattle.mod_log.specs.declared.log.Entry.{Entry}
use Rattle.mod_log.specs.Log.{Log, new_log_of}
use Rattle.world_rules.specs.World.{World}
use Rattle.world_rules.specs.Telling.{LinkTelling, ToldWorlds}
use Rattle.world_rules.specs.InStep.{InStep, HasNoCollision}
use Rattle.world_rules.specs.Run.{kept_at}
use Rattle.world_rules.proofs.Asks.{told_as, told_start}
use Rattle.std.proofs.lemmas.List.{append-nil}
use Rattle.client_core.specs.Keeping.{IsKept, Kept}
use Rattle.world_rules.proofs.Colliding.{none_collides}
use Rattle.world_rules.proofs.Runs.{both_in_step, run_asked}
use Rattle.client_core.specs.declared.pulling.PullEnd.{PullEnd}
use Rattle.client_core.specs.declared.pulling.PullEnd.TheVariants as pulls
use Rattle.client_core.specs.Trace.{Trace, asking, IsLastOrBefore}
use Rattle.client_core.specs.Pulling.{PullChanges, PullTurn, BreaksPull, PullEnds, is_broken_pull}
use Rattle.client_core.specs.Causes.{PullWrites}
use Rattle.client_core.specs.Honest.{IsTruePull}
use Rattle.client_core.specs.Goes.{Goes, WorldGoes, Went, no_runner, stand}
use Rattle.client_core.proofs.Going.{kept_now}
use Rattle.client_shelf.specs.declared.ends.ShelvingStop.TheVariants as stops
use Rattle.client_shelf.specs.Shelving.{Shelving, new_route, IsUnused}
use Rattle.client_shelf.specs.Ending.{Standing, LeavesShelved, StaysOrSaves, EndsPull, KeepsFront, ShelvingBreaks}
use Rattle.client_shelf.specs.Inside.{PullsTo, pulled_to}
use Rattle.client_shelf.proofs.Kept.{kept_same}

-- two lists that have nothing
both_empty : (xs ys : List Entry) → xs ≡ [] → ys ≡ [] → xs ++ ys ≡ []
both_empty xs ys none also = ap (λ list. list ++ ys) none ∙ also

module _ (asked : Shelving) (start after : Log) (unused : IsUnused start) (i j : Option Images) (t u : LinkTelling) where
  abbrev old : Standing
  old = record { images = i; link = t }

  abbrev new : Standing
  new = record { images = j; link = u }

  -- what a pull did, which logged nothing
  abbrev GoesSo : (Trace → Type 0) → Log → Type 0
  GoesSo turns kept = Goes asked.new_client false asked.new_image turns start after kept i j no_runner no_runner t u

  module _ (turns : Trace → Type 0) (kept : Log) (goes : GoesSo turns kept) (none : goes.trace.entries ≡ []) where
    apart : (w : World) → HasNoCollision asked.new_client (start.pending ++ goes.trace.entries) w.packets
    apart w = subst (λ (entries : List Entry). HasNoCollision asked.new_client entries w.packets) (sym (both_empty start.pending goes.trace.entries unused.1 none)) (none_collides asked.new_client w.packets)

    all_apart : (w : World) → HasNoCollision asked.new_client (start.pending ++ (start.pending ++ goes.trace.entries)) w.packets
    all_apart w =
        subst (λ (entries : List Entry). HasNoCollision asked.new_client entries w.packets)
        (sym (both_empty start.pending (start.pending ++ goes.trace.entries) unused.1 (both_empty start.pending goes.trace.entries unused.1 none))) (none_collides asked.new_client w.packets)

    in_world : (v w : World) → WorldGoes asked.new_client false start after kept goes.trace t.troubles u.troubles v w
        → (w.asks ≡ v.asks ++ goes.trace.asks) × (InStep asked.new_client start v → InStep asked.new_client kept w)
    in_world v w went = (
      run_asked asked.new_client false goes.trace.entries goes.trace.asks (kept_at start v) (stand after kept w) went.runs,
      λ now. (both_in_step asked.new_client false goes.trace.entries goes.trace.asks (kept_at start v) (stand after kept w) (record { in_memory = now; kept = now }) went.runs (all_apart w)).kept,
    )

    pub leaves : LeavesShelved asked start kept goes.trace.asks old new
    leaves = record {
      kept_is = kept_now asked.new_image asked.new_client start after kept goes.trace.changes i j goes.keeping;
      rose = goes.rose;
      told = told_as t.world u.world (WorldGoes asked.new_client false start after kept goes.trace t.troubles u.troubles)
          (λ v w. (w.asks ≡ v.asks ++ goes.trace.asks) × (InStep asked.new_client start v → InStep asked.new_client kept w)) goes.told in_world;
    }

    pub true_pull : (end : PullEnd) → IsIn end goes.trace.pulls → ToldWorlds t u (λ v w. InStep asked.new_client start v → IsTruePull t.troubles u.troubles end)
    true_pull end among =
        told_as t.world u.world (WorldGoes asked.new_client false start after kept goes.trace t.troubles u.troubles)
        (λ v w. InStep asked.new_client start v → IsTruePull t.troubles u.troubles end) goes.told (λ v w went now. went.true_pulls now (apart w) end among)

    pub any_pull : (end : PullEnd) → IsTruePull t.troubles u.troubles end → ToldWorlds t u (λ v w. InStep asked.new_client start v → IsTruePull t.troubles u.troubles end)
    any_pull end is =
        told_as t.world u.world (WorldGoes asked.new_client false start after kept goes.trace t.troubles u.troubles)
        (λ v w. InStep asked.new_client start v → IsTruePull t.troubles u.troubles end) goes.told (λ v w went now. is)

  -- ---- by its end

  abbrev Turns : PullEnd → Log → Trace → Type 0
  Turns end kept trace = PullEnds asked.new_client (new_route asked) start end after kept trace

  -- the log that a pull leaves is one with nothing but the rows
  rows_are : (seen : Volume) → after ≡ record { acked = start.acked; base = seen; pending = start.pending } → after ≡ new_log_of 0 seen
  rows_are seen is = is ∙ (λ k. record { acked = unused.0 k; base = seen; pending = unused.1 k })

  -- a pull that took no rows, and left all as it was
  module _ (end : PullEnd) (kept : Log) (goes : GoesSo (Turns end kept) kept) (turn : PullTurn asked.new_client (new_route asked) start end after goes.trace) (same : j ≡ i) (is : after ≡ start) (kept_is : kept ≡ after)
      (none : goes.trace.entries ≡ []) (true_so : ToldWorlds t u (λ v w. InStep asked.new_client start v → IsTruePull t.troubles u.troubles end)) where
    pub ends_pull : EndsPull asked start end old new
    ends_pull = record {
      asks = goes.trace.asks;
      pulls = (goes.trace, subst (λ (l : Log). PullTurn asked.new_client (new_route asked) start end l goes.trace) is turn, refl);
      same = same;
      leaves = subst (λ (l : Log). LeavesShelved asked start l goes.trace.asks old new) (kept_is ∙ is) (leaves (Turns end kept) kept goes none);
      true_pull = true_so;
    }

  -- what is kept where nothing was changed
  as_before : (kept : Log) (changes : List Log) → Told i j (Kept asked.new_image asked.new_client kept changes) → changes ≡ [] → j ≡ i
  as_before kept changes told none = kept_same asked.new_image asked.new_client kept changes none i j told

  -- a pull that was broken off
  breaks : (kept : Log) (turns : Trace → Type 0) (goes : GoesSo turns kept) → StaysOrSaves asked.new_image asked.new_client after i j → BreaksPull asked.new_client (new_route asked) start after goes.trace
      → (lists : List (List Effect)) → ShelvingBreaks asked start lists old new
  breaks kept turns goes saves (inl asking) lists =
      let trace_is = asking.4 in
      record {
        asks = goes.trace.asks;
        kept = kept;
        front = inl (unchanged_kept goes.trace.changes (ap (λ (x : Trace). x.changes) trace_is) goes.keeping.behind, (after, goes.trace, inl asking, refl, as_before kept goes.trace.changes goes.keeping.told, saves));
        leaves = leaves turns kept goes (ap (λ (x : Trace). x.entries) trace_is);
      }
    where
      unchanged_kept : (changes : List Log) → changes ≡ [] → IsLastOrBefore start changes kept → kept ≡ start
      unchanged_kept changes none behind = by (subst (λ (c : List Log). IsLastOrBefore start c kept) none behind)
        where
          by : IsLastOrBefore start [] kept → kept ≡ start
          by (inl last) = last
          by (inr before) = before
  breaks kept turns goes saves (inr pulled) lists =
      let count = pulled.0 in
      let came = pulled.1 in
      let trace_is = came.trace_is in
      let rows : after ≡ new_log_of 0 came.seen = rows_are came.seen came.met.3 in
      record {
        asks = goes.trace.asks;
        kept = kept;
        front = by count came.seen rows (subst (λ (l : Log). PullTurn asked.new_client (new_route asked) start (pulls.Pulled count) l goes.trace) rows came)
            (subst (λ (c : List Log). IsLastOrBefore start c kept) (ap (λ (x : Trace). x.changes) trace_is ∙ changes_are came.changed) goes.keeping.behind);
        leaves = leaves turns kept goes (ap (λ (x : Trace). x.entries) trace_is);
      }
    where
      changes_are : PullChanges start pulled.1.seen (pulls.Pulled pulled.0) after pulled.1.changes → pulled.1.changes ≡ after ∷ []
      changes_are (inl same) = absurd (pulled.2 same.0)
      changes_are (inr more) = more.1

      by : (count : ℕ) (seen : Volume) → after ≡ new_log_of 0 seen → PullTurn asked.new_client (new_route asked) start (pulls.Pulled count) (new_log_of 0 seen) goes.trace → IsLastOrBefore start (after ∷ []) kept
          → KeepsFront asked start lists kept goes.trace.asks old new
      by count seen rows turn (inl last) =
          inr (seen, 0, (count, (goes.trace, turn, refl)), ap Ok (sym (last ∙ rows)), (j, subst (λ (l : Log). StaysOrSaves asked.new_image asked.new_client l i j) rows saves, inl refl))
      by count seen rows turn (inr before) = inl (before, (after, goes.trace, inr pulled, refl, as_before kept goes.trace.changes goes.keeping.told, saves))

  -- the image of the log was put, unless its rows are kept already
  pulled_saves : (count : ℕ) → PullWrites asked.new_image asked.new_client start (pulls.Pulled count) after i j → StaysOrSaves asked.new_image asked.new_client after i j
  pulled_saves count (inl kept) = inl kept.1
  pulled_saves count (inr put) = inr put.1

  pub pull_went : (end : PullEnd) → Went asked.new_client false asked.new_image (PullEnds asked.new_client (new_route asked) start end after) start after i j t u
      → (is_broken_pull end ≡ false → ((count : ℕ) → end ≢ pulls.Pulled count) → j ≡ i) → ((count : ℕ) → end ≢ pulls.Pending count)
      → PullWrites asked.new_image asked.new_client start end after i j → PullsTo asked start after (pulled_to end) old new
  pull_went end went same waits writes = by end went.0 went.1 went.1.turn same waits writes
    where
      by : (end : PullEnd) (kept : Log) (goes : GoesSo (Turns end kept) kept) → Turns end kept goes.trace → (is_broken_pull end ≡ false → ((count : ℕ) → end ≢ pulls.Pulled count) → j ≡ i)
          → ((count : ℕ) → end ≢ pulls.Pending count) → PullWrites asked.new_image asked.new_client start end after i j → PullsTo asked start after (pulled_to end) old new
      by (pulls.Pulled count) kept goes (inl turn) same waits writes =
          let came = turn.0 in
          let rows : after ≡ new_log_of 0 came.seen = rows_are came.seen came.met.3 in
          record {
            asks = goes.trace.asks;
            seen = came.seen;
            pulls = (count, (goes.trace, subst (λ (l : Log). PullTurn asked.new_client (new_route asked) start (pulls.Pulled count) l goes.trace) rows came, refl));
            log_is = rows;
            leaves = subst (λ (l : Log). LeavesShelved asked start l goes.trace.asks old new) turn.1 (leaves (Turns (pulls.Pulled count) kept) kept goes (ap (λ (x : Trace). x.entries) came.trace_is));
            saves = pulled_saves count writes;
          }
      by (pulls.Pulled count) kept goes (inr broken) same waits writes = absurd (cc (broken.0))
      by (pulls.OtherLast last acked) kept goes (inl turn) same waits writes = λ stuck lists.
          let came = turn.0 in
          let none : acked ≡ 0 = came.met.2 ∙ unused.0 in
          subst (λ (n : ℕ). EndsPull asked start (pulls.OtherLast last n) old new) none
          (ends_pull (pulls.OtherLast last acked) kept goes came (same refl (λ count is. cc)) came.met.3 turn.1 (ap (λ (x : Trace). x.entries) came.trace_is)
          (true_pull (Turns (pulls.OtherLast last acked) kept) kept goes (ap (λ (x : Trace). x.entries) came.trace_is) (pulls.OtherLast last acked)
          (subst (λ (x : Trace). IsIn (pulls.OtherLast last acked) x.pulls) (sym came.trace_is) (inl refl))))
      by (pulls.OtherLast last acked) kept goes (inr broken) same waits writes = absurd (cc (broken.0))
      by (pulls.Older path theirs ours) kept goes (inl turn) same waits writes = λ stuck lists.
          let came = turn.0 in
          ends_pull (pulls.Older path theirs ours) kept goes came (same refl (λ count is. cc)) came.met.4 turn.1 (ap (λ (x : Trace). x.entries) came.trace_is)
          (true_pull (Turns (pulls.Older path theirs ours) kept) kept goes (ap (λ (x : Trace). x.entries) came.trace_is) (pulls.Older path theirs ours)
          (subst (λ (x : Trace). IsIn (pulls.Older path theirs ours) x.pulls) (sym came.trace_is) (inl refl)))
      by (pulls.Older path theirs ours) kept goes (inr broken) same waits writes = absurd (cc (broken.0))
      by pulls.Unanswered kept goes (inl turn) same waits writes = λ stuck lists.
          let asks = turn.0.1 in
          let trace_is = asks.3 in
          let none : goes.trace.entries ≡ [] = ap (λ (x : Trace). x.entries) trace_is in
          ends_pull pulls.Unanswered kept goes turn.0 (same refl (λ count is. cc)) asks.2 turn.1 none
          (any_pull (Turns pulls.Unanswered kept) kept goes none pulls.Unanswered ((λ last acked is. cc), λ calm path theirs ours is. cc))
      by pulls.Unanswered kept goes (inr broken) same waits writes = absurd (cc (broken.0))
      by pulls.KeepFault kept goes (inl turn) same waits writes = absurd turn.0.met
      by pulls.KeepFault kept goes (inr broken) same waits writes = (inl refl, breaks kept (Turns pulls.KeepFault kept) goes writes broken.1)
      by pulls.Memory kept goes (inl turn) same waits writes = absurd turn.0.met
      by pulls.Memory kept goes (inr broken) same waits writes = (inr refl, breaks kept (Turns pulls.Memory kept) goes writes broken.1)
      by (pulls.Pending count) kept goes turn same waits writes = absurd (waits count refl)

-- a pull that was not begun
module _ (asked : Shelving) (start : Log) (unused : IsUnused start) (i : Option Images) (t : LinkTelling) (kept : IsKept i asked.new_image asked.new_client start) where
  abbrev same : Standing
  same = record { images = i; link = t }

  nothing_left : LeavesShelved asked start start [] same same
  nothing_left = record {
    kept_is = kept;
    rose = omega arith;
    told = told_start t.world (λ v w. (w.asks ≡ v.asks ++ []) × (InStep asked.new_client start v → InStep asked.new_client start w)) (λ w. (sym (append-nil w.asks), λ now. now));
  }

  pub pull_unbegun : PullsTo asked start start (Err stops.Memory) same same
  pull_unbegun = (
    inr refl,
    λ lists. record { asks = []; kept = start; front = inl (refl, (start, asking [], inl ([], unused.1, refl, (0, omega arith, inl refl), refl), refl, (λ none. refl), inl refl)); leaves = nothing_left },
  )
