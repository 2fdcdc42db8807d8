-- What a shelving leaves, put together from what its parts did.
use Rattle.std.proofs.Common.{◌≡◌, ◌≢◌, inr, ℕ, zero, suc, List, [], ◌∷◌, ◌++◌, take, Option, None, Some, Result, Ok, Err, refl, sym, subst}
use Rattle.std.specs.List.{AllByRecursion}
use Rattle.outside.specs.Keeper.{Images}
use Rattle.tree_values.specs.Spelling.{EffectsFit}
use Rattle.tree_values.specs.declared.node.Effect.{Effect}
use Rattle.mod_log.specs.declared.log.LogError.{LogError}
use Rattle.mod_log.specs.Log.{Log, new_log_of}
use Rattle.world_rules.specs.Telling.{LinkTelling}
use Rattle.world_rules.specs.InStep.{InStep}
use Rattle.world_rules.proofs.Asks.{told_as}
use Rattle.client_core.specs.Keeping.{IsKept}
use Rattle.client_shelf.specs.declared.ends.Ending.{Ending}
use Rattle.client_shelf.specs.declared.ends.ShelvingStop.{ShelvingStop}
use Rattle.client_shelf.specs.Shelving.{Shelving, appended_all}
use Rattle.client_shelf.specs.Ending.{Standing, LeavesShelved, StaysOrSaves, RefusesEntries, EndsBehind}
use Rattle.client_shelf.specs.Inside.{TakesPulledRows, PullsTo, KeepsAll, LogsTo, GoesTo}
use Rattle.client_shelf.proofs.Logged.{logs_in_step}

-- ---- logging behind the rows

module _ (asked : Shelving) (start log : Log) (lists : List (List Effect)) (fit : AllByRecursion EffectsFit lists) (i j k : Option Images) (t u : LinkTelling) where
  abbrev old : Standing
  old = record { images = i; link = t }

  abbrev middle : Standing
  middle = record { images = j; link = u }

  abbrev new : Standing
  new = record { images = k; link = u }

  module _ (rows : TakesPulledRows asked start log old middle) where
    -- a log that entries led to is in step where the rows were
    pub leaves_logged : (some : List (List Effect)) → AllByRecursion EffectsFit some → (kept : Log) → appended_all some (new_log_of 0 rows.seen) ≡ Ok kept → IsKept k asked.new_image asked.new_client kept
        → LeavesShelved asked start kept rows.asks old new
    leaves_logged some each kept logged keeps = record {
      kept_is = keeps;
      rose = rows.leaves.rose;
      told = told_as t.world u.world (λ v w. (w.asks ≡ v.asks ++ rows.asks) × (InStep asked.new_client start v → InStep asked.new_client log w))
          (λ v w. (w.asks ≡ v.asks ++ rows.asks) × (InStep asked.new_client start v → InStep asked.new_client kept w)) rows.leaves.told
          (λ v w so. (
            so.0,
            λ now. logs_in_step asked.new_client w some (new_log_of 0 rows.seen) kept each tt logged (subst (λ (l : Log). InStep asked.new_client l w) rows.log_is (so.1 now)),
          ));
    }

  fits_front : {X : Type 0} (P : X → Type 0) (count : ℕ) (xs : List X) → AllByRecursion P xs → AllByRecursion P (take count xs)
  fits_front P zero xs all = tt
  fits_front P (suc count) [] all = tt
  fits_front P (suc count) (x ∷ xs) all = (all.0, fits_front P count xs all.1)

  on_rows : (rows : TakesPulledRows asked start log old middle) (some : List (List Effect)) (r : Result Log LogError) → appended_all some log ≡ r → appended_all some (new_log_of 0 rows.seen) ≡ r
  on_rows rows some r is = subst (λ (l : Log). appended_all some l ≡ r) rows.log_is is

  pub logged_so : (result : Result (Option Ending) ShelvingStop) → TakesPulledRows asked start log old middle → KeepsAll asked.new_client asked.new_image lists log result j k → LogsTo asked start lists result old new
  logged_so (Ok None) rows keeps =
      let logged = on_rows rows lists (Ok keeps.0) keeps.1 in
      record { asks = rows.asks; seen = rows.seen; pulls = rows.pulls; kept = keeps.0; logged = logged; leaves = leaves_logged rows lists fit keeps.0 logged keeps.2 }
  logged_so (Ok (Some ending)) rows keeps = λ stuck.
      let kept : IsKept k asked.new_image asked.new_client log = subst (λ (images : Option Images). IsKept images asked.new_image asked.new_client log) (sym keeps.3) rows.leaves.kept_is in
      let still : IsKept k asked.new_image asked.new_client (new_log_of 0 rows.seen) = subst (λ (l : Log). IsKept k asked.new_image asked.new_client l) rows.log_is kept in
      subst (λ (e : Ending). EndsBehind asked stuck start lists e old new) (sym keeps.1)
      (record { asks = rows.asks; seen = rows.seen; pulls = rows.pulls; refused = on_rows rows lists (Err keeps.0) keeps.2; leaves = leaves_logged rows [] tt (new_log_of 0 rows.seen) refl still })
  logged_so (Err stop) rows keeps =
      let front = keeps.1 in
      let logged = on_rows rows (take front.0 lists) (Ok front.1) front.2 in (
        keeps.0,
        record {
          asks = rows.asks;
          kept = front.1;
          front = inr (
            rows.seen,
            front.0,
            rows.pulls,
            logged,
            (
              j,
              subst (λ (l : Log). StaysOrSaves asked.new_image asked.new_client l i j) rows.log_is rows.saves,
              subst (λ (l : Log). RefusesEntries asked.new_image asked.new_client lists l j k) rows.log_is keeps.2,
            ),
          );
          leaves = leaves_logged rows (take front.0 lists) (fits_front EffectsFit front.0 lists fit) front.1 logged front.3;
        },
      )
