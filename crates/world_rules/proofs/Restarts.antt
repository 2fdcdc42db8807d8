-- What is kept at the end of a run is where a run of its own ends, in which what was not kept was not done.
use Rattle.std.proofs.Common.{◌≡◌, ◌⊎◌, inl, inr, ⊎_elim, ℕ, Bool, List, [], ◌∷◌, ◌++◌, refl, sym, ◌∙◌, ap, subst, append_assoc}
use Rattle.mod_log.specs.declared.log.Entry.{Entry}
use Rattle.mod_log.specs.Log.{Log}
use Rattle.world_rules.specs.declared.asking.Ask.{Ask}
use Rattle.world_rules.specs.World.{World, Step, Send, Deliver, Other, Relay, happens, happen, IsAllowed, AreAllowed, GoesOnAlone}
use Rattle.world_rules.specs.Run.{State, kept_at, restarted, MaySendKept, Move, Network, Notes, Logs, Acknowledges, Pulls, Saves, moved, IsPossible, AllPossible, moved_by, entry_in, entries_in, ask_in, asks_in, Runs}
use Rattle.world_rules.proofs.Runs.{allowed_kept, runs_none, runs_then, runs_once}

module _ (client : ℕ) (ships : Bool) where
  -- none of the moves keeps the log: without what they do to it the kept log goes on
  abbrev Unkept : List Move → State → Type 0
  Unkept moves state = Runs client ships [] (asks_in moves) (restarted state) (restarted (moved_by moves state))

  -- one of them does: what comes behind the last such is not done to the log
  abbrev InPart : List Move → State → Type 0
  InPart moves state = (kept unkept : List Entry) × (entries_in moves ≡ kept ++ unkept) × Runs client ships kept (asks_in moves) state (restarted (moved_by moves state))

  allowed_restarted : (state : State) (step : Step) → IsAllowed (MaySendKept client ships state) state.world step → IsAllowed (MaySendKept client ships (restarted state)) state.world step
  allowed_restarted state (Send message) may = (allowed_kept client ships state (Send message) may, refl)
  allowed_restarted state (Deliver message joins) may = may
  allowed_restarted state (Other message) may = may
  allowed_restarted state (Relay message) may = may

  -- a move before one that keeps the log
  kept_later : (state : State) (move : Move) (moves : List Move) → IsPossible client ships state move → InPart moves (moved move state) → InPart (move ∷ moves) state
  kept_later state move moves may part = (
    entry_in move ++ part.0,
    part.1,
    ap (λ (es : List Entry). entry_in move ++ es) part.2 ∙ sym (append_assoc (entry_in move) part.0 part.1),
    runs_then client ships (entry_in move) part.0 (ask_in move) (asks_in moves) state (moved move state) (restarted (moved_by moves (moved move state))) (runs_once client ships state move may) part.3,
  )

  -- a move before others that do not
  unkept_later : (state : State) (move : Move) (moves : List Move) → IsPossible client ships state move → Unkept moves (moved move state) → Unkept (move ∷ moves) state ⊎ InPart (move ∷ moves) state
  unkept_later state (Network step) moves may rest =
      inl (runs_then client ships [] [] [] (asks_in moves) (restarted state) (restarted (moved (Network step) state)) (restarted (moved_by moves (moved (Network step) state)))
      (runs_once client ships (restarted state) (Network step) (allowed_restarted state step may)) rest)
  unkept_later state (Notes ask) moves may rest =
      inl (runs_then client ships [] [] (ask ∷ []) (asks_in moves) (restarted state) (restarted (moved (Notes ask) state)) (restarted (moved_by moves (moved (Notes ask) state)))
      (runs_once client ships (restarted state) (Notes ask) may) rest)
  unkept_later state (Logs entry) moves may rest = inl rest
  unkept_later state (Acknowledges upto reply) moves may rest = inl rest
  unkept_later state (Pulls last seen) moves may rest = inl rest
  unkept_later state Saves moves may rest =
      inr (
        [],
        entries_in moves,
        refl,
        runs_then client ships [] [] [] (asks_in moves) state (moved Saves state) (restarted (moved_by moves (moved Saves state))) (runs_once client ships state Saves tt) rest,
      )

  part_or_none : (moves : List Move) (state : State) → AllPossible client ships state moves → Unkept moves state ⊎ InPart moves state
  part_or_none [] state may = inl (runs_none client ships (restarted state))
  part_or_none (move ∷ moves) state may =
      ⊎_elim (unkept_later state move moves may.0) (λ part. inr (kept_later state move moves may.0 part)) (part_or_none moves (moved move state) may.1)

  pub restart_runs : (entries : List Entry) (made : List Ask) (old new : State) → old.kept ≡ old.log → Runs client ships entries made old new
      → (kept unkept : List Entry) × (entries ≡ kept ++ unkept) × Runs client ships kept made old (restarted new)
  restart_runs entries made old new begins runs =
      let same : restarted old ≡ old = λ i. record { log = begins i; kept = old.kept; world = old.world } in
      let part : InPart runs.moves old = ⊎_elim (λ (none : Unkept runs.moves old). (
        [],
        entries_in runs.moves,
        refl,
        subst (λ (s : State). Runs client ships [] (asks_in runs.moves) s (restarted (moved_by runs.moves old))) same none,
      )) (λ part. part) (part_or_none runs.moves old runs.possible) in (
        part.0,
        part.1,
        sym runs.entries ∙ part.2,
        subst (λ (asks : List Ask). Runs client ships part.0 asks old (restarted new)) runs.asks
            (subst (λ (s : State). Runs client ships part.0 (asks_in runs.moves) old (restarted s)) (sym runs.result) part.3),
      )

  -- ---- a world that goes on without its client

  allowed_alone : (log : Log) (world : World) (step : Step) → IsAllowed (λ message. ⊥) world step → IsAllowed (MaySendKept client ships (kept_at log world)) world step
  allowed_alone log world (Send message) may = absurd may
  allowed_alone log world (Deliver message joins) may = may
  allowed_alone log world (Other message) may = may
  allowed_alone log world (Relay message) may = may

  steps_alone : (log : Log) (steps : List Step) (world : World) → AreAllowed (λ message. ⊥) world steps → Runs client ships [] [] (kept_at log world) (kept_at log (happen steps world))
  steps_alone log [] world are = runs_none client ships (kept_at log world)
  steps_alone log (step ∷ steps) world are =
      runs_then client ships [] [] [] [] (kept_at log world) (kept_at log (happens step world)) (kept_at log (happen steps (happens step world)))
      (runs_once client ships (kept_at log world) (Network step) (allowed_alone log world step are.0)) (steps_alone log steps (happens step world) are.1)

  pub alone_runs : (log : Log) (old new : World) → GoesOnAlone old new → Runs client ships [] [] (kept_at log old) (kept_at log new)
  alone_runs log old new goes =
      subst (λ (w : World). Runs client ships [] [] (kept_at log old) (kept_at log w)) (sym goes.result) (steps_alone log goes.steps old goes.allowed)
