-- The served state is always the opening one after the taken entries.
use Rattle.std.specs.Prelude.{if◌then◌else◌}
use Rattle.wire_frames.specs.declared.parts.Part.{Part}
use Rattle.std.proofs.Common.{◌≡◌, ℕ, ◌+◌, Bool, List, [], ◌∷◌, ◌++◌, refl, sym, ◌∙◌, ap, subst}
use Rattle.wire_frames.specs.declared.message.Message.{Message}
use Rattle.wire_frames.specs.declared.message.Message.TheVariants.{Store, Pull}
use Rattle.world_rules.specs.Served.{Served, TakenEntry, entry_stored, StoreVerdict, Repeated, Early, Outdated, Refused, Taken, verdict, served_after, passes, served_through, state_after, taken_if, taken_through, taken_of, state_behind, replay}
use Rattle.mod_log.specs.declared.log.Entry.{Entry}
use Rattle.world_rules.specs.declared.asking.Ask.{Ask}
use Rattle.world_rules.specs.World.{World, Step, Send, Deliver, Other, Relay, happens, happen, IsReplayed}
use Rattle.world_rules.specs.Run.{State, Move, Network, Notes, Logs, Acknowledges, Pulls, Saves, moved, moved_by, Runs}

pub replay-append : (xs ys : List TakenEntry) (served : Served) → replay (xs ++ ys) served ≡ replay ys (replay xs served)
replay-append [] ys served = refl
replay-append (x ∷ xs) ys served = replay-append xs ys (state_behind x served)

replay_if : (of number : ℕ) (effects : _) (base : _) (served : Served) (judgement : StoreVerdict) → verdict of number effects base served ≡ judgement → replay (taken_if judgement (entry_stored of number effects base)) served ≡ served_after of number judgement served
replay_if of number effects base served Repeated is = refl
replay_if of number effects base served Early is = refl
replay_if of number effects base served (Outdated conflict) is = refl
replay_if of number effects base served (Refused cause) is = refl
replay_if of number effects base served (Taken volume) is = ap (λ v. served_after of number v served) is

-- the entries of a store that are taken lead to the state behind it
replay-through : (of number : ℕ) (parts : List Part) (served : Served) → replay (taken_through of number parts served) served ≡ served_through of number parts served
replay-through of number [] served = refl
replay-through of number (part ∷ parts) served =
    let judgement = verdict of number part.effects part.base served in
    by judgement (replay_if of number part.effects part.base served judgement refl) (replay-through of (number + 1) parts (served_after of number judgement served))
  where
    by : (j : StoreVerdict) → replay (taken_if j (entry_stored of number part.effects part.base)) served ≡ served_after of number j served
        → replay (taken_through of (number + 1) parts (served_after of number j served)) (served_after of number j served) ≡ served_through of (number + 1) parts (served_after of number j served)
        → replay (taken_if j (entry_stored of number part.effects part.base) ++ (if passes j then taken_through of (number + 1) parts (served_after of number j served) else [])) served
        ≡ (if passes j then served_through of (number + 1) parts (served_after of number j served) else served_after of number j served)
    by Repeated first rest = rest
    by Early first rest = refl
    by (Outdated conflict) first rest = refl
    by (Refused cause) first rest = refl
    by (Taken volume) first rest = ap (replay (taken_through of (number + 1) parts (served_after of number (Taken volume) served))) first ∙ rest

pub replay-taken : (message : Message) (served : Served) → replay (taken_of message served) served ≡ state_after message served
replay-taken (Store of number parts) served = replay-through of number parts served
replay-taken (Pull of number) served = refl
replay-taken _ served = refl

replayed_more : (world : World) (message : Message) → IsReplayed world → state_after message world.served ≡ replay (world.taken ++ taken_of message world.served) world.opening
replayed_more world message is =
    sym (replay-append world.taken (taken_of message world.served) world.opening ∙ ap (λ s. replay (taken_of message world.served) s) (sym is) ∙ replay-taken message world.served)

step_replayed : (world : World) (step : Step) → IsReplayed world → IsReplayed (happens step world)
step_replayed world (Send message) is = is
step_replayed world (Deliver message joins) is = replayed_more world message is
step_replayed world (Other message) is = is
step_replayed world (Relay message) is = is

pub steps_replayed : (steps : List Step) (world : World) → IsReplayed world → IsReplayed (happen steps world)
steps_replayed [] world is = is
steps_replayed (step ∷ steps) world is = steps_replayed steps (happens step world) (step_replayed world step is)

move_replayed : (state : State) (move : Move) → IsReplayed state.world → IsReplayed (moved move state).world
move_replayed state (Network step) is = step_replayed state.world step is
move_replayed state (Notes ask) is = is
move_replayed state (Logs entry) is = is
move_replayed state (Acknowledges upto reply) is = is
move_replayed state (Pulls last seen) is = is
move_replayed state Saves is = is

moves_replayed : (moves : List Move) (state : State) → IsReplayed state.world → IsReplayed (moved_by moves state).world
moves_replayed [] state is = is
moves_replayed (move ∷ moves) state is = moves_replayed moves (moved move state) (move_replayed state move is)

pub run_replayed : (client : ℕ) (ships : Bool) (entries : List Entry) (made : List Ask) (old new : State) → Runs client ships entries made old new → IsReplayed old.world → IsReplayed new.world
run_replayed client ships entries made old new runs is = subst (λ s. IsReplayed s.world) (sym runs.result) (moves_replayed runs.moves old is)
