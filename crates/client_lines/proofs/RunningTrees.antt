-- The client's tree at the end of a run whose pulls brought nothing, and what refuses an entry of it then.
use Rattle.std.proofs.Common.{⊎_elim, ℕ, ◌<◌, ◌≤◌, Bool, List, ◌++◌, Option, Result, Ok, Err, ap}
use Rattle.std.proofs.lemmas.Bool.{cases_lt}
use Rattle.tree_values.specs.Tree.{Volume, version_at}
use Rattle.mod_log.specs.declared.log.Entry.{Entry}
use Rattle.mod_log.specs.Log.{Log}
use Rattle.world_rules.specs.declared.asking.Ask.{Ask}
use Rattle.world_rules.specs.World.{World}
use Rattle.world_rules.specs.InStep.{InStep, HasNoCollision}
use Rattle.world_rules.specs.Run.{Runs, kept_at}
use Rattle.client_core.specs.declared.route.Route.{Route}
use Rattle.client_core.specs.Trace.{Trace}
use Rattle.client_core.specs.Goes.{stand}
use Rattle.client_core.specs.Honest.{IsOvertaken}
use Rattle.client_core.specs.Noting.{TakesNoRows}
use Rattle.client_core.specs.Overtaken.{HasPulledNothing}
use Rattle.client_core.proofs.Staying.{refused_overtaken}
use Rattle.shell_lang.specs.declared.answer.LineAnswer.{LineAnswer}
use Rattle.client_session.specs.Session.{SessionState}
use Rattle.client_session.proofs.Answered.{Unrefused}
use Rattle.client_session.proofs.Unpulled.{Makes, chain_makes, broken_chain_makes}
use Rattle.client_lines.specs.declared.input.InputEnd.{InputEnd}
use Rattle.client_lines.specs.declared.run.Stop.{Stop}
use Rattle.client_lines.specs.declared.run.Stop.TheVariants.{Sink, Keeper, Memory}
use Rattle.client_lines.specs.Run.{asked_for, HandlesAll, Handles, WholeRun}

module _ (route : Route) (before after : SessionState) (kept : Log) (answers : List (Option LineAnswer)) (trace : Trace) (none : TakesNoRows trace) where
  abbrev MakesTree : Type 0
  MakesTree = Makes before.client.log after.client.log trace

  all_make : (lines : List (List ℕ)) → HandlesAll route before lines answers after kept trace → MakesTree
  all_make lines all = chain_makes route before (asked_for lines) answers after trace all.0 none

  some_make : (stop : Stop) (lines : List (List ℕ)) → Handles stop route before lines answers after kept trace → MakesTree
  some_make Sink lines all = all_make lines all
  some_make Keeper lines some = ⊎_elim (λ all. all_make lines all) (λ breaks. broken_chain_makes route before (asked_for lines) answers after kept trace breaks none) some
  some_make Memory lines some = ⊎_elim (λ all. all_make lines all) (λ breaks. broken_chain_makes route before (asked_for lines) answers after kept trace breaks none) some

  run_makes : (left rest o n : Option (List ℕ)) (ended : Result InputEnd Stop) → WholeRun route before left rest answers o n ended after kept trace → MakesTree
  run_makes left rest o n (Ok end) turn = all_make turn.0 turn.3
  run_makes left rest o n (Err stop) turn = ⊎_elim (λ stops. some_make stop stops.0 stops.4) (λ closing. all_make turn.0 closing.1.3) turn.3

  pub run_pulls_nothing : (left rest o n : Option (List ℕ)) (ended : Result InputEnd Stop) → WholeRun route before left rest answers o n ended after kept trace
      → HasPulledNothing trace.entries before.client.log after.client.log
  run_pulls_nothing left rest o n ended turn path = ap (λ (v : Volume). version_at v path) (run_makes left rest o n ended turn)

-- where no path is ahead at the end, nothing refuses an entry that was not acknowledged at the beginning
pub run_unrefused : (client : ℕ) (ships : Bool) (entries : List Entry) (asks : List Ask) (start last kept : Log) (old new : World) → InStep client start old
    → Runs client ships entries asks (kept_at start old) (stand last kept new) → HasNoCollision client (start.pending ++ entries) new.packets → HasPulledNothing entries start last
    → (IsOvertaken client last new → ⊥) → Unrefused client start.acked new.packets
run_unrefused client ships entries asks start last kept old new now runs apart pulled unahead number reply is among =
    ⊎_elim
    (λ (less : start.acked < number). absurd (unahead (refused_overtaken client ships entries asks (kept_at start old) (stand last kept new) now runs apart pulled number reply is among less)))
    (λ (most : number ≤ start.acked). most) (cases_lt start.acked number)
