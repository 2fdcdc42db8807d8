-- Which peers a run asks, and for what.
use Rattle.std.proofs.Common.{⊎_elim, ℕ, List, [], ◌++◌, Option, Result, Ok, Err}
use Rattle.tree_values.specs.Lists.{IsIn}
use Rattle.mod_log.specs.Log.{Log, IsLog}
use Rattle.world_rules.specs.declared.asking.Ask.{Ask}
use Rattle.client_core.specs.declared.route.Route.{Route}
use Rattle.client_core.specs.Trace.{Trace}
use Rattle.client_core.specs.Licence.{AreLicensed}
use Rattle.shell_lang.specs.declared.answer.LineAnswer.{LineAnswer}
use Rattle.client_session.specs.Session.{SessionState}
use Rattle.client_session.specs.Laws.{IsOfRoute}
use Rattle.client_session.proofs.Licensed.{sessions_licensed, broken_sessions_licensed}
use Rattle.client_session.proofs.Peers.{asks_are_of_the_route, broken_sessions_ask_the_route}
use Rattle.client_lines.specs.declared.input.InputEnd.{InputEnd}
use Rattle.client_lines.specs.declared.run.Stop.{Stop}
use Rattle.client_lines.specs.declared.run.Stop.TheVariants.{Sink, Keeper, Memory}
use Rattle.client_lines.specs.Run.{asked_for, HandlesAll, Handles, WholeRun}

module _ (route : Route) (before after : SessionState) (kept : Log) (answers : List (Option LineAnswer)) (trace : Trace) (ask : Ask) (among : IsIn ask trace.asks) where
  all_peers : (lines : List (List ℕ)) → HandlesAll route before lines answers after kept trace → IsOfRoute route ask
  all_peers lines all = asks_are_of_the_route route before (asked_for lines) answers after trace ask all.0 among

  some_peers : (stop : Stop) (lines : List (List ℕ)) → Handles stop route before lines answers after kept trace → IsOfRoute route ask
  some_peers Sink lines all = all_peers lines all
  some_peers Keeper lines some = ⊎_elim (λ all. all_peers lines all) (λ breaks. broken_sessions_ask_the_route route before (asked_for lines) answers after kept trace ask breaks among) some
  some_peers Memory lines some = ⊎_elim (λ all. all_peers lines all) (λ breaks. broken_sessions_ask_the_route route before (asked_for lines) answers after kept trace ask breaks among) some

  pub run_peers : (left rest o n : Option (List ℕ)) (ended : Result InputEnd Stop) → WholeRun route before left rest answers o n ended after kept trace → IsOfRoute route ask
  run_peers left rest o n (Ok end) turn = all_peers turn.0 turn.3
  run_peers left rest o n (Err stop) turn = ⊎_elim (λ stops. some_peers stop stops.0 stops.4) (λ closing. all_peers turn.0 closing.1.3) turn.3

module _ (route : Route) (before after : SessionState) (kept : Log) (answers : List (Option LineAnswer)) (trace : Trace) (is : IsLog before.client.log) where
  abbrev Licensed : Type 0
  Licensed = AreLicensed before.client.number route (before.client.log.pending ++ trace.entries) [] trace.asks

  all_licensed : (lines : List (List ℕ)) → HandlesAll route before lines answers after kept trace → Licensed
  all_licensed lines all = sessions_licensed route before (asked_for lines) answers after trace is all.0

  some_licensed : (stop : Stop) (lines : List (List ℕ)) → Handles stop route before lines answers after kept trace → Licensed
  some_licensed Sink lines all = all_licensed lines all
  some_licensed Keeper lines some = ⊎_elim (λ all. all_licensed lines all) (λ breaks. broken_sessions_licensed route before (asked_for lines) answers after kept trace is breaks) some
  some_licensed Memory lines some = ⊎_elim (λ all. all_licensed lines all) (λ breaks. broken_sessions_licensed route before (asked_for lines) answers after kept trace is breaks) some

  pub run_licensed : (left rest o n : Option (List ℕ)) (ended : Result InputEnd Stop) → WholeRun route before left rest answers o n ended after kept trace → Licensed
  run_licensed left rest o n (Ok end) turn = all_licensed turn.0 turn.3
  run_licensed left rest o n (Err stop) turn = ⊎_elim (λ stops. some_licensed stop stops.0 stops.4) (λ closing. all_licensed turn.0 closing.1.3) turn.3
