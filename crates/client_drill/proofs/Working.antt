-- The session of a drill, over objects in memory.
use Rattle.std.proofs.Common.{◌≡◌, ℕ, List, [], Option, Some, Result, Ok, Err, IfOk, refl, sym, ◌∙◌, ap, subst, arith}
use Rattle.std.specs.Prelude.{codes}
use Rattle.std.specs.declared.alloc.AllocError.{AllocError}
use Rattle.outside.specs.Keeper.{Images}
use Rattle.mod_log.specs.Log.{Log, new_log}
use Rattle.mem_net.specs.declared.parts.NetworkParts.{NetworkParts}
use Rattle.mem_net.specs.Drill.{InDrill}
use Rattle.client_core.specs.declared.route.Route.{Route}
use Rattle.client_core.specs.Keeping.{TellsKept}
use Rattle.client_core.specs.Trace.{Trace}
use Rattle.shell_lang.specs.declared.answer.LineAnswer.{LineAnswer}
use Rattle.client_session.specs.Session.{SessionState, opened, Chain}
use Rattle.client_lines.specs.declared.input.InputEnd.{InputEnd}
use Rattle.client_lines.specs.declared.input.InputEnd.TheVariants.{Read, Failed, TooLong}
use Rattle.client_lines.specs.declared.run.Stop.{Stop}
use Rattle.client_lines.specs.declared.run.Stop.TheVariants as stops
use Rattle.client_lines.specs.Run.{asked_for, status_of, WholeRun}
use Rattle.client_lines.specs.Headline.{Around, Ran}
use Rattle.client_drill.specs.declared.session.Worked.{Worked}
use Rattle.client_drill.specs.Drilled.{drill_route, drill_around, no_images, worked_of, WorksOff}
use Rattle.client_drill.proofs.Tallying.{session_tallies}

-- a session that ended well handled lines one after the other
handles : (route : Route) (before : SessionState) (left rest : Option (List ℕ)) (answers : List (Option LineAnswer)) (old new : Option (List ℕ)) (ended : Result InputEnd Stop) (after : SessionState) (kept : Log) (trace : Trace)
    → 0 ≡ status_of ended → WholeRun route before left rest answers old new ended after kept trace → (lines : List (List ℕ)) × Chain route before (asked_for lines) answers after trace
handles route before left rest answers old new (Ok Read) after kept trace is turn = (turn.0, turn.3.0)
handles route before left rest answers old new (Ok Failed) after kept trace is turn = absurd (omega (arith, is))
handles route before left rest answers old new (Ok TooLong) after kept trace is turn = absurd (omega (arith, is))
handles route before left rest answers old new (Err stops.Sink) after kept trace is turn = absurd (omega (arith, is))
handles route before left rest answers old new (Err stops.Keeper) after kept trace is turn = absurd (omega (arith, is))
handles route before left rest answers old new (Err stops.Memory) after kept trace is turn = absurd (omega (arith, is))

module _ (lines : List ℕ) (runner runner_now : InDrill) (net net_now : NetworkParts InDrill) (left written : List ℕ) (images : Images) (worked : Worked) where
  abbrev around : Around
  around = drill_around lines [] no_images runner net

  abbrev around_now : Around
  around_now = drill_around left written images runner_now net_now

  works_by : (ran : Ran 1 drill_route new_log around around_now 0) → ((log : Log) → TellsKept (Some images) (codes "drill") 1 log → worked ≡ worked_of log)
      → WorksOff lines runner runner_now net net_now worked
  works_by ran counted =
      let kept_is : ran.kept ≡ ran.after.client.log =
      ran.kept_last (λ five. omega (arith, five)) (λ seven. omega (arith, seven)) ∙ sym ran.goes.keeping.last in
      let is : worked ≡ worked_of ran.after.client.log = counted ran.kept ran.goes.keeping.told.keeps ∙ ap worked_of kept_is in
      let handled =
      handles drill_route (opened 1 new_log) (Some lines) (Some left) ran.answers (Some []) (Some written) ran.ended ran.after ran.kept ran.goes.trace ran.status_is ran.goes.turn in
      record {
        left = left;
        written = written;
        images = images;
        ran = ran;
        entries = omega (arith, ap (λ (w : Worked). w.logged) is, session_tallies drill_route (opened 1 new_log) (asked_for handled.0) ran.answers ran.after ran.goes.trace handled.1);
        worked_is = is;
      }

  -- one that ended well, and what is kept at its end
  pub works : (status : ℕ) → status ≡ 0 → Ran 1 drill_route new_log around around_now status
      → ((log : Log) → TellsKept (Some images) (codes "drill") 1 log → worked ≡ worked_of log) → WorksOff lines runner runner_now net net_now worked
  works status well ran counted = works_by (subst (λ (n : ℕ). Ran 1 drill_route new_log around around_now n) well ran) counted

module _ (lines : List ℕ) (runner runner_now : InDrill) (net net_now : NetworkParts InDrill) (left written : List ℕ) (images : Images) (status : ℕ) where
  -- a session over objects that tell this
  abbrev Session : Route → List ℕ → List ℕ → Images → Type 0
  Session route input output found =
      (start : Log) → TellsKept (Some found) route.image 1 start → Ran 1 route start (drill_around input output found runner net) (drill_around left written images runner_now net_now) status

  begun : (route : Route) (input output : List ℕ) (found : Images) → route ≡ drill_route → input ≡ lines → output ≡ [] → found ≡ no_images → Session route input output found
      → Ran 1 drill_route new_log (drill_around lines [] no_images runner net) (drill_around left written images runner_now net_now) status
  begun route input output found route_is input_is output_is found_is session =
      subst (λ (i : Images). Session drill_route lines [] i) found_is
      (subst (λ (o : List ℕ). Session drill_route lines o found) output_is
      (subst (λ (l : List ℕ). Session drill_route l output found) input_is
      (subst (λ (r : Route). Session r input output found) route_is session))) new_log refl

  -- the session over the objects that were made for it, and what it came to
  pub works_if : (route : Route) (input output : List ℕ) (found : Images) → route ≡ drill_route → input ≡ lines → output ≡ [] → found ≡ no_images → status ≡ 0 → Session route input output found
      → (result : Result Worked AllocError) → ((log : Log) → TellsKept (Some images) (codes "drill") 1 log → IfOk result (λ worked. worked ≡ worked_of log))
      → IfOk result (WorksOff lines runner runner_now net net_now)
  works_if route input output found route_is input_is output_is found_is well session (Err refused) counted = tt
  works_if route input output found route_is input_is output_is found_is well session (Ok worked) counted =
      works lines runner runner_now net net_now left written images worked status well (begun route input output found route_is input_is output_is found_is session) counted
