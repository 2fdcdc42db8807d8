use Rattle.std.proofs.Common.{◌≡◌, ℕ, subst, sym}
use Rattle.client_core.specs.declared.route.Route.{Route}
use Rattle.client_prog.specs.Words.{Invocation, route_of}
use Rattle.client_prog.specs.Inside.{run_said}
use Rattle.client_lines.specs.Headline.{Around}
use Rattle.client_lines.specs.Ending.{Faults, SessionEnds}
use Rattle.client_lines.proofs.RunningOpened.{wanted_ends}
use Rattle.client_prog.proofs.run.run_words_session.Goals as goal

-- the session of the route that the words ask for is theirs
session_at : (number : ℕ) (route words_route : Route) (status : ℕ) (old new : Around) (faults faults_now : Faults) → route ≡ words_route
    → SessionEnds number route status old new faults faults_now → SessionEnds number words_route status old new faults faults_now
session_at number route words_route status old new faults faults_now at ends = subst (λ (r : Route). SessionEnds number r status old new faults faults_now) at ends

pub returns-in-Ok : goal.returns-in-Ok
returns-in-Ok g c = session_at _ c.in-Ok.route (route_of (run_said c.args.words.now)) c.session_run-status.result _ _ _ _ c.in-Ok.ensures c.session_run-status.ensures

-- where memory was wanted for the route, nothing is done
wanted_at : (run : Invocation) (status : ℕ) (around : Around) (faults : Faults) → status ≡ 7 → SessionEnds run.client (route_of run) status around around faults faults
wanted_at run status around faults is = subst (λ (s : ℕ). SessionEnds run.client (route_of run) s around around faults faults) (sym is) (wanted_ends run.client (route_of run) around faults)

pub returns-in-Err : goal.returns-in-Err
returns-in-Err g c = wanted_at (run_said c.args.words.now) c.code.result _ _ c.code.ensures
