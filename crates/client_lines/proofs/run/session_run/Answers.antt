use Rattle.std.proofs.Common.{rules, ◌≡◌, ℕ, List, [], Option, Err, IsTrue, sym, ap, subst, ◌∙◌, arith}
use Rattle.outside.specs.Outside.{Told}
use Rattle.outside.specs.Keeper.{Images}
use Rattle.mod_log.specs.Log.{Log}
use Rattle.client_core.specs.declared.route.Route.{Route}
use Rattle.client_core.specs.Keeping.{IsKept, IsKeptReady, TellsKept}
use Rattle.client_core.specs.Client.{Client}
use Rattle.client_core.proofs.Journal.{unkept_ready}
use Rattle.client_lines.specs.declared.run.Stop.TheVariants as stops
use Rattle.client_lines.specs.declared.opening.Unopened.TheVariants.{Image, Keeper}
use Rattle.client_session.specs.Session.{Sitting, state_of, opened}
use Rattle.client_lines.specs.Opening.{status_unopened}
use Rattle.client_lines.specs.Run.{status_of, is_session_status, IsInputRead}
use Rattle.cmd_capture.specs.Runs.{telling}
use Rattle.client_session.specs.Doing.{beside}
use Rattle.client_lines.specs.InsideRun.{WentNoting, RunAnswers}
use Rattle.client_lines.specs.Headline.{Around}
use Rattle.client_lines.specs.Ending.{Faults, SessionEnds}
use Rattle.client_lines.specs.Objects.{objects_tell}
use Rattle.client_lines.proofs.Counting.{source_status, sink_status, keeper_status, source_unopened, sink_unopened, keeper_unopened, same_at_six, rises, rose}
use Rattle.client_lines.proofs.RunningEnds.{is_read, ends_well}
use Rattle.client_lines.proofs.RunningOpened.{BegunRun, not_six, image_is, is_unopened, none_read, around, opened_ran, opened_some, unopened_ran, unopened_some, opened_well, unopened_well, opened_of_none}
use Rattle.client_lines.proofs.run.session_run.Goals as goal

-- the session ended at a moment that is told in other words
ended_at : (number : ℕ) (route : Route) (status : ℕ) (old new : Around) (faults now : Faults) {end : Around} {faults_now : Faults} → end ≡ new → faults_now ≡ now
    → SessionEnds number route status old new faults now → SessionEnds number route status old end faults faults_now
ended_at number route status old new faults now {end} {faults_now} is same ends =
    subst (λ (moment : Around). SessionEnds number route status old moment faults faults_now) (sym is)
    (subst (λ (counts : Faults). SessionEnds number route status old new faults counts) (sym same) ends)

-- ---- a client was opened

pub run-ended-requires : goal.run-ended-requires
run-ended-requires g c =
    let route = c.args.route.now in
    let client = c.in-Ok.client in
    let k = g.K.Keeper.images c.«open».new.keeper in
    let keeps : IsKept k route.image client.number client.log =
    subst (λ (m : ℕ). IsKept k route.image m client.log) (sym c.in-Ok.ensures.number)
    (subst (λ (m : List ℕ). IsKept k m c.args.number client.log) c.bytes.ensures.value
    (subst (λ (told : Option Images). IsKept told c.bytes.result.now c.args.number client.log) (sym c.in-Ok.ensures.same) c.in-Ok.ensures.kept)) in
    subst (λ (s : Sitting). IsKeptReady k route.image s.client) (sym c.new-session.ensures) (keeps, unkept_ready k route.image client c.in-Ok.ensures.journal)

pub returns-in-Ok : goal.returns-in-Ok
returns-in-Ok g c =
    let route = c.args.route.now in
    let run : BegunRun = record { client = c.args.number; route = route } in
    let left = g.I.Source.left c.args.input.now in
    let o = g.O.Sink.written c.args.output.now in
    let i = g.K.Keeper.images c.args.keeper.now in
    let t = beside (g.L.Link.tells c.args.link.now) (telling (g.R.Runner.runs c.args.runner.now) (g.R.Runner.faults c.args.runner.now)) in
    let at : c.bytes.result.now ≡ route.image = c.bytes.ensures.value in
    let client = c.in-Ok.client in
    let ended = c.run-ended.result in
    let status = c.code.result in
    let is : status ≡ status_of ended = c.code.ensures ∙ c.status_of.ensures.status in
    let rest = g.I.Source.left c.run-ended.new.input in
    let end = objects_tell g.O.Sink g.K.Keeper g.R.Runner g.L.Link c.run-ended.new.self in
    let ran = c.run-ended.ensures.did in
    let n = end.written in
    let j = end.images in
    let u = end.told in
    let a = g.I.Source.faults c.args.input.now in
    let b = g.I.Source.faults c.run-ended.new.input in
    let d = g.O.Sink.faults c.args.output.now in
    let e = end.sink in
    let p = g.K.Keeper.faults c.args.keeper.now in
    let m = g.K.Keeper.faults c.«open».new.keeper in
    let q = end.keeper in
    let after = c.run-ended.new.session in
    let now = state_of after in
    let went : WentNoting route ended (RunAnswers route (opened client.number client.log) left rest o n ended now) (record { client = client; folder = [] }) after i j t u =
    subst (λ (s : Sitting). WentNoting route ended (RunAnswers route (opened client.number client.log) left rest o n ended now) s after i j t u) c.new-session.ensures
    (subst (λ (s : Sitting). WentNoting route ended (RunAnswers route (state_of s) left rest o n ended now) c.new-session.result after i j t u) c.new-session.ensures
    (subst (λ (told : Option Images). WentNoting route ended (RunAnswers route (state_of c.new-session.result) left rest o n ended now) c.new-session.result after told j t u) c.in-Ok.ensures.same ran.did)) in
    let kept : IsKept i route.image c.args.number client.log = subst (λ (name : List ℕ). IsKept i name c.args.number client.log) at c.in-Ok.ensures.kept in
    let faults : Faults = record { source = a; sink = d; keeper = p } in
    let faults_now : Faults = record { source = b; sink = e; keeper = q } in
    let ends : SessionEnds c.args.number route status (around left o i t) (around rest n j u) faults faults_now =
    record {
      known = subst (λ (number : ℕ). IsTrue (is_session_status number)) (sym c.code.ensures) c.status_of.ensures.known;
      unopened = λ six. absurd (not_six ended status is six);
      image = λ six. absurd (not_six ended status is six);
      no_image = opened_of_none run i client.log status kept;
      later = ran.later;
      runner_later = ran.runner_later;
      source = source_status a b status ended is c.run-ended.ensures.source;
      sink = sink_status d e status ended is ran.sink;
      keeper = keeper_status p m q status ended is (c.in-Ok.ensures.cause.never (λ same. absurd (cc (same)))) ran.keeper;
      input = subst (λ (n : ℕ). Told left rest (IsInputRead n)) (sym is) (is_read left rest ended c.run-ended.ensures.input);
      complete = opened_well run i left a b d e p q status
          (ends_well left rest a b d e p q status ended is c.run-ended.ensures.input (rises a b c.run-ended.ensures.source) (rose stops.Sink d e ended ran.sink)
          (λ faulty. omega (arith, c.in-Ok.ensures.cause.later, rose stops.Keeper m q ended ran.keeper faulty)));
      begun = opened_some run client i j left rest o n ended after status t u c.in-Ok.ensures.number c.in-Ok.ensures.journal kept is went;
      session = opened_ran run client i j left rest o n ended after status t u c.in-Ok.ensures.number c.in-Ok.ensures.journal
          (λ start told. c.in-Ok.ensures.only start (subst (λ (name : List ℕ). TellsKept i name c.args.number start) (sym at) told)) is went;
    } in
    ended_at c.args.number route status (around left o i t) (around rest n j u) faults faults_now (search rules) (search rules) ends

-- ---- no client was opened

pub returns-in-Err : goal.returns-in-Err
returns-in-Err g c =
    let route = c.args.route.now in
    let run : BegunRun = record { client = c.args.number; route = route } in
    let left = g.I.Source.left c.args.input.now in
    let o = g.O.Sink.written c.args.output.now in
    let i = g.K.Keeper.images c.args.keeper.now in
    let j = g.K.Keeper.images c.«open».new.keeper in
    let t = beside (g.L.Link.tells c.args.link.now) (telling (g.R.Runner.runs c.args.runner.now) (g.R.Runner.faults c.args.runner.now)) in
    let at : c.bytes.result.now ≡ route.image = c.bytes.ensures.value in
    let unopened = c.in-Err.unopened in
    let status = c.code-in-Err.result in
    let is : status ≡ status_unopened unopened = c.code-in-Err.ensures ∙ c.status_unopened.ensures.status in
    let image = λ (cause : unopened ≡ Image) (start : Log) (told : TellsKept i route.image c.args.number start).
    c.in-Err.ensures.image (ap Err cause) start (subst (λ (name : List ℕ). TellsKept i name c.args.number start) (sym at) told) in
    let a = g.I.Source.faults c.args.input.now in
    let d = g.O.Sink.faults c.args.output.now in
    let p = g.K.Keeper.faults c.args.keeper.now in
    let q = g.K.Keeper.faults c.«open».new.keeper in
    record {
      known = subst (λ (number : ℕ). IsTrue (is_session_status number)) (sym c.code-in-Err.ensures) c.status_unopened.ensures.known;
      unopened = λ six. (
        ap (λ (k : Option Images). around left o k t) c.in-Err.ensures.same,
        ap (λ (k : ℕ). record { source = a; sink = d; keeper = k }) (same_at_six p q status unopened is c.in-Err.ensures.cause six),
      );
      image = λ six. image (image_is unopened status is six);
      no_image = λ none. is_unopened unopened status is;
      later = search rules;
      runner_later = search rules;
      source = source_unopened a status unopened is;
      sink = sink_unopened d status unopened is;
      keeper = keeper_unopened p q status unopened is c.in-Err.ensures.cause;
      input = none_read unopened status left is;
      complete = unopened_well run unopened i left a a d d p q status is (λ cause. rose {T = Client} Keeper p q (Err unopened) c.in-Err.ensures.cause (ap Err cause)) image;
      begun = unopened_some run unopened i j left o status t is c.in-Err.ensures.same;
      session = unopened_ran run unopened i j left o status t is c.in-Err.ensures.same image;
    }
