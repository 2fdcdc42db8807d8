-- How a session goes on from one moment of its objects to the next.
use Rattle.std.proofs.Common.{◌≡◌, ◌≤◌, Result, Ok, Err, refl, subst, ◌∙◌, arith}
use Rattle.mod_log.specs.Log.{Log}
use Rattle.client_core.specs.declared.route.Route.{Route}
use Rattle.client_core.specs.Trace.{Trace, nothing, followed}
use Rattle.client_session.specs.Session.{Sitting}
use Rattle.client_lines.specs.declared.run.Stop.{Stop}
use Rattle.client_lines.specs.declared.run.Stop.TheVariants.{Memory}
use Rattle.client_lines.specs.declared.run.Stop.TheVariants as stops
use Rattle.client_lines.specs.declared.objects.SessionObjects.{SessionObjects}
use Rattle.client_lines.specs.InsideRun.{WentNoting}
use Rattle.client_lines.specs.Objects.{ObjectsTelling, SameObjects, KeepsClient, SessionWent}
use Rattle.client_lines.proofs.Counting.{no_fault, wanted_fault, same_fault}
use Rattle.client_lines.proofs.RunningRecords.{KeptNoting, noting_none, done_none, noting_as, noting_then, noting_next, noting_stops, ends_as, stops_as}

pub same_then : {O K R L : Type 0} (x y z : SessionObjects O K R L) → SameObjects x y → SameObjects y z → SameObjects x z
same_then x y z first second = record {
  output = second.output ∙ first.output;
  keeper = second.keeper ∙ first.keeper;
  runner = second.runner ∙ first.runner;
  link = second.link ∙ first.link;
}

-- the session did what these turns say so far: nothing stopped it, and neither the sink nor the keeper failed
pub record SessionGoes (turns : Trace → Type 0) (before after : Sitting) (old new : ObjectsTelling) : Type 0 where
  pub did : KeptNoting old.route turns before after old.images new.images old.told new.told
  pub kept : KeepsClient new after
  pub route : new.route ≡ old.route
  pub later : old.told.link.troubles ≤ new.told.link.troubles
  pub runner_later : old.told.runner.faults ≤ new.told.runner.faults
  pub sink : new.sink ≡ old.sink
  pub keeper : new.keeper ≡ old.keeper

-- ---- nothing was done

pub goes_none : (T : Trace → Type 0) (x : Sitting) (p : ObjectsTelling) → KeepsClient p x → T nothing → SessionGoes T x x p p
goes_none T x p keeps turn = record {
  did = noting_none p.route T x p.images p.told keeps.0 turn;
  kept = keeps;
  route = refl;
  later = omega arith;
  runner_later = omega arith;
  sink = refl;
  keeper = refl;
}

pub none_done : {U : Type 0} (done : U) (T : Log → Trace → Type 0) (x : Sitting) (p : ObjectsTelling) → KeepsClient p x → T x.client.log nothing → SessionWent {T = U} T (Ok done) x x p p
none_done {U} done T x p keeps turn = record {
  did = done_none p.route {U = U} {E = Stop} (Ok done) T x p.images p.told keeps.0 turn;
  kept = keeps;
  route = refl;
  later = omega arith;
  runner_later = omega arith;
  sink = no_fault stops.Sink p.sink p.sink done refl;
  keeper = no_fault stops.Keeper p.keeper p.keeper done refl;
}

pub none_wanted : (U : Type 0) (T : Log → Trace → Type 0) (x : Sitting) (p : ObjectsTelling) → KeepsClient p x → T x.client.log nothing → SessionWent {T = U} T (Err Memory) x x p p
none_wanted U T x p keeps turn = record {
  did = done_none p.route {U = U} {E = Stop} (Err Memory) T x p.images p.told keeps.0 turn;
  kept = tt;
  route = refl;
  later = omega arith;
  runner_later = omega arith;
  sink = wanted_fault {U = U} Memory stops.Sink p.sink p.sink (λ is. absurd (cc (is))) refl;
  keeper = wanted_fault {U = U} Memory stops.Keeper p.keeper p.keeper (λ is. absurd (cc (is))) refl;
}

-- ---- what comes to an end so far

module _ (T : Trace → Type 0) (S : Log → Trace → Type 0) (x y : Sitting) (p q : ObjectsTelling) (went : SessionGoes T x y p q) (to : (trace : Trace) → T trace → S y.client.log trace) where
  pub goes_ends : {U : Type 0} (done : U) → SessionWent {T = U} S (Ok done) x y p q
  goes_ends {U} done = record {
    did = noting_as p.route {U = U} {E = Stop} (Ok done) T S x y p.images q.images p.told q.told went.did to;
    kept = went.kept;
    route = went.route;
    later = went.later;
    runner_later = went.runner_later;
    sink = no_fault stops.Sink p.sink q.sink done went.sink;
    keeper = no_fault stops.Keeper p.keeper q.keeper done went.keeper;
  }

  pub goes_wanted : (U : Type 0) → SessionWent {T = U} S (Err Memory) x y p q
  goes_wanted U = record {
    did = noting_as p.route {U = U} {E = Stop} (Err Memory) T S x y p.images q.images p.told q.told went.did to;
    kept = tt;
    route = went.route;
    later = went.later;
    runner_later = went.runner_later;
    sink = wanted_fault {U = U} Memory stops.Sink p.sink q.sink (λ is. absurd (cc (is))) went.sink;
    keeper = wanted_fault {U = U} Memory stops.Keeper p.keeper q.keeper (λ is. absurd (cc (is))) went.keeper;
  }

-- ---- one stretch after another; the second one's turns are told under the route that the objects have then

module _ (T : Trace → Type 0) (S : Route → Log → Trace → Type 0) (x y z : Sitting) (p q s : ObjectsTelling) (first : SessionGoes T x y p q) where
  at_first : {U : Type 0} (r : Result U Stop) → SessionWent {T = U} (S q.route) r y z q s → WentNoting p.route r (S p.route) y z q.images s.images q.told s.told
  at_first r second = subst (λ (route : Route). WentNoting route r (S route) y z q.images s.images q.told s.told) first.route second.did

  pub goes_then : {U : Type 0} (done : U) (R : Trace → Type 0) → SessionWent {T = U} (S q.route) (Ok done) y z q s → ((k : Log) (n : Trace) → S p.route k n → k ≡ z.client.log)
      → ((m n : Trace) → T m → S p.route z.client.log n → R (followed m n)) → SessionGoes R x z p s
  goes_then {U} done R second is join = record {
    did = noting_then p.route {U = U} done T R (S p.route) x y z p.images q.images s.images p.told q.told s.told first.did (at_first (Ok done) second) is join;
    kept = second.kept;
    route = second.route ∙ first.route;
    later = omega (arith, first.later, second.later);
    runner_later = omega (arith, first.runner_later, second.runner_later);
    sink = second.sink.never (λ is. absurd (cc (is))) ∙ first.sink;
    keeper = second.keeper.never (λ is. absurd (cc (is))) ∙ first.keeper;
  }

  pub goes_next : {U V : Type 0} (done : U) (all : V) (R : Log → Trace → Type 0) → SessionWent {T = U} (S q.route) (Ok done) y z q s
      → ((k : Log) (m n : Trace) → T m → S p.route k n → R k (followed m n)) → SessionWent {T = V} R (Ok all) x z p s
  goes_next {U} {V} done all R second join = record {
    did = noting_next p.route {U = U} {V = V} done all T (S p.route) R x y z p.images q.images s.images p.told q.told s.told first.did (at_first (Ok done) second) join;
    kept = second.kept;
    route = second.route ∙ first.route;
    later = omega (arith, first.later, second.later);
    runner_later = omega (arith, first.runner_later, second.runner_later);
    sink = no_fault stops.Sink p.sink s.sink all (second.sink.never (λ is. absurd (cc (is))) ∙ first.sink);
    keeper = no_fault stops.Keeper p.keeper s.keeper all (second.keeper.never (λ is. absurd (cc (is))) ∙ first.keeper);
  }

  pub goes_stops : {U : Type 0} (V : Type 0) (e : Stop) (R : Log → Trace → Type 0) → SessionWent {T = U} (S q.route) (Err e) y z q s
      → ((k : Log) (m n : Trace) → T m → S p.route k n → R k (followed m n)) → SessionWent {T = V} R (Err e) x z p s
  goes_stops {U} V e R second join = record {
    did = noting_stops p.route {U = U} V (Err e) e T (S p.route) R x y z p.images q.images s.images p.told q.told s.told first.did (at_first (Err e) second) join;
    kept = tt;
    route = second.route ∙ first.route;
    later = omega (arith, first.later, second.later);
    runner_later = omega (arith, first.runner_later, second.runner_later);
    sink = same_fault {T = U} {U = V} stops.Sink p.sink q.sink s.sink e first.sink second.sink;
    keeper = same_fault {T = U} {U = V} stops.Keeper p.keeper q.keeper s.keeper e first.keeper second.keeper;
  }

-- ---- another relation of the same turns

module _ (T S : Log → Trace → Type 0) (x y : Sitting) (p q : ObjectsTelling) (to : (k : Log) (trace : Trace) → T k trace → S k trace) where
  pub went_ends : {U V : Type 0} (done : U) (all : V) → SessionWent {T = U} T (Ok done) x y p q → SessionWent {T = V} S (Ok all) x y p q
  went_ends {U} {V} done all went = record {
    did = ends_as p.route {U = U} {V = V} done all T S x y p.images q.images p.told q.told went.did to;
    kept = went.kept;
    route = went.route;
    later = went.later;
    runner_later = went.runner_later;
    sink = no_fault stops.Sink p.sink q.sink all (went.sink.never (λ is. absurd (cc (is))));
    keeper = no_fault stops.Keeper p.keeper q.keeper all (went.keeper.never (λ is. absurd (cc (is))));
  }

  pub went_stops : {U : Type 0} (V : Type 0) (e : Stop) → SessionWent {T = U} T (Err e) x y p q → SessionWent {T = V} S (Err e) x y p q
  went_stops {U} V e went = record {
    did = stops_as p.route {U = U} V (Err e) e T S x y p.images q.images p.told q.told went.did to;
    kept = tt;
    route = went.route;
    later = went.later;
    runner_later = went.runner_later;
    sink = same_fault {T = U} {U = V} stops.Sink p.sink p.sink q.sink e refl went.sink;
    keeper = same_fault {T = U} {U = V} stops.Keeper p.keeper p.keeper q.keeper e refl went.keeper;
  }
