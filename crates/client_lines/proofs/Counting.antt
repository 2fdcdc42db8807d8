-- How the faults of the source, the sink and the keeper are counted from call to call.
use Rattle.std.proofs.Common.{◌≡◌, ℕ, Result, Ok, Err, refl, ◌∙◌, ap, arith}
use Rattle.std.specs.Prelude.{IsErrOf}
use Rattle.outside.specs.Outside.{Rose, raised, RisesWhere, CountsFault}
use Rattle.outside.specs.declared.errors.SinkError.{SinkError}
use Rattle.outside.specs.declared.errors.SinkError.TheVariants as sinks
use Rattle.client_session.specs.declared.stop.LineStop.{LineStop}
use Rattle.client_session.specs.declared.stop.LineStop.TheVariants as line_stops
use Rattle.client_lines.specs.declared.input.InputEnd.{InputEnd}
use Rattle.client_lines.specs.declared.input.InputEnd.TheVariants.{Read, Failed, TooLong}
use Rattle.client_lines.specs.declared.run.Stop.{Stop}
use Rattle.client_lines.specs.declared.run.Stop.TheVariants as stops
use Rattle.client_lines.specs.declared.opening.Unopened.{Unopened}
use Rattle.client_lines.specs.declared.opening.Unopened.TheVariants.{Keeper, Image, Memory}
use Rattle.client_lines.specs.Opening.{status_unopened}
use Rattle.client_lines.specs.Run.{status_of, stop_of, stop_by}

-- none failed
pub no_fault : {U : Type 0} (f : Stop) (p q : ℕ) (x : U) → q ≡ p → CountsFault {T = U} f p q (Ok x)
no_fault f p q x same = record { later = omega (arith, same); once = λ is. absurd (cc (is)); never = λ no. same }

-- the source did not fail, and its count is as before
pub no_source_fault : (p m q : ℕ) (ended : Result InputEnd Stop) → (ended ≡ Ok Failed → ⊥) → q ≡ m → m ≡ p → RisesWhere (ended ≡ Ok Failed) p q
no_source_fault p m q ended other same before = record { later = omega (arith, same, before); once = λ is. absurd (other is); never = λ no. same ∙ before }

-- none failed, and another cause stopped
pub wanted_fault : {U : Type 0} (e f : Stop) (p q : ℕ) → (e ≡ f → ⊥) → q ≡ p → CountsFault {T = U} f p q (Err e)
wanted_fault e f p q other same = record { later = omega (arith, same); once = λ is. absurd (other (cc (is))); never = λ no. same }

err_same : {T U E : Type 0} (e f : E) → IsErrOf {T = T} (Err e) f → IsErrOf {T = U} (Err e) f
err_same e f is = let same : e ≡ f = cc (is) in ap Err same

-- none failed before the last call
pub same_fault : {T U : Type 0} (f : Stop) (p m q : ℕ) (e : Stop) → m ≡ p → CountsFault {T = T} f m q (Err e) → CountsFault {T = U} f p q (Err e)
same_fault {T} {U} f p m q e same counts = record {
  later = omega (arith, same, counts.later);
  once = λ is. counts.once (err_same {T = U} {U = T} e f is) ∙ ap (raised 1) same;
  never = λ no. counts.never (λ is. no (err_same {T = T} {U = U} e f is)) ∙ same;
}

pub keeper_fault : {T U : Type 0} (p q : ℕ) (e : LineStop) → CountsFault {T = T} line_stops.Keeper p q (Err e) → CountsFault {T = U} stops.Keeper p q (Err (stop_by e))
keeper_fault p q line_stops.Keeper counts = record { later = counts.later; once = λ is. counts.once refl; never = λ no. absurd (no refl) }
keeper_fault p q line_stops.Memory counts = record { later = counts.later; once = λ is. absurd (cc (is)); never = λ no. counts.never (λ is. absurd (cc (is))) }

pub sink_fault : {T U : Type 0} (p q : ℕ) (e : SinkError) → CountsFault {T = T} sinks.Failed p q (Err e) → CountsFault {T = U} stops.Sink p q (Err (stop_of e))
sink_fault p q sinks.Failed counts = record { later = counts.later; once = λ is. counts.once refl; never = λ no. absurd (no refl) }
sink_fault p q sinks.Memory counts = record { later = counts.later; once = λ is. absurd (cc (is)); never = λ no. counts.never (λ is. absurd (cc (is))) }

pub not_sink : (e : LineStop) → stop_by e ≡ stops.Sink → ⊥
not_sink line_stops.Keeper is = absurd (cc (is))
not_sink line_stops.Memory is = absurd (cc (is))

pub not_keeper : (e : SinkError) → stop_of e ≡ stops.Keeper → ⊥
not_keeper sinks.Failed is = absurd (cc (is))
not_keeper sinks.Memory is = absurd (cc (is))

-- ---- what a count says of a status

pub other_status : (n p q : ℕ) (status : ℕ) → (status ≡ n → ⊥) → q ≡ p → RisesWhere (status ≡ n) p q
other_status n p q status other same = record { later = omega (arith, same); once = λ is. absurd (other is); never = λ no. same }

pub sink_status : (p q status : ℕ) (ended : Result InputEnd Stop) → status ≡ status_of ended → CountsFault stops.Sink p q ended → RisesWhere (status ≡ 4) p q
sink_status p q status (Ok Read) is counts = other_status 4 p q status (λ four. omega (arith, is, four)) (counts.never (λ none. absurd (cc (none))))
sink_status p q status (Ok Failed) is counts = other_status 4 p q status (λ four. omega (arith, is, four)) (counts.never (λ none. absurd (cc (none))))
sink_status p q status (Ok TooLong) is counts = other_status 4 p q status (λ four. omega (arith, is, four)) (counts.never (λ none. absurd (cc (none))))
sink_status p q status (Err stops.Sink) is counts = record { later = counts.later; once = λ four. counts.once refl; never = λ no. absurd (no is) }
sink_status p q status (Err stops.Keeper) is counts = other_status 4 p q status (λ four. omega (arith, is, four)) (counts.never (λ other. absurd (cc (other))))
sink_status p q status (Err stops.Memory) is counts = other_status 4 p q status (λ four. omega (arith, is, four)) (counts.never (λ other. absurd (cc (other))))

pub keeper_status : (p m q status : ℕ) (ended : Result InputEnd Stop) → status ≡ status_of ended → m ≡ p → CountsFault stops.Keeper m q ended → RisesWhere (status ≡ 5) p q
keeper_status p m q status (Ok Read) is same counts = other_status 5 p q status (λ five. omega (arith, is, five)) (counts.never (λ none. absurd (cc (none))) ∙ same)
keeper_status p m q status (Ok Failed) is same counts = other_status 5 p q status (λ five. omega (arith, is, five)) (counts.never (λ none. absurd (cc (none))) ∙ same)
keeper_status p m q status (Ok TooLong) is same counts = other_status 5 p q status (λ five. omega (arith, is, five)) (counts.never (λ none. absurd (cc (none))) ∙ same)
keeper_status p m q status (Err stops.Sink) is same counts = other_status 5 p q status (λ five. omega (arith, is, five)) (counts.never (λ other. absurd (cc (other))) ∙ same)
keeper_status p m q status (Err stops.Keeper) is same counts =
    record { later = omega (arith, same, counts.later); once = λ five. counts.once refl ∙ ap (raised 1) same; never = λ no. absurd (no is) }
keeper_status p m q status (Err stops.Memory) is same counts = other_status 5 p q status (λ five. omega (arith, is, five)) (counts.never (λ other. absurd (cc (other))) ∙ same)

pub source_status : (p q status : ℕ) (ended : Result InputEnd Stop) → status ≡ status_of ended → RisesWhere (ended ≡ Ok Failed) p q → RisesWhere (status ≡ 3) p q
source_status p q status (Ok Read) is rises = other_status 3 p q status (λ three. omega (arith, is, three)) (rises.never (λ other. absurd (cc (other))))
source_status p q status (Ok Failed) is rises = record { later = rises.later; once = λ three. rises.once refl; never = λ no. absurd (no is) }
source_status p q status (Ok TooLong) is rises = other_status 3 p q status (λ three. omega (arith, is, three)) (rises.never (λ other. absurd (cc (other))))
source_status p q status (Err stops.Sink) is rises = other_status 3 p q status (λ three. omega (arith, is, three)) (rises.never (λ other. absurd (cc (other))))
source_status p q status (Err stops.Keeper) is rises = other_status 3 p q status (λ three. omega (arith, is, three)) (rises.never (λ other. absurd (cc (other))))
source_status p q status (Err stops.Memory) is rises = other_status 3 p q status (λ three. omega (arith, is, three)) (rises.never (λ other. absurd (cc (other))))

pub source_unopened : (p status : ℕ) (u : Unopened) → status ≡ status_unopened u → RisesWhere (status ≡ 3) p p
source_unopened p status Keeper is = other_status 3 p p status (λ three. omega (arith, is, three)) refl
source_unopened p status Image is = other_status 3 p p status (λ three. omega (arith, is, three)) refl
source_unopened p status Memory is = other_status 3 p p status (λ three. omega (arith, is, three)) refl

pub sink_unopened : (p status : ℕ) (u : Unopened) → status ≡ status_unopened u → RisesWhere (status ≡ 4) p p
sink_unopened p status Keeper is = other_status 4 p p status (λ four. omega (arith, is, four)) refl
sink_unopened p status Image is = other_status 4 p p status (λ four. omega (arith, is, four)) refl
sink_unopened p status Memory is = other_status 4 p p status (λ four. omega (arith, is, four)) refl

pub keeper_unopened : {T : Type 0} (p q status : ℕ) (u : Unopened) → status ≡ status_unopened u → CountsFault {T = T} Keeper p q (Err u) → RisesWhere (status ≡ 5) p q
keeper_unopened p q status Keeper is counts = record { later = counts.later; once = λ five. counts.once refl; never = λ no. absurd (no is) }
keeper_unopened p q status Image is counts = other_status 5 p q status (λ five. omega (arith, is, five)) (counts.never (λ other. absurd (cc (other))))
keeper_unopened p q status Memory is counts = other_status 5 p q status (λ five. omega (arith, is, five)) (counts.never (λ other. absurd (cc (other))))

-- ---- a fault that was answered raised the count

pub rises : {is : Type 0} (p q : ℕ) → RisesWhere is p q → is → Rose p q
rises p q counts so = let up : q ≡ raised 1 p = counts.once so in omega (arith, up)

pub rose : {T E : Type 0} (f : E) (p q : ℕ) (r : Result T E) → CountsFault f p q r → r ≡ Err f → Rose p q
rose f p q r counts is = let up : q ≡ raised 1 p = counts.once is in omega (arith, up)

-- no fault of the keeper is counted where what is kept is no client's
pub same_at_six : {T : Type 0} (p q status : ℕ) (u : Unopened) → status ≡ status_unopened u → CountsFault {T = T} Keeper p q (Err u) → status ≡ 6 → q ≡ p
same_at_six p q status Keeper is counts six = absurd (omega (arith, is, six))
same_at_six p q status Image is counts six = counts.never (λ is. absurd (cc (is)))
same_at_six p q status Memory is counts six = absurd (omega (arith, is, six))
