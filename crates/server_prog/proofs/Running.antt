-- How a run ends.
use Rattle.std.proofs.Common.{◌≡◌, ◌≤◌, inl, ℕ, List, Option, Err, refl, arith, ◌∙◌}
use Rattle.outside.specs.declared.errors.SinkError.TheVariants.{Memory}
use Rattle.std.specs.Prelude.{IsErrOf}
use Rattle.outside.specs.Outside.{CountsFault}
use Rattle.server_prog.specs.declared.run.Stopped.{Stopped}
use Rattle.server_prog.specs.declared.run.Stopped.TheVariants as stops
use Rattle.server_prog.specs.Serving.{ServerTelling}
use Rattle.server_prog.specs.Run.{OpensNone, ServerRun}

-- no server was opened
pub run_stops_before : {T : Type 0} (count : ℕ) (old new : ServerTelling) (written : Option (List ℕ)) (e : Stopped) → (IsErrOf {T = T} (Err e) stops.Sink → ⊥) → (IsErrOf {T = T} (Err e) stops.Image → OpensNone old.kept) → new ≡ old
    → ServerRun count old new written written (Err e)
run_stops_before count old new written stops.Sink no_sink none same = absurd (no_sink refl)
run_stops_before count old new written stops.Keeper no_sink none same = inl (same, refl)
run_stops_before count old new written stops.Image no_sink none same = ((same, refl), none refl)
run_stops_before count old new written stops.Memory no_sink none same = inl (same, refl)

pub sink_stays : {T U : Type 0} (faults : ℕ) (e : Stopped) → (IsErrOf {T = T} (Err e) stops.Sink → ⊥) → CountsFault {T = U} stops.Sink faults faults (Err e)
sink_stays faults stops.Sink no_sink = absurd (no_sink refl)
sink_stays faults stops.Keeper no_sink = record { later = omega arith; once = λ is. absurd (cc is); never = λ _. refl }
sink_stays faults stops.Image no_sink = record { later = omega arith; once = λ is. absurd (cc is); never = λ _. refl }
sink_stays faults stops.Memory no_sink = record { later = omega arith; once = λ is. absurd (cc is); never = λ _. refl }
