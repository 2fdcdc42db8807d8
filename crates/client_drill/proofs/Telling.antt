-- How a drill ends, by what it wrote.
use Rattle.std.proofs.Common.{◌≡◌, ◌⊎◌, inl, inr, ℕ, ◌+◌, ◌≤◌, List, length, take, Option, Result, Ok, Err, IfOk, OnOk, OnErr, refl, sym, subst, arith}
use Rattle.std.proofs.lemmas.List.{take_all}
use Rattle.outside.specs.Outside.{Adds, RisesWhere, CountsFault}
use Rattle.outside.specs.declared.errors.SinkError.{SinkError}
use Rattle.outside.specs.declared.errors.SinkError.TheVariants.{Failed, Memory}
use Rattle.outside.proofs.Writing.{adds_nothing}
use Rattle.client_drill.specs.declared.summary.Summary.{Summary}
use Rattle.client_drill.specs.Drill.{jobs_upto}
use Rattle.client_drill.specs.Drilled.{IsTallied, summary_text}
use Rattle.client_drill.specs.Ending.{status_of_drill, DrillEnds}

-- a summary with a text of it, if there is one
pub with_summary : {T E : Type 0} (result : Result T E) (items : T → List ℕ) (D : Summary → Type 0) (text : Summary → List ℕ) (summary : Summary) → D summary → IfOk result (λ made. items made ≡ text summary)
    → IfOk result (λ made. (x : Summary) × D x × (items made ≡ text x))
with_summary (Ok made) items D text summary drilled is = (summary, drilled, is)
with_summary (Err refused) items D text summary drilled is = tt

module _ (seed count : ℕ) where
  -- a summary, if none was made
  abbrev some_summary : Summary
  some_summary = record {
    worked = record { logged = count + 2; acked = count + 2; pending = 0 };
    commands = jobs_upto seed count;
    done = 0;
    troubles = 0;
    rows = 0;
    bytes = 0;
  }

  -- nothing was told
  pub untold : (written : Option (List ℕ)) (faults : ℕ) → DrillEnds seed count 7 written written faults faults
  untold written faults = record {
    known = inr (inr refl);
    sink = record { later = omega arith; once = λ four. absurd (omega (arith, four)); never = λ no. refl };
    told = λ zero_is. absurd (omega (arith, zero_is));
    front = (some_summary, 0, record { logged = refl; all = omega arith; commands = refl }, adds_nothing written);
  }

  module _ (text : List ℕ) (summary : Summary) (counted : IsTallied seed count summary) (is : text ≡ summary_text seed count summary) (a b : Option (List ℕ)) (p q : ℕ) where
    -- a front of a summary was written
    in_part : (status : ℕ) → (status ≡ 4) ⊎ (status ≡ 7) → RisesWhere (status ≡ 4) p q → (size : ℕ) → Adds a b (take size text) → DrillEnds seed count status a b p q
    in_part status ends sink size adds = record {
      known = inr ends;
      sink = sink;
      told = λ zero_is. absurd (none_is ends zero_is);
      front = (summary, size, counted, subst (λ (t : List ℕ). Adds a b (take size t)) is adds);
    }
      where
        none_is : (status ≡ 4) ⊎ (status ≡ 7) → status ≡ 0 → ⊥
        none_is (inl four) zero_is = omega (arith, four, zero_is)
        none_is (inr seven) zero_is = omega (arith, seven, zero_is)

    -- a summary was written, or a front of it
    pub told_so : (written : Result (Unit {0}) SinkError) → OnOk written (Adds a b text) → OnErr written ((size : ℕ) × (size ≤ length text) × Adds a b (take size text))
        → CountsFault Failed p q written → DrillEnds seed count (status_of_drill written) a b p q
    told_so (Ok done) all front counts =
        let adds : Adds a b (summary_text seed count summary) = subst (Adds a b) is all in
        let text_is = summary_text seed count summary in
        record {
          known = inl refl;
          sink = record { later = counts.later; once = λ four. absurd (omega (arith, four)); never = λ no. counts.never (λ failed. absurd (cc (failed))) };
          told = λ zero_is. (summary, counted, adds);
          front = (summary, length text_is, counted, subst (Adds a b) (sym (take_all (length text_is) text_is (omega arith))) adds);
        }
    told_so (Err Failed) all front counts =
        in_part 4 (inl refl) (record { later = counts.later; once = λ four. counts.once refl; never = λ no. absurd (no refl) }) front.0 front.2
    told_so (Err Memory) all front counts =
        in_part 7 (inr refl) (record { later = counts.later; once = λ four. absurd (omega (arith, four)); never = λ no. counts.never (λ failed. absurd (cc (failed))) }) front.0 front.2
