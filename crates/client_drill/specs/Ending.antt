-- What a drill leaves that the program makes, by its status.
use Rattle.std.specs.Prelude.{◌≡◌, ◌⊎◌, ℕ, List, Option, Result, Ok, Err, take}
use Rattle.outside.specs.Outside.{Adds, RisesWhere}
use Rattle.outside.specs.declared.errors.SinkError.{SinkError}
use Rattle.outside.specs.declared.errors.SinkError.TheVariants.{Failed, Memory}
use Rattle.client_drill.specs.declared.summary.Summary.{Summary}
use Rattle.client_drill.specs.Drilled.{IsTallied, summary_text}

-- the status of a drill whose summary was so written
abbrev pub status_of_drill : Result (Unit {0}) SinkError → ℕ
status_of_drill (Ok done) = 0
status_of_drill (Err Failed) = 4
status_of_drill (Err Memory) = 7

-- What a drill of this seed and so many steps leaves that ends with this status, of the sink that it is given: what was written to it, and
-- how often it failed. Nothing else is given to it.
pub record DrillEnds (seed count status : ℕ) (written written_now : Option (List ℕ)) (faults faults_now : ℕ) : Type 0 where
  pub known : (status ≡ 0) ⊎ (status ≡ 4) ⊎ (status ≡ 7)
  -- the sink failed once where that ended the drill, and else never
  pub sink : RisesWhere (status ≡ 4) faults faults_now
  pub told : status ≡ 0 → (summary : Summary) × IsTallied seed count summary × Adds written written_now (summary_text seed count summary)
  -- a front of such a text is written, whatever ends it
  pub front : (summary : Summary) × (size : ℕ) × IsTallied seed count summary
      × Adds written written_now (take size (summary_text seed count summary))
