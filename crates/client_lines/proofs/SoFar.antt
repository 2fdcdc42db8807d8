-- How answering the lines that are there, and an input piece by piece, stands from turn to turn.
use Rattle.std.specs.Prelude.{◌≡◌, ℕ, false, List, Option, length}
use Rattle.outside.specs.Outside.{Takes}
use Rattle.client_core.specs.declared.route.Route.{Route}
use Rattle.client_core.specs.Trace.{Trace}
use Rattle.shell_lang.specs.Lines.{IsCutUpTo}
use Rattle.client_session.specs.Session.{SessionState}
use Rattle.client_lines.specs.Input.{Reading, within_limit}
use Rattle.client_lines.specs.Run.{has_quit}
use Rattle.client_lines.specs.InsideRun.{AllAnswered}

-- the lines in front of the bytes that are left, of which none quits
abbrev pub CutsFront : List ℕ → List ℕ → List (List ℕ) → Type 0
CutsFront bytes left lines = IsCutUpTo bytes lines left × (has_quit lines ≡ false)

-- they were answered
abbrev pub AnswersFront : Route → SessionState → List ℕ → List ℕ → Option (List ℕ) → Option (List ℕ) → SessionState → Trace → Type 0
AnswersFront route before bytes left old new after trace =
    (lines : List (List ℕ)) × CutsFront bytes left lines × AllAnswered route before lines old new after trace

-- of the bytes that were taken of a source these lines are behind, and the rest within the limit is still to be cut
pub record HasRead (left rest : Option (List ℕ)) (reading : Reading) (behind : List (List ℕ)) : Type 0 where
  pub input : List ℕ
  pub taken : Takes left rest input
  pub count : reading.count ≡ length input
  pub cut : IsCutUpTo (within_limit input) behind reading.bytes

-- so much was read, and of the lines that are behind none quits
pub record ReadsSoFar (left rest : Option (List ℕ)) (reading : Reading) (behind : List (List ℕ)) : Type 0 where
  pub read : HasRead left rest reading behind
  pub no_quit : has_quit behind ≡ false

-- they were answered
abbrev pub AnswersSoFar : Route → SessionState → Option (List ℕ) → Option (List ℕ) → Reading → Option (List ℕ) → Option (List ℕ)
    → SessionState → Trace → Type 0
AnswersSoFar route before left rest reading old new after trace =
    (behind : List (List ℕ)) × ReadsSoFar left rest reading behind × AllAnswered route before behind old new after trace
