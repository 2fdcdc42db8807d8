-- Words that only contracts below the whole run cite, of its input and of its lines.
use Rattle.std.specs.Prelude.{◌≡◌, ℕ, List, [], ◌∷◌, Option, None, Some, Result, Ok, Err, IfOk, nat_lt, if◌then◌else◌}
use Rattle.outside.specs.Outside.{Adds}
use Rattle.outside.specs.Keeper.{Images}
use Rattle.mod_log.specs.Log.{Log}
use Rattle.client_core.specs.declared.route.Route.{Route}
use Rattle.client_core.specs.Client.{Client}
use Rattle.client_core.specs.Trace.{Trace}
use Rattle.client_core.specs.Noting.{TakesNoRows, KeepsChanges}
use Rattle.shell_lang.specs.Lines.{cut_lines, unfinished}
use Rattle.client_lines.specs.declared.input.InputEnd.{InputEnd}
use Rattle.client_lines.specs.declared.input.InputEnd.TheVariants.{TooLong}
use Rattle.client_lines.specs.declared.run.Stop.{Stop}
use Rattle.client_lines.specs.Limits.{max_input}
use Rattle.client_lines.specs.Input.{Reading}
use Rattle.shell_lang.specs.declared.answer.LineAnswer.{LineAnswer}
use Rattle.client_session.specs.Session.{SessionState, Sitting, state_of, Chain, AreTexts}
use Rattle.client_session.specs.Doing.{Telling, WentDoing}
use Rattle.client_lines.specs.Run.{HasLines, StopsIn, WholeRun, asked_for}

-- the end of an input of which so many bytes were read, where one is past the limit
abbrev pub end_by_count : ℕ → Option InputEnd
end_by_count count = if nat_lt max_input count then Some TooLong else None

-- where no pull took rows, the changes were kept record by record
abbrev pub NotesChanges : List ℕ → Client → Client → Option Images → Option Images → Trace → Type 0
NotesChanges name before after images now trace =
    TakesNoRows trace → KeepsChanges name before after trace.changes images now

-- a session did what these turns say, and where it was not stopped, its changes were so kept
abbrev pub WentNoting : {T E : Type 0} → Route → Result T E → (Log → Trace → Type 0) → Sitting → Sitting → Option Images
    → Option Images → Telling → Telling → Type 0
WentNoting route result turns before after images now told later =
    WentDoing route (λ kept trace. turns kept trace
    × IfOk result (λ done. NotesChanges route.image before.client after.client images now trace)) (state_of before)
    (state_of after) images now told later

-- the lines were answered, one after the other
abbrev pub AllAnswered : Route → SessionState → List (List ℕ) → Option (List ℕ) → Option (List ℕ) → SessionState → Trace → Type 0
AllAnswered route before lines old new after trace =
    (answers : List (Option LineAnswer)) × (text : List ℕ) × Chain route before (asked_for lines) answers after trace
    × AreTexts answers text × Adds old new text

-- a front of them was answered
abbrev pub FrontAnswered : Stop → Route → SessionState → List (List ℕ) → Option (List ℕ) → Option (List ℕ) → SessionState → Log
    → Trace → Type 0
FrontAnswered stop route before lines old new after kept trace =
    (answers : List (Option LineAnswer)) × StopsIn stop route before lines answers old new after kept trace

-- all lines were answered, and the client is kept; or a front of them was
abbrev pub AnswersLines : {T : Type 0} → Route → SessionState → List (List ℕ) → Option (List ℕ) → Option (List ℕ) → Result T Stop
    → SessionState → Log → Trace → Type 0
AnswersLines route before lines old new (Ok done) after kept trace =
    AllAnswered route before lines old new after trace × (kept ≡ after.client.log)
AnswersLines route before lines old new (Err stop) after kept trace = FrontAnswered stop route before lines old new after kept trace

-- all lines were cut: the bytes behind the last line end are left
pub record HasUnfinished (old new : Reading) : Type 0 where
  pub bytes : new.bytes ≡ unfinished old.bytes
  pub no_line : cut_lines new.bytes ≡ new.bytes ∷ []
  pub count : new.count ≡ old.count

-- an input was taken, and came to an end or was stopped
abbrev pub TakesInput : Option (List ℕ) → Option (List ℕ) → Result InputEnd Stop → Type 0
TakesInput left rest (Ok ended) = (lines : List (List ℕ)) × HasLines left rest lines ended
TakesInput left rest (Err stop) = (lines : List (List ℕ)) × (ended : InputEnd) × HasLines left rest lines ended

-- all lines that count of an input were answered, and the client is kept; or a front of them was
abbrev pub AnswersInput : Route → SessionState → Option (List ℕ) → Option (List ℕ) → Option (List ℕ) → Option (List ℕ)
    → Result InputEnd Stop → SessionState → Log → Trace → Type 0
AnswersInput route before left rest old new (Ok ended) after kept trace =
    (lines : List (List ℕ)) × HasLines left rest lines ended × AllAnswered route before lines old new after trace
    × (kept ≡ after.client.log)
AnswersInput route before left rest old new (Err stop) after kept trace =
    (lines : List (List ℕ)) × (ended : InputEnd) × HasLines left rest lines ended
    × FrontAnswered stop route before lines old new after kept trace

-- a run, whatever was answered
abbrev pub RunAnswers : Route → SessionState → Option (List ℕ) → Option (List ℕ) → Option (List ℕ) → Option (List ℕ)
    → Result InputEnd Stop → SessionState → Log → Trace → Type 0
RunAnswers route before left rest old new ended after kept trace =
    (answers : List (Option LineAnswer)) × WholeRun route before left rest answers old new ended after kept trace
