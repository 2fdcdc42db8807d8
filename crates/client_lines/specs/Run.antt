-- A run of the client: how it ends, which lines of its input it handles, and what it writes.
use Rattle.std.specs.Prelude.{◌≡◌, ◌==◌, ◌≢◌, ◌⊎◌, ◌↔◌, ℕ, ◌+◌, ◌≤◌, Bool, true, false, List, [], ◌∷◌, ◌++◌, length, take, map, Option}
use Rattle.std.specs.Prelude.{Result, Ok, Err, if◌then◌else◌}
use Rattle.std.specs.List.{list_any}
use Rattle.outside.specs.Outside.{Adds, Takes}
use Rattle.outside.specs.declared.errors.SinkError.{SinkError}
use Rattle.outside.specs.declared.errors.SinkError.TheVariants as sinks
use Rattle.mod_log.specs.Log.{Log}
use Rattle.client_core.specs.declared.route.Route.{Route}
use Rattle.client_core.specs.Trace.{Trace}
use Rattle.shell_lang.specs.Lines.{whole_lines}
use Rattle.shell_lang.specs.Commands.{read_line}
use Rattle.shell_lang.specs.Texts.{text_of}
use Rattle.shell_lang.specs.declared.line.Line.{Line}
use Rattle.shell_lang.specs.declared.line.Line.TheVariants.{Quit}
use Rattle.shell_lang.specs.declared.line.LineError.{LineError}
use Rattle.client_lines.specs.declared.input.InputEnd.{InputEnd}
use Rattle.client_lines.specs.declared.input.InputEnd.TheVariants.{Read, Failed, TooLong}
use Rattle.client_lines.specs.Limits.{max_input}
use Rattle.client_lines.specs.declared.run.Stop.{Stop}
use Rattle.client_lines.specs.declared.run.Stop.TheVariants.{Sink, Keeper, Memory}
use Rattle.client_lines.specs.Input.{EndsAt, within_limit, lines_at}
use Rattle.shell_lang.specs.declared.answer.LineAnswer.{LineAnswer}
use Rattle.client_session.specs.declared.stop.LineStop.{LineStop}
use Rattle.client_session.specs.declared.stop.LineStop.TheVariants as line_stops
use Rattle.client_session.specs.Session.{SessionState, Chain, BreaksChain, AreTexts, status_answer}

-- the status of a session whose input ended so, or that was stopped before
abbrev pub status_of : Result InputEnd Stop → ℕ
status_of (Ok Read) = 0
status_of (Ok Failed) = 3
status_of (Ok TooLong) = 8
status_of (Err Sink) = 4
status_of (Err Keeper) = 5
status_of (Err Memory) = 7

-- the statuses that a session may end with
abbrev pub is_session_status : ℕ → Bool
is_session_status status = list_any (λ known. known == status) (0 ∷ 3 ∷ 4 ∷ 5 ∷ 6 ∷ 7 ∷ 8 ∷ [])

-- what stops a run where the sink refuses to write
abbrev pub stop_of : SinkError → Stop
stop_of sinks.Failed = Sink
stop_of sinks.Memory = Memory

-- what stops a run where a line was stopped
abbrev pub stop_by : LineStop → Stop
stop_by line_stops.Keeper = Keeper
stop_by line_stops.Memory = Memory

-- what these lines ask for
abbrev pub asked_for : List (List ℕ) → List (Result Line LineError)
asked_for lines = map read_line lines

-- ---- lines up to `quit`

-- whether a line asks for the end of the session
abbrev pub is_quit : Result Line LineError → Bool
is_quit (Ok Quit) = true
is_quit line = false

abbrev pub quits : List ℕ → Bool
quits line = is_quit (read_line line)

-- whether one of the lines does
abbrev pub has_quit : List (List ℕ) → Bool
has_quit lines = list_any quits lines

-- the lines up to the first that does, and all of them where none does
abbrev pub up_to_quit : List (List ℕ) → List (List ℕ)
up_to_quit [] = []
up_to_quit (line ∷ lines) = line ∷ (if quits line then [] else up_to_quit lines)

-- how the input of a session ends: where a line quits, it ends there, and what may come behind is not asked for
abbrev pub ended_input : Bool → InputEnd → InputEnd
ended_input true end = Read
ended_input false end = end

-- Of the source's bytes some were taken, and reading them stands so. While the end is not known, it stands as it does where
-- the source fails. These are the lines that count then, up to the first that quits, and the session's input ends so.
pub record HasLines (left rest : Option (List ℕ)) (lines : List (List ℕ)) (ended : InputEnd) : Type 0 where
  pub input : List ℕ
  pub taken : Takes left rest input
  pub end : InputEnd
  pub stands : EndsAt rest (length input) end
  pub lines_are : lines ≡ up_to_quit (lines_at end input)
  pub ended_is : ended ≡ ended_input (has_quit (lines_at end input)) end

-- ---- what is written

-- the line that ends the output is that of `status`
abbrev pub closing_line : SessionState → List ℕ
closing_line state = text_of (status_answer state)

-- it stands there only where the input was read to its end
abbrev pub closing_at : InputEnd → SessionState → List ℕ
closing_at Read state = closing_line state
closing_at Failed state = []
closing_at TooLong state = []

-- Each line was handled, one after the other, and the client is kept.
abbrev pub HandlesAll : Route → SessionState → List (List ℕ) → List (Option LineAnswer) → SessionState → Log → Trace → Type 0
HandlesAll route before lines answers after kept trace =
    Chain route before (asked_for lines) answers after trace × (kept ≡ after.client.log)

-- The lines were handled; want of memory or a refused keeping may have broken off the last one.
abbrev pub Handles : Stop → Route → SessionState → List (List ℕ) → List (Option LineAnswer) → SessionState → Log → Trace → Type 0
Handles Sink route before lines answers after kept trace = HandlesAll route before lines answers after kept trace
Handles stop route before lines answers after kept trace =
    HandlesAll route before lines answers after kept trace ⊎ BreaksChain route before (asked_for lines) answers after kept trace

-- What was written of the answers' texts: all, where a keeping was refused, and else a front.
abbrev pub WritesFront : Stop → List ℕ → Option (List ℕ) → Option (List ℕ) → Type 0
WritesFront Keeper text old new = Adds old new text
WritesFront stop text old new = (count : ℕ) × Adds old new (take count text)

-- A front of the lines was handled, and a front of their answers' texts was written.
abbrev pub StopsIn : Stop → Route → SessionState → List (List ℕ) → List (Option LineAnswer) → Option (List ℕ) → Option (List ℕ)
    → SessionState → Log → Trace → Type 0
StopsIn stop route before lines answers old new after kept trace =
    (handled behind : List (List ℕ)) × (text : List ℕ)
    × (lines ≡ handled ++ behind) × Handles stop route before handled answers after kept trace × AreTexts answers text
    × WritesFront stop text old new

-- All lines were handled, their answers' texts were written, and a front of the closing line.
abbrev pub StopsAtClosing : Stop → Route → SessionState → List (List ℕ) → List (Option LineAnswer) → Option (List ℕ)
    → Option (List ℕ) → SessionState → Log → Trace → Type 0
StopsAtClosing stop route before lines answers old new after kept trace =
    (text : List ℕ) × (count : ℕ) × (stop ≢ Keeper) × HandlesAll route before lines answers after kept trace × AreTexts answers text
    × Adds old new (text ++ take count (closing_line after))

-- What a run did by how it ended. Where its input came to an end: all the lines that count were handled, the client is kept, and
-- the texts of what was answered to each were written, and the closing line where one is due. Where it was stopped: a front of them.
abbrev pub WholeRun : Route → SessionState → Option (List ℕ) → Option (List ℕ) → List (Option LineAnswer) → Option (List ℕ)
    → Option (List ℕ) → Result InputEnd Stop → SessionState → Log → Trace → Type 0
WholeRun route before left rest answers old new (Ok ended) after kept trace =
    (lines : List (List ℕ)) × (text : List ℕ) × HasLines left rest lines ended
    × HandlesAll route before lines answers after kept trace × AreTexts answers text × Adds old new (text ++ closing_at ended after)
WholeRun route before left rest answers old new (Err stop) after kept trace =
    (lines : List (List ℕ)) × (ended : InputEnd) × HasLines left rest lines ended
    × (StopsIn stop route before lines answers old new after kept trace
    ⊎ ((ended ≡ Read) × StopsAtClosing stop route before lines answers old new after kept trace))

-- How much of a source a run with this status takes: never more than the first byte past the limit. It answers 8 exactly where it
-- takes that byte and no whole line before it quits, but that a sink, a keeper or want of memory may stop it before; 0 only where it
-- takes all that is left or a whole line quits; and 3 only where no whole line does.
pub record IsInputRead (status : ℕ) (left rest : List ℕ) : Type 0 where
  pub input : List ℕ
  pub taken : left ≡ input ++ rest
  pub most : length input ≤ max_input + 1
  pub past : status ≢ 4 → status ≢ 5 → status ≢ 7
      → (status ≡ 8 ↔ ((length input ≡ max_input + 1) × (has_quit (whole_lines (within_limit input)) ≡ false)))
  pub ended : status ≡ 0 → (rest ≡ []) ⊎ (has_quit (whole_lines (within_limit input)) ≡ true)
  pub failed : status ≡ 3 → has_quit (whole_lines input) ≡ false
