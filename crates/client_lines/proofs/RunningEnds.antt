-- How a run ends, and what its status says.
use Rattle.std.proofs.Common.{◌≡◌, ◌≢◌, ◌⊎◌, inl, inr, ℕ, ◌+◌, ◌≤◌, Bool, true, false, List, [], length, take, Option, None, Some, Result, Ok, Err, refl, sym, ◌∙◌, ap, subst, arith, length-append}
use Rattle.std.proofs.lemmas.List.{take_all}
use Rattle.outside.specs.Outside.{Told, Adds, Takes, Rose}
use Rattle.outside.proofs.Writing.{adds_nothing, adds_then}
use Rattle.outside.proofs.Taking.{takes_nothing}
use Rattle.client_core.specs.declared.route.Route.{Route}
use Rattle.mod_log.specs.Log.{Log}
use Rattle.client_core.specs.Trace.{Trace, nothing}
use Rattle.shell_lang.specs.Lines.{whole_lines}
use Rattle.client_lines.specs.declared.input.InputEnd.{InputEnd}
use Rattle.client_lines.specs.declared.input.InputEnd.TheVariants.{Read, Failed, TooLong}
use Rattle.client_lines.specs.Limits.{max_input}
use Rattle.client_lines.specs.declared.run.Stop.{Stop}
use Rattle.client_lines.specs.declared.run.Stop.TheVariants.{Sink, Keeper, Memory}
use Rattle.client_lines.specs.Input.{EndsAt, within_limit, lines_at}
use Rattle.client_session.specs.Session.{SessionState}
use Rattle.client_lines.specs.Run.{status_of, closing_at, closing_line, has_quit, ended_input, HasLines, StopsIn, IsInputRead}
use Rattle.client_lines.specs.InsideRun.{AnswersInput, TakesInput, RunAnswers}

module _ (route : Route) (before : SessionState) (left rest o : Option (List ℕ)) where
  pub run_stops : (stop : Stop) (n : Option (List ℕ)) (after : SessionState) (k : Log) (p : Trace) → AnswersInput route before left rest o n (Err stop) after k p → RunAnswers route before left rest o n (Err stop) after k p
  run_stops stop n after k p turn = (turn.3.0, (turn.0, turn.1, turn.2, inl turn.3.1))

  pub run_ends : (end : InputEnd) (m n : Option (List ℕ)) (after : SessionState) (k : Log) (p : Trace) → AnswersInput route before left rest o m (Ok end) after k p → Adds m n (closing_at end after)
      → RunAnswers route before left rest o n (Ok end) after k p
  run_ends end m n after k p turn adds =
      let all = turn.2 in (all.0, (turn.0, all.1, turn.1, (all.2, turn.3), all.3, adds_then o m n all.1 (closing_at end after) all.4 adds))

  pub run_closing : (end : InputEnd) (stop : Stop) (count : ℕ) (m n : Option (List ℕ)) (after : SessionState) (k : Log) (p : Trace) → end ≡ Read → stop ≢ Keeper → AnswersInput route before left rest o m (Ok end) after k p
      → Adds m n (take count (closing_line after)) → RunAnswers route before left rest o n (Err stop) after k p
  run_closing end stop count m n after k p is other turn adds =
      let all = turn.2 in
      (all.0, (turn.0, end, turn.1, inr (is, (all.1, count, other, (all.2, turn.3), all.3, adds_then o m n all.1 (take count (closing_line after)) all.4 adds))))

-- nothing was taken
nothing_taken : (left : Option (List ℕ)) → HasLines left left [] Failed
nothing_taken left = record { input = []; taken = takes_nothing left; end = Failed; stands = omega arith; lines_are = refl; ended_is = refl }

stops_at_once : (stop : Stop) (route : Route) (before : SessionState) (o : Option (List ℕ)) → StopsIn stop route before [] [] o o before before.client.log nothing
stops_at_once Sink route before o = ([], [], [], refl, ((refl, refl, refl), refl), refl, (0, adds_nothing o))
stops_at_once Keeper route before o = ([], [], [], refl, inl ((refl, refl, refl), refl), refl, adds_nothing o)
stops_at_once Memory route before o = ([], [], [], refl, inl ((refl, refl, refl), refl), refl, (0, adds_nothing o))

-- nothing was done
pub run_nothing : (stop : Stop) (route : Route) (before : SessionState) (left o : Option (List ℕ)) → RunAnswers route before left left o o (Err stop) before before.client.log nothing
run_nothing stop route before left o = ([], ([], Failed, nothing_taken left, inl (stops_at_once stop route before o)))

-- ---- how much was read

most : (rest : Option (List ℕ)) (count : ℕ) (end : InputEnd) → EndsAt rest count end → count ≤ max_input + 1
most rest count Read stands = omega (arith, stands.1)
most rest count Failed stands = omega (arith, stands)
most rest count TooLong stands = omega (arith, stands)

-- a session that goes on to the end of its reading has no line that quits
goes_on : (quit : Bool) (end ended : InputEnd) → ended ≡ ended_input quit end → (ended ≡ Read → ⊥) → (quit ≡ false) × (ended ≡ end)
goes_on true end ended is other = absurd (other is)
goes_on false end ended is other = (refl, is)

module _ (l r : List ℕ) (lines : List (List ℕ)) (ended : InputEnd) (has : HasLines (Some l) (Some r) lines ended) where
  -- the whole lines within the limit, where the input has no more
  whole_are : length has.input ≤ max_input → whole_lines has.input ≡ whole_lines (within_limit has.input)
  whole_are short = ap whole_lines (sym (take_all max_input has.input short))

  read_or_quit : ended ≡ Read → (r ≡ []) ⊎ (has_quit (whole_lines (within_limit has.input)) ≡ true)
  read_or_quit is = by has.end has.stands (has_quit (lines_at has.end has.input)) refl (sym is ∙ has.ended_is)
    where
      by : (end : InputEnd) → EndsAt (Some r) (length has.input) end → (quit : Bool) → has_quit (lines_at end has.input) ≡ quit → Read ≡ ended_input quit end
          → (r ≡ []) ⊎ (has_quit (whole_lines (within_limit has.input)) ≡ true)
      by Read stands quit has_it is = inl stands.0
      by Failed stands true has_it is = inr (sym (ap has_quit (whole_are stands)) ∙ has_it)
      by Failed stands false has_it is = absurd (cc)
      by TooLong stands true has_it is = inr has_it
      by TooLong stands false has_it is = absurd (cc)

  long_ends : length has.input ≡ max_input + 1 → has_quit (whole_lines (within_limit has.input)) ≡ false → ended ≡ TooLong
  long_ends long none = by has.end has.stands has.ended_is
    where
      by : (end : InputEnd) → EndsAt (Some r) (length has.input) end → ended ≡ ended_input (has_quit (lines_at end has.input)) end → ended ≡ TooLong
      by Read stands is = absurd (omega (arith, stands.1))
      by Failed stands is = absurd (omega (arith, stands))
      by TooLong stands is = is ∙ ap (λ (quit : Bool). ended_input quit TooLong) none

  too_long : ended ≡ TooLong → (length has.input ≡ max_input + 1) × (has_quit (whole_lines (within_limit has.input)) ≡ false)
  too_long is = by has.end has.stands (has_quit (lines_at has.end has.input)) refl (sym is ∙ has.ended_is)
    where
      by : (end : InputEnd) → EndsAt (Some r) (length has.input) end → (quit : Bool) → has_quit (lines_at end has.input) ≡ quit → TooLong ≡ ended_input quit end
          → (length has.input ≡ max_input + 1) × (has_quit (whole_lines (within_limit has.input)) ≡ false)
      by Read stands true has_it is = absurd (cc)
      by Read stands false has_it is = absurd (cc)
      by Failed stands true has_it is = absurd (cc)
      by Failed stands false has_it is = absurd (cc)
      by TooLong stands true has_it is = absurd (cc)
      by TooLong stands false has_it is = (stands, has_it)

  has_failed : ended ≡ Failed → has_quit (whole_lines has.input) ≡ false
  has_failed is = by has.end has.stands (has_quit (lines_at has.end has.input)) refl (sym is ∙ has.ended_is)
    where
      by : (end : InputEnd) → EndsAt (Some r) (length has.input) end → (quit : Bool) → has_quit (lines_at end has.input) ≡ quit → Failed ≡ ended_input quit end
          → has_quit (whole_lines has.input) ≡ false
      by Read stands true has_it is = absurd (cc)
      by Read stands false has_it is = absurd (cc)
      by Failed stands true has_it is = absurd (cc)
      by Failed stands false has_it is = has_it
      by TooLong stands true has_it is = absurd (cc)
      by TooLong stands false has_it is = absurd (cc)

read_ended : (l r : List ℕ) (lines : List (List ℕ)) (ended : InputEnd) → HasLines (Some l) (Some r) lines ended → IsInputRead (status_of (Ok ended)) l r
read_ended l r lines Read has = record {
  input = has.input;
  taken = has.taken;
  most = most (Some r) (length has.input) has.end has.stands;
  past = λ sink keeper memory. (λ is. absurd (omega arith), λ long. absurd (cc (long_ends l r lines Read has long.0 long.1)));
  ended = λ is. read_or_quit l r lines Read has refl;
  failed = λ is. absurd (omega arith);
}
read_ended l r lines Failed has = record {
  input = has.input;
  taken = has.taken;
  most = most (Some r) (length has.input) has.end has.stands;
  past = λ sink keeper memory. (λ is. absurd (omega arith), λ long. absurd (cc (long_ends l r lines Failed has long.0 long.1)));
  ended = λ is. absurd (omega arith);
  failed = λ is. has_failed l r lines Failed has refl;
}
read_ended l r lines TooLong has = record {
  input = has.input;
  taken = has.taken;
  most = most (Some r) (length has.input) has.end has.stands;
  past = λ sink keeper memory. (λ is. too_long l r lines TooLong has refl, λ long. refl);
  ended = λ is. absurd (omega arith);
  failed = λ is. absurd (omega arith);
}

read_stopped : (l r : List ℕ) (lines : List (List ℕ)) (ended : InputEnd) (stop : Stop) → HasLines (Some l) (Some r) lines ended → IsInputRead (status_of (Err stop)) l r
read_stopped l r lines ended Sink has = record {
  input = has.input;
  taken = has.taken;
  most = most (Some r) (length has.input) has.end has.stands;
  past = λ sink keeper memory. absurd (sink refl);
  ended = λ is. absurd (omega arith);
  failed = λ is. absurd (omega arith);
}
read_stopped l r lines ended Keeper has = record {
  input = has.input;
  taken = has.taken;
  most = most (Some r) (length has.input) has.end has.stands;
  past = λ sink keeper memory. absurd (keeper refl);
  ended = λ is. absurd (omega arith);
  failed = λ is. absurd (omega arith);
}
read_stopped l r lines ended Memory has = record {
  input = has.input;
  taken = has.taken;
  most = most (Some r) (length has.input) has.end has.stands;
  past = λ sink keeper memory. absurd (memory refl);
  ended = λ is. absurd (omega arith);
  failed = λ is. absurd (omega arith);
}

read_told : (l r : List ℕ) (ended : Result InputEnd Stop) → TakesInput (Some l) (Some r) ended → IsInputRead (status_of ended) l r
read_told l r (Ok ended) takes = read_ended l r takes.0 ended takes.1
read_told l r (Err stop) takes = read_stopped l r takes.0 takes.1 stop takes.2

input_taken : (left rest : Option (List ℕ)) (ended : Result InputEnd Stop) → TakesInput left rest ended → (input : List ℕ) × Takes left rest input
input_taken left rest (Ok ended) takes = (takes.1.input, takes.1.taken)
input_taken left rest (Err stop) takes = (takes.2.input, takes.2.taken)

pub is_read : (left rest : Option (List ℕ)) (ended : Result InputEnd Stop) → TakesInput left rest ended → Told left rest (IsInputRead (status_of ended))
is_read (Some l) (Some r) ended takes = read_told l r ended takes
is_read (Some l) None ended takes = (input_taken (Some l) None ended takes).1
is_read None rest ended takes = (input_taken None rest ended takes).1

-- ---- without faults

short_not_past : (l : List ℕ) (rest : Option (List ℕ)) → length l ≤ max_input → TakesInput (Some l) rest (Ok TooLong) → ⊥
short_not_past l None short takes = takes.1.taken
short_not_past l (Some r) short takes =
    omega (arith, (too_long l r takes.0 TooLong takes.1 refl).0, ap length takes.1.taken, length-append {A = ℕ})

complete_told : (l : List ℕ) (rest : Option (List ℕ)) (a b c d e f : ℕ) (ended : Result InputEnd Stop) → TakesInput (Some l) rest ended → (ended ≡ Ok Failed → Rose a b) → (ended ≡ Err Sink → Rose c d)
    → (ended ≡ Err Keeper → Rose e f) → length l ≤ max_input → (Rose a b → ⊥) → (Rose c d → ⊥) → (Rose e f → ⊥) → (status_of ended ≡ 0) ⊎ (status_of ended ≡ 7)
complete_told l rest a b c d e f (Ok Read) takes source sink keeper short calm quiet sound = inl refl
complete_told l rest a b c d e f (Ok Failed) takes source sink keeper short calm quiet sound = absurd (calm (source refl))
complete_told l rest a b c d e f (Ok TooLong) takes source sink keeper short calm quiet sound = absurd (short_not_past l rest short takes)
complete_told l rest a b c d e f (Err Sink) takes source sink keeper short calm quiet sound = absurd (quiet (sink refl))
complete_told l rest a b c d e f (Err Keeper) takes source sink keeper short calm quiet sound = absurd (sound (keeper refl))
complete_told l rest a b c d e f (Err Memory) takes source sink keeper short calm quiet sound = inr refl

-- without a fault all lines are answered, but for want of memory
abbrev pub EndsWell : Option (List ℕ) → ℕ → ℕ → ℕ → ℕ → ℕ → ℕ → ℕ → Type 0
EndsWell None a b c d e f status = Unit {0}
EndsWell (Some bytes) a b c d e f status = length bytes ≤ max_input → (Rose a b → ⊥) → (Rose c d → ⊥) → (Rose e f → ⊥) → (status ≡ 0) ⊎ (status ≡ 7)

pub ends_well : (left rest : Option (List ℕ)) (a b c d e f status : ℕ) (ended : Result InputEnd Stop) → status ≡ status_of ended → TakesInput left rest ended → (ended ≡ Ok Failed → Rose a b)
    → (ended ≡ Err Sink → Rose c d) → (ended ≡ Err Keeper → Rose e f) → EndsWell left a b c d e f status
ends_well None rest a b c d e f status ended is takes source sink keeper = tt
ends_well (Some l) rest a b c d e f status ended is takes source sink keeper =
    λ short calm quiet sound. subst (λ (n : ℕ). (n ≡ 0) ⊎ (n ≡ 7)) (sym is) (complete_told l rest a b c d e f ended takes source sink keeper short calm quiet sound)
