-- Answering an input piece by piece.
use Rattle.std.proofs.Common.{◌≡◌, ℕ, ◌+◌, ◌-◌, ◌≤◌, Bool, true, false, List, [], ◌∷◌, ◌++◌, length, take, Option, None, Some, Ok, Err, refl, sym, ◌∙◌, ap, subst, arith, append_assoc}
use Rattle.std.specs.Prelude.{nat_lt}
use Rattle.std.proofs.lemmas.Bool.Decides.{nat_tests}
use Rattle.std.proofs.lemmas.List.{append-nil, take_all}
use Rattle.outside.specs.Outside.{Takes}
use Rattle.client_core.specs.declared.route.Route.{Route}
use Rattle.mod_log.specs.Log.{Log}
use Rattle.client_core.specs.Trace.{Trace, nothing, followed}
use Rattle.shell_lang.specs.Lines.{cut_lines, whole_lines, unfinished, last_line}
use Rattle.shell_lang.proofs.Cutting.{parts_are}
use Rattle.client_lines.specs.declared.input.InputEnd.{InputEnd}
use Rattle.client_lines.specs.declared.input.InputEnd.TheVariants.{Read, Failed, TooLong}
use Rattle.client_lines.specs.Limits.{max_input}
use Rattle.client_lines.specs.declared.run.Stop.{Stop}
use Rattle.client_lines.specs.declared.run.Stop.TheVariants.{Memory}
use Rattle.client_lines.specs.Input.{last_at, Reading, EndsAt, GoesOnOrEnds, ReadsPiece, within_limit, lines_at}
use Rattle.client_session.specs.Session.{SessionState}
use Rattle.client_lines.specs.Run.{HasLines, has_quit, up_to_quit, ended_input}
use Rattle.client_lines.specs.InsideRun.{AllAnswered, FrontAnswered, AnswersInput, HasUnfinished}
use Rattle.client_lines.proofs.InputReading.{has_read_none, has_read_piece, has_read_all}
use Rattle.client_lines.proofs.Quitting.{all_lines, behind_no_quit, ends_in_front, front_of, quit_behind, quit_in_front, no_quit_then, last_up_to, end_stays}
use Rattle.client_lines.proofs.RunningLines.{answers_nothing, answers_then, then_stops, stops_sooner, stops_behind}
use Rattle.client_lines.proofs.RunningInput.{cut_whole}
use Rattle.client_lines.proofs.SoFar.{HasRead, ReadsSoFar, AnswersSoFar}

-- ---- how reading stands

-- an end that is not known yet stands as a fault does
abbrev known : Option InputEnd → InputEnd
known None = Failed
known (Some end) = end

known_stands : (rest : Option (List ℕ)) (before count : ℕ) (end : Option InputEnd) → GoesOnOrEnds rest before count end → EndsAt rest count (known end)
known_stands rest before count None goes = goes.1
known_stands rest before count (Some end) ends = ends

-- the end of the input stays, while its lines are answered
pub ends_at : (rest : Option (List ℕ)) (before : ℕ) (new final : Reading) (last : Option InputEnd) (end : InputEnd) → last ≡ Some end → HasUnfinished new final → GoesOnOrEnds rest before new.count last
    → EndsAt rest final.count end
ends_at rest before new final last end is left goes =
    subst (λ (n : ℕ). EndsAt rest n end) (sym left.count) (subst (GoesOnOrEnds rest before new.count) is goes)

-- a piece that was lost stands as one that was read
lost_end : (rest : Option (List ℕ)) (count : ℕ) (past : Bool) → nat_lt 16777216 count ≡ past → count ≤ max_input + 1 → (end : InputEnd) × EndsAt rest count end
lost_end rest count true is few = (TooLong, grind (arith, nat_tests))
lost_end rest count false is few = (Failed, grind (arith, nat_tests))

-- ---- the lines of what was read

-- the lines that count begin with those behind and the whole ones of the bytes that are left
lines_begin : (left rest : Option (List ℕ)) (reading : Reading) (behind : List (List ℕ)) (end : InputEnd) (now : HasRead left rest reading behind) → EndsAt rest reading.count end
    → (more : List (List ℕ)) × (lines_at end now.input ≡ behind ++ (whole_lines reading.bytes ++ more))
lines_begin left rest reading behind Read now ends =
    let short : length now.input ≤ max_input = omega (arith, now.count, ends.1) in
    let whole : within_limit now.input ≡ now.input = take_all max_input now.input short in (
      last_line (unfinished now.input),
      ap (λ (ls : List (List ℕ)). ls ++ last_line (unfinished now.input)) (ap whole_lines (sym whole) ∙ cut_whole (within_limit now.input) reading.bytes behind now.cut)
          ∙ append_assoc behind (whole_lines reading.bytes) (last_line (unfinished now.input)),
    )
lines_begin left rest reading behind Failed now ends =
    let short : length now.input ≤ max_input = omega (arith, now.count) in
    let whole : within_limit now.input ≡ now.input = take_all max_input now.input short in (
      [],
      ap whole_lines (sym whole) ∙ cut_whole (within_limit now.input) reading.bytes behind now.cut
          ∙ ap (λ (ls : List (List ℕ)). behind ++ ls) (sym (append-nil (whole_lines reading.bytes))),
    )
lines_begin left rest reading behind TooLong now ends = (
  [],
  cut_whole (within_limit now.input) reading.bytes behind now.cut ∙ ap (λ (ls : List (List ℕ)). behind ++ ls) (sym (append-nil (whole_lines reading.bytes))),
)

-- all whole lines were cut
has_read_lines : (left rest : Option (List ℕ)) (old new : Reading) (behind : List (List ℕ)) → HasRead left rest old behind → HasUnfinished old new → HasRead left rest new (behind ++ whole_lines old.bytes)
has_read_lines left rest old new behind read unfinished_is = record {
  input = read.input;
  taken = read.taken;
  count = unfinished_is.count ∙ read.count;
  cut = read.cut ∙ ap (λ (ls : List (List ℕ)). behind ++ ls) (parts_are old.bytes)
      ∙ sym (append_assoc behind (whole_lines old.bytes) (unfinished old.bytes ∷ []))
      ∙ ap (λ (ls : List (List ℕ)). (behind ++ whole_lines old.bytes) ++ ls) (sym (unfinished_is.no_line ∙ ap (λ (l : List ℕ). l ∷ []) unfinished_is.bytes));
}

module _ (left : Option (List ℕ)) where
  pub reads_none : (reading : Reading) → reading ≡ record { bytes = []; count = 0 } → ReadsSoFar left left reading []
  reads_none reading is = record { read = has_read_none left reading is; no_quit = refl }

  -- one more piece
  piece_read : (mid rest : Option (List ℕ)) (old new : Reading) (behind : List (List ℕ)) (end : Option InputEnd) → old.count ≤ max_input → ReadsPiece mid rest old new end
      → ReadsSoFar left mid old behind → ReadsSoFar left rest new behind
  piece_read mid rest old new behind end few reads so_far =
      record { read = has_read_piece left mid rest old new behind end so_far.read few reads; no_quit = so_far.no_quit }

  -- and its lines, of which none quits
  pub reads_more : (mid rest : Option (List ℕ)) (old new final : Reading) (behind : List (List ℕ)) (end : Option InputEnd) → old.count ≤ max_input → ReadsPiece mid rest old new end
      → HasUnfinished new final → has_quit (whole_lines new.bytes) ≡ false → ReadsSoFar left mid old behind → ReadsSoFar left rest final (behind ++ whole_lines new.bytes)
  reads_more mid rest old new final behind end few reads left_is none so_far = record {
    read = has_read_lines left rest new final behind (has_read_piece left mid rest old new behind end so_far.read few reads) left_is;
    no_quit = no_quit_then behind (whole_lines new.bytes) so_far.no_quit none;
  }

  -- the lines that count, where reading stands so
  lines_so : (rest : Option (List ℕ)) (reading : Reading) (behind lines : List (List ℕ)) (end ended : InputEnd) (now : HasRead left rest reading behind) → EndsAt rest reading.count end
      → lines ≡ up_to_quit (lines_at end now.input) → ended ≡ ended_input (has_quit (lines_at end now.input)) end → HasLines left rest lines ended
  lines_so rest reading behind lines end ended now ends are is = record {
    input = now.input;
    taken = now.taken;
    end = end;
    stands = subst (λ (n : ℕ). EndsAt rest n end) now.count ends;
    lines_are = are;
    ended_is = is;
  }

  -- a line of a piece quits
  pub quits_in : (mid rest : Option (List ℕ)) (old new : Reading) (behind : List (List ℕ)) (end : Option InputEnd) → old.count ≤ max_input → ReadsPiece mid rest old new end
      → has_quit (whole_lines new.bytes) ≡ true → ReadsSoFar left mid old behind → HasLines left rest (behind ++ up_to_quit (whole_lines new.bytes)) Read
  quits_in mid rest old new behind end few reads some so_far =
      let now = piece_read mid rest old new behind end few reads so_far in
      let stands : EndsAt rest new.count (known end) = known_stands rest old.count new.count end reads.ended in
      let lines = lines_begin left rest new behind (known end) now.read stands in
      let whole = whole_lines new.bytes in
      lines_so rest new behind (behind ++ up_to_quit whole) (known end) Read now.read stands
      (sym (ap up_to_quit lines.1 ∙ behind_no_quit behind (whole ++ lines.0) now.no_quit ∙ ap (λ (ls : List (List ℕ)). behind ++ ls) (ends_in_front whole lines.0 some)))
      (sym (ap (λ (b : Bool). ended_input b (known end)) (ap has_quit lines.1 ∙ quit_behind behind (whole ++ lines.0) now.no_quit ∙ quit_in_front whole lines.0 some)))

  -- a stop in the lines of a piece, or behind them
  pub stops_in : (mid rest : Option (List ℕ)) (old new : Reading) (behind : List (List ℕ)) (end : Option InputEnd) → old.count ≤ max_input → ReadsPiece mid rest old new end
      → ReadsSoFar left mid old behind → (more : List (List ℕ)) × (ended : InputEnd) × HasLines left rest ((behind ++ up_to_quit (whole_lines new.bytes)) ++ more) ended
  stops_in mid rest old new behind end few reads so_far =
      let now = piece_read mid rest old new behind end few reads so_far in
      let stands : EndsAt rest new.count (known end) = known_stands rest old.count new.count end reads.ended in
      let lines = lines_begin left rest new behind (known end) now.read stands in
      let whole = whole_lines new.bytes in
      let front = front_of whole lines.0 in (
        front.0,
        ended_input (has_quit (lines_at (known end) now.read.input)) (known end),
        lines_so rest new behind ((behind ++ up_to_quit whole) ++ front.0) (known end) (ended_input (has_quit (lines_at (known end) now.read.input)) (known end)) now.read stands
            (sym (ap up_to_quit lines.1 ∙ behind_no_quit behind (whole ++ lines.0) now.no_quit ∙ ap (λ (ls : List (List ℕ)). behind ++ ls) front.1
            ∙ sym (append_assoc behind (up_to_quit whole) front.0)))
            refl,
      )

  -- a piece was lost
  pub lost_in : (mid rest : Option (List ℕ)) (old : Reading) (behind : List (List ℕ)) (piece : List ℕ) → old.count ≤ max_input → Takes mid rest piece → old.count + length piece ≤ max_input + 1
      → ReadsSoFar left mid old behind → (more : List (List ℕ)) × (ended : InputEnd) × HasLines left rest (behind ++ more) ended
  lost_in mid rest old behind piece few taken short so_far =
      let new : Reading = record { bytes = old.bytes ++ take (max_input - old.count) piece; count = old.count + length piece } in
      let at = lost_end rest (old.count + length piece) (nat_lt 16777216 (old.count + length piece)) refl short in
      let reads : ReadsPiece mid rest old new (Some at.0) = record { piece = piece; taken = taken; count = refl; bytes = refl; ended = at.1 } in
      let now = piece_read mid rest old new behind (Some at.0) few reads so_far in
      let lines = lines_begin left rest new behind at.0 now.read at.1 in (
        up_to_quit (whole_lines new.bytes ++ lines.0),
        ended_input (has_quit (lines_at at.0 now.read.input)) at.0,
        lines_so rest new behind (behind ++ up_to_quit (whole_lines new.bytes ++ lines.0)) at.0 (ended_input (has_quit (lines_at at.0 now.read.input)) at.0) now.read at.1
            (sym (ap up_to_quit lines.1 ∙ behind_no_quit behind (whole_lines new.bytes ++ lines.0) now.no_quit))
            refl,
      )

  -- the end of the input
  pub all_in : (rest : Option (List ℕ)) (reading : Reading) (behind : List (List ℕ)) (end : InputEnd) → cut_lines reading.bytes ≡ reading.bytes ∷ [] → EndsAt rest reading.count end
      → ReadsSoFar left rest reading behind → HasLines left rest (behind ++ last_at end reading.bytes) end
  all_in rest reading behind end none ends now =
      let all : lines_at end now.read.input ≡ behind ++ last_at end reading.bytes = has_read_all left rest reading behind end now.read none ends in
      lines_so rest reading behind (behind ++ last_at end reading.bytes) end end now.read ends
      (sym (ap up_to_quit all ∙ behind_no_quit behind (last_at end reading.bytes) now.no_quit ∙ ap (λ (ls : List (List ℕ)). behind ++ ls) (last_up_to end reading.bytes)))
      (end_stays end reading.bytes ∙ sym (ap (λ (b : Bool). ended_input b end) (ap has_quit all ∙ quit_behind behind (last_at end reading.bytes) now.no_quit)))

  -- the source failed, and gave nothing
  pub failed_in : (mid rest : Option (List ℕ)) (old new : Reading) (behind : List (List ℕ)) (end : Option InputEnd) → old.count ≤ max_input → ReadsPiece mid rest old new end
      → end ≡ Some Failed → new ≡ old → cut_lines old.bytes ≡ old.bytes ∷ [] → ReadsSoFar left mid old behind → HasLines left rest behind Failed
  failed_in mid rest old new behind end few reads failed same none so_far =
      let no_line : cut_lines new.bytes ≡ new.bytes ∷ [] = subst (λ (r : Reading). cut_lines r.bytes ≡ r.bytes ∷ []) (sym same) none in
      let ends : EndsAt rest new.count Failed = subst (GoesOnOrEnds rest old.count new.count) failed reads.ended in
      subst (λ (ls : List (List ℕ)). HasLines left rest ls Failed) (append-nil behind)
      (all_in rest new behind Failed no_line ends (piece_read mid rest old new behind end few reads so_far))

-- ---- and their answers

module _ (route : Route) (a : SessionState) (left o : Option (List ℕ)) where
  pub so_far_none : (reading : Reading) → reading ≡ record { bytes = []; count = 0 } → AnswersSoFar route a left left reading o o a nothing
  so_far_none reading is = ([], reads_none left reading is, answers_nothing route a o)

  -- the lines of one more piece were answered
  pub so_far_more : (mid rest : Option (List ℕ)) (old new final : Reading) (end : Option InputEnd) (b c : SessionState) (m n : Option (List ℕ)) (p q : Trace) → old.count ≤ max_input
      → ReadsPiece mid rest old new end → HasUnfinished new final → has_quit (whole_lines new.bytes) ≡ false
      → AnswersSoFar route a left mid old o m b p → AllAnswered route b (up_to_quit (whole_lines new.bytes)) m n c q → AnswersSoFar route a left rest final o n c (followed p q)
  so_far_more mid rest old new final end b c m n p q few reads left_is none so_far answered = (
    so_far.0 ++ whole_lines new.bytes,
    reads_more left mid rest old new final so_far.0 end few reads left_is none so_far.1,
    answers_then route a b c so_far.0 (whole_lines new.bytes) o m n p q so_far.2 (subst (λ (ls : List (List ℕ)). AllAnswered route b ls m n c q) (all_lines (whole_lines new.bytes) none) answered),
  )

  -- the source failed
  pub so_far_failed : (mid rest : Option (List ℕ)) (old new : Reading) (end : Option InputEnd) (b : SessionState) (m : Option (List ℕ)) (p : Trace) → old.count ≤ max_input
      → ReadsPiece mid rest old new end → end ≡ Some Failed → new ≡ old → cut_lines old.bytes ≡ old.bytes ∷ [] → AnswersSoFar route a left mid old o m b p
      → AnswersInput route a left rest o m (Ok Failed) b b.client.log p
  so_far_failed mid rest old new end b m p few reads failed same none so_far =
      (so_far.0, failed_in left mid rest old new so_far.0 end few reads failed same none so_far.1, so_far.2, refl)

  -- a line of a piece quits
  pub so_far_quits : (mid rest : Option (List ℕ)) (old new : Reading) (end : Option InputEnd) (b c : SessionState) (k : Log) (m n : Option (List ℕ)) (p q : Trace) → old.count ≤ max_input
      → ReadsPiece mid rest old new end → has_quit (whole_lines new.bytes) ≡ true → AnswersSoFar route a left mid old o m b p
      → AllAnswered route b (up_to_quit (whole_lines new.bytes)) m n c q → k ≡ c.client.log → AnswersInput route a left rest o n (Ok Read) c k (followed p q)
  so_far_quits mid rest old new end b c k m n p q few reads some so_far answered is = (
    so_far.0 ++ up_to_quit (whole_lines new.bytes),
    quits_in left mid rest old new so_far.0 end few reads some so_far.1,
    answers_then route a b c so_far.0 (up_to_quit (whole_lines new.bytes)) o m n p q so_far.2 answered,
    is,
  )

  -- a stop in the lines of a piece
  pub so_far_stops : (mid rest : Option (List ℕ)) (old new : Reading) (end : Option InputEnd) (stop : Stop) (b c : SessionState) (k : Log) (m n : Option (List ℕ)) (p q : Trace) → old.count ≤ max_input
      → ReadsPiece mid rest old new end → AnswersSoFar route a left mid old o m b p → FrontAnswered stop route b (up_to_quit (whole_lines new.bytes)) m n c k q
      → AnswersInput route a left rest o n (Err stop) c k (followed p q)
  so_far_stops mid rest old new end stop b c k m n p q few reads so_far stops =
      let lines = stops_in left mid rest old new so_far.0 end few reads so_far.1 in
      let front = so_far.0 ++ up_to_quit (whole_lines new.bytes) in (
        front ++ lines.0,
        lines.1,
        lines.2,
        stops_sooner route stop a c k front lines.0 o n (followed p q) (then_stops route stop a b c k so_far.0 (up_to_quit (whole_lines new.bytes)) o m n p q so_far.2 stops),
      )

  -- a piece was lost
  pub so_far_lost : (mid rest : Option (List ℕ)) (old : Reading) (piece : List ℕ) (b : SessionState) (m : Option (List ℕ)) (p : Trace) → old.count ≤ max_input → Takes mid rest piece → old.count + length piece ≤ max_input + 1
      → AnswersSoFar route a left mid old o m b p → AnswersInput route a left rest o m (Err Memory) b b.client.log p
  so_far_lost mid rest old piece b m p few taken short so_far =
      let lines = lost_in left mid rest old so_far.0 piece few taken short so_far.1 in (
        so_far.0 ++ lines.0,
        lines.1,
        lines.2,
        stops_sooner route Memory a b b.client.log so_far.0 lines.0 o m p (stops_behind route Memory a b so_far.0 o m p so_far.2),
      )

  -- the end of the input
  pub all_answered : (rest : Option (List ℕ)) (reading : Reading) (end : InputEnd) (b c : SessionState) (k : Log) (m n : Option (List ℕ)) (p q : Trace) → cut_lines reading.bytes ≡ reading.bytes ∷ []
      → EndsAt rest reading.count end → AnswersSoFar route a left rest reading o m b p → AllAnswered route b (last_at end reading.bytes) m n c q → k ≡ c.client.log
      → AnswersInput route a left rest o n (Ok end) c k (followed p q)
  all_answered rest reading end b c k m n p q none ends so_far answered is = (
    so_far.0 ++ last_at end reading.bytes,
    all_in left rest reading so_far.0 end none ends so_far.1,
    answers_then route a b c so_far.0 (last_at end reading.bytes) o m n p q so_far.2 answered,
    is,
  )

  pub all_stops : (rest : Option (List ℕ)) (reading : Reading) (end : InputEnd) (stop : Stop) (b c : SessionState) (k : Log) (m n : Option (List ℕ)) (p q : Trace) → cut_lines reading.bytes ≡ reading.bytes ∷ []
      → EndsAt rest reading.count end → AnswersSoFar route a left rest reading o m b p → FrontAnswered stop route b (last_at end reading.bytes) m n c k q
      → AnswersInput route a left rest o n (Err stop) c k (followed p q)
  all_stops rest reading end stop b c k m n p q none ends so_far stops = (
    so_far.0 ++ last_at end reading.bytes,
    end,
    all_in left rest reading so_far.0 end none ends so_far.1,
    then_stops route stop a b c k so_far.0 (last_at end reading.bytes) o m n p q so_far.2 stops,
  )
