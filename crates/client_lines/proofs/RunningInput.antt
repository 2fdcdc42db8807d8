-- Answering the lines that are there, up to one that quits.
use Rattle.std.proofs.Common.{◌≡◌, ℕ, ◌+◌, ◌<◌, true, false, List, [], ◌∷◌, ◌++◌, length, drop, Option, refl, sym, ◌∙◌, ap, subst, arith, append_assoc, if◌then◌else◌}
use Rattle.client_core.specs.declared.route.Route.{Route}
use Rattle.mod_log.specs.Log.{Log}
use Rattle.client_core.specs.Trace.{Trace, nothing, followed}
use Rattle.shell_lang.specs.Lines.{cut_lines, but_last, whole_lines, unfinished, last_line, BeginsWithLine, IsCutUpTo}
use Rattle.shell_lang.proofs.Cutting.{parts_are, line_taken, all_lines_taken, but_last-append}
use Rattle.client_lines.specs.declared.run.Stop.{Stop}
use Rattle.client_session.specs.Session.{SessionState}
use Rattle.client_lines.specs.Run.{quits, has_quit, up_to_quit}
use Rattle.client_lines.specs.InsideRun.{AllAnswered, FrontAnswered}
use Rattle.client_lines.proofs.Quitting.{no_quit_then, one_line, up_to_line, quit_at, quit_behind, quit_in_front, all_lines}
use Rattle.client_lines.proofs.RunningLines.{answers_nothing, answers_then, then_stops, stops_sooner}
use Rattle.client_lines.proofs.SoFar.{CutsFront, AnswersFront}

-- the whole lines are those behind, and then those of the bytes that are left
pub cut_whole : (text bytes : List ℕ) (behind : List (List ℕ)) → IsCutUpTo text behind bytes → whole_lines text ≡ behind ++ whole_lines bytes
cut_whole text bytes behind cut =
    ap but_last (cut ∙ ap (λ (xs : List (List ℕ)). behind ++ xs) (parts_are bytes) ∙ sym (append_assoc behind (whole_lines bytes) (unfinished bytes ∷ [])))
    ∙ but_last-append (behind ++ whole_lines bytes) (unfinished bytes)

pub last_line_some : (bytes : List ℕ) → 0 < length bytes → last_line bytes ≡ bytes ∷ []
last_line_some [] some = absurd (omega arith)
last_line_some (b ∷ bs) some = refl

pub last_line_none : (bytes : List ℕ) → length bytes ≡ 0 → last_line bytes ≡ []
last_line_none [] none = refl
last_line_none (b ∷ bs) none = absurd (omega arith)

module _ (bytes left line : List ℕ) (lines : List (List ℕ)) (cuts : CutsFront bytes left lines) (begins : BeginsWithLine left line) where
  abbrev rest : List ℕ
  rest = drop (length line + 1) left

  -- the whole lines, about the first that is left
  whole_are : whole_lines bytes ≡ lines ++ line ∷ whole_lines rest
  whole_are =
      cut_whole bytes rest (lines ++ line ∷ []) (line_taken lines bytes left line cuts.0 begins) ∙ append_assoc lines (line ∷ []) (whole_lines rest)

  pub line_cut : (behind : List ℕ) → behind ≡ rest → quits line ≡ false → CutsFront bytes behind (lines ++ line ∷ [])
  line_cut behind is goes_on = (
    line_taken lines bytes left line cuts.0 begins ∙ ap (λ (l : List ℕ). (lines ++ line ∷ []) ++ cut_lines l) (sym is),
    no_quit_then lines (line ∷ []) cuts.1 (one_line line false goes_on),
  )

  pub one_quits : quits line ≡ true → has_quit (whole_lines bytes) ≡ true
  one_quits quit =
      ap has_quit whole_are ∙ quit_behind lines (line ∷ whole_lines rest) cuts.1 ∙ quit_in_front (line ∷ []) (whole_lines rest) (one_line line true quit)

  pub quit_ends : quits line ≡ true → up_to_quit (whole_lines bytes) ≡ lines ++ line ∷ []
  quit_ends quit = ap up_to_quit whole_are ∙ quit_at lines line (whole_lines rest) cuts.1 quit

  pub line_then : up_to_quit (whole_lines bytes) ≡ (lines ++ line ∷ []) ++ (if quits line then [] else up_to_quit (whole_lines rest))
  line_then = ap up_to_quit whole_are ∙ up_to_line lines line (whole_lines rest) cuts.1

pub no_line_quits : (bytes left : List ℕ) (lines : List (List ℕ)) → CutsFront bytes left lines → cut_lines left ≡ left ∷ [] → has_quit (whole_lines bytes) ≡ false
no_line_quits bytes left lines cuts none = ap has_quit (all_lines_taken lines bytes left cuts.0 none).0 ∙ cuts.1

module _ (route : Route) (a : SessionState) (bytes : List ℕ) (o : Option (List ℕ)) where
  pub front_none : AnswersFront route a bytes bytes o o a nothing
  front_none = ([], (refl, refl), answers_nothing route a o)

  pub front_line : (left behind line : List ℕ) (b c : SessionState) (m n : Option (List ℕ)) (p q : Trace) → BeginsWithLine left line → behind ≡ drop (length line + 1) left → quits line ≡ false
      → AnswersFront route a bytes left o m b p → AllAnswered route b (line ∷ []) m n c q → AnswersFront route a bytes behind o n c (followed p q)
  front_line left behind line b c m n p q begins is goes_on front answered = (
    front.0 ++ line ∷ [],
    line_cut bytes left line front.0 front.1 begins behind is goes_on,
    answers_then route a b c front.0 (line ∷ []) o m n p q front.2 answered,
  )

  pub front_quits : (left line : List ℕ) (b c : SessionState) (m n : Option (List ℕ)) (p q : Trace) → BeginsWithLine left line → quits line ≡ true
      → AnswersFront route a bytes left o m b p → AllAnswered route b (line ∷ []) m n c q → AllAnswered route a (up_to_quit (whole_lines bytes)) o n c (followed p q)
  front_quits left line b c m n p q begins quit front answered =
      subst (λ (ls : List (List ℕ)). AllAnswered route a ls o n c (followed p q)) (sym (quit_ends bytes left line front.0 front.1 begins quit))
      (answers_then route a b c front.0 (line ∷ []) o m n p q front.2 answered)

  pub front_stops : (stop : Stop) (left line : List ℕ) (b c : SessionState) (k : Log) (m n : Option (List ℕ)) (p q : Trace) → BeginsWithLine left line
      → AnswersFront route a bytes left o m b p → FrontAnswered stop route b (line ∷ []) m n c k q → FrontAnswered stop route a (up_to_quit (whole_lines bytes)) o n c k (followed p q)
  front_stops stop left line b c k m n p q begins front stops =
      subst (λ (ls : List (List ℕ)). FrontAnswered stop route a ls o n c k (followed p q)) (sym (line_then bytes left line front.0 front.1 begins))
      (stops_sooner route stop a c k (front.0 ++ line ∷ []) (if quits line then [] else up_to_quit (whole_lines (drop (length line + 1) left))) o n (followed p q)
      (then_stops route stop a b c k front.0 (line ∷ []) o m n p q front.2 stops))

  pub front_done : (left : List ℕ) (b : SessionState) (m : Option (List ℕ)) (p : Trace) → cut_lines left ≡ left ∷ [] → AnswersFront route a bytes left o m b p
      → AllAnswered route a (up_to_quit (whole_lines bytes)) o m b p
  front_done left b m p none front =
      let whole : whole_lines bytes ≡ front.0 = (all_lines_taken front.0 bytes left front.1.0 none).0 in
      subst (λ (ls : List (List ℕ)). AllAnswered route a ls o m b p) (sym (ap up_to_quit whole ∙ all_lines front.0 front.1.1)) front.2
