-- The lines of a drill, and how a session reads them.
use Rattle.std.proofs.Common.{◌≡◌, ◌⊎◌, ⊎_elim, ℕ, zero, suc, ◌+◌, ◌/◌, ◌%◌, ◌==◌, ◌<◌, ◌≤◌, ◌^◌, ◌||◌, Bool, true, false, not, List, [], ◌∷◌, ◌++◌, length, take, drop, Some, Result, Ok, Err, refl, sym, ◌∙◌, ap, subst, arith, append_assoc, true≢false}
use Rattle.std.specs.Prelude.{codes, decimal, replicate, if◌then◌else◌}
use Rattle.std.specs.List.{AllByRecursion, list_any, list_all}
use Rattle.std.specs.Str.Parse.{AllDigits}
use Rattle.std.proofs.lemmas.List.{map-append, append-nil, take-append-drop}
use Rattle.std.proofs.lemmas.List.Folds.{list_any-append}
use Rattle.std.proofs.lemmas.Fmt.{decimal_is_IsNumeral}
use Rattle.std.proofs.lemmas.Str.Parse.{digit_from_value}
use Rattle.byte_fields.proofs.Facts.{eq_fails, and_holds}
use Rattle.shell_lang.specs.Faults.{number}
use Rattle.shell_lang.specs.Lines.{is_line_end, is_one_line, cut_lines, whole_lines, unfinished, lines_of}
use Rattle.shell_lang.specs.Commands.{read_line}
use Rattle.shell_lang.specs.declared.line.Line.{Line}
use Rattle.shell_lang.specs.declared.line.Line.TheVariants as lines
use Rattle.shell_lang.specs.declared.line.LineError.{LineError}
use Rattle.shell_lang.proofs.Cutting.{ended_parts, ended_lines_are_found, pieces_are_cut_alike}
use Rattle.shell_lang.proofs.Quitting.{quits_are}
use Rattle.client_lines.specs.declared.input.InputEnd.{InputEnd}
use Rattle.client_lines.specs.declared.input.InputEnd.TheVariants.{Read, Failed, TooLong}
use Rattle.client_lines.specs.Limits.{max_input}
use Rattle.client_lines.specs.Input.{lines_at, EndsAt}
use Rattle.client_lines.specs.Run.{asked_for, is_quit, quits, has_quit, up_to_quit, ended_input, HasLines}
use Rattle.client_lines.proofs.Quitting.{all_lines, quit_in_front, no_quit_then}
use Rattle.client_drill.specs.Limits.{max_steps}
use Rattle.client_drill.specs.Drill.{number_at, is_job, jobs_upto, put_line, run_line, step_line, sync_behind, lines_of_step, lines_upto, drill_lines, script}

-- ---- no line has a line end inside

abbrev IsLine : List ℕ → Type 0
IsLine line = list_any is_line_end line ≡ false

in_a_row : (xs ys : List ℕ) → IsLine xs → IsLine ys → IsLine (xs ++ ys)
in_a_row xs ys one other = list_any-append is_line_end xs ys ∙ ap (λ (b : Bool). b || list_any is_line_end ys) one ∙ other

repeated : (n b : ℕ) → (b ≡ 10 → ⊥) → IsLine (replicate n b)
repeated zero b other = refl
repeated (suc n) b other = ap (λ (t : Bool). t || list_any is_line_end (replicate n b)) (eq_fails b 10 other) ∙ repeated n b other

digits_are : (ds : List ℕ) → AllDigits 10 ds → IsLine ds
digits_are [] all = refl
digits_are (d ∷ ds) all =
    ap (λ (t : Bool). t || list_any is_line_end ds) (eq_fails d 10 (λ is. omega (arith, digit_from_value d all.0, is))) ∙ digits_are ds all.1

decimal_is : (n : ℕ) → n < 2 ^ 64 → IsLine (decimal n)
decimal_is n small = digits_are (decimal n) (decimal_is_IsNumeral n small).0.1

put_is : (x : ℕ) → IsLine (put_line x)
put_is x =
    in_a_row (codes "put /d/f") (decimal (x / 4 % 16) ++ 32 ∷ replicate (x % 1000 + 1) (97 + x % 26)) refl
    (in_a_row (decimal (x / 4 % 16)) (32 ∷ replicate (x % 1000 + 1) (97 + x % 26)) (decimal_is (x / 4 % 16) (omega arith))
    (in_a_row (32 ∷ []) (replicate (x % 1000 + 1) (97 + x % 26)) refl (repeated (x % 1000 + 1) (97 + x % 26) (λ is. omega (arith, is)))))

number_is : (n : ℕ) → n < 2 ^ 64 → IsLine (number n)
unfolding number
number_is n small = in_a_row (32 ∷ []) (decimal n) refl (decimal_is n small)

run_is : (job : ℕ) → job < 2 ^ 64 → IsLine (run_line job)
run_is job small = in_a_row (codes "run -- /bin/job") (number job) refl (number_is job small)

-- ---- no line quits

abbrev first_byte : List ℕ → ℕ
first_byte [] = 0
first_byte (b ∷ bs) = b

is_quitting : (asked : Result Line LineError) → is_quit asked ≡ true → asked ≡ Ok lines.Quit
is_quitting (Err refusal) is = absurd (cc (is))
is_quitting (Ok lines.Empty) is = absurd (cc (is))
is_quitting (Ok (lines.Put word text)) is = absurd (cc (is))
is_quitting (Ok (lines.Make word)) is = absurd (cc (is))
is_quitting (Ok (lines.Remove word)) is = absurd (cc (is))
is_quitting (Ok (lines.Move from to)) is = absurd (cc (is))
is_quitting (Ok (lines.Cat word)) is = absurd (cc (is))
is_quitting (Ok (lines.List word)) is = absurd (cc (is))
is_quitting (Ok (lines.Enter word)) is = absurd (cc (is))
is_quitting (Ok (lines.Run words)) is = absurd (cc (is))
is_quitting (Ok lines.Status) is = absurd (cc (is))
is_quitting (Ok lines.Sync) is = absurd (cc (is))
is_quitting (Ok lines.Pull) is = absurd (cc (is))
is_quitting (Ok lines.Quit) is = refl

no_quit_by : (line : List ℕ) (b : Bool) → quits line ≡ b → (first_byte line ≡ 113 → ⊥) → (first_byte line ≡ 39 → ⊥) → quits line ≡ false
no_quit_by line false is bare quoted = is
no_quit_by line true is bare quoted =
    absurd (⊎_elim (λ (same : line ≡ codes "quit"). bare (ap first_byte same)) (λ (same : line ≡ codes "'quit'"). quoted (ap first_byte same))
    (quits_are line (is_quitting (read_line line) is)))

no_quit : (line : List ℕ) → (first_byte line ≡ 113 → ⊥) → (first_byte line ≡ 39 → ⊥) → quits line ≡ false
no_quit line bare quoted = no_quit_by line (quits line) refl bare quoted

-- ---- the lines of a drill

-- one line, that does not quit
abbrev IsFine : List ℕ → Type 0
IsFine line = (is_one_line line ≡ true) × (quits line ≡ false)

fine : (line : List ℕ) → IsLine line → (first_byte line ≡ 113 → ⊥) → (first_byte line ≡ 39 → ⊥) → IsFine line
fine line is bare quoted = (ap not is, no_quit line bare quoted)

put_fine : (x : ℕ) → IsFine (put_line x)
put_fine x = fine (put_line x) (put_is x) (λ is. omega (arith, is)) (λ is. omega (arith, is))

run_fine : (job : ℕ) → job < 2 ^ 64 → IsFine (run_line job)
run_fine job small = fine (run_line job) (run_is job small) (λ is. omega (arith, is)) (λ is. omega (arith, is))

sync_fine : IsFine (codes "sync")
sync_fine = fine (codes "sync") refl (λ is. omega (arith, is)) (λ is. omega (arith, is))

step_fine : (x jobs : ℕ) → jobs < 2 ^ 64 → IsFine (step_line x jobs)
step_fine x jobs small = by (is_job x)
  where
    by : (b : Bool) → IsFine (if b then run_line jobs else put_line x)
    by true = run_fine jobs small
    by false = put_fine x

behind_fine : (i : ℕ) → AllByRecursion IsFine (sync_behind i)
behind_fine i = by (i % 10 == 0)
  where
    by : (b : Bool) → AllByRecursion IsFine (if b then codes "sync" ∷ [] else [])
    by true = (sync_fine, tt)
    by false = tt

fine_append : (xs ys : List (List ℕ)) → AllByRecursion IsFine xs → AllByRecursion IsFine ys → AllByRecursion IsFine (xs ++ ys)
fine_append [] ys all more = more
fine_append (x ∷ xs) ys all more = (all.0, fine_append xs ys all.1 more)

fine_before : (x : List ℕ) (xs : List (List ℕ)) → IsFine x → AllByRecursion IsFine xs → AllByRecursion IsFine (x ∷ xs)
fine_before x xs one all = (one, all)

-- no more of the first steps run a job than there are
pub few_jobs : (seed i : ℕ) → jobs_upto seed i ≤ i
few_jobs seed zero = omega arith
few_jobs seed (suc i) = by (is_job (number_at seed (suc i))) (few_jobs seed i)
  where
    by : (b : Bool) → jobs_upto seed i ≤ i → jobs_upto seed i + (if b then 1 else 0) ≤ suc i
    by true few = omega (arith, few)
    by false few = omega (arith, few)

upto_fine : (seed i : ℕ) → i ≤ max_steps → AllByRecursion IsFine (lines_upto seed i)
upto_fine seed zero low = tt
upto_fine seed (suc i) low =
    fine_append (lines_upto seed i) (lines_of_step seed (suc i)) (upto_fine seed i (omega (arith, low)))
    (step_fine (number_at seed (suc i)) (jobs_upto seed (suc i)) (omega (arith, few_jobs seed (suc i), low)), behind_fine (suc i))

all_fine : (seed count : ℕ) → count ≤ max_steps → AllByRecursion IsFine (drill_lines seed count)
all_fine seed count low =
    let rest : List (List ℕ) = lines_upto seed count ++ codes "sync" ∷ [] in
    fine_before (codes "mkdir d") (codes "mkdir e" ∷ codes "cd e" ∷ rest) (fine (codes "mkdir d") refl (λ is. omega (arith, is)) (λ is. omega (arith, is)))
    (fine_before (codes "mkdir e") (codes "cd e" ∷ rest) (fine (codes "mkdir e") refl (λ is. omega (arith, is)) (λ is. omega (arith, is)))
    (fine_before (codes "cd e") rest (fine (codes "cd e") refl (λ is. omega (arith, is)) (λ is. omega (arith, is)))
    (fine_append (lines_upto seed count) (codes "sync" ∷ []) (upto_fine seed count low) (sync_fine, tt))))

fine_lines : (xs : List (List ℕ)) → AllByRecursion IsFine xs → list_all is_one_line xs ≡ true
fine_lines [] all = refl
fine_lines (x ∷ xs) all = and_holds (is_one_line x) (list_all is_one_line xs) all.0.0 (fine_lines xs all.1)

fine_quits : (xs : List (List ℕ)) → AllByRecursion IsFine xs → has_quit xs ≡ false
fine_quits [] all = refl
fine_quits (x ∷ xs) all = ap (λ (b : Bool). b || has_quit xs) all.0.1 ∙ fine_quits xs all.1

-- ---- the input of a drill

no_quit_in : (xs ys : List (List ℕ)) (b : Bool) → has_quit xs ≡ b → has_quit (xs ++ ys) ≡ false → has_quit xs ≡ false
no_quit_in xs ys false is none = is
no_quit_in xs ys true is none = absurd (true≢false (sym (quit_in_front xs ys is) ∙ none))

module _ (seed count : ℕ) (low : count ≤ max_steps) where
  abbrev all_lines_of : List (List ℕ)
  all_lines_of = drill_lines seed count

  one_each : list_all is_one_line all_lines_of ≡ true
  one_each = fine_lines all_lines_of (all_fine seed count low)

  none_quits : has_quit all_lines_of ≡ false
  none_quits = fine_quits all_lines_of (all_fine seed count low)

  -- none quits in a front of the input
  front_quits : (front rest : List ℕ) → script seed count ≡ front ++ rest → has_quit (whole_lines front) ≡ false
  front_quits front rest cut =
      no_quit_in (whole_lines front) (cut_lines (unfinished front ++ rest)) (has_quit (whole_lines front)) refl
      (ap has_quit (sym (pieces_are_cut_alike front rest) ∙ ap cut_lines (sym cut) ∙ ended_parts all_lines_of one_each)
      ∙ no_quit_then all_lines_of ([] ∷ []) none_quits refl)

  whole_is : lines_of (script seed count) ≡ all_lines_of
  whole_is = ended_lines_are_found all_lines_of one_each

  ends_read : (end : InputEnd) (input left : List ℕ) → script seed count ≡ input ++ left → Read ≡ ended_input (has_quit (lines_at end input)) end → end ≡ Read
  ends_read Read input left cut is = refl
  ends_read Failed input left cut is = sym (is ∙ ap (λ (b : Bool). ended_input b Failed) (front_quits input left cut))
  ends_read TooLong input left cut is =
      sym (is ∙ ap (λ (b : Bool). ended_input b TooLong)
      (front_quits (take max_input input) (drop max_input input ++ left)
      (cut ∙ ap (λ (bytes : List ℕ). bytes ++ left) (sym (take-append-drop max_input input)) ∙ append_assoc (take max_input input) (drop max_input input) left)))

  -- a session over it that comes to its end handles all of its lines
  pub handled : (left : List ℕ) (handled_lines : List (List ℕ)) → HasLines (Some (script seed count)) (Some left) handled_lines Read → handled_lines ≡ all_lines_of
  handled left handled_lines has =
      let is : has.end ≡ Read = ends_read has.end has.input left has.taken has.ended_is in
      let stands : EndsAt (Some left) (length has.input) Read = subst (EndsAt (Some left) (length has.input)) is has.stands in
      let whole : script seed count ≡ has.input = has.taken ∙ ap (λ (rest : List ℕ). has.input ++ rest) stands.0 ∙ append-nil has.input in
      has.lines_are ∙ ap (λ (end : InputEnd). up_to_quit (lines_at end has.input)) is ∙ ap (λ (bytes : List ℕ). up_to_quit (lines_of bytes)) (sym whole)
      ∙ ap up_to_quit whole_is ∙ all_lines all_lines_of none_quits

  -- the last of them is a sync
  abbrev pub front : List (Result Line LineError)
  front = asked_for (codes "mkdir d" ∷ codes "mkdir e" ∷ codes "cd e" ∷ lines_upto seed count)

  pub ends_in_sync : asked_for all_lines_of ≡ front ++ Ok lines.Sync ∷ []
  ends_in_sync = map-append read_line (codes "mkdir d" ∷ codes "mkdir e" ∷ codes "cd e" ∷ lines_upto seed count) (codes "sync" ∷ [])
