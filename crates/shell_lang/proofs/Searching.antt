-- The first place of a byte, as a search finds it, and in bytes that follow others.
use Rattle.std.proofs.Common.{◌≡◌, ℕ, suc, ◌+◌, ◌<◌, ◌≤◌, List, [], ◌∷◌, ◌++◌, length, drop, get_or, Bool, true, false, cond, Option, Some, None, option_map}
use Rattle.std.proofs.Common.{arith, refl, sym, ap, ◌∙◌}
use Rattle.std.specs.Prelude.{nat_lt, is_some}
use Rattle.std.specs.List.{position, position_or_len}
use Rattle.std.proofs.lemmas.List.Sums.{position_or_len_is, fails_before_first, passes_at_first}
use Rattle.std.proofs.lemmas.Bool.Decides.{nat_tests}
use Rattle.byte_fields.proofs.Facts.{not_true}
use Rattle.file_paths.proofs.Loops.{position_step}
use Rattle.memchr.specs.Find.{IsFirstByte}
use Rattle.shell_lang.specs.Lines.{is_line_end}

first_at : (p : ℕ → Bool) (text : List ℕ) (i : ℕ) → i < length text → position_or_len p text ≡ i → position p text ≡ Some i
first_at p text i lt at =
    let inside : nat_lt (position_or_len p text) (length text) ≡ true = grind (arith, nat_tests) in rw inside (ap Some at)

none_at_end : (p : ℕ → Bool) (text : List ℕ) → position_or_len p text ≡ length text → position p text ≡ None
none_at_end p text at =
    let outside : nat_lt (position_or_len p text) (length text) ≡ false = grind (arith, nat_tests) in rw outside refl

-- what a search for a byte that passes found is the first place of it
pub found_first : (test p : ℕ → Bool) (text : List ℕ) (found : Option ℕ) → ((b : ℕ) → test b ≡ p b) → IsFirstByte test text found
    → found ≡ position p text
found_first test p text None same nowhere_found =
    sym (none_at_end p text
    (position_or_len_is p text (length text) 0 (omega arith)
    (λ k lt. sym (same (get_or text k 0)) ∙ not_true (test (get_or text k 0)) (nowhere_found k (omega arith) lt))
    (λ lt. absurd (omega (arith, lt)))))
found_first test p text (Some i) same (first, here) =
    sym (first_at p text i first.high
    (position_or_len_is p text i 0 (omega (arith, first.high))
    (λ k lt. sym (same (get_or text k 0)) ∙ not_true (test (get_or text k 0)) (first.before k (omega arith) lt))
    (λ lt. sym (same (get_or text i 0)) ∙ here)))

-- the first of a text stays it, whatever follows
pub first_stays : (p : ℕ → Bool) (text more : List ℕ) (i : ℕ) → position p text ≡ Some i → position p (text ++ more) ≡ Some i
first_stays p [] more i h = absurd (cc)
first_stays p (b ∷ bs) more i h =
    position_step p b (bs ++ more)
    ∙ by (p b) (position p bs) refl (sym (position_step p b bs) ∙ h) (λ k e. first_stays p bs more k e)
  where
    by : (test : Bool) (rest : Option ℕ) → position p bs ≡ rest → cond test (Some 0) (option_map suc (position p bs)) ≡ Some i
        → ((k : ℕ) → position p bs ≡ Some k → position p (bs ++ more) ≡ Some k)
        → cond test (Some 0) (option_map suc (position p (bs ++ more))) ≡ Some i
    by true rest e is stays = is
    by false None e is stays = absurd (cc (e, is))
    by false (Some k) e is stays = ap (option_map suc) (stays k e ∙ sym e) ∙ is

-- where a text has none, the first is that of what follows
pub first_behind : (p : ℕ → Bool) (text more : List ℕ) → position p text ≡ None
    → position p (text ++ more) ≡ option_map (λ i. length text + i) (position p more)
first_behind p [] more h = by (position p more)
  where
    by : (o : Option ℕ) → o ≡ option_map (λ i. 0 + i) o
    by None = refl
    by (Some i) = ap Some (omega arith)
first_behind p (b ∷ bs) more h =
    position_step p b (bs ++ more)
    ∙ by (p b) (position p bs) refl (sym (position_step p b bs) ∙ h) (λ e. first_behind p bs more e)
  where
    shift : (o : Option ℕ) → option_map suc (option_map (λ i. length bs + i) o) ≡ option_map (λ i. length (b ∷ bs) + i) o
    shift None = refl
    shift (Some i) = ap Some (omega arith)

    by : (test : Bool) (rest : Option ℕ) → position p bs ≡ rest → cond test (Some 0) (option_map suc (position p bs)) ≡ None
        → (position p bs ≡ None → position p (bs ++ more) ≡ option_map (λ i. length bs + i) (position p more))
        → cond test (Some 0) (option_map suc (position p (bs ++ more))) ≡ option_map (λ i. length (b ∷ bs) + i) (position p more)
    by true rest e is behind = absurd (cc (is))
    by false (Some k) e is behind = absurd (cc (e, is))
    by false None e is behind = ap (option_map suc) (behind e) ∙ shift (position p more)

-- what stands before the first place does not pass, and what stands there does
pub record IsFirstPlace (p : ℕ → Bool) (text : List ℕ) (i : ℕ) : Type 0 where
  pub inside : i < length text
  pub here : p (get_or text i 0) ≡ true
  pub before : (k : ℕ) → k < i → p (get_or text k 0) ≡ false

pub first_place : (p : ℕ → Bool) (text : List ℕ) (i : ℕ) → position p text ≡ Some i → IsFirstPlace p text i
first_place p text i h =
    let at : position_or_len p text ≡ i = grind (arith, nat_tests) in
    let lt : position_or_len p text < length text = grind (arith, nat_tests) in record {
      inside = omega (arith, at, lt);
      here = ap (λ n. p (get_or text n 0)) (sym at) ∙ passes_at_first p text 0 lt;
      before = λ k below. fails_before_first p text k 0 (omega (arith, at, below));
    }

pub passes_nowhere : (p : ℕ → Bool) (text : List ℕ) (k : ℕ) → position p text ≡ None → k < length text → p (get_or text k 0) ≡ false
passes_nowhere p text k h lt =
    let before : k < position_or_len p text = grind (arith, nat_tests) in fails_before_first p text k 0 before

-- ---- the first line end of a buffer to which a piece is added

pub line_end_added : (start count : ℕ) (old piece new : List ℕ) (end found : Option ℕ) → start ≡ 0 → count ≡ length old
    → new ≡ old ++ piece → end ≡ position is_line_end (drop start old) → is_some end ≡ false
    → found ≡ option_map (λ i. count + i) (position is_line_end piece)
    → (start ≤ length new) × (found ≡ position is_line_end (drop start new))
line_end_added start count old piece new (Some i) found empty all added is none behind = absurd (cc none)
line_end_added start count old piece new None found empty all added is none behind =
    let before : position is_line_end old ≡ None = sym (is ∙ ap (λ n. position is_line_end (drop n old)) empty) in (
      omega (arith, empty),
      behind ∙ ap (λ n. option_map (λ i. n + i) (position is_line_end piece)) all
          ∙ sym (first_behind is_line_end old piece before) ∙ ap (position is_line_end) (sym added)
          ∙ ap (λ n. position is_line_end (drop n new)) (sym empty),
    )

pub line_end_stays : (start : ℕ) (old piece new : List ℕ) (end : Option ℕ) → start ≡ 0 → new ≡ old ++ piece
    → end ≡ position is_line_end (drop start old) → is_some end ≡ true
    → (start ≤ length new) × (end ≡ position is_line_end (drop start new))
line_end_stays start old piece new None empty added is some = absurd (cc some)
line_end_stays start old piece new (Some i) empty added is some =
    let before : position is_line_end old ≡ Some i = sym (is ∙ ap (λ n. position is_line_end (drop n old)) empty) in (
      omega (arith, empty),
      sym (first_stays is_line_end old piece i before) ∙ ap (position is_line_end) (sym added)
          ∙ ap (λ n. position is_line_end (drop n new)) (sym empty),
    )
