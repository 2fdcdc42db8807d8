-- What is captured has a spelling.
use Rattle.std.proofs.Common.{◌≡◌, ℕ, zero, suc, ◌+◌, ◌≤◌, Bool, true, false, ◌&&◌, ◌||◌, not, ◌==◌, List, [], ◌∷◌}
use Rattle.std.proofs.Common.{◌++◌, length, take, drop, Option, Some, None, is_some, option_map, Result, Ok, Err, cond, refl, sym}
use Rattle.std.proofs.Common.{ap, ◌∙◌, subst, true≢false, arith, length-take}
use Rattle.std.specs.Prelude.{IfOk, nat_lt, nat_le, position, slice_index_or, unwrap_or}
use Rattle.std.specs.List.{list_all, filter_map, cons_option, fold, AllByRecursion, IsDistinct}
use Rattle.std.specs.Option.{option_and_then}
use Rattle.std.specs.Str.{bytes_eq}
use Rattle.std.specs.Cmp.{first_so, second_so}
use Rattle.std.proofs.lemmas.Bool.{le-leb}
use Rattle.std.proofs.lemmas.Bool.Decides.{nat_tests}
use Rattle.byte_fields.specs.Numbers.{as_u64}
use Rattle.byte_fields.proofs.Facts.{not_lt_of, not_false_of, or_false_of, none_mapped}
use Rattle.file_paths.specs.Refusals.{when, unless_refused}
use Rattle.file_paths.specs.Path.{FilePath, IsPath, path_of, resolved, text_before}
use Rattle.file_paths.specs.declared.path.PathError.{PathError}
use Rattle.file_paths.proofs.PathTexts.{path_of_text}
use Rattle.file_paths.proofs.Loops.{position_step}
use Rattle.file_paths.proofs.Refusals.{none_refused, value_unrefused, not_when}
use Rattle.cmd_capture.specs.Limits.{max_command}
use Rattle.cmd_capture.specs.declared.command.Command.{Command}
use Rattle.cmd_capture.specs.declared.capturing.CaptureError.{CaptureError}
use Rattle.cmd_capture.specs.declared.capturing.CaptureError.TheVariants.{NoProgram, BadOption, BadInput, BadEnv, BadTemplate}
use Rattle.cmd_capture.specs.declared.capturing.CaptureError.TheVariants.{NotAbsolute, ZeroByte, CommandTooLong}
use Rattle.cmd_capture.specs.Environment.{has_key, set_pair}
use Rattle.cmd_capture.specs.Rules.{is_text_byte, is_text, is_absolute, is_key, is_template, IsVariable}
use Rattle.cmd_capture.specs.Rules.{AreVariables}
use Rattle.cmd_capture.specs.Spelling.{command, IsCommand}
use Rattle.cmd_capture.specs.Capture.{options, program_words, program, in_mark, env_mark, tmp_mark, behind, holds_behind, is_unknown}
use Rattle.cmd_capture.specs.Capture.{is_bad_path, is_bad_assignment, is_bad_template, has_zero, assignment, variable_of, set_variable}
use Rattle.cmd_capture.specs.Capture.{ok, input_of, captured, refusal_at, text_refusals, capture_refusals, capture}
use Rattle.cmd_capture.proofs.Pairs.{new_key_is_last}
use Rattle.cmd_capture.proofs.Codec.{keys, one_more_key}

-- ---- lists that pass a test

pub none_passes : {X : Type 0} (p : X → Bool) (xs : List X) → position p xs ≡ None → AllByRecursion (λ x. p x ≡ false) xs
none_passes p [] e = tt
none_passes p (x ∷ xs) e = by (p x) refl (position p xs) refl (sym (position_step p x xs) ∙ e) (none_passes p xs)
  where
    by : (b : Bool) → p x ≡ b → (o : Option ℕ) → position p xs ≡ o
        → cond (p x) (Some 0) (option_map suc (position p xs)) ≡ None
        → (position p xs ≡ None → AllByRecursion (λ x. p x ≡ false) xs)
        → (p x ≡ false) × AllByRecursion (λ x. p x ≡ false) xs
    by true eb o eo h more =
        let some : cond (p x) (Some 0) (option_map suc (position p xs)) ≡ Some 0 = rw eb refl in absurd
        (true≢false (ap is_some (sym some ∙ h)))
    by false eb None eo h more = (eb, more eo)
    by false eb (Some n) eo h more =
        let some : cond (p x) (Some 0) (option_map suc (position p xs)) ≡ Some (suc n) = rw (eb, eo) refl in absurd
        (true≢false (ap is_some (sym some ∙ h)))

-- the items before the first that passes do not
before_first : {X : Type 0} (p : X → Bool) (xs : List X) (at : ℕ) → position p xs ≡ Some at → list_all (λ x. not (p x)) (take at xs) ≡ true
before_first p [] at e = absurd cc
before_first p (x ∷ xs) at e = by (p x) refl (position p xs) refl (sym (position_step p x xs) ∙ e) (before_first p xs)
  where
    by : (b : Bool) → p x ≡ b → (o : Option ℕ) → position p xs ≡ o
        → cond (p x) (Some 0) (option_map suc (position p xs)) ≡ Some at
        → ((n : ℕ) → position p xs ≡ Some n → list_all (λ x. not (p x)) (take n xs) ≡ true)
        → list_all (λ x. not (p x)) (take at (x ∷ xs)) ≡ true
    by true eb o eo h more =
        let first : cond (p x) (Some 0) (option_map suc (position p xs)) ≡ Some 0 = rw eb refl in
        let zero_is : 0 ≡ at = cc in
        subst (λ n. list_all (λ x. not (p x)) (take n (x ∷ xs)) ≡ true) zero_is refl
    by false eb None eo h more =
        let none : cond (p x) (Some 0) (option_map suc (position p xs)) ≡ None = rw (eb, eo) refl in absurd
        (true≢false (ap is_some (sym h ∙ none)))
    by false eb (Some n) eo h more =
        let later : cond (p x) (Some 0) (option_map suc (position p xs)) ≡ Some (suc n) = rw (eb, eo) refl in
        let suc_is : suc n ≡ at = cc in
        subst (λ k. list_all (λ x. not (p x)) (take k (x ∷ xs)) ≡ true) suc_is (rw eb (more n eo))

module _ {X : Type 0} (f : X → Bool) where
  all_take : (n : ℕ) (xs : List X) → list_all f xs ≡ true → list_all f (take n xs) ≡ true
  all_take zero xs all = refl
  all_take (suc n) [] all = refl
  all_take (suc n) (x ∷ xs) all = rw (first_so (f x) _ all, all_take n xs (second_so (f x) _ all)) refl

  all_drop : (n : ℕ) (xs : List X) → list_all f xs ≡ true → list_all f (drop n xs) ≡ true
  all_drop zero xs all = all
  all_drop (suc n) [] all = refl
  all_drop (suc n) (x ∷ xs) all = all_drop n xs (second_so (f x) _ all)

  all_both : (g : X → Bool) (xs : List X) → list_all f xs ≡ true → list_all g xs ≡ true → list_all (λ x. f x && g x) xs ≡ true
  all_both g [] all too = refl
  all_both g (x ∷ xs) all too =
      rw (first_so (f x) _ all, first_so (g x) _ too, all_both g xs (second_so (f x) _ all) (second_so (g x) _ too)) refl

-- what holds of what is found in each item holds of all that is found
all_found : {X Y : Type 0} (P : Y → Type 0) (Q : X → Type 0) (h : X → Option Y)
    → ((x : X) (y : Y) → Q x → h x ≡ Some y → P y) → (xs : List X) → AllByRecursion Q xs
    → AllByRecursion P (filter_map h xs)
all_found P Q h each [] all = tt
all_found {Y = Y} P Q h each (x ∷ xs) all = by (h x) refl (all_found P Q h each xs all.1)
  where
    by : (o : Option Y) → h x ≡ o → AllByRecursion P (filter_map h xs) → AllByRecursion P (cons_option o (filter_map h xs))
    by None e more = more
    by (Some y) e more = (each x y all.0 e, more)

all_any : {X : Type 0} (xs : List X) → AllByRecursion (λ x. Unit {0}) xs
all_any [] = tt
all_any (x ∷ xs) = (tt, all_any xs)

-- ---- variables

assigned : (text : List ℕ) (pair : List ℕ × List ℕ) → is_bad_assignment text ≡ false → assignment text ≡ Some pair → IsVariable pair
assigned text pair good h = by (position (λ b. b == 61) text) refl good h
  where
    longer : (t : List ℕ) (at : ℕ) → position (λ b. b == 61) t ≡ Some at → nat_lt at 1 ≡ false → nat_le 1 (length (take at t)) ≡ true
    longer [] at e far = absurd cc
    longer (b ∷ bs) at e far = le-leb 1 (length (take at (b ∷ bs))) (omega (arith, length-take at (b ∷ bs), high at far))
      where
        high : (n : ℕ) → nat_lt n 1 ≡ false → 1 ≤ n
        high n e = grind (arith, nat_tests)

    by : (o : Option ℕ) → position (λ b. b == 61) text ≡ o
        → (not (is_text text) || nat_lt (unwrap_or o 0) 1) ≡ false
        → option_map (λ at. (take at text, drop (at + 1) text)) o ≡ Some pair → IsVariable pair
    by None e good h = absurd cc
    by (Some at) e good h =
        let parts = or_false_of (not (is_text text)) (nat_lt at 1) good in
        let all = not_false_of (is_text text) parts.0 in
        let key : is_key (take at text) ≡ true =
        rw (longer text at e parts.1)
        (all_both is_text_byte (λ b. not (b == 61)) (take at text) (all_take is_text_byte at text all)
        (before_first (λ b. b == 61) text at e)) in
        let made : (take at text, drop (at + 1) text) ≡ pair = cc in
        subst IsVariable made (key, all_drop is_text_byte (at + 1) text all)

variable_fits : (word : List ℕ) (pair : List ℕ × List ℕ) → holds_behind env_mark is_bad_assignment word ≡ false
    → variable_of word ≡ Some pair → IsVariable pair
variable_fits word pair good h = by (behind env_mark word) good h
  where
    by : (o : Option (List ℕ)) → unwrap_or (option_map is_bad_assignment o) false ≡ false
        → option_and_then assignment o ≡ Some pair → IsVariable pair
    by None good h = absurd cc
    by (Some text) good h = assigned text pair good h

set_each : (pairs : List (List ℕ × List ℕ)) (key value : List ℕ) → AllByRecursion IsVariable pairs
    → IsVariable (key, value) → AllByRecursion IsVariable (set_pair pairs key value)
set_each [] key value each is = (is, tt)
set_each (p ∷ pairs) key value each is = by (bytes_eq key p.0) (set_each pairs key value each.1 is)
  where
    by : (b : Bool) → AllByRecursion IsVariable (set_pair pairs key value)
        → AllByRecursion IsVariable (cond b ((p.0, value) ∷ pairs) (p ∷ set_pair pairs key value))
    by true more = ((each.0.0, is.1), each.1)
    by false more = (each.0, more)

same_keys : (pairs : List (List ℕ × List ℕ)) (key value : List ℕ) → has_key pairs key ≡ true → keys (set_pair pairs key value) ≡ keys pairs
same_keys [] key value has = absurd (true≢false (sym has))
same_keys (p ∷ pairs) key value has = by (bytes_eq key p.0) has (same_keys pairs key value)
  where
    by : (b : Bool) → (b || has_key pairs key) ≡ true
        → (has_key pairs key ≡ true → keys (set_pair pairs key value) ≡ keys pairs)
        → keys (cond b ((p.0, value) ∷ pairs) (p ∷ set_pair pairs key value)) ≡ keys (p ∷ pairs)
    by true has more = refl
    by false has more = ap (λ ks. p.0 ∷ ks) (more has)

set_keeps : (pairs : List (List ℕ × List ℕ)) (pair : List ℕ × List ℕ) → AreVariables pairs → IsVariable pair
    → AreVariables (set_variable pairs pair)
set_keeps pairs pair are is = record { each = set_each pairs pair.0 pair.1 are.each is; distinct = by (has_key pairs pair.0) refl }
  where
    by : (b : Bool) → has_key pairs pair.0 ≡ b → IsDistinct bytes_eq (keys (set_pair pairs pair.0 pair.1))
    by true e = subst (IsDistinct bytes_eq) (sym (same_keys pairs pair.0 pair.1 e)) are.distinct
    by false e =
        subst (λ ps. IsDistinct bytes_eq (keys ps)) (sym (new_key_is_last pairs pair.0 pair.1 e)) (one_more_key pairs pair are.distinct e)

all_set : (pairs more : List (List ℕ × List ℕ)) → AreVariables pairs → AllByRecursion IsVariable more
    → AreVariables (fold set_variable pairs more)
all_set pairs [] are all = are
all_set pairs (p ∷ more) are all = all_set (set_variable pairs p) more (set_keeps pairs p are all.0) all.1

no_variables : AreVariables []
unfolding IsDistinct
no_variables = record { each = tt; distinct = tt }

-- ---- inputs and templates

resolved_is_path : (cwd : FilePath) (text : List ℕ) (p : FilePath) → IsPath cwd → resolved cwd text ≡ Ok p → IsPath p
resolved_is_path cwd [] p is e = let same : cwd ≡ p = cc in subst IsPath same is
resolved_is_path cwd (b ∷ bs) p is e = by (b == 47) e
  where
    by : (c : Bool) → cond c (path_of bs) (path_of (text_before cwd (b ∷ bs))) ≡ Ok p → IsPath p
    by true e = (path_of_text bs p e).0
    by false e = (path_of_text (text_before cwd (b ∷ bs)) p e).0

input_fits : (cwd : FilePath) → IsPath cwd → (word : List ℕ) (p : FilePath) → Unit {0} → input_of cwd word ≡ Some p → IsPath p
input_fits cwd is word p any h = by (behind in_mark word) h
  where
    done : (text : List ℕ) (r : Result FilePath PathError) → resolved cwd text ≡ r → ok r ≡ Some p → IsPath p
    done text (Ok q) e h = let same : q ≡ p = cc in subst IsPath same (resolved_is_path cwd text q is e)
    done text (Err refusal) e h = absurd cc

    by : (o : Option (List ℕ)) → option_and_then (λ text. ok (resolved cwd text)) o ≡ Some p → IsPath p
    by None h = absurd cc
    by (Some text) h = done text (resolved cwd text) refl h

template_fits : (word t : List ℕ) → holds_behind tmp_mark is_bad_template word ≡ false
    → behind tmp_mark word ≡ Some t → is_template t ≡ true
template_fits word t good h = by (behind tmp_mark word) good h
  where
    by : (o : Option (List ℕ)) → unwrap_or (option_map is_bad_template o) false ≡ false → o ≡ Some t → is_template t ≡ true
    by None good h = absurd cc
    by (Some text) good h = let same : text ≡ t = cc in subst (λ u. is_template u ≡ true) same (not_false_of (is_template text) good)

-- ---- the command

not_at : (refusal : ℕ → CaptureError) (o : Option ℕ) → refusal_at refusal o ≡ None → o ≡ None
not_at refusal None h = refl
not_at refusal (Some i) h = absurd cc

texts : (words : List (List ℕ)) → AllByRecursion (λ w. has_zero w ≡ false) words → AllByRecursion (λ w. is_text w ≡ true) words
texts [] all = tt
texts (w ∷ words) all = (not_false_of (is_text w) all.0, texts words all.1)

first_text : (words : List (List ℕ)) → nat_lt (length words) 1 ≡ false
    → AllByRecursion (λ w. is_text w ≡ true) words → is_text (slice_index_or words 0 []) ≡ true
first_text [] some all = refl
first_text (w ∷ words) some all = all.0

other_texts : (words : List (List ℕ)) → AllByRecursion (λ w. is_text w ≡ true) words → AllByRecursion (λ w. is_text w ≡ true) (drop 1 words)
other_texts [] all = tt
other_texts (w ∷ words) all = all.1

pub captured_fits : (words : List (List ℕ)) (cwd : FilePath) (c : Command) → IsPath cwd → capture words cwd ≡ Ok c → IsCommand c
captured_fits words cwd c is h =
    let n = none_refused (capture_refusals words cwd) (captured words cwd) c h in
    let some = not_when (nat_lt (length (program_words words)) 1) NoProgram n.0 in
    let env = none_passes (holds_behind env_mark is_bad_assignment) (options words) (not_at BadEnv _ n.1.1.1.0) in
    let templates = none_passes (holds_behind tmp_mark is_bad_template) (options words) (not_at BadTemplate _ n.1.1.1.1.0) in
    let absolute = not_false_of (is_absolute (program words)) (not_when (not (is_absolute (program words))) NotAbsolute n.1.1.1.1.1.0) in
    let all =
    texts (program_words words)
    (none_passes has_zero (program_words words)
    (none_mapped (λ i. length (options words) + 1 + i) _ (not_at ZeroByte _ n.1.1.1.1.1.1.0))) in
    let short =
    not_lt_of max_command (length (command (captured words cwd)))
    (not_when (nat_lt max_command (length (command (captured words cwd))))
    (CommandTooLong (as_u64 (length (command (captured words cwd))))) n.1.1.1.1.1.1.1.0) in
    let fits : IsCommand (captured words cwd) = record {
      parts = record {
        program = rw (first_text (program_words words) some all, absolute) refl;
        args = other_texts (program_words words) all;
        cwd = is;
        env =
            all_set [] (filter_map variable_of (options words)) no_variables
            (all_found IsVariable (λ w. holds_behind env_mark is_bad_assignment w ≡ false) variable_of
            (λ w pair good h. variable_fits w pair good h) (options words) env);
        inputs = all_found IsPath (λ w. Unit {0}) (input_of cwd) (input_fits cwd is) (options words) (all_any (options words));
        templates =
            all_found (λ t. is_template t ≡ true) (λ w. holds_behind tmp_mark is_bad_template w ≡ false) (behind tmp_mark)
            (λ w t good h. template_fits w t good h) (options words) templates;
      };
      short = short;
    } in
    subst IsCommand (sym (value_unrefused (capture_refusals words cwd) (captured words cwd) c h)) fits

pub spelled_ok : (words : List (List ℕ)) (cwd : FilePath) (r : Result Command CaptureError) → IsPath cwd
    → IfOk r (λ c. capture words cwd ≡ Ok c) → IfOk r IsCommand
spelled_ok words cwd (Ok c) is h = captured_fits words cwd c is h
spelled_ok words cwd (Err e) is h = tt

-- ---- refusals of a text

-- what is refused is refused whatever stands behind it in the list
refused_first : {T U E : Type 0} (first more : List (Option E)) (u : U) (value : T) (e : E)
    → unless_refused first u ≡ Err e → unless_refused (first ++ more) value ≡ Err e
refused_first [] more u value e h = absurd cc
refused_first (None ∷ rest) more u value e h = refused_first rest more u value e h
refused_first (Some x ∷ rest) more u value e h = let same : x ≡ e = cc in ap (λ y. Err y) same

three_pass : {T E : Type 0} (a b c : Option E) (rest : List (Option E)) (value : T) → a ≡ None → b ≡ None → c ≡ None
    → unless_refused (a ∷ b ∷ c ∷ rest) value ≡ unless_refused rest value
three_pass a b c rest value ea eb ec = rw (ea, eb, ec) refl

-- words with a program and with good options and paths are refused for their texts
pub text_refused : (words : List (List ℕ)) (cwd : FilePath) (opts texts : List (List ℕ)) (first : List ℕ) (others : List (List ℕ))
    (refusal : CaptureError)
    → opts ≡ options words → texts ≡ program_words words → texts ≡ first ∷ others
    → position is_unknown opts ≡ None → position (holds_behind in_mark (is_bad_path cwd)) opts ≡ None
    → Err refusal ≡ unless_refused {T = Unit {0}} (text_refusals opts texts) tt → capture words cwd ≡ Err refusal
text_refused words cwd opts texts first others refusal is_opts is_texts split known good refused =
    let long : 1 ≤ length (program_words words) = omega (arith, ap length is_texts, ap length split) in
    let some : nat_lt (length (program_words words)) 1 ≡ false = grind (arith, nat_tests) in
    let there : unless_refused {T = Unit {0}} (text_refusals (options words) (program_words words)) tt ≡ Err refusal =
    sym
    (refused ∙ ap (λ (o : List (List ℕ)). unless_refused {T = Unit {0}} (text_refusals o texts) tt) is_opts
    ∙ ap (λ (t : List (List ℕ)). unless_refused {T = Unit {0}} (text_refusals (options words) t) tt) is_texts) in
    let too_long : List (Option CaptureError) =
    when (nat_lt max_command (length (command (captured words cwd))))
    (CommandTooLong (as_u64 (length (command (captured words cwd))))) ∷ [] in
    three_pass (when (nat_lt (length (program_words words)) 1) NoProgram) (refusal_at BadOption (position is_unknown (options words)))
    (refusal_at BadInput (position (holds_behind in_mark (is_bad_path cwd)) (options words)))
    (text_refusals (options words) (program_words words) ++ too_long) (captured words cwd) (ap (λ b. when b NoProgram) some) (ap
    (refusal_at BadOption) (ap (position is_unknown) (sym is_opts) ∙ known))
    (ap (refusal_at BadInput) (ap (position (holds_behind in_mark (is_bad_path cwd))) (sym is_opts) ∙ good))
    ∙ refused_first {U = Unit {0}} (text_refusals (options words) (program_words words)) too_long tt (captured words cwd) refusal there
