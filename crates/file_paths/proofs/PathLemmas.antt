-- The pieces of a text, from the place of its first `/`, and when they are a path.
use Rattle.std.proofs.Common.{◌≡◌, ℕ, ◌+◌, ◌<◌, ◌≤◌, ◌==◌, List, [], ◌∷◌, ◌++◌, length, take, drop, Bool, true, not, Some, None, arith, sym, ap, ◌∙◌, append_assoc, refl, zero, suc, append-nil, ◌-◌, length-append}
use Rattle.std.proofs.lemmas.List.{length-take, take_all}
use Rattle.std.proofs.lemmas.List.Sums.{sum_by-append}
use Rattle.std.specs.List.{position, flat_map, position_or_len, slice_split, list_all}
use Rattle.std.proofs.lemmas.Bool.Decides.{nat_tests}
use Rattle.std.proofs.lemmas.List.Splits.{slice_split_first, slice_split_none, join_with_byte-slice_split}
use Rattle.std.proofs.lemmas.List.Sums.{fails_before_first, list_all-from_AllPass}
use Rattle.std.specs.Cmp.{first_so, second_so}
use Rattle.std.specs.Cmp.Derive.{both_true}
use Rattle.byte_fields.proofs.Facts.{not_false_of}
use Rattle.file_paths.specs.Inside.{joined_size}
use Rattle.file_paths.specs.Path.{IsPath, is_name, path_text}

-- where an element passes, the first part ends there
pub split_at_position : {X : Type 0} (p : X → Bool) (xs : List X) (d : X) (i : ℕ) → position p xs ≡ Some i → slice_split p xs ≡ take i xs ∷ slice_split p (drop (i + 1) xs)
split_at_position p xs d i h = grind (arith, nat_tests, slice_split_first p xs d)

-- where none passes, every place is before the first
before_none : {X : Type 0} (p : X → Bool) (xs : List X) (k : ℕ) → position p xs ≡ None → k < length xs → k < position_or_len p xs
before_none p xs k h l = grind (arith, nat_tests)

-- where none passes, the list is the one part
pub split_at_no_position : {X : Type 0} (p : X → Bool) (xs : List X) → position p xs ≡ None → slice_split p xs ≡ xs ∷ []
split_at_no_position p xs h = slice_split_none p xs (λ k d l. fails_before_first p xs k d (before_none p xs k h l))

-- one more piece of the text
pub one_more_piece : (text : List ℕ) (front : List (List ℕ)) (rest : List ℕ) (i : ℕ) → front ++ slice_split (λ b. b == 47) rest ≡ slice_split (λ b. b == 47) text → position (λ b. b == 47) rest ≡ Some i → (front ++ take i rest ∷ []) ++ slice_split (λ b. b == 47) (drop (i + 1) rest) ≡ slice_split (λ b. b == 47) text
one_more_piece text front rest i so_far h =
    append_assoc front (take i rest ∷ []) _ ∙ ap (λ more. front ++ more) (sym (split_at_position (λ b. b == 47) rest 0 i h)) ∙ so_far

-- the last piece
pub last_piece : (text : List ℕ) (front : List (List ℕ)) (rest : List ℕ) → front ++ slice_split (λ b. b == 47) rest ≡ slice_split (λ b. b == 47) text → position (λ b. b == 47) rest ≡ None → front ++ rest ∷ [] ≡ slice_split (λ b. b == 47) text
last_piece text front rest so_far h =
    ap (λ more. front ++ more) (sym (split_at_no_position (λ b. b == 47) rest h)) ∙ so_far

-- pieces of which none is no name are names
pub all_named : (all : List (List ℕ)) → position (λ piece. not (is_name piece)) all ≡ None → list_all is_name all ≡ true
all_named all h =
    list_all-from_AllPass is_name all (λ k d l. not_false_of _ (fails_before_first (λ piece. not (is_name piece)) all k d (before_none (λ piece. not (is_name piece)) all k h l)))

-- the pieces of a text that is refused by no rule are a path
pub pieces_are_path : (text : List ℕ) (all : List (List ℕ)) → all ≡ slice_split (λ b. b == 47) text → position (λ piece. not (is_name piece)) all ≡ None → length all ≤ 32 → length text ≤ 1024 → IsPath all
pieces_are_path text all is none shallow short =
    let whole = join_with_byte-slice_split 47 text in
    record { named = all_named all none; shallow = shallow; short = rw (is, whole) short }

-- a text is the first name, and each other name behind a `/`
pub text_of_parts : (first : List ℕ) (rest : List (List ℕ)) → path_text (first ∷ rest) ≡ first ++ flat_map (λ name. 47 ∷ name) rest
text_of_parts first [] = sym (append-nil first)
text_of_parts first (next ∷ rest) = ap (λ text. first ++ 47 ∷ text) (text_of_parts next rest)

-- the bytes once each name but the first is behind it
pub joined_whole : (names : List (List ℕ)) (first : List ℕ) (rest : List (List ℕ)) (i : ℕ) (start out : List ℕ) → names ≡ first ∷ rest → out ≡ (start ++ first) ++ flat_map (λ name. 47 ∷ name) (take i rest) → length rest ≤ i → out ≡ start ++ path_text names
joined_whole names first rest i start out split so_far end =
    rw (split, so_far, take_all i rest end, text_of_parts first rest) (append_assoc start first (flat_map (λ name. 47 ∷ name) rest))

-- no front of a path has a longer text
shorter : (names : List (List ℕ)) (n : ℕ) → length (path_text (take n names)) ≤ length (path_text names)
shorter names zero = omega arith
shorter [] (suc n) = omega arith
shorter (x ∷ []) (suc zero) = omega arith
shorter (x ∷ []) (suc (suc n)) = omega arith
shorter (x ∷ y ∷ rest) (suc zero) = omega (arith, length-append {A = ℕ})
shorter (x ∷ y ∷ rest) (suc (suc n)) =
    omega (arith, shorter (y ∷ rest) (suc n), length-append x (47 ∷ path_text (y ∷ take n rest)), length-append x (47 ∷ path_text (y ∷ rest)))

-- a front of names has names alone
front_named : (names : List (List ℕ)) (n : ℕ) → list_all is_name names ≡ true → list_all is_name (take n names) ≡ true
front_named names zero h = refl
front_named [] (suc n) h = refl
front_named (x ∷ rest) (suc n) h = both_true (first_so _ _ h) (front_named rest n (second_so _ _ h))

-- the front of a path is a path
pub front_is_path : (names : List (List ℕ)) (n : ℕ) → IsPath names → IsPath (take n names)
front_is_path names n h =
    record { named = front_named names n h.named; shallow = omega (arith, length-take n names, h.shallow); short = omega (arith, shorter names n, h.short) }

-- the length of the text, name by name
text_size : (first : List ℕ) (rest : List (List ℕ)) → 1 + length (path_text (first ∷ rest)) ≡ joined_size (first ∷ rest)
text_size first [] = omega arith
text_size first (next ∷ rest) =
    let front : length (path_text (first ∷ next ∷ rest)) ≡ length first + length (47 ∷ path_text (next ∷ rest)) = length-append first (47 ∷ path_text (next ∷ rest)) in
    let more = text_size next rest in
    let sizes : joined_size (first ∷ next ∷ rest) ≡ joined_size (first ∷ []) + joined_size (next ∷ rest) = sum_by-append (λ name. 1 + length name) (first ∷ []) (next ∷ rest) in
    omega (arith, front, more, sizes)

pub text_length : (names : List (List ℕ)) → length (path_text names) ≡ joined_size names - 1
text_length [] = refl
text_length (first ∷ rest) = omega (arith, text_size first rest)

pub joined_small : (names : List (List ℕ)) → IsPath names → joined_size names ≤ 1025
joined_small [] path = omega arith
joined_small (first ∷ rest) path = omega (arith, text_size first rest, path.short)
