-- A line that spells words reads as these words.
use Rattle.std.proofs.Common.{◌≡◌, ℕ, ◌+◌, List, [], ◌∷◌, ◌++◌, length, take, Bool, true, false, not, ◌==◌, Option, Some, None, Result}
use Rattle.std.proofs.Common.{Ok, Err, arith, refl, sym, ap, ◌∙◌, append_assoc, append-nil, length-append, eq-eqb}
use Rattle.std.specs.Prelude.{◌&&◌, ◌||◌, if◌then◌else◌, position, is_some}
use Rattle.std.specs.List.{onto_first, list_all, position_or_len}
use Rattle.std.specs.Cmp.{first_so, second_so}
use Rattle.std.proofs.lemmas.List.{take_at}
use Rattle.std.proofs.lemmas.Bool.Decides.{nat_tests}
use Rattle.byte_fields.specs.Numbers.{as_u32}
use Rattle.byte_fields.proofs.Facts.{not_of}
use Rattle.shell_lang.specs.declared.line.LineError.{LineError}
use Rattle.shell_lang.specs.declared.line.LineError.TheVariants.{BadWord}
use Rattle.shell_lang.specs.Words.{pieces_from, word_pieces, is_quote, is_empty, word_of, closed_word, words_from, words_of, ◌>>=◌}
use Rattle.shell_lang.specs.Spelling.{Spelling, is_bare_byte, has_no_quote, can_spell, spelled, spelled_line, words_spelled}
use Rattle.shell_lang.specs.Spelling.{SpelledIsRead, HasOneReading}
use Rattle.shell_lang.proofs.Pieces.{onto_front, onto_front-none}

-- ---- cutting

pub onto_front-cons : (b : ℕ) (front : List ℕ) (all : List (List ℕ)) → onto_first b (onto_front front all) ≡ onto_front (b ∷ front) all
onto_front-cons b front [] = refl
onto_front-cons b front (piece ∷ more) = refl

-- bytes that are neither spaces nor quotes
bare_front : (word rest : List ℕ) → list_all is_bare_byte word ≡ true
    → pieces_from false (word ++ rest) ≡ onto_front word (pieces_from false rest)
bare_front [] rest h = onto_front-none false rest
bare_front (b ∷ bs) rest h =
    let bare = first_so (is_bare_byte b) _ h in
    by (b == 32) (is_quote b) (pieces_from false (bs ++ rest)) (λ inside. pieces_from inside (bs ++ rest))
    (not_of (b == 32) (first_so (not (b == 32)) _ bare)) (not_of (is_quote b) (second_so (not (b == 32)) _ bare))
    ∙ ap (onto_first b) (bare_front bs rest (second_so (is_bare_byte b) _ h))
    ∙ onto_front-cons b bs (pieces_from false rest)
  where
    by : (space quote : Bool) (cut : List (List ℕ)) (f : Bool → List (List ℕ)) → space ≡ false → quote ≡ false
        → (if space && true then [] ∷ cut else onto_first b (f (if quote then true else false))) ≡ onto_first b (f false)
    by space quote cut f no_space no_quote = rw (no_space, no_quote) refl

-- bytes inside quotes
pub quoted_front : (word rest : List ℕ) → has_no_quote word ≡ true
    → pieces_from true (word ++ rest) ≡ onto_front word (pieces_from true rest)
quoted_front [] rest h = onto_front-none true rest
quoted_front (b ∷ bs) rest h =
    by (b == 32) (is_quote b) (pieces_from true (bs ++ rest)) (λ inside. pieces_from inside (bs ++ rest))
    (not_of (is_quote b) (first_so (not (is_quote b)) _ h))
    ∙ ap (onto_first b) (quoted_front bs rest (second_so (not (is_quote b)) _ h))
    ∙ onto_front-cons b bs (pieces_from true rest)
  where
    by : (space quote : Bool) (cut : List (List ℕ)) (f : Bool → List (List ℕ)) → quote ≡ false
        → (if space && false then [] ∷ cut else onto_first b (f (if quote then false else true))) ≡ onto_first b (f true)
    by true quote cut f no_quote = rw no_quote refl
    by false quote cut f no_quote = rw no_quote refl

-- a spelled word, before the end of the line or a space
pub cut_spelled : (s : Spelling) (rest : List ℕ) (more : List (List ℕ)) → can_spell s ≡ true
    → word_pieces rest ≡ [] ∷ more → word_pieces (spelled s ++ rest) ≡ spelled s ∷ more
cut_spelled s rest more can end = by s.quoted s.word can
  where
    by : (quoted : Bool) (word : List ℕ) → can_spell (record { quoted = quoted; word = word }) ≡ true
        → word_pieces (spelled (record { quoted = quoted; word = word }) ++ rest) ≡ spelled (record { quoted = quoted; word = word }) ∷ more
    by false word can =
        bare_front word rest (second_so (not (is_empty word)) _ can) ∙ ap (onto_front word) end
        ∙ ap (λ piece. piece ∷ more) (append-nil word)
    by true word can =
        ap (λ text. onto_first 39 (pieces_from true text)) (append_assoc word (39 ∷ []) rest)
        ∙ ap (onto_first 39) (quoted_front word (39 ∷ rest) can)
        ∙ ap (λ all. onto_first 39 (onto_front word (onto_first 39 all))) end

-- ---- reading

-- no quote in the word
quote_behind : (word rest : List ℕ) → has_no_quote word ≡ true
    → position_or_len is_quote (word ++ rest) ≡ length word + position_or_len is_quote rest
quote_behind [] rest h = omega arith
quote_behind (b ∷ bs) rest h =
    let ih = quote_behind bs rest (second_so (not (is_quote b)) _ h) in
    rw (first_so (not (is_quote b)) _ h) (omega (arith, ih))

no_quote_in_bare : (word : List ℕ) → list_all is_bare_byte word ≡ true → has_no_quote word ≡ true
no_quote_in_bare [] h = refl
no_quote_in_bare (b ∷ bs) h =
    rw (second_so (not (b == 32)) _ (first_so (is_bare_byte b) _ h)) (no_quote_in_bare bs (second_so (is_bare_byte b) _ h))

pub none_has : (word : List ℕ) → has_no_quote word ≡ true → position is_quote word ≡ None
none_has word h =
    let at : position_or_len is_quote word ≡ length word = rw (append-nil word) at (quote_behind word [] h) ∙ omega arith in
    grind (arith, nat_tests)

pub quoted_has : (word rest : List ℕ) → has_no_quote word ≡ true → position is_quote (word ++ 39 ∷ rest) ≡ Some (length word)
quoted_has word rest h =
    let at : position_or_len is_quote (word ++ 39 ∷ rest) ≡ length word = quote_behind word (39 ∷ rest) h ∙ omega arith in
    let len = length-append word (39 ∷ rest) in
    grind (arith, nat_tests)

pub read_spelled : (i : ℕ) (s : Spelling) → can_spell s ≡ true → word_of i (spelled s) ≡ Ok s.word
read_spelled i s can = by s.quoted s.word can
  where
    closed : (n m : ℕ) (found word : List ℕ) → (n == m) ≡ true → found ≡ word
        → (if n == m then Ok found else Err (BadWord (as_u32 i))) ≡ Ok word
    closed n m found word same is = rw (same, is) refl

    open_word : (quote : Bool) (found : Option ℕ) (other : Result (List ℕ) LineError) (word : List ℕ)
        → quote ≡ false → found ≡ None
        → (if quote then other else (if false || is_some found then Err (BadWord (as_u32 i)) else Ok word)) ≡ Ok word
    open_word quote found other word no_quote none = rw (no_quote, none) refl

    by : (quoted : Bool) (word : List ℕ) → can_spell (record { quoted = quoted; word = word }) ≡ true
        → word_of i (spelled (record { quoted = quoted; word = word })) ≡ Ok word
    by true word can =
        ap (closed_word i (word ++ 39 ∷ [])) (quoted_has word [] can)
        ∙ closed (length word + 1) (length (word ++ 39 ∷ [])) (take (length word) (word ++ 39 ∷ [])) word
        (eq-eqb (length word + 1) (length (word ++ 39 ∷ [])) (sym (length-append word (39 ∷ [])))) (take_at word (39 ∷ [])
        (length word) refl)
    by false [] can = absurd (cc)
    by false (b ∷ bs) can =
        let none = none_has (b ∷ bs) (no_quote_in_bare (b ∷ bs) can) in
        let bare = not_of (is_quote b) (second_so (not (b == 32)) _ (first_so (is_bare_byte b) _ can)) in
        open_word (is_quote b) (position is_quote (b ∷ bs)) (closed_word i bs (position is_quote bs)) (b ∷ bs) bare none

-- ---- lines

read_line_from : (i : ℕ) (first : Spelling) (more : List Spelling) → list_all can_spell (first ∷ more) ≡ true
    → words_from i (word_pieces (spelled_line (first ∷ more))) ≡ Ok (words_spelled (first ∷ more))
read_line_from i first [] can =
    let one = first_so (can_spell first) true can in
    ap (λ text. words_from i (word_pieces text)) (sym (append-nil (spelled first)))
    ∙ ap (words_from i) (cut_spelled first [] [] one refl)
    ∙ ap (λ read. read >>= (λ word. Ok (word ∷ []))) (read_spelled i first one)
read_line_from i first (next ∷ more) can =
    let one = first_so (can_spell first) _ can in
    ap (words_from i) (cut_spelled first (32 ∷ spelled_line (next ∷ more)) _ one refl)
    ∙ ap (λ read. read >>= (λ word. words_from (i + 1) (word_pieces (spelled_line (next ∷ more))) >>= (λ words. Ok (word ∷ words))))
    (read_spelled i first one)
    ∙ ap (λ read. read >>= (λ words. Ok (first.word ∷ words))) (read_line_from (i + 1) next more (second_so (can_spell first) _ can))

pub spelled_is_read : SpelledIsRead
spelled_is_read first more can = read_line_from 0 first more can

same_words : (xs ys : List (List ℕ)) (read : Result (List (List ℕ)) LineError) → read ≡ Ok xs → read ≡ Ok ys → xs ≡ ys
same_words xs ys read is also = cc

unread : (first : Spelling) (more : List Spelling) → list_all can_spell (first ∷ more) ≡ true → spelled_line (first ∷ more) ≡ [] → ⊥
unread first more can none =
    let read : Err (BadWord 0) ≡ Ok (words_spelled (first ∷ more)) = ap words_of (sym none)
    ∙ spelled_is_read first more can in absurd (cc read)

pub one_reading : HasOneReading
one_reading [] [] can can' same = refl
one_reading [] (y ∷ ys) can can' same = absurd (unread y ys can' (sym same))
one_reading (x ∷ xs) [] can can' same = absurd (unread x xs can same)
one_reading (x ∷ xs) (y ∷ ys) can can' same =
    same_words (words_spelled (x ∷ xs)) (words_spelled (y ∷ ys)) (words_of (spelled_line (x ∷ xs))) (spelled_is_read x xs can)
    (ap words_of same ∙ spelled_is_read y ys can')
