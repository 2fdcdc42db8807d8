-- Where a line breaks the rule of words.
use Rattle.std.proofs.Common.{◌≡◌, ◌≢◌, ℕ, ◌+◌, ◌<◌, List, [], ◌∷◌, ◌++◌, length, take, Bool, true, false, not, ◌==◌, Option, Some}
use Rattle.std.proofs.Common.{None, Result, Ok, Err, arith, refl, sym, ap, ◌∙◌, append_assoc, append-nil, length-append}
use Rattle.std.specs.Prelude.{◌&&◌, ◌||◌, if◌then◌else◌, position, is_some}
use Rattle.std.specs.List.{onto_first, list_all, position_or_len}
use Rattle.std.specs.Cmp.{first_so, second_so}
use Rattle.std.proofs.lemmas.Bool.Decides.{nat_tests}
use Rattle.byte_fields.specs.Numbers.{as_u32}
use Rattle.byte_fields.proofs.Facts.{not_of}
use Rattle.shell_lang.specs.declared.line.LineError.{LineError}
use Rattle.shell_lang.specs.declared.line.LineError.TheVariants.{BadWord, OpenQuote, UnknownWord, WrongCount, Memory}
use Rattle.shell_lang.specs.Words.{pieces_from, word_pieces, inside_after, is_quote, is_empty, bare_word, closed_word, word_of, words_from}
use Rattle.shell_lang.specs.Words.{words_of, ◌>>=◌}
use Rattle.shell_lang.specs.Spelling.{Spelling, has_no_quote, has_no_space, can_spell, spelled, spelled_line, words_spelled}
use Rattle.shell_lang.specs.Refusing.{counted_on, FrontIsRead, OpenIsRefused, FollowedIsRefused, EndsWord, BareIsRefused}
use Rattle.shell_lang.proofs.Pieces.{onto_front, onto_front-none, before}
use Rattle.shell_lang.proofs.Spelled.{onto_front-cons, quoted_front, none_has, quoted_has, cut_spelled, read_spelled}

-- ---- words that count on

-- the same, with so many words before it
abbrev later : {A : Type 0} → ℕ → Result A LineError → Result A LineError
later n (Ok x) = Ok x
later n (Err (BadWord i)) = Err (BadWord (as_u32 (n + i)))
later n (Err OpenQuote) = Err OpenQuote
later n (Err UnknownWord) = Err UnknownWord
later n (Err (WrongCount m)) = Err (WrongCount m)
later n (Err Memory) = Err Memory

as_u32-later : (n k : ℕ) → as_u32 (n + k) ≡ as_u32 (n + as_u32 k)
as_u32-later n k = omega arith

bare_later : (n k : ℕ) (piece : List ℕ) → bare_word (n + k) piece ≡ later n (bare_word k piece)
bare_later n k piece = by (is_empty piece || is_some (position is_quote piece))
  where
    by : (test : Bool)
        → (if test then Err (BadWord (as_u32 (n + k))) else Ok piece) ≡ later n (if test then Err (BadWord (as_u32 k)) else Ok piece)
    by true = ap (λ i. Err (BadWord i)) (as_u32-later n k)
    by false = refl

closed_later : (n k : ℕ) (inner : List ℕ) (found : Option ℕ) → closed_word (n + k) inner found ≡ later n (closed_word k inner found)
closed_later n k inner None = refl
closed_later n k inner (Some end) = by (end + 1 == length inner)
  where
    by : (test : Bool)
        → (if test then Ok (take end inner) else Err (BadWord (as_u32 (n + k))))
        ≡ later n (if test then Ok (take end inner) else Err (BadWord (as_u32 k)))
    by true = refl
    by false = ap (λ i. Err (BadWord i)) (as_u32-later n k)

word_later : (n k : ℕ) (piece : List ℕ) → word_of (n + k) piece ≡ later n (word_of k piece)
word_later n k [] = bare_later n k []
word_later n k (b ∷ bs) = by (is_quote b)
  where
    by : (quote : Bool)
        → (if quote then closed_word (n + k) bs (position is_quote bs) else bare_word (n + k) (b ∷ bs))
        ≡ later n (if quote then closed_word k bs (position is_quote bs) else bare_word k (b ∷ bs))
    by true = closed_later n k bs (position is_quote bs)
    by false = bare_later n k (b ∷ bs)

refused-later : {A B : Type 0} (n : ℕ) (e : LineError) (f : A → Result B LineError) → (later n (Err e) >>= f) ≡ later n (Err e)
refused-later n (BadWord i) f = refl
refused-later n OpenQuote f = refl
refused-later n UnknownWord f = refl
refused-later n (WrongCount m) f = refl
refused-later n Memory f = refl

joined-later : (n : ℕ) (word : Result (List ℕ) LineError) (words : Result (List (List ℕ)) LineError)
    → (later n word >>= (λ w. later n words >>= (λ ws. Ok (w ∷ ws)))) ≡ later n (word >>= (λ w. words >>= (λ ws. Ok (w ∷ ws))))
joined-later n (Ok w) (Ok ws) = refl
joined-later n (Ok w) (Err e) = refused-later n e (λ ws. Ok (w ∷ ws))
joined-later n (Err e) words = refused-later n e (λ w. later n words >>= (λ ws. Ok (w ∷ ws)))

words_later : (n k : ℕ) (cut : List (List ℕ)) → words_from (n + k) cut ≡ later n (words_from k cut)
words_later n k [] = refl
words_later n k (piece ∷ more) =
    ap (λ i. word_of (n + k) piece >>= (λ w. words_from i more >>= (λ ws. Ok (w ∷ ws)))) (next n k)
    ∙ ap (λ word. word >>= (λ w. words_from (n + (k + 1)) more >>= (λ ws. Ok (w ∷ ws)))) (word_later n k piece)
    ∙ ap (λ words. later n (word_of k piece) >>= (λ w. words >>= (λ ws. Ok (w ∷ ws)))) (words_later n (k + 1) more)
    ∙ joined-later n (word_of k piece) (words_from (k + 1) more)
  where
    next : (n k : ℕ) → n + k + 1 ≡ n + (k + 1)
    next n k = omega arith

before-later : (front : List (List ℕ)) (read : Result (List (List ℕ)) LineError)
    → before front (later (length front) read) ≡ counted_on front read
before-later front (Ok words) = refl
before-later front (Err (BadWord i)) = refl
before-later front (Err OpenQuote) = refl
before-later front (Err UnknownWord) = refl
before-later front (Err (WrongCount m)) = refl
before-later front (Err Memory) = refl

before-cons : (w : List ℕ) (front : List (List ℕ)) (read : Result (List (List ℕ)) LineError)
    → (before front read >>= (λ words. Ok (w ∷ words))) ≡ before (w ∷ front) read
before-cons w front (Ok words) = refl
before-cons w front (Err e) = refl

before-one : (w : List ℕ) (read : Result (List (List ℕ)) LineError) → (read >>= (λ words. Ok (w ∷ words))) ≡ before (w ∷ []) read
before-one w (Ok words) = refl
before-one w (Err e) = refl

front_from : (i : ℕ) (first : Spelling) (more : List Spelling) (rest : List ℕ)
    → list_all can_spell (first ∷ more) ≡ true
    → words_from i (word_pieces (spelled_line (first ∷ more) ++ 32 ∷ rest))
    ≡ before (words_spelled (first ∷ more)) (words_from (i + length (words_spelled (first ∷ more))) (word_pieces rest))
front_from i first [] rest can =
    let one = first_so (can_spell first) true can in
    ap (words_from i) (cut_spelled first (32 ∷ rest) (word_pieces rest) one refl)
    ∙ ap (λ read. read >>= (λ word. words_from (i + 1) (word_pieces rest) >>= (λ words. Ok (word ∷ words)))) (read_spelled i first one)
    ∙ before-one first.word (words_from (i + 1) (word_pieces rest))
front_from i first (next ∷ more) rest can =
    let one = first_so (can_spell first) _ can in
    let here : i + 1 + length (words_spelled (next ∷ more)) ≡ i + length (words_spelled (first ∷ next ∷ more)) = omega arith in
    ap (λ text. words_from i (word_pieces text)) (append_assoc (spelled first) (32 ∷ spelled_line (next ∷ more)) (32 ∷ rest))
    ∙ ap (words_from i) (cut_spelled first (32 ∷ spelled_line (next ∷ more) ++ 32 ∷ rest) _ one refl)
    ∙ ap (λ read. read >>= (λ word. words_from (i + 1) (word_pieces (spelled_line (next ∷ more) ++ 32 ∷ rest)) >>= (λ words. Ok (word ∷ words))))
    (read_spelled i first one)
    ∙ ap (λ read. read >>= (λ words. Ok (first.word ∷ words))) (front_from (i + 1) next more rest (second_so (can_spell first) _ can))
    ∙ before-cons first.word (words_spelled (next ∷ more)) _
    ∙ ap (λ n. before (words_spelled (first ∷ next ∷ more)) (words_from n (word_pieces rest))) here

pub front_is_read : FrontIsRead
front_is_read first more rest can =
    let front = words_spelled (first ∷ more) in
    let from : 0 + length front ≡ length front + 0 = omega arith in
    front_from 0 first more rest can
    ∙ ap (λ n. before front (words_from n (word_pieces rest))) from
    ∙ ap (before front) (words_later (length front) 0 (word_pieces rest))
    ∙ before-later front (words_of rest)

-- ---- quotes

pub open_is_refused : OpenIsRefused
open_is_refused inner h =
    ap (λ text. words_from 0 (onto_first 39 (pieces_from true text))) (sym (append-nil inner))
    ∙ ap (λ cut. words_from 0 (onto_first 39 cut)) (quoted_front inner [] h)
    ∙ ap (λ text. words_from 0 ((39 ∷ text) ∷ [])) (append-nil inner)
    ∙ ap (λ found. closed_word 0 inner found >>= (λ word. Ok (word ∷ []))) (none_has inner h)

followed_piece : (word tail : List ℕ) (b : ℕ) (more : List (List ℕ)) → has_no_quote word ≡ true
    → words_from 0 ((39 ∷ word ++ 39 ∷ b ∷ tail) ∷ more) ≡ Err (BadWord 0)
followed_piece word tail b more h =
    let inner = word ++ 39 ∷ b ∷ tail in
    let long : length inner ≡ length word + length (39 ∷ b ∷ tail) = length-append word (39 ∷ b ∷ tail) in
    let other : (length word + 1 == length inner) ≡ false = grind (arith, nat_tests) in
    ap (λ found. closed_word 0 inner found >>= (λ w. words_from 1 more >>= (λ ws. Ok (w ∷ ws)))) (quoted_has word (b ∷ tail) h)
    ∙ ap
    (λ test. (if test then Ok (take (length word) inner) else Err (BadWord 0)) >>= (λ w. words_from 1 more >>= (λ ws. Ok (w ∷ ws)))) other

followed_cut : (word : List ℕ) (b : ℕ) (cut : List (List ℕ)) → has_no_quote word ≡ true
    → words_from 0 (onto_first 39 (onto_front word (onto_first 39 (onto_first b cut)))) ≡ Err (BadWord 0)
followed_cut word b [] h = followed_piece word [] b [] h
followed_cut word b (piece ∷ more) h = followed_piece word piece b more h

pub followed_is_refused : FollowedIsRefused
followed_is_refused word more b h other =
    let no_space : (b == 32) ≡ false = grind (arith, nat_tests) in
    ap (λ cut. words_from 0 (onto_first 39 cut)) (quoted_front word (39 ∷ b ∷ more) h)
    ∙ ap
    (λ test. words_from 0
    (onto_first 39
    (onto_front word
    (onto_first 39 (if test && true then [] ∷ word_pieces more else onto_first b (pieces_from (inside_after false b) more)))))) no_space
    ∙ followed_cut word b (pieces_from (inside_after false b) more) h

-- ---- bare words

-- whether what follows the bytes stands inside quotes
abbrev after : Bool → List ℕ → Bool
after inside [] = inside
after inside (b ∷ bs) = after (inside_after inside b) bs

spaceless_front : (inside : Bool) (word rest : List ℕ) → has_no_space word ≡ true
    → pieces_from inside (word ++ rest) ≡ onto_front word (pieces_from (after inside word) rest)
spaceless_front inside [] rest h = onto_front-none inside rest
spaceless_front inside (b ∷ bs) rest h =
    let no_space : (b == 32) ≡ false = not_of (b == 32) (first_so (not (b == 32)) _ h) in
    ap
    (λ test. if test && not inside then [] ∷ pieces_from inside (bs ++ rest) else onto_first b
    (pieces_from (inside_after inside b) (bs ++ rest))) no_space
    ∙ ap (onto_first b) (spaceless_front (inside_after inside b) bs rest (second_so (not (b == 32)) _ h))
    ∙ onto_front-cons b bs (pieces_from (after (inside_after inside b) bs) rest)

first_within : (b : ℕ) (bs : List ℕ) → is_quote b ≡ true → position_or_len is_quote (b ∷ bs) < length (b ∷ bs)
first_within b bs e = rw (ap not e) (omega arith)

later_within : (b : ℕ) (bs : List ℕ) → is_quote b ≡ false → position_or_len is_quote bs < length bs
    → position_or_len is_quote (b ∷ bs) < length (b ∷ bs)
later_within b bs e lt = rw (ap not e) (omega (arith, lt))

quote_within : (bytes rest : List ℕ) → not (has_no_quote bytes) ≡ true → position_or_len is_quote (bytes ++ rest) < length (bytes ++ rest)
quote_within [] rest h = absurd (cc h)
quote_within (b ∷ bs) rest h = by (quote_within bs rest) (is_quote b) refl
  where
    behind : (quote : Bool) → quote ≡ false → not (not quote && has_no_quote bs) ≡ true → not (has_no_quote bs) ≡ true
    behind quote e h = rw e at h

    by : (not (has_no_quote bs) ≡ true → position_or_len is_quote (bs ++ rest) < length (bs ++ rest))
        → (quote : Bool) → is_quote b ≡ quote → position_or_len is_quote (b ∷ bs ++ rest) < length (b ∷ bs ++ rest)
    by ih true e = first_within b (bs ++ rest) e
    by ih false e = later_within b (bs ++ rest) e (ih (behind (is_quote b) e h))

has_quote : (b : ℕ) (bs rest : List ℕ) → not (has_no_quote bs) ≡ true → is_some (position is_quote (b ∷ bs ++ rest)) ≡ true
has_quote b bs rest h = by (is_quote b) refl
  where
    found : position_or_len is_quote (b ∷ bs ++ rest) < length (b ∷ bs ++ rest) → is_some (position is_quote (b ∷ bs ++ rest)) ≡ true
    found lt = grind (arith, nat_tests)

    by : (quote : Bool) → is_quote b ≡ quote → is_some (position is_quote (b ∷ bs ++ rest)) ≡ true
    by true e = found (first_within b (bs ++ rest) e)
    by false e = found (later_within b (bs ++ rest) e (quote_within bs rest h))

bare_piece : (b : ℕ) (bs tail : List ℕ) (more : List (List ℕ)) → b ≢ 39 → not (has_no_quote bs) ≡ true
    → words_from 0 ((b ∷ bs ++ tail) ∷ more) ≡ Err (BadWord 0)
bare_piece b bs tail more other h =
    let no_quote : is_quote b ≡ false = grind (arith, nat_tests) in
    ap
    (λ test. (if test then closed_word 0 (bs ++ tail) (position is_quote (bs ++ tail)) else bare_word 0 (b ∷ bs ++ tail)) >>=
    (λ w. words_from 1 more >>= (λ ws. Ok (w ∷ ws)))) no_quote
    ∙ ap (λ test. (if test then Err (BadWord 0) else Ok (b ∷ bs ++ tail)) >>= (λ w. words_from 1 more >>= (λ ws. Ok (w ∷ ws))))
    (has_quote b bs tail h)

bare_cut : (b : ℕ) (bs : List ℕ) (cut : List (List ℕ)) → b ≢ 39 → not (has_no_quote bs) ≡ true
    → words_from 0 (onto_front (b ∷ bs) cut) ≡ Err (BadWord 0)
bare_cut b bs [] other h = ap (λ text. words_from 0 ((b ∷ text) ∷ [])) (sym (append-nil bs)) ∙ bare_piece b bs [] [] other h
bare_cut b bs (piece ∷ more) other h = bare_piece b bs piece more other h

no_byte : (more : List ℕ) → EndsWord more → words_of more ≡ Err (BadWord 0)
no_byte [] ends = refl
no_byte (b ∷ bs) ends = ap (λ c. words_of (c ∷ bs)) ends

pub bare_is_refused : BareIsRefused
bare_is_refused [] more no_space ends bad = no_byte more ends
bare_is_refused (b ∷ bs) more no_space ends bad =
    ap (words_from 0) (spaceless_front false (b ∷ bs) more no_space) ∙ bare_cut b bs (pieces_from (after false (b ∷ bs)) more) bad.0 bad.1
