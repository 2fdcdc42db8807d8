-- Whatever reads as words spells them.
use Rattle.std.proofs.Common.{◌≡◌, ℕ, ◌+◌, ◌<◌, List, [], ◌∷◌, ◌++◌, length, take, map, Bool, true, false, not, ◌==◌, Option, Some}
use Rattle.std.proofs.Common.{None, Result, Ok, Err, arith, refl, sym, ap, ◌∙◌, get_or, eqb-true}
use Rattle.std.specs.Prelude.{◌&&◌, if◌then◌else◌, position, is_some, ⊤}
use Rattle.std.specs.List.{onto_first, list_all, join_with_byte, AllByRecursion, position_or_len}
use Rattle.std.specs.Cmp.{first_so, second_so}
use Rattle.std.specs.Cmp.Derive.{both_true}
use Rattle.std.proofs.lemmas.List.{take_more, take_all, length-take, get_or-take}
use Rattle.std.proofs.lemmas.List.Sums.{fails_before_first, list_all-from_AllPass}
use Rattle.std.proofs.lemmas.List.Quantifiers.{position-Some}
use Rattle.std.proofs.lemmas.Bool.Decides.{nat_tests}
use Rattle.byte_fields.specs.Numbers.{as_u32}
use Rattle.byte_fields.proofs.Facts.{not_of}
use Rattle.shell_lang.specs.declared.line.LineError.{LineError}
use Rattle.shell_lang.specs.declared.line.LineError.TheVariants.{BadWord, OpenQuote}
use Rattle.shell_lang.specs.Words.{pieces_from, word_pieces, inside_after, is_quote, bare_word, closed_word, word_of, words_from}
use Rattle.shell_lang.specs.Spelling.{Spelling, is_bare_byte, can_spell, spelled}
use Rattle.shell_lang.specs.Reading.{ReadIsSpelled}

-- ---- the pieces joined by spaces are the line

join-first : (b : ℕ) (cut : List (List ℕ)) → join_with_byte 32 (onto_first b cut) ≡ b ∷ join_with_byte 32 cut
join-first b [] = refl
join-first b (piece ∷ []) = refl
join-first b (piece ∷ next ∷ more) = refl

-- there is always a first piece
abbrev HasFirst : List (List ℕ) → Type 0
HasFirst cut = 0 < length cut

has-first : (inside : Bool) (text : List ℕ) → HasFirst (pieces_from inside text)
has-first inside [] = omega arith
has-first inside (b ∷ bs) = by ((b == 32) && not inside) (pieces_from inside bs) (pieces_from (inside_after inside b) bs)
  where
    by : (test : Bool) (cut kept : List (List ℕ)) → HasFirst (if test then [] ∷ cut else onto_first b kept)
    by true cut kept = omega arith
    by false cut [] = omega arith
    by false cut (piece ∷ more) = omega arith

join-space : (cut : List (List ℕ)) → HasFirst cut → join_with_byte 32 ([] ∷ cut) ≡ 32 ∷ join_with_byte 32 cut
join-space [] h = absurd (omega (arith, h))
join-space (piece ∷ more) h = refl

join-pieces : (inside : Bool) (text : List ℕ) → join_with_byte 32 (pieces_from inside text) ≡ text
join-pieces inside [] = refl
join-pieces inside (b ∷ bs) =
    by (b == 32) inside refl (join-pieces inside bs) (join-pieces (inside_after inside b) bs)
  where
    by : (space in_quotes : Bool) → (b == 32) ≡ space → join_with_byte 32 (pieces_from inside bs) ≡ bs
        → join_with_byte 32 (pieces_from (inside_after inside b) bs) ≡ bs
        → join_with_byte 32 (if space && not in_quotes then [] ∷ pieces_from inside bs else onto_first b
        (pieces_from (inside_after inside b) bs)) ≡ b ∷ bs
    by true false is cut kept =
        let same : b ≡ 32 = eqb-true b 32 is in join-space (pieces_from inside bs) (has-first inside bs) ∙ ap (λ rest. 32 ∷ rest) cut
        ∙ ap (λ first. first ∷ bs) (sym same)
    by true true is cut kept = join-first b (pieces_from (inside_after inside b) bs) ∙ ap (λ rest. b ∷ rest) kept
    by false true is cut kept = join-first b (pieces_from (inside_after inside b) bs) ∙ ap (λ rest. b ∷ rest) kept
    by false false is cut kept = join-first b (pieces_from (inside_after inside b) bs) ∙ ap (λ rest. b ∷ rest) kept

-- ---- a piece is cut no further

abbrev IsWhole : List ℕ → Type 0
IsWhole piece = word_pieces piece ≡ piece ∷ []

abbrev AreWhole : Bool → List (List ℕ) → Type 0
AreWhole inside [] = ⊤
AreWhole inside (piece ∷ more) = (pieces_from inside piece ≡ piece ∷ []) × AllByRecursion IsWhole more

all-whole : (inside : Bool) (cut : List (List ℕ)) → inside ≡ false → AreWhole inside cut → AllByRecursion IsWhole cut
all-whole inside [] e whole = tt
all-whole inside (piece ∷ more) e whole = (rw e at whole.0, whole.1)

whole-step : (inside : Bool) (b : ℕ) (bs : List ℕ) (kept : List (List ℕ)) (test : Bool)
    → ((b == 32) && not inside) ≡ test → 0 < length kept → AreWhole inside (pieces_from inside bs)
    → AreWhole (inside_after inside b) kept
    → AreWhole inside (if test then [] ∷ pieces_from inside bs else onto_first b kept)
whole-step inside b bs kept true is some cut ih =
    (refl, all-whole inside (pieces_from inside bs) (not_of inside (second_so (b == 32) (not inside) is)) cut)
whole-step inside b bs [] false is some cut ih = absurd (omega (arith, some))
whole-step inside b bs (piece ∷ more) false is some cut ih =
    (rw is (ap (onto_first b) ih.0), ih.1)

whole : (inside : Bool) (text : List ℕ) → AreWhole inside (pieces_from inside text)
whole inside [] = (refl, tt)
whole inside (b ∷ bs) =
    whole-step inside b bs (pieces_from (inside_after inside b) bs) ((b == 32) && not inside) refl (has-first (inside_after inside b) bs)
    (whole inside bs) (whole (inside_after inside b) bs)

-- ---- one piece

record IsSpelled (piece word : List ℕ) : Type 0 where
  spelling : Spelling
  can : can_spell spelling ≡ true
  of_word : spelling.word ≡ word
  of_piece : spelled spelling ≡ piece

behind-first : (b : ℕ) (bs : List ℕ) (cut : List (List ℕ)) → 0 < length cut → onto_first b cut ≡ (b ∷ bs) ∷ [] → cut ≡ bs ∷ []
behind-first b bs [] some e = absurd (omega (arith, some))
behind-first b bs (piece ∷ more) some e = let same : piece ≡ bs = cc in let none : more ≡ [] = cc in rw (same, none) refl

bare-bytes : (piece : List ℕ) → list_all (λ b. not (is_quote b)) piece ≡ true → IsWhole piece → list_all is_bare_byte piece ≡ true
bare-bytes [] h whole = refl
bare-bytes (b ∷ bs) h whole =
    by (b == 32) refl (is_quote b) refl (first_so (not (is_quote b)) _ h) (bare-bytes bs (second_so (not (is_quote b)) _ h))
  where
    by : (space : Bool) → (b == 32) ≡ space → (quote : Bool) → is_quote b ≡ quote → not (is_quote b) ≡ true
        → (IsWhole bs → list_all is_bare_byte bs ≡ true) → list_all is_bare_byte (b ∷ bs) ≡ true
    by true is quote q no_quote ih = let cut : [] ∷ word_pieces bs ≡ (b ∷ bs) ∷ [] = rw is at whole in absurd (cc)
    by false is true q no_quote ih = absurd (cc)
    by false is false q no_quote ih =
        let cut : onto_first b (word_pieces bs) ≡ (b ∷ bs) ∷ [] = rw (is, q) at whole in
        rw (is, q) (ih (behind-first b bs (word_pieces bs) (has-first false bs) cut))

no-quote : (piece : List ℕ) → position is_quote piece ≡ None → list_all (λ b. not (is_quote b)) piece ≡ true
no-quote piece none =
    list_all-from_AllPass (λ b. not (is_quote b)) piece
    (λ k d l. ap not (fails_before_first is_quote piece k d (before-none piece k none l)))
  where
    before-none : (text : List ℕ) (k : ℕ) → position is_quote text ≡ None → k < length text → k < position_or_len is_quote text
    before-none text k h l = grind (arith, nat_tests)

quoted-inner : (inner : List ℕ) (k : ℕ) → position is_quote inner ≡ Some k → k + 1 ≡ length inner
    → (list_all (λ b. not (is_quote b)) (take k inner) ≡ true) × (take k inner ++ 39 ∷ [] ≡ inner)
quoted-inner inner k at last =
    let here = position-Some is_quote inner k 0 at in
    let quote : get_or inner k 0 ≡ 39 = eqb-true (get_or inner k 0) 39 here.1 in (
      list_all-from_AllPass (λ b. not (is_quote b)) (take k inner) (λ j d l. front j d (omega (arith, l, length-take k inner))),
      ap (λ b. take k inner ++ b ∷ []) (sym quote) ∙ sym (take_more inner k 0 here.0) ∙ take_all (k + 1) inner (omega (arith, last)),
    )
  where
    front : (j d : ℕ) → j < k → not (is_quote (get_or (take k inner) j d)) ≡ true
    front j d lt = rw (get_or-take k inner j d lt) (ap not ((position-Some is_quote inner k d at).2 j lt))

one : (i : ℕ) (piece word : List ℕ) → IsWhole piece → word_of i piece ≡ Ok word → IsSpelled piece word
one i [] word is_whole read = absurd (cc)
one i (b ∷ bs) word is_whole read = by (is_quote b) refl (position is_quote bs) refl
  where
    bare : (found : Option ℕ) → position is_quote (b ∷ bs) ≡ found
        → (if is_some found then Err (BadWord (as_u32 i)) else Ok (b ∷ bs)) ≡ Ok word → IsSpelled (b ∷ bs) word
    bare None none read =
        record {
          spelling = record { quoted = false; word = b ∷ bs };
          can = bare-bytes (b ∷ bs) (no-quote (b ∷ bs) none) is_whole;
          of_word = cc;
          of_piece = refl;
        }
    bare (Some k) at read = absurd (cc)

    quoted : (k : ℕ) (last : Bool) → (k + 1 == length bs) ≡ last → position is_quote bs ≡ Some k → b ≡ 39
        → (if last then Ok (take k bs) else Err (BadWord (as_u32 i))) ≡ Ok word → IsSpelled (b ∷ bs) word
    quoted k true last at quote read =
        let inner = quoted-inner bs k at (eqb-true (k + 1) (length bs) last) in
        record {
          spelling = record { quoted = true; word = take k bs };
          can = inner.0;
          of_word = cc;
          of_piece = ap (λ rest. 39 ∷ rest) inner.1 ∙ ap (λ first. first ∷ bs) (sym quote);
        }
    quoted k false last at quote read = absurd (cc)

    unquoted : (quote : Bool) (x y : Result (List ℕ) LineError) → quote ≡ false → (if quote then x else y) ≡ Ok word → y ≡ Ok word
    unquoted quote x y q read = rw q at read

    by : (quote : Bool) → is_quote b ≡ quote → (found : Option ℕ) → position is_quote bs ≡ found → IsSpelled (b ∷ bs) word
    by false q found at =
        bare (position is_quote (b ∷ bs)) refl
        (unquoted (is_quote b) (closed_word i bs (position is_quote bs)) (bare_word i (b ∷ bs)) q read)
    by true q None at = let open_quote : Err OpenQuote ≡ Ok word = rw (q, at) at read in absurd (cc)
    by true q (Some k) at = quoted k (k + 1 == length bs) refl at (eqb-true b 39 q) (rw (q, at) at read)

-- ---- all pieces

record AreSpelled (cut words : List (List ℕ)) : Type 0 where
  spellings : List Spelling
  can : list_all can_spell spellings ≡ true
  of_words : map (λ s. s.word) spellings ≡ words
  of_pieces : map spelled spellings ≡ cut

each : (i : ℕ) (cut words : List (List ℕ)) → AllByRecursion IsWhole cut → words_from i cut ≡ Ok words → AreSpelled cut words
each i [] words all read = record { spellings = []; can = refl; of_words = cc; of_pieces = refl }
each i (piece ∷ more) words all read = by (word_of i piece) refl (words_from (i + 1) more) refl (λ rest e. each (i + 1) more rest all.1 e)
  where
    by : (first : Result (List ℕ) LineError) → word_of i piece ≡ first → (later : Result (List (List ℕ)) LineError)
        → words_from (i + 1) more ≡ later
        → ((rest : List (List ℕ)) → words_from (i + 1) more ≡ Ok rest → AreSpelled more rest)
        → AreSpelled (piece ∷ more) words
    by (Err e) first later l ih = let refused : Err e ≡ Ok words = rw first at read in absurd (cc)
    by (Ok word) first (Err e) l ih = let refused : Err e ≡ Ok words = rw (first, l) at read in absurd (cc)
    by (Ok word) first (Ok rest) l ih =
        let this = one i piece word all.0 first in
        let others = ih rest l in
        let whole_list : Ok (word ∷ rest) ≡ Ok words = rw (first, l) at read in
        let is : word ∷ rest ≡ words = cc in
        record {
          spellings = this.spelling ∷ others.spellings;
          can = both_true this.can others.can;
          of_words = rw (this.of_word, others.of_words) is;
          of_pieces = rw (this.of_piece, others.of_pieces) refl;
        }

pub read_is_spelled : ReadIsSpelled
read_is_spelled line words read =
    let found = each 0 (word_pieces line) words (all-whole false (word_pieces line) refl (whole false line)) read in
    record {
      spellings = found.spellings;
      can = found.can;
      of_words = found.of_words;
      of_line = sym (ap (join_with_byte 32) found.of_pieces ∙ join-pieces false line);
    }
