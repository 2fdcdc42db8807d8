-- Cutting bytes into lines, piece by piece.
use Rattle.std.proofs.Common.{◌≡◌, ℕ, ◌+◌, ◌<◌, List, [], ◌∷◌, ◌++◌, length, take, drop, Bool, true, false, Some, None, arith, refl}
use Rattle.std.proofs.Common.{sym, ap, ◌∙◌, append_assoc, append-nil, position, IsTrue}
use Rattle.std.specs.List.{onto_first, position_or_len, join_with_byte, list_all}
use Rattle.std.proofs.lemmas.List.{length-take-le}
use Rattle.std.proofs.lemmas.List.Splits.{slice_split-cons_yes, slice_split-cons_no, length-slice_split, slice_split_first}
use Rattle.std.proofs.lemmas.List.Splits.{slice_split_none, join_with_byte-slice_split}
use Rattle.std.proofs.lemmas.List.Sums.{fails_before_first}
use Rattle.std.proofs.lemmas.Bool.Decides.{nat_tests}
use Rattle.byte_fields.proofs.Facts.{and_of}
use Rattle.shell_lang.proofs.Splitting.{cut_lacks, joined_are_cut, first_found}
use Rattle.shell_lang.specs.Lines.{is_line_end, cut_lines, but_last, last_part, whole_lines, unfinished, BeginsWithLine, IsCutUpTo, is_one_line}
use Rattle.shell_lang.specs.Lines.{last_line, lines_of, with_ends}

-- ---- the first line

-- where a byte ends a line, the first part ends there
first_part : (text : List ℕ) (i : ℕ) → position is_line_end text ≡ Some i
    → (cut_lines text ≡ take i text ∷ cut_lines (drop (i + 1) text)) × (i < length text)
first_part text i h = (grind (arith, nat_tests, slice_split_first is_line_end text 0), grind (arith, nat_tests))

pub line_at_end : (text : List ℕ) (i : ℕ) → position is_line_end text ≡ Some i → BeginsWithLine text (take i text)
line_at_end text i h =
    let cut : (cut_lines text ≡ take i text ∷ cut_lines (drop (i + 1) text)) × (i < length text) = first_part text i h in
    let long : length (take i text) ≡ i = length-take-le i text (omega arith) in
    record {
      inside = omega arith;
      cut = cut.0 ∙ ap (λ (k : ℕ). take i text ∷ cut_lines (drop (k + 1) text)) (sym long);
    }

none_before : (text : List ℕ) (k : ℕ) → position is_line_end text ≡ None → k < length text → k < position_or_len is_line_end text
none_before text k h l = grind (arith, nat_tests)

pub no_line : (text : List ℕ) → position is_line_end text ≡ None → cut_lines text ≡ text ∷ []
no_line text h = slice_split_none is_line_end text (λ k d l. fails_before_first is_line_end text k d (none_before text k h l))

-- ---- pieces

-- the parts of a text with these parts, once more bytes follow
glue : List (List ℕ) → List ℕ → List (List ℕ)
glue [] more = cut_lines more
glue (part ∷ []) more = cut_lines (part ++ more)
glue (part ∷ next ∷ later) more = part ∷ glue (next ∷ later) more

glue-cons : (cut : List (List ℕ)) (more : List ℕ) → 0 < length cut → [] ∷ glue cut more ≡ glue ([] ∷ cut) more
unfolding glue
glue-cons [] more lt = absurd (omega (arith, lt))
glue-cons (part ∷ later) more lt = refl

glue-onto : (b : ℕ) (cut : List (List ℕ)) (more : List ℕ) → is_line_end b ≡ false
    → onto_first b (glue cut more) ≡ glue (onto_first b cut) more
unfolding glue
glue-onto b [] more e = sym (slice_split-cons_no is_line_end b more e)
glue-onto b (part ∷ []) more e = sym (slice_split-cons_no is_line_end b (part ++ more) e)
glue-onto b (part ∷ next ∷ later) more e = refl

some_part : (text : List ℕ) → 0 < length (cut_lines text)
some_part text = omega (arith, length-slice_split is_line_end text)

glue_step : (b : ℕ) (bs more : List ℕ) (test : Bool) → is_line_end b ≡ test
    → cut_lines (bs ++ more) ≡ glue (cut_lines bs) more → cut_lines (b ∷ bs ++ more) ≡ glue (cut_lines (b ∷ bs)) more
glue_step b bs more true e ih =
    slice_split-cons_yes is_line_end b (bs ++ more) e ∙ ap (λ cut. [] ∷ cut) ih
    ∙ glue-cons (cut_lines bs) more (some_part bs)
    ∙ ap (λ cut. glue cut more) (sym (slice_split-cons_yes is_line_end b bs e))
glue_step b bs more false e ih =
    slice_split-cons_no is_line_end b (bs ++ more) e ∙ ap (onto_first b) ih ∙ glue-onto b (cut_lines bs) more e
    ∙ ap (λ cut. glue cut more) (sym (slice_split-cons_no is_line_end b bs e))

parts-glue : (text more : List ℕ) → cut_lines (text ++ more) ≡ glue (cut_lines text) more
unfolding glue
parts-glue [] more = refl
parts-glue (b ∷ bs) more = glue_step b bs more (is_line_end b) refl (parts-glue bs more)

glue-last : (lines : List (List ℕ)) (last more : List ℕ) → glue (lines ++ last ∷ []) more ≡ lines ++ cut_lines (last ++ more)
unfolding glue
glue-last [] last more = refl
glue-last (line ∷ []) last more = refl
glue-last (line ∷ next ∷ later) last more = ap (λ cut. line ∷ cut) (glue-last (next ∷ later) last more)

-- bytes behind a text go on with its last part
parts-more : (text more : List ℕ) (lines : List (List ℕ)) (last : List ℕ) → cut_lines text ≡ lines ++ last ∷ []
    → cut_lines (text ++ more) ≡ lines ++ cut_lines (last ++ more)
parts-more text more lines last cut =
    parts-glue text more ∙ ap (λ all. glue all more) cut ∙ glue-last lines last more

split_last : (all : List (List ℕ)) → 0 < length all → all ≡ but_last all ++ last_part all ∷ []
split_last [] lt = absurd (omega arith)
split_last (part ∷ []) lt = refl
split_last (part ∷ next ∷ more) lt = ap (λ rest. part ∷ rest) (split_last (next ∷ more) (omega arith))

-- the parts are the whole lines and what is behind them
pub parts_are : (text : List ℕ) → cut_lines text ≡ whole_lines text ++ unfinished text ∷ []
parts_are text = split_last (cut_lines text) (some_part text)

pub pieces_are_cut_alike : (xs ys : List ℕ) → cut_lines (xs ++ ys) ≡ whole_lines xs ++ cut_lines (unfinished xs ++ ys)
pieces_are_cut_alike xs ys = parts-more xs ys (whole_lines xs) (unfinished xs) (parts_are xs)

-- ---- a reader in pieces

-- a piece is added
pub piece_added : (behind : List (List ℕ)) (text bytes piece : List ℕ) → IsCutUpTo text behind bytes
    → IsCutUpTo (text ++ piece) behind (bytes ++ piece)
piece_added behind text bytes piece so_far =
    let whole : cut_lines text ≡ (behind ++ whole_lines bytes) ++ unfinished bytes ∷ [] =
    so_far ∙ ap (λ rest. behind ++ rest) (parts_are bytes) ∙ sym (append_assoc behind (whole_lines bytes) (unfinished bytes ∷ [])) in
    parts-more text piece (behind ++ whole_lines bytes) (unfinished bytes) whole
    ∙ append_assoc behind (whole_lines bytes) (cut_lines (unfinished bytes ++ piece))
    ∙ ap (λ rest. behind ++ rest) (sym (pieces_are_cut_alike bytes piece))

-- the first line of the bytes is taken
pub line_taken : (behind : List (List ℕ)) (text bytes line : List ℕ) → IsCutUpTo text behind bytes
    → BeginsWithLine bytes line → IsCutUpTo text (behind ++ line ∷ []) (drop (length line + 1) bytes)
line_taken behind text bytes line so_far begins =
    so_far ∙ ap (λ rest. behind ++ rest) begins.cut ∙ sym (append_assoc behind (line ∷ []) (cut_lines (drop (length line + 1) bytes)))

pub but_last-append : (lines : List (List ℕ)) (last : List ℕ) → but_last (lines ++ last ∷ []) ≡ lines
but_last-append [] last = refl
but_last-append (line ∷ []) last = refl
but_last-append (line ∷ next ∷ more) last = ap (λ rest. line ∷ rest) (but_last-append (next ∷ more) last)

last_part-append : (lines : List (List ℕ)) (last : List ℕ) → last_part (lines ++ last ∷ []) ≡ last
last_part-append [] last = refl
last_part-append (line ∷ []) last = refl
last_part-append (line ∷ next ∷ more) last = last_part-append (next ∷ more) last

-- no line is left in the bytes: those behind are the whole lines, and the bytes are what is behind the last line end
pub all_lines_taken : (behind : List (List ℕ)) (text bytes : List ℕ) → IsCutUpTo text behind bytes
    → cut_lines bytes ≡ bytes ∷ [] → (whole_lines text ≡ behind) × (unfinished text ≡ bytes)
all_lines_taken behind text bytes so_far none =
    let cut : cut_lines text ≡ behind ++ bytes ∷ [] = so_far ∙ ap (λ rest. behind ++ rest) none in
    (ap but_last cut ∙ but_last-append behind bytes, ap last_part cut ∙ last_part-append behind bytes)

-- ---- laws

pub parts_are_one_line_each : (input : List ℕ) → IsTrue (list_all is_one_line (cut_lines input))
parts_are_one_line_each input = cut_lacks 10 input

pub joined_lines_are_found : (first : List ℕ) (more : List (List ℕ)) → IsTrue (list_all is_one_line (first ∷ more))
    → cut_lines (join_with_byte 10 (first ∷ more)) ≡ first ∷ more
joined_lines_are_found first more h = joined_are_cut 10 first more h

pub joined_parts_are_the_input : (input : List ℕ) → join_with_byte 10 (cut_lines input) ≡ input
joined_parts_are_the_input input = join_with_byte-slice_split 10 input

-- lines that have their ends are the parts, and nothing is behind them
pub ended_parts : (lines : List (List ℕ)) → IsTrue (list_all is_one_line lines) → cut_lines (with_ends lines) ≡ lines ++ [] ∷ []
ended_parts [] all = refl
ended_parts (line ∷ more) all =
    let both = and_of (is_one_line line) (list_all is_one_line more) all in
    ap cut_lines (append_assoc line (10 ∷ []) (with_ends more)) ∙ first_found 10 line (with_ends more) both.0
    ∙ ap (λ rest. line ∷ rest) (ended_parts more both.1)

pub ended_lines_are_found : (lines : List (List ℕ)) → IsTrue (list_all is_one_line lines) → lines_of (with_ends lines) ≡ lines
ended_lines_are_found lines all =
    let cut = ended_parts lines all in
    ap (λ rest. but_last rest ++ last_line (last_part rest)) cut
    ∙ ap (λ front. front ++ last_line (last_part (lines ++ [] ∷ []))) (but_last-append lines [])
    ∙ ap (λ last. lines ++ last_line last) (last_part-append lines [])
    ∙ append-nil lines
