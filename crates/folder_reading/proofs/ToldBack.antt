-- What is withheld among rows.
use Rattle.std.proofs.Common.{◌≡◌, ℕ, ◌+◌, Bool, true, false, not, List, [], ◌∷◌, ◌++◌, length, take, drop, append-nil, refl, sym, ap, ◌∙◌, cond, ◌<◌, ◌≤◌, get_or, append_assoc, Some, None}
use Rattle.std.specs.List.{cons_option}
use Rattle.std.specs.Str.{is_utf8, IsUtf8}
use Rattle.std.proofs.lemmas.List.{take-append-drop, drop_more, drop_all}
use Rattle.std.proofs.lemmas.List.Elements.{filter-append}
use Rattle.std.proofs.lemmas.Str.{is_utf8-from_IsUtf8, IsUtf8-from_is_utf8}
use Rattle.file_paths.specs.Path.{path_text}
use Rattle.tree_values.specs.declared.node.Node.{Node}
use Rattle.cmd_capture.specs.declared.job.JobRow.{JobRow}
use Rattle.cmd_capture.specs.declared.job.RawRow.{RawRow}
use Rattle.folder_reading.specs.Withheld.{is_withheld, withheld_in, withheld_of, count_below, told_back}

pub is_text : (path : List ℕ) → IsUtf8 path → is_utf8 path ≡ true
is_text path text = is_utf8-from_IsUtf8 path text

pub is_no_text : (path : List ℕ) → (IsUtf8 path → ⊥) → is_utf8 path ≡ false
is_no_text path none = by (is_utf8 path) refl
  where
    by : (b : Bool) → is_utf8 path ≡ b → b ≡ false
    by true is = absurd (none (IsUtf8-from_is_utf8 path is))
    by false is = refl

-- a row whose path is a text is not one that is withheld
pub text_is_told : (rows : List RawRow) (path : List ℕ) (node : Node) → IsUtf8 path → withheld_in (rows ++ record { path = path; node = node } ∷ []) ≡ withheld_in rows
text_is_told rows path node text =
    let row : RawRow = record { path = path; node = node } in
    filter-append is_withheld rows (row ∷ [])
    ∙ ap (λ b. withheld_in rows ++ cond (not b) (row ∷ []) []) (is_utf8-from_IsUtf8 path text)
    ∙ append-nil (withheld_in rows)

parts : (n : ℕ) (rows : List RawRow) → withheld_in (take n rows) ++ withheld_in (drop n rows) ≡ withheld_in rows
parts n rows = sym (filter-append is_withheld (take n rows) (drop n rows)) ∙ ap withheld_in (take-append-drop n rows)

-- of rows that are texts, with those that are withheld, just those are
pub told_as_it_was : (rows withheld : List RawRow) → withheld_in rows ≡ [] → withheld_in (told_back rows withheld) ≡ withheld_in withheld
told_as_it_was [] withheld texts = refl
told_as_it_was (row ∷ rows) withheld texts = by (is_withheld row) refl (told_as_it_was rows (drop n withheld))
  where
    n : ℕ
    n = count_below row withheld

    rest : List RawRow
    rest = told_back rows (drop n withheld)

    by : (b : Bool) → is_withheld row ≡ b → (withheld_in rows ≡ [] → withheld_in rest ≡ withheld_in (drop n withheld))
        → withheld_in (take n withheld ++ row ∷ rest) ≡ withheld_in withheld
    by true is on =
        let some : row ∷ withheld_in rows ≡ [] = sym (ap (λ b. cond b (row ∷ withheld_in rows) (withheld_in rows)) is) ∙ texts in
        absurd (cc)
    by false is on =
        let none : withheld_in rows ≡ [] = sym (ap (λ b. cond b (row ∷ withheld_in rows) (withheld_in rows)) is) ∙ texts in
        filter-append is_withheld (take n withheld) (row ∷ rest)
        ∙ ap (λ b. withheld_in (take n withheld) ++ cond b (row ∷ withheld_in rest) (withheld_in rest)) is
        ∙ ap (λ l. withheld_in (take n withheld) ++ l) (on none)
        ∙ parts n withheld

told : (path : List ℕ) (node : Node) (rows : List RawRow) (b : Bool) → is_utf8 path ≡ b → withheld_in rows ≡ rows
    → withheld_in (cons_option (cond b None (Some (record { path = path; node = node }))) rows) ≡ cons_option (cond b None (Some (record { path = path; node = node }))) rows
told path node rows true is on = on
told path node rows false is on =
    let row : RawRow = record { path = path; node = node } in
    ap (λ b. cond (not b) (row ∷ withheld_in rows) (withheld_in rows)) is ∙ ap (λ l. row ∷ l) on

-- what is withheld of a job's rows is all withheld
pub all_are_withheld : (rows : List JobRow) → withheld_in (withheld_of rows) ≡ withheld_of rows
all_are_withheld [] = refl
all_are_withheld (row ∷ rows) = told (path_text row.path) row.node (withheld_of rows) (is_utf8 (path_text row.path)) refl (all_are_withheld rows)

-- one more of the rows that were read, behind those that are below it
pub told_turn : (rows found withheld whole : List RawRow) (i : ℕ) (row : RawRow) → i < length rows → row ≡ get_or rows i row
    → found ++ told_back (drop i rows) withheld ≡ whole
    → ((found ++ take (count_below row withheld) withheld) ++ row ∷ []) ++ told_back (drop (i + 1) rows) (drop (count_below row withheld) withheld) ≡ whole
told_turn rows found withheld whole i row within is before =
    let n = count_below row withheld in
    let front = take n withheld in
    let rest = told_back (drop (i + 1) rows) (drop n withheld) in
    let next : drop i rows ≡ row ∷ drop (i + 1) rows = drop_more rows i row within ∙ ap (λ r. r ∷ drop (i + 1) rows) (sym is) in
    append_assoc (found ++ front) (row ∷ []) rest
    ∙ append_assoc found front (row ∷ rest)
    ∙ ap (λ l. found ++ told_back l withheld) (sym next)
    ∙ before

-- behind the last of them come all that are left
pub told_end : (rows found withheld whole : List RawRow) (i : ℕ) → length rows ≤ i → found ++ told_back (drop i rows) withheld ≡ whole → found ++ withheld ≡ whole
told_end rows found withheld whole i all before = ap (λ l. found ++ told_back l withheld) (sym (drop_all i rows all)) ∙ before
