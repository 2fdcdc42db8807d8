-- One more turn of the loops over rows.
use Rattle.std.proofs.Common.{◌≡◌, ℕ, ◌+◌, ◌<◌, Bool, true, false, List, [], ◌∷◌, ◌++◌, length, take, get_or, reverse, Option}
use Rattle.std.proofs.Common.{Some, None, is_some, option_map, cond, refl, sym, ap, ◌∙◌, subst, append_assoc, arith, slice_get}
use Rattle.std.proofs.Common.{Result, Ok, Err}
use Rattle.std.specs.List.{filter_map, cons_option}
use Rattle.std.specs.Option.{option_to_list, option_and_then}
use Rattle.std.proofs.lemmas.List.{reverse-append}
use Rattle.cmd_capture.specs.declared.job.JobRow.{JobRow}
use Rattle.cmd_capture.specs.declared.job.RawRow.{RawRow}
use Rattle.file_paths.specs.Path.{FilePath, IsPath, path_of}
use Rattle.file_paths.specs.declared.path.PathError.{PathError}
use Rattle.file_paths.proofs.PathTexts.{path_of_text}
use Rattle.cmd_capture.specs.Capture.{ok}
use Rattle.cmd_capture.specs.Rows.{may_follow_rows, read_row, read_rows, next_row, is_legal_at}
use Rattle.std.proofs.lemmas.Bool.Decides.{nat_tests}
use Rattle.std.specs.Prelude.{nat_lt}
use Rattle.file_paths.proofs.Loops.{filter_map_more}
use Rattle.std.proofs.lemmas.Option.{slice_get_read}

-- a row that may stand behind others is the one that was read
pub next_is_read : (before : List JobRow) (raw : RawRow) (row : JobRow) → next_row before raw ≡ Some row → read_row raw ≡ Some row
next_is_read before raw row h = by (read_row raw) h
  where
    kept : (b : Bool) (r : JobRow) → cond b (Some r) None ≡ Some row → Some r ≡ Some row
    kept true r h = h
    kept false r h = absurd (cc)

    by : (o : Option JobRow) → option_and_then (λ row. cond (may_follow_rows before row) (Some row) None) o ≡ Some row → o ≡ Some row
    by None h = absurd (cc)
    by (Some r) h = kept (may_follow_rows before r) r h

found_first : {X Y : Type 0} (h : X → Option Y) (x : X) (xs : List X) → filter_map h (x ∷ xs) ≡ option_to_list (h x) ++ filter_map h xs
found_first {Y = Y} h x xs = by (h x) (filter_map h xs)
  where
    by : (o : Option Y) (ys : List Y) → cons_option o ys ≡ option_to_list o ++ ys
    by None ys = refl
    by (Some y) ys = refl

-- the last item of what is left has been dealt with
pub from_the_back : {X Y : Type 0} (h : X → Option Y) (whole old new : List Y) (rest front : List X) (x : X)
    → old ++ filter_map h (reverse rest) ≡ whole → rest ≡ front ++ x ∷ [] → new ≡ old ++ option_to_list (h x)
    → new ++ filter_map h (reverse front) ≡ whole
from_the_back h whole old new rest front x so_far split more =
    ap (λ l. l ++ filter_map h (reverse front)) more
    ∙ append_assoc old (option_to_list (h x)) (filter_map h (reverse front))
    ∙ ap (λ l. old ++ l) (sym (found_first h x (reverse front)))
    ∙ ap (λ l. old ++ filter_map h l) (sym (reverse-append front (x ∷ [])))
    ∙ ap (λ l. old ++ filter_map h (reverse l)) (sym split)
    ∙ so_far

here_legal : (raws : List RawRow) (rows : List JobRow) (i : ℕ) (raw : RawRow) (row : JobRow)
    → slice_get raws i ≡ Some raw → rows ≡ read_rows (take i raws) → next_row rows raw ≡ Some row
    → is_legal_at raws i ≡ true
here_legal raws rows i raw row found so_far next =
    ap (λ o. is_some (option_and_then (next_row (read_rows (take i raws))) o)) found
    ∙ ap (λ l. is_some (next_row l raw)) (sym so_far)
    ∙ ap is_some next

-- one more row is read, and is legal there
pub legal_turn : (raws : List RawRow) (rows : List JobRow) (i : ℕ) (raw : RawRow) (row : JobRow) → i < length raws
    → raw ≡ get_or raws i raw → rows ≡ read_rows (take i raws) → ((k : ℕ) → k < i → is_legal_at raws k ≡ true)
    → next_row rows raw ≡ Some row
    → (rows ++ row ∷ [] ≡ read_rows (take (i + 1) raws)) × ((k : ℕ) → k < i + 1 → is_legal_at raws k ≡ true)
legal_turn raws rows i raw row within read so_far legal next = (
  ap (λ l. l ++ row ∷ []) so_far ∙ ap (λ o. read_rows (take i raws) ++ option_to_list o) (sym (next_is_read rows raw row next))
      ∙ sym (filter_map_more read_row raws i raw within read),
  λ k below. by k below (nat_lt k i) refl,
)
  where
    by : (k : ℕ) → k < i + 1 → (b : Bool) → nat_lt k i ≡ b → is_legal_at raws k ≡ true
    by k below true e = let less : k < i = grind (arith, nat_tests) in legal k less
    by k below false e =
        let same : k ≡ i = grind (arith, nat_tests) in ap (is_legal_at raws) same
        ∙ here_legal raws rows i raw row (slice_get_read raws (length raws) i raw refl within read) so_far next

-- a row that was read has a path
pub read_is_path : (raw : RawRow) (row : JobRow) → read_row raw ≡ Some row → IsPath row.path
read_is_path raw row h = by (path_of raw.path) refl h
  where
    by : (r : Result FilePath PathError) → path_of raw.path ≡ r
        → option_map (λ path. record { path = path; node = raw.node }) (ok r) ≡ Some row → IsPath row.path
    by (Ok path) e h = let same : path ≡ row.path = cc in subst IsPath same (path_of_text raw.path path e).0
    by (Err refusal) e h = absurd (cc)

-- the next row may stand behind the others
pub next_may_follow : (before : List JobRow) (raw : RawRow) (row : JobRow) → next_row before raw ≡ Some row → may_follow_rows before row ≡ true
next_may_follow before raw row h = by (read_row raw) h
  where
    kept : (b : Bool) (r : JobRow) → may_follow_rows before r ≡ b → cond b (Some r) None ≡ Some row → may_follow_rows before row ≡ true
    kept true r e h = let same : r ≡ row = cc in ap (may_follow_rows before) (sym same) ∙ e
    kept false r e h = absurd (cc)

    by : (o : Option JobRow) → option_and_then (λ row. cond (may_follow_rows before row) (Some row) None) o ≡ Some row
        → may_follow_rows before row ≡ true
    by None h = absurd (cc)
    by (Some r) h = kept (may_follow_rows before r) r refl h
