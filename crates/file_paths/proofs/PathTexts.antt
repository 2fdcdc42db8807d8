-- A path has one text, and a text at most one path.
use Rattle.std.proofs.Common.{◌≡◌, ℕ, ◌<◌, ◌≤◌, true, false, not, ◌&&◌, List, [], ◌∷◌, length, get_or, None, Ok, arith, refl, sym, ap, ◌∙◌, subst, true≢false}
use Rattle.std.specs.Prelude.{nat_lt, nat_le, ◌==◌}
use Rattle.std.specs.List.{list_all, slice_split, position, prefix_len}
use Rattle.std.specs.Cmp.{first_so, second_so}
use Rattle.std.proofs.lemmas.List.Sums.{AllPass-from_list_all}
use Rattle.std.proofs.lemmas.List.Splits.{slice_split_at, slice_split_none, join_with_byte-slice_split}
use Rattle.byte_fields.proofs.Facts.{not_of, lt_fails, not_lt_of, none_mapped}
use Rattle.file_paths.specs.Path.{FilePath, IsPath, is_name, is_name_byte, path_text, pieces, path_of}
use Rattle.file_paths.proofs.PathLemmas.{pieces_are_path}
use Rattle.file_paths.proofs.Refusals.{not_first, value_unrefused, not_when}

-- ---- the text of names, cut again

no_slash : (name : List ℕ) → list_all is_name_byte name ≡ true → (k d : ℕ) → k < length name → (get_or name k d == 47) ≡ false
no_slash name h k d lt =
    not_of (get_or name k d == 47) (second_so (nat_lt (get_or name k d) 256) _ (first_so _ _ (AllPass-from_list_all is_name_byte name h k d lt)))

pub name_bytes : (name : List ℕ) → is_name name ≡ true → list_all is_name_byte name ≡ true
name_bytes name h =
    second_so (nat_le 1 (length name) && nat_le (length name) 255) _ (first_so _ _ h)

cut_again : (first : List ℕ) (rest : List (List ℕ)) → list_all is_name (first ∷ rest) ≡ true → slice_split (λ c. c == 47) (path_text (first ∷ rest)) ≡ first ∷ rest
cut_again first [] h = slice_split_none (λ c. c == 47) first (no_slash first (name_bytes first (first_so (is_name first) _ h)))
cut_again first (next ∷ rest) h =
    slice_split_at (λ c. c == 47) first 47 (path_text (next ∷ rest)) (no_slash first (name_bytes first (first_so (is_name first) _ h))) refl
    ∙ ap (λ (more : List (List ℕ)). first ∷ more) (cut_again next rest (second_so (is_name first) _ h))

pieces_of_text : (names : FilePath) → IsPath names → pieces (path_text names) ≡ names
pieces_of_text [] is = refl
pieces_of_text (first ∷ rest) is = by (path_text (first ∷ rest)) refl
  where
    by : (text : List ℕ) → path_text (first ∷ rest) ≡ text → pieces text ≡ first ∷ rest
    by [] e = absurd (empty first rest (first_so (is_name first) _ is.named) e)
      where
        empty : (name : List ℕ) (others : List (List ℕ)) → is_name name ≡ true → path_text (name ∷ others) ≡ [] → ⊥
        empty [] others h e = true≢false (sym h)
        empty (b ∷ bs) [] h e = cc
        empty (b ∷ bs) (x ∷ xs) h e = cc
    by (b ∷ bs) e = subst (λ (t : List ℕ). slice_split (λ c. c == 47) t ≡ first ∷ rest) e (cut_again first rest is.named)

all_pass : (names : List (List ℕ)) → list_all is_name names ≡ true → prefix_len (λ x. not (not (is_name x))) names ≡ length names
all_pass [] h = refl
all_pass (x ∷ xs) h = rw (first_so (is_name x) _ h) (omega (arith, all_pass xs (second_so (is_name x) _ h)))

none_bad : (names : List (List ℕ)) → list_all is_name names ≡ true → position (λ piece. not (is_name piece)) names ≡ None
none_bad names h = rw (all_pass names h, lt_fails (length names) (length names) (omega arith)) refl

-- ---- the laws

pub text_of_path_read : (names : FilePath) → IsPath names → path_of (path_text names) ≡ Ok names
text_of_path_read names is =
    rw (pieces_of_text names is, none_bad names is.named, lt_fails 32 (length names) is.shallow, lt_fails 1024 (length (path_text names)) is.short) refl

pub path_of_text : (text : List ℕ) (names : FilePath) → path_of text ≡ Ok names → IsPath names × (path_text names ≡ text)
path_of_text text names e =
    let a = not_first _ _ (pieces text) names e in
    let b = not_first _ _ (pieces text) names a.1 in
    let c = not_first _ _ (pieces text) names b.1 in
    let named = none_mapped _ (position (λ piece. not (is_name piece)) (pieces text)) a.0 in
    let shallow = not_lt_of 32 (length (pieces text)) (not_when _ _ b.0) in
    let short = not_lt_of 1024 (length text) (not_when _ _ c.0) in
    let is : pieces text ≡ names = sym (value_unrefused [] (pieces text) names c.1) in
    subst (λ (p : FilePath). IsPath p × (path_text p ≡ text)) is (cut text named shallow short)
  where
    cut : (t : List ℕ) → position (λ piece. not (is_name piece)) (pieces t) ≡ None → length (pieces t) ≤ 32 → length t ≤ 1024 → IsPath (pieces t) × (path_text (pieces t) ≡ t)
    cut [] named shallow short = (record { named = refl; shallow = omega arith; short = omega arith }, refl)
    cut (b ∷ bs) named shallow short = (pieces_are_path (b ∷ bs) (pieces (b ∷ bs)) refl named shallow short, join_with_byte-slice_split 47 (b ∷ bs))
