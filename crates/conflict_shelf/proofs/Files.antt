-- Which path a put content has in a folder, and that no two have one.
use Rattle.std.proofs.Common.{◌≡◌, ℕ, ◌<◌, ◌≤◌, ◌^◌, Bool, true, false, not, ◌&&◌, List, [], ◌∷◌, ◌++◌, length, get_or, Ok, refl, sym, ap, ◌∙◌, subst, arith, append_assoc, length-append, if◌then◌else◌}
use Rattle.std.specs.Prelude.{decimal, ◌==◌, nat_lt, Option, option_map, position}
use Rattle.std.specs.List.{list_all, slice_split}
use Rattle.std.specs.Str.Parse.{AllDigits}
use Rattle.std.specs.Cmp.{first_so, second_so}
use Rattle.std.proofs.lemmas.List.{append_cancel_left}
use Rattle.std.proofs.lemmas.List.Sums.{AllPass-from_list_all}
use Rattle.std.proofs.lemmas.List.Splits.{slice_split_at, slice_split_none}
use Rattle.std.proofs.lemmas.Str.Parse.{digit_from_value}
use Rattle.std.proofs.lemmas.Fmt.{decimal_is_IsNumeral, decimal_injective}
use Rattle.byte_fields.proofs.Facts.{not_of, eq_fails}
use Rattle.file_paths.specs.Limits.{max_depth, max_text}
use Rattle.file_paths.specs.Refusals.{when}
use Rattle.file_paths.specs.declared.path.PathError.{PathError}
use Rattle.file_paths.specs.declared.path.PathError.TheVariants.{BadName, TooDeep, TooLong}
use Rattle.file_paths.specs.Path.{as_u32, FilePath, IsPath, is_name, is_name_byte, path_text, text_before, pieces, path_of, resolved}
use Rattle.file_paths.proofs.PathTexts.{name_bytes, path_of_text, text_of_path_read}
use Rattle.file_paths.proofs.Refusals.{value_unrefused}
use Rattle.conflict_shelf.specs.Shelf.{PutAside, place_name}
use Rattle.conflict_shelf.specs.Laws.{file_of}

-- its number and its index are printed
pub record IsSmall (put : PutAside) : Type 0 where
  pub seq : put.name.seq < 2 ^ 64
  pub index : put.name.index < 2 ^ 64

-- ---- two places

-- a byte that is no `/`
abbrev is_plain : ℕ → Bool
is_plain b = not (b == 47)

plain_digit : (c : ℕ) → 48 ≤ c → is_plain c ≡ true
plain_digit c low = grind arith

plain_digits : (ds rest : List ℕ) → AllDigits 10 ds → list_all is_plain rest ≡ true → list_all is_plain (ds ++ rest) ≡ true
plain_digits [] rest all later = later
plain_digits (c ∷ cs) rest all later =
    let range = digit_from_value c all.0 in
    ap (λ b. b && list_all is_plain (cs ++ rest)) (plain_digit c (omega (arith, range))) ∙ plain_digits cs rest all.1 later

digits_plain : (ds : List ℕ) → AllDigits 10 ds → list_all is_plain ds ≡ true
digits_plain [] all = refl
digits_plain (c ∷ cs) all =
    let range = digit_from_value c all.0 in
    ap (λ b. b && list_all is_plain cs) (plain_digit c (omega (arith, range))) ∙ digits_plain cs all.1

place_plain : (seq index : ℕ) → seq < 2 ^ 64 → index < 2 ^ 64 → list_all is_plain (place_name seq index) ≡ true
place_plain seq index small small' =
    plain_digits (decimal seq) (46 ∷ decimal index) (decimal_is_IsNumeral seq small).0.1 (digits_plain (decimal index) (decimal_is_IsNumeral index small').0.1)

-- digits end at a `.`
same_digits : (ds es xs ys : List ℕ) → AllDigits 10 ds → AllDigits 10 es → ds ++ 46 ∷ xs ≡ es ++ 46 ∷ ys → (ds ≡ es) × (xs ≡ ys)
same_digits [] [] xs ys all all' e = (refl, cc e)
same_digits [] (c ∷ cs) xs ys all all' e =
    let first : 46 ≡ c = cc e in
    absurd (omega (arith, first, digit_from_value c all'.0))
same_digits (c ∷ cs) [] xs ys all all' e =
    let first : c ≡ 46 = cc e in
    absurd (omega (arith, first, digit_from_value c all.0))
same_digits (c ∷ cs) (d ∷ ds) xs ys all all' e =
    let first : c ≡ d = cc e in
    let rest : cs ++ 46 ∷ xs ≡ ds ++ 46 ∷ ys = cc e in
    let same = same_digits cs ds xs ys all.1 all'.1 rest in
    (ap (λ b. b ∷ cs) first ∙ ap (λ bs. d ∷ bs) same.0, same.1)

pub same_place : (a b : PutAside) → IsSmall a → IsSmall b → place_name a.name.seq a.name.index ≡ place_name b.name.seq b.name.index → (a.name.seq ≡ b.name.seq) × (a.name.index ≡ b.name.index)
same_place a b small small' e =
    let same = same_digits (decimal a.name.seq) (decimal b.name.seq) (decimal a.name.index) (decimal b.name.index) (decimal_is_IsNumeral a.name.seq small.seq).0.1 (decimal_is_IsNumeral b.name.seq small'.seq).0.1 e in
    (decimal_injective a.name.seq b.name.seq small.seq small'.seq same.0, decimal_injective a.name.index b.name.index small.index small'.index same.1)

pub same_file : (folder : FilePath) (a b : PutAside) → IsSmall a → IsSmall b → file_of folder a ≡ file_of folder b → (a.name.seq ≡ b.name.seq) × (a.name.index ≡ b.name.index)
same_file folder a b small small' e =
    let last : place_name a.name.seq a.name.index ∷ [] ≡ place_name b.name.seq b.name.index ∷ [] = append_cancel_left folder (place_name a.name.seq a.name.index ∷ []) (place_name b.name.seq b.name.index ∷ []) e in
    same_place a b small small' (cc last)

-- ---- the path of a place

-- the text of a folder with one more name
joined_behind : (first : List ℕ) (rest : List (List ℕ)) (word : List ℕ) → path_text (first ∷ rest) ++ 47 ∷ word ≡ path_text (first ∷ (rest ++ word ∷ []))
joined_behind first [] word = refl
joined_behind first (next ∷ rest) word =
    append_assoc first (47 ∷ path_text (next ∷ rest)) (47 ∷ word) ∙ ap (λ text. first ++ 47 ∷ text) (joined_behind next rest word)

text_behind : (folder : FilePath) (word : List ℕ) → text_before folder word ≡ path_text (folder ++ word ∷ [])
text_behind [] word = refl
text_behind (first ∷ rest) word = joined_behind first rest word

plain_at : (word : List ℕ) → list_all is_plain word ≡ true → (k d : ℕ) → k < length word → (get_or word k d == 47) ≡ false
plain_at word plain k d within = not_of (get_or word k d == 47) (AllPass-from_list_all is_plain word plain k d within)

no_slash : (name : List ℕ) → list_all is_name_byte name ≡ true → (k d : ℕ) → k < length name → (get_or name k d == 47) ≡ false
no_slash name bytes k d within =
    not_of (get_or name k d == 47) (second_so (nat_lt (get_or name k d) 256) _ (first_so _ _ (AllPass-from_list_all is_name_byte name bytes k d within)))

-- the text of a folder's names and a word, cut at each `/`
cut_again : (names : FilePath) (word : List ℕ) → list_all is_name names ≡ true → list_all is_plain word ≡ true → slice_split (λ c. c == 47) (path_text (names ++ word ∷ [])) ≡ names ++ word ∷ []
cut_again [] word named plain = slice_split_none (λ c. c == 47) word (plain_at word plain)
cut_again (first ∷ []) word named plain =
    slice_split_at (λ c. c == 47) first 47 word (no_slash first (name_bytes first (first_so (is_name first) _ named))) refl
    ∙ ap (λ (more : List (List ℕ)). first ∷ more) (cut_again [] word refl plain)
cut_again (first ∷ next ∷ rest) word named plain =
    slice_split_at (λ c. c == 47) first 47 (path_text (next ∷ (rest ++ word ∷ []))) (no_slash first (name_bytes first (first_so (is_name first) _ named))) refl
    ∙ ap (λ (more : List (List ℕ)). first ∷ more) (cut_again (next ∷ rest) word (second_so (is_name first) _ named) plain)

some_pieces : (text : List ℕ) → 0 < length text → pieces text ≡ slice_split (λ c. c == 47) text
some_pieces [] some = absurd (omega (arith, some))
some_pieces (b ∷ bs) some = refl

long_text : (folder : FilePath) (word : List ℕ) → 0 < length word → 0 < length (text_before folder word)
long_text [] word some = some
long_text (first ∷ rest) word some = omega (arith, length-append (path_text (first ∷ rest)) (47 ∷ word))

-- a word that begins with a digit names a path in the folder
resolved_within : (folder : FilePath) (word : List ℕ) → 0 < length word → 48 ≤ get_or word 0 0 → resolved folder word ≡ path_of (text_before folder word)
resolved_within folder [] some first = absurd (omega (arith, some))
resolved_within folder (b ∷ bs) some first =
    let low : 48 ≤ b = first in
    let other : (b == 47) ≡ false = eq_fails b 47 (λ same. omega (arith, low, same)) in
    ap (λ test. if test then path_of bs else path_of (text_before folder (b ∷ bs))) other

-- why a text is no path, in the order in which it is tried
abbrev refusals : List ℕ → List (Option PathError)
refusals text =
    option_map (λ i. BadName (as_u32 i)) (position (λ piece. not (is_name piece)) (pieces text))
    ∷ when (nat_lt max_depth (length (pieces text))) (TooDeep (as_u32 (length (pieces text))))
    ∷ when (nat_lt max_text (length text)) (TooLong (as_u32 (length text)))
    ∷ []

-- a path is the pieces of its text
value_of : (text : List ℕ) (path : FilePath) → path_of text ≡ Ok path → path ≡ pieces text
value_of text path e = value_unrefused (refusals text) (pieces text) path e

module _ (folder : FilePath) (put : PutAside) (is : IsPath folder) (small : IsSmall put) where
  numeral : (0 < length (decimal put.name.seq)) × AllDigits 10 (decimal put.name.seq)
  numeral = (decimal_is_IsNumeral put.name.seq small.seq).0

  first_is_digit : (ds rest : List ℕ) → 0 < length ds → AllDigits 10 ds → 48 ≤ get_or (ds ++ rest) 0 0
  first_is_digit [] rest some all = absurd (omega (arith, some))
  first_is_digit (c ∷ cs) rest some all = omega (arith, digit_from_value c all.0)

  long : 0 < length (place_name put.name.seq put.name.index)
  long = omega (arith, length-append (decimal put.name.seq) (46 ∷ decimal put.name.index))

  pub resolved_as : resolved folder (place_name put.name.seq put.name.index) ≡ path_of (path_text (file_of folder put))
  resolved_as =
      resolved_within folder (place_name put.name.seq put.name.index) long (first_is_digit (decimal put.name.seq) (46 ∷ decimal put.name.index) numeral.0 numeral.1)
      ∙ ap path_of (text_behind folder (place_name put.name.seq put.name.index))

  pieces_are : pieces (path_text (file_of folder put)) ≡ file_of folder put
  pieces_are =
      some_pieces (path_text (file_of folder put)) (subst (λ (text : List ℕ). 0 < length text) (text_behind folder (place_name put.name.seq put.name.index)) (long_text folder (place_name put.name.seq put.name.index) long))
      ∙ cut_again folder (place_name put.name.seq put.name.index) is.named (place_plain put.name.seq put.name.index small.seq small.index)

  -- it is the folder's with one more name
  pub file_is : (path : FilePath) → resolved folder (place_name put.name.seq put.name.index) ≡ Ok path → IsPath (file_of folder put) × (path ≡ file_of folder put)
  file_is path e =
      let read : path_of (path_text (file_of folder put)) ≡ Ok path = sym resolved_as ∙ e in
      let same : path ≡ file_of folder put = value_of (path_text (file_of folder put)) path read ∙ pieces_are in
      (subst IsPath same (path_of_text (path_text (file_of folder put)) path read).0, same)

  pub file_stands : IsPath (file_of folder put) → resolved folder (place_name put.name.seq put.name.index) ≡ Ok (file_of folder put)
  file_stands path = resolved_as ∙ text_of_path_read (file_of folder put) path
