-- Names and texts of paths are bytes, and so are the spellings of paths and contents.
use Rattle.std.proofs.Common.{◌≡◌, ℕ, true, List, [], ◌∷◌, length, get_or, inl, inr, arith}
use Rattle.std.specs.Prelude.{nat_lt}
use Rattle.std.specs.List.{list_all, AllByRecursion}
use Rattle.std.specs.Int.{w16, w32}
use Rattle.std.specs.Cmp.{first_so, second_so}
use Rattle.std.proofs.lemmas.Bool.{cases_lt}
use Rattle.std.proofs.lemmas.List.{get_or_past}
use Rattle.std.proofs.lemmas.List.Sums.{AllPass-from_list_all}
use Rattle.byte_fields.specs.Field.{digits}
use Rattle.byte_fields.specs.Codec.{IsBytes}
use Rattle.byte_fields.proofs.Facts.{lt_of, no_bytes, byte_before, bytes_appended, two_are_bytes, four_are_bytes}
use Rattle.file_paths.specs.Path.{FilePath, IsPath, is_name, is_name_byte, path_text}
use Rattle.file_paths.specs.Spelling.{path, content}
use Rattle.file_paths.proofs.PathTexts.{name_bytes}

name_is_bytes : (name : List ℕ) → is_name name ≡ true → IsBytes name
name_is_bytes name is i =
    elim (cases_lt i (length name)) [
      | inl within ↦
          let test = AllPass-from_list_all is_name_byte name (name_bytes name is) i 0 within in
          lt_of (get_or name i 0) 256 (first_so (nat_lt (get_or name i 0) 256) _ (first_so _ _ test))
      | inr past ↦ rw (get_or_past name i 0 past) (omega arith)
    ]

names_each : (names : List (List ℕ)) → list_all is_name names ≡ true → AllByRecursion IsBytes names
names_each [] all = tt
names_each (name ∷ names) all = (name_is_bytes name (first_so (is_name name) _ all), names_each names (second_so (is_name name) _ all))

text_is_bytes : (names : List (List ℕ)) → AllByRecursion IsBytes names → IsBytes (path_text names)
text_is_bytes [] each = no_bytes
text_is_bytes (name ∷ []) each = each.0
text_is_bytes (name ∷ next ∷ names) each =
    bytes_appended name (47 ∷ path_text (next ∷ names)) each.0 (byte_before 47 (path_text (next ∷ names)) (omega arith) (text_is_bytes (next ∷ names) each.1))

pub names_are_bytes : (p : FilePath) → IsPath p → AllByRecursion IsBytes p
names_are_bytes p is = names_each p is.named

pub path_is_bytes : (p : FilePath) → IsPath p → IsBytes (path p)
path_is_bytes p is = bytes_appended (digits w16 (length (path_text p))) (path_text p) (two_are_bytes (length (path_text p))) (text_is_bytes p (names_are_bytes p is))

pub content_is_bytes : (c : List ℕ) → IsBytes c → IsBytes (content c)
content_is_bytes c fits = bytes_appended (digits w32 (length c)) c (four_are_bytes (length c)) fits
