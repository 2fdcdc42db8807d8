-- Names and paths. A name is a list of bytes, and a path the list of its names.
use Rattle.std.specs.Prelude.{ℕ, ◌-◌, ◌≤◌, Bool, ◌&&◌, ◌||◌, not, ◌==◌, nat_lt, nat_le, List, [], ◌∷◌, ◌++◌, length, take, slice_index_or}
use Rattle.std.specs.Prelude.{Option, Some, None, option_map, Result, Ok, IsTrue, position, if◌then◌else◌}
use Rattle.std.specs.List.{list_all, join_with_byte, slice_split}
use Rattle.std.specs.Str.{bytes_eq}
use Rattle.std.specs.declared.cmp.Ordering.{Ordering}
use Rattle.std.specs.Ordering.{nat_cmp, as_partial_cmp, is_eq}
use Rattle.std.specs.Cmp.{IsPartialOrder, po}
use Rattle.std.specs.Cmp.Lexicographic.{pointwise, slice_cmp, lists_total, lists_ties, nat_list_cmp_total, texts_ties}
pub use Rattle.byte_fields.specs.Numbers.{as_u32}
use Rattle.file_paths.specs.Limits.{max_name, max_depth, max_text}
use Rattle.file_paths.specs.Refusals.{when, unless_refused}
use Rattle.file_paths.specs.declared.path.PathError.{PathError}
use Rattle.file_paths.specs.declared.path.PathError.TheVariants.{BadName, TooDeep, TooLong}

-- the names from the root; the root itself is the empty path
abbrev pub FilePath : Type 0
FilePath = List (List ℕ)

-- a byte, neither `/` nor zero
abbrev pub is_name_byte : ℕ → Bool
is_name_byte b = nat_lt b 256 && not (b == 47) && not (b == 0)

-- `.` or `..`
abbrev pub is_dots : List ℕ → Bool
is_dots bytes = bytes_eq bytes (46 ∷ []) || bytes_eq bytes (46 ∷ 46 ∷ [])

-- 1 to 255 bytes without `/` and zero bytes, neither `.` nor `..`
abbrev pub is_name : List ℕ → Bool
is_name bytes =
    nat_le 1 (length bytes) && nat_le (length bytes) max_name && list_all is_name_byte bytes && not (is_dots bytes)

-- the names joined by `/`
abbrev pub path_text : FilePath → List ℕ
path_text names = join_with_byte 47 names

-- at most 32 names, with a text of at most 1,024 bytes
pub record IsPath (names : FilePath) : Type 0 where
  pub named : IsTrue (list_all is_name names)
  pub shallow : length names ≤ max_depth
  pub short : length (path_text names) ≤ max_text

-- the text cut at each `/`; the empty text is the root
abbrev pub pieces : List ℕ → List (List ℕ)
pieces [] = []
pieces (b ∷ bs) = slice_split (λ c. c == 47) (b ∷ bs)

-- the path that the text spells, or the first refusal
abbrev pub path_of : List ℕ → Result FilePath PathError
path_of text =
    unless_refused
    (option_map (λ i. BadName (as_u32 i)) (position (λ piece. not (is_name piece)) (pieces text))
    ∷ when (nat_lt max_depth (length (pieces text))) (TooDeep (as_u32 (length (pieces text))))
    ∷ when (nat_lt max_text (length text)) (TooLong (as_u32 (length text)))
    ∷ [])
    (pieces text)

-- a word behind the text of a folder, with a `/` between them unless the folder is the root
abbrev pub text_before : FilePath → List ℕ → List ℕ
text_before [] word = word
text_before (n ∷ ns) word = path_text (n ∷ ns) ++ 47 ∷ word

-- the path that a word names in a folder
abbrev pub resolved : FilePath → List ℕ → Result FilePath PathError
resolved cwd [] = Ok cwd
resolved cwd (b ∷ bs) = (if b == 47 then path_of bs else path_of (text_before cwd (b ∷ bs)))

-- the path without its last name; the root stays
abbrev pub folder_of : FilePath → FilePath
folder_of path = take (length path - 1) path

-- the last name; the root has no byte there
abbrev pub last_name : FilePath → List ℕ
last_name path = slice_index_or path (length path - 1) []

-- the folder that a path stands in, which the root does not have
abbrev pub parent : FilePath → Option FilePath
parent [] = None
parent (n ∷ ns) = Some (folder_of (n ∷ ns))

-- paths are ordered by their names from the front, bytewise, a proper prefix first
abbrev pub path_cmp : FilePath → FilePath → Ordering
path_cmp = slice_cmp (slice_cmp nat_cmp)

-- whether two paths are one
abbrev pub is_same_path : FilePath → FilePath → Bool
is_same_path other path = is_eq (path_cmp other path)

-- `path_cmp` is an order that ties exactly equal paths
pub partial_order_of_paths : IsPartialOrder (pointwise bytes_eq) (as_partial_cmp path_cmp)
partial_order_of_paths =
    po (lists_total nat_list_cmp_total) (lists_ties (slice_cmp nat_cmp) texts_ties)
