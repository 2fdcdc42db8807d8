-- The lines of an input.
use Rattle.std.specs.Prelude.{◌≡◌, ℕ, ◌+◌, ◌<◌, Bool, ◌==◌, List, [], ◌∷◌, ◌++◌, length, drop, not, Option, Some, None, IsTrue}
use Rattle.std.specs.List.{slice_split, join_with_byte, list_any, list_all, flat_map}

abbrev pub is_line_end : ℕ → Bool
is_line_end b = b == 10

-- the input cut at each line end
abbrev pub cut_lines : List ℕ → List (List ℕ)
cut_lines input = slice_split is_line_end input

abbrev pub but_last : List (List ℕ) → List (List ℕ)
but_last [] = []
but_last (part ∷ []) = []
but_last (part ∷ next ∷ more) = part ∷ but_last (next ∷ more)

abbrev pub last_part : List (List ℕ) → List ℕ
last_part [] = []
last_part (part ∷ []) = part
last_part (part ∷ next ∷ more) = last_part (next ∷ more)

-- the lines that have their ends
abbrev pub whole_lines : List ℕ → List (List ℕ)
whole_lines input = but_last (cut_lines input)

-- the bytes behind the last line end
abbrev pub unfinished : List ℕ → List ℕ
unfinished input = last_part (cut_lines input)

-- bytes behind the last line end are a line too, where there are any
abbrev pub last_line : List ℕ → List (List ℕ)
last_line [] = []
last_line (b ∷ bs) = (b ∷ bs) ∷ []

-- the lines of a whole input
abbrev pub lines_of : List ℕ → List (List ℕ)
lines_of input = whole_lines input ++ last_line (unfinished input)

-- a line and its end stand at the front of the bytes, which are then cut on behind them
pub record BeginsWithLine (bytes line : List ℕ) : Type 0 where
  pub inside : length line < length bytes
  pub cut : cut_lines bytes ≡ line ∷ cut_lines (drop (length line + 1) bytes)

-- each line with its end
abbrev pub with_ends : List (List ℕ) → List ℕ
with_ends lines = flat_map (λ line. line ++ 10 ∷ []) lines

-- the first line of the bytes that has its end, and none exactly where no byte ends a line
abbrev pub FirstLine : List ℕ → Option (List ℕ) → Type 0
FirstLine bytes None = cut_lines bytes ≡ bytes ∷ []
FirstLine bytes (Some line) = BeginsWithLine bytes line

-- of the input these lines are behind, and the lines of these bytes are still to come
abbrev pub IsCutUpTo : List ℕ → List (List ℕ) → List ℕ → Type 0
IsCutUpTo input behind bytes = cut_lines input ≡ behind ++ cut_lines bytes

-- what a buffer holds of an input
pub record Buffered : Type 0 where
  -- the bytes that no line was cut from
  pub bytes : List ℕ
  -- how many bytes of cut lines are still kept before them
  pub passed : ℕ

-- ---- laws

-- whether no byte of it ends a line
abbrev pub is_one_line : List ℕ → Bool
is_one_line part = not (list_any is_line_end part)

-- joined by line ends, the parts give the input back
abbrev pub JoinedPartsAreTheInput : Type 0
JoinedPartsAreTheInput = (input : List ℕ) → join_with_byte 10 (cut_lines input) ≡ input

-- no part has a line end inside
abbrev pub PartsAreOneLineEach : Type 0
PartsAreOneLineEach = (input : List ℕ) → IsTrue (list_all is_one_line (cut_lines input))

-- whatever pieces without a line end are joined by line ends, these are the parts
abbrev pub JoinedLinesAreFound : Type 0
JoinedLinesAreFound =
    (first : List ℕ) (more : List (List ℕ)) → IsTrue (list_all is_one_line (first ∷ more))
    → cut_lines (join_with_byte 10 (first ∷ more)) ≡ first ∷ more

-- lines without a line end inside that are each given one are the lines
abbrev pub EndedLinesAreFound : Type 0
EndedLinesAreFound = (lines : List (List ℕ)) → IsTrue (list_all is_one_line lines) → lines_of (with_ends lines) ≡ lines

-- an input that comes in two pieces: the whole lines of the first, and then the parts of what it left and the second
abbrev pub PiecesAreCutAlike : Type 0
PiecesAreCutAlike = (xs ys : List ℕ) → cut_lines (xs ++ ys) ≡ whole_lines xs ++ cut_lines (unfinished xs ++ ys)
