-- The names of runs: of their folders, and of the locks beside those.
use Rattle.std.specs.Prelude.{ℕ, ◌+◌, ◌*◌, ◌/◌, ◌%◌, Bool, true, false, not, ◌&&◌, ◌||◌}
use Rattle.std.specs.Prelude.{◌==◌, nat_le, List, [], ◌∷◌, ◌++◌, length, take, drop, if◌then◌else◌}
use Rattle.std.specs.Prelude.{decimal}
use Rattle.std.specs.Fmt.{digit_glyph}
use Rattle.std.specs.List.{list_all, flat_map}
use Rattle.std.specs.Str.{bytes_eq}

-- `run-`
abbrev pub front : List ℕ
front = 114 ∷ 117 ∷ 110 ∷ 45 ∷ []

-- `.lock`
abbrev pub lock_end : List ℕ
lock_end = 46 ∷ 108 ∷ 111 ∷ 99 ∷ 107 ∷ []

-- `left-`
abbrev pub left_front : List ℕ
left_front = 108 ∷ 101 ∷ 102 ∷ 116 ∷ 45 ∷ []

-- the name of a folder that waits for its removal
abbrev pub left_name : ℕ → List ℕ
left_name number = left_front ++ decimal number

-- how many bytes of its job's print stand in the name of a run
abbrev pub named_bytes : ℕ
named_bytes = 8

-- the two digits of a byte
abbrev pub hex : ℕ → List ℕ
hex byte = digit_glyph false (byte / 16) ∷ digit_glyph false (byte % 16) ∷ []

-- the number of a name; the first name has none
abbrev pub numbered_suffix : ℕ → List ℕ
numbered_suffix number = if number == 0 then [] else 45 ∷ decimal number

-- the name of the folder of a run whose job has this print
abbrev pub folder_name : List ℕ → ℕ → List ℕ
folder_name print number = front ++ (flat_map hex (take named_bytes print) ++ numbered_suffix number)

abbrev pub is_digit : ℕ → Bool
is_digit b = nat_le 48 b && nat_le b 57

abbrev pub is_hex : ℕ → Bool
is_hex b = is_digit b || (nat_le 97 b && nat_le b 102)

-- digits of which the first is not 0
abbrev pub is_number : List ℕ → Bool
is_number [] = false
is_number (first ∷ rest) = not (first == 48) && list_all is_digit (first ∷ rest)

-- nothing, or `-` and a number
abbrev pub is_numbered : List ℕ → Bool
is_numbered [] = true
is_numbered (first ∷ rest) = first == 45 && is_number rest

-- the digits of a print, and the number behind them
abbrev pub is_print_and_number : List ℕ → Bool
is_print_and_number rest = nat_le (2 * named_bytes) (length rest)
    && (list_all is_hex (take (2 * named_bytes) rest) && is_numbered (drop (2 * named_bytes) rest))

-- whether the folder of a run may have this name
abbrev pub is_folder_name : List ℕ → Bool
is_folder_name name = nat_le 4 (length name) && (bytes_eq (take 4 name) front && is_print_and_number (drop 4 name))

-- whether a folder that waits for its removal may have this name
abbrev pub is_left_name : List ℕ → Bool
is_left_name name = nat_le 5 (length name) && bytes_eq (take 5 name) left_front
