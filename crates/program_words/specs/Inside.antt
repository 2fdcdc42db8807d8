-- Words that only private functions cite.
use Rattle.std.specs.Prelude.{ℕ, Bool, false, ◌&&◌, List, [], ◌∷◌, nat_le}

-- whether a word begins with a digit from 1 to 9
abbrev pub begins_as_number : List ℕ → Bool
begins_as_number [] = false
begins_as_number (byte ∷ bytes) = nat_le 49 byte && nat_le byte 57
