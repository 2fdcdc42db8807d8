-- The addresses of several surrogates as one word.
use Rattle.std.specs.Prelude.{ℕ, Bool, not, ◌==◌, ◌&&◌, nat_le, List, length}
use Rattle.std.specs.List.{slice_split, list_all}

-- the most addresses that a word joins
abbrev pub max_addresses : ℕ
max_addresses = 8

-- the addresses that are joined by commas: the parts before, between and behind them
abbrev pub addresses_in : List ℕ → List (List ℕ)
addresses_in word = slice_split (λ byte. byte == 44) word

-- the word joins one to eight addresses, of which none is empty
abbrev pub are_addresses : List ℕ → Bool
are_addresses word =
    list_all (λ address. not (length address == 0)) (addresses_in word) && nat_le (length (addresses_in word)) max_addresses
