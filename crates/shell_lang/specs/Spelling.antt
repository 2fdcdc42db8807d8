-- How words are spelled in a line: with single spaces between them, each as it is or between quotes.
use Rattle.std.specs.Prelude.{◌≡◌, ℕ, Bool, ◌&&◌, not, ◌==◌, IsTrue, List, [], ◌∷◌, ◌++◌, map, Ok, if◌then◌else◌}
use Rattle.std.specs.List.{list_all, join_with_byte}
use Rattle.shell_lang.specs.Words.{is_quote, is_empty, words_of}

pub record Spelling : Type 0 where
  pub quoted : Bool
  pub word : List ℕ

abbrev pub is_bare_byte : ℕ → Bool
is_bare_byte b = not (b == 32) && not (is_quote b)

abbrev pub has_no_quote : List ℕ → Bool
has_no_quote bytes = list_all (λ b. not (is_quote b)) bytes

abbrev pub has_no_space : List ℕ → Bool
has_no_space bytes = list_all (λ b. not (b == 32)) bytes

-- a quoted word has no quote; any other has a byte, no quote and no space
abbrev pub can_spell : Spelling → Bool
can_spell s = if s.quoted then has_no_quote s.word else (not (is_empty s.word) && list_all is_bare_byte s.word)

abbrev pub spelled : Spelling → List ℕ
spelled s = if s.quoted then 39 ∷ s.word ++ 39 ∷ [] else s.word

abbrev pub spelled_line : List Spelling → List ℕ
spelled_line spellings = join_with_byte 32 (map spelled spellings)

-- the words that are spelled
abbrev pub words_spelled : List Spelling → List (List ℕ)
words_spelled spellings = map (λ s. s.word) spellings

-- ---- laws

-- a line that spells words reads as these words
abbrev pub SpelledIsRead : Type 0
SpelledIsRead =
    (first : Spelling) (more : List Spelling) → IsTrue (list_all can_spell (first ∷ more))
    → words_of (spelled_line (first ∷ more)) ≡ Ok (words_spelled (first ∷ more))

-- a line spells no more than one list of words
abbrev pub HasOneReading : Type 0
HasOneReading =
    (xs ys : List Spelling) → IsTrue (list_all can_spell xs) → IsTrue (list_all can_spell ys)
    → spelled_line xs ≡ spelled_line ys → words_spelled xs ≡ words_spelled ys
