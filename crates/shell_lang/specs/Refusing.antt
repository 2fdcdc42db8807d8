-- Where a line breaks the rule of words. With the laws of spelling, these give the reading of every line.
use Rattle.std.specs.Prelude.{◌≡◌, ◌≢◌, ⊤, ℕ, ◌+◌, IsTrue, not, List, [], ◌∷◌, ◌++◌, length, Result, Ok, Err}
use Rattle.std.specs.List.{list_all}
use Rattle.byte_fields.specs.Numbers.{as_u32}
use Rattle.shell_lang.specs.declared.line.LineError.{LineError}
use Rattle.shell_lang.specs.declared.line.LineError.TheVariants as errors
use Rattle.shell_lang.specs.Words.{words_of}
use Rattle.shell_lang.specs.Spelling.{Spelling, has_no_quote, has_no_space, can_spell, spelled_line, words_spelled}

-- the reading of the rest of a line behind these words
abbrev pub counted_on : List (List ℕ) → Result (List (List ℕ)) LineError → Result (List (List ℕ)) LineError
counted_on front (Ok words) = Ok (front ++ words)
counted_on front (Err (errors.BadWord i)) = Err (errors.BadWord (as_u32 (length front + i)))
counted_on front (Err fault) = Err fault

-- words that are spelled at the front, and a space behind them: the rest is read as a line, and its words count on
abbrev pub FrontIsRead : Type 0
FrontIsRead =
    (first : Spelling) (more : List Spelling) (rest : List ℕ) → IsTrue (list_all can_spell (first ∷ more))
    → words_of (spelled_line (first ∷ more) ++ 32 ∷ rest) ≡ counted_on (words_spelled (first ∷ more)) (words_of rest)

-- a quote that no other closes
abbrev pub OpenIsRefused : Type 0
OpenIsRefused = (inner : List ℕ) → IsTrue (has_no_quote inner) → words_of (39 ∷ inner) ≡ Err errors.OpenQuote

-- a closed quote that another byte than a space follows
abbrev pub FollowedIsRefused : Type 0
FollowedIsRefused =
    (word more : List ℕ) (b : ℕ) → IsTrue (has_no_quote word) → b ≢ 32 → words_of (39 ∷ word ++ 39 ∷ b ∷ more) ≡ Err (errors.BadWord 0)

-- the end of a line, or a space
abbrev pub EndsWord : List ℕ → Type 0
EndsWord [] = ⊤
EndsWord (b ∷ bs) = b ≡ 32

-- no byte, or a quote behind the first byte, which is none
abbrev pub IsBadBare : List ℕ → Type 0
IsBadBare [] = ⊤
IsBadBare (b ∷ bs) = (b ≢ 39) × IsTrue (not (has_no_quote bs))

-- a word up to a space or the end of the line that begins with no quote, and is empty or has one
abbrev pub BareIsRefused : Type 0
BareIsRefused =
    (word more : List ℕ) → IsTrue (has_no_space word) → EndsWord more → IsBadBare word → words_of (word ++ more) ≡ Err (errors.BadWord 0)
