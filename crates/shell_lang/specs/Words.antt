-- The words of a line: the line is cut at each space outside quotes, and each piece is a word or breaks the rule of words.
use Rattle.std.specs.Prelude.{◌≡◌, ◌≢◌, ℕ, ◌+◌, Bool, true, false, ◌&&◌, ◌||◌, not, ◌==◌, List, [], ◌∷◌, length, take, drop, position}
use Rattle.std.specs.Prelude.{Option, Some, None, is_some, Result, Ok, Err, if◌then◌else◌}
use Rattle.std.specs.List.{onto_first}
use Rattle.byte_fields.specs.Numbers.{as_u32}
use Rattle.shell_lang.specs.declared.line.LineError.{LineError}
use Rattle.shell_lang.specs.declared.line.LineError.TheVariants.{BadWord, OpenQuote, Memory}

-- ---- answers

-- what a call returned is what the definition says, unless memory ran out
abbrev pub GivesLine : {A : Type 0} → Result A LineError → Result A LineError → Type 0
GivesLine (Ok x) read = read ≡ Ok x
GivesLine (Err e) read = e ≢ Memory → read ≡ Err e

-- the next step, unless a word was refused
infixl 10 ◌>>=◌
abbrev pub ◌>>=◌ : {A B : Type 0} → Result A LineError → (A → Result B LineError) → Result B LineError
(Ok x) >>= f = f x
(Err e) >>= f = Err e

-- ---- pieces

abbrev pub is_quote : ℕ → Bool
is_quote b = b == 39

-- whether what follows the byte stands inside quotes
abbrev pub inside_after : Bool → ℕ → Bool
inside_after inside b = if is_quote b then not inside else inside

-- whether the byte ends a piece, or opens or closes quotes
abbrev pub is_mark : Bool → ℕ → Bool
is_mark inside b = is_quote b || ((b == 32) && not inside)

-- the text cut at each space outside quotes, where its front stands inside quotes or not
abbrev pub pieces_from : Bool → List ℕ → List (List ℕ)
pieces_from inside [] = [] ∷ []
pieces_from inside (b ∷ bs) =
    if (b == 32) && not inside then [] ∷ pieces_from inside bs else onto_first b (pieces_from (inside_after inside b) bs)

abbrev pub word_pieces : List ℕ → List (List ℕ)
word_pieces line = pieces_from false line

-- where the first piece ends, if there is another
abbrev pub EndsFirst : List ℕ → Option ℕ → Type 0
EndsFirst text None = word_pieces text ≡ text ∷ []
EndsFirst text (Some end) = word_pieces text ≡ take end text ∷ word_pieces (drop (end + 1) text)

-- ---- words

abbrev pub is_empty : List ℕ → Bool
is_empty [] = true
is_empty (b ∷ bs) = false

-- word i, unquoted
abbrev pub bare_word : ℕ → List ℕ → Result (List ℕ) LineError
bare_word i piece =
    if is_empty piece || is_some (position is_quote piece) then Err (BadWord (as_u32 i)) else Ok piece

-- word i, from what is behind its first quote and the place of the next one in it
abbrev pub closed_word : ℕ → List ℕ → Option ℕ → Result (List ℕ) LineError
closed_word i inner None = Err OpenQuote
closed_word i inner (Some end) = if end + 1 == length inner then Ok (take end inner) else Err (BadWord (as_u32 i))

-- word i
abbrev pub word_of : ℕ → List ℕ → Result (List ℕ) LineError
word_of i [] = bare_word i []
word_of i (b ∷ bs) =
    if is_quote b then closed_word i bs (position is_quote bs) else bare_word i (b ∷ bs)

-- the words of the pieces, of which the first is word i, or the first refusal
abbrev pub words_from : ℕ → List (List ℕ) → Result (List (List ℕ)) LineError
words_from i [] = Ok []
words_from i (piece ∷ more) = do
  word ← word_of i piece
  words ← words_from (i + 1) more
  Ok (word ∷ words)

-- the words of a line, or the first refusal from the left
abbrev pub words_of : List ℕ → Result (List (List ℕ)) LineError
words_of line = words_from 0 (word_pieces line)
