-- Whatever reads as words spells them.
use Rattle.std.specs.Prelude.{◌≡◌, ℕ, List, Ok, IsTrue}
use Rattle.std.specs.List.{list_all}
use Rattle.shell_lang.specs.Words.{words_of}
use Rattle.shell_lang.specs.Spelling.{Spelling, can_spell, spelled_line, words_spelled}

-- words that a line spells in one way or another
pub record IsSpelling (line : List ℕ) (words : List (List ℕ)) : Type 0 where
  pub spellings : List Spelling
  pub can : IsTrue (list_all can_spell spellings)
  pub of_words : words_spelled spellings ≡ words
  pub of_line : line ≡ spelled_line spellings

abbrev pub ReadIsSpelled : Type 0
ReadIsSpelled = (line : List ℕ) (words : List (List ℕ)) → words_of line ≡ Ok words → IsSpelling line words
