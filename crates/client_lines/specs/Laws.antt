-- Which lines of an input a session handles.
use Rattle.std.specs.Prelude.{◌≡◌, ℕ, true, false, List, [], ◌∷◌, ◌++◌}
use Rattle.client_lines.specs.Run.{quits, has_quit, up_to_quit}

-- a line that quits, behind lines that do not, is the last that counts
abbrev pub QuitIsTheLast : Type 0
QuitIsTheLast =
    (front : List (List ℕ)) (line : List ℕ) (behind : List (List ℕ)) → has_quit front ≡ false → quits line ≡ true
    → up_to_quit (front ++ line ∷ behind) ≡ front ++ line ∷ []

-- where none quits, all of them count
abbrev pub AllCountWithoutQuit : Type 0
AllCountWithoutQuit = (lines : List (List ℕ)) → has_quit lines ≡ false → up_to_quit lines ≡ lines
