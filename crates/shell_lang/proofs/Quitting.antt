-- Which lines ask for the end of a session.
use Rattle.std.proofs.Common.{◌≡◌, ◌⊎◌, inl, inr, ℕ, Bool, true, false, List, [], ◌∷◌, ◌++◌, Option, None, Some, Result, Ok, Err, refl, sym, ◌∙◌, ap}
use Rattle.std.specs.Prelude.{codes, find, if◌then◌else◌, ok_or}
use Rattle.std.specs.Str.{bytes_eq}
use Rattle.std.proofs.lemmas.Slice.Eq.{bytes_eq-Decides}
use Rattle.shell_lang.specs.declared.line.Line.TheVariants as lines
use Rattle.shell_lang.specs.declared.line.LineError.{LineError}
use Rattle.shell_lang.specs.declared.line.LineError.TheVariants.{UnknownWord}
use Rattle.shell_lang.specs.declared.command.Verb.{Verb}
use Rattle.shell_lang.specs.declared.command.Verb.TheVariants as commands
use Rattle.shell_lang.specs.Words.{words_of, ◌>>=◌}
use Rattle.shell_lang.specs.Spelling.{Spelling, spelled, spelled_line, words_spelled}
use Rattle.shell_lang.specs.Reading.{IsSpelling}
use Rattle.shell_lang.specs.Commands.{command_word, command_of, all_commands, line_of, line_of_words, read_line, OnlyQuitQuits}
use Rattle.shell_lang.proofs.Read.{read_is_spelled}

found_by : {X : Type 0} (b : Bool) (test : X → Bool) (y : X) (ys : List X) (x : X) → test y ≡ b → (if test y then Some y else find test ys) ≡ Some x
    → (find test ys ≡ Some x → test x ≡ true) → test x ≡ true
found_by {X} true test y ys x passes is rest =
    let first : Some y ≡ Some x = rw passes at is in let same : y ≡ x = cc (first) in ap test (sym same) ∙ passes
found_by {X} false test y ys x fails is rest = rest (rw fails at is)

-- what a search finds passes
found : {X : Type 0} (test : X → Bool) (xs : List X) (x : X) → find test xs ≡ Some x → test x ≡ true
found test [] x is = absurd (cc (is))
found {X} test (y ∷ ys) x is = found_by (test y) test y ys x refl is (found test ys x)

-- the only command that makes it of any words
quit_of : (command : Verb) (words : List (List ℕ)) → line_of command words ≡ Ok lines.Quit → (command ≡ commands.Quit) × (words ≡ [])
quit_of commands.Put [] is = absurd (cc (is))
quit_of commands.Put (a ∷ []) is = absurd (cc (is))
quit_of commands.Put (a ∷ b ∷ []) is = absurd (cc (is))
quit_of commands.Put (a ∷ b ∷ c ∷ more) is = absurd (cc (is))
quit_of commands.Make [] is = absurd (cc (is))
quit_of commands.Make (a ∷ []) is = absurd (cc (is))
quit_of commands.Make (a ∷ b ∷ more) is = absurd (cc (is))
quit_of commands.Remove [] is = absurd (cc (is))
quit_of commands.Remove (a ∷ []) is = absurd (cc (is))
quit_of commands.Remove (a ∷ b ∷ more) is = absurd (cc (is))
quit_of commands.Move [] is = absurd (cc (is))
quit_of commands.Move (a ∷ []) is = absurd (cc (is))
quit_of commands.Move (a ∷ b ∷ []) is = absurd (cc (is))
quit_of commands.Move (a ∷ b ∷ c ∷ more) is = absurd (cc (is))
quit_of commands.Cat [] is = absurd (cc (is))
quit_of commands.Cat (a ∷ []) is = absurd (cc (is))
quit_of commands.Cat (a ∷ b ∷ more) is = absurd (cc (is))
quit_of commands.List [] is = absurd (cc (is))
quit_of commands.List (a ∷ []) is = absurd (cc (is))
quit_of commands.List (a ∷ b ∷ more) is = absurd (cc (is))
quit_of commands.Enter [] is = absurd (cc (is))
quit_of commands.Enter (a ∷ []) is = absurd (cc (is))
quit_of commands.Enter (a ∷ b ∷ more) is = absurd (cc (is))
quit_of commands.Run words is = absurd (cc (is))
quit_of commands.Status [] is = absurd (cc (is))
quit_of commands.Status (a ∷ more) is = absurd (cc (is))
quit_of commands.Sync [] is = absurd (cc (is))
quit_of commands.Sync (a ∷ more) is = absurd (cc (is))
quit_of commands.Pull [] is = absurd (cc (is))
quit_of commands.Pull (a ∷ more) is = absurd (cc (is))
quit_of commands.Quit [] is = (refl, refl)
quit_of commands.Quit (a ∷ more) is = absurd (cc (is))

first_is_quit : (first : List ℕ) → command_of first ≡ Some commands.Quit → first ≡ codes "quit"
first_is_quit first is =
    (bytes_eq-Decides first (codes "quit")).0 (found (λ (command : Verb). bytes_eq first (command_word command)) all_commands commands.Quit is)

named : (first : List ℕ) (words : List (List ℕ)) (o : Option Verb) → command_of first ≡ o
    → (ok_or o UnknownWord >>= (λ (command : Verb). line_of command words)) ≡ Ok lines.Quit → first ∷ words ≡ codes "quit" ∷ []
named first words None is reads = absurd (cc (reads))
named first words (Some command) is reads =
    let both = quit_of command words reads in
    ap (λ (w : List ℕ). w ∷ words) (first_is_quit first (is ∙ ap Some both.0)) ∙ ap (λ (ws : List (List ℕ)). codes "quit" ∷ ws) both.1

-- the only words
words_are : (words : List (List ℕ)) → line_of_words words ≡ Ok lines.Quit → words ≡ codes "quit" ∷ []
words_are [] is = absurd (cc (is))
words_are (first ∷ words) is = named first words (command_of first) refl is

read_are : (line : List ℕ) (read : Result (List (List ℕ)) LineError) → words_of line ≡ read → (read >>= line_of_words) ≡ Ok lines.Quit
    → words_of line ≡ Ok (codes "quit" ∷ [])
read_are line (Err e) is reads = absurd (cc (reads))
read_are line (Ok words) is reads = is ∙ ap Ok (words_are words reads)

-- a word that is spelled alone
one_word : (spellings : List Spelling) (word : List ℕ) → words_spelled spellings ≡ word ∷ []
    → (spelled_line spellings ≡ word) ⊎ (spelled_line spellings ≡ 39 ∷ word ++ 39 ∷ [])
one_word [] word is = absurd (cc (is))
one_word (s ∷ t ∷ more) word is = absurd (cc (is))
one_word (s ∷ []) word is = by s.quoted refl
  where
    same : s.word ≡ word
    same = cc (is)

    by : (b : Bool) → s.quoted ≡ b → (spelled s ≡ word) ⊎ (spelled s ≡ 39 ∷ word ++ 39 ∷ [])
    by true so = inr (ap (λ (q : Bool). if q then 39 ∷ s.word ++ 39 ∷ [] else s.word) so ∙ ap (λ (w : List ℕ). 39 ∷ w ++ 39 ∷ []) same)
    by false bare = inl (ap (λ (q : Bool). if q then 39 ∷ s.word ++ 39 ∷ [] else s.word) bare ∙ same)

spelled_so : (line : List ℕ) → IsSpelling line (codes "quit" ∷ []) → (line ≡ codes "quit") ⊎ (line ≡ codes "'quit'")
spelled_so line is = by (one_word is.spellings (codes "quit") is.of_words)
  where
    by : (spelled_line is.spellings ≡ codes "quit") ⊎ (spelled_line is.spellings ≡ codes "'quit'") → (line ≡ codes "quit") ⊎ (line ≡ codes "'quit'")
    by (inl bare) = inl (is.of_line ∙ bare)
    by (inr quoted) = inr (is.of_line ∙ quoted)

pub quits_are : (line : List ℕ) → read_line line ≡ Ok lines.Quit → (line ≡ codes "quit") ⊎ (line ≡ codes "'quit'")
quits_are [] is = absurd (cc (is))
quits_are (b ∷ bs) is = spelled_so (b ∷ bs) (read_is_spelled (b ∷ bs) (codes "quit" ∷ []) (read_are (b ∷ bs) (words_of (b ∷ bs)) refl is))

they_quit : (line : List ℕ) → (line ≡ codes "quit") ⊎ (line ≡ codes "'quit'") → read_line line ≡ Ok lines.Quit
they_quit line (inl bare) = ap read_line bare
they_quit line (inr quoted) = ap read_line quoted

pub only_quit_quits : OnlyQuitQuits
only_quit_quits line = (quits_are line, they_quit line)
