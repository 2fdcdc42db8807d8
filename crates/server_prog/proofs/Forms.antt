-- The forms of the words.
use Rattle.std.proofs.Common.{◌≡◌, ◌≢◌, ◌⊎◌, ◌∙◌, ℕ, Bool, true, List, [], ◌∷◌, None, Some, Ok, option_map, ap, subst}
use Rattle.std.specs.Prelude.{if◌then◌else◌}
use Rattle.file_paths.specs.Path.{FilePath, path_of}
use Rattle.server_prog.specs.declared.words.RunWords.{RunWords}
use Rattle.server_prog.specs.declared.words.Form.{Form}
use Rattle.server_prog.specs.declared.words.Form.TheVariants as forms
use Rattle.server_prog.specs.Words.{ServerInvocation, Run, Prove, server_run_of, is_prove_word, with_path, form_of, run_said, HasForm}

-- what the reader says of the words, by its form
pub has_run : (words : List (List ℕ)) (form : Form) (run : RunWords) → form ≡ forms.Run run → HasForm words form → server_run_of words ≡ Some (run_said run)
has_run words form run is has = (subst (HasForm words) is has).0

-- the words `prove IMAGE PATH`
pub prove_is : (prove image text : List ℕ) (path : FilePath) → is_prove_word prove image ≡ true → path_of text ≡ Ok path → form_of (prove ∷ image ∷ text ∷ []) ≡ Some (Prove image path)
prove_is prove image text path word is =
    ap (λ (b : Bool). if b then with_path image (path_of text) else None) word ∙ ap (with_path image) is

-- what the words of a run have is its form
pub run_has_form : (words : List (List ℕ)) (run : ServerInvocation) → server_run_of words ≡ Some run → form_of words ≡ Some (Run run)
run_has_form [] run is = absurd (cc is)
run_has_form (a ∷ []) run is = absurd (cc is)
run_has_form (a ∷ b ∷ []) run is = absurd (cc is)
run_has_form (a ∷ b ∷ c ∷ []) run is = absurd (cc is)
run_has_form (a ∷ b ∷ c ∷ d ∷ rest) run is = ap (option_map Run) is
