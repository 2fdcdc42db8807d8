-- What two words say of a check.
use Rattle.std.proofs.Common.{◌≡◌, ℕ, Bool, true, false, List, Option, None, Some, Result, Ok, Err, refl, sym, ap, ◌∙◌}
use Rattle.std.specs.Prelude.{is_ok}
use Rattle.file_paths.specs.Path.{FilePath, path_of}
use Rattle.file_paths.specs.declared.path.PathError.{PathError}
use Rattle.tree_proof.specs.Tops.{Digest}
use Rattle.client_proof.specs.Words.{root_of_word}
use Rattle.program_words.proofs.Naming.{path_named}
use Rattle.client_prog.specs.Words.{check_by, checked_by}

-- no path, no check
refused : (root : Option Digest) (read : Result FilePath PathError) → is_ok read ≡ false → check_by root read ≡ None
refused (Some root) (Ok path) bad = absurd (cc bad)
refused (Some root) (Err fault) bad = refl
refused None read bad = refl

pub path_refused : (root path : List ℕ) (test : Bool) → test ≡ is_ok (path_of path) → test ≡ false → checked_by root path ≡ None
unfolding checked_by
path_refused root path test is bad = refused (root_of_word root) (path_of path) (sym is ∙ bad)

-- no root, no check
pub root_refused : (root path : List ℕ) (found : Option Digest) → found ≡ root_of_word root → found ≡ None → checked_by root path ≡ None
unfolding checked_by
root_refused root path found is none = ap (λ (r : Option Digest). check_by r (path_of path)) (sym is ∙ none)

-- a root and a path, which is lent as this text
pub both_taken : (root path text : List ℕ) (digest : Digest) → text ≡ path → Some digest ≡ root_of_word root → is_ok (path_of path) ≡ true
    → (p : FilePath) × (path_of text ≡ Ok p) × (checked_by root path ≡ Some (record { root = digest; path = p }))
unfolding checked_by
both_taken root path text digest same is ok =
    let named = path_named path ok in
    (named.0, ap path_of same ∙ named.1, ap (λ (r : Option Digest). check_by r (path_of path)) (sym is) ∙ ap (check_by (Some digest)) named.1)
