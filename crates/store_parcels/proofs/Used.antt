-- Paths of which some are kept.
use Rattle.std.proofs.Common.{◌≡◌, ℕ, ◌+◌, ◌<◌, Bool, true, false, cond, List, [], ◌∷◌, ◌++◌, length, take, get_or, ◌≤◌, sym, ap, ◌∙◌, subst, drop, append_assoc}
use Rattle.std.specs.Prelude.{Result, Ok, Err, Option, Some, None, IfOk, IfSome}
use Rattle.std.specs.List.{flat_map, AllByRecursion}
use Rattle.std.proofs.lemmas.List.{take_more, drop_more, at_drop_all, append-nil}
use Rattle.std.proofs.lemmas.List.Concat.{flat_map-cons}
use Rattle.std.proofs.lemmas.List.Elements.{All-from_recursion}
use Rattle.file_paths.specs.Path.{FilePath, IsPath}
use Rattle.file_paths.specs.Spelling.{path}
use Rattle.tree_values.specs.Tree.{Volume}
use Rattle.store_parcels.specs.Packing.{HasFilesOf}

all_push : {A : Type 0} (P : A → Type 0) (xs : List A) (x : A) → AllByRecursion P xs → P x → AllByRecursion P (xs ++ x ∷ [])
all_push P [] x all here = (here, tt)
all_push P (y ∷ ys) x all here = (all.0, all_push P ys x all.1 here)

-- one more is a path
pub paths_more : (paths : List FilePath) (i : ℕ) (p : FilePath) → i < length paths → p ≡ get_or paths i p
    → AllByRecursion IsPath (take i paths) → IsPath p → AllByRecursion IsPath (take (i + 1) paths)
paths_more paths i p within at before here =
    subst (AllByRecursion IsPath) (sym (take_more paths i p within)) (all_push IsPath (take i paths) (get_or paths i p) before (subst IsPath at here))

-- of each index
pub all_at : {A : Type 0} (P : A → Type 0) (xs : List A) (i : ℕ) (x : A) → i < length xs → x ≡ get_or xs i x → AllByRecursion P xs → P x
all_at P xs i x within at all = subst P (sym at) (All-from_recursion P xs all i x within)

-- where the other volume has the files of these paths, it has those of the kept ones
abbrev pub IsKept : Volume → List FilePath → List FilePath → Type 0
IsKept volume paths kept = (other : Volume) → HasFilesOf volume paths other → HasFilesOf volume kept other

pub kept_on : (volume : Volume) (paths kept : List FilePath) (i : ℕ) (p : FilePath) (keep : Bool) → i < length paths → p ≡ get_or paths i p
    → IsKept volume paths kept → IsKept volume paths (cond keep (kept ++ p ∷ []) kept)
kept_on volume paths kept i p true within at so_far other alike =
    all_push _ kept p (so_far other alike) (all_at _ paths i p within at alike)
kept_on volume paths kept i p false within at so_far other alike = so_far other alike

-- ---- paths that are put

-- what is put, and what is not yet, is all
abbrev pub IsPut : List ℕ → List ℕ → List FilePath → Type 0
IsPut all out paths = out ++ flat_map path paths ≡ all

pub put_on : (all out after : List ℕ) (paths : List FilePath) (i : ℕ) (p : FilePath) → i < length paths → p ≡ get_or paths i p → after ≡ out ++ path p
    → IsPut all out (drop i paths) → IsPut all after (drop (i + 1) paths)
put_on all out after paths i p within at after_is so_far =
    let rest : List ℕ = flat_map path (drop (i + 1) paths) in
    let cut : flat_map path (drop i paths) ≡ path p ++ rest =
    ap (flat_map path) (drop_more paths i p within) ∙ (flat_map-cons path (get_or paths i p) (drop (i + 1) paths) ∙ ap (λ (q : FilePath). path q ++ rest) (sym at)) in
    ap (λ (l : List ℕ). l ++ rest) after_is ∙ (append_assoc out (path p) rest ∙ (ap (λ (l : List ℕ). out ++ l) (sym cut) ∙ so_far))

pub put_end : (all out : List ℕ) (paths : List FilePath) (i : ℕ) → length paths ≤ i → IsPut all out (drop i paths) → out ≡ all
put_end all out paths i le so_far =
    let none : out ++ flat_map path (drop i paths) ≡ out = at_drop_all (λ (rest : List FilePath). out ++ flat_map path rest) paths i le ∙ append-nil out in
    sym none ∙ so_far

-- ---- what was found

pub found_weaker : {V E : Type 0} (P Q : V → Type 0) → ((v : V) → P v → Q v) → (r : Result (Option V) E) → IfOk r (λ found. IfSome found P) → IfOk r (λ found. IfSome found Q)
found_weaker P Q f (Ok (Some v)) h = f v h
found_weaker P Q f (Ok None) h = h
found_weaker P Q f (Err e) h = h
