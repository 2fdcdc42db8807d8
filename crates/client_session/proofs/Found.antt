-- What is found at a path, by the two tests that the tree has for it, and the paths of what is in a folder.
use Rattle.std.proofs.Common.{◌≡◌, ℕ, zero, suc, ◌+◌, ◌-◌, ◌<◌, Bool, true, false, ◌&&◌, not, ◌==◌, List, [], ◌∷◌, ◌++◌, length, get_or, take, filter, map, Ok, refl, sym, ◌∙◌, ap, subst, arith, cond, true≢false, append_assoc, if◌then◌else◌}
use Rattle.std.specs.Prelude.{nat_lt, nat_le, is_some}
use Rattle.std.specs.Cmp.{first_so, second_so}
use Rattle.std.specs.List.{AllByRecursion, list_all}
use Rattle.std.proofs.lemmas.List.{take_more, take_all}
use Rattle.std.proofs.lemmas.List.Folds.{list_all-append}
use Rattle.file_paths.specs.Path.{FilePath, IsPath, is_name, is_name_byte, is_dots, path_text, text_before, resolved, path_of, folder_of, last_name, is_same_path}
use Rattle.tree_values.specs.Tree.{Volume, IsRow, is_child, is_root, children}
use Rattle.tree_values.specs.declared.node.Row.{Row}
use Rattle.file_paths.proofs.PathTexts.{text_of_path_read}
use Rattle.file_paths.proofs.Order.{tied_path}

-- ---- a name in a folder

joined_behind : (n : List ℕ) (ns : FilePath) (word : List ℕ) → path_text (n ∷ ns) ++ 47 ∷ word ≡ path_text (n ∷ ns ++ word ∷ [])
joined_behind n [] word = refl
joined_behind n (m ∷ ms) word = append_assoc n (47 ∷ path_text (m ∷ ms)) (47 ∷ word) ∙ ap (λ (rest : List ℕ). n ++ 47 ∷ rest) (joined_behind m ms word)

text_behind : (folder : FilePath) (name : List ℕ) → text_before folder name ≡ path_text (folder ++ name ∷ [])
text_behind [] name = refl
text_behind (n ∷ ns) name = joined_behind n ns name

last_is_name : (folder : FilePath) (name : List ℕ) → list_all is_name (folder ++ name ∷ []) ≡ true → is_name name ≡ true
last_is_name folder name all =
    first_so (is_name name) true (second_so (list_all is_name folder) (list_all is_name (name ∷ [])) (sym (list_all-append is_name folder (name ∷ [])) ∙ all))

is_not : (b : Bool) → not b ≡ true → b ≡ false
is_not false e = refl
is_not true e = absurd (true≢false (sym e))

no_slash_first : (b : ℕ) (bs : List ℕ) → is_name (b ∷ bs) ≡ true → (b == 47) ≡ false
no_slash_first b bs named =
    let bytes : list_all is_name_byte (b ∷ bs) ≡ true = second_so (nat_le 1 (length (b ∷ bs)) && nat_le (length (b ∷ bs)) 255) (list_all is_name_byte (b ∷ bs)) (first_so _ (not (is_dots (b ∷ bs))) named) in
    let first = first_so (is_name_byte b) (list_all is_name_byte bs) bytes in
    is_not (b == 47) (second_so (nat_lt b 256) (not (b == 47)) (first_so (nat_lt b 256 && not (b == 47)) (not (b == 0)) first))

-- it is resolved as the path of what stands there
pub name_resolved : (folder : FilePath) (name : List ℕ) → IsPath (folder ++ name ∷ []) → resolved folder name ≡ Ok (folder ++ name ∷ [])
name_resolved folder [] is = absurd (true≢false (sym (last_is_name folder [] is.named)))
name_resolved folder (b ∷ bs) is =
    ap (λ (test : Bool). if test then path_of bs else path_of (text_before folder (b ∷ bs))) (no_slash_first b bs (last_is_name folder (b ∷ bs) is.named))
    ∙ ap path_of (text_behind folder (b ∷ bs)) ∙ text_of_path_read (folder ++ (b ∷ bs) ∷ []) is

-- ---- the paths of what is in a folder

some_length : (path : FilePath) → is_root path ≡ false → (length path - 1) + 1 ≡ length path
some_length [] is = absurd (true≢false is)
some_length (n ∷ ns) is = omega arith

path_is_split : (path : FilePath) → is_root path ≡ false → folder_of path ++ last_name path ∷ [] ≡ path
path_is_split path is =
    let long = some_length path is in
    sym (take_more path (length path - 1) [] (omega (arith, long))) ∙ ap (λ (n : ℕ). take n path) long ∙ take_all (length path) path (omega arith)

child_path : (folder : FilePath) (row : Row) → IsRow row → is_child folder row ≡ true → IsPath (folder ++ last_name row.path ∷ [])
child_path folder row is child =
    let same : folder_of row.path ≡ folder = tied_path (folder_of row.path) folder (second_so (is_some row.node) (is_same_path (folder_of row.path) folder) child) in
    subst IsPath (sym (ap (λ (front : FilePath). front ++ last_name row.path ∷ []) (sym same) ∙ path_is_split row.path is.below_root)) is.is_path

path_added : (folder : FilePath) (row : Row) (rest : List Row) (b : Bool) → is_child folder row ≡ b → IsRow row → AllByRecursion (λ (name : List ℕ). IsPath (folder ++ name ∷ [])) (map (λ (r : Row). last_name r.path) rest)
    → AllByRecursion (λ (name : List ℕ). IsPath (folder ++ name ∷ [])) (map (λ (r : Row). last_name r.path) (cond b (row ∷ rest) rest))
path_added folder row rest true is sound all = (child_path folder row sound is, all)
path_added folder row rest false is sound all = all

paths_in : (rows : List Row) (folder : FilePath) → AllByRecursion IsRow rows → AllByRecursion (λ (name : List ℕ). IsPath (folder ++ name ∷ [])) (children rows folder)
paths_in [] folder each = each
paths_in (row ∷ rows) folder each = path_added folder row (filter (is_child folder) rows) (is_child folder row) refl each.0 (paths_in rows folder each.1)

each_at : (P : List ℕ → Type 0) (names : List (List ℕ)) (k : ℕ) (d : List ℕ) → AllByRecursion P names → k < length names → P (get_or names k d)
each_at P [] k d all within = absurd (omega arith)
each_at P (name ∷ names) zero d all within = all.0
each_at P (name ∷ names) (suc k) d all within = each_at P names k d all.1 (omega arith)

pub child_is_path : (rows : Volume) (folder : FilePath) (k : ℕ) (d : List ℕ) → AllByRecursion IsRow rows → k < length (children rows folder) → IsPath (folder ++ get_or (children rows folder) k d ∷ [])
child_is_path rows folder k d each within = each_at (λ (name : List ℕ). IsPath (folder ++ name ∷ [])) (children rows folder) k d (paths_in rows folder each) within
