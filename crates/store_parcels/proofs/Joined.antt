-- Contents that are joined one after the other.
use Rattle.std.proofs.Common.{◌≡◌, ℕ, ◌+◌, ◌<◌, ◌≤◌, List, [], ◌∷◌, ◌++◌, length, drop, get_or, refl, sym, ap, ◌∙◌, arith, append_assoc, length-append}
use Rattle.std.specs.Prelude.{Option, Some, None, nat_le}
use Rattle.std.specs.Option.{option_map, option_and_then}
use Rattle.std.proofs.lemmas.List.{drop_more, at_drop_all, append-nil}
use Rattle.byte_fields.proofs.Facts.{le_holds, le_fails}
use Rattle.file_paths.specs.Path.{FilePath}
use Rattle.tree_values.specs.Limits.{max_files}
use Rattle.tree_values.specs.Tree.{Volume}
use Rattle.store_parcels.specs.Opening.{file_at, joined, few, known_in}

-- these bytes, and the contents of the files at these paths behind them
abbrev pub with_joined : List ℕ → Option (List ℕ) → Option (List ℕ)
with_joined known others = option_and_then few (option_map (λ bytes. known ++ bytes) others)

-- what is joined, and what is not yet, is all
abbrev pub IsJoined : Option (List ℕ) → Volume → List ℕ → List FilePath → Type 0
IsJoined all volume known paths = with_joined known (joined volume paths) ≡ all

with_nothing : (others : Option (List ℕ)) → with_joined [] others ≡ option_and_then few others
with_nothing None = refl
with_nothing (Some bytes) = refl

pub joined_start : (volume : Volume) (paths : List FilePath) → IsJoined (known_in volume paths) volume [] (drop 0 paths)
joined_start volume paths = with_nothing (joined volume paths)

regrouped : (known content : List ℕ) (others : Option (List ℕ))
    → with_joined known (option_map (λ bytes. content ++ bytes) others) ≡ with_joined (known ++ content) others
regrouped known content None = refl
regrouped known content (Some bytes) = ap few (sym (append_assoc known content bytes))

-- the next content is joined
pub joined_on : (all : Option (List ℕ)) (volume : Volume) (known content : List ℕ) (paths : List FilePath) (i : ℕ) (d : FilePath)
    → i < length paths → file_at volume (get_or paths i d) ≡ Some content
    → IsJoined all volume known (drop i paths) → IsJoined all volume (known ++ content) (drop (i + 1) paths)
joined_on all volume known content paths i d lt found so_far =
    let cut : drop i paths ≡ get_or paths i d ∷ drop (i + 1) paths = drop_more paths i d lt in
    let one : with_joined known (joined volume (get_or paths i d ∷ drop (i + 1) paths)) ≡ with_joined (known ++ content) (joined volume (drop (i + 1) paths)) =
    rw found (regrouped known content (joined volume (drop (i + 1) paths))) in
    sym one ∙ (ap (λ rest. with_joined known (joined volume rest)) (sym cut) ∙ so_far)

-- the next path is no file
pub joined_stops : (all : Option (List ℕ)) (volume : Volume) (known : List ℕ) (paths : List FilePath) (i : ℕ) (d : FilePath)
    → i < length paths → file_at volume (get_or paths i d) ≡ None → IsJoined all volume known (drop i paths) → all ≡ None
joined_stops all volume known paths i d lt missing so_far =
    let cut : drop i paths ≡ get_or paths i d ∷ drop (i + 1) paths = drop_more paths i d lt in
    let none : with_joined known (joined volume (get_or paths i d ∷ drop (i + 1) paths)) ≡ None = rw missing refl in
    sym so_far ∙ (ap (λ rest. with_joined known (joined volume rest)) cut ∙ none)

too_many : (known : List ℕ) (others : Option (List ℕ)) → max_files < length known → with_joined known others ≡ None
too_many known None many = refl
too_many known (Some bytes) many =
    let t : nat_le (length (known ++ bytes)) max_files ≡ _ = le_fails (length (known ++ bytes)) max_files (omega (arith, length-append known bytes)) in
    rw t refl

-- with the next content there are too many bytes
pub joined_passes : (all : Option (List ℕ)) (volume : Volume) (known content : List ℕ) (paths : List FilePath) (i : ℕ) (d : FilePath)
    → i < length paths → file_at volume (get_or paths i d) ≡ Some content → max_files < length known + length content
    → IsJoined all volume known (drop i paths) → all ≡ None
joined_passes all volume known content paths i d lt found many so_far =
    let on : IsJoined all volume (known ++ content) (drop (i + 1) paths) = joined_on all volume known content paths i d lt found so_far in
    sym on ∙ too_many (known ++ content) (joined volume (drop (i + 1) paths)) (omega (arith, length-append known content))

-- all are joined
pub joined_end : (all : Option (List ℕ)) (volume : Volume) (known : List ℕ) (paths : List FilePath) (i : ℕ)
    → length paths ≤ i → length known ≤ max_files → IsJoined all volume known (drop i paths) → all ≡ Some known
joined_end all volume known paths i le small so_far =
    let t : nat_le (length known) max_files ≡ _ = le_holds (length known) max_files small in
    let last : with_joined known (Some []) ≡ Some known = rw (append-nil known, t) refl in
    sym so_far ∙ (at_drop_all (λ rest. with_joined known (joined volume rest)) paths i le ∙ last)
