-- The texts that are hashed for a top, and in a check.
use Rattle.std.specs.Prelude.{ℕ, zero, suc, ◌-◌, ◌^◌, nat_le, nat_lt, List, []}
use Rattle.std.specs.Prelude.{◌∷◌, ◌++◌, length, take, drop, Result, Ok, Err, if◌then◌else◌}
use Rattle.std.specs.List.{flat_map}
use Rattle.tree_proof.specs.declared.certificate.Leaf.{Leaf}
use Rattle.tree_proof.specs.Limits.{most_levels}
use Rattle.tree_proof.specs.Tops.{Digest, leaf_text, pair_text, root_text, leaf_of, top_within, climbed_within, front_of, topmost}
use Rattle.tree_proof.specs.Certificate.{Certificate, certificate_in}

-- those of the pairs below a top
unfoldable pub top_texts : ℕ → List Digest → List (List ℕ)
top_texts zero digests = []
top_texts (suc levels) digests =
    if nat_le (length digests) (2 ^ levels) then top_texts levels digests
    else pair_text (top_within levels (take (2 ^ levels) digests)) (top_within levels (drop (2 ^ levels) digests))
    ∷ (top_texts levels (take (2 ^ levels) digests) ++ top_texts levels (drop (2 ^ levels) digests))

-- those of the pairs on the way of one digest to the top
unfoldable pub way_texts : ℕ → ℕ → ℕ → Digest → List Digest → List (List ℕ)
way_texts zero count place leaf beside = []
way_texts (suc levels) count place leaf beside =
    if nat_le count (2 ^ levels) then way_texts levels count place leaf beside
    else (if nat_lt place (2 ^ levels)
    then pair_text (climbed_within levels (2 ^ levels) place leaf (front_of beside)) (topmost beside)
    ∷ way_texts levels (2 ^ levels) place leaf (front_of beside)
    else pair_text (topmost beside) (climbed_within levels (count - 2 ^ levels) (place - 2 ^ levels) leaf (front_of beside))
    ∷ way_texts levels (count - 2 ^ levels) (place - 2 ^ levels) leaf (front_of beside))

-- those of one row that is shown
abbrev pub shown_texts : ℕ → Leaf → List (List ℕ)
shown_texts count leaf =
    root_text count (climbed_within most_levels count leaf.place (leaf_of leaf.row) leaf.beside)
    ∷ leaf_text leaf.row ∷ way_texts most_levels count leaf.place (leaf_of leaf.row) leaf.beside

-- those of a certificate's check
abbrev pub certificate_texts : ℕ → List Leaf → List (List ℕ)
certificate_texts count [] = root_text count [] ∷ []
certificate_texts count (leaf ∷ leaves) = flat_map (shown_texts count) (leaf ∷ leaves)

abbrev pub read_texts : Result Certificate ℕ → List (List ℕ)
read_texts (Ok certificate) = certificate_texts certificate.head.count certificate.leaves
read_texts (Err place) = []

-- those of the check of these bytes
abbrev pub check_texts : List ℕ → List (List ℕ)
check_texts bytes = read_texts (certificate_in bytes)
