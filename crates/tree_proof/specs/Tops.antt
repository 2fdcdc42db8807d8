-- The root of a tree: a digest of the number of its rows and of the top of their digests, which are hashed in pairs.
use Rattle.std.specs.Prelude.{ℕ, zero, suc, ◌+◌, ◌-◌, ◌^◌, nat_le, nat_lt, List, [], ◌∷◌, ◌++◌, length, take, drop, slice_index_or}
use Rattle.std.specs.Prelude.{if◌then◌else◌}
use Rattle.std.specs.Int.{w32}
use Rattle.sha2.specs.Sha256.{sha256}
use Rattle.byte_fields.specs.Field.{digits}
use Rattle.tree_proof.specs.declared.slim.SlimRow.{SlimRow}
use Rattle.tree_proof.specs.Limits.{most_levels}
use Rattle.tree_proof.specs.Slim.{slim_spelling}

-- the bytes of a SHA-256
abbrev pub Digest : Type 0
Digest = List ℕ

-- ---- what is hashed: its first byte tells texts of leaves, of pairs and of roots apart

abbrev pub leaf_text : SlimRow → List ℕ
leaf_text row = 0 ∷ slim_spelling row

abbrev pub pair_text : Digest → Digest → List ℕ
pair_text left right = 1 ∷ (left ++ right)

-- the number of rows, and their top, where there are any
abbrev pub root_text : ℕ → List ℕ → List ℕ
root_text count top = 2 ∷ (digits w32 count ++ top)

abbrev pub leaf_of : SlimRow → Digest
leaf_of row = sha256 (leaf_text row)

abbrev pub pair_of : Digest → Digest → Digest
pair_of left right = sha256 (pair_text left right)

abbrev pub root_over : ℕ → List ℕ → Digest
root_over count top = sha256 (root_text count top)

-- ---- the top

abbrev pub first_of : List Digest → Digest
first_of digests = slice_index_or digests 0 []

-- The top of 1 to 2 ^ levels digests. Where they are more than half of that many, the lower half is a pair's left side and the
-- others are its right one: so it is always the greatest power of two below their number that stands on the left.
unfoldable pub top_within : ℕ → List Digest → Digest
top_within zero digests = first_of digests
top_within (suc levels) digests =
    if nat_le (length digests) (2 ^ levels) then top_within levels digests
    else pair_of (top_within levels (take (2 ^ levels) digests)) (top_within levels (drop (2 ^ levels) digests))

-- nothing where there are no digests
abbrev pub top : List Digest → List ℕ
top [] = []
top (digest ∷ digests) = top_within most_levels (digest ∷ digests)

-- ---- the way of one digest to the top

-- how many digests stand beside the way of one of so many to the top
unfoldable pub way_within : ℕ → ℕ → ℕ → ℕ
way_within zero count place = 0
way_within (suc levels) count place =
    if nat_le count (2 ^ levels) then way_within levels count place
    else (if nat_lt place (2 ^ levels) then way_within levels (2 ^ levels) place + 1
    else way_within levels (count - 2 ^ levels) (place - 2 ^ levels) + 1)

-- these digests, from the leaf up
unfoldable pub beside_within : ℕ → List Digest → ℕ → List Digest
beside_within zero digests place = []
beside_within (suc levels) digests place =
    if nat_le (length digests) (2 ^ levels) then beside_within levels digests place
    else (if nat_lt place (2 ^ levels)
    then beside_within levels (take (2 ^ levels) digests) place ++ top_within levels (drop (2 ^ levels) digests) ∷ []
    else beside_within levels (drop (2 ^ levels) digests) (place - 2 ^ levels) ++ top_within levels (take (2 ^ levels) digests) ∷ [])

-- the digest nearest to the top, and those below it
abbrev pub topmost : List Digest → Digest
topmost digests = slice_index_or digests (length digests - 1) []

abbrev pub front_of : List Digest → List Digest
front_of digests = take (length digests - 1) digests

-- the top that a leaf computes with the digests beside its way
unfoldable pub climbed_within : ℕ → ℕ → ℕ → Digest → List Digest → Digest
climbed_within zero count place leaf beside = leaf
climbed_within (suc levels) count place leaf beside =
    if nat_le count (2 ^ levels) then climbed_within levels count place leaf beside
    else (if nat_lt place (2 ^ levels)
    then pair_of (climbed_within levels (2 ^ levels) place leaf (front_of beside)) (topmost beside)
    else pair_of (topmost beside) (climbed_within levels (count - 2 ^ levels) (place - 2 ^ levels) leaf (front_of beside)))
