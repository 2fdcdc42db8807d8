-- What holds of every certificate.
use Rattle.std.specs.Prelude.{◌≡◌, ℕ, ◌*◌, ◌^◌, ◌<◌, ◌≤◌, List, [], ◌∷◌, length, take, drop, Ok}
use Rattle.byte_fields.specs.Codec.{IsBytes}
use Rattle.rs_parity.specs.Sketches.{Distinct}
use Rattle.file_paths.specs.Path.{FilePath}
use Rattle.tree_values.specs.Lists.{IsIn}
use Rattle.tree_values.specs.Limits.{max_rows}
use Rattle.tree_values.specs.Tree.{Volume, IsTree}
use Rattle.tree_proof.specs.declared.checking.Finding.{Finding}
use Rattle.tree_proof.specs.Tops.{Digest, pair_of, top}
use Rattle.tree_proof.specs.Texts.{check_texts}
use Rattle.tree_proof.specs.Checking.{checked}
use Rattle.tree_proof.specs.Trees.{root_of, proof_of, found_at, tree_texts}

-- Where bytes are taken for a root, every tree with that root has at the path just the row that was found, or none, unless two
-- different texts that were hashed, one in the check and one for the tree's root, have one digest.
abbrev pub FindingsAreTrue : Type 0
FindingsAreTrue =
    (root : Digest) (asked : FilePath) (bytes : List ℕ) (finding : Finding) (rows : Volume) → IsBytes bytes → IsTree rows
    → checked root asked bytes ≡ Ok finding → root_of rows ≡ root
    → Distinct (λ text. IsIn text (check_texts bytes)) (λ text. IsIn text (tree_texts rows)) → finding ≡ found_at rows asked

-- what is proved of a path is taken for the tree's root, and says what stands there
abbrev pub ProofsAreTaken : Type 0
ProofsAreTaken = (rows : Volume) (asked : FilePath) → IsTree rows
    → checked (root_of rows) asked (proof_of rows asked) ≡ Ok (found_at rows asked)

-- The top of one digest is itself; that of more is the pair of the top of the first so many and of the top of the others, so many
-- being the greatest power of two below their number.
pub record TopsAreOfPairs : Type 0 where
  pub one : (digest : Digest) → top (digest ∷ []) ≡ digest
  pub more : (digests : List Digest) (exponent : ℕ) → length digests ≤ max_rows → 2 ^ exponent < length digests
      → length digests ≤ 2 * 2 ^ exponent
      → top digests ≡ pair_of (top (take (2 ^ exponent) digests)) (top (drop (2 ^ exponent) digests))
