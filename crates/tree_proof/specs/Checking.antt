-- What a certificate says of a path to the holder of a root, and why it is refused.
use Rattle.std.specs.Prelude.{ℕ, nat_lt, Bool, not, List, [], ◌∷◌, map, find, Option, option_map, Result, Ok, Err}
use Rattle.std.specs.Prelude.{if◌then◌else◌}
use Rattle.std.specs.Str.{bytes_eq}
use Rattle.std.specs.Ordering.{is_lt, is_gt}
use Rattle.byte_fields.specs.Numbers.{as_u32}
use Rattle.file_paths.specs.Refusals.{unless_refused}
use Rattle.file_paths.specs.Path.{FilePath, path_cmp, is_same_path}
use Rattle.tree_proof.specs.declared.certificate.Presence.{Presence}
use Rattle.tree_proof.specs.declared.certificate.Presence.TheVariants.{Present, Absent}
use Rattle.tree_proof.specs.declared.certificate.CertificateHead.{CertificateHead}
use Rattle.tree_proof.specs.declared.certificate.Leaf.{Leaf}
use Rattle.tree_proof.specs.declared.checking.Finding.{Finding}
use Rattle.tree_proof.specs.declared.checking.Finding.TheVariants as found
use Rattle.tree_proof.specs.declared.checking.CheckError.{CheckError}
use Rattle.tree_proof.specs.declared.checking.CheckError.TheVariants.{BadCert, OtherPath, WrongRoot}
use Rattle.tree_proof.specs.Limits.{most_levels}
use Rattle.tree_proof.specs.Tops.{Digest, leaf_of, root_over, climbed_within}
use Rattle.tree_proof.specs.Certificate.{Certificate, certificate_in}

-- whether a row that is shown stands as its place says: it is the path's own, or below the path before its place, and else above
abbrev pub stands_so : Presence → ℕ → FilePath → Leaf → Bool
stands_so Present index asked leaf = is_same_path leaf.row.path asked
stands_so Absent index asked leaf =
    if nat_lt leaf.place index then is_lt (path_cmp leaf.row.path asked) else is_gt (path_cmp leaf.row.path asked)

abbrev pub is_in_place : CertificateHead → FilePath → Leaf → Bool
is_in_place head asked leaf = stands_so head.kind head.index asked leaf

-- the first row that does not
abbrev pub other_path : Certificate → FilePath → Option CheckError
other_path certificate asked =
    option_map (λ leaf. OtherPath leaf.row.path) (find (λ leaf. not (is_in_place certificate.head asked leaf)) certificate.leaves)

-- the root that a row computes in a tree of so many
abbrev pub computed : ℕ → Leaf → Digest
computed count leaf = root_over count (climbed_within most_levels count leaf.place (leaf_of leaf.row) leaf.beside)

-- the roots that the rows compute; without a row that of the tree without rows
abbrev pub roots_of : ℕ → List Leaf → List Digest
roots_of count [] = root_over count [] ∷ []
roots_of count (leaf ∷ leaves) = map (computed count) (leaf ∷ leaves)

-- the first that is not the one at hand
abbrev pub wrong_root : Certificate → Digest → Option CheckError
wrong_root certificate root =
    option_map (λ computed. WrongRoot root computed)
    (find (λ computed. not (bytes_eq computed root)) (roots_of certificate.head.count certificate.leaves))

-- what is found: the row that is shown, or that there is none
abbrev pub finding_of : Presence → List Leaf → Finding
finding_of Absent leaves = found.NoRow
finding_of Present [] = found.NoRow
finding_of Present (leaf ∷ leaves) = found.Row leaf.row

abbrev pub checked_finding : Certificate → Digest → FilePath → Result Finding CheckError
checked_finding certificate root asked =
    unless_refused (other_path certificate asked ∷ wrong_root certificate root ∷ []) (finding_of certificate.head.kind certificate.leaves)

abbrev pub checked_read : Result Certificate ℕ → Digest → FilePath → Result Finding CheckError
checked_read (Ok certificate) root asked = checked_finding certificate root asked
checked_read (Err place) root asked = Err (BadCert (as_u32 place))

-- what the bytes say of the path in a tree with this root, or the first cause why they are refused
abbrev pub checked : Digest → FilePath → List ℕ → Result Finding CheckError
checked root asked bytes = checked_read (certificate_in bytes) root asked
