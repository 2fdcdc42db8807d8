-- What is said of a tree: its root, the certificate of each path, and the texts that are hashed for the root.
use Rattle.std.specs.Prelude.{ℕ, ◌+◌, List, [], ◌∷◌, ◌++◌, length, take, drop, map, Option, Some, None}
use Rattle.sha2.specs.Sha256.{sha256}
use Rattle.file_paths.specs.Path.{FilePath}
use Rattle.tree_values.specs.declared.node.Node.{Node}
use Rattle.tree_values.specs.declared.node.Node.TheVariants.{Folder, File}
use Rattle.tree_values.specs.declared.node.Row.{Row}
use Rattle.tree_values.specs.Tree.{Volume, row_at, rows_below}
use Rattle.tree_proof.specs.declared.slim.SlimNode.{SlimNode}
use Rattle.tree_proof.specs.declared.slim.SlimNode.TheVariants as slims
use Rattle.tree_proof.specs.declared.slim.SlimRow.{SlimRow}
use Rattle.tree_proof.specs.declared.certificate.Presence.{Presence}
use Rattle.tree_proof.specs.declared.certificate.Presence.TheVariants.{Present, Absent}
use Rattle.tree_proof.specs.declared.certificate.CertificateHead.{CertificateHead}
use Rattle.tree_proof.specs.declared.certificate.Leaf.{Leaf}
use Rattle.tree_proof.specs.declared.checking.Finding.{Finding}
use Rattle.tree_proof.specs.declared.checking.Finding.TheVariants as found
use Rattle.tree_proof.specs.Limits.{most_levels}
use Rattle.tree_proof.specs.Tops.{Digest, leaf_text, root_text, leaf_of, root_over, top, beside_within}
use Rattle.tree_proof.specs.Texts.{top_texts}
use Rattle.tree_proof.specs.Certificate.{Certificate, first_place, leaf_count, certificate_spelling}

-- what stands there, with a file's length and print in its content's place
abbrev pub slim_node : Option Node → SlimNode
slim_node None = slims.None
slim_node (Some Folder) = slims.Folder
slim_node (Some (File content exec)) = slims.File exec (length content) (sha256 content)

abbrev pub slim_row : Row → SlimRow
slim_row row = record { path = row.path; version = row.version; node = slim_node row.node }

-- what is to be found at a path: the slim row that the tree has there, or none
abbrev pub finding_at : Option Row → Finding
finding_at None = found.NoRow
finding_at (Some row) = found.Row (slim_row row)

abbrev pub found_at : Volume → FilePath → Finding
found_at rows asked = finding_at (row_at rows asked)

-- ---- the root

-- the digests of a tree's rows, in their order
abbrev pub leaves : Volume → List Digest
leaves rows = map (λ row. leaf_of (slim_row row)) rows

abbrev pub root_of : Volume → Digest
root_of rows = root_over (length rows) (top (leaves rows))

-- the texts that are hashed for it: its own, those of the pairs, and those of the rows; the contents of files are not among them
abbrev pub tree_texts : Volume → List (List ℕ)
tree_texts rows =
    root_text (length rows) (top (leaves rows)) ∷ (top_texts most_levels (leaves rows) ++ map (λ row. leaf_text (slim_row row)) rows)

-- ---- certificates

abbrev pub presence_of : Option Row → Presence
presence_of None = Absent
presence_of (Some row) = Present

-- the place of a path is behind all rows below it
abbrev pub certificate_head_of : Volume → FilePath → CertificateHead
certificate_head_of rows asked =
    record { count = length rows; kind = presence_of (row_at rows asked); index = length (rows_below rows asked) }

-- each of these rows, which stand in a tree with these digests from a place on, with the digests beside its way
abbrev pub leaves_from : List Digest → ℕ → List Row → List Leaf
leaves_from all place [] = []
leaves_from all place (row ∷ rows) =
    record { place = place; row = slim_row row; beside = beside_within most_levels all place } ∷ leaves_from all (place + 1) rows

-- the rows that are shown
abbrev pub shown_rows : Volume → CertificateHead → List Row
shown_rows rows head = take (leaf_count head) (drop (first_place head.kind head.index) rows)

abbrev pub certificate_for : Volume → CertificateHead → Certificate
certificate_for rows head =
    record { head = head; leaves = leaves_from (leaves rows) (first_place head.kind head.index) (shown_rows rows head) }

-- the certificate of a tree for a path, in bytes
abbrev pub proof_of : Volume → FilePath → List ℕ
proof_of rows asked = certificate_spelling (certificate_for rows (certificate_head_of rows asked))
