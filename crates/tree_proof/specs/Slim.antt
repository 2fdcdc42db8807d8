-- Slim rows: rows with the length and the print of a file in its content's place, and how they are spelled and read.
use Rattle.std.specs.Prelude.{ℕ, nat_le, Bool, true, false, not, List, [], ◌∷◌, ◌++◌}
use Rattle.std.specs.Int.{w32, w64}
use Rattle.byte_fields.specs.Field.{Reader, digits, number_at, span_at, ruled, none, two, three, tagged_at}
use Rattle.file_paths.specs.Limits.{max_file}
use Rattle.file_paths.specs.Spelling.{path}
use Rattle.file_paths.specs.Reading.{path_at}
use Rattle.tree_values.specs.Tree.{is_root}
use Rattle.tree_proof.specs.declared.slim.SlimNode.{SlimNode}
use Rattle.tree_proof.specs.declared.slim.SlimNode.TheVariants as slims
use Rattle.tree_proof.specs.declared.slim.SlimRow.{SlimRow}

-- ---- spelling

-- the byte of a file, by whether it may be run
abbrev pub file_kind : Bool → ℕ
file_kind false = 2
file_kind true = 3

-- the kind of what stands there, and a file's length and print
abbrev pub node_spelling : SlimNode → List ℕ
node_spelling slims.None = 0 ∷ []
node_spelling slims.Folder = 1 ∷ []
node_spelling (slims.File exec len print) = file_kind exec ∷ (digits w32 len ++ print)

-- a path, its version and what stands there
abbrev pub slim_spelling : SlimRow → List ℕ
slim_spelling row = path row.path ++ (digits w64 row.version ++ node_spelling row.node)

-- ---- reading

-- the length and the print of a file
unfoldable pub slim_file_at : Bool → Reader SlimNode
slim_file_at exec =
    two (ruled (λ len. nat_le len max_file) (number_at w32)) (λ len. span_at 32) (λ len print. slims.File exec len print)

-- each kind with what follows it
abbrev pub slim_kinds : List (ℕ × Reader SlimNode)
slim_kinds =
    (0, none slims.None) ∷ (1, none slims.Folder) ∷ (2, slim_file_at false) ∷ (3, slim_file_at true) ∷ []

-- the kind of what stands there, and a file's length and print
unfoldable pub slim_node_at : Reader SlimNode
slim_node_at = tagged_at slim_kinds

-- a path that is not the root, a version that is not 0, and what stands there
unfoldable pub slim_at : Reader SlimRow
slim_at =
    three (ruled (λ p. not (is_root p)) path_at) (λ p. ruled (nat_le 1) (number_at w64)) (λ p version. slim_node_at)
    (λ p version node. record { path = p; version = version; node = node })
