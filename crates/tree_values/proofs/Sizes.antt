-- How long spellings are, and at most.
use Rattle.std.proofs.Common.{◌≡◌, ℕ, ◌+◌, ◌*◌, ◌≤◌, Bool, true, false, List, [], ◌∷◌, ◌++◌, length, Option, Some, None, refl, ap, arith, length-append}
use Rattle.std.specs.List.{flat_map, sum_by, AllByRecursion}
use Rattle.std.specs.Int.{w32, w64}
use Rattle.std.proofs.lemmas.List.Concat.{flat_map-cons}
use Rattle.std.proofs.lemmas.List.Sums.{sum_by-cons}
use Rattle.file_paths.specs.Path.{FilePath}
use Rattle.tree_values.specs.Tree.{Volume, IsRow, IsTree, node_size, total_size}
use Rattle.tree_values.specs.Effects.{content_size}
use Rattle.tree_values.specs.declared.node.Effect.{Effect}
use Rattle.tree_values.specs.declared.node.Effect.TheVariants.{Make, Put, Remove, Move, Mode}
use Rattle.tree_values.specs.declared.node.Base.{Base}
use Rattle.tree_values.specs.declared.node.Row.{Row}
use Rattle.tree_values.specs.declared.node.Node.{Node}
use Rattle.tree_values.specs.declared.node.Node.TheVariants.{Folder, File}
use Rattle.byte_fields.specs.Field.{digits}
use Rattle.file_paths.specs.Spelling.{path, content}
use Rattle.tree_values.specs.Spelling.{bit, effect, effects, base, bases, node, row, rows, EffectFits, EffectsFit, BaseFits}
use Rattle.byte_fields.proofs.Facts.{four_bytes, eight_bytes}
use Rattle.file_paths.proofs.Sizes.{content_length, path_size}

-- ---- exactly

pub base_length : (b : Base) → length (base b) ≡ length (path b.path) + 8
base_length b = omega (arith, length-append (path b.path) (digits w64 b.version), eight_bytes b.version)

pub put_length : (p : FilePath) (c : List ℕ) → length (path p ++ content c) ≡ length (path p) + (4 + length c)
put_length p c = omega (arith, length-append (path p) (content c), content_length c)

pub bit_length : (exec : Bool) → length (bit exec) ≡ 1
bit_length false = refl
bit_length true = refl

pub mode_length : (p : FilePath) (exec : Bool) → length (path p ++ bit exec) ≡ length (path p) + 1
mode_length p exec = omega (arith, length-append (path p) (bit exec), bit_length exec)

-- ---- at most

pub effect_size : (e : Effect) → EffectFits e → length (effect e) ≤ 2053 + content_size e
effect_size (Make p) fits = omega (arith, path_size p fits.0)
effect_size (Put p c) fits = omega (arith, put_length p c, path_size p fits.0.0)
effect_size (Remove p) fits = omega (arith, path_size p fits.0)
effect_size (Move p q) fits = omega (arith, length-append (path p) (path q), path_size p fits.0.0, path_size q fits.0.1)
effect_size (Mode p exec) fits = omega (arith, mode_length p exec, path_size p fits.0)

all_effects_size : (es : List Effect) → AllByRecursion EffectFits es → length (flat_map effect es) ≤ 2053 * length es + sum_by content_size es
all_effects_size [] fits = omega arith
all_effects_size (e ∷ es) fits =
    omega (arith, ap length (flat_map-cons effect e es), length-append (effect e) (flat_map effect es), effect_size e fits.0, all_effects_size es fits.1, sum_by-cons content_size e es)

pub effects_size : (es : List Effect) → EffectsFit es → length (effects es) ≤ 41963524
effects_size es fits =
    omega (arith, length-append (digits w32 (length es)) (flat_map effect es), four_bytes (length es), all_effects_size es fits.each, fits.few, fits.all_contents)

pub base_size : (b : Base) → BaseFits b → length (base b) ≤ 1034
base_size b fits = omega (arith, base_length b, path_size b.path fits.0)

all_bases_size : (bs : List Base) → AllByRecursion BaseFits bs → length (flat_map base bs) ≤ 1034 * length bs
all_bases_size [] fits = omega arith
all_bases_size (b ∷ bs) fits =
    omega (arith, ap length (flat_map-cons base b bs), length-append (base b) (flat_map base bs), base_size b fits.0, all_bases_size bs fits.1)

pub bases_size : (bs : List Base) → AllByRecursion BaseFits bs → length (bases bs) ≤ 4 + 1034 * length bs
bases_size bs fits = omega (arith, length-append (digits w32 (length bs)) (flat_map base bs), four_bytes (length bs), all_bases_size bs fits)

node_length : (n : Option Node) → length (node n) ≤ 5 + node_size n
node_length None = omega arith
node_length (Some Folder) = omega arith
node_length (Some (File c false)) = omega (arith, content_length c)
node_length (Some (File c true)) = omega (arith, content_length c)

pub row_size : (r : Row) → IsRow r → length (row r) ≤ 1039 + node_size r.node
row_size r is =
    omega (arith, length-append (path r.path) (digits w64 r.version ++ node r.node), length-append (digits w64 r.version) (node r.node), eight_bytes r.version, path_size r.path is.is_path, node_length r.node)

all_rows_size : (rs : Volume) → AllByRecursion IsRow rs → length (flat_map row rs) ≤ 1039 * length rs + total_size rs
all_rows_size [] is = omega arith
all_rows_size (r ∷ rs) is =
    omega (arith, ap length (flat_map-cons row r rs), length-append (row r) (flat_map row rs), row_size r is.0, all_rows_size rs is.1, sum_by-cons (λ (x : Row). node_size x.node) r rs)

pub rows_size : (rs : Volume) → IsTree rs → length (rows rs) ≤ 50577412
rows_size rs tree =
    omega (arith, length-append (digits w32 (length rs)) (flat_map row rs), four_bytes (length rs), all_rows_size rs tree.each, tree.few, tree.small)
