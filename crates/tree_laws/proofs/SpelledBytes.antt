-- The spellings of the parts are bytes.
use Rattle.std.proofs.Common.{ℕ, Bool, true, false, List, [], ◌∷◌, ◌++◌, length, Option, Some, None, arith}
use Rattle.std.specs.Int.{w32, w64}
use Rattle.std.specs.List.{flat_map}
use Rattle.byte_fields.specs.Field.{digits}
use Rattle.byte_fields.specs.Codec.{IsBytes}
use Rattle.byte_fields.proofs.Facts.{no_bytes, byte_before, bytes_appended, bytes_of_each, four_are_bytes, eight_are_bytes}
use Rattle.file_paths.specs.Path.{FilePath, IsPath}
use Rattle.file_paths.specs.Spelling.{path, content}
use Rattle.file_paths.proofs.SpelledBytes.{path_is_bytes, content_is_bytes}
use Rattle.tree_values.specs.declared.node.Effect.{Effect}
use Rattle.tree_values.specs.declared.node.Effect.TheVariants.{Make, Put, Remove, Move, Mode}
use Rattle.tree_values.specs.declared.node.Base.{Base}
use Rattle.tree_values.specs.declared.node.Row.{Row}
use Rattle.tree_values.specs.declared.node.Node.{Node}
use Rattle.tree_values.specs.declared.node.Node.TheVariants.{Folder, File}
use Rattle.tree_values.specs.declared.node.TreeError.{TreeError}
use Rattle.tree_values.specs.declared.node.TreeError.TheVariants.{RootFixed, NoParent, Exists, Missing, IsFolder, NotEmpty, RowsFull, FileTooLarge, TreeFull, VersionTop, Memory}
use Rattle.tree_values.specs.Tree.{Volume, IsRow, IsTree, file_bytes}
use Rattle.tree_values.specs.Spelling.{bit, effect, effects, base, bases, node, row, rows, EffectFits, EffectsFitWithin, BaseFits, AreBasesOf}
use Rattle.tree_values.specs.Fault.{tree_fault, FaultFits}

pair_is_bytes : (p q : FilePath) → IsPath p → IsPath q → IsBytes (path p ++ path q)
pair_is_bytes p q is is' = bytes_appended (path p) (path q) (path_is_bytes p is) (path_is_bytes q is')

pub bit_is_bytes : (exec : Bool) → IsBytes (bit exec)
bit_is_bytes false = byte_before 0 [] (omega arith) no_bytes
bit_is_bytes true = byte_before 1 [] (omega arith) no_bytes

effect_is_bytes : (e : Effect) → EffectFits e → IsBytes (effect e)
effect_is_bytes (Make p) fits = byte_before 1 (path p) (omega arith) (path_is_bytes p fits.0)
effect_is_bytes (Put p c) fits =
    byte_before 2 (path p ++ content c) (omega arith) (bytes_appended (path p) (content c) (path_is_bytes p fits.0.0) (content_is_bytes c fits.0.1))
effect_is_bytes (Remove p) fits = byte_before 3 (path p) (omega arith) (path_is_bytes p fits.0)
effect_is_bytes (Move p q) fits = byte_before 4 (path p ++ path q) (omega arith) (pair_is_bytes p q fits.0.0 fits.0.1)
effect_is_bytes (Mode p exec) fits = byte_before 5 (path p ++ bit exec) (omega arith) (bytes_appended (path p) (bit exec) (path_is_bytes p fits.0) (bit_is_bytes exec))

pub effects_are_bytes : (most room : ℕ) (es : List Effect) → EffectsFitWithin most room es → IsBytes (effects es)
effects_are_bytes most room es fits =
    bytes_appended (digits w32 (length es)) (flat_map effect es) (four_are_bytes (length es)) (bytes_of_each effect effect_is_bytes es fits.each)

base_is_bytes : (b : Base) → BaseFits b → IsBytes (base b)
base_is_bytes b fits = bytes_appended (path b.path) (digits w64 b.version) (path_is_bytes b.path fits.0) (eight_are_bytes b.version)

pub bases_are_bytes : (touched : List FilePath) (bs : List Base) → AreBasesOf touched bs → IsBytes (bases bs)
bases_are_bytes touched bs are =
    bytes_appended (digits w32 (length bs)) (flat_map base bs) (four_are_bytes (length bs)) (bytes_of_each base base_is_bytes bs are.1)

node_is_bytes : (n : Option Node) → IsBytes (file_bytes n) → IsBytes (node n)
node_is_bytes None fits = byte_before 0 [] (omega arith) no_bytes
node_is_bytes (Some Folder) fits = byte_before 1 [] (omega arith) no_bytes
node_is_bytes (Some (File c false)) fits = byte_before 2 (content c) (omega arith) (content_is_bytes c fits)
node_is_bytes (Some (File c true)) fits = byte_before 3 (content c) (omega arith) (content_is_bytes c fits)

row_is_bytes : (r : Row) → IsRow r → IsBytes (row r)
row_is_bytes r is =
    bytes_appended (path r.path) (digits w64 r.version ++ node r.node) (path_is_bytes r.path is.is_path)
    (bytes_appended (digits w64 r.version) (node r.node) (eight_are_bytes r.version) (node_is_bytes r.node is.bytes))

pub rows_are_bytes : (rs : Volume) → IsTree rs → IsBytes (rows rs)
rows_are_bytes rs tree = bytes_appended (digits w32 (length rs)) (flat_map row rs) (four_are_bytes (length rs)) (bytes_of_each row row_is_bytes rs tree.each)

pub fault_is_bytes : (fault : TreeError) → FaultFits fault → IsBytes (tree_fault fault)
fault_is_bytes RootFixed fits = byte_before 1 [] (omega arith) no_bytes
fault_is_bytes (NoParent p) fits = byte_before 2 (path p) (omega arith) (path_is_bytes p fits)
fault_is_bytes (Exists p) fits = byte_before 3 (path p) (omega arith) (path_is_bytes p fits)
fault_is_bytes (Missing p) fits = byte_before 4 (path p) (omega arith) (path_is_bytes p fits)
fault_is_bytes (IsFolder p) fits = byte_before 5 (path p) (omega arith) (path_is_bytes p fits)
fault_is_bytes (NotEmpty p child) fits = byte_before 6 (path p ++ path child) (omega arith) (pair_is_bytes p child fits.0 fits.1)
fault_is_bytes (RowsFull n) fits = byte_before 7 (digits w32 n) (omega arith) (four_are_bytes n)
fault_is_bytes (FileTooLarge n) fits = byte_before 8 (digits w64 n) (omega arith) (eight_are_bytes n)
fault_is_bytes (TreeFull n) fits = byte_before 9 (digits w64 n) (omega arith) (eight_are_bytes n)
fault_is_bytes (VersionTop p) fits = byte_before 10 (path p) (omega arith) (path_is_bytes p fits)
fault_is_bytes Memory fits = absurd fits
