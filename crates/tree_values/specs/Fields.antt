-- The fields of each spelling in their order, given by their numbers of bytes.
use Rattle.std.specs.Prelude.{ℕ, List, [], ◌∷◌, ◌++◌, Option, Some, None}
use Rattle.std.specs.List.{flat_map}
use Rattle.file_paths.specs.Fields.{path_fields, content_fields}
use Rattle.tree_values.specs.declared.node.Effect.{Effect}
use Rattle.tree_values.specs.declared.node.Effect.TheVariants.{Make, Put, Remove, Move, Mode}
use Rattle.tree_values.specs.declared.node.Base.{Base}
use Rattle.tree_values.specs.declared.node.Row.{Row}
use Rattle.tree_values.specs.declared.node.Node.{Node}
use Rattle.tree_values.specs.declared.node.Node.TheVariants.{Folder, File}

-- the kind, and the fields of what the effect names
abbrev pub effect_fields : Effect → List ℕ
effect_fields (Make p) = 1 ∷ path_fields p
effect_fields (Put p c) = 1 ∷ (path_fields p ++ content_fields c)
effect_fields (Remove p) = 1 ∷ path_fields p
effect_fields (Move p q) = 1 ∷ (path_fields p ++ path_fields q)
effect_fields (Mode p exec) = 1 ∷ (path_fields p ++ 1 ∷ [])

-- the count, and the fields of the effects
abbrev pub effects_fields : List Effect → List ℕ
effects_fields es = 4 ∷ flat_map effect_fields es

-- the path's fields, and the version
abbrev pub base_fields : Base → List ℕ
base_fields b = path_fields b.path ++ 8 ∷ []

-- the count, and the fields of the bases
abbrev pub bases_fields : List Base → List ℕ
bases_fields bs = 4 ∷ flat_map base_fields bs

-- the kind of node, and the fields of a file's content
abbrev pub node_fields : Option Node → List ℕ
node_fields None = 1 ∷ []
node_fields (Some Folder) = 1 ∷ []
node_fields (Some (File c exec)) = 1 ∷ content_fields c

-- the path's fields, the version, and the node's fields
abbrev pub row_fields : Row → List ℕ
row_fields r = path_fields r.path ++ (8 ∷ node_fields r.node)

-- the count, and the fields of the rows
abbrev pub rows_fields : List Row → List ℕ
rows_fields rs = 4 ∷ flat_map row_fields rs
