-- The one spelling of each value, and which values have one.
use Rattle.std.specs.Prelude.{◌≡◌, ℕ, ◌<◌, ◌≤◌, ◌^◌, Bool, true, false, List, [], ◌∷◌, ◌++◌, length, map, Option, Some, None}
use Rattle.std.specs.List.{flat_map, AllByRecursion}
use Rattle.std.specs.Int.{w32, w64}
use Rattle.byte_fields.specs.Field.{digits}
use Rattle.file_paths.specs.Limits.{max_file}
use Rattle.file_paths.specs.Path.{FilePath, IsPath}
use Rattle.file_paths.specs.Spelling.{path, content}
use Rattle.tree_values.specs.Limits.{max_files, max_effects}
use Rattle.tree_values.specs.Tree.{IsLegalEffect, is_exec}
use Rattle.tree_values.specs.declared.format.Format.{Format}
use Rattle.tree_values.specs.declared.format.Format.TheVariants.{First, Second}
use Rattle.tree_values.specs.Effects.{content_size, contents_size}
use Rattle.tree_values.specs.declared.node.Effect.{Effect}
use Rattle.tree_values.specs.declared.node.Effect.TheVariants.{Make, Put, Remove, Move, Mode}
use Rattle.tree_values.specs.declared.node.Base.{Base}
use Rattle.tree_values.specs.declared.node.Row.{Row}
use Rattle.tree_values.specs.declared.node.Node.{Node}
use Rattle.tree_values.specs.declared.node.Node.TheVariants.{Folder, File}

-- a yes or no
abbrev pub bit : Bool → List ℕ
bit false = 0 ∷ []
bit true = 1 ∷ []

-- the kind, and what the effect names
abbrev pub effect : Effect → List ℕ
effect (Make p) = 1 ∷ path p
effect (Put p c) = 2 ∷ path p ++ content c
effect (Remove p) = 3 ∷ path p
effect (Move p q) = 4 ∷ path p ++ path q
effect (Mode p exec) = 5 ∷ path p ++ bit exec

-- the effects, behind their number
abbrev pub effects : List Effect → List ℕ
effects es = digits w32 (length es) ++ flat_map effect es

-- a path and its version
abbrev pub base : Base → List ℕ
base b = path b.path ++ digits w64 b.version

-- the bases, behind their number
abbrev pub bases : List Base → List ℕ
bases bs = digits w32 (length bs) ++ flat_map base bs

-- the kind of node, and a file's content
abbrev pub node : Option Node → List ℕ
node None = 0 ∷ []
node (Some Folder) = 1 ∷ []
node (Some (File c false)) = 2 ∷ content c
node (Some (File c true)) = 3 ∷ content c

-- a path, its version and what stands there
abbrev pub row : Row → List ℕ
row r = path r.path ++ (digits w64 r.version ++ node r.node)

-- the rows, behind their number
abbrev pub rows : List Row → List ℕ
rows rs = digits w32 (length rs) ++ flat_map row rs

-- whether it says that a file may be run, or not
abbrev pub is_mode : Effect → Bool
is_mode (Make p) = false
is_mode (Put p c) = false
is_mode (Remove p) = false
is_mode (Move p q) = false
is_mode (Mode p exec) = true

-- the format has such effects
abbrev pub IsEffectOf : Format → Effect → Type 0
IsEffectOf First e = is_mode e ≡ false
IsEffectOf Second e = Unit {0}

-- the format has such nodes
abbrev pub IsNodeOf : Format → Option Node → Type 0
IsNodeOf First n = is_exec n ≡ false
IsNodeOf Second n = Unit {0}

-- an effect with paths, and a content of at most 8 MiB of bytes
abbrev pub EffectFits : Effect → Type 0
EffectFits e = IsLegalEffect e × (content_size e ≤ max_file)

-- an effect that has still room for its content
abbrev pub EffectFitsIn : ℕ → Effect → Type 0
EffectFitsIn room e = EffectFits e × (content_size e ≤ room)

-- the same of a format
abbrev pub EffectFitsOf : Format → ℕ → Effect → Type 0
EffectFitsOf format room e = EffectFitsIn room e × IsEffectOf format e

-- rows that the format has
abbrev pub AreRowsOf : Format → List Row → Type 0
AreRowsOf format rs = AllByRecursion (λ r. IsNodeOf format r.node) rs

-- 1 to so many effects with contents of at most so many bytes together
pub record EffectsFitWithin (most room : ℕ) (es : List Effect) : Type 0 where
  pub some : 1 ≤ length es
  pub few : length es ≤ most
  pub each : AllByRecursion EffectFits es
  pub all_contents : contents_size es ≤ room

-- 1 to 4,096 effects with contents of at most 32 MiB together
abbrev pub EffectsFit : List Effect → Type 0
EffectsFit = EffectsFitWithin max_effects max_files

-- a path, and a version of 64 bits
abbrev pub BaseFits : Base → Type 0
BaseFits b = IsPath b.path × (b.version < 2 ^ 64)

-- the versions are those of the paths, in their order
abbrev pub AreBasesOf : List FilePath → List Base → Type 0
AreBasesOf touched bs = (map (λ b. b.path) bs ≡ touched) × AllByRecursion BaseFits bs
