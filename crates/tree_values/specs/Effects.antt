-- Several effects in a row: what they touch, what they come to, and the versions they rest on.
use Rattle.std.specs.Prelude.{ℕ, ◌+◌, not, cond, List, [], ◌∷◌, Option, Some, None, Result, Ok, Err, ◌==◌, filter, map, length}
use Rattle.std.specs.List.{flat_map, sum_by}
use Rattle.file_paths.specs.Path.{FilePath, is_same_path}
use Rattle.tree_values.specs.declared.node.Base.{Base}
use Rattle.tree_values.specs.declared.node.Effect.{Effect}
use Rattle.tree_values.specs.declared.node.Effect.TheVariants.{Make, Put, Remove, Move, Mode}
use Rattle.tree_values.specs.declared.node.TreeError.{TreeError}
use Rattle.tree_values.specs.Tree.{Volume, version_at, changed, apply, touched_paths}

-- the rows after effects none of which is refused
abbrev pub changed_all : List Effect → Volume → Volume
changed_all [] rows = rows
changed_all (effect ∷ later) rows = changed_all later (changed effect rows)

-- what comes next, unless the effect with this index is refused
abbrev pub unless_refused_at : ℕ → Result Volume TreeError → (Volume → Result Volume (ℕ × TreeError)) → Result Volume (ℕ × TreeError)
unless_refused_at at (Ok rows) later = later rows
unless_refused_at at (Err refusal) later = Err (at, refusal)

-- the rows after the effects, the first of which has this index; or the first that is refused, and why
abbrev pub apply_all : ℕ → List Effect → Volume → Result Volume (ℕ × TreeError)
apply_all at [] rows = Ok rows
apply_all at (effect ∷ later) rows = unless_refused_at at (apply effect rows) (apply_all (at + 1) later)

-- the paths that the effects touch, one after the other
abbrev pub touched_all : List Effect → List FilePath
touched_all effects = flat_map touched_paths effects

-- each path once, at its first place
abbrev pub distinct : List FilePath → List FilePath
distinct [] = []
distinct (path ∷ paths) = path ∷ filter (λ other. not (is_same_path other path)) (distinct paths)

-- the touched paths with the versions that they have before the effects
abbrev pub base_of : List Effect → Volume → List Base
base_of effects rows = map (λ path. record { path = path; version = version_at rows path }) (distinct (touched_all effects))

-- a path, its version in a tree and the version that was expected
pub record Conflict : Type 0 where
  pub path : FilePath
  pub theirs : ℕ
  pub ours : ℕ

-- the first path whose version is not that of the rows
abbrev pub first_conflict : List Base → Volume → Option Conflict
first_conflict [] rows = None
first_conflict (base ∷ bases) rows = cond (version_at rows base.path == base.version) (first_conflict bases rows)
    (Some (record { path = base.path; theirs = version_at rows base.path; ours = base.version }))

-- the bytes of the content that an effect writes
abbrev pub content_size : Effect → ℕ
content_size (Make path) = 0
content_size (Put path content) = length content
content_size (Remove path) = 0
content_size (Move from to) = 0
content_size (Mode path exec) = 0

-- the bytes of all contents that the effects write
abbrev pub contents_size : List Effect → ℕ
contents_size effects = sum_by content_size effects
