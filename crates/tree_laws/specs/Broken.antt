-- Parts that break a rule: the field that is refused, whatever stands before and behind them.
use Rattle.std.specs.Prelude.{◌≡◌, ◌≢◌, ◌⊎◌, ℕ, ◌+◌, ◌-◌, ◌^◌, ◌<◌, ◌≤◌, true, false, List, [], ◌∷◌, ◌++◌, length}
use Rattle.std.specs.Int.{w32, w64}
use Rattle.std.specs.List.{flat_map, AllByRecursion}
use Rattle.std.specs.declared.cmp.Ordering.TheVariants.{Less}
use Rattle.byte_fields.specs.Field.{digits}
use Rattle.byte_fields.specs.Broken.{IsRefused}
use Rattle.tree_values.specs.declared.format.Format.{Format}
use Rattle.tree_values.specs.declared.node.Effect.{Effect}
use Rattle.tree_values.specs.declared.node.Base.{Base}
use Rattle.tree_values.specs.declared.node.Row.{Row}
use Rattle.file_paths.specs.Limits.{max_file}
use Rattle.tree_values.specs.Limits.{max_rows, max_files}
use Rattle.file_paths.specs.Path.{FilePath, IsPath, path_cmp, folder_of}
use Rattle.tree_values.specs.Tree.{Volume, IsTree, is_folder, total_size}
use Rattle.tree_values.specs.Effects.{contents_size}
use Rattle.tree_values.specs.Lists.{IsIn}
use Rattle.file_paths.specs.Spelling.{path}
use Rattle.tree_values.specs.Spelling.{effect, base, row, EffectFits, AreBasesOf, AreRowsOf}
use Rattle.file_paths.specs.Reading.{path_at}
use Rattle.tree_values.specs.Fault.{is_one_of, fault_of}
use Rattle.tree_values.specs.Reading.{effect_kinds, effect_in, effect_at, effects_within, base_at}
use Rattle.tree_values.specs.Reading.{bases_at, may_stand, node_kinds, room_beside}
use Rattle.tree_values.specs.Reading.{next_row_at, rows_in}

-- ---- effects

pub record BrokenEffects : Type 0 where
  -- a number that is no kind of effect: there
  pub kind_is_none : (format : Format) (room kind : ℕ) → kind < 2 ^ 8 → AllByRecursion (λ known. kind ≢ known.0) (effect_kinds format room)
      → IsRefused (effect_in format room) (kind ∷ []) 0
  -- a path that is refused: behind the kind
  pub path_is_none : (format : Format) (room : ℕ) (text : List ℕ) (offset : ℕ) → IsRefused path_at text offset
      → AllByRecursion (λ kind. IsRefused (effect_in format room) (kind ∷ text) (1 + offset)) (1 ∷ 2 ∷ 3 ∷ 4 ∷ [])
  -- the second path of a move: behind the first
  pub target_is_none : (format : Format) (room : ℕ) (from : FilePath) (text : List ℕ) (offset : ℕ) → IsPath from
      → IsRefused path_at text offset
      → IsRefused (effect_in format room) (4 ∷ (path from ++ text)) (1 + (length (path from) + offset))
  -- a content of more than 8 MiB, or than there is room for: at its length
  pub content_is_large : (format : Format) (room size : ℕ) (p : FilePath) → IsPath p → size < 2 ^ 32 → (max_file < size) ⊎ (room < size)
      → IsRefused (effect_in format room) (2 ∷ (path p ++ digits w32 size)) (1 + length (path p))
  -- a path that is refused where a file may be run or not: behind the kind
  pub mode_path_is_none : (room : ℕ) (text : List ℕ) (offset : ℕ) → IsRefused path_at text offset
      → IsRefused (effect_at room) (5 ∷ text) (1 + offset)
  -- neither a yes nor a no: behind the path
  pub bit_is_none : (room : ℕ) (p : FilePath) (byte : ℕ) → IsPath p → 1 < byte → byte < 2 ^ 8
      → IsRefused (effect_at room) (5 ∷ (path p ++ byte ∷ [])) (1 + length (path p))

pub record BrokenEffectLists : Type 0 where
  -- no effect, or too many: at the count
  pub count_is_wrong : (most room count : ℕ) → count < 2 ^ 32 → (count ≡ 0) ⊎ (most < count)
      → IsRefused (effects_within most room) (digits w32 count) 0
  -- an effect that is refused: behind those before it, which leave it less room
  pub effect_is_refused : (most room count : ℕ) (before : List Effect) (text : List ℕ) (offset : ℕ) → length before < count
      → count ≤ most → count < 2 ^ 32 → AllByRecursion EffectFits before → contents_size before ≤ room
      → IsRefused (effect_at (room - contents_size before)) text offset
      → IsRefused (effects_within most room) (digits w32 count ++ (flat_map effect before ++ text))
      (4 + (length (flat_map effect before) + offset))
  -- contents that are too long together: at the length with which they are
  pub contents_are_large : (most room count : ℕ) (before : List Effect) (p : FilePath) (size : ℕ) → length before < count
      → count ≤ most → count < 2 ^ 32 → AllByRecursion EffectFits before → contents_size before ≤ room
      → IsPath p → size < 2 ^ 32 → room < contents_size before + size
      → IsRefused (effects_within most room) (digits w32 count ++ (flat_map effect before ++ (2 ∷ (path p ++ digits w32 size))))
      (4 + (length (flat_map effect before) + (1 + length (path p))))

-- ---- bases

pub record BrokenBases : Type 0 where
  -- another count than that of the paths: at the count
  pub count_is_another : (touched : List FilePath) (count : ℕ) → count < 2 ^ 32 → count ≢ length touched
      → IsRefused (bases_at touched) (digits w32 count) 0
  -- another path than the next: at the path
  pub path_is_another : (known other : FilePath) → IsPath other → other ≢ known → IsRefused (base_at known) (path other) 0
  -- a path that is refused: in it
  pub path_is_none : (known : FilePath) (text : List ℕ) (offset : ℕ) → IsRefused path_at text offset → IsRefused (base_at known) text offset
  -- a base that is refused: behind those before it
  pub base_is_refused : (front others : List FilePath) (known : FilePath) (before : List Base) (text : List ℕ) (offset : ℕ)
      → AreBasesOf front before → length (front ++ known ∷ others) < 2 ^ 32 → IsRefused (base_at known) text offset
      → IsRefused (bases_at (front ++ known ∷ others))
      (digits w32 (length (front ++ known ∷ others)) ++ (flat_map base before ++ text)) (4 + (length (flat_map base before) + offset))

-- ---- rows

-- a row of this path and version may stand behind these rows, if its node may
pub record IsNext (before : Volume) (p : FilePath) (version : ℕ) : Type 0 where
  pub is_path : IsPath p
  pub stands : may_stand before p ≡ true
  pub touched : 1 ≤ version
  pub fits : version < 2 ^ 64

pub record BrokenRows : Type 0 where
  -- a path that is refused: in it
  pub path_is_none : (format : Format) (before : Volume) (text : List ℕ) (offset : ℕ) → IsRefused path_at text offset
      → IsRefused (next_row_at format before) text offset
  -- the root: at the path
  pub path_is_root : (format : Format) (before : Volume) → IsRefused (next_row_at format before) (path []) 0
  -- a path that is not above that of each row before it: at the path
  pub path_is_not_above : (format : Format) (before : Volume) (r : Row) (p : FilePath) → IsIn r before → IsPath p → path_cmp r.path p ≢ Less
      → IsRefused (next_row_at format before) (path p) 0
  -- version 0: at the version
  pub version_is_0 : (format : Format) (before : Volume) (p : FilePath) → IsPath p → may_stand before p ≡ true
      → IsRefused (next_row_at format before) (path p ++ digits w64 0) (length (path p))
  -- a number that is no kind of what may stand there: at the kind
  pub kind_is_none : (format : Format) (before : Volume) (p : FilePath) (version kind : ℕ) → IsNext before p version → kind < 2 ^ 8
      → AllByRecursion (λ known. kind ≢ known.0) (node_kinds format (is_folder before (folder_of p)) (room_beside before))
      → IsRefused (next_row_at format before) (path p ++ (digits w64 version ++ kind ∷ [])) (length (path p) + 8)
  -- a node whose parent is no folder: at its kind
  pub parent_is_no_folder : (format : Format) (before : Volume) (p : FilePath) (version kind : ℕ) → IsNext before p version
      → is_folder before (folder_of p) ≡ false → 1 ≤ kind → kind < 2 ^ 8
      → IsRefused (next_row_at format before) (path p ++ (digits w64 version ++ kind ∷ [])) (length (path p) + 8)
  -- a content of more than 8 MiB, or with which all are more than 32 MiB: at its length
  pub content_is_large : (format : Format) (before : Volume) (p : FilePath) (version size : ℕ) → IsNext before p version
      → is_folder before (folder_of p) ≡ true → IsTree before → size < 2 ^ 32 → (max_file < size) ⊎ (max_files < total_size before + size)
      → IsRefused (next_row_at format before) (path p ++ (digits w64 version ++ (2 ∷ digits w32 size))) (length (path p) + 9)

pub record BrokenRowLists : Type 0 where
  -- too many rows: at the count
  pub count_is_large : (format : Format) (count : ℕ) → max_rows < count → count < 2 ^ 32 → IsRefused (rows_in format) (digits w32 count) 0
  -- a row that is refused: behind those before it, which are a tree
  pub row_is_refused : (format : Format) (before : Volume) (count : ℕ) (text : List ℕ) (offset : ℕ)
      → IsTree before → AreRowsOf format before → length before < count
      → count ≤ max_rows → IsRefused (next_row_at format before) text offset
      → IsRefused (rows_in format) (digits w32 count ++ (flat_map row before ++ text)) (4 + (length (flat_map row before) + offset))

-- ---- refusals of effects

-- the numbers of all refusals
abbrev pub all_faults : List ℕ
all_faults = 1 ∷ 2 ∷ 3 ∷ 4 ∷ 5 ∷ 6 ∷ 7 ∷ 8 ∷ 9 ∷ 10 ∷ []

-- refusals of which only these numbers are allowed
pub record BrokenFaults (numbers : List ℕ) : Type 0 where
  -- a number that is none of them: at the number
  pub number_is_none : (number : ℕ) → number < 2 ^ 8 → AllByRecursion (λ known. number ≢ known) numbers
      → IsRefused (fault_of numbers) (number ∷ []) 0
  -- a path that is refused: behind the number
  pub path_is_refused : (text : List ℕ) (offset : ℕ) → IsRefused path_at text offset
      → AllByRecursion (λ number. is_one_of numbers number ≡ true → IsRefused (fault_of numbers) (number ∷ text) (1 + offset))
      (2 ∷ 3 ∷ 4 ∷ 5 ∷ 6 ∷ 10 ∷ [])
  -- a child whose path is refused: behind the path of its folder
  pub child_is_refused : (p : FilePath) (text : List ℕ) (offset : ℕ) → IsPath p → is_one_of numbers 6 ≡ true
      → IsRefused path_at text offset → IsRefused (fault_of numbers) (6 ∷ (path p ++ text)) (1 + (length (path p) + offset))
