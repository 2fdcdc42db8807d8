-- Entries and sketched effects that break a rule: the field that is refused, whatever stands before and behind them.
use Rattle.std.specs.Prelude.{◌≡◌, ◌≢◌, ◌⊎◌, ℕ, ◌+◌, ◌-◌, ◌^◌, ◌<◌, ◌≤◌, List, [], ◌∷◌, ◌++◌, length, Option}
use Rattle.std.specs.Int.{w32}
use Rattle.std.specs.List.{flat_map, AllByRecursion}
use Rattle.byte_fields.specs.Field.{digits}
use Rattle.byte_fields.specs.Broken.{IsRefused}
use Rattle.rs_parity.specs.Spelling.{sketch_at}
use Rattle.file_paths.specs.Limits.{max_file}
use Rattle.file_paths.specs.Path.{FilePath, IsPath}
use Rattle.tree_values.specs.Effects.{touched_all, distinct}
use Rattle.file_paths.specs.Spelling.{path}
use Rattle.tree_values.specs.Spelling.{effects, EffectsFit}
use Rattle.file_paths.specs.Reading.{path_at}
use Rattle.tree_values.specs.Reading.{bit_at, effects_at, bases_at}
use Rattle.tree_values.specs.declared.node.Effect.{Effect}
use Rattle.cmd_capture.specs.Reading.{command_at}
use Rattle.mod_log.specs.declared.origin.Origin.{Origin}
use Rattle.mod_log.specs.Origin.{made_by, MadeByFits}
use Rattle.mod_log.specs.Sketched.{sketched_sizes}
use Rattle.mod_log.specs.Spelling.{sketch_effect, SketchEffectFits}
use Rattle.mod_log.specs.Reading.{origin_at, made_by_kinds, entry_at, sketch_effect_kinds, sketch_effect_at, sketch_effects_within}
use Rattle.mod_log.specs.declared.sketched.SketchEffect.{SketchEffect}

pub record BrokenOrigins : Type 0 where
  -- a command that is refused: behind the print and the status
  pub command_is_none : (print : List ℕ) (status : ℕ) (text : List ℕ) (offset : ℕ) → length print ≡ 32 → status < 2 ^ 8
      → IsRefused command_at text offset
      → IsRefused origin_at (print ++ (status ∷ text)) (33 + offset)

pub record BrokenEntries : Type 0 where
  -- a first byte that is neither 0 nor 1: there
  pub maker_is_another : (number byte : ℕ) → byte < 2 ^ 8 → AllByRecursion (λ known. byte ≢ known.0) made_by_kinds
      → IsRefused (entry_at number) (byte ∷ []) 0
  -- an origin that is refused: behind the first byte
  pub origin_is_none : (number : ℕ) (text : List ℕ) (offset : ℕ) → IsRefused origin_at text offset
      → IsRefused (entry_at number) (1 ∷ text) (1 + offset)
  -- effects that are refused: behind what made the entry
  pub effects_are_none : (number : ℕ) (origin : Option Origin) (text : List ℕ) (offset : ℕ) → MadeByFits origin
      → IsRefused effects_at text offset
      → IsRefused (entry_at number) (made_by origin ++ text) (length (made_by origin) + offset)
  -- bases that are refused: behind the effects
  pub bases_are_none : (number : ℕ) (origin : Option Origin) (es : List Effect) (text : List ℕ) (offset : ℕ) → MadeByFits origin
      → EffectsFit es → IsRefused (bases_at (distinct (touched_all es))) text offset
      → IsRefused (entry_at number) (made_by origin ++ (effects es ++ text)) (length (made_by origin) + (length (effects es) + offset))

pub record BrokenSketchEffects : Type 0 where
  -- a number that is no kind of sketched effect: there
  pub kind_is_none : (room kind : ℕ) → kind < 2 ^ 8 → AllByRecursion (λ known. kind ≢ known.0) (sketch_effect_kinds room)
      → IsRefused (sketch_effect_at room) (kind ∷ []) 0
  -- a path that is refused: behind the kind
  pub path_is_none : (room : ℕ) (text : List ℕ) (offset : ℕ) → IsRefused path_at text offset
      → AllByRecursion (λ kind. IsRefused (sketch_effect_at room) (kind ∷ text) (1 + offset)) (1 ∷ 2 ∷ 3 ∷ 4 ∷ [])
  -- the second path of a move: behind the first
  pub target_is_none : (room : ℕ) (from : FilePath) (text : List ℕ) (offset : ℕ) → IsPath from → IsRefused path_at text offset
      → IsRefused (sketch_effect_at room) (4 ∷ (path from ++ text)) (1 + (length (path from) + offset))
  -- a path that is refused where a file may be run or not: behind the kind
  pub mode_path_is_none : (room : ℕ) (text : List ℕ) (offset : ℕ) → IsRefused path_at text offset
      → IsRefused (sketch_effect_at room) (5 ∷ text) (1 + offset)
  -- neither a yes nor a no: behind the path
  pub bit_is_none : (room : ℕ) (p : FilePath) (text : List ℕ) (offset : ℕ) → IsPath p → IsRefused bit_at text offset
      → IsRefused (sketch_effect_at room) (5 ∷ (path p ++ text)) (1 + (length (path p) + offset))
  -- a sketch that is refused: behind the path
  pub sketch_is_none : (room : ℕ) (p : FilePath) (text : List ℕ) (offset : ℕ) → IsPath p → IsRefused (sketch_at room) text offset
      → IsRefused (sketch_effect_at room) (2 ∷ (path p ++ text)) (1 + (length (path p) + offset))
  -- the sketch of a content of more than 8 MiB, or than there is room for: at its length
  pub content_is_large : (room len : ℕ) (p : FilePath) → IsPath p → len < 2 ^ 32 → (max_file < len) ⊎ (room < len)
      → IsRefused (sketch_effect_at room) (2 ∷ (path p ++ digits w32 len)) (1 + length (path p))

pub record BrokenSketchLists : Type 0 where
  -- no sketched effect, or too many: at the count
  pub count_is_wrong : (most room count : ℕ) → count < 2 ^ 32 → (count ≡ 0) ⊎ (most < count)
      → IsRefused (sketch_effects_within most room) (digits w32 count) 0
  -- a sketched effect that is refused: behind those before it, which leave it less room
  pub effect_is_refused : (most room count : ℕ) (before : List SketchEffect) (text : List ℕ) (offset : ℕ) → length before < count
      → count ≤ most → count < 2 ^ 32 → AllByRecursion SketchEffectFits before → sketched_sizes before ≤ room
      → IsRefused (sketch_effect_at (room - sketched_sizes before)) text offset
      → IsRefused (sketch_effects_within most room) (digits w32 count ++ (flat_map sketch_effect before ++ text))
      (4 + (length (flat_map sketch_effect before) + offset))
  -- contents that are too long together: at the length with which they are
  pub contents_are_large : (most room count : ℕ) (before : List SketchEffect) (p : FilePath) (len : ℕ) → length before < count
      → count ≤ most → count < 2 ^ 32 → AllByRecursion SketchEffectFits before → sketched_sizes before ≤ room
      → IsPath p → len < 2 ^ 32 → room < sketched_sizes before + len
      → IsRefused (sketch_effects_within most room)
      (digits w32 count ++ (flat_map sketch_effect before ++ (2 ∷ (path p ++ digits w32 len))))
      (4 + (length (flat_map sketch_effect before) + (1 + length (path p))))
