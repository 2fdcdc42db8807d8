-- Images that break a rule: the field that is refused, whatever stands before and behind them.
use Rattle.std.specs.Prelude.{◌≡◌, ◌≢◌, ◌⊎◌, ℕ, ◌+◌, ◌-◌, ◌^◌, ◌<◌, ◌≤◌, false, List, [], ◌∷◌, ◌++◌, length, take, Option, Ok, Err}
use Rattle.std.specs.Int.{w32, w64}
use Rattle.std.specs.Str.{bytes_eq}
use Rattle.std.specs.List.{flat_map, AllByRecursion}
use Rattle.byte_fields.specs.Field.{digits}
use Rattle.byte_fields.specs.Numbers.{as_u32}
use Rattle.byte_fields.specs.Cuts.{start_of}
use Rattle.byte_fields.specs.Broken.{IsRefused}
use Rattle.tree_values.specs.declared.node.Effect.{Effect}
use Rattle.tree_values.specs.declared.node.Base.{Base}
use Rattle.tree_values.specs.declared.node.TreeError.{TreeError}
use Rattle.file_paths.specs.Path.{FilePath, IsPath}
use Rattle.tree_values.specs.Limits.{max_files, max_effects}
use Rattle.tree_values.specs.Tree.{Volume, IsTree, apply}
use Rattle.tree_values.specs.Effects.{content_size, contents_size, changed_all, apply_all, base_of}
use Rattle.file_paths.specs.Spelling.{path}
use Rattle.tree_values.specs.Spelling.{effect, effects, base, rows, EffectFits}
use Rattle.file_paths.specs.Reading.{path_at}
use Rattle.tree_values.specs.Reading.{effect_at, rows_at}
use Rattle.mod_log.specs.declared.log.Entry.{Entry}
use Rattle.mod_log.specs.Limits.{max_entries, max_log}
use Rattle.mod_log.specs.Log.{Log, entry, tree_of, AreEntriesOf, IsLog, new_log_of}
use Rattle.tree_values.specs.declared.format.Format.TheVariants.{Second}
use Rattle.store_image.specs.declared.image.ImageError.TheVariants.{BadImage}
use Rattle.store_image.specs.Reading.{Growing, growing_effect_at, known_base_at, next_entry_at}
use Rattle.store_image.specs.Reading.{entries_at, client_mark, client_at, format_of}
use Rattle.store_image.specs.Reading.{server_mark, server_at}
use Rattle.store_image.specs.Spelling.{numbers}
use Rattle.mod_log.specs.declared.origin.Origin.{Origin}
use Rattle.mod_log.specs.Origin.{made_by, MadeByFits}
use Rattle.mod_log.specs.Reading.{origin_at, made_by_kinds}
use Rattle.mod_log.specs.Fields.{entry_fields}
use Rattle.store_image.specs.Image.{kept_client_of, server_of}

-- effects that the tree takes one after the other
pub record AreTaken (v : Volume) (es : List Effect) : Type 0 where
  pub each : AllByRecursion EffectFits es
  pub small : contents_size es ≤ max_files
  pub applies : apply_all 0 es v ≡ Ok (changed_all es v)

-- what stands behind effects that the tree takes: the tree after them, and the room that they leave
abbrev pub growing_behind : List Effect → Volume → Growing
growing_behind es v = record { tree = changed_all es v; room = max_files - contents_size es }

pub record BrokenKeptEntries : Type 0 where
  -- an effect that does not apply: at its first byte
  pub effect_does_not_apply : (growing : Growing) (e : Effect) (refusal : TreeError) → EffectFits e → content_size e ≤ growing.room
      → apply e growing.tree ≡ Err refusal → IsRefused (growing_effect_at Second growing) (effect e) 0
  -- an effect that is refused before it is applied: in it
  pub effect_is_none : (growing : Growing) (text : List ℕ) (offset : ℕ) → IsRefused (effect_at growing.room) text offset
      → IsRefused (growing_effect_at Second growing) text offset
  -- a path that is refused: in it
  pub path_is_none : (known : Base) (text : List ℕ) (offset : ℕ) → IsRefused path_at text offset
      → IsRefused (known_base_at known) text offset
  -- another path than the next: at the path
  pub path_is_another : (known : Base) (other : FilePath) → IsPath other → other ≢ known.path
      → IsRefused (known_base_at known) (path other) 0
  -- another version than the tree has: behind the path
  pub version_is_another : (known : Base) (version : ℕ) → IsPath known.path → version < 2 ^ 64 → version ≢ known.version
      → IsRefused (known_base_at known) (path known.path ++ digits w64 version) (length (path known.path))
  -- a first byte that is neither 0 nor 1: there
  pub maker_is_another : (log : Log) (byte : ℕ) → byte < 2 ^ 8 → AllByRecursion (λ known. byte ≢ known.0) made_by_kinds
      → IsRefused (next_entry_at Second log) (byte ∷ []) 0
  -- an origin that is refused: behind the first byte
  pub origin_is_none : (log : Log) (text : List ℕ) (offset : ℕ) → IsRefused origin_at text offset
      → IsRefused (next_entry_at Second log) (1 ∷ text) (1 + offset)
  -- no effect, or more than 4,096: behind what made the entry
  pub effects_are_none : (log : Log) (origin : Option Origin) (count : ℕ) → MadeByFits origin → count < 2 ^ 32
      → (count ≡ 0) ⊎ (max_effects < count)
      → IsRefused (next_entry_at Second log) (made_by origin ++ digits w32 count) (length (made_by origin))
  -- an effect that is refused: behind those before it
  pub effect_is_refused : (log : Log) (origin : Option Origin) (before : List Effect) (count : ℕ) (text : List ℕ) (offset : ℕ)
      → MadeByFits origin → AreTaken (tree_of log) before → length before < count → count ≤ max_effects
      → IsRefused (growing_effect_at Second (growing_behind before (tree_of log))) text offset
      → IsRefused (next_entry_at Second log) (made_by origin ++ (digits w32 count ++ (flat_map effect before ++ text)))
      (length (made_by origin) + (4 + (length (flat_map effect before) + offset)))
  -- another number of bases than of touched paths: behind the effects
  pub bases_are_others : (log : Log) (origin : Option Origin) (es : List Effect) (count : ℕ) → MadeByFits origin
      → AreTaken (tree_of log) es → 1 ≤ length es → length es ≤ max_effects → count < 2 ^ 32 → count ≢ length (base_of es (tree_of log))
      → IsRefused (next_entry_at Second log) (made_by origin ++ (effects es ++ digits w32 count))
      (length (made_by origin) + length (effects es))
  -- a base that is refused: behind those before it
  pub base_is_refused : (log : Log) (origin : Option Origin) (es : List Effect) (before others : List Base) (known : Base)
      (text : List ℕ) (offset : ℕ) → IsLog log → MadeByFits origin → AreTaken (tree_of log) es → 1 ≤ length es → length es ≤ max_effects
      → base_of es (tree_of log) ≡ before ++ known ∷ others → IsRefused (known_base_at known) text offset
      → IsRefused (next_entry_at Second log)
      (made_by origin ++ (effects es ++ (digits w32 (length (before ++ known ∷ others)) ++ (flat_map base before ++ text))))
      (length (made_by origin) + (length (effects es) + (4 + (length (flat_map base before) + offset))))

-- as many entries may be pending behind this number
pub record MayFollow (acked count : ℕ) : Type 0 where
  pub few : count ≤ max_entries
  pub last : acked + count ≤ 18446744073709551615

pub record BrokenEntryLists : Type 0 where
  -- more than 1,024 entries, or than numbers are left: at the count
  pub count_is_large : (log : Log) (count : ℕ) → log.acked < 2 ^ 64 → count < 2 ^ 32
      → (max_entries < count) ⊎ (18446744073709551615 < log.acked + count) → IsRefused (entries_at Second log) (digits w32 count) 0
  -- an entry that is refused within the first 64 MiB: behind those before it
  pub entry_is_refused : (log : Log) (count : ℕ) (text : List ℕ) (offset : ℕ) → IsLog log → length log.pending < count
      → MayFollow log.acked count → length (flat_map entry log.pending ++ text) ≤ max_log
      → IsRefused (next_entry_at Second log) text offset
      → IsRefused (entries_at Second (new_log_of log.acked log.base)) (digits w32 count ++ (flat_map entry log.pending ++ text))
      (4 + (length (flat_map entry log.pending) + offset))
  -- entries of more than 64 MiB together: at the field in which the 64 MiB end
  pub entries_are_large : (acked : ℕ) (base : Volume) (es : List Entry) (count : ℕ) → IsTree base → AreEntriesOf (acked + 1) base es
      → length es ≤ count → MayFollow acked count → max_log < length (flat_map entry es)
      → IsRefused (entries_at Second (new_log_of acked base)) (digits w32 count ++ flat_map entry es)
      (4 + start_of max_log (flat_map entry_fields es))

pub record BrokenImages : Type 0 where
  -- another mark: at the mark
  pub client_mark_is_another : (mark : List ℕ) → length mark ≡ 4 → mark ≢ client_mark → IsRefused (client_at Second) mark 0
  pub server_mark_is_another : (mark : List ℕ) → length mark ≡ 4 → mark ≢ server_mark → IsRefused (server_at Second) mark 0
  -- another version than 2: behind the mark
  pub client_version_is_another : (version : ℕ) → version < 2 ^ 8 → version ≢ 2
      → IsRefused (client_at Second) (client_mark ++ version ∷ []) 4
  pub server_version_is_another : (version : ℕ) → version < 2 ^ 8 → version ≢ 2
      → IsRefused (server_at Second) (server_mark ++ version ∷ []) 4
  -- a number that no client has: behind the version
  pub client_is_none : (client : ℕ) → client < 2 ^ 8 → (client ≡ 0) ⊎ (64 < client)
      → IsRefused (client_at Second) (client_mark ++ 2 ∷ client ∷ []) 5
  -- rows that are refused: behind the acknowledged number, and behind the last numbers
  pub client_rows_are_refused : (client acked : ℕ) (text : List ℕ) (offset : ℕ) → 1 ≤ client → client ≤ 64 → acked < 2 ^ 64
      → IsRefused rows_at text offset
      → IsRefused (client_at Second) (client_mark ++ (2 ∷ client ∷ (digits w64 acked ++ text))) (14 + offset)
  pub server_rows_are_refused : (last : List ℕ) (text : List ℕ) (offset : ℕ) → length last ≡ 64
      → AllByRecursion (λ n. n < 2 ^ 64) last → IsRefused rows_at text offset
      → IsRefused (server_at Second) (server_mark ++ (2 ∷ (numbers last ++ text))) (517 + offset)
  -- entries that are refused: behind the rows
  pub entries_are_refused : (client acked : ℕ) (base : Volume) (text : List ℕ) (offset : ℕ) → 1 ≤ client → client ≤ 64
      → acked < 2 ^ 64 → IsTree base → IsRefused (entries_at Second (new_log_of acked base)) text offset
      → IsRefused (client_at Second) (client_mark ++ (2 ∷ client ∷ (digits w64 acked ++ (rows base ++ text))))
      (14 + (length (rows base) + offset))
  -- bytes that do not tell the first format, begin with what is refused, and not as an image of the other kind, are refused there
  pub client_is_refused : (text more : List ℕ) (offset : ℕ) → IsRefused (client_at Second) text offset
      → format_of (text ++ more) ≡ Second → bytes_eq server_mark (take 4 (text ++ more)) ≡ false
      → kept_client_of (text ++ more) ≡ Err (BadImage (as_u32 offset))
  pub server_is_refused : (text more : List ℕ) (offset : ℕ) → IsRefused (server_at Second) text offset
      → format_of (text ++ more) ≡ Second → bytes_eq client_mark (take 4 (text ++ more)) ≡ false
      → server_of (text ++ more) ≡ Err (BadImage (as_u32 offset))
