-- Frames that break a rule: the field that is refused, whatever stands behind it.
use Rattle.std.specs.Prelude.{◌≡◌, ◌≢◌, ◌⊎◌, ℕ, ◌+◌, ◌-◌, ◌^◌, ◌<◌, ◌≤◌, true, false, List, [], ◌∷◌, ◌++◌, length, Err}
use Rattle.std.specs.Int.{w32, w64}
use Rattle.byte_fields.specs.Field.{Reader, digits}
use Rattle.std.specs.List.{flat_map, AllByRecursion}
use Rattle.byte_fields.specs.Broken.{IsRefused}
use Rattle.tree_values.specs.declared.node.Effect.{Effect}
use Rattle.file_paths.specs.Path.{FilePath, IsPath}
use Rattle.tree_values.specs.Effects.{touched_all, distinct, contents_size}
use Rattle.tree_values.specs.Limits.{max_files, max_effects}
use Rattle.file_paths.specs.Spelling.{path}
use Rattle.tree_values.specs.Spelling.{effects, EffectsFit}
use Rattle.file_paths.specs.Reading.{path_at}
use Rattle.tree_values.specs.Reading.{effects_within, bases_at, rows_at}
use Rattle.wire_frames.specs.Fault.{unfit_fault_at, full_fault_at}
use Rattle.tree_values.specs.Fault.{fault_at}
use Rattle.wire_frames.specs.Cause.{IsPrint, refusal_rule, cause_at}
use Rattle.mod_log.specs.declared.origin.Origin.{Origin}
use Rattle.mod_log.specs.declared.sketched.SketchEffect.{SketchEffect}
use Rattle.mod_log.specs.Origin.{origin, OriginFits}
use Rattle.mod_log.specs.Sketched.{sketches_touch}
use Rattle.mod_log.specs.Spelling.{sketch_effects, SketchEffectsFit}
use Rattle.mod_log.specs.Reading.{origin_at}
use Rattle.wire_frames.specs.Operation.{sketch_effects_at}
use Rattle.wire_frames.specs.declared.parts.Part.{Part}
use Rattle.wire_frames.specs.Parts.{part, PartFits, count_rule, effects_count, contents_count}
use Rattle.wire_frames.specs.Limits.{max_frame}
use Rattle.wire_frames.specs.declared.message.Message.{Message}
use Rattle.wire_frames.specs.declared.message.Kind.{Kind}
use Rattle.wire_frames.specs.declared.message.Kind.TheVariants.{Store, Operate, Accepted, Stale, Unfit, Full}
use Rattle.wire_frames.specs.declared.message.Kind.TheVariants.{Gap, Snapshot, Declined, Malformed}
use Rattle.wire_frames.specs.declared.message.FrameError.TheVariants.{BadField, Trailing}
use Rattle.wire_frames.specs.Frame.{frame_version, kind, client_of, number_of, code_of, client_rule, number_rule}
use Rattle.wire_frames.specs.Frame.{body, frame, IsValid, RefusedFits}
use Rattle.wire_frames.specs.Reading.{frame_of}

-- a frame's length and header, and these bytes behind them
abbrev pub frame_with : Kind → ℕ → ℕ → List ℕ → List ℕ
frame_with kind client number behind =
    let told = frame_version ∷ code_of kind ∷ client ∷ digits w64 number ++ behind in digits w32 (length told) ++ told

-- A message of this kind and number whose body begins so is refused at this place of its frame, whatever follows. The
-- body begins at byte 15.
abbrev pub IsRefusedAt : Kind → ℕ → List ℕ → ℕ → Type 0
IsRefusedAt kind number text place = (client : ℕ) (behind : List ℕ) → client_rule kind client ≡ true
    → number_rule kind number ≡ true → number < 2 ^ 64 → 15 + length (text ++ behind) ≤ max_frame
    → frame_of (frame_with kind client number (text ++ behind)) ≡ Err (BadField place)

-- a number that the kind does not have: at the number
abbrev pub BrokenNumbers : Type 0
BrokenNumbers = (kind : Kind) (client number : ℕ) (behind : List ℕ) → client_rule kind client ≡ true
    → number_rule kind number ≡ false → number < 2 ^ 64 → 15 + length behind ≤ max_frame
    → frame_of (frame_with kind client number behind) ≡ Err (BadField 7)

-- parts that fit together, with fewer than so many in all
pub record StandBefore (count : ℕ) (before : List Part) : Type 0 where
  pub fewer : length before < count
  pub each : AllByRecursion PartFits before
  pub few : effects_count before ≤ max_effects
  pub all_contents : contents_count before ≤ max_files

-- the effects of the part behind these, which take what room is left
abbrev pub effects_behind : List Part → Reader (List Effect)
effects_behind before = effects_within (max_effects - effects_count before) (max_files - contents_count before)

pub record BrokenBodies : Type 0 where
  -- a number of parts that may not stand behind the message's number: at it
  pub count_is_none : (number count : ℕ) → count < 2 ^ 8 → count_rule number count ≡ false → IsRefusedAt Store number (count ∷ []) 15
  -- effects that are refused, where parts that fit stand before them: in them
  pub effects_are_refused : (number count : ℕ) (before : List Part) (text : List ℕ) (offset : ℕ) → count < 2 ^ 8
      → count_rule number count ≡ true → StandBefore count before → IsRefused (effects_behind before) text offset
      → IsRefusedAt Store number (count ∷ (flat_map part before ++ text)) (16 + length (flat_map part before) + offset)
  -- a base of the touched paths that is refused: behind the effects
  pub base_is_refused : (number count : ℕ) (before : List Part) (es : List Effect) (text : List ℕ) (offset : ℕ) → count < 2 ^ 8
      → count_rule number count ≡ true → StandBefore count before → EffectsFit es → effects_count before + length es ≤ max_effects
      → contents_count before + contents_size es ≤ max_files
      → IsRefused (bases_at (distinct (touched_all es))) text offset
      → IsRefusedAt Store number (count ∷ (flat_map part before ++ (effects es ++ text)))
      (16 + length (flat_map part before) + length (effects es) + offset)
  -- an origin that is refused: in it
  pub origin_is_refused : (number : ℕ) (text : List ℕ) (offset : ℕ) → IsRefused origin_at text offset
      → IsRefusedAt Operate number text (15 + offset)
  -- sketched effects that are refused: behind the origin
  pub sketches_are_refused : (number : ℕ) (o : Origin) (text : List ℕ) (offset : ℕ) → OriginFits o
      → IsRefused sketch_effects_at text offset → IsRefusedAt Operate number (origin o ++ text) (15 + length (origin o) + offset)
  -- a base of the touched paths that is refused: behind the sketched effects
  pub sketch_base_is_refused : (number : ℕ) (o : Origin) (es : List SketchEffect) (text : List ℕ) (offset : ℕ) → OriginFits o
      → SketchEffectsFit es → IsRefused (bases_at (distinct (sketches_touch es))) text offset
      → IsRefusedAt Operate number (origin o ++ (sketch_effects es ++ text)) (15 + length (origin o) + length (sketch_effects es) + offset)
  -- an acceptance that tells less than its number: at what it tells
  pub accepted_is_low : (number upto : ℕ) → upto < number → number < 2 ^ 64 → IsRefusedAt Accepted number (digits w64 upto) 15
  -- a refusal that tells less than the number before its own: at what it tells
  pub refused_is_low : (number upto : ℕ) → upto + 1 < number → number < 2 ^ 64
      → AllByRecursion (λ kind. IsRefusedAt kind number (digits w64 upto) 15) (Stale ∷ Unfit ∷ Full ∷ [])
  -- a path that is refused: in it
  pub path_is_refused : (number upto : ℕ) (text : List ℕ) (offset : ℕ) → RefusedFits number upto → IsRefused path_at text offset
      → IsRefusedAt Stale number (digits w64 upto ++ text) (23 + offset)
  -- versions that do not differ: at the second
  pub versions_are_equal : (number upto : ℕ) (p : FilePath) (version : ℕ) → RefusedFits number upto → IsPath p → version < 2 ^ 64
      → IsRefusedAt Stale number (digits w64 upto ++ (path p ++ (digits w64 version ++ digits w64 version))) (23 + length (path p) + 8)
  -- a refusal of the volume that is refused: behind the index
  pub unfit_is_refused : (number upto index : ℕ) (text : List ℕ) (offset : ℕ) → RefusedFits number upto → index < 2 ^ 32
      → IsRefused unfit_fault_at text offset
      → IsRefusedAt Unfit number (digits w64 upto ++ (digits w32 index ++ text)) (27 + offset)
  pub full_is_refused : (number upto index : ℕ) (text : List ℕ) (offset : ℕ) → RefusedFits number upto → index < 2 ^ 32
      → IsRefused full_fault_at text offset
      → IsRefusedAt Full number (digits w64 upto ++ (digits w32 index ++ text)) (27 + offset)
  -- a last number whose next is not below the message's: at it
  pub last_is_near : (number last : ℕ) → last < 2 ^ 64 → number ≤ last + 1 → IsRefusedAt Gap number (digits w64 last) 15
  -- rows that are refused: behind the last number
  pub rows_are_refused : (number last : ℕ) (text : List ℕ) (offset : ℕ) → last < 2 ^ 64 → IsRefused rows_at text offset
      → IsRefusedAt Snapshot number (digits w64 last ++ text) (23 + offset)
  -- a cause that is refused: in it
  pub cause_is_refused : (number : ℕ) (text : List ℕ) (offset : ℕ) → IsRefused cause_at text offset
      → IsRefusedAt Declined number text (15 + offset)
  -- a code that is none of 1 to 7: at the code
  pub code_is_none : (number code : ℕ) → code < 2 ^ 8 → (code ≡ 0) ⊎ (7 < code) → IsRefusedAt Malformed number (code ∷ []) 15
  -- an offset beside a code that has none: at the offset
  pub offset_is_told : (number code offset : ℕ) → 1 ≤ code → code ≤ 7 → code ≢ 5 → code ≢ 6 → 1 ≤ offset → offset < 2 ^ 32
      → IsRefusedAt Malformed number (code ∷ digits w32 offset) 16

-- Causes that break a rule. The number of the cause is their first byte.
pub record BrokenCauses : Type 0 where
  -- a number that is none of 1 to 11: at the number
  pub number_is_none : (number : ℕ) → number < 2 ^ 8 → (number ≡ 0) ⊎ (11 < number) → IsRefused cause_at (number ∷ []) 0
  -- prints that do not differ: at the second
  pub prints_are_equal : (print : List ℕ) → IsPrint print → IsRefused cause_at (1 ∷ (print ++ print)) 33
  -- a code that is neither 1 nor 2: at the code
  pub job_code_is_none : (code : ℕ) → code < 2 ^ 8 → code ≢ 1 → code ≢ 2 → IsRefused cause_at (2 ∷ code ∷ []) 1
  -- an index beside code 1, which has none: at the index
  pub job_index_is_told : (index : ℕ) → 1 ≤ index → index < 2 ^ 32 → IsRefused cause_at (2 ∷ (1 ∷ digits w32 index)) 2
  -- statuses that do not differ: at the second
  pub statuses_are_equal : (status : ℕ) → status < 2 ^ 8 → IsRefused cause_at (5 ∷ status ∷ status ∷ []) 2
  -- a path that is refused: in it
  pub path_is_refused : (text : List ℕ) (offset : ℕ) → IsRefused path_at text offset
      → AllByRecursion (λ number. IsRefused cause_at (number ∷ text) (1 + offset)) (7 ∷ 8 ∷ [])
  -- a refusal of the copy that is refused: behind the index
  pub fault_is_refused : (index : ℕ) (text : List ℕ) (offset : ℕ) → index < 2 ^ 32 → IsRefused fault_at text offset
      → IsRefused cause_at (9 ∷ (digits w32 index ++ text)) (5 + offset)
  -- a kind of reply that refuses no store: at the kind
  pub reply_is_none : (kind : ℕ) → kind < 2 ^ 8 → refusal_rule kind ≡ false → IsRefused cause_at (10 ∷ kind ∷ []) 1

-- bytes behind the last field of a valid message: at the first of them
abbrev pub LeftBytes : Type 0
LeftBytes = (m : Message) (left : List ℕ) → IsValid m → 1 ≤ length left → length (frame m) + length left ≤ max_frame
    → frame_of (frame_with (kind m) (client_of m) (number_of m) (body m ++ left)) ≡ Err (Trailing (length (frame m)))
