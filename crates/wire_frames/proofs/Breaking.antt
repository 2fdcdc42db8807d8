-- The laws of frames that break a rule.
use Rattle.std.proofs.Common.{◌≡◌, ◌≢◌, ◌⊎◌, ℕ, ◌+◌, ◌-◌, ◌^◌, ◌<◌, ◌≤◌, min, true, false, ◌&&◌, not, leb, eqb, List, [], ◌∷◌, ◌++◌, length, drop, get_or, Ok, Err, inl, inr, refl, sym, ap, subst, ◌∙◌, arith, length-append}
use Rattle.std.specs.Int.{w8, w32, w64}
use Rattle.std.specs.List.{flat_map}
use Rattle.std.proofs.lemmas.Bool.{le-leb, eq-eqb, ne_eqb}
use Rattle.std.proofs.lemmas.List.{append-nil, drop_at}
use Rattle.std.proofs.Math.Seq.{drop-length}
use Rattle.std.proofs.lemmas.Nat.{from_be_bytes-to_be_bytes_4}
use Rattle.byte_fields.specs.Field.{digits, ruled, none, one, two, number_at, each_at}
use Rattle.byte_fields.specs.Codec.{Stands}
use Rattle.byte_fields.specs.Broken.{IsRefused}
use Rattle.byte_fields.proofs.Codec.{u8_codec, u32_codec, u64_codec, ruled_codec}
use Rattle.byte_fields.proofs.Breaking.{read_again, refused_before, rule_refused, first_refused, later_refused, second_fails, items_refused, each_read}
use Rattle.byte_fields.proofs.Facts.{le_fails, four_bytes, eight_bytes}
use Rattle.tree_values.specs.declared.node.Effect.{Effect}
use Rattle.file_paths.specs.Path.{FilePath, IsPath}
use Rattle.tree_values.specs.Effects.{touched_all, distinct, contents_size}
use Rattle.tree_values.specs.Limits.{max_files, max_effects}
use Rattle.file_paths.specs.Spelling.{path}
use Rattle.tree_values.specs.Spelling.{effects, EffectsFit}
use Rattle.file_paths.specs.Reading.{path_at}
use Rattle.tree_values.specs.Reading.{effects_within, bases_at, rows_at}
use Rattle.file_paths.proofs.Parts.{path_codec}
use Rattle.tree_laws.proofs.Parts.{effects_within_codec}
use Rattle.wire_frames.specs.Limits.{max_frame}
use Rattle.wire_frames.specs.declared.message.Message.{Message}
use Rattle.wire_frames.specs.declared.message.Message.TheVariants as messages
use Rattle.wire_frames.specs.declared.message.Kind.{Kind}
use Rattle.wire_frames.specs.declared.message.Kind.TheVariants.{Store, Operate, Accepted, Stale, Unfit, Gap, Snapshot, Declined, Full, Malformed}
use Rattle.wire_frames.specs.declared.message.FrameError.TheVariants.{BadField, Trailing}
use Rattle.wire_frames.specs.Fault.{unfit_fault_at, full_fault_at}
use Rattle.mod_log.specs.declared.origin.Origin.{Origin}
use Rattle.mod_log.specs.declared.sketched.SketchEffect.{SketchEffect}
use Rattle.mod_log.specs.Origin.{origin, OriginFits}
use Rattle.mod_log.specs.Sketched.{sketches_touch}
use Rattle.mod_log.specs.Spelling.{sketch_effects, SketchEffectsFit}
use Rattle.mod_log.specs.Reading.{origin_at}
use Rattle.mod_log.proofs.Origins.{origin_codec}
use Rattle.wire_frames.specs.Cause.{cause_at}
use Rattle.wire_frames.specs.Operation.{sketch_effects_at, sketches_at, operation_at}
use Rattle.wire_frames.proofs.OperationLaws.{sketched_effects_codec, both_of, operation_of}
use Rattle.wire_frames.specs.Frame.{frame_version, kind, client_of, number_of, code_of, client_rule, number_rule, offset_rule, accepted_rule, refused_rule, RefusedFits, body, frame}
use Rattle.wire_frames.specs.Reading.{store_at, operate_at, accepted_at, refused_upto, conflict_at, stale_at, unfit_at, full_at, snapshot_at, gap_at, declined_at, malformed_at, body_at, message_at, is_sized, frame_of}
use Rattle.wire_frames.specs.declared.parts.Part.{Part}
use Rattle.wire_frames.specs.declared.parts.Room.{Room}
use Rattle.wire_frames.specs.Parts.{part_of, part, effects_count, contents_count, count_rule, part_at, room_behind, store_room, parts_at}
use Rattle.wire_frames.proofs.PartLaws.{PartFitsIn, part_codec, rooms_again, room_left}
use Rattle.wire_frames.specs.Broken.{frame_with, IsRefusedAt, BrokenNumbers, StandBefore, effects_behind, BrokenBodies, LeftBytes}
use Rattle.wire_frames.proofs.Messages.{tail, number_codec, refusal, refused_codec, conflict_of, stale_of, message_again}
use Rattle.wire_frames.proofs.Frames.{are_sized, kind_again}
use Rattle.wire_frames.proofs.CutFrames.{fails_again}

-- ---- from what stands behind the client to the frame

-- what is refused behind the client is refused in the frame
frame_refused : (k : Kind) (c n : ℕ) (behind : List ℕ) (offset place : ℕ) → client_rule k c ≡ true → 15 + length behind ≤ max_frame → IsRefused (message_at k c) (digits w64 n ++ behind) offset → 7 + offset ≡ place
    → frame_of (frame_with k c n behind) ≡ Err (BadField place)
unfolding digits
frame_refused k c n behind offset place takes short refused e =
    let bytes : List ℕ = frame_with k c n behind in
    let tail : List ℕ = digits w64 n ++ behind in
    let told : List ℕ = frame_version ∷ code_of k ∷ c ∷ tail in
    let long : length bytes ≡ 15 + length behind = omega arith in
    let is : is_sized bytes ≡ true = are_sized bytes (record { low = omega (arith, long); high = omega (arith, long); told = rw (from_be_bytes-to_be_bytes_4 (length told) (omega arith)) (omega (arith, long)) }) in
    let stands : Stands bytes 7 tail (length bytes) = record { here = sym (ap (λ (x : List ℕ). tail ++ x) (drop-length bytes) ∙ append-nil tail); next_is = omega arith; within = omega arith } in
    fails_again bytes k c place is refl refl refl takes (refused bytes 7 (length bytes) stands ∙ ap (λ (at : ℕ). Err at) e)

number_refused : (k : Kind) (c n : ℕ) → n < 2 ^ 64 → number_rule k n ≡ false → IsRefused (message_at k c) (digits w64 n) 0
unfolding message_at
number_refused k c n small broken =
    first_refused (ruled (number_rule k) (number_at w64)) (λ m. body_at k c m) (digits w64 n) 0 (rule_refused (number_at w64) (number_rule k) (digits w64 n) n (read_again u64_codec n small) broken)

body_refused : (k : Kind) (c n : ℕ) (text : List ℕ) (offset : ℕ) → n < 2 ^ 64 → number_rule k n ≡ true → IsRefused (body_at k c n) text offset → IsRefused (message_at k c) (digits w64 n ++ text) (length (digits w64 n) + offset)
unfolding message_at
body_refused k c n text offset small kept refused =
    later_refused (ruled (number_rule k) (number_at w64)) (λ m. body_at k c m) (digits w64 n) text n offset (read_again (number_codec k) n (small, kept)) refused

-- what is refused as a body is refused in the frame
inside : (k : Kind) (n : ℕ) (text : List ℕ) (offset place : ℕ) → 15 + offset ≡ place → ((c : ℕ) → IsRefused (body_at k c n) text offset) → IsRefusedAt k n text place
inside k n text offset place e refused c behind takes kept small short =
    frame_refused k c n (text ++ behind) (length (digits w64 n) + offset) place takes short
    (body_refused k c n (text ++ behind) offset small kept (refused_before (body_at k c n) text behind offset (refused c))) (omega (arith, eight_bytes n))

pub broken_numbers : BrokenNumbers
broken_numbers k c n behind takes broken small short =
    frame_refused k c n behind 0 7 takes short (refused_before (message_at k c) (digits w64 n) behind 0 (number_refused k c n small broken)) refl

-- ---- bodies

-- the room behind parts that fit together
room_of : List Part → Room
room_of before = record { effects = max_effects - effects_count before; content = max_files - contents_count before }

-- what is refused as a part behind these is refused as the parts of a store
part_refused : (n count : ℕ) (before : List Part) (text : List ℕ) (offset : ℕ) → count < 2 ^ 8 → count_rule n count ≡ true → StandBefore count before → IsRefused (part_at (room_of before)) text offset
    → IsRefused (parts_at n) (count ∷ (flat_map part before ++ text)) (1 + (length (flat_map part before) + offset))
unfolding parts_at room_of
part_refused n count before text offset byte rule stand refused =
    later_refused (ruled (count_rule n) (number_at w8)) (λ k. each_at part_at room_behind k store_room) (count ∷ []) (flat_map part before ++ text) count (length (flat_map part before) + offset)
    (read_again (ruled_codec (count_rule n) u8_codec) count (byte, rule))
    (items_refused part_at room_behind part store_room before count text offset
    (each_read part_at room_behind part PartFitsIn part_codec store_room before (rooms_again store_room before stand.each stand.few stand.all_contents)) stand.fewer
    (subst (λ (room : Room). IsRefused (part_at room) text offset) (sym (room_left store_room before)) refused))

effects_of_part : (before : List Part) (count : ℕ) (text : List ℕ) (offset : ℕ) → StandBefore count before → IsRefused (effects_behind before) text offset → IsRefused (part_at (room_of before)) text offset
unfolding part_at room_of
effects_of_part before count text offset stand refused =
    let few : min max_effects (max_effects - effects_count before) ≡ max_effects - effects_count before = omega arith in
    let small : min max_files (max_files - contents_count before) ≡ max_files - contents_count before = omega arith in
    first_refused (effects_within (min max_effects (max_effects - effects_count before)) (min max_files (max_files - contents_count before)))
    (λ es. one (bases_at (distinct (touched_all es))) (part_of es)) text offset
    (subst (λ (most : ℕ). IsRefused (effects_within most (min max_files (max_files - contents_count before))) text offset) (sym few)
    (subst (λ (room : ℕ). IsRefused (effects_within (max_effects - effects_count before) room) text offset) (sym small) refused))

base_of_part : (before : List Part) (es : List Effect) (text : List ℕ) (offset : ℕ) → EffectsFit es → effects_count before + length es ≤ max_effects → contents_count before + contents_size es ≤ max_files
    → IsRefused (bases_at (distinct (touched_all es))) text offset → IsRefused (part_at (room_of before)) (effects es ++ text) (length (effects es) + offset)
unfolding part_at room_of
base_of_part before es text offset fits few small refused =
    let most : ℕ = min max_effects (max_effects - effects_count before) in
    let room : ℕ = min max_files (max_files - contents_count before) in
    later_refused (effects_within most room) (λ xs. one (bases_at (distinct (touched_all xs))) (part_of xs)) (effects es) text es offset
    (read_again (effects_within_codec most room (omega arith)) es (record { some = fits.some; few = omega (arith, fits.few, few); each = fits.each; all_contents = omega (arith, fits.all_contents, small) }))
    (first_refused (bases_at (distinct (touched_all es))) (λ bs. none (part_of es bs)) text offset refused)

count_refused : (n count : ℕ) → count < 2 ^ 8 → count_rule n count ≡ false → IsRefused (parts_at n) (count ∷ []) 0
unfolding parts_at
count_refused n count byte broken =
    first_refused (ruled (count_rule n) (number_at w8)) (λ k. each_at part_at room_behind k store_room) (count ∷ []) 0
    (rule_refused (number_at w8) (count_rule n) (count ∷ []) count (read_again u8_codec count byte) broken)

upto_refused : (n upto : ℕ) → upto < 2 ^ 64 → refused_rule n upto ≡ false → IsRefused (refused_upto n) (digits w64 upto) 0
unfolding refused_upto
upto_refused n upto small broken = rule_refused (number_at w64) (refused_rule n) (digits w64 upto) upto (read_again u64_codec upto small) broken

path_of_conflict : (text : List ℕ) (offset : ℕ) → IsRefused path_at text offset → IsRefused conflict_at text offset
unfolding conflict_at
path_of_conflict text offset refused = first_refused path_at (λ p. two (number_at w64) (λ t. ruled (λ v. not (eqb v t)) (number_at w64)) (conflict_of p)) text offset refused

equal_versions : (p : FilePath) (v : ℕ) → IsPath p → v < 2 ^ 64 → IsRefused conflict_at (path p ++ (digits w64 v ++ digits w64 v)) (length (path p) + (length (digits w64 v) + 0))
unfolding conflict_at
equal_versions p v is small =
    later_refused path_at (λ q. two (number_at w64) (λ t. ruled (λ x. not (eqb x t)) (number_at w64)) (conflict_of q)) (path p) (digits w64 v ++ digits w64 v) p (length (digits w64 v) + 0) (read_again path_codec p is)
    (later_refused (number_at w64) (λ t. one (ruled (λ x. not (eqb x t)) (number_at w64)) (conflict_of p t)) (digits w64 v) (digits w64 v) v 0 (read_again u64_codec v small)
    (first_refused (ruled (λ x. not (eqb x v)) (number_at w64)) (λ o. none (conflict_of p v o)) (digits w64 v) 0
    (rule_refused (number_at w64) (λ x. not (eqb x v)) (digits w64 v) v (read_again u64_codec v small) (ap not (eq-eqb v v refl)))))

module _ (c n : ℕ) where
  store_refused : (text : List ℕ) (offset : ℕ) → IsRefused (parts_at n) text offset → IsRefused (store_at c n) text offset
  unfolding store_at
  store_refused text offset refused = first_refused (parts_at n) (λ ps. none (messages.Store c n ps)) text offset refused

  low_accepted : (upto : ℕ) → upto < 2 ^ 64 → accepted_rule n upto ≡ false → IsRefused (accepted_at c n) (digits w64 upto) 0
  unfolding accepted_at
  low_accepted upto small broken =
      first_refused (ruled (accepted_rule n) (number_at w64)) (λ u. none (messages.Accepted c n u)) (digits w64 upto) 0
      (rule_refused (number_at w64) (accepted_rule n) (digits w64 upto) upto (read_again u64_codec upto small) broken)

  low_stale : (upto : ℕ) → upto < 2 ^ 64 → refused_rule n upto ≡ false → IsRefused (stale_at c n) (digits w64 upto) 0
  unfolding stale_at
  low_stale upto small broken = first_refused (refused_upto n) (λ u. one conflict_at (stale_of c n u)) (digits w64 upto) 0 (upto_refused n upto small broken)

  low_unfit : (upto : ℕ) → upto < 2 ^ 64 → refused_rule n upto ≡ false → IsRefused (unfit_at c n) (digits w64 upto) 0
  unfolding unfit_at
  low_unfit upto small broken = first_refused (refused_upto n) (λ u. two (number_at w32) (λ _. unfit_fault_at) (messages.Unfit c n u)) (digits w64 upto) 0 (upto_refused n upto small broken)

  low_full : (upto : ℕ) → upto < 2 ^ 64 → refused_rule n upto ≡ false → IsRefused (full_at c n) (digits w64 upto) 0
  unfolding full_at
  low_full upto small broken = first_refused (refused_upto n) (λ u. two (number_at w32) (λ _. full_fault_at) (messages.Full c n u)) (digits w64 upto) 0 (upto_refused n upto small broken)

  conflict_refused : (upto : ℕ) (text : List ℕ) (offset : ℕ) → RefusedFits n upto → IsRefused conflict_at text offset → IsRefused (stale_at c n) (digits w64 upto ++ text) (length (digits w64 upto) + offset)
  unfolding stale_at
  conflict_refused upto text offset fits refused =
      later_refused (refused_upto n) (λ u. one conflict_at (stale_of c n u)) (digits w64 upto) text upto offset (read_again (refused_codec n) upto fits)
      (first_refused conflict_at (λ told. none (stale_of c n upto told)) text offset refused)

  unfit_refused : (upto index : ℕ) (text : List ℕ) (offset : ℕ) → RefusedFits n upto → index < 2 ^ 32 → IsRefused unfit_fault_at text offset
      → IsRefused (unfit_at c n) (digits w64 upto ++ (digits w32 index ++ text)) (length (digits w64 upto) + (length (digits w32 index) + offset))
  unfolding unfit_at
  unfit_refused upto index text offset fits small refused =
      later_refused (refused_upto n) (λ u. two (number_at w32) (λ _. unfit_fault_at) (messages.Unfit c n u)) (digits w64 upto) (digits w32 index ++ text) upto (length (digits w32 index) + offset) (read_again (refused_codec n) upto fits)
      (later_refused (number_at w32) (λ i. one unfit_fault_at (messages.Unfit c n upto i)) (digits w32 index) text index offset (read_again u32_codec index small)
      (first_refused unfit_fault_at (λ f. none (messages.Unfit c n upto index f)) text offset refused))

  full_refused : (upto index : ℕ) (text : List ℕ) (offset : ℕ) → RefusedFits n upto → index < 2 ^ 32 → IsRefused full_fault_at text offset
      → IsRefused (full_at c n) (digits w64 upto ++ (digits w32 index ++ text)) (length (digits w64 upto) + (length (digits w32 index) + offset))
  unfolding full_at
  full_refused upto index text offset fits small refused =
      later_refused (refused_upto n) (λ u. two (number_at w32) (λ _. full_fault_at) (messages.Full c n u)) (digits w64 upto) (digits w32 index ++ text) upto (length (digits w32 index) + offset) (read_again (refused_codec n) upto fits)
      (later_refused (number_at w32) (λ i. one full_fault_at (messages.Full c n upto i)) (digits w32 index) text index offset (read_again u32_codec index small)
      (first_refused full_fault_at (λ f. none (messages.Full c n upto index f)) text offset refused))

  last_refused : (last : ℕ) → last < 2 ^ 64 → n ≤ last + 1 → IsRefused (gap_at c n) (digits w64 last) 0
  unfolding gap_at
  last_refused last small near =
      first_refused (ruled (λ x. leb (x + 2) n) (number_at w64)) (λ x. none (messages.Gap c n x)) (digits w64 last) 0
      (rule_refused (number_at w64) (λ x. leb (x + 2) n) (digits w64 last) last (read_again u64_codec last small) (le_fails (last + 2) n (omega arith)))

  rows_refused : (last : ℕ) (text : List ℕ) (offset : ℕ) → last < 2 ^ 64 → IsRefused rows_at text offset → IsRefused (snapshot_at c n) (digits w64 last ++ text) (length (digits w64 last) + offset)
  unfolding snapshot_at
  rows_refused last text offset small refused =
      later_refused (number_at w64) (λ l. one rows_at (messages.Snapshot c n l)) (digits w64 last) text last offset (read_again u64_codec last small)
      (first_refused rows_at (λ rs. none (messages.Snapshot c n last rs)) text offset refused)

  cause_refused : (text : List ℕ) (offset : ℕ) → IsRefused cause_at text offset → IsRefused (declined_at c n) text offset
  unfolding declined_at
  cause_refused text offset refused = first_refused cause_at (λ why. none (messages.Declined c n why)) text offset refused

-- ---- operations

sketched_refused : (text : List ℕ) (offset : ℕ) → IsRefused sketch_effects_at text offset → IsRefused sketches_at text offset
unfolding sketches_at
sketched_refused text offset refused = first_refused sketch_effects_at (λ es. one (bases_at (distinct (sketches_touch es))) (both_of es)) text offset refused

based_refused : (es : List SketchEffect) (text : List ℕ) (offset : ℕ) → SketchEffectsFit es → IsRefused (bases_at (distinct (sketches_touch es))) text offset → IsRefused sketches_at (sketch_effects es ++ text) (length (sketch_effects es) + offset)
unfolding sketches_at
based_refused es text offset fits refused =
    later_refused sketch_effects_at (λ xs. one (bases_at (distinct (sketches_touch xs))) (both_of xs)) (sketch_effects es) text es offset (read_again sketched_effects_codec es fits)
    (first_refused (bases_at (distinct (sketches_touch es))) (λ bs. none (both_of es bs)) text offset refused)

module _ (c n : ℕ) where
  operation_refused : (text : List ℕ) (offset : ℕ) → IsRefused (operation_at n) text offset → IsRefused (operate_at c n) text offset
  unfolding operate_at
  operation_refused text offset refused = first_refused (operation_at n) (λ e. none (messages.Operate c e)) text offset refused

  origin_refused : (text : List ℕ) (offset : ℕ) → IsRefused origin_at text offset → IsRefused (operate_at c n) text offset
  unfolding operation_at
  origin_refused text offset refused = operation_refused text offset (first_refused origin_at (λ o. one sketches_at (operation_of n o)) text offset refused)

  sketches_refused : (o : Origin) (text : List ℕ) (offset : ℕ) → OriginFits o → IsRefused sketches_at text offset → IsRefused (operate_at c n) (origin o ++ text) (length (origin o) + offset)
  unfolding operation_at
  sketches_refused o text offset fits refused =
      operation_refused (origin o ++ text) (length (origin o) + offset)
      (later_refused origin_at (λ x. one sketches_at (operation_of n x)) (origin o) text o offset (read_again origin_codec o fits) (first_refused sketches_at (λ s. none (operation_of n o s)) text offset refused))

wrong_code : (code : ℕ) → (code ≡ 0) ⊎ (7 < code) → (leb 1 code && leb code 7) ≡ false
wrong_code code (inl e) = rw e refl
wrong_code code (inr lt) = second_fails (leb 1 code) (leb code 7) (le_fails code 7 lt)

code_refused : (code : ℕ) → code < 2 ^ 8 → (code ≡ 0) ⊎ (7 < code) → IsRefused malformed_at (code ∷ []) 0
unfolding malformed_at
code_refused code byte wrong =
    first_refused (ruled (λ x. leb 1 x && leb x 7) (number_at w8)) (λ x. one (ruled (offset_rule x) (number_at w32)) (messages.Malformed x)) (code ∷ []) 0
    (rule_refused (number_at w8) (λ x. leb 1 x && leb x 7) (code ∷ []) code (read_again u8_codec code byte) (wrong_code code wrong))

no_offset : (code offset : ℕ) → code ≢ 5 → code ≢ 6 → 1 ≤ offset → offset_rule code offset ≡ false
no_offset code offset not5 not6 some = rw (ne_eqb offset 0 (λ e. omega arith), ne_eqb code 5 not5, ne_eqb code 6 not6) refl

offset_refused : (code offset : ℕ) → 1 ≤ code → code ≤ 7 → code ≢ 5 → code ≢ 6 → 1 ≤ offset → offset < 2 ^ 32 → IsRefused malformed_at (code ∷ digits w32 offset) (1 + 0)
unfolding malformed_at
offset_refused code offset low high not5 not6 some small =
    later_refused (ruled (λ x. leb 1 x && leb x 7) (number_at w8)) (λ x. one (ruled (offset_rule x) (number_at w32)) (messages.Malformed x)) (code ∷ []) (digits w32 offset) code 0
    (read_again refusal code (omega arith, rw (le-leb 1 code low, le-leb code 7 high) refl))
    (first_refused (ruled (offset_rule code) (number_at w32)) (λ o. none (messages.Malformed code o)) (digits w32 offset) 0
    (rule_refused (number_at w32) (offset_rule code) (digits w32 offset) offset (read_again u32_codec offset small) (no_offset code offset not5 not6 some)))

pub broken_bodies : BrokenBodies
broken_bodies = record {
  count_is_none = λ n count byte broken. inside Store n (count ∷ []) 0 15 refl (λ c. store_refused c n (count ∷ []) 0 (count_refused n count byte broken));
  effects_are_refused = λ n count before text offset byte rule stand refused.
      inside Store n (count ∷ (flat_map part before ++ text)) (1 + (length (flat_map part before) + offset)) (16 + length (flat_map part before) + offset) (omega arith)
      (λ c. store_refused c n (count ∷ (flat_map part before ++ text)) (1 + (length (flat_map part before) + offset))
      (part_refused n count before text offset byte rule stand (effects_of_part before count text offset stand refused)));
  base_is_refused = λ n count before es text offset byte rule stand fits few small refused.
      inside Store n (count ∷ (flat_map part before ++ (effects es ++ text))) (1 + (length (flat_map part before) + (length (effects es) + offset))) (16 + length (flat_map part before) + length (effects es) + offset) (omega arith)
      (λ c. store_refused c n (count ∷ (flat_map part before ++ (effects es ++ text))) (1 + (length (flat_map part before) + (length (effects es) + offset)))
      (part_refused n count before (effects es ++ text) (length (effects es) + offset) byte rule stand (base_of_part before es text offset fits few small refused)));
  origin_is_refused = λ n text offset refused. inside Operate n text offset (15 + offset) refl (λ c. origin_refused c n text offset refused);
  sketches_are_refused = λ n o text offset fits refused.
      inside Operate n (origin o ++ text) (length (origin o) + offset) (15 + length (origin o) + offset) (omega arith) (λ c. sketches_refused c n o text offset fits (sketched_refused text offset refused));
  sketch_base_is_refused = λ n o es text offset fits fits' refused.
      inside Operate n (origin o ++ (sketch_effects es ++ text)) (length (origin o) + (length (sketch_effects es) + offset)) (15 + length (origin o) + length (sketch_effects es) + offset) (omega arith)
      (λ c. sketches_refused c n o (sketch_effects es ++ text) (length (sketch_effects es) + offset) fits (based_refused es text offset fits' refused));
  accepted_is_low = λ n upto low small.
      inside Accepted n (digits w64 upto) 0 15 refl (λ c. low_accepted c n upto (omega (arith, low, small)) (le_fails n upto low));
  refused_is_low = λ n upto low small.
      let fits : upto < 2 ^ 64 = omega (arith, low, small) in
      let broken : refused_rule n upto ≡ false = le_fails n (upto + 1) low in (
        inside Stale n (digits w64 upto) 0 15 refl (λ c. low_stale c n upto fits broken),
        (
          inside Unfit n (digits w64 upto) 0 15 refl (λ c. low_unfit c n upto fits broken),
          (inside Full n (digits w64 upto) 0 15 refl (λ c. low_full c n upto fits broken), tt),
        ),
      );
  path_is_refused = λ n upto text offset fits refused.
      inside Stale n (digits w64 upto ++ text) (length (digits w64 upto) + offset) (23 + offset) (omega (arith, eight_bytes upto))
      (λ c. conflict_refused c n upto text offset fits (path_of_conflict text offset refused));
  versions_are_equal = λ n upto p v fits is small.
      let text : List ℕ = path p ++ (digits w64 v ++ digits w64 v) in
      let offset : ℕ = length (path p) + (length (digits w64 v) + 0) in
      inside Stale n (digits w64 upto ++ text) (length (digits w64 upto) + offset) (23 + length (path p) + 8) (omega (arith, eight_bytes upto, eight_bytes v))
      (λ c. conflict_refused c n upto text offset fits (equal_versions p v is small));
  unfit_is_refused = λ n upto index text offset fits small refused.
      inside Unfit n (digits w64 upto ++ (digits w32 index ++ text)) (length (digits w64 upto) + (length (digits w32 index) + offset)) (27 + offset) (omega (arith, eight_bytes upto, four_bytes index))
      (λ c. unfit_refused c n upto index text offset fits small refused);
  full_is_refused = λ n upto index text offset fits small refused.
      inside Full n (digits w64 upto ++ (digits w32 index ++ text)) (length (digits w64 upto) + (length (digits w32 index) + offset)) (27 + offset) (omega (arith, eight_bytes upto, four_bytes index))
      (λ c. full_refused c n upto index text offset fits small refused);
  last_is_near = λ n last small near. inside Gap n (digits w64 last) 0 15 refl (λ c. last_refused c n last small near);
  rows_are_refused = λ n last text offset small refused.
      inside Snapshot n (digits w64 last ++ text) (length (digits w64 last) + offset) (23 + offset) (omega (arith, eight_bytes last)) (λ c. rows_refused c n last text offset small refused);
  cause_is_refused = λ n text offset refused. inside Declined n text offset (15 + offset) refl (λ c. cause_refused c n text offset refused);
  code_is_none = λ n code byte wrong. inside Malformed n (code ∷ []) 0 15 refl (λ c. code_refused code byte wrong);
  offset_is_told = λ n code offset low high not5 not6 some small. inside Malformed n (code ∷ digits w32 offset) (1 + 0) 16 refl (λ c. offset_refused code offset low high not5 not6 some small);
}

-- ---- what is left over

left_again : (bytes : List ℕ) (m : Message) (place : ℕ) → is_sized bytes ≡ true → get_or bytes 4 0 ≡ frame_version → get_or bytes 5 0 ≡ code_of (kind m) → get_or bytes 6 0 ≡ client_of m → client_rule (kind m) (client_of m) ≡ true
    → message_at (kind m) (client_of m) bytes 7 ≡ Ok (m, place) → place ≢ length bytes → frame_of bytes ≡ Err (Trailing place)
unfolding frame_of
left_again bytes m place is version code client fits read past = rw (is, version, code, kind_again (kind m), client, fits, read, ne_eqb place (length bytes) past) refl

pub left_bytes : LeftBytes
unfolding digits
left_bytes m left valid some short =
    let told : List ℕ = frame_version ∷ code_of (kind m) ∷ client_of m ∷ digits w64 (number_of m) ++ (body m ++ left) in
    let front : List ℕ = digits w32 (length told) ++ (frame_version ∷ code_of (kind m) ∷ client_of m ∷ tail m) in
    let bytes : List ℕ = frame_with (kind m) (client_of m) (number_of m) (body m ++ left) in
    let both : length (body m ++ left) ≡ length (body m) + length left = length-append (body m) left in
    let size : length (frame m) ≡ 15 + length (body m) = omega arith in
    let long : length bytes ≡ 15 + length (body m ++ left) = omega arith in
    let end : length front ≡ length (frame m) = omega arith in
    let is : is_sized bytes ≡ true = are_sized bytes (record { low = omega (arith, long); high = omega (arith, long, both, size, short); told = rw (from_be_bytes-to_be_bytes_4 (length told) (omega (arith, both, size, short))) (omega (arith, long)) }) in
    let behind : drop (length (frame m)) bytes ≡ left = drop_at front left (length (frame m)) end in
    let stands : Stands bytes 7 (tail m) (length (frame m)) = record { here = ap (λ (x : List ℕ). tail m ++ x) (sym behind); next_is = omega (arith, size); within = omega (arith, long, both, size) } in
    left_again bytes m (length (frame m)) is refl refl refl valid.client_fits (message_again m bytes 7 (length (frame m)) stands valid.number_fits valid.number_small valid.body_fits) (λ e. omega (arith, e, long, both, size, some))
