-- The laws of parts that break a rule.
use Rattle.std.proofs.Common.{◌≡◌, ◌≢◌, ◌⊎◌, ℕ, ◌+◌, ◌-◌, ◌^◌, ◌<◌, ◌≤◌, min, Bool, true, false, ◌&&◌, not, leb, eqb, List, [], ◌∷◌, ◌++◌, length, map, Some, inl, inr, refl, sym, subst, ◌∙◌, arith, lit<}
use Rattle.std.specs.Int.{w32, w64}
use Rattle.std.specs.List.{flat_map, list_all, AllByRecursion}
use Rattle.std.specs.Ordering.{is_lt}
use Rattle.std.specs.declared.cmp.Ordering.{Ordering}
use Rattle.std.specs.declared.cmp.Ordering.TheVariants.{Less}
use Rattle.std.proofs.lemmas.Bool.{le-leb, eq-eqb, ne_eqb}
use Rattle.std.proofs.lemmas.List.Sums.{sum_by-cons}
use Rattle.byte_fields.specs.Field.{digits, ruled, none, one, two, number_at, each_at, passed}
use Rattle.byte_fields.specs.Broken.{IsRefused, EachIsRead}
use Rattle.byte_fields.proofs.Codec.{u64_codec}
use Rattle.byte_fields.proofs.Breaking.{read_again, refused_there, rule_refused, ruled_refused, first_refused, later_refused, tagged_refused, unknown_kind, second_fails, count_refused, counted_refused, items_refused, each_read}
use Rattle.tree_values.specs.declared.node.Effect.{Effect}
use Rattle.tree_values.specs.declared.node.Effect.TheVariants.{Make, Put, Remove, Move, Mode}
use Rattle.tree_values.specs.declared.format.Format.{Format}
use Rattle.tree_values.specs.declared.format.Format.TheVariants.{Second}
use Rattle.tree_values.specs.declared.node.Base.{Base}
use Rattle.tree_values.specs.declared.node.Row.{Row}
use Rattle.tree_values.specs.declared.node.Node.TheVariants.{File}
use Rattle.file_paths.specs.Path.{FilePath, IsPath, path_cmp, is_same_path, folder_of}
use Rattle.tree_values.specs.Tree.{Volume, IsTree, is_root, is_folder, total_size}
use Rattle.tree_values.specs.Effects.{content_size, contents_size}
use Rattle.tree_values.specs.Lists.{IsIn}
use Rattle.file_paths.specs.Spelling.{path}
use Rattle.tree_values.specs.Spelling.{effect, base, row, EffectFits, EffectFitsIn, AreBasesOf}
use Rattle.file_paths.specs.Reading.{path_at, content_at}
use Rattle.tree_values.specs.Reading.{make_at, put_at, remove_at, move_at, bit_at, mode_at, effect_kinds, effect_in, effect_at, room_after, effects_within, base_at, first_base_at, others_after, bases_at, may_stand, file_at, node_kinds, standing_at, room_beside, next_row_at, with_next, rows_in}
use Rattle.tree_laws.specs.Broken.{BrokenEffects, BrokenEffectLists, BrokenBases, IsNext, BrokenRows, BrokenRowLists}
use Rattle.file_paths.proofs.Parts.{path_codec, length_refused}
use Rattle.tree_values.proofs.RowsTaken.{rows_passed}
use Rattle.tree_laws.proofs.Parts.{effect_codec, rooms_again, first_base_fits, first_base_codec, path_part, version_part, NextFits, next_row_codec, rows_again}
use Rattle.file_paths.proofs.Order.{paths_apart, is_less}
use Rattle.byte_fields.proofs.Facts.{le_fails, eight_bytes}

large_refused : (room size : ℕ) → size < 2 ^ 32 → (8388608 < size) ⊎ (room < size) → IsRefused (content_at (min 8388608 room)) (digits w32 size) 0
large_refused room size small large = length_refused (min 8388608 room) size (elim large [ inl h ↦ omega arith | inr h ↦ omega arith ]) small

-- ---- effects

module _ (room : ℕ) where
  make_refused : (text : List ℕ) (offset : ℕ) → IsRefused path_at text offset → IsRefused make_at text offset
  unfolding make_at
  make_refused text offset refused = first_refused path_at (λ p. none (Make p)) text offset refused

  put_refused : (text : List ℕ) (offset : ℕ) → IsRefused path_at text offset → IsRefused (put_at room) text offset
  unfolding put_at
  put_refused text offset refused = first_refused path_at (λ p. one (content_at (min 8388608 room)) (Put p)) text offset refused

  remove_refused : (text : List ℕ) (offset : ℕ) → IsRefused path_at text offset → IsRefused remove_at text offset
  unfolding remove_at
  remove_refused text offset refused = first_refused path_at (λ p. none (Remove p)) text offset refused

  move_refused : (text : List ℕ) (offset : ℕ) → IsRefused path_at text offset → IsRefused move_at text offset
  unfolding move_at
  move_refused text offset refused = first_refused path_at (λ p. one path_at (Move p)) text offset refused

  target_refused : (from : FilePath) (text : List ℕ) (offset : ℕ) → IsPath from → IsRefused path_at text offset → IsRefused move_at (path from ++ text) (length (path from) + offset)
  unfolding move_at
  target_refused from text offset is refused =
      later_refused path_at (λ p. one path_at (Move p)) (path from) text from offset (read_again path_codec from is) (first_refused path_at (λ q. none (Move from q)) text offset refused)

  content_refused : (p : FilePath) (text : List ℕ) (offset : ℕ) → IsPath p → IsRefused (content_at (min 8388608 room)) text offset → IsRefused (put_at room) (path p ++ text) (length (path p) + offset)
  unfolding put_at
  content_refused p text offset is refused =
      later_refused path_at (λ q. one (content_at (min 8388608 room)) (Put q)) (path p) text p offset (read_again path_codec p is) (first_refused (content_at (min 8388608 room)) (λ c. none (Put p c)) text offset refused)

mode_refused : (text : List ℕ) (offset : ℕ) → IsRefused path_at text offset → IsRefused mode_at text offset
unfolding mode_at
mode_refused text offset refused = first_refused path_at (λ p. one bit_at (Mode p)) text offset refused

bit_refused : (p : FilePath) (byte : ℕ) → IsPath p → 1 < byte → byte < 2 ^ 8 → IsRefused mode_at (path p ++ byte ∷ []) (length (path p) + 0)
unfolding mode_at bit_at
bit_refused p byte is large small =
    later_refused path_at (λ q. one bit_at (Mode q)) (path p) (byte ∷ []) p 0 (read_again path_codec p is)
    (first_refused bit_at (λ exec. none (Mode p exec)) (byte ∷ []) 0 (unknown_kind ((0, none false) ∷ (1, none true) ∷ []) byte small ((λ e. omega (arith, large)), ((λ e. omega (arith, large)), tt))))

pub broken_effects : BrokenEffects
unfolding effect_in
broken_effects = record {
  kind_is_none = λ format room kind byte none. unknown_kind (effect_kinds format room) kind byte none;
  path_is_none = λ format room text offset refused. (
    tagged_refused (effect_kinds format room) 1 make_at text offset (lit< tt) (λ tag at bytes. refl) (make_refused room text offset refused),
    (
      tagged_refused (effect_kinds format room) 2 (put_at room) text offset (lit< tt) (λ tag at bytes. refl) (put_refused room text offset refused),
      (
        tagged_refused (effect_kinds format room) 3 remove_at text offset (lit< tt) (λ tag at bytes. refl) (remove_refused room text offset refused),
        (tagged_refused (effect_kinds format room) 4 move_at text offset (lit< tt) (λ tag at bytes. refl) (move_refused room text offset refused), tt),
      ),
    ),
  );
  target_is_none = λ format room from text offset is refused.
      tagged_refused (effect_kinds format room) 4 move_at (path from ++ text) (length (path from) + offset) (lit< tt) (λ tag at bytes. refl) (target_refused room from text offset is refused);
  content_is_large = λ format room size p is small large.
      refused_there (effect_in format room) (2 ∷ (path p ++ digits w32 size)) (1 + (length (path p) + 0)) (1 + length (path p)) (omega arith)
      (tagged_refused (effect_kinds format room) 2 (put_at room) (path p ++ digits w32 size) (length (path p) + 0) (lit< tt) (λ tag at bytes. refl) (content_refused room p (digits w32 size) 0 is (large_refused room size small large)));
  mode_path_is_none = λ room text offset refused. tagged_refused (effect_kinds Second room) 5 mode_at text offset (lit< tt) (λ tag at bytes. refl) (mode_refused text offset refused);
  bit_is_none = λ room p byte is large small.
      refused_there (effect_in Second room) (5 ∷ (path p ++ byte ∷ [])) (1 + (length (path p) + 0)) (1 + length (path p)) (omega arith)
      (tagged_refused (effect_kinds Second room) 5 mode_at (path p ++ byte ∷ []) (length (path p) + 0) (lit< tt) (λ tag at bytes. refl) (bit_refused p byte is large small));
}

room_left : (room : ℕ) (es : List Effect) → passed room_after room es ≡ room - contents_size es
room_left room [] = omega arith
room_left room (e ∷ es) = room_left (room - content_size e) es ∙ omega (arith, sum_by-cons content_size e es)

pub wrong_count : (count most : ℕ) → (count ≡ 0) ⊎ (most < count) → (leb 1 count && leb count most) ≡ false
wrong_count count most (inl e) = rw e refl
wrong_count count most (inr lt) = second_fails (leb 1 count) (leb count most) (le_fails count most lt)

pub right_count : (count most before : ℕ) → before < count → count ≤ most → (leb 1 count && leb count most) ≡ true
right_count count most before some few = rw (le-leb 1 count (omega arith), le-leb count most few) refl

effect_refused : (most room count : ℕ) (before : List Effect) (text : List ℕ) (offset : ℕ) → length before < count → count ≤ most → count < 2 ^ 32 → AllByRecursion EffectFits before → contents_size before ≤ room
    → IsRefused (effect_at (room - contents_size before)) text offset → IsRefused (effects_within most room) (digits w32 count ++ (flat_map effect before ++ text)) (4 + (length (flat_map effect before) + offset))
unfolding effects_within
effect_refused most room count before text offset some few small fits le refused =
    counted_refused (λ n. leb 1 n && leb n most) (λ n. each_at effect_at room_after n room) count small (right_count count most (length before) some few) (flat_map effect before ++ text) (length (flat_map effect before) + offset)
    (items_refused effect_at room_after effect room before count text offset (each_read effect_at room_after effect EffectFitsIn effect_codec room before (rooms_again room before fits le)) some
    (subst (λ (left : ℕ). IsRefused (effect_at left) text offset) (sym (room_left room before)) refused))

pub broken_effect_lists : BrokenEffectLists
unfolding effects_within
broken_effect_lists = record {
  count_is_wrong = λ most room count small wrong. count_refused (λ n. leb 1 n && leb n most) (λ n. each_at effect_at room_after n room) count small (wrong_count count most wrong);
  effect_is_refused = effect_refused;
  contents_are_large = λ most room count before p size some few small fits le is fits_size large.
      effect_refused most room count before (2 ∷ (path p ++ digits w32 size)) (1 + length (path p)) some few small fits le
      (broken_effects.content_is_large Second (room - contents_size before) size p is fits_size (inr (omega arith)));
}

-- ---- bases

paths_left : (front more : List FilePath) (bs : List Base) → map (λ b. b.path) bs ≡ front → passed others_after (front ++ more) bs ≡ more
paths_left [] more [] e = refl
paths_left [] more (b ∷ bs) e = absurd cc
paths_left (p ∷ front) more [] e = absurd cc
paths_left (p ∷ front) more (b ∷ bs) e = paths_left front more bs cc

bases_read : (front more : List FilePath) (bs : List Base) → AreBasesOf front bs → EachIsRead first_base_at others_after base (front ++ more) bs
unfolding first_base_fits
bases_read [] more [] fits = tt
bases_read [] more (b ∷ bs) fits = absurd cc
bases_read (p ∷ front) more [] fits = absurd cc
bases_read (p ∷ front) more (b ∷ bs) fits =
    let here : b.path ≡ p = cc in
    let there : map (λ (c : Base). c.path) bs ≡ front = cc in
    (read_again (first_base_codec (p ∷ (front ++ more))) b (fits.1.0, here), bases_read front more bs (there, fits.1.1))

few_before : (front others : List FilePath) (known : FilePath) (before : List Base) → map (λ b. b.path) before ≡ front → length before < length (front ++ known ∷ others)
few_before [] others known [] e = omega arith
few_before [] others known (b ∷ bs) e = absurd cc
few_before (p ∷ front) others known [] e = absurd cc
few_before (p ∷ front) others known (b ∷ bs) e = omega (arith, few_before front others known bs cc)

first_is_known : (known : FilePath) (others : List FilePath) (text : List ℕ) (offset : ℕ) → IsRefused (base_at known) text offset → IsRefused (first_base_at (known ∷ others)) text offset
unfolding first_base_at
first_is_known known others text offset refused = refused

base_refused : (known : FilePath) (text : List ℕ) (offset : ℕ) → IsRefused (ruled (is_same_path known) path_at) text offset → IsRefused (base_at known) text offset
unfolding base_at
base_refused known text offset refused =
    first_refused (ruled (is_same_path known) path_at) (λ p. one (number_at w64) (λ v. record { path = p; version = v })) text offset refused

pub broken_bases : BrokenBases
unfolding bases_at
broken_bases = record {
  count_is_another = λ touched count small another. count_refused (λ n. eqb n (length touched)) (λ n. each_at first_base_at others_after n touched) count small (ne_eqb count (length touched) another);
  path_is_another = λ known other is differ.
      base_refused known (path other) 0 (rule_refused path_at (is_same_path known) (path other) other (read_again path_codec other is) (paths_apart known other differ));
  path_is_none = λ known text offset refused. base_refused known text offset (ruled_refused path_at (is_same_path known) text offset refused);
  base_is_refused = λ front others known before text offset fits small refused.
      let touched = front ++ known ∷ others in
      counted_refused (λ n. eqb n (length touched)) (λ n. each_at first_base_at others_after n touched) (length touched) small (eq-eqb (length touched) (length touched) refl) (flat_map base before ++ text) (length (flat_map base before) + offset)
      (items_refused first_base_at others_after base touched before (length touched) text offset (bases_read front (known ∷ others) before fits) (few_before front others known before fits.0)
      (subst (λ (left : List FilePath). IsRefused (first_base_at left) text offset) (sym (paths_left front (known ∷ others) before fits.0)) (first_is_known known others text offset refused)));
}

-- ---- rows

some_fails : {X : Type 0} (test : X → Bool) (x : X) (xs : List X) → IsIn x xs → test x ≡ false → list_all test xs ≡ false
some_fails test x [] is fails = absurd is
some_fails test x (y ∷ ys) (inl here) fails = rw (← here, fails) refl
some_fails test x (y ∷ ys) (inr there) fails = second_fails (test y) (list_all test ys) (some_fails test x ys there fails)

not_low : (o : Ordering) → o ≢ Less → is_lt o ≡ false
not_low o differ = by (is_lt o) refl
  where
    by : (b : Bool) → is_lt o ≡ b → b ≡ false
    by false e = refl
    by true e = absurd (differ (is_less o e))

module _ (format : Format) (before : Volume) where
  path_refused : (text : List ℕ) (offset : ℕ) → IsRefused (ruled (may_stand before) path_at) text offset → IsRefused (next_row_at format before) text offset
  unfolding next_row_at
  path_refused text offset refused =
      first_refused (ruled (may_stand before) path_at)
      (λ p. two (ruled (leb 1) (number_at w64)) (λ _. standing_at format (is_folder before (folder_of p)) (room_beside before)) (λ v n. record { path = p; version = v; node = n })) text offset refused

  no_place : (p : FilePath) → IsPath p → may_stand before p ≡ false → IsRefused (next_row_at format before) (path p) 0
  no_place p is broken = path_refused (path p) 0 (rule_refused path_at (may_stand before) (path p) p (read_again path_codec p is) broken)

  version_refused : (p : FilePath) (text : List ℕ) (offset : ℕ) → IsPath p → may_stand before p ≡ true → IsRefused (ruled (leb 1) (number_at w64)) text offset → IsRefused (next_row_at format before) (path p ++ text) (length (path p) + offset)
  unfolding next_row_at
  version_refused p text offset is stands refused =
      later_refused (ruled (may_stand before) path_at)
      (λ q. two (ruled (leb 1) (number_at w64)) (λ _. standing_at format (is_folder before (folder_of q)) (room_beside before)) (λ v n. record { path = q; version = v; node = n })) (path p) text p offset
      (read_again (path_part format before) p (is, stands))
      (first_refused (ruled (leb 1) (number_at w64)) (λ v. one (standing_at format (is_folder before (folder_of p)) (room_beside before)) (λ n. record { path = p; version = v; node = n })) text offset refused)

  node_refused : (p : FilePath) (version : ℕ) (text : List ℕ) (offset : ℕ) → IsNext before p version → IsRefused (standing_at format (is_folder before (folder_of p)) (room_beside before)) text offset
      → IsRefused (next_row_at format before) (path p ++ (digits w64 version ++ text)) (length (path p) + (length (digits w64 version) + offset))
  unfolding next_row_at
  node_refused p version text offset next refused =
      later_refused (ruled (may_stand before) path_at)
      (λ q. two (ruled (leb 1) (number_at w64)) (λ _. standing_at format (is_folder before (folder_of q)) (room_beside before)) (λ v n. record { path = q; version = v; node = n })) (path p) (digits w64 version ++ text) p (length (digits w64 version) + offset)
      (read_again (path_part format before) p (next.is_path, next.stands))
      (later_refused (ruled (leb 1) (number_at w64)) (λ v. one (standing_at format (is_folder before (folder_of p)) (room_beside before)) (λ n. record { path = p; version = v; node = n })) (digits w64 version) text version offset
      (read_again (version_part format before) version (next.fits, le-leb 1 version next.touched))
      (first_refused (standing_at format (is_folder before (folder_of p)) (room_beside before)) (λ n. none (record { path = p; version = version; node = n })) text offset refused))

node_kind_refused : (format : Format) (in_folder : Bool) (room kind : ℕ) → kind < 2 ^ 8 → AllByRecursion (λ known. kind ≢ known.0) (node_kinds format in_folder room) → IsRefused (standing_at format in_folder room) (kind ∷ []) 0
unfolding standing_at
node_kind_refused format in_folder room kind byte none = unknown_kind (node_kinds format in_folder room) kind byte none

file_refused : (format : Format) (room size : ℕ) → size < 2 ^ 32 → (8388608 < size) ⊎ (room < size) → IsRefused (standing_at format true room) (2 ∷ digits w32 size) (1 + 0)
unfolding standing_at file_at
file_refused format room size small large =
    tagged_refused (node_kinds format true room) 2 (file_at false room) (digits w32 size) 0 (lit< tt) (λ tag at bytes. refl)
    (first_refused (content_at (min 8388608 room)) (λ c. none (Some (File c false))) (digits w32 size) 0 (large_refused room size small large))

node_there : (format : Format) (before : Volume) (p : FilePath) (version kind : ℕ) → IsNext before p version → kind < 2 ^ 8 → AllByRecursion (λ known. kind ≢ known.0) (node_kinds format (is_folder before (folder_of p)) (room_beside before))
    → IsRefused (next_row_at format before) (path p ++ (digits w64 version ++ kind ∷ [])) (length (path p) + 8)
node_there format before p version kind next byte none =
    refused_there (next_row_at format before) (path p ++ (digits w64 version ++ kind ∷ [])) (length (path p) + (length (digits w64 version) + 0)) (length (path p) + 8) (omega (arith, eight_bytes version))
    (node_refused format before p version (kind ∷ []) 0 next (node_kind_refused format (is_folder before (folder_of p)) (room_beside before) kind byte none))

pub broken_rows : BrokenRows
broken_rows = record {
  path_is_none = λ format before text offset refused. path_refused format before text offset (ruled_refused path_at (may_stand before) text offset refused);
  path_is_root = λ format before. no_place format before [] (record { named = refl; shallow = omega arith; short = omega arith }) refl;
  path_is_not_above = λ format before r p among is differ.
      no_place format before p is
      (second_fails (not (is_root p)) (list_all (λ other. is_lt (path_cmp other.path p)) before)
      (some_fails (λ (other : Row). is_lt (path_cmp other.path p)) r before among (not_low (path_cmp r.path p) differ)));
  version_is_0 = λ format before p is stands.
      refused_there (next_row_at format before) (path p ++ digits w64 0) (length (path p) + 0) (length (path p)) (omega arith)
      (version_refused format before p (digits w64 0) 0 is stands (rule_refused (number_at w64) (leb 1) (digits w64 0) 0 (read_again u64_codec 0 (lit< tt)) refl));
  kind_is_none = node_there;
  parent_is_no_folder = λ format before p version kind next orphan some byte. node_there format before p version kind next byte (rw orphan (λ e. omega (arith, some), tt));
  content_is_large = λ format before p version size next folder tree small large.
      refused_there (next_row_at format before) (path p ++ (digits w64 version ++ (2 ∷ digits w32 size))) (length (path p) + (length (digits w64 version) + (1 + 0))) (length (path p) + 9) (omega (arith, eight_bytes version))
      (node_refused format before p version (2 ∷ digits w32 size) (1 + 0) next
      (subst (λ (in_folder : Bool). IsRefused (standing_at format in_folder (room_beside before)) (2 ∷ digits w32 size) (1 + 0)) (sym folder) (file_refused format (room_beside before) size small (past before size tree large))));
}
  where
    past : (before : Volume) (size : ℕ) → IsTree before → (8388608 < size) ⊎ (33554432 < total_size before + size) → (8388608 < size) ⊎ (room_beside before < size)
    past before size tree (inl h) = inl h
    past before size tree (inr h) = inr (omega (arith, tree.small))

pub broken_row_lists : BrokenRowLists
unfolding rows_in
broken_row_lists = record {
  count_is_large = λ format count large small. count_refused (λ n. leb n 16384) (λ n. each_at (next_row_at format) with_next n []) count small (le_fails count 16384 large);
  row_is_refused = λ format before count text offset tree known some few refused.
      counted_refused (λ n. leb n 16384) (λ n. each_at (next_row_at format) with_next n []) count (omega arith) (le-leb count 16384 few) (flat_map row before ++ text) (length (flat_map row before) + offset)
      (items_refused (next_row_at format) with_next row [] before count text offset (each_read (next_row_at format) with_next row (NextFits format) (next_row_codec format) [] before (rows_again format [] before tree known)) some
      (subst (λ (rows : Volume). IsRefused (next_row_at format rows) text offset) (sym (rows_passed [] before)) refused));
}
