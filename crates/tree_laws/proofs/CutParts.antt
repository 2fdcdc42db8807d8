-- Bytes that end inside a part: the field in which they end is the faulty one.
use Rattle.std.proofs.Common.{◌≡◌, ℕ, ◌+◌, ◌-◌, ◌^◌, ◌<◌, ◌≤◌, min, Bool, true, false, ◌&&◌, leb, eqb, List, [], ◌∷◌, ◌++◌, length, take, Option, Some, None, Ok, Err, refl, true≢false, sym, ap, ◌∙◌, arith, lit<, length-append}
use Rattle.std.specs.Prelude.{sum}
use Rattle.std.specs.Int.{w64}
use Rattle.std.proofs.lemmas.Bool.{le-leb, eq-eqb}
use Rattle.std.proofs.lemmas.List.{length-map}
use Rattle.byte_fields.specs.Field.{ruled, number_at, digits}
use Rattle.byte_fields.specs.Codec.{Stands}
use Rattle.byte_fields.specs.Cuts.{start_of, IsCut}
use Rattle.byte_fields.proofs.Codec.{u32_codec, ruled_codec, stands_second}
use Rattle.byte_fields.proofs.Facts.{sum_more}
use Rattle.byte_fields.proofs.Cutting.{sum_both, u32_cut, u64_cut, ruled_cut, cut_for, one_cut, two_cut, three_cut, tagged_cut, each_cut, counted_cut}
use Rattle.tree_values.specs.declared.node.Effect.{Effect}
use Rattle.tree_values.specs.declared.node.Effect.TheVariants.{Make, Put, Remove, Move, Mode}
use Rattle.tree_values.specs.declared.format.Format.{Format}
use Rattle.tree_values.specs.declared.format.Format.TheVariants.{First, Second}
use Rattle.tree_values.specs.declared.node.Base.{Base}
use Rattle.tree_values.specs.declared.node.Node.{Node}
use Rattle.tree_values.specs.declared.node.Node.TheVariants.{Folder, File}
use Rattle.file_paths.specs.Path.{FilePath, IsPath, is_same_path, folder_of}
use Rattle.tree_values.specs.Tree.{Volume, IsTree, is_folder}
use Rattle.file_paths.specs.Spelling.{path, content, ContentFits}
use Rattle.tree_values.specs.Spelling.{effect, effects, base, bases, node, row, rows, bit, EffectFitsIn, EffectFitsOf, EffectsFitWithin, EffectsFit, BaseFits, AreBasesOf, AreRowsOf}
use Rattle.file_paths.specs.Fields.{path_fields, content_fields}
use Rattle.tree_values.specs.Fields.{effect_fields, effects_fields, base_fields, bases_fields, node_fields, row_fields, rows_fields}
use Rattle.file_paths.specs.Reading.{path_at, content_at}
use Rattle.tree_values.specs.Reading.{make_at, put_at, remove_at, move_at, bit_at, mode_at, effect_kinds, effect_in, effect_at, room_after, effects_within, effects_at, base_at, first_base_at, others_after, bases_at, may_stand, file_at, node_kinds, standing_at, room_beside, next_row_at, with_next, rows_in, rows_at}
use Rattle.file_paths.proofs.Parts.{path_codec, path_cut, content_cut}
use Rattle.tree_laws.proofs.Parts.{any, effect_codec, all_rows, rooms_again, first_base_fits, first_base_codec, bases_again, NodeFits, NextFits, path_part, version_part, next_row_codec, rows_again}
use Rattle.tree_values.proofs.Sizes.{bit_length, mode_length}
use Rattle.file_paths.proofs.Order.{path_tied}

put_cut : (room : ℕ) → IsCut (content_at (min 8388608 room)) content content_fields (ContentFits (min 8388608 room))
put_cut room = content_cut (min 8388608 room) (omega arith)

-- ---- effects

short_node : (bytes : List ℕ) (at kind next end : ℕ) → Stands bytes at (kind ∷ []) next → at + 1 ≤ end → end < next → ⊥
short_node bytes at kind next end stands ge lt = omega (arith, stands.next_is)

effect_whole : (room : ℕ) (x : Effect) → EffectFitsIn room x → sum (effect_fields x) ≡ length (effect x)
effect_whole room (Make p) fits = omega (arith, sum_more 1 (path_fields p), path_cut.whole p fits.0.0)
effect_whole room (Put p c) fits =
    omega (arith, sum_more 1 (path_fields p ++ content_fields c), sum_both (path_fields p) (content_fields c), length-append (path p) (content c), path_cut.whole p fits.0.0.0, (put_cut room).whole c (omega (arith, fits.0.1, fits.1), fits.0.0.1))
effect_whole room (Remove p) fits = omega (arith, sum_more 1 (path_fields p), path_cut.whole p fits.0.0)
effect_whole room (Move p q) fits =
    omega (arith, sum_more 1 (path_fields p ++ path_fields q), sum_both (path_fields p) (path_fields q), length-append (path p) (path q), path_cut.whole p fits.0.0.0, path_cut.whole q fits.0.0.1)
effect_whole room (Mode p exec) fits =
    omega (arith, sum_more 1 (path_fields p ++ 1 ∷ []), sum_both (path_fields p) (1 ∷ []), sum_more 1 [], mode_length p exec, path_cut.whole p fits.0.0)

bit_ends : (bytes : List ℕ) (at : ℕ) (x : Bool) (next end : ℕ) → Stands bytes at (bit x) next → any x → at ≤ end → end < next → bit_at (take end bytes) at ≡ Err (at + start_of (end - at) (1 ∷ []))
unfolding bit_at
bit_ends bytes at false next end stands fits le lt =
    tagged_cut ((0, λ bytes at. Ok (false, at)) ∷ (1, λ bytes at. Ok (true, at)) ∷ []) 0 (lit< tt) bytes at [] next end [] stands le (λ ge. absurd (short_node bytes at 0 next end stands ge lt))
bit_ends bytes at true next end stands fits le lt =
    tagged_cut ((0, λ bytes at. Ok (false, at)) ∷ (1, λ bytes at. Ok (true, at)) ∷ []) 1 (lit< tt) bytes at [] next end [] stands le (λ ge. absurd (short_node bytes at 1 next end stands ge lt))

pub bit_cut : IsCut bit_at bit (λ x. 1 ∷ []) any
bit_cut = record { whole = λ x fits. omega (arith, sum_more 1 [], bit_length x); cut = bit_ends }

effect_ends : (format : Format) (room : ℕ) (bytes : List ℕ) (at : ℕ) (x : Effect) (next end : ℕ) → Stands bytes at (effect x) next → EffectFitsOf format room x → at ≤ end → end < next → effect_in format room (take end bytes) at ≡ Err (at + start_of (end - at) (effect_fields x))
unfolding effect_in make_at put_at remove_at move_at mode_at
effect_ends format room bytes at (Make p) next end stands fits le lt =
    tagged_cut (effect_kinds format room) 1 (lit< tt) bytes at (path p) next end (path_fields p) stands le (λ ge. one_cut path_cut Make bytes (at + 1) p next end (stands_second bytes at (1 ∷ []) (path p) next stands) fits.0.0.0 ge lt)
effect_ends format room bytes at (Put p c) next end stands fits le lt =
    tagged_cut (effect_kinds format room) 2 (lit< tt) bytes at (path p ++ content c) next end (path_fields p ++ content_fields c) stands le
    (λ ge. two_cut path_codec path_cut (λ _ _. put_cut room) Put bytes (at + 1) p c next end (stands_second bytes at (2 ∷ []) (path p ++ content c) next stands) fits.0.0.0.0 (omega (arith, fits.0.0.1, fits.0.1), fits.0.0.0.1) ge lt)
effect_ends format room bytes at (Remove p) next end stands fits le lt =
    tagged_cut (effect_kinds format room) 3 (lit< tt) bytes at (path p) next end (path_fields p) stands le (λ ge. one_cut path_cut Remove bytes (at + 1) p next end (stands_second bytes at (3 ∷ []) (path p) next stands) fits.0.0.0 ge lt)
effect_ends format room bytes at (Move p q) next end stands fits le lt =
    tagged_cut (effect_kinds format room) 4 (lit< tt) bytes at (path p ++ path q) next end (path_fields p ++ path_fields q) stands le
    (λ ge. two_cut path_codec path_cut (λ _ _. path_cut) Move bytes (at + 1) p q next end (stands_second bytes at (4 ∷ []) (path p ++ path q) next stands) fits.0.0.0.0 fits.0.0.0.1 ge lt)
effect_ends First room bytes at (Mode p exec) next end stands fits le lt = absurd (true≢false fits.1)
effect_ends Second room bytes at (Mode p exec) next end stands fits le lt =
    tagged_cut (effect_kinds Second room) 5 (lit< tt) bytes at (path p ++ bit exec) next end (path_fields p ++ 1 ∷ []) stands le
    (λ ge. two_cut path_codec path_cut (λ _ _. bit_cut) Mode bytes (at + 1) p exec next end (stands_second bytes at (5 ∷ []) (path p ++ bit exec) next stands) fits.0.0.0 tt ge lt)

pub effect_in_cut : (format : Format) (room : ℕ) → IsCut (effect_in format room) effect effect_fields (EffectFitsOf format room)
effect_in_cut format room = record { whole = λ x fits. effect_whole room x fits.0; cut = effect_ends format room }

pub effect_cut : (room : ℕ) → IsCut (effect_at room) effect effect_fields (EffectFitsIn room)
effect_cut room = cut_for (effect_in_cut Second room) (λ e fits. (fits, tt))

pub effects_within_cut : (most room : ℕ) → most < 2 ^ 32 → IsCut (effects_within most room) effects effects_fields (EffectsFitWithin most room)
unfolding effects_within
effects_within_cut most room lt =
    cut_for (counted_cut length (ruled_codec (λ n. leb 1 n && leb n most) u32_codec) (ruled_cut u32_cut (λ n. leb 1 n && leb n most)) (λ n _. each_cut effect_at room_after effect effect_fields EffectFitsIn effect_codec effect_cut n room))
    (λ es fits. ((omega (arith, fits.few, lt), rw (le-leb 1 (length es) fits.some, le-leb (length es) most fits.few) refl), (refl, rooms_again room es fits.each fits.all_contents)))

pub effects_cut : IsCut effects_at effects effects_fields EffectsFit
unfolding effects_at
effects_cut = effects_within_cut 4096 33554432 (lit< tt)

-- ---- bases

base_cut : (known : FilePath) → IsCut (base_at known) base base_fields (λ b. BaseFits b × (b.path ≡ known))
unfolding base_at
base_cut known = record {
  whole = λ b fits. omega (arith, sum_both (path_fields b.path) (8 ∷ []), sum_more 8 [], length-append (path b.path) (digits w64 b.version), path_cut.whole b.path fits.0.0, u64_cut.whole b.version fits.0.1);
  cut = λ bytes at b next end stands fits le lt.
      two_cut (ruled_codec (is_same_path known) path_codec) (ruled_cut path_cut (is_same_path known)) (λ _ _. u64_cut) (λ p v. record { path = p; version = v }) bytes at b.path b.version next end stands (fits.0.0, path_tied known b.path (sym fits.1)) fits.0.1 le lt;
}

first_base_cut : (touched : List FilePath) → IsCut (first_base_at touched) base base_fields (first_base_fits touched)
unfolding first_base_at first_base_fits
first_base_cut [] = record { whole = λ b fits. absurd fits; cut = λ bytes at b next end stands fits le lt. absurd fits }
first_base_cut (known ∷ others) = base_cut known

pub bases_cut : (touched : List FilePath) → length touched < 2 ^ 32 → IsCut (bases_at touched) bases bases_fields (AreBasesOf touched)
unfolding bases_at
bases_cut touched lt =
    cut_for (counted_cut length (ruled_codec (λ n. eqb n (length touched)) u32_codec) (ruled_cut u32_cut (λ n. eqb n (length touched))) (λ n _. each_cut first_base_at others_after base base_fields first_base_fits first_base_codec first_base_cut n touched))
    (λ bs fits.
    let len : length bs ≡ length touched = sym (length-map bs (λ (b : Base). b.path)) ∙ ap length fits.0 in
    ((rw len lt, eq-eqb (length bs) (length touched) len), (refl, bases_again touched bs fits)))

-- ---- rows

node_whole : (format : Format) (in_folder : Bool) (room : ℕ) (x : Option Node) → NodeFits format in_folder room x → sum (node_fields x) ≡ length (node x)
unfolding NodeFits
node_whole format in_folder room None fits = omega (arith, sum_more 1 [])
node_whole format in_folder room (Some Folder) fits = omega (arith, sum_more 1 [])
node_whole format in_folder room (Some (File c false)) fits = omega (arith, sum_more 1 (content_fields c), (put_cut room).whole c fits.1.0)
node_whole format in_folder room (Some (File c true)) fits = omega (arith, sum_more 1 (content_fields c), (put_cut room).whole c fits.1.0)

node_ends : (format : Format) (in_folder : Bool) (room : ℕ) (bytes : List ℕ) (at : ℕ) (x : Option Node) (next end : ℕ) → Stands bytes at (node x) next → NodeFits format in_folder room x → at ≤ end → end < next
    → standing_at format in_folder room (take end bytes) at ≡ Err (at + start_of (end - at) (node_fields x))
unfolding standing_at NodeFits file_at
node_ends format in_folder room bytes at None next end stands fits le lt =
    tagged_cut (node_kinds format in_folder room) 0 (lit< tt) bytes at [] next end [] stands le (λ ge. absurd (short_node bytes at 0 next end stands ge lt))
node_ends format in_folder room bytes at (Some Folder) next end stands fits le lt =
    tagged_cut (node_kinds format in_folder room) 1 (lit< tt) bytes at [] next end [] stands le (λ ge. absurd (short_node bytes at 1 next end stands ge lt))
node_ends format false room bytes at (Some (File c exec)) next end stands fits le lt = absurd (true≢false (sym fits.0))
node_ends format true room bytes at (Some (File c false)) next end stands fits le lt =
    tagged_cut (node_kinds format true room) 2 (lit< tt) bytes at (content c) next end (content_fields c) stands le
    (λ ge. one_cut (put_cut room) (λ (d : List ℕ). Some (File d false)) bytes (at + 1) c next end (stands_second bytes at (2 ∷ []) (content c) next stands) fits.1.0 ge lt)
node_ends First true room bytes at (Some (File c true)) next end stands fits le lt = absurd (true≢false fits.1.1)
node_ends Second true room bytes at (Some (File c true)) next end stands fits le lt =
    tagged_cut (node_kinds Second true room) 3 (lit< tt) bytes at (content c) next end (content_fields c) stands le
    (λ ge. one_cut (put_cut room) (λ (d : List ℕ). Some (File d true)) bytes (at + 1) c next end (stands_second bytes at (3 ∷ []) (content c) next stands) fits.1.0 ge lt)

node_cut : (format : Format) (in_folder : Bool) (room : ℕ) → IsCut (standing_at format in_folder room) node node_fields (NodeFits format in_folder room)
node_cut format in_folder room = record { whole = node_whole format in_folder room; cut = node_ends format in_folder room }

module _ (format : Format) (before : Volume) where
  path_ends : IsCut (ruled (may_stand before) path_at) path path_fields (λ p. IsPath p × (may_stand before p ≡ true))
  path_ends = ruled_cut path_cut (may_stand before)

  version_ends : IsCut (ruled (leb 1) (number_at w64)) (digits w64) (λ v. 8 ∷ []) (λ v. (v < 2 ^ 64) × (leb 1 v ≡ true))
  version_ends = ruled_cut u64_cut (leb 1)

  node_at_end : (p : FilePath) → IsCut (standing_at format (is_folder before (folder_of p)) (room_beside before)) node node_fields (NodeFits format (is_folder before (folder_of p)) (room_beside before))
  node_at_end p = node_cut format (is_folder before (folder_of p)) (room_beside before)

  next_row_cut : IsCut (next_row_at format before) row row_fields (NextFits format before)
  unfolding next_row_at
  next_row_cut = record {
    whole = λ r fits.
        omega (arith, sum_both (path_fields r.path) (8 ∷ node_fields r.node), sum_more 8 (node_fields r.node), length-append (path r.path) (digits w64 r.version ++ node r.node), length-append (digits w64 r.version) (node r.node), sum_more 8 [], path_cut.whole r.path fits.is_path, u64_cut.whole r.version fits.version_fits, (node_at_end r.path).whole r.node fits.node_fits);
    cut = λ bytes at r next end stands fits le lt.
        three_cut (path_part format before) path_ends (λ _ _. version_part format before) (λ _ _. version_ends) (λ p _ _ _. node_at_end p) (λ p v n. record { path = p; version = v; node = n }) bytes at r.path r.version r.node next end stands (fits.is_path, fits.stands) (fits.version_fits, fits.touched) fits.node_fits le lt;
  }

pub rows_in_cut : (format : Format) → IsCut (rows_in format) rows rows_fields (λ rs. IsTree rs × AreRowsOf format rs)
unfolding rows_in
rows_in_cut format =
    cut_for (counted_cut length (ruled_codec (λ n. leb n 16384) u32_codec) (ruled_cut u32_cut (λ n. leb n 16384)) (λ n _. each_cut (next_row_at format) with_next row row_fields (NextFits format) (next_row_codec format) (next_row_cut format) n []))
    (λ rs fits. ((omega (arith, fits.0.few), le-leb (length rs) 16384 fits.0.few), (refl, rows_again format [] rs fits.0 fits.1)))

pub rows_cut : IsCut rows_at rows rows_fields IsTree
rows_cut = cut_for (rows_in_cut Second) (λ rs tree. (tree, all_rows rs))
