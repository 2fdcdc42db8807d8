-- The laws of the parts: what is read is spelled so, and what is spelled so is read.
use Rattle.std.proofs.Common.{◌≡◌, ℕ, ◌+◌, ◌-◌, ◌^◌, ◌<◌, ◌≤◌, min, Bool, true, false, ◌&&◌, ◌||◌, not, leb, List, [], ◌∷◌, ◌++◌, length, map, eqb, Option, Some, None, is_some, Ok, refl, sym, ap, subst, ◌∙◌, arith, lit<, true≢false, append_assoc, length-append}
use Rattle.std.specs.Prelude.{nat_lt, nat_le}
use Rattle.std.specs.List.{sum_by, AllByRecursion, list_all}
use Rattle.std.specs.Cmp.{first_so, second_so}
use Rattle.std.specs.Cmp.Derive.{both_true}
use Rattle.std.specs.Ordering.{is_lt}
use Rattle.std.proofs.lemmas.Bool.{leb-true, le-leb, eqb-true, eq-eqb, and_parts}
use Rattle.std.proofs.lemmas.List.{length-map, append-nil}
use Rattle.std.proofs.lemmas.List.Sums.{sum_by-cons}
use Rattle.tree_values.specs.declared.node.Effect.{Effect}
use Rattle.tree_values.specs.declared.node.Effect.TheVariants.{Make, Put, Remove, Move, Mode}
use Rattle.tree_values.specs.declared.format.Format.{Format}
use Rattle.tree_values.specs.declared.format.Format.TheVariants.{First, Second}
use Rattle.tree_values.specs.declared.node.Base.{Base}
use Rattle.tree_values.specs.declared.node.Row.{Row}
use Rattle.tree_values.specs.declared.node.Node.{Node}
use Rattle.tree_values.specs.declared.node.Node.TheVariants.{Folder, File}
use Rattle.file_paths.specs.Path.{FilePath, IsPath, path_cmp, is_same_path, folder_of}
use Rattle.tree_values.specs.Tree.{Volume, IsRow, IsTree, is_root, is_folder, node_size, file_bytes, is_exec, total_size}
use Rattle.tree_values.specs.Effects.{content_size}
use Rattle.byte_fields.specs.Field.{Reader, EachFits, ruled, number_at, digits}
use Rattle.std.specs.Int.{w64}
use Rattle.byte_fields.specs.Codec.{Stands, IsBytes, IsCodec}
use Rattle.file_paths.specs.Spelling.{path, content, ContentFits}
use Rattle.tree_values.specs.Spelling.{bit, effect, effects, base, bases, node, row, rows, is_mode, IsEffectOf, IsNodeOf, EffectFits, EffectFitsIn, EffectFitsOf, AreRowsOf, EffectsFitWithin, EffectsFit, BaseFits, AreBasesOf}
use Rattle.file_paths.specs.Reading.{path_at, content_at}
use Rattle.tree_values.specs.Reading.{make_at, put_at, remove_at, move_at, bit_at, mode_at, later_effect_kinds, effect_kinds, effect_in, effect_at, room_after, effects_within, effects_at, base_at, first_base_at, others_after, bases_at, may_stand, file_at, later_node_kinds, node_kinds, standing_at, room_beside, next_row_at, with_next, rows_in, rows_at}
use Rattle.byte_fields.proofs.Codec.{IsBranch, u32_codec, u64_codec, ruled_codec, here_fault, place_is, found2, fault2, again2, found3, fault3, again3, each_codec, tagged_found, tagged_fault, tagged_again0, tagged_again1, tagged_again2, branch0, branch1, branch2, counted_codec, codec_for}
use Rattle.byte_fields.proofs.Facts.{no_bytes, lt_holds, le_of}
use Rattle.file_paths.proofs.Order.{tied_path, path_tied}
use Rattle.tree_values.proofs.Appending.{tree_with_row, follows_in_tree}
use Rattle.tree_laws.proofs.Fronts.{back_all, front_is_tree}
use Rattle.file_paths.proofs.Parts.{path_codec, content_codec}

-- a content of a file, where there is so much room
pub put_content : (room : ℕ) → IsCodec (content_at (min 8388608 room)) content (ContentFits (min 8388608 room))
put_content room = content_codec (min 8388608 room) (omega arith)

-- ---- effects

abbrev bit_kinds : List (ℕ × Reader Bool)
bit_kinds = (0, λ bytes at. Ok (false, at)) ∷ (1, λ bytes at. Ok (true, at)) ∷ []

abbrev pub any : Bool → Type 0
any exec = Unit {0}

bit_again : (bytes : List ℕ) (at : ℕ) (x : Bool) (next : ℕ) → Stands bytes at (bit x) next → any x → bit_at bytes at ≡ Ok (x, next)
unfolding bit_at
bit_again bytes at false next stands fits = tagged_again0 bit_kinds 0 (lit< tt) false bytes at next refl stands
bit_again bytes at true next stands fits = tagged_again0 bit_kinds 1 (lit< tt) true bytes at next refl stands

bit_branches : AllByRecursion (λ (k : ℕ × Reader Bool). IsBranch bit any k.0 k.1) bit_kinds
bit_branches = (branch0 (lit< tt) false refl tt, (branch0 (lit< tt) true refl tt, tt))

pub bit_codec : IsCodec bit_at bit any
unfolding bit_at
bit_codec = record { found = tagged_found bit any bit_kinds bit_branches; fault = tagged_fault bit any bit_kinds bit_branches; again = bit_again }

effect_again : (format : Format) (room : ℕ) (bytes : List ℕ) (at : ℕ) (x : Effect) (next : ℕ) → Stands bytes at (effect x) next → EffectFitsOf format room x → effect_in format room bytes at ≡ Ok (x, next)
unfolding effect_in make_at put_at remove_at move_at mode_at
effect_again format room bytes at (Make p) next stands fits = tagged_again1 (effect_kinds format room) 1 (lit< tt) path_codec Make bytes at p next refl stands fits.0.0.0
effect_again format room bytes at (Put p c) next stands fits =
    tagged_again2 (effect_kinds format room) 2 (lit< tt) path_codec (λ _ _. put_content room) Put bytes at p c next refl stands fits.0.0.0.0 (omega (arith, fits.0.0.1, fits.0.1), fits.0.0.0.1)
effect_again format room bytes at (Remove p) next stands fits = tagged_again1 (effect_kinds format room) 3 (lit< tt) path_codec Remove bytes at p next refl stands fits.0.0.0
effect_again format room bytes at (Move p q) next stands fits =
    tagged_again2 (effect_kinds format room) 4 (lit< tt) path_codec (λ _ _. path_codec) Move bytes at p q next refl stands fits.0.0.0.0 fits.0.0.0.1
effect_again First room bytes at (Mode p exec) next stands fits = absurd (true≢false fits.1)
effect_again Second room bytes at (Mode p exec) next stands fits =
    tagged_again2 (effect_kinds Second room) 5 (lit< tt) path_codec (λ _ _. bit_codec) Mode bytes at p exec next refl stands fits.0.0.0 tt

mode_branch : (room : ℕ) → IsBranch effect (EffectFitsOf Second room) 5 mode_at
unfolding mode_at
mode_branch room = branch2 (lit< tt) path_codec (λ _ _. bit_codec) Mode (λ p exec. refl) (λ p exec fits fits'. (((fits, omega arith), omega arith), tt))

later_branches : (format : Format) (room : ℕ) → AllByRecursion (λ (k : ℕ × Reader Effect). IsBranch effect (EffectFitsOf format room) k.0 k.1) (later_effect_kinds format)
later_branches First room = tt
later_branches Second room = (mode_branch room, tt)

-- what every format has
known_effect : (format : Format) (e : Effect) → is_mode e ≡ false → IsEffectOf format e
known_effect First e plain = plain
known_effect Second e plain = tt

effect_branches : (format : Format) (room : ℕ) → AllByRecursion (λ (k : ℕ × Reader Effect). IsBranch effect (EffectFitsOf format room) k.0 k.1) (effect_kinds format room)
unfolding make_at put_at remove_at move_at
effect_branches format room = (
  branch1 (lit< tt) path_codec Make (λ p. refl) (λ p fits. (((fits, omega arith), omega arith), known_effect format (Make p) refl)),
  (
    branch2 (lit< tt) path_codec (λ _ _. put_content room) Put (λ p c. refl) (λ p c fits fits'. ((((fits, fits'.1), omega (arith, fits'.0)), omega (arith, fits'.0)), known_effect format (Put p c) refl)),
    (
      branch1 (lit< tt) path_codec Remove (λ p. refl) (λ p fits. (((fits, omega arith), omega arith), known_effect format (Remove p) refl)),
      (
        branch2 (lit< tt) path_codec (λ _ _. path_codec) Move (λ p q. refl) (λ p q fits fits'. ((((fits, fits'), omega arith), omega arith), known_effect format (Move p q) refl)),
        later_branches format room,
      ),
    ),
  ),
)

pub effect_in_codec : (format : Format) (room : ℕ) → IsCodec (effect_in format room) effect (EffectFitsOf format room)
unfolding effect_in
effect_in_codec format room = record {
  found = tagged_found effect (EffectFitsOf format room) (effect_kinds format room) (effect_branches format room);
  fault = tagged_fault effect (EffectFitsOf format room) (effect_kinds format room) (effect_branches format room);
  again = effect_again format room;
}

pub effect_codec : (room : ℕ) → IsCodec (effect_at room) effect (EffectFitsIn room)
effect_codec room = codec_for (effect_in_codec Second room) (λ e fits. fits.0) (λ e fits. (fits, tt))

sum_more : (e : Effect) (es : List Effect) → sum_by content_size (e ∷ es) ≡ content_size e + sum_by content_size es
sum_more e es = sum_by-cons content_size e es

rooms_found : (room : ℕ) (es : List Effect) → EachFits EffectFitsIn room_after room es → AllByRecursion EffectFits es × (sum_by content_size es ≤ room)
rooms_found room [] fits = (tt, omega arith)
rooms_found room (e ∷ es) fits =
    let rest = rooms_found (room - content_size e) es fits.1 in
    ((fits.0.0, rest.0), omega (arith, fits.0.1, rest.1, sum_more e es))

pub rooms_again : (room : ℕ) (es : List Effect) → AllByRecursion EffectFits es → sum_by content_size es ≤ room → EachFits EffectFitsIn room_after room es
rooms_again room [] fits le = tt
rooms_again room (e ∷ es) fits le =
    ((fits.0, omega (arith, sum_more e es)), rooms_again (room - content_size e) es fits.1 (omega (arith, sum_more e es)))

pub effects_within_codec : (most room : ℕ) → most < 2 ^ 32 → IsCodec (effects_within most room) effects (EffectsFitWithin most room)
unfolding effects_within
effects_within_codec most room lt =
    codec_for (counted_codec length (ruled_codec (λ n. leb 1 n && leb n most) u32_codec) (λ n _. each_codec effect_at room_after effect EffectFitsIn effect_codec n room) (λ n es fits. fits.0))
    (λ es fits.
    let b = and_parts (leb 1 (length es)) (leb (length es) most) fits.0.1 in
    let r = rooms_found room es fits.1.1 in
    record { some = leb-true 1 (length es) b.0; few = leb-true (length es) most b.1; each = r.0; all_contents = r.1 })
    (λ es fits. ((omega (arith, fits.few, lt), rw (le-leb 1 (length es) fits.some, le-leb (length es) most fits.few) refl), (refl, rooms_again room es fits.each fits.all_contents)))

pub effects_codec : IsCodec effects_at effects EffectsFit
unfolding effects_at
effects_codec = effects_within_codec 4096 33554432 (lit< tt)

-- ---- bases

pub base_codec : (known : FilePath) → IsCodec (base_at known) base (λ b. BaseFits b × (b.path ≡ known))
unfolding base_at
base_codec known = record {
  fault = λ bytes at place fits le e. fault2 (ruled_codec (is_same_path known) path_codec) (λ _ _. u64_codec) (λ p v. record { path = p; version = v }) bytes at place fits le e;
  found = λ bytes at x next fits le e.
      let r = found2 (ruled_codec (is_same_path known) path_codec) (λ _ _. u64_codec) (λ p v. record { path = p; version = v }) bytes at x next fits le e in
      subst (λ (b : Base). Stands bytes at (base b) next × (BaseFits b × (b.path ≡ known))) r.is (r.stands, ((r.first_fits.0, r.second_fits), sym (tied_path known r.first r.first_fits.1)));
  again = λ bytes at x next stands fits.
      again2 (ruled_codec (is_same_path known) path_codec) (λ _ _. u64_codec) (λ p v. record { path = p; version = v }) bytes at x.path x.version next stands (fits.0.0, path_tied known x.path (sym fits.1)) fits.0.1;
}

unfoldable pub first_base_fits : List FilePath → Base → Type 0
first_base_fits [] b = ⊥
first_base_fits (known ∷ others) b = BaseFits b × (b.path ≡ known)

pub first_base_codec : (touched : List FilePath) → IsCodec (first_base_at touched) base (first_base_fits touched)
unfolding first_base_at first_base_fits
first_base_codec [] = record {
  fault = λ bytes at place fits le e. here_fault bytes at place le (place_is (Base × ℕ) at place e);
  found = λ bytes at x next fits le e. absurd cc;
  again = λ bytes at x next stands fits. absurd fits;
}
first_base_codec (known ∷ others) = base_codec known

bases_found : (touched : List FilePath) (bs : List Base) → length bs ≡ length touched → EachFits first_base_fits others_after touched bs → AreBasesOf touched bs
unfolding first_base_fits
bases_found [] [] len fits = (refl, tt)
bases_found [] (b ∷ bs) len fits = absurd (omega arith)
bases_found (known ∷ others) [] len fits = absurd (omega arith)
bases_found (known ∷ others) (b ∷ bs) len fits =
    let rest = bases_found others bs (omega arith) fits.1 in (rw (fits.0.1, rest.0) refl, (fits.0.0, rest.1))

pub bases_again : (touched : List FilePath) (bs : List Base) → AreBasesOf touched bs → EachFits first_base_fits others_after touched bs
unfolding first_base_fits
bases_again touched [] fits = tt
bases_again [] (b ∷ bs) fits = absurd cc
bases_again (known ∷ others) (b ∷ bs) fits =
    let here : b.path ≡ known = cc in
    let there : map (λ (c : Base). c.path) bs ≡ others = cc in
    ((fits.1.0, here), bases_again others bs (there, fits.1.1))

pub bases_codec : (touched : List FilePath) → length touched < 2 ^ 32 → IsCodec (bases_at touched) bases (AreBasesOf touched)
unfolding bases_at
bases_codec touched lt =
    codec_for (counted_codec length (ruled_codec (λ n. eqb n (length touched)) u32_codec) (λ n _. each_codec first_base_at others_after base first_base_fits first_base_codec n touched) (λ n bs fits. fits.0))
    (λ bs fits. bases_found touched bs (eqb-true (length bs) (length touched) fits.0.1) fits.1.1)
    (λ bs fits.
    let len : length bs ≡ length touched = sym (length-map bs (λ (b : Base). b.path)) ∙ ap length fits.0 in
    ((rw len lt, eq-eqb (length bs) (length touched) len), (refl, bases_again touched bs fits)))

-- ---- rows

-- what may stand at a path
unfoldable pub NodeFits : Format → Bool → ℕ → Option Node → Type 0
NodeFits format in_folder room None = Unit {0}
NodeFits format in_folder room (Some Folder) = in_folder ≡ true
NodeFits format in_folder room (Some (File c exec)) = (in_folder ≡ true) × (ContentFits (min 8388608 room) c × IsNodeOf format (Some (File c exec)))

-- what every format has
known_node : (format : Format) (n : Option Node) → is_exec n ≡ false → IsNodeOf format n
known_node First n plain = plain
known_node Second n plain = tt

none_branch : (format : Format) (in_folder : Bool) (room : ℕ) → IsBranch node (NodeFits format in_folder room) 0 (λ bytes at. Ok (None, at))
unfolding NodeFits
none_branch format in_folder room = branch0 (lit< tt) None refl tt

later_nodes : (format : Format) (room : ℕ) → AllByRecursion (λ (k : ℕ × Reader (Option Node)). IsBranch node (NodeFits format true room) k.0 k.1) (later_node_kinds format room)
unfolding NodeFits file_at
later_nodes First room = tt
later_nodes Second room = (branch1 (lit< tt) (put_content room) (λ c. Some (File c true)) (λ c. refl) (λ c fits. (refl, (fits, tt))), tt)

node_branches : (format : Format) (in_folder : Bool) (room : ℕ) → AllByRecursion (λ (k : ℕ × Reader (Option Node)). IsBranch node (NodeFits format in_folder room) k.0 k.1) (node_kinds format in_folder room)
unfolding NodeFits file_at
node_branches format false room = (none_branch format false room, tt)
node_branches format true room = (
  none_branch format true room,
  (
    branch0 (lit< tt) (Some Folder) refl refl,
    (branch1 (lit< tt) (put_content room) (λ c. Some (File c false)) (λ c. refl) (λ c fits. (refl, (fits, known_node format (Some (File c false)) refl))), later_nodes format room),
  ),
)

node_again : (format : Format) (in_folder : Bool) (room : ℕ) (bytes : List ℕ) (at : ℕ) (x : Option Node) (next : ℕ) → Stands bytes at (node x) next → NodeFits format in_folder room x → standing_at format in_folder room bytes at ≡ Ok (x, next)
unfolding standing_at NodeFits file_at
node_again format false room bytes at None next stands fits = tagged_again0 (node_kinds format false room) 0 (lit< tt) None bytes at next refl stands
node_again format true room bytes at None next stands fits = tagged_again0 (node_kinds format true room) 0 (lit< tt) None bytes at next refl stands
node_again format false room bytes at (Some Folder) next stands fits = absurd cc
node_again format true room bytes at (Some Folder) next stands fits = tagged_again0 (node_kinds format true room) 1 (lit< tt) (Some Folder) bytes at next refl stands
node_again format false room bytes at (Some (File c exec)) next stands fits = absurd (true≢false (sym fits.0))
node_again format true room bytes at (Some (File c false)) next stands fits =
    tagged_again1 (node_kinds format true room) 2 (lit< tt) (put_content room) (λ c. Some (File c false)) bytes at c next refl stands fits.1.0
node_again First true room bytes at (Some (File c true)) next stands fits = absurd (true≢false fits.1.1)
node_again Second true room bytes at (Some (File c true)) next stands fits =
    tagged_again1 (node_kinds Second true room) 3 (lit< tt) (put_content room) (λ c. Some (File c true)) bytes at c next refl stands fits.1.0

pub node_codec : (format : Format) (in_folder : Bool) (room : ℕ) → IsCodec (standing_at format in_folder room) node (NodeFits format in_folder room)
unfolding standing_at
node_codec format in_folder room = record {
  found = tagged_found node (NodeFits format in_folder room) (node_kinds format in_folder room) (node_branches format in_folder room);
  fault = tagged_fault node (NodeFits format in_folder room) (node_kinds format in_folder room) (node_branches format in_folder room);
  again = node_again format in_folder room;
}

-- what a row keeps, given those before it
pub record NextFits (format : Format) (before : Volume) (r : Row) : Type 0 where
  pub is_path : IsPath r.path
  pub stands : may_stand before r.path ≡ true
  pub version_fits : r.version < 2 ^ 64
  pub touched : leb 1 r.version ≡ true
  pub node_fits : NodeFits format (is_folder before (folder_of r.path)) (room_beside before) r.node

module _ (format : Format) (before : Volume) where
  pub path_part : IsCodec (ruled (may_stand before) path_at) path (λ p. IsPath p × (may_stand before p ≡ true))
  path_part = ruled_codec (may_stand before) path_codec

  pub version_part : IsCodec (ruled (leb 1) (number_at w64)) (digits w64) (λ v. (v < 2 ^ 64) × (leb 1 v ≡ true))
  version_part = ruled_codec (leb 1) u64_codec

  node_part : (p : FilePath) → IsCodec (standing_at format (is_folder before (folder_of p)) (room_beside before)) node (NodeFits format (is_folder before (folder_of p)) (room_beside before))
  node_part p = node_codec format (is_folder before (folder_of p)) (room_beside before)

  pub next_row_codec : IsCodec (next_row_at format before) row (NextFits format before)
  unfolding next_row_at
  next_row_codec = record {
    fault = λ bytes at place fits le e. fault3 path_part (λ _ _. version_part) (λ p _ _ _. node_part p) (λ p v n. record { path = p; version = v; node = n }) bytes at place fits le e;
    found = λ bytes at x next fits le e.
        let r = found3 path_part (λ _ _. version_part) (λ p _ _ _. node_part p) (λ p v n. record { path = p; version = v; node = n }) bytes at x next fits le e in
        subst (λ (y : Row). Stands bytes at (row y) next × NextFits format before y) r.is (r.stands, record { is_path = r.first_fits.0; stands = r.first_fits.1; version_fits = r.second_fits.0; touched = r.second_fits.1; node_fits = r.third_fits });
    again = λ bytes at x next stands fits.
        again3 path_part (λ _ _. version_part) (λ p _ _ _. node_part p) (λ p v n. record { path = p; version = v; node = n }) bytes at x.path x.version x.node next stands (fits.is_path, fits.stands) (fits.version_fits, fits.touched) fits.node_fits;
  }

-- ---- lists of rows

small_beside : (n total : ℕ) → n ≤ min 8388608 (33554432 - total) → total ≤ 33554432 → total + n ≤ 33554432
small_beside n total le most = omega arith

-- a row that is read behind a tree leaves one
next_is_tree : (format : Format) (before : Volume) (r : Row) → IsTree before → length before < 16384 → NextFits format before r → IsTree (before ++ r ∷ [])
unfolding NodeFits
next_is_tree format before r tree few fits =
    tree_with_row before r tree (record { is_path = fits.is_path; version_fits = fits.version_fits; bytes = of_bytes r.node fits.node_fits }) (follows r.node fits.node_fits)
  where
    low : list_all (λ other. is_lt (path_cmp other.path r.path)) before ≡ true
    low = second_so (not (is_root r.path)) _ fits.stands

    of_bytes : (n : Option Node) → NodeFits format (is_folder before (folder_of r.path)) (room_beside before) n → IsBytes (file_bytes n)
    of_bytes None f = no_bytes
    of_bytes (Some Folder) f = no_bytes
    of_bytes (Some (File c exec)) f = f.1.0.1

    room : nat_lt (length before) 16384 ≡ true
    room = lt_holds (length before) 16384 few

    follows : (n : Option Node) → NodeFits format (is_folder before (folder_of r.path)) (room_beside before) n
        → (list_all (λ other. is_lt (path_cmp other.path r.path)) before && (not (is_root r.path) && (nat_le 1 r.version && (nat_le (node_size n) 8388608
        && ((not (is_some n) || is_folder before (folder_of r.path)) && (nat_lt (length before) 16384 && nat_le (total_size before + node_size n) 33554432)))))) ≡ true
    follows None f =
        both_true low (both_true (first_so _ _ fits.stands) (both_true fits.touched (both_true refl (both_true refl (both_true room (le-leb _ _ (omega (arith, tree.small))))))))
    follows (Some Folder) f =
        both_true low (both_true (first_so _ _ fits.stands) (both_true fits.touched (both_true refl (both_true f (both_true room (le-leb _ _ (omega (arith, tree.small))))))))
    follows (Some (File c exec)) f =
        both_true low (both_true (first_so _ _ fits.stands) (both_true fits.touched (both_true (le-leb (length c) 8388608 (omega (arith, f.1.0.0))) (both_true f.0 (both_true room (le-leb _ _ (small_beside (length c) (total_size before) f.1.0.0 tree.small)))))))

-- a tree's last row is one that is read there
next_fits : (format : Format) (before : Volume) (r : Row) → IsTree (before ++ r ∷ []) → IsNodeOf format r.node → NextFits format before r
unfolding NodeFits
next_fits format before r whole known =
    let h = follows_in_tree before r whole in
    let sound : IsRow r = (back_all IsRow before (r ∷ []) whole.each).0 in
    let h1 = second_so (list_all (λ other. is_lt (path_cmp other.path r.path)) before) _ h in
    let low : list_all (λ other. is_lt (path_cmp other.path r.path)) before ≡ true = first_so _ _ h in
    let top : not (is_root r.path) ≡ true = first_so _ _ h1 in
    let h2 = second_so (not (is_root r.path)) _ h1 in
    let h3 = second_so (nat_le 1 r.version) _ h2 in
    let h4 = second_so (nat_le (node_size r.node) 8388608) _ h3 in
    let h5 = second_so (not (is_some r.node) || is_folder before (folder_of r.path)) _ h4 in
    let h6 = second_so (nat_lt (length before) 16384) _ h5 in
    record {
      is_path = sound.is_path;
      stands = both_true top low;
      version_fits = sound.version_fits;
      touched = first_so _ _ h2;
      node_fits = stands r.node known sound.bytes (first_so _ _ h3) (first_so _ _ h4) h6;
    }
  where
    stands : (n : Option Node) → IsNodeOf format n → IsBytes (file_bytes n) → nat_le (node_size n) 8388608 ≡ true → (not (is_some n) || is_folder before (folder_of r.path)) ≡ true → nat_le (total_size before + node_size n) 33554432 ≡ true
        → NodeFits format (is_folder before (folder_of r.path)) (room_beside before) n
    stands None known bytes small here all = tt
    stands (Some Folder) known bytes small here all = here
    stands (Some (File c exec)) known bytes small here all = (here, ((omega (arith, le_of (length c) 8388608 small, le_of (total_size before + length c) 33554432 all), bytes), known))

known_of_next : (format : Format) (before : Volume) (r : Row) → NextFits format before r → IsNodeOf format r.node
unfolding NodeFits
known_of_next format before r fits = by r.node fits.node_fits
  where
    by : (n : Option Node) → NodeFits format (is_folder before (folder_of r.path)) (room_beside before) n → IsNodeOf format n
    by None f = known_node format None refl
    by (Some Folder) f = known_node format (Some Folder) refl
    by (Some (File c exec)) f = f.1.1

rows_found : (format : Format) (before rs : Volume) → IsTree before → length before + length rs ≤ 16384 → EachFits (NextFits format) with_next before rs → IsTree (before ++ rs) × AreRowsOf format rs
rows_found format before [] tree few fits = (rw (append-nil before) tree, tt)
rows_found format before (r ∷ rs) tree few fits =
    let one = next_is_tree format before r tree (omega (arith, few)) fits.0 in
    let rest = rows_found format (before ++ r ∷ []) rs one (omega (arith, few, length-append before (r ∷ []))) fits.1 in
    (subst IsTree (append_assoc before (r ∷ []) rs) rest.0, (known_of_next format before r fits.0, rest.1))

pub rows_again : (format : Format) (before rs : Volume) → IsTree (before ++ rs) → AreRowsOf format rs → EachFits (NextFits format) with_next before rs
rows_again format before [] whole known = tt
rows_again format before (r ∷ rs) whole known =
    let more : IsTree ((before ++ r ∷ []) ++ rs) = subst IsTree (sym (append_assoc before (r ∷ []) rs)) whole in
    (next_fits format before r (front_is_tree (before ++ r ∷ []) rs more) known.0, rows_again format (before ++ r ∷ []) rs more known.1)

no_rows : IsTree []
no_rows = record { in_order = tt; each = tt; in_folders = λ q some. absurd (true≢false (sym some)); few = omega arith; small = omega arith }

pub rows_in_codec : (format : Format) → IsCodec (rows_in format) rows (λ rs. IsTree rs × AreRowsOf format rs)
unfolding rows_in
rows_in_codec format =
    codec_for (counted_codec length (ruled_codec (λ n. leb n 16384) u32_codec) (λ n _. each_codec (next_row_at format) with_next row (NextFits format) (next_row_codec format) n []) (λ n rs fits. fits.0))
    (λ rs fits. rows_found format [] rs no_rows (omega (arith, leb-true (length rs) 16384 fits.0.1)) fits.1.1)
    (λ rs fits. ((omega (arith, fits.0.few), le-leb (length rs) 16384 fits.0.few), (refl, rows_again format [] rs fits.0 fits.1)))

-- the second format has all rows
pub all_rows : (rs : Volume) → AreRowsOf Second rs
all_rows [] = tt
all_rows (r ∷ rs) = (tt, all_rows rs)

pub rows_codec : IsCodec rows_at rows IsTree
rows_codec = codec_for (rows_in_codec Second) (λ rs fits. fits.0) (λ rs tree. (tree, all_rows rs))
