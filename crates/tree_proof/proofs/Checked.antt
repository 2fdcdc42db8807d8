-- What is taken is true, and what is proved is taken.
use Rattle.std.proofs.Common.{◌≡◌, ℕ, zero, suc, ◌+◌, ◌-◌, ◌^◌, ◌<◌, ◌≤◌, min, Bool, true, false, not, List, [], ◌∷◌, ◌++◌, length, map, get_or, Option, Some, None, Result, Ok, Err, refl, sym, ap, subst, ◌∙◌, inl, inr, arith}
use Rattle.std.specs.Prelude.{◌==◌, nat_lt, find}
use Rattle.std.specs.Int.{w32, from_be_bytes}
use Rattle.std.specs.Str.{bytes_eq}
use Rattle.std.specs.List.{AllByRecursion, flat_map}
use Rattle.std.proofs.lemmas.List.Concat.{flat_map-cons}
use Rattle.std.specs.declared.cmp.Ordering.TheVariants.{Less, Greater, Equal}
use Rattle.std.proofs.lemmas.List.{append-nil, get_or-map, length-map}
use Rattle.std.proofs.lemmas.Option.{slice_get-get_or}
use Rattle.std.proofs.lemmas.Slice.Eq.{bytes_eq-Decides}
use Rattle.std.proofs.lemmas.Bool.{cases_lt}
use Rattle.sha2.proofs.Facts256.{length-sha256}
use Rattle.rs_parity.specs.Sketches.{Distinct}
use Rattle.byte_fields.specs.Field.{digits, EachFits}
use Rattle.byte_fields.specs.Codec.{Stands, IsBytes}
use Rattle.byte_fields.proofs.Codec.{bind_ok, kept_ok, one_value, stands_at_front, wide32}
use Rattle.byte_fields.proofs.Facts.{four_bytes, none_mapped, eq_itself, lt_holds, lt_fails, not_false_of}
use Rattle.file_paths.specs.Path.{FilePath, path_cmp, is_same_path}
use Rattle.file_paths.proofs.Refusals.{none_refused, value_unrefused}
use Rattle.file_paths.proofs.Order.{paths_total, same_place, tied_path, is_less}
use Rattle.tree_values.specs.Lists.{IsIn}
use Rattle.file_paths.specs.Limits.{max_file}
use Rattle.tree_values.specs.Limits.{max_rows}
use Rattle.tree_values.specs.declared.node.Node.{Node}
use Rattle.tree_values.specs.declared.node.Node.TheVariants.{Folder, File}
use Rattle.tree_values.specs.declared.node.Row.{Row}
use Rattle.tree_values.specs.Tree.{Volume, IsRow, IsTree, AreInOrder, row_at, node_size}
use Rattle.tree_values.proofs.Ordered.{is_greater}
use Rattle.tree_values.proofs.Places.{stands_at, belongs_at}
use Rattle.tree_proof.specs.declared.slim.SlimRow.{SlimRow}
use Rattle.tree_proof.specs.declared.certificate.Presence.{Presence}
use Rattle.tree_proof.specs.declared.certificate.Presence.TheVariants.{Present, Absent}
use Rattle.tree_proof.specs.declared.certificate.CertificateHead.{CertificateHead}
use Rattle.tree_proof.specs.declared.certificate.Leaf.{Leaf}
use Rattle.tree_proof.specs.declared.certificate.Places.{Places}
use Rattle.tree_proof.specs.declared.checking.Finding.{Finding}
use Rattle.tree_proof.specs.declared.checking.Finding.TheVariants as found
use Rattle.tree_proof.specs.declared.checking.CheckError.TheVariants.{OtherPath, WrongRoot}
use Rattle.tree_proof.specs.Limits.{most_levels}
use Rattle.tree_proof.specs.Slim.{slim_spelling}
use Rattle.tree_proof.specs.Trees.{slim_row, leaves, root_of, tree_texts, found_at}
use Rattle.tree_proof.specs.Tops.{Digest, leaf_text, root_text, leaf_of, root_over, top_within, top, climbed_within, way_within}
use Rattle.tree_proof.specs.Texts.{top_texts, way_texts, shown_texts, certificate_texts, read_texts}
use Rattle.tree_proof.specs.Certificate.{Certificate, first_place, certificate_spelling, place_limit, next_place, certificate_at, certificate_in}
use Rattle.tree_proof.specs.Checking.{stands_so, is_in_place, other_path, computed, roots_of, wrong_root, finding_of, checked_finding, checked_read}
use Rattle.tree_proof.specs.Laws.{FindingsAreTrue}
use Rattle.tree_proof.specs.Inside.{HasWay}
use Rattle.vol_tree.proofs.Behind.{IsIn-left, IsIn-right}
use Rattle.tree_proof.proofs.Lists.{same_fronts, all_got, each_implies, all_mapped, got_alike}
use Rattle.tree_proof.proofs.Climbing.{IsDigest, climbs_alone}
use Rattle.tree_proof.proofs.Spelled.{NodeFits, SlimFits, slim_codec, certificate_codec, LeafFits, CertificateFits, begin_of}

-- ---- reading the whole bytes

pub read_fits : (bytes : List ℕ) (certificate : Certificate) → IsBytes bytes → certificate_in bytes ≡ Ok certificate → CertificateFits certificate
unfolding certificate_in
read_fits bytes certificate fits e =
    let b = bind_ok (certificate_at bytes 0) _ certificate e in
    let k = kept_ok (b.0.1 == length bytes) b.0.1 b.0.0 certificate b.2 in
    subst CertificateFits k.1 (certificate_codec.found bytes 0 b.0.0 b.0.1 fits (omega arith) b.1).1

pub spelled_read : (certificate : Certificate) → CertificateFits certificate → certificate_in (certificate_spelling certificate) ≡ Ok certificate
unfolding certificate_in
spelled_read certificate fits =
    let text = certificate_spelling certificate in
    let stands : Stands text 0 text (length text) = subst (λ (bytes : List ℕ). Stands bytes 0 text (length text)) (append-nil text) (stands_at_front text []) in
    rw (certificate_codec.again text 0 certificate (length text) stands fits, eq_itself (length text)) refl

-- each row is read with all digests beside its way
has_ways : (count : ℕ) (places : Places) (ls : List Leaf) → places.count ≡ count → EachFits LeafFits next_place places ls → AllByRecursion (HasWay count) ls
has_ways count places [] same fits = tt
has_ways count places (l ∷ ls) same fits =
    (fits.0.way ∙ (λ i. way_within most_levels (same i) (sym fits.0.place i)), has_ways count (next_place places l) ls same fits.1)

pub ways_read : (bytes : List ℕ) (certificate : Certificate) → IsBytes bytes → certificate_in bytes ≡ Ok certificate → AllByRecursion (HasWay certificate.head.count) certificate.leaves
ways_read bytes certificate fits e =
    has_ways certificate.head.count (begin_of certificate.head) certificate.leaves refl (read_fits bytes certificate fits e).each

-- ---- lists

find_is_none : {A : Type 0} (t : A → Bool) (xs : List A) → find t xs ≡ None → AllByRecursion (λ x. t x ≡ false) xs
find_is_none t [] e = tt
find_is_none t (x ∷ xs) e = first (t x) refl e (find_is_none t xs)
  where
    first : (b : Bool) → t x ≡ b → find t (x ∷ xs) ≡ None → (find t xs ≡ None → AllByRecursion (λ y. t y ≡ false) xs) → AllByRecursion (λ y. t y ≡ false) (x ∷ xs)
    first true is at rest = absurd (let f : Some x ≡ None = rw is at at in cc)
    first false is at rest = (is, rest (rw is at at))

pub none_is_found : {A : Type 0} (t : A → Bool) (xs : List A) → AllByRecursion (λ x. t x ≡ false) xs → find t xs ≡ None
none_is_found t [] all = refl
none_is_found t (x ∷ xs) all = rw all.0 (none_is_found t xs all.1)

-- ---- rows in order

order_later : (row : Row) (rows : Volume) (i : ℕ) (d : Row) → AllByRecursion (λ next. path_cmp row.path next.path ≡ Less) rows → i < length rows → path_cmp row.path (get_or rows i d).path ≡ Less
order_later row rows i d all lt = all_got (λ next. path_cmp row.path next.path ≡ Less) rows i d all lt

pub order_got : (rows : Volume) (k i : ℕ) (d : Row) → AreInOrder rows → k < i → i < length rows → path_cmp (get_or rows k d).path (get_or rows i d).path ≡ Less
order_got [] k i d order lt within = absurd (omega arith)
order_got (row ∷ rows) k zero d order lt within = absurd (omega arith)
order_got (row ∷ rows) zero (suc i) d order lt within = order_later row rows i d order.0 (omega arith)
order_got (row ∷ rows) (suc k) (suc i) d order lt within = order_got rows k i d order.1 (omega arith) (omega arith)

-- the digests of rows

pub leaves_are_digests : (rows : Volume) → AllByRecursion IsDigest (leaves rows)
leaves_are_digests [] = tt
leaves_are_digests (row ∷ rows) = (length-sha256 (leaf_text (slim_row row)), leaves_are_digests rows)

pub top_some : (digests : List Digest) → 0 < length digests → top digests ≡ top_within most_levels digests
top_some [] some = absurd (omega arith)
top_some (digest ∷ digests) some = refl

digits_same : (a b : ℕ) → a < 2 ^ 32 → b < 2 ^ 32 → digits w32 a ≡ digits w32 b → a ≡ b
unfolding digits
digits_same a b lt lt' e = sym (wide32.again a lt) ∙ ap (from_be_bytes w32) e ∙ wide32.again b lt'

root_parts : (count count' : ℕ) (top top' : List ℕ) → count < 2 ^ 32 → count' < 2 ^ 32 → root_text count top ≡ root_text count' top' → (count ≡ count') × (top ≡ top')
root_parts count count' top top' lt lt' e =
    let rest : digits w32 count ++ top ≡ digits w32 count' ++ top' = cc in
    let parts = same_fronts (digits w32 count) top (digits w32 count') top' rest (four_bytes count ∙ sym (four_bytes count')) in
    (digits_same count count' lt lt' parts.0, parts.1)

-- ---- a row of a tree has a slim row that fits

pub slim_fits : (row : Row) → IsRow row → SlimFits (slim_row row)
slim_fits row is = record { is_path = is.is_path; below_root = is.below_root; touched = is.touched; version_fits = is.version_fits; node = node_fits row.node is.small }
  where
    node_fits : (node : Option Node) → node_size node ≤ max_file → NodeFits (slim_row (record { path = row.path; version = row.version; node = node })).node
    node_fits None small = tt
    node_fits (Some Folder) small = tt
    node_fits (Some (File content exec)) small = (small, length-sha256 content)

-- ---- a row that is shown is the tree's

-- the texts of one row's check are apart from those of the tree's root
abbrev pub AreApart : ℕ → Leaf → Volume → Type 0
AreApart count leaf rows = Distinct (λ text. IsIn text (shown_texts count leaf)) (λ text. IsIn text (tree_texts rows))

pub shown_is : (rows : Volume) (places : Places) (leaf : Leaf) (d : Row) → IsTree rows → LeafFits places leaf → places.count ≤ max_rows → places.next < places.count
    → AreApart places.count leaf rows → computed places.count leaf ≡ root_of rows
    → (places.count ≡ length rows) × (leaf.row ≡ slim_row (get_or rows places.next d))
shown_is rows places leaf d tree fits few within apart e =
    let texts = apart (root_text places.count (climbed_within most_levels places.count leaf.place (leaf_of leaf.row) leaf.beside)) (root_text (length rows) (top (leaves rows))) (inl refl) (inl refl) e in
    let parts = root_parts places.count (length rows) (climbed_within most_levels places.count leaf.place (leaf_of leaf.row) leaf.beside) (top (leaves rows)) (omega (arith, few)) (omega (arith, tree.few)) texts in
    let size : length (leaves rows) ≡ length rows = length-map rows (λ row. leaf_of (slim_row row)) in
    let count : places.count ≡ length (leaves rows) = parts.0 ∙ sym size in
    let climbed : climbed_within most_levels (length (leaves rows)) places.next (leaf_of leaf.row) leaf.beside ≡ top_within most_levels (leaves rows) =
    subst (λ (n : ℕ). climbed_within most_levels n places.next (leaf_of leaf.row) leaf.beside ≡ top_within most_levels (leaves rows)) count
    (subst (λ (place : ℕ). climbed_within most_levels places.count place (leaf_of leaf.row) leaf.beside ≡ top_within most_levels (leaves rows)) fits.place
    (parts.1 ∙ top_some (leaves rows) (omega (arith, size, parts.0, within)))) in
    let alone = climbs_alone most_levels (leaves rows) places.next (leaf_of leaf.row) leaf.beside (omega (arith, within, count)) (omega (arith, size, tree.few)) (length-sha256 (leaf_text leaf.row)) (leaves_are_digests rows)
    (λ x y here there same. apart x y (inr (inr (subst (λ (n : ℕ). IsIn x (way_texts most_levels n leaf.place (leaf_of leaf.row) leaf.beside)) (sym count)
    (subst (λ (place : ℕ). IsIn x (way_texts most_levels (length (leaves rows)) place (leaf_of leaf.row) leaf.beside)) (sym fits.place) here))))
    (inr (IsIn-left y (top_texts most_levels (leaves rows)) (map (λ r. leaf_text (slim_row r)) rows) there)) same)
    climbed in
    let row = get_or rows places.next d in
    let at : places.next < length rows = omega (arith, within, parts.0) in
    let same : leaf_of leaf.row ≡ leaf_of (slim_row row) = alone ∙ get_or-map (λ r. leaf_of (slim_row r)) rows places.next d [] at in
    let leafs : leaf_text leaf.row ≡ leaf_text (slim_row row) =
    apart (leaf_text leaf.row) (leaf_text (slim_row row)) (inr (inl refl)) (inr (IsIn-right (leaf_text (slim_row row)) (top_texts most_levels (leaves rows)) (map (λ r. leaf_text (slim_row r)) rows) (row_text rows places.next d at))) same in
    let spelled : slim_spelling leaf.row ≡ slim_spelling (slim_row row) = cc in
    let value = one_value slim_codec leaf.row (slim_row row) [] [] fits.row (slim_fits row (all_got IsRow rows places.next d tree.each at)) (ap (λ (text : List ℕ). text ++ []) spelled) in
    (parts.0, value.0)
  where
    row_text : (rs : Volume) (i : ℕ) (e : Row) → i < length rs → IsIn (leaf_text (slim_row (get_or rs i e))) (map (λ r. leaf_text (slim_row r)) rs)
    row_text [] i e lt = absurd (omega arith)
    row_text (r ∷ rs) zero e lt = inl refl
    row_text (r ∷ rs) (suc i) e lt = inr (row_text rs i e (omega arith))

-- ---- the rows that are shown, by their places

each_got : (count next : ℕ) (ls : List Leaf) (j : ℕ) (e : Leaf) → EachFits LeafFits next_place (record { count = count; next = next }) ls → j < length ls → next + j < count → LeafFits (record { count = count; next = next + j }) (get_or ls j e)
each_got count next [] j e fits lt within = absurd (omega arith)
each_got count next (l ∷ ls) zero e fits lt within = let at : next ≡ next + 0 = omega arith in subst (λ (n : ℕ). LeafFits (record { count = count; next = n }) l) at fits.0
each_got count next (l ∷ ls) (suc j) e fits lt within =
    let one : min (next + 1) count ≡ next + 1 = omega (arith, within) in
    let rest = subst (λ (n : ℕ). EachFits LeafFits next_place (record { count = count; next = n }) ls) one fits.1 in
    let at : next + 1 + j ≡ next + suc j = omega arith in
    subst (λ (n : ℕ). LeafFits (record { count = count; next = n }) (get_or ls j e)) at (each_got count (next + 1) ls j e rest (omega (arith, lt)) (omega (arith, within)))

in_flat : {A : Type 0} (f : A → List (List ℕ)) (xs : List A) (j : ℕ) (e : A) (text : List ℕ) → j < length xs → IsIn text (f (get_or xs j e)) → IsIn text (flat_map f xs)
in_flat f [] j e text lt here = absurd (omega arith)
in_flat f (x ∷ xs) zero e text lt here = rw (flat_map-cons f x xs) (IsIn-left text (f x) (flat_map f xs) here)
in_flat f (x ∷ xs) (suc j) e text lt here = rw (flat_map-cons f x xs) (IsIn-right text (f x) (flat_map f xs) (in_flat f xs j e text (omega arith) here))

texts_of_each : (count : ℕ) (ls : List Leaf) (j : ℕ) (e : Leaf) (text : List ℕ) → j < length ls → IsIn text (shown_texts count (get_or ls j e)) → IsIn text (certificate_texts count ls)
texts_of_each count [] j e text lt here = absurd (omega arith)
texts_of_each count (l ∷ ls) j e text lt here = in_flat (shown_texts count) (l ∷ ls) j e text lt here

-- every row computes the root, where no root is another one
roots_right : (count : ℕ) (ls : List Leaf) (root : Digest) → AllByRecursion (λ computed. not (bytes_eq computed root) ≡ false) (roots_of count ls) → AllByRecursion (λ leaf. computed count leaf ≡ root) ls
roots_right count [] root all = tt
roots_right count (l ∷ ls) root all =
    each_implies (λ leaf. not (bytes_eq (computed count leaf) root) ≡ false) (λ leaf. computed count leaf ≡ root) (l ∷ ls) (λ leaf is. (bytes_eq-Decides (computed count leaf) root).0 (not_false_of (bytes_eq (computed count leaf) root) is)) (all_mapped (λ computed. not (bytes_eq computed root) ≡ false) (computed count) (l ∷ ls) all)

-- what is known of a row that is shown
pub record IsPlaced (head : CertificateHead) (rows : Volume) (asked : FilePath) (place : ℕ) (leaf : Leaf) (d : Row) : Type 0 where
  pub count : head.count ≡ length rows
  pub row : leaf.row ≡ slim_row (get_or rows place d)
  pub place_is : leaf.place ≡ place
  pub stands : is_in_place head asked leaf ≡ true

pub placed : (certificate : Certificate) (root : Digest) (asked : FilePath) (rows : Volume) (j : ℕ) (e : Leaf) (d : Row) → CertificateFits certificate → IsTree rows
    → AllByRecursion (λ leaf. is_in_place certificate.head asked leaf ≡ true) certificate.leaves
    → AllByRecursion (λ leaf. computed certificate.head.count leaf ≡ root) certificate.leaves
    → root_of rows ≡ root
    → Distinct (λ text. IsIn text (certificate_texts certificate.head.count certificate.leaves)) (λ text. IsIn text (tree_texts rows))
    → j < length certificate.leaves → first_place certificate.head.kind certificate.head.index + j < certificate.head.count
    → IsPlaced certificate.head rows asked (first_place certificate.head.kind certificate.head.index + j) (get_or certificate.leaves j e) d
placed certificate root asked rows j e d fits tree stand right is apart lt within =
    let head = certificate.head in
    let first = first_place head.kind head.index in
    let leaf = get_or certificate.leaves j e in
    let leaf_fits = each_got head.count first certificate.leaves j e fits.each lt within in
    let shown = shown_is rows (record { count = head.count; next = first + j }) leaf d tree leaf_fits fits.head.few within
    (λ x y here there same. apart x y (texts_of_each head.count certificate.leaves j e x lt here) there same)
    (all_got (λ l. computed head.count l ≡ root) certificate.leaves j e right lt ∙ sym is) in
    record { count = shown.0; row = shown.1; place_is = leaf_fits.place; stands = all_got (λ l. is_in_place head asked l ≡ true) certificate.leaves j e stand lt }

-- ---- what is found is true

abbrev no_row : Row
no_row = record { path = []; version = 0; node = None }

-- the row of its own path
present_is : (head : CertificateHead) (rows : Volume) (asked : FilePath) (leaf : Leaf) → IsTree rows → head.kind ≡ Present → head.index < length rows
    → IsPlaced head rows asked head.index leaf no_row → found.Row leaf.row ≡ found_at rows asked
present_is head rows asked leaf tree kind within here =
    let row = get_or rows head.index no_row in
    let same : is_same_path leaf.row.path asked ≡ true = subst (λ (k : Presence). stands_so k head.index asked leaf ≡ true) kind here.stands in
    let path : row.path ≡ asked = sym (ap (λ (r : SlimRow). r.path) here.row) ∙ tied_path leaf.row.path asked same in
    let own : (e : Row) → get_or rows head.index e ≡ row = λ e. got_alike rows head.index e no_row within in
    let at = stands_at rows head.index asked tree.in_order
    (λ k e lt. subst (λ (p : FilePath). path_cmp (get_or rows k e).path p ≡ Less) (ap (λ (r : Row). r.path) (own e) ∙ path) (order_got rows k head.index e tree.in_order lt within))
    within
    (λ e. subst (λ (p : FilePath). path_cmp (get_or rows head.index e).path p ≡ Equal) (ap (λ (r : Row). r.path) (own e) ∙ path) (same_place (get_or rows head.index e).path)) in
    let there : row_at rows asked ≡ Some row = at.row ∙ slice_get-get_or rows head.index no_row within in
    rw there (ap found.Row here.row)

-- no row between one below the path and the next, which is above it
absent_is : (rows : Volume) (asked : FilePath) (index : ℕ) → IsTree rows → index ≤ length rows
    → (0 < index → path_cmp (get_or rows (index - 1) no_row).path asked ≡ Less)
    → (index < length rows → path_cmp (get_or rows index no_row).path asked ≡ Greater) → found.NoRow ≡ found_at rows asked
absent_is rows asked index tree within low high =
    let belongs = belongs_at rows index asked tree.in_order (λ k e lt. below k e lt) within (λ lt e. subst (λ (r : Row). path_cmp r.path asked ≡ Greater) (sym (got_alike rows index e no_row lt)) (high lt)) in
    rw belongs.row refl
  where
    below : (k : ℕ) (e : Row) → k < index → path_cmp (get_or rows k e).path asked ≡ Less
    below k e lt =
        elim (cases_lt k (index - 1)) [
          | inl less ↦
              let last : path_cmp (get_or rows (index - 1) e).path asked ≡ Less = subst (λ (r : Row). path_cmp r.path asked ≡ Less) (sym (got_alike rows (index - 1) e no_row (omega arith))) (low (omega arith)) in
              paths_total.trans (get_or rows k e).path (get_or rows (index - 1) e).path asked (order_got rows k (index - 1) e tree.in_order less (omega arith)) last
          | inr more ↦
              let at : k ≡ index - 1 = omega arith in
              subst (λ (n : ℕ). path_cmp (get_or rows n e).path asked ≡ Less) (sym at)
              (subst (λ (r : Row). path_cmp r.path asked ≡ Less) (sym (got_alike rows (index - 1) e no_row (omega arith))) (low (omega arith)))
        ]

-- by its place a row that is shown for a path without one is below it, or above
side_low : (head : CertificateHead) (asked : FilePath) (leaf : Leaf) (place : ℕ) → head.kind ≡ Absent → leaf.place ≡ place → place < head.index → is_in_place head asked leaf ≡ true → path_cmp leaf.row.path asked ≡ Less
side_low head asked leaf place kind at lt stands =
    let here : stands_so Absent head.index asked leaf ≡ true = subst (λ (k : Presence). stands_so k head.index asked leaf ≡ true) kind stands in
    let less : nat_lt leaf.place head.index ≡ true = lt_holds leaf.place head.index (omega (arith, at)) in
    is_less (path_cmp leaf.row.path asked) (rw less at here)

side_high : (head : CertificateHead) (asked : FilePath) (leaf : Leaf) (place : ℕ) → head.kind ≡ Absent → leaf.place ≡ place → head.index ≤ place → is_in_place head asked leaf ≡ true → path_cmp leaf.row.path asked ≡ Greater
side_high head asked leaf place kind at le stands =
    let here : stands_so Absent head.index asked leaf ≡ true = subst (λ (k : Presence). stands_so k head.index asked leaf ≡ true) kind stands in
    let more : nat_lt leaf.place head.index ≡ false = lt_fails leaf.place head.index (omega (arith, at)) in
    is_greater (path_cmp leaf.row.path asked) (rw more at here)

abbrev no_leaf : Leaf
no_leaf = record { place = 0; row = slim_row no_row; beside = [] }

finding_first : (kind : Presence) (ls : List Leaf) → kind ≡ Present → 0 < length ls → finding_of kind ls ≡ found.Row (get_or ls 0 no_leaf).row
finding_first kind [] is some = absurd (omega arith)
finding_first kind (l ∷ ls) is some = rw is refl

no_leaves : (ls : List Leaf) → length ls ≡ 0 → ls ≡ []
no_leaves [] e = refl
no_leaves (l ∷ ls) e = absurd (omega arith)

module _ (certificate : Certificate) (root : Digest) (asked : FilePath) (rows : Volume) (fits : CertificateFits certificate) (tree : IsTree rows)
    (stand : AllByRecursion (λ leaf. is_in_place certificate.head asked leaf ≡ true) certificate.leaves)
    (right : AllByRecursion (λ leaf. computed certificate.head.count leaf ≡ root) certificate.leaves)
    (empty : certificate.leaves ≡ [] → root_over certificate.head.count [] ≡ root)
    (is : root_of rows ≡ root)
    (apart : Distinct (λ text. IsIn text (certificate_texts certificate.head.count certificate.leaves)) (λ text. IsIn text (tree_texts rows))) where
  at_place : (j place : ℕ) → first_place certificate.head.kind certificate.head.index + j ≡ place → j < length certificate.leaves → place < certificate.head.count
      → IsPlaced certificate.head rows asked place (get_or certificate.leaves j no_leaf) no_row
  at_place j place at lt within =
      subst (λ (n : ℕ). IsPlaced certificate.head rows asked n (get_or certificate.leaves j no_leaf) no_row) at
      (placed certificate root asked rows j no_leaf no_row fits tree stand right is apart lt (omega (arith, at, within)))

  found_present : certificate.head.kind ≡ Present → finding_of certificate.head.kind certificate.leaves ≡ found_at rows asked
  found_present kind =
      let head = certificate.head in
      let number : length certificate.leaves ≡ head.index + 1 - head.index = fits.count ∙ rw kind refl in
      let first : first_place head.kind head.index + 0 ≡ head.index = rw kind (omega arith) in
      let within : head.index < head.count = subst (λ (k : Presence). head.index < place_limit k head.count) kind fits.head.place in
      let some : 0 < length certificate.leaves = omega arith in
      let here = at_place 0 head.index first some within in
      finding_first head.kind certificate.leaves kind some
      ∙ present_is head rows asked (get_or certificate.leaves 0 no_leaf) tree kind (omega (arith, here.count)) here

  -- how many rows the tree has
  counted : certificate.head.kind ≡ Absent → certificate.head.count ≡ length rows
  counted kind =
      let head = certificate.head in
      let number : length certificate.leaves ≡ min (head.index + 1) head.count - (head.index - 1) = fits.count ∙ rw kind refl in
      let within : head.index < head.count + 1 = subst (λ (k : Presence). head.index < place_limit k head.count) kind fits.head.place in
      let first : first_place head.kind head.index + 0 ≡ head.index - 1 = rw kind (omega arith) in
      elim (cases_lt 0 head.count) [
        | inl some ↦ (at_place 0 (head.index - 1) first (omega arith) (omega arith)).count
        | inr none ↦
            let zero_count : head.count ≡ 0 = omega arith in
            let nothing : certificate.leaves ≡ [] = no_leaves certificate.leaves (omega arith) in
            let here : IsIn (root_text head.count []) (certificate_texts head.count certificate.leaves) = rw nothing (inl refl) in
            (root_parts head.count (length rows) [] (top (leaves rows)) (omega arith) (omega (arith, tree.few)) (apart (root_text head.count []) (root_text (length rows) (top (leaves rows))) here (inl refl) (empty nothing ∙ sym is))).0
      ]

  found_absent : certificate.head.kind ≡ Absent → finding_of certificate.head.kind certificate.leaves ≡ found_at rows asked
  found_absent kind =
      let head = certificate.head in
      let number : length certificate.leaves ≡ min (head.index + 1) head.count - (head.index - 1) = fits.count ∙ rw kind refl in
      let within : head.index < head.count + 1 = subst (λ (k : Presence). head.index < place_limit k head.count) kind fits.head.place in
      let count = counted kind in
      let nothing : finding_of head.kind certificate.leaves ≡ found.NoRow = rw kind refl in
      nothing ∙ absent_is rows asked head.index tree (omega (arith, count))
      (λ some.
      let here = at_place 0 (head.index - 1) (rw kind (omega arith)) (omega arith) (omega arith) in
      subst (λ (r : SlimRow). path_cmp r.path asked ≡ Less) here.row (side_low head asked (get_or certificate.leaves 0 no_leaf) (head.index - 1) kind here.place_is (omega arith) here.stands))
      (λ more.
      let j = head.index - (head.index - 1) in
      let here = at_place j head.index (rw kind (omega arith)) (omega (arith, count)) (omega (arith, count)) in
      subst (λ (r : SlimRow). path_cmp r.path asked ≡ Greater) here.row (side_high head asked (get_or certificate.leaves j no_leaf) head.index kind here.place_is (omega arith) here.stands))

  found_true : finding_of certificate.head.kind certificate.leaves ≡ found_at rows asked
  found_true = by certificate.head.kind refl
    where
      by : (k : Presence) → certificate.head.kind ≡ k → finding_of certificate.head.kind certificate.leaves ≡ found_at rows asked
      by Present kind = found_present kind
      by Absent kind = found_absent kind

-- without a row the root of the tree without rows is computed
empty_right : (count : ℕ) (ls : List Leaf) (root : Digest) → AllByRecursion (λ computed. not (bytes_eq computed root) ≡ false) (roots_of count ls) → ls ≡ [] → root_over count [] ≡ root
empty_right count [] root all e = (bytes_eq-Decides (root_over count []) root).0 (not_false_of (bytes_eq (root_over count []) root) all.0)
empty_right count (l ∷ ls) root all e = absurd cc

pub judged_true : (certificate : Certificate) (root : Digest) (asked : FilePath) (finding : Finding) (rows : Volume) → CertificateFits certificate → IsTree rows
    → checked_finding certificate root asked ≡ Ok finding → root_of rows ≡ root
    → Distinct (λ text. IsIn text (certificate_texts certificate.head.count certificate.leaves)) (λ text. IsIn text (tree_texts rows)) → finding ≡ found_at rows asked
judged_true certificate root asked finding rows fits tree e is apart =
    let all = other_path certificate asked ∷ wrong_root certificate root ∷ [] in
    let none = none_refused all (finding_of certificate.head.kind certificate.leaves) finding e in
    let strangers = find_is_none (λ leaf. not (is_in_place certificate.head asked leaf)) certificate.leaves (none_mapped (λ leaf. OtherPath leaf.row.path) (find (λ leaf. not (is_in_place certificate.head asked leaf)) certificate.leaves) none.0) in
    let roots = find_is_none (λ computed. not (bytes_eq computed root)) (roots_of certificate.head.count certificate.leaves) (none_mapped (λ computed. WrongRoot root computed) (find (λ computed. not (bytes_eq computed root)) (roots_of certificate.head.count certificate.leaves)) none.1.0) in
    value_unrefused all (finding_of certificate.head.kind certificate.leaves) finding e
    ∙ found_true certificate root asked rows fits tree (each_implies (λ leaf. not (is_in_place certificate.head asked leaf) ≡ false) (λ leaf. is_in_place certificate.head asked leaf ≡ true) certificate.leaves (λ leaf in_place. not_false_of (is_in_place certificate.head asked leaf) in_place) strangers)
    (roots_right certificate.head.count certificate.leaves root roots) (empty_right certificate.head.count certificate.leaves root roots) is apart

pub findings_true : FindingsAreTrue
findings_true root asked bytes finding rows fits tree e is apart = by (certificate_in bytes) refl e apart
  where
    by : (r : Result Certificate ℕ) → certificate_in bytes ≡ r → checked_read r root asked ≡ Ok finding
        → Distinct (λ text. IsIn text (read_texts r)) (λ text. IsIn text (tree_texts rows)) → finding ≡ found_at rows asked
    by (Ok certificate) read taken differ = judged_true certificate root asked finding rows (read_fits bytes certificate fits read) tree taken is differ
    by (Err place) read taken differ = absurd cc
