-- What is proved of a path of a tree is taken, and says what stands there.
use Rattle.std.proofs.Common.{◌≡◌, ℕ, suc, ◌+◌, ◌-◌, ◌<◌, ◌≤◌, min, Bool, true, false, not, List, [], ◌∷◌, ◌++◌, length, drop, get_or, Option, Some, None, Ok, refl, sym, ap, subst, ◌∙◌, inl, inr, arith, length-drop}
use Rattle.std.specs.Option.{option_to_list}
use Rattle.std.specs.Str.{bytes_eq}
use Rattle.std.specs.List.{AllByRecursion}
use Rattle.std.specs.declared.cmp.Ordering.TheVariants.{Less, Greater}
use Rattle.std.proofs.lemmas.List.{get_or-map, get_or-take, get_or-drop, length-map, length-take-le, length-append, append_assoc, get_or_append_left, get_or-append_right}
use Rattle.std.proofs.Math.Seq.{get_or-append_seam}
use Rattle.std.proofs.lemmas.Slice.Eq.{bytes_eq-Decides}
use Rattle.std.proofs.lemmas.Bool.{cases_lt}
use Rattle.byte_fields.specs.Field.{EachFits}
use Rattle.byte_fields.proofs.Facts.{lt_holds, lt_fails}
use Rattle.file_paths.specs.Path.{FilePath, path_cmp, is_same_path}
use Rattle.file_paths.proofs.Order.{path_tied}
use Rattle.tree_values.specs.declared.node.Row.{Row}
use Rattle.tree_values.specs.Tree.{Volume, IsRow, IsTree, AreInOrder, row_at, rows_below, rows_above}
use Rattle.tree_values.proofs.Ordered.{split_at_path, all_below, all_above, is_at_equal}
use Rattle.tree_proof.specs.declared.certificate.Presence.{Presence}
use Rattle.tree_proof.specs.declared.certificate.Presence.TheVariants.{Present, Absent}
use Rattle.tree_proof.specs.declared.certificate.CertificateHead.{CertificateHead}
use Rattle.tree_proof.specs.declared.certificate.Leaf.{Leaf}
use Rattle.tree_proof.specs.declared.checking.Finding.TheVariants as found
use Rattle.tree_proof.specs.Limits.{most_levels}
use Rattle.tree_proof.specs.Tops.{Digest, leaf_of, root_over, top_within, top, climbed_within, beside_within, way_within}
use Rattle.tree_proof.specs.Certificate.{first_place, place_behind, leaf_count, place_limit, next_place}
use Rattle.tree_proof.specs.Checking.{is_in_place, computed, roots_of, finding_of, checked_finding}
use Rattle.tree_proof.specs.Trees.{slim_row, leaves, root_of, presence_of, certificate_head_of, leaves_from, shown_rows, certificate_for, finding_at, found_at}
use Rattle.tree_proof.specs.Laws.{ProofsAreTaken}
use Rattle.tree_proof.proofs.Lists.{all_got, mapped_all, got_alike}
use Rattle.tree_proof.proofs.Climbing.{beside_length, beside_are_digests, climbs}
use Rattle.tree_proof.proofs.Spelled.{LeafFits, CertificateFits}
use Rattle.tree_proof.proofs.Checked.{spelled_read, none_is_found, leaves_are_digests, top_some, slim_fits}

-- the row at a place, as a certificate shows it
abbrev leaf_for : List Digest → ℕ → Row → Leaf
leaf_for all place row = record { place = place; row = slim_row row; beside = beside_within most_levels all place }

-- what holds of each row that is shown
module _ (P : Leaf → Type 0) (all : List Digest) where
  each_from : (place : ℕ) (xs : List Row) → ((j : ℕ) (d : Row) → j < length xs → P (leaf_for all (place + j) (get_or xs j d))) → AllByRecursion P (leaves_from all place xs)
  each_from place [] each = tt
  each_from place (x ∷ xs) each =
      let none : place + 0 ≡ place = omega arith in (
        subst (λ (n : ℕ). P (leaf_for all n x)) none (each 0 x (omega arith)),
        each_from (place + 1) xs (λ j d lt. let at : place + suc j ≡ place + 1 + j = omega arith in subst (λ (n : ℕ). P (leaf_for all n (get_or xs j d))) at (each (suc j) d (omega arith))),
      )

fits_from : (count : ℕ) (all : List Digest) (place : ℕ) (xs : List Row) → place + length xs ≤ count
    → ((j : ℕ) (d : Row) → j < length xs → LeafFits (record { count = count; next = place + j }) (leaf_for all (place + j) (get_or xs j d)))
    → EachFits LeafFits next_place (record { count = count; next = place }) (leaves_from all place xs)
fits_from count all place [] within each = tt
fits_from count all place (x ∷ xs) within each =
    let none : place + 0 ≡ place = omega arith in
    let one : place + 1 ≡ min (place + 1) count = omega (arith, within) in (
      subst (λ (n : ℕ). LeafFits (record { count = count; next = n }) (leaf_for all n x)) none (each 0 x (omega arith)),
      subst (λ (n : ℕ). EachFits LeafFits next_place (record { count = count; next = n }) (leaves_from all (place + 1) xs)) one
          (fits_from count all (place + 1) xs (omega (arith, within))
          (λ j d lt. let at : place + suc j ≡ place + 1 + j = omega arith in subst (λ (n : ℕ). LeafFits (record { count = count; next = n }) (leaf_for all n (get_or xs j d))) at (each (suc j) d (omega arith)))),
    )

length_from : (all : List Digest) (place : ℕ) (xs : List Row) → length (leaves_from all place xs) ≡ length xs
length_from all place [] = refl
length_from all place (x ∷ xs) = ap suc (length_from all (place + 1) xs)

-- ---- the place of a path

-- the place of a path in rows: those before it are below the path, and its own row is there, or those behind it are above
pub record IsHead (rows : Volume) (asked : FilePath) (head : CertificateHead) : Type 0 where
  pub count : head.count ≡ length rows
  pub within : head.index < place_limit head.kind head.count
  pub below : (k : ℕ) (d : Row) → k < head.index → path_cmp (get_or rows k d).path asked ≡ Less
  pub own : head.kind ≡ Present → (d : Row) → row_at rows asked ≡ Some (get_or rows head.index d)
  pub own_path : head.kind ≡ Present → (d : Row) → (get_or rows head.index d).path ≡ asked
  pub none : head.kind ≡ Absent → row_at rows asked ≡ None
  pub above : head.kind ≡ Absent → (k : ℕ) (d : Row) → head.index ≤ k → k < length rows → path_cmp (get_or rows k d).path asked ≡ Greater

-- what is looked up has the path
found_path : (rows : Volume) (asked : FilePath) (r : Row) → row_at rows asked ≡ Some r → r.path ≡ asked
found_path [] asked r e = absurd cc
found_path (x ∷ xs) asked r e = first (is_same_path x.path asked) refl e (found_path xs asked r)
  where
    first : (b : Bool) → is_same_path x.path asked ≡ b → row_at (x ∷ xs) asked ≡ Some r → (row_at xs asked ≡ Some r → r.path ≡ asked) → r.path ≡ asked
    first true same at rest = let is : x ≡ r = (let here : Some x ≡ Some r = rw same at at in cc) in sym (ap (λ (row : Row). row.path) is) ∙ is_at_equal x asked same
    first false other at rest = rest (rw other at at)

head_is : (rows : Volume) (asked : FilePath) → AreInOrder rows → IsHead rows asked (certificate_head_of rows asked)
head_is rows asked order = by (row_at rows asked) refl
  where
    by : (o : Option Row) → row_at rows asked ≡ o → IsHead rows asked (record { count = length rows; kind = presence_of o; index = length (rows_below rows asked) })
    by (Some r) e =
        let split : rows ≡ rows_below rows asked ++ (r ∷ rows_above rows asked) =
        subst (λ (o : Option Row). rows ≡ rows_below rows asked ++ option_to_list o ++ rows_above rows asked) e (split_at_path rows asked order)
        ∙ append_assoc (rows_below rows asked) (r ∷ []) (rows_above rows asked) in
        let seam : (d : Row) → get_or rows (length (rows_below rows asked)) d ≡ r = λ d.
        ap (λ (xs : Volume). get_or xs (length (rows_below rows asked)) d) split ∙ get_or-append_seam (rows_below rows asked) r (rows_above rows asked) d in
        record {
          count = refl;
          within = omega (arith, ap length split, length-append (rows_below rows asked) (r ∷ rows_above rows asked));
          below = λ k d lt. subst (λ (row : Row). path_cmp row.path asked ≡ Less) (sym (ap (λ (xs : Volume). get_or xs k d) split ∙ get_or_append_left (rows_below rows asked) (r ∷ rows_above rows asked) d k lt)) (all_got (λ row. path_cmp row.path asked ≡ Less) (rows_below rows asked) k d (all_below rows asked) lt);
          own = λ is d. e ∙ ap Some (sym (seam d));
          own_path = λ is d. ap (λ (row : Row). row.path) (seam d) ∙ found_path rows asked r e;
          none = λ is. absurd cc;
          above = λ is k d le lt. absurd cc;
        }
    by None e =
        let split : rows ≡ rows_below rows asked ++ rows_above rows asked =
        subst (λ (o : Option Row). rows ≡ rows_below rows asked ++ option_to_list o ++ rows_above rows asked) e (split_at_path rows asked order)
        ∙ append_assoc (rows_below rows asked) [] (rows_above rows asked) in
        let size = ap length split ∙ length-append (rows_below rows asked) (rows_above rows asked) in
        record {
          count = refl;
          within = omega (arith, size);
          below = λ k d lt. subst (λ (row : Row). path_cmp row.path asked ≡ Less) (sym (ap (λ (xs : Volume). get_or xs k d) split ∙ get_or_append_left (rows_below rows asked) (rows_above rows asked) d k lt)) (all_got (λ row. path_cmp row.path asked ≡ Less) (rows_below rows asked) k d (all_below rows asked) lt);
          own = λ is d. absurd cc;
          own_path = λ is d. absurd cc;
          none = λ is. e;
          above = λ is k d le lt.
              subst (λ (row : Row). path_cmp row.path asked ≡ Greater) (sym (ap (λ (xs : Volume). get_or xs k d) split ∙ get_or-append_right (rows_below rows asked) (rows_above rows asked) (length (rows_below rows asked)) k d refl le))
              (all_got (λ row. path_cmp row.path asked ≡ Greater) (rows_above rows asked) (k - length (rows_below rows asked)) d (all_above rows asked) (omega (arith, size, lt)));
        }

-- ---- the certificate of a path

-- the root of no rows
of_none : (rs : Volume) → length rs ≡ 0 → root_over (length rs) [] ≡ root_of rs
of_none [] e = refl
of_none (r ∷ rs) e = absurd (omega (arith, e))

module _ (rows : Volume) (asked : FilePath) (head : CertificateHead) (tree : IsTree rows) (is : IsHead rows asked head) where
  -- the rows that are shown stand in the tree
  shown_number : first_place head.kind head.index + leaf_count head ≤ length rows
  shown_number = by head.kind refl
    where
      by : (k : Presence) → head.kind ≡ k → first_place head.kind head.index + leaf_count head ≤ length rows
      by Present kind =
          let within : head.index < head.count = subst (λ (k : Presence). head.index < place_limit k head.count) kind is.within in
          rw kind (omega (arith, is.count, within))
      by Absent kind =
          let within : head.index < head.count + 1 = subst (λ (k : Presence). head.index < place_limit k head.count) kind is.within in
          rw kind (omega (arith, is.count, within))

  shown_length : length (shown_rows rows head) ≡ leaf_count head
  shown_length = length-take-le (leaf_count head) (drop (first_place head.kind head.index) rows) (omega (arith, shown_number, length-drop (first_place head.kind head.index) rows))

  shown_got : (j : ℕ) (d : Row) → j < leaf_count head → get_or (shown_rows rows head) j d ≡ get_or rows (first_place head.kind head.index + j) d
  shown_got j d lt = get_or-take (leaf_count head) (drop (first_place head.kind head.index) rows) j d lt ∙ get_or-drop (first_place head.kind head.index) rows j d

  -- what holds of each row of the tree at a place that is shown
  each_shown : (P : Leaf → Type 0) → ((place : ℕ) (row : Row) → place < length rows → first_place head.kind head.index ≤ place → place < first_place head.kind head.index + leaf_count head → ((d : Row) → row ≡ get_or rows place d) → P (leaf_for (leaves rows) place row))
      → AllByRecursion P (certificate_for rows head).leaves
  each_shown P each =
      each_from P (leaves rows) (first_place head.kind head.index) (shown_rows rows head)
      (λ j d lt.
      let within : j < leaf_count head = omega (arith, lt, shown_length) in
      each (first_place head.kind head.index + j) (get_or (shown_rows rows head) j d) (omega (arith, within, shown_number)) (omega arith) (omega (arith, within))
      (λ e. got_alike (shown_rows rows head) j d e lt ∙ shown_got j e within))

  size : length (leaves rows) ≡ length rows
  size = length-map rows (λ row. leaf_of (slim_row row))

  leaf_fits : (place : ℕ) (row : Row) → place < length rows → ((d : Row) → row ≡ get_or rows place d) → LeafFits (record { count = head.count; next = place }) (leaf_for (leaves rows) place row)
  leaf_fits place row lt at = record {
    place = refl;
    row = slim_fits row (subst IsRow (sym (at row)) (all_got IsRow rows place row tree.each lt));
    way = beside_length most_levels (leaves rows) place ∙ ap (λ (n : ℕ). way_within most_levels n place) (size ∙ sym is.count);
    beside = beside_are_digests most_levels (leaves rows) place (leaves_are_digests rows);
  }

  certificate_fits : CertificateFits (certificate_for rows head)
  certificate_fits = record {
    head = record { few = omega (arith, is.count, tree.few); place = is.within };
    count = length_from (leaves rows) (first_place head.kind head.index) (shown_rows rows head) ∙ shown_length;
    each = fits_from head.count (leaves rows) (first_place head.kind head.index) (shown_rows rows head) (omega (arith, is.count, shown_length, shown_number))
        (λ j d lt.
        let within : j < leaf_count head = omega (arith, lt, shown_length) in
        leaf_fits (first_place head.kind head.index + j) (get_or (shown_rows rows head) j d) (omega (arith, within, shown_number)) (λ e. got_alike (shown_rows rows head) j d e lt ∙ shown_got j e within));
  }

  -- each row stands as its place says
  each_in_place : AllByRecursion (λ leaf. not (is_in_place head asked leaf) ≡ false) (certificate_for rows head).leaves
  each_in_place = each_shown (λ leaf. not (is_in_place head asked leaf) ≡ false) (λ place row lt from to at. ap not (stands place row lt from to at))
    where
      stands : (place : ℕ) (row : Row) → place < length rows → first_place head.kind head.index ≤ place → place < first_place head.kind head.index + leaf_count head → ((d : Row) → row ≡ get_or rows place d)
          → is_in_place head asked (leaf_for (leaves rows) place row) ≡ true
      stands place row lt from to at = by head.kind refl
        where
          by : (k : Presence) → head.kind ≡ k → is_in_place head asked (leaf_for (leaves rows) place row) ≡ true
          by Present kind =
              let first : head.index ≤ place = subst (λ (k : Presence). first_place k head.index ≤ place) kind from in
              let last : place < head.index + (head.index + 1 - head.index) = subst (λ (k : Presence). place < first_place k head.index + (place_behind k head.count head.index - first_place k head.index)) kind to in
              let own : place ≡ head.index = omega arith in
              let path : row.path ≡ asked = ap (λ (r : Row). r.path) (at row ∙ ap (λ (n : ℕ). get_or rows n row) own) ∙ is.own_path kind row in
              rw kind (path_tied row.path asked path)
          by Absent kind =
              elim (cases_lt place head.index) [
                | inl low ↦
                    let less : path_cmp row.path asked ≡ Less = subst (λ (r : Row). path_cmp r.path asked ≡ Less) (sym (at row)) (is.below place row low) in
                    rw (kind, lt_holds place head.index low, less) refl
                | inr high ↦
                    let more : path_cmp row.path asked ≡ Greater = subst (λ (r : Row). path_cmp r.path asked ≡ Greater) (sym (at row)) (is.above kind place row high lt) in
                    rw (kind, lt_fails place head.index high, more) refl
              ]

  -- each row computes the tree's root
  computes : (place : ℕ) (row : Row) → place < length rows → ((d : Row) → row ≡ get_or rows place d) → computed head.count (leaf_for (leaves rows) place row) ≡ root_of rows
  computes place row lt at =
      let leaf : leaf_of (slim_row row) ≡ get_or (leaves rows) place [] = ap (λ (r : Row). leaf_of (slim_row r)) (at row) ∙ sym (get_or-map (λ r. leaf_of (slim_row r)) rows place row [] lt) in
      let climbed : climbed_within most_levels (length (leaves rows)) place (leaf_of (slim_row row)) (beside_within most_levels (leaves rows) place) ≡ top_within most_levels (leaves rows) =
      ap (λ (digest : Digest). climbed_within most_levels (length (leaves rows)) place digest (beside_within most_levels (leaves rows) place)) leaf
      ∙ climbs most_levels (leaves rows) place (omega (arith, size, lt)) (omega (arith, size, tree.few)) in
      let count : head.count ≡ length (leaves rows) = is.count ∙ sym size in
      ap (λ (n : ℕ). root_over n (climbed_within most_levels n place (leaf_of (slim_row row)) (beside_within most_levels (leaves rows) place))) count
      ∙ ap (λ (digest : Digest). root_over (length (leaves rows)) digest) (climbed ∙ sym (top_some (leaves rows) (omega (arith, size, lt))))
      ∙ ap (λ (n : ℕ). root_over n (top (leaves rows))) size

  each_right : AllByRecursion (λ leaf. computed head.count leaf ≡ root_of rows) (certificate_for rows head).leaves
  each_right = each_shown (λ leaf. computed head.count leaf ≡ root_of rows) (λ place row lt from to at. computes place row lt at)

  -- no row is shown only where the tree has none
  no_rows : (k : Presence) → head.kind ≡ k → 0 ≡ leaf_count head → root_over head.count [] ≡ root_of rows
  no_rows Present kind number =
      let one : 0 ≡ head.index + 1 - head.index = subst (λ (k : Presence). 0 ≡ place_behind k head.count head.index - first_place k head.index) kind number in
      absurd (omega (arith, one))
  no_rows Absent kind number =
      let nothing : 0 ≡ min (head.index + 1) head.count - (head.index - 1) = subst (λ (k : Presence). 0 ≡ place_behind k head.count head.index - first_place k head.index) kind number in
      let within : head.index < head.count + 1 = subst (λ (k : Presence). head.index < place_limit k head.count) kind is.within in
      let empty : length rows ≡ 0 = omega (arith, is.count, nothing, within) in
      ap (λ (n : ℕ). root_over n []) is.count ∙ of_none rows empty

  same_root : (digest : Digest) → digest ≡ root_of rows → not (bytes_eq digest (root_of rows)) ≡ false
  same_root digest equal = ap not ((bytes_eq-Decides digest (root_of rows)).1 equal)

  each_same : (xs : List Leaf) → AllByRecursion (λ leaf. computed head.count leaf ≡ root_of rows) xs → AllByRecursion (λ leaf. not (bytes_eq (computed head.count leaf) (root_of rows)) ≡ false) xs
  each_same [] every = tt
  each_same (x ∷ xs) every = (same_root (computed head.count x) every.0, each_same xs every.1)

  -- no root that is computed is another one
  right_roots : AllByRecursion (λ computed. not (bytes_eq computed (root_of rows)) ≡ false) (roots_of head.count (certificate_for rows head).leaves)
  right_roots = by (certificate_for rows head).leaves refl each_right
    where
      by : (ls : List Leaf) → (certificate_for rows head).leaves ≡ ls → AllByRecursion (λ leaf. computed head.count leaf ≡ root_of rows) ls → AllByRecursion (λ computed. not (bytes_eq computed (root_of rows)) ≡ false) (roots_of head.count ls)
      by [] none all =
          let number : 0 ≡ leaf_count head = ap length (sym none) ∙ length_from (leaves rows) (first_place head.kind head.index) (shown_rows rows head) ∙ shown_length in
          (same_root (root_over head.count []) (no_rows head.kind refl number), tt)
      by (l ∷ ls) some all = mapped_all (λ computed. not (bytes_eq computed (root_of rows)) ≡ false) (computed head.count) (l ∷ ls) (each_same (l ∷ ls) all)

  -- what it says is what stands there
  says : finding_of head.kind (certificate_for rows head).leaves ≡ found_at rows asked
  says = by head.kind refl
    where
      first_row : (place : ℕ) (xs : List Row) (r : Row) → 0 < length xs → get_or xs 0 r ≡ r → finding_of Present (leaves_from (leaves rows) place xs) ≡ found.Row (slim_row r)
      first_row place [] r some at = absurd (omega arith)
      first_row place (x ∷ xs) r some at = ap (λ (row : Row). found.Row (slim_row row)) at

      by : (k : Presence) → head.kind ≡ k → finding_of head.kind (certificate_for rows head).leaves ≡ found_at rows asked
      by Absent kind = rw (kind, is.none kind) refl
      by Present kind =
          let r = get_or rows head.index (record { path = []; version = 0; node = None }) in
          let number : leaf_count head ≡ head.index + 1 - head.index = rw kind refl in
          let first : first_place head.kind head.index + 0 ≡ head.index = rw kind (omega arith) in
          let within : head.index < head.count = subst (λ (k : Presence). head.index < place_limit k head.count) kind is.within in
          let at : get_or (shown_rows rows head) 0 r ≡ r = shown_got 0 r (omega arith) ∙ ap (λ (n : ℕ). get_or rows n r) first ∙ got_alike rows head.index r (record { path = []; version = 0; node = None }) (omega (arith, is.count)) in
          ap (λ (k : Presence). finding_of k (certificate_for rows head).leaves) kind
          ∙ first_row (first_place head.kind head.index) (shown_rows rows head) r (omega (arith, shown_length, number)) at
          ∙ sym (ap finding_at (is.own kind (record { path = []; version = 0; node = None })))

  judged_so : checked_finding (certificate_for rows head) (root_of rows) asked ≡ Ok (found_at rows asked)
  judged_so =
      let leaves_shown = (certificate_for rows head).leaves in
      rw (none_is_found (λ leaf. not (is_in_place head asked leaf)) leaves_shown each_in_place, none_is_found (λ computed. not (bytes_eq computed (root_of rows))) (roots_of head.count leaves_shown) right_roots)
      (ap Ok says)

pub proofs_taken : ProofsAreTaken
proofs_taken rows asked tree =
    let head = certificate_head_of rows asked in
    let is = head_is rows asked tree.in_order in
    rw (spelled_read (certificate_for rows head) (certificate_fits rows asked head tree is)) (judged_so rows asked head tree is)
