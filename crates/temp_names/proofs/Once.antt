-- A renaming is one to one.
use Rattle.std.proofs.Common.{◌≡◌, ◌∙◌, ◌<◌, ◌≤◌, Bool, true, false, ◌&&◌, ◌==◌, List, [], ◌∷◌, length, filter, Option, Some, None, is_none, option_map, inl, inr, refl, sym, ap, subst, true≢false, cond, arith}
use Rattle.std.specs.Prelude.{◌⊎◌, map}
use Rattle.std.specs.Option.{option_or}
use Rattle.std.specs.Str.{bytes_eq}
use Rattle.std.specs.List.{AllByRecursion, filter_map, cons_option, list_any, count_by, slice_get}
use Rattle.std.specs.Cmp.Lexicographic.{bytes_decides}
use Rattle.std.proofs.lemmas.Option.{none-some}
use Rattle.std.proofs.lemmas.List.Sums.{length-filter}
use Rattle.std.specs.declared.cmp.Ordering.TheVariants.{Less}
use Rattle.std.specs.Ordering.{is_lt}
use Rattle.byte_fields.proofs.Facts.{and_holds, and_of, eq_of, eq_itself, not_of}
use Rattle.file_paths.specs.Path.{path_cmp, is_same_path, folder_of}
use Rattle.file_paths.proofs.Order.{paths_total, is_less, tied_path, own_path, same_place}
use Rattle.tree_values.specs.Lists.{IsIn, NoneTwice}
use Rattle.temp_names.specs.declared.candidate.Candidate.{Candidate}
use Rattle.temp_names.specs.declared.candidate.Likeness.{Likeness}
use Rattle.temp_names.specs.declared.candidate.Likeness.TheVariants.{Group, GroupAndPrint}
use Rattle.temp_names.specs.declared.pairs.Renamed.{Renamed}
use Rattle.temp_names.specs.Candidates.{candidate_of_row, candidate_of_effect, client_candidates, replay_candidates}
use Rattle.temp_names.specs.Renaming.{has_path, is_same_group, is_alike, rank, counterpart, replays_left, clients_left, by_place, partner, renamed, pairs, new_clients, new_replays}
use Rattle.temp_names.specs.Laws.{RisesBy, RenamingsAreOneToOne}
use Rattle.temp_names.proofs.Rising.{some_same, all_passing, all_in, in_filter, in_found, one_item, rises_filter, rises_found, rows_rise, in_path_order_rises, rising_none_twice, later_differs}
use Rattle.temp_names.proofs.Sides.{any_in, row_path}
use Rattle.temp_names.proofs.Paired.{counterpart_sound, only_if}

-- ---- a wider test counts more

module _ {X : Type 0} (p q : X → Bool) (shows : (x : X) → p x ≡ true → q x ≡ true) where
  as_many : (xs : List X) → length (filter p xs) ≤ length (filter q xs)
  as_many [] = omega arith
  as_many (x ∷ xs) =
      elim (p x) as (λ b. p x ≡ b → length (cond b (x ∷ filter p xs) (filter p xs)) ≤ length (filter q (x ∷ xs))) [
        | true ↦ λ e. rw (shows x e) (omega (arith, as_many xs))
        | false ↦ λ e. elim (q x) as (λ b. length (filter p xs) ≤ length (cond b (x ∷ filter q xs) (filter q xs))) [
          | true ↦ omega (arith, as_many xs)
          | false ↦ as_many xs
        ]
      ] refl

  -- and more by one that only it passes
  more : (xs : List X) (x : X) → IsIn x xs → p x ≡ false → q x ≡ true → length (filter p xs) < length (filter q xs)
  more [] x among low high = absurd among
  more (y ∷ ys) x (inl same) low high =
      rw (subst (λ z. p z ≡ false) same low) (rw (subst (λ z. q z ≡ true) same high) (omega (arith, as_many ys)))
  more (y ∷ ys) x (inr among) low high =
      elim (p y) as (λ b. p y ≡ b → length (cond b (y ∷ filter p ys) (filter p ys)) < length (filter q (y ∷ ys))) [
        | true ↦ λ e. rw (shows y e) (omega (arith, more ys x among low high))
        | false ↦ λ e. elim (q y) as (λ b. length (filter p ys) < length (cond b (y ∷ filter q ys) (filter q ys))) [
          | true ↦ omega (arith, more ys x among low high)
          | false ↦ more ys x among low high
        ]
      ] refl

  counts_more : (xs : List X) (x : X) → IsIn x xs → p x ≡ false → q x ≡ true → count_by p xs < count_by q xs
  counts_more xs x among low high = omega (arith, length-filter p xs, length-filter q xs, more xs x among low high)

-- ---- what is like one thing is alike

group_of : (c d : Candidate) → is_same_group c d ≡ true → (c.template ≡ d.template) × (folder_of c.path ≡ folder_of d.path)
group_of c d e =
    let parts = and_of (c.template == d.template) _ e in
    (eq_of c.template d.template parts.0, tied_path (folder_of c.path) (folder_of d.path) parts.1)

group_tests : (c d r : Candidate) → is_same_group c r ≡ true → is_same_group d r ≡ true → (x : Candidate) → is_same_group c x ≡ is_same_group d x
group_tests c d r e f x =
    let of_c = group_of c r e in
    let of_d = group_of d r f in
    λ i. ((of_c.0 ∙ sym of_d.0) i == x.template) && is_same_path ((of_c.1 ∙ sym of_d.1) i) (folder_of x.path)

alike_tests : (l : Likeness) (c d r : Candidate) → is_alike l c r ≡ true → is_alike l d r ≡ true → (x : Candidate) → is_alike l c x ≡ is_alike l d x
alike_tests Group c d r e f x = group_tests c d r e f x
alike_tests GroupAndPrint c d r e f x =
    let in_c = and_of (is_same_group c r) _ e in
    let in_d = and_of (is_same_group d r) _ f in
    let print : c.print ≡ d.print = (bytes_decides c.print r.print).0 in_c.1 ∙ sym ((bytes_decides d.print r.print).0 in_d.1) in
    λ i. group_tests c d r in_c.0 in_d.0 x i && bytes_eq (print i) x.print

in_own_group : (c : Candidate) → is_same_group c c ≡ true
in_own_group c = and_holds _ _ (eq_itself c.template) (own_path (folder_of c.path))

alike_itself : (l : Likeness) (c : Candidate) → is_alike l c c ≡ true
alike_itself Group c = in_own_group c
alike_itself GroupAndPrint c = and_holds _ _ (in_own_group c) ((bytes_decides c.print c.print).1 refl)

-- ---- in one pass

-- two of the client's have no counterpart in common
apart : (l : Likeness) (cs rs : List Candidate) → RisesBy (λ x. x.path) rs → (c d : Candidate) → IsIn c cs → path_cmp c.path d.path ≡ Less
    → (r s : Candidate) → counterpart l cs rs c ≡ Some r → counterpart l cs rs d ≡ Some s → r.path ≡ s.path → ⊥
unfolding counterpart
apart l cs rs up c d among less r s e f same =
    let of_c = counterpart_sound (λ x. IsIn x rs) l cs rs (all_in rs) c r e in
    let of_d = counterpart_sound (λ x. IsIn x rs) l cs rs (all_in rs) d s f in
    let one : r ≡ s = one_item (λ x. x.path) rs r s up of_c.0 of_d.0 same in
    let tests = alike_tests l c d r of_c.1 (subst (λ x. is_alike l d x ≡ true) (sym one) of_d.1) in
    let lists : filter (is_alike l c) rs ≡ filter (is_alike l d) rs = λ i. filter (λ x. tests x i) rs in
    let lower : rank l cs c < rank l cs d =
    counts_more (λ x. is_alike l c x && is_lt (path_cmp x.path c.path)) (λ x. is_alike l d x && is_lt (path_cmp x.path d.path))
    (λ x so.
    let parts = and_of (is_alike l c x) _ so in
    and_holds _ _ (sym (tests x) ∙ parts.0) (ap is_lt (paths_total.trans x.path c.path d.path (is_less _ parts.1) less)))
    cs c among
    (rw (alike_itself l c) (ap is_lt (same_place c.path)))
    (and_holds _ _ (sym (tests c) ∙ alike_itself l c) (ap is_lt less)) in
    later_differs (λ x. x.path) (filter (is_alike l d) rs) (rank l cs c) (rank l cs d) r s (rises_filter (λ x. x.path) (is_alike l d) rs up) lower
    (subst (λ found. slice_get found (rank l cs c) ≡ Some r) lists e) f same

-- ---- in both passes

module _ (cs rs : List Candidate) (clients_rise : RisesBy (λ x. x.path) cs) (replays_rise : RisesBy (λ x. x.path) rs) where
  abbrev taken : List Candidate
  taken = filter_map (counterpart GroupAndPrint cs rs) cs

  abbrev IsByPlace : Candidate → Candidate → Type 0
  IsByPlace c r = (counterpart GroupAndPrint cs rs c ≡ None) × (counterpart Group (clients_left cs rs) (replays_left cs rs) c ≡ Some r)

  passes : (c r : Candidate) → partner cs rs c ≡ Some r → (counterpart GroupAndPrint cs rs c ≡ Some r) ⊎ IsByPlace c r
  unfolding partner
  passes c r e =
      elim (counterpart GroupAndPrint cs rs c) as (λ o. counterpart GroupAndPrint cs rs c ≡ o
      → option_or o (by_place (clients_left cs rs) (replays_left cs rs) c) ≡ Some r
      → (counterpart GroupAndPrint cs rs c ≡ Some r) ⊎ IsByPlace c r) [
        | None ↦ λ so f. inr (so, only_if _ _ r f)
        | Some x ↦ λ so f. inl (so ∙ f)
      ] refl e

  -- what is taken by its print is not left for a place
  not_left : (c d r s : Candidate) → IsIn c cs → counterpart GroupAndPrint cs rs c ≡ Some r → IsByPlace d s → r.path ≡ s.path → ⊥
  not_left c d r s among e f same =
      true≢false
      (sym (any_in s.path taken r (in_found (counterpart GroupAndPrint cs rs) cs c r among e) same)
      ∙ (counterpart_sound (λ x. list_any (has_path x.path) taken ≡ false) Group (clients_left cs rs) (replays_left cs rs)
      (all_passing (λ x. list_any (has_path x.path) taken ≡ false) _ (λ x so. not_of _ so) rs) d s f.1).0)

  partners_differ : (c d r s : Candidate) → IsIn c cs → IsIn d cs → path_cmp c.path d.path ≡ Less
      → partner cs rs c ≡ Some r → partner cs rs d ≡ Some s → r.path ≡ s.path → ⊥
  partners_differ c d r s in_c in_d less e f same = by (passes c r e) (passes d s f)
    where
      by : (counterpart GroupAndPrint cs rs c ≡ Some r) ⊎ IsByPlace c r → (counterpart GroupAndPrint cs rs d ≡ Some s) ⊎ IsByPlace d s → ⊥
      by (inl a) (inl b) = apart GroupAndPrint cs rs replays_rise c d in_c less r s a b same
      by (inl a) (inr b) = not_left c d r s in_c a b same
      by (inr a) (inl b) = not_left d c s r in_d b a (sym same)
      by (inr a) (inr b) =
          apart Group (clients_left cs rs) (replays_left cs rs) (rises_filter (λ x. x.path) _ rs replays_rise) c d
          (in_filter (λ x. is_none (counterpart GroupAndPrint cs rs x)) cs c in_c (ap is_none a.0)) less r s a.1 b.1 same

  abbrev pair_of : Candidate → Option Renamed
  pair_of c = option_map (renamed c) (partner cs rs c)

  none_later : (c r : Candidate) → IsIn c cs → partner cs rs c ≡ Some r → (xs : List Candidate) → AllByRecursion (λ x. IsIn x cs) xs
      → AllByRecursion (λ x. path_cmp c.path x.path ≡ Less) xs → IsIn r.path (map (λ pair. pair.from) (filter_map pair_of xs)) → ⊥
  none_later c r in_c e [] among above there = there
  none_later c r in_c e (d ∷ xs) among above there =
      elim (partner cs rs d) as (λ o. partner cs rs d ≡ o
      → IsIn r.path (map (λ pair. pair.from) (cons_option (option_map (renamed d) o) (filter_map pair_of xs))) → ⊥) [
        | None ↦ λ f here. none_later c r in_c e xs among.1 above.1 here
        | Some s ↦ λ f here. elim here [
          | inl same ↦ partners_differ c d r s in_c among.0 above.0 e f same
          | inr further ↦ none_later c r in_c e xs among.1 above.1 further
        ]
      ] refl there

  froms_differ : (xs : List Candidate) → AllByRecursion (λ x. IsIn x cs) xs → RisesBy (λ x. x.path) xs
      → NoneTwice (map (λ pair. pair.from) (filter_map pair_of xs))
  froms_differ [] among up = tt
  froms_differ (c ∷ xs) among up =
      elim (partner cs rs c) as (λ o. partner cs rs c ≡ o
      → NoneTwice (map (λ pair. pair.from) (cons_option (option_map (renamed c) o) (filter_map pair_of xs)))) [
        | None ↦ λ e. froms_differ xs among.1 up.1
        | Some r ↦ λ e. (none_later c r among.0 e xs among.1 up.0, froms_differ xs among.1 up.1)
      ] refl

  renamed_to : (c : Candidate) (o : Option Candidate) (pair : Renamed) → option_map (renamed c) o ≡ Some pair → pair.to ≡ c.path
  renamed_to c None pair e = absurd (none-some pair e)
  renamed_to c (Some r) pair e = sym (ap (λ (y : Renamed). y.to) (some_same (renamed c r) pair e))

  tos_rise : RisesBy (λ pair. pair.to) (pairs cs rs)
  tos_rise = rises_found (λ c. c.path) (λ pair. pair.to) pair_of (λ c pair e. renamed_to c (partner cs rs c) pair e) cs clients_rise

-- ---- the law

pub one_to_one : RenamingsAreOneToOne
one_to_one templates effects job_rows rows up =
    let cs = new_clients templates effects job_rows rows in
    let rs = new_replays templates effects job_rows rows in
    let of_cs : RisesBy (λ x. x.path) cs =
    rises_filter (λ x. x.path) _ (client_candidates templates effects job_rows rows)
    (in_path_order_rises (filter_map (candidate_of_effect templates job_rows rows) effects)) in
    let of_rs : RisesBy (λ x. x.path) rs =
    rises_filter (λ x. x.path) _ (replay_candidates templates job_rows rows)
    (rises_found (λ row. row.path) (λ x. x.path) (candidate_of_row templates job_rows)
    (λ row c so. row_path templates job_rows row.path row.node c so) rows (rows_rise rows up)) in
    record {
      froms = froms_differ cs rs of_cs of_rs cs (all_in cs) of_cs;
      tos = rising_none_twice (λ pair. pair.to) (pairs cs rs) (tos_rise cs rs of_cs of_rs);
      in_order = tos_rise cs rs of_cs of_rs;
    }
