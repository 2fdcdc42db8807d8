-- What the sorted sides say of the sides themselves.
use Rattle.std.proofs.Common.{◌≡◌, ◌∙◌, ℕ, ◌≤◌, Bool, true, false, suc, ◌||◌, ◌==◌, not, cond, List, [], ◌∷◌, length, filter, Option, None, option_map, is_none, refl, sym, ap, subst, arith}
use Rattle.std.specs.Prelude.{count_by, slice_get}
use Rattle.std.specs.List.{list_any, filter_map}
use Rattle.std.specs.List.Sorted.{IsPartitionPoint}
use Rattle.std.specs.Option.{option_or}
use Rattle.std.specs.Ordering.{is_lt}
use Rattle.std.proofs.lemmas.Bool.Decides.{nat_tests}
use Rattle.std.proofs.lemmas.List.Elements.{filter_agree}
use Rattle.std.proofs.lemmas.List.Sums.{length-filter}
use Rattle.file_paths.specs.Path.{path_cmp}
use Rattle.temp_names.specs.declared.candidate.Candidate.{Candidate}
use Rattle.temp_names.specs.declared.candidate.Likeness.{Likeness}
use Rattle.temp_names.specs.declared.candidate.Likeness.TheVariants.{Group, GroupAndPrint}
use Rattle.temp_names.specs.declared.pairs.Sides.{Sides}
use Rattle.temp_names.specs.Renaming.{is_same_group, is_alike, rank, counterpart, has_path, without_paths, clients_left, replays_left, by_place, partner, renamed, pairs}
use Rattle.temp_names.specs.Laws.{RisesBy}
use Rattle.temp_names.specs.Inside.{AreSorted, AreSidesOf, partner_of, class_of, path_of_candidate}
use Rattle.temp_names.proofs.Sorting.{count_both, count_of_front}
use Rattle.temp_names.proofs.Alike.{alike_filter}
use Rattle.temp_names.proofs.Rising.{rises_filter}
use Rattle.byte_fields.proofs.Facts.{eq_holds, eq_fails}

-- ---- places

-- where a search for the path ends in the class is the place
pub place_is_rank : (l : Likeness) (cs like : List Candidate) (c : Candidate) (i : ℕ) → like ≡ filter (is_alike l c) cs → i ≤ length like
    → IsPartitionPoint (λ d. is_lt (path_cmp d.path c.path) ≡ true) (λ d. is_lt (path_cmp d.path c.path) ≡ false) like i → i ≡ rank l cs c
place_is_rank l cs like c i is within parts =
    count_of_front (λ (d : Candidate). is_lt (path_cmp d.path c.path)) like i within parts
    ∙ ap (count_by (λ (d : Candidate). is_lt (path_cmp d.path c.path))) is
    ∙ sym (count_both (is_alike l c) (λ d. is_lt (path_cmp d.path c.path)) cs)

rank_same : (l : Likeness) (cs ds : List Candidate) (c : Candidate) → filter (is_alike l c) cs ≡ filter (is_alike l c) ds → rank l cs c ≡ rank l ds c
rank_same l cs ds c same =
    count_both (is_alike l c) (λ d. is_lt (path_cmp d.path c.path)) cs
    ∙ ap (count_by (λ (d : Candidate). is_lt (path_cmp d.path c.path))) same
    ∙ sym (count_both (is_alike l c) (λ d. is_lt (path_cmp d.path c.path)) ds)

pub counterpart_same : (l : Likeness) (clients replays : List Candidate) (sides : Sides) → AreSidesOf l clients replays sides → (c : Candidate)
    → counterpart l sides.clients.items sides.replays.items c ≡ counterpart l clients replays c
unfolding counterpart
counterpart_same l clients replays sides are c =
    (λ i. slice_get (are.replays_same c i) (rank_same l sides.clients.items clients c (are.clients_same c) i))

count_same : (cs ds : List Candidate) (c : Candidate) → filter (is_alike Group c) cs ≡ filter (is_alike Group c) ds → count_by (is_same_group c) cs ≡ count_by (is_same_group c) ds
count_same cs ds c same = sym (length-filter (is_same_group c) cs) ∙ ap length same ∙ length-filter (is_same_group c) ds

pub by_place_same : (clients replays : List Candidate) (sides : Sides) → AreSidesOf Group clients replays sides → (c : Candidate)
    → by_place sides.clients.items sides.replays.items c ≡ by_place clients replays c
by_place_same clients replays sides are c =
    λ i. cond (count_same sides.clients.items clients c (are.clients_same c) i == count_same sides.replays.items replays c (are.replays_same c) i)
    (counterpart_same Group clients replays sides are c i) None

-- ---- what the second pass leaves

pub clients_left_same : (clients replays : List Candidate) (sides : Sides) → AreSidesOf GroupAndPrint clients replays sides
    → filter (λ c. is_none (counterpart GroupAndPrint sides.clients.items sides.replays.items c)) clients ≡ clients_left clients replays
clients_left_same clients replays sides are =
    λ i. filter (λ c. is_none (counterpart_same GroupAndPrint clients replays sides are c i)) clients

pub replays_left_same : (clients replays : List Candidate) (sides : Sides) → AreSidesOf GroupAndPrint clients replays sides
    → without_paths replays (filter_map (counterpart GroupAndPrint sides.clients.items sides.replays.items) clients) ≡ replays_left clients replays
replays_left_same clients replays sides are =
    λ i. without_paths replays (filter_map (λ c. counterpart_same GroupAndPrint clients replays sides are c i) clients)

-- ---- the pairs

partner_same : (clients replays : List Candidate) (by_print by_group : Sides) → AreSidesOf GroupAndPrint clients replays by_print
    → AreSidesOf Group (clients_left clients replays) (replays_left clients replays) by_group → (c : Candidate) → partner_of by_print by_group c ≡ partner clients replays c
unfolding partner
partner_same clients replays by_print by_group prints groups c =
    λ i. option_or (counterpart_same GroupAndPrint clients replays by_print prints c i)
    (by_place_same (clients_left clients replays) (replays_left clients replays) by_group groups c i)

pub pairs_same : (clients replays : List Candidate) (by_print by_group : Sides) → AreSidesOf GroupAndPrint clients replays by_print
    → AreSidesOf Group (clients_left clients replays) (replays_left clients replays) by_group
    → filter_map (λ c. option_map (renamed c) (partner_of by_print by_group c)) clients ≡ pairs clients replays
pairs_same clients replays by_print by_group prints groups =
    λ i. filter_map (λ c. option_map (renamed c) (partner_same clients replays by_print by_group prints groups c i)) clients

-- ---- both sides

pub sides_are : (l : Likeness) (clients replays : List Candidate) (sides : Sides) → RisesBy path_of_candidate clients → AreSorted (class_of l) clients sides.clients.items
    → AreSorted (class_of l) replays sides.replays.items → AreSidesOf l clients replays sides
sides_are l clients replays sides up front back =
    let clients_same : (c : Candidate) → filter (is_alike l c) sides.clients.items ≡ filter (is_alike l c) clients =
    λ c. sym (alike_filter l c sides.clients.items) ∙ front.same c ∙ alike_filter l c clients
    in
    record {
      ready = record {
        clients = front.rises;
        replays = back.rises;
        paths = λ c. subst (RisesBy path_of_candidate) (sym (clients_same c)) (rises_filter path_of_candidate (is_alike l c) clients up);
      };
      clients_same = clients_same;
      replays_same = λ c. sym (alike_filter l c sides.replays.items) ∙ back.same c ∙ alike_filter l c replays;
    }

-- ---- paths among others

-- a list with an item is not empty
some_there : (n : ℕ) → true ≡ not (suc n == 0)
some_there n = sym (ap not (not_zero n))
  where
    not_zero : (k : ℕ) → (suc k == 0) ≡ false
    not_zero k = grind (arith, nat_tests)

pub any_of_filter : {X : Type 0} (p : X → Bool) (xs : List X) → list_any p xs ≡ not (length (filter p xs) == 0)
any_of_filter p [] = refl
any_of_filter p (x ∷ xs) = by (p x) (any_of_filter p xs)
  where
    by : (b : Bool) → list_any p xs ≡ not (length (filter p xs) == 0) → (b || list_any p xs) ≡ not (length (cond b (x ∷ filter p xs) (filter p xs)) == 0)
    by true more = some_there (length (filter p xs))
    by false more = more

pub without_same : (these others sorted : List Candidate) → AreSorted path_of_candidate others sorted → without_paths these sorted ≡ without_paths these others
without_same these others sorted are =
    filter_agree (λ c. not (list_any (has_path c.path) sorted)) (λ c. not (list_any (has_path c.path) others))
    (λ c. ap not (any_of_filter (has_path c.path) sorted ∙ ap (λ (ys : List Candidate). not (length ys == 0)) (are.same c) ∙ sym (any_of_filter (has_path c.path) others))) these

-- ---- places in groups

pub by_place_equal : (cs rs : List Candidate) (c : Candidate) → length (filter (is_alike Group c) cs) ≡ length (filter (is_alike Group c) rs)
    → counterpart Group cs rs c ≡ by_place cs rs c
by_place_equal cs rs c same =
    ap (λ b. cond b (counterpart Group cs rs c) None)
    (sym (eq_holds (count_by (is_same_group c) cs) (count_by (is_same_group c) rs)
    (sym (length-filter (is_same_group c) cs) ∙ same ∙ length-filter (is_same_group c) rs)))

pub by_place_other : (cs rs : List Candidate) (c : Candidate) → (length (filter (is_alike Group c) cs) ≡ length (filter (is_alike Group c) rs) → ⊥)
    → ◌≡◌ {A = Option Candidate} None (by_place cs rs c)
by_place_other cs rs c differ =
    ap (λ b. cond b (counterpart Group cs rs c) None)
    (sym (eq_fails (count_by (is_same_group c) cs) (count_by (is_same_group c) rs)
    (λ same. differ (length-filter (is_same_group c) cs ∙ same ∙ sym (length-filter (is_same_group c) rs)))))
