-- A number is carried from part to part.
use Rattle.std.proofs.Common.{◌≡◌, ℕ, suc, ◌+◌, ◌-◌, ◌*◌, ◌/◌, ◌%◌, ◌<◌, ◌≤◌, List, [], ◌∷◌, ◌++◌, length, get_or, take, drop, set, arith, refl, sym, ap, ◌∙◌}
use Rattle.std.specs.List.{concat, insert, remove}
use Rattle.std.proofs.lemmas.List.{append_assoc, append-nil, drop_more, take_more, take_more_set, take-set, drop-set, drop-set-lt, take_all, drop_all, length-append, same_from_push, take-append-drop, length_push}
use Rattle.std.proofs.lemmas.List.Folds.{concat-append}
use Rattle.std.proofs.lemmas.List.Edits.{insert-append_left, insert-append_right, remove-append_left, remove-append_right, length-remove, length-insert}
use Rattle.parted_list.specs.Parts.{part_size}
use Rattle.parted_list.proofs.Places.{part, IsAt}

-- the numbers, and one between those of the first parts and those of the others
abbrev pub between_parts : List (List ℕ) → ℕ → ℕ → List ℕ
between_parts parts i x = concat (take i parts) ++ x ∷ concat (drop i parts)

-- the parts before one, that one, and the others
pub three : (parts : List (List ℕ)) (i : ℕ) → i < length parts → concat parts ≡ concat (take i parts) ++ (part parts i ++ concat (drop (i + 1) parts))
three parts i there =
    ap concat (sym (take-append-drop i parts))
    ∙ concat-append (take i parts) (drop i parts)
    ∙ ap (λ rest. concat (take i parts) ++ concat rest) (drop_more parts i [] there)

-- the parts up to one
pub up_to : (parts : List (List ℕ)) (i : ℕ) → i < length parts → concat (take (i + 1) parts) ≡ concat (take i parts) ++ part parts i
up_to parts i there =
    ap concat (take_more parts i [] there)
    ∙ concat-append (take i parts) (part parts i ∷ [])
    ∙ ap (λ q. concat (take i parts) ++ q) (append-nil (part parts i))

pub up_to_set : (parts : List (List ℕ)) (i : ℕ) (q : List ℕ) → i < length parts → concat (take (i + 1) (set parts i q)) ≡ concat (take i parts) ++ q
up_to_set parts i q there =
    ap concat (take_more_set parts i q there)
    ∙ concat-append (take i parts) (q ∷ [])
    ∙ ap (λ p. concat (take i parts) ++ p) (append-nil q)

pub rest_set : (parts : List (List ℕ)) (i : ℕ) (q : List ℕ) → drop (i + 1) (set parts i q) ≡ drop (i + 1) parts
rest_set parts i q = drop-set-lt (i + 1) parts i q (omega arith)

pub three_set : (parts : List (List ℕ)) (i : ℕ) (q : List ℕ) → i < length parts → concat (set parts i q) ≡ concat (take i parts) ++ (q ++ concat (drop (i + 1) parts))
three_set parts i q there =
    ap concat (sym (take-append-drop i (set parts i q)))
    ∙ concat-append (take i (set parts i q)) (drop i (set parts i q))
    ∙ rw (take-set parts i q, drop-set parts i q there) refl

-- ---- behind a number that is put in

pub carried_on : (parts : List (List ℕ)) (i : ℕ) (q : List ℕ) (x y : ℕ) → i < length parts → q ++ y ∷ [] ≡ x ∷ part parts i → between_parts (set parts i q) (i + 1) y ≡ between_parts parts i x
carried_on parts i q x y there moved =
    let rest : List ℕ = concat (drop (i + 1) parts) in
    rw (up_to_set parts i q there, rest_set parts i q, drop_more parts i [] there) (
    append_assoc (concat (take i parts)) q (y ∷ rest)
    ∙ ap (λ s. concat (take i parts) ++ s) (sym (append_assoc q (y ∷ []) rest) ∙ ap (λ s. s ++ rest) moved)
    )

pub put_in : (parts : List (List ℕ)) (k : ℕ) (q : List ℕ) (x y : ℕ) → IsAt parts (k / part_size) (k % part_size) → q ++ y ∷ [] ≡ insert (part parts (k / part_size)) (k % part_size) x → between_parts (set parts (k / part_size) q) (k / part_size + 1) y ≡ insert (concat parts) k x
put_in parts k q x y at moved =
    let a : ℕ = k / part_size in
    let r : ℕ = k % part_size in
    let front : List ℕ = concat (take a parts) in
    let rest : List ℕ = concat (drop (a + 1) parts) in
    let there : a < length parts = at.there in
    let inside : r ≤ length (part parts a) = omega (arith, at.within) in
    let behind : k - part_size * a ≡ r = omega arith in
    rw (up_to_set parts a q there, rest_set parts a q, three parts a there) (
    append_assoc front q (y ∷ rest)
    ∙ ap (λ s. front ++ s) (sym (append_assoc q (y ∷ []) rest) ∙ ap (λ s. s ++ rest) moved ∙ sym (insert-append_left (part parts a) rest r x inside))
    ∙ sym (insert-append_right front (part parts a ++ rest) (part_size * a) k x at.before (omega arith) ∙ ap (λ i. front ++ insert (part parts a ++ rest) i x) behind)
    )

pub all_carried : (parts : List (List ℕ)) (i x : ℕ) → length parts ≤ i → between_parts parts i x ≡ concat parts ++ x ∷ []
all_carried parts i x all = rw (take_all i parts all, drop_all i parts all) refl

-- ---- behind a number that is taken out

pub carried_back : (parts : List (List ℕ)) (i : ℕ) (q : List ℕ) (x y : ℕ) → i < length parts → y ∷ q ≡ part parts i ++ x ∷ [] → between_parts (set parts i q) i y ≡ between_parts parts (i + 1) x
carried_back parts i q x y there moved =
    let rest : List ℕ = concat (drop (i + 1) parts) in
    rw (take-set parts i q, drop-set parts i q there, up_to parts i there) (
    ap (λ s. concat (take i parts) ++ (s ++ rest)) moved
    ∙ ap (λ s. concat (take i parts) ++ s) (append_assoc (part parts i) (x ∷ []) rest)
    ∙ sym (append_assoc (concat (take i parts)) (part parts i) (x ∷ rest))
    )

pub taken_out : (parts : List (List ℕ)) (k : ℕ) (x : ℕ) → IsAt parts (k / part_size) (k % part_size) → concat (set parts (k / part_size) (remove (part parts (k / part_size)) (k % part_size) ++ x ∷ [])) ≡ remove (between_parts parts (k / part_size + 1) x) k
taken_out parts k x at =
    let a : ℕ = k / part_size in
    let r : ℕ = k % part_size in
    let front : List ℕ = concat (take a parts) in
    let rest : List ℕ = concat (drop (a + 1) parts) in
    let there : a < length parts = at.there in
    let behind : k - part_size * a ≡ r = omega arith in
    rw (three_set parts a (remove (part parts a) r ++ x ∷ []) there, up_to parts a there, append_assoc front (part parts a) (x ∷ rest)) (
    ap (λ s. front ++ s) (append_assoc (remove (part parts a) r) (x ∷ []) rest ∙ sym (remove-append_left (part parts a) (x ∷ rest) r at.within))
    ∙ sym (remove-append_right front (part parts a ++ x ∷ rest) (part_size * a) k at.before (omega arith) ∙ ap (λ i. front ++ remove (part parts a ++ x ∷ rest) i) behind)
    )

-- the first of a part comes before what is left of it
pub first_pulled : (q : List ℕ) (x : ℕ) → 0 < length q → get_or q 0 0 ∷ (remove q 0 ++ x ∷ []) ≡ q ++ x ∷ []
first_pulled [] x some = absurd (omega arith)
first_pulled (z ∷ q) x some = refl

-- ---- the same lengths

pub pushed_size : (q p : List ℕ) (i x y : ℕ) → i ≤ length p → q ++ y ∷ [] ≡ insert p i x → length q ≡ length p
pushed_size q p i x y within moved = omega (arith, length_push q y, length-insert p i x within, ap length moved)

pub pulled_size : (p : List ℕ) (i x : ℕ) → i < length p → length (remove p i ++ x ∷ []) ≡ length p
pulled_size p i x within = omega (arith, length_push (remove p i) x, length-remove p i within)

-- ---- the lists around

pub between_length : (parts : List (List ℕ)) (i x : ℕ) → length (between_parts parts i x) ≡ length (concat parts) + 1
between_length parts i x =
    let whole : length (concat (take i parts)) + length (concat (drop i parts)) ≡ length (concat parts) = sym (length-append (concat (take i parts)) (concat (drop i parts))) ∙ ap length (sym (concat-append (take i parts) (drop i parts)) ∙ ap concat (take-append-drop i parts)) in
    length-append (concat (take i parts)) (x ∷ concat (drop i parts)) ∙ omega (arith, whole)

-- a number put in before one that leaves
pub inserted : (old new : List ℕ) (k x y z : ℕ) → k ≤ length old → new ++ y ∷ [] ≡ insert (old ++ z ∷ []) k x → new ≡ insert old k x
inserted old new k x y z within is = (same_from_push new (insert old k x) y z (is ∙ insert-append_left old (z ∷ []) k x within)).0

pub added_last : (parts : List (List ℕ)) (i : ℕ) (x : ℕ) → i + 1 ≡ length parts → concat (set parts i (part parts i ++ x ∷ [])) ≡ concat parts ++ x ∷ []
added_last parts i x last =
    let there : i < length parts = omega arith in
    rw (three_set parts i (part parts i ++ x ∷ []) there, three parts i there, drop_all (i + 1) parts (omega arith), append-nil (part parts i ++ x ∷ []), append-nil (part parts i)) (sym (append_assoc (concat (take i parts)) (part parts i) (x ∷ [])))

pub added_part : (parts : List (List ℕ)) (x : ℕ) → concat (parts ++ (x ∷ []) ∷ []) ≡ concat parts ++ x ∷ []
added_part parts x = concat-append parts ((x ∷ []) ∷ [])

take_front : (s q : List ℕ) (m : ℕ) → take (length s + m) (s ++ q) ≡ s ++ take m q
take_front [] q m = ap (λ n. take n q) (omega arith)
take_front (x ∷ s) q m =
    let longer : length (x ∷ s) + m ≡ suc (length s + m) = omega arith in
    rw longer (ap (λ t. x ∷ t) (take_front s q m))

take_behind : (s q : List ℕ) → 0 < length q → take (length (s ++ q) - 1) (s ++ q) ≡ s ++ take (length q - 1) q
take_behind s q some =
    let size : length (s ++ q) - 1 ≡ length s + (length q - 1) = omega (arith, length-append s q) in
    ap (λ n. take n (s ++ q)) size ∙ take_front s q (length q - 1)

last_of : (parts : List (List ℕ)) (i : ℕ) → i + 1 ≡ length parts → concat parts ≡ concat (take i parts) ++ part parts i
last_of parts i last = three parts i (omega arith) ∙ rw (drop_all (i + 1) parts (omega arith)) (ap (λ q. concat (take i parts) ++ q) (append-nil (part parts i)))

pub gone_last : (parts : List (List ℕ)) (i : ℕ) → i + 1 ≡ length parts → 0 < length (part parts i) → concat (set parts i (take (length (part parts i) - 1) (part parts i))) ≡ take (length (concat parts) - 1) (concat parts)
gone_last parts i last some =
    let q : List ℕ = part parts i in
    rw (three_set parts i (take (length q - 1) q) (omega arith), drop_all (i + 1) parts (omega arith), append-nil (take (length q - 1) q), last_of parts i last) (sym (take_behind (concat (take i parts)) q some))

pub gone_part : (parts : List (List ℕ)) (i : ℕ) → i + 1 ≡ length parts → length (part parts i) ≡ 1 → concat (take i parts) ≡ take (length (concat parts) - 1) (concat parts)
gone_part parts i last one =
    let q : List ℕ = part parts i in
    rw (last_of parts i last, take_behind (concat (take i parts)) q (omega arith), one) (sym (append-nil (concat (take i parts))))
