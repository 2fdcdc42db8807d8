-- Where a number lies in parts.
use Rattle.std.proofs.Common.{◌≡◌, ℕ, zero, suc, ◌+◌, ◌-◌, ◌*◌, ◌/◌, ◌%◌, ◌<◌, ◌≤◌, List, [], ◌∷◌, ◌++◌, length, get_or, take, set, inl, inr, arith, refl, sym, ap, ◌∙◌, subst}
use Rattle.std.specs.List.{concat}
use Rattle.std.proofs.lemmas.Bool.{cases_lt, cases_eq}
use Rattle.std.proofs.lemmas.List.{length-append, length-set, get_or-set_same, get_or-set_other, get_or_read}
use Rattle.std.proofs.lemmas.List.Concat.{get_or-flat_map, concat_is}
use Rattle.parted_list.specs.Parts.{AreParted, part_size}

-- the part of this index
abbrev pub part : List (List ℕ) → ℕ → List ℕ
part parts i = get_or parts i []

pub behind : (q : List ℕ) (parts : List (List ℕ)) → AreParted (q ∷ parts) → AreParted parts
behind q parts parted = record {
  full = λ i l. parted.full (suc i) (omega arith);
  some = λ i l. parted.some (suc i) (omega arith);
  fitting = λ i. parted.fitting (suc i);
}

-- a number is where halving its index by the size of a part leads
pub record IsAt (parts : List (List ℕ)) (a r : ℕ) : Type 0 where
  pub there : a < length parts
  pub within : r < length (part parts a)
  pub before : length (concat (take a parts)) ≡ part_size * a

pub located : (parts : List (List ℕ)) (a r : ℕ) → AreParted parts → r < part_size → part_size * a + r < length (concat parts) → IsAt parts a r
located [] a r parted small within = absurd (omega arith)
located (q ∷ parts) zero r parted small within = elim (cases_lt 0 (length parts)) [
  | inl more ↦
      let full : length q ≡ part_size = parted.full 0 (omega arith) in
      record { there = omega arith; within = omega arith; before = refl }
  | inr none ↦ by parts (omega arith) within
]
  where
    by : (rest : List (List ℕ)) → length rest ≡ 0 → part_size * 0 + r < length (concat (q ∷ rest)) → IsAt (q ∷ parts) zero r
    by [] empty less = record { there = omega arith; within = omega (arith, length-append q []); before = refl }
    by (p ∷ ps) empty less = absurd (omega arith)
located (q ∷ parts) (suc a) r parted small within =
    let fits : length q ≤ part_size = parted.fitting 0 in
    let both : length (concat (q ∷ parts)) ≡ length q + length (concat parts) = length-append q (concat parts) in
    let rest = located parts a r (behind q parts parted) small (omega arith) in
    let more : 0 < length parts = omega (arith, rest.there) in
    let full : length q ≡ part_size = parted.full 0 (omega arith) in
    record {
      there = omega (arith, rest.there);
      within = rest.within;
      before = length-append q (concat (take a parts)) ∙ omega (arith, rest.before);
    }

pub located_at : (parts : List (List ℕ)) (k : ℕ) → AreParted parts → k < length (concat parts) → IsAt parts (k / part_size) (k % part_size)
located_at parts k parted within = located parts (k / part_size) (k % part_size) parted (omega arith) (omega arith)

pub read_at : (parts : List (List ℕ)) (k : ℕ) → AreParted parts → k < length (concat parts) → get_or (part parts (k / part_size)) (k % part_size) 0 ≡ get_or (concat parts) k 0
read_at parts k parted within =
    let at = located_at parts k parted within in
    let found = get_or-flat_map (λ (q : List ℕ). q) parts (k / part_size) (k % part_size) [] 0 at.there at.within in
    let here : length (concat (take (k / part_size) parts)) + k % part_size ≡ k = omega (arith, at.before) in
    sym (rw (← concat_is parts, ← concat_is (take (k / part_size) parts), here) at found)

-- how many numbers there are
one_more : (a n l : ℕ) → a ≡ part_size → a + (n * part_size + l) ≡ suc n * part_size + l
one_more a n l full = omega arith

counted_behind : (q : List ℕ) (parts : List (List ℕ)) → AreParted (q ∷ parts) → length (concat (q ∷ parts)) ≡ length parts * part_size + length (part (q ∷ parts) (length parts))
counted_behind q [] parted = length-append q [] ∙ omega arith
counted_behind q (p ∷ ps) parted =
    length-append q (concat (p ∷ ps))
    ∙ ap (λ n. length q + n) (counted_behind p ps (behind q (p ∷ ps) parted))
    ∙ one_more (length q) (length ps) (length (part (p ∷ ps) (length ps))) (parted.full 0 (omega arith))

pub counted : (parts : List (List ℕ)) (i : ℕ) → AreParted parts → i + 1 ≡ length parts → length (concat parts) ≡ i * part_size + length (part parts i)
counted [] i parted last = absurd (omega arith)
counted (q ∷ parts) i parted last =
    let same : length parts ≡ i = omega arith in
    subst (λ n. length (concat (q ∷ parts)) ≡ n * part_size + length (part (q ∷ parts) n)) same (counted_behind q parts parted)

-- where numbers are, parts are
pub some_parts : (parts : List (List ℕ)) → 0 < length (concat parts) → 0 < length parts
some_parts [] some = some
some_parts (q ∷ parts) some = omega arith

-- what a read gives is the part
pub read_part : (parts : List (List ℕ)) (i : ℕ) (q : List ℕ) → i < length parts → q ≡ get_or parts i q → q ≡ part parts i
read_part parts i q there read = get_or_read parts i q there read []

pub read_number : (parts : List (List ℕ)) (k : ℕ) (q : List ℕ) → AreParted parts → k < length (concat parts) → q ≡ get_or parts (k / part_size) q → (k % part_size < length q) × (get_or q (k % part_size) 0 ≡ get_or (concat parts) k 0)
read_number parts k q parted within read =
    let at = located_at parts k parted within in
    let is = read_part parts (k / part_size) q at.there read in
    (rw is at.within, rw is (read_at parts k parted within))

-- ---- parts of the same lengths

pub kept_parted : (parts : List (List ℕ)) (i : ℕ) (q : List ℕ) → AreParted parts → i < length parts → length q ≡ length (part parts i) → AreParted (set parts i q)
kept_parted parts i q parted there same = record {
  full = λ j l. size j ∙ parted.full j (omega (arith, length-set parts i q));
  some = λ j l. rw (size j) (parted.some j (omega (arith, length-set parts i q)));
  fitting = λ j. rw (size j) (parted.fitting j);
}
  where
    size : (j : ℕ) → length (part (set parts i q) j) ≡ length (part parts j)
    size j = elim (cases_eq j i) [
      | inl here ↦ rw here (ap length (get_or-set_same parts i q [] there) ∙ same)
      | inr other ↦ ap length (get_or-set_other parts i j q [] other)
    ]

-- ---- the last part

pub last_parted : (parts : List (List ℕ)) (i : ℕ) (q : List ℕ) → AreParted parts → i + 1 ≡ length parts → 0 < length q → length q ≤ part_size → AreParted (set parts i q)
last_parted parts i q parted last some fits = record {
  full = λ j l. ap length (get_or-set_other parts i j q [] (λ z. absurd (omega (arith, length-set parts i q)))) ∙ parted.full j (omega (arith, length-set parts i q));
  some = λ j l. elim (cases_eq j i) [
    | inl here ↦ rw (here, get_or-set_same parts i q [] (omega arith)) some
    | inr other ↦ rw (get_or-set_other parts i j q [] other) (parted.some j (omega (arith, length-set parts i q)))
  ];
  fitting = λ j. elim (cases_eq j i) [
    | inl here ↦ rw (here, get_or-set_same parts i q [] (omega arith)) fits
    | inr other ↦ rw (get_or-set_other parts i j q [] other) (parted.fitting j)
  ];
}
