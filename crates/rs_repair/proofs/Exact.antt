-- Where a block has a repair, the errors found at the roots of the locator are the differences from it.
use Rattle.std.proofs.Common.{◌≡◌, ◌≢◌, ℕ, suc, ◌+◌, ◌-◌, ◌*◌, ◌<◌, ◌≤◌, ◌^◌, ⊎_elim, List, ◌++◌, length, get_or, take, drop, map, refl, sym, ap, ◌∙◌, subst, arith, lit<}
use Rattle.std.proofs.lemmas.Bool.{cases_eq, cases_lt}
use Rattle.std.proofs.lemmas.List.{length-append, length-map, length-take, length-drop, get_or-map, get_or-take, get_or-drop, get_or_append_left, get_or-append_right, get_or_past}
use Rattle.std.specs.Int.Bits.{bit_xor, xor_self, xor_zero_r, xor_assoc}
use Rattle.gf_65536.specs.Field.{gf_mul, gf_pow}
use Rattle.gf_65536.proofs.Powers.{pow_below, powers_apart}
use Rattle.gf_65536.proofs.Inverse.{same_from_xor, no_zero_divisors}
use Rattle.rs_parity.specs.CodeWord.{symbols, sum_at, IsCodeWord}
use Rattle.rs_parity.specs.Weight.{weight, HasElements}
use Rattle.rs_parity.proofs.Sums.{sum-append, sum-zip, zip_sum, length-zip, get_or-zip}
use Rattle.rs_parity.proofs.Symbols.{length-symbols}
use Rattle.rs_parity.proofs.Distance.{weight-zip, weightless, sum_weightless, elements-zip, power_not_zero}
use Rattle.byte_fields.specs.Codec.{IsBytes}
use Rattle.rs_repair.specs.Inside.{IsRepair, pairing, IsMonicRow, value, AreSums, AreRoots, gap, error_of, without, IsErrorAt, AnnihilatesAll}
use Rattle.rs_repair.proofs.Unique.{differing-append, symbols_elements, elements-append}
use Rattle.rs_repair.proofs.Pairings.{annihilated_pairing, pairing-take}
use Rattle.rs_repair.proofs.Locate.{locate, annihilated, scaled, get_or-scaled, sum-scaled}
use Rattle.rs_repair.proofs.Roots.{value_below, few_roots, row_monic, value-take, take_elements, distinct_from}
use Rattle.rs_repair.proofs.Values.{symbol_from_sums, gap_not_zero, gap_below}

-- the place of an item in the list without another
without_at : (xs : List ℕ) (i k : ℕ) → k < length xs → i < length xs → k ≢ i → (m : ℕ) × (m < length (without xs i)) × (get_or (without xs i) m 0 ≡ get_or xs k 0)
without_at xs i k hk hi ne = ⊎_elim
    (λ l. (k, omega (arith, size), get_or_append_left (take i xs) (drop (i + 1) xs) 0 k (omega (arith, length-take i xs)) ∙ get_or-take i xs k 0 l))
    (λ past.
    let back : i + 1 + (k - 1 - i) ≡ k = omega arith in (
      k - 1,
      omega (arith, size),
      get_or-append_right (take i xs) (drop (i + 1) xs) i (k - 1) 0 (length-take i xs ∙ omega arith) (omega arith) ∙ get_or-drop (i + 1) xs (k - 1 - i) 0 ∙ ap (λ n. get_or xs n 0) back,
    ))
    (cases_lt k i)
  where
    size : length (take i xs ++ drop (i + 1) xs) + 1 ≡ length xs
    size = omega (arith, length-append (take i xs) (drop (i + 1) xs), length-take i xs, length-drop (i + 1) xs)

-- each item of the list without another stands in the list
from_without : (xs : List ℕ) (i m : ℕ) → i < length xs → m < length (without xs i) → (k : ℕ) × (k < length xs) × (k ≢ i) × (get_or (without xs i) m 0 ≡ get_or xs k 0)
from_without xs i m hi hm = ⊎_elim
    (λ l. (m, omega arith, λ e. absurd (omega arith), get_or_append_left (take i xs) (drop (i + 1) xs) 0 m (omega (arith, length-take i xs)) ∙ get_or-take i xs m 0 l))
    (λ past.
    let next : i + 1 + (m - i) ≡ m + 1 = omega arith in (
      m + 1,
      omega (arith, size),
      λ e. absurd (omega arith),
      get_or-append_right (take i xs) (drop (i + 1) xs) i m 0 (length-take i xs ∙ omega arith) past ∙ get_or-drop (i + 1) xs (m - i) 0 ∙ ap (λ n. get_or xs n 0) next,
    ))
    (cases_lt m i)
  where
    size : length (take i xs ++ drop (i + 1) xs) + 1 ≡ length xs
    size = omega (arith, length-append (take i xs) (drop (i + 1) xs), length-take i xs, length-drop (i + 1) xs)

length-without : (xs : List ℕ) (i : ℕ) → i < length xs → length (without xs i) + 1 ≡ length xs
length-without xs i h = omega (arith, length-append (take i xs) (drop (i + 1) xs), length-take i xs, length-drop (i + 1) xs)

-- the sums of a block with a parity are those of the parity's difference from the block's own
pub block_sums : (word given parity : List ℕ) (j : ℕ) → length given ≡ length parity → sum_at j (word ++ given) ≡ 0 → sum_at j (word ++ parity) ≡ sum_at j (zip_sum given parity)
block_sums word given parity j size none =
    let head = gf_mul (sum_at j word) (gf_pow 2 (j * length given)) in
    let same : head ≡ sum_at j given = same_from_xor head (sum_at j given) (sym (sum-append j word given) ∙ none) in
    sum-append j word parity ∙ ap (λ n. bit_xor (gf_mul (sum_at j word) (gf_pow 2 (j * n))) (sum_at j parity)) (sym size)
    ∙ ap (λ z. bit_xor z (sum_at j parity)) same ∙ sym (sum-zip j given parity size)

module _ (block parity given x sums row : List ℕ) (degree : ℕ)
    (short : length block ≤ 131006) (block_bytes : IsBytes block) (x_bytes : IsBytes x)
    (parity_size : length parity ≡ 32) (given_size : length given ≡ 32) (parity_elements : HasElements parity)
    (own : IsCodeWord (symbols block ++ given)) (repair : IsRepair block parity x)
    (are_sums : AreSums (zip_sum given parity) sums) (degree_small : degree < 17) (monic : IsMonicRow degree row)
    (annihilates : (e : ℕ) → e < 16 → pairing row (drop e sums) ≡ 0) where
  long : length (symbols block) ≡ length (symbols x)
  long = omega (arith, length-symbols block, length-symbols x, repair.size)

  word : List ℕ
  word = zip_sum (symbols block ++ parity) (symbols x ++ parity)

  total : length (symbols block ++ parity) ≡ length (symbols x ++ parity)
  total = omega (arith, length-append (symbols block) parity, length-append (symbols x) parity, long)

  size : length (zip_sum (symbols block ++ parity) (symbols x ++ parity)) ≡ length (symbols block) + 32
  size = length-zip (symbols block ++ parity) (symbols x ++ parity) total ∙ length-append (symbols block) parity ∙ omega arith

  fits : length (symbols block) + 32 ≤ 65535
  fits = omega (arith, length-symbols block)

  elements : HasElements (zip_sum (symbols block ++ parity) (symbols x ++ parity))
  elements = elements-zip (symbols block ++ parity) (symbols x ++ parity) total (elements-append (symbols block) parity (symbols_elements block block_bytes) parity_elements) (elements-append (symbols x) parity (symbols_elements x x_bytes) parity_elements)

  light : weight (zip_sum (symbols block ++ parity) (symbols x ++ parity)) ≤ 16
  light = omega (arith, weight-zip (symbols block ++ parity) (symbols x ++ parity) total, differing-append (symbols block) (symbols x) parity long, repair.near)

  word_sum : (j : ℕ) → 1 ≤ j → j ≤ 32 → sum_at j (zip_sum given parity) ≡ sum_at j (zip_sum (symbols block ++ parity) (symbols x ++ parity))
  word_sum j from to =
      sym (sum-zip j (symbols block ++ parity) (symbols x ++ parity) total ∙ ap (bit_xor (sum_at j (symbols block ++ parity))) (repair.has_parity.code_word.vanishes j from to) ∙ xor_zero_r (sum_at j (symbols block ++ parity))
      ∙ block_sums (symbols block) given parity j (given_size ∙ sym parity_size) (own.vanishes j from to))

  sums_are : (i : ℕ) → i < length sums → get_or sums i 0 ≡ sum_at (suc i) (zip_sum (symbols block ++ parity) (symbols x ++ parity))
  sums_are i h = are_sums.each i (omega (arith, are_sums.size)) ∙ word_sum (suc i) (omega arith) (omega (arith, are_sums.size))

  at_parity : (s : ℕ) → length (symbols block) ≤ s → get_or (zip_sum (symbols block ++ parity) (symbols x ++ parity)) s 0 ≡ 0
  at_parity s past =
      get_or-zip (symbols block ++ parity) (symbols x ++ parity) s total
      ∙ (λ i. bit_xor (get_or-append_right (symbols block) parity (length (symbols block)) s 0 refl past i) (get_or-append_right (symbols x) parity (length (symbols block)) s 0 (sym long) past i))
      ∙ xor_self (get_or parity (s - length (symbols block)) 0)

  at_data : (s : ℕ) → s < length (symbols block) → get_or (zip_sum (symbols block ++ parity) (symbols x ++ parity)) s 0 ≡ bit_xor (get_or (symbols block) s 0) (get_or (symbols x) s 0)
  at_data s h =
      get_or-zip (symbols block ++ parity) (symbols x ++ parity) s total
      ∙ (λ i. bit_xor (get_or_append_left (symbols block) parity 0 s h i) (get_or_append_left (symbols x) parity 0 s (omega (arith, long)) i))

  -- the locator's multiple of the error word is nothing
  nothing : weight (scaled row (zip_sum (symbols block ++ parity) (symbols x ++ parity))) ≡ 0
  nothing = locate row (zip_sum (symbols block ++ parity) (symbols x ++ parity)) 16 elements (omega (arith, size, fits)) light
      (λ j from to. ap (λ n. annihilated row n (zip_sum (symbols block ++ parity) (symbols x ++ parity))) (next j from) ∙ annihilated_pairing row sums _ (j - 1) (omega (arith, monic.size, are_sums.size)) sums_are ∙ annihilates (j - 1) (omega arith))
    where
      next : (j : ℕ) → 1 ≤ j → j ≡ suc (j - 1)
      next j from = omega arith

  -- so it annihilates the later sums, too
  pub later : AnnihilatesAll row degree sums
  later e within =
      sym (pairing-take degree row (drop e sums) monic.above) ∙ sym (annihilated_pairing front sums (zip_sum (symbols block ++ parity) (symbols x ++ parity)) e (omega (arith, length-take (suc degree) row, are_sums.size)) sums_are)
      ∙ sym (sum-scaled front (suc e) (zip_sum (symbols block ++ parity) (symbols x ++ parity))) ∙ sum_weightless (suc e) (scaled front (zip_sum (symbols block ++ parity) (symbols x ++ parity))) none
    where
      front : List ℕ
      front = take (suc degree) row

      next : (j : ℕ) → 1 ≤ j → j ≡ suc (j - 1)
      next j from = omega arith

      none : weight (scaled (take (suc degree) row) (zip_sum (symbols block ++ parity) (symbols x ++ parity))) ≡ 0
      none = locate (take (suc degree) row) (zip_sum (symbols block ++ parity) (symbols x ++ parity)) 16 elements (omega (arith, size, fits)) light
          (λ j from to. ap (λ n. annihilated (take (suc degree) row) n (zip_sum (symbols block ++ parity) (symbols x ++ parity))) (next j from) ∙ annihilated_pairing (take (suc degree) row) sums _ (j - 1) (omega (arith, length-take (suc degree) row, are_sums.size)) sums_are
          ∙ pairing-take degree row (drop (j - 1) sums) monic.above ∙ annihilates (j - 1) (omega arith))

  some_place : (s : ℕ) → get_or (zip_sum (symbols block ++ parity) (symbols x ++ parity)) s 0 ≢ 0 → s < length (symbols block)
  some_place s some = ⊎_elim (λ l. l) (λ past. absurd (some (at_parity s past))) (cases_lt s (length (symbols block)))

  module _ (exponents powers : List ℕ) (roots : AreRoots row (length (symbols block) + 32) exponents) (are_powers : powers ≡ map (λ e. gf_pow 2 e) exponents) where
    row_elements : HasElements row
    row_elements = roots.coefficients

    -- the locator vanishes at each place with an error, so that its exponent is among the roots
    root_at : (s : ℕ) → get_or (zip_sum (symbols block ++ parity) (symbols x ++ parity)) s 0 ≢ 0 → s < length (symbols block)
        → (i : ℕ) × (i < length exponents) × (get_or exponents i 0 ≡ length (symbols block) + 32 - 1 - s)
    root_at s some h = roots.complete (length (symbols block) + 32 - 1 - s) (omega arith) (omega arith)
        (no_zero_divisors (get_or (zip_sum (symbols block ++ parity) (symbols x ++ parity)) s 0) (value row (gf_pow 2 (length (symbols block) + 32 - 1 - s))) (elements s) (value_below row (gf_pow 2 (length (symbols block) + 32 - 1 - s)) row_elements) some
        (ap (λ n. gf_mul (get_or (zip_sum (symbols block ++ parity) (symbols x ++ parity)) s 0) (value row (gf_pow 2 (n - 1 - s)))) (sym size)
        ∙ sym (get_or-scaled row (zip_sum (symbols block ++ parity) (symbols x ++ parity)) s (omega (arith, size)))
        ∙ weightless (scaled row (zip_sum (symbols block ++ parity) (symbols x ++ parity)))
        nothing s))

    powers_size : length powers ≡ length exponents
    powers_size = ap length are_powers ∙ length-map exponents (λ e. gf_pow 2 e)

    power_at : (i : ℕ) → i < length exponents → get_or powers i 0 ≡ gf_pow 2 (get_or exponents i 0)
    power_at i h = ap (λ ps. get_or ps i 0) are_powers ∙ get_or-map (λ e. gf_pow 2 e) exponents i 0 0 h

    power_elements : HasElements powers
    power_elements i = ⊎_elim (λ l. let e = sym (power_at i l) in subst (λ v. v < 2 ^ 16) e (pow_below 2 (get_or exponents i 0)))
        (λ past. let e : 0 ≡ get_or powers i 0 = sym (get_or_past powers i 0 (omega (arith, powers_size))) in subst (λ v. v < 2 ^ 16) e (lit< tt)) (cases_lt i (length exponents))

    exponents_apart : (i j : ℕ) → i < length exponents → j < length exponents → i ≢ j → get_or powers i 0 ≢ get_or powers j 0
    exponents_apart i j hi hj ne e =
        let same = powers_apart (get_or exponents i 0) (get_or exponents j 0) (omega (arith, (roots.each i hi).0, fits)) (omega (arith, (roots.each j hj).0, fits)) (sym (power_at i hi) ∙ e ∙ power_at j hj) in
        ⊎_elim (λ l. absurd (omega (arith, roots.ordered i j l hj, same))) (λ past. absurd (omega (arith, roots.ordered j i (omega arith) hi, same))) (cases_lt i j)

    few : length powers ≤ 16
    few =
        let fewer = few_roots powers (take (suc degree) row) (row_monic degree row (omega (arith, monic.size)) monic.top) (take_elements (suc degree) row row_elements)
        (distinct_from powers (λ i j l h. exponents_apart j i (omega (arith, powers_size)) (omega (arith, powers_size)) (λ e. absurd (omega arith)))) power_elements
        (λ k h. value-take degree row (get_or powers k 0) monic.above ∙ ap (value row) (power_at k (omega (arith, powers_size))) ∙ (roots.each k (omega (arith, powers_size))).1) in
        omega (arith, fewer, length-take (suc degree) row)

    drop_elements : (n : ℕ) → HasElements (drop n powers)
    drop_elements n k = let e = sym (get_or-drop n powers k 0) in subst (λ v. v < 2 ^ 16) e (power_elements (n + k))

    -- the error computed at the power of a place
    value_is : (s i : ℕ) → s < length (symbols block) → i < length exponents → get_or exponents i 0 ≡ length (symbols block) + 31 - s
        → error_of sums (get_or powers i 0) (without powers i) ≡ get_or (zip_sum (symbols block ++ parity) (symbols x ++ parity)) s 0
    value_is s i h hi exponent_is =
        ap (λ p. error_of sums p (without powers i)) here
        ∙ symbol_from_sums (without powers i) (zip_sum (symbols block ++ parity) (symbols x ++ parity)) (λ k. get_or sums k 0) s elements (omega (arith, size))
        (λ k hk. sums_are k (omega (arith, few, are_sums.size, length-without powers i (omega (arith, powers_size))))) known apart
      where
        power : ℕ
        power = gf_pow 2 (length (zip_sum (symbols block ++ parity) (symbols x ++ parity)) - 1 - s)

        place : get_or exponents i 0 ≡ length (zip_sum (symbols block ++ parity) (symbols x ++ parity)) - 1 - s
        place = omega (arith, exponent_is, size)

        here : get_or powers i 0 ≡ gf_pow 2 (length (zip_sum (symbols block ++ parity) (symbols x ++ parity)) - 1 - s)
        here = power_at i hi ∙ ap (gf_pow 2) place

        known : (t : ℕ) → t < length (zip_sum (symbols block ++ parity) (symbols x ++ parity)) → t ≢ s → get_or (zip_sum (symbols block ++ parity) (symbols x ++ parity)) t 0 ≢ 0
            → (m : ℕ) × (m < length (without powers i)) × (get_or (without powers i) m 0 ≡ gf_pow 2 (length (zip_sum (symbols block ++ parity) (symbols x ++ parity)) - 1 - t))
        known t ht ne some =
            let inside = some_place t some in
            let root = root_at t some inside in
            let other = λ (e : root.0 ≡ i). ne (omega (arith, root.2, exponent_is, ap (λ k. get_or exponents k 0) e)) in
            let at = without_at powers i root.0 (omega (arith, root.1, powers_size)) (omega (arith, powers_size)) other in
            let exponent : get_or exponents root.0 0 ≡ length (zip_sum (symbols block ++ parity) (symbols x ++ parity)) - 1 - t = omega (arith, root.2, size) in
            (at.0, at.1, at.2 ∙ power_at root.0 root.1 ∙ ap (gf_pow 2) exponent)

        apart : gf_mul power (gap power (without powers i)) ≢ 0
        apart z =
            gap_not_zero power (without powers i) (pow_below 2 _) (elements-append (take i powers) (drop (i + 1) powers) (take_elements i powers power_elements) (drop_elements (i + 1)))
            (λ m hm e. let k = from_without powers i m (omega (arith, powers_size)) hm in
            exponents_apart k.0 i (omega (arith, k.1, powers_size)) hi k.2 (sym k.3 ∙ e ∙ sym here))
            (no_zero_divisors power (gap power (without powers i)) (pow_below 2 _) (gap_below power (without powers i)) (power_not_zero _) z)

    -- the error found at a place is the block's difference from its repair
    pub error_is : (s error : ℕ) → s < length (symbols block) → IsErrorAt sums exponents powers (length (symbols block) + 31 - s) error → error ≡ bit_xor (get_or (symbols block) s 0) (get_or (symbols x) s 0)
    error_is s error h found = ⊎_elim
        (λ hit. hit.3 ∙ value_is s hit.0 h hit.1 hit.2 ∙ at_data s h)
        (λ miss. miss.1 ∙ sym (⊎_elim (λ z. z) (λ some. let root = root_at s some h in absurd (miss.0 root.0 root.1 (root.2 ∙ omega arith))) (cases_eq (get_or (zip_sum (symbols block ++ parity) (symbols x ++ parity)) s 0) 0)) ∙ at_data s h)
        found

    -- the block's symbol plus the error is the repair's
    pub corrected_is : (s error : ℕ) → s < length (symbols block) → IsErrorAt sums exponents powers (length (symbols block) + 31 - s) error → bit_xor (get_or (symbols block) s 0) error ≡ get_or (symbols x) s 0
    corrected_is s error h found =
        ap (bit_xor (get_or (symbols block) s 0)) (error_is s error h found) ∙ sym (xor_assoc (get_or (symbols block) s 0) (get_or (symbols block) s 0) (get_or (symbols x) s 0))
        ∙ ap (λ z. bit_xor z (get_or (symbols x) s 0)) (xor_self (get_or (symbols block) s 0))
