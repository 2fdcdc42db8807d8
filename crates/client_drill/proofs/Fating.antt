-- The fates of a drill.
use Rattle.std.proofs.Common.{◌≡◌, ◌⊎◌, inl, inr, ℕ, zero, suc, ◌+◌, ◌-◌, ◌*◌, ◌%◌, ◌==◌, ◌<◌, ◌≤◌, Bool, true, false, List, [], ◌∷◌, ◌++◌, refl, sym, ◌∙◌, ap, arith, append_assoc}
use Rattle.std.specs.Prelude.{if◌then◌else◌}
use Rattle.std.specs.List.{AllByRecursion}
use Rattle.byte_fields.proofs.Facts.{eq_holds}
use Rattle.world_rules.specs.declared.asking.Ask.{Ask}
use Rattle.mem_wires.specs.declared.fate.Fate.{Fate}
use Rattle.mem_wires.specs.declared.fate.Fate.TheVariants.{Pass, LoseRequest, LoseReply, Twice}
use Rattle.mem_net.specs.Handed.{IsPlain, lets_pass, OnePasses, FourPass, last_failures}
use Rattle.mem_net.proofs.Ruling.{few_lose}
use Rattle.client_drill.specs.Drill.{next, number_at, fate_by, fate_at, fates_from, drill_fates}
use Rattle.client_drill.specs.Laws.{DrillsBeginByRule}

plain_by : (a b c : Bool) → IsPlain (if a then LoseRequest else if b then LoseReply else if c then Twice else Pass)
plain_by true b c = tt
plain_by false true c = tt
plain_by false false true = tt
plain_by false false false = tt

plain_or : (a : Bool) (fate : Fate) → IsPlain fate → IsPlain (if a then Pass else fate)
plain_or true fate plain = tt
plain_or false fate plain = plain

-- one of four numbers in a row leaves three
one_of_four : (k : ℕ) → (k % 4 ≡ 3) ⊎ (suc k % 4 ≡ 3) ⊎ (suc (suc k) % 4 ≡ 3) ⊎ (suc (suc (suc k)) % 4 ≡ 3)
one_of_four k = by (k % 4) refl
  where
    by : (left : ℕ) → k % 4 ≡ left → (k % 4 ≡ 3) ⊎ (suc k % 4 ≡ 3) ⊎ (suc (suc k) % 4 ≡ 3) ⊎ (suc (suc (suc k)) % 4 ≡ 3)
    by zero is = inr (inr (inr (omega (arith, is))))
    by (suc zero) is = inr (inr (inl (omega (arith, is))))
    by (suc (suc zero)) is = inr (inl (omega (arith, is)))
    by (suc (suc (suc zero))) is = inl (omega (arith, is))
    by (suc (suc (suc (suc left)))) is = absurd (omega (arith, is))

module _ (seed count : ℕ) where
  plain_at : (k : ℕ) → IsPlain (fate_at seed count k)
  plain_at k =
      let x = number_at seed (count + 1 + k) in plain_or (k % 4 == 3) (fate_by x) (plain_by (x % 8 == 0) (x % 8 == 1) (x % 8 == 2))

  plain_from : (k left : ℕ) → AllByRecursion IsPlain (fates_from seed count k left)
  plain_from k zero = tt
  plain_from k (suc left) = (plain_at k, plain_from (suc k) left)

  passes_at : (k : ℕ) → k % 4 ≡ 3 → lets_pass (fate_at seed count k) ≡ true
  passes_at k is = ap (λ (b : Bool). lets_pass (if b then Pass else fate_by (number_at seed (count + 1 + k)))) (eq_holds (k % 4) 3 is)

  one_passes : (k : ℕ) → OnePasses (fate_at seed count k) (fate_at seed count (suc k)) (fate_at seed count (suc (suc k))) (fate_at seed count (suc (suc (suc k))))
  one_passes k = by (one_of_four k)
    where
      by : (k % 4 ≡ 3) ⊎ (suc k % 4 ≡ 3) ⊎ (suc (suc k) % 4 ≡ 3) ⊎ (suc (suc (suc k)) % 4 ≡ 3)
          → OnePasses (fate_at seed count k) (fate_at seed count (suc k)) (fate_at seed count (suc (suc k))) (fate_at seed count (suc (suc (suc k))))
      by (inl is) = inl (passes_at k is)
      by (inr (inl is)) = inr (inl (passes_at (suc k) is))
      by (inr (inr (inl is))) = inr (inr (inl (passes_at (suc (suc k)) is)))
      by (inr (inr (inr is))) = inr (inr (inr (passes_at (suc (suc (suc k))) is)))

  four_pass : (k left : ℕ) → FourPass (fates_from seed count k left)
  four_pass k zero = tt
  four_pass k (suc zero) = tt
  four_pass k (suc (suc zero)) = tt
  four_pass k (suc (suc (suc zero))) = tt
  four_pass k (suc (suc (suc (suc left)))) = (one_passes k, four_pass (suc k) (suc (suc (suc left))))

-- ---- one by one

pub number_more : (seed count k x : ℕ) → x ≡ number_at seed (count + 1 + k) → next x ≡ number_at seed (count + 1 + (k + 1))
number_more seed count k x is =
    let same : count + 1 + (k + 1) ≡ suc (count + 1 + k) = omega arith in ap next is ∙ ap (number_at seed) (sym same)

from_more : (seed count k left more : ℕ) → left ≡ suc more → fates_from seed count k left ≡ fate_at seed count k ∷ fates_from seed count (suc k) more
from_more seed count k left more is = ap (fates_from seed count k) is

pub fate_more : (seed count k : ℕ) (fates : List Fate) → k < 4 * count → fates ++ fates_from seed count k (4 * count - k) ≡ drill_fates seed count
    → (fates ++ fate_at seed count k ∷ []) ++ fates_from seed count (k + 1) (4 * count - (k + 1)) ≡ drill_fates seed count
fate_more seed count k fates below is =
    let same : suc k ≡ k + 1 = omega arith in
    append_assoc fates (fate_at seed count k ∷ []) (fates_from seed count (k + 1) (4 * count - (k + 1)))
    ∙ ap (λ (n : ℕ). fates ++ fate_at seed count k ∷ fates_from seed count n (4 * count - (k + 1))) (sym same)
    ∙ ap (λ (rest : List Fate). fates ++ rest) (sym (from_more seed count k (4 * count - k) (4 * count - (k + 1)) (omega (arith, below))))
    ∙ is

-- ---- the rule

none_were : (earlier later : List Ask) → [] ≡ earlier ++ later → last_failures earlier ≤ 3
none_were [] later is = omega arith
none_were (ask ∷ earlier) later is = absurd (cc (is))

pub drills_begin_by_rule : DrillsBeginByRule
drills_begin_by_rule client seed count = record {
  plain = plain_from seed count 0 (4 * count);
  spread = four_pass seed count 0 (4 * count);
  few = omega (arith, few_lose (drill_fates seed count) (four_pass seed count 0 (4 * count)));
  were = none_were;
  own = λ entry among. absurd among;
}
