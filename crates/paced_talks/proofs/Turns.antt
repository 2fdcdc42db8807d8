-- Which of several connections goes first.
use Rattle.std.proofs.Common.{◌≡◌, ◌⊎◌, inl, inr, ℕ, ◌≤◌, ◌+◌, ◌-◌, ◌<◌, Bool, true, false, not, ◌==◌, ◌&&◌, ◌||◌, nat_lt, nat_le, if◌then◌else◌, List, length, get_or, refl, sym, ◌∙◌, ap, subst, arith}
use Rattle.std.specs.Bool.{beq}
use Rattle.std.specs.Cmp.{IsStrictWeakOrder}
use Rattle.std.specs.List.{All, IsFirstBest}
use Rattle.std.specs.Time.{instant_nanos}
use Rattle.std.proofs.lemmas.Bool.Decides.{nat_tests}
use Rattle.std.proofs.lemmas.List.{get_or_default}
use Rattle.std.proofs.lemmas.List.MinMax.{IsFirstBest-none, IsFirstBest-keeps, IsFirstBest-takes, IsStrictWeakOrder-by_number}
use Rattle.paced_talks.specs.declared.asking.Asking.{Asking}
use Rattle.paced_talks.specs.declared.answering.Answering.{Answering}
use Rattle.paced_talks.specs.Coming.{brought, goes_before, group, IsIdlest, LetsIdlestGo}
use Rattle.paced_talks.specs.Talks.{most_asking}
use Rattle.paced_talks.specs.Going.{is_idler}
use Rattle.paced_talks.specs.Window.{length_bytes}

-- ---- what decides between two whose frames come in

abbrev before : Bool → Bool → ℕ → Bool → Bool → ℕ → Bool
before w h m v k n =
    let one : ℕ = (if w then 2 else 0) + (if h then 1 else 0) in
    let other : ℕ = (if v then 2 else 0) + (if k then 1 else 0) in
    nat_lt one other || ((one == other) && nat_lt m n)

-- the one whose frame is not whole goes first, where the other's is
pub by_whole : (w h v k : Bool) (m n : ℕ) → not (beq w v) ≡ true → v ≡ before w h m v k n
by_whole true h true k m n differ = cc
by_whole true true false true m n differ = refl
by_whole true true false false m n differ = refl
by_whole true false false true m n differ = refl
by_whole true false false false m n differ = refl
by_whole false true true true m n differ = refl
by_whole false true true false m n differ = refl
by_whole false false true true m n differ = refl
by_whole false false true false m n differ = refl
by_whole false h false k m n differ = cc

-- else the one that has brought no head
pub by_head : (w h v k : Bool) (m n : ℕ) → not (beq w v) ≡ false → not (beq h k) ≡ true → k ≡ before w h m v k n
by_head true h false k m n same differ = cc
by_head false h true k m n same differ = cc
by_head true true true true m n same differ = cc
by_head true false true false m n same differ = cc
by_head false true false true m n same differ = cc
by_head false false false false m n same differ = cc
by_head true true true false m n same differ = refl
by_head true false true true m n same differ = refl
by_head false true false false m n same differ = refl
by_head false false false true m n same differ = refl

-- a moment is before another one where something is left of the time between them
pub later : (m n : ℕ) (none : Bool) → (none ≡ true → n - m ≡ 0) → (n - m ≡ 0 → none ≡ true) → not none ≡ nat_lt m n
later m n true is from = grind (arith, nat_tests, is refl)
later m n false is from = grind (arith, nat_tests, from)

-- else the one that has been idle longer
pub by_time : (w h v k : Bool) (m n : ℕ) (none : Bool) → not (beq w v) ≡ false → not (beq h k) ≡ false → (none ≡ true → n - m ≡ 0) → (n - m ≡ 0 → none ≡ true)
    → not none ≡ before w h m v k n
by_time true h false k m n none same alike is from = cc
by_time false h true k m n none same alike is from = cc
by_time true true true false m n none same alike is from = cc
by_time true false true true m n none same alike is from = cc
by_time false true false false m n none same alike is from = cc
by_time false false false true m n none same alike is from = cc
by_time true true true true m n none same alike is from = later m n none is from
by_time true false true false m n none same alike is from = later m n none is from
by_time false true false true m n none same alike is from = later m n none is from
by_time false false false false m n none same alike is from = later m n none is from

-- one that does not go before one whose frame is whole has a whole one, too
whole_before : (w h v k : Bool) (m n : ℕ) → before w h m v k n ≡ false → v ≡ true → w ≡ true
whole_before true h v k m n is whole = refl
whole_before false h false k m n is whole = cc
whole_before false true true true m n is whole = cc
whole_before false true true false m n is whole = cc
whole_before false false true true m n is whole = cc
whole_before false false true false m n is whole = cc

-- ---- the first of those whose frames come in

one_way : (f g h k : ℕ) → (nat_lt f h || ((f == h) && nat_lt g k)) ≡ true → (nat_lt h f || ((h == f) && nat_lt k g)) ≡ false
one_way f g h k lt = grind (arith, nat_tests)

chain : (f g h k m n : ℕ) → (nat_lt f h || ((f == h) && nat_lt g k)) ≡ false → (nat_lt h m || ((h == m) && nat_lt k n)) ≡ false
    → (nat_lt f m || ((f == m) && nat_lt g n)) ≡ false
chain f g h k m n first second = grind (arith, nat_tests)

-- an order by two numbers, of which the second decides where the first are alike
by_two : {X : Type 0} (f g : X → ℕ) → IsStrictWeakOrder (λ x y. nat_lt (f x) (f y) || ((f x == f y) && nat_lt (g x) (g y)))
by_two f g = record { one_way = λ x y lt. one_way (f x) (g x) (f y) (g y) lt; chain = λ x y z first second. chain (f x) (g x) (f y) (g y) (f z) (g z) first second }

ranks : {S : Type 0} {R : _} → IsStrictWeakOrder (goes_before {S = S} {R = R})
ranks {S} {R} = by_two {X = Asking S R} group (λ talk. instant_nanos talk.moved_at)

pub first_of_one : {S : Type 0} {R : _} (talks : List (Asking S R)) → IsFirstBest goes_before talks 1 0
first_of_one talks = IsFirstBest-none ranks talks

pub first_stays : {S : Type 0} {R : _} (talks : List (Asking S R)) (i b : ℕ) (x y : Asking S R) (said : Bool) → IsFirstBest goes_before talks i b → i < length talks
    → x ≡ get_or talks i x → y ≡ get_or talks b y → said ≡ goes_before x y → said ≡ false → IsFirstBest goes_before talks (i + 1) b
first_stays talks i b x y said first within at_i at_b is so = IsFirstBest-keeps ranks talks i b x y first within at_i at_b (sym is ∙ so)

pub first_goes_on : {S : Type 0} {R : _} (talks : List (Asking S R)) (i b : ℕ) (x y : Asking S R) (said : Bool) → IsFirstBest goes_before talks i b → i < length talks
    → x ≡ get_or talks i x → y ≡ get_or talks b y → said ≡ goes_before x y → said ≡ true → IsFirstBest goes_before talks (i + 1) i
first_goes_on talks i b x y said first within at_i at_b is so = IsFirstBest-takes ranks talks i b x y first within at_i at_b (sym is ∙ so)

-- the first of all is the idlest, where its frame is not whole
pub is_idlest : {S : Type 0} {R : _} (talks : List (Asking S R)) (i b : ℕ) (x : Asking S R) → IsFirstBest goes_before talks i b → i ≡ length talks
    → x ≡ get_or talks b x → x.is_whole ≡ false → IsIdlest talks b
is_idlest talks i b x first all is whole =
    let within : b < length talks = omega (arith, first.0, all) in (
      subst (λ (n : ℕ). IsFirstBest goes_before talks n b) all first,
      λ none. ap (λ (talk : Asking _ _). talk.is_whole) (get_or_default talks b none x within ∙ sym is) ∙ whole,
    )

-- and else each frame is
pub are_whole : {S : Type 0} {R : _} (talks : List (Asking S R)) (i b : ℕ) (x : Asking S R) → IsFirstBest goes_before talks i b → i ≡ length talks
    → x ≡ get_or talks b x → x.is_whole ≡ true → All (λ (talk : Asking S R). talk.is_whole ≡ true) talks
are_whole {S} {R} talks i b x first all is whole =
    let within : b < length talks = omega (arith, first.0, all) in
    λ k none below.
    let last : Asking S R = get_or talks b none in
    let one : Asking S R = get_or talks k none in
    whole_before one.is_whole (nat_le length_bytes (brought one)) last.is_whole (nat_le length_bytes (brought last)) (instant_nanos one.moved_at) (instant_nanos last.moved_at)
    (first.1 k none (omega (arith, below, all)))
    (ap (λ (talk : Asking S R). talk.is_whole) (get_or_default talks b none x within ∙ sym is) ∙ whole)

-- ---- the first of those whose answers go out

idlers : {S : Type 0} {W : _} → IsStrictWeakOrder (is_idler {S = S} {W = W})
idlers {S} {W} = IsStrictWeakOrder-by_number {X = Answering S W} (λ talk. instant_nanos talk.moved_at)

pub idlest_of_one : {S : Type 0} {W : _} (talks : List (Answering S W)) → IsFirstBest is_idler talks 1 0
idlest_of_one talks = IsFirstBest-none idlers talks

pub idlest_stays : {S : Type 0} {W : _} (talks : List (Answering S W)) (i b : ℕ) (x y : Answering S W) (said : Bool) → IsFirstBest is_idler talks i b → i < length talks
    → x ≡ get_or talks i x → y ≡ get_or talks b y → said ≡ is_idler x y → said ≡ false → IsFirstBest is_idler talks (i + 1) b
idlest_stays talks i b x y said first within at_i at_b is so = IsFirstBest-keeps idlers talks i b x y first within at_i at_b (sym is ∙ so)

pub idlest_goes_on : {S : Type 0} {W : _} (talks : List (Answering S W)) (i b : ℕ) (x y : Answering S W) (said : Bool) → IsFirstBest is_idler talks i b → i < length talks
    → x ≡ get_or talks i x → y ≡ get_or talks b y → said ≡ is_idler x y → said ≡ true → IsFirstBest is_idler talks (i + 1) i
idlest_goes_on talks i b x y said first within at_i at_b is so = IsFirstBest-takes idlers talks i b x y first within at_i at_b (sym is ∙ so)

-- ---- a place for one more

-- where all places were taken and there is one now, the idlest went
pub made_place : {S : Type 0} {R : _} (old kept left : List (Asking S R)) → length old ≤ most_asking → most_asking ≤ length old
    → (left ≡ old) ⊎ LetsIdlestGo old left → kept ≡ left → length kept < most_asking
    → ((length old < most_asking) × (kept ≡ old)) ⊎ ((length old ≡ most_asking) × LetsIdlestGo old kept)
made_place old kept left most full (inl same) is few = absurd (omega (arith, full, few, ap length is, ap length same))
made_place old kept left most full (inr went) is few = inr (omega (arith, most, full), subst (LetsIdlestGo old) (sym is) went)
