-- What is in lists, and lists that are one after the other.
use Rattle.std.proofs.Common.{◌≡◌, ℕ, zero, suc, ◌-◌, ◌<◌, List, [], ◌∷◌, ◌++◌, length, take, drop, get_or, map, refl, ap, arith, length-append}
use Rattle.std.specs.List.{AllByRecursion}

-- two lists of one length in front of others
pub same_fronts : {A : Type 0} (a b c d : List A) → a ++ b ≡ c ++ d → length a ≡ length c → (a ≡ c) × (b ≡ d)
same_fronts [] b [] d e len = (refl, e)
same_fronts [] b (z ∷ c) d e len = absurd (omega (arith, len))
same_fronts (x ∷ a) b [] d e len = absurd (omega (arith, len))
same_fronts (x ∷ a) b (z ∷ c) d e len =
    let first : x ≡ z = cc in
    let rest : a ++ b ≡ c ++ d = cc in
    let both = same_fronts a b c d rest (omega (arith, len)) in
    (rw (first, both.0) refl, both.1)

pub all_taken : {A : Type 0} (P : A → Type 0) (n : ℕ) (xs : List A) → AllByRecursion P xs → AllByRecursion P (take n xs)
all_taken P zero xs all = tt
all_taken P (suc n) [] all = tt
all_taken P (suc n) (x ∷ xs) all = (all.0, all_taken P n xs all.1)

pub all_dropped : {A : Type 0} (P : A → Type 0) (n : ℕ) (xs : List A) → AllByRecursion P xs → AllByRecursion P (drop n xs)
all_dropped P zero xs all = all
all_dropped P (suc n) [] all = tt
all_dropped P (suc n) (x ∷ xs) all = all_dropped P n xs all.1

pub all_got : {A : Type 0} (P : A → Type 0) (xs : List A) (i : ℕ) (d : A) → AllByRecursion P xs → i < length xs → P (get_or xs i d)
all_got P [] i d all lt = absurd (omega arith)
all_got P (x ∷ xs) zero d all lt = all.0
all_got P (x ∷ xs) (suc i) d all lt = all_got P xs i d all.1 (omega arith)

pub all_both : {A : Type 0} (P : A → Type 0) (xs ys : List A) → AllByRecursion P xs → AllByRecursion P ys → AllByRecursion P (xs ++ ys)
all_both P [] ys all also = also
all_both P (x ∷ xs) ys all also = (all.0, all_both P xs ys all.1 also)

-- the last of a list, and those before it
one_behind : {A : Type 0} (xs : List A) (x : A) → length (xs ++ x ∷ []) - 1 ≡ length xs
one_behind xs x = omega (arith, length-append xs (x ∷ []))

got_behind : {A : Type 0} (xs : List A) (x d : A) → get_or (xs ++ x ∷ []) (length xs) d ≡ x
got_behind [] x d = refl
got_behind (y ∷ xs) x d = got_behind xs x d

taken_before : {A : Type 0} (xs : List A) (x : A) → take (length xs) (xs ++ x ∷ []) ≡ xs
taken_before [] x = refl
taken_before (y ∷ xs) x = ap (λ rest. y ∷ rest) (taken_before xs x)

pub last_behind : {A : Type 0} (xs : List A) (x d : A) → get_or (xs ++ x ∷ []) (length (xs ++ x ∷ []) - 1) d ≡ x
last_behind xs x d = rw (one_behind xs x) (got_behind xs x d)

pub front_before : {A : Type 0} (xs : List A) (x : A) → take (length (xs ++ x ∷ []) - 1) (xs ++ x ∷ []) ≡ xs
front_before xs x = rw (one_behind xs x) (taken_before xs x)

pub each_implies : {A : Type 0} (P Q : A → Type 0) (xs : List A) → ((x : A) → P x → Q x) → AllByRecursion P xs → AllByRecursion Q xs
each_implies P Q [] to all = tt
each_implies P Q (x ∷ xs) to all = (to x all.0, each_implies P Q xs to all.1)

pub all_mapped : {A B : Type 0} (P : B → Type 0) (f : A → B) (xs : List A) → AllByRecursion P (map f xs) → AllByRecursion (λ x. P (f x)) xs
all_mapped P f [] all = tt
all_mapped P f (x ∷ xs) all = (all.0, all_mapped P f xs all.1)

pub mapped_all : {A B : Type 0} (P : B → Type 0) (f : A → B) (xs : List A) → AllByRecursion (λ x. P (f x)) xs → AllByRecursion P (map f xs)
mapped_all P f [] all = tt
mapped_all P f (x ∷ xs) all = (all.0, mapped_all P f xs all.1)

-- an element within a list is the same, whatever stands for those that are not
pub got_alike : {A : Type 0} (xs : List A) (i : ℕ) (d e : A) → i < length xs → get_or xs i d ≡ get_or xs i e
got_alike [] i d e lt = absurd (omega arith)
got_alike (x ∷ xs) zero d e lt = refl
got_alike (x ∷ xs) (suc i) d e lt = got_alike xs i d e (omega arith)
