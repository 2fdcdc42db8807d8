-- Bytes that are cut at each place of one byte, and joined by it again.
use Rattle.std.proofs.Common.{◌≡◌, ℕ, List, [], ◌∷◌, ◌++◌, Bool, true, false, not, ◌||◌, ◌==◌, refl, ap, ◌∙◌}
use Rattle.std.specs.List.{slice_split, onto_first, join_with_byte, list_any, list_all}
use Rattle.std.proofs.lemmas.List.Splits.{slice_split-cons_yes, slice_split-cons_no}
use Rattle.byte_fields.proofs.Facts.{eq_itself, and_of}

neither : (a b : Bool) → not (a || b) ≡ true → (a ≡ false) × (not b ≡ true)
neither true b h = absurd (cc h)
neither false b h = (refl, h)

-- whether the bytes lack the byte
abbrev pub lacks : ℕ → List ℕ → Bool
lacks c bytes = not (list_any (λ b. b == c) bytes)

-- the bytes cut at each such byte
abbrev pub cut_at : ℕ → List ℕ → List (List ℕ)
cut_at c bytes = slice_split (λ b. b == c) bytes

onto_lacks : (c b : ℕ) (cut : List (List ℕ)) → (b == c) ≡ false → list_all (lacks c) cut ≡ true
    → list_all (lacks c) (onto_first b cut) ≡ true
onto_lacks c b [] e h = rw e refl
onto_lacks c b (part ∷ more) e h = rw e h

cut_lacks_step : (c b : ℕ) (bs : List ℕ) (test : Bool) → (b == c) ≡ test → list_all (lacks c) (cut_at c bs) ≡ true
    → list_all (lacks c) (cut_at c (b ∷ bs)) ≡ true
cut_lacks_step c b bs true e h = rw (slice_split-cons_yes (λ x. x == c) b bs e) h
cut_lacks_step c b bs false e h = rw (slice_split-cons_no (λ x. x == c) b bs e) (onto_lacks c b (cut_at c bs) e h)

-- no part has the byte
pub cut_lacks : (c : ℕ) (bytes : List ℕ) → list_all (lacks c) (cut_at c bytes) ≡ true
cut_lacks c [] = refl
cut_lacks c (b ∷ bs) = cut_lacks_step c b bs (b == c) refl (cut_lacks c bs)

-- the first part is what stands before the first such byte
pub first_found : (c : ℕ) (part rest : List ℕ) → lacks c part ≡ true → cut_at c (part ++ c ∷ rest) ≡ part ∷ cut_at c rest
first_found c [] rest h = slice_split-cons_yes (λ x. x == c) c rest (eq_itself c)
first_found c (b ∷ bs) rest h =
    let tests : ((b == c) ≡ false) × (lacks c bs ≡ true) = neither (b == c) (list_any (λ x. x == c) bs) h in
    slice_split-cons_no (λ x. x == c) b (bs ++ c ∷ rest) tests.0 ∙ ap (onto_first b) (first_found c bs rest tests.1)

last_found : (c : ℕ) (part : List ℕ) → lacks c part ≡ true → cut_at c part ≡ part ∷ []
last_found c [] h = refl
last_found c (b ∷ bs) h =
    let tests : ((b == c) ≡ false) × (lacks c bs ≡ true) = neither (b == c) (list_any (λ x. x == c) bs) h in
    slice_split-cons_no (λ x. x == c) b bs tests.0 ∙ ap (onto_first b) (last_found c bs tests.1)

-- parts that lack the byte are found again once they are joined by it
pub joined_are_cut : (c : ℕ) (first : List ℕ) (more : List (List ℕ)) → list_all (lacks c) (first ∷ more) ≡ true
    → cut_at c (join_with_byte c (first ∷ more)) ≡ first ∷ more
joined_are_cut c first [] h = last_found c first (and_of (lacks c first) true h).0
joined_are_cut c first (next ∷ more) h =
    let tests : (lacks c first ≡ true) × (list_all (lacks c) (next ∷ more) ≡ true) =
    and_of (lacks c first) (list_all (lacks c) (next ∷ more)) h in
    first_found c first (join_with_byte c (next ∷ more)) tests.0 ∙ ap (λ rest. first ∷ rest) (joined_are_cut c next more tests.1)
