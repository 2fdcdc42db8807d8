-- The laws of bytes that end too early, for fields and for fields one after the other.
use Rattle.std.proofs.Common.{◌≡◌, ℕ, ◌+◌, ◌-◌, ◌<◌, ◌≤◌, Bool, true, false, List, [], ◌∷◌, ◌++◌, length, take, Result, Ok, Err, inl, inr, refl, sym, ap, subst, ◌∙◌, arith, length-append, length-take}
use Rattle.std.specs.Prelude.{nat_le, sum, ◌^◌}
use Rattle.std.specs.Int.{Width, w8, w16, w32, w64, byte_len}
use Rattle.std.specs.List.{flat_map}
use Rattle.std.proofs.lemmas.Bool.{cases_lt}
use Rattle.std.proofs.lemmas.List.Sums.{sum_by-append}
use Rattle.std.proofs.lemmas.List.Concat.{flat_map-cons}
use Rattle.byte_fields.specs.Field.{Reader, digits, ◌>>=◌, ruled, mapped, span_at, number_at, one, two, three, tagged_at, of_kind, each_at, EachFits, limited}
use Rattle.byte_fields.specs.Codec.{Stands, IsCodec}
use Rattle.byte_fields.specs.Cuts.{start_of, IsCut}
use Rattle.byte_fields.proofs.Facts.{lt_holds, lt_fails, le_fails, sum_more, two_bytes, four_bytes, eight_bytes}
use Rattle.byte_fields.proofs.Codec.{failed, stands_first, stands_second, u8_codec, limited_codec, counted}

-- ---- places of fields

pub sum_both : (xs ys : List ℕ) → sum (xs ++ ys) ≡ sum xs + sum ys
sum_both xs ys = sum_by-append (λ (n : ℕ). n) xs ys

-- what stands in the front lies in the front
start_low : (place : ℕ) (xs ys : List ℕ) → place < sum xs → start_of place (xs ++ ys) ≡ start_of place xs
start_low place [] ys lt = absurd (omega arith)
start_low place (x ∷ xs) ys lt =
    elim (cases_lt place x) [
      | inl low ↦ rw (lt_holds place x low) refl
      | inr high ↦ rw (lt_fails place x high) (ap (λ (n : ℕ). x + n) (start_low (place - x) xs ys (omega (arith, sum_more x xs))))
    ]

-- what stands behind the front lies in what follows
start_high : (place : ℕ) (xs ys : List ℕ) → sum xs ≤ place → start_of place (xs ++ ys) ≡ sum xs + start_of (place - sum xs) ys
start_high place [] ys le = let same : place - sum [] ≡ place = omega arith in rw same (omega arith)
start_high place (x ∷ xs) ys le =
    let high : x ≤ place = omega (arith, sum_more x xs) in
    let rest : start_of (place - x) (xs ++ ys) ≡ sum xs + start_of (place - x - sum xs) ys = start_high (place - x) xs ys (omega (arith, sum_more x xs)) in
    let same : place - x - sum xs ≡ place - sum (x ∷ xs) = omega (arith, sum_more x xs) in
    rw (lt_fails place x high, rest, same) (omega (arith, sum_more x xs))

-- ---- one field, and what follows it

-- bytes that end behind a value do not matter to it
pub again_cut : {A : Type 0} {read : Reader A} {s : A → List ℕ} {F : A → Type 0} → IsCodec read s F → (bytes : List ℕ) (at : ℕ) (x : A) (next end : ℕ) → Stands bytes at (s x) next → F x → next ≤ end → read (take end bytes) at ≡ Ok (x, next)
unfolding limited
again_cut {A} {read} {s} codec bytes at x next end stands fits le =
    let all : at + (end - at) ≡ end = omega (arith, stands.next_is) in
    subst (λ (n : ℕ). read (take n bytes) at ≡ Ok (x, next)) all ((limited_codec (end - at) codec).again bytes at x next stands (fits, omega (arith, stands.next_is)))

module _ {A : Type 0} {read : Reader A} {s f : A → List ℕ} {F : A → Type 0} (codec : IsCodec read s F) (cut : IsCut read s f F) where
  -- the bytes end in a value, or in what follows it
  pub then_cut : {B : Type 0} (rest : A × ℕ → Result B ℕ) (bytes : List ℕ) (at : ℕ) (x : A) (next end : ℕ) (more : List ℕ) → Stands bytes at (s x) next → F x → at ≤ end
      → (next ≤ end → rest (x, next) ≡ Err (next + start_of (end - next) more)) → (read (take end bytes) at >>= rest) ≡ Err (at + start_of (end - at) (f x ++ more))
  then_cut {B} rest bytes at x next end more stands fits le behind =
      elim (cases_lt end next) [
        | inl lt ↦
            rw (cut.cut bytes at x next end stands fits le lt) (ap (λ (n : ℕ). failed B (at + n)) (sym (start_low (end - at) (f x) more (omega (arith, stands.next_is, cut.whole x fits)))))
        | inr ge ↦
            let same : end - next ≡ end - at - sum (f x) = omega (arith, stands.next_is, cut.whole x fits) in
            let place : next + start_of (end - next) more ≡ at + start_of (end - at) (f x ++ more) =
            rw (same, start_high (end - at) (f x) more (omega (arith, stands.next_is, cut.whole x fits))) (omega (arith, stands.next_is, cut.whole x fits)) in
            rw (again_cut codec bytes at x next end stands fits ge) (behind ge ∙ ap (failed B) place)
      ]

pub span_cut : (count : ℕ) → IsCut (span_at count) (λ text. text) (λ text. length text ∷ []) (λ text. length text ≡ count)
unfolding span_at
span_cut count = record {
  whole = λ text fits. omega (arith, sum_more (length text) []);
  cut = λ bytes at text next end stands fits le lt.
      let short : nat_le (at + count) (length (take end bytes)) ≡ false = le_fails (at + count) (length (take end bytes)) (omega (arith, length-take end bytes, stands.next_is, fits)) in
      rw (short, lt_holds (end - at) (length text) (omega (arith, stands.next_is))) (ap (failed (List ℕ × ℕ)) (omega arith));
}

-- what is made of a field is cut as the field
module _ {A : Type 0} {read : Reader A} {s f : A → List ℕ} {F : A → Type 0} (cut : IsCut read s f F) where
  pub one_cut : {C : Type 0} (made : A → C) (bytes : List ℕ) (at : ℕ) (x : A) (next end : ℕ) → Stands bytes at (s x) next → F x → at ≤ end → end < next → one read made (take end bytes) at ≡ Err (at + start_of (end - at) (f x))
  one_cut made bytes at x next end stands fits le lt = rw (cut.cut bytes at x next end stands fits le lt) refl

  pub ruled_cut : (rule : A → Bool) → IsCut (ruled rule read) s f (λ x. F x × (rule x ≡ true))
  unfolding ruled
  ruled_cut rule = record {
    whole = λ x fits. cut.whole x fits.0;
    cut = λ bytes at x next end stands fits le lt. rw (cut.cut bytes at x next end stands fits.0 le lt) refl;
  }

  pub mapped_cut : {B E : Type 0} (meaning : A → Result B E) (name : B → A) (G : B → Type 0) → IsCut (mapped meaning read) (λ x. s (name x)) (λ x. f (name x)) (λ x. F (name x) × G x)
  unfolding mapped
  mapped_cut meaning name G = record {
    whole = λ x fits. cut.whole (name x) fits.0;
    cut = λ bytes at x next end stands fits le lt. rw (cut.cut bytes at (name x) next end stands fits.0 le lt) refl;
  }

  pub cut_for : {G : A → Type 0} → ((x : A) → G x → F x) → IsCut read s f G
  cut_for back = record {
    whole = λ x fits. cut.whole x (back x fits);
    cut = λ bytes at x next end stands fits le lt. cut.cut bytes at x next end stands (back x fits) le lt;
  }

number_cut : (w : Width) → ((n : ℕ) → length (digits w n) ≡ byte_len w) → IsCut (number_at w) (digits w) (λ n. byte_len w ∷ []) (λ n. Unit {0})
unfolding number_at
number_cut w wide = record {
  whole = λ n fits. omega (arith, sum_more (byte_len w) [], wide n);
  cut = λ bytes at n next end stands fits le lt.
      rw ((span_cut (byte_len w)).cut bytes at (digits w n) next end stands (wide n) le lt, wide n) refl;
}

pub u16_cut : IsCut (number_at w16) (digits w16) (λ n. 2 ∷ []) (λ n. n < 2 ^ 16)
u16_cut = cut_for (number_cut w16 two_bytes) (λ n fits. tt)

pub u32_cut : IsCut (number_at w32) (digits w32) (λ n. 4 ∷ []) (λ n. n < 2 ^ 32)
u32_cut = cut_for (number_cut w32 four_bytes) (λ n fits. tt)

pub u64_cut : IsCut (number_at w64) (digits w64) (λ n. 8 ∷ []) (λ n. n < 2 ^ 64)
u64_cut = cut_for (number_cut w64 eight_bytes) (λ n fits. tt)

pub u8_cut : IsCut (number_at w8) (λ n. n ∷ []) (λ n. 1 ∷ []) (λ n. n < 2 ^ 8)
unfolding number_at
u8_cut = record {
  whole = λ n fits. omega (arith, sum_more 1 []);
  cut = λ bytes at n next end stands fits le lt. rw ((span_cut 1).cut bytes at (n ∷ []) next end stands refl le lt) refl;
}

-- ---- fields in a row

module _ {A B : Type 0} {read : Reader A} {read' : A → Reader B} {s f : A → List ℕ} {s' f' : A → B → List ℕ} {F : A → Type 0} {F' : A → B → Type 0}
    (codec : IsCodec read s F) (cut : IsCut read s f F) (cut' : (x : A) → F x → IsCut (read' x) (s' x) (f' x) (F' x)) where
  pub two_cut : {C : Type 0} (made : A → B → C) (bytes : List ℕ) (at : ℕ) (x : A) (y : B) (next end : ℕ) → Stands bytes at (s x ++ s' x y) next → F x → F' x y → at ≤ end → end < next
      → two read read' made (take end bytes) at ≡ Err (at + start_of (end - at) (f x ++ f' x y))
  two_cut made bytes at x y next end stands fits fits' le lt =
      then_cut codec cut _ bytes at x (at + length (s x)) end (f' x y) (stands_first bytes at (s x) (s' x y) next stands) fits le
      (λ ge. one_cut (cut' x fits) (made x) bytes (at + length (s x)) y next end (stands_second bytes at (s x) (s' x y) next stands) fits' ge lt)

module _ {A B C : Type 0} {read : Reader A} {read' : A → Reader B} {read'' : A → B → Reader C} {s f : A → List ℕ} {s' f' : A → B → List ℕ} {s'' f'' : A → B → C → List ℕ} {F : A → Type 0} {F' : A → B → Type 0} {F'' : A → B → C → Type 0}
    (codec : IsCodec read s F) (cut : IsCut read s f F) (codec' : (x : A) → F x → IsCodec (read' x) (s' x) (F' x)) (cut' : (x : A) → F x → IsCut (read' x) (s' x) (f' x) (F' x))
    (cut'' : (x : A) (y : B) → F x → F' x y → IsCut (read'' x y) (s'' x y) (f'' x y) (F'' x y)) where
  pub three_cut : {D : Type 0} (made : A → B → C → D) (bytes : List ℕ) (at : ℕ) (x : A) (y : B) (z : C) (next end : ℕ) → Stands bytes at (s x ++ (s' x y ++ s'' x y z)) next → F x → F' x y → F'' x y z → at ≤ end → end < next
      → three read read' read'' made (take end bytes) at ≡ Err (at + start_of (end - at) (f x ++ (f' x y ++ f'' x y z)))
  three_cut made bytes at x y z next end stands fits fits' fits'' le lt =
      then_cut codec cut _ bytes at x (at + length (s x)) end (f' x y ++ f'' x y z) (stands_first bytes at (s x) (s' x y ++ s'' x y z) next stands) fits le
      (λ ge.
      two_cut (codec' x fits) (cut' x fits) (λ v g. cut'' x v fits g) (made x) bytes (at + length (s x)) y z next end (stands_second bytes at (s x) (s' x y ++ s'' x y z) next stands) fits' fits'' ge lt)

-- ---- kinds

pub tagged_cut : {C : Type 0} (kinds : List (ℕ × Reader C)) (kind : ℕ) → kind < 2 ^ 8 → (bytes : List ℕ) (at : ℕ) (text : List ℕ) (next end : ℕ) (more : List ℕ) → Stands bytes at (kind ∷ text) next → at ≤ end
    → (at + 1 ≤ end → of_kind kinds at kind (take end bytes) (at + 1) ≡ Err (at + 1 + start_of (end - (at + 1)) more)) → tagged_at kinds (take end bytes) at ≡ Err (at + start_of (end - at) (1 ∷ more))
tagged_cut kinds kind byte bytes at text next end more stands le behind =
    then_cut u8_codec u8_cut (λ k. of_kind kinds at k.0 (take end bytes) k.1) bytes at kind (at + 1) end more (stands_first bytes at (kind ∷ []) text next stands) byte le behind

-- ---- items

module _ {S A : Type 0} (item : S → Reader A) (after : S → A → S) (spelling fields : A → List ℕ) (Fits : S → A → Type 0)
    (codec : (state : S) → IsCodec (item state) spelling (Fits state)) (cut : (state : S) → IsCut (item state) spelling fields (Fits state)) where
  all_whole : (state : S) (xs : List A) → EachFits Fits after state xs → sum (flat_map fields xs) ≡ length (flat_map spelling xs)
  all_whole state [] fits = refl
  all_whole state (x ∷ xs) fits =
      omega (arith, ap sum (flat_map-cons fields x xs), sum_both (fields x) (flat_map fields xs), ap length (flat_map-cons spelling x xs), length-append (spelling x) (flat_map spelling xs), (cut state).whole x fits.0, all_whole (after state x) xs fits.1)

  all_cut : (state : S) (bytes : List ℕ) (at : ℕ) (xs : List A) (next end : ℕ) → Stands bytes at (flat_map spelling xs) next → EachFits Fits after state xs → at ≤ end → end < next
      → each_at item after (length xs) state (take end bytes) at ≡ Err (at + start_of (end - at) (flat_map fields xs))
  unfolding each_at
  all_cut state bytes at [] next end stands fits le lt = absurd (omega (arith, stands.next_is))
  all_cut state bytes at (x ∷ xs) next end stands fits le lt =
      let both : Stands bytes at (spelling x ++ flat_map spelling xs) next = rw (← flat_map-cons spelling x xs) stands in
      let step = then_cut (codec state) (cut state) (λ v. each_at item after (length xs) (after state v.0) (take end bytes) v.1 >>= λ w. Ok (v.0 ∷ w.0, w.1)) bytes at x (at + length (spelling x)) end (flat_map fields xs)
      (stands_first bytes at (spelling x) (flat_map spelling xs) next both) fits.0 le
      (λ ge. rw (all_cut (after state x) bytes (at + length (spelling x)) xs next end (stands_second bytes at (spelling x) (flat_map spelling xs) next both) fits.1 ge lt) refl) in
      rw (flat_map-cons fields x xs) step

  pub each_cut : (n : ℕ) (state : S) → IsCut (each_at item after n state) (flat_map spelling) (flat_map fields) (λ xs. (length xs ≡ n) × EachFits Fits after state xs)
  each_cut n state = record {
    whole = λ xs fits. all_whole state xs fits.1;
    cut = λ bytes at xs next end stands fits le lt.
        subst (λ (k : ℕ). each_at item after k state (take end bytes) at ≡ Err (at + start_of (end - at) (flat_map fields xs))) fits.0 (all_cut state bytes at xs next end stands fits.1 le lt);
  }

-- ---- a count, and what is as long as it

module _ {A : Type 0} {count : Reader ℕ} {items : ℕ → Reader A} {spelled told : ℕ → List ℕ} {s f : A → List ℕ} {CountFits : ℕ → Type 0} {ItemsFit : ℕ → A → Type 0} (count_of : A → ℕ)
    (codec : IsCodec count spelled CountFits) (cut : IsCut count spelled told CountFits) (cut' : (n : ℕ) → CountFits n → IsCut (items n) s f (ItemsFit n)) where
  pub counted_cut : IsCut (counted count items) (λ x. spelled (count_of x) ++ s x) (λ x. told (count_of x) ++ f x) (λ x. CountFits (count_of x) × ItemsFit (count_of x) x)
  counted_cut = record {
    whole = λ x fits.
        omega (arith, sum_both (told (count_of x)) (f x), length-append (spelled (count_of x)) (s x), cut.whole (count_of x) fits.0, (cut' (count_of x) fits.0).whole x fits.1);
    cut = λ bytes at x next end stands fits le lt.
        then_cut codec cut (λ n. items n.0 (take end bytes) n.1) bytes at (count_of x) (at + length (spelled (count_of x))) end (f x) (stands_first bytes at (spelled (count_of x)) (s x) next stands) fits.0 le
        (λ ge. (cut' (count_of x) fits.0).cut bytes (at + length (spelled (count_of x))) x next end (stands_second bytes at (spelled (count_of x)) (s x) next stands) fits.1 ge lt);
  }
