-- Reading items one after the other, as a loop does.
use Rattle.std.proofs.Common.{◌≡◌, ℕ, zero, suc, ◌-◌, ◌+◌, ◌≤◌, ◌<◌, true, false, List, [], ◌∷◌, ◌++◌, length, Result, Ok, Err, refl, sym, ap, subst, ◌∙◌, append_assoc, arith, length-append}
use Rattle.std.proofs.lemmas.List.{append-nil}
use Rattle.byte_fields.specs.declared.error.TakeError.{TakeError}
use Rattle.byte_fields.specs.declared.error.TakeError.TheVariants as errors
use Rattle.byte_fields.specs.Field.{Reader, ◌>>=◌, Fails, GivesInto, each_at, passed}
use Rattle.byte_fields.specs.Records.{framed_at, is_torn, records_at}

-- what was read before, and what is still read
abbrev pub with_front : {A : Type 0} → List A → Result (List A × ℕ) ℕ → Result (List A × ℕ) ℕ
with_front front read = read >>= λ x. Ok (front ++ x.0, x.1)

regroup : {A : Type 0} (front : List A) (first : A) (read : Result (List A × ℕ) ℕ) → with_front front (read >>= λ x. Ok (first ∷ x.0, x.1)) ≡ with_front (front ++ first ∷ []) read
regroup {A} front first (Ok x) = ap (λ (items : List A). Ok (items, x.1)) (simp append_assoc)
regroup front first (Err place) = refl

pub passed_one : {S A : Type 0} (after : S → A → S) (state : S) (front : List A) (x : A) → passed after state (front ++ x ∷ []) ≡ after (passed after state front) x
passed_one after state [] x = refl
passed_one after state (y ∷ front) x = passed_one after (after state y) front x

module _ {S A : Type 0} (item : S → Reader A) (after : S → A → S) (bytes : List ℕ) (total : Result (List A × ℕ) ℕ) where
  -- what was read before, and the items from here on, are all of them
  abbrev pub SoFar : List A → ℕ → S → ℕ → Type 0
  SoFar front left state at = with_front front (each_at item after left state bytes at) ≡ total

  pub goes_on : (front : List A) (count i : ℕ) (state : S) (at : ℕ) (first : A) (next : ℕ) → i < count → item state bytes at ≡ Ok (first, next)
      → SoFar front (count - i) state at → SoFar (front ++ first ∷ []) (count - (i + 1)) (after state first) next
  unfolding each_at
  goes_on front count i state at first next lt h so_far =
      let k : count - i ≡ suc (count - (i + 1)) = omega arith in
      let one : with_front front (each_at item after (count - i) state bytes at) ≡ with_front (front ++ first ∷ []) (each_at item after (count - (i + 1)) (after state first) bytes next) =
      rw (k, h) (regroup front first (each_at item after (count - (i + 1)) (after state first) bytes next)) in
      sym one ∙ so_far

  pub breaks_off : (e : TakeError) (front : List A) (count i : ℕ) (state : S) (at : ℕ) → i < count → Fails e (item state bytes at) → SoFar front (count - i) state at → Fails e total
  unfolding each_at
  breaks_off errors.Memory front count i state at lt h so_far = tt
  breaks_off (errors.At place) front count i state at lt h so_far =
      let k : count - i ≡ suc (count - (i + 1)) = omega arith in
      let one : with_front front (each_at item after (count - i) state bytes at) ≡ Err place = rw (k, h) refl in
      sym so_far ∙ one

  pub is_done : (front : List A) (count i : ℕ) (state : S) (at : ℕ) → count ≤ i → SoFar front (count - i) state at → total ≡ Ok (front, at)
  unfolding each_at
  is_done front count i state at le so_far =
      let k : count - i ≡ 0 = omega arith in
      let one : with_front front (each_at item after (count - i) state bytes at) ≡ Ok (front, at) = rw k (ap (λ (items : List A). Ok (items, at)) (append-nil front)) in
      sym so_far ∙ one

  -- the same of items that went into the state, and stand nowhere else
  abbrev pub Gathered : S → ℕ → S → ℕ → Type 0
  Gathered initial left state at = (front : List A) × (SoFar front left state at × (state ≡ passed after initial front))

  pub gathers_on : (initial : S) (count i : ℕ) (state : S) (at : ℕ) (new : S) (next : ℕ) → i < count → GivesInto new (after state) (Ok next) (item state bytes at)
      → Gathered initial (count - i) state at → Gathered initial (count - (i + 1)) new next
  gathers_on initial count i state at new next lt h so_far =
      let front = so_far.0 ++ h.0 ∷ [] in
      let step = goes_on so_far.0 count i state at h.0 next lt h.1.0 so_far.1.0 in
      (front, (subst (λ (s : S). SoFar front (count - (i + 1)) s next) (sym h.1.1) step, h.1.1 ∙ ap (λ (s : S). after s h.0) so_far.1.1 ∙ sym (passed_one after initial so_far.0 h.0)))

  pub gathers_off : (e : TakeError) (initial : S) (count i : ℕ) (state : S) (at : ℕ) → i < count → Fails e (item state bytes at) → Gathered initial (count - i) state at → Fails e total
  gathers_off e initial count i state at lt h so_far = breaks_off e so_far.0 count i state at lt h so_far.1.0

  pub all_gathered : (initial : S) (count i : ℕ) (state : S) (at : ℕ) → count ≤ i → Gathered initial (count - i) state at → GivesInto state (passed after initial) (Ok at) total
  all_gathered initial count i state at le so_far = (so_far.0, (is_done so_far.0 count i state at le so_far.1.0, so_far.1.1))

module _ {S A : Type 0} (item : S → Reader A) (after : S → A → S) (bytes : List ℕ) (total : Result (List A × ℕ) ℕ) where
  -- the records that went into the state, and those from here on, are all of them
  pub record RecordsSoFar (initial : S) (most : ℕ) (state : S) (at : ℕ) : Type 0 where
    pub front : List A
    pub all : with_front front (records_at item after (most - length front) state bytes at) ≡ total
    pub is : state ≡ passed after initial front
    pub few : length front ≤ at

  record_goes_on : (front : List A) (most : ℕ) (state : S) (at : ℕ) (first : A) (next : ℕ) → length front < most → is_torn bytes at ≡ false → framed_at (item state) bytes at ≡ Ok (first, next)
      → with_front front (records_at item after (most - length front) state bytes at) ≡ total → with_front (front ++ first ∷ []) (records_at item after (most - length (front ++ first ∷ [])) (after state first) bytes next) ≡ total
  unfolding records_at
  record_goes_on front most state at first next lt whole h so_far =
      let k : most - length front ≡ suc (most - length (front ++ first ∷ [])) = omega (arith, length-append front (first ∷ [])) in
      let one : with_front front (records_at item after (most - length front) state bytes at) ≡ with_front (front ++ first ∷ []) (records_at item after (most - length (front ++ first ∷ [])) (after state first) bytes next) =
      rw (k, whole, h) (regroup front first (records_at item after (most - length (front ++ first ∷ [])) (after state first) bytes next)) in
      sym one ∙ so_far

  pub records_go_on : (initial : S) (state : S) (at : ℕ) (new : S) (next : ℕ) → is_torn bytes at ≡ false → at + 4 ≤ length bytes → at < next → GivesInto new (after state) (Ok next) (framed_at (item state) bytes at)
      → RecordsSoFar initial (length bytes) state at → RecordsSoFar initial (length bytes) new next
  records_go_on initial state at new next whole left further h so_far =
      let more = length-append so_far.front (h.0 ∷ []) in
      let step = record_goes_on so_far.front (length bytes) state at h.0 next (omega (arith, so_far.few)) whole h.1.0 so_far.all in
      record {
        front = so_far.front ++ h.0 ∷ [];
        all = subst (λ (s : S). with_front (so_far.front ++ h.0 ∷ []) (records_at item after (length bytes - length (so_far.front ++ h.0 ∷ [])) s bytes next) ≡ total) (sym h.1.1) step;
        is = h.1.1 ∙ ap (λ (s : S). after s h.0) so_far.is ∙ sym (passed_one after initial so_far.front h.0);
        few = omega (arith, more, so_far.few);
      }

  pub records_break_off : (e : TakeError) (initial : S) (state : S) (at : ℕ) → is_torn bytes at ≡ false → at + 4 ≤ length bytes → Fails e (framed_at (item state) bytes at) → RecordsSoFar initial (length bytes) state at → Fails e total
  unfolding records_at
  records_break_off errors.Memory initial state at whole left h so_far = tt
  records_break_off (errors.At place) initial state at whole left h so_far =
      let k : length bytes - length so_far.front ≡ suc (length bytes - length so_far.front - 1) = omega (arith, so_far.few) in
      let one : with_front so_far.front (records_at item after (length bytes - length so_far.front) state bytes at) ≡ Err place = rw (k, whole, h) refl in
      sym so_far.all ∙ one

  -- a torn record ends them, however many were still wanted
  torn_ends : (most : ℕ) (state : S) (at : ℕ) → is_torn bytes at ≡ true → records_at item after most state bytes at ≡ Ok ([], at)
  unfolding records_at
  torn_ends zero state at torn = refl
  torn_ends (suc most) state at torn = rw torn refl

  pub records_are_taken : (initial : S) (state : S) (at : ℕ) → is_torn bytes at ≡ true → RecordsSoFar initial (length bytes) state at → GivesInto state (passed after initial) (Ok at) total
  records_are_taken initial state at torn so_far =
      let none = torn_ends (length bytes - length so_far.front) state at torn in
      let one : with_front so_far.front (records_at item after (length bytes - length so_far.front) state bytes at) ≡ Ok (so_far.front, at) = rw none (ap (λ (items : List A). Ok (items, at)) (append-nil so_far.front)) in
      (so_far.front, (sym so_far.all ∙ one, so_far.is))
