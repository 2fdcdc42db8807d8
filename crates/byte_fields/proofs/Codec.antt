-- The laws of fields, and of fields one after the other.
use Rattle.std.proofs.Common.{◌≡◌, ◌⊎◌, ℕ, zero, suc, ◌+◌, ◌^◌, ◌<◌, ◌≤◌, Bool, true, false, cond, eqb, leb, List, [], ◌∷◌, ◌++◌, length, take, drop, Result, Ok, Err, refl, sym, ap, subst, ◌∙◌, append_assoc, arith, inl, inr, length-append, length-take, length-drop}
use Rattle.std.specs.Int.{Width, w8, w16, w32, w64, byte_len, from_be_bytes, to_be_bytes}
use Rattle.std.specs.List.{flat_map, AllByRecursion}
use Rattle.std.proofs.lemmas.List.{take_at, drop_at, drop-drop, drop-take, take-append-drop}
use Rattle.std.proofs.lemmas.Nat.{be_bytes_2, be_bytes_4, be_bytes_8, from_be_bytes-to_be_bytes_2, from_be_bytes-to_be_bytes_4, from_be_bytes-to_be_bytes_8}
use Rattle.std.proofs.Math.Nat.{mod-eq_of_lt}
use Rattle.std.proofs.lemmas.List.Concat.{flat_map-cons}
use Rattle.byte_fields.specs.Field.{Reader, digits, ◌>>=◌, ruled, made_at, mapped, span_at, number_at, none, one, two, three, limited, tagged_at, of_kind, each_at, EachFits}
use Rattle.byte_fields.specs.Codec.{Stands, IsBytes, IsFault, IsCodec}
use Rattle.byte_fields.proofs.Facts.{le_of, le_holds, eq_of, bytes_taken, bytes_dropped}

-- ---- places

pub stands_none : (bytes : List ℕ) (at : ℕ) → at ≤ length bytes → Stands bytes at [] at
stands_none bytes at le = record { here = refl; next_is = omega arith; within = le }

pub stands_both : (bytes : List ℕ) (at : ℕ) (x : List ℕ) (middle : ℕ) (y : List ℕ) (next : ℕ) → Stands bytes at x middle → Stands bytes middle y next → Stands bytes at (x ++ y) next
stands_both bytes at x middle y next p q = record {
  here = p.here ∙ ap (λ (rest : List ℕ). x ++ rest) q.here ∙ sym (append_assoc x y (drop next bytes));
  next_is = omega (arith, length-append x y, p.next_is, q.next_is);
  within = q.within;
}

pub stands_second : (bytes : List ℕ) (at : ℕ) (x y : List ℕ) (next : ℕ) → Stands bytes at (x ++ y) next → Stands bytes (at + length x) y next
stands_second bytes at x y next p = record {
  here = sym (drop-drop (length x) at bytes) ∙ ap (drop (length x)) (p.here ∙ append_assoc x y (drop next bytes)) ∙ drop_at x (y ++ drop next bytes) (length x) refl;
  next_is = omega (arith, length-append x y, p.next_is);
  within = p.within;
}

pub stands_first : (bytes : List ℕ) (at : ℕ) (x y : List ℕ) (next : ℕ) → Stands bytes at (x ++ y) next → Stands bytes at x (at + length x)
stands_first bytes at x y next p = record {
  here = p.here ∙ append_assoc x y (drop next bytes) ∙ ap (λ (rest : List ℕ). x ++ rest) (sym (stands_second bytes at x y next p).here);
  next_is = refl;
  within = omega (arith, length-append x y, p.next_is, p.within);
}

-- the bytes between the places
stands_taken : (bytes : List ℕ) (at : ℕ) (text : List ℕ) (next : ℕ) → Stands bytes at text next → take (length text) (drop at bytes) ≡ text
stands_taken bytes at text next p = ap (take (length text)) p.here ∙ take_at text (drop next bytes) (length text) refl

-- ---- steps that may fail

abbrev pub done : {A : Type 0} → A → Result A ℕ
done x = Ok x

pub bind_ok : {A B : Type 0} (r : Result A ℕ) (f : A → Result B ℕ) (y : B) → (r >>= f) ≡ Ok y → (x : A) × (r ≡ Ok x) × (f x ≡ Ok y)
bind_ok (Ok x) f y e = (x, refl, e)
bind_ok (Err place) f y e = absurd cc

-- a step failed, or the next one
pub bind_err : {A B : Type 0} (r : Result A ℕ) (f : A → Result B ℕ) (place : ℕ) → (r >>= f) ≡ Err place → (r ≡ Err place) ⊎ ((x : A) × (r ≡ Ok x) × (f x ≡ Err place))
bind_err (Ok x) f place e = inr (x, refl, e)
bind_err (Err p) f place e = inl cc

kept_err : {A : Type 0} (rule : Bool) (at : ℕ) (x : A) (place : ℕ) → cond rule (Ok x) (Err at) ≡ Err place → at ≡ place
kept_err true at x place e = absurd cc
kept_err false at x place e = cc

abbrev pub failed : (A : Type 0) → ℕ → Result A ℕ
failed A at = Err at

pub place_is : (A : Type 0) (at place : ℕ) → failed A at ≡ Err place → at ≡ place
place_is A at place e = cc

pub never_err : {A : Type 0} (x : A) (place : ℕ) → done x ≡ Err place → ⊥
never_err x place e = absurd cc

pub kept_ok : {A : Type 0} (rule : Bool) (place : ℕ) (x y : A) → cond rule (Ok x) (Err place) ≡ Ok y → (rule ≡ true) × (x ≡ y)
kept_ok true place x y e = (refl, cc)
kept_ok false place x y e = absurd cc

-- a fault at the place where the value begins
pub here_fault : (bytes : List ℕ) (at place : ℕ) → at ≤ length bytes → at ≡ place → IsFault bytes at place
here_fault bytes at place le e = record { begins = omega arith; within = omega arith }

-- a fault of what stands later
pub later_fault : (bytes : List ℕ) (at : ℕ) (text : List ℕ) (middle place : ℕ) → Stands bytes at text middle → IsFault bytes middle place → IsFault bytes at place
later_fault bytes at text middle place stands fault = record { begins = omega (arith, stands.next_is, fault.begins); within = fault.within }

pub ok_is : {A : Type 0} (x y : A) → done x ≡ done y → x ≡ y
ok_is x y e = cc

-- ---- so many bytes

pub span_codec : (count : ℕ) → IsCodec (span_at count) (λ text. text) (λ text. length text ≡ count)
unfolding span_at
span_codec count = record {
  found = λ bytes at text next fits le e.
      let k = kept_ok (leb (at + count) (length bytes)) at (take count (drop at bytes), at + count) (text, next) e in
      let long : at + count ≤ length bytes = le_of _ _ k.0 in
      let len : length (take count (drop at bytes)) ≡ count = omega (arith, length-take count (drop at bytes), length-drop at bytes) in
      let stands : Stands bytes at (take count (drop at bytes)) (at + count) = record {
        here = sym (take-append-drop count (drop at bytes)) ∙ ap (λ (rest : List ℕ). take count (drop at bytes) ++ rest) (drop-drop count at bytes);
        next_is = omega (arith, len);
        within = long;
      } in
      subst (λ (x : List ℕ × ℕ). Stands bytes at x.0 x.1 × (length x.0 ≡ count)) k.1 (stands, len);
  again = λ bytes at text next stands len.
      let long : leb (at + count) (length bytes) ≡ true = le_holds _ _ (omega (arith, stands.next_is, stands.within, len)) in
      let taken : take count (drop at bytes) ≡ text = subst (λ (n : ℕ). take n (drop at bytes) ≡ text) len (stands_taken bytes at text next stands) in
      let after : at + count ≡ next = omega (arith, stands.next_is, len) in
      rw (long, taken, after) refl;
  fault = λ bytes at place fits le e. here_fault bytes at place le (kept_err (leb (at + count) (length bytes)) at (take count (drop at bytes), at + count) place e);
}

-- ---- numbers

pub record IsWide (w : Width) (limit : ℕ) : Type 0 where
  pub len : (n : ℕ) → length (to_be_bytes w n) ≡ byte_len w
  pub back : (bytes : List ℕ) → length bytes ≡ byte_len w → IsBytes bytes → to_be_bytes w (from_be_bytes w bytes) ≡ bytes
  pub again : (n : ℕ) → n < limit → from_be_bytes w (to_be_bytes w n) ≡ n
  pub below : (bytes : List ℕ) → IsBytes bytes → from_be_bytes w bytes < limit

byte_back : (bytes : List ℕ) → length bytes ≡ 1 → IsBytes bytes → to_be_bytes w8 (from_be_bytes w8 bytes) ≡ bytes
byte_back [] len fits = absurd (omega arith)
byte_back (b ∷ []) len fits = let lt : b < 256 = fits 0 in ap (λ (n : ℕ). n ∷ []) (mod-eq_of_lt lt)
byte_back (b ∷ c ∷ rest) len fits = absurd (omega arith)

wide8 : IsWide w8 (2 ^ 8)
wide8 = record {
  len = λ n. refl;
  back = byte_back;
  again = λ n lt. mod-eq_of_lt lt;
  below = λ bytes fits. omega (arith, fits 0);
}

wide16 : IsWide w16 (2 ^ 16)
wide16 = record {
  len = λ n. refl;
  back = λ bytes len fits. be_bytes_2 bytes _ len fits refl;
  again = λ n lt. from_be_bytes-to_be_bytes_2 n lt;
  below = λ bytes fits. omega (arith, fits 0, fits 1);
}

pub wide32 : IsWide w32 (2 ^ 32)
wide32 = record {
  len = λ n. refl;
  back = λ bytes len fits. be_bytes_4 bytes _ len fits refl;
  again = λ n lt. from_be_bytes-to_be_bytes_4 n lt;
  below = λ bytes fits. omega (arith, fits 0, fits 1, fits 2, fits 3);
}

wide64 : IsWide w64 (2 ^ 64)
wide64 = record {
  len = λ n. refl;
  back = λ bytes len fits. be_bytes_8 bytes _ len fits refl;
  again = λ n lt. from_be_bytes-to_be_bytes_8 n lt;
  below = λ bytes fits. omega (arith, fits 0, fits 1, fits 2, fits 3, fits 4, fits 5, fits 6, fits 7);
}

IsBytes-span : (bytes : List ℕ) (at : ℕ) (text : List ℕ) (next : ℕ) → IsBytes bytes → Stands bytes at text next → IsBytes text
IsBytes-span bytes at text next fits stands = subst IsBytes (stands_taken bytes at text next stands) (bytes_taken (length text) (drop at bytes) (bytes_dropped at bytes fits))

-- so many bytes as a value of their own
pub byte_span_codec : (count : ℕ) → IsCodec (span_at count) (λ text. text) (λ text. (length text ≡ count) × IsBytes text)
byte_span_codec count = record {
  found = λ bytes at text next fits le e.
      let here = (span_codec count).found bytes at text next fits le e in
      (here.0, (here.1, IsBytes-span bytes at text next fits here.0));
  again = λ bytes at text next stands fits. (span_codec count).again bytes at text next stands fits.0;
  fault = (span_codec count).fault;
}

number_codec : (w : Width) (limit : ℕ) → IsWide w limit → IsCodec (number_at w) (to_be_bytes w) (λ n. n < limit)
unfolding number_at
number_codec w limit wide = record {
  found = λ bytes at n next fits le e.
      let b = bind_ok (span_at (byte_len w) bytes at) (λ span. Ok (from_be_bytes w span.0, span.1)) (n, next) e in
      let text = b.0.0 in
      let span = (span_codec (byte_len w)).found bytes at text b.0.1 fits le b.1 in
      let text_fits = IsBytes-span bytes at text b.0.1 fits span.0 in
      let stands : Stands bytes at (to_be_bytes w (from_be_bytes w text)) b.0.1 = rw (wide.back text span.1 text_fits) span.0 in
      subst (λ (x : ℕ × ℕ). Stands bytes at (to_be_bytes w x.0) x.1 × (x.0 < limit)) (ok_is (from_be_bytes w text, b.0.1) (n, next) b.2) (stands, wide.below text text_fits);
  again = λ bytes at n next stands lt.
      rw ((span_codec (byte_len w)).again bytes at (to_be_bytes w n) next stands (wide.len n), wide.again n lt) refl;
  fault = λ bytes at place fits le e.
      elim (bind_err (span_at (byte_len w) bytes at) (λ span. Ok (from_be_bytes w span.0, span.1)) place e) [
        | inl here ↦ (span_codec (byte_len w)).fault bytes at place fits le here
        | inr b ↦ absurd (never_err (from_be_bytes w b.0.0, b.0.1) place b.2)
      ];
}

one_byte : (n : ℕ) → n < 2 ^ 8 → to_be_bytes w8 n ≡ n ∷ []
one_byte n lt = ap (λ (b : ℕ). b ∷ []) (mod-eq_of_lt lt)

-- a byte spells itself
pub u8_codec : IsCodec (number_at w8) (λ n. n ∷ []) (λ n. n < 2 ^ 8)
u8_codec = record {
  found = λ bytes at n next fits le e.
      let here = (number_codec w8 (2 ^ 8) wide8).found bytes at n next fits le e in
      (rw (← one_byte n here.1) here.0, here.1);
  again = λ bytes at n next stands lt. (number_codec w8 (2 ^ 8) wide8).again bytes at n next (rw (one_byte n lt) stands) lt;
  fault = (number_codec w8 (2 ^ 8) wide8).fault;
}

pub u16_codec : IsCodec (number_at w16) (digits w16) (λ n. n < 2 ^ 16)
unfolding digits
u16_codec = number_codec w16 (2 ^ 16) wide16

pub u32_codec : IsCodec (number_at w32) (digits w32) (λ n. n < 2 ^ 32)
unfolding digits
u32_codec = number_codec w32 (2 ^ 32) wide32

pub u64_codec : IsCodec (number_at w64) (digits w64) (λ n. n < 2 ^ 64)
unfolding digits
u64_codec = number_codec w64 (2 ^ 64) wide64

-- ---- a rule of a field

pub ruled_codec : {A : Type 0} {read : Reader A} {spelling : A → List ℕ} {Fits : A → Type 0} → (rule : A → Bool) → IsCodec read spelling Fits → IsCodec (ruled rule read) spelling (λ x. Fits x × (rule x ≡ true))
unfolding ruled
ruled_codec {A} {read} {spelling} {Fits} rule codec = record {
  found = λ bytes at x next fits le e.
      let b = bind_ok (read bytes at) (λ y. cond (rule y.0) (Ok y) (Err at)) (x, next) e in
      let k = kept_ok (rule b.0.0) at b.0 (x, next) b.2 in
      let one = codec.found bytes at b.0.0 b.0.1 fits le b.1 in
      subst (λ (y : A × ℕ). Stands bytes at (spelling y.0) y.1 × (Fits y.0 × (rule y.0 ≡ true))) k.1 (one.0, (one.1, k.0));
  again = λ bytes at x next stands fits. rw (codec.again bytes at x next stands fits.0, fits.1) refl;
  fault = λ bytes at place fits le e.
      elim (bind_err (read bytes at) (λ y. cond (rule y.0) (Ok y) (Err at)) place e) [
        | inl here ↦ codec.fault bytes at place fits le here
        | inr b ↦ here_fault bytes at place le (kept_err (rule b.0.0) at b.0 place b.2)
      ];
}

-- ---- fields one after the other

pub record Found1 {A C : Type 0} (s : A → List ℕ) (F : A → Type 0) (made : A → C) (bytes : List ℕ) (at : ℕ) (whole : C) (next : ℕ) : Type 0 where
  pub first : A
  pub is : made first ≡ whole
  pub stands : Stands bytes at (s first) next
  pub fits : F first

pub found1 : {A C : Type 0} {read : Reader A} {s : A → List ℕ} {F : A → Type 0} → IsCodec read s F → (made : A → C) (bytes : List ℕ) (at : ℕ) (whole : C) (next : ℕ) → IsBytes bytes → at ≤ length bytes
    → one read made bytes at ≡ Ok (whole, next) → Found1 s F made bytes at whole next
found1 {A} {C} {read} {s} {F} codec made bytes at whole next fits le e =
    let b = bind_ok (read bytes at) (λ x. Ok (made x.0, x.1)) (whole, next) e in
    let here = codec.found bytes at b.0.0 b.0.1 fits le b.1 in
    let both = ok_is (made b.0.0, b.0.1) (whole, next) b.2 in
    record { first = b.0.0; is = ap (λ (x : C × ℕ). x.0) both; stands = subst (λ (n : ℕ). Stands bytes at (s b.0.0) n) (ap (λ (x : C × ℕ). x.1) both) here.0; fits = here.1 }

pub again1 : {A C : Type 0} {read : Reader A} {s : A → List ℕ} {F : A → Type 0} → IsCodec read s F → (made : A → C) (bytes : List ℕ) (at : ℕ) (x : A) (next : ℕ) → Stands bytes at (s x) next → F x
    → one read made bytes at ≡ Ok (made x, next)
again1 codec made bytes at x next stands fits = rw (codec.again bytes at x next stands fits) refl

pub fault1 : {A C : Type 0} {read : Reader A} {s : A → List ℕ} {F : A → Type 0} → IsCodec read s F → (made : A → C) (bytes : List ℕ) (at : ℕ) (place : ℕ) → IsBytes bytes → at ≤ length bytes
    → one read made bytes at ≡ Err place → IsFault bytes at place
fault1 {A} {C} {read} codec made bytes at place fits le e =
    elim (bind_err (read bytes at) (λ x. Ok (made x.0, x.1)) place e) [
      | inl here ↦ codec.fault bytes at place fits le here
      | inr b ↦ absurd (never_err (made b.0.0, b.0.1) place b.2)
    ]

pub record Found2 {A B C : Type 0} (s : A → List ℕ) (s' : A → B → List ℕ) (F : A → Type 0) (F' : A → B → Type 0) (made : A → B → C) (bytes : List ℕ) (at : ℕ) (whole : C) (next : ℕ) : Type 0 where
  pub first : A
  pub second : B
  pub is : made first second ≡ whole
  pub stands : Stands bytes at (s first ++ s' first second) next
  pub first_fits : F first
  pub second_fits : F' first second

pub found2 : {A B C : Type 0} {read : Reader A} {read' : A → Reader B} {s : A → List ℕ} {s' : A → B → List ℕ} {F : A → Type 0} {F' : A → B → Type 0}
    → IsCodec read s F → ((x : A) → F x → IsCodec (read' x) (s' x) (F' x)) → (made : A → B → C) (bytes : List ℕ) (at : ℕ) (whole : C) (next : ℕ) → IsBytes bytes → at ≤ length bytes
    → two read read' made bytes at ≡ Ok (whole, next) → Found2 s s' F F' made bytes at whole next
found2 {A} {B} {C} {read} {read'} {s} {s'} {F} {F'} codec codec' made bytes at whole next fits le e =
    let b = bind_ok (read bytes at) (λ x. read' x.0 bytes x.1 >>= λ y. Ok (made x.0 y.0, y.1)) (whole, next) e in
    let here = codec.found bytes at b.0.0 b.0.1 fits le b.1 in
    let rest = found1 (codec' b.0.0 here.1) (made b.0.0) bytes b.0.1 whole next fits here.0.within b.2 in
    record { first = b.0.0; second = rest.first; is = rest.is; stands = stands_both bytes at (s b.0.0) b.0.1 (s' b.0.0 rest.first) next here.0 rest.stands; first_fits = here.1; second_fits = rest.fits }

pub again2 : {A B C : Type 0} {read : Reader A} {read' : A → Reader B} {s : A → List ℕ} {s' : A → B → List ℕ} {F : A → Type 0} {F' : A → B → Type 0}
    → IsCodec read s F → ((x : A) → F x → IsCodec (read' x) (s' x) (F' x)) → (made : A → B → C) (bytes : List ℕ) (at : ℕ) (x : A) (y : B) (next : ℕ) → Stands bytes at (s x ++ s' x y) next → F x → F' x y
    → two read read' made bytes at ≡ Ok (made x y, next)
again2 {A} {B} {C} {read} {read'} {s} {s'} codec codec' made bytes at x y next stands fits fits' =
    rw (codec.again bytes at x (at + length (s x)) (stands_first bytes at (s x) (s' x y) next stands) fits, (codec' x fits).again bytes (at + length (s x)) y next (stands_second bytes at (s x) (s' x y) next stands) fits') refl

pub fault2 : {A B C : Type 0} {read : Reader A} {read' : A → Reader B} {s : A → List ℕ} {s' : A → B → List ℕ} {F : A → Type 0} {F' : A → B → Type 0}
    → IsCodec read s F → ((x : A) → F x → IsCodec (read' x) (s' x) (F' x)) → (made : A → B → C) (bytes : List ℕ) (at : ℕ) (place : ℕ) → IsBytes bytes → at ≤ length bytes
    → two read read' made bytes at ≡ Err place → IsFault bytes at place
fault2 {A} {B} {C} {read} {read'} {s} codec codec' made bytes at place fits le e =
    elim (bind_err (read bytes at) (λ x. read' x.0 bytes x.1 >>= λ y. Ok (made x.0 y.0, y.1)) place e) [
      | inl here ↦ codec.fault bytes at place fits le here
      | inr b ↦
          let here = codec.found bytes at b.0.0 b.0.1 fits le b.1 in
          later_fault bytes at (s b.0.0) b.0.1 place here.0 (fault1 (codec' b.0.0 here.1) (made b.0.0) bytes b.0.1 place fits here.0.within b.2)
    ]

-- ---- items

module _ {S A : Type 0} (item : S → Reader A) (after : S → A → S) (spelling : A → List ℕ) (Fits : S → A → Type 0) (codec : (state : S) → IsCodec (item state) spelling (Fits state)) where
  each_found : (n : ℕ) (state : S) (bytes : List ℕ) (at : ℕ) (xs : List A) (next : ℕ) → IsBytes bytes → at ≤ length bytes → each_at item after n state bytes at ≡ Ok (xs, next)
      → Stands bytes at (flat_map spelling xs) next × ((length xs ≡ n) × EachFits Fits after state xs)
  unfolding each_at
  each_found zero state bytes at xs next fits le e =
      subst (λ (x : List A × ℕ). Stands bytes at (flat_map spelling x.0) x.1 × ((length x.0 ≡ 0) × EachFits Fits after state x.0)) (ok_is ([], at) (xs, next) e) (stands_none bytes at le, (refl, tt))
  each_found (suc n) state bytes at xs next fits le e =
      let b = bind_ok (item state bytes at) (λ x. each_at item after n (after state x.0) bytes x.1 >>= λ y. Ok (x.0 ∷ y.0, y.1)) (xs, next) e in
      let c = bind_ok (each_at item after n (after state b.0.0) bytes b.0.1) (λ y. Ok (b.0.0 ∷ y.0, y.1)) (xs, next) b.2 in
      let one = (codec state).found bytes at b.0.0 b.0.1 fits le b.1 in
      let rest = each_found n (after state b.0.0) bytes b.0.1 c.0.0 c.0.1 fits one.0.within c.1 in
      let both = stands_both bytes at (spelling b.0.0) b.0.1 (flat_map spelling c.0.0) c.0.1 one.0 rest.0 in
      subst (λ (x : List A × ℕ). Stands bytes at (flat_map spelling x.0) x.1 × ((length x.0 ≡ suc n) × EachFits Fits after state x.0)) (ok_is (b.0.0 ∷ c.0.0, c.0.1) (xs, next) c.2) (rw flat_map-cons both, (ap suc rest.1.0, (one.1, rest.1.1)))

  each_again : (state : S) (bytes : List ℕ) (at : ℕ) (xs : List A) (next : ℕ) → Stands bytes at (flat_map spelling xs) next → EachFits Fits after state xs → each_at item after (length xs) state bytes at ≡ Ok (xs, next)
  unfolding each_at
  each_again state bytes at [] next stands fits = let e : at ≡ next = omega (arith, stands.next_is) in rw e refl
  each_again state bytes at (x ∷ xs) next stands fits =
      let both : Stands bytes at (spelling x ++ flat_map spelling xs) next = rw (← flat_map-cons spelling x xs) stands in
      let one = (codec state).again bytes at x (at + length (spelling x)) (stands_first bytes at (spelling x) (flat_map spelling xs) next both) fits.0 in
      let rest = each_again (after state x) bytes (at + length (spelling x)) xs next (stands_second bytes at (spelling x) (flat_map spelling xs) next both) fits.1 in
      rw (one, rest) refl

  each_fault : (n : ℕ) (state : S) (bytes : List ℕ) (at : ℕ) (place : ℕ) → IsBytes bytes → at ≤ length bytes → each_at item after n state bytes at ≡ Err place → IsFault bytes at place
  unfolding each_at
  each_fault zero state bytes at place fits le e = absurd (never_err ([], at) place e)
  each_fault (suc n) state bytes at place fits le e =
      elim (bind_err (item state bytes at) (λ x. each_at item after n (after state x.0) bytes x.1 >>= λ y. Ok (x.0 ∷ y.0, y.1)) place e) [
        | inl here ↦ (codec state).fault bytes at place fits le here
        | inr b ↦
            let one = (codec state).found bytes at b.0.0 b.0.1 fits le b.1 in
            elim (bind_err (each_at item after n (after state b.0.0) bytes b.0.1) (λ y. Ok (b.0.0 ∷ y.0, y.1)) place b.2) [
              | inl there ↦ later_fault bytes at (spelling b.0.0) b.0.1 place one.0 (each_fault n (after state b.0.0) bytes b.0.1 place fits one.0.within there)
              | inr c ↦ absurd (never_err (b.0.0 ∷ c.0.0, c.0.1) place c.2)
            ]
      ]

  pub each_codec : (n : ℕ) (state : S) → IsCodec (each_at item after n state) (flat_map spelling) (λ xs. (length xs ≡ n) × EachFits Fits after state xs)
  each_codec n state = record {
    found = each_found n state;
    fault = each_fault n state;
    again = λ bytes at xs next stands fits. subst (λ (k : ℕ). each_at item after k state bytes at ≡ Ok (xs, next)) fits.0 (each_again state bytes at xs next stands fits.1);
  }

-- ---- kinds

-- what the reader of a kind finds, stands behind the kind
pub record IsBranch {A : Type 0} (spelling : A → List ℕ) (Fits : A → Type 0) (kind : ℕ) (read : Reader A) : Type 0 where
  pub byte : kind < 2 ^ 8
  pub found : (bytes : List ℕ) (at : ℕ) (x : A) (next : ℕ) → IsBytes bytes → at ≤ length bytes → read bytes at ≡ Ok (x, next) → (text : List ℕ) × (spelling x ≡ kind ∷ text) × Stands bytes at text next × Fits x
  pub fault : (bytes : List ℕ) (at : ℕ) (place : ℕ) → IsBytes bytes → at ≤ length bytes → read bytes at ≡ Err place → IsFault bytes at place

kind_ok : {A : Type 0} (same : Bool) (r r' : Result A ℕ) (x : A) → cond same r r' ≡ Ok x → ((same ≡ true) × (r ≡ Ok x)) ⊎ (r' ≡ Ok x)
kind_ok true r r' x e = inl (refl, e)
kind_ok false r r' x e = inr e

module _ {A : Type 0} (spelling : A → List ℕ) (Fits : A → Type 0) where
  of_kind_found : (kinds : List (ℕ × Reader A)) → AllByRecursion (λ (k : ℕ × Reader A). IsBranch spelling Fits k.0 k.1) kinds → (place kind : ℕ) (bytes : List ℕ) (at : ℕ) (x : A) (next : ℕ) → IsBytes bytes → at ≤ length bytes
      → of_kind kinds place kind bytes at ≡ Ok (x, next) → (text : List ℕ) × (spelling x ≡ kind ∷ text) × Stands bytes at text next × Fits x
  of_kind_found [] all place kind bytes at x next fits le e = absurd cc
  of_kind_found (k ∷ kinds) all place kind bytes at x next fits le e =
      elim (kind_ok (eqb kind k.0) (k.1 bytes at) (of_kind kinds place kind bytes at) (x, next) e) [
        | inl here ↦
            let r = all.0.found bytes at x next fits le here.1 in
            (r.0, r.1 ∙ ap (λ (n : ℕ). n ∷ r.0) (sym (eq_of kind k.0 here.0)), r.2, r.3)
        | inr there ↦ of_kind_found kinds all.1 place kind bytes at x next fits le there
      ]

  pub tagged_found : (kinds : List (ℕ × Reader A)) → AllByRecursion (λ (k : ℕ × Reader A). IsBranch spelling Fits k.0 k.1) kinds → (bytes : List ℕ) (at : ℕ) (x : A) (next : ℕ) → IsBytes bytes → at ≤ length bytes
      → tagged_at kinds bytes at ≡ Ok (x, next) → Stands bytes at (spelling x) next × Fits x
  tagged_found kinds all bytes at x next fits le e =
      let b = bind_ok (number_at w8 bytes at) (λ kind. of_kind kinds at kind.0 bytes kind.1) (x, next) e in
      let kind = u8_codec.found bytes at b.0.0 b.0.1 fits le b.1 in
      let r = of_kind_found kinds all at b.0.0 bytes b.0.1 x next fits kind.0.within b.2 in
      (rw r.1 (stands_both bytes at (b.0.0 ∷ []) b.0.1 r.0 next kind.0 r.2), r.3)

kind_err : {A : Type 0} (same : Bool) (r r' : Result A ℕ) (place : ℕ) → cond same r r' ≡ Err place → (r ≡ Err place) ⊎ (r' ≡ Err place)
kind_err true r r' place e = inl e
kind_err false r r' place e = inr e

module _ {A : Type 0} (spelling : A → List ℕ) (Fits : A → Type 0) where
  of_kind_fault : (kinds : List (ℕ × Reader A)) → AllByRecursion (λ (k : ℕ × Reader A). IsBranch spelling Fits k.0 k.1) kinds → (tag kind : ℕ) (bytes : List ℕ) (at : ℕ) (place : ℕ) → IsBytes bytes → tag ≤ at → at ≤ length bytes
      → of_kind kinds tag kind bytes at ≡ Err place → IsFault bytes tag place
  of_kind_fault [] all tag kind bytes at place fits le le' e = here_fault bytes tag place (omega arith) (place_is (A × ℕ) tag place e)
  of_kind_fault (k ∷ kinds) all tag kind bytes at place fits le le' e =
      elim (kind_err (eqb kind k.0) (k.1 bytes at) (of_kind kinds tag kind bytes at) place e) [
        | inl here ↦ let f = all.0.fault bytes at place fits le' here in record { begins = omega (arith, f.begins); within = f.within }
        | inr there ↦ of_kind_fault kinds all.1 tag kind bytes at place fits le le' there
      ]

  pub tagged_fault : (kinds : List (ℕ × Reader A)) → AllByRecursion (λ (k : ℕ × Reader A). IsBranch spelling Fits k.0 k.1) kinds → (bytes : List ℕ) (at : ℕ) (place : ℕ) → IsBytes bytes → at ≤ length bytes
      → tagged_at kinds bytes at ≡ Err place → IsFault bytes at place
  tagged_fault kinds all bytes at place fits le e =
      elim (bind_err (number_at w8 bytes at) (λ kind. of_kind kinds at kind.0 bytes kind.1) place e) [
        | inl here ↦ u8_codec.fault bytes at place fits le here
        | inr b ↦
            let kind = u8_codec.found bytes at b.0.0 b.0.1 fits le b.1 in
            of_kind_fault kinds all at b.0.0 bytes b.0.1 place fits (omega (arith, kind.0.next_is)) kind.0.within b.2
      ]

pub tagged_again : {A : Type 0} (kinds : List (ℕ × Reader A)) (bytes : List ℕ) (at kind : ℕ) (text : List ℕ) (x : A) (next : ℕ) → kind < 2 ^ 8 → Stands bytes at (kind ∷ text) next
    → of_kind kinds at kind bytes (at + 1) ≡ Ok (x, next) → tagged_at kinds bytes at ≡ Ok (x, next)
tagged_again kinds bytes at kind text x next lt stands e =
    rw (u8_codec.again bytes at kind (at + 1) (stands_first bytes at (kind ∷ []) text next stands) lt) e

pub branch1 : {A C : Type 0} {read : Reader A} {s : A → List ℕ} {F : A → Type 0} {spelling : C → List ℕ} {Fits : C → Type 0} {kind : ℕ} → kind < 2 ^ 8 → IsCodec read s F → (made : A → C)
    → ((x : A) → spelling (made x) ≡ kind ∷ s x) → ((x : A) → F x → Fits (made x)) → IsBranch spelling Fits kind (one read made)
branch1 {A} {C} {read} {s} {F} {spelling} {Fits} {kind} byte codec made spells fit = record {
  byte = byte;
  found = λ bytes at whole next fits le e.
      let r = found1 codec made bytes at whole next fits le e in
      subst (λ (c : C). (text : List ℕ) × (spelling c ≡ kind ∷ text) × Stands bytes at text next × Fits c) r.is (s r.first, spells r.first, r.stands, fit r.first r.fits);
  fault = fault1 codec made;
}

pub branch2 : {A B C : Type 0} {read : Reader A} {read' : A → Reader B} {s : A → List ℕ} {s' : A → B → List ℕ} {F : A → Type 0} {F' : A → B → Type 0} {spelling : C → List ℕ} {Fits : C → Type 0} {kind : ℕ} → kind < 2 ^ 8
    → IsCodec read s F → ((x : A) → F x → IsCodec (read' x) (s' x) (F' x)) → (made : A → B → C)
    → ((x : A) (y : B) → spelling (made x y) ≡ kind ∷ (s x ++ s' x y)) → ((x : A) (y : B) → F x → F' x y → Fits (made x y)) → IsBranch spelling Fits kind (two read read' made)
branch2 {A} {B} {C} {read} {read'} {s} {s'} {F} {F'} {spelling} {Fits} {kind} byte codec codec' made spells fit = record {
  byte = byte;
  found = λ bytes at whole next fits le e.
      let r = found2 codec codec' made bytes at whole next fits le e in
      subst (λ (c : C). (text : List ℕ) × (spelling c ≡ kind ∷ text) × Stands bytes at text next × Fits c) r.is (s r.first ++ s' r.first r.second, spells r.first r.second, r.stands, fit r.first r.second r.first_fits r.second_fits);
  fault = fault2 codec codec' made;
}

pub tagged_again1 : {A C : Type 0} {read : Reader A} {s : A → List ℕ} {F : A → Type 0} (kinds : List (ℕ × Reader C)) (kind : ℕ) → kind < 2 ^ 8 → IsCodec read s F → (made : A → C) (bytes : List ℕ) (at : ℕ) (x : A) (next : ℕ)
    → of_kind kinds at kind bytes (at + 1) ≡ one read made bytes (at + 1) → Stands bytes at (kind ∷ s x) next → F x → tagged_at kinds bytes at ≡ Ok (made x, next)
tagged_again1 {A} {C} {read} {s} kinds kind byte codec made bytes at x next e stands fits =
    tagged_again kinds bytes at kind (s x) (made x) next byte stands (e ∙ again1 codec made bytes (at + 1) x next (stands_second bytes at (kind ∷ []) (s x) next stands) fits)

pub tagged_again2 : {A B C : Type 0} {read : Reader A} {read' : A → Reader B} {s : A → List ℕ} {s' : A → B → List ℕ} {F : A → Type 0} {F' : A → B → Type 0} (kinds : List (ℕ × Reader C)) (kind : ℕ) → kind < 2 ^ 8
    → IsCodec read s F → ((x : A) → F x → IsCodec (read' x) (s' x) (F' x)) → (made : A → B → C) (bytes : List ℕ) (at : ℕ) (x : A) (y : B) (next : ℕ)
    → of_kind kinds at kind bytes (at + 1) ≡ two read read' made bytes (at + 1) → Stands bytes at (kind ∷ (s x ++ s' x y)) next → F x → F' x y → tagged_at kinds bytes at ≡ Ok (made x y, next)
tagged_again2 {A} {B} {C} {read} {read'} {s} {s'} kinds kind byte codec codec' made bytes at x y next e stands fits fits' =
    tagged_again kinds bytes at kind (s x ++ s' x y) (made x y) next byte stands (e ∙ again2 codec codec' made bytes (at + 1) x y next (stands_second bytes at (kind ∷ []) (s x ++ s' x y) next stands) fits fits')

-- ---- a count, and what is as long as it

-- what stands behind its count
abbrev pub counted : {A : Type 0} → Reader ℕ → (ℕ → Reader A) → Reader A
counted count items bytes at = count bytes at >>= λ n. items n.0 bytes n.1

module _ {A : Type 0} {count : Reader ℕ} {items : ℕ → Reader A} {spelled : ℕ → List ℕ} {s : A → List ℕ} {CountFits : ℕ → Type 0} {ItemsFit : ℕ → A → Type 0} (count_of : A → ℕ)
    (codec : IsCodec count spelled CountFits) (codec' : (n : ℕ) → CountFits n → IsCodec (items n) s (ItemsFit n)) (len : (n : ℕ) (x : A) → ItemsFit n x → count_of x ≡ n) where
  pub counted_codec : IsCodec (counted count items) (λ x. spelled (count_of x) ++ s x) (λ x. CountFits (count_of x) × ItemsFit (count_of x) x)
  counted_codec = record {
    found = λ bytes at x next fits le e.
        let b = bind_ok (count bytes at) (λ n. items n.0 bytes n.1) (x, next) e in
        let one = codec.found bytes at b.0.0 b.0.1 fits le b.1 in
        let rest = (codec' b.0.0 one.1).found bytes b.0.1 x next fits one.0.within b.2 in
        let both = stands_both bytes at (spelled b.0.0) b.0.1 (s x) next one.0 rest.0 in
        subst (λ (n : ℕ). Stands bytes at (spelled n ++ s x) next × (CountFits n × ItemsFit n x)) (sym (len b.0.0 x rest.1)) (both, (one.1, rest.1));
    again = λ bytes at x next stands fits.
        let n = count_of x in
        let first = stands_first bytes at (spelled n) (s x) next stands in
        let second = stands_second bytes at (spelled n) (s x) next stands in
        rw (codec.again bytes at n (at + length (spelled n)) first fits.0) ((codec' n fits.0).again bytes (at + length (spelled n)) x next second fits.1);
    fault = λ bytes at place fits le e.
        elim (bind_err (count bytes at) (λ n. items n.0 bytes n.1) place e) [
          | inl here ↦ codec.fault bytes at place fits le here
          | inr b ↦
              let one = codec.found bytes at b.0.0 b.0.1 fits le b.1 in
              later_fault bytes at (spelled b.0.0) b.0.1 place one.0 ((codec' b.0.0 one.1).fault bytes b.0.1 place fits one.0.within b.2)
        ];
  }

-- ---- what a field's bytes mean

made_ok : {A E : Type 0} (r : Result A E) (at next : ℕ) (x : A) (last : ℕ) → made_at at r next ≡ Ok (x, last) → (r ≡ Ok x) × (next ≡ last)
made_ok {A} (Ok y) at next x last e =
    let pair = ok_is (y, next) (x, last) e in
    (ap (λ (p : A × ℕ). Ok p.0) pair, ap (λ (p : A × ℕ). p.1) pair)
made_ok (Err f) at next x last e = absurd cc

made_err : {A E : Type 0} (r : Result A E) (at next place : ℕ) → made_at at r next ≡ Err place → at ≡ place
made_err (Ok y) at next place e = absurd (never_err (y, next) place e)
made_err {A} (Err f) at next place e = place_is (A × ℕ) at place e

module _ {A B E : Type 0} {meaning : A → Result B E} {read : Reader A} {spelling : A → List ℕ} {Fits : A → Type 0} {FitsToo : B → Type 0} (name : B → A)
    (codec : IsCodec read spelling Fits)
    (meant : (text : A) (x : B) → meaning text ≡ Ok x → FitsToo x × (name x ≡ text)) (named : (x : B) → FitsToo x → meaning (name x) ≡ Ok x) where
  pub mapped_codec : IsCodec (mapped meaning read) (λ x. spelling (name x)) (λ x. Fits (name x) × FitsToo x)
  unfolding mapped
  mapped_codec = record {
    found = λ bytes at x next fits le e.
        let b = bind_ok (read bytes at) (λ y. made_at at (meaning y.0) y.1) (x, next) e in
        let m = made_ok (meaning b.0.0) at b.0.1 x next b.2 in
        let here = codec.found bytes at b.0.0 b.0.1 fits le b.1 in
        let is = meant b.0.0 x m.0 in
        let stands : Stands bytes at (spelling (name x)) next = subst (λ (t : A). Stands bytes at (spelling t) next) (sym is.1) (subst (λ (n : ℕ). Stands bytes at (spelling b.0.0) n) m.1 here.0) in
        (stands, (subst Fits (sym is.1) here.1, is.0));
    again = λ bytes at x next stands fits. rw (codec.again bytes at (name x) next stands fits.0, named x fits.1) refl;
    fault = λ bytes at place fits le e.
        elim (bind_err (read bytes at) (λ y. made_at at (meaning y.0) y.1) place e) [
          | inl here ↦ codec.fault bytes at place fits le here
          | inr b ↦ here_fault bytes at place le (made_err (meaning b.0.0) at b.0.1 place b.2)
        ];
  }

-- the same law for what says the same
pub codec_for : {A : Type 0} {read : Reader A} {spelling : A → List ℕ} {Fits Fits' : A → Type 0} → IsCodec read spelling Fits → ((x : A) → Fits x → Fits' x) → ((x : A) → Fits' x → Fits x) → IsCodec read spelling Fits'
codec_for codec to back = record {
  found = λ bytes at x next fits le e. let r = codec.found bytes at x next fits le e in (r.0, to x r.1);
  again = λ bytes at x next stands fits. codec.again bytes at x next stands (back x fits);
  fault = codec.fault;
}

-- ---- three fields, and none

pub record Found3 {A B C D : Type 0} (s : A → List ℕ) (s' : A → B → List ℕ) (s'' : A → B → C → List ℕ) (F : A → Type 0) (F' : A → B → Type 0) (F'' : A → B → C → Type 0) (made : A → B → C → D) (bytes : List ℕ) (at : ℕ) (whole : D) (next : ℕ) : Type 0 where
  pub first : A
  pub second : B
  pub third : C
  pub is : made first second third ≡ whole
  pub stands : Stands bytes at (s first ++ (s' first second ++ s'' first second third)) next
  pub first_fits : F first
  pub second_fits : F' first second
  pub third_fits : F'' first second third

module _ {A B C D : Type 0} {read : Reader A} {read' : A → Reader B} {read'' : A → B → Reader C} {s : A → List ℕ} {s' : A → B → List ℕ} {s'' : A → B → C → List ℕ} {F : A → Type 0} {F' : A → B → Type 0} {F'' : A → B → C → Type 0}
    (codec : IsCodec read s F) (codec' : (x : A) → F x → IsCodec (read' x) (s' x) (F' x)) (codec'' : (x : A) (y : B) → F x → F' x y → IsCodec (read'' x y) (s'' x y) (F'' x y)) (made : A → B → C → D) where
  pub found3 : (bytes : List ℕ) (at : ℕ) (whole : D) (next : ℕ) → IsBytes bytes → at ≤ length bytes → three read read' read'' made bytes at ≡ Ok (whole, next) → Found3 s s' s'' F F' F'' made bytes at whole next
  found3 bytes at whole next fits le e =
      let b = bind_ok (read bytes at) (λ x. read' x.0 bytes x.1 >>= λ y. read'' x.0 y.0 bytes y.1 >>= λ z. Ok (made x.0 y.0 z.0, z.1)) (whole, next) e in
      let here = codec.found bytes at b.0.0 b.0.1 fits le b.1 in
      let rest = found2 (codec' b.0.0 here.1) (λ y f. codec'' b.0.0 y here.1 f) (made b.0.0) bytes b.0.1 whole next fits here.0.within b.2 in
      record { first = b.0.0; second = rest.first; third = rest.second; is = rest.is; stands = stands_both bytes at (s b.0.0) b.0.1 (s' b.0.0 rest.first ++ s'' b.0.0 rest.first rest.second) next here.0 rest.stands; first_fits = here.1; second_fits = rest.first_fits; third_fits = rest.second_fits }

  pub again3 : (bytes : List ℕ) (at : ℕ) (x : A) (y : B) (z : C) (next : ℕ) → Stands bytes at (s x ++ (s' x y ++ s'' x y z)) next → F x → F' x y → F'' x y z → three read read' read'' made bytes at ≡ Ok (made x y z, next)
  again3 bytes at x y z next stands fits fits' fits'' =
      rw (codec.again bytes at x (at + length (s x)) (stands_first bytes at (s x) (s' x y ++ s'' x y z) next stands) fits)
      (again2 (codec' x fits) (λ v f. codec'' x v fits f) (made x) bytes (at + length (s x)) y z next (stands_second bytes at (s x) (s' x y ++ s'' x y z) next stands) fits' fits'')

  pub fault3 : (bytes : List ℕ) (at : ℕ) (place : ℕ) → IsBytes bytes → at ≤ length bytes → three read read' read'' made bytes at ≡ Err place → IsFault bytes at place
  fault3 bytes at place fits le e =
      elim (bind_err (read bytes at) (λ x. read' x.0 bytes x.1 >>= λ y. read'' x.0 y.0 bytes y.1 >>= λ z. Ok (made x.0 y.0 z.0, z.1)) place e) [
        | inl here ↦ codec.fault bytes at place fits le here
        | inr b ↦
            let here = codec.found bytes at b.0.0 b.0.1 fits le b.1 in
            later_fault bytes at (s b.0.0) b.0.1 place here.0 (fault2 (codec' b.0.0 here.1) (λ y f. codec'' b.0.0 y here.1 f) (made b.0.0) bytes b.0.1 place fits here.0.within b.2)
      ]

-- ---- a value of a known length at most: a field that ends past it is faulty, as one that passes the bytes is

stands_of : (bytes : List ℕ) (at : ℕ) (text : List ℕ) (next : ℕ) → take (length text) (drop at bytes) ≡ text → next ≡ at + length text → next ≤ length bytes → Stands bytes at text next
stands_of bytes at text next taken next_is within = record {
  here = sym (take-append-drop (length text) (drop at bytes)) ∙ ap (λ (x : List ℕ). x ++ drop (length text) (drop at bytes)) taken ∙ ap (λ (x : List ℕ). text ++ x) (drop-drop (length text) at bytes ∙ ap (λ (n : ℕ). drop n bytes) (sym next_is));
  next_is = next_is;
  within = within;
}

take_front : {A : Type 0} (k room : ℕ) (xs : List A) → k ≤ room → take k (take room xs) ≡ take k xs
take_front zero room xs le = refl
take_front (suc k) zero xs le = absurd (omega arith)
take_front (suc k) (suc room) [] le = refl
take_front (suc k) (suc room) (x ∷ xs) le = ap (λ (rest : List _). x ∷ rest) (take_front k room xs (omega arith))

-- so far as the room goes, the shortened bytes are the bytes
same_front : (bytes : List ℕ) (at room k : ℕ) → k ≤ room → take k (drop at (take (at + room) bytes)) ≡ take k (drop at bytes)
same_front bytes at room k le = ap (take k) (drop-take at room bytes) ∙ take_front k room (drop at bytes) le

module _ {A : Type 0} {read : Reader A} {spelling : A → List ℕ} {Fits : A → Type 0} (room : ℕ) (codec : IsCodec read spelling Fits) where
  pub limited_codec : IsCodec (limited room read) spelling (λ x. Fits x × (length (spelling x) ≤ room))
  unfolding limited
  limited_codec = record {
    found = λ bytes at x next fits le e.
        let short = take (at + room) bytes in
        let len = length-take (at + room) bytes in
        let r = codec.found short at x next (bytes_taken (at + room) bytes fits) (omega (arith, len)) e in
        let small : length (spelling x) ≤ room = omega (arith, r.0.next_is, r.0.within, len) in
        let taken : take (length (spelling x)) (drop at bytes) ≡ spelling x = sym (same_front bytes at room (length (spelling x)) small) ∙ stands_taken short at (spelling x) next r.0 in
        (stands_of bytes at (spelling x) next taken r.0.next_is (omega (arith, r.0.within, len)), (r.1, small));
    again = λ bytes at x next stands fits.
        let len = length-take (at + room) bytes in
        let taken = same_front bytes at room (length (spelling x)) fits.1 ∙ stands_taken bytes at (spelling x) next stands in
        codec.again (take (at + room) bytes) at x next (stands_of (take (at + room) bytes) at (spelling x) next taken stands.next_is (omega (arith, stands.next_is, stands.within, fits.1, len))) fits.0;
    fault = λ bytes at place fits le e.
        let len = length-take (at + room) bytes in
        let p = codec.fault (take (at + room) bytes) at place (bytes_taken (at + room) bytes fits) (omega (arith, len)) e in
        record { begins = p.begins; within = omega (arith, p.within, len) };
  }

-- ---- no field

pub branch0 : {C : Type 0} {spelling : C → List ℕ} {Fits : C → Type 0} {kind : ℕ} → kind < 2 ^ 8 → (made : C) → spelling made ≡ kind ∷ [] → Fits made → IsBranch spelling Fits kind (none made)
branch0 {C} {spelling} {Fits} {kind} byte made spells fit = record {
  byte = byte;
  found = λ bytes at whole next fits le e.
      subst (λ (x : C × ℕ). (text : List ℕ) × (spelling x.0 ≡ kind ∷ text) × Stands bytes at text x.1 × Fits x.0) (ok_is (made, at) (whole, next) e) ([], spells, stands_none bytes at le, fit);
  fault = λ bytes at place fits le e. absurd (never_err (made, at) place e);
}

pub tagged_again0 : {C : Type 0} (kinds : List (ℕ × Reader C)) (kind : ℕ) → kind < 2 ^ 8 → (made : C) (bytes : List ℕ) (at next : ℕ)
    → of_kind kinds at kind bytes (at + 1) ≡ none made bytes (at + 1) → Stands bytes at (kind ∷ []) next → tagged_at kinds bytes at ≡ Ok (made, next)
tagged_again0 kinds kind byte made bytes at next e stands =
    let one : at + 1 ≡ next = omega (arith, stands.next_is) in
    tagged_again kinds bytes at kind [] made next byte stands (rw (e, one) refl)

-- ---- one spelling for each value, one value for each spelling, and none the front of another

pub stands_at_front : (text rest : List ℕ) → Stands (text ++ rest) 0 text (length text)
stands_at_front text rest = record {
  here = ap (λ (x : List ℕ). text ++ x) (sym (drop_at text rest (length text) refl));
  next_is = omega arith;
  within = omega (arith, length-append text rest);
}

module _ {A : Type 0} {read : Reader A} {spelling : A → List ℕ} {Fits : A → Type 0} (codec : IsCodec read spelling Fits) where
  pub one_value : (x y : A) (rest rest' : List ℕ) → Fits x → Fits y → spelling x ++ rest ≡ spelling y ++ rest' → (x ≡ y) × (rest ≡ rest')
  one_value x y rest rest' fits fits' e =
      let a = codec.again (spelling x ++ rest) 0 x (length (spelling x)) (stands_at_front (spelling x) rest) fits in
      let b = codec.again (spelling y ++ rest') 0 y (length (spelling y)) (stands_at_front (spelling y) rest') fits' in
      let same : done {A = A × ℕ} (x, length (spelling x)) ≡ Ok (y, length (spelling y)) = sym a ∙ ap (λ (bytes : List ℕ). read bytes 0) e ∙ b in
      let pair = ok_is (x, length (spelling x)) (y, length (spelling y)) same in
      let is : x ≡ y = ap (λ (p : A × ℕ). p.0) pair in
      let len : length (spelling x) ≡ length (spelling y) = ap (λ (p : A × ℕ). p.1) pair in
      (is, sym (drop_at (spelling x) rest (length (spelling x)) refl) ∙ ap (drop (length (spelling x))) e ∙ ap (λ (n : ℕ). drop n (spelling y ++ rest')) len ∙ drop_at (spelling y) rest' (length (spelling y)) refl)
