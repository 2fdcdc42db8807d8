-- The laws of records to the end of the bytes, of which the last may be torn.
use Rattle.std.proofs.Common.{◌≡◌, ◌⊎◌, ℕ, zero, suc, ◌+◌, ◌-◌, ◌^◌, ◌<◌, ◌≤◌, Bool, true, false, cond, eqb, leb, List, [], ◌∷◌, ◌++◌, length, take, drop, Result, Ok, Err, refl, sym, ap, subst, ◌∙◌, arith, inl, inr, append_assoc, length-append}
use Rattle.std.specs.Int.{Width, w32, byte_len, from_be_bytes}
use Rattle.std.proofs.lemmas.Bool.{cases_lt}
use Rattle.std.proofs.lemmas.List.Concat.{flat_map-cons}
use Rattle.byte_fields.specs.Field.{Reader, ◌>>=◌, digits, span_at, number_at, limited, passed, EachFits}
use Rattle.byte_fields.specs.Codec.{Stands, IsBytes, IsCodec}
use Rattle.byte_fields.specs.Broken.{IsRead, IsRefused}
use Rattle.byte_fields.specs.Records.{framed, frame_at, is_torn, framed_at, records_at, EachIsFramed, all_framed, WholeRecordsAreRead, TornRecordsAreLeft, OnlyRecordsAreRead, FaultyRecordsAreRefused, LeftBytesAreRefused}
use Rattle.byte_fields.proofs.Facts.{le_of, le_fails, eq_of, eq_fails, eq_itself, four_bytes, stands_before}
use Rattle.byte_fields.proofs.Codec.{bind_ok, kept_ok, ok_is, failed, span_codec, u32_codec, limited_codec, stands_none, stands_both, stands_first, stands_second}
use Rattle.byte_fields.proofs.Cutting.{again_cut, span_cut, u32_cut}

-- ---- where fields end

pub span_ends : (count : ℕ) (bytes : List ℕ) (at : ℕ) (text : List ℕ) (next : ℕ) → span_at count bytes at ≡ Ok (text, next) → (next ≡ at + count) × (next ≤ length bytes)
unfolding span_at
span_ends count bytes at text next e =
    let k = kept_ok (leb (at + count) (length bytes)) at (take count (drop at bytes), at + count) (text, next) e in
    let same : at + count ≡ next = ap (λ (x : List ℕ × ℕ). x.1) k.1 in
    (sym same, omega (arith, same, le_of (at + count) (length bytes) k.0))

pub number_ends : (w : Width) (bytes : List ℕ) (at n next : ℕ) → number_at w bytes at ≡ Ok (n, next) → next ≡ at + byte_len w
unfolding number_at
number_ends w bytes at n next e =
    let b = bind_ok (span_at (byte_len w) bytes at) (λ span. Ok (from_be_bytes w span.0, span.1)) (n, next) e in
    let same = ok_is (from_be_bytes w b.0.0, b.0.1) (n, next) b.2 in
    sym (ap (λ (x : ℕ × ℕ). x.1) same) ∙ (span_ends (byte_len w) bytes at b.0.0 b.0.1 b.1).0

-- ---- one record

-- where a record stands: its length, its text, and the text in the bytes that end with it
pub record Frame (bytes : List ℕ) (at : ℕ) (text : List ℕ) (next : ℕ) : Type 0 where
  pub start : ℕ
  pub start_is : start ≡ at + 4
  pub size : number_at w32 bytes at ≡ Ok (length text, start)
  pub span : span_at (length text) bytes start ≡ Ok (text, next)
  pub behind : Stands bytes start text next
  pub inside : Stands (take next bytes) start text next

pub frame_of : (bytes : List ℕ) (at : ℕ) (text : List ℕ) (next : ℕ) → Stands bytes at (framed text) next → length text < 2 ^ 32 → Frame bytes at text next
frame_of bytes at text next stands small =
    let four = digits w32 (length text) in
    let behind = stands_second bytes at four text next stands in
    let end : next + 0 ≡ next = omega arith in
    record {
      start = at + length four;
      start_is = omega (arith, four_bytes (length text));
      size = u32_codec.again bytes at (length text) (at + length four) (stands_first bytes at four text next stands) small;
      span = (span_codec (length text)).again bytes (at + length four) text next behind refl;
      behind = behind;
      inside = subst (λ (n : ℕ). Stands (take n bytes) (at + length four) text next) end (stands_before bytes (at + length four) text next 0 behind);
    }

-- a whole record is not torn
pub whole_is_not_torn : (bytes : List ℕ) (at : ℕ) (text : List ℕ) (next : ℕ) → Stands bytes at (framed text) next → length text < 2 ^ 32 → is_torn bytes at ≡ false
unfolding is_torn frame_at
whole_is_not_torn bytes at text next stands small = let f = frame_of bytes at text next stands small in rw (f.size, f.span) refl

-- a record in which the bytes end is torn
pub cut_is_torn : (bytes : List ℕ) (at : ℕ) (text : List ℕ) (next end : ℕ) → Stands bytes at (framed text) next → length text < 2 ^ 32 → at ≤ end → end < next → is_torn (take end bytes) at ≡ true
unfolding is_torn frame_at
cut_is_torn bytes at text next end stands small le lt =
    let four = digits w32 (length text) in
    let first = stands_first bytes at four text next stands in
    let behind = stands_second bytes at four text next stands in
    elim (cases_lt end (at + length four)) [
      | inl short ↦ rw (u32_cut.cut bytes at (length text) (at + length four) end first small le short) refl
      | inr long ↦ rw (again_cut u32_codec bytes at (length text) (at + length four) end first small long, (span_cut (length text)).cut bytes (at + length four) text next end behind refl long lt) refl
    ]

-- so is one of which no byte is there
pub end_is_torn : (bytes : List ℕ) (at : ℕ) → length bytes ≤ at → is_torn bytes at ≡ true
unfolding is_torn frame_at number_at span_at
end_is_torn bytes at le = rw (le_fails (at + 4) (length bytes) (omega arith)) refl

module _ {A : Type 0} (read : Reader A) where
  pub framed_read : (text : List ℕ) (x : A) → IsRead read text x → length text < 2 ^ 32 → IsRead (framed_at read) (framed text) x
  unfolding framed_at
  framed_read text x is small bytes at next stands =
      let f = frame_of bytes at text next stands small in
      rw (f.size, f.span, is (take next bytes) f.start next f.inside, eq_itself next) refl

  pub framed_refused : (text : List ℕ) (offset : ℕ) → IsRefused (limited (length text) read) text offset → length text < 2 ^ 32 → IsRefused (framed_at read) (framed text) (4 + offset)
  unfolding framed_at limited
  framed_refused text offset refused small bytes at next stands =
      let f = frame_of bytes at text next stands small in
      let one : read (take next bytes) f.start ≡ Err (f.start + offset) = subst (λ (n : ℕ). read (take n bytes) f.start ≡ Err (f.start + offset)) (sym f.behind.next_is) (refused bytes f.start next f.behind) in
      rw (f.size, f.span, one) (ap (failed (A × ℕ)) (omega (arith, f.start_is)))

  pub left_refused : (text left : List ℕ) (x : A) → IsRead read text x → 0 < length left → length (text ++ left) < 2 ^ 32 → IsRefused (framed_at read) (framed (text ++ left)) (4 + length text)
  unfolding framed_at
  left_refused text left x is some small bytes at next stands =
      let f = frame_of bytes at (text ++ left) next stands small in
      let one = is (take next bytes) f.start (f.start + length text) (stands_first (take next bytes) f.start text left next f.inside) in
      let more = eq_fails (f.start + length text) next (λ e. omega (arith, e, f.behind.next_is, length-append text left, some)) in
      rw (f.size, f.span, one, more) (ap (failed (A × ℕ)) (omega (arith, f.start_is)))

module _ {A : Type 0} {read : Reader A} {s : A → List ℕ} {F : A → Type 0} (codec : IsCodec read s F) where
  framed_found : (bytes : List ℕ) (at : ℕ) (y : A) (next : ℕ) → IsBytes bytes → at ≤ length bytes → framed_at read bytes at ≡ Ok (y, next) → Stands bytes at (framed (s y)) next × (F y × (length (s y) < 2 ^ 32))
  unfolding framed_at limited
  framed_found bytes at y next fits le e =
      let b = bind_ok (number_at w32 bytes at) (λ size. span_at size.0 bytes size.1 >>= λ span. read (take span.1 bytes) size.1 >>= λ x. cond (eqb x.1 span.1) (Ok x) (Err x.1)) (y, next) e in
      let c = bind_ok (span_at b.0.0 bytes b.0.1) (λ span. read (take span.1 bytes) b.0.1 >>= λ x. cond (eqb x.1 span.1) (Ok x) (Err x.1)) (y, next) b.2 in
      let d = bind_ok (read (take c.0.1 bytes) b.0.1) (λ x. cond (eqb x.1 c.0.1) (Ok x) (Err x.1)) (y, next) c.2 in
      let k = kept_ok (eqb d.0.1 c.0.1) d.0.1 d.0 (y, next) d.2 in
      let size = u32_codec.found bytes at b.0.0 b.0.1 fits le b.1 in
      let ends = span_ends b.0.0 bytes b.0.1 c.0.0 c.0.1 c.1 in
      let inner : read (take (b.0.1 + b.0.0) bytes) b.0.1 ≡ Ok d.0 = subst (λ (n : ℕ). read (take n bytes) b.0.1 ≡ Ok d.0) ends.0 d.1 in
      let one = (limited_codec b.0.0 codec).found bytes b.0.1 d.0.0 d.0.1 fits size.0.within inner in
      let len : b.0.0 ≡ length (s d.0.0) = omega (arith, eq_of d.0.1 c.0.1 k.0, ends.0, one.0.next_is) in
      let both = stands_both bytes at (digits w32 b.0.0) b.0.1 (s d.0.0) d.0.1 size.0 one.0 in
      let whole : Stands bytes at (framed (s d.0.0)) d.0.1 = subst (λ (n : ℕ). Stands bytes at (digits w32 n ++ s d.0.0) d.0.1) len both in
      let small : length (s d.0.0) < 2 ^ 32 = subst (λ (n : ℕ). n < 2 ^ 32) len size.1 in
      subst (λ (x : A × ℕ). Stands bytes at (framed (s x.0)) x.1 × (F x.0 × (length (s x.0) < 2 ^ 32))) k.1 (whole, (one.1.0, small))

-- ---- records one after the other

-- each record takes a byte and more
more_than_records : {A : Type 0} (s : A → List ℕ) (xs : List A) → length xs ≤ length (all_framed s xs)
more_than_records s [] = omega arith
more_than_records s (x ∷ xs) =
    omega (arith, more_than_records s xs, ap length (flat_map-cons (λ y. framed (s y)) x xs), length-append (framed (s x)) (all_framed s xs), length-append (digits w32 (length (s x))) (s x), four_bytes (length (s x)))

module _ {S A : Type 0} (item : S → Reader A) (after : S → A → S) (spelling : A → List ℕ) where
  records_read : (xs : List A) (most : ℕ) (state : S) (bytes : List ℕ) (at torn : ℕ) → length xs ≤ most → EachIsFramed item after spelling state xs → Stands bytes at (all_framed spelling xs) torn → is_torn bytes torn ≡ true
      → records_at item after most state bytes at ≡ Ok (xs, torn)
  unfolding records_at
  records_read [] zero state bytes at torn le each stands is = let same : at ≡ torn = omega (arith, stands.next_is) in rw same refl
  records_read [] (suc most) state bytes at torn le each stands is = let same : at ≡ torn = omega (arith, stands.next_is) in rw (same, is) refl
  records_read (x ∷ xs) zero state bytes at torn le each stands is = absurd (omega arith)
  records_read (x ∷ xs) (suc most) state bytes at torn le each stands is =
      let text = framed (spelling x) in
      let more = all_framed spelling xs in
      let both : Stands bytes at (text ++ more) torn = rw (← flat_map-cons (λ y. framed (spelling y)) x xs) stands in
      let first = stands_first bytes at text more torn both in
      let whole = whole_is_not_torn bytes at (spelling x) (at + length text) first each.0.1 in
      let one = framed_read (item state) (spelling x) x each.0.0 each.0.1 bytes at (at + length text) first in
      let rest = records_read xs most (after state x) bytes (at + length text) torn (omega (arith, le)) each.1 (stands_second bytes at text more torn both) is in
      rw (whole, one, rest) refl

  -- the same without a bound
  pub all_read : (xs : List A) (state : S) (bytes : List ℕ) (at torn : ℕ) → EachIsFramed item after spelling state xs → Stands bytes at (all_framed spelling xs) torn → is_torn bytes torn ≡ true
      → records_at item after (length bytes) state bytes at ≡ Ok (xs, torn)
  all_read xs state bytes at torn each stands is = records_read xs (length bytes) state bytes at torn (omega (arith, more_than_records spelling xs, stands.next_is, stands.within)) each stands is

  records_refused : (before : List A) (most : ℕ) (state : S) (text : List ℕ) (offset : ℕ) → length before < most → EachIsFramed item after spelling state before → length text < 2 ^ 32
      → IsRefused (framed_at (item (passed after state before))) (framed text) offset → IsRefused (records_at item after most state) (all_framed spelling before ++ framed text) (length (all_framed spelling before) + offset)
  unfolding records_at
  records_refused [] zero state text offset lt each small refused bytes at next stands = absurd (omega arith)
  records_refused (x ∷ xs) zero state text offset lt each small refused bytes at next stands = absurd (omega arith)
  records_refused [] (suc most) state text offset lt each small refused bytes at next stands =
      rw (whole_is_not_torn bytes at text next stands small, refused bytes at next stands) (ap (failed (List A × ℕ)) (omega arith))
  records_refused (x ∷ xs) (suc most) state text offset lt each small refused bytes at next stands =
      let first = framed (spelling x) in
      let more = all_framed spelling xs in
      let parts : (first ++ more) ++ framed text ≡ first ++ (more ++ framed text) = append_assoc first more (framed text) in
      let split : all_framed spelling (x ∷ xs) ≡ first ++ more = flat_map-cons (λ y. framed (spelling y)) x xs in
      let both : Stands bytes at (first ++ (more ++ framed text)) next = subst (λ (t : List ℕ). Stands bytes at t next) (ap (λ (t : List ℕ). t ++ framed text) split ∙ parts) stands in
      let here = stands_first bytes at first (more ++ framed text) next both in
      let whole = whole_is_not_torn bytes at (spelling x) (at + length first) here each.0.1 in
      let one = framed_read (item state) (spelling x) x each.0.0 each.0.1 bytes at (at + length first) here in
      let rest = records_refused xs most (after state x) text offset (omega (arith, lt)) each.1 small refused bytes (at + length first) next (stands_second bytes at first (more ++ framed text) next both) in
      rw (whole, one, rest) (ap (failed (List A × ℕ)) (omega (arith, ap length split, length-append first more)))

  -- the same without a bound
  pub all_refused : (before : List A) (state : S) (text : List ℕ) (offset : ℕ) → EachIsFramed item after spelling state before → length text < 2 ^ 32 → IsRefused (framed_at (item (passed after state before))) (framed text) offset
      → IsRefused (λ bytes. records_at item after (length bytes) state bytes) (all_framed spelling before ++ framed text) (length (all_framed spelling before) + offset)
  all_refused before state text offset each small refused bytes at next stands =
      let enough : length before < length bytes =
      omega (arith, more_than_records spelling before, length-append (all_framed spelling before) (framed text), length-append (digits w32 (length text)) text, four_bytes (length text), stands.next_is, stands.within) in
      records_refused before (length bytes) state text offset enough each small refused bytes at next stands

-- ---- what is read stands there

pub if_ok : {B : Type 0} (torn : Bool) (r r' : Result B ℕ) (y : B) → cond torn r r' ≡ Ok y → ((torn ≡ true) × (r ≡ Ok y)) ⊎ ((torn ≡ false) × (r' ≡ Ok y))
if_ok true r r' y e = inl (refl, e)
if_ok false r r' y e = inr (refl, e)

module _ {S A : Type 0} (item : S → Reader A) (after : S → A → S) (spelling : A → List ℕ) (Fits : S → A → Type 0) (codec : (state : S) → IsCodec (item state) spelling (Fits state)) where
  -- records stand up to the place, each fits what stands before it, and what is left is torn
  pub record Whole (state : S) (bytes : List ℕ) (at : ℕ) (xs : List A) (torn : ℕ) : Type 0 where
    pub stands : Stands bytes at (all_framed spelling xs) torn
    pub each : EachFits (λ t x. Fits t x × (length (spelling x) < 2 ^ 32)) after state xs
    pub is : is_torn bytes torn ≡ true

  pub records_found : (most : ℕ) (state : S) (bytes : List ℕ) (at : ℕ) (xs : List A) (torn : ℕ) → IsBytes bytes → at ≤ length bytes → length bytes ≤ at + most → records_at item after most state bytes at ≡ Ok (xs, torn) → Whole state bytes at xs torn
  unfolding records_at
  records_found zero state bytes at xs torn fits le enough e =
      subst (λ (x : List A × ℕ). Whole state bytes at x.0 x.1) (ok_is ([], at) (xs, torn) e) (record { stands = stands_none bytes at le; each = tt; is = end_is_torn bytes at (omega (arith, enough)) })
  records_found (suc most) state bytes at xs torn fits le enough e =
      elim (if_ok (is_torn bytes at) (Ok ([], at)) (framed_at (item state) bytes at >>= λ first. records_at item after most (after state first.0) bytes first.1 >>= λ others. Ok (first.0 ∷ others.0, others.1)) (xs, torn) e) [
        | inl stop ↦ subst (λ (x : List A × ℕ). Whole state bytes at x.0 x.1) (ok_is ([], at) (xs, torn) stop.1) (record { stands = stands_none bytes at le; each = tt; is = stop.0 })
        | inr more ↦
            let b = bind_ok (framed_at (item state) bytes at) (λ first. records_at item after most (after state first.0) bytes first.1 >>= λ others. Ok (first.0 ∷ others.0, others.1)) (xs, torn) more.1 in
            let c = bind_ok (records_at item after most (after state b.0.0) bytes b.0.1) (λ others. Ok (b.0.0 ∷ others.0, others.1)) (xs, torn) b.2 in
            let one = framed_found (codec state) bytes at b.0.0 b.0.1 fits le b.1 in
            let text = framed (spelling b.0.0) in
            let longer = length-append (digits w32 (length (spelling b.0.0))) (spelling b.0.0) in
            let rest = records_found most (after state b.0.0) bytes b.0.1 c.0.0 c.0.1 fits one.0.within (omega (arith, enough, one.0.next_is, longer, four_bytes (length (spelling b.0.0)))) c.1 in
            let both = stands_both bytes at text b.0.1 (all_framed spelling c.0.0) c.0.1 one.0 rest.stands in
            subst (λ (x : List A × ℕ). Whole state bytes at x.0 x.1) (ok_is (b.0.0 ∷ c.0.0, c.0.1) (xs, torn) c.2)
            (record { stands = rw (flat_map-cons (λ y. framed (spelling y)) b.0.0 c.0.0) both; each = (one.1, rest.each); is = rest.is })
      ]

-- ---- the laws

pub whole_records : {S A : Type 0} → WholeRecordsAreRead S A
whole_records item after spelling state xs bytes at each stands = all_read item after spelling xs state bytes at (length bytes) each stands (end_is_torn bytes (length bytes) (omega arith))

pub torn_records : {S A : Type 0} → TornRecordsAreLeft S A
torn_records item after spelling state xs text bytes at torn next end each stands last small le lt =
    let all : torn + (end - torn) ≡ end = omega (arith, le) in
    let front : Stands (take end bytes) at (all_framed spelling xs) torn = subst (λ (n : ℕ). Stands (take n bytes) at (all_framed spelling xs) torn) all (stands_before bytes at (all_framed spelling xs) torn (end - torn) stands) in
    all_read item after spelling xs state (take end bytes) at torn each front (cut_is_torn bytes torn text next end last small le lt)

pub only_records : {S A : Type 0} → OnlyRecordsAreRead S A
only_records item after spelling codec state xs bytes at torn fits le e =
    let w = records_found item after spelling (λ t x. IsRead (item t) (spelling x) x) codec (length bytes) state bytes at xs torn fits le (omega arith) e in
    (w.stands, w.each, w.is)

pub faulty_records : {S A : Type 0} → FaultyRecordsAreRefused S A
faulty_records item after spelling state before text offset each small refused =
    all_refused item after spelling before state text (4 + offset) each small (framed_refused (item (passed after state before)) text offset refused small)

pub left_bytes : {S A : Type 0} → LeftBytesAreRefused S A
left_bytes item after spelling state before text left x each small is some =
    all_refused item after spelling before state (text ++ left) (4 + length text) each small (left_refused (item (passed after state before)) text left x is some small)
