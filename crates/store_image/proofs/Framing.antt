-- A value behind the number of its bytes, and what is torn.
use Rattle.std.proofs.Common.{◌≡◌, ℕ, ◌+◌, ◌-◌, ◌^◌, ◌<◌, ◌≤◌, Bool, true, false, cond, eqb, ◌||◌, List, ◌++◌, length, take, drop, Ok, Err, refl, sym, ap, subst, ◌∙◌, arith, inl, inr, append_assoc, length-append, length-drop}
use Rattle.std.specs.Prelude.{nat_lt}
use Rattle.std.specs.Int.{w32, from_be_bytes}
use Rattle.std.proofs.lemmas.Bool.{cases_lt}
use Rattle.std.proofs.lemmas.List.{take_at, drop_at}
use Rattle.byte_fields.specs.Field.{Reader, ◌>>=◌, digits, span_at, number_at, limited}
use Rattle.byte_fields.specs.Codec.{Stands, IsBytes, IsFault, IsCodec}
use Rattle.byte_fields.specs.Records.{framed, frame_at, framed_at, is_torn}
use Rattle.byte_fields.proofs.Facts.{eq_of, le_holds, le_fails, lt_holds, lt_fails}
use Rattle.byte_fields.proofs.Codec.{bind_ok, bind_err, kept_ok, never_err, span_codec, u32_codec, limited_codec, stands_both, later_fault}
use Rattle.byte_fields.proofs.Tails.{span_ends, framed_read}
use Rattle.byte_fields.proofs.Breaking.{read_again}

left_is : {A : Type 0} (same : Bool) (x : A × ℕ) (place : ℕ) → cond same (Ok x) (Err x.1) ≡ Err place → x.1 ≡ place
left_is true x place e = absurd (never_err x place e)
left_is false x place e = cc

module _ {A : Type 0} {read : Reader A} {s : A → List ℕ} {F : A → Type 0} (codec : IsCodec read s F) where
  framed_found : (bytes : List ℕ) (at : ℕ) (y : A) (next : ℕ) → IsBytes bytes → at ≤ length bytes → framed_at read bytes at ≡ Ok (y, next) → Stands bytes at (framed (s y)) next × (F y × (length (s y) < 2 ^ 32))
  unfolding framed_at limited
  framed_found bytes at y next fits le e =
      let b = bind_ok (number_at w32 bytes at) (λ size. span_at size.0 bytes size.1 >>= λ span. read (take span.1 bytes) size.1 >>= λ x. cond (eqb x.1 span.1) (Ok x) (Err x.1)) (y, next) e in
      let c = bind_ok (span_at b.0.0 bytes b.0.1) (λ span. read (take span.1 bytes) b.0.1 >>= λ x. cond (eqb x.1 span.1) (Ok x) (Err x.1)) (y, next) b.2 in
      let d = bind_ok (read (take c.0.1 bytes) b.0.1) (λ x. cond (eqb x.1 c.0.1) (Ok x) (Err x.1)) (y, next) c.2 in
      let k = kept_ok (eqb d.0.1 c.0.1) d.0.1 d.0 (y, next) d.2 in
      let size = u32_codec.found bytes at b.0.0 b.0.1 fits le b.1 in
      let ends = span_ends b.0.0 bytes b.0.1 c.0.0 c.0.1 c.1 in
      let inner : read (take (b.0.1 + b.0.0) bytes) b.0.1 ≡ Ok d.0 = subst (λ (n : ℕ). read (take n bytes) b.0.1 ≡ Ok d.0) ends.0 d.1 in
      let one = (limited_codec b.0.0 codec).found bytes b.0.1 d.0.0 d.0.1 fits size.0.within inner in
      let len : b.0.0 ≡ length (s d.0.0) = omega (arith, eq_of d.0.1 c.0.1 k.0, ends.0, one.0.next_is) in
      let both = stands_both bytes at (digits w32 b.0.0) b.0.1 (s d.0.0) d.0.1 size.0 one.0 in
      let whole : Stands bytes at (framed (s d.0.0)) d.0.1 = subst (λ (n : ℕ). Stands bytes at (digits w32 n ++ s d.0.0) d.0.1) len both in
      let small : length (s d.0.0) < 2 ^ 32 = subst (λ (n : ℕ). n < 2 ^ 32) len size.1 in
      subst (λ (x : A × ℕ). Stands bytes at (framed (s x.0)) x.1 × (F x.0 × (length (s x.0) < 2 ^ 32))) k.1 (whole, (one.1.0, small))

  framed_fault : (bytes : List ℕ) (at place : ℕ) → IsBytes bytes → at ≤ length bytes → framed_at read bytes at ≡ Err place → IsFault bytes at place
  unfolding framed_at limited
  framed_fault bytes at place fits le e =
      elim (bind_err (number_at w32 bytes at) (λ size. span_at size.0 bytes size.1 >>= λ span. read (take span.1 bytes) size.1 >>= λ x. cond (eqb x.1 span.1) (Ok x) (Err x.1)) place e) [
        | inl here ↦ u32_codec.fault bytes at place fits le here
        | inr b ↦
            let size = u32_codec.found bytes at b.0.0 b.0.1 fits le b.1 in
            later_fault bytes at (digits w32 b.0.0) b.0.1 place size.0
            (elim (bind_err (span_at b.0.0 bytes b.0.1) (λ span. read (take span.1 bytes) b.0.1 >>= λ x. cond (eqb x.1 span.1) (Ok x) (Err x.1)) place b.2) [
              | inl short ↦ (span_codec b.0.0).fault bytes b.0.1 place fits size.0.within short
              | inr c ↦
                  let ends = span_ends b.0.0 bytes b.0.1 c.0.0 c.0.1 c.1 in
                  elim (bind_err (read (take c.0.1 bytes) b.0.1) (λ x. cond (eqb x.1 c.0.1) (Ok x) (Err x.1)) place c.2) [
                    | inl inside ↦ (limited_codec b.0.0 codec).fault bytes b.0.1 place fits size.0.within (subst (λ (n : ℕ). read (take n bytes) b.0.1 ≡ Err place) ends.0 inside)
                    | inr d ↦
                        let inner : read (take (b.0.1 + b.0.0) bytes) b.0.1 ≡ Ok d.0 = subst (λ (n : ℕ). read (take n bytes) b.0.1 ≡ Ok d.0) ends.0 d.1 in
                        let one = (limited_codec b.0.0 codec).found bytes b.0.1 d.0.0 d.0.1 fits size.0.within inner in
                        let here = left_is (eqb d.0.1 c.0.1) d.0 place d.2 in
                        record { begins = omega (arith, here, one.0.next_is); within = omega (arith, here, one.0.within) }
                  ]
            ])
      ]

  pub framed_codec : IsCodec (framed_at read) (λ x. framed (s x)) (λ x. F x × (length (s x) < 2 ^ 32))
  framed_codec = record {
    found = framed_found;
    again = λ bytes at x next stands fits. framed_read read (s x) x (read_again codec x fits.0) fits.1 bytes at next stands;
    fault = framed_fault;
  }

-- ---- what is torn tells so by what is left alone

torn_left : List ℕ → Bool
torn_left left = nat_lt (length left) 4 || nat_lt (length left) (4 + from_be_bytes w32 (take 4 left))

torn_by : (bytes : List ℕ) (at : ℕ) → at ≤ length bytes → is_torn bytes at ≡ torn_left (drop at bytes)
unfolding is_torn frame_at number_at span_at torn_left
torn_by bytes at le =
    let left = drop at bytes in
    let len = length-drop at bytes in
    let n = from_be_bytes w32 (take 4 left) in
    elim (cases_lt (length left) 4) [
      | inl few ↦ rw (le_fails (at + 4) (length bytes) (omega (arith, len, few, le)), lt_holds (length left) 4 few) refl
      | inr some ↦
          let enough = le_holds (at + 4) (length bytes) (omega (arith, len, some, le)) in
          let four = lt_fails (length left) 4 some in
          elim (cases_lt (length left) (4 + n)) [
            | inl short ↦ rw (enough, le_fails (at + 4 + n) (length bytes) (omega (arith, len, short, le)), four, lt_holds (length left) (4 + n) short) refl
            | inr long ↦ rw (enough, le_holds (at + 4 + n) (length bytes) (omega (arith, len, long, le)), four, lt_fails (length left) (4 + n) long) refl
          ]
    ]

-- what is torn where it stands alone is torn behind anything, and the other way round
pub torn_alone : (bytes : List ℕ) (at : ℕ) → at ≤ length bytes → is_torn (drop at bytes) 0 ≡ is_torn bytes at
torn_alone bytes at le = torn_by (drop at bytes) 0 (omega arith) ∙ sym (torn_by bytes at le)

pub torn_behind : (front tail : List ℕ) → is_torn (front ++ tail) (length front) ≡ is_torn tail 0
torn_behind front tail =
    let rest : drop (length front) (front ++ tail) ≡ tail = drop_at front tail (length front) refl in
    sym (torn_alone (front ++ tail) (length front) (omega (arith, length-append front tail))) ∙ ap (λ (left : List ℕ). is_torn left 0) rest

-- ---- a number that is written behind the text that it counts

-- where four bytes were left for it, it makes a record of the text
pub patched : (place : ℕ) (old four text all : List ℕ) → place ≡ length old → length four ≡ 4 → all ≡ (old ++ four) ++ text → take place all ++ (digits w32 (length all - place - 4) ++ drop (place + 4) all) ≡ old ++ framed text
patched place old four text all at len is =
    let front : take place all ≡ old = ap (take place) (is ∙ append_assoc old four text) ∙ take_at old (four ++ text) place (sym at) in
    let rest : drop (place + 4) all ≡ text = ap (drop (place + 4)) is ∙ drop_at (old ++ four) text (place + 4) (omega (arith, at, length-append old four, len)) in
    let count : length all - place - 4 ≡ length text = omega (arith, at, ap length is, length-append (old ++ four) text, length-append old four, len) in
    rw (front, rest, count) refl
