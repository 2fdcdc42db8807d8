-- The laws of a client's records up to a torn tail.
use Rattle.std.proofs.Common.{◌≡◌, ℕ, zero, suc, ◌-◌, ◌+◌, ◌<◌, ◌≤◌, true, false, List, [], ◌∷◌, ◌++◌, length, Result, Ok, Err, refl, sym, ap, subst, ◌∙◌, append_assoc, arith, inl, inr, length-append, append-nil}
use Rattle.std.specs.Int.{w32}
use Rattle.std.proofs.lemmas.List.Concat.{flat_map-cons}
use Rattle.byte_fields.specs.declared.error.TakeError.{TakeError}
use Rattle.byte_fields.specs.declared.error.TakeError.TheVariants as errors
use Rattle.byte_fields.specs.Field.{◌>>=◌, Fails, GivesInto, digits, EachFits}
use Rattle.byte_fields.specs.Codec.{Stands, IsBytes}
use Rattle.byte_fields.specs.Records.{is_torn}
use Rattle.byte_fields.proofs.Codec.{bind_ok, ok_is, stands_none, stands_both, stands_first, stands_second}
use Rattle.byte_fields.proofs.Facts.{four_bytes}
use Rattle.byte_fields.proofs.Tails.{end_is_torn, whole_is_not_torn, if_ok}
use Rattle.byte_fields.proofs.Loop.{with_front, passed_one}
use Rattle.mod_log.specs.Log.{Log}
use Rattle.tree_values.specs.declared.format.Format.{Format}
use Rattle.store_image.specs.declared.record.ClientRecord.{ClientRecord}
use Rattle.store_image.specs.Records.{client_note, client_record, client_records, client_record_at, client_records_within, client_records_at, with_record, with_records}
use Rattle.store_image.proofs.Notes.{RecordFits, client_record_codec}

-- ---- what is read stands there, and what stands there is read

-- records stand up to the place, each fits the log after those before it, and what is left is torn
pub record Whole (format : Format) (log : Log) (bytes : List ℕ) (at : ℕ) (notes : List ClientRecord) (torn : ℕ) : Type 0 where
  pub stands : Stands bytes at (client_records notes) torn
  pub each : EachFits (RecordFits format) with_record log notes
  pub is : is_torn bytes torn ≡ true

pub record_length : (note : ClientRecord) → length (client_record note) ≡ 4 + length (client_note note)
record_length note = omega (arith, length-append (digits w32 (length (client_note note))) (client_note note), four_bytes (length (client_note note)))

pub records_found : (format : Format) (most : ℕ) (log : Log) (bytes : List ℕ) (at : ℕ) (notes : List ClientRecord) (torn : ℕ) → IsBytes bytes → at ≤ length bytes → length bytes ≤ at + most → client_records_within format most log bytes at ≡ Ok (notes, torn) → Whole format log bytes at notes torn
unfolding client_records_within
records_found format zero log bytes at notes torn fits le enough e =
    subst (λ (x : List ClientRecord × ℕ). (Whole format) log bytes at x.0 x.1) (ok_is ([], at) (notes, torn) e) (record { stands = stands_none bytes at le; each = tt; is = end_is_torn bytes at (omega (arith, enough)) })
records_found format (suc most) log bytes at notes torn fits le enough e =
    elim (if_ok (is_torn bytes at) (Ok ([], at)) (client_record_at format log bytes at >>= λ first. client_records_within format most (with_record log first.0) bytes first.1 >>= λ others. Ok (first.0 ∷ others.0, others.1)) (notes, torn) e) [
      | inl stop ↦ subst (λ (x : List ClientRecord × ℕ). (Whole format) log bytes at x.0 x.1) (ok_is ([], at) (notes, torn) stop.1) (record { stands = stands_none bytes at le; each = tt; is = stop.0 })
      | inr more ↦
          let b = bind_ok (client_record_at format log bytes at) (λ first. client_records_within format most (with_record log first.0) bytes first.1 >>= λ others. Ok (first.0 ∷ others.0, others.1)) (notes, torn) more.1 in
          let c = bind_ok (client_records_within format most (with_record log b.0.0) bytes b.0.1) (λ others. Ok (b.0.0 ∷ others.0, others.1)) (notes, torn) b.2 in
          let one = (client_record_codec format log).found bytes at b.0.0 b.0.1 fits le b.1 in
          let rest = records_found format most (with_record log b.0.0) bytes b.0.1 c.0.0 c.0.1 fits one.0.within (omega (arith, enough, one.0.next_is, record_length b.0.0)) c.1 in
          let both = stands_both bytes at (client_record b.0.0) b.0.1 (client_records c.0.0) c.0.1 one.0 rest.stands in
          subst (λ (x : List ClientRecord × ℕ). (Whole format) log bytes at x.0 x.1) (ok_is (b.0.0 ∷ c.0.0, c.0.1) (notes, torn) c.2)
          (record { stands = rw (flat_map-cons client_record b.0.0 c.0.0) both; each = (one.1, rest.each); is = rest.is })
    ]

records_read : (format : Format) (notes : List ClientRecord) (most : ℕ) (log : Log) (bytes : List ℕ) (at torn : ℕ) → length notes ≤ most → Whole format log bytes at notes torn → client_records_within format most log bytes at ≡ Ok (notes, torn)
unfolding client_records_within
records_read format [] zero log bytes at torn le w = let same : at ≡ torn = omega (arith, w.stands.next_is) in rw same refl
records_read format [] (suc most) log bytes at torn le w = let same : at ≡ torn = omega (arith, w.stands.next_is) in rw (same, w.is) refl
records_read format (x ∷ xs) zero log bytes at torn le w = absurd (omega arith)
records_read format (x ∷ xs) (suc most) log bytes at torn le w =
    let more = client_records xs in
    let both : Stands bytes at (client_record x ++ more) torn = rw (← flat_map-cons client_record x xs) w.stands in
    let next = at + length (client_record x) in
    let first = stands_first bytes at (client_record x) more torn both in
    let whole = whole_is_not_torn bytes at (client_note x) next first w.each.0.0.1 in
    let one = (client_record_codec format log).again bytes at x next first w.each.0 in
    let rest = records_read format xs most (with_record log x) bytes next torn (omega (arith, le)) (record { stands = stands_second bytes at (client_record x) more torn both; each = w.each.1; is = w.is }) in
    rw (whole, one, rest) refl

-- each record takes a byte and more
pub more_than_records : (notes : List ClientRecord) → length notes ≤ length (client_records notes)
more_than_records [] = omega arith
more_than_records (x ∷ xs) = omega (arith, more_than_records xs, ap length (flat_map-cons client_record x xs), length-append (client_record x) (client_records xs), record_length x)

pub records_again : (format : Format) (notes : List ClientRecord) (log : Log) (bytes : List ℕ) (at torn : ℕ) → Whole format log bytes at notes torn → client_records_at format log bytes at ≡ Ok (notes, torn)
records_again format notes log bytes at torn w = records_read format notes (length bytes) log bytes at torn (omega (arith, more_than_records notes, w.stands.next_is, w.stands.within)) w

-- ---- a loop that reads them

regroup : (front : List ClientRecord) (first : ClientRecord) (read : Result (List ClientRecord × ℕ) ℕ) → with_front front (read >>= λ x. Ok (first ∷ x.0, x.1)) ≡ with_front (front ++ first ∷ []) read
regroup front first (Ok x) = ap (λ (notes : List ClientRecord). Ok (notes, x.1)) (simp append_assoc)
regroup front first (Err place) = refl

module _ (format : Format) (bytes : List ℕ) (total : Result (List ClientRecord × ℕ) ℕ) where
  -- the records that went into the log, and those from here on, are all of them
  pub record SoFar (initial : Log) (most : ℕ) (log : Log) (at : ℕ) : Type 0 where
    pub front : List ClientRecord
    pub all : with_front front (client_records_within format (most - length front) log bytes at) ≡ total
    pub is : log ≡ with_records initial front
    pub few : length front ≤ at

  goes_on_from : (front : List ClientRecord) (most : ℕ) (log : Log) (at : ℕ) (first : ClientRecord) (next : ℕ) → length front < most → is_torn bytes at ≡ false → client_record_at format log bytes at ≡ Ok (first, next)
      → with_front front (client_records_within format (most - length front) log bytes at) ≡ total → with_front (front ++ first ∷ []) (client_records_within format (most - length (front ++ first ∷ [])) (with_record log first) bytes next) ≡ total
  unfolding client_records_within
  goes_on_from front most log at first next lt whole h so_far =
      let k : most - length front ≡ suc (most - length (front ++ first ∷ [])) = omega (arith, length-append front (first ∷ [])) in
      let one : with_front front (client_records_within format (most - length front) log bytes at) ≡ with_front (front ++ first ∷ []) (client_records_within format (most - length (front ++ first ∷ [])) (with_record log first) bytes next) =
      rw (k, whole, h) (regroup front first (client_records_within format (most - length (front ++ first ∷ [])) (with_record log first) bytes next)) in
      sym one ∙ so_far

  pub goes_on : (initial log : Log) (at : ℕ) (new : Log) (next : ℕ) → is_torn bytes at ≡ false → at + 4 ≤ length bytes → at < next → GivesInto new (with_record log) (Ok next) (client_record_at format log bytes at)
      → SoFar initial (length bytes) log at → SoFar initial (length bytes) new next
  goes_on initial log at new next whole left further h so_far =
      let more = length-append so_far.front (h.0 ∷ []) in
      let step = goes_on_from so_far.front (length bytes) log at h.0 next (omega (arith, left, so_far.few)) whole h.1.0 so_far.all in
      record {
        front = so_far.front ++ h.0 ∷ [];
        all = subst (λ (l : Log). with_front (so_far.front ++ h.0 ∷ []) (client_records_within format (length bytes - length (so_far.front ++ h.0 ∷ [])) l bytes next) ≡ total) (sym h.1.1) step;
        is = h.1.1 ∙ ap (λ (l : Log). with_record l h.0) so_far.is ∙ sym (passed_one with_record initial so_far.front h.0);
        few = omega (arith, more, so_far.few, further);
      }

  pub breaks_off : (e : TakeError) (initial log : Log) (at : ℕ) → is_torn bytes at ≡ false → at + 4 ≤ length bytes → Fails e (client_record_at format log bytes at) → SoFar initial (length bytes) log at → Fails e total
  unfolding client_records_within
  breaks_off errors.Memory initial log at whole left h so_far = tt
  breaks_off (errors.At place) initial log at whole left h so_far =
      let k : length bytes - length so_far.front ≡ suc (length bytes - length so_far.front - 1) = omega (arith, left, so_far.few) in
      let one : with_front so_far.front (client_records_within format (length bytes - length so_far.front) log bytes at) ≡ Err place = rw (k, whole, h) refl in
      sym so_far.all ∙ one

  torn_ends : (most : ℕ) (log : Log) (at : ℕ) → is_torn bytes at ≡ true → client_records_within format most log bytes at ≡ Ok ([], at)
  unfolding client_records_within
  torn_ends zero log at torn = refl
  torn_ends (suc most) log at torn = rw torn refl

  pub all_taken : (initial log : Log) (at : ℕ) → is_torn bytes at ≡ true → SoFar initial (length bytes) log at → GivesInto log (with_records initial) (Ok at) total
  all_taken initial log at torn so_far =
      let none = torn_ends (length bytes - length so_far.front) log at torn in
      let one : with_front so_far.front (client_records_within format (length bytes - length so_far.front) log bytes at) ≡ Ok (so_far.front, at) = rw none (ap (λ (notes : List ClientRecord). Ok (notes, at)) (append-nil so_far.front)) in
      (so_far.front, (sym so_far.all ∙ one, so_far.is))
