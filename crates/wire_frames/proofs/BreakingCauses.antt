-- The laws of causes that break a rule.
use Rattle.std.proofs.Common.{◌≡◌, ◌≢◌, ◌⊎◌, inl, inr, ℕ, ◌+◌, ◌^◌, ◌<◌, ◌≤◌, true, false, not, List, [], ◌∷◌, ◌++◌, length, refl, ap, arith, lit<}
use Rattle.std.specs.Int.{w8, w32}
use Rattle.std.specs.Str.{bytes_eq}
use Rattle.std.specs.List.{AllByRecursion}
use Rattle.std.proofs.lemmas.Bool.{eq-eqb, ne_eqb}
use Rattle.byte_fields.specs.Field.{digits, ruled, none, one, number_at}
use Rattle.byte_fields.specs.Broken.{IsRefused}
use Rattle.byte_fields.proofs.Facts.{four_bytes}
use Rattle.byte_fields.proofs.Codec.{u8_codec, u32_codec}
use Rattle.byte_fields.proofs.Breaking.{read_again, refused_there, rule_refused, first_refused, later_refused, tagged_refused, unknown_kind}
use Rattle.file_paths.specs.Reading.{path_at}
use Rattle.tree_values.specs.Fault.{fault_at}
use Rattle.wire_frames.specs.declared.cause.Cause.TheVariants.{OtherJob, NoJob, Status, Mismatch, Clash, NotFit, Refused}
use Rattle.wire_frames.specs.Cause.{IsPrint, other_print, job_code_rule, job_index_rule, other_status, refusal_rule, print_at, other_job_at, no_job_at, status_at, not_fit_at, refused_at, cause_kinds, cause_at}
use Rattle.wire_frames.specs.Broken.{BrokenCauses}
use Rattle.wire_frames.proofs.CauseLaws.{print_codec, code_codec}

-- ---- what each cause tells

other_job_refused : (print : List ℕ) → IsPrint print → IsRefused other_job_at (print ++ print) (length print + 0)
unfolding other_job_at
other_job_refused print is =
    later_refused print_at (λ logged. one (ruled (other_print logged) print_at) (OtherJob logged)) print print print 0 (read_again print_codec print is)
    (first_refused (ruled (other_print print) print_at) (λ found. none (OtherJob print found)) print 0 (rule_refused print_at (other_print print) print print (read_again print_codec print is) (ap not (same print))))
  where
    same : (bytes : List ℕ) → bytes_eq bytes bytes ≡ true
    same [] = refl
    same (byte ∷ bytes) = rw (eq-eqb byte byte refl) (same bytes)

no_code : (code : ℕ) → code ≢ 1 → code ≢ 2 → job_code_rule code ≡ false
no_code code not1 not2 = rw (ne_eqb code 1 not1, ne_eqb code 2 not2) refl

job_code_refused : (code : ℕ) → code < 2 ^ 8 → code ≢ 1 → code ≢ 2 → IsRefused no_job_at (code ∷ []) 0
unfolding no_job_at
job_code_refused code byte not1 not2 =
    first_refused (ruled job_code_rule (number_at w8)) (λ c. one (ruled (job_index_rule c) (number_at w32)) (NoJob c)) (code ∷ []) 0
    (rule_refused (number_at w8) job_code_rule (code ∷ []) code (read_again u8_codec code byte) (no_code code not1 not2))

job_index_refused : (index : ℕ) → 1 ≤ index → index < 2 ^ 32 → IsRefused no_job_at (1 ∷ digits w32 index) (1 + 0)
unfolding no_job_at
job_index_refused index some small =
    later_refused (ruled job_code_rule (number_at w8)) (λ c. one (ruled (job_index_rule c) (number_at w32)) (NoJob c)) (1 ∷ []) (digits w32 index) 1 0 (read_again code_codec 1 (lit< tt, refl))
    (first_refused (ruled (job_index_rule 1) (number_at w32)) (λ i. none (NoJob 1 i)) (digits w32 index) 0
    (rule_refused (number_at w32) (job_index_rule 1) (digits w32 index) index (read_again u32_codec index small) (ne_eqb index 0 (λ e. omega arith))))

status_refused : (status : ℕ) → status < 2 ^ 8 → IsRefused status_at (status ∷ status ∷ []) (1 + 0)
unfolding status_at
status_refused status byte =
    later_refused (number_at w8) (λ logged. one (ruled (other_status logged) (number_at w8)) (Status logged)) (status ∷ []) (status ∷ []) status 0 (read_again u8_codec status byte)
    (first_refused (ruled (other_status status) (number_at w8)) (λ replayed. none (Status status replayed)) (status ∷ []) 0
    (rule_refused (number_at w8) (other_status status) (status ∷ []) status (read_again u8_codec status byte) (ap not (eq-eqb status status refl))))

fault_refused : (index : ℕ) (text : List ℕ) (offset : ℕ) → index < 2 ^ 32 → IsRefused fault_at text offset → IsRefused not_fit_at (digits w32 index ++ text) (length (digits w32 index) + offset)
unfolding not_fit_at
fault_refused index text offset small refused =
    later_refused (number_at w32) (λ i. one fault_at (NotFit i)) (digits w32 index) text index offset (read_again u32_codec index small)
    (first_refused fault_at (λ f. none (NotFit index f)) text offset refused)

reply_refused : (kind : ℕ) → kind < 2 ^ 8 → refusal_rule kind ≡ false → IsRefused refused_at (kind ∷ []) 0
unfolding refused_at
reply_refused kind byte broken =
    first_refused (ruled refusal_rule (number_at w8)) (λ k. none (Refused k)) (kind ∷ []) 0 (rule_refused (number_at w8) refusal_rule (kind ∷ []) kind (read_again u8_codec kind byte) broken)

-- ---- causes

pub broken_causes : BrokenCauses
unfolding cause_at
broken_causes = record {
  number_is_none = λ number byte wrong. unknown_kind cause_kinds number byte (apart number wrong);
  prints_are_equal = λ print is.
      refused_there (λ bytes at. cause_at bytes at) (1 ∷ (print ++ print)) (1 + (length print + 0)) 33 (omega (arith, is.0)) (tagged_refused cause_kinds 1 other_job_at (print ++ print) (length print + 0) (lit< tt) (λ tag at bytes. refl) (other_job_refused print is));
  job_code_is_none = λ code byte not1 not2. tagged_refused cause_kinds 2 no_job_at (code ∷ []) 0 (lit< tt) (λ tag at bytes. refl) (job_code_refused code byte not1 not2);
  job_index_is_told = λ index some small. tagged_refused cause_kinds 2 no_job_at (1 ∷ digits w32 index) 1 (lit< tt) (λ tag at bytes. refl) (job_index_refused index some small);
  statuses_are_equal = λ status byte. tagged_refused cause_kinds 5 status_at (status ∷ status ∷ []) 1 (lit< tt) (λ tag at bytes. refl) (status_refused status byte);
  path_is_refused = λ text offset refused. (tagged_refused cause_kinds 7 (one path_at Mismatch) text offset (lit< tt) (λ tag at bytes. refl) (first_refused path_at (λ p. none (Mismatch p)) text offset refused), (tagged_refused cause_kinds 8 (one path_at Clash) text offset (lit< tt) (λ tag at bytes. refl) (first_refused path_at (λ p. none (Clash p)) text offset refused), tt));
  fault_is_refused = λ index text offset small refused.
      refused_there (λ bytes at. cause_at bytes at) (9 ∷ (digits w32 index ++ text)) (1 + (length (digits w32 index) + offset)) (5 + offset) (omega (arith, four_bytes index))
      (tagged_refused cause_kinds 9 not_fit_at (digits w32 index ++ text) (length (digits w32 index) + offset) (lit< tt) (λ tag at bytes. refl) (fault_refused index text offset small refused));
  reply_is_none = λ kind byte broken. tagged_refused cause_kinds 10 refused_at (kind ∷ []) 0 (lit< tt) (λ tag at bytes. refl) (reply_refused kind byte broken);
}
  where
    apart : (number : ℕ) → (number ≡ 0) ⊎ (11 < number) → AllByRecursion (λ known. number ≢ known.0) cause_kinds
    apart number (inl e) = (λ is. omega arith, (λ is. omega arith, (λ is. omega arith, (λ is. omega arith, (λ is. omega arith, (λ is. omega arith, (λ is. omega arith, (λ is. omega arith, (λ is. omega arith, (λ is. omega arith, (λ is. omega arith, tt)))))))))))
    apart number (inr lt) = (λ is. omega arith, (λ is. omega arith, (λ is. omega arith, (λ is. omega arith, (λ is. omega arith, (λ is. omega arith, (λ is. omega arith, (λ is. omega arith, (λ is. omega arith, (λ is. omega arith, (λ is. omega arith, tt)))))))))))
