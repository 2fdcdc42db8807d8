-- The laws of causes: one spelling for each, where bytes end inside one, and that their spellings are bytes.
use Rattle.std.proofs.Common.{◌≡◌, ◌≢◌, ℕ, ◌+◌, ◌-◌, ◌^◌, ◌<◌, ◌≤◌, true, List, [], ◌∷◌, ◌++◌, length, take, Ok, Err, refl, subst, arith, lit<, length-append}
use Rattle.std.specs.Prelude.{sum}
use Rattle.std.specs.Int.{w8, w32}
use Rattle.std.specs.List.{AllByRecursion}
use Rattle.byte_fields.specs.Field.{Reader, digits, number_at, span_at, ruled}
use Rattle.byte_fields.specs.Codec.{Stands, IsBytes, IsCodec}
use Rattle.byte_fields.specs.Cuts.{start_of, IsCut}
use Rattle.byte_fields.proofs.Facts.{sum_more, no_bytes, byte_before, bytes_appended, four_are_bytes, four_bytes}
use Rattle.byte_fields.proofs.Codec.{IsBranch, branch0, branch1, branch2, tagged_found, tagged_fault, tagged_again0, tagged_again1, tagged_again2, byte_span_codec, ruled_codec, u8_codec, u32_codec, stands_second}
use Rattle.byte_fields.proofs.Cutting.{span_cut, ruled_cut, u8_cut, u32_cut, one_cut, two_cut, tagged_cut}
use Rattle.file_paths.specs.Spelling.{path}
use Rattle.file_paths.specs.Fields.{path_fields}
use Rattle.file_paths.proofs.Parts.{path_codec, path_cut}
use Rattle.file_paths.proofs.Sizes.{path_size}
use Rattle.file_paths.proofs.SpelledBytes.{path_is_bytes}
use Rattle.tree_values.specs.declared.node.TreeError.{TreeError}
use Rattle.tree_values.specs.declared.node.TreeError.TheVariants as faults
use Rattle.tree_values.specs.Fault.{tree_fault, fault_fields, FaultFits}
use Rattle.tree_laws.proofs.FaultLaws.{fault_codec, fault_cut}
use Rattle.tree_laws.proofs.SpelledBytes.{fault_is_bytes}
use Rattle.wire_frames.specs.declared.cause.Cause.{Cause}
use Rattle.wire_frames.specs.declared.cause.Cause.TheVariants.{OtherJob, NoJob, NoServer, NotRun, Status, OddTree, Mismatch, Clash, NotFit, Refused, NoMemory}
use Rattle.wire_frames.specs.Cause.{cause, cause_fields, IsPrint, other_print, job_code_rule, job_index_rule, other_status, refusal_rule, CauseFits, print_at, other_job_at, no_job_at, status_at, not_fit_at, refused_at, cause_kinds, cause_at}

-- ---- parts

pub print_codec : IsCodec print_at (λ text. text) IsPrint
print_codec = byte_span_codec 32

print_cut : IsCut print_at (λ text. text) (λ text. 32 ∷ []) IsPrint
print_cut = record {
  whole = λ text fits. omega (arith, sum_more 32 [], fits.0);
  cut = λ bytes at text next end stands fits le lt.
      subst (λ (n : ℕ). span_at 32 (take end bytes) at ≡ Err (at + start_of (end - at) (n ∷ []))) fits.0 ((span_cut 32).cut bytes at text next end stands fits.0 le lt);
}

found_codec : (logged : List ℕ) → IsCodec (ruled (other_print logged) print_at) (λ text. text) (λ found. IsPrint found × (other_print logged found ≡ true))
found_codec logged = ruled_codec (other_print logged) print_codec

pub code_codec : IsCodec (ruled job_code_rule (number_at w8)) (λ n. n ∷ []) (λ n. (n < 2 ^ 8) × (job_code_rule n ≡ true))
code_codec = ruled_codec job_code_rule u8_codec

index_codec : (code : ℕ) → IsCodec (ruled (job_index_rule code) (number_at w32)) (digits w32) (λ n. (n < 2 ^ 32) × (job_index_rule code n ≡ true))
index_codec code = ruled_codec (job_index_rule code) u32_codec

replayed_codec : (logged : ℕ) → IsCodec (ruled (other_status logged) (number_at w8)) (λ n. n ∷ []) (λ n. (n < 2 ^ 8) × (other_status logged n ≡ true))
replayed_codec logged = ruled_codec (other_status logged) u8_codec

kind_codec : IsCodec (ruled refusal_rule (number_at w8)) (λ n. n ∷ []) (λ n. (n < 2 ^ 8) × (refusal_rule n ≡ true))
kind_codec = ruled_codec refusal_rule u8_codec

pub fault_is_spelled : (fault : TreeError) → FaultFits fault → fault ≢ faults.Memory
fault_is_spelled faults.Memory fits e = absurd fits
fault_is_spelled _ fits e = absurd cc

-- ---- one spelling

branches : AllByRecursion (λ (known : ℕ × Reader Cause). IsBranch cause CauseFits known.0 known.1) cause_kinds
unfolding other_job_at no_job_at status_at not_fit_at refused_at
branches = (branch2 (lit< tt) print_codec (λ logged _. found_codec logged) OtherJob (λ x y. refl) (λ x y fits fits'. (fits, fits'.0, fits'.1)), (branch2 (lit< tt) code_codec (λ code _. index_codec code) NoJob (λ x y. refl) (λ x y fits fits'. (fits.0, fits.1, fits'.0, fits'.1)), (branch0 (lit< tt) NoServer refl tt, (branch0 (lit< tt) NotRun refl tt, (branch2 (lit< tt) u8_codec (λ logged _. replayed_codec logged) Status (λ x y. refl) (λ x y fits fits'. (fits, fits'.0, fits'.1)), (branch1 (lit< tt) u32_codec OddTree (λ x. refl) (λ x fits. fits), (branch1 (lit< tt) path_codec Mismatch (λ x. refl) (λ x fits. fits), (branch1 (lit< tt) path_codec Clash (λ x. refl) (λ x fits. fits), (branch2 (lit< tt) u32_codec (λ _ _. fault_codec) NotFit (λ x y. refl) (λ x y fits fits'. (fits, fits')), (branch1 (lit< tt) kind_codec Refused (λ x. refl) (λ x fits. (fits.0, fits.1)), (branch0 (lit< tt) NoMemory refl tt, tt)))))))))))

again : (bytes : List ℕ) (at : ℕ) (x : Cause) (next : ℕ) → Stands bytes at (cause x) next → CauseFits x → cause_at bytes at ≡ Ok (x, next)
unfolding cause_at other_job_at no_job_at status_at not_fit_at refused_at
again bytes at (OtherJob logged found) next stands fits =
    tagged_again2 cause_kinds 1 (lit< tt) print_codec (λ x _. found_codec x) OtherJob bytes at logged found next refl stands fits.0 (fits.1, fits.2)
again bytes at (NoJob code index) next stands fits =
    tagged_again2 cause_kinds 2 (lit< tt) code_codec (λ x _. index_codec x) NoJob bytes at code index next refl stands (fits.0, fits.1) (fits.2, fits.3)
again bytes at NoServer next stands fits = tagged_again0 cause_kinds 3 (lit< tt) NoServer bytes at next refl stands
again bytes at NotRun next stands fits = tagged_again0 cause_kinds 4 (lit< tt) NotRun bytes at next refl stands
again bytes at (Status logged replayed) next stands fits =
    tagged_again2 cause_kinds 5 (lit< tt) u8_codec (λ x _. replayed_codec x) Status bytes at logged replayed next refl stands fits.0 (fits.1, fits.2)
again bytes at (OddTree index) next stands fits = tagged_again1 cause_kinds 6 (lit< tt) u32_codec OddTree bytes at index next refl stands fits
again bytes at (Mismatch p) next stands fits = tagged_again1 cause_kinds 7 (lit< tt) path_codec Mismatch bytes at p next refl stands fits
again bytes at (Clash p) next stands fits = tagged_again1 cause_kinds 8 (lit< tt) path_codec Clash bytes at p next refl stands fits
again bytes at (NotFit index fault) next stands fits =
    tagged_again2 cause_kinds 9 (lit< tt) u32_codec (λ _ _. fault_codec) NotFit bytes at index fault next refl stands fits.0 fits.1
again bytes at (Refused kind) next stands fits = tagged_again1 cause_kinds 10 (lit< tt) kind_codec Refused bytes at kind next refl stands (fits.0, fits.1)
again bytes at NoMemory next stands fits = tagged_again0 cause_kinds 11 (lit< tt) NoMemory bytes at next refl stands

pub cause_codec : IsCodec cause_at cause CauseFits
unfolding cause_at
cause_codec = record { found = tagged_found cause CauseFits cause_kinds branches; fault = tagged_fault cause CauseFits cause_kinds branches; again = again }

-- ---- bytes that end too early

whole : (x : Cause) → CauseFits x → sum (cause_fields x) ≡ length (cause x)
whole (OtherJob logged found) fits = omega (arith, sum_more 1 (32 ∷ 32 ∷ []), sum_more 32 (32 ∷ []), sum_more 32 [], length-append logged found, fits.0.0, fits.1.0)
whole (NoJob code index) fits = omega (arith, sum_more 1 (1 ∷ 4 ∷ []), sum_more 1 (4 ∷ []), sum_more 4 [], four_bytes index)
whole NoServer fits = refl
whole NotRun fits = refl
whole (Status logged replayed) fits = refl
whole (OddTree index) fits = omega (arith, sum_more 1 (4 ∷ []), sum_more 4 [], four_bytes index)
whole (Mismatch p) fits = omega (arith, sum_more 1 (path_fields p), path_cut.whole p fits)
whole (Clash p) fits = omega (arith, sum_more 1 (path_fields p), path_cut.whole p fits)
whole (NotFit index fault) fits =
    omega (arith, sum_more 1 (4 ∷ fault_fields fault), sum_more 4 (fault_fields fault), length-append (digits w32 index) (tree_fault fault), four_bytes index, fault_cut.whole fault fits.1)
whole (Refused kind) fits = refl
whole NoMemory fits = refl

ends : (bytes : List ℕ) (at : ℕ) (x : Cause) (next end : ℕ) → Stands bytes at (cause x) next → CauseFits x → at ≤ end → end < next → cause_at (take end bytes) at ≡ Err (at + start_of (end - at) (cause_fields x))
unfolding cause_at other_job_at no_job_at status_at not_fit_at refused_at
ends bytes at (OtherJob logged found) next end stands fits le lt =
    tagged_cut cause_kinds 1 (lit< tt) bytes at (logged ++ found) next end (32 ∷ 32 ∷ []) stands le
    (λ ge. two_cut print_codec print_cut (λ x _. ruled_cut print_cut (other_print x)) OtherJob bytes (at + 1) logged found next end (stands_second bytes at (1 ∷ []) (logged ++ found) next stands) fits.0 (fits.1, fits.2) ge lt)
ends bytes at (NoJob code index) next end stands fits le lt =
    tagged_cut cause_kinds 2 (lit< tt) bytes at (code ∷ digits w32 index) next end (1 ∷ 4 ∷ []) stands le
    (λ ge. two_cut code_codec (ruled_cut u8_cut job_code_rule) (λ x _. ruled_cut u32_cut (job_index_rule x)) NoJob bytes (at + 1) code index next end (stands_second bytes at (2 ∷ []) (code ∷ digits w32 index) next stands) (fits.0, fits.1) (fits.2, fits.3) ge lt)
ends bytes at NoServer next end stands fits le lt = tagged_cut cause_kinds 3 (lit< tt) bytes at [] next end [] stands le (λ ge. absurd (omega (arith, stands.next_is)))
ends bytes at NotRun next end stands fits le lt = tagged_cut cause_kinds 4 (lit< tt) bytes at [] next end [] stands le (λ ge. absurd (omega (arith, stands.next_is)))
ends bytes at (Status logged replayed) next end stands fits le lt =
    tagged_cut cause_kinds 5 (lit< tt) bytes at (logged ∷ replayed ∷ []) next end (1 ∷ 1 ∷ []) stands le
    (λ ge. two_cut u8_codec u8_cut (λ x _. ruled_cut u8_cut (other_status x)) Status bytes (at + 1) logged replayed next end (stands_second bytes at (5 ∷ []) (logged ∷ replayed ∷ []) next stands) fits.0 (fits.1, fits.2) ge lt)
ends bytes at (OddTree index) next end stands fits le lt =
    tagged_cut cause_kinds 6 (lit< tt) bytes at (digits w32 index) next end (4 ∷ []) stands le
    (λ ge. one_cut u32_cut OddTree bytes (at + 1) index next end (stands_second bytes at (6 ∷ []) (digits w32 index) next stands) fits ge lt)
ends bytes at (Mismatch p) next end stands fits le lt =
    tagged_cut cause_kinds 7 (lit< tt) bytes at (path p) next end (path_fields p) stands le
    (λ ge. one_cut path_cut Mismatch bytes (at + 1) p next end (stands_second bytes at (7 ∷ []) (path p) next stands) fits ge lt)
ends bytes at (Clash p) next end stands fits le lt =
    tagged_cut cause_kinds 8 (lit< tt) bytes at (path p) next end (path_fields p) stands le
    (λ ge. one_cut path_cut Clash bytes (at + 1) p next end (stands_second bytes at (8 ∷ []) (path p) next stands) fits ge lt)
ends bytes at (NotFit index fault) next end stands fits le lt =
    tagged_cut cause_kinds 9 (lit< tt) bytes at (digits w32 index ++ tree_fault fault) next end (4 ∷ fault_fields fault) stands le
    (λ ge. two_cut u32_codec u32_cut (λ _ _. fault_cut) NotFit bytes (at + 1) index fault next end (stands_second bytes at (9 ∷ []) (digits w32 index ++ tree_fault fault) next stands) fits.0 fits.1 ge lt)
ends bytes at (Refused kind) next end stands fits le lt =
    tagged_cut cause_kinds 10 (lit< tt) bytes at (kind ∷ []) next end (1 ∷ []) stands le
    (λ ge. one_cut (ruled_cut u8_cut refusal_rule) Refused bytes (at + 1) kind next end (stands_second bytes at (10 ∷ []) (kind ∷ []) next stands) (fits.0, fits.1) ge lt)
ends bytes at NoMemory next end stands fits le lt = tagged_cut cause_kinds 11 (lit< tt) bytes at [] next end [] stands le (λ ge. absurd (omega (arith, stands.next_is)))

pub cause_cut : IsCut cause_at cause cause_fields CauseFits
cause_cut = record { whole = whole; cut = ends }

-- ---- bytes, and how many

fault_size : (fault : TreeError) → FaultFits fault → length (tree_fault fault) ≤ 2053
unfolding digits
fault_size faults.RootFixed fits = omega arith
fault_size (faults.NoParent p) fits = omega (arith, path_size p fits)
fault_size (faults.Exists p) fits = omega (arith, path_size p fits)
fault_size (faults.Missing p) fits = omega (arith, path_size p fits)
fault_size (faults.IsFolder p) fits = omega (arith, path_size p fits)
fault_size (faults.NotEmpty p q) fits = omega (arith, length-append (path p) (path q), path_size p fits.0, path_size q fits.1)
fault_size (faults.RowsFull n) fits = omega arith
fault_size (faults.FileTooLarge n) fits = omega arith
fault_size (faults.TreeFull n) fits = omega arith
fault_size (faults.VersionTop p) fits = omega (arith, path_size p fits)
fault_size faults.Memory fits = absurd fits

pub cause_size : (x : Cause) → CauseFits x → length (cause x) ≤ 2058
cause_size (OtherJob logged found) fits = omega (arith, length-append logged found, fits.0.0, fits.1.0)
cause_size (NoJob code index) fits = omega (arith, four_bytes index)
cause_size NoServer fits = omega arith
cause_size NotRun fits = omega arith
cause_size (Status logged replayed) fits = omega arith
cause_size (OddTree index) fits = omega (arith, four_bytes index)
cause_size (Mismatch p) fits = omega (arith, path_size p fits)
cause_size (Clash p) fits = omega (arith, path_size p fits)
cause_size (NotFit index fault) fits = omega (arith, length-append (digits w32 index) (tree_fault fault), four_bytes index, fault_size fault fits.1)
cause_size (Refused kind) fits = omega arith
cause_size NoMemory fits = omega arith

pub cause_is_bytes : (x : Cause) → CauseFits x → IsBytes (cause x)
cause_is_bytes (OtherJob logged found) fits = byte_before 1 (logged ++ found) (lit< tt) (bytes_appended logged found fits.0.1 fits.1.1)
cause_is_bytes (NoJob code index) fits = byte_before 2 (code ∷ digits w32 index) (lit< tt) (byte_before code (digits w32 index) (omega (arith, fits.0)) (four_are_bytes index))
cause_is_bytes NoServer fits = byte_before 3 [] (lit< tt) no_bytes
cause_is_bytes NotRun fits = byte_before 4 [] (lit< tt) no_bytes
cause_is_bytes (Status logged replayed) fits =
    byte_before 5 (logged ∷ replayed ∷ []) (lit< tt) (byte_before logged (replayed ∷ []) (omega (arith, fits.0)) (byte_before replayed [] (omega (arith, fits.1)) no_bytes))
cause_is_bytes (OddTree index) fits = byte_before 6 (digits w32 index) (lit< tt) (four_are_bytes index)
cause_is_bytes (Mismatch p) fits = byte_before 7 (path p) (lit< tt) (path_is_bytes p fits)
cause_is_bytes (Clash p) fits = byte_before 8 (path p) (lit< tt) (path_is_bytes p fits)
cause_is_bytes (NotFit index fault) fits = byte_before 9 (digits w32 index ++ tree_fault fault) (lit< tt) (bytes_appended (digits w32 index) (tree_fault fault) (four_are_bytes index) (fault_is_bytes fault fits.1))
cause_is_bytes (Refused kind) fits = byte_before 10 (kind ∷ []) (lit< tt) (byte_before kind [] (omega (arith, fits.0)) no_bytes)
cause_is_bytes NoMemory fits = byte_before 11 [] (lit< tt) no_bytes
