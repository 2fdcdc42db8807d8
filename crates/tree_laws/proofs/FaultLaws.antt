-- The laws of refusals: one spelling for each, where bytes end inside one, and which are refused.
use Rattle.std.proofs.Common.{◌≡◌, ◌≢◌, ℕ, ◌+◌, ◌-◌, ◌^◌, ◌<◌, ◌≤◌, Bool, true, false, cond, List, [], ◌∷◌, ◌++◌, length, take, Ok, Err, refl, sym, ap, ◌∙◌, arith, lit<, length-append}
use Rattle.std.specs.Prelude.{sum}
use Rattle.std.specs.Int.{w32, w64}
use Rattle.std.specs.List.{AllByRecursion}
use Rattle.byte_fields.specs.Field.{Reader, digits, none, one, two, of_kind}
use Rattle.byte_fields.specs.Codec.{Stands, IsCodec}
use Rattle.byte_fields.specs.Cuts.{start_of, IsCut}
use Rattle.byte_fields.specs.Broken.{IsRefused}
use Rattle.byte_fields.proofs.Facts.{sum_more, eq_fails}
use Rattle.byte_fields.proofs.Codec.{IsBranch, branch0, branch1, branch2, tagged_found, tagged_fault, tagged_again0, tagged_again1, tagged_again2, u32_codec, u64_codec, codec_for, stands_second}
use Rattle.byte_fields.proofs.Cutting.{sum_both, u32_cut, u64_cut, cut_for, one_cut, two_cut, tagged_cut}
use Rattle.byte_fields.proofs.Breaking.{read_again, first_refused, later_refused, tagged_refused, kind_refused}
use Rattle.file_paths.specs.Path.{FilePath}
use Rattle.file_paths.specs.Spelling.{path}
use Rattle.file_paths.specs.Fields.{path_fields}
use Rattle.file_paths.specs.Reading.{path_at}
use Rattle.file_paths.proofs.Parts.{path_codec, path_cut}
use Rattle.tree_values.specs.declared.node.TreeError.{TreeError}
use Rattle.tree_values.specs.declared.node.TreeError.TheVariants.{RootFixed, NoParent, Exists, Missing, IsFolder, NotEmpty, RowsFull, FileTooLarge, TreeFull, VersionTop, Memory}
use Rattle.tree_values.specs.Fault.{tree_fault, fault_number, fault_fields, FaultFits, fault_kinds, fault_at, is_one_of, kinds_of, fault_of, FaultFitsOf}
use Rattle.tree_values.proofs.FaultKinds.{kept, of_kept_kind}
use Rattle.tree_laws.specs.Broken.{all_faults, BrokenFaults}

-- ---- each kind

-- what is found beside a number is a refusal of this number
abbrev IsNumbered : ℕ × Reader TreeError → Type 0
IsNumbered known = IsBranch tree_fault (λ x. FaultFits x × (fault_number x ≡ known.0)) known.0 known.1

numbered : AllByRecursion IsNumbered fault_kinds
numbered = (branch0 (lit< tt) RootFixed refl (tt, refl), (branch1 (lit< tt) path_codec NoParent (λ p. refl) (λ p fits. (fits, refl)), (branch1 (lit< tt) path_codec Exists (λ p. refl) (λ p fits. (fits, refl)), (branch1 (lit< tt) path_codec Missing (λ p. refl) (λ p fits. (fits, refl)), (branch1 (lit< tt) path_codec IsFolder (λ p. refl) (λ p fits. (fits, refl)), (branch2 (lit< tt) path_codec (λ _ _. path_codec) NotEmpty (λ p q. refl) (λ p q fits fits'. ((fits, fits'), refl)), (branch1 (lit< tt) u32_codec RowsFull (λ n. refl) (λ n fits. (fits, refl)), (branch1 (lit< tt) u64_codec FileTooLarge (λ n. refl) (λ n fits. (fits, refl)), (branch1 (lit< tt) u64_codec TreeFull (λ n. refl) (λ n fits. (fits, refl)), (branch1 (lit< tt) path_codec VersionTop (λ p. refl) (λ p fits. (fits, refl)), tt))))))))))

branch_for : {A : Type 0} {spelling : A → List ℕ} {Fits Fits' : A → Type 0} {kind : ℕ} {read : Reader A} → ((x : A) → Fits x → Fits' x) → IsBranch spelling Fits kind read → IsBranch spelling Fits' kind read
branch_for to branch = record {
  byte = branch.byte;
  found = λ bytes at x next fits le e. let r = branch.found bytes at x next fits le e in (r.0, r.1, r.2, to x r.3);
  fault = branch.fault;
}

module _ (numbers : List ℕ) where
  told_branches : (kinds : List (ℕ × Reader TreeError)) → AllByRecursion IsNumbered kinds → AllByRecursion (λ (known : ℕ × Reader TreeError). IsBranch tree_fault (FaultFitsOf numbers) known.0 known.1) (kept (is_one_of numbers) kinds)
  told_branches [] all = tt
  told_branches (known ∷ kinds) all = by (is_one_of numbers known.0) refl (told_branches kinds all.1)
    where
      by : (b : Bool) → is_one_of numbers known.0 ≡ b → AllByRecursion (λ (k : ℕ × Reader TreeError). IsBranch tree_fault (FaultFitsOf numbers) k.0 k.1) (kept (is_one_of numbers) kinds)
          → AllByRecursion (λ (k : ℕ × Reader TreeError). IsBranch tree_fault (FaultFitsOf numbers) k.0 k.1) (cond b (known ∷ kept (is_one_of numbers) kinds) (kept (is_one_of numbers) kinds))
      by true e rest = (branch_for (λ x fits. (fits.0, ap (is_one_of numbers) fits.1 ∙ e)) all.0, rest)
      by false e rest = rest

  branches : AllByRecursion (λ (known : ℕ × Reader TreeError). IsBranch tree_fault (FaultFitsOf numbers) known.0 known.1) (kinds_of numbers)
  branches = told_branches fault_kinds numbered

  -- a number that is allowed is read as any
  told : (place kind : ℕ) (bytes : List ℕ) (at : ℕ) → is_one_of numbers kind ≡ true → of_kind (kinds_of numbers) place kind bytes at ≡ of_kind fault_kinds place kind bytes at
  told place kind bytes at is = rw (of_kept_kind (is_one_of numbers) fault_kinds place kind bytes at, is) refl

  -- ---- one spelling

  again : (bytes : List ℕ) (at : ℕ) (x : TreeError) (next : ℕ) → Stands bytes at (tree_fault x) next → FaultFitsOf numbers x → fault_of numbers bytes at ≡ Ok (x, next)
  unfolding fault_of
  again bytes at RootFixed next stands fits = tagged_again0 (kinds_of numbers) 1 (lit< tt) RootFixed bytes at next (told at 1 bytes (at + 1) fits.1) stands
  again bytes at (NoParent p) next stands fits = tagged_again1 (kinds_of numbers) 2 (lit< tt) path_codec NoParent bytes at p next (told at 2 bytes (at + 1) fits.1) stands fits.0
  again bytes at (Exists p) next stands fits = tagged_again1 (kinds_of numbers) 3 (lit< tt) path_codec Exists bytes at p next (told at 3 bytes (at + 1) fits.1) stands fits.0
  again bytes at (Missing p) next stands fits = tagged_again1 (kinds_of numbers) 4 (lit< tt) path_codec Missing bytes at p next (told at 4 bytes (at + 1) fits.1) stands fits.0
  again bytes at (IsFolder p) next stands fits = tagged_again1 (kinds_of numbers) 5 (lit< tt) path_codec IsFolder bytes at p next (told at 5 bytes (at + 1) fits.1) stands fits.0
  again bytes at (NotEmpty p q) next stands fits = tagged_again2 (kinds_of numbers) 6 (lit< tt) path_codec (λ _ _. path_codec) NotEmpty bytes at p q next (told at 6 bytes (at + 1) fits.1) stands fits.0.0 fits.0.1
  again bytes at (RowsFull n) next stands fits = tagged_again1 (kinds_of numbers) 7 (lit< tt) u32_codec RowsFull bytes at n next (told at 7 bytes (at + 1) fits.1) stands fits.0
  again bytes at (FileTooLarge n) next stands fits = tagged_again1 (kinds_of numbers) 8 (lit< tt) u64_codec FileTooLarge bytes at n next (told at 8 bytes (at + 1) fits.1) stands fits.0
  again bytes at (TreeFull n) next stands fits = tagged_again1 (kinds_of numbers) 9 (lit< tt) u64_codec TreeFull bytes at n next (told at 9 bytes (at + 1) fits.1) stands fits.0
  again bytes at (VersionTop p) next stands fits = tagged_again1 (kinds_of numbers) 10 (lit< tt) path_codec VersionTop bytes at p next (told at 10 bytes (at + 1) fits.1) stands fits.0
  again bytes at Memory next stands fits = absurd fits.0

  pub fault_of_codec : IsCodec (fault_of numbers) tree_fault (FaultFitsOf numbers)
  unfolding fault_of
  fault_of_codec = record { found = tagged_found tree_fault (FaultFitsOf numbers) (kinds_of numbers) branches; fault = tagged_fault tree_fault (FaultFitsOf numbers) (kinds_of numbers) branches; again = again }

  -- ---- bytes that end too early

  whole : (x : TreeError) → FaultFits x → sum (fault_fields x) ≡ length (tree_fault x)
  whole RootFixed fits = refl
  whole (NoParent p) fits = omega (arith, sum_more 1 (path_fields p), path_cut.whole p fits)
  whole (Exists p) fits = omega (arith, sum_more 1 (path_fields p), path_cut.whole p fits)
  whole (Missing p) fits = omega (arith, sum_more 1 (path_fields p), path_cut.whole p fits)
  whole (IsFolder p) fits = omega (arith, sum_more 1 (path_fields p), path_cut.whole p fits)
  whole (VersionTop p) fits = omega (arith, sum_more 1 (path_fields p), path_cut.whole p fits)
  whole (NotEmpty p q) fits =
      omega (arith, sum_more 1 (path_fields p ++ path_fields q), sum_both (path_fields p) (path_fields q), length-append (path p) (path q), path_cut.whole p fits.0, path_cut.whole q fits.1)
  whole (RowsFull n) fits = omega (arith, sum_more 1 (4 ∷ []), u32_cut.whole n fits)
  whole (FileTooLarge n) fits = omega (arith, sum_more 1 (8 ∷ []), u64_cut.whole n fits)
  whole (TreeFull n) fits = omega (arith, sum_more 1 (8 ∷ []), u64_cut.whole n fits)
  whole Memory fits = absurd fits

  ends : (bytes : List ℕ) (at : ℕ) (x : TreeError) (next end : ℕ) → Stands bytes at (tree_fault x) next → FaultFitsOf numbers x → at ≤ end → end < next → fault_of numbers (take end bytes) at ≡ Err (at + start_of (end - at) (fault_fields x))
  unfolding fault_of
  ends bytes at RootFixed next end stands fits le lt = tagged_cut (kinds_of numbers) 1 (lit< tt) bytes at [] next end [] stands le (λ ge. absurd (omega (arith, stands.next_is)))
  ends bytes at (NoParent p) next end stands fits le lt =
      tagged_cut (kinds_of numbers) 2 (lit< tt) bytes at (path p) next end (path_fields p) stands le
      (λ ge. told at 2 (take end bytes) (at + 1) fits.1 ∙ one_cut path_cut NoParent bytes (at + 1) p next end (stands_second bytes at (2 ∷ []) (path p) next stands) fits.0 ge lt)
  ends bytes at (Exists p) next end stands fits le lt =
      tagged_cut (kinds_of numbers) 3 (lit< tt) bytes at (path p) next end (path_fields p) stands le
      (λ ge. told at 3 (take end bytes) (at + 1) fits.1 ∙ one_cut path_cut Exists bytes (at + 1) p next end (stands_second bytes at (3 ∷ []) (path p) next stands) fits.0 ge lt)
  ends bytes at (Missing p) next end stands fits le lt =
      tagged_cut (kinds_of numbers) 4 (lit< tt) bytes at (path p) next end (path_fields p) stands le
      (λ ge. told at 4 (take end bytes) (at + 1) fits.1 ∙ one_cut path_cut Missing bytes (at + 1) p next end (stands_second bytes at (4 ∷ []) (path p) next stands) fits.0 ge lt)
  ends bytes at (IsFolder p) next end stands fits le lt =
      tagged_cut (kinds_of numbers) 5 (lit< tt) bytes at (path p) next end (path_fields p) stands le
      (λ ge. told at 5 (take end bytes) (at + 1) fits.1 ∙ one_cut path_cut IsFolder bytes (at + 1) p next end (stands_second bytes at (5 ∷ []) (path p) next stands) fits.0 ge lt)
  ends bytes at (VersionTop p) next end stands fits le lt =
      tagged_cut (kinds_of numbers) 10 (lit< tt) bytes at (path p) next end (path_fields p) stands le
      (λ ge. told at 10 (take end bytes) (at + 1) fits.1 ∙ one_cut path_cut VersionTop bytes (at + 1) p next end (stands_second bytes at (10 ∷ []) (path p) next stands) fits.0 ge lt)
  ends bytes at (NotEmpty p q) next end stands fits le lt =
      tagged_cut (kinds_of numbers) 6 (lit< tt) bytes at (path p ++ path q) next end (path_fields p ++ path_fields q) stands le
      (λ ge. told at 6 (take end bytes) (at + 1) fits.1 ∙ two_cut path_codec path_cut (λ _ _. path_cut) NotEmpty bytes (at + 1) p q next end (stands_second bytes at (6 ∷ []) (path p ++ path q) next stands) fits.0.0 fits.0.1 ge lt)
  ends bytes at (RowsFull n) next end stands fits le lt =
      tagged_cut (kinds_of numbers) 7 (lit< tt) bytes at (digits w32 n) next end (4 ∷ []) stands le
      (λ ge. told at 7 (take end bytes) (at + 1) fits.1 ∙ one_cut u32_cut RowsFull bytes (at + 1) n next end (stands_second bytes at (7 ∷ []) (digits w32 n) next stands) fits.0 ge lt)
  ends bytes at (FileTooLarge n) next end stands fits le lt =
      tagged_cut (kinds_of numbers) 8 (lit< tt) bytes at (digits w64 n) next end (8 ∷ []) stands le
      (λ ge. told at 8 (take end bytes) (at + 1) fits.1 ∙ one_cut u64_cut FileTooLarge bytes (at + 1) n next end (stands_second bytes at (8 ∷ []) (digits w64 n) next stands) fits.0 ge lt)
  ends bytes at (TreeFull n) next end stands fits le lt =
      tagged_cut (kinds_of numbers) 9 (lit< tt) bytes at (digits w64 n) next end (8 ∷ []) stands le
      (λ ge. told at 9 (take end bytes) (at + 1) fits.1 ∙ one_cut u64_cut TreeFull bytes (at + 1) n next end (stands_second bytes at (9 ∷ []) (digits w64 n) next stands) fits.0 ge lt)
  ends bytes at Memory next end stands fits le lt = absurd fits.0

  pub fault_of_cut : IsCut (fault_of numbers) tree_fault fault_fields (FaultFitsOf numbers)
  fault_of_cut = record { whole = λ x fits. whole x fits.0; cut = ends }

-- ---- every refusal

pub all_allowed : fault_at ≡ fault_of all_faults
unfolding fault_at fault_of
all_allowed = refl

is_any : (x : TreeError) → FaultFits x → is_one_of all_faults (fault_number x) ≡ true
is_any RootFixed fits = refl
is_any (NoParent p) fits = refl
is_any (Exists p) fits = refl
is_any (Missing p) fits = refl
is_any (IsFolder p) fits = refl
is_any (NotEmpty p q) fits = refl
is_any (RowsFull n) fits = refl
is_any (FileTooLarge n) fits = refl
is_any (TreeFull n) fits = refl
is_any (VersionTop p) fits = refl
is_any Memory fits = absurd fits

pub fault_codec : IsCodec fault_at tree_fault FaultFits
fault_codec = rw all_allowed (codec_for (fault_of_codec all_faults) (λ x fits. fits.0) (λ x fits. (fits, is_any x fits)))

pub fault_cut : IsCut fault_at tree_fault fault_fields FaultFits
fault_cut = rw all_allowed (cut_for (fault_of_cut all_faults) (λ x fits. (fits, is_any x fits)))

-- ---- refusals that break a rule

none_of : (numbers : List ℕ) (number : ℕ) → AllByRecursion (λ known. number ≢ known) numbers → is_one_of numbers number ≡ false
none_of [] number all = refl
none_of (n ∷ numbers) number all = rw (eq_fails n number (λ e. all.0 (sym e)), none_of numbers number all.1) refl

module _ (numbers : List ℕ) where
  -- a path that is refused where it is all that follows the number
  path_refused : (number : ℕ) (made : FilePath → TreeError) (text : List ℕ) (offset : ℕ) → number < 2 ^ 8 → ((place at : ℕ) (bytes : List ℕ) → of_kind fault_kinds place number bytes at ≡ one path_at made bytes at)
      → IsRefused path_at text offset → is_one_of numbers number ≡ true → IsRefused (fault_of numbers) (number ∷ text) (1 + offset)
  unfolding fault_of
  path_refused number made text offset byte same refused is =
      tagged_refused (kinds_of numbers) number (one path_at made) text offset byte (λ place at bytes. told numbers place number bytes at is ∙ same place at bytes) (first_refused path_at (λ p. none (made p)) text offset refused)

  -- the first of two paths
  pair_refused : (text : List ℕ) (offset : ℕ) → IsRefused path_at text offset → is_one_of numbers 6 ≡ true → IsRefused (fault_of numbers) (6 ∷ text) (1 + offset)
  unfolding fault_of
  pair_refused text offset refused is =
      tagged_refused (kinds_of numbers) 6 (two path_at (λ _. path_at) NotEmpty) text offset (lit< tt) (λ place at bytes. told numbers place 6 bytes at is) (first_refused path_at (λ p. one path_at (NotEmpty p)) text offset refused)

  pub broken_faults : BrokenFaults numbers
  unfolding fault_of
  broken_faults = record {
    number_is_none = λ number byte all.
        kind_refused (kinds_of numbers) number byte (λ place at bytes. rw (of_kept_kind (is_one_of numbers) fault_kinds place number bytes at, none_of numbers number all) refl);
    path_is_refused = λ text offset refused. (path_refused 2 NoParent text offset (lit< tt) (λ place at bytes. refl) refused, (path_refused 3 Exists text offset (lit< tt) (λ place at bytes. refl) refused, (path_refused 4 Missing text offset (lit< tt) (λ place at bytes. refl) refused, (path_refused 5 IsFolder text offset (lit< tt) (λ place at bytes. refl) refused, (pair_refused text offset refused, (path_refused 10 VersionTop text offset (lit< tt) (λ place at bytes. refl) refused, tt))))));
    child_is_refused = λ p text offset is allowed refused.
        tagged_refused (kinds_of numbers) 6 (two path_at (λ _. path_at) NotEmpty) (path p ++ text) (length (path p) + offset) (lit< tt) (λ place at bytes. told numbers place 6 bytes at allowed)
        (later_refused path_at (λ q. one path_at (NotEmpty q)) (path p) text p offset (read_again path_codec p is) (first_refused path_at (λ q. none (NotEmpty p q)) text offset refused));
  }
