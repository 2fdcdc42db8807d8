-- The laws of whole frames.
use Rattle.std.proofs.Common.{◌≡◌, ℕ, ◌+◌, ◌^◌, ◌<◌, ◌≤◌, Bool, true, false, cond, eqb, List, [], ◌∷◌, ◌++◌, length, get_or, take, drop, Option, Some, None, inl, inr, ◌⊎◌, Result, Ok, Err, refl, sym, ap, subst, ◌∙◌, arith, length-append, length-take, drop-cons, append_assoc}
use Rattle.std.specs.Int.{w32, from_be_bytes, to_be_bytes}
use Rattle.std.specs.Prelude.{IfOk}
use Rattle.std.specs.List.{find}
use Rattle.std.proofs.lemmas.Bool.{leb-true, le-leb, eqb-true, eq-eqb, and_parts, and_from}
use Rattle.std.proofs.lemmas.List.{take-append-drop, append-nil, take_at, drop_at}
use Rattle.std.proofs.Math.Seq.{drop-length}
use Rattle.std.proofs.lemmas.Nat.{be_bytes_4, from_be_bytes-to_be_bytes_4}
use Rattle.byte_fields.specs.Field.{digits}
use Rattle.byte_fields.specs.Codec.{Stands, IsBytes}
use Rattle.byte_fields.proofs.Facts.{bytes_taken, four_bytes}
use Rattle.wire_frames.specs.declared.message.Message.{Message}
use Rattle.wire_frames.specs.declared.message.Kind.{Kind}
use Rattle.wire_frames.specs.declared.message.Kind.TheVariants.{Store, Operate, Pull, Accepted, Stale, Unfit, Gap, Snapshot, Done, Declined, Full, Malformed}
use Rattle.wire_frames.specs.declared.message.FrameError.{FrameError}
use Rattle.wire_frames.specs.declared.message.FrameError.TheVariants.{BadLength, BadVersion, BadClient, Trailing}
use Rattle.wire_frames.specs.Frame.{frame_version, kind, client_of, code_of, client_rule, payload, frame, IsValid}
use Rattle.wire_frames.specs.Reading.{message_at, kinds, kind_of, whole, message_of_kind, is_sized, frame_of, GivesFrame}
use Rattle.wire_frames.proofs.Sizes.{frame_small, payload_small}
use Rattle.wire_frames.proofs.Messages.{tail, message_found, message_again}

pub record IsSized (bytes : List ℕ) : Type 0 where
  pub low : 15 ≤ length bytes
  pub high : length bytes ≤ 67108864
  pub told : from_be_bytes w32 (take 4 bytes) + 4 ≡ length bytes

pub sized : (bytes : List ℕ) → is_sized bytes ≡ true → IsSized bytes
sized bytes e =
    let p = and_parts _ _ e in
    let q = and_parts _ _ p.0 in
    record { low = leb-true _ _ q.0; high = leb-true _ _ q.1; told = eqb-true _ _ p.1 }

pub are_sized : (bytes : List ℕ) → IsSized bytes → is_sized bytes ≡ true
are_sized bytes s = and_from _ _ (and_from _ _ (le-leb _ _ s.low) (le-leb _ _ s.high)) (eq-eqb _ _ s.told)

-- ---- what is read is spelled so

past : {A : Type 0} (test : Bool) (r : Result A FrameError) (refusal : FrameError) (x : A) → cond test r (Err refusal) ≡ Ok x → (test ≡ true) × (r ≡ Ok x)
past true r refusal x e = (refl, e)
past false r refusal x e = absurd cc

chosen : {A : Type 0} (test : Bool) (x : A) (o : Option A) (y : A) → cond test (Some x) o ≡ Some y → ((test ≡ true) × (x ≡ y)) ⊎ (o ≡ Some y)
chosen true x o y e = inl (refl, cc)
chosen false x o y e = inr e

found_first : (test : Kind → Bool) (ks : List Kind) (k : Kind) → find test ks ≡ Some k → test k ≡ true
found_first test [] k e = absurd cc
found_first test (x ∷ xs) k e =
    elim (chosen (test x) x (find test xs) k e) [
      | inl here ↦ subst (λ (y : Kind). test y ≡ true) here.1 here.0
      | inr there ↦ found_first test xs k there
    ]

pub kind_found : (code : ℕ) (k : Kind) → kind_of code ≡ Some k → code_of k ≡ code
kind_found code k e = eqb-true (code_of k) code (found_first (λ x. eqb (code_of x) code) kinds k e)

kind_ok : (o : Option Kind) (bytes : List ℕ) (m : Message) → message_of_kind o bytes ≡ Ok m → (k : Kind) × (o ≡ Some k) × (client_rule k (get_or bytes 6 0) ≡ true) × (whole bytes (message_at k (get_or bytes 6 0) bytes 7) ≡ Ok m)
kind_ok None bytes m e = absurd cc
kind_ok (Some k) bytes m e = let p = past (client_rule k (get_or bytes 6 0)) (whole bytes (message_at k (get_or bytes 6 0) bytes 7)) BadClient m e in (k, refl, p.0, p.1)

ended_ok : (ended : Bool) (n : ℕ) (x m : Message) → cond ended (Ok x) (Err (Trailing n)) ≡ Ok m → (ended ≡ true) × (x ≡ m)
ended_ok true n x m e = (refl, cc)
ended_ok false n x m e = absurd cc

whole_ok : (bytes : List ℕ) (r : Result (Message × ℕ) ℕ) (m : Message) → whole bytes r ≡ Ok m → r ≡ Ok (m, length bytes)
whole_ok bytes (Err place) m e = absurd cc
whole_ok bytes (Ok x) m e =
    let p = ended_ok (eqb x.1 (length bytes)) x.1 x.0 m e in
    ap (λ (y : Message × ℕ). Ok y) (rw (← p.1, ← eqb-true x.1 (length bytes) p.0) refl)

-- four bytes, three single ones, and the rest
pub header : (bytes : List ℕ) → 15 ≤ length bytes → bytes ≡ take 4 bytes ++ (get_or bytes 4 0 ∷ get_or bytes 5 0 ∷ get_or bytes 6 0 ∷ drop 7 bytes)
header bytes low =
    let a : drop 4 bytes ≡ get_or bytes 4 0 ∷ drop 5 bytes = drop-cons bytes 4 0 (omega arith) in
    let b : drop 5 bytes ≡ get_or bytes 5 0 ∷ drop 6 bytes = drop-cons bytes 5 0 (omega arith) in
    let c : drop 6 bytes ≡ get_or bytes 6 0 ∷ drop 7 bytes = drop-cons bytes 6 0 (omega arith) in
    sym (take-append-drop 4 bytes) ∙ ap (λ (rest : List ℕ). take 4 bytes ++ rest) (a ∙ ap (λ (rest : List ℕ). get_or bytes 4 0 ∷ rest) (b ∙ ap (λ (rest : List ℕ). get_or bytes 5 0 ∷ rest) c))

pub frame_found : (bytes : List ℕ) (m : Message) → IsBytes bytes → frame_of bytes ≡ Ok m → IsValid m × (bytes ≡ frame m)
unfolding frame_of digits
frame_found bytes m fits e =
    let p = past (is_sized bytes) (cond (eqb (get_or bytes 4 0) frame_version) (message_of_kind (kind_of (get_or bytes 5 0)) bytes) (Err BadVersion)) BadLength m e in
    let long = sized bytes p.0 in
    let v = past (eqb (get_or bytes 4 0) frame_version) (message_of_kind (kind_of (get_or bytes 5 0)) bytes) BadVersion m p.1 in
    let version : get_or bytes 4 0 ≡ frame_version = eqb-true _ _ v.0 in
    let k = kind_ok (kind_of (get_or bytes 5 0)) bytes m v.1 in
    let r = message_found k.0 (get_or bytes 6 0) k.2 bytes 7 m (length bytes) fits (omega (arith, long.low)) (whole_ok bytes (message_at k.0 (get_or bytes 6 0) bytes 7) m k.3) in
    let code : get_or bytes 5 0 ≡ code_of (kind m) = sym (kind_found (get_or bytes 5 0) k.0 k.1) ∙ ap code_of (sym r.kind_is) in
    let rest : drop 7 bytes ≡ tail m = r.stands.here ∙ ap (λ (x : List ℕ). tail m ++ x) (drop-length bytes) ∙ append-nil (tail m) in
    let after : get_or bytes 4 0 ∷ get_or bytes 5 0 ∷ get_or bytes 6 0 ∷ drop 7 bytes ≡ payload m = rw (version, code, ← r.client_is, rest) refl in
    let parts : bytes ≡ take 4 bytes ++ payload m = header bytes long.low ∙ ap (λ (x : List ℕ). take 4 bytes ++ x) after in
    let four : length (take 4 bytes) ≡ 4 = omega (arith, length-take 4 bytes, long.low) in
    let size : length (payload m) ≡ from_be_bytes w32 (take 4 bytes) = omega (arith, ap length parts, length-append (take 4 bytes) (payload m), four, long.told) in
    let told : to_be_bytes w32 (length (payload m)) ≡ take 4 bytes = be_bytes_4 (take 4 bytes) (length (payload m)) four (bytes_taken 4 bytes fits) size in
    let whole_frame : bytes ≡ frame m = parts ∙ ap (λ (x : List ℕ). x ++ payload m) (sym told) in (
      record {
        client_fits = rw (r.kind_is, r.client_is) k.2;
        number_fits = rw r.kind_is r.number_fits;
        number_small = r.number_small;
        body_fits = r.body_fits;
      },
      whole_frame,
    )

-- ---- what is spelled so is read

pub kind_again : (k : Kind) → kind_of (code_of k) ≡ Some k
kind_again Store = refl
kind_again Operate = refl
kind_again Pull = refl
kind_again Accepted = refl
kind_again Stale = refl
kind_again Unfit = refl
kind_again Full = refl
kind_again Gap = refl
kind_again Snapshot = refl
kind_again Done = refl
kind_again Declined = refl
kind_again Malformed = refl

reads_again : (bytes : List ℕ) (m : Message) → is_sized bytes ≡ true → get_or bytes 4 0 ≡ frame_version → get_or bytes 5 0 ≡ code_of (kind m) → get_or bytes 6 0 ≡ client_of m → client_rule (kind m) (client_of m) ≡ true
    → message_at (kind m) (client_of m) bytes 7 ≡ Ok (m, length bytes) → frame_of bytes ≡ Ok m
unfolding frame_of
reads_again bytes m is version code c fits read = rw (is, version, code, kind_again (kind m), c, fits, read, eq-eqb (length bytes) (length bytes) refl) refl

pub frame_again : (m : Message) → IsValid m → frame_of (frame m) ≡ Ok m
unfolding digits
frame_again m valid =
    let small : length (payload m) < 2 ^ 32 = omega (arith, frame_small m valid) in
    let is : is_sized (frame m) ≡ true = are_sized (frame m) (record { low = omega arith; high = omega (arith, frame_small m valid); told = rw (from_be_bytes-to_be_bytes_4 (length (payload m)) small) (omega arith) }) in
    let stands : Stands (frame m) 7 (tail m) (length (frame m)) = record { here = sym (ap (λ (x : List ℕ). tail m ++ x) (drop-length (frame m)) ∙ append-nil (tail m)); next_is = omega arith; within = omega arith } in
    let r = message_again m (frame m) 7 (length (frame m)) stands valid.number_fits valid.number_small valid.body_fits in
    reads_again (frame m) m is refl refl refl valid.client_fits r

pub is_found : (bytes : List ℕ) (r : Result Message FrameError) → IsBytes bytes → GivesFrame r (frame_of bytes) → IfOk r (λ m. IsValid m × (bytes ≡ frame m))
is_found bytes (Ok m) fits given = frame_found bytes m fits given
is_found bytes (Err e) fits given = tt

digits_again : (n : ℕ) → n < 2 ^ 32 → from_be_bytes w32 (digits w32 n) ≡ n
unfolding digits
digits_again n lt = from_be_bytes-to_be_bytes_4 n lt

-- ---- no frame is the front of another

same_size : (m n : Message) (x y : List ℕ) → IsValid m → IsValid n → frame m ++ x ≡ frame n ++ y → length (payload m) ≡ length (payload n)
same_size m n x y v w e =
    let front : (k : Message) (rest : List ℕ) → take 4 (frame k ++ rest) ≡ digits w32 (length (payload k)) = λ k rest. ap (take 4) (append_assoc (digits w32 (length (payload k))) (payload k) rest) ∙ take_at (digits w32 (length (payload k))) (payload k ++ rest) 4 (four_bytes (length (payload k))) in
    let told : digits w32 (length (payload m)) ≡ digits w32 (length (payload n)) = sym (front m x) ∙ ap (take 4) e ∙ front n y in
    sym (digits_again (length (payload m)) (payload_small m v)) ∙ ap (from_be_bytes w32) told ∙ digits_again (length (payload n)) (payload_small n w)

message_is : (m n : Message) → (let r : Result Message FrameError = Ok m in r ≡ Ok n) → m ≡ n
message_is m n e = cc

pub frames_apart : (m n : Message) (x y : List ℕ) → IsValid m → IsValid n → frame m ++ x ≡ frame n ++ y → (m ≡ n) × (x ≡ y)
frames_apart m n x y v w e =
    let size = same_size m n x y v w e in
    let len : length (frame m) ≡ length (frame n) = length-append (digits w32 (length (payload m))) (payload m) ∙ omega (arith, size, four_bytes (length (payload m)), four_bytes (length (payload n))) ∙ sym (length-append (digits w32 (length (payload n))) (payload n)) in
    let same : frame m ≡ frame n = sym (take_at (frame m) x (length (frame m)) refl) ∙ ap (take (length (frame m))) e ∙ take_at (frame n) y (length (frame m)) (sym len) in
    let rest : x ≡ y = sym (drop_at (frame m) x (length (frame m)) refl) ∙ ap (drop (length (frame m))) e ∙ drop_at (frame n) y (length (frame m)) (sym len) in
    (message_is m n (sym (frame_again m v) ∙ ap frame_of same ∙ frame_again n w), rest)
