-- Frames that come in pieces.
use Rattle.std.proofs.Common.{◌≡◌, ℕ, ◌+◌, ◌≤◌, List, ◌++◌, length, take, Option, None, Some, Result, Ok, IfOk, refl, sym, ◌∙◌, ap, subst, arith}
use Rattle.std.proofs.Common.{append_assoc}
use Rattle.std.proofs.lemmas.List.{take_all, length-append, append-nil}
use Rattle.std.proofs.Math.Seq.{take-append_seam}
use Rattle.std.specs.Io.KnownBytes.{Keeps, Consumes, IsAtEnd, prepend_known}
use Rattle.paced_talks.specs.Frames.{frame_limit, announced_bytes, first_frame, missing_bytes}
use Rattle.paced_talks.specs.Inside.{ReadsBlock}
use Rattle.paced_talks.specs.Talks.{IsBegun, IsFirstFrame}
use Rattle.paced_talks.proofs.Framing.{announced_stays, announced_same, announced_fits}

-- a begun frame with no more behind it than is missing is begun
pub begun_more : (old piece : List ℕ) → IsBegun old → length piece ≤ missing_bytes old → IsBegun (old ++ piece)
begun_more old piece begun few =
    let long : length (old ++ piece) ≡ length old + length piece = length-append old piece in
    let more : announced_bytes old ≤ announced_bytes (old ++ piece) = announced_stays old piece in
    omega (arith, begun, few, long, more)

-- what was read and what is left stay together the same
pub same_bytes : (old piece : List ℕ) (before after : Option (List ℕ)) → Consumes before after piece
    → Keeps (prepend_known old before) (prepend_known (old ++ piece) after)
same_bytes old piece None after consumes = tt
same_bytes old piece (Some xs) None consumes = absurd consumes
same_bytes old piece (Some xs) (Some ys) consumes = append_assoc old piece ys ∙ ap (λ (l : List ℕ). old ++ l) (sym consumes)

-- what a read that came brought, where it read at most what was missing
pub reads_of : {E : Type 0} (came : Result ℕ E) (most want count : ℕ) (before after : Option (List ℕ)) (old new : List ℕ) → came ≡ Ok count
    → most ≡ want → IfOk came (ReadsBlock most before after old new) → ReadsBlock want before after old new count
reads_of {E} came most want count before after old new is same reads =
    subst (λ (m : ℕ). ReadsBlock m before after old new count) same (subst (λ (r : Result ℕ E). IfOk r (ReadsBlock most before after old new)) is reads)

-- the same of a read
pub begun_after : (before after : Option (List ℕ)) (old new : List ℕ) (count : ℕ) → IsBegun old
    → ReadsBlock (missing_bytes old) before after old new count → IsBegun new
begun_after before after old new count begun reads =
    let few : length reads.0 ≤ missing_bytes old = omega (arith, reads.2, reads.3) in
    subst IsBegun (sym reads.1) (begun_more old reads.0 begun few)

pub same_after : (most : ℕ) (before after : Option (List ℕ)) (old new : List ℕ) (count : ℕ) → ReadsBlock most before after old new count
    → Keeps (prepend_known old before) (prepend_known new after)
same_after most before after old new count reads =
    subst (λ (l : List ℕ). Keeps (prepend_known old before) (prepend_known l after)) (sym reads.1) (same_bytes old reads.0 before after reads.4)

pub grows_after : (most : ℕ) (before after : Option (List ℕ)) (old new : List ℕ) (count : ℕ) → ReadsBlock most before after old new count
    → length new ≡ length old + count
grows_after most before after old new count reads =
    ap length reads.1 ∙ length-append old reads.0 ∙ ap (λ (n : ℕ). length old + n) reads.2

pub same_waiting : (before after : Option (List ℕ)) (old new : List ℕ) → Keeps before after → new ≡ old
    → Keeps (prepend_known old before) (prepend_known new after)
same_waiting None after old new keeps same = tt
same_waiting (Some xs) None old new keeps same = absurd keeps
same_waiting (Some xs) (Some ys) old new keeps same = ap (λ (l : List ℕ). l ++ ys) same ∙ ap (λ (l : List ℕ). old ++ l) keeps

pub same_self : (a : Option (List ℕ)) (old : List ℕ) → Keeps (prepend_known old a) (prepend_known old a)
same_self None old = tt
same_self (Some xs) old = refl

-- a begun frame is within the limit
pub begun_fits : (bytes : List ℕ) → IsBegun bytes → length bytes ≤ frame_limit
begun_fits bytes begun =
    let fits : announced_bytes bytes + 4 ≤ frame_limit = announced_fits bytes in
    omega (arith, begun, fits)

-- a begun frame is the first one of its bytes
begun_is_first : (bytes : List ℕ) → IsBegun bytes → first_frame bytes ≡ bytes
begun_is_first bytes begun = take_all (4 + announced_bytes bytes) bytes begun

-- and of those behind it too, where none is missing
first_of_more : (bytes rest : List ℕ) → IsBegun bytes → missing_bytes bytes ≡ 0 → first_frame (bytes ++ rest) ≡ bytes
first_of_more bytes rest begun none =
    let long : length bytes ≡ 4 + announced_bytes bytes = omega (arith, begun, none) in
    let same : announced_bytes (bytes ++ rest) ≡ announced_bytes bytes = announced_same bytes rest (omega (arith, long)) in
    ap (λ (n : ℕ). take n (bytes ++ rest)) (ap (λ (n : ℕ). 4 + n) same ∙ sym long) ∙ take-append_seam bytes rest

-- a frame of which none is missing is the first one of its stream
pub whole_is_first : (bytes : List ℕ) (left : Option (List ℕ)) → IsBegun bytes → missing_bytes bytes ≡ 0 → IsFirstFrame bytes left
whole_is_first bytes left begun none = (begun_is_first bytes begun, λ rest known. first_of_more bytes rest begun none)

none_is_no_some : (x : List ℕ) → (let o : Option (List ℕ) = None in o ≡ Some x) → ⊥
none_is_no_some x e = cc

same_some : (x y : List ℕ) → (let o : Option (List ℕ) = Some x in o ≡ Some y) → x ≡ y
same_some x y e = cc

-- and so is one at the end of its stream
first_at_end : (bytes : List ℕ) (left : Option (List ℕ)) → IsBegun bytes → IsAtEnd left → IsFirstFrame bytes left
first_at_end bytes None begun ended = (begun_is_first bytes begun, λ rest known. absurd (none_is_no_some rest known))
first_at_end bytes (Some xs) begun ended =
    (begun_is_first bytes begun, λ rest known. ap first_frame (ap (λ (l : List ℕ). bytes ++ l) (sym (same_some xs rest known) ∙ ended) ∙ append-nil bytes) ∙ begun_is_first bytes begun)

-- a read that brought nothing ends it
pub ends_after : (before after : Option (List ℕ)) (old new : List ℕ) (count : ℕ) → IsBegun old
    → ReadsBlock (missing_bytes old) before after old new count → count ≡ 0 → IsFirstFrame new after
ends_after before after old new count begun reads none =
    first_at_end new after (begun_after before after old new count begun reads) (reads.5 none)
