-- Fronts of a frame whose parts come.
use Rattle.std.proofs.Common.{◌≡◌, ◌≢◌, ◌≤◌, ◌<◌, ◌⊎◌, ℕ, ◌+◌, List, [], ◌∷◌, ◌++◌, length, take, drop, None, Some, refl, sym, ap, ◌∙◌, arith, subst, inl, inr, Bool, not, filter, nat_le, length-take, length-append, take_all}
use Rattle.std.specs.List.{AllByRecursion}
use Rattle.std.proofs.Math.Seq.{take-add}
use Rattle.std.proofs.lemmas.Bool.{cases_eq}
use Rattle.std.proofs.lemmas.List.Sums.{sum_by-take-le}
use Rattle.std.proofs.lemmas.List.Filters.{sum_by-filter_both, length-filter_both}
use Rattle.frame_parts.specs.declared.front.Front.{Front}
use Rattle.frame_parts.specs.declared.front.Put.{Put}
use Rattle.frame_parts.specs.declared.part.Part.{Part}
use Rattle.frame_parts.specs.Limits.{most_bytes}
use Rattle.frame_parts.specs.Fronts.{front_of, without, bytes_of, bytes_in, there, IsNamed, FitBehind, HasRoom, Keeps, Puts}
use Rattle.frame_parts.specs.Coming.{Came, IsOf, IsPiece, IsOfFrame, HasFront, PutsAll}
use Rattle.frame_parts.proofs.Kept.{passed_front, front_without, front_taken, length-without, bytes_cons, bytes-without, there_same, there_first}

-- a piece behind a front is a front
joined_front : (frame before piece : List ℕ) (at : ℕ) → before ≡ take (length before) frame → at ≡ length before
    → piece ≡ take (length piece) (drop at frame) → before ++ piece ≡ take (length (before ++ piece)) frame
joined_front frame before piece at front is stands =
    ap (λ (l : List ℕ). l ++ piece) front
    ∙ ap (λ (l : List ℕ). take (length before) frame ++ l) (stands ∙ ap (λ (n : ℕ). take (length piece) (drop n frame)) is)
    ∙ sym (take-add (length before) (length piece) frame)
    ∙ ap (λ (n : ℕ). take n frame) (sym (length-append before piece))

-- one that is as long as the frame is the frame
whole_front : (frame joined : List ℕ) (size : ℕ) → joined ≡ take (length joined) frame → length joined ≡ size → size ≡ length frame → joined ≡ frame
whole_front frame joined size front long is = front ∙ take_all (length joined) frame (omega (arith, long, is))

-- parts of one frame are alike
same_there : (frame : List ℕ) (part other : Part) (fronts : List Front) → IsOf frame part → IsOf frame other → there part fronts ≡ there other fronts
same_there frame part other fronts one two =
    let client : part.client ≡ other.client = cc (one.named.client, two.named.client) in
    there_same part other fronts client (sym one.named.print ∙ two.named.print) (one.size ∙ sym two.size)

kept_first : (most : ℕ) (part : Part) (bytes : List ℕ) (now : ℕ) (others new : List Front) → Keeps most part bytes now others new → there part new ≡ bytes
kept_first most part bytes now others new keeps =
    ap (there part) keeps.2.first ∙ there_first part bytes now keeps.0 (take keeps.2.kept others) keeps.1

-- what is there of the frame behind a part of it
own_part : (most : ℕ) (frame : List ℕ) (part : Part) (piece : List ℕ) (now : ℕ) (old new : List Front) (put : Put)
    → HasFront frame old → IsOf frame part → IsPiece frame part piece → Puts most part piece now old put new
    → there part new ≡ take (length (there part new)) frame
own_part most frame part piece now old new put has of stands (inl same) = subst (λ (l : List Front). there part l ≡ take (length (there part l)) frame) (sym same.2) (has part of)
own_part most frame part piece now old new put has of stands (inr (at, inl appended)) =
    subst (λ (l : List ℕ). l ≡ take (length l) frame) (sym (kept_first most part _ now _ new appended.2)) (joined_front frame (there part old) piece part.at (has part of) at stands)
own_part most frame part piece now old new put has of stands (inr (at, inr (inl handed))) =
    subst (λ (l : List ℕ). l ≡ take (length l) frame) (sym (kept_first most part _ now _ new handed.3)) (has part of)
own_part most frame part piece now old new put has of stands (inr (at, inr (inr dropped))) =
    absurd (dropped.1 (subst (IsNamed part)
    (sym (whole_front frame (there part old ++ piece) part.size (joined_front frame (there part old) piece part.at (has part of) at stands) dropped.0 of.size)) of.named))

-- another client's front stays, or is let go
kept_other : (most : ℕ) (part : Part) (bytes : List ℕ) (now : ℕ) (old new : List Front) (client : ℕ) → (client ≡ part.client → ⊥)
    → Keeps most part bytes now (without part.client old) new → (front_of client new ≡ front_of client old) ⊎ (front_of client new ≡ None)
kept_other most part bytes now old new client differs keeps =
    let passed : front_of client new ≡ front_of client (take keeps.2.kept (without part.client old)) =
    ap (front_of client) keeps.2.first
    ∙ passed_front client keeps.0 (take keeps.2.kept (without part.client old)) (λ same. differs (sym same ∙ keeps.1.client)) in
    elim (front_taken client keeps.2.kept (without part.client old)) [
      | inl same ↦ inl (passed ∙ same ∙ front_without client part.client old differs)
      | inr none ↦ inr (passed ∙ none)
    ]

other_front : (most : ℕ) (part : Part) (piece : List ℕ) (now : ℕ) (old new : List Front) (put : Put) (client : ℕ) → (client ≡ part.client → ⊥)
    → Puts most part piece now old put new → (front_of client new ≡ front_of client old) ⊎ (front_of client new ≡ None)
other_front most part piece now old new put client differs (inl same) = inl (ap (front_of client) same.2)
other_front most part piece now old new put client differs (inr (at, inl appended)) = kept_other most part _ now old new client differs appended.2
other_front most part piece now old new put client differs (inr (at, inr (inl handed))) = kept_other most part _ now old new client differs handed.3
other_front most part piece now old new put client differs (inr (at, inr (inr dropped))) =
    inl (ap (front_of client) dropped.3 ∙ front_without client part.client old differs)

pub other_part : (frame : List ℕ) (part : Part) (old new : List Front) → HasFront frame old → IsOf frame part
    → (front_of part.client new ≡ front_of part.client old) ⊎ (front_of part.client new ≡ None) → there part new ≡ take (length (there part new)) frame
other_part frame part old new has of (inl same) =
    subst (λ (l : List ℕ). l ≡ take (length l) frame) (sym (ap (bytes_of part) same)) (has part of)
other_part frame part old new has of (inr none) =
    subst (λ (l : List ℕ). l ≡ take (length l) frame) (sym (ap (bytes_of part) none)) refl

one_more : (most : ℕ) (frame : List ℕ) (came : Came) (old new : List Front) (put : Put) → HasFront frame old → IsOfFrame frame came
    → Puts most came.part came.piece came.now old put new → HasFront frame new
one_more most frame came old new put has comes puts part of =
    elim (cases_eq part.client came.part.client) [
      | inl same ↦ (let is = comes (of.named.client ∙ ap Some same) in
          subst (λ (l : List ℕ). l ≡ take (length l) frame) (same_there frame came.part part new is.0 of)
          (own_part most frame came.part came.piece came.now old new put has is.0 is.1 puts))
      | inr differs ↦ other_part frame part old new has of (other_front most came.part came.piece came.now old new put part.client differs puts)
    ]

pub fronts_kept : (most : ℕ) (frame : List ℕ) (came : List Came) (old new : List Front) → HasFront frame old
    → AllByRecursion (IsOfFrame frame) came → PutsAll most came old new → HasFront frame new
fronts_kept most frame [] old new has all puts = subst (HasFront frame) (sym puts) has
fronts_kept most frame (came ∷ rest) old new has all puts =
    fronts_kept most frame rest puts.1 new (one_more most frame came old puts.1 puts.0 has all.0 puts.2) all.1 puts.3

-- where there is room

all_fit : (most first : ℕ) (others : List Front) (kept : ℕ) → FitBehind most first others kept → length others < most
    → first + bytes_in others ≤ most_bytes → length others ≤ kept
all_fit most first others kept fit few room =
    elim (cases_eq kept (length others)) [
      | inl same ↦ omega (arith, same)
      | inr differs ↦ elim (fit.needed (omega (arith, fit.within, differs))) [
        | inl many ↦ omega (arith, many, few, fit.within, differs)
        | inr much ↦ absurd (omega (arith, much, room, sum_by-take-le (λ (front : Front). length front.bytes.items) others (kept + 1)))
      ]
    ]

kept_room : (most : ℕ) (part : Part) (bytes : List ℕ) (now : ℕ) (old new : List Front) (client : ℕ) → (client ≡ part.client → ⊥)
    → length old < most → length bytes + bytes_in old ≤ most_bytes
    → Keeps most part bytes now (without part.client old) new → front_of client new ≡ front_of client old
kept_room most part bytes now old new client differs few room keeps =
    let count : length keeps.0.bytes.items ≡ length bytes = ap (λ (l : List ℕ). length l) keeps.1.bytes in
    let fits : length (without part.client old) ≤ keeps.2.kept = all_fit most (length keeps.0.bytes.items) (without part.client old) keeps.2.kept keeps.2.fit
    (omega (arith, few, length-without part.client old)) (omega (arith, room, count, bytes-without part.client old)) in
    ap (front_of client) keeps.2.first
    ∙ passed_front client keeps.0 (take keeps.2.kept (without part.client old)) (λ same. differs (sym same ∙ keeps.1.client))
    ∙ ap (front_of client) (take_all keeps.2.kept (without part.client old) fits)
    ∙ front_without client part.client old differs

pub others_kept : (most : ℕ) (part : Part) (piece : List ℕ) (now : ℕ) (old new : List Front) (put : Put) (other : ℕ)
    → other ≢ part.client → length old < most → part.size + bytes_in old ≤ most_bytes → Puts most part piece now old put new
    → front_of other new ≡ front_of other old
others_kept most part piece now old new put other differs few room (inl same) = ap (front_of other) same.2
others_kept most part piece now old new put other differs few room (inr (at, inl appended)) =
    kept_room most part _ now old new other differs few (omega (arith, room, appended.0)) appended.2
others_kept most part piece now old new put other differs few room (inr (at, inr (inl handed))) =
    kept_room most part _ now old new other differs few (omega (arith, room, handed.0, length-append (there part old) piece)) handed.3
others_kept most part piece now old new put other differs few room (inr (at, inr (inr dropped))) =
    ap (front_of other) dropped.3 ∙ front_without other part.client old differs

kept_has_room : (most : ℕ) (part : Part) (bytes : List ℕ) (now : ℕ) (others new : List Front) → Keeps most part bytes now others new
    → HasRoom most new
kept_has_room most part bytes now others new keeps = subst (HasRoom most) (sym keeps.2.first) (record {
  few = omega (arith, keeps.2.fit.few, length-take keeps.2.kept others);
  bytes = omega (arith, keeps.2.fit.bytes, bytes_cons keeps.0 (take keeps.2.kept others));
})

pub lost_have_room : (most client : ℕ) (fronts : List Front) → HasRoom most fronts → HasRoom most (without client fronts)
lost_have_room most client fronts room = record {
  few = omega (arith, room.few, length-without client fronts);
  bytes = omega (arith, room.bytes, bytes-without client fronts);
}

pub room_kept : (most : ℕ) (part : Part) (piece : List ℕ) (now : ℕ) (old new : List Front) (put : Put) → HasRoom most old
    → Puts most part piece now old put new → HasRoom most new
room_kept most part piece now old new put room (inl same) = subst (HasRoom most) (sym same.2) room
room_kept most part piece now old new put room (inr (at, inl appended)) = kept_has_room most part _ now _ new appended.2
room_kept most part piece now old new put room (inr (at, inr (inl handed))) = kept_has_room most part _ now _ new handed.3
room_kept most part piece now old new put room (inr (at, inr (inr dropped))) =
    subst (HasRoom most) (sym dropped.3) (lost_have_room most part.client old room)

pub later_have_room : (most since : ℕ) (fronts : List Front) → HasRoom most fronts
    → HasRoom most (filter (λ front. nat_le since front.seen) fronts)
later_have_room most since fronts room =
    let later : Front → Bool = λ front. nat_le since front.seen in
    record {
      few = omega (arith, room.few, length-filter_both later (λ (front : Front). not (later front)) (λ (front : Front). refl) fronts);
      bytes = omega (
        arith,
        room.bytes,
        sum_by-filter_both later (λ (front : Front). not (later front)) (λ (front : Front). refl)
            (λ (front : Front). length front.bytes.items) fronts,
      );
    }
