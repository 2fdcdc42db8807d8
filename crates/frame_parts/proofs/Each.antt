-- One front a client.
use Rattle.std.proofs.Common.{true, false, ◌≡◌, ◌⊎◌, ℕ, zero, suc, Bool, List, [], ◌∷◌, take, filter, nat_le, None, refl, sym, ap, ◌∙◌, subst, inl, inr}
use Rattle.std.proofs.lemmas.Bool.{cases_eq, cases_Bool}
use Rattle.frame_parts.specs.declared.front.Front.{Front}
use Rattle.frame_parts.specs.declared.front.Put.{Put}
use Rattle.frame_parts.specs.declared.part.Part.{Part}
use Rattle.frame_parts.specs.Fronts.{front_of, without, AreOne, Keeps, Puts}
use Rattle.frame_parts.specs.Coming.{HasFront}
use Rattle.frame_parts.proofs.Places.{first_front}
use Rattle.frame_parts.proofs.Kept.{passed_front, passed_without, taken_without, front_without, front_taken}
use Rattle.frame_parts.proofs.Coming.{other_part}

-- fronts of which a client has what it has of others, or none
abbrev pub HasOrNone : ℕ → List Front → List Front → Type 0
HasOrNone client new old = (front_of client new ≡ front_of client old) ⊎ (front_of client new ≡ None)

none_stays : (client : ℕ) (new old : List Front) → front_of client old ≡ None → HasOrNone client new old → front_of client new ≡ None
none_stays client new old none (inl same) = same ∙ none
none_stays client new old none (inr gone) = gone

none_without : (client : ℕ) (fronts : List Front) → AreOne fronts → front_of client (without client fronts) ≡ None
none_without client [] one = refl
none_without client (front ∷ fronts) one =
    elim (cases_eq front.client client) [
      | inl same ↦ ap (front_of client) (taken_without client front fronts same) ∙ ap (λ (n : ℕ). front_of n fronts) (sym same) ∙ one.0
      | inr differ ↦ ap (front_of client) (passed_without client front fronts differ)
          ∙ passed_front client front (without client fronts) differ ∙ none_without client fronts one.1
    ]

pub one_without : (client : ℕ) (fronts : List Front) → AreOne fronts → AreOne (without client fronts)
one_without client [] one = one
one_without client (front ∷ fronts) one =
    elim (cases_eq front.client client) [
      | inl same ↦ subst AreOne (sym (taken_without client front fronts same)) one.1
      | inr differ ↦ subst AreOne (sym (passed_without client front fronts differ))
          (front_without front.client client fronts differ ∙ one.0, one_without client fronts one.1)
    ]

one_taken : (count : ℕ) (fronts : List Front) → AreOne fronts → AreOne (take count fronts)
one_taken zero fronts one = tt
one_taken (suc count) [] one = one
one_taken (suc count) (front ∷ fronts) one =
    (none_stays front.client (take count fronts) fronts one.0 (front_taken front.client count fronts), one_taken count fronts one.1)

one_first : (most : ℕ) (part : Part) (bytes : List ℕ) (now : ℕ) (old new : List Front) → AreOne old
    → Keeps most part bytes now (without part.client old) new → AreOne new
one_first most part bytes now old new one keeps =
    let none : front_of part.client (take keeps.2.kept (without part.client old)) ≡ None =
    none_stays part.client (take keeps.2.kept (without part.client old)) (without part.client old) (none_without part.client old one)
    (front_taken part.client keeps.2.kept (without part.client old)) in
    subst AreOne (sym keeps.2.first) (
      ap (λ (n : ℕ). front_of n (take keeps.2.kept (without part.client old))) keeps.1.client ∙ none,
      one_taken keeps.2.kept (without part.client old) (one_without part.client old one),
    )

pub one_kept : (most : ℕ) (part : Part) (piece : List ℕ) (now : ℕ) (old new : List Front) (put : Put) → AreOne old
    → Puts most part piece now old put new → AreOne new
one_kept most part piece now old new put one (inl same) = subst AreOne (sym same.2) one
one_kept most part piece now old new put one (inr (at, inl appended)) = one_first most part _ now old new one appended.2
one_kept most part piece now old new put one (inr (at, inr (inl handed))) = one_first most part _ now old new one handed.3
one_kept most part piece now old new put one (inr (at, inr (inr dropped))) = subst AreOne (sym dropped.3) (one_without part.client old one)

-- those that pass a test

passes : (test : Front → Bool) (front : Front) (fronts : List Front) → test front ≡ true → filter test (front ∷ fronts) ≡ front ∷ filter test fronts
passes test front fronts holds = rw holds refl

fails_test : (test : Front → Bool) (front : Front) (fronts : List Front) → test front ≡ false → filter test (front ∷ fronts) ≡ filter test fronts
fails_test test front fronts fails = rw fails refl

front_filtered : (test : Front → Bool) (client : ℕ) (fronts : List Front) → AreOne fronts → HasOrNone client (filter test fronts) fronts
front_filtered test client [] one = inl refl
front_filtered test client (front ∷ fronts) one =
    elim (cases_eq front.client client) [
      | inl same ↦ elim (cases_Bool (test front)) [
        | inl holds ↦ inl (ap (front_of client) (passes test front fronts holds) ∙ first_front client front (filter test fronts) same
            ∙ sym (first_front client front fronts same))
        | inr fails ↦ inr (ap (front_of client) (fails_test test front fronts fails)
            ∙ none_stays client (filter test fronts) fronts (ap (λ (n : ℕ). front_of n fronts) (sym same) ∙ one.0)
            (front_filtered test client fronts one.1))
      ]
      | inr passed ↦ (let rest : front_of client (filter test (front ∷ fronts)) ≡ front_of client (filter test fronts) =
          elim (cases_Bool (test front)) [
            | inl holds ↦ ap (front_of client) (passes test front fronts holds) ∙ passed_front client front (filter test fronts) passed
            | inr fails ↦ ap (front_of client) (fails_test test front fronts fails)
          ] in
          elim (front_filtered test client fronts one.1) [
            | inl same ↦ inl (rest ∙ same ∙ sym (passed_front client front fronts passed))
            | inr none ↦ inr (rest ∙ none)
          ])
    ]

one_filtered : (test : Front → Bool) (fronts : List Front) → AreOne fronts → AreOne (filter test fronts)
one_filtered test [] one = one
one_filtered test (front ∷ fronts) one =
    elim (cases_Bool (test front)) [
      | inl holds ↦ subst AreOne (sym (passes test front fronts holds))
          (none_stays front.client (filter test fronts) fronts one.0 (front_filtered test front.client fronts one.1), one_filtered test fronts one.1)
      | inr fails ↦ subst AreOne (sym (fails_test test front fronts fails)) (one_filtered test fronts one.1)
    ]

pub later_one : (since : ℕ) (fronts : List Front) → AreOne fronts → AreOne (filter (λ front. nat_le since front.seen) fronts)
later_one since fronts one = one_filtered (λ front. nat_le since front.seen) fronts one

pub later_front : (frame : List ℕ) (since : ℕ) (fronts : List Front) → AreOne fronts → HasFront frame fronts
    → HasFront frame (filter (λ front. nat_le since front.seen) fronts)
later_front frame since fronts one has part of =
    other_part frame part fronts (filter (λ front. nat_le since front.seen) fronts) has of
    (front_filtered (λ front. nat_le since front.seen) part.client fronts one)

pub lost_front : (frame : List ℕ) (client : ℕ) (fronts : List Front) → AreOne fronts → HasFront frame fronts
    → HasFront frame (without client fronts)
lost_front frame client fronts one has part of =
    other_part frame part fronts (without client fronts) has of (elim (cases_eq part.client client) [
      | inl same ↦ inr (ap (λ (n : ℕ). front_of n (without client fronts)) same ∙ none_without client fronts one)
      | inr differ ↦ inl (front_without part.client client fronts differ)
    ])
