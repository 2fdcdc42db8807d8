-- What stays of fronts.
use Rattle.std.proofs.Common.{true, ◌≡◌, ◌≤◌, ◌⊎◌, ℕ, zero, suc, ◌+◌, ◌==◌, ◌&&◌, List, [], ◌∷◌, length, take, Option, None, Some, refl, sym, ap, ◌∙◌, arith, inl, inr, if◌then◌else◌}
use Rattle.std.proofs.lemmas.Bool.{eq-eqb, ne_eqb, cases_eq}
use Rattle.std.proofs.lemmas.Slice.Eq.{bytes_eq-Decides}
use Rattle.std.proofs.lemmas.List.Sums.{sum_by-cons}
use Rattle.std.specs.Str.{bytes_eq}
use Rattle.frame_parts.specs.declared.front.Front.{Front}
use Rattle.frame_parts.specs.declared.part.Part.{Part}
use Rattle.frame_parts.specs.Fronts.{front_of, without, is_of, bytes_of, bytes_in, there, IsFront}
use Rattle.frame_parts.proofs.Places.{first_front}

-- a front of another client is passed
pub passed_front : (client : ℕ) (front : Front) (fronts : List Front) → (front.client ≡ client → ⊥)
    → front_of client (front ∷ fronts) ≡ front_of client fronts
passed_front client front fronts differs = rw (ne_eqb front.client client differs) refl

pub passed_without : (client : ℕ) (front : Front) (fronts : List Front) → (front.client ≡ client → ⊥)
    → without client (front ∷ fronts) ≡ front ∷ without client fronts
passed_without client front fronts differs = rw (ne_eqb front.client client differs) refl

pub taken_without : (client : ℕ) (front : Front) (fronts : List Front) → front.client ≡ client → without client (front ∷ fronts) ≡ fronts
taken_without client front fronts same = rw (eq-eqb front.client client same) refl

-- without another client's front, a client's is there as before
pub front_without : (client other : ℕ) (fronts : List Front) → (client ≡ other → ⊥) → front_of client (without other fronts) ≡ front_of client fronts
front_without client other [] differs = refl
front_without client other (front ∷ fronts) differs =
    elim (cases_eq front.client other) [
      | inl same ↦ ap (front_of client) (taken_without other front fronts same)
          ∙ sym (passed_front client front fronts (λ is. differs (sym is ∙ same)))
      | inr differ ↦ ap (front_of client) (passed_without other front fronts differ)
          ∙ elim (cases_eq front.client client) [
            | inl same ↦ first_front client front (without other fronts) same ∙ sym (first_front client front fronts same)
            | inr passed ↦ passed_front client front (without other fronts) passed ∙ front_without client other fronts differs
                ∙ sym (passed_front client front fronts passed)
          ]
    ]

-- of the first fronts, a client has the one that it has of all, or none
pub front_taken : (client count : ℕ) (fronts : List Front)
    → (front_of client (take count fronts) ≡ front_of client fronts) ⊎ (front_of client (take count fronts) ≡ None)
front_taken client zero fronts = inr refl
front_taken client (suc count) [] = inl refl
front_taken client (suc count) (front ∷ fronts) =
    elim (cases_eq front.client client) [
      | inl same ↦ inl (first_front client front (take count fronts) same ∙ sym (first_front client front fronts same))
      | inr passed ↦ elim (front_taken client count fronts) [
        | inl same ↦ inl (passed_front client front (take count fronts) passed ∙ same ∙ sym (passed_front client front fronts passed))
        | inr none ↦ inr (passed_front client front (take count fronts) passed ∙ none)
      ]
    ]

-- without a client's front there are no more fronts, and no more bytes
pub length-without : (client : ℕ) (fronts : List Front) → length (without client fronts) ≤ length fronts
length-without client [] = omega arith
length-without client (front ∷ fronts) =
    elim (cases_eq front.client client) [
      | inl same ↦ omega (arith, ap (λ (l : List Front). length l) (taken_without client front fronts same))
      | inr differ ↦ omega (arith, length-without client fronts, ap (λ (l : List Front). length l) (passed_without client front fronts differ))
    ]

pub bytes_cons : (front : Front) (fronts : List Front) → bytes_in (front ∷ fronts) ≡ length front.bytes.items + bytes_in fronts
bytes_cons front fronts = sum_by-cons (λ (f : Front). length f.bytes.items) front fronts

pub bytes-without : (client : ℕ) (fronts : List Front) → bytes_in (without client fronts) ≤ bytes_in fronts
bytes-without client [] = omega arith
bytes-without client (front ∷ fronts) =
    elim (cases_eq front.client client) [
      | inl same ↦ omega (arith, bytes_cons front fronts, ap bytes_in (taken_without client front fronts same))
      | inr differ ↦ omega (
        arith,
        bytes-without client fronts,
        bytes_cons front fronts,
        bytes_cons front (without client fronts),
        ap bytes_in (passed_without client front fronts differ),
      )
    ]

-- what is there is of the client, the print and the size, wherever the part begins
bytes_same : (part other : Part) (front : Option Front) → part.client ≡ other.client → part.print ≡ other.print → part.size ≡ other.size
    → bytes_of part front ≡ bytes_of other front
bytes_same part other None client print size = refl
bytes_same part other (Some front) client print size =
    ap (λ (n : ℕ). if front.client == n && (bytes_eq front.print part.print && front.size == part.size) then front.bytes.items else []) client
    ∙ ap (λ (l : List ℕ). if front.client == other.client && (bytes_eq front.print l && front.size == part.size) then front.bytes.items else []) print
    ∙ ap (λ (n : ℕ). if front.client == other.client && (bytes_eq front.print other.print && front.size == n) then front.bytes.items else []) size

pub there_same : (part other : Part) (fronts : List Front) → part.client ≡ other.client → part.print ≡ other.print → part.size ≡ other.size
    → there part fronts ≡ there other fronts
there_same part other fronts client print size =
    ap (λ (n : ℕ). bytes_of part (front_of n fronts)) client ∙ bytes_same part other (front_of other.client fronts) client print size

-- the first front is what is there
pub there_first : (part : Part) (bytes : List ℕ) (now : ℕ) (front : Front) (fronts : List Front) → IsFront part bytes now front
    → there part (front ∷ fronts) ≡ bytes
there_first part bytes now front fronts is =
    let holds : is_of part front ≡ true = rw (eq-eqb front.client part.client is.client)
    (rw ((bytes_eq-Decides front.print part.print).1 is.print) (eq-eqb front.size part.size is.size)) in
    ap (bytes_of part) (first_front part.client front fronts is.client) ∙ rw holds is.bytes
