-- The place of a client's front.
use Rattle.std.proofs.Common.{true, false, ◌≡◌, ◌≤◌, ◌<◌, ℕ, suc, List, [], ◌∷◌, ◌++◌, length, take, drop, get_or, slice_get, remove, Some, refl, sym, ap, ◌∙◌, arith, inl, inr, drop-cons}
use Rattle.std.proofs.lemmas.List.{drop_all}
use Rattle.std.proofs.lemmas.Bool.{eq-eqb, eqb-true, and_parts}
use Rattle.std.proofs.lemmas.Slice.Eq.{bytes_eq-Decides}
use Rattle.std.proofs.lemmas.Option.{slice_get-get_or, slice_get_cases, slice_get_read}
use Rattle.frame_parts.specs.declared.front.Front.{Front}
use Rattle.frame_parts.specs.declared.part.Part.{Part}
use Rattle.frame_parts.specs.Fronts.{front_of, without, is_of, bytes_of, there}

pub first_front : (client : ℕ) (front : Front) (fronts : List Front) → front.client ≡ client → front_of client (front ∷ fronts) ≡ Some front
first_front client front fronts same = rw (eq-eqb front.client client same) refl

first_without : (client : ℕ) (front : Front) (fronts : List Front) → front.client ≡ client → without client (front ∷ fronts) ≡ fronts
first_without client front fronts same = rw (eq-eqb front.client client same) refl

pub front_at : (client : ℕ) (fronts : List Front) (i : ℕ) (d : Front) → i < length fronts → (get_or fronts i d).client ≡ client
    → front_of client (drop i fronts) ≡ front_of client fronts → front_of client fronts ≡ slice_get fronts i
front_at client fronts i d within same passed =
    sym passed ∙ ap (front_of client) (drop-cons fronts i d within) ∙ first_front client (get_or fronts i d) (drop (suc i) fronts) same
    ∙ sym (slice_get-get_or fronts i d within)

pub others_at : (client : ℕ) (fronts : List Front) (i : ℕ) (d : Front) → i < length fronts → (get_or fronts i d).client ≡ client
    → take i fronts ++ without client (drop i fronts) ≡ without client fronts → without client fronts ≡ remove fronts i
others_at client fronts i d within same passed =
    sym passed ∙ ap (λ (l : List Front). take i fronts ++ without client l) (drop-cons fronts i d within)
    ∙ ap (λ (l : List Front). take i fronts ++ l) (first_without client (get_or fronts i d) (drop (suc i) fronts) same)

pub none_at : (client : ℕ) (fronts : List Front) (i : ℕ) → length fronts ≤ i
    → front_of client (drop i fronts) ≡ front_of client fronts → front_of client fronts ≡ slice_get fronts i
none_at client fronts i past passed =
    sym passed ∙ ap (front_of client) (drop_all i fronts past)
    ∙ elim (slice_get_cases fronts i).1 [ inl in_list ↦ absurd (omega (arith, past, in_list.1)) | inr none ↦ sym none.1 ]

pub is_of_parts : (part : Part) (front : Front) → is_of part front ≡ true
    → (front.client ≡ part.client) × (front.print ≡ part.print) × (front.size ≡ part.size)
is_of_parts part front holds =
    let first = and_parts _ _ holds in
    let second = and_parts _ _ first.1 in
    (eqb-true _ _ first.0, (bytes_eq-Decides front.print part.print).0 second.0, eqb-true _ _ second.1)

pub there_here : (part : Part) (fronts : List Front) (place : ℕ) (front : Front) → front_of part.client fronts ≡ slice_get fronts place
    → place < length fronts → front ≡ get_or fronts place front → is_of part front ≡ true → there part fronts ≡ front.bytes.items
there_here part fronts place front found within is holds =
    ap (bytes_of part) (found ∙ slice_get_read fronts (length fronts) place front refl within is) ∙ rw holds refl

pub there_else : (part : Part) (fronts : List Front) (place : ℕ) (front : Front) → front_of part.client fronts ≡ slice_get fronts place
    → place < length fronts → front ≡ get_or fronts place front → is_of part front ≡ false → there part fronts ≡ []
there_else part fronts place front found within is fails =
    ap (bytes_of part) (found ∙ slice_get_read fronts (length fronts) place front refl within is) ∙ rw fails refl
