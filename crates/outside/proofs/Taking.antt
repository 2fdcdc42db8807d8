-- A text that is read piece by piece.
use Rattle.std.proofs.Common.{ℕ, List, [], ◌++◌, take, drop, Option, None, Some, Ok, refl, sym, ◌∙◌, ap, append_assoc}
use Rattle.std.proofs.lemmas.List.{take-append-drop}
use Rattle.outside.specs.Outside.{Told, Reads, Takes}

-- nothing was taken
pub takes_nothing : (left : Option (List ℕ)) → Takes left left []
takes_nothing None = refl
takes_nothing (Some bytes) = refl

-- two texts that are taken one after the other are taken as one
pub takes_then : (a b c : Option (List ℕ)) (s t : List ℕ) → Takes a b s → Takes b c t → Takes a c (s ++ t)
takes_then None None c s t first second = second
takes_then None (Some y) c s t first second = absurd (cc first)
takes_then (Some x) None c s t first second = absurd first
takes_then (Some x) (Some y) None s t first second = absurd second
takes_then (Some x) (Some y) (Some z) s t first second =
    first ∙ ap (λ (l : List ℕ). s ++ l) second ∙ sym (append_assoc s t z)

-- a read takes what it wrote to the front of the buffer
pub takes_read : (E : Type 0) (left rest : Option (List ℕ)) (buf : List ℕ) (n : ℕ)
    → Told left rest (λ old new. Reads {E = E} old new buf (Ok n)) → Takes left rest (take n buf)
takes_read E None rest buf n reads = reads
takes_read E (Some x) None buf n reads = absurd reads
takes_read E (Some x) (Some y) buf n reads =
    sym (take-append-drop n x) ∙ ap (λ (l : List ℕ). l ++ drop n x) (sym reads.1) ∙ ap (λ (l : List ℕ). take n buf ++ l) (sym reads.2)
