-- A text that is written piece by piece.
use Rattle.std.proofs.Common.{◌≡◌, ℕ, ◌+◌, ◌-◌, ◌≤◌, List, [], ◌++◌, length, take, drop, Option, None, Some, Result, Ok, Err, OnErr, refl, sym, ◌∙◌, ap, subst, append_assoc, arith}
use Rattle.std.proofs.lemmas.List.{append-nil, take-append-drop, take_rest, take_at, length-append}
use Rattle.outside.specs.Outside.{Told, Writes, Adds}

-- a front of the text was added to what was written, and the rest is still to come
pub record HasWritten (old now : Option (List ℕ)) (text rest : List ℕ) : Type 0 where
  pub front : List ℕ
  pub whole : front ++ rest ≡ text
  pub adds : Adds old now front

-- nothing was added
pub adds_nothing : (now : Option (List ℕ)) → Adds now now []
adds_nothing None = refl
adds_nothing (Some bytes) = sym (append-nil bytes)

-- two texts that are added one after the other are added as one
pub adds_then : (a b c : Option (List ℕ)) (s t : List ℕ) → Adds a b s → Adds b c t → Adds a c (s ++ t)
adds_then None None c s t first second = second
adds_then None (Some y) c s t first second = absurd (cc first)
adds_then (Some x) None c s t first second = absurd first
adds_then (Some x) (Some y) None s t first second = absurd second
adds_then (Some x) (Some y) (Some z) s t first second = second ∙ ap (λ (l : List ℕ). l ++ t) first ∙ append_assoc x s t

-- a write adds the front that it says
pub adds_written : (E : Type 0) (b c : Option (List ℕ)) (piece : List ℕ) (n : ℕ)
    → Told b c (λ old new. Writes {E = E} old new piece (Ok n)) → Adds b c (take n piece)
adds_written E None c piece n writes = writes
adds_written E (Some x) (Some y) piece n writes = writes
adds_written E (Some x) None piece n writes = absurd writes

-- one more piece of the text was written
pub piece_written : (E : Type 0) (a b c : Option (List ℕ)) (text rest : List ℕ) (n : ℕ)
    → HasWritten a b text rest → Told b c (λ old new. Writes {E = E} old new rest (Ok n)) → HasWritten a c text (take (length rest - n) (drop n rest))
piece_written E a b c text rest n before writes = record {
  front = before.front ++ take n rest;
  whole =
      ap (λ (l : List ℕ). (before.front ++ take n rest) ++ l) (take_rest rest n)
      ∙ append_assoc before.front (take n rest) (drop n rest)
      ∙ ap (λ (l : List ℕ). before.front ++ l) (take-append-drop n rest)
      ∙ before.whole;
  adds = adds_then a b c before.front (take n rest) before.adds (adds_written E b c rest n writes);
}

-- a refused write adds nothing more
adds_refused : (E : Type 0) (a b c : Option (List ℕ)) (piece front : List ℕ) (e : E)
    → Adds a b front → Told b c (λ old new. Writes {E = E} old new piece (Err e)) → Adds a c front
adds_refused E None None c piece front e adds writes = writes
adds_refused E None (Some y) c piece front e adds writes = absurd (cc adds)
adds_refused E (Some x) None c piece front e adds writes = absurd adds
adds_refused E (Some x) (Some y) None piece front e adds writes = absurd writes
adds_refused E (Some x) (Some y) (Some z) piece front e adds writes = writes ∙ adds

-- after a refusal a front of the text was added
pub front_written : (E : Type 0) (a b c : Option (List ℕ)) (text rest : List ℕ) (e : E)
    → HasWritten a b text rest → Told b c (λ old new. Writes {E = E} old new rest (Err e)) → (count : ℕ) × (count ≤ length text) × Adds a c (take count text)
front_written E a b c text rest e before writes =
    let long : length text ≡ length before.front + length rest = ap length (sym before.whole) ∙ length-append before.front rest in
    let front : before.front ≡ take (length before.front) text =
    sym (take_at before.front rest (length before.front) refl) ∙ ap (take (length before.front)) before.whole in
    (length before.front, omega arith, subst (Adds a c) front (adds_refused E a b c rest before.front e before.adds writes))

-- what holds anyway holds of a refusal
pub on_err : (T E P : Type 0) (result : Result T E) → P → OnErr result P
on_err T E P (Ok x) holds = tt
on_err T E P (Err e) holds = holds
