-- Answers that go out in pieces.
use Rattle.std.proofs.Common.{◌≡◌, ℕ, ◌+◌, List, ◌++◌, length, take, drop, Option, None, Some, sym, ◌∙◌, ap, subst, arith}
use Rattle.std.proofs.lemmas.List.{take_all}
use Rattle.std.proofs.Common.{append_assoc, append-nil}
use Rattle.std.proofs.Math.Seq.{take-add}
use Rattle.std.specs.Io.KnownBytes.{Keeps, Appends}

-- nothing is sent at the start
pub sends_none : (a : Option (List ℕ)) (answer : List ℕ) → Appends a a (take 0 answer)
sends_none None answer = tt
sends_none (Some x) answer = sym (append-nil x)

-- what one more write took stands behind what was sent
pub sends_more : (a b c : Option (List ℕ)) (sent count : ℕ) (answer : List ℕ) → Appends a b (take sent answer)
    → Appends b c (take count (drop sent answer)) → Appends a c (take (sent + count) answer)
sends_more None b c sent count answer first second = tt
sends_more (Some x) None c sent count answer first second = absurd first
sends_more (Some x) (Some y) None sent count answer first second = absurd second
sends_more (Some x) (Some y) (Some z) sent count answer first second =
    second ∙ ap (λ (l : List ℕ). l ++ take count (drop sent answer)) first ∙ append_assoc x (take sent answer) (take count (drop sent answer))
    ∙ ap (λ (l : List ℕ). x ++ l) (sym (take-add sent count answer))

-- a write that took nothing leaves it so
pub sends_same : (a b c : Option (List ℕ)) (piece : List ℕ) → Appends a b piece → Keeps b c → Appends a c piece
sends_same None b c piece first second = tt
sends_same (Some x) None c piece first second = absurd first
sends_same (Some x) (Some y) None piece first second = absurd second
sends_same (Some x) (Some y) (Some z) piece first second = second ∙ first

-- an answer that went as far as it is long went whole
pub sends_all : (a b : Option (List ℕ)) (sent : ℕ) (answer : List ℕ) → Appends a b (take sent answer) → sent ≡ length answer → Appends a b answer
sends_all a b sent answer appends all =
    subst (Appends a b) (take_all sent answer (omega (arith, all))) appends
