-- A frame that is read in two steps: its length, and what is behind it.
use Rattle.std.proofs.Common.{◌≡◌, ℕ, ◌+◌, ◌≤◌, Bool, true, false, ◌&&◌, nat_le, if◌then◌else◌, List, [], ◌∷◌, ◌++◌, length, take, drop, Option, None, Some, IfSome, refl, sym, ◌∙◌, ap, subst, arith}
use Rattle.std.specs.Int.{w32, from_be_bytes}
use Rattle.std.proofs.lemmas.Bool.{le-leb, leb-true}
use Rattle.std.proofs.lemmas.List.{take_all, length-append}
use Rattle.std.proofs.Math.Seq.{take-add}
use Rattle.paced_talks.specs.Frames.{frame_limit, announced_bytes, first_frame}
use Rattle.paced_talks.specs.Inside.{IsStreamFront, ReadsUpTo}

-- the first four bytes announce as much as all
behind_front : (bytes : List ℕ) → announced_bytes (take 4 bytes) ≡ announced_bytes bytes
behind_front [] = refl
behind_front (a ∷ []) = refl
behind_front (a ∷ b ∷ []) = refl
behind_front (a ∷ b ∷ c ∷ []) = refl
behind_front (a ∷ b ∷ c ∷ d ∷ rest) =
    let said : ℕ = from_be_bytes w32 (a ∷ b ∷ c ∷ d ∷ []) in
    ap (λ (four : Bool). if four && nat_le (said + 4) frame_limit then said else 0) (sym (le-leb 4 (length (a ∷ b ∷ c ∷ d ∷ rest)) (omega arith)))

-- bytes behind the first four announce no less
pub announced_stays : (old piece : List ℕ) → announced_bytes old ≤ announced_bytes (old ++ piece)
announced_stays [] piece = omega arith
announced_stays (a ∷ []) piece = let none : announced_bytes (a ∷ []) ≡ 0 = refl in omega (arith, none)
announced_stays (a ∷ b ∷ []) piece = let none : announced_bytes (a ∷ b ∷ []) ≡ 0 = refl in omega (arith, none)
announced_stays (a ∷ b ∷ c ∷ []) piece = let none : announced_bytes (a ∷ b ∷ c ∷ []) ≡ 0 = refl in omega (arith, none)
announced_stays (a ∷ b ∷ c ∷ d ∷ rest) piece =
    let same : announced_bytes (a ∷ b ∷ c ∷ d ∷ rest) ≡ announced_bytes (a ∷ b ∷ c ∷ d ∷ (rest ++ piece)) =
    sym (behind_front (a ∷ b ∷ c ∷ d ∷ rest)) ∙ behind_front (a ∷ b ∷ c ∷ d ∷ (rest ++ piece)) in
    omega (arith, same)

-- and nothing else, where the first four are there
pub announced_same : (old piece : List ℕ) → 4 ≤ length old → announced_bytes (old ++ piece) ≡ announced_bytes old
announced_same [] piece long = absurd (omega (arith, long))
announced_same (a ∷ []) piece long = absurd (omega (arith, long))
announced_same (a ∷ b ∷ []) piece long = absurd (omega (arith, long))
announced_same (a ∷ b ∷ c ∷ []) piece long = absurd (omega (arith, long))
announced_same (a ∷ b ∷ c ∷ d ∷ rest) piece long =
    sym (behind_front (a ∷ b ∷ c ∷ d ∷ (rest ++ piece))) ∙ behind_front (a ∷ b ∷ c ∷ d ∷ rest)

within : (said : ℕ) (fits : Bool) → nat_le (said + 4) frame_limit ≡ fits → (if fits then said else 0) + 4 ≤ frame_limit
within said true fits = leb-true (said + 4) frame_limit fits
within said false fits = omega arith

both : (said : ℕ) (four : Bool) → (if four && nat_le (said + 4) frame_limit then said else 0) + 4 ≤ frame_limit
both said true = within said (nat_le (said + 4) frame_limit) refl
both said false = omega arith

-- what is announced is within the limit
pub announced_fits : (bytes : List ℕ) → announced_bytes bytes + 4 ≤ frame_limit
announced_fits bytes = both (from_be_bytes w32 (take 4 bytes)) (nat_le 4 (length bytes))

-- the bytes behind the first four announce nothing
behind_cut : (head body : List ℕ) → length head ≤ 4 → length body ≤ announced_bytes head → announced_bytes (head ++ body) ≡ announced_bytes head
behind_cut [] [] short few = refl
behind_cut (a ∷ []) [] short few = refl
behind_cut (a ∷ b ∷ []) [] short few = refl
behind_cut (a ∷ b ∷ c ∷ []) [] short few = refl
behind_cut [] (x ∷ xs) short few = let none : length (x ∷ xs) ≤ 0 = few in absurd (omega arith)
behind_cut (a ∷ []) (x ∷ xs) short few = let none : length (x ∷ xs) ≤ 0 = few in absurd (omega arith)
behind_cut (a ∷ b ∷ []) (x ∷ xs) short few = let none : length (x ∷ xs) ≤ 0 = few in absurd (omega arith)
behind_cut (a ∷ b ∷ c ∷ []) (x ∷ xs) short few = let none : length (x ∷ xs) ≤ 0 = few in absurd (omega arith)
behind_cut (a ∷ b ∷ c ∷ d ∷ []) body short few = sym (behind_front (a ∷ b ∷ c ∷ d ∷ body))
behind_cut (a ∷ b ∷ c ∷ d ∷ e ∷ head) body short few = absurd (omega arith)

-- what is read is one frame, or what there is of it
pub frame_form : (before middle after : Option (List ℕ)) (empty head frame : List ℕ) → empty ≡ []
    → ReadsUpTo 4 before middle empty head → ReadsUpTo (announced_bytes head) middle after head frame → first_frame frame ≡ frame
frame_form before middle after empty head frame none first second =
    let start : head ≡ first.0 = first.1 ∙ ap (λ (l : List ℕ). l ++ first.0) none in
    let short : length head ≤ 4 = subst (λ (l : List ℕ). length l ≤ 4) (sym start) first.2 in
    let few : length second.0 ≤ announced_bytes head = second.2 in
    let same : announced_bytes frame ≡ announced_bytes head = ap announced_bytes second.1 ∙ behind_cut head second.0 short few in
    let long : length frame ≡ length head + length second.0 = ap length second.1 ∙ length-append head second.0 in
    take_all (4 + announced_bytes frame) frame (omega arith)

-- it is the first frame of a stream that tells its bytes
pub frame_known : (before middle after : Option (List ℕ)) (empty head frame : List ℕ) → empty ≡ []
    → ReadsUpTo 4 before middle empty head → ReadsUpTo (announced_bytes head) middle after head frame
    → IfSome before (λ bytes. frame ≡ first_frame bytes)
frame_known None middle after empty head frame none first second = tt
frame_known (Some bytes) middle after empty head frame none first second =
    let start : head ≡ take 4 bytes = first.1 ∙ ap (λ (l : List ℕ). l ++ first.0) none ∙ first.3.0 in
    let count : announced_bytes head ≡ announced_bytes bytes = ap announced_bytes start ∙ behind_front bytes in
    let rest : IsStreamFront (announced_bytes head) (Some (drop 4 bytes)) after second.0 =
    subst (λ (m : Option (List ℕ)). IsStreamFront (announced_bytes head) m after second.0) first.3.1 second.3 in
    let body : second.0 ≡ take (announced_bytes bytes) (drop 4 bytes) = rest.0 ∙ ap (λ (n : ℕ). take n (drop 4 bytes)) count in
    second.1 ∙ ap (λ (l : List ℕ). l ++ second.0) start ∙ ap (λ (l : List ℕ). take 4 bytes ++ l) body
    ∙ sym (take-add 4 (announced_bytes bytes) bytes)
