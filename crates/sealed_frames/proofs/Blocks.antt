-- Blocks that are filled up.
use Rattle.std.proofs.Common.{◌≡◌, ℕ, zero, suc, ◌-◌, drop, replicate, ap, ◌∙◌, arith}

same_count : (k l x : ℕ) → k ≡ l → replicate k x ≡ replicate l x
same_count k l x same = ap (λ (n : ℕ). replicate n x) same

pub drop_replicate : (n m x : ℕ) → drop n (replicate m x) ≡ replicate (m - n) x
drop_replicate zero m x = same_count m (m - zero) x (omega arith)
drop_replicate (suc n) zero x = same_count zero (zero - suc n) x (omega arith)
drop_replicate (suc n) (suc m) x = drop_replicate n m x ∙ same_count (m - n) (suc m - suc n) x (omega arith)
