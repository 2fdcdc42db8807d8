use Rattle.std.proofs.Common.{◌≡◌, ℕ, ◌<◌, drop}
use Rattle.rs_repair.specs.Inside.{pairing}
use Rattle.rs_repair.proofs.elimination.annihilates_all.Given as goal

abbrev pub invariant-loop-place : goal.invariant-loop-place
invariant-loop-place l = (e : ℕ) → e < l.place → pairing l.row (drop e l.sums) ≡ 0
