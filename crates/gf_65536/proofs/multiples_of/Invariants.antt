use Rattle.std.proofs.Common.{◌≡◌, ℕ, ◌*◌, ◌<◌, length, get_or}
use Rattle.gf_65536.specs.Field.{product}
use Rattle.gf_65536.proofs.multiples_of.Given as goal

abbrev pub invariant-loop-half : goal.invariant-loop-half
invariant-loop-half l = record { size : length l.multiples ≡ 16; each : (w : ℕ) → w < 2 * l.half → get_or l.multiples w 0 ≡ product 16 l.a w }
