use Rattle.std.specs.Prelude.{◌≡◌, ℕ, ◌+◌, List, ◌++◌, length}
use Rattle.std.specs.Io.KnownBytes.{Consumes}
use Rattle.paced_talks.proofs.frames.read_up_to.Given as goal

abbrev pub invariant-loop-left : goal.invariant-loop-left
invariant-loop-left g l =
    (bytes : List ℕ) × (l.frame.items ≡ l.fn.frame.items ++ bytes) × (length bytes + l.left ≡ l.most)
    × Consumes (g.S.Read.remaining l.fn.stream) (g.S.Read.remaining l.stream) bytes

abbrev pub decreases-loop-left : goal.decreases-loop-left
decreases-loop-left g l = l.left
