use Rattle.std.proofs.Common.{take}
use Rattle.sha2.specs.Hashers.{Holds256}
use Rattle.sealed_frames.specs.Hmac.{block_xor}
use Rattle.sealed_frames.proofs.hmac.hasher_of.Given as goal

abbrev pub invariant-loop-i : goal.invariant-loop-i
invariant-loop-i l = Holds256 l.hasher (block_xor (take l.i l.block) l.pad)
