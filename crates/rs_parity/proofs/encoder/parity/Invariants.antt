use Rattle.std.proofs.Common.{◌≡◌, ◌++◌, length, take}
use Rattle.rs_parity.specs.CodeWord.{symbols, IsCodeWord}
use Rattle.rs_parity.specs.Weight.{HasElements}
use Rattle.rs_parity.proofs.encoder.parity.Given as goal

abbrev pub invariant-loop-i : goal.invariant-loop-i
invariant-loop-i l = record { size : length l.remainder ≡ 32; elements : HasElements l.remainder; code_word : IsCodeWord (take l.i (symbols l.block) ++ l.remainder) }
