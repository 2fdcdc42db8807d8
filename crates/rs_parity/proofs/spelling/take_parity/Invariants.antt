use Rattle.std.proofs.Common.{◌≡◌, ◌-◌, length, take}
use Rattle.std.specs.Int.{w16}
use Rattle.byte_fields.specs.Field.{number_at}
use Rattle.byte_fields.proofs.Loop.{SoFar}
use Rattle.rs_parity.specs.Spelling.{parity_at}
use Rattle.rs_parity.proofs.spelling.take_parity.Given as goal

abbrev pub invariant-loop-k : goal.invariant-loop-k
invariant-loop-k l = record {
  size : length l.symbols ≡ 32;
  so_far : SoFar (λ (state : Unit {0}). number_at w16) (λ state symbol. state) l.bytes (parity_at l.bytes l.start) (take l.k l.symbols) (32 - l.k) tt l.at;
}
