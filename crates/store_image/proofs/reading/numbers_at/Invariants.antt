use Rattle.std.proofs.Common.{◌≡◌, ◌-◌, take, length}
use Rattle.std.specs.Int.{w64}
use Rattle.byte_fields.specs.Field.{number_at, each_at}
use Rattle.byte_fields.proofs.Loop.{SoFar}
use Rattle.store_image.proofs.reading.numbers_at.Given as goal

abbrev pub invariant-loop-i : goal.invariant-loop-i
invariant-loop-i l = record {
  so_far : SoFar (λ (_ : Unit {0}). number_at w64) (λ _ _. tt {0}) l.bytes (each_at (λ (_ : Unit {0}). number_at w64) (λ _ _. tt {0}) 64 (tt {0}) l.bytes l.start) (take l.i l.numbers) (64 - l.i) (tt {0}) l.at;
  count : length l.numbers ≡ 64;
}
