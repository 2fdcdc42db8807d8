use Rattle.std.proofs.Common.{◌≡◌, ◌++◌, take}
use Rattle.store_image.specs.Spelling.{numbers}
use Rattle.store_image.proofs.writing.put_numbers.Given as goal

abbrev pub invariant-loop-number : goal.invariant-loop-number
invariant-loop-number l = l.out.items ≡ l.fn.out.items ++ numbers (take l.number-index l.values)
