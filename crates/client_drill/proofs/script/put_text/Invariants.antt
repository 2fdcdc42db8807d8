use Rattle.std.specs.Prelude.{◌≡◌, ◌++◌, ◌∷◌, ◌/◌, ◌%◌, ◌+◌, replicate, decimal, codes}
use Rattle.client_drill.proofs.script.put_text.Given as goal

abbrev pub invariant-loop : goal.invariant-loop
invariant-loop l = l.script.items ≡ l.fn.script.items ++ (codes "put /d/f" ++ (decimal (l.x / 4 % 16) ++ 32 ∷ replicate l.counter (97 + l.x % 26)))
