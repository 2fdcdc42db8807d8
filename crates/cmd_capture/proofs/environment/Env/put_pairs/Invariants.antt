use Rattle.std.specs.Prelude.{◌≡◌, ◌++◌, ℕ, List}
use Rattle.std.specs.List.{flat_map}
use Rattle.cmd_capture.specs.Spelling.{variable}
use Rattle.cmd_capture.proofs.environment.Env.put_pairs.Given as goal

-- what is put and what is left
abbrev pub invariant-loop-key : goal.invariant-loop-key
invariant-loop-key l =
    (before : List (List ℕ × List ℕ)) × ((before ++ l.key-iterator ≡ l.self) × (l.out.items ≡ l.fn.out.items ++ flat_map variable before))
