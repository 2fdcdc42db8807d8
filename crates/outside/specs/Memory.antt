-- The objects in memory, as contracts see them.
use Rattle.std.specs.Prelude.{ℕ, ◌+◌, ◌-◌, ◌^◌, ◌==◌, min, Bool, List, if◌then◌else◌}
use Rattle.std.specs.List.{list_any}
use Rattle.outside.specs.declared.calls.Calls.{Calls}

pub record InMemory : Type 0 where
  -- the bytes left of a source, or those written to a sink
  pub bytes : List ℕ
  -- which of its calls fail, counted from 0
  pub fails : List ℕ
  -- the calls made of it, and its faults
  pub calls : Calls

-- whether this call is among the named ones
abbrev pub is_named : List ℕ → ℕ → Bool
is_named fails call = list_any (λ fail. fail == call) fails

-- whether the next call fails
abbrev pub fails_now : InMemory → Bool
fails_now object = is_named object.fails object.calls.made

-- a count after one more, which stands still at the end of its type
abbrev pub one_more : ℕ → ℕ
one_more count = min (count + 1) (2 ^ 64 - 1)

-- the calls after one more, which is counted as a fault exactly where it failed
abbrev pub after_call : Bool → Calls → Calls
after_call failed calls = record { made = one_more calls.made; faults = (if failed then one_more calls.faults else calls.faults) }
