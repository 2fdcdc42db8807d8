use Rattle.std.proofs.Common.{◌≡◌, ◌-◌, ◌++◌, ◌∷◌, [], take}
use Rattle.std.specs.List.{flat_map}
use Rattle.std.specs.Option.{option_to_list}
use Rattle.tree_slots.specs.Arena.{place, own_row, rows_from}
use Rattle.tree_slots.proofs.arena.+add_rows.Given as goal

abbrev pub decreases-add_rows : goal.decreases-add_rows
decreases-add_rows l = l.levels

abbrev pub invariant-loop-k : goal.invariant-loop-k
invariant-loop-k l =
    l.rows ≡ (l.fn.rows ++ option_to_list (own_row l.path (place l.slots l.i))) ++ flat_map (λ c. rows_from (l.levels - 1) l.slots (l.path ++ (place l.slots c).name ∷ []) c) (take l.k (place l.slots l.i).children)
