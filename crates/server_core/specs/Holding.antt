-- What a server keeps: its rows, and the numbers that it counts for its clients.
use Rattle.std.specs.Prelude.{ℕ, List, ◌∷◌, slice_index_or}
use Rattle.tree_values.specs.Tree.{Volume}
use Rattle.world_rules.specs.Served.{Served}

-- the volume's rows, and the numbers of the last accepted entries of clients 1, 2, 3 and so on
pub record Holding : Type 0 where
  pub rows : Volume
  pub last : List ℕ

-- the number of a client; 0 for the client number 0, and for one past the end
abbrev pub last_number : List ℕ → ℕ → ℕ
last_number last client = slice_index_or (0 ∷ last) client 0

-- the served state that it stands for
abbrev pub served : Holding → Served
served holding = record { volume = holding.rows; last = last_number holding.last }
