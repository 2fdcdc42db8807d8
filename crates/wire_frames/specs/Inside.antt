-- How long an effect is where it stands in an operation: what only private functions cite.
use Rattle.std.specs.Prelude.{ℕ, ◌+◌, ◌*◌, length}
use Rattle.rs_parity.specs.Blocks.{block_count}
use Rattle.file_paths.specs.Spelling.{path}
use Rattle.tree_values.specs.Spelling.{effect}
use Rattle.tree_values.specs.declared.node.Effect.{Effect}
use Rattle.tree_values.specs.declared.node.Effect.TheVariants.{Make, Put, Remove, Move, Mode}

-- the bytes of the sketched effect of an effect: a sketch has 36, and 64 for each block of its content
abbrev pub sketched_length : Effect → ℕ
sketched_length (Make p) = length (effect (Make p))
sketched_length (Put p content) = 1 + length (path p) + (36 + 64 * block_count content)
sketched_length (Remove p) = length (effect (Remove p))
sketched_length (Move p q) = length (effect (Move p q))
sketched_length (Mode p exec) = length (effect (Mode p exec))
