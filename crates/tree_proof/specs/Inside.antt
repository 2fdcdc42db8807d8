-- Words that only private functions cite.
use Rattle.std.specs.Prelude.{◌≡◌, ℕ, length}
use Rattle.tree_proof.specs.declared.certificate.Leaf.{Leaf}
use Rattle.tree_proof.specs.Limits.{most_levels}
use Rattle.tree_proof.specs.Tops.{way_within}

-- a row of a tree of so many is shown with all digests beside its way
abbrev pub HasWay : ℕ → Leaf → Type 0
HasWay count leaf = length leaf.beside ≡ way_within most_levels count leaf.place
