-- How a run ends that writes a text of the volume that is kept.
use Rattle.std.proofs.Common.{◌≡◌, ◌≤◌, inr, ℕ, List, length, take, Option, Ok, Err, subst}
use Rattle.outside.specs.Outside.{Adds}
use Rattle.outside.specs.declared.errors.SinkError.{SinkError}
use Rattle.outside.specs.declared.errors.SinkError.TheVariants.{Failed, Memory}
use Rattle.tree_values.specs.Tree.{Volume}
use Rattle.world_rules.specs.Served.{Served}
use Rattle.server_prog.specs.Run.{Opens, WritesByEnd}
use Rattle.server_prog.specs.Inside.{stopped_by_sink}

module _ (text : Volume → List ℕ) (kept : Option (Option (List ℕ))) (written : Option (List ℕ)) where
  module _ (now : Option (List ℕ)) (first : Served) (opens : Opens kept first) (items : List ℕ) (is : items ≡ text first.volume) where
    -- the whole text was written
    pub writes_all : Adds written now items → WritesByEnd text kept written now (Ok tt)
    writes_all adds = (first, opens, subst (Adds written now) is adds)

    -- a front of it
    pub writes_front : (e : SinkError) → ((bytes : ℕ) × (bytes ≤ length items) × Adds written now (take bytes items)) → WritesByEnd text kept written now (Err (stopped_by_sink e))
    writes_front Failed front = (first, front.0, opens, subst (λ (l : List ℕ). Adds written now (take front.0 l)) is front.2)
    writes_front Memory front = inr (first, front.0, opens, subst (λ (l : List ℕ). Adds written now (take front.0 l)) is front.2)
