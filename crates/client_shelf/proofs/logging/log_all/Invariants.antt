use Rattle.std.proofs.Common.{◌≡◌, ℕ, List, Option, Ok, take}
use Rattle.outside.specs.Keeper.{Images}
use Rattle.client_core.specs.Keeping.{IsReady}
use Rattle.client_shelf.specs.Shelving.{appended_all}
use Rattle.client_shelf.proofs.logging.log_all.Given as goal

-- the first of the entries were logged, and the client may still go on where it might
abbrev pub invariant-loop-effects : goal.invariant-loop-effects
invariant-loop-effects l = record {
  logged : appended_all (take l.effects-index l.lists) l.fn.client.log ≡ Ok l.client.log;
  number : l.client.number ≡ l.fn.client.number;
  journal : l.client.journal ≡ l.fn.client.journal;
  ready : (images : Option Images) (name : List ℕ) → IsReady images name l.fn.client → IsReady images name l.client;
}
