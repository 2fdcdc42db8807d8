-- A client, as contracts see it.
use Rattle.std.specs.Prelude.{ℕ, Option}
use Rattle.mod_log.specs.Log.{Log}
use Rattle.client_core.specs.declared.keeping.Journal.{Journal}

-- the client's number, from 1 to 64, its log, and what its last keeping kept, where the next one may add to that
pub record Client : Type 0 where
  pub number : ℕ
  pub log : Log
  pub journal : Option Journal
