use Rattle.std.proofs.Common.{◌≡◌, Result, Ok, Err, IfOk, ap}
use Rattle.std.specs.Prelude.{ℕ, Vec}
use Rattle.std.specs.declared.alloc.Global.{Global}
use Rattle.std.specs.declared.alloc.AllocError.{AllocError}
use Rattle.store_image.specs.Spelling.{server}
use Rattle.store_image.specs.Image.{IsKeptWholeForServer}
use Rattle.server_core.specs.Holding.{Holding, served}
use Rattle.server_core.specs.Keeping.{server_image, IsKeptWholeForServed, IsImageForServed}
use Rattle.server_core.proofs.server.Server.image.Goals as goal

kept_as : (r : Result (Vec ℕ Global) AllocError) (held holding : Holding) → held ≡ holding → IfOk r (λ v. IsKeptWholeForServer (server_image held) v.items) → IfOk r (λ v. IsKeptWholeForServed (served holding) v.items)
kept_as (Ok v) held holding is kept = record { image = server_image held; kept = kept; serves = ap served is }
kept_as (Err e) held holding is kept = tt

pub returns-clause-kept : goal.returns-clause-kept
returns-clause-kept c = kept_as c.write_server.result (record { rows = c.self.inside.tree; last = c.self.inside.last }) c.args.self.now c.self.view_is c.write_server.ensures.whole

image_of_held : (r : Result (Vec ℕ Global) AllocError) (held holding : Holding) → held ≡ holding → IfOk r (λ v. IsKeptWholeForServer (server_image held) v.items) → IfOk r (λ v. v.items ≡ server (server_image held)) → IfOk r (λ v. IsImageForServed (served holding) v.items)
image_of_held (Ok v) held holding is kept spelled = record { image = server_image held; kept = kept; spelled = spelled; serves = ap served is }
image_of_held (Err e) held holding is kept spelled = tt

pub returns-clause-image : goal.returns-clause-image
returns-clause-image c =
    image_of_held c.write_server.result (record { rows = c.self.inside.tree; last = c.self.inside.last }) c.args.self.now c.self.view_is c.write_server.ensures.whole c.write_server.ensures.spelled
