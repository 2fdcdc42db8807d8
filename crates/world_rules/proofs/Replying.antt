-- What the replies say to a client in step.
use Rattle.std.proofs.Common.{◌≡◌, ℕ, ◌<◌, ◌≤◌, false, List, [], ◌++◌, length, refl, sym, ap, subst, arith}
use Rattle.file_paths.specs.Path.{FilePath}
use Rattle.tree_values.specs.Tree.{Volume, version_at}
use Rattle.tree_values.specs.Lists.{IsIn}
use Rattle.vol_tree.specs.Behind.{IsAhead}
use Rattle.mod_log.specs.Log.{Log, tree_at}
use Rattle.wire_frames.specs.declared.message.Message.{Message}
use Rattle.wire_frames.specs.declared.message.Message.TheVariants.{Pull, Accepted, Stale, Unfit, Gap, Snapshot, Done, Full}
use Rattle.world_rules.specs.declared.asking.Ask.{Ask}
use Rattle.world_rules.specs.World.{World, IsFresh}
use Rattle.world_rules.specs.InStep.{InStep, IsRefusal, HasNoCollision}
use Rattle.world_rules.specs.Run.{kept_at}
use Rattle.world_rules.proofs.Next.{tree_at-acked}
use Rattle.world_rules.proofs.Colliding.{none_collides}
use Rattle.world_rules.proofs.Runs.{moved_by_runs, runs_in_step}

-- what the server would answer now is not older than the client's base
pub answered_newer : (client : ℕ) (log : Log) (world : World) (path : FilePath) → InStep client log world → log.pending ≡ [] → version_at log.base path ≤ version_at world.served.volume path
answered_newer client log world path now none =
    let is : world.served.last client ≡ log.acked = omega (arith, now.not_lower, now.not_higher.at_most_logged, ap length none) in
    subst (λ t. version_at t path ≤ version_at world.served.volume path) (tree_at-acked log (world.served.last client) is) (now.behind.versions path)

pub fresh_newer : (client : ℕ) (log : Log) (made : List Ask) (old new : World) (last : ℕ) (seen : Volume) (path : FilePath) → InStep client log old → log.pending ≡ []
    → IsFresh (Pull client log.acked) (Snapshot client log.acked last seen) made old new → version_at log.base path ≤ version_at seen path
fresh_newer client log made old new last seen path now none fresh =
    let then : InStep client log fresh.moment =
    runs_in_step client false [] [] (kept_at log old) (kept_at log fresh.moment) now (moved_by_runs client false log (Pull client log.acked) [] old fresh.moment (refl, refl, none) fresh.before (λ ask among. absurd among) tt)
    (subst (λ es. HasNoCollision client (es ++ []) fresh.moment.packets) (sym none) (none_collides client fresh.moment.packets)) in
    let same : fresh.moment.served.volume ≡ seen = cc (fresh.is) in
    subst (λ v. version_at log.base path ≤ version_at v path) same (answered_newer client log fresh.moment path then none)

pub no_gap : (client : ℕ) (log : Log) (world : World) (number last : ℕ) → InStep client log world → IsIn (Gap client number last) world.packets → ⊥
no_gap client log world number last now among = now.fitting (Gap client number last) among refl

pub accepted_taken : (client : ℕ) (log : Log) (world : World) (number upto : ℕ) → InStep client log world → IsIn (Accepted client number upto) world.packets → upto ≤ world.served.last client
accepted_taken client log world number upto now among = now.fitting (Accepted client number upto) among refl

pub done_taken : (client : ℕ) (log : Log) (world : World) (number : ℕ) → InStep client log world → IsIn (Done client number) world.packets → number ≤ world.served.last client
done_taken client log world number now among = now.fitting (Done client number) among refl

pub stale_ahead : (client : ℕ) (log : Log) (world : World) (number upto : ℕ) (path : FilePath) (theirs ours : ℕ) → InStep client log world → log.acked ≤ upto
    → IsIn (Stale client number upto path theirs ours) world.packets → version_at (tree_at (world.served.last client) log) path < version_at world.served.volume path
stale_ahead client log world number upto path theirs ours now low among = (now.fitting (Stale client number upto path theirs ours) among refl).1 low

pub refused_ahead : (client : ℕ) (log : Log) (world : World) (number : ℕ) (reply : Message) → InStep client log world → log.acked < number → IsRefusal client number reply → IsIn reply world.packets
    → IsAhead world.served.volume (tree_at (world.served.last client) log)
refused_ahead client log world number (Stale of stored upto path theirs ours) now low is among = (path, (now.fitting (Stale of stored upto path theirs ours) among is.0).1 (omega (arith, low, is.1)))
refused_ahead client log world number (Unfit of stored upto index fault) now low is among = (now.fitting (Unfit of stored upto index fault) among is.0).1 (omega (arith, low, is.1))
refused_ahead client log world number (Full of stored upto index fault) now low is among = (now.fitting (Full of stored upto index fault) among is.0).1 (omega (arith, low, is.1))
refused_ahead client log world number _ now low is among = absurd is
