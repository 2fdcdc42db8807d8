-- A run whose contents have prints of their own takes none for another.
use Rattle.std.proofs.Common.{inl, inr, ⊎_elim, ℕ, List, [], ◌++◌, Option, Result, Ok, Err}
use Rattle.rs_parity.specs.Sketches.{Distinct}
use Rattle.mod_log.specs.Log.{Log}
use Rattle.wire_frames.specs.declared.message.Message.{Message}
use Rattle.world_rules.specs.World.{World}
use Rattle.world_rules.specs.InStep.{InStep, HasNoCollision}
use Rattle.world_rules.proofs.Asks.{told_as}
use Rattle.client_core.specs.declared.route.Route.{Route}
use Rattle.client_core.specs.Trace.{Trace}
use Rattle.shell_lang.specs.declared.answer.LineAnswer.{LineAnswer}
use Rattle.client_session.specs.Session.{SessionState, opened}
use Rattle.client_session.specs.Contents.{IsOfPackets}
use Rattle.client_session.proofs.Contents.{WriteWhatIsLeft, chain_written, broken_chain_written, distinct_left}
use Rattle.client_lines.specs.declared.input.InputEnd.{InputEnd}
use Rattle.client_lines.specs.declared.run.Stop.{Stop}
use Rattle.client_lines.specs.declared.run.Stop.TheVariants.{Sink, Keeper, Memory}
use Rattle.client_lines.specs.Run.{asked_for, HandlesAll, Handles, WholeRun}
use Rattle.client_lines.specs.Contents.{IsSketchable, DistinctContentsNeverCollide, DistinctContentsLeave}
use Rattle.client_lines.specs.Headline.{Leaves, MayGoOn, Around, WorldRan, Ran}

module _ (route : Route) (before after : SessionState) (kept : Log) (answers : List (Option LineAnswer)) (trace : Trace) where
  all_written : (lines : List (List ℕ)) → HandlesAll route before lines answers after kept trace → WriteWhatIsLeft trace
  all_written lines all = chain_written route before (asked_for lines) answers after trace all.0

  some_written : (stop : Stop) (lines : List (List ℕ)) → Handles stop route before lines answers after kept trace → WriteWhatIsLeft trace
  some_written Sink lines all = all_written lines all
  some_written Keeper lines some = ⊎_elim (λ all. all_written lines all) (λ breaks. broken_chain_written route before (asked_for lines) answers after kept trace breaks) some
  some_written Memory lines some = ⊎_elim (λ all. all_written lines all) (λ breaks. broken_chain_written route before (asked_for lines) answers after kept trace breaks) some

  -- each entry of a command that was logged writes what its run left
  run_written : (left rest o n : Option (List ℕ)) (ended : Result InputEnd Stop) → WholeRun route before left rest answers o n ended after kept trace → WriteWhatIsLeft trace
  run_written left rest o n (Ok end) turn = all_written turn.0 turn.3
  run_written left rest o n (Err stop) turn = ⊎_elim (λ stops. some_written stop stops.0 stops.4) (λ closing. all_written turn.0 closing.1.3) turn.3

module _ (client : ℕ) (route : Route) (start : Log) (around around_now : Around) (status : ℕ) (ran : Ran client route start around around_now status) where
  distinct_apart : (packets : List Message) → Distinct (IsSketchable start.pending ran.goes.trace.runs) (IsOfPackets packets) → HasNoCollision client (start.pending ++ ran.goes.trace.entries) packets
  distinct_apart packets distinct =
      distinct_left client start.pending [] ran.goes.trace packets
      (run_written route (opened client start) ran.after ran.kept ran.answers ran.goes.trace around.left around_now.left around.written around_now.written ran.ended ran.goes.turn)
      (λ x y first second same. distinct x y (⊎_elim (λ pending. inl pending) (λ later. ⊎_elim (λ put. absurd put.2) (λ left. inr left) later) first) second same)

  abbrev InWorlds : World → World → Type 0
  InWorlds = WorldRan client route start ran.after.client.log ran.kept ran.goes.trace ran.answers around.link.troubles around_now.link.troubles

pub contents_never_collide : DistinctContentsNeverCollide
contents_never_collide client route start around around_now status ran =
    told_as around.link.world around_now.link.world (InWorlds client route start around around_now status ran)
    (λ old new. Distinct (IsSketchable start.pending ran.goes.trace.runs) (IsOfPackets new.packets) → HasNoCollision client (start.pending ++ ran.goes.trace.entries) new.packets) ran.told
    (λ old new did. distinct_apart client route start around around_now status ran new.packets)

pub contents_leave : DistinctContentsLeave
contents_leave client route start around around_now status ran =
    told_as around.link.world around_now.link.world (InWorlds client route start around around_now status ran)
    (λ old new. InStep client start old → Distinct (IsSketchable start.pending ran.goes.trace.runs) (IsOfPackets new.packets) → Leaves client start ran.after.client.log ran.kept ran.goes.trace.entries old new × MayGoOn client ran.after.client.log ran.kept new) ran.told
    (λ old new did now distinct.
    let apart = distinct_apart client route start around around_now status ran new.packets distinct in
    (did.leaves now apart, did.goes_on now apart))
