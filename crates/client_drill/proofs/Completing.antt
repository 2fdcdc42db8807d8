-- What a drill leaves pending.
use Rattle.std.proofs.Common.{◌≡◌, ℕ, zero, suc, ◌+◌, ◌≤◌, List, [], ◌∷◌, ◌++◌, length, Option, Some, Result, Ok, Err, refl, sym, ◌∙◌, ap, subst, arith}
use Rattle.std.specs.Prelude.{if◌then◌else◌}
use Rattle.std.specs.List.{count_by}
use Rattle.vol_tree.proofs.Behind.{IsTree-empty}
use Rattle.rs_parity.specs.Sketches.{Distinct}
use Rattle.mod_log.specs.Log.{Log, new_log, tree_at}
use Rattle.wire_frames.specs.declared.message.Message.{Message}
use Rattle.world_rules.specs.declared.asking.Ask.{Ask}
use Rattle.world_rules.specs.declared.asking.Peer.TheVariants.{Server}
use Rattle.world_rules.specs.Served.{new_served}
use Rattle.world_rules.specs.World.{World}
use Rattle.world_rules.specs.Settling.{failures}
use Rattle.world_rules.specs.InStep.{InStep, HasNoCollision}
use Rattle.world_rules.specs.Run.{AreAllOf}
use Rattle.world_rules.proofs.Runs.{new_in_step}
use Rattle.mem_wires.specs.Wire.{world_of, new_world}
use Rattle.mem_net.specs.declared.parts.NetworkParts.{NetworkParts}
use Rattle.mem_net.specs.Drill.{InDrill}
use Rattle.mem_net.specs.Handed.{is_server_failure, failures_behind, last_failures, IsByRule}
use Rattle.client_core.specs.Trace.{Trace}
use Rattle.shell_lang.specs.declared.line.Line.{Line}
use Rattle.shell_lang.specs.declared.line.LineError.{LineError}
use Rattle.shell_lang.specs.declared.answer.LineAnswer.{LineAnswer}
use Rattle.client_session.specs.Session.{SessionState, opened, Chain}
use Rattle.client_session.specs.Contents.{IsOfPackets}
use Rattle.client_lines.specs.declared.input.InputEnd.{InputEnd}
use Rattle.client_lines.specs.declared.input.InputEnd.TheVariants.{Read, Failed, TooLong}
use Rattle.client_lines.specs.declared.run.Stop.{Stop}
use Rattle.client_lines.specs.declared.run.Stop.TheVariants as stops
use Rattle.client_lines.specs.Run.{asked_for, status_of, WholeRun}
use Rattle.client_lines.specs.Headline.{last_taken, Around, Ran, WorldRan}
use Rattle.client_lines.specs.Contents.{IsSketchable}
use Rattle.client_lines.specs.Completing.{EndInFailures}
use Rattle.client_lines.proofs.Completing.{last_syncs_complete}
use Rattle.client_lines.proofs.RunningContents.{contents_never_collide}
use Rattle.client_drill.specs.declared.session.Worked.{Worked}
use Rattle.client_drill.specs.Limits.{max_steps}
use Rattle.client_drill.specs.Drill.{jobs_upto, drill_lines, script}
use Rattle.client_drill.specs.Drilled.{was_run, drill_route, drill_around, no_images, IsDrillNet, WorksOff}
use Rattle.client_drill.proofs.Commands.{commands_are}
use Rattle.client_drill.proofs.Reading.{handled, front, ends_in_sync}

-- ---- failed asks at the end

behind_then : (n : ℕ) (xs ys : List Ask) → failures_behind n (xs ++ ys) ≡ failures_behind (failures_behind n xs) ys
behind_then n [] ys = refl
behind_then n (x ∷ xs) ys = behind_then (if is_server_failure x then suc n else 0) xs ys

many_failed : (n : ℕ) (address : List ℕ) (request : Message) (count : ℕ) → failures_behind n (failures Server address request count) ≡ n + count
many_failed n address request zero = omega arith
many_failed n address request (suc count) = many_failed (suc n) address request count ∙ omega arith

-- asks whose last eight failed break the rule
not_eight : (address : List ℕ) (asks : List Ask) → last_failures asks ≤ 3 → (earlier : List Ask) (request : Message) → asks ≡ earlier ++ failures Server address request 8 → ⊥
not_eight address asks few earlier request is =
    omega (arith, few, ap last_failures is, behind_then 0 earlier (failures Server address request 8), many_failed (last_failures earlier) address request 8)

-- ---- the lines

module _ (seed count : ℕ) (low : count ≤ max_steps) (left : List ℕ) (written written_now : Option (List ℕ)) (answers : List (Option LineAnswer)) (after : SessionState) (kept : Log) (trace : Trace) where
  -- where the session came to its end, all lines were handled
  all_handled : (ended : Result InputEnd Stop) → 0 ≡ status_of ended
      → WholeRun drill_route (opened 1 new_log) (Some (script seed count)) (Some left) answers written written_now ended after kept trace
      → Chain drill_route (opened 1 new_log) (asked_for (drill_lines seed count)) answers after trace
  all_handled (Ok Read) is turn =
      subst (λ (lines : List (List ℕ)). Chain drill_route (opened 1 new_log) (asked_for lines) answers after trace) (handled seed count low left turn.0 turn.2) turn.3.0
  all_handled (Ok Failed) is turn = absurd (omega (arith, is))
  all_handled (Ok TooLong) is turn = absurd (omega (arith, is))
  all_handled (Err stops.Sink) is turn = absurd (omega (arith, is))
  all_handled (Err stops.Keeper) is turn = absurd (omega (arith, is))
  all_handled (Err stops.Memory) is turn = absurd (omega (arith, is))

-- ---- what is left pending

begins_in_step : InStep 1 new_log (new_world 1 new_served)
begins_in_step =
    new_in_step 1 (new_world 1 new_served) refl (omega arith) (omega arith)
    (record { tree = IsTree-empty; small = λ client. omega arith; of_none = refl; of_no_others = λ client above. refl }) refl (λ message among. absurd among)

module _ (seed count : ℕ) (low : count ≤ max_steps) (runner runner_now : InDrill) (net net_now : NetworkParts InDrill) (worked : Worked) (made : IsDrillNet seed count net)
    (works : WorksOff (script seed count) runner runner_now net net_now worked) (rule : IsByRule (world_of net_now.wires) net_now.wires.fates) where
  abbrev old : World
  old = world_of net.wires

  abbrev new : World
  new = world_of net_now.wires

  abbrev around : Around
  around = drill_around (script seed count) [] no_images runner net

  abbrev around_now : Around
  around_now = drill_around works.left works.written works.images runner_now net_now

  abbrev ran : Ran 1 drill_route new_log around around_now 0
  ran = works.ran

  in_world : WorldRan 1 drill_route new_log ran.after.client.log ran.kept ran.goes.trace ran.answers net.wires.troubles net_now.wires.troubles old new
  in_world = ran.told

  asks_are : new.asks ≡ ran.goes.trace.asks
  asks_are = in_world.asked ∙ ap (λ (world : World). world.asks ++ ran.goes.trace.asks) made.world

  unfailed : EndInFailures drill_route ran.goes.trace.asks → ⊥
  unfailed failed = not_eight drill_route.server new.asks (omega (arith, rule.few)) failed.0 failed.1 (asks_are ∙ failed.2)

  in_step : InStep 1 new_log old
  in_step = subst (InStep 1 new_log) (sym made.world) begins_in_step

  served : old.served.volume ≡ tree_at (last_taken 1 old) new_log
  served = subst (λ (world : World). world.served.volume ≡ tree_at (last_taken 1 world) new_log) (sym made.world) refl

  chain : Chain drill_route (opened 1 new_log) (asked_for (drill_lines seed count)) ran.answers ran.after ran.goes.trace
  chain =
      all_handled seed count low works.left (Some []) (Some works.written) ran.answers ran.after ran.kept ran.goes.trace ran.ended ran.status_is ran.goes.turn

  -- where each step logged an entry, and two lines more, a command made as many as the steps run
  pub commands : worked.logged ≡ count + 2 → jobs_upto seed count ≡ count_by was_run ran.goes.trace.entries
  commands all = commands_are seed count drill_route (opened 1 new_log) ran.answers ran.after ran.goes.trace chain (sym works.entries ∙ all)

  none_pending : HasNoCollision 1 ran.goes.trace.entries new.packets → ran.after.client.log.pending ≡ []
  none_pending apart =
      let is_own : new.client ≡ 1 = (in_world.goes_on in_step apart).in_step.about in
      let own : AreAllOf 1 new.taken = subst (λ (client : ℕ). AreAllOf client new.taken) is_own rule.own in
      let since : new.taken ≡ old.taken ++ new.taken = sym (ap (λ (world : World). world.taken ++ new.taken) made.world) in
      last_syncs_complete 1 drill_route new_log around around_now (front seed count low) ran
      (subst (λ (read : List (Result Line LineError)). Chain drill_route (opened 1 new_log) read ran.answers ran.after ran.goes.trace) (ends_in_sync seed count low) chain)
      unfailed in_step apart served new.taken since own

  -- where contents are distinct, nothing is pending
  pub complete : Distinct (IsSketchable [] ran.goes.trace.runs) (IsOfPackets net_now.wires.packets) → worked.pending ≡ 0
  complete distinct =
      ap (λ (w : Worked). w.pending) works.worked_is
      ∙ ap length (none_pending (contents_never_collide 1 drill_route new_log around around_now 0 ran distinct))
