-- Where jobs are run, and whom a surrogate asks.
use Rattle.std.proofs.Common.{◌≡◌, inl, inr, ⊎_elim, ℕ, List, [], ◌∷◌, Result, Ok, Err, sym, ap, subst}
use Rattle.std.specs.declared.alloc.AllocError.{AllocError}
use Rattle.replay_judge.proofs.Agreed.{all_fill}
use Rattle.tree_values.specs.Lists.{IsIn}
use Rattle.tree_values.specs.Tree.{Volume}
use Rattle.cmd_capture.specs.declared.runner.Run.{Run}
use Rattle.mod_log.specs.declared.sketching.SketchEntry.{SketchEntry}
use Rattle.wire_frames.specs.declared.message.FrameError.{FrameError}
use Rattle.wire_frames.specs.declared.message.Message.{Message}
use Rattle.wire_frames.specs.declared.message.Message.TheVariants.{Operate}
use Rattle.wire_frames.specs.Reading.{frame_of}
use Rattle.world_rules.specs.declared.asking.Ask.{Ask}
use Rattle.world_rules.specs.declared.asking.Peer.TheVariants.{Server}
use Rattle.world_rules.proofs.Asks.{in_either}
use Rattle.surrogate_core.specs.Handling.{answering}
use Rattle.surrogate_core.specs.Serving.{ServesTo}
use Rattle.surrogate_core.specs.Laws.{IsOfJob}
use Rattle.surrogate_core.proofs.Copies.{asks_the_server, breaking_asks_the_server}
use Rattle.surrogate_core.proofs.Once.{handlings_run_once, broken_handlings_run_once}
use Rattle.surrogate_prog.specs.Serving.{Doings, did_nothing, and_then, ServesRead}
use Rattle.surrogate_prog.specs.Laws.{AreOfRoute, ServingsKeepTheirRoute, BrokenServingsKeepTheirRoute}

module _ (server work : List ℕ) where
  abbrev Runs_here : List Run → Type 0
  Runs_here runs = (run : Run) → IsIn run runs → run.work ≡ work

  abbrev Asks_there : List Ask → Type 0
  Asks_there asks = (ask : Ask) → IsIn ask asks → (ask.to ≡ Server) × (ask.address ≡ server)

  ran_here : (sketched : SketchEntry) (runs : List Run) → IsOfJob sketched work runs → Runs_here runs
  ran_here sketched [] once run among = absurd among
  ran_here sketched (one ∷ []) once run (inl is) = subst (λ (r : Run). r.work ≡ work) (sym is) once.0
  ran_here sketched (one ∷ []) once run (inr none) = absurd none
  ran_here sketched (one ∷ two ∷ runs) once run among = absurd once

  none_ran : (runs : List Run) → runs ≡ [] → Runs_here runs
  none_ran runs none run among = absurd (subst (IsIn run) none among)

  none_asked : (asks : List Ask) → asks ≡ [] → Asks_there asks
  none_asked asks none ask among = absurd (subst (IsIn ask) none among)

  served_here : (copy after : Volume) (request : Message) (runs : List Run) (asks : List Ask) (result : Result Message AllocError) → ServesTo server work copy request runs asks result after
      → Runs_here runs × Asks_there asks
  served_here copy after (Operate client sketched) runs asks (Ok reply) serves = (
    ran_here sketched runs (handlings_run_once server work copy after client sketched runs asks reply serves),
    λ ask among. let of = asks_the_server all_fill client sketched copy server work runs asks (answering after reply) serves ask among in (of.0, of.1),
  )
  served_here copy after (Operate client sketched) runs asks (Err error) serves = (
    ran_here sketched runs (broken_handlings_run_once server work copy after client sketched runs asks serves),
    λ ask among. let of = breaking_asks_the_server all_fill client sketched copy server work runs asks after serves ask among in (of.0, of.1),
  )
  served_here copy after request runs asks result serves = (none_ran runs serves.1, none_asked asks serves.2)

  nothing_here : (did : Doings) → did ≡ did_nothing → AreOfRoute server work did
  nothing_here did nothing = (none_ran did.runs (ap (λ (d : Doings). d.runs) nothing), none_asked did.asks (ap (λ (d : Doings). d.asks) nothing))

  read_here : (copy after : Volume) (came : Result Message FrameError) (did : Doings) (reply : Message) → ServesRead server work copy came did reply after → AreOfRoute server work did
  read_here copy after (Ok request) did reply serves = served_here copy after request did.runs did.asks (Ok reply) serves.0
  read_here copy after (Err refusal) did reply serves = nothing_here did serves.1

  both_here : (first more : Doings) → AreOfRoute server work first → AreOfRoute server work more → AreOfRoute server work (and_then first more)
  both_here first more one two = (
    λ run among. ⊎_elim (λ front. one.0 run front) (λ back. two.0 run back) (in_either run first.runs more.runs among),
    λ ask among. ⊎_elim (λ front. one.1 ask front) (λ back. two.1 ask back) (in_either ask first.asks more.asks among),
  )

pub servings_keep_their_route : ServingsKeepTheirRoute
servings_keep_their_route server work copy after [] did serves = nothing_here server work did serves.0
servings_keep_their_route server work copy after (pair ∷ pairs) did serves =
    subst (AreOfRoute server work) (sym serves.5)
    (both_here server work serves.0 serves.1 (read_here server work copy serves.2 (frame_of pair.0) serves.0 serves.3.reply serves.3.serves)
    (servings_keep_their_route server work serves.2 after pairs serves.1 serves.4))

pub broken_servings_keep_their_route : BrokenServingsKeepTheirRoute
broken_servings_keep_their_route server work copy frames did (inl nothing) = nothing_here server work did nothing
broken_servings_keep_their_route server work copy frames did (inr part) = served_here server work copy part.after part.request did.runs did.asks part.result part.serves
