-- After a handling the copy is the one from before, or a snapshot of it, or that one with the effects that were accepted.
use Rattle.std.proofs.Common.{◌≡◌, ◌⊎◌, inl, inr, ⊎_elim, ℕ, zero, suc, ◌+◌, ◌-◌, ◌<◌, ◌≤◌, Bool, true, false, List, [], ◌∷◌, ◌++◌, Option, Some, None, Result, Ok, Err, refl, sym, ap, subst, append_assoc, arith}
use Rattle.std.proofs.lemmas.List.{append-nil}
use Rattle.std.specs.Prelude.{find}
use Rattle.std.specs.List.{flat_map}
use Rattle.tree_values.specs.Tree.{Volume}
use Rattle.tree_values.specs.Lists.{IsIn}
use Rattle.tree_values.specs.Effects.{apply_all}
use Rattle.tree_values.specs.declared.node.Effect.{Effect}
use Rattle.tree_values.specs.declared.node.TreeError.{TreeError}
use Rattle.cmd_capture.specs.declared.runner.Run.{Run}
use Rattle.cmd_capture.specs.declared.job.Job.{Job}
use Rattle.cmd_capture.specs.declared.job.Outcome.{Outcome}
use Rattle.work_area.specs.Changes.{clashes}
use Rattle.mod_log.specs.Sketched.{AllFill}
use Rattle.mod_log.specs.declared.sketching.SketchEntry.{SketchEntry}
use Rattle.replay_judge.specs.declared.verdict.Verdict.TheVariants as verdicts
use Rattle.replay_judge.specs.Judgement.{IsJudgement}
use Rattle.replay_judge.specs.Laws.{AgreementsFill}
use Rattle.replay_judge.specs.declared.verdict.Verdict.{Verdict}
use Rattle.wire_frames.specs.Parts.{part_of}
use Rattle.wire_frames.specs.declared.cause.Cause.TheVariants.{NoMemory}
use Rattle.wire_frames.specs.declared.message.Message.TheVariants.{Store, Operate, Pull, Accepted, Stale, Unfit, Gap, Snapshot, Done, Declined, Full, Malformed}
use Rattle.byte_fields.proofs.Facts.{le_of}
use Rattle.wire_frames.specs.Frame.{IsValid, Echoes}
use Rattle.wire_frames.specs.declared.cause.Cause.{Cause}
use Rattle.wire_frames.specs.declared.message.Message.{Message}
use Rattle.world_rules.specs.declared.asking.Peer.TheVariants.{Server}
use Rattle.world_rules.specs.declared.asking.Answer.TheVariants.{Reply}
use Rattle.world_rules.specs.Settling.{IsSettling, BreaksSettling, failures, settled}
use Rattle.world_rules.specs.Asking.{ask_of}
use Rattle.world_rules.specs.declared.asking.Ask.{Ask}
use Rattle.world_rules.specs.declared.asking.Answer.{Answer}
use Rattle.surrogate_core.specs.declared.step.NextStep.TheVariants as steps
use Rattle.surrogate_core.specs.Handling.{Phase, Idle, Fetching, Holding, Reaction, answering, declining, job_for, held_by, unless_clash, unless_unfit, after_verdict, AfterJob, Tries, closed, refusal_kind, HandlesCome, Round, IsRound, GoesOn, Handled, Handling, BreaksHandling, copy_before}
use Rattle.surrogate_core.specs.Serving.{MayAsk}
use Rattle.surrogate_core.specs.Laws.{IsTried, EndsOperation}
use Rattle.surrogate_core.specs.declared.step.NextStep.{NextStep}

module _ (agreements_fill : AgreementsFill) (client : ℕ) (sketched : SketchEntry) (copy : Volume) where
  -- a store was asked, on this copy that was tried
  pub record Asks (asks : List Ask) (c n : ℕ) (before : Volume) (request : Message) (now : Volume) : Type 0 where
    pub same_client : c ≡ client
    pub same_number : n ≡ sketched.seq
    pub effects : List Effect
    pub request_is : request ≡ Store client sketched.seq (part_of effects sketched.base ∷ [])
    pub fills : AllFill sketched.effects effects
    pub tried : IsTried copy asks before
    pub applied : apply_all 0 effects before ≡ Ok now

  -- what a step and the phase after it say
  abbrev pub IsOn : List Ask → NextStep → Phase → Volume → Type 0
  IsOn asks (steps.Answer reply) Idle now = EndsOperation client sketched copy asks now reply
  IsOn asks (steps.Ask request) (Fetching c s) now = (c ≡ client) × (s ≡ sketched) × (now ≡ copy) × (request ≡ Pull client (sketched.seq - 1))
  IsOn asks (steps.Ask request) (Holding c n before) now = Asks asks c n before request now
  IsOn asks step phase now = ⊥

  abbrev pub IsAt : List Ask → Reaction → Type 0
  IsAt asks reaction = IsOn asks reaction.step reaction.after.phase reaction.after.copy

  applied_on : (asks : List Ask) (tried : Volume) (effects : List Effect) → IsTried copy asks tried → AllFill sketched.effects effects
      → (r : Result Volume (ℕ × TreeError)) → apply_all 0 effects tried ≡ r → IsAt asks (after_verdict tried client sketched (unless_unfit effects r))
  applied_on asks tried effects tried_is fills (Ok now) e =
      record { same_client = refl; same_number = refl; effects = effects; request_is = refl; fills = fills; tried = tried_is; applied = e }
  applied_on asks tried effects tried_is fills (Err refusal) e = (refl, refl, tried_is)

  agreed_on : (asks : List Ask) (tried : Volume) (effects : List Effect) → IsTried copy asks tried → AllFill sketched.effects effects
      → (clash : Option Effect) → IsAt asks (after_verdict tried client sketched (unless_clash tried effects clash))
  agreed_on asks tried effects tried_is fills (Some e) = (refl, refl, tried_is)
  agreed_on asks tried effects tried_is fills None = applied_on asks tried effects tried_is fills (apply_all 0 effects tried) refl

  verdict_on : (asks : List Ask) (tried : Volume) (job : Job) (outcome : Outcome) (verdict : Verdict) → IsTried copy asks tried → IsJudgement sketched job outcome verdict
      → IsAt asks (after_verdict tried client sketched (held_by tried job verdict))
  verdict_on asks tried job outcome (verdicts.Status logged replayed) tried_is judged = (refl, refl, tried_is)
  verdict_on asks tried job outcome (verdicts.OddTree index) tried_is judged = (refl, refl, tried_is)
  verdict_on asks tried job outcome (verdicts.Mismatch path) tried_is judged = (refl, refl, tried_is)
  verdict_on asks tried job outcome (verdicts.Agree effects) tried_is judged =
      agreed_on asks tried effects tried_is (agreements_fill sketched.effects _ effects judged.2) (find (clashes tried job.rows) effects)

  tries_on : (pulled : Bool) (asks : List Ask) (tried : Volume) (work : List ℕ) (runs : List Run) (reaction : Reaction) → IsTried copy asks tried → (pulled ≡ false → tried ≡ copy)
      → Tries pulled tried client sketched work runs reaction → IsAt asks reaction
  tries_on pulled asks tried work runs reaction tried_is same tries =
      ⊎_elim (λ came. by pulled (job_for tried sketched) tries.ran same came) (λ none. subst (IsAt asks) (sym none) (refl, refl, tried_is)) tries.came
    where
      by : (pulled : Bool) (job : Result Job Cause) (ran : Option Outcome) → (pulled ≡ false → tried ≡ copy) → AfterJob pulled tried client sketched job ran reaction → IsAt asks reaction
      by pulled (Ok job) None same came = subst (IsAt asks) (sym came) (refl, refl, tried_is)
      by pulled (Ok job) (Some outcome) same came = subst (IsAt asks) (sym came.2) (verdict_on asks tried job outcome came.0 tried_is came.1)
      by true (Err cause) ran same came = subst (IsAt asks) (sym came) (refl, refl, tried_is)
      by false (Err cause) ran same came = subst (IsAt asks) (sym came) (refl, refl, same refl, refl)

  -- ---- more asks

  in_left : (x : Ask) (xs ys : List Ask) → IsIn x xs → IsIn x (xs ++ ys)
  in_left x [] ys among = absurd among
  in_left x (y ∷ xs) ys (inl is) = inl is
  in_left x (y ∷ xs) ys (inr among) = inr (in_left x xs ys among)

  in_right : (x : Ask) (xs ys : List Ask) → IsIn x ys → IsIn x (xs ++ ys)
  in_right x [] ys among = among
  in_right x (y ∷ xs) ys among = inr (in_right x xs ys among)

  tried_more : (asks more : List Ask) (tried : Volume) → IsTried copy asks tried → IsTried copy (asks ++ more) tried
  tried_more asks more tried (inl is) = inl is
  tried_more asks more tried (inr p) = inr (p.0, p.1, p.2, p.3, in_left p.0 asks more p.4, p.5)

  answered_in : (request reply : Message) (failed : ℕ) (server : List ℕ) → IsIn (ask_of Server server request (Reply reply)) (settled Server server request failed reply)
  answered_in request reply failed server = in_right _ (failures Server server request failed) _ (inl refl)

  -- ---- a round

  accepted_by : (n : ℕ) (effects : List Effect) (reply : Message) → IsValid reply → Echoes (Store client n (part_of effects sketched.base ∷ [])) reply → refusal_kind reply ≡ None → reply ≡ Accepted client n n
  accepted_by n effects (Accepted c k u) valid echoes none =
      let low : k ≤ u = le_of k u valid.body_fits.1 in
      let high : u < n + 1 = echoes.3 in
      let only : u ≡ n = omega (arith, low, high, echoes.2) in
      λ i. Accepted (sym echoes.1 i) (sym echoes.2 i) (only i)
  accepted_by n effects (Store c k ps) valid echoes none = absurd echoes.0
  accepted_by n effects (Operate c s) valid echoes none = absurd echoes.0
  accepted_by n effects (Pull c k) valid echoes none = absurd echoes.0
  accepted_by n effects (Stale c k u p t o) valid echoes none = absurd (cc)
  accepted_by n effects (Unfit c k u x f) valid echoes none = absurd (cc)
  accepted_by n effects (Gap c k l) valid echoes none = absurd (cc)
  accepted_by n effects (Snapshot c k l r) valid echoes none = absurd echoes.0
  accepted_by n effects (Done c k) valid echoes none = absurd echoes.0
  accepted_by n effects (Declined c k cause) valid echoes none = absurd echoes.0
  accepted_by n effects (Full c k u x f) valid echoes none = absurd (cc)
  accepted_by n effects (Malformed c o) valid echoes none = absurd echoes.0

  closed_on : (server : List ℕ) (asks : List Ask) (failed n : ℕ) (c : ℕ) (before now : Volume) (request reply : Message) → Asks asks c n before request now
      → IsValid reply → Echoes request reply → (kind : Option ℕ) → refusal_kind reply ≡ kind
      → IsAt (asks ++ settled Server server request failed reply) (closed now c n before kind)
  closed_on server asks failed n c before now request reply held valid echoes (Some kind) e = (held.same_client, held.same_number, tried_more asks _ before held.tried)
  closed_on server asks failed n c before now request reply held valid echoes None e =
      let is : reply ≡ Accepted client sketched.seq sketched.seq = accepted_by sketched.seq held.effects reply valid (subst (λ m. Echoes m reply) held.request_is echoes) e in (
        held.same_client,
        held.same_number,
        record {
          tried = before;
          tried_is = tried_more asks _ before held.tried;
          effects = held.effects;
          fills = held.fills;
          ask = ask_of Server server request (Reply reply);
          among = in_right _ asks _ (answered_in request reply failed server);
          asked = held.request_is;
          accepted = ap Reply is;
          copy_is = held.applied;
        },
      )

  snapshot_on : (server work : List ℕ) (asks : List Ask) (failed c n last : ℕ) (rows now : Volume) (request : Message) (runs : List Run) (reaction : Reaction) → now ≡ copy
      → (Tries true rows client sketched work runs reaction ⊎ ((reaction ≡ declining now client sketched.seq NoMemory) × (runs ≡ [])))
      → IsAt (asks ++ settled Server server request failed (Snapshot c n last rows)) reaction
  snapshot_on server work asks failed c n last rows now request runs reaction same (inl tries) =
      let all = asks ++ settled Server server request failed (Snapshot c n last rows) in
      tries_on true all rows work runs reaction
      (inr (ask_of Server server request (Reply (Snapshot c n last rows)), c, n, last, in_right _ asks _ (answered_in request (Snapshot c n last rows) failed server), refl)) (λ e. absurd (cc)) tries
  snapshot_on server work asks failed c n last rows now request runs reaction same (inr none) = subst (IsAt _) (sym none.0) (refl, refl, inl same)

  -- a snapshot was asked for
  fetched_on : (server work : List ℕ) (asks made : List Ask) (c : ℕ) (s : SketchEntry) (now : Volume) (request : Message) (came : Option Message) (runs : List Run) (reaction : Reaction)
      → c ≡ client → s ≡ sketched → now ≡ copy → IsSettling Server server request came made
      → HandlesCome (record { copy = now; phase = Fetching c s }) came work runs reaction → IsAt (asks ++ made) reaction
  fetched_on server work asks made c s now request None runs reaction is_c is_s same settles handles =
      subst (IsAt _) (sym handles.0) (is_c, ap (λ e. e.seq) is_s, inl same)
  fetched_on server work asks made c s now request (Some (Snapshot k n last rows)) runs reaction is_c is_s same settles handles =
      let tries = subst (λ d. Tries true rows d sketched work runs reaction ⊎ ((reaction ≡ declining now d sketched.seq NoMemory) × (runs ≡ []))) is_c
      (subst (λ e. Tries true rows c e work runs reaction ⊎ ((reaction ≡ declining now c e.seq NoMemory) × (runs ≡ []))) is_s handles) in
      subst (λ m. IsAt (asks ++ m) reaction) (sym settles.4) (snapshot_on server work asks settles.0 k n last rows now request runs reaction same tries)
  fetched_on server work asks made c s now request (Some (Store k n ps)) runs reaction is_c is_s same settles handles = absurd handles
  fetched_on server work asks made c s now request (Some (Operate k e)) runs reaction is_c is_s same settles handles = absurd handles
  fetched_on server work asks made c s now request (Some (Pull k n)) runs reaction is_c is_s same settles handles = absurd handles
  fetched_on server work asks made c s now request (Some (Accepted k n u)) runs reaction is_c is_s same settles handles = absurd handles
  fetched_on server work asks made c s now request (Some (Stale k n u p t o)) runs reaction is_c is_s same settles handles = absurd handles
  fetched_on server work asks made c s now request (Some (Unfit k n u x f)) runs reaction is_c is_s same settles handles = absurd handles
  fetched_on server work asks made c s now request (Some (Gap k n l)) runs reaction is_c is_s same settles handles = absurd handles
  fetched_on server work asks made c s now request (Some (Done k n)) runs reaction is_c is_s same settles handles = absurd handles
  fetched_on server work asks made c s now request (Some (Declined k n e)) runs reaction is_c is_s same settles handles = absurd handles
  fetched_on server work asks made c s now request (Some (Full k n u x f)) runs reaction is_c is_s same settles handles = absurd handles
  fetched_on server work asks made c s now request (Some (Malformed k o)) runs reaction is_c is_s same settles handles = absurd handles

  -- a store was asked
  stored_on : (server work : List ℕ) (asks made : List Ask) (c n : ℕ) (before now : Volume) (request : Message) (came : Option Message) (runs : List Run) (reaction : Reaction)
      → Asks asks c n before request now → IsSettling Server server request came made
      → HandlesCome (record { copy = now; phase = Holding c n before }) came work runs reaction → IsAt (asks ++ made) reaction
  stored_on server work asks made c n before now request None runs reaction held settles handles =
      subst (IsAt _) (sym handles.0) (held.same_client, held.same_number, tried_more asks made before held.tried)
  stored_on server work asks made c n before now request (Some reply) runs reaction held settles handles =
      subst (IsAt _) (sym handles.0)
      (subst (λ m. IsAt (asks ++ m) (closed now c n before (refusal_kind reply))) (sym settles.4)
      (closed_on server asks settles.0 n c before now request reply held settles.2 settles.3 (refusal_kind reply) refl))

  round_on : (server work : List ℕ) (asks : List Ask) (step : NextStep) (phase : Phase) (now : Volume) (round : Round) → IsOn asks step phase now
      → IsRound server work (record { step = step; after = record { copy = now; phase = phase } }) round → IsAt (asks ++ round.asks) round.after
  round_on server work asks (steps.Answer reply) phase now round on is = absurd is
  round_on server work asks (steps.Ask request) Idle now round on is = absurd on
  round_on server work asks (steps.Ask request) (Fetching c s) now round on is =
      fetched_on server work asks round.asks c s now request round.came round.runs round.after on.0 on.1 on.2 is.0 is.1
  round_on server work asks (steps.Ask request) (Holding c n before) now round on is =
      stored_on server work asks round.asks c n before now request round.came round.runs round.after on is.0 is.1

  rounds_on : (server work : List ℕ) (asks : List Ask) (rounds : List Round) (first last : Reaction) → IsAt asks first → GoesOn server work first rounds last
      → IsAt (asks ++ flat_map (λ round. round.asks) rounds) last
  rounds_on server work asks [] first last on goes = subst (IsAt _) (sym goes) (subst (λ l. IsAt l first) (sym (append-nil asks)) on)
  rounds_on server work asks (round ∷ rounds) first last on goes =
      subst (λ l. IsAt l last) (append_assoc asks round.asks (flat_map (λ r. r.asks) rounds))
      (rounds_on server work (asks ++ round.asks) rounds round.after last (round_on server work asks first.step first.after.phase first.after.copy round on goes.0) goes.1)

  -- the whole handling
  pub handled_on : (server work : List ℕ) (runs : List Run) (asks : List Ask) (last : Reaction) → Handled server work copy client sketched runs asks last → IsAt asks last
  handled_on server work runs asks last handled =
      subst (λ l. IsAt l last) (sym handled.asks_are)
      (rounds_on server work [] handled.rounds handled.first last
      (tries_on false [] copy work handled.first_runs handled.first (inl refl) (λ e. refl) handled.begins) handled.goes_on)

  pub keeps_the_copy : (server work : List ℕ) (runs : List Run) (asks : List Ask) (reply : Message) (after : Volume)
      → Handling server work copy client sketched runs asks reply after → EndsOperation client sketched copy asks after reply
  keeps_the_copy server work runs asks reply after handling = handled_on server work runs asks (answering after reply) handling

  before_on : (asks : List Ask) (request : Message) (phase : Phase) (now : Volume) → IsOn asks (steps.Ask request) phase now → IsTried copy asks (copy_before (record { copy = now; phase = phase }))
  before_on asks request Idle now on = absurd on
  before_on asks request (Fetching c s) now on = inl on.2
  before_on asks request (Holding c n before) now on = on.tried

  pub breaking_keeps_the_copy : (server work : List ℕ) (runs : List Run) (asks : List Ask) (after : Volume)
      → BreaksHandling server work copy client sketched runs asks after → IsTried copy asks after
  breaking_keeps_the_copy server work runs asks after breaks =
      let on = handled_on server work runs breaks.earlier _ breaks.handled in
      subst (λ l. IsTried copy l after) (sym breaks.asks_are)
      (subst (λ v. IsTried copy (breaks.earlier ++ breaks.broken) v) (sym breaks.after_is)
      (tried_more breaks.earlier breaks.broken _ (before_on breaks.earlier breaks.request breaks.machine.phase breaks.machine.copy on)))

  -- ---- what is asked, and of whom

  pub may_ask_on : (asks : List Ask) (request : Message) (phase : Phase) (now : Volume) → IsOn asks (steps.Ask request) phase now → MayAsk client sketched request
  may_ask_on asks request Idle now on = absurd on
  may_ask_on asks request (Fetching c s) now on = subst (MayAsk client sketched) (sym on.3) (refl, refl)
  may_ask_on asks request (Holding c n before) now on = subst (MayAsk client sketched) (sym on.request_is) (refl, refl, (on.effects, refl, on.fills))

  -- each ask goes to the server at the address, and is one that the operation may ask
  abbrev pub AreOf : List ℕ → List Ask → Type 0
  AreOf server asks = (ask : Ask) → IsIn ask asks → (ask.to ≡ Server) × (ask.address ≡ server) × MayAsk client sketched ask.request

  are_join : (server : List ℕ) (xs ys : List Ask) → AreOf server xs → AreOf server ys → AreOf server (xs ++ ys)
  are_join server [] ys first second ask among = second ask among
  are_join server (x ∷ xs) ys first second ask (inl is) = first ask (inl is)
  are_join server (x ∷ xs) ys first second ask (inr among) = are_join server xs ys (λ a m. first a (inr m)) second ask among

  failures_of : (server : List ℕ) (request : Message) (count : ℕ) → MayAsk client sketched request → AreOf server (failures Server server request count)
  failures_of server request zero may ask among = absurd among
  failures_of server request (suc count) may ask (inl is) = subst (λ a. (a.to ≡ Server) × (a.address ≡ server) × MayAsk client sketched a.request) (sym is) (refl, refl, may)
  failures_of server request (suc count) may ask (inr among) = failures_of server request count may ask among

  settling_of : (server : List ℕ) (request : Message) (came : Option Message) (made : List Ask) → MayAsk client sketched request → IsSettling Server server request came made → AreOf server made
  settling_of server request None made may settles = subst (AreOf server) (sym settles) (failures_of server request 8 may)
  settling_of server request (Some reply) made may settles =
      subst (AreOf server) (sym settles.4)
      (are_join server (failures Server server request settles.0) (ask_of Server server request (Reply reply) ∷ []) (failures_of server request settles.0 may)
      (λ ask among. last ask among))
    where
      last : (ask : Ask) → IsIn ask (ask_of Server server request (Reply reply) ∷ []) → (ask.to ≡ Server) × (ask.address ≡ server) × MayAsk client sketched ask.request
      last ask (inl is) = subst (λ a. (a.to ≡ Server) × (a.address ≡ server) × MayAsk client sketched a.request) (sym is) (refl, refl, may)
      last ask (inr none) = absurd none

  round_of : (server work : List ℕ) (asks : List Ask) (step : NextStep) (phase : Phase) (now : Volume) (round : Round) → IsOn asks step phase now
      → IsRound server work (record { step = step; after = record { copy = now; phase = phase } }) round → AreOf server round.asks
  round_of server work asks (steps.Answer reply) phase now round on is = absurd is
  round_of server work asks (steps.Ask request) phase now round on is = settling_of server request round.came round.asks (may_ask_on asks request phase now on) is.0

  rounds_of : (server work : List ℕ) (asks : List Ask) (rounds : List Round) (first last : Reaction) → IsAt asks first → GoesOn server work first rounds last
      → AreOf server (flat_map (λ round. round.asks) rounds)
  rounds_of server work asks [] first last on goes = λ ask among. absurd among
  rounds_of server work asks (round ∷ rounds) first last on goes =
      are_join server round.asks (flat_map (λ r. r.asks) rounds)
      (round_of server work asks first.step first.after.phase first.after.copy round on goes.0)
      (rounds_of server work (asks ++ round.asks) rounds round.after last (round_on server work asks first.step first.after.phase first.after.copy round on goes.0) goes.1)

  pub asks_the_server : (server work : List ℕ) (runs : List Run) (asks : List Ask) (last : Reaction) → Handled server work copy client sketched runs asks last → AreOf server asks
  asks_the_server server work runs asks last handled =
      subst (AreOf server) (sym handled.asks_are)
      (rounds_of server work [] handled.rounds handled.first last
      (tries_on false [] copy work handled.first_runs handled.first (inl refl) (λ e. refl) handled.begins) handled.goes_on)

  one_of : (server : List ℕ) (request : Message) (answer : Answer) → MayAsk client sketched request → AreOf server (ask_of Server server request answer ∷ [])
  one_of server request answer may ask (inl is) = subst (λ a. (a.to ≡ Server) × (a.address ≡ server) × MayAsk client sketched a.request) (sym is) (refl, refl, may)
  one_of server request answer may ask (inr none) = absurd none

  broken_of : (server : List ℕ) (request : Message) (made : List Ask) → MayAsk client sketched request → BreaksSettling Server server request made → AreOf server made
  broken_of server request made may breaks =
      ⊎_elim (λ none. subst (AreOf server) (sym none) (failures_of server request breaks.0 may))
      (λ one. subst (AreOf server) (sym one.1)
      (are_join server (failures Server server request breaks.0) (ask_of Server server request one.0 ∷ []) (failures_of server request breaks.0 may) (one_of server request one.0 may)))
      breaks.2

  pub breaking_asks_the_server : (server work : List ℕ) (runs : List Run) (asks : List Ask) (after : Volume)
      → BreaksHandling server work copy client sketched runs asks after → AreOf server asks
  breaking_asks_the_server server work runs asks after breaks =
      let on = handled_on server work runs breaks.earlier _ breaks.handled in
      subst (AreOf server) (sym breaks.asks_are)
      (are_join server breaks.earlier breaks.broken (asks_the_server server work runs breaks.earlier _ breaks.handled)
      (broken_of server breaks.request breaks.broken (may_ask_on breaks.earlier breaks.request breaks.machine.phase breaks.machine.copy on) breaks.breaks))
