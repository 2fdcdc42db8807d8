-- A whole handling over a runner and a link, round by round.
use Rattle.std.proofs.Common.{◌≡◌, ℕ, ◌-◌, false, List, [], ◌∷◌, ◌++◌, Option, Some, None, Ok, Err, refl, sym, ap, ◌∙◌, subst, arith, append_assoc}
use Rattle.std.specs.Prelude.{option_map}
use Rattle.std.specs.List.{flat_map}
use Rattle.std.proofs.lemmas.List.{append-nil}
use Rattle.std.specs.declared.alloc.AllocError.{AllocError}
use Rattle.tree_values.specs.Tree.{Volume}
use Rattle.cmd_capture.specs.declared.runner.Run.{Run}
use Rattle.cmd_capture.specs.Runs.{RunnerTelling, HasRun}
use Rattle.mod_log.specs.declared.sketching.SketchEntry.{SketchEntry}
use Rattle.replay_judge.proofs.Agreed.{all_fill}
use Rattle.wire_frames.specs.Parts.{part_of}
use Rattle.wire_frames.specs.declared.message.Message.{Message}
use Rattle.wire_frames.specs.declared.message.Message.TheVariants as messages
use Rattle.wire_frames.specs.declared.message.Message.TheVariants.{Store, Operate, Pull}
use Rattle.world_rules.specs.declared.asking.Ask.{Ask}
use Rattle.world_rules.specs.World.{World, MovedBy, Is}
use Rattle.world_rules.specs.Asking.{AnswersStand}
use Rattle.world_rules.specs.Settling.{failed_asks}
use Rattle.world_rules.specs.Telling.{LinkTelling, ToldWorlds, HadTroubles}
use Rattle.world_rules.proofs.Asks.{moved_by_then, moved_by_none, moved_packets, told_then, told_start, answers_append, answers_stay}
use Rattle.world_rules.proofs.Settled.{failed-append}
use Rattle.surrogate_core.specs.declared.step.NextStep.{NextStep as Turn}
use Rattle.surrogate_core.specs.declared.step.NextStep.TheVariants as steps
use Rattle.surrogate_core.specs.Handling.{Phase, Idle, Fetching, Holding, Machine, Reaction, idle, answering, copy_before, Round, IsRound, GoesOn, Handled, Tries, Operates}
use Rattle.surrogate_core.specs.Serving.{MayAsk, Serves, Steps, failed_step}
use Rattle.surrogate_core.specs.Inside.{Awaits, Asked, Follows, Breaks, Serving, ServingOf}
use Rattle.surrogate_core.proofs.Copies.{IsOn, handled_on, may_ask_on}
use Rattle.surrogate_core.proofs.Trying.{is_idle}
use Rattle.world_rules.proofs.Allowing.{moved_as}

-- ---- runs after runs

runs_then : (first more : List Run) (many : ℕ) (a b c : RunnerTelling) → HasRun first 0 a b → HasRun more many b c → HasRun (first ++ more) many a c
runs_then first more many a b c one two = record {
  told = two.told ∙ ap (option_map (λ (list : List Run). list ++ more)) one.told ∙ by a.runs;
  counted = let before = one.counted in let after = two.counted in omega (arith, before, after);
}
  where
    by : (runs : Option (List Run)) → option_map (λ (list : List Run). list ++ more) (option_map (λ (list : List Run). list ++ first) runs) ≡ option_map (λ (list : List Run). list ++ (first ++ more)) runs
    by None = refl
    by (Some list) = ap Some (append_assoc list first more)

-- ---- moves after moves

abbrev Went : (Message → Type 0) → List Ask → World → World → Type 0
Went P asks old new = MovedBy P asks old new × AnswersStand new asks

went_then : (P : Message → Type 0) (request : Message) (asks more : List Ask) (a b c : LinkTelling) → P request → ToldWorlds a b (Went P asks) → ToldWorlds b c (Went (Is request) more)
    → ToldWorlds a c (Went P (asks ++ more))
went_then P request asks more a b c may first second =
    told_then a.world b.world c.world (Went P asks) (Went (Is request) more) (Went P (asks ++ more)) first second
    (λ x y z one two.
    let two_moves = moved_as (Is request) P (λ m is. subst P (sym is) may) more y z two.0 in (
      moved_by_then P asks more x y z one.0 two_moves,
      answers_append asks more z (answers_stay asks y z (λ m among. moved_packets P more y z m two_moves among) one.1) two.1,
    ))

-- ---- a handling

goes_on_then : (server work : List ℕ) (first middle : Reaction) (rounds : List Round) (round : Round) → GoesOn server work first rounds middle → IsRound server work middle round
    → GoesOn server work first (rounds ++ round ∷ []) round.after
goes_on_then server work first middle [] round goes is = (subst (λ (r : Reaction). IsRound server work r round) goes is, refl)
goes_on_then server work first middle (one ∷ rounds) round goes is = (goes.0, goes_on_then server work one.after middle rounds round goes.1 is)

flat_then : {X : Type 0} (f : Round → List X) (rounds : List Round) (round : Round) → flat_map f (rounds ++ round ∷ []) ≡ flat_map f rounds ++ f round
flat_then f [] round = append-nil (f round)
flat_then f (one ∷ rounds) round = ap (λ xs. f one ++ xs) (flat_then f rounds round) ∙ sym (append_assoc (f one) (flat_map f rounds) (f round))

module _ (server work : List ℕ) (copy : Volume) (client : ℕ) (sketched : SketchEntry) where
  abbrev Handles : List Run → List Ask → Reaction → Type 0
  Handles runs asks last = Handled server work copy client sketched runs asks last

  handled_then : (runs : List Run) (asks : List Ask) (middle : Reaction) (round : Round) → Handles runs asks middle → IsRound server work middle round
      → Handles (runs ++ round.runs) (asks ++ round.asks) round.after
  handled_then runs asks middle round handled is = record {
    first_runs = handled.first_runs;
    first = handled.first;
    begins = handled.begins;
    rounds = handled.rounds ++ round ∷ [];
    goes_on = goes_on_then server work handled.first middle handled.rounds round handled.goes_on is;
    runs_are = ap (λ (l : List Run). l ++ round.runs) handled.runs_are ∙ append_assoc handled.first_runs (flat_map (λ r. r.runs) handled.rounds) round.runs
        ∙ ap (λ (l : List Run). handled.first_runs ++ l) (sym (flat_then (λ r. r.runs) handled.rounds round));
    asks_are = ap (λ (l : List Ask). l ++ round.asks) handled.asks_are ∙ sym (flat_then (λ r. r.asks) handled.rounds round);
  }

  abbrev Serves_on : Reaction → RunnerTelling → RunnerTelling → LinkTelling → LinkTelling → Type 0
  Serves_on last runner ran link now = Serving server work copy client sketched last runner ran link now

  -- the first step
  begun : (reaction : Reaction) (runner ran : RunnerTelling) (link : LinkTelling) → Steps (Tries false copy client sketched work) reaction runner ran → Serves_on reaction runner ran link link
  begun reaction runner ran link stepped = record {
    runs = stepped.runs;
    asks = [];
    handled = record {
      first_runs = stepped.runs;
      first = reaction;
      begins = stepped.does;
      rounds = [];
      goes_on = refl;
      runs_are = sym (append-nil stepped.runs);
      asks_are = refl;
    };
    has_run = stepped.told;
    troubles = omega arith;
    went = told_start link.world (Went (MayAsk client sketched) []) (λ (w : World). (moved_by_none (MayAsk client sketched) w, tt));
  }

  on : (last : Reaction) (runner ran : RunnerTelling) (link now : LinkTelling) (serving : Serves_on last runner ran link now)
      → IsOn all_fill client sketched copy serving.asks last.step last.after.phase last.after.copy
  on last runner ran link now serving = handled_on all_fill client sketched copy server work serving.runs serving.asks last serving.handled

  awaits_on : (asks : List Ask) (request : Message) (phase : Phase) (now : Volume) → IsOn all_fill client sketched copy asks (steps.Ask request) phase now → Awaits phase request
  awaits_on asks request Idle now is = absurd is
  awaits_on asks request (Fetching c s) now is = is.3 ∙ ap (λ (x : ℕ). Pull_of x sketched) (sym is.0) ∙ ap (Pull_of c) (sym is.1)
    where
      Pull_of : ℕ → SketchEntry → Message
      Pull_of x e = Pull x (e.seq - 1)
  awaits_on asks request (Holding c n before) now is =
      (is.effects, sketched.base, is.request_is ∙ ap (λ (x : ℕ). Store x sketched.seq (part_of is.effects sketched.base ∷ [])) (sym is.same_client) ∙ ap (λ (k : ℕ). Store c k (part_of is.effects sketched.base ∷ [])) (sym is.same_number))

  waits_on : (asks : List Ask) (reply : Message) (phase : Phase) (now : Volume) → IsOn all_fill client sketched copy asks (steps.Answer reply) phase now → phase ≡ Idle
  waits_on asks reply Idle now is = refl
  waits_on asks reply (Fetching c s) now is = absurd is
  waits_on asks reply (Holding c n before) now is = absurd is

  module _ (machine : Machine) (runner ran : RunnerTelling) (link now : LinkTelling) where
    awaits : (request : Message) → Serves_on (record { step = steps.Ask request; after = machine }) runner ran link now → Awaits machine.phase request
    awaits request serving = awaits_on serving.asks request machine.phase machine.copy (on (record { step = steps.Ask request; after = machine }) runner ran link now serving)

    waits : (reply : Message) → Serves_on (record { step = steps.Answer reply; after = machine }) runner ran link now → machine.phase ≡ Idle
    waits reply serving = waits_on serving.asks reply machine.phase machine.copy (on (record { step = steps.Answer reply; after = machine }) runner ran link now serving)

    served_to : (reply : Message) → Serves_on (record { step = steps.Answer reply; after = machine }) runner ran link now
        → Serves server work copy (Operate client sketched) (Ok reply) machine.copy runner ran link now
    served_to reply serving = record {
      runs = serving.runs;
      asks = serving.asks;
      serves = subst (λ (m : Machine). Handles serving.runs serving.asks (record { step = steps.Answer reply; after = m })) (is_idle machine (waits reply serving)) serving.handled;
      has_run = serving.has_run;
      had_troubles = serving.troubles;
      went = serving.went;
    }

    module _ (request : Message) (serving : Serves_on (record { step = steps.Ask request; after = machine }) runner ran link now) (later : LinkTelling) where
      may_ask : MayAsk client sketched request
      may_ask = may_ask_on all_fill client sketched copy serving.asks request machine.phase machine.copy (on (record { step = steps.Ask request; after = machine }) runner ran link now serving)

      asked_more : (more : List Ask) → Asked request more now later
          → HadTroubles (failed_asks (serving.asks ++ more)) link later × ToldWorlds link later (Went (MayAsk client sketched) (serving.asks ++ more))
      asked_more more asked = (
        (let sum = failed-append serving.asks more in let first = serving.troubles in let second = asked.troubles in omega (arith, sum, first, second)),
        went_then (MayAsk client sketched) request serving.asks more link now later may_ask serving.went asked.went,
      )

      serves_more : (reaction : Reaction) (next : RunnerTelling) → Follows server work request (record { step = steps.Ask request; after = machine }) reaction ran next now later
          → Serves_on reaction runner next link later
      serves_more reaction next follows =
          let asked = asked_more follows.round.asks follows.has_asked in
          record {
            runs = serving.runs ++ follows.round.runs;
            asks = serving.asks ++ follows.round.asks;
            handled = subst (Handles (serving.runs ++ follows.round.runs) (serving.asks ++ follows.round.asks)) follows.after_is
                (handled_then serving.runs serving.asks (record { step = steps.Ask request; after = machine }) follows.round serving.handled follows.is_round);
            has_run = runs_then serving.runs follows.round.runs (failed_step reaction.step) runner ran next serving.has_run follows.has_run;
            troubles = asked.0;
            went = asked.1;
          }

      serves_broken : (error : AllocError) (after : Machine) (next : RunnerTelling) → Breaks server request now later → after ≡ idle (copy_before machine) → next ≡ ran
          → Serves server work copy (Operate client sketched) (Err error) after.copy runner next link later
      serves_broken error after next breaks is_back unrun =
          let asked = asked_more breaks.asks breaks.has_asked in
          record {
            runs = serving.runs;
            asks = serving.asks ++ breaks.asks;
            serves = record {
              earlier = serving.asks;
              machine = machine;
              request = request;
              handled = serving.handled;
              broken = breaks.asks;
              breaks = breaks.breaks;
              asks_are = refl;
              after_is = ap (λ (m : Machine). m.copy) is_back;
            };
            has_run = subst (HasRun serving.runs 0 runner) (sym unrun) serving.has_run;
            had_troubles = asked.0;
            went = asked.1;
          }

-- ---- any message

abbrev IsAsk : Turn → Type 0
IsAsk (steps.Ask request) = Unit {0}
IsAsk (steps.Answer reply) = ⊥

abbrev reply_of : Turn → Message → Message
reply_of (steps.Answer reply) other = reply
reply_of (steps.Ask request) other = other

module _ (server work : List ℕ) (copy : Volume) where
  abbrev At : Message → Reaction → RunnerTelling → RunnerTelling → LinkTelling → LinkTelling → Type 0
  At request last runner ran link now = ServingOf server work copy request last runner ran link now

  none_done : (runs : List Run) (reaction : Reaction) (runner ran : RunnerTelling) (link : LinkTelling) → reaction ≡ answering copy (messages.Malformed 7 0) → runs ≡ []
      → HasRun runs (failed_step reaction.step) runner ran → (reaction ≡ answering copy (messages.Malformed 7 0)) × HasRun [] 0 runner ran × (link ≡ link)
  none_done runs reaction runner ran link is none told = (
    is,
    subst (λ (l : List Run). HasRun l 0 runner ran) none (subst (λ (r : Reaction). HasRun runs (failed_step r.step) runner ran) is told),
    refl,
  )

  -- the first step
  pub first_step : (request : Message) (reaction : Reaction) (runner ran : RunnerTelling) (link : LinkTelling) → Steps (Operates copy work request) reaction runner ran
      → At request reaction runner ran link link
  first_step (Operate client sketched) reaction runner ran link stepped = begun server work copy client sketched reaction runner ran link stepped
  first_step request reaction runner ran link stepped = none_done stepped.runs reaction runner ran link stepped.does.0 stepped.does.1 stepped.told

  module _ (machine : Machine) (runner ran : RunnerTelling) (link now : LinkTelling) where
    abbrev taking : Turn → Reaction
    taking step = record { step = step; after = machine }

    none_asked : (asked : Message) → taking (steps.Ask asked) ≡ answering copy (messages.Malformed 7 0) → ⊥
    none_asked asked is = subst (λ (r : Reaction). IsAsk r.step) is tt

    -- the same step under another name
    pub same_step : (request : Message) (step is : Turn) → step ≡ is → At request (taking step) runner ran link now → At request (taking is) runner ran link now
    same_step request step is same serving = subst (λ (s : Turn). At request (taking s) runner ran link now) same serving

    pub awaited : (request asked : Message) → At request (taking (steps.Ask asked)) runner ran link now → Awaits machine.phase asked
    awaited (Operate client sketched) asked serving = awaits server work copy client sketched machine runner ran link now asked serving
    awaited request asked serving = absurd (none_asked asked serving.0)

    pub waits_again : (request reply : Message) → At request (taking (steps.Answer reply)) runner ran link now → machine.phase ≡ Idle
    waits_again (Operate client sketched) reply serving = waits server work copy client sketched machine runner ran link now reply serving
    waits_again request reply serving = ap (λ (r : Reaction). r.after.phase) serving.0

    pub answered : (request reply : Message) → At request (taking (steps.Answer reply)) runner ran link now
        → Serves server work copy request (Ok reply) machine.copy runner ran link now
    answered (Operate client sketched) reply serving = served_to server work copy client sketched machine runner ran link now reply serving
    answered request reply serving = record {
      runs = [];
      asks = [];
      serves = (ap (λ (r : Reaction). Ok (reply_of r.step reply)) serving.0, refl, refl, ap (λ (r : Reaction). r.after.copy) serving.0);
      has_run = subst (λ (k : ℕ). HasRun [] k runner ran) (sym (ap (λ (r : Reaction). failed_step r.step) serving.0)) serving.1;
      had_troubles = subst (HadTroubles 0 link) (sym serving.2) (omega arith);
      went = subst (λ (l : LinkTelling). ToldWorlds link l (λ (v w : World). w ≡ v)) (sym serving.2) (told_start link.world (λ (v w : World). w ≡ v) (λ (w : World). refl));
    }

    module _ (request asked : Message) (serving : At request (taking (steps.Ask asked)) runner ran link now) (later : LinkTelling) where
      pub goes_on : (reaction : Reaction) (next : RunnerTelling) → Follows server work asked (taking (steps.Ask asked)) reaction ran next now later
          → At request reaction runner next link later
      goes_on reaction next follows = by request serving
        where
          by : (request : Message) → At request (taking (steps.Ask asked)) runner ran link now → At request reaction runner next link later
          by (Operate client sketched) serving = serves_more server work copy client sketched machine runner ran link now asked serving later reaction next follows
          by request serving = absurd (none_asked asked serving.0)

      pub broken_off : (error : AllocError) (after : Machine) (next : RunnerTelling) → Breaks server asked now later → after ≡ idle (copy_before machine) → next ≡ ran
          → Serves server work copy request (Err error) after.copy runner next link later
      broken_off error after next breaks is_back unrun = by request serving
        where
          by : (request : Message) → At request (taking (steps.Ask asked)) runner ran link now → Serves server work copy request (Err error) after.copy runner next link later
          by (Operate client sketched) serving = serves_broken server work copy client sketched machine runner ran link now asked serving later error after next breaks is_back unrun
          by request serving = absurd (none_asked asked serving.0)
