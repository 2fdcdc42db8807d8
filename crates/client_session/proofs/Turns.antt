-- Each ask of a session is of the turn of one of its lines.
use Rattle.std.proofs.Common.{◌≡◌, inl, inr, ⊎_elim, ◌+◌, List, [], ◌∷◌, ◌++◌, Option, Result, refl, sym, ◌∙◌, ap, subst, arith, append_assoc}
use Rattle.tree_values.specs.Lists.{IsIn}
use Rattle.world_rules.specs.declared.asking.Ask.{Ask}
use Rattle.world_rules.proofs.Asks.{in_either}
use Rattle.client_core.specs.declared.route.Route.{Route}
use Rattle.client_core.specs.Trace.{Trace, nothing, followed}
use Rattle.client_core.proofs.Going.{followed-assoc}
use Rattle.shell_lang.specs.declared.line.Line.{Line}
use Rattle.shell_lang.specs.declared.line.LineError.{LineError}
use Rattle.shell_lang.specs.declared.answer.LineAnswer.{LineAnswer}
use Rattle.client_session.specs.Session.{SessionState, LineTurn, Chain}
use Rattle.client_session.proofs.Licensed.{turn_is_licensed, broken_is_licensed}
use Rattle.client_session.specs.Laws.{IsOfTurn, AsksAreOfTurns, BrokenSessionsAskInTurns}

nothing-followed : (trace : Trace) → trace ≡ followed nothing trace
nothing-followed trace =
    let missed : trace.missed ≡ 0 + trace.missed = omega arith in
    λ i. record {
      asks = trace.asks;
      runs = trace.runs;
      missed = missed i;
      entries = trace.entries;
      changes = trace.changes;
      pulls = trace.pulls;
    }

-- ---- of the lines before it

-- one line more was handled first
handled_more : (route : Route) (before middle after : SessionState) (line : Result Line LineError) (answer : Option LineAnswer) (first : Trace) → LineTurn route before line answer middle first
    → (handled : List (Result Line LineError)) (told : List (Option LineAnswer)) (front : Trace) → Chain route middle handled told after front → Chain route before (line ∷ handled) (answer ∷ told) after (followed first front)
handled_more route before middle after line answer first turn handled told front chain = (middle, first, front, answer, told, turn, chain, refl, refl)

-- a turn of what comes behind more is one behind it, too
turn_behind : (route : Route) (before middle : SessionState) (line : Result Line LineError) (answer : Option LineAnswer) (lines : List (Result Line LineError)) (first rest trace : Trace) (ask : Ask)
    → LineTurn route before line answer middle first → trace ≡ followed first rest → IsOfTurn route middle lines rest ask → IsOfTurn route before (line ∷ lines) trace ask
turn_behind route before middle line answer lines first rest trace ask turn is of =
    let reached : Chain route before (line ∷ of.done) (answer ∷ of.told) of.before (followed first of.front) = handled_more route before middle of.before line answer first turn of.done of.told of.front of.reached in
    record {
      done = line ∷ of.done;
      line = of.line;
      later = of.later;
      among = ap (λ (more : List (Result Line LineError)). line ∷ more) of.among;
      told = answer ∷ of.told;
      before = of.before;
      front = followed first of.front;
      reached = reached;
      after = of.after;
      answer = of.answer;
      turn = of.turn;
      back = of.back;
      turns = of.turns;
      asked = of.asked;
      parts = is ∙ ap (followed first) of.parts ∙ sym (followed-assoc first of.front (followed of.turn of.back));
      licensed = turn_is_licensed route before of.before (line ∷ of.done) (answer ∷ of.told) (followed first of.front) of.turn reached of.after of.line of.answer of.turns;
    }

-- and one of what comes before more
turn_before : (route : Route) (start : SessionState) (lines more all : List (Result Line LineError)) (first rest trace : Trace) (ask : Ask) → all ≡ lines ++ more → trace ≡ followed first rest
    → IsOfTurn route start lines first ask → IsOfTurn route start all trace ask
turn_before route start lines more all first rest trace ask whole is of = record {
  done = of.done;
  line = of.line;
  later = of.later ++ more;
  among = whole ∙ ap (λ (ls : List (Result Line LineError)). ls ++ more) of.among ∙ append_assoc of.done (of.line ∷ of.later) more;
  told = of.told;
  before = of.before;
  front = of.front;
  reached = of.reached;
  after = of.after;
  answer = of.answer;
  turn = of.turn;
  back = followed of.back rest;
  turns = of.turns;
  asked = of.asked;
  parts = is ∙ ap (λ (t : Trace). followed t rest) of.parts ∙ followed-assoc of.front (followed of.turn of.back) rest
      ∙ ap (followed of.front) (followed-assoc of.turn of.back rest);
  licensed = of.licensed;
}

pub turns_asked : AsksAreOfTurns
turns_asked route before [] answers after trace ask chain among = absurd (subst (λ (t : Trace). IsIn ask t.asks) chain.2 among)
turns_asked route before (line ∷ lines) answers after trace ask chain among =
    ⊎_elim
    (λ (here : IsIn ask chain.1.asks). record {
      done = [];
      line = line;
      later = lines;
      among = refl;
      told = [];
      before = before;
      front = nothing;
      reached = (refl, refl, refl);
      after = chain.0;
      answer = chain.3;
      turn = chain.1;
      back = chain.2;
      turns = chain.5;
      asked = here;
      parts = chain.8 ∙ nothing-followed (followed chain.1 chain.2);
      licensed = turn_is_licensed route before before [] [] nothing chain.1 (refl, refl, refl) chain.0 line chain.3 chain.5;
    })
    (λ (later : IsIn ask chain.2.asks). turn_behind route before chain.0 line chain.3 lines chain.1 chain.2 trace ask chain.5 chain.8 (turns_asked route chain.0 lines chain.4 after chain.2 ask chain.6 later))
    (in_either ask chain.1.asks chain.2.asks (subst (λ (t : Trace). IsIn ask t.asks) chain.8 among))

pub broken_turns_asked : BrokenSessionsAskInTurns
broken_turns_asked route before lines answers after kept trace ask chain among =
    ⊎_elim
    (λ (here : IsIn ask chain.3.asks).
    inl (turn_before route before chain.0 (chain.1 ∷ []) lines chain.3 chain.4 trace ask chain.5 chain.9 (turns_asked route before chain.0 answers chain.2 chain.3 ask chain.6 here)))
    (λ (last : IsIn ask chain.4.asks). inr (record {
      done = chain.0;
      line = chain.1;
      among = chain.5;
      told = answers;
      before = chain.2;
      front = chain.3;
      reached = chain.6;
      after = after;
      turn = chain.4;
      breaks = chain.7;
      asked = last;
      parts = chain.9;
      licensed = broken_is_licensed route before chain.2 chain.0 answers chain.3 chain.4 chain.6 after chain.1 chain.7;
    }))
    (in_either ask chain.3.asks chain.4.asks (subst (λ (t : Trace). IsIn ask t.asks) chain.9 among))
