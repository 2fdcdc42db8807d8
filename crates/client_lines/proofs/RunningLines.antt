-- Lines that are answered one after the other, and where a run stops in them.
use Rattle.std.proofs.Common.{◌≡◌, inl, inr, ℕ, ◌+◌, List, [], ◌∷◌, ◌++◌, length, take, Option, Result, Ok, Err, refl, sym, ◌∙◌, ap, subst, arith, append_assoc}
use Rattle.std.proofs.lemmas.List.{append-nil, map-append, take_all}
use Rattle.std.proofs.Math.Seq.{take-append-add}
use Rattle.outside.specs.declared.errors.SinkError.{SinkError}
use Rattle.outside.specs.declared.errors.SinkError.TheVariants as sinks
use Rattle.client_session.specs.declared.stop.LineStop.{LineStop}
use Rattle.client_session.specs.declared.stop.LineStop.TheVariants as line_stops
use Rattle.outside.specs.Outside.{Adds}
use Rattle.mod_log.specs.Log.{Log}
use Rattle.outside.proofs.Writing.{adds_nothing, adds_then}
use Rattle.client_core.specs.declared.route.Route.{Route}
use Rattle.client_core.specs.Trace.{Trace, nothing, followed, IsLastOrBefore}
use Rattle.client_core.proofs.Going.{followed-nothing, followed-assoc}
use Rattle.shell_lang.specs.Commands.{read_line}
use Rattle.shell_lang.specs.declared.line.Line.{Line}
use Rattle.shell_lang.specs.declared.line.LineError.{LineError}
use Rattle.shell_lang.specs.declared.answer.LineAnswer.{LineAnswer}
use Rattle.client_lines.specs.declared.run.Stop.{Stop}
use Rattle.client_lines.specs.declared.run.Stop.TheVariants.{Sink, Keeper, Memory}
use Rattle.client_session.specs.Session.{SessionState, LineTurn, Chain, Broken, BreaksChain, IsText, AreTexts}
use Rattle.client_session.specs.Doing.{LineEnds}
use Rattle.client_lines.specs.Run.{asked_for, stop_of, stop_by, HandlesAll, Handles, WritesFront, StopsIn}
use Rattle.client_lines.specs.InsideRun.{AllAnswered, FrontAnswered}

writes_then : (stop : Stop) (o m n : Option (List ℕ)) (s t : List ℕ) → Adds o m s → WritesFront stop t m n → WritesFront stop (s ++ t) o n
writes_then Keeper o m n s t adds second = adds_then o m n s t adds second
writes_then Sink o m n s t adds second = (length s + second.0, subst (Adds o n) (sym (take-append-add s t second.0)) (adds_then o m n s (take second.0 t) adds second.1))
writes_then Memory o m n s t adds second = (length s + second.0, subst (Adds o n) (sym (take-append-add s t second.0)) (adds_then o m n s (take second.0 t) adds second.1))

writes_all : (stop : Stop) (o n : Option (List ℕ)) (s : List ℕ) → Adds o n s → WritesFront stop s o n
writes_all Keeper o n s adds = adds
writes_all Sink o n s adds = (length s, subst (Adds o n) (sym (take_all (length s) s (omega arith))) adds)
writes_all Memory o n s adds = (length s, subst (Adds o n) (sym (take_all (length s) s (omega arith))) adds)

-- what a sink that refused has of a text
pub cut_front : (e : SinkError) (text : List ℕ) (o n : Option (List ℕ)) → (count : ℕ) × Adds o n (take count text) → WritesFront (stop_of e) text o n
cut_front sinks.Failed text o n cut = cut
cut_front sinks.Memory text o n cut = cut

texts_then : (xs ys : List (Option LineAnswer)) (s t : List ℕ) → AreTexts xs s → AreTexts ys t → AreTexts (xs ++ ys) (s ++ t)
texts_then [] ys s t first second = subst (AreTexts ys) (sym (ap (λ (u : List ℕ). u ++ t) first)) second
texts_then (x ∷ xs) ys s t first second =
    (first.0, first.1 ++ t, first.2, texts_then xs ys first.1 t first.3 second, ap (λ (u : List ℕ). u ++ t) first.4 ∙ append_assoc first.0 first.1 t)

-- a trace behind nothing
nothing-followed : (trace : Trace) → followed nothing trace ≡ trace
nothing-followed trace =
    let missed : 0 + trace.missed ≡ trace.missed = omega arith in
    λ i. record { asks = trace.asks; runs = trace.runs; missed = missed i; entries = trace.entries; changes = trace.changes; pulls = trace.pulls }

module _ (route : Route) where
  pub chain_then : (a b c : SessionState) (ls ms : List (Result Line LineError)) (s t : List (Option LineAnswer)) (p q : Trace) → Chain route a ls s b p → Chain route b ms t c q → Chain route a (ls ++ ms) (s ++ t) c (followed p q)
  chain_then a b c [] ms s t p q first second =
      subst (λ (x : List (Option LineAnswer)). Chain route a ms x c (followed p q)) (sym (ap (λ (x : List (Option LineAnswer)). x ++ t) first.0))
      (subst (λ (r : Trace). Chain route a ms t c r) (sym (ap (λ (r : Trace). followed r q) first.2 ∙ nothing-followed q))
      (subst (λ (x : SessionState). Chain route x ms t c q) first.1 second))
  chain_then a b c (l ∷ ls) ms s t p q first second = (
    first.0,
    first.1,
    followed first.2 q,
    first.3,
    first.4 ++ t,
    first.5,
    chain_then first.0 b c ls ms first.4 t first.2 q first.6 second,
    ap (λ (x : List (Option LineAnswer)). x ++ t) first.7,
    ap (λ (r : Trace). followed r q) first.8 ∙ followed-assoc first.1 first.2 q,
  )

  pub asked_then : (a b c : SessionState) (ls ms : List (List ℕ)) (s t : List (Option LineAnswer)) (p q : Trace) → Chain route a (asked_for ls) s b p → Chain route b (asked_for ms) t c q
      → Chain route a (asked_for (ls ++ ms)) (s ++ t) c (followed p q)
  asked_then a b c ls ms s t p q first second =
      subst (λ (xs : List (Result Line LineError)). Chain route a xs (s ++ t) c (followed p q)) (sym (map-append read_line ls ms)) (chain_then a b c (asked_for ls) (asked_for ms) s t p q first second)

  breaks_then : (a b c : SessionState) (k : Log) (ls ms : List (List ℕ)) (s t : List (Option LineAnswer)) (p q : Trace) → Chain route a (asked_for ls) s b p → BreaksChain route b (asked_for ms) t c k q
      → BreaksChain route a (asked_for (ls ++ ms)) (s ++ t) c k (followed p q)
  breaks_then a b c k ls ms s t p q first second = (
    asked_for ls ++ second.0,
    second.1,
    second.2,
    followed p second.3,
    second.4,
    map-append read_line ls ms ∙ ap (λ (xs : List (Result Line LineError)). asked_for ls ++ xs) second.5 ∙ sym (append_assoc (asked_for ls) second.0 (second.1 ∷ [])),
    chain_then a b second.2 (asked_for ls) second.0 s t p second.3 first second.6,
    second.7,
    second.8,
    ap (followed p) second.9 ∙ sym (followed-assoc p second.3 second.4),
  )

  all_then : (a b c : SessionState) (k : Log) (ls ms : List (List ℕ)) (s t : List (Option LineAnswer)) (p q : Trace) → Chain route a (asked_for ls) s b p → HandlesAll route b ms t c k q → HandlesAll route a (ls ++ ms) (s ++ t) c k (followed p q)
  all_then a b c k ls ms s t p q first second = (asked_then a b c ls ms s t p q first second.0, second.1)

  handles_then : (stop : Stop) (a b c : SessionState) (k : Log) (ls ms : List (List ℕ)) (s t : List (Option LineAnswer)) (p q : Trace) → Chain route a (asked_for ls) s b p → Handles stop route b ms t c k q
      → Handles stop route a (ls ++ ms) (s ++ t) c k (followed p q)
  handles_then Sink a b c k ls ms s t p q first second = all_then a b c k ls ms s t p q first second
  handles_then Keeper a b c k ls ms s t p q first (inl second) = inl (all_then a b c k ls ms s t p q first second)
  handles_then Keeper a b c k ls ms s t p q first (inr second) = inr (breaks_then a b c k ls ms s t p q first second)
  handles_then Memory a b c k ls ms s t p q first (inl second) = inl (all_then a b c k ls ms s t p q first second)
  handles_then Memory a b c k ls ms s t p q first (inr second) = inr (breaks_then a b c k ls ms s t p q first second)

  handled_whole : (stop : Stop) (a b : SessionState) (k : Log) (ls : List (List ℕ)) (s : List (Option LineAnswer)) (p : Trace) → Chain route a (asked_for ls) s b p → k ≡ b.client.log → Handles stop route a ls s b k p
  handled_whole Sink a b k ls s p chain is = (chain, is)
  handled_whole Keeper a b k ls s p chain is = inl (chain, is)
  handled_whole Memory a b k ls s p chain is = inl (chain, is)

  -- lines that were answered, and then a stop in the next ones
  stops_then : (stop : Stop) (a b c : SessionState) (k : Log) (ls ms : List (List ℕ)) (o m n : Option (List ℕ)) (x y : List (Option LineAnswer)) (s : List ℕ) (p q : Trace) → Chain route a (asked_for ls) x b p
      → AreTexts x s → Adds o m s → StopsIn stop route b ms y m n c k q → StopsIn stop route a (ls ++ ms) (x ++ y) o n c k (followed p q)
  stops_then stop a b c k ls ms o m n x y s p q first shown adds second = (
    ls ++ second.0,
    second.1,
    s ++ second.2,
    ap (λ (xs : List (List ℕ)). ls ++ xs) second.3 ∙ sym (append_assoc ls second.0 second.1),
    handles_then stop a b c k ls second.0 x y p q first second.4,
    texts_then x y s second.2 shown second.5,
    writes_then stop o m n s second.2 adds second.6,
  )

  pub stops_sooner : (stop : Stop) (a b : SessionState) (k : Log) (ls more : List (List ℕ)) (o n : Option (List ℕ)) (p : Trace) → FrontAnswered stop route a ls o n b k p → FrontAnswered stop route a (ls ++ more) o n b k p
  stops_sooner stop a b k ls more o n p stops =
      let front = stops.1 in (
        stops.0,
        (front.0, front.1 ++ more, front.2, ap (λ (xs : List (List ℕ)). xs ++ more) front.3 ∙ append_assoc front.0 front.1 more, front.4, front.5, front.6),
      )

  -- a stop behind lines that were all answered
  pub stops_behind : (stop : Stop) (a b : SessionState) (ls : List (List ℕ)) (o n : Option (List ℕ)) (p : Trace) → AllAnswered route a ls o n b p → FrontAnswered stop route a ls o n b b.client.log p
  stops_behind stop a b ls o n p all =
      (all.0, (ls, [], all.1, sym (append-nil ls), handled_whole stop a b b.client.log ls all.0 p all.2 refl, all.3, writes_all stop o n all.1 all.4))

  pub answers_nothing : (a : SessionState) (o : Option (List ℕ)) → AllAnswered route a [] o o a nothing
  answers_nothing a o = ([], [], (refl, refl, refl), refl, adds_nothing o)

  pub answers_then : (a b c : SessionState) (ls ms : List (List ℕ)) (o m n : Option (List ℕ)) (p q : Trace) → AllAnswered route a ls o m b p
      → AllAnswered route b ms m n c q → AllAnswered route a (ls ++ ms) o n c (followed p q)
  answers_then a b c ls ms o m n p q first second = (
    first.0 ++ second.0,
    first.1 ++ second.1,
    asked_then a b c ls ms first.0 second.0 p q first.2 second.2,
    texts_then first.0 second.0 first.1 second.1 first.3 second.3,
    adds_then o m n first.1 second.1 first.4 second.4,
  )

  pub then_stops : (stop : Stop) (a b c : SessionState) (k : Log) (ls ms : List (List ℕ)) (o m n : Option (List ℕ)) (p q : Trace) → AllAnswered route a ls o m b p
      → FrontAnswered stop route b ms m n c k q → FrontAnswered stop route a (ls ++ ms) o n c k (followed p q)
  then_stops stop a b c k ls ms o m n p q first second = (first.0 ++ second.0, stops_then stop a b c k ls ms o m n first.0 second.0 first.1 p q first.2 first.3 first.4 second.1)

  -- ---- one line

  one_turn : (a b : SessionState) (line : List ℕ) (answer : Option LineAnswer) (p : Trace) → LineTurn route a (read_line line) answer b p → Chain route a (asked_for (line ∷ [])) (answer ∷ []) b p
  one_turn a b line answer p turn = (b, p, nothing, answer, [], turn, (refl, refl, refl), refl, followed-nothing p)

  one_text : (answer : Option LineAnswer) (text : List ℕ) → IsText answer text → AreTexts (answer ∷ []) text
  one_text answer text shown = (text, [], shown, refl, sym (append-nil text))

  -- it could not be read
  pub line_unread : (a : SessionState) (line : List ℕ) (o : Option (List ℕ)) → FrontAnswered Memory route a (line ∷ []) o o a a.client.log nothing
  line_unread a line o = ([], ([], line ∷ [], [], refl, inl ((refl, refl, refl), refl), refl, (0, adds_nothing o)))

  one_broken : (a b : SessionState) (k : Log) (line : List ℕ) (p : Trace) → Broken route a (read_line line) b p → IsLastOrBefore a.client.log p.changes k → BreaksChain route a (asked_for (line ∷ [])) [] b k p
  one_broken a b k line p broken behind = ([], read_line line, a, nothing, p, refl, (refl, refl, refl), broken, behind, sym (nothing-followed p))

  -- it was broken off
  pub line_broken : (a b : SessionState) (k : Log) (line : List ℕ) (o : Option (List ℕ)) (e : LineStop) (p : Trace) → LineEnds route a (read_line line) (Err e) b k p → IsLastOrBefore a.client.log p.changes k
      → FrontAnswered (stop_by e) route a (line ∷ []) o o b k p
  line_broken a b k line o line_stops.Keeper p broken behind = ([], (line ∷ [], [], [], refl, inr (one_broken a b k line p broken behind), refl, adds_nothing o))
  line_broken a b k line o line_stops.Memory p broken behind = ([], (line ∷ [], [], [], refl, inr (one_broken a b k line p broken behind), refl, (0, adds_nothing o)))

  -- its answer has no text
  pub line_untold : (a b : SessionState) (k : Log) (line : List ℕ) (o : Option (List ℕ)) (answer : Option LineAnswer) (p : Trace) → LineEnds route a (read_line line) (Ok answer) b k p → IsLastOrBefore a.client.log p.changes k
      → FrontAnswered Memory route a (line ∷ []) o o b k p
  line_untold a b k line o answer p turn behind = ([], (line ∷ [], [], [], refl, inr (one_broken a b k line p (inr (inl (answer, turn.0))) behind), refl, (0, adds_nothing o)))

  pub line_answered : (a b : SessionState) (k : Log) (line : List ℕ) (o n : Option (List ℕ)) (answer : Option LineAnswer) (text : List ℕ) (p : Trace) → LineEnds route a (read_line line) (Ok answer) b k p
      → IsText answer text → Adds o n text → AllAnswered route a (line ∷ []) o n b p
  line_answered a b k line o n answer text p turn shown adds = (answer ∷ [], text, one_turn a b line answer p turn.0, one_text answer text shown, adds)

  -- its answer was cut off
  pub line_cut : (stop : Stop) (a b : SessionState) (k : Log) (line : List ℕ) (o n : Option (List ℕ)) (answer : Option LineAnswer) (text : List ℕ) (p : Trace)
      → LineEnds route a (read_line line) (Ok answer) b k p → IsText answer text → WritesFront stop text o n → FrontAnswered stop route a (line ∷ []) o n b k p
  line_cut stop a b k line o n answer text p turn shown writes = (
    answer ∷ [],
    (line ∷ [], [], text, refl, handled_whole stop a b k (line ∷ []) (answer ∷ []) p (one_turn a b line answer p turn.0) turn.1, one_text answer text shown, writes),
  )
