-- Connections that are served one after the other.
use Rattle.std.proofs.Common.{◌≡◌, ◌≤◌, ◌<◌, ◌⊎◌, inl, ℕ, ◌+◌, List, [], ◌∷◌, ◌++◌, refl, sym, ◌∙◌, ap, subst, append_assoc, arith}
use Rattle.std.proofs.lemmas.List.{append-nil}
use Rattle.std.specs.Prelude.{Result, Ok, Err, OnErr}
use Rattle.std.specs.declared.alloc.AllocError.{AllocError}
use Rattle.outside.specs.Port.{PortTelling}
use Rattle.port_serving.specs.declared.serving.Came.{Came}
use Rattle.port_serving.specs.declared.serving.Came.TheVariants as came
use Rattle.port_serving.specs.declared.serving.Tally.{Tally}
use Rattle.port_serving.specs.Serving.{Connection, exchanges, frames_taken, connection_of, Uses, IsAtHand, tallied}
use Rattle.port_serving.proofs.Connections as ports
use Rattle.tree_values.specs.Tree.{Volume}
use Rattle.cmd_capture.specs.declared.runner.Run.{Run}
use Rattle.world_rules.specs.declared.asking.Ask.{Ask}
use Rattle.surrogate_prog.specs.Serving.{Doings, did_nothing, and_then, ServesFrames, Outside, Did}
use Rattle.surrogate_prog.specs.Inside.{RepliesTo, BreaksReply, SurrogateServesNext, BreaksTaking, SurrogateServesAll, SurrogateServesFront}
use Rattle.surrogate_prog.proofs.Doing.{nothing_done, did_more, unanswered}
use Rattle.port_serving.proofs.Connections.{UsesSoFar}
use Rattle.surrogate_prog.proofs.SoFar.{SurrogateServesSoFar}

-- ---- doings in a row

abbrev doings : List Run → ℕ → List Ask → Doings
doings runs failed asks = record { runs = runs; failed = failed; asks = asks }

same_doings : (a b : Doings) → a.runs ≡ b.runs → a.failed ≡ b.failed → a.asks ≡ b.asks → a ≡ b
same_doings a b runs failed asks =
    ap (λ (r : List Run). doings r a.failed a.asks) runs ∙ ap (λ (n : ℕ). doings b.runs n a.asks) failed ∙ ap (λ (k : List Ask). doings b.runs b.failed k) asks

nothing_then : (did : Doings) → and_then did_nothing did ≡ did
nothing_then did = same_doings (and_then did_nothing did) did refl (omega arith) refl

then_then : (a b c : Doings) → and_then (and_then a b) c ≡ and_then a (and_then b c)
then_then a b c = same_doings (and_then (and_then a b) c) (and_then a (and_then b c)) (append_assoc a.runs b.runs c.runs) (omega arith) (append_assoc a.asks b.asks c.asks)

-- ---- frames in a row

pub frames_none : (server work : List ℕ) (copy : Volume) → ServesFrames server work copy [] did_nothing copy
frames_none server work copy = (refl, refl)

frames_more : (server work : List ℕ) (xs ys : List (List ℕ × List ℕ)) (s t u : Volume) (first more : Doings) → ServesFrames server work s xs first t → ServesFrames server work t ys more u
    → ServesFrames server work s (xs ++ ys) (and_then first more) u
frames_more server work [] ys s t u first more one two =
    subst (λ (d : Doings). ServesFrames server work s ys (and_then d more) u) (sym one.0)
    (subst (λ (d : Doings). ServesFrames server work s ys d u) (sym (nothing_then more)) (subst (λ (v : Volume). ServesFrames server work v ys more u) one.1 two))
frames_more server work (x ∷ xs) ys s t u first more one two =
    (one.0, and_then one.1 more, one.2, one.3, frames_more server work xs ys one.2 t u one.1 more one.4 two, ap (λ (d : Doings). and_then d more) one.5 ∙ then_then one.0 one.1 more)

-- ---- one connection

-- memory ran out before the frame was taken
pub breaks_take : (server work : List ℕ) (copy : Volume) (port used : PortTelling) (there : Outside) → IsAtHand [] port used → BreaksTaking server work copy port used there there
breaks_take server work copy port used there at_hand = record { frames = []; at_hand = at_hand; did = did_nothing; breaks = inl refl; did_outside = nothing_done [] there }

-- memory ran out while the frame was served
pub breaks_reply : (server work bytes : List ℕ) (copy : Volume) (port used : PortTelling) (a b : Outside) → IsAtHand (bytes ∷ []) port used → BreaksReply server work bytes copy a b → BreaksTaking server work copy port used a b
breaks_reply server work bytes copy port used a b at_hand broken = record { frames = bytes ∷ []; at_hand = at_hand; did = broken.did; breaks = broken.breaks; did_outside = broken.did_outside }

-- memory ran out when the frame was to be answered: what it came to is told of the frame at hand
pub breaks_answer : (server work bytes reply : List ℕ) (s t : Volume) (port used : PortTelling) (a b : Outside) → IsAtHand (bytes ∷ []) port used → RepliesTo server work bytes reply s t a b → BreaksTaking server work s port used a b
breaks_answer server work bytes reply s t port used a b at_hand replied = breaks_reply server work bytes s port used a b at_hand (unanswered server work bytes reply s t a b replied)

pub breaks_answer_where : (server work bytes reply : List ℕ) (s t : Volume) (port used : PortTelling) (a b : Outside) (result : Result Came AllocError) → OnErr result (IsAtHand (bytes ∷ []) port used) → RepliesTo server work bytes reply s t a b
    → OnErr result (BreaksTaking server work s port used a b)
breaks_answer_where server work bytes reply s t port used a b (Ok how) at_hand replied = tt
breaks_answer_where server work bytes reply s t port used a b (Err e) at_hand replied = breaks_answer server work bytes reply s t port used a b at_hand replied

-- ---- so far

module _ (server work : List ℕ) where
  pub so_far_begins : (tally : Tally) (s : Volume) (port : PortTelling) (there : Outside) → tally ≡ record { frames = 0; faults = 0 } → SurrogateServesSoFar server work 0 tally s s port port there there
  so_far_begins tally s port there none = record {
    connections = [];
    uses = subst (λ (t : Tally). UsesSoFar 0 t [] port port) (sym none) (ports.so_far_none port);
    did = did_nothing;
    serves = frames_none server work s;
    did_outside = nothing_done [] there;
  }

  -- one more take
  pub so_far_next : (takes : ℕ) (tally new : Tally) (how : Came) (s t u : Volume) (p q r : PortTelling) (a b c : Outside) → (how ≡ came.NoConnection → ⊥) → new ≡ tallied tally how
      → SurrogateServesSoFar server work takes tally s t p q a b → SurrogateServesNext server work how t u q r b c → SurrogateServesSoFar server work (takes + 1) new s u p r a c
  so_far_next takes tally new how s t u p q r a b c other is before one =
      let next = connection_of how one.bytes one.reply in
      record {
        connections = before.connections ++ next;
        uses = ports.so_far_next takes tally new how one.bytes one.reply before.connections p q r other is before.uses one.uses;
        did = and_then before.did one.did;
        serves =
            subst (λ (l : List (List ℕ × List ℕ)). ServesFrames server work s l (and_then before.did one.did) u) (sym (ports.exchanges-append before.connections next))
            (frames_more server work (exchanges before.connections) (exchanges next) s t u before.did one.did before.serves one.serves);
        did_outside =
            subst (λ (l : List (List ℕ)). Did l (and_then before.did one.did) a c) (sym (ports.frames_taken-append before.connections next))
            (did_more (frames_taken before.connections) (frames_taken next) before.did one.did a b c before.did_outside one.did_outside);
      }

  -- no connection is left
  pub all_came : (count takes : ℕ) (tally : Tally) (how : Came) (s t u : Volume) (p q r : PortTelling) (a b c : Outside) → takes ≤ count → how ≡ came.NoConnection
      → SurrogateServesSoFar server work takes tally s t p q a b → SurrogateServesNext server work how t u q r b c → SurrogateServesAll server work count tally s p r a c
  all_came count takes tally how s t u p q r a b c few is before one =
      let none : connection_of how one.bytes one.reply ≡ [] = ap (λ (h : Came). connection_of h one.bytes one.reply) is in
      let uses = subst (λ (xs : List Connection). Uses xs q r) none one.uses in
      let serves = subst (λ (xs : List Connection). ServesFrames server work t (exchanges xs) one.did u) none one.serves in
      let did = subst (λ (xs : List Connection). Did (frames_taken xs) one.did b c) none one.did_outside in
      record {
        connections = before.connections;
        uses = ports.all_left count takes tally before.connections p q r few before.uses uses (one.none is);
        counts = before.uses.counts;
        did = and_then before.did one.did;
        copy = u;
        serves =
            subst (λ (l : List (List ℕ × List ℕ)). ServesFrames server work s l (and_then before.did one.did) u) (append-nil (exchanges before.connections))
            (frames_more server work (exchanges before.connections) [] s t u before.did one.did before.serves serves);
        did_outside =
            subst (λ (l : List (List ℕ)). Did l (and_then before.did one.did) a c) (append-nil (frames_taken before.connections))
            (did_more (frames_taken before.connections) [] before.did one.did a b c before.did_outside did);
      }

  -- all takes were made
  pub all_made : (count takes : ℕ) (tally : Tally) (s t : Volume) (p q : PortTelling) (a b : Outside) → takes ≡ count → SurrogateServesSoFar server work takes tally s t p q a b → SurrogateServesAll server work count tally s p q a b
  all_made count takes tally s t p q a b full before = record {
    connections = before.connections;
    uses = ports.all_made count takes tally before.connections p q full before.uses;
    counts = before.uses.counts;
    did = before.did;
    copy = t;
    serves = before.serves;
    did_outside = before.did_outside;
  }

  -- the next take was broken off
  pub front : (count takes : ℕ) (tally : Tally) (s t : Volume) (p q r : PortTelling) (a b c : Outside) → takes < count → SurrogateServesSoFar server work takes tally s t p q a b → BreaksTaking server work t q r b c
      → SurrogateServesFront server work count s p r a c
  front count takes tally s t p q r a b c more before broken = record {
    connections = before.connections;
    frames = broken.frames;
    uses = ports.front count takes tally before.connections broken.frames p q r more before.uses broken.at_hand;
    did = before.did;
    copy = t;
    serves = before.serves;
    at_hand = broken.did;
    breaks = broken.breaks;
    did_outside = did_more (frames_taken before.connections) broken.frames before.did broken.did a b c before.did_outside broken.did_outside;
  }
