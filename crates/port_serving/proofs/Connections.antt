-- Connections that are used up one after the other.
use Rattle.std.proofs.Common.{◌≡◌, ◌≤◌, ◌<◌, inl, inr, ℕ, ◌+◌, List, [], ◌∷◌, ◌++◌, length, map, Option, None, Some, refl, sym, ◌∙◌, ap, subst, arith, append_assoc, length-append}
use Rattle.std.proofs.lemmas.List.{append-nil, map-append}
use Rattle.std.proofs.lemmas.List.Sums.{sum_by-append, count_by-le-length}
use Rattle.std.proofs.lemmas.Grind.{flat_map-append}
use Rattle.std.specs.Prelude.{cond}
use Rattle.outside.specs.Outside.{raised}
use Rattle.outside.specs.Port.{Talk, PortTelling, AddsTalks}
use Rattle.port_serving.specs.declared.serving.Came.{Came}
use Rattle.port_serving.specs.declared.serving.Came.TheVariants as came
use Rattle.port_serving.specs.declared.serving.Tally.{Tally}
use Rattle.port_serving.specs.Serving.{Connection, Missed, Unanswered, Answered, exchange, exchanges, frames_taken, talk, talks, connection_of, is_failure, failed_connections, Uses, IsAtHand, UsesAll, UsesFront, Counts, tallied}

-- connections were used up and counted, one for each take so far
pub record UsesSoFar (made : ℕ) (tally : Tally) (connections : List Connection) (old new : PortTelling) : Type 0 where
  pub uses : Uses connections old new
  pub counts : Counts connections tally
  pub takes : length connections ≡ made

-- ---- connections in a row

pub exchanges-append : (xs ys : List Connection) → exchanges (xs ++ ys) ≡ exchanges xs ++ exchanges ys
exchanges-append xs ys = flat_map-append exchange xs ys

pub frames_taken-append : (xs ys : List Connection) → frames_taken (xs ++ ys) ≡ frames_taken xs ++ frames_taken ys
frames_taken-append xs ys = ap (map (λ (pair : List ℕ × List ℕ). pair.0)) (exchanges-append xs ys) ∙ map-append _ (exchanges xs) (exchanges ys)

pub talks-append : (xs ys : List Connection) → talks (xs ++ ys) ≡ talks xs ++ talks ys
talks-append xs ys = flat_map-append talk xs ys

pub failures-append : (xs ys : List Connection) → failed_connections (xs ++ ys) ≡ failed_connections xs + failed_connections ys
failures-append xs ys = sum_by-append (λ c. cond (is_failure c) 1 0) xs ys

-- ---- what a port tells

pub adds_none : (told : Option (List Talk)) → AddsTalks told told []
adds_none None = refl
adds_none (Some talks) = sym (append-nil talks)

pub adds_more : (a b c : Option (List Talk)) (xs ys : List Talk) → AddsTalks a b xs → AddsTalks b c ys → AddsTalks a c (xs ++ ys)
adds_more None None c xs ys first second = second
adds_more None (Some y) c xs ys first second = absurd (cc first)
adds_more (Some x) None c xs ys first second = absurd first
adds_more (Some x) (Some y) None xs ys first second = absurd second
adds_more (Some x) (Some y) (Some z) xs ys first second = second ∙ ap (λ (l : List Talk). l ++ ys) first ∙ append_assoc x xs ys

pub raised_more : (m n a b c : ℕ) → b ≡ raised m a → c ≡ raised n b → c ≡ raised (m + n) a
raised_more m n a b c first second = omega arith

-- ---- the uses of a port

pub uses_none : (port : PortTelling) → Uses [] port port
uses_none port = record { left = omega arith; talks = adds_none port.talks; failed = omega arith }

pub uses_more : (xs ys : List Connection) (a b c : PortTelling) → Uses xs a b → Uses ys b c → Uses (xs ++ ys) a c
uses_more xs ys a b c first second = record {
  left = omega (arith, first.left, second.left, length-append xs ys);
  talks = subst (AddsTalks a.talks c.talks) (sym (talks-append xs ys)) (adds_more a.talks b.talks c.talks (talks xs) (talks ys) first.talks second.talks);
  failed = subst (λ (n : ℕ). c.faults ≡ raised n a.faults) (sym (failures-append xs ys)) (raised_more (failed_connections xs) (failed_connections ys) a.faults b.faults c.faults first.failed second.failed);
}

-- ---- counting

pub few_taken : (connections : List Connection) → length (frames_taken connections) ≤ length connections
few_taken [] = omega arith
few_taken (Missed ∷ more) = omega (arith, few_taken more)
few_taken (Unanswered frame reply ∷ more) = omega (arith, few_taken more)
few_taken (Answered frame reply ∷ more) = omega (arith, few_taken more)

pub few_failures : (connections : List Connection) → failed_connections connections ≤ length connections
few_failures connections = count_by-le-length is_failure connections

-- nothing was taken yet
pub so_far_none : (port : PortTelling) → UsesSoFar 0 (record { frames = 0; faults = 0 }) [] port port
so_far_none port = record { uses = uses_none port; counts = record { frames = refl; faults = refl }; takes = refl }

counted : (xs ys : List Connection) (tally new : Tally) → Counts xs tally → new.frames ≡ tally.frames + length (frames_taken ys) → new.faults ≡ tally.faults + failed_connections ys → Counts (xs ++ ys) new
counted xs ys tally new counts frames faults = record {
  frames = omega (arith, counts.frames, frames, ap length (frames_taken-append xs ys), length-append (frames_taken xs) (frames_taken ys));
  faults = omega (arith, counts.faults, faults, failures-append xs ys);
}

so_far_more : (takes : ℕ) (tally new : Tally) (xs : List Connection) (next : Connection) (a b c : PortTelling) → UsesSoFar takes tally xs a b → Uses (next ∷ []) b c
    → new.frames ≡ tally.frames + length (frames_taken (next ∷ [])) → new.faults ≡ tally.faults + failed_connections (next ∷ []) → UsesSoFar (takes + 1) new (xs ++ next ∷ []) a c
so_far_more takes tally new xs next a b c before one frames faults = record {
  uses = uses_more xs (next ∷ []) a b c before.uses one;
  counts = counted xs (next ∷ []) tally new before.counts frames faults;
  takes = omega (arith, before.takes, length-append xs (next ∷ []));
}

-- one more take
so_far_came : (takes : ℕ) (tally : Tally) (how : Came) (frame reply : List ℕ) (xs : List Connection) (a b c : PortTelling) → (how ≡ came.NoConnection → ⊥) → UsesSoFar takes tally xs a b
    → Uses (connection_of how frame reply) b c → UsesSoFar (takes + 1) (tallied tally how) (xs ++ connection_of how frame reply) a c
so_far_came takes tally came.NoConnection frame reply xs a b c other before one = absurd (other refl)
so_far_came takes tally came.Missed frame reply xs a b c other before one = so_far_more takes tally _ xs Missed a b c before one (omega arith) refl
so_far_came takes tally came.Unanswered frame reply xs a b c other before one = so_far_more takes tally _ xs (Unanswered frame reply) a b c before one refl refl
so_far_came takes tally came.Answered frame reply xs a b c other before one = so_far_more takes tally _ xs (Answered frame reply) a b c before one refl (omega arith)

pub so_far_next : (takes : ℕ) (tally new : Tally) (how : Came) (frame reply : List ℕ) (xs : List Connection) (a b c : PortTelling) → (how ≡ came.NoConnection → ⊥) → new ≡ tallied tally how → UsesSoFar takes tally xs a b
    → Uses (connection_of how frame reply) b c → UsesSoFar (takes + 1) new (xs ++ connection_of how frame reply) a c
so_far_next takes tally new how frame reply xs a b c other is before one =
    subst (λ (n : Tally). UsesSoFar (takes + 1) n (xs ++ connection_of how frame reply) a c) (sym is) (so_far_came takes tally how frame reply xs a b c other before one)

-- no connection is left
pub all_left : (count takes : ℕ) (tally : Tally) (xs : List Connection) (a b c : PortTelling) → takes ≤ count → UsesSoFar takes tally xs a b → Uses [] b c → c.left ≡ 0 → UsesAll count xs a c
all_left count takes tally xs a b c few before none left = record {
  uses = subst (λ (all : List Connection). Uses all a c) (append-nil xs) (uses_more xs [] a b c before.uses none);
  most = omega (arith, few, before.takes);
  ended = inr left;
}

-- all takes were made
pub all_made : (count takes : ℕ) (tally : Tally) (xs : List Connection) (a b : PortTelling) → takes ≡ count → UsesSoFar takes tally xs a b → UsesAll count xs a b
all_made count takes tally xs a b full before = record { uses = before.uses; most = omega (arith, full, before.takes); ended = inl (before.takes ∙ full) }

-- the connection at hand was broken off
pub front : (count takes : ℕ) (tally : Tally) (xs : List Connection) (frames : List (List ℕ)) (a b c : PortTelling) → takes < count → UsesSoFar takes tally xs a b → IsAtHand frames b c → UsesFront count xs frames a c
front count takes tally xs frames a b c more before at_hand = record { middle = b; uses = before.uses; most = omega (arith, more, before.takes); at_hand = at_hand }

-- the tally fits while there are takes left
pub fits : (takes : ℕ) (tally : Tally) (xs : List Connection) (a b : PortTelling) → takes < 65536 → UsesSoFar takes tally xs a b → (tally.frames < 65536) × (tally.faults < 65536)
fits takes tally xs a b few before =
    (omega (arith, few, before.takes, before.counts.frames, few_taken xs), omega (arith, few, before.takes, before.counts.faults, few_failures xs))
