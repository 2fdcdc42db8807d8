-- What asks in a row take of wires in memory, and what they leave.
use Rattle.std.specs.Prelude.{◌≡◌, ℕ, ◌≤◌, false, List, [], ◌∷◌, ◌++◌, refl}
use Rattle.std.proofs.Common.{◌∙◌, inl, inr, subst}
use Rattle.std.proofs.Math.Nat.{le_refl, le_trans}
use Rattle.tree_values.specs.Lists.{IsIn}
use Rattle.wire_frames.specs.declared.message.Message.{Message}
use Rattle.world_rules.specs.declared.asking.Ask.{Ask}
use Rattle.world_rules.specs.declared.asking.Answer.{Answer}
use Rattle.world_rules.specs.declared.asking.Answer.TheVariants.{Reply, Failed, Memory}
use Rattle.world_rules.specs.declared.asking.Peer.TheVariants.{Server}
use Rattle.world_rules.specs.Served.{answer}
use Rattle.world_rules.specs.World.{World, MovedBy}
use Rattle.world_rules.proofs.Asks.{moved_by_none, moved_by_then}
use Rattle.mem_wires.specs.declared.fate.Fate.{Fate}
use Rattle.mem_wires.specs.Wire.{Wire, world_of}
use Rattle.mem_wires.specs.Fates.{is_trouble, left_by, AreTakenFrom}

-- ---- replies of the server's own

-- any message may be sent: an ask for which memory was wanted may have sent its request, and is not noted
abbrev pub IsAny : Message → Type 0
IsAny message = Unit {0}

-- the reply is the server's answer to the request at a moment of these moves
pub record IsGiven (request reply : Message) (old new : World) : Type 0 where
  pub moment : World
  pub earlier : List Ask
  pub later : List Ask
  pub before : MovedBy IsAny earlier old moment
  pub after : MovedBy IsAny later moment new
  pub is : reply ≡ answer request moment.served

abbrev pub IsGivenAnswer : Message → Answer → World → World → Type 0
IsGivenAnswer request (Reply reply) old new = IsGiven request reply old new
IsGivenAnswer request Failed old new = Unit {0}
IsGivenAnswer request Memory old new = Unit {0}

-- each of these asks that has a reply has such a one
abbrev pub AreGiven : List Ask → World → World → Type 0
AreGiven [] old new = Unit {0}
AreGiven (ask ∷ asks) old new = IsGivenAnswer ask.request ask.answer old new × AreGiven asks old new

-- ---- fates that are taken

-- none of these fates is a trouble
abbrev pub AreQuiet : List Fate → Type 0
AreQuiet fates = (fate : Fate) → IsIn fate fates → is_trouble fate ≡ false

-- These fates were taken from the front, where a stop stays, and the troubles are not fewer. Where none of the taken fates is a trouble
-- none was counted.
pub record TakesFront (fates left : List Fate) (troubles now : ℕ) : Type 0 where
  pub taken : List Fate
  pub split : AreTakenFrom taken fates left
  pub later : troubles ≤ now
  pub calm : AreQuiet taken → now ≡ troubles

-- These asks were made, these fates were taken from the front, and the troubles are not fewer. Where none of these fates is a trouble, and
-- the server alone was asked, no trouble was counted, and each reply is the server's own at a moment of these asks.
pub record Spends (old new : Wire) : Type 0 where
  pub made : List Ask
  pub moved : MovedBy IsAny made (world_of old) (world_of new)
  pub taken : List Fate
  pub split : AreTakenFrom taken old.fates new.fates
  pub later : old.troubles ≤ new.troubles
  pub calm : AreQuiet taken → ((ask : Ask) → IsIn ask made → ask.to ≡ Server)
      → (new.troubles ≡ old.troubles) × AreGiven made (world_of old) (world_of new)

-- ---- asks in a row

in_front : {X : Type 0} (x : X) (xs ys : List X) → IsIn x xs → IsIn x (xs ++ ys)
in_front x [] ys among = absurd among
in_front x (y ∷ xs) ys (inl is) = inl is
in_front x (y ∷ xs) ys (inr among) = inr (in_front x xs ys among)

in_behind : {X : Type 0} (x : X) (xs ys : List X) → IsIn x ys → IsIn x (xs ++ ys)
in_behind x [] ys among = among
in_behind x (y ∷ xs) ys among = inr (in_behind x xs ys among)

pub quiet_front : (xs ys : List Fate) → AreQuiet (xs ++ ys) → AreQuiet xs
quiet_front xs ys quiet = λ fate among. quiet fate (in_front fate xs ys among)

pub quiet_behind : (xs ys : List Fate) → AreQuiet (xs ++ ys) → AreQuiet ys
quiet_behind xs ys quiet = λ fate among. quiet fate (in_behind fate xs ys among)

pub taken_then : (first second a b c : List Fate) → AreTakenFrom first a b → AreTakenFrom second b c → AreTakenFrom (first ++ second) a c
taken_then [] second a b c one two = subst (λ (fates : List Fate). AreTakenFrom second fates c) one two
taken_then (fate ∷ first) second a b c one two = (one.0, one.1, taken_then first second (left_by fate one.0) b c one.2 two)

-- what was given stays given in longer moves
module _ (start old new end : World) (earlier later : List Ask) (before : MovedBy IsAny earlier start old)
    (after : MovedBy IsAny later new end) where
  answer_longer : (request : Message) (answer : Answer) → IsGivenAnswer request answer old new → IsGivenAnswer request answer start end
  answer_longer request (Reply reply) given = record {
    moment = given.moment;
    earlier = earlier ++ given.earlier;
    later = given.later ++ later;
    before = moved_by_then IsAny earlier given.earlier start old given.moment before given.before;
    after = moved_by_then IsAny given.later later given.moment new end given.after after;
    is = given.is;
  }
  answer_longer request Failed given = tt
  answer_longer request Memory given = tt

  pub given_longer : (asks : List Ask) → AreGiven asks old new → AreGiven asks start end
  given_longer [] given = tt
  given_longer (ask ∷ asks) given = (answer_longer ask.request ask.answer given.0, given_longer asks given.1)

given_append : (first second : List Ask) (old new : World) → AreGiven first old new → AreGiven second old new
    → AreGiven (first ++ second) old new
given_append [] second old new a b = b
given_append (ask ∷ first) second old new a b = (a.0, given_append first second old new a.1 b)

pub spends_none : (wires : Wire) → Spends wires wires
spends_none wires = record {
  made = [];
  moved = moved_by_none IsAny (world_of wires);
  taken = [];
  split = refl;
  later = le_refl wires.troubles;
  calm = λ quiet served. (refl, tt);
}

pub spends_then : (old middle new : Wire) → Spends old middle → Spends middle new → Spends old new
spends_then old middle new first second =
    let m = first.made in
    let n = second.made in
    let a = world_of old in
    let b = world_of middle in
    let d = world_of new in
    record {
      made = m ++ n;
      moved = moved_by_then IsAny m n a b d first.moved second.moved;
      taken = first.taken ++ second.taken;
      split = taken_then first.taken second.taken old.fates middle.fates new.fates first.split second.split;
      later = le_trans first.later second.later;
      calm = λ quiet served.
          let one = first.calm (quiet_front first.taken second.taken quiet) (λ ask among. served ask (in_front ask m n among)) in
          let two = second.calm (quiet_behind first.taken second.taken quiet) (λ ask among. served ask (in_behind ask m n among)) in (
            two.0 ∙ one.0,
            given_append m n a d
                (given_longer a a b d [] n (moved_by_none IsAny a) second.moved m one.1)
                (given_longer a b d d m [] first.moved (moved_by_none IsAny d) n two.1),
          );
    }
