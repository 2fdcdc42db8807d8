-- That what a pool kept stays so over asks in a row.
use Rattle.std.specs.Prelude.{List, [], ◌∷◌, ◌++◌, Option, refl}
use Rattle.std.proofs.Common.{◌∙◌, ap, sym, subst, append_assoc}
use Rattle.std.proofs.lemmas.List.{append-nil}
use Rattle.outside.specs.Outside.{Told}
use Rattle.world_rules.specs.declared.asking.Ask.{Ask}
use Rattle.world_rules.specs.World.{World}
use Rattle.world_rules.proofs.Asks.{told_then, told_start}
use Rattle.surrogate_pool.specs.declared.pool.PoolRound.{PoolRound}
use Rattle.surrogate_pool.specs.Rounds.{AreRounds, AddsRounds}

rounds_append : (m n : List PoolRound) (first second : List Ask) → AreRounds m first → AreRounds n second
    → AreRounds (m ++ n) (first ++ second)
rounds_append [] n first second a b = subst (λ asks. AreRounds n (asks ++ second)) (sym a) b
rounds_append (round ∷ m) n first second a b = (
  a.0,
  a.1 ++ second,
  ap (λ asks. asks ++ second) a.2 ∙ append_assoc a.0 a.1 second,
  a.3,
  rounds_append m n a.1 second a.4 b,
)

pub adds_none : (rounds : List PoolRound) (world : Option World) → Told world world (AddsRounds rounds rounds)
adds_none rounds world = told_start world (AddsRounds rounds rounds) (λ w. record {
  rounds = [];
  made = [];
  kept = sym (append-nil rounds);
  asked = sym (append-nil w.asks);
  are = refl;
})

adds_both : (a b c : List PoolRound) (x y z : World) → AddsRounds a b x y → AddsRounds b c y z → AddsRounds a c x z
adds_both a b c x y z first second = record {
  rounds = first.rounds ++ second.rounds;
  made = first.made ++ second.made;
  kept = second.kept ∙ ap (λ rounds. rounds ++ second.rounds) first.kept ∙ append_assoc a first.rounds second.rounds;
  asked = second.asked ∙ ap (λ asks. asks ++ second.made) first.asked ∙ append_assoc x.asks first.made second.made;
  are = rounds_append first.rounds second.rounds first.made second.made first.are second.are;
}

pub adds_then : (a b c : List PoolRound) (x y z : Option World) → Told x y (AddsRounds a b) → Told y z (AddsRounds b c)
    → Told x z (AddsRounds a c)
adds_then a b c x y z first second =
    told_then x y z (AddsRounds a b) (AddsRounds b c) (AddsRounds a c) first second (λ u v w one two. adds_both a b c u v w one two)
