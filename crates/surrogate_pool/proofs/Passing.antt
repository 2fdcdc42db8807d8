-- What a pool passes on.
use Rattle.std.proofs.Common.{◌≡◌, ◌⊎◌, inl, inr, ⊎_elim, ℕ, Bool, true, false, List, [], ◌∷◌, ◌++◌, map, refl, sym, ◌∙◌, ap, subst}
use Rattle.std.specs.Prelude.{fold, if◌then◌else◌}
use Rattle.std.specs.List.{AllByRecursion}
use Rattle.std.proofs.lemmas.Bool.{true≢false}
use Rattle.std.proofs.lemmas.List.{append-nil}
use Rattle.tree_values.specs.Lists.{IsIn}
use Rattle.wire_frames.specs.declared.message.Message.{Message}
use Rattle.world_rules.specs.declared.asking.Ask.{Ask}
use Rattle.world_rules.specs.declared.asking.Answer.{Answer}
use Rattle.world_rules.specs.declared.asking.Answer.TheVariants.{Reply, Failed, Memory}
use Rattle.world_rules.proofs.Asks.{in_either}
use Rattle.surrogate_pool.specs.Rounds.{is_done, tells_done, better, pooled, is_answer, is_answered, AsksEach}
use Rattle.surrogate_pool.specs.Laws.{RefusalsAreOfAll, FailuresAreOfAll, DoneIsPassedOn}
use Rattle.surrogate_pool.proofs.Trying.{pooled-push}

better_last : (best answer : Answer) → tells_done answer ≡ true → better best answer ≡ answer
better_last Failed answer done = refl
better_last Memory answer done = refl
better_last (Reply first) answer done = ap (λ b. if b then answer else Reply first) done

-- what is made of asks of which the last tells that the operation is done
pooled_last : (undone : List Ask) (ask : Ask) → tells_done ask.answer ≡ true → pooled (undone ++ ask ∷ []) ≡ ask.answer
pooled_last undone ask done = pooled-push undone ask ∙ better_last (pooled undone) ask.answer done

-- where the asking ended otherwise, all were asked and none told it
all_undone : (addresses : List (List ℕ)) (asks : List Ask) → AsksEach true addresses asks → tells_done (pooled asks) ≡ false
    → (map (λ (ask : Ask). ask.address) asks ≡ addresses) × AllByRecursion (λ ask. tells_done ask.answer ≡ false) asks
all_undone addresses asks each undone = ⊎_elim
    (λ none. (
      sym (append-nil (map (λ (ask : Ask). ask.address) asks))
          ∙ ap (λ unasked. map (λ (ask : Ask). ask.address) asks ++ unasked) (sym (none.1 refl)) ∙ sym each.at,
      subst (AllByRecursion (λ ask. tells_done ask.answer ≡ false))
          (sym (each.asks_are ∙ ap (λ last. each.undone ++ last) none.0 ∙ append-nil each.undone)) each.passed,
    ))
    (λ one. absurd (true≢false (sym one.2
    ∙ ap tells_done (sym (ap pooled (each.asks_are ∙ ap (λ last. each.undone ++ last) one.1) ∙ pooled_last each.undone one.0 one.2))
    ∙ undone)))
    each.ends

pub refusals_are_of_all : RefusalsAreOfAll
refusals_are_of_all = all_undone

abbrev is_reply : Answer → Bool
is_reply (Reply reply) = true
is_reply Failed = false
is_reply Memory = false

replies : (d : Bool) (first reply : Message) → is_reply (if d then Reply reply else Reply first) ≡ true
replies true first reply = refl
replies false first reply = refl

better_failed : (best answer : Answer) → is_answer best ≡ true → is_answer answer ≡ true → better best answer ≡ Failed → (best ≡ Failed) × (answer ≡ Failed)
better_failed Failed answer b a e = (refl, e)
better_failed Memory answer b a e = absurd (true≢false (sym b))
better_failed (Reply first) (Reply reply) b a e = absurd (true≢false (sym (replies (is_done reply) first reply) ∙ ap is_reply e))
better_failed (Reply first) Failed b a e = absurd (true≢false (ap is_reply e))
better_failed (Reply first) Memory b a e = absurd (true≢false (sym a))

chosen : (d : Bool) (first reply : Message) → is_answer (if d then Reply reply else Reply first) ≡ true
chosen true first reply = refl
chosen false first reply = refl

better_answer : (best answer : Answer) → is_answer best ≡ true → is_answer answer ≡ true → is_answer (better best answer) ≡ true
better_answer Failed answer b a = a
better_answer Memory answer b a = a
better_answer (Reply first) (Reply reply) b a = chosen (is_done reply) first reply
better_answer (Reply first) Failed b a = refl
better_answer (Reply first) Memory b a = absurd (true≢false (sym a))

all_failed : (asks : List Ask) (best : Answer) → is_answer best ≡ true → AllByRecursion (λ ask. is_answered ask ≡ true) asks
    → fold (λ best ask. better best ask.answer) best asks ≡ Failed → (best ≡ Failed) × AllByRecursion (λ ask. ask.answer ≡ Failed) asks
all_failed [] best b all e = (e, tt)
all_failed (ask ∷ asks) best b all e =
    let behind = all_failed asks (better best ask.answer) (better_answer best ask.answer b all.0) all.1 e in
    let both = better_failed best ask.answer b all.0 behind.0 in
    (both.0, (both.1, behind.1))

pub failures_are_of_all : FailuresAreOfAll
failures_are_of_all addresses asks each answered failed =
    ((all_undone addresses asks each (ap tells_done failed)).0, (all_failed asks Failed refl answered failed).1)

none_done : (asks : List Ask) (ask : Ask) → AllByRecursion (λ ask. tells_done ask.answer ≡ false) asks → IsIn ask asks → tells_done ask.answer ≡ true → ⊥
none_done [] ask all among done = absurd among
none_done (one ∷ asks) ask all (inl is) done = true≢false (sym done ∙ ap (λ (x : Ask). tells_done x.answer) is ∙ all.0)
none_done (one ∷ asks) ask all (inr among) done = none_done asks ask all.1 among done

last_one : (ask one : Ask) → IsIn ask (one ∷ []) → ask ≡ one
last_one ask one (inl is) = is
last_one ask one (inr none) = absurd none

pub done_is_passed_on : DoneIsPassedOn
done_is_passed_on addresses asks ask each among done = ⊎_elim
    (λ none. absurd (none_done each.undone ask each.passed
    (subst (IsIn ask) (each.asks_are ∙ ap (λ last. each.undone ++ last) none.0 ∙ append-nil each.undone) among) done))
    (λ one.
    let is = each.asks_are ∙ ap (λ last. each.undone ++ last) one.1 in
    let same : ask ≡ one.0 = ⊎_elim (λ early. absurd (none_done each.undone ask each.passed early done)) (λ late. last_one ask one.0 late)
    (in_either ask each.undone (one.0 ∷ []) (subst (IsIn ask) is among)) in
    ap pooled is ∙ pooled_last each.undone one.0 one.2 ∙ ap (λ (x : Ask). x.answer) (sym same))
    each.ends
