-- How tries of one request, at one address after the other, follow one another.
use Rattle.std.proofs.Common.{◌≡◌, inl, inr, ℕ, ◌+◌, ◌≤◌, Bool, true, false, cond, List, [], ◌∷◌, ◌++◌, length, Option, None, Some, Result, Ok, Err, Vec, refl, sym, ◌∙◌, ap, subst, arith, append_assoc, length-append}
use Rattle.std.specs.Prelude.{filter, map, if◌then◌else◌}
use Rattle.std.specs.List.{AllByRecursion}
use Rattle.std.specs.Option.{unwrap_or, ok_or}
use Rattle.std.specs.declared.alloc.Global.{Global}
use Rattle.std.proofs.lemmas.Bool.{true≢false}
use Rattle.std.proofs.lemmas.List.{map-append, append-nil, length-map}
use Rattle.std.proofs.lemmas.List.Elements.{filter-append}
use Rattle.std.proofs.lemmas.List.Sums.{fold-append}
use Rattle.wire_frames.specs.declared.message.Message.{Message}
use Rattle.wire_frames.specs.Frame.{Spells}
use Rattle.world_rules.specs.declared.asking.Peer.TheVariants.{Server, Surrogate}
use Rattle.world_rules.specs.declared.asking.Ask.{Ask}
use Rattle.world_rules.specs.declared.asking.Answer.{Answer}
use Rattle.world_rules.specs.declared.asking.Answer.TheVariants.{Reply, Failed, Memory}
use Rattle.world_rules.specs.declared.link.LinkError.{LinkError}
use Rattle.world_rules.specs.declared.link.LinkError.TheVariants.{Failed as LinkFailed, Memory as LinkMemory}
use Rattle.world_rules.specs.World.{World, Is, Moved}
use Rattle.world_rules.specs.Asking.{ask_of, AsksOnce}
use Rattle.world_rules.proofs.Asks.{moved_then, moved_none, moved_packets}
use Rattle.surrogate_pool.specs.Rounds.{is_done, tells_done, better, pooled, is_answer, is_answered, AsksEach, EndsAtWant}
use Rattle.surrogate_pool.specs.Addresses.{addresses_in}
use Rattle.surrogate_pool.specs.Inside.{is_answer_of, IsSentReply, IsPooled, HasAsked}

-- ---- lists

pub all_append : {X : Type 0} (P : X → Type 0) (xs ys : List X) → AllByRecursion P xs → AllByRecursion P ys → AllByRecursion P (xs ++ ys)
all_append P [] ys first second = second
all_append P (x ∷ xs) ys first second = (first.0, all_append P xs ys first.1 second)

all_both : {X : Type 0} (P Q : X → Type 0) (xs : List X) → AllByRecursion P xs → AllByRecursion Q xs → AllByRecursion (λ x. P x × Q x) xs
all_both P Q [] first second = tt
all_both P Q (x ∷ xs) first second = ((first.0, second.0), all_both P Q xs first.1 second.1)

-- ---- where memory ran out

same_rest : (x y : Ask) (xs ys : List Ask) → x ∷ xs ≡ y ∷ ys → (x ≡ y) × (xs ≡ ys)
same_rest x y xs ys is = (cc, cc)

-- behind asks that were answered or failed it ends them as it ends the last ones
ends_behind : (answered : Bool) (asks last : List Ask) → AllByRecursion (λ ask. is_answered ask ≡ true) asks → EndsAtWant answered last
    → EndsAtWant answered (asks ++ last)
ends_behind answered [] last all ends front back ask is broken = ends front back ask is broken
ends_behind answered (one ∷ asks) last all ends [] back ask is broken =
    let same : one ≡ ask = (same_rest one ask (asks ++ last) back is).0 in
    absurd (true≢false (sym all.0 ∙ ap is_answered same ∙ broken))
ends_behind answered (one ∷ asks) last all ends (first ∷ front) back ask is broken =
    ends_behind answered asks last all.1 ends front back ask (same_rest one first (asks ++ last) (front ++ ask ∷ back) is).1 broken

ends_none : (answered : Bool) → EndsAtWant answered []
ends_none answered [] back ask is broken = absurd (cc)
ends_none answered (first ∷ front) back ask is broken = absurd (cc)

-- it did not run out in these
ends_answered : (answered : Bool) (asks : List Ask) → AllByRecursion (λ ask. is_answered ask ≡ true) asks → EndsAtWant answered asks
ends_answered answered asks all = subst (EndsAtWant answered) (append-nil asks) (ends_behind answered asks [] all (ends_none answered))

-- it ran out in the last one
ends_broken : (last : Ask) → EndsAtWant false (last ∷ [])
ends_broken last [] back ask is broken = (sym (same_rest last ask [] back is).1, refl)
ends_broken last (first ∷ []) back ask is broken = let rest = (same_rest last first [] (ask ∷ back) is).1 in absurd (cc)
ends_broken last (first ∷ second ∷ front) back ask is broken =
    let rest = (same_rest last first [] (second ∷ (front ++ ask ∷ back)) is).1 in absurd (cc)

-- all of these were answered or failed
filter_all : (asks : List Ask) → AllByRecursion (λ ask. is_answered ask ≡ true) asks → filter is_answered asks ≡ asks
filter_all [] all = refl
filter_all (ask ∷ asks) all =
    ap (λ (b : Bool). cond b (ask ∷ filter is_answered asks) (filter is_answered asks)) all.0 ∙ ap (λ (more : List Ask). ask ∷ more) (filter_all asks all.1)

-- ---- what was tried so far

-- the first reply so far, which does not tell that the operation is done
abbrev pub IsFirst : Message → Option (Vec ℕ Global) → Answer → World → Type 0
IsFirst request None answer world = answer ≡ Failed
IsFirst request (Some frame) answer world =
    (reply : Message) × IsSentReply request frame.items reply world × (answer ≡ Reply reply) × (is_done reply ≡ false)

-- surrogates at these addresses were asked, of which none told that the operation is done
pub record HasTried (request : Message) (tried : List (List ℕ)) (first : Option (Vec ℕ Global)) (old new : World) : Type 0 where
  pub made : List Ask
  pub moved : Moved request made old new
  pub answered : AllByRecursion (λ ask. is_answered ask ≡ true) made
  pub at : map (λ ask. ask.address) made ≡ tried
  pub of_surrogates : AllByRecursion (λ ask. ask.to ≡ Surrogate) made
  pub of_request : AllByRecursion (λ ask. ask.request ≡ request) made
  pub passed : AllByRecursion (λ ask. tells_done ask.answer ≡ false) made
  pub first_is : IsFirst request first (pooled made) new

-- ---- what is made of answers

pub pooled-push : (asks : List Ask) (ask : Ask) → pooled (asks ++ ask ∷ []) ≡ better (pooled asks) ask.answer
pooled-push asks ask = fold-append (λ best one. better best one.answer) Failed asks (ask ∷ [])

better_done : (best : Answer) (reply : Message) → is_done reply ≡ true → better best (Reply reply) ≡ Reply reply
better_done Failed reply done = refl
better_done Memory reply done = refl
better_done (Reply first) reply done = ap (λ b. if b then Reply reply else Reply first) done

better_undone : (first reply : Message) → is_done reply ≡ false → better (Reply first) (Reply reply) ≡ Reply first
better_undone first reply undone = ap (λ b. if b then Reply reply else Reply first) undone

-- the first reply, or this one where there was none
abbrev pub first_of : Option (Vec ℕ Global) → Vec ℕ Global → Option (Vec ℕ Global)
first_of first frame = Some (unwrap_or first frame)

-- the result where all were tried: the first reply, or none
abbrev pub result_of : Option (Vec ℕ Global) → Result (Vec ℕ Global) LinkError
result_of first = ok_or first LinkFailed

module _ (request : Message) where
  -- a reply that was sent stays so
  stays : (made : List Ask) (v w : World) (frame : List ℕ) (reply : Message) → Moved request made v w
      → IsSentReply request frame reply v → IsSentReply request frame reply w
  stays made v w frame reply moved sent = (sent.0, sent.1, moved_packets (Is request) made v w reply moved.moves sent.2)

  module _ (tried : List (List ℕ)) (address : List ℕ) (first : Option (Vec ℕ Global)) (u v w : World) (so_far : HasTried request tried first u v) where
    abbrev one : Answer → Ask
    one answer = ask_of Surrogate address request answer

    tried_more : (answer : Answer) (next : Option (Vec ℕ Global)) → is_answer answer ≡ true → tells_done answer ≡ false
        → Moved request (one answer ∷ []) v w → IsFirst request next (better (pooled so_far.made) answer) w
        → HasTried request (tried ++ address ∷ []) next u w
    tried_more answer next answered undone moved first_is = record {
      made = so_far.made ++ one answer ∷ [];
      moved = moved_then request so_far.made (one answer ∷ []) u v w so_far.moved moved;
      answered = all_append (λ ask. is_answered ask ≡ true) so_far.made (one answer ∷ []) so_far.answered (answered, tt);
      at = map-append (λ ask. ask.address) so_far.made (one answer ∷ []) ∙ ap (λ asks. asks ++ address ∷ []) so_far.at;
      of_surrogates = all_append (λ ask. ask.to ≡ Surrogate) so_far.made (one answer ∷ []) so_far.of_surrogates (refl, tt);
      of_request = all_append (λ ask. ask.request ≡ request) so_far.made (one answer ∷ []) so_far.of_request (refl, tt);
      passed = all_append (λ ask. tells_done ask.answer ≡ false) so_far.made (one answer ∷ []) so_far.passed (undone, tt);
      first_is = subst (λ best. IsFirst request next best w) (sym (pooled-push so_far.made (one answer))) first_is;
    }

    first_stays : (first : Option (Vec ℕ Global)) (best : Answer) → Moved request (one Failed ∷ []) v w → IsFirst request first best v
        → IsFirst request first (better best Failed) w
    first_stays None best moved is = ap (λ b. better b Failed) is
    first_stays (Some frame) best moved is =
        (is.0, stays (one Failed ∷ []) v w frame.items is.0 moved is.1, ap (λ b. better b Failed) is.2, is.3)

    pub tried_failed : AsksOnce Surrogate address request v w (Err LinkFailed) → HasTried request (tried ++ address ∷ []) first u w
    tried_failed once = tried_more Failed first refl refl once (first_stays first (pooled so_far.made) once so_far.first_is)

    first_more : (first : Option (Vec ℕ Global)) (frame : Vec ℕ Global) (reply : Message) (best : Answer) → Moved request (one (Reply reply) ∷ []) v w
        → is_done reply ≡ false → IsSentReply request frame.items reply w → IsFirst request first best v
        → IsFirst request (first_of first frame) (better best (Reply reply)) w
    first_more None frame reply best moved undone sent is = (reply, sent, ap (λ b. better b (Reply reply)) is, undone)
    first_more (Some earlier) frame reply best moved undone sent is = (
      is.0,
      stays (one (Reply reply) ∷ []) v w earlier.items is.0 moved is.1,
      ap (λ b. better b (Reply reply)) is.2 ∙ better_undone is.0 reply undone,
      is.3,
    )

    pub tried_reply : (frame : Vec ℕ Global) → ((reply : Message) → Spells reply frame.items → is_done reply ≡ false)
        → AsksOnce Surrogate address request v w (Ok frame) → HasTried request (tried ++ address ∷ []) (first_of first frame) u w
    tried_reply frame undone once =
        let reply = once.0 in
        let not_done = undone reply once.1 in
        tried_more (Reply reply) (first_of first frame) refl not_done once.4
        (first_more first frame reply (pooled so_far.made) once.4 not_done (once.1, once.2, once.3) so_far.first_is)

-- ---- what tries came to

module _ (request : Message) (list : List ℕ) where
  asked_by : (tries : ℕ) (result : Result (Vec ℕ Global) LinkError) (u w : World) (made asked : List Ask) → Moved request made u w
      → filter is_answered made ≡ asked → AllByRecursion (λ ask. ask.to ≡ Surrogate) asked → AllByRecursion (λ ask. ask.request ≡ request) asked
      → length asked ≡ tries → AsksEach (is_answer_of result) (addresses_in list) asked → EndsAtWant (is_answer_of result) made
      → (is_answer_of result ≡ true → 1 ≤ tries)
      → IsPooled request result (pooled asked) w → HasAsked Surrogate list request tries result u w
  asked_by tries result u w made asked moved kept of_surrogates of_request many each ends some pools = record {
    made = made;
    moved = moved;
    asks = subst (AllByRecursion (λ ask. (ask.to ≡ Surrogate) × (ask.request ≡ request))) (sym kept)
        (all_both (λ ask. ask.to ≡ Surrogate) (λ ask. ask.request ≡ request) asked of_surrogates of_request);
    round = record {
      tries = ap (λ (asks : List Ask). length asks) kept ∙ many;
      asked = inr (subst (AsksEach (is_answer_of result) (addresses_in list)) (sym kept) each);
      ends = ends;
    };
    some = some;
    pools = subst (λ asks. IsPooled request result (pooled asks) w) (sym kept) pools;
  }

  -- without room nothing is asked
  pub asked_nothing : (world : World) → HasAsked Surrogate list request 0 (Err LinkMemory) world world
  asked_nothing world =
      asked_by 0 (Err LinkMemory) world world [] [] (moved_none request world) refl tt tt refl
      (record {
        undone = [];
        last = [];
        unasked = addresses_in list;
        asks_are = refl;
        at = refl;
        of_surrogates = tt;
        passed = tt;
        ends = inl (refl, λ answered. absurd (true≢false (sym answered)));
      })
      (ends_none false)
      (λ answered. absurd (true≢false (sym answered))) tt

  module _ (tried : List (List ℕ)) (first : Option (Vec ℕ Global)) (u v : World) (so_far : HasTried request tried first u v) where
    many : length so_far.made ≡ length tried
    many = sym (length-map so_far.made (λ (ask : Ask). ask.address)) ∙ ap (λ (addresses : List (List ℕ)). length addresses) so_far.at

    front : (answered : Bool) (behind : List (List ℕ)) → addresses_in list ≡ tried ++ behind → (answered ≡ true → behind ≡ [])
        → AsksEach answered (addresses_in list) so_far.made
    front answered behind all none = record {
      undone = so_far.made;
      last = [];
      unasked = behind;
      asks_are = sym (append-nil so_far.made);
      at = all ∙ ap (λ addresses. addresses ++ behind) (sym so_far.at);
      of_surrogates = so_far.of_surrogates;
      passed = so_far.passed;
      ends = inl (refl, none);
    }

    first_pools : (first : Option (Vec ℕ Global)) (best : Answer) → IsFirst request first best v → IsPooled request (result_of first) best v
    first_pools None best is = is
    first_pools (Some frame) best is = (is.0, is.1, is.2)

    pub asked_all : addresses_in list ≡ tried → 1 ≤ length tried → HasAsked Surrogate list request (length tried) (result_of first) u v
    asked_all all some =
        asked_by (length tried) (result_of first) u v so_far.made so_far.made so_far.moved (filter_all so_far.made so_far.answered)
        so_far.of_surrogates so_far.of_request many
        (front (is_answer_of (result_of first)) [] (all ∙ sym (append-nil tried)) (λ answered. refl))
        (ends_answered (is_answer_of (result_of first)) so_far.made so_far.answered)
        (λ answered. some) (first_pools first (pooled so_far.made) so_far.first_is)

    module _ (w : World) (address : List ℕ) (behind : List (List ℕ)) (all : addresses_in list ≡ tried ++ address ∷ behind) where
      unanswered : filter is_answered (so_far.made ++ ask_of Surrogate address request Memory ∷ []) ≡ so_far.made
      unanswered = filter-append is_answered so_far.made (ask_of Surrogate address request Memory ∷ []) ∙ append-nil (filter is_answered so_far.made)
          ∙ filter_all so_far.made so_far.answered

      broken : (made : List Ask) → Moved request made u w → filter is_answered made ≡ so_far.made → EndsAtWant false made
          → HasAsked Surrogate list request (length tried) (Err LinkMemory) u w
      broken made moved kept ends =
          asked_by (length tried) (Err LinkMemory) u w made so_far.made moved kept so_far.of_surrogates so_far.of_request many
          (front false (address ∷ behind) all (λ answered. absurd (true≢false (sym answered)))) ends
          (λ answered. absurd (true≢false (sym answered))) tt

      -- memory ran out in the next one
      pub asked_in_part : AsksOnce Surrogate address request v w (Err LinkMemory) → HasAsked Surrogate list request (length tried) (Err LinkMemory) u w
      asked_in_part (inl moved) =
          broken (so_far.made ++ ask_of Surrogate address request Memory ∷ [])
          (moved_then request so_far.made (ask_of Surrogate address request Memory ∷ []) u v w so_far.moved moved) unanswered
          (ends_behind false so_far.made (ask_of Surrogate address request Memory ∷ []) so_far.answered (ends_broken (ask_of Surrogate address request Memory)))
      asked_in_part (inr moved) =
          broken (so_far.made ++ []) (moved_then request so_far.made [] u v w so_far.moved moved)
          (ap (filter is_answered) (append-nil so_far.made) ∙ filter_all so_far.made so_far.answered)
          (ends_behind false so_far.made [] so_far.answered (ends_none false))

      -- the next one tells that the operation is done
      pub asked_done : (frame : Vec ℕ Global) → ((reply : Message) → Spells reply frame.items → is_done reply ≡ true)
          → AsksOnce Surrogate address request v w (Ok frame) → HasAsked Surrogate list request (length tried + 1) (Ok frame) u w
      asked_done frame done once =
          let reply = once.0 in
          let last = ask_of Surrogate address request (Reply reply) in
          let made = so_far.made ++ last ∷ [] in
          let is = done reply once.1 in
          let of_surrogates = all_append (λ ask. ask.to ≡ Surrogate) so_far.made (last ∷ []) so_far.of_surrogates (refl, tt) in
          let answered = all_append (λ ask. is_answered ask ≡ true) so_far.made (last ∷ []) so_far.answered (refl, tt) in
          asked_by (length tried + 1) (Ok frame) u w made made
          (moved_then request so_far.made (last ∷ []) u v w so_far.moved once.4)
          (filter_all made answered)
          of_surrogates (all_append (λ ask. ask.request ≡ request) so_far.made (last ∷ []) so_far.of_request (refl, tt))
          (length-append so_far.made (last ∷ []) ∙ ap (λ n. n + 1) many)
          (record {
            undone = so_far.made;
            last = last ∷ [];
            unasked = behind;
            asks_are = refl;
            at = all ∙ sym (append_assoc tried (address ∷ []) behind)
                ∙ ap (λ addresses. (addresses ++ address ∷ []) ++ behind) (sym so_far.at)
                ∙ ap (λ addresses. addresses ++ behind) (sym (map-append (λ (ask : Ask). ask.address) so_far.made (last ∷ [])));
            of_surrogates = of_surrogates;
            passed = so_far.passed;
            ends = inr (last, refl, is);
          })
          (ends_answered true made answered)
          (λ answered. omega arith)
          (reply, (once.1, once.2, once.3), pooled-push so_far.made last ∙ better_done (pooled so_far.made) reply is)

-- ---- the one ask of the server

-- how many asks with this result were answered or failed
abbrev pub tries_of : Result (Vec ℕ Global) LinkError → ℕ
tries_of (Ok frame) = 1
tries_of (Err LinkFailed) = 1
tries_of (Err LinkMemory) = 0

pub passed_on : (address : List ℕ) (request : Message) (v w : World) (result : Result (Vec ℕ Global) LinkError)
    → AsksOnce Server address request v w result → HasAsked Server address request (tries_of result) result v w
passed_on address request v w (Ok frame) once = record {
  made = ask_of Server address request (Reply once.0) ∷ [];
  moved = once.4;
  asks = ((refl, refl), tt);
  round = record {
    tries = refl;
    asked = inl (record { of_server = ((refl, refl), tt); once = refl });
    ends = ends_answered true (ask_of Server address request (Reply once.0) ∷ []) (refl, tt);
  };
  some = λ answered. omega arith;
  pools = (once.0, (once.1, once.2, once.3), refl);
}
passed_on address request v w (Err LinkFailed) once = record {
  made = ask_of Server address request Failed ∷ [];
  moved = once;
  asks = ((refl, refl), tt);
  round = record {
    tries = refl;
    asked = inl (record { of_server = ((refl, refl), tt); once = refl });
    ends = ends_answered true (ask_of Server address request Failed ∷ []) (refl, tt);
  };
  some = λ answered. omega arith;
  pools = refl;
}
passed_on address request v w (Err LinkMemory) (inl moved) = record {
  made = ask_of Server address request Memory ∷ [];
  moved = moved;
  asks = tt;
  round = record {
    tries = refl;
    asked = inl (record { of_server = tt; once = refl });
    ends = ends_broken (ask_of Server address request Memory);
  };
  some = λ answered. absurd (true≢false (sym answered));
  pools = tt;
}
passed_on address request v w (Err LinkMemory) (inr moved) = record {
  made = [];
  moved = moved;
  asks = tt;
  round = record {
    tries = refl;
    asked = inl (record { of_server = tt; once = refl });
    ends = ends_none false;
  };
  some = λ answered. absurd (true≢false (sym answered));
  pools = tt;
}
