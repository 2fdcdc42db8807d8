-- What a sync asks of an entry, and so what it may ask.
use Rattle.std.proofs.Common.{◌≡◌, ◌⊎◌, inl, inr, ⊎_elim, ℕ, zero, suc, ◌+◌, ◌-◌, ◌<◌, ◌≤◌, Bool, true, false, List, [], ◌∷◌, ◌++◌, length, drop, Option, Some, None, refl, sym, ◌∙◌, ap, subst, arith, append_assoc}
use Rattle.std.specs.Prelude.{nat_lt, if◌then◌else◌}
use Rattle.std.specs.List.{AllByRecursion}
use Rattle.std.proofs.lemmas.Bool.{cases_lt}
use Rattle.std.proofs.lemmas.List.{append-nil, length-map}
use Rattle.tree_values.specs.Tree.{Volume}
use Rattle.tree_values.specs.Effects.{changed_all}
use Rattle.tree_values.specs.Lists.{IsIn}
use Rattle.vol_tree.proofs.Behind.{IsIn-left, IsIn-right}
use Rattle.mod_log.specs.declared.log.Entry.{Entry}
use Rattle.mod_log.specs.declared.sketching.SketchEntry.{SketchEntry}
use Rattle.mod_log.specs.Log.{Log, IsLog, AreEntriesOf}
use Rattle.mod_log.proofs.Sketches.{one_sketch_of}
use Rattle.wire_frames.specs.declared.message.Message.{Message}
use Rattle.wire_frames.specs.declared.message.Message.TheVariants.{Operate, Accepted, Stale, Unfit, Gap, Full, Done, Declined}
use Rattle.wire_frames.specs.Parts.{part_of}
use Rattle.wire_frames.specs.Frame.{number_of}
use Rattle.world_rules.specs.declared.asking.Peer.{Peer}
use Rattle.world_rules.specs.declared.asking.Peer.TheVariants.{Server, Surrogate}
use Rattle.world_rules.specs.declared.asking.Ask.{Ask}
use Rattle.world_rules.specs.declared.asking.Answer.{Answer}
use Rattle.world_rules.specs.declared.asking.Answer.TheVariants.{Reply, Failed}
use Rattle.world_rules.specs.Asking.{ask_of}
use Rattle.world_rules.specs.InStep.{parts_of}
use Rattle.world_rules.specs.Settling.{failures, IsSettling, BreaksSettling}
use Rattle.world_rules.proofs.Asks.{in_either, IsIn-last}
use Rattle.client_core.specs.declared.route.Route.{Route}
use Rattle.client_core.specs.declared.syncing.SyncEnd.{SyncEnd}
use Rattle.client_core.specs.declared.syncing.SyncEnd.TheVariants.{Unanswered}
use Rattle.client_core.specs.Trace.{Trace, nothing, followed, asking, changing}
use Rattle.client_core.specs.Syncing.{store_of, IsFirst, taken_upto, log_behind, end_by, IsLight, IsHeavy, IsNotDone, StoreIsDue, IsWindow, Ships, BreaksShipping, EntryTurn, Acknowledges, acknowledging, EndsSync, BreaksTurn, SyncEnds}
use Rattle.client_core.specs.Licence.{WasNotDone, Carries, MayBeAsked, AreLicensed, SyncsAreLicensed, DoneEntriesCostOperations, UnansweredStoresFailed}
use Rattle.client_core.proofs.Firsts.{first_in, first_pending}
use Rattle.client_core.proofs.Ships.{ships_reply, told_upto, goes_on}

-- ---- the asks of a last turn

none_acknowledging : (b : Bool) (after : Log) → (if b then changing after else nothing).asks ≡ []
none_acknowledging true after = refl
none_acknowledging false after = refl

last_asks : (before after : Log) (asks : List Ask) → (followed (asking asks) (acknowledging before after)).asks ≡ asks
last_asks before after asks = ap (λ (more : List Ask). asks ++ more) (none_acknowledging (nat_lt before.acked after.acked) after) ∙ append-nil asks

-- ---- what a settling asks

-- each of the asks is of this request
abbrev pub AllOf : Message → List Ask → Type 0
AllOf request asks = (ask : Ask) → IsIn ask asks → ask.request ≡ request

pub both_of : (request : Message) (xs ys : List Ask) → AllOf request xs → AllOf request ys → AllOf request (xs ++ ys)
both_of request xs ys first second ask among = ⊎_elim (λ (here : IsIn ask xs). first ask here) (λ (there : IsIn ask ys). second ask there) (in_either ask xs ys among)

module _ (to : Peer) (address : List ℕ) (request : Message) where
  one_of : (answer : Answer) → AllOf request (ask_of to address request answer ∷ [])
  one_of answer ask (inl is) = ap (λ (a : Ask). a.request) is
  one_of answer ask (inr among) = absurd among

  failures_of : (n : ℕ) → AllOf request (failures to address request n)
  failures_of zero ask among = absurd among
  failures_of (suc n) ask (inl is) = ap (λ (a : Ask). a.request) is
  failures_of (suc n) ask (inr among) = failures_of n ask among

  pub settling_of : (came : Option Message) (asks : List Ask) → IsSettling to address request came asks → AllOf request asks
  settling_of None asks settling = subst (AllOf request) (sym settling) (failures_of 8)
  settling_of (Some reply) asks settling =
      subst (AllOf request) (sym settling.4) (both_of request (failures to address request settling.0) (ask_of to address request (Reply reply) ∷ []) (failures_of settling.0) (one_of (Reply reply)))

  pub breaking_of : (asks : List Ask) → BreaksSettling to address request asks → AllOf request asks
  breaking_of asks breaks = by breaks.2
    where
      by : (asks ≡ failures to address request breaks.0) ⊎ ((answer : Answer) × (asks ≡ failures to address request breaks.0 ++ ask_of to address request answer ∷ [])) → AllOf request asks
      by (inl is) = subst (AllOf request) (sym is) (failures_of breaks.0)
      by (inr more) =
          subst (AllOf request) (sym more.1) (both_of request (failures to address request breaks.0) (ask_of to address request more.0 ∷ []) (failures_of breaks.0) (one_of more.0))

  -- what each of them was answered
  failures_failed : (n : ℕ) (ask : Ask) → IsIn ask (failures to address request n) → ask.answer ≡ Failed
  failures_failed zero ask among = absurd among
  failures_failed (suc n) ask (inl is) = ap (λ (a : Ask). a.answer) is
  failures_failed (suc n) ask (inr among) = failures_failed n ask among

  answered : (came : Option Message) (asks : List Ask) → IsSettling to address request came asks → (ask : Ask) → IsIn ask asks → (ask.answer ≡ Failed) ⊎ ((reply : Message) × (came ≡ Some reply) × (ask.answer ≡ Reply reply))
  answered None asks settling ask among = inl (failures_failed 8 ask (subst (IsIn ask) settling among))
  answered (Some reply) asks settling ask among =
      ⊎_elim (λ (here : IsIn ask (failures to address request settling.0)). inl (failures_failed settling.0 ask here)) (λ (last : IsIn ask (ask_of to address request (Reply reply) ∷ [])). inr (reply, refl, only last))
      (in_either ask (failures to address request settling.0) (ask_of to address request (Reply reply) ∷ []) (subst (IsIn ask) settling.4 among))
    where
      only : IsIn ask (ask_of to address request (Reply reply) ∷ []) → ask.answer ≡ Reply reply
      only (inl is) = ap (λ (a : Ask). a.answer) is
      only (inr among) = absurd among

-- ---- one entry of a log has each number

-- they are numbered on from this number
abbrev pub AreNumbered : ℕ → List Entry → Type 0
AreNumbered number [] = Unit {0}
AreNumbered number (entry ∷ entries) = (entry.seq ≡ number) × AreNumbered (number + 1) entries

pub numbered_entries : (number : ℕ) (volume : Volume) (entries : List Entry) → AreEntriesOf number volume entries → AreNumbered number entries
numbered_entries number volume [] all = tt
numbered_entries number volume (entry ∷ entries) all = (all.0.numbered, numbered_entries (number + 1) (changed_all entry.effects volume) entries all.1)

pub numbered_behind : (number count : ℕ) (entries : List Entry) → AreNumbered number entries → AreNumbered (number + count) (drop count entries)
numbered_behind number zero entries all = let same : number ≡ number + 0 = omega arith in subst (λ (n : ℕ). AreNumbered n entries) same all
numbered_behind number (suc count) [] all = tt
numbered_behind number (suc count) (entry ∷ entries) all =
    let same : number + 1 + count ≡ number + suc count = omega arith in subst (λ (n : ℕ). AreNumbered n (drop count entries)) same (numbered_behind (number + 1) count entries all.1)

-- what a log acknowledges leaves the numbers of the others
pub numbered_left : (log : Log) (upto : ℕ) → log.acked ≤ upto → AreNumbered (log.acked + 1) log.pending → AreNumbered (upto + 1) (drop (upto - log.acked) log.pending)
numbered_left log upto low all =
    let next : log.acked + 1 + (upto - log.acked) ≡ upto + 1 = omega (arith, low) in
    subst (λ (n : ℕ). AreNumbered n (drop (upto - log.acked) log.pending)) next (numbered_behind (log.acked + 1) (upto - log.acked) log.pending all)

numbers_from : (number : ℕ) (entries : List Entry) (entry : Entry) → AreNumbered number entries → IsIn entry entries → number ≤ entry.seq
numbers_from number [] entry are among = absurd among
numbers_from number (first ∷ entries) entry are (inl is) = omega (arith, ap (λ (e : Entry). e.seq) is, are.0)
numbers_from number (first ∷ entries) entry are (inr among) = omega (arith, numbers_from (number + 1) entries entry are.1 among)

-- of these entries no two have one number
abbrev pub AreApart : List Entry → Type 0
AreApart entries = (a b : Entry) → IsIn a entries → IsIn b entries → a.seq ≡ b.seq → a ≡ b

pub numbered_apart : (number : ℕ) (entries : List Entry) → AreNumbered number entries → AreApart entries
numbered_apart number [] are a b here there same = absurd here
numbered_apart number (first ∷ entries) are a b (inl is) (inl also) same = is ∙ sym also
numbered_apart number (first ∷ entries) are a b (inl is) (inr there) same =
    absurd (omega (arith, ap (λ (e : Entry). e.seq) is, are.0, same, numbers_from (number + 1) entries b are.1 there))
numbered_apart number (first ∷ entries) are a b (inr here) (inl also) same =
    absurd (omega (arith, ap (λ (e : Entry). e.seq) also, are.0, same, numbers_from (number + 1) entries a are.1 here))
numbered_apart number (first ∷ entries) are a b (inr here) (inr there) same = numbered_apart (number + 1) entries are.1 a b here there same

pub dropped_in : (n : ℕ) (entries : List Entry) (entry : Entry) → IsIn entry (drop n entries) → IsIn entry entries
dropped_in zero entries entry among = among
dropped_in (suc n) [] entry among = absurd among
dropped_in (suc n) (first ∷ entries) entry among = inr (dropped_in n entries entry among)

all_in : (P : Entry → Type 0) (entries : List Entry) (entry : Entry) → AllByRecursion P entries → IsIn entry entries → P entry
all_in P [] entry all among = absurd among
all_in P (first ∷ entries) entry all (inl is) = subst P (sym is) all.0
all_in P (first ∷ entries) entry all (inr among) = all_in P entries entry all.1 among

-- each number of a front is that of one of its entries
numbered_in : (number : ℕ) (front left : List Entry) (n : ℕ) → AreNumbered number (front ++ left) → number ≤ n → n < number + length front → (entry : Entry) × IsIn entry front × (entry.seq ≡ n)
numbered_in number [] left n are low high = absurd (omega (arith, low, high))
numbered_in number (first ∷ front) left n are low high = elim (cases_lt number n) [
  | inl above ↦ let more = numbered_in (number + 1) front left n are.1 (omega (arith, above)) (omega (arith, high)) in (more.0, inr more.1, more.2)
  | inr below ↦ (first, inl refl, omega (arith, are.0, low, below))
]

numbered_first : (number : ℕ) (pending : List Entry) (entry : Entry) → AreNumbered number pending → IsFirst entry pending → entry.seq ≡ number
numbered_first number [] entry are first = absurd first
numbered_first number (next ∷ entries) entry are first = ap (λ (e : Entry). e.seq) (sym first) ∙ are.0

-- the pending entries of a log have the numbers behind the acknowledged one
abbrev pub IsNumbered : Log → Type 0
IsNumbered log = AreNumbered (log.acked + 1) log.pending

pub log_numbered : (log : Log) → IsLog log → IsNumbered log
log_numbered log is = numbered_entries (log.acked + 1) log.base log.pending is.entries

-- ---- the asks of a turn

module _ (client : ℕ) (route : Route) where
  -- those of the store of its window, or none
  abbrev StoreAsks : List Entry → Entry → List Ask → Type 0
  StoreAsks pending entry asks = (asks ≡ []) ⊎ ((chosen : List Entry) × IsWindow client route pending chosen × AllOf (store_of client entry.seq chosen) asks)

  -- those of an operation of the entry, or, behind those after which it is due, those of the store
  abbrev TurnAsks : List Entry → Entry → List Ask → Type 0
  TurnAsks pending entry asks =
      ((sketched : SketchEntry) × (sketched.seq ≡ entry.seq) × AllOf (Operate client sketched) asks)
      ⊎ ((before : List Ask) × (settling : List Ask) × StoreIsDue client route entry before × StoreAsks pending entry settling × (asks ≡ before ++ settling))

  ships_turn : (pending : List Entry) (entry : Entry) (came : Option Message) (asks : List Ask) → Ships client route pending entry came asks → TurnAsks pending entry asks
  ships_turn pending entry came asks (inl done) =
      inl (done.1.1, done.1.2.sketch.numbered, settling_of Surrogate done.1.0 (Operate client done.1.1) came asks done.1.3)
  ships_turn pending entry came asks (inr stored) =
      inr (stored.0, stored.1, stored.3, inr (stored.2, stored.4, settling_of Server route.server (store_of client entry.seq stored.2) came stored.1 stored.5), stored.6)

  breaks_turn : (pending : List Entry) (entry : Entry) (asks : List Ask) → BreaksShipping client route pending entry asks → TurnAsks pending entry asks
  breaks_turn pending entry asks (inl broken) = inl (broken.1, broken.2.sketch.numbered, breaking_of Surrogate broken.0 (Operate client broken.1) asks broken.3)
  breaks_turn pending entry asks (inr (inl due)) = inr (asks, [], due, inl refl, sym (append-nil asks))
  breaks_turn pending entry asks (inr (inr stored)) =
      inr (stored.0, stored.1, stored.3, inr (stored.2, stored.4, breaking_of Server route.server (store_of client entry.seq stored.2) stored.1 stored.5), stored.6)

  -- each is of the entry's number
  due_number : (entry : Entry) (before : List Ask) → StoreIsDue client route entry before → (ask : Ask) → IsIn ask before → number_of ask.request ≡ entry.seq
  due_number entry before (inl heavy) ask among = absurd (subst (IsIn ask) heavy.1 among)
  due_number entry before (inr tried) ask among =
      let settles = tried.2 in
      ap number_of (settling_of Surrogate settles.0 (Operate client settles.1) tried.0 before settles.3 ask among) ∙ settles.2.sketch.numbered

  store_number : (pending : List Entry) (entry : Entry) (settling : List Ask) → StoreAsks pending entry settling → (ask : Ask) → IsIn ask settling → number_of ask.request ≡ entry.seq
  store_number pending entry settling (inl none) ask among = absurd (subst (IsIn ask) none among)
  store_number pending entry settling (inr some) ask among = ap number_of (some.2 ask among)

  turn_number : (pending : List Entry) (entry : Entry) (asks : List Ask) → TurnAsks pending entry asks → (ask : Ask) → IsIn ask asks → number_of ask.request ≡ entry.seq
  turn_number pending entry asks (inl tried) ask among = ap number_of (tried.2 ask among) ∙ tried.1
  turn_number pending entry asks (inr stored) ask among =
      ⊎_elim (λ (here : IsIn ask stored.0). due_number entry stored.0 stored.2 ask here) (λ (there : IsIn ask stored.1). store_number pending entry stored.1 stored.3 ask there)
      (in_either ask stored.0 stored.1 (subst (IsIn ask) stored.4 among))

  -- ---- licences

  module _ (entries : List Entry) where
    pub licensed_then : (seen xs ys : List Ask) → AreLicensed client route entries seen xs → AreLicensed client route entries (seen ++ xs) ys → AreLicensed client route entries seen (xs ++ ys)
    licensed_then seen [] ys first second = subst (λ (s : List Ask). AreLicensed client route entries s ys) (append-nil seen) second
    licensed_then seen (x ∷ xs) ys first second =
        (first.0, licensed_then (seen ++ x ∷ []) xs ys first.1 (subst (λ (s : List Ask). AreLicensed client route entries s ys) (sym (append_assoc seen (x ∷ []) xs)) second))

    each_licensed : (seen asks : List Ask) → ((ask : Ask) (more : List Ask) → IsIn ask asks → MayBeAsked client route entries (seen ++ more) ask) → AreLicensed client route entries seen asks
    each_licensed seen [] each = tt
    each_licensed seen (x ∷ xs) each = (
      subst (λ (s : List Ask). MayBeAsked client route entries s x) (append-nil seen) (each x [] (inl refl)),
      each_licensed (seen ++ x ∷ []) xs
          (λ ask more among. subst (λ (s : List Ask). MayBeAsked client route entries s ask) (sym (append_assoc seen (x ∷ []) more)) (each ask (x ∷ more) (inr among))),
    )

    -- asks that carry no entry always
    pub uncarried_licensed : (seen asks : List Ask) → ((ask : Ask) → IsIn ask asks → (number : ℕ) → Carries number ask.request → ⊥) → AreLicensed client route entries seen asks
    uncarried_licensed seen asks none = each_licensed seen asks (λ ask more among entry address other member carries light. absurd (none ask among entry.seq carries))

    -- so an operation
    operations_licensed : (sketched : SketchEntry) (seen asks : List Ask) → AllOf (Operate client sketched) asks → AreLicensed client route entries seen asks
    operations_licensed sketched seen asks all = uncarried_licensed seen asks (λ ask among number carries. subst (Carries number) (all ask among) carries)

    due_licensed : (entry : Entry) (seen before : List Ask) → StoreIsDue client route entry before → AreLicensed client route entries seen before
    due_licensed entry seen before (inl heavy) = subst (AreLicensed client route entries seen) (sym heavy.1) tt
    due_licensed entry seen before (inr tried) =
        let settles = tried.2 in
        operations_licensed settles.1 seen before (settling_of Surrogate settles.0 (Operate client settles.1) tried.0 before settles.3)

    -- an operation that was settled and not done
    not_done : (address : List ℕ) (sketched : SketchEntry) (came : Option Message) (seen before more : List Ask) → IsNotDone came → IsSettling Surrogate address (Operate client sketched) came before
        → WasNotDone client address sketched ((seen ++ before) ++ more)
    not_done address sketched None seen before more none settling =
        inr (seen, more, append_assoc seen before more ∙ ap (λ (asks : List Ask). seen ++ (asks ++ more)) settling)
    not_done address sketched (Some (Declined of number cause)) seen before more none settling =
        let same : Declined of number cause ≡ Declined client sketched.seq cause = λ i. Declined (sym settling.3.1 i) (sym settling.3.2 i) cause in
        let last = ask_of Surrogate address (Operate client sketched) (Reply (Declined of number cause)) in
        let here : IsIn last before = subst (IsIn last) (sym settling.4) (IsIn-last last (failures Surrogate address (Operate client sketched) settling.0)) in
        let among : IsIn last ((seen ++ before) ++ more) = IsIn-left last (seen ++ before) more (IsIn-right last seen before here) in
        inl (cause, subst (λ (m : Message). IsIn (ask_of Surrogate address (Operate client sketched) (Reply m)) ((seen ++ before) ++ more)) same among)
    not_done address sketched (Some _) seen before more none settling = absurd none

    one_address : (x : Option (List ℕ)) (a b : List ℕ) → x ≡ Some a → x ≡ Some b → a ≡ b
    one_address x a b is also = cc (sym is ∙ also)

    -- The store of a window, where it is due: no other entry has the first one's number, each light one has one operation, and those behind
    -- the first are heavy.
    module _ (pending : List Entry) (entry : Entry) (only : (other : Entry) → IsIn other entries → other.seq ≡ entry.seq → other ≡ entry)
        (behind : (chosen : List Entry) → IsWindow client route pending chosen → (other : Entry) → IsIn other entries → entry.seq < other.seq → other.seq < entry.seq + length (parts_of chosen) → IsHeavy client route other) where
      stores_licensed : (seen before settling : List Ask) → StoreIsDue client route entry before → StoreAsks pending entry settling → AreLicensed client route entries (seen ++ before) settling
      stores_licensed seen before settling due (inl none) = subst (AreLicensed client route entries (seen ++ before)) (sym none) tt
      stores_licensed seen before settling due (inr some) = each_licensed (seen ++ before) settling (λ ask more among other address sketched member carries light.
          let within : Carries other.seq (store_of client entry.seq some.0) = subst (Carries other.seq) (some.2 ask among) carries in
          elim (cases_lt entry.seq other.seq) [
            | inl above ↦ absurd (behind some.0 some.1 other member above within.1 address sketched light)
            | inr below ↦
                let number : other.seq ≡ entry.seq = omega (arith, below, within.0) in
                let same : other ≡ entry = only other member number in
                (ap number_of (some.2 ask among) ∙ sym number, by due more address sketched (subst (λ (e : Entry). IsLight client route e address sketched) same light))
          ])
        where
          by : StoreIsDue client route entry before → (more : List Ask) (address : List ℕ) (sketched : SketchEntry) → IsLight client route entry address sketched
              → WasNotDone client address sketched ((seen ++ before) ++ more)
          by (inl heavy) more address sketched light = absurd (heavy.0 address sketched light)
          by (inr tried) more address sketched light =
              let settles = tried.2 in
              let place : settles.0 ≡ address = one_address route.surrogate settles.0 address settles.2.surrogate light.surrogate in
              let one : settles.1 ≡ sketched = one_sketch_of entry settles.1 sketched settles.2.sketch light.sketch in
              subst (λ (k : SketchEntry). WasNotDone client address k ((seen ++ before) ++ more)) one
              (subst (λ (a : List ℕ). WasNotDone client a settles.1 ((seen ++ before) ++ more)) place
              (not_done settles.0 settles.1 tried.0 seen before more tried.1 settles.3))

      turn_licensed : (seen asks : List Ask) → TurnAsks pending entry asks → AreLicensed client route entries seen asks
      turn_licensed seen asks (inl tried) = operations_licensed tried.0 seen asks tried.2
      turn_licensed seen asks (inr stored) =
          subst (AreLicensed client route entries seen) (sym stored.4)
          (licensed_then seen stored.0 stored.1 (due_licensed entry seen stored.0 stored.2) (stores_licensed seen stored.0 stored.1 stored.2 stored.3))

  -- ---- entries that are done

  -- where the operation was done among these asks, each of the entry's number is of it
  abbrev CostsOperations : Entry → List ℕ → SketchEntry → List Ask → Type 0
  CostsOperations entry address sketched asks =
      IsIn (ask_of Surrogate address (Operate client sketched) (Reply (Done client entry.seq))) asks → (ask : Ask) → IsIn ask asks → number_of ask.request ≡ entry.seq
      → ask.request ≡ Operate client sketched

  module _ (entry : Entry) (address : List ℕ) (sketched : SketchEntry) (light : IsLight client route entry address sketched) where
    abbrev done_ask : Ask
    done_ask = ask_of Surrogate address (Operate client sketched) (Reply (Done client entry.seq))

    -- an operation that was settled and not done was not answered so
    never_done : (to : List ℕ) (operation : Message) (came : Option Message) (before : List Ask) → IsNotDone came → IsSettling Surrogate to operation came before → IsIn done_ask before → ⊥
    never_done to operation came before none settling among = by (answered Surrogate to operation came before settling done_ask among)
      where
        no_done : (reply : Message) → IsNotDone (Some reply) → Done client entry.seq ≡ reply → ⊥
        no_done reply not is = subst (λ (m : Message). IsNotDone (Some m)) (sym is) not

        by : (done_ask.answer ≡ Failed) ⊎ ((reply : Message) × (came ≡ Some reply) × (done_ask.answer ≡ Reply reply)) → ⊥
        by (inl failed) = absurd (cc failed)
        by (inr replied) =
            let same : Done client entry.seq ≡ replied.0 = cc (replied.2) in
            no_done replied.0 (subst IsNotDone replied.1 none) same

    turn_costs : (pending : List Entry) (asks : List Ask) → TurnAsks pending entry asks → CostsOperations entry address sketched asks
    turn_costs pending asks (inl tried) = λ done ask among number. tried.2 ask among ∙ sym (tried.2 done_ask done)
    turn_costs pending asks (inr stored) = λ done ask among number. absurd (by (in_either done_ask stored.0 stored.1 (subst (IsIn done_ask) stored.4 done)))
      where
        due : StoreIsDue client route entry stored.0 → IsIn done_ask stored.0 → ⊥
        due (inl heavy) here = absurd (subst (IsIn done_ask) heavy.1 here)
        due (inr tried) here = never_done tried.2.0 (Operate client tried.2.1) tried.0 stored.0 tried.1 tried.2.3 here

        store : StoreAsks pending entry stored.1 → IsIn done_ask stored.1 → ⊥
        store (inl none) there = absurd (subst (IsIn done_ask) none there)
        store (inr some) there = let is : Operate client sketched ≡ store_of client entry.seq some.0 = some.2 done_ask there in absurd (cc is)

        by : IsIn done_ask stored.0 ⊎ IsIn done_ask stored.1 → ⊥
        by (inl here) = due stored.2 here
        by (inr there) = store stored.3 there

    -- the asks of other turns have other numbers
    joined_costs : (last : ℕ) (xs ys : List Ask) → ((ask : Ask) → IsIn ask xs → number_of ask.request ≤ last) → ((ask : Ask) → IsIn ask ys → number_of ask.request ≡ last + 1)
        → CostsOperations entry address sketched xs → CostsOperations entry address sketched ys → CostsOperations entry address sketched (xs ++ ys)
    joined_costs last xs ys low next first second done ask among number = by (in_either done_ask xs ys done) (in_either ask xs ys among)
      where
        by : IsIn done_ask xs ⊎ IsIn done_ask ys → IsIn ask xs ⊎ IsIn ask ys → ask.request ≡ Operate client sketched
        by (inl here) (inl also) = first here ask also number
        by (inr there) (inr also) = second there ask also number
        by (inl here) (inr also) = absurd (omega (arith, low done_ask here, next ask also, number, light.sketch.numbered))
        by (inr there) (inl also) = absurd (omega (arith, next done_ask there, low ask also, number, light.sketch.numbered))

  -- ---- turns in a row

  -- a turn that goes on acknowledges more
  turn_rises : (middle after : Log) (asks : List Ask) → EntryTurn client route middle after None asks → middle.acked < after.acked
  turn_rises middle after asks turn =
      let on = goes_on client route middle.pending turn.entry middle.acked turn.number (after.acked + 1) turn.came (sym turn.end_is) (ships_reply client route middle.pending turn.entry turn.came asks turn.ships) in
      omega (arith, on.2, ap (λ (log : Log). log.acked) turn.after_is)

  -- the log after a turn is numbered as the one before it, and its pending entries were pending
  turn_log : (middle after : Log) (end : Option SyncEnd) (asks : List Ask) → IsNumbered middle → EntryTurn client route middle after end asks → IsNumbered after × ((entry : Entry) → IsIn entry after.pending → IsIn entry middle.pending)
  turn_log middle after end asks is turn =
      let some : 1 ≤ length middle.pending = first_pending middle.pending turn.entry turn.first in
      let upto : ℕ = taken_upto middle.acked turn.came in
      let told = told_upto client route middle.pending turn.entry middle.acked turn.number turn.came some (ships_reply client route middle.pending turn.entry turn.came asks turn.ships) in (
        subst IsNumbered (sym turn.after_is) (numbered_left middle upto told.0 is),
        λ entry among. dropped_in (upto - middle.acked) middle.pending entry (subst (λ (log : Log). IsIn entry log.pending) turn.after_is among),
      )

  -- and so is the log after acknowledgements
  acked_log : (count : ℕ) (before after : Log) (trace : Trace) → IsNumbered before → Acknowledges client route count before after trace → IsNumbered after × ((entry : Entry) → IsIn entry after.pending → IsIn entry before.pending)
  acked_log zero before after trace is so = (subst IsNumbered (sym so.0) is, λ entry among. subst (λ (log : Log). IsIn entry log.pending) so.0 among)
  acked_log (suc count) before after trace is so =
      let earlier = acked_log count before so.0 so.1 is so.3 in
      let turn = turn_log so.0 after None so.2 earlier.0 so.4 in
      (turn.0, λ entry among. earlier.1 entry (turn.1 entry among))

  asks_of : (earlier trace : Trace) (asks : List Ask) → trace.asks ≡ earlier.asks ++ (asks ++ []) → trace.asks ≡ earlier.asks ++ asks
  asks_of earlier trace asks is = is ∙ ap (λ (more : List Ask). earlier.asks ++ more) (append-nil asks)

  -- of a log whose entries are numbered, and that stand among these entries, of which no two have one number
  module _ (before : Log) (is : IsNumbered before) (entries : List Entry) (apart : AreApart entries) (hold : (entry : Entry) → IsIn entry before.pending → IsIn entry entries) where
    only_one : (entry : Entry) → IsIn entry entries → (other : Entry) → IsIn other entries → other.seq ≡ entry.seq → other ≡ entry
    only_one entry among other member same = apart other entry member among same

    -- of the first pending entry of a later log
    module _ (count : ℕ) (middle : Log) (earlier : Trace) (so : Acknowledges client route count before middle earlier) (entry : Entry) (first : IsFirst entry middle.pending) where
      later : IsNumbered middle × ((entry : Entry) → IsIn entry middle.pending → IsIn entry before.pending)
      later = acked_log count before middle earlier is so

      was_pending : IsIn entry entries
      was_pending = hold entry (later.1 entry (first_in middle.pending entry first))

      has_number : entry.seq ≡ middle.acked + 1
      has_number = numbered_first (middle.acked + 1) middle.pending entry later.0 first

      -- those behind it in its window are heavy
      behind : (chosen : List Entry) → IsWindow client route middle.pending chosen → (other : Entry) → IsIn other entries → entry.seq < other.seq → other.seq < entry.seq + length (parts_of chosen) → IsHeavy client route other
      behind chosen window other member above within = by chosen window.front window.fits.heavy within
        where
          by : (chosen : List Entry) → middle.pending ≡ chosen ++ window.left → AllByRecursion (IsHeavy client route) (drop 1 chosen) → other.seq < entry.seq + length (parts_of chosen) → IsHeavy client route other
          by [] front heavy within = absurd (omega (arith, above, within))
          by (c ∷ cs) front heavy within =
              let are : AreNumbered (middle.acked + 1) ((c ∷ cs) ++ window.left) = subst (AreNumbered (middle.acked + 1)) front later.0 in
              let long : length (parts_of cs) ≡ length cs = length-map cs (λ (e : Entry). part_of e.effects e.base) in
              let found = numbered_in (middle.acked + 1 + 1) cs window.left other.seq are.1 (omega (arith, has_number, above)) (omega (arith, has_number, within, long)) in
              let among : IsIn found.0 middle.pending = subst (IsIn found.0) (sym front) (IsIn-left found.0 (c ∷ cs) window.left (inr found.1)) in
              subst (IsHeavy client route) (only_one other member found.0 (hold found.0 (later.1 found.0 among)) found.2) (all_in (IsHeavy client route) cs found.0 heavy found.1)

      next_licensed : (seen asks : List Ask) → TurnAsks middle.pending entry asks → AreLicensed client route entries seen earlier.asks → AreLicensed client route entries seen (earlier.asks ++ asks)
      next_licensed seen asks turn so_far =
          licensed_then entries seen earlier.asks asks so_far (turn_licensed entries middle.pending entry (only_one entry was_pending) behind (seen ++ earlier.asks) asks turn)

      next_numbers : (asks : List Ask) → TurnAsks middle.pending entry asks → (ask : Ask) → IsIn ask asks → number_of ask.request ≡ middle.acked + 1
      next_numbers asks turn ask among = turn_number middle.pending entry asks turn ask among ∙ has_number

      next_costs : (done : Entry) (address : List ℕ) (sketched : SketchEntry) → IsLight client route done address sketched → IsIn done entries → (asks : List Ask) → TurnAsks middle.pending entry asks → CostsOperations done address sketched asks
      next_costs done address sketched light member asks turn answered ask among number =
          let same : entry ≡ done = only_one done member entry was_pending (sym (turn_number middle.pending entry asks turn ask among) ∙ number) in
          turn_costs done address sketched light middle.pending asks (subst (λ (e : Entry). TurnAsks middle.pending e asks) same turn) answered ask among number

    acked_licensed : (seen : List Ask) (count : ℕ) (after : Log) (trace : Trace) → Acknowledges client route count before after trace → AreLicensed client route entries seen trace.asks
    acked_licensed seen zero after trace so = subst (AreLicensed client route entries seen) (sym (ap (λ (n : Trace). n.asks) so.1)) tt
    acked_licensed seen (suc count) after trace so =
        let turn = so.4 in
        subst (AreLicensed client route entries seen) (sym (asks_of so.1 trace so.2 (ap (λ (n : Trace). n.asks) so.5)))
        (next_licensed count so.0 so.1 so.3 turn.entry turn.first seen so.2 (ships_turn so.0.pending turn.entry turn.came so.2 turn.ships) (acked_licensed seen count so.0 so.1 so.3))

    acked_numbers : (count : ℕ) (after : Log) (trace : Trace) → Acknowledges client route count before after trace → (ask : Ask) → IsIn ask trace.asks → number_of ask.request ≤ after.acked
    acked_numbers zero after trace so ask among = absurd (subst (IsIn ask) (ap (λ (n : Trace). n.asks) so.1) among)
    acked_numbers (suc count) after trace so ask among =
        let turn = so.4 in
        let rises : so.0.acked < after.acked = turn_rises so.0 after so.2 turn in
        ⊎_elim (λ (here : IsIn ask so.1.asks). omega (arith, rises, acked_numbers count so.0 so.1 so.3 ask here))
        (λ (there : IsIn ask so.2). omega (arith, rises, next_numbers count so.0 so.1 so.3 turn.entry turn.first so.2 (ships_turn so.0.pending turn.entry turn.came so.2 turn.ships) ask there))
        (in_either ask so.1.asks so.2 (subst (IsIn ask) (asks_of so.1 trace so.2 (ap (λ (n : Trace). n.asks) so.5)) among))

    module _ (done : Entry) (address : List ℕ) (sketched : SketchEntry) (member : IsIn done entries) (light : IsLight client route done address sketched) where
      acked_costs : (count : ℕ) (after : Log) (trace : Trace) → Acknowledges client route count before after trace → CostsOperations done address sketched trace.asks
      acked_costs zero after trace so = λ said ask among number. absurd (subst (IsIn ask) (ap (λ (n : Trace). n.asks) so.1) among)
      acked_costs (suc count) after trace so =
          let turn = so.4 in
          let asked = ships_turn so.0.pending turn.entry turn.came so.2 turn.ships in
          subst (CostsOperations done address sketched) (sym (asks_of so.1 trace so.2 (ap (λ (n : Trace). n.asks) so.5)))
          (joined_costs done address sketched light so.0.acked so.1.asks so.2 (acked_numbers count so.0 so.1 so.3) (next_numbers count so.0 so.1 so.3 turn.entry turn.first so.2 asked)
          (acked_costs count so.0 so.1 so.3) (next_costs count so.0 so.1 so.3 turn.entry turn.first done address sketched light member so.2 asked))

    -- ---- whole syncs

    module _ (after kept : Log) (end : SyncEnd) (trace : Trace) where
      -- acknowledgements, and the asks of one more turn at most
      abbrev IsSync : Type 0
      IsSync = (count : ℕ) × (middle : Log) × (earlier : Trace) × (last : List Ask) × Acknowledges client route count before middle earlier
          × ((last ≡ []) ⊎ ((entry : Entry) × IsFirst entry middle.pending × TurnAsks middle.pending entry last)) × (trace.asks ≡ earlier.asks ++ last)

      -- the asks of a last turn
      abbrev LastTurn : Log → List Ask → Type 0
      LastTurn middle last = (last ≡ []) ⊎ ((entry : Entry) × IsFirst entry middle.pending × TurnAsks middle.pending entry last)

      of_turn : (middle : Log) (ended : Option SyncEnd) (last : Trace) (asks : List Ask) → last.asks ≡ asks → EntryTurn client route middle after ended asks → LastTurn middle last.asks
      of_turn middle ended last asks same turn =
          subst (LastTurn middle) (sym same) (inr (turn.entry, turn.first, ships_turn middle.pending turn.entry turn.came asks turn.ships))

      is_sync : SyncEnds client route before end after kept trace → IsSync
      is_sync (inl turn) = (turn.0.0, turn.0.1, turn.0.2, turn.0.3.asks, turn.0.4, by turn.0.5, ap (λ (n : Trace). n.asks) turn.0.6)
        where
          by : EndsSync client route turn.0.1 end after turn.0.3 → LastTurn turn.0.1 turn.0.3.asks
          by (inl synced) = inl (ap (λ (n : Trace). n.asks) synced.3)
          by (inr last) = of_turn turn.0.1 (Some end) turn.0.3 last.0 (ap (λ (n : Trace). n.asks) last.2 ∙ last_asks turn.0.1 after last.0) last.1
      is_sync (inr broken) = (broken.1.0, broken.1.1, broken.1.2, broken.1.3.asks, broken.1.4, by broken.1.5, ap (λ (n : Trace). n.asks) broken.1.6)
        where
          by : BreaksTurn client route broken.1.1 after broken.1.3 → LastTurn broken.1.1 broken.1.3.asks
          by (inl none) = inl (ap (λ (n : Trace). n.asks) none.1)
          by (inr (inl shipped)) =
              let last = shipped.1 in
              subst (LastTurn broken.1.1) (sym (ap (λ (n : Trace). n.asks) last.4)) (inr (last.0, last.2, breaks_turn broken.1.1.pending last.0 last.1 last.3))
          by (inr (inr unkept)) = of_turn broken.1.1 (Some unkept.0) broken.1.3 unkept.1 (ap (λ (n : Trace). n.asks) unkept.4 ∙ append-nil unkept.1) unkept.2

      licensed_by : (seen : List Ask) → IsSync → AreLicensed client route entries seen trace.asks
      licensed_by seen sync = subst (AreLicensed client route entries seen) (sym sync.6) (by sync.5)
        where
          so_far : AreLicensed client route entries seen sync.2.asks
          so_far = acked_licensed seen sync.0 sync.1 sync.2 sync.4

          by : LastTurn sync.1 sync.3 → AreLicensed client route entries seen (sync.2.asks ++ sync.3)
          by (inl none) = licensed_then entries seen sync.2.asks sync.3 so_far (subst (AreLicensed client route entries (seen ++ sync.2.asks)) (sym none) tt)
          by (inr turn) = next_licensed sync.0 sync.1 sync.2 sync.4 turn.0 turn.1 seen sync.3 turn.2 so_far

      costs_by : (done : Entry) (address : List ℕ) (sketched : SketchEntry) → IsIn done entries → IsLight client route done address sketched → IsSync → CostsOperations done address sketched trace.asks
      costs_by done address sketched member light sync = subst (CostsOperations done address sketched) (sym sync.6) (by sync.5)
        where
          so_far : CostsOperations done address sketched sync.2.asks
          so_far = acked_costs done address sketched member light sync.0 sync.1 sync.2 sync.4

          by : LastTurn sync.1 sync.3 → CostsOperations done address sketched (sync.2.asks ++ sync.3)
          by (inl none) = subst (CostsOperations done address sketched) (sym (ap (λ (more : List Ask). sync.2.asks ++ more) none ∙ append-nil sync.2.asks)) so_far
          by (inr turn) =
              joined_costs done address sketched light sync.1.acked sync.2.asks sync.3 (acked_numbers sync.0 sync.1 sync.2 sync.4) (next_numbers sync.0 sync.1 sync.2 sync.4 turn.0 turn.1 sync.3 turn.2)
              so_far (next_costs sync.0 sync.1 sync.2 sync.4 turn.0 turn.1 done address sketched light member sync.3 turn.2)

  -- an ask of a store that carries a light entry has its number
  carried_number : (entries : List Entry) (seen asks : List Ask) → AreLicensed client route entries seen asks → (ask : Ask) → IsIn ask asks
      → (entry : Entry) (address : List ℕ) (sketched : SketchEntry) → IsIn entry entries → Carries entry.seq ask.request → IsLight client route entry address sketched → number_of ask.request ≡ entry.seq
  carried_number entries seen [] licensed ask among entry address sketched member carries light = absurd among
  carried_number entries seen (x ∷ asks) licensed ask (inl is) entry address sketched member carries light =
      subst (λ (a : Ask). number_of a.request ≡ entry.seq) (sym is) (licensed.0 entry address sketched member (subst (λ (a : Ask). Carries entry.seq a.request) is carries) light).0
  carried_number entries seen (x ∷ asks) licensed ask (inr among) entry address sketched member carries light =
      carried_number entries (seen ++ x ∷ []) asks licensed.1 ask among entry address sketched member carries light

-- ---- the laws

module _ (client : ℕ) (route : Route) (before after kept : Log) (end : SyncEnd) (trace : Trace) (is : IsNumbered before) (sync : SyncEnds client route before end after kept trace) where
  -- among any entries, of which no two have one number, behind whatever was asked before
  pub numbered_licensed : (entries : List Entry) → AreApart entries → ((entry : Entry) → IsIn entry before.pending → IsIn entry entries) → (seen : List Ask) → AreLicensed client route entries seen trace.asks
  numbered_licensed entries apart hold seen =
      licensed_by client route before is entries apart hold after kept end trace seen (is_sync client route before is entries apart hold after kept end trace sync)

  pub pending_licensed : AreLicensed client route before.pending [] trace.asks
  pending_licensed = numbered_licensed before.pending (numbered_apart (before.acked + 1) before.pending is) (λ entry among. among) []

  pub pending_costs : (done : Entry) (address : List ℕ) (sketched : SketchEntry) → IsIn done before.pending → IsLight client route done address sketched
      → IsIn (ask_of Surrogate address (Operate client sketched) (Reply (Done client done.seq))) trace.asks → (ask : Ask) → IsIn ask trace.asks
      → (number_of ask.request ≡ done.seq) ⊎ Carries done.seq ask.request → ask.request ≡ Operate client sketched
  pending_costs done address sketched member light answered ask among of =
      let apart = numbered_apart (before.acked + 1) before.pending is in
      let so = is_sync client route before is before.pending apart (λ entry among. among) after kept end trace sync in
      costs_by client route before is before.pending apart (λ entry among. among) after kept end trace done address sketched member light so answered ask among
      (⊎_elim (λ (same : number_of ask.request ≡ done.seq). same)
      (λ (carries : Carries done.seq ask.request). carried_number client route before.pending [] trace.asks pending_licensed ask among done address sketched member carries light)
      of)

pub syncs_licensed : SyncsAreLicensed
syncs_licensed client route before after kept end trace is sync = pending_licensed client route before after kept end trace (log_numbered before is) sync

pub done_costs : DoneEntriesCostOperations
done_costs client route before after kept end trace is sync done address sketched member light answered ask among of =
    pending_costs client route before after kept end trace (log_numbered before is) sync done address sketched member light answered ask among of

pub unanswered_failed : UnansweredStoresFailed
unanswered_failed client route before after number trace sync = by sync.5
  where
    middle : Log
    middle = sync.1

    Failed_so : Type 0
    Failed_so = (entry : Entry) × (chosen : List Entry) × (front : List Ask) × IsFirst entry after.pending × (number ≡ entry.seq) × IsWindow client route after.pending chosen
        × (trace.asks ≡ front ++ failures Server route.server (store_of client number chosen) 8)

    replied : (entry : Entry) (next : ℕ) (reply : Message) (asks : List Ask) → Ships client route middle.pending entry (Some reply) asks → end_by next (Some reply) ≡ Some (Unanswered number) → ⊥
    replied entry next reply asks (inl done) is = absurd (cc (is, ap (λ (came : Option Message). end_by next came) done.0))
    replied entry next (Accepted of n upto) asks (inr stored) is = absurd (cc is)
    replied entry next (Stale of n upto path theirs ours) asks (inr stored) is = absurd (cc is)
    replied entry next (Unfit of n upto index fault) asks (inr stored) is = absurd (cc is)
    replied entry next (Full of n upto index fault) asks (inr stored) is = absurd (cc is)
    replied entry next (Gap of n last) asks (inr stored) is = absurd (cc is)
    replied entry next _ asks (inr stored) is = absurd stored.5.3.0

    -- nothing is acknowledged where nothing came
    same_pending : after ≡ log_behind None middle → after.pending ≡ middle.pending
    same_pending is =
        let none : middle.acked - middle.acked ≡ 0 = omega arith in
        ap (λ (log : Log). log.pending) is ∙ ap (λ (n : ℕ). drop n middle.pending) none

    of_turn : (asks : List Ask) (entry : Entry) (came : Option Message) → trace.asks ≡ sync.2.asks ++ asks → IsFirst entry middle.pending → entry.seq ≡ middle.acked + 1 → Ships client route middle.pending entry came asks
        → after ≡ log_behind came middle → end_by (after.acked + 1) came ≡ Some (Unanswered number) → Failed_so
    of_turn asks entry None all first next (inl done) behind is = absurd (cc (done.0))
    of_turn asks entry None all first next (inr stored) behind is =
        let named : number ≡ after.acked + 1 = cc is in
        let same : number ≡ entry.seq = omega (arith, named, next, ap (λ (log : Log). log.acked) behind) in
        let pending = same_pending behind in (
          entry,
          stored.2,
          sync.2.asks ++ stored.0,
          subst (IsFirst entry) (sym pending) first,
          same,
          subst (λ (entries : List Entry). IsWindow client route entries stored.2) (sym pending) stored.4,
          all ∙ ap (λ (more : List Ask). sync.2.asks ++ more) (stored.6 ∙ ap (λ (more : List Ask). stored.0 ++ more) stored.5)
              ∙ sym (append_assoc sync.2.asks stored.0 (failures Server route.server (store_of client entry.seq stored.2) 8))
              ∙ ap (λ (n : ℕ). (sync.2.asks ++ stored.0) ++ failures Server route.server (store_of client n stored.2) 8) (sym same),
        )
    of_turn asks entry (Some reply) all first next shipped behind is = absurd (replied entry (after.acked + 1) reply asks shipped is)

    by : EndsSync client route middle (Unanswered number) after sync.3 → Failed_so
    by (inl synced) = absurd (cc (synced.1))
    by (inr last) =
        let turn = last.1 in
        of_turn last.0 turn.entry turn.came (ap (λ (n : Trace). n.asks) sync.6 ∙ ap (λ (more : List Ask). sync.2.asks ++ more) (ap (λ (n : Trace). n.asks) last.2 ∙ last_asks middle after last.0)) turn.first turn.number
        turn.ships turn.after_is turn.end_is
