-- Each step of the world keeps a log in step.
use Rattle.std.proofs.Common.{◌++◌, ◌≡◌, ◌≢◌, inl, ⊎_elim, ℕ, ◌+◌, ◌<◌, ◌≤◌, Bool, true, false, List, [], ◌∷◌, length, Result, Ok, Err, refl, sym, ◌∙◌, ap, subst, arith}
use Rattle.std.specs.Prelude.{Option, Some, None, ◌==◌, if◌then◌else◌}
use Rattle.std.specs.List.{AllByRecursion}
use Rattle.std.proofs.lemmas.Bool.Decides.{nat_tests}
use native.Mathlib.Decide.{ℕ_discrete}
use Rattle.file_paths.specs.Path.{FilePath}
use Rattle.tree_values.specs.Effects.{changed_all, apply_all, Conflict}
use Rattle.tree_values.specs.Tree.{version_at, IsTree, IsLegalEffect}
use Rattle.tree_values.specs.Lists.{IsIn}
use Rattle.tree_values.specs.declared.node.Effect.{Effect}
use Rattle.tree_values.specs.declared.node.Base.{Base}
use Rattle.tree_values.specs.declared.node.TreeError.{TreeError}
use Rattle.std.proofs.lemmas.List.Elements.{filter-append}
use Rattle.vol_tree.proofs.Behind.{IsIn-left, IsIn-right, IsBehind-refl, IsBehind-after, applied-changes, applied_all-tree, version-untouched}
use Rattle.mod_log.specs.declared.log.Entry.{Entry}
use Rattle.mod_log.specs.Log.{Log, tree_at}
use Rattle.wire_frames.specs.declared.message.Message.{Message}
use Rattle.wire_frames.specs.declared.message.Message.TheVariants.{Store, Operate, Pull, Unfit, Full}
use Rattle.wire_frames.specs.declared.parts.Part.{Part}
use Rattle.wire_frames.specs.Parts.{PartFits, PartsFit}
use Rattle.wire_frames.specs.Frame.{client_of, IsValid}
use Rattle.world_rules.specs.Served.{Served, TakenEntry, entry_stored, IsServed, with_last, StoreVerdict, Repeated, Early, Outdated, Refused, Taken, judged, verdict, served_after, passes, served_through, verdict_through, is_want_of_room, end_of, reply, answer, state_after, taken_if, taken_through, taken_of}
use Rattle.world_rules.specs.World.{World, Step, Send, Deliver, Other, Relay, sent, delivered, happens, noted, IsForServer, IsLicensed, IsAllowed}
use Rattle.world_rules.specs.InStep.{ahead, IsSendable, IsPendingAt, ArePendingAbove, IsFitting, InStep, MaySend, HasNoCollision}
use Rattle.world_rules.specs.Run.{own, OthersSpare, taken_by}
use Rattle.world_rules.specs.declared.asking.Ask.{Ask}
use Rattle.world_rules.proofs.Asks.{IsIn-push}
use Rattle.world_rules.proofs.Replies.{answer-valid, state_after-legal}
use Rattle.world_rules.proofs.Next.{above_from, above_later, TakesInOrder, takes_then, takes_up}
use Rattle.world_rules.proofs.Steps.{Agree, joined, grown, Judged, own_entry, last_after, volume_after}
use Rattle.world_rules.proofs.Sending.{few_parts, no_parts, sent_valid}
use Rattle.world_rules.proofs.Relaying.{relay_fits}
use Rattle.byte_fields.proofs.Facts.{eq_itself}
use Rattle.mod_log.proofs.Entries.{legal_each}

-- ---- in step, and what log and world agree on

pub agree : (client : ℕ) (log : Log) (world : World) → InStep client log world → Agree client log (world.served.last client) world.served.volume world.packets
agree client log world now = record {
  not_lower = now.not_lower;
  not_higher = now.not_higher;
  behind = now.behind;
  fitting = now.fitting;
  log_is = now.log_is;
  tree = now.served_is.tree;
}

-- the same world, and what is agreed on with another log or after a step
pub in_step : (client : ℕ) (log : Log) (world : World) → world.client ≡ client → (1 ≤ client) × (client ≤ 64) → ((message : Message) → IsIn message world.packets → IsValid message) → IsServed world.served
    → Agree client log (world.served.last client) world.served.volume world.packets → InStep client log world
in_step client log world about own_number valid served_is now = record {
  about = about;
  own_number = own_number;
  not_lower = now.not_lower;
  not_higher = now.not_higher;
  behind = now.behind;
  fitting = now.fitting;
  valid = valid;
  log_is = now.log_is;
  served_is = served_is;
}

-- ---- the served state after a verdict

test_other : (m n : ℕ) → m ≢ n → (m == n) ≡ false
test_other m n differ = grind (arith, nat_tests)

raised-own : (client number : ℕ) (last : ℕ → ℕ) → with_last last client number client ≡ number
raised-own client number last = ap (λ b. if b then number else last client) (eq_itself client)

raised-other : (of client number : ℕ) (last : ℕ → ℕ) → of ≢ client → with_last last of number client ≡ last client
raised-other of client number last differ = ap (λ b. if b then number else last client) (test_other client of (λ e. differ (sym e)))

last-own : (client number : ℕ) (judgement : StoreVerdict) (served : Served) → (served_after client number judgement served).last client ≡ last_after number (served.last client) judgement
last-own client number Repeated served = refl
last-own client number Early served = refl
last-own client number (Outdated conflict) served = refl
last-own client number (Refused cause) served = refl
last-own client number (Taken volume) served = raised-own client number served.last

volume-own : (of number : ℕ) (judgement : StoreVerdict) (served : Served) → (served_after of number judgement served).volume ≡ volume_after served.volume judgement
volume-own of number Repeated served = refl
volume-own of number Early served = refl
volume-own of number (Outdated conflict) served = refl
volume-own of number (Refused cause) served = refl
volume-own of number (Taken volume) served = refl

client-reply : (of number end last : ℕ) (judgement : StoreVerdict) → client_of (reply of number end last judgement) ≡ of
client-reply of number end last Repeated = refl
client-reply of number end last Early = refl
client-reply of number end last (Outdated conflict) = refl
client-reply of number end last (Refused cause) = by (is_want_of_room cause.1)
  where
    by : (full : Bool) → client_of (if full then Full of number last cause.0 cause.1 else Unfit of number last cause.0 cause.1) ≡ of
    by true = refl
    by false = refl
client-reply of number end last (Taken volume) = refl

-- ---- an entry of another client's store

other_store : (client : ℕ) (log : Log) (served : Served) (packets : List Message) (of number : ℕ) (effects : List Effect)
    → of ≢ client → AllByRecursion IsLegalEffect effects
    → (repeated beyond : Bool) (conflict : Option Conflict) (applied : Result _ (ℕ × TreeError)) → apply_all 0 effects served.volume ≡ applied
    → Agree client log (served.last client) served.volume packets
    → let next = served_after of number (judged repeated beyond conflict applied) served in Agree client log (next.last client) next.volume packets
other_store client log served packets of number effects differ legal true beyond conflict applied d now = now
other_store client log served packets of number effects differ legal false true conflict applied d now = now
other_store client log served packets of number effects differ legal false false (Some conflict) applied d now = now
other_store client log served packets of number effects differ legal false false None (Err cause) d now = now
other_store client log served packets of number effects differ legal false false None (Ok after) d now =
    let is = applied-changes effects 0 served.volume after d in
    let up : Agree client log (served.last client) after packets =
    subst (λ v. Agree client log (served.last client) v packets) (sym is)
    (grown client log (served.last client) served.volume (changed_all effects served.volume) packets (IsBehind-after effects served.volume) (subst IsTree is (applied_all-tree effects 0 served.volume after now.tree legal d)) now) in
    subst (λ n. Agree client log n after packets) (sym (raised-other of client number served.last differ)) up

other_same : (client : ℕ) (log : Log) (served : Served) (of number : ℕ) (effects : List Effect) (base : List Base) (path : FilePath) → of ≢ client
    → (repeated beyond : Bool) (conflict : Option Conflict) (applied : Result _ (ℕ × TreeError)) → apply_all 0 effects served.volume ≡ applied
    → let judgement = judged repeated beyond conflict applied in
    let next = served_after of number judgement served in
    OthersSpare client path (taken_if judgement (entry_stored of number effects base))
    → version_at (tree_at (served.last client) log) path ≡ version_at served.volume path → version_at (tree_at (next.last client) log) path ≡ version_at next.volume path
other_same client log served of number effects base path differ true beyond conflict applied d spared e = e
other_same client log served of number effects base path differ false true conflict applied d spared e = e
other_same client log served of number effects base path differ false false (Some conflict) applied d spared e = e
other_same client log served of number effects base path differ false false None (Err cause) d spared e = e
other_same client log served of number effects base path differ false false None (Ok after) d spared e =
    ap (λ n. version_at (tree_at n log) path) (raised-other of client number served.last differ)
    ∙ e
    ∙ sym (version-untouched effects served.volume path (spared (entry_stored of number effects base) (inl refl) differ))
    ∙ ap (λ v. version_at v path) (sym (applied-changes effects 0 served.volume after d))

own-own : (client number : ℕ) (effects : List Effect) (base : List Base) (judgement : StoreVerdict) → own client (taken_if judgement (entry_stored client number effects base)) ≡ taken_if judgement (entry_stored client number effects base)
own-own client number effects base Repeated = refl
own-own client number effects base Early = refl
own-own client number effects base (Outdated conflict) = refl
own-own client number effects base (Refused cause) = refl
own-own client number effects base (Taken volume) = ap (λ b. if b then entry_stored client number effects base ∷ [] else []) (eq_itself client)

own-other : (client of number : ℕ) (effects : List Effect) (base : List Base) → of ≢ client → (judgement : StoreVerdict) → own client (taken_if judgement (entry_stored of number effects base)) ≡ []
own-other client of number effects base differ Repeated = refl
own-other client of number effects base differ Early = refl
own-other client of number effects base differ (Outdated conflict) = refl
own-other client of number effects base differ (Refused cause) = refl
own-other client of number effects base differ (Taken volume) = ap (λ b. if b then entry_stored of number effects base ∷ [] else []) (test_other of client differ)

last-other : (client of number : ℕ) → of ≢ client → (judgement : StoreVerdict) (served : Served) → (served_after of number judgement served).last client ≡ served.last client
last-other client of number differ Repeated served = refl
last-other client of number differ Early served = refl
last-other client of number differ (Outdated conflict) served = refl
last-other client of number differ (Refused cause) served = refl
last-other client of number differ (Taken volume) served = raised-other of client number served.last differ

-- ---- entries one after the other

own-append : (client : ℕ) (first second : List TakenEntry) → own client (first ++ second) ≡ own client first ++ own client second
own-append client first second = filter-append (λ (entry : TakenEntry). entry.client == client) first second

-- What is agreed on while a served state gives way to another, in which these entries are taken.
record Passed (client : ℕ) (log : Log) (packets : List Message) (served next : Served) (taken : List TakenEntry) : Type 0 where
  state : Agree client log (next.last client) next.volume packets
  takes : TakesInOrder client log (served.last client) (next.last client) (own client taken)
  same : (path : FilePath) → OthersSpare client path taken
      → version_at (tree_at (served.last client) log) path ≡ version_at served.volume path → version_at (tree_at (next.last client) log) path ≡ version_at next.volume path

module _ (client : ℕ) (log : Log) (packets : List Message) where
  passed_none : (served : Served) → Agree client log (served.last client) served.volume packets → Passed client log packets served served []
  passed_none served now = record { state = now; takes = refl; same = λ path spared e. e }

  passed_then : (served middle next : Served) (first second : List TakenEntry) → Passed client log packets served middle first → Passed client log packets middle next second → Passed client log packets served next (first ++ second)
  passed_then served middle next first second one two = record {
    state = two.state;
    takes = subst (TakesInOrder client log (served.last client) (next.last client)) (sym (own-append client first second))
        (takes_then client log (served.last client) (middle.last client) (next.last client) (own client first) (own client second) one.takes two.takes);
    same = λ path spared e. two.same path (λ entry among. spared entry (IsIn-right entry first second among)) (one.same path (λ entry among. spared entry (IsIn-left entry first second among)) e);
  }

  -- ---- of the client's own store

  -- what is agreed on after one entry, and what the verdict on it says
  record OneOwn (number : ℕ) (served : Served) (stored : TakenEntry) (judgement : StoreVerdict) : Type 0 where
    passed : Passed client log packets served (served_after client number judgement served) (taken_if judgement stored)
    up : passes judgement ≡ true → number ≤ (served_after client number judgement served).last client
    fits : passes judgement ≡ false → (of end : ℕ) → IsFitting log (served.last client) served.volume (reply client of end (served.last client) judgement)

  one_own : (number : ℕ) (effects : List Effect) (base : List Base) (served : Served) → number ≤ served.last client + 1 → number ≤ log.acked + ahead → (served.last client < number → IsPendingAt log number effects base)
      → Agree client log (served.last client) served.volume packets → OneOwn number served (entry_stored client number effects base) (verdict client number effects base served)
  one_own number effects base served most near pending now =
      let judgement = verdict client number effects base served in
      let stored = entry_stored client number effects base in
      let mine : Judged client log (served.last client) served.volume packets number stored judgement =
      own_entry client log (served.last client) served.volume packets number effects base _ _ _ _ refl refl refl refl most near pending now in
      let last_is = last-own client number judgement served in
      let volume_is = volume-own client number judgement served in
      record {
        passed = record {
          state = subst (λ v. Agree client log ((served_after client number judgement served).last client) v packets) (sym volume_is)
              (subst (λ n. Agree client log n (volume_after served.volume judgement) packets) (sym last_is) mine.state);
          takes = subst (TakesInOrder client log (served.last client) ((served_after client number judgement served).last client)) (sym (own-own client number effects base judgement))
              (subst (λ n. TakesInOrder client log (served.last client) n (taken_if judgement stored)) (sym last_is) mine.taken);
          same = λ path spared e. ap (λ n. version_at (tree_at n log) path) last_is ∙ mine.same path e ∙ ap (λ v. version_at v path) (sym volume_is);
        };
        up = λ e. subst (λ n. number ≤ n) (sym last_is) (mine.up e);
        fits = mine.fits;
      }

  -- what is agreed on after entries of the client, and that the reply which ends them fits, whatever the store's own number
  record AllOwn (number : ℕ) (parts : List Part) (served next : Served) (taken : List TakenEntry) (judgement : StoreVerdict) : Type 0 where
    passed : Passed client log packets served next taken
    fits : (of : ℕ) → IsFitting log (next.last client) next.volume (reply client of (end_of number parts) (next.last client) judgement)

  all_own : (number : ℕ) (parts : List Part) (served : Served) → number ≤ served.last client + 1 → number + length parts ≤ log.acked + ahead + 1 → ArePendingAbove log (served.last client) number parts
      → Agree client log (served.last client) served.volume packets
      → AllOwn number parts served (served_through client number parts served) (taken_through client number parts served) (verdict_through client number parts served)
  all_own number [] served most near pending now = record { passed = passed_none served now; fits = λ of. omega (arith, most) }
  all_own number (part ∷ parts) served most near pending now =
      let judgement = verdict client number part.effects part.base served in
      let first = one_own number part.effects part.base served most (omega (arith, near)) pending.0 now in
      let higher = takes_up client log (served.last client) ((served_after client number judgement served).last client) _ first.passed.takes in
      by judgement first (λ up. all_own (number + 1) parts (served_after client number judgement served) (omega (arith, up)) (omega (arith, near))
      (above_later log (served.last client) ((served_after client number judgement served).last client) (number + 1) parts higher pending.1) first.passed.state)
    where
      -- the end is the same, counted from the next number
      ends : end_of (number + 1) parts ≡ end_of number (part ∷ parts)
      ends = omega arith

      going : (j : StoreVerdict) → Passed client log packets served (served_after client number j served) (taken_if j (entry_stored client number part.effects part.base)) → AllOwn (number + 1) parts (served_after client number j served) (served_through client (number + 1) parts (served_after client number j served)) (taken_through client (number + 1) parts (served_after client number j served)) (verdict_through client (number + 1) parts (served_after client number j served))
          → AllOwn number (part ∷ parts) served (served_through client (number + 1) parts (served_after client number j served)) (taken_if j (entry_stored client number part.effects part.base) ++ taken_through client (number + 1) parts (served_after client number j served)) (verdict_through client (number + 1) parts (served_after client number j served))
      going j one rest = record {
        passed = passed_then served (served_after client number j served) (served_through client (number + 1) parts (served_after client number j served)) (taken_if j (entry_stored client number part.effects part.base)) (taken_through client (number + 1) parts (served_after client number j served)) one rest.passed;
        fits = λ of. subst (λ (end : ℕ). let last = served_through client (number + 1) parts (served_after client number j served) in IsFitting log (last.last client) last.volume (reply client of end (last.last client) (verdict_through client (number + 1) parts (served_after client number j served)))) ends (rest.fits of);
      }

      by : (j : StoreVerdict) → OneOwn number served (entry_stored client number part.effects part.base) j
          → (number ≤ (served_after client number j served).last client → AllOwn (number + 1) parts (served_after client number j served) (served_through client (number + 1) parts (served_after client number j served)) (taken_through client (number + 1) parts (served_after client number j served)) (verdict_through client (number + 1) parts (served_after client number j served)))
          → AllOwn number (part ∷ parts) served (if passes j then served_through client (number + 1) parts (served_after client number j served) else served_after client number j served)
          (taken_if j (entry_stored client number part.effects part.base) ++ (if passes j then taken_through client (number + 1) parts (served_after client number j served) else []))
          (if passes j then verdict_through client (number + 1) parts (served_after client number j served) else j)
      by Repeated one rest = going Repeated one.passed (rest (one.up refl))
      by (Taken volume) one rest = going (Taken volume) one.passed (rest (one.up refl))
      by Early one rest = record { passed = one.passed; fits = λ of. one.fits refl of (end_of number (part ∷ parts)) }
      by (Outdated conflict) one rest = record { passed = one.passed; fits = λ of. one.fits refl of (end_of number (part ∷ parts)) }
      by (Refused cause) one rest = record { passed = one.passed; fits = λ of. one.fits refl of (end_of number (part ∷ parts)) }

  -- ---- of another client's store

  one_other : (of number : ℕ) (effects : List Effect) (base : List Base) (served : Served) → of ≢ client → AllByRecursion IsLegalEffect effects → Agree client log (served.last client) served.volume packets
      → let judgement = verdict of number effects base served in Passed client log packets served (served_after of number judgement served) (taken_if judgement (entry_stored of number effects base))
  one_other of number effects base served differ legal now =
      let judgement = verdict of number effects base served in
      record {
        state = other_store client log served packets of number effects differ legal _ _ _ _ refl now;
        takes = subst (TakesInOrder client log (served.last client) ((served_after of number judgement served).last client)) (sym (own-other client of number effects base differ judgement))
            (last-other client of number differ judgement served);
        same = λ path spared e. other_same client log served of number effects base path differ _ _ _ _ refl spared e;
      }

  all_other : (of number : ℕ) (parts : List Part) (served : Served) → of ≢ client → AllByRecursion PartFits parts → Agree client log (served.last client) served.volume packets
      → Passed client log packets served (served_through of number parts served) (taken_through of number parts served)
  all_other of number [] served differ fits now = passed_none served now
  all_other of number (part ∷ parts) served differ fits now =
      let judgement = verdict of number part.effects part.base served in
      let first = one_other of number part.effects part.base served differ (legal_each part.effects fits.0.0.each) now in
      by judgement first (all_other of (number + 1) parts (served_after of number judgement served) differ fits.1 first.state)
    where
      by : (j : StoreVerdict) → Passed client log packets served (served_after of number j served) (taken_if j (entry_stored of number part.effects part.base))
          → Passed client log packets (served_after of number j served) (served_through of (number + 1) parts (served_after of number j served)) (taken_through of (number + 1) parts (served_after of number j served))
          → Passed client log packets served (if passes j then served_through of (number + 1) parts (served_after of number j served) else served_after of number j served) (taken_if j (entry_stored of number part.effects part.base) ++ (if passes j then taken_through of (number + 1) parts (served_after of number j served) else []))
      by Repeated one rest = rest
      by (Taken volume) one rest = passed_then served (served_after of number (Taken volume) served) (served_through of (number + 1) parts (served_after of number (Taken volume) served)) (taken_if (Taken volume) (entry_stored of number part.effects part.base)) (taken_through of (number + 1) parts (served_after of number (Taken volume) served)) one rest
      by Early one rest = one
      by (Outdated conflict) one rest = one
      by (Refused cause) one rest = one

-- ---- a delivery

-- what is agreed on after the delivery, with the answer and without
record Answered (client : ℕ) (log : Log) (packets : List Message) (served next : Served) (taken : List TakenEntry) (message : Message) : Type 0 where
  passed : Passed client log packets served next taken
  kept : Agree client log (next.last client) next.volume (packets ++ message ∷ [])

module _ (client : ℕ) (log : Log) (served : Served) (packets : List Message) (now : Agree client log (served.last client) served.volume packets) where
  answered : (next : Served) (taken : List TakenEntry) (message : Message) → Passed client log packets served next taken
      → (client_of message ≡ client → IsFitting log (next.last client) next.volume message) → Answered client log packets served next taken message
  answered next taken message passed fits = record {
    passed = passed;
    kept = joined client log (next.last client) next.volume packets message passed.state fits;
  }

  own_answered : (number : ℕ) (parts : List Part) → PartsFit number parts → IsIn (Store client number parts) packets
      → let store = Store client number parts in Answered client log packets served (state_after store served) (taken_of store served) (answer store served)
  own_answered number parts fit among =
      let fits = now.fitting (Store client number parts) among refl in
      let near = fits.0.at_most_next in
      let mine = all_own client log packets number parts served (omega (arith, near, now.not_lower)) (omega (arith, near, few_parts number parts fit)) fits.1 now in
      answered _ _ _ mine.passed (λ own. mine.fits number)

  store_answered : (of number : ℕ) (parts : List Part) → PartsFit number parts → IsIn (Store of number parts) packets
      → let store = Store of number parts in Answered client log packets served (state_after store served) (taken_of store served) (answer store served)
  store_answered of number parts fit among = by_client (ℕ_discrete of client)
    where
      by_client : Dec (of ≡ client) → let store = Store of number parts in Answered client log packets served (state_after store served) (taken_of store served) (answer store served)
      by_client (yes own) =
          subst (λ k. IsIn (Store k number parts) packets → let store = Store k number parts in Answered client log packets served (state_after store served) (taken_of store served) (answer store served))
          (sym own) (own_answered number parts fit) among
      by_client (no differ) =
          answered _ _ _ (all_other client log packets of number parts served differ fit.each now)
          (λ own. absurd (differ (sym (client-reply of number _ _ _) ∙ own)))

  pull_answered : (of number : ℕ) → IsIn (Pull of number) packets → Answered client log packets served served [] (answer (Pull of number) served)
  pull_answered of number among = answered served [] _ (passed_none client log packets served now)
      (λ own.
      let at_most : number ≤ served.last client = now.fitting (Pull of number) among own in
      let same : served.last of ≡ served.last client = ap served.last own in
      (omega (arith, at_most, same), omega (arith, same), IsBehind-refl served.volume, now.tree))

  message_answered : (message : Message) → IsForServer message → IsValid message → IsIn message packets → Answered client log packets served (state_after message served) (taken_of message served) (answer message served)
  message_answered (Store of number parts) for valid among = store_answered of number parts valid.body_fits among
  message_answered (Pull of number) for valid among = pull_answered of number among
  message_answered _ for valid among = absurd for

-- What a step keeps, and which entries of the client are taken in it.
pub record Stepped (client : ℕ) (log : Log) (world next : World) (taken : List TakenEntry) : Type 0 where
  pub in_step : InStep client log next
  pub takes : TakesInOrder client log (world.served.last client) (next.served.last client) (own client taken)
  pub same : (path : FilePath) → OthersSpare client path taken
      → version_at (tree_at (world.served.last client) log) path ≡ version_at world.served.volume path → version_at (tree_at (next.served.last client) log) path ≡ version_at next.served.volume path

-- all packets are valid once a valid message has joined them
valid_pushed : (packets : List Message) (message : Message) → ((other : Message) → IsIn other packets → IsValid other) → IsValid message → (other : Message) → IsIn other (packets ++ message ∷ []) → IsValid other
valid_pushed packets message all valid other among = ⊎_elim (λ old. all other old) (λ same. subst IsValid (sym same) valid) (IsIn-push other message packets among)

delivery_steps : (client : ℕ) (log : Log) (world : World) (message : Message) (joins : Bool)
    → InStep client log world → IsForServer message → IsIn message world.packets → Stepped client log world (delivered message joins world) (taken_of message world.served)
delivery_steps client log world message true now for among =
    let valid = now.valid message among in
    let all = message_answered client log world.served world.packets (agree client log world now) message for valid among in
    record {
      in_step = in_step client log (delivered message true world) now.about now.own_number
          (valid_pushed world.packets (answer message world.served) now.valid (answer-valid message world.served valid now.served_is for))
          (state_after-legal message world.served valid now.served_is) all.kept;
      takes = all.passed.takes;
      same = all.passed.same;
    }
delivery_steps client log world message false now for among =
    let valid = now.valid message among in
    let all = message_answered client log world.served world.packets (agree client log world now) message for valid among in
    record {
      in_step = in_step client log (delivered message false world) now.about now.own_number now.valid (state_after-legal message world.served valid now.served_is) all.passed.state;
      takes = all.passed.takes;
      same = all.passed.same;
    }

-- ---- a message that the client sends

-- an entry is pending where one of the log's is
some_pending : (entry : Entry) (pending : List Entry) → IsIn entry pending → 1 ≤ length pending
some_pending entry [] among = absurd among
some_pending entry (first ∷ rest) among = omega arith

sendable_next : (log : Log) (number : ℕ) (entry : Entry) → number ≡ log.acked + 1 → IsIn entry log.pending → IsSendable log number
sendable_next log number entry next among = record { at_most_next = omega (arith, next); at_most_logged = omega (arith, next, some_pending entry log.pending among) }

sent_fits : (client : ℕ) (ships : Bool) (log : Log) (last : ℕ) (volume : _) (message : Message) → log.acked ≤ last → MaySend client ships log message → IsFitting log last volume message
sent_fits client ships log last volume (Store of number []) low may = absurd (no_parts number may.3)
sent_fits client ships log last volume (Store of number (part ∷ parts)) low may = (sendable_next log number may.2.0.0 may.1 may.2.0.1, above_from log last number (part ∷ parts) may.2)
sent_fits client ships log last volume (Operate of sketched) low may = (sendable_next log sketched.seq may.2.0 may.1 may.2.1, λ above. may.2)
sent_fits client ships log last volume (Pull of number) low may = omega (arith, may.1, low)
sent_fits client ships log last volume _ low may = absurd may

-- a valid message joins
joined_in_step : (client : ℕ) (log : Log) (world : World) (message : Message) → InStep client log world → IsValid message
    → (client_of message ≡ client → IsFitting log (world.served.last client) world.served.volume message) → InStep client log (sent message world)
joined_in_step client log world message now valid fits =
    in_step client log (sent message world) now.about now.own_number (valid_pushed world.packets message now.valid valid) now.served_is
    (joined client log (world.served.last client) world.served.volume world.packets message (agree client log world now) fits)

pub sent_in_step : (client : ℕ) (ships : Bool) (log : Log) (world : World) (message : Message) → InStep client log world → MaySend client ships log message → InStep client log (sent message world)
sent_in_step client ships log world message now may =
    joined_in_step client log world message now
    (sent_valid client ships log message now.own_number.0 now.own_number.1 now.log_is may)
    (λ own. sent_fits client ships log (world.served.last client) world.served.volume message now.not_lower may)

-- ---- a message of another client

pub other_in_step : (client : ℕ) (log : Log) (world : World) (message : Message) → InStep client log world → client_of message ≢ world.client → IsValid message → InStep client log (sent message world)
other_in_step client log world message now differ valid = joined_in_step client log world message now valid (λ own. absurd (differ (own ∙ sym now.about)))

-- ---- a message of a surrogate

pub relayed_in_step : (client : ℕ) (log : Log) (world : World) (message : Message) → InStep client log world → IsLicensed world.client world.packets message → IsValid message
    → HasNoCollision client log.pending (sent message world).packets → InStep client log (sent message world)
relayed_in_step client log world message now may valid none =
    joined_in_step client log world message now valid
    (λ own. relay_fits client log (world.served.last client) world.served.volume world.packets message now.not_lower now.fitting now.valid
    (subst (λ c. IsLicensed c world.packets message) now.about may) none)

-- ---- every step

sending_steps : (client : ℕ) (log : Log) (world : World) (message : Message) → InStep client log (sent message world) → Stepped client log world (sent message world) []
sending_steps client log world message now = record { in_step = now; takes = refl; same = λ path spared e. e }

pub steps_on : (client : ℕ) (ships : Bool) (log : Log) (world : World) (step : Step) → InStep client log world → IsAllowed (MaySend client ships log) world step
    → HasNoCollision client log.pending (happens step world).packets → Stepped client log world (happens step world) (taken_by step world.served)
steps_on client ships log world (Send message) now may none = sending_steps client log world message (sent_in_step client ships log world message now may)
steps_on client ships log world (Deliver message joins) now may none = delivery_steps client log world message joins now may.0 may.1
steps_on client ships log world (Other message) now may none = sending_steps client log world message (other_in_step client log world message now may.0 may.1)
steps_on client ships log world (Relay message) now may none = sending_steps client log world message (relayed_in_step client log world message now may.0 may.1 none)

pub noted_in_step : (client : ℕ) (log : Log) (world : World) (made : List Ask) → InStep client log world → InStep client log (noted made world)
noted_in_step client log world made now = in_step client log (noted made world) now.about now.own_number now.valid now.served_is (agree client log world now)
