-- The pending entry behind those that a server took, and the client's trees around it.
use Rattle.std.proofs.Common.{◌≡◌, inl, inr, ℕ, zero, suc, ◌+◌, ◌-◌, ◌<◌, ◌≤◌, List, [], ◌∷◌, ◌++◌, length, take, drop, sym, ◌∙◌, ap, subst, arith}
use Rattle.tree_values.specs.Effects.{changed_all}
use Rattle.tree_values.specs.Tree.{Volume}
use Rattle.tree_values.specs.Lists.{IsIn}
use Rattle.tree_values.specs.declared.node.Effect.{Effect}
use Rattle.tree_values.specs.declared.node.Base.{Base}
use Rattle.mod_log.specs.declared.log.Entry.{Entry}
use Rattle.mod_log.specs.Log.{Log, after, tree_at, IsLog, IsEntryOf, AreEntriesOf, acknowledged}
use Rattle.mod_log.proofs.Entries.{AreEntriesOf-drop}
use Rattle.wire_frames.specs.declared.parts.Part.{Part}
use Rattle.world_rules.specs.Served.{TakenEntry, entry_stored}
use Rattle.world_rules.specs.InStep.{IsPendingAt, ArePendingFrom, ArePendingAbove}

-- ---- lists that are cut

pub take_next : {X : Type 0} (k : ℕ) (xs : List X) (x : X) (rest : List X) → drop k xs ≡ x ∷ rest → take (suc k) xs ≡ take k xs ++ x ∷ []
take_next zero [] x rest e = absurd (cc)
take_next zero (y ∷ xs) x rest e = let same : y ≡ x = cc in ap (λ z. z ∷ []) same
take_next (suc k) [] x rest e = absurd (cc)
take_next (suc k) (y ∷ xs) x rest e = ap (λ zs. y ∷ zs) (take_next k xs x rest e)

pub drop_within : {X : Type 0} (k : ℕ) (xs : List X) (x : X) (rest : List X) → drop k xs ≡ x ∷ rest → suc k ≤ length xs
drop_within zero [] x rest e = absurd (cc)
drop_within zero (y ∷ xs) x rest e = omega arith
drop_within (suc k) [] x rest e = absurd (cc)
drop_within (suc k) (y ∷ xs) x rest e = omega (arith, drop_within k xs x rest e)

pub drop_twice : {X : Type 0} (j k : ℕ) (xs : List X) → drop k (drop j xs) ≡ drop (j + k) xs
drop_twice zero k xs = ap (λ n. drop n xs) (omega arith)
drop_twice {X} (suc j) zero [] =
    let none : List X = [] in
    let e : suc j + 0 ≡ suc (j + 0) = omega arith in
    ap (λ n. drop n none) (sym e)
drop_twice {X} (suc j) (suc k) [] =
    let none : List X = [] in
    let e : suc j + suc k ≡ suc (j + suc k) = omega arith in
    ap (λ n. drop n none) (sym e)
drop_twice (suc j) k (x ∷ xs) =
    let e : suc j + k ≡ suc (j + k) = omega arith in
    drop_twice j k xs ∙ ap (λ n. drop n (x ∷ xs)) (sym e)

-- ---- the tree after one more entry, and after the first are in the base

after_next : (k : ℕ) (entries : List Entry) (entry : Entry) (rest : List Entry) (v : Volume) → drop k entries ≡ entry ∷ rest → after (take (suc k) entries) v ≡ changed_all entry.effects (after (take k entries) v)
after_next zero [] entry rest v e = absurd (cc)
after_next zero (first ∷ entries) entry rest v e = let same : first ≡ entry = cc in ap (λ (x : Entry). changed_all x.effects v) same
after_next (suc k) [] entry rest v e = absurd (cc)
after_next (suc k) (first ∷ entries) entry rest v e = after_next k entries entry rest (changed_all first.effects v) e

after_cut : (j k : ℕ) (entries : List Entry) (v : Volume) → after (take k (drop j entries)) (after (take j entries) v) ≡ after (take (j + k) entries) v
after_cut zero k entries v = ap (λ n. after (take n entries) v) (omega arith)
after_cut (suc j) zero [] v =
    let none : List Entry = [] in
    let e : suc j + 0 ≡ suc (j + 0) = omega arith in
    ap (λ n. after (take n none) v) (sym e)
after_cut (suc j) (suc k) [] v =
    let none : List Entry = [] in
    let e : suc j + suc k ≡ suc (j + suc k) = omega arith in
    ap (λ n. after (take n none) v) (sym e)
after_cut (suc j) k (first ∷ entries) v =
    let e : suc j + k ≡ suc (j + k) = omega arith in
    after_cut j k entries (changed_all first.effects v) ∙ ap (λ n. after (take n (first ∷ entries)) v) (sym e)

pub tree_at-acked : (log : Log) (number : ℕ) → number ≡ log.acked → tree_at number log ≡ log.base
tree_at-acked log number e = let none : number - log.acked ≡ 0 = omega arith in ap (λ k. after (take k log.pending) log.base) none

-- acknowledging entries up to one that is not above the number leaves the tree after that number
pub tree_at-acknowledged : (log : Log) (upto last : ℕ) → log.acked ≤ upto → upto ≤ last → tree_at last (acknowledged upto log) ≡ tree_at last log
tree_at-acknowledged log upto last low high =
    let e : (upto - log.acked) + (last - upto) ≡ last - log.acked = omega (arith, low, high) in
    after_cut (upto - log.acked) (last - upto) log.pending log.base ∙ ap (λ n. after (take n log.pending) log.base) e

-- ---- the next entry

-- this is the pending entry behind the number
pub record IsNext (log : Log) (last : ℕ) (entry : Entry) : Type 0 where
  pub rest : List Entry
  pub is : drop (last - log.acked) log.pending ≡ entry ∷ rest

pub tree_at-next : (log : Log) (last : ℕ) (entry : Entry) → log.acked ≤ last → IsNext log last entry → tree_at (last + 1) log ≡ changed_all entry.effects (tree_at last log)
tree_at-next log last entry low next =
    let more : last + 1 - log.acked ≡ suc (last - log.acked) = omega (arith, low) in
    ap (λ k. after (take k log.pending) log.base) more ∙ after_next (last - log.acked) log.pending entry next.rest log.base next.is

pub next_within : (log : Log) (last : ℕ) (entry : Entry) → log.acked ≤ last → IsNext log last entry → last + 1 ≤ log.acked + length log.pending
next_within log last entry low next = omega (arith, low, drop_within (last - log.acked) log.pending entry next.rest next.is)

pub next_fits : (log : Log) (last : ℕ) (entry : Entry) → IsLog log → IsNext log last entry → IsEntryOf (log.acked + 1 + (last - log.acked)) (tree_at last log) entry
next_fits log last entry log_is next =
    let count = last - log.acked in
    let are = AreEntriesOf-drop (log.acked + 1) log.base log.pending count log_is.entries in
    (subst (AreEntriesOf (log.acked + 1 + count) (tree_at last log)) next.is are).0

-- where an entry of a log stands
found_at : (number : ℕ) (volume : Volume) (entries : List Entry) (entry : Entry) → AreEntriesOf number volume entries → IsIn entry entries
    → (k : ℕ) × (rest : List Entry) × (drop k entries ≡ entry ∷ rest) × (entry.seq ≡ number + k)
found_at number volume [] entry are among = absurd among
found_at number volume (first ∷ entries) entry are (inl is) =
    (0, entries, ap (λ (e : Entry). e ∷ entries) (sym is), omega (arith, ap (λ (e : Entry). e.seq) is, are.0.numbered))
found_at number volume (first ∷ entries) entry are (inr among) =
    let later = found_at (number + 1) (changed_all first.effects volume) entries entry are.1 among in
    (suc later.0, later.1, later.2, omega (arith, later.3))

-- the pending entry of the next number is the next
pub next_pending : (log : Log) (last number : ℕ) (effects : List Effect) (base : List Base) → IsLog log → log.acked ≤ last → number ≡ last + 1 → IsPendingAt log number effects base
    → (entry : Entry) × IsNext log last entry × (effects ≡ entry.effects) × (base ≡ entry.base)
next_pending log last number effects base log_is low next is =
    let found = found_at (log.acked + 1) log.base log.pending is.0 log_is.entries is.1 in
    let place : found.0 ≡ last - log.acked = omega (arith, found.3, is.2, next, low) in
    (is.0, record { rest = found.1; is = ap (λ k. drop k log.pending) (sym place) ∙ found.2 }, is.3, is.4)

-- an entry behind the first ones is left without them
pub left_behind : (j number : ℕ) (volume : Volume) (entries : List Entry) (entry : Entry) → AreEntriesOf number volume entries → IsIn entry entries → number + j ≤ entry.seq → IsIn entry (drop j entries)
left_behind zero number volume entries entry are among low = among
left_behind (suc j) number volume [] entry are among low = absurd among
left_behind (suc j) number volume (first ∷ entries) entry are (inl is) low = absurd (omega (arith, low, ap (λ (e : Entry). e.seq) is, are.0.numbered))
left_behind (suc j) number volume (first ∷ entries) entry are (inr among) low = left_behind j (number + 1) (changed_all first.effects volume) entries entry are.1 among (omega (arith, low))

-- ---- the parts of a store

-- what is pending of each part, above one number in one log, is above another in another
pub above_as : (log next : Log) (last later : ℕ) → ((number : ℕ) (effects : List Effect) (base : List Base) → later < number → (last < number → IsPendingAt log number effects base) → IsPendingAt next number effects base)
    → (number : ℕ) (parts : List Part) → ArePendingAbove log last number parts → ArePendingAbove next later number parts
above_as log next last later also number [] are = tt
above_as log next last later also number (part ∷ parts) are = (λ above. also number part.effects part.base above are.0, above_as log next last later also (number + 1) parts are.1)

pub above_from : (log : Log) (last number : ℕ) (parts : List Part) → ArePendingFrom log number parts → ArePendingAbove log last number parts
above_from log last number [] are = tt
above_from log last number (part ∷ parts) are = (λ above. are.0, above_from log last (number + 1) parts are.1)

-- and above a greater number in the same log
pub above_later : (log : Log) (last later number : ℕ) (parts : List Part) → last ≤ later → ArePendingAbove log last number parts → ArePendingAbove log later number parts
above_later log last later number parts grows are = above_as log log last later (λ n effects base above is. is (omega (arith, above, grows))) number parts are

-- ---- entries that are taken in order

-- These are the pending entries behind one number up to another, each as it is taken.
abbrev pub TakesInOrder : ℕ → Log → ℕ → ℕ → List TakenEntry → Type 0
TakesInOrder client log last next [] = next ≡ last
TakesInOrder client log last next (taken ∷ more) =
    (entry : Entry) × IsNext log last entry × (taken ≡ entry_stored client (last + 1) entry.effects entry.base) × TakesInOrder client log (last + 1) next more

pub takes_then : (client : ℕ) (log : Log) (last middle next : ℕ) (first second : List TakenEntry) → TakesInOrder client log last middle first → TakesInOrder client log middle next second → TakesInOrder client log last next (first ++ second)
takes_then client log last middle next [] second one two = subst (λ n. TakesInOrder client log n next second) one two
takes_then client log last middle next (taken ∷ more) second one two = (one.0, one.1, one.2, takes_then client log (last + 1) middle next more second one.3 two)

pub takes_up : (client : ℕ) (log : Log) (last next : ℕ) (taken : List TakenEntry) → TakesInOrder client log last next taken → last ≤ next
takes_up client log last next [] takes = omega (arith, takes)
takes_up client log last next (taken ∷ more) takes = omega (arith, takes_up client log (last + 1) next more takes.3)
