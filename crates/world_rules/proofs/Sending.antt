-- What a client may send is valid.
use Rattle.std.proofs.Common.{◌≡◌, inl, inr, ℕ, ◌+◌, ◌≤◌, true, List, [], ◌∷◌, ◌++◌, length, refl, sym, ap, ◌∙◌, subst, arith, length-append}
use Rattle.std.specs.Prelude.{Bool, nat_le, ◌&&◌}
use Rattle.std.specs.List.{AllByRecursion}
use Rattle.std.proofs.lemmas.Bool.Decides.{nat_tests}
use Rattle.tree_values.specs.Effects.{touched_all, distinct, changed_all}
use Rattle.tree_values.specs.Tree.{Volume, IsTree}
use Rattle.tree_values.specs.Lists.{IsIn}
use Rattle.tree_values.specs.Spelling.{AreBasesOf}
use Rattle.vol_tree.proofs.Behind.{IsIn-left, applied_all-tree}
use Rattle.std.proofs.lemmas.List.{length-map}
use Rattle.mod_log.specs.declared.log.Entry.{Entry}
use Rattle.mod_log.specs.declared.sketching.SketchEntry.{SketchEntry}
use Rattle.mod_log.specs.Log.{Log, IsLog, IsEntryOf, AreEntriesOf}
use Rattle.mod_log.specs.Origin.{MadeByFits}
use Rattle.mod_log.specs.Sketched.{IsSketchOf}
use Rattle.wire_frames.specs.declared.message.Message.{Message}
use Rattle.wire_frames.specs.declared.message.Message.TheVariants.{Store, Operate, Pull}
use Rattle.wire_frames.specs.Frame.{IsValid}
use Rattle.byte_fields.proofs.Facts.{and_of, le_of, le_holds}
use Rattle.wire_frames.specs.Limits.{max_parts}
use Rattle.wire_frames.specs.declared.parts.Part.{Part}
use Rattle.wire_frames.specs.Parts.{part_of, PartFits, count_rule, PartsFit}
use Rattle.wire_frames.proofs.PartLaws.{one_fits}
use Rattle.wire_frames.proofs.Standing.{one_counted, sketched_stores}
use Rattle.world_rules.specs.InStep.{MaySend, ArePendingFrom, parts_of, IsStorable}
use Rattle.mod_log.proofs.EntriesFit.{base_of-is}
use Rattle.mod_log.proofs.Entries.{legal_each}

-- ---- the messages

pub client_ok : (client : ℕ) → 1 ≤ client → client ≤ 64 → (nat_le 1 client && nat_le client 64) ≡ true
client_ok client low high = grind (arith, nat_tests)

pub number_ok : (number : ℕ) → 1 ≤ number → nat_le 1 number ≡ true
number_ok number low = grind (arith, nat_tests)

module _ (client : ℕ) (low : 1 ≤ client) (high : client ≤ 64) where
  store_valid : (number : ℕ) (tree : Volume) (entry : Entry) → 1 ≤ number → number ≤ 18446744073709551615 → IsTree tree → IsEntryOf number tree entry → IsValid (Store client number (part_of entry.effects entry.base ∷ []))
  store_valid number tree entry some small tree_is is = record {
    client_fits = client_ok client low high;
    number_fits = number_ok number some;
    number_small = omega (arith, small);
    body_fits = one_fits number (part_of entry.effects entry.base) (one_counted number (omega (arith, small)))
        (is.fits, subst (AreBasesOf (distinct (touched_all entry.effects))) (sym is.based) (base_of-is entry.effects tree is.fits tree_is));
  }

  -- of each of the entries
  stores_valid : (number : ℕ) (tree : Volume) (entries : List Entry) (entry : Entry) → 1 ≤ number → number + length entries ≤ 18446744073709551616 → IsTree tree → AreEntriesOf number tree entries → IsIn entry entries
      → IsValid (Store client entry.seq (part_of entry.effects entry.base ∷ []))
  stores_valid number tree [] entry some small tree_is are among = absurd among
  stores_valid number tree (first ∷ entries) entry some small tree_is are (inl is) =
      let valid = store_valid number tree first some (omega (arith, small)) tree_is are.0 in
      subst (λ (e : Entry). IsValid (Store client e.seq (part_of e.effects e.base ∷ []))) (sym is) (subst (λ (n : ℕ). IsValid (Store client n (part_of first.effects first.base ∷ []))) (sym are.0.numbered) valid)
  stores_valid number tree (first ∷ entries) entry some small tree_is are (inr among) =
      stores_valid (number + 1) (changed_all first.effects tree) entries entry (omega arith) (omega (arith, small))
      (applied_all-tree first.effects 0 tree (changed_all first.effects tree) tree_is (legal_each first.effects are.0.fits.each) are.0.applies) are.1 among

  pub pending_valid : (log : Log) (entry : Entry) → IsLog log → IsIn entry log.pending → IsValid (Store client entry.seq (part_of entry.effects entry.base ∷ []))
  pending_valid log entry log_is among = stores_valid (log.acked + 1) log.base log.pending entry (omega arith) (omega (arith, log_is.last)) log_is.base_is log_is.entries among

-- ---- operations

-- what made an entry has a spelling
made_each : (number : ℕ) (tree : Volume) (entries : List Entry) (entry : Entry) → AreEntriesOf number tree entries → IsIn entry entries → MadeByFits entry.origin
made_each number tree [] entry are among = absurd among
made_each number tree (first ∷ entries) entry are (inl is) = subst (λ (e : Entry). MadeByFits e.origin) (sym is) are.0.origin_fits
made_each number tree (first ∷ entries) entry are (inr among) = made_each (number + 1) (changed_all first.effects tree) entries entry are.1 among

pub operation_valid : (client : ℕ) → 1 ≤ client → client ≤ 64 → (log : Log) (entry : Entry) (sketched : SketchEntry) → IsLog log → IsIn entry log.pending → IsSketchOf entry sketched → IsValid (Operate client sketched)
operation_valid client low high log entry sketched log_is among is =
    sketched_stores client entry sketched (pending_valid client low high log entry log_is among) (made_each (log.acked + 1) log.base log.pending entry log_is.entries among) is

-- ---- what a client sends

-- a store carries 1 to 8 entries, and its number has 64 bits
pub few_parts : (number : ℕ) (parts : List Part) → PartsFit number parts → length parts ≤ max_parts
few_parts number parts fits =
    let both = and_of (nat_le 1 (length parts) && nat_le (length parts) max_parts) (nat_le (number + length parts) 18446744073709551616) fits.counted in
    le_of (length parts) max_parts (and_of (nat_le 1 (length parts)) (nat_le (length parts) max_parts) both.0).1

pub some_parts : (number : ℕ) (parts : List Part) → PartsFit number parts → 1 ≤ length parts
some_parts number parts fits =
    let both = and_of (nat_le 1 (length parts) && nat_le (length parts) max_parts) (nat_le (number + length parts) 18446744073709551616) fits.counted in
    le_of 1 (length parts) (and_of (nat_le 1 (length parts)) (nat_le (length parts) max_parts) both.0).0

pub small_parts : (number : ℕ) (parts : List Part) → PartsFit number parts → number + length parts ≤ 18446744073709551616
small_parts number parts fits =
    le_of (number + length parts) 18446744073709551616 (and_of (nat_le 1 (length parts) && nat_le (length parts) max_parts) (nat_le (number + length parts) 18446744073709551616) fits.counted).1

pub no_parts : (number : ℕ) → PartsFit number [] → ⊥
no_parts number fits = absurd (omega (arith, some_parts number [] fits))

pub sent_valid : (client : ℕ) (ships : Bool) (log : Log) (message : Message) → 1 ≤ client → client ≤ 64 → IsLog log → MaySend client ships log message → IsValid message
sent_valid client ships log (Store of number parts) low high log_is may = record {
  client_fits = subst (λ c. (nat_le 1 c && nat_le c 64) ≡ true) (sym may.0) (client_ok client low high);
  number_fits = number_ok number (omega (arith, may.1));
  number_small = omega (arith, some_parts number parts may.3, small_parts number parts may.3);
  body_fits = may.3;
}
sent_valid client ships log (Operate of sketched) low high log_is may =
    subst (λ (c : ℕ). IsValid (Operate c sketched)) (sym may.0)
    (operation_valid client low high log may.2.0 sketched log_is may.2.1 may.2.2)
sent_valid client ships log (Pull of number) low high log_is may = record {
  client_fits = subst (λ c. (nat_le 1 c && nat_le c 64) ≡ true) (sym may.0) (client_ok client low high);
  number_fits = refl;
  number_small = omega (arith, may.1, log_is.last);
  body_fits = tt;
}
sent_valid client ships log _ low high log_is may = absurd may

-- ---- a front of what is pending

front_entries : (number : ℕ) (tree : Volume) (front left : List Entry) → AreEntriesOf number tree (front ++ left) → AreEntriesOf number tree front
front_entries number tree [] left are = tt
front_entries number tree (entry ∷ front) left are = (are.0, front_entries (number + 1) (changed_all entry.effects tree) front left are.1)

front_pending : (log : Log) (number : ℕ) (tree : Volume) (front : List Entry) → AreEntriesOf number tree front → ((entry : Entry) → IsIn entry front → IsIn entry log.pending) → ArePendingFrom log number (parts_of front)
front_pending log number tree [] are stay = tt
front_pending log number tree (entry ∷ front) are stay =
    ((entry, stay entry (inl refl), are.0.numbered, refl, refl), front_pending log (number + 1) (changed_all entry.effects tree) front are.1 (λ other among. stay other (inr among)))

front_fits : (number : ℕ) (tree : Volume) (front : List Entry) → IsTree tree → AreEntriesOf number tree front → AllByRecursion PartFits (parts_of front)
front_fits number tree [] tree_is are = tt
front_fits number tree (entry ∷ front) tree_is are = (
  (are.0.fits, subst (AreBasesOf (distinct (touched_all entry.effects))) (sym are.0.based) (base_of-is entry.effects tree are.0.fits tree_is)),
  front_fits (number + 1) (changed_all entry.effects tree) front
      (applied_all-tree entry.effects 0 tree (changed_all entry.effects tree) tree_is (legal_each entry.effects are.0.fits.each) are.0.applies) are.1,
)

front_counted : (number count : ℕ) → 1 ≤ count → count ≤ max_parts → number + count ≤ 18446744073709551616 → count_rule number count ≡ true
front_counted number count some few small = rw (le_holds 1 count some, le_holds count max_parts few, le_holds (number + count) 18446744073709551616 small) refl

pub fronts_may : (client : ℕ) (ships : Bool) (log : Log) (front left : List Entry) → IsLog log → log.pending ≡ front ++ left → IsStorable front → MaySend client ships log (Store client (log.acked + 1) (parts_of front))
fronts_may client ships log front left log_is is may =
    let are = front_entries (log.acked + 1) log.base front left (subst (AreEntriesOf (log.acked + 1) log.base) is log_is.entries) in
    let long : length (parts_of front) ≡ length front = length-map front (λ (entry : Entry). part_of entry.effects entry.base) in
    let within : length log.pending ≡ length front + length left = ap length is ∙ length-append front left in (
      refl,
      refl,
      front_pending log (log.acked + 1) log.base front are (λ entry among. subst (IsIn entry) (sym is) (IsIn-left entry front left among)),
      record {
        counted = front_counted (log.acked + 1) (length (parts_of front)) (omega (arith, long, may.some)) (omega (arith, long, may.few)) (omega (arith, long, within, log_is.last));
        each = front_fits (log.acked + 1) log.base front log_is.base_is are;
        few = may.few_effects;
        all_contents = may.all_contents;
      },
    )
