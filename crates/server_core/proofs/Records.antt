-- Records behind what is kept of a server.
use Rattle.std.proofs.Common.{◌≡◌, ◌≤◌, ◌<◌, ◌+◌, ◌-◌, ℕ, Bool, true, false, List, [], ◌∷◌, ◌++◌, length, take, Option, Some, None, Result, Ok, Err, refl, sym, ◌∙◌, ap, subst, arith, eqb-true, length-append}
use Rattle.std.specs.Prelude.{◌==◌, ◌^◌, ◌&&◌, is_some, nat_le, nat_lt, if◌then◌else◌}
use Rattle.std.specs.List.{flat_map, AllByRecursion}
use Rattle.std.proofs.lemmas.List.{length-set}
use Rattle.std.proofs.lemmas.List.Concat.{flat_map-cons}
use Rattle.std.proofs.lemmas.List.Sums.{sum_by-cons, sum_by-append}
use Rattle.byte_fields.proofs.Facts.{and_of, and_holds, le_of, le_holds, lt_of, lt_holds, lt_fails, not_lt_of}
use Rattle.tree_values.specs.Tree.{Volume, apply}
use Rattle.tree_values.specs.declared.node.Effect.{Effect}
use Rattle.tree_values.specs.declared.node.TreeError.{TreeError}
use Rattle.tree_values.specs.Effects.{apply_all, unless_refused_at, changed_all, content_size, contents_size, Conflict, first_conflict}
use Rattle.tree_values.specs.Spelling.{EffectFits}
use Rattle.vol_tree.proofs.Behind.{applied-changes}
use Rattle.vol_tree.proofs.Steps.{apply_all-append}
use Rattle.store_image.specs.declared.image.ServerImage.{ServerImage}
use Rattle.store_image.specs.declared.record.ServerRecord.{ServerRecord}
use Rattle.store_image.specs.Records.{with_taken, with_all_taken, IsTakenOf}
use Rattle.store_image.specs.Image.{IsKeptWholeForServer}
use Rattle.store_image.proofs.Appended.{records_are_appended, cut_records_are_torn}
use Rattle.wire_frames.specs.declared.parts.Part.{Part}
use Rattle.wire_frames.specs.Parts.{PartFits, effects_count, contents_count}
use Rattle.wire_frames.specs.Frame.{IsValid}
use Rattle.wire_frames.specs.declared.message.Message.{Message}
use Rattle.wire_frames.specs.declared.message.Message.TheVariants.{Store}
use Rattle.world_rules.specs.Served.{Served, IsServed, TakenEntry, entry_stored, StoreVerdict, judged, served_after, passes, served_through, state_after, taken_if, taken_through, taken_of, with_last}
use Rattle.world_rules.proofs.Sending.{no_parts}
use Rattle.world_rules.proofs.Replies.{state_after-legal}
use Rattle.server_core.specs.Holding.{last_number, served}
use Rattle.server_core.specs.Framing.{is_any}
use Rattle.server_core.specs.Inside.{effects_numbered_above, effects_between, record_with}
use Rattle.server_core.specs.Keeping.{holding_of, Leads, NoteLeads, number_after, record_of_all, WholeIsKept, RecordsLeadOn, TornRecordsAreDropped}
use Rattle.server_core.proofs.Cases.{early}
use Rattle.server_core.proofs.Through.{raised_to, next_number}
use Rattle.server_core.proofs.Many.{raised, Changes}
use Rattle.server_core.proofs.Noting.{message_changes}
use Rattle.server_core.proofs.Merging.{effects_of, no_effects_here, above_either, front_taken}
use Rattle.server_core.proofs.Numbers.{served-raised}

-- ---- what is kept

pub whole_is_kept : WholeIsKept
whole_is_kept state bytes whole = record { image = whole.image; kept = records_are_appended.servers_kept whole.image bytes whole.kept; serves = whole.serves }

-- records leave as many numbers
count_of : (image : ServerImage) (notes : List ServerRecord) → length (with_all_taken image notes).last ≡ length image.last
count_of image [] = refl
count_of image (note ∷ notes) = count_of (with_taken image note) notes ∙ length-set image.last (note.client - 1) note.last

count_is : (image : ServerImage) (bytes : List ℕ) → IsKeptWholeForServer image bytes → length image.last ≡ 64
count_is image bytes whole = ap (λ (i : ServerImage). length i.last) whole.leads ∙ count_of whole.first whole.notes ∙ whole.fits.fits.count

module _ (before after : Served) (note : ServerRecord) (leads : Leads note before after) (image : ServerImage) (serves : served (holding_of image) ≡ before) where
  rows : image.tree ≡ before.volume
  rows = ap (λ (s : Served). s.volume) serves

  becomes : after.volume ≡ changed_all note.effects image.tree
  becomes = applied-changes note.effects 0 before.volume after.volume leads.applies ∙ ap (changed_all note.effects) (sym rows)

  -- it may come next
  taken : IsTakenOf image note
  taken = record {
    some = leads.some;
    few = leads.few;
    later = subst (λ (n : ℕ). n < note.last) (sym (ap (λ (s : Served). s.last note.client) serves)) leads.higher;
    number = leads.small;
    fits = leads.effects;
    applies = ap (apply_all 0 note.effects) rows ∙ leads.applies ∙ ap Ok becomes;
  }

  numbers : with_last (last_number image.last) note.client note.last ≡ after.last
  numbers = ap (λ (s : Served). with_last s.last note.client note.last) serves ∙ sym leads.numbered

  led_to : length image.last ≡ 64 → served (holding_of (with_taken image note)) ≡ after
  led_to count =
      let high : note.client ≤ length image.last = omega (arith, count, leads.few) in
      served-raised (changed_all note.effects image.tree) image.last note.client note.last leads.some high
      ∙ (λ i. record { volume = sym becomes i; last = numbers i })

pub records_lead_on : RecordsLeadOn
records_lead_on before after note bytes whole leads =
    let is = taken before after note leads whole.image whole.serves in
    record {
      image = with_taken whole.image note;
      kept = records_are_appended.behind_server whole.image bytes note whole.kept is;
      serves = led_to before after note leads whole.image whole.serves (count_is whole.image bytes whole.kept);
    }

pub torn_records_are_dropped : TornRecordsAreDropped
torn_records_are_dropped before after note bytes count whole leads short =
    record { image = whole.image; kept = cut_records_are_torn.behind_server whole.image bytes note count whole.kept (taken before after note leads whole.image whole.serves) short; serves = whole.serves }

-- ---- the last number that is raised

raised_same : (last : ℕ → ℕ) (client : ℕ) → last ≡ with_last last client (last client)
raised_same last client = λ i other. by other (other == client) refl i
  where
    by : (other : ℕ) (b : Bool) → (other == client) ≡ b → last other ≡ (if b then last client else last other)
    by other true e = ap last (eqb-true other client e)
    by other false e = refl

raised_twice : (last : ℕ → ℕ) (client first second : ℕ) → with_last (with_last last client first) client second ≡ with_last last client second
raised_twice last client first second = λ i other. by other (other == client) refl i
  where
    by : (other : ℕ) (b : Bool) → (other == client) ≡ b → (if b then second else with_last last client first other) ≡ (if b then second else last other)
    by other true e = refl
    by other false e = ap (λ (c : Bool). if c then first else last other) e

-- ---- effects one after the other

applied_at : (i j : ℕ) (effects : List Effect) (v w : Volume) → apply_all i effects v ≡ Ok w → apply_all j effects v ≡ Ok w
applied_at i j [] v w e = e
applied_at i j (effect ∷ effects) v w e = by (apply effect v) e (λ middle. applied_at (i + 1) (j + 1) effects middle w)
  where
    by : (r : Result Volume TreeError) → unless_refused_at i r (apply_all (i + 1) effects) ≡ Ok w
        → ((middle : Volume) → apply_all (i + 1) effects middle ≡ Ok w → apply_all (j + 1) effects middle ≡ Ok w) → unless_refused_at j r (apply_all (j + 1) effects) ≡ Ok w
    by (Ok middle) e later = later middle e
    by (Err fault) e later = absurd (cc)

applied_both : (first second : List Effect) (v middle w : Volume) → apply_all 0 first v ≡ Ok middle → apply_all 0 second middle ≡ Ok w → apply_all 0 (first ++ second) v ≡ Ok w
applied_both first second v middle w one two = apply_all-append first second 0 v middle one ∙ applied_at 0 (0 + length first) second middle w two

-- the effects of some entries of a store fit together
record FitSome (all : List Part) (effects : List Effect) : Type 0 where
  each : AllByRecursion EffectFits effects
  few : length effects ≤ effects_count all
  contents : contents_size effects ≤ contents_count all

all_both : (P : Effect → Type 0) (xs ys : List Effect) → AllByRecursion P xs → AllByRecursion P ys → AllByRecursion P (xs ++ ys)
all_both P [] ys first second = second
all_both P (x ∷ xs) ys first second = (first.0, all_both P xs ys first.1 second)

contents_both : (xs ys : List Effect) → contents_size (xs ++ ys) ≡ contents_size xs + contents_size ys
contents_both xs ys = sum_by-append content_size xs ys

fit_some : (number : ℕ) (parts : List Part) (above upto : ℕ) → AllByRecursion PartFits parts → FitSome parts (effects_of number parts above upto)
fit_some number [] above upto fits = record { each = tt; few = omega arith; contents = omega arith }
fit_some number (part ∷ parts) above upto fits = by (nat_lt above number && nat_le number upto) (fit_some (number + 1) parts above upto fits.1)
  where
    more : effects_count (part ∷ parts) ≡ length part.effects + effects_count parts
    more = sum_by-cons (λ (p : Part). length p.effects) part parts

    more_contents : contents_count (part ∷ parts) ≡ contents_size part.effects + contents_count parts
    more_contents = sum_by-cons (λ (p : Part). contents_size p.effects) part parts

    by : (b : Bool) → FitSome parts (effects_of (number + 1) parts above upto) → FitSome (part ∷ parts) ((if b then part.effects else []) ++ effects_of (number + 1) parts above upto)
    by true rest = record {
      each = all_both EffectFits part.effects (effects_of (number + 1) parts above upto) fits.0.0.each rest.each;
      few = omega (arith, rest.few, more, length-append part.effects (effects_of (number + 1) parts above upto));
      contents = omega (arith, rest.contents, more_contents, contents_both part.effects (effects_of (number + 1) parts above upto));
    }
    by false rest = record { each = rest.each; few = omega (arith, rest.few, more); contents = omega (arith, rest.contents, more_contents) }

-- ---- what is noted

abbrev effects_in : List TakenEntry → List Effect
effects_in taken = flat_map (λ (entry : TakenEntry). entry.effects) taken

-- What was taken of entries of a client's store, numbered on from this number, and what that led to.
record AreBehind (client number : ℕ) (parts : List Part) (s : Served) (taken : List TakenEntry) (t : Served) : Type 0 where
  own : AllByRecursion (λ (entry : TakenEntry). entry.client ≡ client) taken
  lasts : number_after (s.last client) taken ≡ t.last client
  up : s.last client ≤ t.last client
  some : (taken ≡ [] → ⊥) → (s.last client < t.last client) × (1 ≤ length (effects_in taken))
  effects : effects_in taken ≡ effects_of number parts (s.last client) (t.last client)
  others : t.last ≡ with_last s.last client (t.last client)
  applies : apply_all 0 (effects_in taken) s.volume ≡ Ok t.volume

behind_none : (client number : ℕ) (parts : List Part) (s : Served) → AreBehind client number parts s [] s
behind_none client number parts s = record {
  own = tt;
  lasts = refl;
  up = omega arith;
  some = λ none. absurd (none refl);
  effects = sym (no_effects_here number parts (s.last client));
  others = raised_same s.last client;
  applies = refl;
}

behind_known : (client number : ℕ) (part : Part) (parts : List Part) (s t : Served) (taken : List TakenEntry) → nat_le number (s.last client) ≡ true → AreBehind client (number + 1) parts s taken t → AreBehind client number (part ∷ parts) s taken t
behind_known client number part parts s t entries known rest = record {
  own = rest.own;
  lasts = rest.lasts;
  up = rest.up;
  some = rest.some;
  effects = rest.effects
      ∙ ap (λ (b : Bool). (if b && nat_le number (t.last client) then part.effects else []) ++ effects_of (number + 1) parts (s.last client) (t.last client)) (sym (lt_fails (s.last client) number (le_of number (s.last client) known)));
  others = rest.others;
  applies = rest.applies;
}

behind_taken : (client number : ℕ) (part : Part) (parts : List Part) (new : Volume) (s t : Served) (taken : List TakenEntry) → 1 ≤ length part.effects → number ≡ s.last client + 1 → apply_all 0 part.effects s.volume ≡ Ok new
    → AreBehind client (number + 1) parts (raised_to client number new s) taken t → AreBehind client number (part ∷ parts) s (entry_stored client number part.effects part.base ∷ taken) t
behind_taken client number part parts new s t taken full next applies rest =
    let here : (raised_to client number new s).last client ≡ number = raised s.last client number in
    let stored = entry_stored client number part.effects part.base in
    let above : number ≤ t.last client = subst (λ n. n ≤ t.last client) here rest.up in
    let whole = flat_map-cons (λ (entry : TakenEntry). entry.effects) stored taken in
    let later : effects_in taken ≡ effects_of (number + 1) parts (s.last client) (t.last client) =
    rest.effects ∙ ap (λ n. effects_of (number + 1) parts n (t.last client)) here ∙ above_either (number + 1) parts number (s.last client) (t.last client) (omega arith) (omega (arith, next)) in
    record {
      own = (refl, rest.own);
      lasts = subst (λ n. number_after n taken ≡ t.last client) here rest.lasts;
      up = omega (arith, above, next);
      some = λ none. (omega (arith, above, next), omega (arith, ap length whole, length-append part.effects (effects_in taken), full));
      effects = whole
          ∙ ap (λ es. part.effects ++ es) later
          ∙ ap (λ (b : Bool). (if b then part.effects else []) ++ effects_of (number + 1) parts (s.last client) (t.last client))
          (sym (and_holds (nat_lt (s.last client) number) (nat_le number (t.last client)) (lt_holds (s.last client) number (omega (arith, next))) (le_holds number (t.last client) above)));
      others = rest.others ∙ raised_twice s.last client number (t.last client);
      applies = ap (λ es. apply_all 0 es s.volume) whole ∙ applied_both part.effects (effects_in taken) s.volume new t.volume applies rest.applies;
    }

are_behind : (client number : ℕ) (parts : List Part) (s : Served) → AllByRecursion PartFits parts → number ≤ s.last client + 1 → AreBehind client number parts s (taken_through client number parts s) (served_through client number parts s)
are_behind client number [] s fits near = behind_none client number [] s
are_behind client number (part ∷ parts) s fits near =
    by (nat_le number (s.last client)) refl (nat_lt (s.last client + 1) number) refl (first_conflict part.base s.volume) (apply_all 0 part.effects s.volume) refl
    (λ le. are_behind client (number + 1) parts s fits.1 (omega (arith, le))) (λ new. are_behind client (number + 1) parts (raised_to client number new s) fits.1 (omega (arith, raised s.last client number)))
  where
    by : (r : Bool) → nat_le number (s.last client) ≡ r → (b : Bool) → nat_lt (s.last client + 1) number ≡ b → (c : Option Conflict) → (a : Result Volume (ℕ × TreeError)) → apply_all 0 part.effects s.volume ≡ a
        → (number ≤ s.last client → AreBehind client (number + 1) parts s (taken_through client (number + 1) parts s) (served_through client (number + 1) parts s))
        → ((new : Volume) → let t = raised_to client number new s in AreBehind client (number + 1) parts t (taken_through client (number + 1) parts t) (served_through client (number + 1) parts t))
        → let j = judged r b c a in let t = served_after client number j s in
        AreBehind client number (part ∷ parts) s (taken_if j (entry_stored client number part.effects part.base) ++ (if passes j then taken_through client (number + 1) parts t else [])) (if passes j then served_through client (number + 1) parts t else t)
    by true is_r b is_b c a is_a known taken = behind_known client number part parts s (served_through client (number + 1) parts s) (taken_through client (number + 1) parts s) is_r (known (le_of number (s.last client) is_r))
    by false is_r true is_b c a is_a known taken = absurd (omega (arith, lt_of (s.last client + 1) number is_b, near))
    by false is_r false is_b (Some c) a is_a known taken = behind_none client number (part ∷ parts) s
    by false is_r false is_b None (Err cause) is_a known taken = behind_none client number (part ∷ parts) s
    by false is_r false is_b None (Ok volume) is_a known taken =
        let t = raised_to client number volume s in
        behind_taken client number part parts volume s (served_through client (number + 1) parts t) (taken_through client (number + 1) parts t) fits.0.0.some (next_number number (s.last client) is_r is_b) is_a (taken volume)

-- nothing is taken of a store whose number is beyond the next
beyond : (client number : ℕ) (part : Part) (parts : List Part) (s : Served) → s.last client + 1 < number → (taken_through client number (part ∷ parts) s ≡ []) × (served_through client number (part ∷ parts) s ≡ s)
beyond client number part parts s lt =
    let is = early client number part.effects part.base s lt in
    let stored = entry_stored client number part.effects part.base in (
      ap (λ (j : StoreVerdict). taken_if j stored ++ (if passes j then taken_through client (number + 1) parts (served_after client number j s) else [])) is,
      ap (λ (j : StoreVerdict). if passes j then served_through client (number + 1) parts (served_after client number j s) else served_after client number j s) is,
    )

-- ---- the record of a store

-- the record that is made of the last numbers and the copies is that of all entries that were taken
record_is : (client number : ℕ) (parts : List Part) (s t : Served) (taken : List TakenEntry) → AreBehind client number parts s taken t
    → record_with client number parts (s.last client) (t.last client) (effects_numbered_above number parts (s.last client)) ≡ record_of_all taken
record_is client number parts s t [] behind =
    ap (λ (b : Bool). if b then Some (record { client = client; last = t.last client; effects = take (effects_between number parts (s.last client) (t.last client)) (effects_numbered_above number parts (s.last client)) }) else None)
    (lt_fails (s.last client) (t.last client) (omega (arith, behind.lasts)))
record_is client number parts s t (entry ∷ entries) behind =
    let higher = (behind.some (λ e. absurd (cc))).0 in
    let effects : take (effects_between number parts (s.last client) (t.last client)) (effects_numbered_above number parts (s.last client)) ≡ effects_in (entry ∷ entries) =
    front_taken number parts (s.last client) (t.last client) ∙ sym behind.effects in
    ap (λ (b : Bool). if b then Some (record { client = client; last = t.last client; effects = take (effects_between number parts (s.last client) (t.last client)) (effects_numbered_above number parts (s.last client)) }) else None)
    (lt_holds (s.last client) (t.last client) higher)
    ∙ (λ i. Some (record { client = sym behind.own.0 i; last = sym behind.lasts i; effects = effects i }))

pub store_is_noted : (client number : ℕ) (parts : List Part) (s : Served) → IsValid (Store client number parts)
    → record_with client number parts (s.last client) ((served_through client number parts s).last client) (effects_numbered_above number parts (s.last client)) ≡ record_of_all (taken_through client number parts s)
store_is_noted client number [] s valid = absurd (no_parts number valid.body_fits)
store_is_noted client number (part ∷ parts) s valid = by (nat_lt (s.last client + 1) number) refl
  where
    by : (b : Bool) → nat_lt (s.last client + 1) number ≡ b
        → record_with client number (part ∷ parts) (s.last client) ((served_through client number (part ∷ parts) s).last client) (effects_numbered_above number (part ∷ parts) (s.last client)) ≡ record_of_all (taken_through client number (part ∷ parts) s)
    by true e =
        let none = beyond client number part parts s (lt_of (s.last client + 1) number e) in
        ap (λ (t : Served). record_with client number (part ∷ parts) (s.last client) (t.last client) (effects_numbered_above number (part ∷ parts) (s.last client))) none.1
        ∙ record_is client number (part ∷ parts) s s [] (behind_none client number (part ∷ parts) s)
        ∙ ap record_of_all (sym none.0)
    by false e = record_is client number (part ∷ parts) s (served_through client number (part ∷ parts) s) (taken_through client number (part ∷ parts) s) (are_behind client number (part ∷ parts) s valid.body_fits.each (not_lt_of (s.last client + 1) number e))

-- it leads from what was served before to what is served then
leads_all : (client number : ℕ) (parts : List Part) (s t : Served) (taken : List TakenEntry) → IsValid (Store client number parts) → IsServed t → AreBehind client number parts s taken t → Changes s taken t → NoteLeads (record_of_all taken) s t
leads_all client number parts s t [] valid legal behind changed = changed
leads_all client number parts s t (entry ∷ entries) valid legal behind changed =
    let of_client = and_of (nat_le 1 client) (nat_le client 64) valid.client_fits in
    let own : entry.client ≡ client = behind.own.0 in
    let fit = fit_some number parts (s.last client) (t.last client) valid.body_fits.each in
    let full = behind.some (λ e. absurd (cc)) in
    let all : FitSome parts (effects_in (entry ∷ entries)) = subst (FitSome parts) (sym behind.effects) fit in
    record {
      some = subst (λ c. 1 ≤ c) (sym own) (le_of 1 client of_client.0);
      few = subst (λ c. c ≤ 64) (sym own) (le_of client 64 of_client.1);
      higher = subst (λ c. s.last c < number_after entry.number entries) (sym own) (subst (λ n. s.last client < n) (sym behind.lasts) full.0);
      small = subst (λ n. n < 2 ^ 64) (sym behind.lasts) (legal.small client);
      effects = record { some = full.1; few = omega (arith, all.few, valid.body_fits.few); each = all.each; all_contents = omega (arith, all.contents, valid.body_fits.all_contents) };
      applies = behind.applies;
      numbered = subst (λ c. t.last ≡ with_last s.last c (number_after entry.number entries)) (sym own) (subst (λ n. t.last ≡ with_last s.last client n) (sym behind.lasts) behind.others);
    }

pub taken_leads : (message : Message) (s : Served) → IsValid message → IsServed s → NoteLeads (record_of_all (taken_of message s)) s (state_after message s)
taken_leads (Store client number []) s valid served = absurd (no_parts number valid.body_fits)
taken_leads (Store client number (part ∷ parts)) s valid served = by (nat_lt (s.last client + 1) number) refl
  where
    by : (b : Bool) → nat_lt (s.last client + 1) number ≡ b → NoteLeads (record_of_all (taken_through client number (part ∷ parts) s)) s (served_through client number (part ∷ parts) s)
    by true e =
        let none = beyond client number part parts s (lt_of (s.last client + 1) number e) in
        subst (λ es. NoteLeads (record_of_all es) s (served_through client number (part ∷ parts) s)) (sym none.0) none.1
    by false e =
        leads_all client number (part ∷ parts) s (served_through client number (part ∷ parts) s) (taken_through client number (part ∷ parts) s) valid (state_after-legal (Store client number (part ∷ parts)) s valid served)
        (are_behind client number (part ∷ parts) s valid.body_fits.each (not_lt_of (s.last client + 1) number e)) (message_changes (Store client number (part ∷ parts)) s)
taken_leads _ s valid served = refl

-- there is one exactly where anything is taken
pub any_is_noted : (taken : List TakenEntry) → is_some (record_of_all taken) ≡ is_any taken
any_is_noted [] = refl
any_is_noted (entry ∷ entries) = refl
