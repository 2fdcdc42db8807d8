-- What a run keeps by its journal.
use Rattle.std.proofs.Common.{◌≡◌, ◌≤◌, ◌<◌, ◌+◌, ◌⊎◌, inl, inr, ℕ, Bool, true, false, ◌||◌, List, [], ◌++◌, length, take, Option, None, Some, refl, sym, ◌∙◌, ap, subst, arith}
use Rattle.std.specs.Prelude.{nat_le, if◌then◌else◌, IfSome}
use Rattle.std.proofs.lemmas.Bool.{cases_lt, leb-true}
use Rattle.std.proofs.lemmas.List.{append-nil, length-append, length-take-le, take_all}
use Rattle.outside.specs.Outside.{Told}
use Rattle.outside.specs.Keeper.{Images, IsPut, followed_by, kept_under}
use Rattle.store_image.specs.declared.image.TheConstants.{MAX_SERVER_IMAGE, MAX_RECORDS}
use Rattle.store_image.specs.declared.record.ServerRecord.{ServerRecord}
use Rattle.store_image.specs.Records.{server_record}
use Rattle.world_rules.specs.Served.{Served}
use Rattle.server_core.specs.Keeping.{IsKeptWholeForServed, IsImageForServed, Leads}
use Rattle.server_core.proofs.Records.{whole_is_kept, records_lead_on, torn_records_are_dropped}
use Rattle.server_prog.specs.declared.journal.ServerJournal.{ServerJournal}
use Rattle.server_prog.specs.declared.journal.ServerJournal.TheVariants.{Unsaved, Saved}
use Rattle.server_prog.specs.Serving.{IsKeptNow, KeptAs, IsImageWithRecords}
use Rattle.server_prog.specs.Inside.{is_saved, room_for, IsJournaled, Journals, PutsRecord, Puts, KeepsOn, ServerMayKeep}
use Rattle.server_prog.proofs.Kept.{Kept, told_with}

-- ---- what stands

now_kept : (records : ℕ) (s : Served) (now : Option (List ℕ)) → IsJournaled records s now → IsKeptNow s now
now_kept records s now is = record { bytes = is.bytes; here = is.here; kept = whole_is_kept s is.bytes is.whole; small = omega (arith, is.small, is.few) }

-- what the journal says stays so while nothing is kept
pub still : (j : ServerJournal) (s : Served) (k : Kept) → Journals j s k → Told k k (KeptAs (is_saved j) s)
still Unsaved s None journals = refl
still Unsaved s (Some now) journals = refl
still (Saved records) s None journals = refl
still (Saved records) s (Some now) journals = now_kept records s now journals

-- ---- what is kept of a change

or_true : (b : Bool) → (b || true) ≡ true
or_true true = refl
or_true false = refl

-- what the images tell of one name
under : (old new : Option Images) (name : List ℕ) (J : Kept → Type 0) (R : Images → Images → Type 0) (P : Option (List ℕ) → Option (List ℕ) → Type 0) → ((o n : Images) → J (Some (o name)) → R o n → P (o name) (n name))
    → J (kept_under name old) → Told old new R → Told (kept_under name old) (kept_under name new) P
under None None name J R P tells is told = refl
under None (Some n) name J R P tells is told = absurd (cc told)
under (Some o) None name J R P tells is told = absurd told
under (Some o) (Some n) name J R P tells is told = tells o n is told

-- a keeper that told what is kept tells it
tells_now : (a b : Kept) (P : Option (List ℕ) → Type 0) → Told a b (λ o n. P n) → IfSome b P
tells_now None None P told = tt
tells_now None (Some n) P told = absurd (cc told)
tells_now (Some o) None P told = absurd told
tells_now (Some o) (Some n) P told = told

-- the record was kept, and so many bytes of records stand there now
abbrev IsPutOn : ServerJournal → ServerRecord → ℕ → Served → Option (List ℕ) → Option (List ℕ) → Type 0
IsPutOn j note records after o n = IsJournaled records after n × Puts (Some note) j (Saved records) after o n

kept_on : (j : ServerJournal) (note : ServerRecord) (records : ℕ) (after : Served) (a b : Kept) → Told a b (IsPutOn j note records after) → KeepsOn (Some note) j (Saved records) after a b
kept_on j note records after a b told = record {
  saved = sym (or_true (is_saved j));
  journals = tells_now a b (IsJournaled records after) (told_with a b (IsPutOn j note records after) (λ o n. IsJournaled records after n) (λ o n is. is.0) told);
  kept = told_with a b (IsPutOn j note records after) (KeptAs true after) (λ o n is. now_kept records after n is.0) told;
  puts = told_with a b (IsPutOn j note records after) (Puts (Some note) j (Saved records) after) (λ o n is. is.1) told;
}

-- without a record all is as before
pub puts_none : (j : ServerJournal) (s : Served) (k : Kept) → Told k k (Puts None j j s)
puts_none j s None = refl
puts_none j s (Some now) = (refl, refl)

-- what it may be where the keeping is refused
abbrev OldOrNew : ServerJournal → Served → Served → Option (List ℕ) → Option (List ℕ) → Type 0
OldOrNew j before after o n = KeptAs (is_saved j) before o n ⊎ KeptAs true after o n

-- nothing was done
pub not_kept : (changed : Bool) (j : ServerJournal) (before after : Served) (k : Kept) → Journals j before k → ServerMayKeep changed j before after k k
not_kept changed j before after k journals = told_with k k (KeptAs (is_saved j) before) (λ o n. KeptAs (is_saved j) before o n ⊎ KeptAs changed after o n) (λ o n is. inl is) (still j before k journals)

stands : (j : ServerJournal) (before after : Served) (name : List ℕ) (o n : Images) → Journals j before (Some (o name)) → n ≡ o → OldOrNew j before after (o name) (n name)
stands j before after name o n journals same = inl (subst (λ (i : Images). KeptAs (is_saved j) before (o name) (i name)) (sym same) (still j before (Some (o name)) journals))

-- ---- a save

-- an image is kept whole
whole_of : (s : Served) (bytes : List ℕ) → IsImageForServed s bytes → IsKeptWholeForServed s bytes
whole_of s bytes is = record { image = is.image; kept = is.kept; serves = is.serves }

module _ (name image : List ℕ) (j : ServerJournal) (before after : Served) (old new : Option Images) (is : IsImageForServed after image) (small : length image ≤ MAX_SERVER_IMAGE) (journals : Journals j before (kept_under name old)) where
  put_journaled : (o n : Images) → IsPut name image o n → IsJournaled 0 after (n name)
  put_journaled o n put = record { bytes = image; here = put.here; whole = whole_of after image is; few = omega arith; small = omega (arith, small) }

  module _ (note : ServerRecord) (none : room_for j (length (server_record note)) ≡ None) where
    put_alone : (o n : Images) → IsPut name image o n → Puts (Some note) j (Saved 0) after (o name) (n name)
    put_alone o n put =
        let alone : IsImageWithRecords after [] (n name) = record { image = image; kept = is; here = put.here ∙ ap Some (sym (append-nil image)) } in
        subst (λ (r : Option ℕ). PutsRecord r note (Saved 0) after (o name) (n name)) (sym none) (refl, alone)

    pub saved : Told old new (λ o n. IsPut name image o n) → KeepsOn (Some note) j (Saved 0) after (kept_under name old) (kept_under name new)
    saved told =
        kept_on j note 0 after (kept_under name old) (kept_under name new)
        (under old new name (Journals j before) (λ o n. IsPut name image o n) (IsPutOn j note 0 after) (λ o n _ put. (put_journaled o n put, put_alone o n put)) journals told)

  pub not_saved : Told old new (λ o n. (n ≡ o) ⊎ IsPut name image o n) → ServerMayKeep true j before after (kept_under name old) (kept_under name new)
  not_saved told = under old new name (Journals j before) (λ o n. (n ≡ o) ⊎ IsPut name image o n) (OldOrNew j before after) by journals told
    where
      by : (o n : Images) → Journals j before (Some (o name)) → (n ≡ o) ⊎ IsPut name image o n → OldOrNew j before after (o name) (n name)
      by o n is (inl same) = stands j before after name o n is same
      by o n is (inr put) = inr (now_kept 0 after (n name) (put_journaled o n put))

-- ---- an append

-- there was room for one more record
room : (j : ServerJournal) (size total : ℕ) → room_for j size ≡ Some total → (records : ℕ) × (j ≡ Saved records) × (total ≡ records + size) × (total ≤ MAX_RECORDS)
room Unsaved size total some = absurd (cc some)
room (Saved records) size total some = by (nat_le (records + size) MAX_RECORDS) refl some
  where
    by : (b : Bool) → nat_le (records + size) MAX_RECORDS ≡ b → (if b then Some (records + size) else None) ≡ Some total → (r : ℕ) × (Saved records ≡ Saved r) × (total ≡ r + size) × (total ≤ MAX_RECORDS)
    by false is e = absurd (cc e)
    by true is e = let same : records + size ≡ total = cc in (records, refl, sym same, subst (λ (n : ℕ). n ≤ MAX_RECORDS) same (leb-true (records + size) MAX_RECORDS is))

module _ (name : List ℕ) (note : ServerRecord) (records total : ℕ) (before after : Served) (leads : Leads note before after) (total_is : total ≡ records + length (server_record note)) (few : total ≤ MAX_RECORDS) where
  abbrev piece : List ℕ
  piece = server_record note

  -- what stands behind what was kept
  behind : (o : Option (List ℕ)) (bytes more : List ℕ) → o ≡ Some bytes → followed_by more o ≡ bytes ++ more
  behind o bytes more is = ap (followed_by more) is

  with_record : (o n : Images) → IsJournaled records before (o name) → n name ≡ Some (followed_by piece (o name)) → IsJournaled total after (n name)
  with_record o n is put = record {
    bytes = is.bytes ++ piece;
    here = put ∙ ap Some (behind (o name) is.bytes piece is.here);
    whole = records_lead_on before after note is.bytes is.whole leads;
    few = few;
    small = let all = length-append is.bytes piece in omega (arith, all, is.small, total_is);
  }

  with_front : (count : ℕ) (o n : Images) → IsJournaled records before (o name) → n name ≡ Some (followed_by (take count piece) (o name)) → count < length piece → IsKeptNow before (n name)
  with_front count o n is put short = record {
    bytes = is.bytes ++ take count piece;
    here = put ∙ ap Some (behind (o name) is.bytes (take count piece) is.here);
    kept = torn_records_are_dropped before after note is.bytes count is.whole leads short;
    small =
        let all = length-append is.bytes (take count piece) in
        let part = length-take-le count piece (omega (arith, short)) in
        omega (arith, all, part, short, is.small, total_is, few);
  }

  pub appended : (old new : Option Images) → room_for (Saved records) (length piece) ≡ Some total → Journals (Saved records) before (kept_under name old) → Told old new (λ o n. IsPut name (followed_by piece (o name)) o n)
      → KeepsOn (Some note) (Saved records) (Saved total) after (kept_under name old) (kept_under name new)
  appended old new some journals told =
      kept_on (Saved records) note total after (kept_under name old) (kept_under name new)
      (under old new name (Journals (Saved records) before) (λ o n. IsPut name (followed_by piece (o name)) o n) (IsPutOn (Saved records) note total after)
      (λ o n is put. (with_record o n is put.here, subst (λ (r : Option ℕ). PutsRecord r note (Saved total) after (o name) (n name)) (sym some) (refl, put.here))) journals told)

  pub not_appended : (old new : Option Images) → Journals (Saved records) before (kept_under name old) → Told old new (λ o n. (n ≡ o) ⊎ ((count : ℕ) × IsPut name (followed_by (take count piece) (o name)) o n))
      → ServerMayKeep true (Saved records) before after (kept_under name old) (kept_under name new)
  not_appended old new journals told =
      under old new name (Journals (Saved records) before) (λ o n. (n ≡ o) ⊎ ((count : ℕ) × IsPut name (followed_by (take count piece) (o name)) o n)) (OldOrNew (Saved records) before after) by journals told
    where
      by : (o n : Images) → IsJournaled records before (o name) → (n ≡ o) ⊎ ((count : ℕ) × IsPut name (followed_by (take count piece) (o name)) o n) → OldOrNew (Saved records) before after (o name) (n name)
      by o n is (inl same) = stands (Saved records) before after name o n is same
      by o n is (inr put) = cut (cases_lt put.0 (length piece))
        where
          cut : (put.0 < length piece) ⊎ (length piece ≤ put.0) → OldOrNew (Saved records) before after (o name) (n name)
          cut (inl short) = inl (with_front put.0 o n is put.1.here short)
          cut (inr all) =
              let whole : take put.0 piece ≡ piece = take_all put.0 piece all in
              inr (now_kept total after (n name) (with_record o n is (put.1.here ∙ ap (λ (l : List ℕ). Some (followed_by l (o name))) whole)))

-- ---- the calls that keep a record

module _ (name : List ℕ) (j : ServerJournal) (note : ServerRecord) (before after : Served) (old new : Option Images) (leads : Leads note before after) (journals : Journals j before (kept_under name old)) where
  -- the record has so many bytes
  sized : (items : List ℕ) (size : ℕ) → items ≡ server_record note → size ≡ length items → room_for j (length (server_record note)) ≡ room_for j size
  sized items size spelled size_is = ap (room_for j) (sym (size_is ∙ ap length spelled))

  module _ (items piece : List ℕ) (size total : ℕ) (same : piece ≡ items) (spelled : items ≡ server_record note) (size_is : size ≡ length items) (fits : Some total ≡ room_for j size) where
    abbrev Placed : Type 0
    Placed = (records : ℕ) × (j ≡ Saved records) × (total ≡ records + size) × (total ≤ MAX_RECORDS)

    placed : Placed
    placed = room j size total (sym fits)

    total_is : total ≡ placed.0 + length (server_record note)
    total_is = let all : length items ≡ length (server_record note) = ap length spelled in omega (arith, placed.2, size_is, all)

    of_saved : Journals (Saved placed.0) before (kept_under name old)
    of_saved = subst (λ (k : ServerJournal). Journals k before (kept_under name old)) placed.1 journals

    some_is : room_for (Saved placed.0) (length (server_record note)) ≡ Some total
    some_is = subst (λ (k : ServerJournal). room_for k (length (server_record note)) ≡ Some total) placed.1 (sized items size spelled size_is ∙ sym fits)

    pub record_kept : Told old new (λ o n. IsPut name (followed_by piece (o name)) o n) → KeepsOn (Some note) j (Saved total) after (kept_under name old) (kept_under name new)
    record_kept told =
        let is : Told old new (λ o n. IsPut name (followed_by (server_record note) (o name)) o n) = subst (λ (p : List ℕ). Told old new (λ o n. IsPut name (followed_by p (o name)) o n)) (same ∙ spelled) told in
        subst (λ (k : ServerJournal). KeepsOn (Some note) k (Saved total) after (kept_under name old) (kept_under name new)) (sym placed.1)
        (appended name note placed.0 total before after leads total_is placed.3 old new some_is of_saved is)

    pub record_refused : Told old new (λ o n. (n ≡ o) ⊎ ((count : ℕ) × IsPut name (followed_by (take count piece) (o name)) o n)) → ServerMayKeep true j before after (kept_under name old) (kept_under name new)
    record_refused told =
        let is : Told old new (λ o n. (n ≡ o) ⊎ ((count : ℕ) × IsPut name (followed_by (take count (server_record note)) (o name)) o n)) =
        subst (λ (p : List ℕ). Told old new (λ o n. (n ≡ o) ⊎ ((count : ℕ) × IsPut name (followed_by (take count p) (o name)) o n))) (same ∙ spelled) told in
        subst (λ (k : ServerJournal). ServerMayKeep true k before after (kept_under name old) (kept_under name new)) (sym placed.1)
        (not_appended name note placed.0 total before after leads total_is placed.3 old new of_saved is)

  module _ (items image : List ℕ) (same : image ≡ items) (is : IsImageForServed after items) (small : length items ≤ MAX_SERVER_IMAGE) where
    is_image : IsImageForServed after image
    is_image = subst (IsImageForServed after) (sym same) is

    small_image : length image ≤ MAX_SERVER_IMAGE
    small_image = subst (λ (i : List ℕ). length i ≤ MAX_SERVER_IMAGE) (sym same) small

    pub image_kept : (piece : List ℕ) (size : ℕ) → piece ≡ server_record note → size ≡ length piece → None ≡ room_for j size → Told old new (λ o n. IsPut name image o n)
        → KeepsOn (Some note) j (Saved 0) after (kept_under name old) (kept_under name new)
    image_kept piece size spelled size_is none told = saved name image j before after old new is_image small_image journals note (sized piece size spelled size_is ∙ sym none) told

    pub image_refused : Told old new (λ o n. (n ≡ o) ⊎ IsPut name image o n) → ServerMayKeep true j before after (kept_under name old) (kept_under name new)
    image_refused told = not_saved name image j before after old new is_image small_image journals told
