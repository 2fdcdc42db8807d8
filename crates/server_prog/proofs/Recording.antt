-- The records of what a run takes behind its first change.
use Rattle.std.proofs.Common.{◌≡◌, ◌≤◌, ℕ, ◌+◌, Bool, true, false, List, [], ◌∷◌, ◌++◌, length, Option, None, Some, refl, sym, ◌∙◌, ap, subst, arith}
use Rattle.std.specs.Prelude.{nat_le, if◌then◌else◌, is_some, option_to_list}
use Rattle.std.proofs.lemmas.Bool.{le-leb}
use Rattle.std.proofs.lemmas.Grind.{flat_map-append}
use Rattle.std.proofs.lemmas.List.{append-nil, append_assoc, length-append}
use Rattle.std.proofs.lemmas.List.Concat.{flat_map-cons}
use Rattle.outside.specs.Outside.{Told}
use Rattle.outside.specs.Keeper.{followed_by}
use Rattle.store_image.specs.declared.image.TheConstants.{MAX_RECORDS}
use Rattle.store_image.specs.declared.record.ServerRecord.{ServerRecord}
use Rattle.store_image.specs.Records.{server_record, server_records}
use Rattle.world_rules.specs.Served.{Served}
use Rattle.server_core.specs.Framing.{frame_after, frames_after, takes, messages_of}
use Rattle.server_core.specs.Keeping.{record_of_all, records_taken}
use Rattle.server_core.specs.Laws.{taken_among}
use Rattle.server_core.proofs.Frames.{entries_tell}
use Rattle.server_core.proofs.Noting.{taken_frames_change}
use Rattle.server_core.proofs.Records.{any_is_noted}
use Rattle.server_prog.specs.declared.journal.ServerJournal.{ServerJournal}
use Rattle.server_prog.specs.declared.journal.ServerJournal.TheVariants.{Unsaved, Saved}
use Rattle.server_prog.specs.Serving.{first_and_records, IsKeptWith, IsRecordedAfter}
use Rattle.server_prog.specs.Inside.{PutsRecord, Puts}
use Rattle.server_prog.proofs.Kept.{Kept, told_then, told_with}
use Rattle.server_prog.proofs.SoFar.{IsJournalOf}

-- what was left first, and the records behind it
abbrev First : Type 0
First = Option (Served × List ServerRecord)

-- ---- what the journal counts

-- no frame was taken yet
pub counted_none : (k : Kept) → Told k k (IsJournalOf Unsaved None)
counted_none None = refl
counted_none (Some now) = (refl, refl)

-- what is counted is kept
kept_of : (j : ServerJournal) (first : First) (x y : Option (List ℕ)) → IsJournalOf j first x y → IsKeptWith first x y
kept_of j None x y is = is.1
kept_of j (Some first) x y is = λ few. (is few).1

pub recorded : (j : ServerJournal) (frames : List (List ℕ)) (s : Served) (a b : Kept) → Told a b (IsJournalOf j (first_and_records frames s)) → Told a b (IsRecordedAfter frames s)
recorded j frames s a b told = told_with a b (IsJournalOf j (first_and_records frames s)) (IsRecordedAfter frames s) (kept_of j (first_and_records frames s)) told

-- ---- frames and their records

-- the record of one frame, where anything is taken of it
abbrev note_of : List ℕ → Served → Option ServerRecord
note_of frame s = record_of_all (taken_among (messages_of (frame ∷ [])) s)

-- there is one exactly where the frame changes the state
noted : (frame : List ℕ) (s : Served) (note : Option ServerRecord) → note_of frame s ≡ note → takes frame s ≡ is_some note
noted frame s told is = sym (entries_tell frame s) ∙ sym (any_is_noted (taken_among (messages_of (frame ∷ [])) s)) ∙ ap (λ (n : Option ServerRecord). is_some n) is

-- frames without a record change nothing
idle : (frames : List (List ℕ)) (s : Served) → records_taken frames s ≡ [] → (frames_after frames s ≡ s) × (first_and_records frames s ≡ None)
idle [] s none = (refl, refl)
idle (frame ∷ frames) s none = by (note_of frame s) refl (idle frames (frame_after frame s)) none
  where
    by : (note : Option ServerRecord) → note_of frame s ≡ note
        → (records_taken frames (frame_after frame s) ≡ [] → (frames_after frames (frame_after frame s) ≡ frame_after frame s) × (first_and_records frames (frame_after frame s) ≡ None))
        → option_to_list note ++ records_taken frames (frame_after frame s) ≡ [] → (frames_after frames (frame_after frame s) ≡ s) × (first_and_records (frame ∷ frames) s ≡ None)
    by None is rest none =
        let not : takes frame s ≡ false = noted frame s None is in
        let later = rest none in (
          later.0 ∙ (taken_frames_change frame s).1 not,
          ap (λ (b : Bool). if b then Some (frame_after frame s, records_taken frames (frame_after frame s)) else first_and_records frames (frame_after frame s)) not ∙ later.1,
        )
    by (Some note) is rest none = absurd (cc none)

tail_is : (note one : ServerRecord) (notes : List ServerRecord) → note ∷ notes ≡ one ∷ [] → notes ≡ []
tail_is note one notes e = cc

-- frames with one record leave the state behind it first
single : (frames : List (List ℕ)) (s : Served) (one : ServerRecord) → records_taken frames s ≡ one ∷ [] → first_and_records frames s ≡ Some (frames_after frames s, [])
single [] s one is = absurd (cc is)
single (frame ∷ frames) s one is = by (note_of frame s) refl (single frames (frame_after frame s) one) is
  where
    by : (note : Option ServerRecord) → note_of frame s ≡ note
        → (records_taken frames (frame_after frame s) ≡ one ∷ [] → first_and_records frames (frame_after frame s) ≡ Some (frames_after frames (frame_after frame s), []))
        → option_to_list note ++ records_taken frames (frame_after frame s) ≡ one ∷ [] → first_and_records (frame ∷ frames) s ≡ Some (frames_after frames (frame_after frame s), [])
    by None is rest all =
        let not : takes frame s ≡ false = noted frame s None is in
        ap (λ (b : Bool). if b then Some (frame_after frame s, records_taken frames (frame_after frame s)) else first_and_records frames (frame_after frame s)) not ∙ rest all
    by (Some note) is rest all =
        let changes : takes frame s ≡ true = noted frame s (Some note) is in
        let none : records_taken frames (frame_after frame s) ≡ [] = tail_is note one (records_taken frames (frame_after frame s)) all in
        let still = (idle frames (frame_after frame s) none).0 in
        ap (λ (b : Bool). if b then Some (frame_after frame s, records_taken frames (frame_after frame s)) else first_and_records frames (frame_after frame s)) changes
        ∙ (λ i. Some (sym still i, none i))

-- ---- frames in a row

-- what is left by frames behind others
abbrev joined : First → First → List ServerRecord → First
joined None second notes = second
joined (Some first) second notes = Some (first.0, first.1 ++ notes)

records_append : (xs ys : List (List ℕ)) (s : Served) → records_taken (xs ++ ys) s ≡ records_taken xs s ++ records_taken ys (frames_after xs s)
records_append [] ys s = refl
records_append (x ∷ xs) ys s =
    ap (λ (l : List ServerRecord). option_to_list (note_of x s) ++ l) (records_append xs ys (frame_after x s))
    ∙ sym (append_assoc (option_to_list (note_of x s)) (records_taken xs (frame_after x s)) (records_taken ys (frames_after xs (frame_after x s))))

first_append : (xs ys : List (List ℕ)) (s : Served) → first_and_records (xs ++ ys) s ≡ joined (first_and_records xs s) (first_and_records ys (frames_after xs s)) (records_taken ys (frames_after xs s))
first_append [] ys s = refl
first_append (x ∷ xs) ys s = by (takes x s) (first_append xs ys (frame_after x s))
  where
    by : (b : Bool) → first_and_records (xs ++ ys) (frame_after x s) ≡ joined (first_and_records xs (frame_after x s)) (first_and_records ys (frames_after xs (frame_after x s))) (records_taken ys (frames_after xs (frame_after x s)))
        → (if b then Some (frame_after x s, records_taken (xs ++ ys) (frame_after x s)) else first_and_records (xs ++ ys) (frame_after x s))
        ≡ joined (if b then Some (frame_after x s, records_taken xs (frame_after x s)) else first_and_records xs (frame_after x s)) (first_and_records ys (frames_after xs (frame_after x s)))
        (records_taken ys (frames_after xs (frame_after x s)))
    by true rest = ap (λ (l : List ServerRecord). Some (frame_after x s, l)) (records_append xs ys (frame_after x s))
    by false rest = rest

-- ---- one more record

spelled-last : (notes : List ServerRecord) (one : ServerRecord) → server_records (notes ++ one ∷ []) ≡ server_records notes ++ server_record one
spelled-last notes one =
    flat_map-append server_record notes (one ∷ []) ∙ ap (λ (l : List ℕ). server_records notes ++ l) (flat_map-cons server_record one [] ∙ append-nil (server_record one))

-- the first one leaves an image
counted_first : (j k : ServerJournal) (one : ServerRecord) (u : Served) (x y z : Option (List ℕ)) → j ≡ Unsaved → Puts (Some one) j k u y z → IsJournalOf k (Some (u, [])) x z
counted_first j k one u x y z unsaved puts =
    let alone : PutsRecord None one k u y z = subst (λ (i : ServerJournal). Puts (Some one) i k u y z) unsaved puts in
    λ few. alone

-- a later one leaves its record
module _ (j k : ServerJournal) (notes : List ServerRecord) (one : ServerRecord) (state u : Served) (y z : Option (List ℕ)) where
  abbrev piece : List ℕ
  piece = server_record one

  size : length (server_records (notes ++ one ∷ [])) ≡ length (server_records notes) + length piece
  size = ap length (spelled-last notes one) ∙ length-append (server_records notes) piece

  fewer : length (server_records (notes ++ one ∷ [])) ≤ MAX_RECORDS → length (server_records notes) ≤ MAX_RECORDS
  fewer few = omega (arith, size, few)

  -- there is room for it
  put_behind : length (server_records (notes ++ one ∷ [])) ≤ MAX_RECORDS → j ≡ Saved (length (server_records notes)) → Puts (Some one) j k u y z → PutsRecord (Some (length (server_records notes) + length piece)) one k u y z
  put_behind few is puts =
      let puts_on : Puts (Some one) (Saved (length (server_records notes))) k u y z = subst (λ (i : ServerJournal). Puts (Some one) i k u y z) is puts in
      let room : nat_le (length (server_records notes) + length piece) MAX_RECORDS ≡ true = le-leb (length (server_records notes) + length piece) MAX_RECORDS (omega (arith, size, few)) in
      subst (λ (b : Bool). PutsRecord (if b then Some (length (server_records notes) + length piece) else None) one k u y z) room puts_on

  stands_behind : (image : List ℕ) → y ≡ Some (image ++ server_records notes) → z ≡ Some (followed_by piece y) → z ≡ Some (image ++ server_records (notes ++ one ∷ []))
  stands_behind image is put =
      put ∙ ap (λ (o : Option (List ℕ)). Some (followed_by piece o)) is ∙ ap Some (append_assoc image (server_records notes) piece ∙ ap (λ (l : List ℕ). image ++ l) (sym (spelled-last notes one)))

  counted_later : (x : Option (List ℕ)) → IsJournalOf j (Some (state, notes)) x y → Puts (Some one) j k u y z → IsJournalOf k (Some (state, notes ++ one ∷ [])) x z
  counted_later x before puts = λ few.
      let is = before (fewer few) in
      let put = put_behind few is.0 puts in
      (put.0 ∙ ap Saved (sym size), record { image = is.1.image; kept = is.1.kept; here = stands_behind is.1.image is.1.here put.1 })

-- ---- what more frames leave

-- the same where no record joins
counted_same : (j k : ServerJournal) (first other : First) (x y z : Option (List ℕ)) → first ≡ other → (k ≡ j) × (z ≡ y) → IsJournalOf j first x y → IsJournalOf k other x z
counted_same j k first other x y z same puts is =
    subst (λ (f : First). IsJournalOf k f x z) same (subst (λ (i : ServerJournal). IsJournalOf i first x z) (sym puts.0) (subst (λ (w : Option (List ℕ)). IsJournalOf j first x w) (sym puts.1) is))

counted_more : (j k : ServerJournal) (first : First) (ys : List (List ℕ)) (note : Option ServerRecord) (t u : Served) → u ≡ frames_after ys t → option_to_list note ≡ records_taken ys t
    → (x y z : Option (List ℕ)) → IsJournalOf j first x y → Puts note j k u y z → IsJournalOf k (joined first (first_and_records ys t) (records_taken ys t)) x z
counted_more j k None ys None t u after noted x y z is puts = counted_same j k None (first_and_records ys t) x y z (sym (idle ys t (sym noted)).1) puts is
counted_more j k (Some first) ys None t u after noted x y z is puts =
    let same : first.1 ≡ first.1 ++ records_taken ys t = sym (append-nil first.1) ∙ ap (λ (l : List ServerRecord). first.1 ++ l) noted in
    counted_same j k (Some first) (Some (first.0, first.1 ++ records_taken ys t)) x y z (ap (λ (l : List ServerRecord). Some (first.0, l)) same) puts is
counted_more j k None ys (Some one) t u after noted x y z is puts =
    let here = single ys t one (sym noted) ∙ ap (λ (s : Served). Some (s, [])) (sym after) in
    subst (λ (f : First). IsJournalOf k f x z) (sym here) (counted_first j k one u x y z is.0 puts)
counted_more j k (Some first) ys (Some one) t u after noted x y z is puts =
    subst (λ (l : List ServerRecord). IsJournalOf k (Some (first.0, first.1 ++ l)) x z) noted (counted_later j k first.1 one first.0 u y z x is puts)

pub counted_frames : (j k : ServerJournal) (xs ys : List (List ℕ)) (note : Option ServerRecord) (s t u : Served) (a b c : Kept) → t ≡ frames_after xs s → u ≡ frames_after ys t → option_to_list note ≡ records_taken ys t
    → Told a b (IsJournalOf j (first_and_records xs s)) → Told b c (Puts note j k u) → Told a c (IsJournalOf k (first_and_records (xs ++ ys) s))
counted_frames j k xs ys note s t u a b c is is' noted first second =
    let all : first_and_records (xs ++ ys) s ≡ joined (first_and_records xs s) (first_and_records ys t) (records_taken ys t) =
    first_append xs ys s ∙ ap (λ (v : Served). joined (first_and_records xs s) (first_and_records ys v) (records_taken ys v)) (sym is) in
    subst (λ (f : First). Told a c (IsJournalOf k f)) (sym all)
    (told_then a b c (IsJournalOf j (first_and_records xs s)) (Puts note j k u) (IsJournalOf k (joined (first_and_records xs s) (first_and_records ys t) (records_taken ys t))) (counted_more j k (first_and_records xs s) ys note t u is' noted) first second)
