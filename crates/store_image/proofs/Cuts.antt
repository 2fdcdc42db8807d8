-- The laws of images that end too early.
use Rattle.std.proofs.Common.{◌≡◌, ℕ, ◌+◌, ◌-◌, ◌^◌, ◌<◌, ◌≤◌, true, ◌&&◌, eqb, leb, List, [], ◌∷◌, ◌++◌, length, take, Err, refl, sym, ap, subst, arith, lit<, length-append, length-take}
use Rattle.std.specs.Int.{w8, w64}
use Rattle.std.specs.Str.{bytes_eq}
use Rattle.std.specs.Result.{is_ok}
use Rattle.std.proofs.lemmas.Bool.{le-leb, eq-eqb}
use Rattle.std.proofs.lemmas.List.{take_all}
use Rattle.std.proofs.lemmas.Slice.Eq.{bytes_eq-Decides}
use Rattle.byte_fields.specs.Field.{Reader, digits, ruled, limited, number_at, tagged_at, EachFits}
use Rattle.byte_fields.specs.Cuts.{start_of, IsCut}
use Rattle.byte_fields.proofs.Codec.{u32_codec, u64_codec, span_codec, ruled_codec, stands_first, stands_second}
use Rattle.byte_fields.proofs.Facts.{sum_more}
use Rattle.byte_fields.proofs.Cutting.{sum_both, then_cut, span_cut, ruled_cut, cut_for, u8_cut, u32_cut, u64_cut, two_cut, three_cut, tagged_cut, each_cut, counted_cut}
use Rattle.file_paths.specs.Path.{is_same_path}
use Rattle.tree_values.specs.declared.node.Base.{Base}
use Rattle.tree_values.specs.Tree.{Volume, IsTree, apply}
use Rattle.tree_values.specs.Effects.{base_of}
use Rattle.file_paths.specs.Spelling.{path}
use Rattle.tree_values.specs.Spelling.{base, bases, effect, effects, rows}
use Rattle.file_paths.specs.Fields.{path_fields}
use Rattle.tree_values.specs.Fields.{base_fields, bases_fields, effect_fields, effects_fields, rows_fields}
use Rattle.file_paths.proofs.Parts.{path_codec, path_cut}
use Rattle.file_paths.proofs.Order.{path_tied}
use Rattle.tree_laws.proofs.Parts.{rows_in_codec, all_rows}
use Rattle.tree_laws.proofs.CutParts.{effect_in_cut, rows_in_cut}
use Rattle.mod_log.specs.Log.{Log, entry, tree_of, AreEntriesOf, IsLog, new_log_of}
use Rattle.tree_values.specs.declared.format.Format.TheVariants.{Second}
use Rattle.store_image.specs.Reading.{Growing, growing_effect_at, grown, applied_effects_at, known_base_at, first_kept_base_at, kept_bases_after, known_bases_at, next_entry_at, with_entry, is_count, entries_at, log_at, marked, client_mark, server_mark, client_body_at, client_at, numbers_at, server_body_at, server_at}
use Rattle.store_image.specs.Spelling.{entries, log, client, ClientFits, numbers, server, ServerFits}
use Rattle.mod_log.specs.Origin.{made_by}
use Rattle.mod_log.specs.Fields.{made_by_fields, entry_fields}
use Rattle.mod_log.proofs.Origins.{made_by_codec, made_by_cut}
use Rattle.store_image.specs.Fields.{entries_fields, log_fields, client_fields, numbers_fields, server_fields}
use Rattle.store_image.proofs.Growing.{GrowingFits, growing_codec, EffectsApply, start_of_entry, taken_again, applied_effects_codec}
use Rattle.store_image.proofs.Bases.{made, IsKnown, IsFirst, first_base_codec, AreKnown, known_again}
use Rattle.store_image.proofs.Entries.{next_number, made_entry, NextFits, few_known, next_entry_codec, entries_again, PendingFit, first_number, made_log}
use Rattle.store_image.proofs.Appended.{entries_known}
use Rattle.store_image.proofs.Images.{client_made, number_codec, NumberFits, numbers_again, AreNumbers, numbers_codec, server_made}

-- ---- effects

growing_cut : (growing : Growing) → IsCut (growing_effect_at Second growing) effect effect_fields (GrowingFits Second growing)
unfolding growing_effect_at
growing_cut growing = ruled_cut (effect_in_cut Second growing.room) (λ e. is_ok (apply e growing.tree))

pub applied_effects_cut : (v : Volume) → IsCut (applied_effects_at Second v) effects effects_fields (EffectsApply Second v)
unfolding applied_effects_at
applied_effects_cut v =
    cut_for (counted_cut length (ruled_codec (λ n. leb 1 n && leb n 4096) u32_codec) (ruled_cut u32_cut (λ n. leb 1 n && leb n 4096)) (λ n _. each_cut (growing_effect_at Second) grown effect effect_fields (GrowingFits Second) (growing_codec Second) growing_cut n (start_of_entry v)))
    (λ es is.
    ((omega (arith, is.fits.few), rw (le-leb 1 (length es) is.fits.some, le-leb (length es) 4096 is.fits.few) refl), (refl, taken_again Second 0 (start_of_entry v) es is.fits.each is.known is.fits.all_contents is.applies)))

-- ---- bases

known_base_cut : (known : Base) → IsCut (known_base_at known) base base_fields (IsKnown known)
unfolding known_base_at
known_base_cut known = record {
  whole = λ b fits. omega (arith, sum_both (path_fields b.path) (8 ∷ []), sum_more 8 [], length-append (path b.path) (digits w64 b.version), path_cut.whole b.path fits.0.0, u64_cut.whole b.version fits.0.1);
  cut = λ bytes at b next end stands fits le lt.
      two_cut (ruled_codec (is_same_path known.path) path_codec) (ruled_cut path_cut (is_same_path known.path)) (λ _ _. ruled_cut u64_cut (λ n. eqb n known.version)) made bytes at b.path b.version next end stands
      (fits.0.0, path_tied known.path b.path (sym (ap (λ (x : Base). x.path) fits.1))) (fits.0.1, eq-eqb b.version known.version (ap (λ (x : Base). x.version) fits.1)) le lt;
}

first_base_cut : (known : List Base) → IsCut (first_kept_base_at known) base base_fields (IsFirst known)
unfolding first_kept_base_at IsFirst
first_base_cut [] = record { whole = λ b fits. absurd fits; cut = λ bytes at b next end stands fits le lt. absurd fits }
first_base_cut (known ∷ others) = known_base_cut known

known_bases_cut : (known : List Base) → length known < 2 ^ 32 → IsCut (known_bases_at known) bases bases_fields (AreKnown known)
unfolding known_bases_at
known_bases_cut known lt =
    cut_for (counted_cut length (ruled_codec (λ n. eqb n (length known)) u32_codec) (ruled_cut u32_cut (λ n. eqb n (length known))) (λ n _. each_cut first_kept_base_at kept_bases_after base base_fields IsFirst first_base_codec first_base_cut n known))
    (λ bs fits.
    let len : length bs ≡ length known = ap length fits.0 in
    ((rw len lt, eq-eqb (length bs) (length known) len), (refl, subst (λ (k : List Base). EachFits IsFirst kept_bases_after k bs) fits.0 (known_again bs fits.1))))

-- ---- entries

pub next_entry_cut : (l : Log) → IsCut (next_entry_at Second l) entry entry_fields (NextFits Second l)
unfolding next_entry_at
next_entry_cut l = record {
  whole = λ e fits.
      let few = few_known e.effects (tree_of l) fits.is.fits in
      omega (
        arith,
        sum_both (made_by_fields e.origin) (effects_fields e.effects ++ bases_fields e.base),
        sum_both (effects_fields e.effects) (bases_fields e.base),
        length-append (made_by e.origin) (effects e.effects ++ bases e.base),
        length-append (effects e.effects) (bases e.base),
        made_by_cut.whole e.origin fits.is.origin_fits,
        (applied_effects_cut (tree_of l)).whole e.effects (record { fits = fits.is.fits; known = fits.known; applies = fits.is.applies }),
        (known_bases_cut (base_of e.effects (tree_of l)) few).whole e.base (fits.is.based, fits.spelled),
      );
  cut = λ bytes at e next end stands fits le lt.
      three_cut made_by_codec made_by_cut (λ _ _. applied_effects_codec Second (tree_of l)) (λ _ _. applied_effects_cut (tree_of l)) (λ _ es _ g. known_bases_cut (base_of es (tree_of l)) (few_known es (tree_of l) g.fits)) (made_entry (next_number l))
      bytes at e.origin e.effects e.base next end stands fits.is.origin_fits (record { fits = fits.is.fits; known = fits.known; applies = fits.is.applies }) (fits.is.based, fits.spelled) le lt;
}

limited_cut : {A : Type 0} {read : Reader A} {s f : A → List ℕ} {F : A → Type 0} (room : ℕ) → IsCut read s f F → IsCut (limited room read) s f (λ x. F x × (length (s x) ≤ room))
unfolding limited
limited_cut {A} {read} {s} {f} room cut = record {
  whole = λ x fits. cut.whole x fits.0;
  cut = λ bytes at x next end stands fits le lt.
      let same : take (at + room) (take end bytes) ≡ take end bytes = take_all (at + room) (take end bytes) (omega (arith, length-take end bytes, stands.next_is, fits.1)) in
      rw same (cut.cut bytes at x next end stands fits.0 le lt);
}

entries_cut : (acked : ℕ) (v : Volume) → acked < 2 ^ 64 → IsTree v → IsCut (entries_at Second (new_log_of acked v)) entries entries_fields (PendingFit Second acked v)
unfolding entries_at
entries_cut acked v small tree =
    cut_for (counted_cut length (ruled_codec (is_count acked) u32_codec) (ruled_cut u32_cut (is_count acked)) (λ n _. limited_cut 67108864 (each_cut (next_entry_at Second) with_entry entry entry_fields (NextFits Second) (next_entry_codec Second) next_entry_cut n (new_log_of acked v))))
    (λ es fits.
    let count : is_count acked (length es) ≡ true = rw (le-leb (length es) 1024 fits.few, le-leb (length es) (18446744073709551615 - acked) (omega (arith, fits.last))) refl in
    ((omega (arith, fits.few), count), ((refl, entries_again Second (new_log_of acked v) es tree (subst (λ n. AreEntriesOf n v es) (sym (first_number acked v)) fits.each) fits.known), fits.small)))

pending_fit : (l : Log) → IsLog l → PendingFit Second l.acked l.base l.pending
pending_fit l is = record { each = is.entries; known = entries_known l.pending; few = is.few; small = is.small; last = is.last }

log_cut : IsCut (log_at Second) log log_fields IsLog
unfolding log_at
log_cut = record {
  whole = λ l is.
      let acked : l.acked < 2 ^ 64 = omega (arith, is.last) in
      omega (
        arith,
        sum_more 8 (rows_fields l.base ++ entries_fields l.pending),
        sum_more 8 [],
        sum_both (rows_fields l.base) (entries_fields l.pending),
        length-append (digits w64 l.acked) (rows l.base ++ entries l.pending),
        length-append (rows l.base) (entries l.pending),
        u64_cut.whole l.acked acked,
        (rows_in_cut Second).whole l.base (is.base_is, all_rows l.base),
        (entries_cut l.acked l.base acked is.base_is).whole l.pending (pending_fit l is),
      );
  cut = λ bytes at l next end stands is le lt.
      three_cut u64_codec u64_cut (λ _ _. rows_in_codec Second) (λ _ _. rows_in_cut Second) (λ acked v small fits. entries_cut acked v small fits.0) made_log bytes at l.acked l.base l.pending next end stands (omega (arith, is.last)) (is.base_is, all_rows l.base) (pending_fit l is) le lt;
}

-- ---- a mark, and a version

marked_cut : {A : Type 0} {read : Reader A} {s f : A → List ℕ} {F : A → Type 0} → (mark : List ℕ) → length mark ≡ 4 → IsCut read s f F → IsCut (marked mark read) (λ x. mark ++ s x) (λ x. 4 ∷ f x) F
unfolding marked
marked_cut {A} {read} {s} {f} mark four cut = record {
  whole = λ x fits. omega (arith, sum_more 4 (f x), length-append mark (s x), cut.whole x fits);
  cut = λ bytes at x next end stands fits le lt.
      let step = then_cut (ruled_codec (bytes_eq mark) (span_codec 4)) (ruled_cut (span_cut 4) (bytes_eq mark)) (λ found. read (take end bytes) found.1) bytes at mark (at + length mark) end (f x) (stands_first bytes at mark (s x) next stands) (four, (bytes_eq-Decides mark mark).1 refl) le
      (λ ge. cut.cut bytes (at + length mark) x next end (stands_second bytes at mark (s x) next stands) fits ge lt) in
      subst (λ (size : ℕ). marked mark read (take end bytes) at ≡ Err (at + start_of (end - at) (size ∷ f x))) four step;
}

pub version_cut : {A : Type 0} {read : Reader A} {s f : A → List ℕ} {F : A → Type 0} → (version : ℕ) → version < 2 ^ 8 → IsCut read s f F → IsCut (tagged_at ((version, read) ∷ [])) (λ x. version ∷ s x) (λ x. 1 ∷ f x) F
version_cut {A} {read} {s} {f} version byte cut = record {
  whole = λ x fits. omega (arith, sum_more 1 (f x), cut.whole x fits);
  cut = λ bytes at x next end stands fits le lt.
      tagged_cut ((version, read) ∷ []) version byte bytes at (s x) next end (f x) stands le
      (λ ge. rw (eq-eqb version version refl) (cut.cut bytes (at + 1) x next end (stands_second bytes at (version ∷ []) (s x) next stands) fits ge lt));
}

-- ---- images

pub number_cut : IsCut (ruled (λ n. leb 1 n && leb n 64) (number_at w8)) (λ n. n ∷ []) (λ n. 1 ∷ []) (λ n. (n < 2 ^ 8) × ((leb 1 n && leb n 64) ≡ true))
number_cut = ruled_cut u8_cut (λ n. leb 1 n && leb n 64)

client_body_cut : IsCut (client_body_at Second) (λ image. image.client ∷ log image.log) (λ image. 1 ∷ log_fields image.log) ClientFits
unfolding client_body_at
client_body_cut = record {
  whole = λ image fits. omega (arith, sum_more 1 (log_fields image.log), log_cut.whole image.log fits.log);
  cut = λ bytes at image next end stands fits le lt.
      two_cut number_codec number_cut (λ _ _. log_cut) client_made bytes at image.client image.log next end stands
      (omega (arith, fits.few), rw (le-leb 1 image.client fits.some, le-leb image.client 64 fits.few) refl) fits.log le lt;
}

pub client_cut : IsCut (client_at Second) client client_fields ClientFits
unfolding client_at
client_cut = marked_cut client_mark refl (version_cut 2 (lit< tt) client_body_cut)

numbers_cut : IsCut numbers_at numbers numbers_fields AreNumbers
unfolding numbers_at
numbers_cut =
    cut_for (each_cut (λ (_ : Unit {0}). number_at w64) (λ _ _. tt {0}) (digits w64) (λ n. 8 ∷ []) NumberFits (λ _. u64_codec) (λ _. u64_cut) 64 (tt {0}))
    (λ xs fits. (fits.0, numbers_again xs fits.1))

server_body_cut : IsCut (server_body_at Second) (λ image. numbers image.last ++ rows image.tree) (λ image. numbers_fields image.last ++ rows_fields image.tree) ServerFits
unfolding server_body_at
server_body_cut = record {
  whole = λ image fits.
      omega (arith, sum_both (numbers_fields image.last) (rows_fields image.tree), length-append (numbers image.last) (rows image.tree), numbers_cut.whole image.last (fits.count, fits.numbers), (rows_in_cut Second).whole image.tree (fits.tree, all_rows image.tree));
  cut = λ bytes at image next end stands fits le lt.
      two_cut numbers_codec numbers_cut (λ _ _. rows_in_cut Second) server_made bytes at image.last image.tree next end stands (fits.count, fits.numbers) (fits.tree, all_rows image.tree) le lt;
}

pub server_cut : IsCut (server_at Second) server server_fields ServerFits
unfolding server_at
server_cut = marked_cut server_mark refl (version_cut 2 (lit< tt) server_body_cut)
