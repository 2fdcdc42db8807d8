-- The laws of the entries behind those of a log.
use Rattle.std.proofs.Common.{◌≡◌, ℕ, ◌+◌, ◌-◌, ◌^◌, ◌<◌, ◌≤◌, true, leb, List, [], ◌∷◌, ◌++◌, length, Option, Ok, refl, sym, subst, arith, length-append}
use Rattle.std.specs.List.{AllByRecursion, flat_map}
use Rattle.std.proofs.lemmas.Bool.{leb-true, le-leb, and_parts}
use Rattle.std.proofs.lemmas.List.{length-map}
use Rattle.byte_fields.specs.Field.{EachFits}
use Rattle.byte_fields.specs.Codec.{Stands, IsBytes, IsCodec}
use Rattle.byte_fields.proofs.Codec.{u32_codec, u64_codec, ruled_codec, found3, again3, fault3, each_codec, counted_codec, limited_codec, codec_for}
use Rattle.file_paths.specs.Path.{FilePath}
use Rattle.tree_values.specs.declared.node.Base.{Base}
use Rattle.tree_values.specs.declared.node.Effect.{Effect}
use Rattle.tree_values.specs.Tree.{Volume, IsTree, version_at}
use Rattle.tree_values.specs.Effects.{changed_all, base_of, touched_all, distinct}
use Rattle.tree_values.specs.Spelling.{BaseFits, EffectsFit, IsEffectOf, AreRowsOf}
use Rattle.tree_laws.proofs.Few.{touched_few}
use Rattle.tree_laws.proofs.Parts.{rows_in_codec}
use Rattle.mod_log.specs.declared.origin.Origin.{Origin}
use Rattle.mod_log.specs.declared.log.Entry.{Entry}
use Rattle.mod_log.specs.Log.{Log, entry, after, tree_of, IsEntryOf, AreEntriesOf, IsLog, new_log_of, logged}
use Rattle.mod_log.proofs.Entries.{after-append, after-tree, AreEntriesOf-push}
use Rattle.mod_log.proofs.Sums.{size_behind}
use Rattle.mod_log.proofs.Origins.{made_by_codec}
use Rattle.mod_log.proofs.BasesFit.{base_of-fits}
use Rattle.tree_values.specs.declared.format.Format.{Format}
use Rattle.store_image.specs.Reading.{next_entry_at, with_entry, is_count, entries_at, log_at}
use Rattle.store_image.specs.Spelling.{entries, log, IsLogOf}
use Rattle.store_image.proofs.Growing.{applied_effects_codec}
use Rattle.store_image.proofs.Bases.{known_bases_codec}

-- ---- one entry

abbrev pub next_number : Log → ℕ
next_number l = l.acked + length l.pending + 1

abbrev pub made_entry : ℕ → Option Origin → List Effect → List Base → Entry
made_entry number o es bs = record { seq = number; origin = o; effects = es; base = bs }

-- the entry behind those of the log, which is spelled
pub record NextFits (format : Format) (l : Log) (e : Entry) : Type 0 where
  pub is : IsEntryOf (next_number l) (tree_of l) e
  pub spelled : AllByRecursion BaseFits e.base
  pub known : AllByRecursion (IsEffectOf format) e.effects

pub few_known : (es : List Effect) (v : Volume) → EffectsFit es → length (base_of es v) < 2 ^ 32
few_known es v fits =
    let base_at : FilePath → Base = λ path. record { path = path; version = version_at v path } in
    rw (length-map (distinct (touched_all es)) base_at) (touched_few es fits)

pub next_entry_codec : (format : Format) (l : Log) → IsCodec (next_entry_at format l) entry (NextFits format l)
unfolding next_entry_at
next_entry_codec format l = record {
  fault = fault3 made_by_codec (λ _ _. applied_effects_codec format (tree_of l)) (λ _ es _ fits. known_bases_codec (base_of es (tree_of l)) (few_known es (tree_of l) fits.fits)) (made_entry (next_number l));
  found = λ bytes at x next fits le e.
      let r = found3 made_by_codec (λ _ _. applied_effects_codec format (tree_of l)) (λ _ es _ fits. known_bases_codec (base_of es (tree_of l)) (few_known es (tree_of l) fits.fits)) (made_entry (next_number l)) bytes at x next fits le e in
      let is : NextFits format l (made_entry (next_number l) r.first r.second r.third) =
      record { is = record { numbered = refl; origin_fits = r.first_fits; fits = r.second_fits.fits; applies = r.second_fits.applies; based = r.third_fits.0 }; spelled = r.third_fits.1; known = r.second_fits.known } in
      subst (λ (y : Entry). Stands bytes at (entry y) next × NextFits format l y) r.is (r.stands, is);
  again = λ bytes at x next stands fits.
      subst (λ (n : ℕ). (next_entry_at format) l bytes at ≡ Ok (made_entry n x.origin x.effects x.base, next)) (sym fits.is.numbered)
      (again3 made_by_codec (λ _ _. applied_effects_codec format (tree_of l)) (λ _ es _ fits. known_bases_codec (base_of es (tree_of l)) (few_known es (tree_of l) fits.fits)) (made_entry (next_number l)) bytes at x.origin x.effects x.base next stands
      fits.is.origin_fits (record { fits = fits.is.fits; known = fits.known; applies = fits.is.applies }) (fits.is.based, fits.spelled));
}

-- what an entry that was read leaves of its log and the bytes
pub record IsNext (l : Log) (bytes : List ℕ) (at : ℕ) (e : Entry) (next : ℕ) : Type 0 where
  pub is_log : IsLog (logged e l)
  pub size : length (flat_map entry (l.pending ++ e ∷ [])) ≡ length (flat_map entry l.pending) + (next - at)
  pub later : at ≤ next
  pub within : next ≤ length bytes

pub next_is : (format : Format) (l : Log) (bytes : List ℕ) (start at : ℕ) (e : Entry) (next : ℕ) → IsBytes bytes → at ≤ length bytes → length bytes ≤ start + 67108864 → at ≡ start + length (flat_map entry l.pending)
    → IsLog l → length l.pending + 1 ≤ 1024 → l.acked + length l.pending + 1 ≤ 18446744073709551615 → next_entry_at format l bytes at ≡ Ok (e, next) → IsNext l bytes at e next
next_is format l bytes start at e next are le room size is few last read =
    let found = (next_entry_codec format l).found bytes at e next are le read in
    let sum = size_behind l.pending e in
    let long = length-append l.pending (e ∷ []) in
    let one : IsEntryOf (l.acked + 1 + length l.pending) (after l.pending l.base) e = subst (λ n. IsEntryOf n (tree_of l) e) (omega arith) found.1.is in
    record {
      is_log = record {
        base_is = is.base_is;
        entries = AreEntriesOf-push (l.acked + 1) l.base l.pending e is.entries one;
        few = omega (arith, few, long);
        small = omega (arith, sum, size, room, found.0.next_is, found.0.within);
        last = omega (arith, last, long);
      };
      size = omega (arith, sum, found.0.next_is);
      later = omega (arith, found.0.next_is);
      within = found.0.within;
    }

-- ---- entries in a row

more : (l : Log) (e : Entry) → next_number (logged e l) ≡ next_number l + 1
more l e = omega (arith, length-append l.pending (e ∷ []))

pub tree-logged : (l : Log) (e : Entry) → tree_of (logged e l) ≡ changed_all e.effects (tree_of l)
tree-logged l e = after-append l.pending (e ∷ []) l.base

-- the format has the effects of all entries
abbrev pub AreOf : Format → List Entry → Type 0
AreOf format es = AllByRecursion (λ e. AllByRecursion (IsEffectOf format) e.effects) es

pub entries_found : (format : Format) (l : Log) (es : List Entry) → EachFits (NextFits format) with_entry l es → AreEntriesOf (next_number l) (tree_of l) es × AreOf format es
entries_found format l [] fits = (tt, tt)
entries_found format l (e ∷ es) fits =
    let rest = entries_found format (logged e l) es fits.1 in
    ((fits.0.is, subst (λ v. AreEntriesOf (next_number l + 1) v es) (tree-logged l e) (subst (λ n. AreEntriesOf n (tree_of (logged e l)) es) (more l e) rest.0)), (fits.0.known, rest.1))

pub entries_again : (format : Format) (l : Log) (es : List Entry) → IsTree (tree_of l) → AreEntriesOf (next_number l) (tree_of l) es → AreOf format es → EachFits (NextFits format) with_entry l es
entries_again format l [] tree are known = tt
entries_again format l (e ∷ es) tree are known =
    let one : NextFits format l e = record { is = are.0; spelled = subst (AllByRecursion BaseFits) (sym are.0.based) (base_of-fits e.effects (tree_of l) are.0.fits tree); known = known.0 } in
    let next : IsTree (tree_of (logged e l)) = subst IsTree (sym (tree-logged l e)) (after-tree (next_number l) (tree_of l) (e ∷ es) 1 tree are) in
    let later = subst (λ n. AreEntriesOf n (tree_of (logged e l)) es) (sym (more l e)) (subst (λ v. AreEntriesOf (next_number l + 1) v es) (sym (tree-logged l e)) are.1) in
    (one, entries_again format (logged e l) es next later known.1)

-- the pending entries of a log with this acknowledged number and this base
pub record PendingFit (format : Format) (acked : ℕ) (v : Volume) (es : List Entry) : Type 0 where
  pub each : AreEntriesOf (acked + 1) v es
  pub known : AreOf format es
  pub few : length es ≤ 1024
  pub small : length (flat_map entry es) ≤ 67108864
  pub last : acked + length es ≤ 18446744073709551615

pub first_number : (acked : ℕ) (v : Volume) → next_number (new_log_of acked v) ≡ acked + 1
first_number acked v = omega arith

pub entries_codec : (format : Format) (acked : ℕ) (v : Volume) → acked < 2 ^ 64 → IsTree v → IsCodec (entries_at format (new_log_of acked v)) entries (PendingFit format acked v)
unfolding entries_at
entries_codec format acked v small tree =
    codec_for (counted_codec length (ruled_codec (is_count acked) u32_codec) (λ n _. limited_codec 67108864 (each_codec (next_entry_at format) with_entry entry (NextFits format) (next_entry_codec format) n (new_log_of acked v))) (λ n es fits. fits.0.0))
    (λ es fits.
    let b = and_parts (leb (length es) 1024) (leb (length es) (18446744073709551615 - acked)) fits.0.1 in
    record {
      each = subst (λ n. AreEntriesOf n v es) (first_number acked v) (entries_found format (new_log_of acked v) es fits.1.0.1).0;
      known = (entries_found format (new_log_of acked v) es fits.1.0.1).1;
      few = leb-true (length es) 1024 b.0;
      small = fits.1.1;
      last = omega (arith, small, leb-true (length es) (18446744073709551615 - acked) b.1);
    })
    (λ es fits.
    let count : is_count acked (length es) ≡ true = rw (le-leb (length es) 1024 fits.few, le-leb (length es) (18446744073709551615 - acked) (omega (arith, fits.last))) refl in
    ((omega (arith, fits.few), count), ((refl, entries_again format (new_log_of acked v) es tree (subst (λ n. AreEntriesOf n v es) (sym (first_number acked v)) fits.each) fits.known), fits.small)))

-- ---- the log

abbrev pub made_log : ℕ → Volume → List Entry → Log
made_log acked base pending = record { acked = acked; base = base; pending = pending }

-- a log, and one that the format has
abbrev pub LogFits : Format → Log → Type 0
LogFits format l = IsLog l × IsLogOf format l

abbrev behind_rows : (format : Format) (acked : ℕ) (v : Volume) → acked < 2 ^ 64 → IsTree v × AreRowsOf format v → IsCodec (entries_at format (new_log_of acked v)) entries (PendingFit format acked v)
behind_rows format acked v small fits = entries_codec format acked v small fits.0

pub log_codec : (format : Format) → IsCodec (log_at format) log (LogFits format)
unfolding log_at
log_codec format = record {
  fault = fault3 u64_codec (λ _ _. rows_in_codec format) (behind_rows format) made_log;
  found = λ bytes at x next fits le e.
      let r = found3 u64_codec (λ _ _. rows_in_codec format) (behind_rows format) made_log bytes at x next fits le e in
      let is : LogFits format (made_log r.first r.second r.third) = (
        record { base_is = r.second_fits.0; entries = r.third_fits.each; few = r.third_fits.few; small = r.third_fits.small; last = r.third_fits.last },
        record { rows_are = r.second_fits.1; entries_are = r.third_fits.known },
      ) in
      subst (λ (l : Log). Stands bytes at (log l) next × LogFits format l) r.is (r.stands, is);
  again = λ bytes at x next stands is.
      again3 u64_codec (λ _ _. rows_in_codec format) (behind_rows format) made_log bytes at x.acked x.base x.pending next stands
      (omega (arith, is.0.last)) (is.0.base_is, is.1.rows_are) (record { each = is.0.entries; known = is.1.entries_are; few = is.0.few; small = is.0.small; last = is.0.last });
}
