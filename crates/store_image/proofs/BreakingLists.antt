-- The laws of entries one after the other that break a rule.
use Rattle.std.proofs.Common.{◌≡◌, ◌⊎◌, ℕ, zero, suc, ◌+◌, ◌-◌, ◌^◌, ◌<◌, ◌≤◌, Bool, true, false, ◌&&◌, leb, List, [], ◌∷◌, ◌++◌, length, take, Ok, Err, inl, inr, refl, sym, ap, subst, ◌∙◌, arith, true≢false, append-nil, append_assoc}
use Rattle.std.specs.Int.{w32}
use Rattle.std.specs.List.{flat_map}
use Rattle.std.proofs.lemmas.Bool.{le-leb}
use Rattle.byte_fields.specs.Field.{Reader, ◌>>=◌, digits, limited, each_at, passed}
use Rattle.byte_fields.specs.Cuts.{start_of}
use Rattle.byte_fields.specs.Broken.{IsRefused}
use Rattle.byte_fields.proofs.Codec.{bind_err, never_err}
use Rattle.byte_fields.proofs.Cutting.{each_cut}
use Rattle.byte_fields.proofs.Facts.{le_fails, limited_refused}
use Rattle.byte_fields.proofs.Breaking.{second_fails, count_refused, counted_refused, items_refused, each_read}
use Rattle.tree_values.specs.Tree.{Volume, IsTree}
use Rattle.mod_log.specs.declared.log.Entry.{Entry}
use Rattle.mod_log.specs.Log.{Log, entry, AreEntriesOf, IsLog, new_log_of}
use Rattle.tree_values.specs.declared.format.Format.TheVariants.{Second}
use Rattle.store_image.specs.Reading.{next_entry_at, with_entry, is_count, entries_at}
use Rattle.mod_log.specs.Fields.{entry_fields}
use Rattle.store_image.specs.Broken.{MayFollow, BrokenEntryLists}
use Rattle.store_image.proofs.Entries.{NextFits, next_entry_codec, entries_again, first_number, made_log}
use Rattle.store_image.proofs.Appended.{entries_known}
use Rattle.store_image.proofs.Cuts.{next_entry_cut}

-- ---- a limit

-- what is refused among some items is refused among more
more_items : {S A : Type 0} (item : S → Reader A) (after : S → A → S) (few many : ℕ) (state : S) (bytes : List ℕ) (at place : ℕ) → few ≤ many → each_at item after few state bytes at ≡ Err place → each_at item after many state bytes at ≡ Err place
unfolding each_at
more_items {S} {A} item after zero many state bytes at place le e = absurd (never_err ([], at) place e)
more_items item after (suc few) zero state bytes at place le e = absurd (omega arith)
more_items {S} {A} item after (suc few) (suc many) state bytes at place le e =
    elim (bind_err (item state bytes at) (λ first. each_at item after few (after state first.0) bytes first.1 >>= λ others. Ok (first.0 ∷ others.0, others.1)) place e) [
      | inl here ↦ rw here refl
      | inr b ↦
          elim (bind_err (each_at item after few (after state b.0.0) bytes b.0.1) (λ others. Ok (b.0.0 ∷ others.0, others.1)) place b.2) [
            | inl there ↦ rw (b.1, more_items item after few many (after state b.0.0) bytes b.0.1 place (omega arith) there) refl
            | inr o ↦ absurd (never_err (b.0.0 ∷ o.0.0, o.0.1) place o.2)
          ]
    ]

-- ---- entries

pub first_fails : (a b : Bool) → a ≡ false → (a && b) ≡ false
first_fails true b e = absurd (true≢false e)
first_fails false b e = refl

wrong_count : (acked count : ℕ) → acked < 2 ^ 64 → (1024 < count) ⊎ (18446744073709551615 < acked + count) → is_count acked count ≡ false
wrong_count acked count small (inl many) = first_fails (leb count 1024) (leb count (18446744073709551615 - acked)) (le_fails count 1024 many)
wrong_count acked count small (inr past) =
    second_fails (leb count 1024) (leb count (18446744073709551615 - acked)) (le_fails count (18446744073709551615 - acked) (omega arith))

may_follow : (acked count : ℕ) → MayFollow acked count → is_count acked count ≡ true
may_follow acked count may = rw (le-leb count 1024 may.few, le-leb count (18446744073709551615 - acked) (omega (arith, may.last))) refl

logs_passed : (acked : ℕ) (base : Volume) (before es : List Entry) → passed with_entry (made_log acked base before) es ≡ made_log acked base (before ++ es)
logs_passed acked base before [] = ap (made_log acked base) (sym (append-nil before))
logs_passed acked base before (e ∷ es) = logs_passed acked base (before ++ e ∷ []) es ∙ ap (made_log acked base) (append_assoc before (e ∷ []) es)

entry_refused : (log : Log) (count : ℕ) (text : List ℕ) (offset : ℕ) → IsLog log → length log.pending < count → MayFollow log.acked count → length (flat_map entry log.pending ++ text) ≤ 67108864
    → IsRefused (next_entry_at Second log) text offset → IsRefused (entries_at Second (new_log_of log.acked log.base)) (digits w32 count ++ (flat_map entry log.pending ++ text)) (4 + (length (flat_map entry log.pending) + offset))
unfolding entries_at
entry_refused log count text offset is some may room refused =
    let first = new_log_of log.acked log.base in
    let fits = entries_again Second first log.pending is.base_is (subst (λ (n : ℕ). AreEntriesOf n log.base log.pending) (sym (first_number log.acked log.base)) is.entries) (entries_known log.pending) in
    counted_refused (is_count log.acked) (λ n. limited 67108864 (each_at (next_entry_at Second) with_entry n first)) count (omega (arith, may.few)) (may_follow log.acked count may) (flat_map entry log.pending ++ text) (length (flat_map entry log.pending) + offset)
    (limited_refused 67108864 (each_at (next_entry_at Second) with_entry count first) (flat_map entry log.pending ++ text) (length (flat_map entry log.pending) + offset) room
    (items_refused (next_entry_at Second) with_entry entry first log.pending count text offset (each_read (next_entry_at Second) with_entry entry (NextFits Second) (next_entry_codec Second) first log.pending fits) some
    (subst (λ (l : Log). IsRefused (next_entry_at Second l) text offset) (sym (logs_passed log.acked log.base [] log.pending)) refused)))

entries_refused : (acked : ℕ) (base : Volume) (es : List Entry) (count : ℕ) → IsTree base → AreEntriesOf (acked + 1) base es → length es ≤ count → MayFollow acked count → 67108864 < length (flat_map entry es)
    → IsRefused (entries_at Second (new_log_of acked base)) (digits w32 count ++ flat_map entry es) (4 + start_of 67108864 (flat_map entry_fields es))
unfolding entries_at limited
entries_refused acked base es count tree are few may large =
    let first = new_log_of acked base in
    let fits = entries_again Second first es tree (subst (λ (n : ℕ). AreEntriesOf n base es) (sym (first_number acked base)) are) (entries_known es) in
    counted_refused (is_count acked) (λ n. limited 67108864 (each_at (next_entry_at Second) with_entry n first)) count (omega (arith, may.few)) (may_follow acked count may) (flat_map entry es) (start_of 67108864 (flat_map entry_fields es))
    (λ bytes at next stands.
    let cut = (each_cut (next_entry_at Second) with_entry entry entry_fields (NextFits Second) (next_entry_codec Second) next_entry_cut (length es) first).cut bytes at es next (at + 67108864) stands (refl, fits) (omega arith) (omega (arith, stands.next_is)) in
    let room : (at + 67108864) - at ≡ 67108864 = omega arith in
    more_items (next_entry_at Second) with_entry (length es) count first (take (at + 67108864) bytes) at (at + start_of 67108864 (flat_map entry_fields es)) few
    (cut ∙ ap (λ (n : ℕ). Err (at + start_of n (flat_map entry_fields es))) room))

pub broken_entry_lists : BrokenEntryLists
unfolding entries_at
broken_entry_lists = record {
  count_is_large = λ log count acked small wrong.
      count_refused (is_count log.acked) (λ n. limited 67108864 (each_at (next_entry_at Second) with_entry n log)) count small (wrong_count log.acked count acked wrong);
  entry_is_refused = entry_refused;
  entries_are_large = entries_refused;
}
