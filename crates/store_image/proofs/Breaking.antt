-- The laws of images that break a rule.
use Rattle.std.proofs.Common.{◌≡◌, ◌≢◌, ◌⊎◌, ℕ, ◌+◌, ◌^◌, ◌<◌, ◌≤◌, false, ◌&&◌, leb, eqb, List, [], ◌∷◌, ◌++◌, length, take, drop, Ok, Err, inl, inr, refl, sym, ap, arith, lit<, length-append}
use Rattle.std.specs.Int.{w8, w64}
use Rattle.std.specs.Str.{bytes_eq}
use Rattle.std.specs.List.{AllByRecursion}
use Rattle.std.specs.Result.{is_ok}
use Rattle.std.proofs.lemmas.Bool.{le-leb, ne_eqb}
use Rattle.std.proofs.lemmas.Slice.Eq.{bytes_eq-Decides}
use Rattle.byte_fields.specs.Field.{Reader, ◌>>=◌, digits, ruled, number_at, span_at, tagged_at}
use Rattle.byte_fields.specs.Numbers.{as_u32}
use Rattle.byte_fields.specs.Codec.{Stands}
use Rattle.byte_fields.specs.Broken.{IsRefused}
use Rattle.byte_fields.proofs.Codec.{u8_codec, u64_codec, span_codec, ruled_codec}
use Rattle.byte_fields.proofs.Breaking.{read_again, refused_there, rule_refused, ruled_refused, first_refused, later_refused, tagged_refused, kind_refused, second_fails}
use Rattle.byte_fields.proofs.Facts.{not_true, le_fails, eight_bytes}
use Rattle.tree_values.specs.declared.node.Base.{Base}
use Rattle.file_paths.specs.Path.{is_same_path}
use Rattle.tree_values.specs.Tree.{Volume, IsTree, apply}
use Rattle.file_paths.specs.Spelling.{path}
use Rattle.tree_values.specs.Spelling.{effect, rows}
use Rattle.file_paths.specs.Reading.{path_at}
use Rattle.tree_values.specs.Reading.{effect_at, rows_at}
use Rattle.file_paths.proofs.Parts.{path_codec}
use Rattle.tree_laws.proofs.Parts.{effect_in_codec, rows_codec}
use Rattle.file_paths.proofs.Order.{paths_apart, path_tied}
use Rattle.mod_log.specs.Log.{Log, new_log_of}
use Rattle.mod_log.specs.Reading.{made_by_at}
use Rattle.mod_log.proofs.Origins.{unknown_maker, origin_refused}
use Rattle.tree_values.specs.declared.format.Format.TheVariants.{Second}
use Rattle.store_image.specs.declared.image.ImageError.TheVariants.{BadImage}
use Rattle.store_image.specs.Reading.{growing_effect_at, known_base_at, next_entry_at, entries_at, log_at, marked, client_mark, client_body_at, client_versions, client_at, numbers_at, server_mark, server_body_at, server_versions, server_at}
use Rattle.store_image.specs.Spelling.{numbers}
use Rattle.store_image.specs.Image.{kept_client_at, kept_server_at, image_of}
use Rattle.store_image.specs.Broken.{BrokenKeptEntries, BrokenImages}
use Rattle.store_image.proofs.Entries.{made_log}
use Rattle.store_image.proofs.Images.{client_made, number_codec, numbers_codec, server_made}
use Rattle.store_image.proofs.Sizes.{numbers_size}
use Rattle.store_image.proofs.Refused.{client_fails, server_fails}
use Rattle.store_image.proofs.BreakingParts.{effect_is_none, effects_are_none, effect_is_refused, bases_are_others, base_is_refused}

-- ---- entries

base_path_refused : (known : Base) (text : List ℕ) (offset : ℕ) → IsRefused (ruled (is_same_path known.path) path_at) text offset → IsRefused (known_base_at known) text offset
unfolding known_base_at
base_path_refused known text offset refused bytes at next stands = rw (refused bytes at next stands) refl

maker_refused : (log : Log) (text : List ℕ) (offset : ℕ) → IsRefused made_by_at text offset → IsRefused (next_entry_at Second log) text offset
unfolding next_entry_at
maker_refused log text offset refused bytes at next stands = rw (refused bytes at next stands) refl

pub broken_entries : BrokenKeptEntries
unfolding growing_effect_at known_base_at
broken_entries = record {
  effect_is_none = effect_is_none;
  path_is_none = λ known text offset refused. base_path_refused known text offset (ruled_refused path_at (is_same_path known.path) text offset refused);
  effects_are_none = effects_are_none;
  effect_is_refused = effect_is_refused;
  bases_are_others = bases_are_others;
  base_is_refused = base_is_refused;
  effect_does_not_apply = λ growing e refusal fits room none.
      rule_refused (effect_at growing.room) (λ x. is_ok (apply x growing.tree)) (effect e) e (read_again (effect_in_codec Second growing.room) e ((fits, room), tt)) (rw none refl);
  path_is_another = λ known other is differ.
      base_path_refused known (path other) 0 (rule_refused path_at (is_same_path known.path) (path other) other (read_again path_codec other is) (paths_apart known.path other differ));
  version_is_another = λ known version is small differ.
      refused_there (known_base_at known) (path known.path ++ digits w64 version) (length (path known.path) + 0) (length (path known.path)) (omega arith)
      (later_refused (ruled (is_same_path known.path) path_at) (λ p bytes at. ruled (λ n. eqb n known.version) (number_at w64) bytes at >>= λ v. Ok (record { path = p; version = v.0 }, v.1)) (path known.path) (digits w64 version) known.path 0
      (read_again (ruled_codec (is_same_path known.path) path_codec) known.path (is, path_tied known.path known.path refl))
      (first_refused (ruled (λ n. eqb n known.version) (number_at w64)) (λ v bytes at. Ok (record { path = known.path; version = v }, at)) (digits w64 version) 0
      (rule_refused (number_at w64) (λ n. eqb n known.version) (digits w64 version) version (read_again u64_codec version small) (ne_eqb version known.version differ))));
  maker_is_another = λ log byte small another. maker_refused log (byte ∷ []) 0 (unknown_maker byte small another);
  origin_is_none = λ log text offset refused. maker_refused log (1 ∷ text) (1 + offset) (origin_refused text offset refused);
}

-- ---- images

module _ {A : Type 0} (mark : List ℕ) (four : length mark ≡ 4) (read : Reader A) where
  mark_refused : (other : List ℕ) → length other ≡ 4 → other ≢ mark → IsRefused (marked mark read) other 0
  unfolding marked
  mark_refused other long differ bytes at next stands =
      rw (rule_refused (span_at 4) (bytes_eq mark) other other (read_again (span_codec 4) other long) (not_true (bytes_eq mark other) (λ same. differ (sym ((bytes_eq-Decides mark other).0 same)))) bytes at next stands) refl

  behind_mark_refused : (text : List ℕ) (offset : ℕ) → IsRefused read text offset → IsRefused (marked mark read) (mark ++ text) (4 + offset)
  unfolding marked
  behind_mark_refused text offset refused =
      refused_there (marked mark read) (mark ++ text) (length mark + offset) (4 + offset) (omega (arith, four))
      (later_refused (ruled (bytes_eq mark) (span_at 4)) (λ _. read) mark text mark offset (read_again (ruled_codec (bytes_eq mark) (span_codec 4)) mark (four, (bytes_eq-Decides mark mark).1 refl)) refused)

pub wrong_client : (client : ℕ) → (client ≡ 0) ⊎ (64 < client) → (leb 1 client && leb client 64) ≡ false
wrong_client client (inl e) = rw e refl
wrong_client client (inr lt) = second_fails (leb 1 client) (leb client 64) (le_fails client 64 lt)

client_number_refused : (text : List ℕ) → IsRefused (ruled (λ n. leb 1 n && leb n 64) (number_at w8)) text 0 → IsRefused (client_body_at Second) text 0
unfolding client_body_at
client_number_refused text refused bytes at next stands = rw (refused bytes at next stands) refl

log_refused : (client : ℕ) (text : List ℕ) (offset : ℕ) → 1 ≤ client → client ≤ 64 → IsRefused (log_at Second) text offset → IsRefused (client_at Second) (client_mark ++ (2 ∷ client ∷ text)) (6 + offset)
unfolding client_at client_body_at
log_refused client text offset some few refused =
    refused_there (client_at Second) (client_mark ++ (2 ∷ client ∷ text)) (4 + (1 + (1 + offset))) (6 + offset) (omega arith)
    (behind_mark_refused client_mark refl (tagged_at (client_versions Second)) (2 ∷ client ∷ text) (1 + (1 + offset))
    (tagged_refused (client_versions Second) 2 (client_body_at Second) (client ∷ text) (1 + offset) (lit< tt) (λ tag at bytes. refl)
    (later_refused (ruled (λ n. leb 1 n && leb n 64) (number_at w8)) (λ n bytes at. log_at Second bytes at >>= λ l. Ok (client_made n l.0, l.1)) (client ∷ []) text client offset
    (read_again number_codec client (omega arith, rw (le-leb 1 client some, le-leb client 64 few) refl)) (first_refused (log_at Second) (λ l bytes at. Ok (client_made client l, at)) text offset refused))))

module _ (client acked : ℕ) (some : 1 ≤ client) (few : client ≤ 64) (small : acked < 2 ^ 64) where
  client_rows : (text : List ℕ) (offset : ℕ) → IsRefused rows_at text offset → IsRefused (client_at Second) (client_mark ++ (2 ∷ client ∷ (digits w64 acked ++ text))) (14 + offset)
  unfolding log_at
  client_rows text offset refused =
      refused_there (client_at Second) (client_mark ++ (2 ∷ client ∷ (digits w64 acked ++ text))) (6 + (length (digits w64 acked) + offset)) (14 + offset) (omega (arith, eight_bytes acked))
      (log_refused client (digits w64 acked ++ text) (length (digits w64 acked) + offset) some few
      (later_refused (number_at w64) (λ n bytes at. rows_at bytes at >>= λ base. entries_at Second (new_log_of n base.0) bytes base.1 >>= λ pending. Ok (made_log n base.0 pending.0, pending.1)) (digits w64 acked) text acked offset (read_again u64_codec acked small)
      (first_refused rows_at (λ base bytes at. entries_at Second (new_log_of acked base) bytes at >>= λ pending. Ok (made_log acked base pending.0, pending.1)) text offset refused)))

  client_entries : (base : Volume) (text : List ℕ) (offset : ℕ) → IsTree base → IsRefused (entries_at Second (new_log_of acked base)) text offset → IsRefused (client_at Second) (client_mark ++ (2 ∷ client ∷ (digits w64 acked ++ (rows base ++ text)))) (14 + (length (rows base) + offset))
  unfolding log_at
  client_entries base text offset tree refused =
      refused_there (client_at Second) (client_mark ++ (2 ∷ client ∷ (digits w64 acked ++ (rows base ++ text)))) (6 + (length (digits w64 acked) + (length (rows base) + offset))) (14 + (length (rows base) + offset)) (omega (arith, eight_bytes acked))
      (log_refused client (digits w64 acked ++ (rows base ++ text)) (length (digits w64 acked) + (length (rows base) + offset)) some few
      (later_refused (number_at w64) (λ n bytes at. rows_at bytes at >>= λ v. entries_at Second (new_log_of n v.0) bytes v.1 >>= λ pending. Ok (made_log n v.0 pending.0, pending.1)) (digits w64 acked) (rows base ++ text) acked (length (rows base) + offset) (read_again u64_codec acked small)
      (later_refused rows_at (λ v bytes at. entries_at Second (new_log_of acked v) bytes at >>= λ pending. Ok (made_log acked v pending.0, pending.1)) (rows base) text base offset (read_again rows_codec base tree)
      (first_refused (entries_at Second (new_log_of acked base)) (λ pending bytes at. Ok (made_log acked base pending, at)) text offset refused))))

server_rows : (last : List ℕ) (text : List ℕ) (offset : ℕ) → length last ≡ 64 → AllByRecursion (λ n. n < 2 ^ 64) last → IsRefused rows_at text offset → IsRefused (server_at Second) (server_mark ++ (2 ∷ (numbers last ++ text))) (517 + offset)
unfolding server_at server_body_at
server_rows last text offset count fit refused =
    refused_there (server_at Second) (server_mark ++ (2 ∷ (numbers last ++ text))) (4 + (1 + (length (numbers last) + offset))) (517 + offset) (omega (arith, numbers_size last, count))
    (behind_mark_refused server_mark refl (tagged_at (server_versions Second)) (2 ∷ (numbers last ++ text)) (1 + (length (numbers last) + offset))
    (tagged_refused (server_versions Second) 2 (server_body_at Second) (numbers last ++ text) (length (numbers last) + offset) (lit< tt) (λ tag at bytes. refl)
    (later_refused numbers_at (λ ns bytes at. rows_at bytes at >>= λ v. Ok (server_made ns v.0, v.1)) (numbers last) text last offset (read_again numbers_codec last (count, fit))
    (first_refused rows_at (λ v bytes at. Ok (server_made last v, at)) text offset refused))))

-- what begins with a refused text is refused where this is
pub whole_refused : {A B : Type 0} (other : List ℕ) (begun : Reader B) (read : Reader A) (text more : List ℕ) (offset : ℕ) → IsRefused begun text offset
    → ((place : ℕ) → begun (text ++ more) 0 ≡ Err place → read (text ++ more) 0 ≡ Err place) → bytes_eq other (take 4 (text ++ more)) ≡ false → image_of other read (text ++ more) ≡ Err (BadImage (as_u32 offset))
whole_refused other begun read text more offset refused fails apart =
    let stands : Stands (text ++ more) 0 text (length text) = record { here = ap (λ (rest : List ℕ). text ++ rest) (sym (drop_front text more)); next_is = omega arith; within = omega (arith, length-append text more) } in
    let place : 0 + offset ≡ offset = omega arith in
    rw (apart, fails (0 + offset) (refused (text ++ more) 0 (length text) stands)) (ap (λ (n : ℕ). Err (BadImage (as_u32 n))) place)
  where
    drop_front : (xs ys : List ℕ) → drop (length xs) (xs ++ ys) ≡ ys
    drop_front [] ys = refl
    drop_front (x ∷ xs) ys = drop_front xs ys

pub broken_images : BrokenImages
unfolding client_at server_at
broken_images = record {
  client_mark_is_another = λ mark long differ. mark_refused client_mark refl (tagged_at (client_versions Second)) mark long differ;
  server_mark_is_another = λ mark long differ. mark_refused server_mark refl (tagged_at (server_versions Second)) mark long differ;
  client_version_is_another = λ version byte differ.
      behind_mark_refused client_mark refl (tagged_at (client_versions Second)) (version ∷ []) 0 (kind_refused (client_versions Second) version byte (λ tag at bytes. rw (ne_eqb version 2 differ) refl));
  server_version_is_another = λ version byte differ.
      behind_mark_refused server_mark refl (tagged_at (server_versions Second)) (version ∷ []) 0 (kind_refused (server_versions Second) version byte (λ tag at bytes. rw (ne_eqb version 2 differ) refl));
  client_is_none = λ client byte none.
      behind_mark_refused client_mark refl (tagged_at (client_versions Second)) (2 ∷ client ∷ []) 1
      (tagged_refused (client_versions Second) 2 (client_body_at Second) (client ∷ []) 0 (lit< tt) (λ tag at bytes. refl)
      (client_number_refused (client ∷ []) (rule_refused (number_at w8) (λ n. leb 1 n && leb n 64) (client ∷ []) client (read_again u8_codec client byte) (wrong_client client none))));
  client_rows_are_refused = λ client acked text offset some few small refused. client_rows client acked some few small text offset refused;
  server_rows_are_refused = server_rows;
  entries_are_refused = λ client acked base text offset some few small tree refused. client_entries client acked some few small base text offset tree refused;
  client_is_refused = λ text more offset refused told apart. whole_refused server_mark (client_at Second) kept_client_at text more offset refused (λ place e. client_fails (text ++ more) 0 place told e) apart;
  server_is_refused = λ text more offset refused told apart. whole_refused client_mark (server_at Second) kept_server_at text more offset refused (λ place e. server_fails (text ++ more) 0 place told e) apart;
}
