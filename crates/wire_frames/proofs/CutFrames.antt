-- A frame that is cut short: the field in which it ends is the faulty one.
use Rattle.std.proofs.Common.{◌≡◌, ℕ, suc, ◌+◌, ◌-◌, ◌^◌, ◌<◌, ◌≤◌, true, ◌&&◌, not, leb, eqb, List, [], ◌∷◌, ◌++◌, length, get_or, take, drop, Err, refl, sym, ap, subst, ◌∙◌, arith, length-append, length-take}
use Rattle.std.specs.Int.{w32, w64, from_be_bytes}
use Rattle.std.proofs.lemmas.List.{drop_at, append-nil}
use Rattle.std.proofs.Math.Seq.{drop-length}
use Rattle.std.proofs.lemmas.Nat.{from_be_bytes-to_be_bytes_4}
use Rattle.byte_fields.proofs.Facts.{four_bytes, eight_bytes}
use Rattle.byte_fields.specs.Field.{digits}
use Rattle.byte_fields.specs.Codec.{Stands}
use Rattle.byte_fields.specs.Cuts.{start_of, IsCut}
use Rattle.byte_fields.proofs.Codec.{u32_codec, u64_codec, stands_first, stands_second}
use Rattle.byte_fields.proofs.Cutting.{sum_both, u8_cut, u32_cut, u64_cut, ruled_cut, one_cut, two_cut, three_cut, then_cut}
use Rattle.file_paths.specs.Fields.{path_fields}
use Rattle.file_paths.specs.Spelling.{path}
use Rattle.file_paths.proofs.Parts.{path_codec, path_cut}
use Rattle.tree_laws.proofs.CutParts.{rows_cut}
use Rattle.wire_frames.specs.declared.message.Message.{Message}
use Rattle.wire_frames.specs.declared.message.Message.TheVariants as messages
use Rattle.wire_frames.specs.declared.message.Kind.{Kind}
use Rattle.wire_frames.specs.declared.message.FrameError.TheVariants.{BadField}
use Rattle.wire_frames.specs.Fields.{body_fields, message_fields}
use Rattle.wire_frames.specs.Frame.{frame_version, kind, client_of, number_of, code_of, client_rule, number_rule, offset_rule, accepted_rule, refused_rule, conflict, body, payload, frame, ConflictFits, RefusedFits, BodyFits}
use Rattle.wire_frames.specs.Reading.{store_at, operate_at, accepted_at, refused_upto, conflict_at, stale_at, unfit_at, full_at, snapshot_at, gap_at, declined_at, malformed_at, body_at, message_at, is_sized, frame_of}
use Rattle.wire_frames.specs.Laws.{CutFramesNameTheField}
use Rattle.wire_frames.proofs.FaultLaws.{unfit_cut, full_cut}
use Rattle.wire_frames.proofs.CauseLaws.{cause_cut}
use Rattle.wire_frames.proofs.OperationLaws.{operation_cut}
use Rattle.wire_frames.proofs.PartLaws.{parts_cut}
use Rattle.wire_frames.proofs.Messages.{tail, number_codec, refusal, refused_codec, conflict_of, stale_of}
use Rattle.wire_frames.proofs.Frames.{are_sized, kind_again}
use Rattle.wire_frames.proofs.Sizes.{frame_small}

-- ---- bodies

no_room : (bytes : List ℕ) (at next end : ℕ) → Stands bytes at [] next → at ≤ end → end < next → ⊥
no_room bytes at next end stands le lt = omega (arith, stands.next_is)

refused_cut : (number : ℕ) → IsCut (refused_upto number) (digits w64) (λ n. 8 ∷ []) (RefusedFits number)
unfolding refused_upto
refused_cut number = ruled_cut u64_cut (refused_rule number)

conflict_cut : IsCut conflict_at conflict (λ c. path_fields c.path ++ (8 ∷ 8 ∷ [])) ConflictFits
unfolding conflict_at
conflict_cut = record {
  whole = λ c fits.
      omega (arith, sum_both (path_fields c.path) (8 ∷ 8 ∷ []), length-append (path c.path) (digits w64 c.theirs ++ digits w64 c.ours), length-append (digits w64 c.theirs) (digits w64 c.ours), eight_bytes c.theirs, eight_bytes c.ours, path_cut.whole c.path fits.0);
  cut = λ bytes at c next end stands fits le lt.
      three_cut path_codec path_cut (λ _ _. u64_codec) (λ _ _. u64_cut) (λ _ t _ _. ruled_cut u64_cut (λ v. not (eqb v t))) conflict_of bytes at c.path c.theirs c.ours next end stands fits.0 fits.1 (fits.2, fits.3) le lt;
}

body_ends : (m : Message) (bytes : List ℕ) (at next end : ℕ) → Stands bytes at (body m) next → BodyFits m → at ≤ end → end < next
    → body_at (kind m) (client_of m) (number_of m) (take end bytes) at ≡ Err (at + start_of (end - at) (body_fields m))
unfolding store_at operate_at accepted_at stale_at unfit_at full_at snapshot_at gap_at declined_at malformed_at
body_ends (messages.Store c n ps) bytes at next end stands fits le lt = one_cut (parts_cut n) (messages.Store c n) bytes at ps next end stands fits le lt
body_ends (messages.Operate c entry) bytes at next end stands fits le lt = one_cut (operation_cut entry.seq) (messages.Operate c) bytes at entry next end stands (refl, fits) le lt
body_ends (messages.Pull c n) bytes at next end stands fits le lt = absurd (no_room bytes at next end stands le lt)
body_ends (messages.Accepted c n upto) bytes at next end stands fits le lt =
    one_cut (ruled_cut u64_cut (accepted_rule n)) (messages.Accepted c n) bytes at upto next end stands fits le lt
body_ends (messages.Stale c n upto p theirs ours) bytes at next end stands fits le lt =
    two_cut (refused_codec n) (refused_cut n) (λ _ _. conflict_cut) (stale_of c n) bytes at upto (conflict_of p theirs ours) next end stands fits.0 fits.1 le lt
body_ends (messages.Unfit c n upto i f) bytes at next end stands fits le lt =
    three_cut (refused_codec n) (refused_cut n) (λ _ _. u32_codec) (λ _ _. u32_cut) (λ _ _ _ _. unfit_cut) (messages.Unfit c n) bytes at upto i f next end stands fits.0 fits.1 fits.2 le lt
body_ends (messages.Full c n upto i f) bytes at next end stands fits le lt =
    three_cut (refused_codec n) (refused_cut n) (λ _ _. u32_codec) (λ _ _. u32_cut) (λ _ _ _ _. full_cut) (messages.Full c n) bytes at upto i f next end stands fits.0 fits.1 fits.2 le lt
body_ends (messages.Gap c n last) bytes at next end stands fits le lt =
    one_cut (ruled_cut u64_cut (λ v. leb (v + 2) n)) (messages.Gap c n) bytes at last next end stands (fits.0, fits.1) le lt
body_ends (messages.Snapshot c n last rs) bytes at next end stands fits le lt =
    two_cut u64_codec u64_cut (λ _ _. rows_cut) (messages.Snapshot c n) bytes at last rs next end stands fits.0 fits.1 le lt
body_ends (messages.Done c n) bytes at next end stands fits le lt = absurd (no_room bytes at next end stands le lt)
body_ends (messages.Declined c n why) bytes at next end stands fits le lt = one_cut cause_cut (messages.Declined c n) bytes at why next end stands fits le lt
body_ends (messages.Malformed code offset) bytes at next end stands fits le lt =
    two_cut refusal (ruled_cut u8_cut (λ v. leb 1 v && leb v 7)) (λ v _. ruled_cut u32_cut (offset_rule v)) messages.Malformed bytes at code offset next end stands (fits.0, fits.1) (fits.2, fits.3) le lt

message_ends : (m : Message) (bytes : List ℕ) (at next end : ℕ) → Stands bytes at (tail m) next → number_rule (kind m) (number_of m) ≡ true → number_of m < 2 ^ 64 → BodyFits m → at ≤ end → end < next
    → message_at (kind m) (client_of m) (take end bytes) at ≡ Err (at + start_of (end - at) (message_fields m))
unfolding message_at
message_ends m bytes at next end stands nr small fits le lt =
    let middle = at + length (digits w64 (number_of m)) in
    then_cut (number_codec (kind m)) (ruled_cut u64_cut (number_rule (kind m))) (λ n. body_at (kind m) (client_of m) n.0 (take end bytes) n.1) bytes at (number_of m) middle end (body_fields m)
    (stands_first bytes at (digits w64 (number_of m)) (body m) next stands) (small, nr) le
    (λ ge. body_ends m bytes middle next end (stands_second bytes at (digits w64 (number_of m)) (body m) next stands) fits ge lt)

-- ---- frames

pub fails_again : (bytes : List ℕ) (k : Kind) (c : ℕ) (place : ℕ) → is_sized bytes ≡ true → get_or bytes 4 0 ≡ frame_version → get_or bytes 5 0 ≡ code_of k → get_or bytes 6 0 ≡ c → client_rule k c ≡ true → message_at k c bytes 7 ≡ Err place → frame_of bytes ≡ Err (BadField place)
unfolding frame_of
fails_again bytes k c place is version code client fits read = rw (is, version, code, kind_again k, client, fits, read) refl

pub cut_frames : CutFramesNameTheField
unfolding digits
cut_frames m end valid low lt =
    let size : length (frame m) ≡ 4 + length (payload m) = length-append (digits w32 (length (payload m))) (payload m) in
    let rest : drop 4 (frame m) ≡ payload m = drop_at (digits w32 (length (payload m))) (payload m) 4 (four_bytes (length (payload m))) in
    let whole : List ℕ = digits w32 (end - 4) ++ payload m in
    let long : length whole ≡ 4 + length (payload m) = length-append (digits w32 (end - 4)) (payload m) in
    let short : length (take end whole) ≡ end = omega (arith, length-take end whole) in
    let seven : end ≡ suc (suc (suc (suc (suc (suc (suc (end - 7))))))) = omega arith in
    let told : from_be_bytes w32 (take 4 (take end whole)) + 4 ≡ length (take end whole) =
    subst (λ (n : ℕ). from_be_bytes w32 (take 4 (take n whole)) + 4 ≡ length (take end whole)) (sym seven) (rw (from_be_bytes-to_be_bytes_4 (end - 4) (omega (arith, frame_small m valid))) (omega (arith, short))) in
    let is : is_sized (take end whole) ≡ true = are_sized (take end whole) (record { low = omega (arith, short); high = omega (arith, short, frame_small m valid); told = told }) in
    let stands : Stands whole 7 (tail m) (length whole) = record { here = sym (ap (λ (x : List ℕ). tail m ++ x) (drop-length whole) ∙ append-nil (tail m)); next_is = omega arith; within = omega arith } in
    let read = message_ends m whole 7 (length whole) end stands valid.number_fits valid.number_small valid.body_fits (omega arith) (omega (arith, size, long)) in
    let version : get_or (take end whole) 4 0 ≡ frame_version = subst (λ (n : ℕ). get_or (take n whole) 4 0 ≡ frame_version) (sym seven) refl in
    let code : get_or (take end whole) 5 0 ≡ code_of (kind m) = subst (λ (n : ℕ). get_or (take n whole) 5 0 ≡ code_of (kind m)) (sym seven) refl in
    let client : get_or (take end whole) 6 0 ≡ client_of m = subst (λ (n : ℕ). get_or (take n whole) 6 0 ≡ client_of m) (sym seven) refl in
    rw rest (fails_again (take end whole) (kind m) (client_of m) _ is version code client valid.client_fits read)
