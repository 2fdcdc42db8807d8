-- The laws of messages: what is read is spelled so, and what is spelled so is read.
use Rattle.std.proofs.Common.{◌≡◌, ℕ, ◌+◌, ◌^◌, ◌<◌, ◌≤◌, true, ◌&&◌, not, leb, eqb, List, [], ◌∷◌, ◌++◌, length, Ok, Err, refl, sym, subst, arith, inl, inr}
use Rattle.std.specs.Int.{w8, w32, w64}
use Rattle.std.proofs.lemmas.Bool.{eqb-true}
use Rattle.byte_fields.specs.Field.{digits, ruled, number_at}
use Rattle.byte_fields.specs.Codec.{Stands, IsBytes, IsFault, IsCodec}
use Rattle.byte_fields.proofs.Codec.{done, later_fault, ok_is, never_err, bind_ok, bind_err, u8_codec, u32_codec, u64_codec, ruled_codec, found1, found2, found3, again1, again2, again3, fault1, fault2, fault3, stands_none, stands_first, stands_second, stands_both}
use Rattle.file_paths.specs.Path.{FilePath}
use Rattle.file_paths.proofs.Parts.{path_codec}
use Rattle.tree_values.specs.Effects.{Conflict}
use Rattle.tree_laws.proofs.Parts.{rows_codec}
use Rattle.wire_frames.specs.declared.message.Message.{Message}
use Rattle.wire_frames.specs.declared.message.Message.TheVariants as messages
use Rattle.wire_frames.specs.declared.message.Kind.{Kind}
use Rattle.wire_frames.specs.declared.message.Kind.TheVariants.{Store, Operate, Pull, Accepted, Stale, Unfit, Gap, Snapshot, Done, Declined, Full, Malformed}
use Rattle.wire_frames.proofs.FaultLaws.{unfit_codec, full_codec}
use Rattle.wire_frames.proofs.CauseLaws.{cause_codec}
use Rattle.wire_frames.proofs.OperationLaws.{operation_codec}
use Rattle.wire_frames.proofs.PartLaws.{parts_codec}
use Rattle.wire_frames.specs.Frame.{kind, client_of, number_of, conflict, body, client_rule, number_rule, offset_rule, accepted_rule, refused_rule, ConflictFits, RefusedFits, BodyFits}
use Rattle.wire_frames.specs.Reading.{store_at, operate_at, accepted_at, refused_upto, conflict_at, stale_at, unfit_at, full_at, snapshot_at, gap_at, declined_at, malformed_at, body_at, message_at}

-- ---- bodies

other_than : (theirs : ℕ) → IsCodec (ruled (λ n. not (eqb n theirs)) (number_at w64)) (digits w64) (λ n. (n < 2 ^ 64) × (not (eqb n theirs) ≡ true))
other_than theirs = ruled_codec (λ n. not (eqb n theirs)) u64_codec

before : (limit : ℕ) → IsCodec (ruled (λ n. leb (n + 2) limit) (number_at w64)) (digits w64) (λ n. (n < 2 ^ 64) × (leb (n + 2) limit ≡ true))
before limit = ruled_codec (λ n. leb (n + 2) limit) u64_codec

pub refusal : IsCodec (ruled (λ n. leb 1 n && leb n 7) (number_at w8)) (λ n. n ∷ []) (λ n. (n < 2 ^ 8) × ((leb 1 n && leb n 7) ≡ true))
refusal = ruled_codec (λ n. leb 1 n && leb n 7) u8_codec

offset_of : (code : ℕ) → IsCodec (ruled (offset_rule code) (number_at w32)) (digits w32) (λ n. (n < 2 ^ 32) × (offset_rule code n ≡ true))
offset_of code = ruled_codec (offset_rule code) u32_codec

abbrev pub conflict_of : FilePath → ℕ → ℕ → Conflict
conflict_of p theirs ours = record { path = p; theirs = theirs; ours = ours }

pub conflict_codec : IsCodec conflict_at conflict ConflictFits
unfolding conflict_at
conflict_codec = record {
  found = λ bytes at x next fits le e.
      let r = found3 path_codec (λ _ _. u64_codec) (λ _ theirs _ _. other_than theirs) conflict_of bytes at x next fits le e in
      subst (λ (c : Conflict). Stands bytes at (conflict c) next × ConflictFits c) r.is (r.stands, (r.first_fits, r.second_fits, r.third_fits.0, r.third_fits.1));
  again = λ bytes at x next stands fits.
      again3 path_codec (λ _ _. u64_codec) (λ _ theirs _ _. other_than theirs) conflict_of bytes at x.path x.theirs x.ours next stands fits.0 fits.1 (fits.2, fits.3);
  fault = fault3 path_codec (λ _ _. u64_codec) (λ _ theirs _ _. other_than theirs) conflict_of;
}

pub accepted_codec : (number : ℕ) → IsCodec (ruled (accepted_rule number) (number_at w64)) (digits w64) (λ n. (n < 2 ^ 64) × (accepted_rule number n ≡ true))
accepted_codec number = ruled_codec (accepted_rule number) u64_codec

pub refused_codec : (number : ℕ) → IsCodec (refused_upto number) (digits w64) (RefusedFits number)
unfolding refused_upto
refused_codec number = ruled_codec (refused_rule number) u64_codec

-- a message of this kind, client and number
pub record IsOf (k : Kind) (c n : ℕ) (m : Message) : Type 0 where
  pub kind_is : kind m ≡ k
  pub client_is : client_of m ≡ c
  pub number_is : number_of m ≡ n
  pub body_fits : BodyFits m

-- a Stale that tells this conflict
abbrev pub stale_of : ℕ → ℕ → ℕ → Conflict → Message
stale_of c n upto told = messages.Stale c n upto told.path told.theirs told.ours

abbrev IsFound : Kind → ℕ → ℕ → List ℕ → ℕ → ℕ → Message → Type 0
IsFound k c n bytes at next m = Stands bytes at (body m) next × IsOf k c n m

empty_found : (bytes : List ℕ) (at next : ℕ) (made m : Message) (k : Kind) (c n : ℕ) → at ≤ length bytes → body made ≡ [] → IsOf k c n made → done {A = Message × ℕ} (made, at) ≡ Ok (m, next) → IsFound k c n bytes at next m
empty_found bytes at next made m k c n le no_body of e =
    subst (λ (x : Message × ℕ). IsFound k c n bytes at x.1 x.0) (ok_is (made, at) (m, next) e) (rw no_body (stands_none bytes at le), of)

body_found : (k : Kind) (c n : ℕ) → client_rule k c ≡ true → number_rule k n ≡ true → (bytes : List ℕ) (at : ℕ) (m : Message) (next : ℕ) → IsBytes bytes → at ≤ length bytes → body_at k c n bytes at ≡ Ok (m, next) → IsFound k c n bytes at next m
unfolding store_at operate_at accepted_at stale_at unfit_at full_at snapshot_at gap_at declined_at malformed_at
body_found Store c n cr nr bytes at m next fits le e =
    let r = found1 (parts_codec n) (messages.Store c n) bytes at m next fits le e in
    subst (IsFound Store c n bytes at next) r.is (r.stands, record { kind_is = refl; client_is = refl; number_is = refl; body_fits = r.fits })
body_found Operate c n cr nr bytes at m next fits le e =
    let r = found1 (operation_codec n) (messages.Operate c) bytes at m next fits le e in
    subst (IsFound Operate c n bytes at next) r.is (r.stands, record { kind_is = refl; client_is = refl; number_is = r.fits.0; body_fits = r.fits.1 })
body_found Pull c n cr nr bytes at m next fits le e = empty_found bytes at next (messages.Pull c n) m Pull c n le refl (record { kind_is = refl; client_is = refl; number_is = refl; body_fits = tt }) e
body_found Accepted c n cr nr bytes at m next fits le e =
    let r = found1 (accepted_codec n) (messages.Accepted c n) bytes at m next fits le e in
    subst (IsFound Accepted c n bytes at next) r.is (r.stands, record { kind_is = refl; client_is = refl; number_is = refl; body_fits = r.fits })
body_found Stale c n cr nr bytes at m next fits le e =
    let r = found2 (refused_codec n) (λ _ _. conflict_codec) (stale_of c n) bytes at m next fits le e in
    subst (IsFound Stale c n bytes at next) r.is (r.stands, record { kind_is = refl; client_is = refl; number_is = refl; body_fits = (r.first_fits, r.second_fits) })
body_found Unfit c n cr nr bytes at m next fits le e =
    let r = found3 (refused_codec n) (λ _ _. u32_codec) (λ _ _ _ _. unfit_codec) (messages.Unfit c n) bytes at m next fits le e in
    subst (IsFound Unfit c n bytes at next) r.is (r.stands, record { kind_is = refl; client_is = refl; number_is = refl; body_fits = (r.first_fits, r.second_fits, r.third_fits) })
body_found Full c n cr nr bytes at m next fits le e =
    let r = found3 (refused_codec n) (λ _ _. u32_codec) (λ _ _ _ _. full_codec) (messages.Full c n) bytes at m next fits le e in
    subst (IsFound Full c n bytes at next) r.is (r.stands, record { kind_is = refl; client_is = refl; number_is = refl; body_fits = (r.first_fits, r.second_fits, r.third_fits) })
body_found Gap c n cr nr bytes at m next fits le e =
    let r = found1 (before n) (messages.Gap c n) bytes at m next fits le e in
    subst (IsFound Gap c n bytes at next) r.is (r.stands, record { kind_is = refl; client_is = refl; number_is = refl; body_fits = (r.fits.0, r.fits.1) })
body_found Snapshot c n cr nr bytes at m next fits le e =
    let r = found2 u64_codec (λ _ _. rows_codec) (messages.Snapshot c n) bytes at m next fits le e in
    subst (IsFound Snapshot c n bytes at next) r.is (r.stands, record { kind_is = refl; client_is = refl; number_is = refl; body_fits = (r.first_fits, r.second_fits) })
body_found Done c n cr nr bytes at m next fits le e = empty_found bytes at next (messages.Done c n) m Done c n le refl (record { kind_is = refl; client_is = refl; number_is = refl; body_fits = tt }) e
body_found Declined c n cr nr bytes at m next fits le e =
    let r = found1 cause_codec (messages.Declined c n) bytes at m next fits le e in
    subst (IsFound Declined c n bytes at next) r.is (r.stands, record { kind_is = refl; client_is = refl; number_is = refl; body_fits = r.fits })
body_found Malformed c n cr nr bytes at m next fits le e =
    let r = found2 refusal (λ code _. offset_of code) messages.Malformed bytes at m next fits le e in
    subst (IsFound Malformed c n bytes at next) r.is (r.stands, record { kind_is = refl; client_is = sym (eqb-true c 0 cr); number_is = sym (eqb-true n 0 nr); body_fits = (r.first_fits.0, r.first_fits.1, r.second_fits.0, r.second_fits.1) })

body_fault : (k : Kind) (c n : ℕ) (bytes : List ℕ) (at : ℕ) (place : ℕ) → IsBytes bytes → at ≤ length bytes → body_at k c n bytes at ≡ Err place → IsFault bytes at place
unfolding store_at operate_at accepted_at stale_at unfit_at full_at snapshot_at gap_at declined_at malformed_at
body_fault Store c n bytes at place fits le e = fault1 (parts_codec n) (messages.Store c n) bytes at place fits le e
body_fault Stale c n bytes at place fits le e = fault2 (refused_codec n) (λ _ _. conflict_codec) (stale_of c n) bytes at place fits le e
body_fault Unfit c n bytes at place fits le e = fault3 (refused_codec n) (λ _ _. u32_codec) (λ _ _ _ _. unfit_codec) (messages.Unfit c n) bytes at place fits le e
body_fault Full c n bytes at place fits le e = fault3 (refused_codec n) (λ _ _. u32_codec) (λ _ _ _ _. full_codec) (messages.Full c n) bytes at place fits le e
body_fault Gap c n bytes at place fits le e = fault1 (before n) (messages.Gap c n) bytes at place fits le e
body_fault Malformed c n bytes at place fits le e = fault2 refusal (λ code _. offset_of code) messages.Malformed bytes at place fits le e
body_fault Operate c n bytes at place fits le e = fault1 (operation_codec n) (messages.Operate c) bytes at place fits le e
body_fault Pull c n bytes at place fits le e = absurd (never_err (messages.Pull c n, at) place e)
body_fault Accepted c n bytes at place fits le e = fault1 (accepted_codec n) (messages.Accepted c n) bytes at place fits le e
body_fault Done c n bytes at place fits le e = absurd (never_err (messages.Done c n, at) place e)
body_fault Declined c n bytes at place fits le e = fault1 cause_codec (messages.Declined c n) bytes at place fits le e
body_fault Snapshot c n bytes at place fits le e = fault2 u64_codec (λ _ _. rows_codec) (messages.Snapshot c n) bytes at place fits le e

empty_again : (m : Message) (bytes : List ℕ) (at next : ℕ) → Stands bytes at [] next → done {A = Message × ℕ} (m, at) ≡ Ok (m, next)
empty_again m bytes at next stands = let e : at ≡ next = omega (arith, stands.next_is) in rw e refl

body_again : (m : Message) (bytes : List ℕ) (at next : ℕ) → Stands bytes at (body m) next → BodyFits m → body_at (kind m) (client_of m) (number_of m) bytes at ≡ Ok (m, next)
unfolding store_at operate_at accepted_at stale_at unfit_at full_at snapshot_at gap_at declined_at malformed_at
body_again (messages.Store c n ps) bytes at next stands fits = again1 (parts_codec n) (messages.Store c n) bytes at ps next stands fits
body_again (messages.Operate c entry) bytes at next stands fits = again1 (operation_codec entry.seq) (messages.Operate c) bytes at entry next stands (refl, fits)
body_again (messages.Pull c n) bytes at next stands fits = empty_again (messages.Pull c n) bytes at next stands
body_again (messages.Accepted c n upto) bytes at next stands fits = again1 (accepted_codec n) (messages.Accepted c n) bytes at upto next stands fits
body_again (messages.Stale c n upto p theirs ours) bytes at next stands fits =
    again2 (refused_codec n) (λ _ _. conflict_codec) (stale_of c n) bytes at upto (conflict_of p theirs ours) next stands fits.0 fits.1
body_again (messages.Unfit c n upto i f) bytes at next stands fits =
    again3 (refused_codec n) (λ _ _. u32_codec) (λ _ _ _ _. unfit_codec) (messages.Unfit c n) bytes at upto i f next stands fits.0 fits.1 fits.2
body_again (messages.Full c n upto i f) bytes at next stands fits =
    again3 (refused_codec n) (λ _ _. u32_codec) (λ _ _ _ _. full_codec) (messages.Full c n) bytes at upto i f next stands fits.0 fits.1 fits.2
body_again (messages.Gap c n last) bytes at next stands fits = again1 (before n) (messages.Gap c n) bytes at last next stands (fits.0, fits.1)
body_again (messages.Snapshot c n last rs) bytes at next stands fits = again2 u64_codec (λ _ _. rows_codec) (messages.Snapshot c n) bytes at last rs next stands fits.0 fits.1
body_again (messages.Done c n) bytes at next stands fits = empty_again (messages.Done c n) bytes at next stands
body_again (messages.Declined c n why) bytes at next stands fits = again1 cause_codec (messages.Declined c n) bytes at why next stands fits
body_again (messages.Malformed code offset) bytes at next stands fits = again2 refusal (λ code _. offset_of code) messages.Malformed bytes at code offset next stands (fits.0, fits.1) (fits.2, fits.3)

-- ---- the number and the body

abbrev pub tail : Message → List ℕ
tail m = digits w64 (number_of m) ++ body m

pub record IsTail (k : Kind) (c : ℕ) (bytes : List ℕ) (at : ℕ) (m : Message) (next : ℕ) : Type 0 where
  pub stands : Stands bytes at (tail m) next
  pub kind_is : kind m ≡ k
  pub client_is : client_of m ≡ c
  pub number_fits : number_rule k (number_of m) ≡ true
  pub number_small : number_of m < 2 ^ 64
  pub body_fits : BodyFits m

pub number_codec : (k : Kind) → IsCodec (ruled (number_rule k) (number_at w64)) (digits w64) (λ n. (n < 2 ^ 64) × (number_rule k n ≡ true))
number_codec k = ruled_codec (number_rule k) u64_codec

pub message_found : (k : Kind) (c : ℕ) → client_rule k c ≡ true → (bytes : List ℕ) (at : ℕ) (m : Message) (next : ℕ) → IsBytes bytes → at ≤ length bytes → message_at k c bytes at ≡ Ok (m, next) → IsTail k c bytes at m next
unfolding message_at
message_found k c cr bytes at m next fits le e =
    let b = bind_ok (ruled (number_rule k) (number_at w64) bytes at) (λ n. body_at k c n.0 bytes n.1) (m, next) e in
    let n = b.0.0 in
    let first = (number_codec k).found bytes at n b.0.1 fits le b.1 in
    let rest = body_found k c n cr first.1.1 bytes b.0.1 m next fits first.0.within b.2 in
    let is : n ≡ number_of m = sym rest.1.number_is in
    let both = stands_both bytes at (digits w64 n) b.0.1 (body m) next first.0 rest.0 in
    record {
      stands = subst (λ (x : ℕ). Stands bytes at (digits w64 x ++ body m) next) is both;
      kind_is = rest.1.kind_is;
      client_is = rest.1.client_is;
      number_fits = subst (λ (x : ℕ). number_rule k x ≡ true) is first.1.1;
      number_small = subst (λ (x : ℕ). x < 2 ^ 64) is first.1.0;
      body_fits = rest.1.body_fits;
    }

pub message_fault : (k : Kind) (c : ℕ) (bytes : List ℕ) (at : ℕ) (place : ℕ) → IsBytes bytes → at ≤ length bytes → message_at k c bytes at ≡ Err place → IsFault bytes at place
unfolding message_at
message_fault k c bytes at place fits le e =
    elim (bind_err (ruled (number_rule k) (number_at w64) bytes at) (λ n. body_at k c n.0 bytes n.1) place e) [
      | inl here ↦ (number_codec k).fault bytes at place fits le here
      | inr b ↦
          let first = (number_codec k).found bytes at b.0.0 b.0.1 fits le b.1 in
          later_fault bytes at (digits w64 b.0.0) b.0.1 place first.0 (body_fault k c b.0.0 bytes b.0.1 place fits first.0.within b.2)
    ]

pub message_again : (m : Message) (bytes : List ℕ) (at next : ℕ) → Stands bytes at (tail m) next → number_rule (kind m) (number_of m) ≡ true → number_of m < 2 ^ 64 → BodyFits m → message_at (kind m) (client_of m) bytes at ≡ Ok (m, next)
unfolding message_at
message_again m bytes at next stands nr small fits =
    rw ((number_codec (kind m)).again bytes at (number_of m) (at + length (digits w64 (number_of m))) (stands_first bytes at (digits w64 (number_of m)) (body m) next stands) (small, nr))
    (body_again m bytes (at + length (digits w64 (number_of m))) next (stands_second bytes at (digits w64 (number_of m)) (body m) next stands) fits)
