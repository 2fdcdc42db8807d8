-- What each refusal of a frame says.
use Rattle.std.proofs.Common.{◌≡◌, ◌≢◌, ℕ, Bool, true, false, true≢false, cond, eqb, List, ◌∷◌, ◌++◌, length, get_or, take, drop, Option, Some, None, Result, Ok, Err, refl, sym, ap, subst, ◌∙◌, arith, length-append, length-take, append_assoc}
use Rattle.std.specs.Int.{w32}
use Rattle.std.proofs.lemmas.Bool.{eqb-true, eq-eqb}
use Rattle.std.proofs.lemmas.List.{take_at, drop_at}
use Rattle.byte_fields.proofs.Facts.{four_bytes}
use Rattle.byte_fields.specs.Field.{digits}
use Rattle.wire_frames.specs.declared.message.Message.{Message}
use Rattle.wire_frames.specs.declared.message.Kind.{Kind}
use Rattle.wire_frames.specs.declared.message.FrameError.{FrameError}
use Rattle.wire_frames.specs.declared.message.FrameError.TheVariants.{BadLength, BadVersion, BadKind, BadClient, BadField, Trailing, Memory}
use Rattle.wire_frames.specs.Frame.{frame_version, kind, code_of, client_rule, payload, frame}
use Rattle.wire_frames.specs.Reading.{message_at, kind_of, whole, message_of_kind, is_sized, frame_of}
use Rattle.wire_frames.specs.Laws.{LengthIsFirst, VersionIsSecond, KindIsThird, ClientIsFourth, FieldsAreBehindTheClient, MessagesStandBeforeWhatIsLeft}
use Rattle.wire_frames.proofs.Messages.{message_found, message_fault}
use Rattle.wire_frames.proofs.Frames.{sized, header, kind_found, kind_again}

-- the bytes have the version, and this kind's code
record IsOfKind (bytes : List ℕ) (k : Kind) : Type 0 where
  sized : is_sized bytes ≡ true
  version : eqb (get_or bytes 4 0) frame_version ≡ true
  code : kind_of (get_or bytes 5 0) ≡ Some k

-- what a refusal says of the bytes
Says : List ℕ → FrameError → Type 0
Says bytes BadLength = is_sized bytes ≡ false
Says bytes BadVersion = (is_sized bytes ≡ true) × (eqb (get_or bytes 4 0) frame_version ≡ false)
Says bytes BadKind = (is_sized bytes ≡ true) × (eqb (get_or bytes 4 0) frame_version ≡ true) × (kind_of (get_or bytes 5 0) ≡ None)
Says bytes BadClient = (k : Kind) × IsOfKind bytes k × (client_rule k (get_or bytes 6 0) ≡ false)
Says bytes (BadField place) = (k : Kind) × IsOfKind bytes k × (message_at k (get_or bytes 6 0) bytes 7 ≡ Err place)
Says bytes (Trailing place) =
    (k : Kind) × IsOfKind bytes k × (client_rule k (get_or bytes 6 0) ≡ true) × ((m : Message) × (message_at k (get_or bytes 6 0) bytes 7 ≡ Ok (m, place))) × (eqb place (length bytes) ≡ false)
Says bytes Memory = ⊥

abbrev refused : FrameError → Result Message FrameError
refused x = Err x

abbrev given : Message → Result Message FrameError
given m = Ok m

error_is : (x y : FrameError) → refused x ≡ refused y → x ≡ y
error_is x y e = cc

not_given : (m : Message) (x : FrameError) → given m ≡ refused x → ⊥
not_given m x e = absurd cc

says : (bytes : List ℕ) (x : FrameError) → frame_of bytes ≡ Err x → Says bytes x
unfolding frame_of Says
says bytes x e = by (is_sized bytes) (eqb (get_or bytes 4 0) frame_version) (kind_of (get_or bytes 5 0)) refl refl refl e
  where
    ended : (k : Kind) → IsOfKind bytes k → client_rule k (get_or bytes 6 0) ≡ true → (m : Message) (place : ℕ) → message_at k (get_or bytes 6 0) bytes 7 ≡ Ok (m, place)
        → (b : Bool) → eqb place (length bytes) ≡ b → cond b (given m) (refused (Trailing place)) ≡ refused x → Says bytes x
    ended k of takes m place read true eb e = absurd (not_given m x e)
    ended k of takes m place read false eb e = subst (Says bytes) (error_is (Trailing place) x e) (k, of, takes, (m, read), eb)

    fields : (k : Kind) → IsOfKind bytes k → client_rule k (get_or bytes 6 0) ≡ true → (r : Result (Message × ℕ) ℕ) → message_at k (get_or bytes 6 0) bytes 7 ≡ r → whole bytes r ≡ refused x → Says bytes x
    fields k of takes (Err place) read e = subst (Says bytes) (error_is (BadField place) x e) (k, of, read)
    fields k of takes (Ok y) read e = ended k of takes y.0 y.1 read (eqb y.1 (length bytes)) refl e

    client : (k : Kind) → IsOfKind bytes k → (b : Bool) → client_rule k (get_or bytes 6 0) ≡ b → cond b (whole bytes (message_at k (get_or bytes 6 0) bytes 7)) (refused BadClient) ≡ refused x → Says bytes x
    client k of true takes e = fields k of takes (message_at k (get_or bytes 6 0) bytes 7) refl e
    client k of false takes e = subst (Says bytes) (error_is BadClient x e) (k, of, takes)

    by : (s v : Bool) (o : Option Kind) → is_sized bytes ≡ s → eqb (get_or bytes 4 0) frame_version ≡ v → kind_of (get_or bytes 5 0) ≡ o
        → cond s (cond v (message_of_kind o bytes) (refused BadVersion)) (refused BadLength) ≡ refused x → Says bytes x
    by false v o es ev eo e = subst (Says bytes) (error_is BadLength x e) es
    by true false o es ev eo e = subst (Says bytes) (error_is BadVersion x e) (es, ev)
    by true true None es ev eo e = subst (Says bytes) (error_is BadKind x e) (es, ev, eo)
    by true true (Some k) es ev eo e = client k (record { sized = es; version = ev; code = eo }) (client_rule k (get_or bytes 6 0)) refl e

-- ---- tests of numbers

differs : (a b : ℕ) → eqb a b ≡ false → a ≢ b
differs a b h e = true≢false (sym (eq-eqb a b e) ∙ h)

not_equal : (a b : ℕ) → a ≢ b → eqb a b ≡ false
not_equal a b h = by (eqb a b) refl
  where
    by : (c : Bool) → eqb a b ≡ c → c ≡ false
    by false e = refl
    by true e = absurd (h (eqb-true a b e))

-- ---- kinds and their codes

kind_with : (code : ℕ) (k : Kind) → code_of k ≡ code → kind_of code ≡ Some k
kind_with code k e = subst (λ (n : ℕ). kind_of n ≡ Some k) e (kind_again k)

none_is : (k : Kind) → (let o : Option Kind = None in o ≡ Some k) → ⊥
none_is k e = absurd cc

no_kind : (code : ℕ) → ((k : Kind) → code_of k ≢ code) → kind_of code ≡ None
no_kind code none = by (kind_of code) refl
  where
    by : (o : Option Kind) → kind_of code ≡ o → o ≡ None
    by None e = refl
    by (Some k) e = absurd (none k (kind_found code k e))

-- ---- the laws

pub length_first : LengthIsFirst
unfolding frame_of Says
length_first bytes = (says bytes BadLength, λ h. rw h refl)

pub version_second : VersionIsSecond
unfolding frame_of Says
version_second bytes = (
  λ e. let s = says bytes BadVersion e in (s.0, differs (get_or bytes 4 0) frame_version s.1),
  λ h. rw (h.0, not_equal (get_or bytes 4 0) frame_version h.1) refl,
)

pub kind_third : KindIsThird
unfolding frame_of Says
kind_third bytes = (
  λ e.
      let s = says bytes BadKind e in
      (record { sized = s.0; version = eqb-true (get_or bytes 4 0) frame_version s.1 }, λ k is. none_is k (sym s.2 ∙ kind_with (get_or bytes 5 0) k is)),
  λ h. rw (h.0.sized, eq-eqb (get_or bytes 4 0) frame_version h.0.version, no_kind (get_or bytes 5 0) h.1) refl,
)

pub client_fourth : ClientIsFourth
unfolding frame_of Says
client_fourth bytes = (
  λ e.
      let s = says bytes BadClient e in
      (record { sized = s.1.sized; version = eqb-true (get_or bytes 4 0) frame_version s.1.version }, (s.0, kind_found (get_or bytes 5 0) s.0 s.1.code, s.2)),
  λ h. rw (h.0.sized, eq-eqb (get_or bytes 4 0) frame_version h.0.version, kind_with (get_or bytes 5 0) h.1.0 h.1.1, h.1.2) refl,
)

pub fields_behind : FieldsAreBehindTheClient
unfolding Says
fields_behind bytes place fits e =
    let s = says bytes (BadField place) e in
    let long = sized bytes s.1.sized in
    let f = message_fault s.0 (get_or bytes 6 0) bytes 7 place fits (omega (arith, long.low)) s.2 in
    (f.begins, f.within)

pub message_before : MessagesStandBeforeWhatIsLeft
unfolding Says
message_before bytes place fits e =
    let s = says bytes (Trailing place) e in
    let long = sized bytes s.1.sized in
    let m = s.3.0 in
    let r = message_found s.0 (get_or bytes 6 0) s.2 bytes 7 m place fits (omega (arith, long.low)) s.3.1 in
    let version : get_or bytes 4 0 ≡ frame_version = eqb-true (get_or bytes 4 0) frame_version s.1.version in
    let code : get_or bytes 5 0 ≡ code_of (kind m) = sym (kind_found (get_or bytes 5 0) s.0 s.1.code) ∙ ap code_of (sym r.kind_is) in
    let after : get_or bytes 4 0 ∷ get_or bytes 5 0 ∷ get_or bytes 6 0 ∷ drop 7 bytes ≡ payload m ++ drop place bytes = rw (version, code, ← r.client_is, r.stands.here) refl in
    let whole : bytes ≡ (take 4 bytes ++ payload m) ++ drop place bytes =
    header bytes long.low ∙ ap (λ (x : List ℕ). take 4 bytes ++ x) after ∙ sym (append_assoc (take 4 bytes) (payload m) (drop place bytes)) in
    let four : length (take 4 bytes) ≡ 4 = omega (arith, length-take 4 bytes, long.low) in
    let len : length (take 4 bytes ++ payload m) ≡ place = omega (arith, length-append (take 4 bytes) (payload m), four, r.stands.next_is) in
    let front : take place bytes ≡ take 4 bytes ++ payload m = ap (take place) whole ∙ take_at (take 4 bytes ++ payload m) (drop place bytes) place len in
    let behind : drop 4 (take place bytes) ≡ payload m = ap (drop 4) front ∙ drop_at (take 4 bytes) (payload m) 4 four in
    let mine : drop 4 (frame m) ≡ payload m = drop_at (digits w32 (length (payload m))) (payload m) 4 (four_bytes (length (payload m))) in
    let past : place ≢ length bytes = differs place (length bytes) s.4 in (
      omega (arith, r.stands.within, past),
      (
        m,
        record {
          client_fits = rw (r.kind_is, r.client_is) s.2;
          number_fits = rw r.kind_is r.number_fits;
          number_small = r.number_small;
          body_fits = r.body_fits;
        },
        mine ∙ sym behind,
      ),
    )
