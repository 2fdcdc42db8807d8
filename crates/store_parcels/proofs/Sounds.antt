-- What opens is what the parcel names.
use Rattle.std.proofs.Common.{◌≡◌, ℕ, Bool, true, false, List, drop, get_or, Result, Ok, Err, refl, sym, ap, subst, ◌∙◌}
use Rattle.std.specs.Prelude.{Option, Some, None, ◌&&◌, ◌==◌, if◌then◌else◌}
use Rattle.std.specs.Option.{option_and_then}
use Rattle.std.specs.Result.{result_ok}
use Rattle.std.specs.Str.{bytes_eq}
use Rattle.std.proofs.lemmas.Slice.Eq.{bytes_eq-Decides}
use Rattle.sha2.specs.Sha256.{sha256}
use Rattle.byte_fields.specs.Field.{◌>>=◌, span_at}
use Rattle.byte_fields.proofs.Facts.{and_of, eq_of}
use Rattle.byte_fields.proofs.Codec.{bind_ok, ok_is}
use Rattle.tree_values.specs.Tree.{Volume}
use Rattle.wire_frames.specs.declared.message.Kind.{Kind}
use Rattle.wire_frames.specs.declared.message.Kind.TheVariants.{Store, Operate, Pull, Accepted, Stale, Unfit, Gap, Snapshot, Done, Declined, Full, Malformed}
use Rattle.wire_frames.specs.declared.message.FrameError.TheVariants.{BadKind}
use Rattle.wire_frames.specs.declared.head.Head.{Head}
use Rattle.wire_frames.specs.Frame.{frame, frame_version}
use Rattle.wire_frames.specs.Head.{head_at}
use Rattle.wire_frames.specs.Reading.{frame_of, is_sized}
use Rattle.wire_frames.proofs.Frames.{frame_again}
use Rattle.store_parcels.specs.declared.front.NamedStore.{NamedStore}
use Rattle.store_parcels.specs.declared.front.Front.{Front}
use Rattle.store_parcels.specs.Front.{parcel_kind, is_parcel, named_store, sources_at, front_at, front_of}
use Rattle.store_parcels.specs.Opening.{known_in, made_of, is_store_kind, is_head_of, is_frame_of, if_named, opened_behind, opened}
use Rattle.store_parcels.specs.Laws.{head_named, StoresAreNamed, PrintsAreOne, ParcelsHaveNoKind, FramesStay}

-- ---- options

and_then_some : {A B : Type 0} (o : Option A) (f : A → Option B) (y : B) → option_and_then f o ≡ Some y → (x : A) × (o ≡ Some x) × (f x ≡ Some y)
and_then_some None f y e = absurd cc
and_then_some (Some x) f y e = (x, refl, e)

some_is : {A : Type 0} (x y : A) → Some x ≡ Some y → x ≡ y
some_is x y e = cc

result_some : {A E : Type 0} (r : Result A E) (x : A) → result_ok r ≡ Some x → r ≡ Ok x
result_some (Ok y) x e = let same : y ≡ x = cc in ap Ok same
result_some (Err y) x e = absurd cc

if_some : {A : Type 0} (test : Bool) (x y : A) → (if test then Some x else None) ≡ Some y → (test ≡ true) × (x ≡ y)
if_some true x y e = (refl, cc)
if_some false x y e = absurd cc

-- ---- heads

kind_is_store : (k : Kind) → is_store_kind k ≡ true → k ≡ Store
kind_is_store Store e = refl
kind_is_store Operate e = absurd cc
kind_is_store Pull e = absurd cc
kind_is_store Accepted e = absurd cc
kind_is_store Stale e = absurd cc
kind_is_store Unfit e = absurd cc
kind_is_store Gap e = absurd cc
kind_is_store Snapshot e = absurd cc
kind_is_store Done e = absurd cc
kind_is_store Declined e = absurd cc
kind_is_store Full e = absurd cc
kind_is_store Malformed e = absurd cc

same_head : (head : Head) (named : NamedStore) → head.kind ≡ Store → head.client ≡ named.client → head.number ≡ named.number → head.entries ≡ named.entries
    → head ≡ head_named named
same_head head named k c n e = rw (← k, ← c, ← n, ← e) refl

head_is : (named : NamedStore) (head : Option Head) → is_head_of named head ≡ true → head ≡ Some (head_named named)
head_is named None e = absurd cc
head_is named (Some head) e =
    let a = and_of (is_store_kind head.kind) (head.client == named.client && (head.number == named.number && head.entries == named.entries)) e in
    let b = and_of (head.client == named.client) (head.number == named.number && head.entries == named.entries) a.1 in
    let c = and_of (head.number == named.number) (head.entries == named.entries) b.1 in
    ap Some (same_head head named (kind_is_store head.kind a.0) (eq_of _ _ b.0) (eq_of _ _ c.0) (eq_of _ _ c.1))

-- ---- fronts

-- a front is that of the store with which it is read
front_store : (store : NamedStore) (bytes : List ℕ) (at : ℕ) (front : Front) (next : ℕ) → front_at store bytes at ≡ Ok (front, next) → front.store ≡ store
unfolding front_at
front_store store bytes at front next e =
    let b = bind_ok (span_at 32 bytes at) (λ x. sources_at bytes x.1 >>= λ y. Ok (record { store = store; print = x.0; sources = y.0 }, y.1)) (front, next) e in
    let c = bind_ok (sources_at bytes b.0.1) (λ y. Ok (record { store = store; print = b.0.0; sources = y.0 }, y.1)) (front, next) b.2 in
    let pair = ok_is (record { store = store; print = b.0.0; sources = c.0.0 }, c.0.1) (front, next) c.2 in
    sym (ap (λ (x : Front × ℕ). x.0.store) pair)

-- what is known of bytes that open
pub record Opens (bytes opens : List ℕ) : Type 0 where
  pub front : Front
  pub next : ℕ
  pub read : front_of bytes ≡ Some (front, next)
  pub named : named_store bytes ≡ Some front.store
  pub is : is_frame_of front opens ≡ true

opens_by : (volume : Volume) (bytes opens : List ℕ) → opened volume bytes ≡ Some opens → Opens bytes opens
opens_by volume bytes opens e =
    let a = and_then_some (front_of bytes) (λ x. opened_behind volume x.0 (drop x.1 bytes)) opens e in
    let f : Front = a.0.0 in
    let b = and_then_some (known_in volume f.sources) (λ known. option_and_then (if_named f) (made_of known (drop a.0.1 bytes))) opens a.2 in
    let c = and_then_some (made_of b.0 (drop a.0.1 bytes)) (if_named f) opens b.2 in
    let d = if_some (is_frame_of f c.0) c.0 opens c.2 in
    let n = and_then_some (named_store bytes) (λ store. result_ok (front_at store bytes 16)) (f, a.0.1) a.1 in
    let store : f.store ≡ n.0 = front_store n.0 bytes 16 f a.0.1 (result_some _ _ n.2) in
    record {
      front = f;
      next = a.0.1;
      read = a.1;
      named = n.1 ∙ ap Some (sym store);
      is = subst (λ (x : List ℕ). is_frame_of f x ≡ true) d.1 d.0;
    }

-- ---- laws

print_is : (f : Front) (opens : List ℕ) → is_frame_of f opens ≡ true → sha256 opens ≡ f.print
print_is f opens is =
    (bytes_eq-Decides (sha256 opens) f.print).0 (and_of (bytes_eq (sha256 opens) f.print) (is_head_of f.store (head_at opens)) is).0

pub stores_are_named : StoresAreNamed
stores_are_named volume bytes opens e =
    let o = opens_by volume bytes opens e in
    (o.front.store, o.named, head_is o.front.store (head_at opens) (and_of (bytes_eq (sha256 opens) o.front.print) (is_head_of o.front.store (head_at opens)) o.is).1)

pub prints_are_one : PrintsAreOne
prints_are_one volume other bytes opens others e e' =
    let o = opens_by volume bytes opens e in
    let p = opens_by other bytes others e' in
    let same : Some (o.front, o.next) ≡ Some (p.front, p.next) = sym o.read ∙ p.read in
    let print : o.front.print ≡ p.front.print = ap (λ (x : Front × ℕ). x.0.print) (some_is (o.front, o.next) (p.front, p.next) same) in
    print_is o.front opens o.is ∙ print ∙ sym (print_is p.front others p.is)

pub parcels_have_no_kind : ParcelsHaveNoKind
unfolding frame_of
parcels_have_no_kind bytes is =
    let a = and_of (is_sized bytes) (get_or bytes 4 0 == frame_version && get_or bytes 5 0 == parcel_kind) is in
    let b = and_of (get_or bytes 4 0 == frame_version) (get_or bytes 5 0 == parcel_kind) a.1 in
    let kind : get_or bytes 5 0 ≡ parcel_kind = eq_of _ _ b.1 in
    rw (a.0, b.0, kind) refl

not_refused : {A E : Type 0} (r : Result A E) (x : A) (e : E) → r ≡ Ok x → r ≡ Err e → ⊥
not_refused r x e p q = absurd cc

closed : (volume : Volume) (bytes : List ℕ) → is_parcel bytes ≡ false → opened volume bytes ≡ None
closed volume bytes is = rw is refl

pub frames_stay : FramesStay
frames_stay volume message valid = by (is_parcel (frame message)) refl
  where
    by : (test : Bool) → is_parcel (frame message) ≡ test → opened volume (frame message) ≡ None
    by true is = absurd (not_refused (frame_of (frame message)) message BadKind (frame_again message valid) (parcels_have_no_kind (frame message) is))
    by false is = closed volume (frame message) is
