-- Slim rows and certificates: what is read is spelled so, and what is spelled so is read.
use Rattle.std.proofs.Common.{◌≡◌, ℕ, ◌-◌, ◌^◌, ◌<◌, ◌≤◌, true, false, not, List, [], ◌∷◌, length, Result, Ok, Err, refl, sym, ap, subst, ◌∙◌, lit<, arith}
use Rattle.std.specs.Prelude.{nat_le, nat_lt}
use Rattle.std.specs.Int.{w32, w64}
use Rattle.std.specs.List.{flat_map, AllByRecursion}
use Rattle.byte_fields.specs.Field.{Reader, digits, number_at, span_at, ruled, each_at, EachFits}
use Rattle.byte_fields.proofs.Loop.{SoFar, with_front}
use Rattle.byte_fields.specs.Codec.{Stands, IsCodec}
use Rattle.byte_fields.proofs.Codec.{IsBranch, u32_codec, u64_codec, ruled_codec, span_codec, found2, fault2, again2, found3, fault3, again3, each_codec, tagged_found, tagged_fault, tagged_again0, tagged_again2, branch0, branch2, codec_for}
use Rattle.byte_fields.proofs.Facts.{le_of, le_holds, lt_of, lt_holds, not_of}
use Rattle.file_paths.specs.Path.{FilePath, IsPath}
use Rattle.file_paths.specs.Reading.{path_at}
use Rattle.file_paths.specs.Spelling.{path}
use Rattle.file_paths.proofs.Parts.{path_codec}
use Rattle.file_paths.specs.Limits.{max_file}
use Rattle.tree_values.specs.Limits.{max_rows}
use Rattle.tree_values.specs.Tree.{is_root}
use Rattle.tree_proof.specs.declared.slim.SlimNode.{SlimNode}
use Rattle.tree_proof.specs.declared.slim.SlimNode.TheVariants as slims
use Rattle.tree_proof.specs.declared.slim.SlimRow.{SlimRow}
use Rattle.tree_proof.specs.declared.certificate.Presence.{Presence}
use Rattle.tree_proof.specs.declared.certificate.Presence.TheVariants.{Present, Absent}
use Rattle.tree_proof.specs.declared.certificate.CertificateHead.{CertificateHead}
use Rattle.tree_proof.specs.declared.certificate.Leaf.{Leaf}
use Rattle.tree_proof.specs.declared.certificate.Places.{Places}
use Rattle.tree_proof.specs.Limits.{most_levels}
use Rattle.tree_proof.specs.Slim.{node_spelling, slim_spelling, slim_file_at, slim_kinds, slim_node_at, slim_at}
use Rattle.tree_proof.specs.Tops.{Digest, way_within}
use Rattle.tree_proof.specs.Certificate.{Certificate, leaf_count, first_place, place_limit, kind_byte, head_spelling, digests_spelling, leaf_spelling, certificate_spelling, presences, kind_at, head_at, digests_at, leaf_at, next_place, leaves_at, certificate_at}
use Rattle.tree_proof.proofs.Climbing.{IsDigest}

-- ---- slim rows

-- a file of at most 8 MiB, with a print of 32 bytes
abbrev pub NodeFits : SlimNode → Type 0
NodeFits slims.None = Unit {0}
NodeFits slims.Folder = Unit {0}
NodeFits (slims.File exec len print) = (len ≤ max_file) × (length print ≡ 32)

-- a path that is not the root, touched at least once
pub record SlimFits (row : SlimRow) : Type 0 where
  pub is_path : IsPath row.path
  pub below_root : is_root row.path ≡ false
  pub touched : 1 ≤ row.version
  pub version_fits : row.version < 2 ^ 64
  pub node : NodeFits row.node

len_codec : IsCodec (ruled (λ len. nat_le len max_file) (number_at w32)) (digits w32) (λ len. (len < 2 ^ 32) × (nat_le len max_file ≡ true))
len_codec = ruled_codec (λ len. nat_le len max_file) u32_codec

len_fits : (len : ℕ) → len ≤ max_file → (len < 2 ^ 32) × (nat_le len max_file ≡ true)
len_fits len le = (omega (arith, le), le_holds len max_file le)

node_again : (bytes : List ℕ) (at : ℕ) (x : SlimNode) (next : ℕ) → Stands bytes at (node_spelling x) next → NodeFits x → slim_node_at bytes at ≡ Ok (x, next)
unfolding slim_node_at slim_file_at
node_again bytes at slims.None next stands fits = tagged_again0 slim_kinds 0 (lit< tt) slims.None bytes at next refl stands
node_again bytes at slims.Folder next stands fits = tagged_again0 slim_kinds 1 (lit< tt) slims.Folder bytes at next refl stands
node_again bytes at (slims.File false len print) next stands fits =
    tagged_again2 slim_kinds 2 (lit< tt) len_codec (λ _ _. span_codec 32) (λ l p. slims.File false l p) bytes at len print next refl stands (len_fits len fits.0) fits.1
node_again bytes at (slims.File true len print) next stands fits =
    tagged_again2 slim_kinds 3 (lit< tt) len_codec (λ _ _. span_codec 32) (λ l p. slims.File true l p) bytes at len print next refl stands (len_fits len fits.0) fits.1

node_branches : AllByRecursion (λ (k : ℕ × Reader SlimNode). IsBranch node_spelling NodeFits k.0 k.1) slim_kinds
unfolding slim_file_at
node_branches = (
  branch0 (lit< tt) slims.None refl tt,
  (
    branch0 (lit< tt) slims.Folder refl tt,
    (
      branch2 (lit< tt) len_codec (λ _ _. span_codec 32) (λ l p. slims.File false l p) (λ l p. refl) (λ l p fits fits'. (le_of l max_file fits.1, fits')),
      (
        branch2 (lit< tt) len_codec (λ _ _. span_codec 32) (λ l p. slims.File true l p) (λ l p. refl) (λ l p fits fits'. (le_of l max_file fits.1, fits')),
        tt,
      ),
    ),
  ),
)

node_codec : IsCodec slim_node_at node_spelling NodeFits
unfolding slim_node_at
node_codec = record {
  found = tagged_found node_spelling NodeFits slim_kinds node_branches;
  fault = tagged_fault node_spelling NodeFits slim_kinds node_branches;
  again = node_again;
}

path_part : IsCodec (ruled (λ p. not (is_root p)) path_at) path (λ p. IsPath p × (not (is_root p) ≡ true))
path_part = ruled_codec (λ p. not (is_root p)) path_codec

version_part : IsCodec (ruled (nat_le 1) (number_at w64)) (digits w64) (λ v. (v < 2 ^ 64) × (nat_le 1 v ≡ true))
version_part = ruled_codec (nat_le 1) u64_codec

abbrev row_of_parts : FilePath → ℕ → SlimNode → SlimRow
row_of_parts p v n = record { path = p; version = v; node = n }

root_fails : (p : FilePath) → is_root p ≡ false → not (is_root p) ≡ true
root_fails p e = ap not e

pub slim_codec : IsCodec slim_at slim_spelling SlimFits
unfolding slim_at
slim_codec = record {
  fault = λ bytes at place fits le e. fault3 path_part (λ _ _. version_part) (λ _ _ _ _. node_codec) row_of_parts bytes at place fits le e;
  found = λ bytes at x next fits le e.
      let r = found3 path_part (λ _ _. version_part) (λ _ _ _ _. node_codec) row_of_parts bytes at x next fits le e in
      subst (λ (y : SlimRow). Stands bytes at (slim_spelling y) next × SlimFits y) r.is
      (r.stands, record { is_path = r.first_fits.0; below_root = not_of (is_root r.first) r.first_fits.1; touched = le_of 1 r.second r.second_fits.1; version_fits = r.second_fits.0; node = r.third_fits });
  again = λ bytes at x next stands fits.
      again3 path_part (λ _ _. version_part) (λ _ _ _ _. node_codec) row_of_parts bytes at x.path x.version x.node next stands
      (fits.is_path, root_fails x.path fits.below_root) (fits.version_fits, le_holds 1 x.version fits.touched) fits.node;
}

-- ---- digests

pub digests_codec : (count : ℕ) → IsCodec (digests_at count) digests_spelling (λ digests. (length digests ≡ count) × AllByRecursion IsDigest digests)
unfolding digests_at
digests_codec count =
    codec_for (each_codec (λ (state : Unit {0}). span_at 32) (λ state digest. state) (λ digest. digest) (λ state. IsDigest) (λ state. span_codec 32) count tt)
    (λ digests fits. (fits.0, to digests fits.1)) (λ digests fits. (fits.0, back digests fits.1))
  where
    to : (digests : List Digest) → EachFits (λ (state : Unit {0}). IsDigest) (λ state digest. state) tt digests → AllByRecursion IsDigest digests
    to [] fits = tt
    to (digest ∷ digests) fits = (fits.0, to digests fits.1)

    back : (digests : List Digest) → AllByRecursion IsDigest digests → EachFits (λ (state : Unit {0}). IsDigest) (λ state digest. state) tt digests
    back [] fits = tt
    back (digest ∷ digests) fits = (fits.0, back digests fits.1)

-- ---- the rows that are shown

-- a row is shown with all digests beside its way
pub record LeafFits (places : Places) (leaf : Leaf) : Type 0 where
  pub place : leaf.place ≡ places.next
  pub row : SlimFits leaf.row
  pub way : length leaf.beside ≡ way_within most_levels places.count places.next
  pub beside : AllByRecursion IsDigest leaf.beside

abbrev beside_part : (places : Places) → SlimRow → IsCodec (digests_at (way_within most_levels places.count places.next)) digests_spelling (λ digests. (length digests ≡ way_within most_levels places.count places.next) × AllByRecursion IsDigest digests)
beside_part places row = digests_codec (way_within most_levels places.count places.next)

abbrev leaf_of_parts : Places → SlimRow → List Digest → Leaf
leaf_of_parts places row beside = record { place = places.next; row = row; beside = beside }

pub leaf_codec : (places : Places) → IsCodec (leaf_at places) leaf_spelling (LeafFits places)
unfolding leaf_at
leaf_codec places = record {
  fault = λ bytes at place fits le e. fault2 slim_codec (λ row _. beside_part places row) (leaf_of_parts places) bytes at place fits le e;
  found = λ bytes at x next fits le e.
      let r = found2 slim_codec (λ row _. beside_part places row) (leaf_of_parts places) bytes at x next fits le e in
      subst (λ (y : Leaf). Stands bytes at (leaf_spelling y) next × LeafFits places y) r.is
      (r.stands, record { place = refl; row = r.first_fits; way = r.second_fits.0; beside = r.second_fits.1 });
  again = λ bytes at x next stands fits.
      let e = again2 slim_codec (λ row _. beside_part places row) (leaf_of_parts places) bytes at x.row x.beside next stands fits.row (fits.way, fits.beside) in
      e ∙ ap (λ (place : ℕ). Ok (record { place = place; row = x.row; beside = x.beside }, next)) (sym fits.place);
}

-- ---- certificates

pub record HeadFits (head : CertificateHead) : Type 0 where
  pub few : head.count ≤ max_rows
  pub place : head.index < place_limit head.kind head.count

kind_again : (bytes : List ℕ) (at : ℕ) (x : Presence) (next : ℕ) → Stands bytes at (kind_byte x ∷ []) next → Unit {0} → kind_at bytes at ≡ Ok (x, next)
unfolding kind_at
kind_again bytes at Present next stands fits = tagged_again0 presences 1 (lit< tt) Present bytes at next refl stands
kind_again bytes at Absent next stands fits = tagged_again0 presences 2 (lit< tt) Absent bytes at next refl stands

kind_codec : IsCodec kind_at (λ kind. kind_byte kind ∷ []) (λ kind. Unit {0})
unfolding kind_at
kind_codec = record {
  found = tagged_found (λ kind. kind_byte kind ∷ []) (λ kind. Unit {0}) presences (branch0 (lit< tt) Present refl tt, (branch0 (lit< tt) Absent refl tt, tt));
  fault = tagged_fault (λ kind. kind_byte kind ∷ []) (λ kind. Unit {0}) presences (branch0 (lit< tt) Present refl tt, (branch0 (lit< tt) Absent refl tt, tt));
  again = kind_again;
}

count_part : IsCodec (ruled (λ n. nat_le n max_rows) (number_at w32)) (digits w32) (λ n. (n < 2 ^ 32) × (nat_le n max_rows ≡ true))
count_part = ruled_codec (λ n. nat_le n max_rows) u32_codec

index_part : (count : ℕ) (kind : Presence) → IsCodec (ruled (λ n. nat_lt n (place_limit kind count)) (number_at w32)) (digits w32) (λ n. (n < 2 ^ 32) × (nat_lt n (place_limit kind count) ≡ true))
index_part count kind = ruled_codec (λ n. nat_lt n (place_limit kind count)) u32_codec

abbrev head_of_parts : ℕ → Presence → ℕ → CertificateHead
head_of_parts count kind index = record { count = count; kind = kind; index = index }

limit_is : (kind : Presence) (count : ℕ) → count ≤ max_rows → place_limit kind count < 2 ^ 32
limit_is Present count le = omega (arith, le)
limit_is Absent count le = omega (arith, le)

pub head_codec : IsCodec head_at head_spelling HeadFits
unfolding head_at
head_codec = record {
  fault = λ bytes at place fits le e. fault3 count_part (λ _ _. kind_codec) (λ count kind _ _. index_part count kind) head_of_parts bytes at place fits le e;
  found = λ bytes at x next fits le e.
      let r = found3 count_part (λ _ _. kind_codec) (λ count kind _ _. index_part count kind) head_of_parts bytes at x next fits le e in
      subst (λ (y : CertificateHead). Stands bytes at (head_spelling y) next × HeadFits y) r.is
      (r.stands, record { few = le_of r.first max_rows r.first_fits.1; place = lt_of r.third (place_limit r.second r.first) r.third_fits.1 });
  again = λ bytes at x next stands fits.
      again3 count_part (λ _ _. kind_codec) (λ count kind _ _. index_part count kind) head_of_parts bytes at x.count x.kind x.index next stands
      (omega (arith, fits.few), le_holds x.count max_rows fits.few) tt (omega (arith, fits.place, limit_is x.kind x.count fits.few), lt_holds x.index (place_limit x.kind x.count) fits.place);
}

-- where the first row stands that is shown
abbrev pub begin_of : CertificateHead → Places
begin_of head = record { count = head.count; next = first_place head.kind head.index }

pub record CertificateFits (certificate : Certificate) : Type 0 where
  pub head : HeadFits certificate.head
  pub count : length certificate.leaves ≡ leaf_count certificate.head
  pub each : EachFits LeafFits next_place (begin_of certificate.head) certificate.leaves

leaves_part : (head : CertificateHead) → IsCodec (leaves_at head) (flat_map leaf_spelling) (λ leaves. (length leaves ≡ leaf_count head) × EachFits LeafFits next_place (begin_of head) leaves)
unfolding leaves_at
leaves_part head = each_codec leaf_at next_place leaf_spelling LeafFits leaf_codec (leaf_count head) (begin_of head)

abbrev whole_of : CertificateHead → List Leaf → Certificate
whole_of head leaves = record { head = head; leaves = leaves }

pub certificate_codec : IsCodec certificate_at certificate_spelling CertificateFits
unfolding certificate_at
certificate_codec = record {
  fault = λ bytes at place fits le e. fault2 head_codec (λ head _. leaves_part head) whole_of bytes at place fits le e;
  found = λ bytes at x next fits le e.
      let r = found2 head_codec (λ head _. leaves_part head) whole_of bytes at x next fits le e in
      subst (λ (y : Certificate). Stands bytes at (certificate_spelling y) next × CertificateFits y) r.is
      (r.stands, record { head = r.first_fits; count = r.second_fits.0; each = r.second_fits.1 });
  again = λ bytes at x next stands fits.
      again2 head_codec (λ head _. leaves_part head) whole_of bytes at x.head x.leaves next stands fits.head (fits.count, fits.each);
}

-- before a loop over digests nothing stands in front
from_start : {A : Type 0} (read : Result (List A × ℕ) ℕ) → with_front [] read ≡ read
from_start (Ok x) = refl
from_start (Err place) = refl

pub digests_start : (bytes : List ℕ) (count start : ℕ) (digests : List Digest) → digests ≡ []
    → SoFar (λ (state : Unit {0}). span_at 32) (λ state digest. state) bytes (digests_at count bytes start) digests (count - 0) tt start
unfolding digests_at
digests_start bytes count start digests none =
    let left : count - 0 ≡ count = omega arith in
    (λ i. with_front (none i) (each_at (λ (state : Unit {0}). span_at 32) (λ state digest. state) (left i) tt bytes start)) ∙ from_start (digests_at count bytes start)
