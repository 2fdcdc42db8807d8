-- Certificates: what is said of one path of a tree, as a value, and how it is spelled and read.
use Rattle.std.specs.Prelude.{◌==◌, ℕ, ◌+◌, ◌-◌, min, nat_le, nat_lt, List, [], ◌∷◌, ◌++◌, length, Result, Ok, Err, if◌then◌else◌}
use Rattle.std.specs.Int.{w32}
use Rattle.std.specs.List.{flat_map}
use Rattle.byte_fields.specs.Field.{Reader, ◌>>=◌, digits, number_at, span_at, ruled, none, two, three, tagged_at, each_at}
use Rattle.tree_values.specs.Limits.{max_rows}
use Rattle.tree_proof.specs.declared.certificate.Presence.{Presence}
use Rattle.tree_proof.specs.declared.certificate.Presence.TheVariants.{Present, Absent}
use Rattle.tree_proof.specs.declared.certificate.CertificateHead.{CertificateHead}
use Rattle.tree_proof.specs.declared.certificate.Leaf.{Leaf}
use Rattle.tree_proof.specs.declared.certificate.Places.{Places}
use Rattle.tree_proof.specs.Limits.{most_levels}
use Rattle.tree_proof.specs.Slim.{slim_spelling, slim_at}
use Rattle.tree_proof.specs.Tops.{Digest, way_within}

-- how many rows the tree has, whether the path has one, and at which place it stands or would stand; and the rows that show it
pub record Certificate : Type 0 where
  pub head : CertificateHead
  pub leaves : List Leaf

-- ---- which rows

-- the first row that is shown: the path's own, or the one before its place
abbrev pub first_place : Presence → ℕ → ℕ
first_place Present index = index
first_place Absent index = index - 1

-- the place behind the last row that is shown: behind the path's own, or behind the one that would follow it
abbrev pub place_behind : Presence → ℕ → ℕ → ℕ
place_behind Present count index = index + 1
place_behind Absent count index = min (index + 1) count

-- how many rows are shown
abbrev pub leaf_count : CertificateHead → ℕ
leaf_count head = place_behind head.kind head.count head.index - first_place head.kind head.index

-- ---- spelling

abbrev pub kind_byte : Presence → ℕ
kind_byte Present = 1
kind_byte Absent = 2

abbrev pub head_spelling : CertificateHead → List ℕ
head_spelling head = digits w32 head.count ++ (kind_byte head.kind ∷ [] ++ digits w32 head.index)

-- digests one after the other
abbrev pub digests_spelling : List Digest → List ℕ
digests_spelling digests = flat_map (λ digest. digest) digests

-- a row, and the digests beside its way
abbrev pub leaf_spelling : Leaf → List ℕ
leaf_spelling leaf = slim_spelling leaf.row ++ digests_spelling leaf.beside

abbrev pub certificate_spelling : Certificate → List ℕ
certificate_spelling certificate = head_spelling certificate.head ++ flat_map leaf_spelling certificate.leaves

-- ---- reading

-- 1 where the path has a row, 2 where it has none
abbrev pub presences : List (ℕ × Reader Presence)
presences = (1, none Present) ∷ (2, none Absent) ∷ []

unfoldable pub kind_at : Reader Presence
kind_at = tagged_at presences

-- the greatest place of a row, or of a path without one
abbrev pub place_limit : Presence → ℕ → ℕ
place_limit Present count = count
place_limit Absent count = count + 1

-- at most 16,384 rows, a kind, and a place among so many rows
unfoldable pub head_at : Reader CertificateHead
head_at =
    three (ruled (λ n. nat_le n max_rows) (number_at w32)) (λ count. kind_at)
    (λ count kind. ruled (λ n. nat_lt n (place_limit kind count)) (number_at w32))
    (λ count kind index. record { count = count; kind = kind; index = index })

-- so many digests, each a field of 32 bytes
unfoldable pub digests_at : ℕ → Reader (List Digest)
digests_at count = each_at (λ (state : Unit {0}). span_at 32) (λ state digest. state) count tt

-- a row at its place among so many, and the digests beside its way
unfoldable pub leaf_at : Places → Reader Leaf
leaf_at places =
    two slim_at (λ row. digests_at (way_within most_levels places.count places.next))
    (λ row beside. record { place = places.next; row = row; beside = beside })

-- the place of the row behind one, or behind all rows
abbrev pub next_place : Places → Leaf → Places
next_place places leaf = record { count = places.count; next = min (places.next + 1) places.count }

-- the rows that are shown, in their order
unfoldable pub leaves_at : CertificateHead → Reader (List Leaf)
leaves_at head = each_at leaf_at next_place (leaf_count head) (record { count = head.count; next = first_place head.kind head.index })

unfoldable pub certificate_at : Reader Certificate
certificate_at = two head_at leaves_at (λ head leaves. record { head = head; leaves = leaves })

-- the certificate that the whole bytes spell, or the place of the first faulty field or of the first byte that is left
unfoldable pub certificate_in : List ℕ → Result Certificate ℕ
certificate_in bytes = do
  x ← certificate_at bytes 0
  if x.1 == length bytes then Ok x.0 else Err x.1
