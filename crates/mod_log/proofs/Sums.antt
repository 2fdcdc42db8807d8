-- Sums over one element more, and how long the spellings of entries are.
use Rattle.std.proofs.Common.{◌≡◌, ℕ, ◌+◌, ◌<◌, ◌≤◌, List, [], ◌∷◌, ◌++◌, length, Option, take, drop, get_or, sym, ap, ◌∙◌, arith, length-append}
use Rattle.std.specs.List.{sum_by, flat_map}
use Rattle.std.proofs.lemmas.List.{take_more, take-append-drop}
use Rattle.std.proofs.lemmas.List.Sums.{sum_by-append}
use Rattle.std.proofs.lemmas.List.Concat.{length-flat_map, flat_map-cons}
use Rattle.std.proofs.lemmas.Grind.{flat_map-append}
use Rattle.tree_values.specs.declared.node.Effect.{Effect}
use Rattle.tree_values.specs.declared.node.Base.{Base}
use Rattle.tree_values.specs.Spelling.{effect, effects, base, bases}
use Rattle.byte_fields.proofs.Facts.{four_bytes}
use Rattle.std.specs.Int.{w32}
use Rattle.byte_fields.specs.Field.{digits}
use Rattle.mod_log.specs.declared.origin.Origin.{Origin}
use Rattle.mod_log.specs.Origin.{made_by}
use Rattle.mod_log.specs.declared.log.Entry.{Entry}
use Rattle.mod_log.specs.Log.{entry}

pub sum_by-next : {X : Type 0} (f : X → ℕ) (xs : List X) (i : ℕ) (x : X) → i < length xs → x ≡ get_or xs i x → sum_by f (take (i + 1) xs) ≡ sum_by f (take i xs) + f x
sum_by-next f xs i x within is =
    let one : sum_by f (x ∷ []) ≡ f x = omega arith in
    ap (sum_by f) (take_more xs i x within ∙ ap (λ y. take i xs ++ y ∷ []) (sym is)) ∙ sum_by-append f (take i xs) (x ∷ []) ∙ ap (λ n. sum_by f (take i xs) + n) one

-- the two lists of an entry, behind what made it and their counts
pub entry_length : (o : Option Origin) (es : List Effect) (bs : List Base)
    → length (made_by o ++ (effects es ++ bases bs)) ≡ 8 + length (made_by o) + sum_by (λ e. length (effect e)) es + sum_by (λ b. length (base b)) bs
entry_length o es bs = omega (
  arith,
  length-append (made_by o) (effects es ++ bases bs),
  length-append (effects es) (bases bs),
  length-append (digits w32 (length es)) (flat_map effect es),
  length-append (digits w32 (length bs)) (flat_map base bs),
  four_bytes (length es),
  four_bytes (length bs),
  length-flat_map effect es,
  length-flat_map base bs,
)

-- the spelled entries with one more
pub size_behind : (entries : List Entry) (next : Entry) → length (flat_map entry (entries ++ next ∷ [])) ≡ length (flat_map entry entries) + length (entry next)
size_behind entries next =
    omega (arith, ap length (flat_map-append entry entries (next ∷ [])), length-append (flat_map entry entries) (flat_map entry (next ∷ [])), ap length (flat_map-cons entry next []), length-append (entry next) [])

pub size_front : (first : Entry) (later : List Entry) → length (flat_map entry (first ∷ later)) ≡ length (entry first) + length (flat_map entry later)
size_front first later = omega (arith, ap length (flat_map-cons entry first later), length-append (entry first) (flat_map entry later))

pub size_dropped : (entries : List Entry) (count : ℕ) → length (flat_map entry (drop count entries)) ≤ length (flat_map entry entries)
size_dropped entries count =
    omega (arith, ap (λ es. length (flat_map entry es)) (take-append-drop count entries), ap length (flat_map-append entry (take count entries) (drop count entries)), length-append (flat_map entry (take count entries)) (flat_map entry (drop count entries)))
