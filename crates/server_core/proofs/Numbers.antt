-- The numbers that a server counts: their view, and what raising one of them does to it.
use Rattle.std.proofs.Common.{◌≡◌, ℕ, zero, suc, ◌-◌, ◌^◌, ◌<◌, ◌≤◌, Bool, true, false, List, [], ◌∷◌, length, get_or, set, replicate, refl, sym, ap, ◌∙◌, subst, arith, eqb-true}
use Rattle.std.specs.Prelude.{◌==◌, nat_lt, if◌then◌else◌}
use Rattle.std.proofs.lemmas.Bool.{eqb-false, ltb-true}
use Rattle.byte_fields.proofs.Facts.{not_lt_of}
use Rattle.std.proofs.lemmas.List.{get_or-set_same, get_or-set_other, get_or-replicate, get_or_past, length-replicate}
use Rattle.tree_values.specs.Tree.{Volume, IsTree}
use Rattle.vol_tree.proofs.Behind.{IsTree-empty}
use Rattle.world_rules.specs.Served.{IsServed, new_served, with_last}
use Rattle.tree_values.specs.declared.node.Row.{Row}
use Rattle.vol_tree.specs.Undos.{undone_all}
use Rattle.server_core.specs.Inside.{store_undone}
use Rattle.server_core.specs.Holding.{Holding, last_number, served}

-- ---- raising a number

raised_at : (last : List ℕ) (client number other : ℕ) (b : Bool) → 1 ≤ client → client ≤ length last → (other == client) ≡ b
    → last_number (set last (client - 1) number) other ≡ (if b then number else last_number last other)
raised_at last client number zero true low high e = let same : 0 ≡ client = eqb-true 0 client e in absurd (omega arith)
raised_at last client number zero false low high e = refl
raised_at last client number (suc k) true low high e =
    let same : suc k ≡ client = eqb-true (suc k) client e in
    let at : client - 1 ≡ k = omega arith in
    rw at (get_or-set_same last k number 0 (omega arith))
raised_at last client number (suc k) false low high e =
    let other = eqb-false (suc k) client e in
    get_or-set_other last (client - 1) k number 0 (λ (same : k ≡ client - 1). other (omega arith))

-- raising one number in the list raises that client's number
pub last_number-set : (last : List ℕ) (client number : ℕ) → 1 ≤ client → client ≤ length last → last_number (set last (client - 1) number) ≡ with_last (last_number last) client number
last_number-set last client number low high = λ i. λ other. raised_at last client number other (other == client) low high refl i

pub served-raised : (rows : Volume) (last : List ℕ) (client number : ℕ) → 1 ≤ client → client ≤ length last
    → served (record { rows = rows; last = set last (client - 1) number }) ≡ record { volume = rows; last = with_last (last_number last) client number }
served-raised rows last client number low high = let same = last_number-set last client number low high in λ i. record { volume = rows; last = same i }

-- ---- putting a number back

put_back : (xs : List ℕ) (k n : ℕ) → k < length xs → set (set xs k n) k (get_or xs k 0) ≡ xs
put_back [] k n lt = absurd (omega (arith, lt))
put_back (x ∷ xs) zero n lt = refl
put_back (x ∷ xs) (suc k) n lt = ap (λ ys. x ∷ ys) (put_back xs k n (omega (arith, lt)))

number_back : (last : List ℕ) (client number : ℕ) → 1 ≤ client → client ≤ length last → set (set last (client - 1) number) (client - 1) (last_number last client) ≡ last
number_back last zero number low high = absurd (omega (arith, low))
number_back last (suc k) number low high =
    let at : suc k - 1 ≡ k = omega arith in
    ap (λ n. set (set last n number) n (get_or last k 0)) at ∙ put_back last k number (omega (arith, high))

-- taking an entry back gives what was held before
pub back_is : (old new : Holding) (client number : ℕ) (undos : List (List Row)) → 1 ≤ client → client ≤ length old.last → undone_all undos new.rows ≡ old.rows → new.last ≡ set old.last (client - 1) number
    → store_undone client (last_number old.last client) undos new ≡ old
back_is old new client number undos low high rows last =
    let lasts = ap (λ (l : List ℕ). set l (client - 1) (last_number old.last client)) last ∙ number_back old.last client number low high in
    λ i. record { rows = rows i; last = lasts i }

-- ---- a new server

abbrev zeros : ℕ → List ℕ
zeros count = replicate count 0

-- a list of zeros has 0 at every place, and past its end
get_or-zeros : (count k : ℕ) → get_or (zeros count) k 0 ≡ 0
get_or-zeros count k = by (nat_lt k count) refl
  where
    by : (b : Bool) → nat_lt k count ≡ b → get_or (zeros count) k 0 ≡ 0
    by true e = get_or-replicate count k 0 0 (ltb-true k count e)
    by false e = let past : length (zeros count) ≤ k = rw length-replicate (not_lt_of k count e) in get_or_past (replicate count 0) k 0 past

last_number-zeros : (count client : ℕ) → last_number (replicate count 0) client ≡ 0
last_number-zeros count zero = refl
last_number-zeros count (suc k) = get_or-zeros count k

pub served-new : served (record { rows = []; last = replicate 64 0 }) ≡ new_served
served-new = λ i. record { volume = []; last = λ client. last_number-zeros 64 client i }

new_served-legal : IsServed new_served
new_served-legal = record { tree = IsTree-empty; small = λ client. omega arith; of_none = refl; of_no_others = λ client above. refl }

pub new-legal : IsServed (served (record { rows = []; last = replicate 64 0 }))
new-legal = subst IsServed (sym served-new) new_served-legal

-- ---- a server of an image

last_number-small : (last : List ℕ) (client : ℕ) → ((i : ℕ) → get_or last i 0 < 2 ^ 64) → last_number last client < 2 ^ 64
last_number-small last zero small = omega arith
last_number-small last (suc k) small = small k

last_number-past : (last : List ℕ) (client : ℕ) → length last ≡ 64 → 64 < client → last_number last client ≡ 0
last_number-past last zero count past = refl
last_number-past last (suc k) count past = get_or_past last k 0 (omega (arith, count, past))

pub image-legal : (rows : Volume) (last : List ℕ) → IsTree rows → length last ≡ 64 → ((i : ℕ) → get_or last i 0 < 2 ^ 64) → IsServed (served (record { rows = rows; last = last }))
image-legal rows last tree count small = record { tree = tree; small = λ client. last_number-small last client small; of_none = refl; of_no_others = λ client past. last_number-past last client count past }
