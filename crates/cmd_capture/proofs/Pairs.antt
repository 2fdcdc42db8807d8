-- An ordered map with text keys takes a pair as the list of pairs does.
use Rattle.std.proofs.Common.{◌≡◌, ℕ, Bool, true, false, List, [], ◌∷◌, ◌++◌, map, refl, sym, ap, ◌∙◌, subst, append_assoc, true≢false}
use Rattle.std.proofs.Common.{if◌then◌else◌, cond, ◌||◌, Some, is_some}
use Rattle.std.specs.List.{IsDistinct, AllByRecursion}
use Rattle.std.specs.Cmp.Lexicographic.{bytes_decides}
use Rattle.std.specs.Str.{bytes_eq}
use Rattle.indexmap.specs.IndexMap.{insert_entry}
use Rattle.cmd_capture.specs.Environment.{has_key, set_pair}
use Rattle.std.specs.Map.{lookup}

pub insert_entry-is-set_pair : (ps : List (List ℕ × List ℕ)) (k v : List ℕ) → insert_entry bytes_eq ps k v ≡ set_pair ps k v
insert_entry-is-set_pair [] k v = refl
insert_entry-is-set_pair (p ∷ ps) k v =
    ap (λ r. if bytes_eq k p.0 then (p.0, v) ∷ ps else p ∷ r) (insert_entry-is-set_pair ps k v)

-- a key is found exactly where a pair has it
pub lookup_is_has_key : (ps : List (List ℕ × List ℕ)) (k : List ℕ) → is_some (lookup (bytes_eq k) ps) ≡ has_key ps k
lookup_is_has_key [] k = refl
lookup_is_has_key (p ∷ ps) k = by (bytes_eq k p.0) (lookup_is_has_key ps k)
  where
    by : (b : Bool) → is_some (lookup (bytes_eq k) ps) ≡ has_key ps k
        → is_some (cond b (Some p.1) (lookup (bytes_eq k) ps)) ≡ (b || has_key ps k)
    by true more = refl
    by false more = more

-- a key that no pair has goes last
pub new_key_is_last : (ps : List (List ℕ × List ℕ)) (k v : List ℕ) → has_key ps k ≡ false → set_pair ps k v ≡ ps ++ (k, v) ∷ []
new_key_is_last [] k v none = refl
new_key_is_last (p ∷ ps) k v none = by (bytes_eq k p.0) none (new_key_is_last ps k v)
  where
    by : (b : Bool) → (b || has_key ps k) ≡ false → (has_key ps k ≡ false → set_pair ps k v ≡ ps ++ (k, v) ∷ [])
        → cond b ((p.0, v) ∷ ps) (p ∷ set_pair ps k v) ≡ p ∷ (ps ++ (k, v) ∷ [])
    by true none more = absurd (true≢false none)
    by false none more = ap (λ r. p ∷ r) (more none)

-- a key that none of these have goes last
pub set_pair-new : (ps : List (List ℕ × List ℕ)) (k v : List ℕ) (rest : List (List ℕ × List ℕ))
    → IsDistinct bytes_eq (map (λ p. p.0) (ps ++ (k, v) ∷ rest)) → set_pair ps k v ≡ ps ++ (k, v) ∷ []
unfolding IsDistinct
set_pair-new [] k v rest distinct = refl
set_pair-new (p ∷ ps) k v rest distinct =
    by (bytes_eq k p.0) refl (unlike ps distinct.0) (set_pair-new ps k v rest distinct.1)
  where
    unlike : (ps : List (List ℕ × List ℕ))
        → AllByRecursion (λ key. bytes_eq p.0 key ≡ false) (map (λ p. p.0) (ps ++ (k, v) ∷ rest))
        → bytes_eq p.0 k ≡ false
    unlike [] all = all.0
    unlike (q ∷ ps) all = unlike ps all.1

    by : (b : Bool) → bytes_eq k p.0 ≡ b → bytes_eq p.0 k ≡ false → set_pair ps k v ≡ ps ++ (k, v) ∷ []
        → set_pair (p ∷ ps) k v ≡ p ∷ (ps ++ (k, v) ∷ [])
    by false e other more = rw e (ap (λ r. p ∷ r) more)
    by true e other more = absurd (true≢false (sym ((bytes_decides p.0 k).1 (sym ((bytes_decides k p.0).0 e))) ∙ other))

-- one more pair of a list without equal keys is copied
pub copy_turn : (done left rest all new : List (List ℕ × List ℕ)) (k v : List ℕ) → done ++ left ≡ all
    → left ≡ (k, v) ∷ rest → IsDistinct bytes_eq (map (λ p. p.0) all) → new ≡ set_pair done k v → new ++ rest ≡ all
copy_turn done left rest all new k v so_far next distinct set =
    let whole : done ++ (k, v) ∷ rest ≡ all = ap (λ l. done ++ l) (sym next) ∙ so_far in
    ap (λ l. l ++ rest) (set ∙ set_pair-new done k v rest (subst (λ l. IsDistinct bytes_eq (map (λ p. p.0) l)) (sym whole) distinct))
    ∙ append_assoc done ((k, v) ∷ []) rest ∙ whole
