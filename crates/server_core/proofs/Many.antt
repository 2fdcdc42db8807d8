-- Stores that come in any order and any number of times.
use Rattle.std.proofs.Common.{◌≡◌, ℕ, ◌+◌, ◌<◌, ◌≤◌, Bool, true, false, cond, List, [], ◌∷◌, ◌++◌, length, get_or, drop, map, Option, None, Ok, refl, sym, ap, ◌∙◌, subst, arith, eqb-true, append-nil, length-append}
use Rattle.std.specs.Prelude.{◌==◌, count_by, if◌then◌else◌}
use Rattle.std.specs.List.{flat_map, range_with_len, sum_by}
use Rattle.std.proofs.lemmas.Bool.Decides.{nat_tests}
use Rattle.std.proofs.lemmas.List.Elements.{filter-append}
use Rattle.byte_fields.proofs.Facts.{eq_itself}
use Rattle.std.proofs.lemmas.List.{map-append}
use Rattle.std.proofs.lemmas.Grind.{flat_map-append}
use Rattle.std.proofs.lemmas.List.Concat.{flat_map-cons}
use Rattle.std.proofs.lemmas.List.Sums.{sum_by-append}
use Rattle.file_paths.specs.Path.{FilePath, is_same_path}
use Rattle.tree_values.specs.declared.node.Base.{Base}
use Rattle.tree_values.specs.declared.node.Effect.{Effect}
use Rattle.tree_values.specs.declared.node.Effect.TheVariants.{Make, Put, Remove, Move, Mode}
use Rattle.tree_values.specs.declared.node.Node.{Node}
use Rattle.tree_values.specs.Tree.{Volume, version_at, node_at, touched, touched_paths, changed}
use Rattle.tree_values.specs.Effects.{apply_all, changed_all, touched_all}
use Rattle.vol_tree.proofs.Behind.{version-touched, applied-changes}
use Rattle.world_rules.specs.Served.{Served, TakenEntry, entry_stored, state_after, taken_of, replay, with_last}
use Rattle.world_rules.specs.Run.{own}
use Rattle.world_rules.proofs.Replay.{replay-append, replay-taken}
use Rattle.server_core.specs.Laws.{taken_among, numbers_of, touches, StoresAreTakenInOrder, VersionsCountTouches, TakenEntriesTellTheState}
use Rattle.server_core.proofs.Through.{raised_to, Rule, of_messages}

-- ---- numbers

pub raised : (last : ℕ → ℕ) (client number : ℕ) → with_last last client number client ≡ number
raised last client number = ap (λ b. if b then number else last client) (eq_itself client)

others_keep : (last : ℕ → ℕ) (client number other : ℕ) → (client == other) ≡ false → with_last last client number other ≡ last other
others_keep last client number other e = ap (λ b. if b then number else last other) (apart client other e)
  where
    apart : (n m : ℕ) → (n == m) ≡ false → (m == n) ≡ false
    apart n m e = grind (arith, nat_tests)

-- the numbers go on from the first, up to the last
abbrev GoOn : ℕ → ℕ → List ℕ → Type 0
GoOn first last numbers = (numbers ≡ range_with_len (first + 1) (length numbers)) × (last ≡ first + length numbers)

range_both : (start : ℕ) (xs ys : List ℕ) → xs ≡ range_with_len start (length xs) → ys ≡ range_with_len (start + length xs) (length ys) → xs ++ ys ≡ range_with_len start (length (xs ++ ys))
range_both start [] ys is are = are ∙ ap (λ n. range_with_len n (length ys)) (omega arith)
range_both start (x ∷ xs) ys is are =
    let both : x ∷ xs ≡ start ∷ range_with_len (start + 1) (length xs) = is in
    let head : x ≡ start = ap (λ (zs : List ℕ). get_or zs 0 x) both in
    let tail : xs ≡ range_with_len (start + 1) (length xs) = ap (λ (zs : List ℕ). drop 1 zs) both in
    let more : start + length (x ∷ xs) ≡ start + 1 + length xs = omega arith in
    let rest = range_both (start + 1) xs ys tail (are ∙ ap (λ n. range_with_len n (length ys)) more) in
    λ i. head i ∷ rest i

go_on : (first middle last : ℕ) (xs ys : List ℕ) → GoOn first middle xs → GoOn middle last ys → GoOn first last (xs ++ ys)
go_on first middle last xs ys one two =
    let here : middle + 1 ≡ first + 1 + length xs = omega (arith, one.1) in
    (range_both (first + 1) xs ys one.0 (two.0 ∙ ap (λ n. range_with_len n (length ys)) here), omega (arith, one.1, two.1, length-append xs ys))

-- the numbers of a client's taken entries go on from its last number
abbrev InOrder : ℕ → Served → List TakenEntry → Served → Type 0
InOrder client s taken t = GoOn (s.last client) (t.last client) (numbers_of client taken)

numbers_both : (client : ℕ) (first second : List TakenEntry) → numbers_of client (first ++ second) ≡ numbers_of client first ++ numbers_of client second
numbers_both client first second =
    let number : TakenEntry → ℕ = λ entry. entry.number in
    ap (map number) (filter-append (λ (entry : TakenEntry). entry.client == client) first second) ∙ map-append number (own client first) (own client second)

one_in_order : (client owner number : ℕ) (effects : List Effect) (base : List Base) (new : Volume) (s : Served) → number ≡ s.last owner + 1 → InOrder client s (entry_stored owner number effects base ∷ []) (raised_to owner number new s)
one_in_order client owner number effects base new s next = by (owner == client) refl
  where
    by : (b : Bool) → (owner == client) ≡ b
        → GoOn (s.last client) (with_last s.last owner number client) (map (λ (entry : TakenEntry). entry.number) (if b then entry_stored owner number effects base ∷ [] else []))
    by true e =
        let same : owner ≡ client = eqb-true owner client e in
        let last : with_last s.last owner number client ≡ number = subst (λ c. with_last s.last owner number c ≡ number) same (raised s.last owner number) in
        let here : number ≡ s.last client + 1 = next ∙ ap (λ c. s.last c + 1) same in
        (ap (λ n. n ∷ []) here, omega (arith, last, here))
    by false e = (refl, omega (arith, others_keep s.last owner number client e))

in_order : (client : ℕ) → Rule (InOrder client)
in_order client = record {
  nothing = λ s. (refl, omega arith);
  one = λ owner number effects base new s next applies. one_in_order client owner number effects base new s next;
  joined = λ s t u first second one two. subst (GoOn (s.last client) (u.last client)) (sym (numbers_both client first second)) (go_on (s.last client) (t.last client) (u.last client) (numbers_of client first) (numbers_of client second) one two);
}

-- the numbers of what is taken of a client go on from its last one
pub stores_in_order : StoresAreTakenInOrder
stores_in_order messages s client = of_messages (InOrder client) (in_order client) messages s

-- ---- versions

abbrev counted : FilePath → List FilePath → ℕ
counted path paths = count_by (λ touched. is_same_path path touched) paths

counted-append : (path : FilePath) (xs ys : List FilePath) → counted path (xs ++ ys) ≡ counted path xs + counted path ys
counted-append path xs ys = sum_by-append (λ touched. cond (is_same_path path touched) 1 0) xs ys

version-one : (path touched_one : FilePath) (volume : Volume) (now : Option Node) → version_at (touched volume touched_one now) path ≡ version_at volume path + counted path (touched_one ∷ [])
version-one path touched_one volume now = version-touched volume touched_one now path ∙ by (is_same_path path touched_one)
  where
    by : (b : Bool) → cond b (version_at volume path + 1) (version_at volume path) ≡ version_at volume path + sum_by (λ (n : ℕ). n) (cond b 1 0 ∷ [])
    by true = refl
    by false = omega arith

version-changed : (effect : Effect) (volume : Volume) (path : FilePath) → version_at (changed effect volume) path ≡ version_at volume path + counted path (touched_paths effect)
version-changed (Make p) volume path = version-one path p volume _
version-changed (Put p content) volume path = version-one path p volume _
version-changed (Remove p) volume path = version-one path p volume _
version-changed (Move p q) volume path =
    let last = version-one path p (touched volume q (node_at volume p)) None in
    let first = version-one path q volume (node_at volume p) in
    let both = counted-append path (p ∷ []) (q ∷ []) in
    omega (arith, last, first, both)
version-changed (Mode p exec) volume path = version-one path p volume _

-- a path's version after effects
pub version-changed_all : (effects : List Effect) (volume : Volume) (path : FilePath) → version_at (changed_all effects volume) path ≡ version_at volume path + counted path (touched_all effects)
version-changed_all [] volume path = omega arith
version-changed_all (effect ∷ effects) volume path =
    let rest = version-changed_all effects (changed effect volume) path in
    let first = version-changed effect volume path in
    let split = ap (counted path) (flat_map-cons touched_paths effect effects) ∙ counted-append path (touched_paths effect) (touched_all effects) in
    omega (arith, rest, first, split)

touched_all-append : (xs ys : List Effect) → touched_all (xs ++ ys) ≡ touched_all xs ++ touched_all ys
touched_all-append xs ys = flat_map-append touched_paths xs ys

touches-cons : (path : FilePath) (entry : TakenEntry) (taken : List TakenEntry) → touches path (entry ∷ taken) ≡ counted path (touched_all entry.effects) + touches path taken
touches-cons path entry taken =
    let effects : TakenEntry → List Effect = λ one. one.effects in
    ap (λ es. counted path (touched_all es)) (flat_map-cons effects entry taken)
    ∙ ap (counted path) (touched_all-append entry.effects (flat_map effects taken))
    ∙ counted-append path (touched_all entry.effects) (touched_all (flat_map effects taken))

touches-nil : (path : FilePath) → touches path [] ≡ 0
touches-nil path = refl

touches-both : (path : FilePath) (first second : List TakenEntry) → touches path (first ++ second) ≡ touches path first + touches path second
touches-both path [] second = omega (arith, touches-nil path)
touches-both path (entry ∷ entries) second =
    omega (arith, touches-cons path entry (entries ++ second), touches-cons path entry entries, touches-both path entries second)

-- the version grows by the touches of the taken entries
abbrev Grows : FilePath → Served → List TakenEntry → Served → Type 0
Grows path s taken t = version_at t.volume path ≡ version_at s.volume path + touches path taken

one_grows : (path : FilePath) (client number : ℕ) (effects : List Effect) (base : List Base) (new : Volume) (s : Served) → number ≡ s.last client + 1 → apply_all 0 effects s.volume ≡ Ok new
    → Grows path s (entry_stored client number effects base ∷ []) (raised_to client number new s)
one_grows path client number effects base new s next applies =
    let is = applied-changes effects 0 s.volume new applies in
    let here : version_at new path ≡ version_at s.volume path + counted path (touched_all effects) = ap (λ v. version_at v path) is ∙ version-changed_all effects s.volume path in
    omega (arith, here, touches-cons path (entry_stored client number effects base) [], touches-nil path)

grows : (path : FilePath) → Rule (Grows path)
grows path = record {
  nothing = λ s. omega (arith, touches-nil path);
  one = one_grows path;
  joined = λ s t u first second one two. omega (arith, one, two, touches-both path first second);
}

-- a path's version grows by the touches of the entries that are taken
pub versions_grow : VersionsCountTouches
versions_grow messages s path = of_messages (Grows path) (grows path) messages s

-- ---- the entries that are taken tell the state

pub taken_tell : TakenEntriesTellTheState
taken_tell [] s = refl
taken_tell (message ∷ messages) s =
    taken_tell messages (state_after message s)
    ∙ ap (λ (t : Served). replay (taken_among messages (state_after message s)) t) (sym (replay-taken message s))
    ∙ sym (replay-append (taken_of message s) (taken_among messages (state_after message s)) s)

-- ---- whether anything is taken

-- Where nothing is taken the state is the same, and where an entry is, some client's last number is higher.
abbrev pub Changes : Served → List TakenEntry → Served → Type 0
Changes s [] t = t ≡ s
Changes s (entry ∷ entries) t = (s.last entry.client < t.last entry.client) × ((client : ℕ) → s.last client ≤ t.last client)

not_lower : (last : ℕ → ℕ) (owner number client : ℕ) → number ≡ last owner + 1 → last client ≤ with_last last owner number client
not_lower last owner number client next = by (client == owner) refl
  where
    by : (b : Bool) → (client == owner) ≡ b → last client ≤ (if b then number else last client)
    by true e = omega (arith, next, ap last (eqb-true client owner e))
    by false e = omega arith

changes_then : (s t u : Served) (first second : List TakenEntry) → Changes s first t → Changes t second u → Changes s (first ++ second) u
changes_then s t u [] second one two = subst (λ (x : Served). Changes x second u) one two
changes_then s t u (entry ∷ entries) [] one two = subst (λ (ts : List TakenEntry). Changes s (entry ∷ ts) u) (sym (append-nil entries)) (subst (λ (x : Served). (s.last entry.client < x.last entry.client) × ((client : ℕ) → s.last client ≤ x.last client)) (sym two) one)
changes_then s t u (entry ∷ entries) (other ∷ others) one two = (omega (arith, one.0, two.1 entry.client), λ client. omega (arith, one.1 client, two.1 client))

pub changes : Rule Changes
changes = record {
  nothing = λ s. refl;
  one = λ client number effects base new s next applies. (omega (arith, raised s.last client number, next), λ other. not_lower s.last client number other next);
  joined = changes_then;
}
