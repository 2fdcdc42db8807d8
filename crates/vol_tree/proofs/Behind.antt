-- Versions only grow, and what two trees have in common lasts over one effect on both.
use Rattle.std.proofs.Common.{filter, not, ◌≡◌, ◌≢◌, ◌⊎◌, inl, inr, ℕ, ◌+◌, ◌<◌, ◌≤◌, Bool, true, false, cond, List, [], ◌∷◌, ◌++◌, map, Option, Some, None, is_some, option_map, unwrap_or, Result, Ok, Err, refl, sym, ◌∙◌, ap, subst, arith, ⊎_elim, eqb-true, true≢false}
use Rattle.std.specs.Prelude.{◌==◌}
use Rattle.std.specs.List.{AllByRecursion}
use Rattle.std.specs.Option.{option_and_then}
use Rattle.std.proofs.lemmas.Bool.{eqb-false}
use native.Mathlib.Decide.{dec_le}
use Rattle.std.specs.declared.cmp.Ordering.{Ordering}
use Rattle.std.specs.declared.cmp.Ordering.TheVariants.{Less, Equal, Greater}
use Rattle.std.specs.Ordering.{is_eq}
use Rattle.tree_values.specs.Inside.{is_at}
use Rattle.file_paths.specs.Path.{path_cmp, FilePath, is_same_path}
use Rattle.tree_values.specs.declared.node.Node.{Node}
use Rattle.tree_values.specs.declared.node.Row.{Row}
use Rattle.tree_values.specs.declared.node.Effect.{Effect}
use Rattle.tree_values.specs.declared.node.Effect.TheVariants.{Make, Put, Remove, Move, Mode}
use Rattle.tree_values.specs.declared.node.TreeError.{TreeError}
use Rattle.tree_values.specs.Tree.{IsRow, IsTree, row_at, version_at, node_at, with_row, touched, refusals, changed, apply, touched_paths, IsLegalEffect, Volume}
use Rattle.tree_values.specs.Effects.{changed_all, unless_refused_at, apply_all, touched_all, distinct, base_of, Conflict, first_conflict}
use Rattle.vol_tree.specs.Behind.{IsBehind, IsAhead, AgreeAt}
use Rattle.tree_values.specs.Lists.{IsIn}
use Rattle.file_paths.proofs.Order.{same_path, tied_path, paths_differ, paths_apart}
use Rattle.file_paths.proofs.Refusals.{value_unrefused}
use Rattle.tree_values.proofs.Ordered.{row_at-with_row, is_at_equal, same_rows}
use Rattle.tree_values.proofs.Undoing.{find_passes, find_among}
use Rattle.vol_tree.proofs.Trees.{row_untouched, changed_is_tree}

abbrev pub version_of : Option Row → ℕ
version_of row = unwrap_or (option_map (λ r. r.version) row) 0

abbrev pub node_of : Option Row → Option Node
node_of row = option_and_then (λ r. r.node) row

-- ---- what stands at each path once one is touched

pub row_at-touched : (volume : Volume) (path : FilePath) (now : Option Node) (other : FilePath) → row_at (touched volume path now) other ≡ cond (is_same_path other path) (Some (record { path = path; version = version_at volume path + 1; node = now })) (row_at volume other)
row_at-touched volume path now other = by (path_cmp other path) refl
  where
    new : Row
    new = record { path = path; version = version_at volume path + 1; node = now }

    by : (o : Ordering) → path_cmp other path ≡ o → row_at (touched volume path now) other ≡ cond (is_eq o) (Some new) (row_at volume other)
    by Equal e = ap (row_at (with_row volume new)) (same_path other path e) ∙ row_at-with_row volume new
    by Less e = row_untouched volume path now other (paths_differ other path Less e (λ l. cc))
    by Greater e = row_untouched volume path now other (paths_differ other path Greater e (λ l. cc))

-- by whether the other path is this one
version_if : (volume : Volume) (path other : FilePath) (now : Option Node) (b : Bool) → is_same_path other path ≡ b → version_of (cond b (Some (record { path = path; version = version_at volume path + 1; node = now })) (row_at volume other)) ≡ cond b (version_at volume other + 1) (version_at volume other)
version_if volume path other now true e = ap (λ p. version_at volume p + 1) (sym (tied_path other path e))
version_if volume path other now false e = refl

pub version-touched : (volume : Volume) (path : FilePath) (now : Option Node) (other : FilePath) → version_at (touched volume path now) other ≡ cond (is_same_path other path) (version_at volume other + 1) (version_at volume other)
version-touched volume path now other = ap version_of (row_at-touched volume path now other) ∙ version_if volume path other now _ refl

node_if : (b : Bool) (row : Row) (old : Option Row) → node_of (cond b (Some row) old) ≡ cond b row.node (node_of old)
node_if true row old = refl
node_if false row old = refl

pub node-touched : (volume : Volume) (path : FilePath) (now : Option Node) (other : FilePath) → node_at (touched volume path now) other ≡ cond (is_same_path other path) now (node_at volume other)
node-touched volume path now other = ap node_of (row_at-touched volume path now other) ∙ node_if (is_same_path other path) _ (row_at volume other)

-- ---- how two volumes compare at a path after the same effect

more_le : (b : Bool) (m n : ℕ) → m ≤ n → cond b (m + 1) m ≤ cond b (n + 1) n
more_le true m n le = omega arith
more_le false m n le = le

more_lt : (b : Bool) (m n : ℕ) → m < n → cond b (m + 1) m < cond b (n + 1) n
more_lt true m n lt = omega arith
more_lt false m n lt = lt

more_node : (b : Bool) (m n : ℕ) (now old new : Option Node) → (m ≡ n → old ≡ new) → cond b (m + 1) m ≡ cond b (n + 1) n → cond b now old ≡ cond b now new
more_node true m n now old new same e = refl
more_node false m n now old new same e = same e

module _ (x v : Volume) (path : FilePath) (now then : Option Node) where
  pub same-touched : (other : FilePath) → version_at x other ≡ version_at v other → version_at (touched x path now) other ≡ version_at (touched v path then) other
  same-touched other e = version-touched x path now other ∙ ap (λ n. cond (is_same_path other path) (n + 1) n) e ∙ sym (version-touched v path then other)

  pub lt-touched : (other : FilePath) → version_at x other < version_at v other → version_at (touched x path now) other < version_at (touched v path then) other
  lt-touched other lt = rw (version-touched, version-touched) (more_lt (is_same_path other path) _ _ lt)

pub IsBehind-touched : (x v : Volume) (path : FilePath) (now : Option Node) → IsBehind x v → IsBehind (touched x path now) (touched v path now)
IsBehind-touched x v path now behind = record {
  versions = λ other. rw (version-touched x path now other, version-touched v path now other) (more_le (is_same_path other path) _ _ (behind.versions other));
  nodes = λ other e. node-touched x path now other
      ∙ more_node (is_same_path other path) _ _ now _ _ (behind.nodes other) (sym (version-touched x path now other) ∙ e ∙ version-touched v path now other)
      ∙ sym (node-touched v path now other);
}

-- ---- IsBehind is a preorder, in which effects go up

pub IsBehind-refl : (v : Volume) → IsBehind v v
IsBehind-refl v = record { versions = λ path. omega arith; nodes = λ path e. refl }

pub IsBehind-trans : (u v w : Volume) → IsBehind u v → IsBehind v w → IsBehind u w
IsBehind-trans u v w a b = record {
  versions = λ path. omega (arith, a.versions path, b.versions path);
  nodes = λ path e. a.nodes path (omega (arith, a.versions path, b.versions path)) ∙ b.nodes path (omega (arith, a.versions path, b.versions path));
}

grown : (b : Bool) (n : ℕ) → n ≤ cond b (n + 1) n
grown true n = omega arith
grown false n = omega arith

kept_node : (b : Bool) (n : ℕ) (now old : Option Node) → n ≡ cond b (n + 1) n → old ≡ cond b now old
kept_node true n now old e = absurd (omega arith)
kept_node false n now old e = refl

pub IsBehind-grown : (v : Volume) (path : FilePath) (now : Option Node) → IsBehind v (touched v path now)
IsBehind-grown v path now = record {
  versions = λ other. rw (version-touched v path now other) (grown (is_same_path other path) _);
  nodes = λ other e. kept_node (is_same_path other path) _ now _ (e ∙ version-touched v path now other) ∙ sym (node-touched v path now other);
}

-- ---- the same for an effect, and for a list of them

pub same-change : (effect : Effect) (x v : Volume) (path : FilePath) → version_at x path ≡ version_at v path → version_at (changed effect x) path ≡ version_at (changed effect v) path
same-change (Make p) x v path e = same-touched x v p _ _ path e
same-change (Put p content) x v path e = same-touched x v p _ _ path e
same-change (Remove p) x v path e = same-touched x v p _ _ path e
same-change (Move p q) x v path e = same-touched _ _ p _ _ path (same-touched x v q _ _ path e)
same-change (Mode p exec) x v path e = same-touched x v p _ _ path e

pub lt-change : (effect : Effect) (x v : Volume) (path : FilePath) → version_at x path < version_at v path → version_at (changed effect x) path < version_at (changed effect v) path
lt-change (Make p) x v path lt = lt-touched x v p _ _ path lt
lt-change (Put p content) x v path lt = lt-touched x v p _ _ path lt
lt-change (Remove p) x v path lt = lt-touched x v p _ _ path lt
lt-change (Move p q) x v path lt = lt-touched _ _ p _ _ path (lt-touched x v q _ _ path lt)
lt-change (Mode p exec) x v path lt = lt-touched x v p _ _ path lt

pub IsBehind-change : (effect : Effect) (x v : Volume) → IsBehind x v → AgreeAt x v (touched_paths effect) → IsBehind (changed effect x) (changed effect v)
IsBehind-change (Make p) x v behind agree = IsBehind-touched x v p _ behind
IsBehind-change (Put p content) x v behind agree = rw (behind.nodes p agree.0) (IsBehind-touched x v p _ behind)
IsBehind-change (Remove p) x v behind agree = IsBehind-touched x v p _ behind
IsBehind-change (Move p q) x v behind agree =
    rw (behind.nodes p agree.0) (IsBehind-touched _ _ p _ (IsBehind-touched x v q (node_at v p) behind))
IsBehind-change (Mode p exec) x v behind agree = rw (behind.nodes p agree.0) (IsBehind-touched x v p _ behind)

pub IsBehind-changed : (effect : Effect) (v : Volume) → IsBehind v (changed effect v)
IsBehind-changed (Make p) v = IsBehind-grown v p _
IsBehind-changed (Put p content) v = IsBehind-grown v p _
IsBehind-changed (Remove p) v = IsBehind-grown v p _
IsBehind-changed (Move p q) v = IsBehind-trans _ _ _ (IsBehind-grown v q _) (IsBehind-grown _ p _)
IsBehind-changed (Mode p exec) v = IsBehind-grown v p _

AgreeAt-change : (effect : Effect) (x v : Volume) (paths : List FilePath) → AgreeAt x v paths → AgreeAt (changed effect x) (changed effect v) paths
AgreeAt-change effect x v [] agree = tt
AgreeAt-change effect x v (path ∷ paths) agree = (same-change effect x v path agree.0, AgreeAt-change effect x v paths agree.1)

AgreeAt-split : (x v : Volume) (ps qs : List FilePath) → AgreeAt x v (ps ++ qs) → AgreeAt x v ps × AgreeAt x v qs
AgreeAt-split x v [] qs agree = (tt, agree)
AgreeAt-split x v (p ∷ ps) qs agree = let rest = AgreeAt-split x v ps qs agree.1 in ((agree.0, rest.0), rest.1)

pub lt-changes : (effects : List Effect) (x v : Volume) (path : FilePath) → version_at x path < version_at v path → version_at (changed_all effects x) path < version_at (changed_all effects v) path
lt-changes [] x v path lt = lt
lt-changes (effect ∷ effects) x v path lt = lt-changes effects _ _ path (lt-change effect x v path lt)

pub same-changes : (effects : List Effect) (x v : Volume) (path : FilePath) → version_at x path ≡ version_at v path → version_at (changed_all effects x) path ≡ version_at (changed_all effects v) path
same-changes [] x v path e = e
same-changes (effect ∷ effects) x v path e = same-changes effects _ _ path (same-change effect x v path e)

pub IsBehind-changes : (effects : List Effect) (x v : Volume) → IsBehind x v → AgreeAt x v (touched_all effects) → IsBehind (changed_all effects x) (changed_all effects v)
IsBehind-changes [] x v behind agree = behind
IsBehind-changes (effect ∷ effects) x v behind agree =
    let parts = AgreeAt-split x v (touched_paths effect) (touched_all effects) agree in
    IsBehind-changes effects _ _ (IsBehind-change effect x v behind parts.0) (AgreeAt-change effect x v _ parts.1)

pub IsBehind-after : (effects : List Effect) (v : Volume) → IsBehind v (changed_all effects v)
IsBehind-after [] v = IsBehind-refl v
IsBehind-after (effect ∷ effects) v = IsBehind-trans _ _ _ (IsBehind-changed effect v) (IsBehind-after effects (changed effect v))

-- ---- a base without conflict is agreement at each touched path

conflict_if : (b : Bool) (rest : Option Conflict) (c : Conflict) → cond b rest (Some c) ≡ None → (b ≡ true) × (rest ≡ None)
conflict_if true rest c e = (refl, e)
conflict_if false rest c e = absurd (cc)

AgreeAt-no_conflict : (x v : Volume) (paths : List FilePath) → first_conflict (map (λ path. record { path = path; version = version_at x path }) paths) v ≡ None → AgreeAt x v paths
AgreeAt-no_conflict x v [] e = tt
AgreeAt-no_conflict x v (path ∷ paths) e =
    let parts = conflict_if (version_at v path == version_at x path) _ _ e in
    (sym (eqb-true _ _ parts.0), AgreeAt-no_conflict x v paths parts.1)

-- what agrees at a path and at all others agrees at all
AgreeAt-unfiltered : (x v : Volume) (path : FilePath) (paths : List FilePath) → version_at x path ≡ version_at v path → AgreeAt x v (filter (λ other. not (is_same_path other path)) paths) → AgreeAt x v paths
AgreeAt-unfiltered x v path [] here agree = tt
AgreeAt-unfiltered x v path (p ∷ paths) here agree = by (is_same_path p path) refl agree (AgreeAt-unfiltered x v path paths here)
  where
    by : (b : Bool) → is_same_path p path ≡ b → AgreeAt x v (cond (not b) (p ∷ filter (λ other. not (is_same_path other path)) paths) (filter (λ other. not (is_same_path other path)) paths))
        → (AgreeAt x v (filter (λ other. not (is_same_path other path)) paths) → AgreeAt x v paths) → AgreeAt x v (p ∷ paths)
    by true e agree rest = (subst (λ q. version_at x q ≡ version_at v q) (sym (tied_path p path e)) here, rest agree)
    by false e agree rest = (agree.0, rest agree.1)

AgreeAt-distinct : (x v : Volume) (paths : List FilePath) → AgreeAt x v (distinct paths) → AgreeAt x v paths
AgreeAt-distinct x v [] agree = tt
AgreeAt-distinct x v (path ∷ paths) agree = (agree.0, AgreeAt-distinct x v paths (AgreeAt-unfiltered x v path (distinct paths) agree.0 agree.1))

pub AgreeAt-touched : (x v : Volume) (effects : List Effect) → first_conflict (base_of effects x) v ≡ None → AgreeAt x v (touched_all effects)
AgreeAt-touched x v effects e = AgreeAt-distinct x v _ (AgreeAt-no_conflict x v _ e)

-- ---- a conflict with the base of a volume that is behind is a path that is ahead

some_conflict_if : (b : Bool) (rest : Option Conflict) (here c : Conflict) → cond b rest (Some here) ≡ Some c → ((b ≡ true) × (rest ≡ Some c)) ⊎ ((b ≡ false) × (here ≡ c))
some_conflict_if true rest here c e = inl (refl, e)
some_conflict_if false rest here c e = inr (refl, cc)

ahead_at : (x v : Volume) (paths : List FilePath) (c : Conflict) → IsBehind x v → first_conflict (map (λ path. record { path = path; version = version_at x path }) paths) v ≡ Some c → version_at x c.path < version_at v c.path
ahead_at x v [] c behind e = absurd (cc)
ahead_at x v (path ∷ paths) c behind e = ⊎_elim
    (λ rest. ahead_at x v paths c behind rest.1)
    (λ here. subst (λ (k : Conflict). version_at x k.path < version_at v k.path) here.1 (ne_lt path (eqb-false _ _ here.0)))
    (some_conflict_if (version_at v path == version_at x path) _ _ c e)
  where
    ne_lt : (p : FilePath) → version_at v p ≢ version_at x p → version_at x p < version_at v p
    ne_lt p ne = omega (arith, behind.versions p)

pub ahead_at_conflict : (x v : Volume) (effects : List Effect) (c : Conflict) → IsBehind x v → first_conflict (base_of effects x) v ≡ Some c → version_at x c.path < version_at v c.path
ahead_at_conflict x v effects c behind e = ahead_at x v _ c behind e

-- ---- trees with equal versions and nodes are equal

-- a row of a tree counts at least one effect, and stands at its path
pub counted : (rows : Volume) (path : FilePath) → IsTree rows → version_at rows path ≡ 0 → row_at rows path ≡ None
counted rows path tree = by (row_at rows path) refl
  where
    by : (o : Option Row) → row_at rows path ≡ o → version_of o ≡ 0 → o ≡ None
    by None e zero = refl
    by (Some row) e zero = absurd (omega (arith, zero, (find_among IsRow (is_at path) rows row tree.each e).touched))

-- a path that was touched has a row
pub has_row : (rows : Volume) (path : FilePath) → (version_at rows path ≡ 0 → ⊥) → is_some (row_at rows path) ≡ true
has_row rows path touched = by (row_at rows path) refl
  where
    by : (o : Option Row) → row_at rows path ≡ o → is_some o ≡ true
    by None e = absurd (touched (rw e refl))
    by (Some row) e = refl

same_row : (path : FilePath) (a b : Option Row) → ((row : Row) → a ≡ Some row → row.path ≡ path) → ((row : Row) → b ≡ Some row → row.path ≡ path)
    → version_of a ≡ version_of b → node_of a ≡ node_of b → (version_of a ≡ 0 → a ≡ None) → (version_of b ≡ 0 → b ≡ None) → a ≡ b
same_row path None None at_a at_b e n ha hb = refl
same_row path None (Some row) at_a at_b e n ha hb = sym (hb (sym e))
same_row path (Some row) None at_a at_b e n ha hb = ha e
same_row path (Some row) (Some other) at_a at_b e n ha hb =
    let paths = at_a row refl ∙ sym (at_b other refl) in λ i. Some (record { path = paths i; version = e i; node = n i })

-- two trees, one behind the other and ahead at no path
pub same_volume : (x v : Volume) → IsBehind x v → IsTree x → IsTree v → ((path : FilePath) → version_at v path ≤ version_at x path) → x ≡ v
same_volume x v behind tree_x tree_v le = same_rows x v tree_x.in_order tree_v.in_order (λ path.
    let e : version_at x path ≡ version_at v path = omega (arith, behind.versions path, le path) in
    same_row path (row_at x path) (row_at v path) (λ row is. is_at_equal row path (find_passes (is_at path) x row is)) (λ row is. is_at_equal row path (find_passes (is_at path) v row is))
    e (behind.nodes path e) (counted x path tree_x) (counted v path tree_v))

-- ---- either some path is ahead, or none is

ahead_among : (x v rows : Volume) → IsAhead v x ⊎ AllByRecursion (λ row. version_at v row.path ≤ version_at x row.path) rows
ahead_among x v [] = inr tt
ahead_among x v (row ∷ rows) = ⊎_elim
    inl
    (λ rest. here rest (dec_le (version_at v row.path) (version_at x row.path)))
    (ahead_among x v rows)
  where
    here : AllByRecursion (λ r. version_at v r.path ≤ version_at x r.path) rows → Dec (version_at v row.path ≤ version_at x row.path) → IsAhead v x ⊎ AllByRecursion (λ r. version_at v r.path ≤ version_at x r.path) (row ∷ rows)
    here rest (yes le) = inr (le, rest)
    here rest (no gt) = inl (row.path, omega (arith, gt))

at_path : (x v : Volume) (path : FilePath) → AllByRecursion (λ row. version_at v row.path ≤ version_at x row.path) v → version_at v path ≤ version_at x path
at_path x v path all = by (row_at v path) refl
  where
    by : (o : Option Row) → row_at v path ≡ o → version_of o ≤ version_at x path
    by None e = omega arith
    by (Some row) e =
        let le = find_among (λ r. version_at v r.path ≤ version_at x r.path) (is_at path) v row all e in
        let at = is_at_equal row path (find_passes (is_at path) v row e) in
        let there : version_at v path ≡ row.version = ap version_of e in
        omega (arith, there, subst (λ p. version_at v p ≤ version_at x p) at le)

pub ahead_or_not : (x v : Volume) → IsAhead v x ⊎ ((path : FilePath) → version_at v path ≤ version_at x path)
ahead_or_not x v = ⊎_elim inl (λ all. inr (λ path. at_path x v path all)) (ahead_among x v v)

-- what applies to one tree and not to a newer one meets a path that is ahead
pub ahead_where_refused : (x v : Volume) (effects : List Effect) (after : Volume) (cause : ℕ × TreeError) → IsBehind x v → IsTree x → IsTree v → apply_all 0 effects x ≡ Ok after → apply_all 0 effects v ≡ Err cause → IsAhead v x
ahead_where_refused x v effects after cause behind tree_x tree_v applies refused = ⊎_elim
    (λ ahead. ahead)
    (λ le. let same = same_volume x v behind tree_x tree_v le in absurd (cc (ap (apply_all 0 effects) same)))
    (ahead_or_not x v)

-- ---- what applies is the changed_all, and leaves a tree

pub applied-changed : (effect : Effect) (v after : Volume) → apply effect v ≡ Ok after → after ≡ changed effect v
applied-changed effect v after e = value_unrefused (refusals effect v) (changed effect v) after e

pub applied-tree : (effect : Effect) (v after : Volume) → IsTree v → IsLegalEffect effect → apply effect v ≡ Ok after → IsTree after
applied-tree effect v after tree legal e =
    let is = applied-changed effect v after e in
    subst IsTree (sym is) (changed_is_tree effect v tree legal (e ∙ ap Ok is))

pub applied-changes : (effects : List Effect) (at : ℕ) (v after : Volume) → apply_all at effects v ≡ Ok after → after ≡ changed_all effects v
applied-changes [] at v after e = cc
applied-changes (effect ∷ later) at v after e = by (apply effect v) refl e (λ next h. applied-changes later (at + 1) next after h)
  where
    by : (r : Result Volume TreeError) → apply effect v ≡ r → unless_refused_at at r (apply_all (at + 1) later) ≡ Ok after
        → ((next : Volume) → apply_all (at + 1) later next ≡ Ok after → after ≡ changed_all later next) → after ≡ changed_all later (changed effect v)
    by (Ok next) is e rest = rest next e ∙ ap (changed_all later) (applied-changed effect v next is)
    by (Err refusal) is e rest = absurd (cc)

pub applied_all-tree : (effects : List Effect) (at : ℕ) (v after : Volume) → IsTree v → AllByRecursion IsLegalEffect effects → apply_all at effects v ≡ Ok after → IsTree after
applied_all-tree [] at v after tree legal e = let same : v ≡ after = cc in subst IsTree same tree
applied_all-tree (effect ∷ later) at v after tree legal e = by (apply effect v) refl e (λ next h. applied_all-tree later (at + 1) next after h legal.1)
  where
    by : (r : Result Volume TreeError) → apply effect v ≡ r → unless_refused_at at r (apply_all (at + 1) later) ≡ Ok after
        → ((next : Volume) → IsTree next → apply_all (at + 1) later next ≡ Ok after → IsTree after) → IsTree after
    by (Ok next) is e rest = rest next (applied-tree effect v next tree legal.0 is) e
    by (Err refusal) is e rest = absurd (cc)

-- ---- a path that is not touched keeps its version

pub version-apart : (v : Volume) (path : FilePath) (now : Option Node) (other : FilePath) → (other ≡ path → ⊥) → version_at (touched v path now) other ≡ version_at v other
version-apart v path now other apart = version-touched v path now other ∙ ap (λ b. cond b (version_at v other + 1) (version_at v other)) (paths_apart other path (λ same. apart (sym same)))

version-change_apart : (effect : Effect) (v : Volume) (path : FilePath) → (IsIn path (touched_paths effect) → ⊥) → version_at (changed effect v) path ≡ version_at v path
version-change_apart (Make p) v path apart = version-apart v p _ path (λ e. apart (inl e))
version-change_apart (Put p content) v path apart = version-apart v p _ path (λ e. apart (inl e))
version-change_apart (Remove p) v path apart = version-apart v p _ path (λ e. apart (inl e))
version-change_apart (Move p q) v path apart = version-apart _ p _ path (λ e. apart (inl e)) ∙ version-apart v q _ path (λ e. apart (inr (inl e)))
version-change_apart (Mode p exec) v path apart = version-apart v p _ path (λ e. apart (inl e))

pub IsIn-left : {X : Type 0} (x : X) (xs ys : List X) → IsIn x xs → IsIn x (xs ++ ys)
IsIn-left x [] ys among = absurd among
IsIn-left x (y ∷ xs) ys (inl e) = inl e
IsIn-left x (y ∷ xs) ys (inr among) = inr (IsIn-left x xs ys among)

pub IsIn-right : {X : Type 0} (x : X) (xs ys : List X) → IsIn x ys → IsIn x (xs ++ ys)
IsIn-right x [] ys among = among
IsIn-right x (y ∷ xs) ys among = inr (IsIn-right x xs ys among)

pub version-untouched : (effects : List Effect) (v : Volume) (path : FilePath) → (IsIn path (touched_all effects) → ⊥) → version_at (changed_all effects v) path ≡ version_at v path
version-untouched [] v path apart = refl
version-untouched (effect ∷ effects) v path apart =
    version-untouched effects (changed effect v) path (λ among. apart (IsIn-right path _ _ among)) ∙ version-change_apart effect v path (λ among. apart (IsIn-left path _ _ among))

pub IsTree-empty : IsTree []
IsTree-empty = record { in_order = tt; each = tt; in_folders = λ path some. absurd (true≢false (sym some)); few = omega arith; small = omega arith }
