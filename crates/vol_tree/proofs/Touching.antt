-- The laws of trees and effects, from what is proved of their rows.
use Rattle.std.proofs.Common.{◌≡◌, inl, inr, ℕ, ◌+◌, Bool, cond, List, [], ◌∷◌, Option, Some, None, Ok, sym, ap, ◌∙◌, subst, arith}
use Rattle.file_paths.specs.Path.{FilePath}
use Rattle.tree_values.specs.declared.node.Node.{Node}
use Rattle.tree_values.specs.declared.node.Node.TheVariants.{Folder}
use Rattle.tree_values.specs.declared.node.Effect.{Effect}
use Rattle.tree_values.specs.declared.node.Effect.TheVariants.{Make, Put, Remove, Move, Mode}
use Rattle.tree_values.specs.Tree.{Volume, IsTree, version_at, node_at, is_exec, with_content, with_mode, touched, changed, apply, touched_paths, kept_rows, undone}
use Rattle.tree_values.specs.Lists.{IsIn}
use Rattle.vol_tree.proofs.Trees.{can_move, moved_apart, undone_change, node_touched, node_untouched}
use Rattle.vol_tree.proofs.Behind.{applied-changed, version-touched, version-apart, same_volume}
use Rattle.file_paths.proofs.Order.{own_path}

-- ---- one touched path

version_here : (v : Volume) (path : FilePath) (now : Option Node) → version_at (touched v path now) path ≡ version_at v path + 1
version_here v path now = version-touched v path now path ∙ ap (λ b. cond b (version_at v path + 1) (version_at v path)) (own_path path)

-- the paths of a move that applies are two
pub two_paths : (rows new : Volume) (p q : FilePath) → apply (Move p q) rows ≡ Ok new → p ≡ q → ⊥
two_paths rows new p q e =
    let can = can_move rows p q (e ∙ ap Ok (applied-changed (Move p q) rows new e)) in moved_apart rows p q can.there can.free

only : (path p : FilePath) → IsIn path (p ∷ []) → path ≡ p
only path p (inl same) = same
only path p (inr among) = absurd among

counts_one : (rows : Volume) (p path : FilePath) (now : Option Node) → IsIn path (p ∷ []) → version_at (touched rows p now) path ≡ version_at rows path + 1
counts_one rows p path now among =
    subst (λ a. version_at (touched rows p now) a ≡ version_at rows a + 1) (sym (only path p among)) (version_here rows p now)

counts_two : (rows : Volume) (p q path : FilePath) (first second : Option Node) → (p ≡ q → ⊥) → IsIn path (p ∷ q ∷ []) → version_at (touched (touched rows q first) p second) path ≡ version_at rows path + 1
counts_two rows p q path first second apart (inl same) =
    subst (λ a. version_at (touched (touched rows q first) p second) a ≡ version_at rows a + 1) (sym same)
    (version_here (touched rows q first) p second ∙ ap (λ n. n + 1) (version-apart rows q first p apart))
counts_two rows p q path first second apart (inr (inl same)) =
    subst (λ a. version_at (touched (touched rows q first) p second) a ≡ version_at rows a + 1) (sym same)
    (version-apart (touched rows q first) p second q (λ e. apart (sym e)) ∙ version_here rows q first)
counts_two rows p q path first second apart (inr (inr among)) = absurd among

counts : (effect : Effect) (rows : Volume) (path : FilePath) → apply effect rows ≡ Ok (changed effect rows) → IsIn path (touched_paths effect) → version_at (changed effect rows) path ≡ version_at rows path + 1
counts (Make p) rows path e among = counts_one rows p path _ among
counts (Put p content) rows path e among = counts_one rows p path _ among
counts (Remove p) rows path e among = counts_one rows p path _ among
counts (Move p q) rows path e among = counts_two rows p q path _ _ (two_paths rows _ p q e) among
counts (Mode p exec) rows path e among = counts_one rows p path _ among

pub counts_touches : (effect : Effect) (rows new : Volume) (path : FilePath) → apply effect rows ≡ Ok new → IsIn path (touched_paths effect) → version_at new path ≡ version_at rows path + 1
counts_touches effect rows new path e among =
    let is = applied-changed effect rows new e in ap (λ v. version_at v path) is ∙ counts effect rows path (e ∙ ap Ok is) among

abbrev Stays : Volume → Volume → FilePath → Type 0
Stays new rows path = (version_at new path ≡ version_at rows path) × (node_at new path ≡ node_at rows path)

stays_one : (rows : Volume) (p path : FilePath) (now : Option Node) → (path ≡ p → ⊥) → Stays (touched rows p now) rows path
stays_one rows p path now apart = (version-apart rows p now path apart, node_untouched rows p now path apart)

stays : (effect : Effect) (rows : Volume) (path : FilePath) → (IsIn path (touched_paths effect) → ⊥) → Stays (changed effect rows) rows path
stays (Make p) rows path apart = stays_one rows p path _ (λ e. apart (inl e))
stays (Put p content) rows path apart = stays_one rows p path _ (λ e. apart (inl e))
stays (Remove p) rows path apart = stays_one rows p path _ (λ e. apart (inl e))
stays (Move p q) rows path apart =
    let first = stays_one rows q path (node_at rows p) (λ e. apart (inr (inl e))) in
    let second = stays_one (touched rows q (node_at rows p)) p path None (λ e. apart (inl e)) in
    (second.0 ∙ first.0, second.1 ∙ first.1)
stays (Mode p exec) rows path apart = stays_one rows p path _ (λ e. apart (inl e))

pub leaves_the_rest : (effect : Effect) (rows new : Volume) (path : FilePath) → apply effect rows ≡ Ok new → (IsIn path (touched_paths effect) → ⊥) → Stays new rows path
leaves_the_rest effect rows new path e apart = subst (λ v. Stays v rows path) (sym (applied-changed effect rows new e)) (stays effect rows path apart)

-- ---- the node at a touched path

pub made : (path : FilePath) (rows new : Volume) → apply (Make path) rows ≡ Ok new → node_at new path ≡ Some Folder
made path rows new e = ap (λ v. node_at v path) (applied-changed (Make path) rows new e) ∙ node_touched rows path (Some Folder)

pub put : (path : FilePath) (content : List ℕ) (rows new : Volume) → apply (Put path content) rows ≡ Ok new → node_at new path ≡ Some (with_content (node_at rows path) content)
put path content rows new e =
    ap (λ v. node_at v path) (applied-changed (Put path content) rows new e) ∙ node_touched rows path (Some (with_content (node_at rows path) content))

pub put_keeps : (path : FilePath) (content : List ℕ) (rows new : Volume) → apply (Put path content) rows ≡ Ok new → is_exec (node_at new path) ≡ is_exec (node_at rows path)
put_keeps path content rows new e = ap is_exec (put path content rows new e)

pub removed : (path : FilePath) (rows new : Volume) → apply (Remove path) rows ≡ Ok new → node_at new path ≡ None
removed path rows new e = ap (λ v. node_at v path) (applied-changed (Remove path) rows new e) ∙ node_touched rows path None

pub moved : (from to : FilePath) (rows new : Volume) → apply (Move from to) rows ≡ Ok new → (node_at new to ≡ node_at rows from) × (node_at new from ≡ None)
moved from to rows new e =
    let is = applied-changed (Move from to) rows new e in
    let apart = two_paths rows new from to e in (
      ap (λ v. node_at v to) is ∙ node_untouched (touched rows to (node_at rows from)) from None to (λ same. apart (sym same)) ∙ node_touched rows to (node_at rows from),
      ap (λ v. node_at v from) is ∙ node_touched (touched rows to (node_at rows from)) from None,
    )

pub mode : (path : FilePath) (exec : Bool) (rows new : Volume) → apply (Mode path exec) rows ≡ Ok new → node_at new path ≡ with_mode exec (node_at rows path)
mode path exec rows new e =
    ap (λ v. node_at v path) (applied-changed (Mode path exec) rows new e) ∙ node_touched rows path (with_mode exec (node_at rows path))

-- ---- trees

pub what_they_hold : (x y : Volume) → IsTree x → IsTree y → ((path : FilePath) → (version_at x path ≡ version_at y path) × (node_at x path ≡ node_at y path)) → x ≡ y
what_they_hold x y tree_x tree_y same = same_volume x y (record { versions = λ path. omega (arith, (same path).0); nodes = λ path e. (same path).1 }) tree_x tree_y (λ path. omega (arith, (same path).0))

pub undoing_restores : (effect : Effect) (rows new : Volume) → IsTree rows → apply effect rows ≡ Ok new → undone (kept_rows effect rows) new ≡ rows
undoing_restores effect rows new tree e =
    let is = applied-changed effect rows new e in ap (undone (kept_rows effect rows)) is ∙ undone_change effect rows tree (e ∙ ap Ok is)
