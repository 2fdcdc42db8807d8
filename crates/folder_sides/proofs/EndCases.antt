-- What is known of a path by what becomes of it.
use Rattle.std.proofs.Common.{◌≡◌, ◌⊎◌, inl, inr, Bool, true, false, not, ◌&&◌, Option, Some, None, is_some, cond, refl, sym, ap, ◌∙◌}
use Rattle.std.proofs.Common.{true≢false}
use Rattle.std.specs.Cmp.Lexicographic.{bytes_decides}
use Rattle.tree_values.specs.declared.node.Node.{Node}
use Rattle.tree_values.specs.declared.node.Node.TheVariants.{Folder, File}
use Rattle.file_paths.specs.Path.{FilePath}
use Rattle.cmd_capture.specs.Rows.{node_in}
use Rattle.folder_sides.specs.declared.sides.Sides.{Sides}
use Rattle.folder_sides.specs.declared.ends.End.{End}
use Rattle.folder_sides.specs.declared.ends.End.TheVariants.{Same, Lay, Own, Both}
use Rattle.folder_sides.specs.Sides.{is_same_node, is_same, end_by, end_alone, end_within, end_of, stays_in, comes_in, is_taken, is_both, is_conflict}

-- ---- one node

pub same_node_is : (a b : Node) → is_same_node a b ≡ true → a ≡ b
same_node_is Folder Folder h = refl
same_node_is Folder (File c exec) h = absurd (true≢false (sym h))
same_node_is (File c exec) Folder h = absurd (true≢false (sym h))
same_node_is (File c true) (File d true) h = ap (λ b. File b true) ((bytes_decides c d).0 h)
same_node_is (File c true) (File d false) h = absurd (true≢false (sym h))
same_node_is (File c false) (File d true) h = absurd (true≢false (sym h))
same_node_is (File c false) (File d false) h = ap (λ b. File b false) ((bytes_decides c d).0 h)

pub own_node : (a : Node) → is_same_node a a ≡ true
own_node Folder = refl
own_node (File c true) = (bytes_decides c c).1 refl
own_node (File c false) = (bytes_decides c c).1 refl

pub same_is : (a b : Option Node) → is_same a b ≡ true → a ≡ b
same_is None None h = refl
same_is None (Some b) h = absurd (true≢false (sym h))
same_is (Some a) None h = absurd (true≢false (sym h))
same_is (Some a) (Some b) h = ap (λ n. Some n) (same_node_is a b h)

pub is_same_itself : (a : Option Node) → is_same a a ≡ true
is_same_itself None = refl
is_same_itself (Some a) = own_node a

pub is_same_of : (a b : Option Node) → a ≡ b → is_same a b ≡ true
is_same_of a b e = ap (is_same a) (sym e) ∙ is_same_itself a

-- ---- a path alone

pub same_by : (laid here logged : Option Node) → end_by laid here logged ≡ Same → here ≡ logged
same_by laid here logged h = by (is_same here logged) refl (is_same here laid) (is_same logged laid) (not (is_some here)) (not (is_some logged)) h
  where
    by : (a : Bool) → is_same here logged ≡ a → (b c d e : Bool)
        → cond a Same (cond b Lay (cond c Own (cond d Lay (cond e Own Both)))) ≡ Same → here ≡ logged
    by true is b c d e h = same_is here logged is
    by false is true c d e h = absurd cc
    by false is false true d e h = absurd cc
    by false is false false true e h = absurd cc
    by false is false false false true h = absurd cc
    by false is false false false false h = absurd cc

none_of : (o : Option Node) → not (is_some o) ≡ true → o ≡ None
none_of None h = refl
none_of (Some n) h = absurd (true≢false (sym h))

pub lay_by : (laid here logged : Option Node) → end_by laid here logged ≡ Lay → (here ≡ laid) ⊎ (here ≡ None)
lay_by laid here logged h = by (is_same here logged) (is_same here laid) refl (is_same logged laid) (not (is_some here)) refl (not (is_some logged)) h
  where
    by : (a b : Bool) → is_same here laid ≡ b → (c d : Bool) → not (is_some here) ≡ d → (e : Bool)
        → cond a Same (cond b Lay (cond c Own (cond d Lay (cond e Own Both)))) ≡ Lay → (here ≡ laid) ⊎ (here ≡ None)
    by true b is c d none e h = absurd cc
    by false true is c d none e h = inl (same_is here laid is)
    by false false is true d none e h = absurd cc
    by false false is false true none e h = inr (none_of here none)
    by false false is false false none true h = absurd cc
    by false false is false false none false h = absurd cc

pub own_by : (laid here logged : Option Node) → end_by laid here logged ≡ Own → (logged ≡ laid) ⊎ (logged ≡ None)
own_by laid here logged h = by (is_same here logged) (is_same here laid) (is_same logged laid) refl (not (is_some here)) (not (is_some logged)) refl h
  where
    by : (a b c : Bool) → is_same logged laid ≡ c → (d e : Bool) → not (is_some logged) ≡ e
        → cond a Same (cond b Lay (cond c Own (cond d Lay (cond e Own Both)))) ≡ Own → (logged ≡ laid) ⊎ (logged ≡ None)
    by true b c is d e none h = absurd cc
    by false true c is d e none h = absurd cc
    by false false true is d e none h = inl (same_is logged laid is)
    by false false false is true e none h = absurd cc
    by false false false is false true none h = inr (none_of logged none)
    by false false false is false false none h = absurd cc

pub alone_same : (laid here logged : Option Node) → here ≡ logged → end_by laid here logged ≡ Same
alone_same laid here logged e = rw (is_same_of here logged e) refl

-- ---- a path with what lies below it

same_within : (alone : End) (s c : Bool) (h l : Option Node) → end_within alone s c h l ≡ Same → alone ≡ Same
same_within Same s c h l e = refl
same_within Lay true c h None e = absurd cc
same_within Lay true c h (Some l) e = absurd cc
same_within Lay false c h l e = absurd cc
same_within Own s true None l e = absurd cc
same_within Own s true (Some h) l e = absurd cc
same_within Own s false h l e = absurd cc
same_within Both s c h l e = absurd cc

lay_within : (alone : End) (s c : Bool) (h l : Option Node) → end_within alone s c h l ≡ Lay
    → ((alone ≡ Lay) × (s ≡ false)) ⊎ ((alone ≡ Own) × (c ≡ true) × (h ≡ None))
lay_within Same s c h l e = absurd cc
lay_within Lay true c h None e = absurd cc
lay_within Lay true c h (Some l) e = absurd cc
lay_within Lay false c h l e = inl (refl, refl)
lay_within Own s true None l e = inr (refl, refl, refl)
lay_within Own s true (Some h) l e = absurd cc
lay_within Own s false h l e = absurd cc
lay_within Both s c h l e = absurd cc

own_within : (alone : End) (s c : Bool) (h l : Option Node) → end_within alone s c h l ≡ Own
    → ((alone ≡ Own) × (c ≡ false)) ⊎ ((alone ≡ Lay) × (s ≡ true) × (l ≡ None))
own_within Same s c h l e = absurd cc
own_within Lay true c h None e = inr (refl, refl, refl)
own_within Lay true c h (Some l) e = absurd cc
own_within Lay false c h l e = absurd cc
own_within Own s true None l e = absurd cc
own_within Own s true (Some h) l e = absurd cc
own_within Own s false h l e = inl (refl, refl)
own_within Both s c h l e = absurd cc

-- where not both are changes, nothing that has no row is in the way
unless_both : (t : Bool) (e w : End) → cond t Both e ≡ w → (w ≡ Both → ⊥) → e ≡ w
unless_both true e w h unlike = absurd (unlike (sym h))
unless_both false e w h unlike = h

module _ (sides : Sides) (path : FilePath) where
  abbrev here : Option Node
  here = node_in sides.here path

  abbrev logged : Option Node
  logged = node_in sides.logged path

  abbrev within : End
  within = end_within (end_alone sides path) (stays_in sides path) (comes_in sides path) here logged

  abbrev in_the_way : Bool
  in_the_way = is_taken sides path && is_some logged

  pub same_end : end_of sides path ≡ Same → end_alone sides path ≡ Same
  same_end h =
      same_within (end_alone sides path) (stays_in sides path) (comes_in sides path) here logged
      (unless_both in_the_way within Same h (λ e. absurd cc))

  pub lay_end : end_of sides path ≡ Lay
      → ((end_alone sides path ≡ Lay) × (stays_in sides path ≡ false))
      ⊎ ((end_alone sides path ≡ Own) × (comes_in sides path ≡ true) × (node_in sides.here path ≡ None))
  lay_end h =
      lay_within (end_alone sides path) (stays_in sides path) (comes_in sides path) here logged
      (unless_both in_the_way within Lay h (λ e. absurd cc))

  pub own_end_of : end_of sides path ≡ Own
      → ((end_alone sides path ≡ Own) × (comes_in sides path ≡ false))
      ⊎ ((end_alone sides path ≡ Lay) × (stays_in sides path ≡ true) × (node_in sides.logged path ≡ None))
  own_end_of h =
      own_within (end_alone sides path) (stays_in sides path) (comes_in sides path) here logged
      (unless_both in_the_way within Own h (λ e. absurd cc))

  pub not_both : is_conflict sides path ≡ false → end_of sides path ≡ Both → ⊥
  not_both none e = true≢false (sym (ap is_both e) ∙ none)
