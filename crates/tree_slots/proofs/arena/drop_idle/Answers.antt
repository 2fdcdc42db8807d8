use Rattle.std.proofs.Common.{◌∙◌, sym, rules, arith, vec_len, vec_capacity, ◌<◌, ◌++◌, ◌∷◌, []}
use Rattle.tree_slots.proofs.Shrunk.{dropped, child_within}
use Rattle.tree_slots.proofs.Pool.{dropped_pool, roomy}
use Rattle.tree_slots.proofs.Used.{dropped_used, not_idle, used_nowhere, no_folder_slot, no_name_slot}
use Rattle.tree_slots.proofs.arena.drop_idle.Goals as goal

pub returns-clause-arena : goal.returns-clause-arena
returns-clause-arena c =
    let at = rw c.deref.ensures.value at (sym c.descend.ensures.slot ∙ c.in-Some.is) in
    let found = rw (c.in-Ok.is, c.deref-2.ensures.value) at c.search.ensures.found in
    (dropped c.args.slots.now.items c.in-Some.at c.in-Ok.k c.child_of-child.result c.args.name.now c.unlink.new.self c.index_mut.result.now c.index.result.now c.requires.arena c.args.folder.now at found c.index_mut.ensures.value c.unlink.ensures
    (rw c.deref-3.ensures.value at c.child_of-child.ensures.child) c.index.ensures (c.is_idle.ensures.version (search rules)) (c.is_idle.ensures.leaf (search rules))).0

pub returns-clause-rows : goal.returns-clause-rows
returns-clause-rows c =
    let at = rw c.deref.ensures.value at (sym c.descend.ensures.slot ∙ c.in-Some.is) in
    let found = rw (c.in-Ok.is, c.deref-2.ensures.value) at c.search.ensures.found in
    (dropped c.args.slots.now.items c.in-Some.at c.in-Ok.k c.child_of-child.result c.args.name.now c.unlink.new.self c.index_mut.result.now c.index.result.now c.requires.arena c.args.folder.now at found c.index_mut.ensures.value c.unlink.ensures
    (rw c.deref-3.ensures.value at c.child_of-child.ensures.child) c.index.ensures (c.is_idle.ensures.version (search rules)) (c.is_idle.ensures.leaf (search rules))).1

pub returns-clause-pool : goal.returns-clause-pool
returns-clause-pool c =
    let found = rw (c.in-Ok.is, c.deref-2.ensures.value) at c.search.ensures.found in
    let both = dropped_pool c.args.slots.now.items c.args.free.now.items (vec_capacity c.args.free.now) c.in-Some.at c.in-Ok.k c.child_of-child.result c.unlink.new.self c.index_mut.result.now c.index.result.now c.requires.arena.linked c.requires.pool
    (child_within c.args.slots.now.items c.in-Some.at c.in-Ok.k found.within) found.within c.index_mut.ensures.value c.unlink.ensures (rw c.deref-3.ensures.value at c.child_of-child.ensures.child) c.index.ensures (c.is_idle.ensures.leaf (search rules)) in
    let room : vec_len c.args.free.now < vec_capacity c.args.free.now = omega (arith, both.0, c.args.free.now.ok.0) in
    let ok = c.push.ensures.succeeds room in
    let pushed = rw ok at c.push.ensures.items in
    rw pushed (roomy _ (c.args.free.now.items ++ c.child_of-child.result ∷ []) (vec_capacity c.args.free.now) (vec_capacity c.push.new.self) c.push.ensures.capacity both.1)

pub returns-clause-dropped : goal.returns-clause-dropped
returns-clause-dropped c =
    let at = rw c.deref.ensures.value at (sym c.descend.ensures.slot ∙ c.in-Some.is) in
    let found = rw (c.in-Ok.is, c.deref-2.ensures.value) at c.search.ensures.found in
    λ yes. dropped_used c.args.slots.now.items c.args.free.now.items (vec_capacity c.args.free.now) c.in-Some.at c.in-Ok.k c.child_of-child.result c.args.name.now c.unlink.new.self c.index_mut.result.now c.index.result.now c.requires.arena c.requires.pool c.args.folder.now at found c.index_mut.ensures.value c.unlink.ensures
    (rw c.deref-3.ensures.value at c.child_of-child.ensures.child) c.index.ensures (c.is_idle.ensures.version (search rules)) (c.is_idle.ensures.leaf (search rules)) c.requires.used

pub returns-in_default-clause-kept : goal.returns-in_default-clause-kept
returns-in_default-clause-kept c =
    let none = rw c.deref.ensures.value at (sym c.descend.ensures.slot ∙ c.in_default.is) in
    λ no. used_nowhere c.args.slots.now.items (c.args.folder.now ++ c.args.name.now ∷ []) (no_folder_slot c.args.slots.now.items c.args.folder.now c.args.name.now none) c.requires.used

pub returns-in_default-0₀-clause-kept : goal.returns-in_default-0₀-clause-kept
returns-in_default-0₀-clause-kept c =
    let at = rw c.deref.ensures.value at (sym c.descend.ensures.slot ∙ c.in-Some.is) in
    let missing = rw (c.in_default-0₀.is, c.deref-2.ensures.value) at c.search.ensures.missing in
    λ no. used_nowhere c.args.slots.now.items (c.args.folder.now ++ c.args.name.now ∷ []) (no_name_slot c.args.slots.now.items c.args.folder.now c.args.name.now c.in-Some.at c.in_default-0₀.field-0 at missing) c.requires.used

pub returns-then-not-is_idle-clause-kept : goal.returns-then-not-is_idle-clause-kept
returns-then-not-is_idle-clause-kept c =
    let at = rw c.deref.ensures.value at (sym c.descend.ensures.slot ∙ c.in-Some.is) in
    let found = rw (c.in-Ok.is, c.deref-2.ensures.value) at c.search.ensures.found in
    λ no. not_idle c.args.slots.now.items c.args.folder.now c.args.name.now c.in-Some.at c.in-Ok.k c.child_of-child.result c.index.result.now c.requires.arena at found (rw c.deref-3.ensures.value at c.child_of-child.ensures.child) c.index.ensures (c.is_idle.ensures.busy (search rules)) c.requires.used
