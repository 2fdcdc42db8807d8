use Rattle.std.proofs.Common.{◌≡◌, ◌+◌, Some, None, OnOk, refl, sym, ap, ◌∙◌, subst, arith, find}
use Rattle.std.proofs.lemmas.Result.{IfOk-weaker}
use Rattle.tree_values.specs.Tree.{version_at}
use Rattle.tree_values.specs.Effects.{apply_all}
use Rattle.world_rules.specs.Served.{Served, StoreVerdict, Outdated, verdict, served_after}
use Rattle.server_core.specs.declared.server.Looked.TheVariants as looks
use Rattle.server_core.specs.Holding.{Holding, last_number, served}
use Rattle.server_core.specs.Inside.{is_outdated, conflict_at, IsLookedAs, IsTakenAs}
use Rattle.server_core.proofs.Cases.{stale, current, found, found_none}
use Rattle.server_core.proofs.Looking.{taken_looked, served_current}
use Rattle.server_core.proofs.server.Server.look.Goals as goal

pub returns-in-Some-clause-ok : goal.returns-in-Some-clause-ok
returns-in-Some-clause-ok c =
    let holding = c.args.self.now in
    let base = c.in-Some.base.now in
    let entry = c.args.entry.now in
    let rows : c.self.inside.tree ≡ holding.rows = ap (λ (h : Holding). h.rows) c.self.view_is in
    let next : c.args.number ≡ last_number holding.last c.args.client + 1 = omega (arith, c.last-last.ensures.last) in
    let is : Some base ≡ find (is_outdated holding.rows) entry.base = rw (← c.as_slice.ensures.items, ← rows) c.in-Some.ensures in
    let path = c.in_ok-path.ensures in
    let theirs : c.version-theirs.result ≡ version_at holding.rows base.path = rw (← rows) c.version-theirs.ensures in
    let judged = stale c.args.client c.args.number entry.effects entry.base (served holding) (conflict_at holding.rows base) next (found holding.rows entry.base base is) in
    let seen : IsLookedAs (Outdated (conflict_at holding.rows base)) (looks.Outdated c.in_ok-path.path c.version-theirs.result base.version) = rw (path, theirs) refl in
    subst (λ (j : StoreVerdict). IsLookedAs j (looks.Outdated c.in_ok-path.path c.version-theirs.result base.version)) (sym judged) seen

pub returns-in-Some-clause-state : goal.returns-in-Some-clause-state
returns-in-Some-clause-state c =
    let holding = c.args.self.now in
    let base = c.in-Some.base.now in
    let entry = c.args.entry.now in
    let rows : c.self.inside.tree ≡ holding.rows = ap (λ (h : Holding). h.rows) c.self.view_is in
    let next : c.args.number ≡ last_number holding.last c.args.client + 1 = omega (arith, c.last-last.ensures.last) in
    let is : Some base ≡ find (is_outdated holding.rows) entry.base = rw (← c.as_slice.ensures.items, ← rows) c.in-Some.ensures in
    let judged = stale c.args.client c.args.number entry.effects entry.base (served holding) (conflict_at holding.rows base) next (found holding.rows entry.base base is) in
    ap (λ (j : StoreVerdict). served_after c.args.client c.args.number j (served holding)) (sym judged)

pub returns-clause-ok : goal.returns-clause-ok
returns-clause-ok c =
    let holding = c.args.self.now in
    let entry = c.args.entry.now in
    let rows : c.self.inside.tree ≡ holding.rows = ap (λ (h : Holding). h.rows) c.self.view_is in
    let next : c.args.number ≡ last_number holding.last c.args.client + 1 = omega (arith, c.last-last.ensures.last) in
    let is : None ≡ find (is_outdated holding.rows) entry.base = rw (← c.as_slice.ensures.items, ← rows) c.in_default.ensures in
    let judged = current c.args.client c.args.number entry.effects entry.base (served holding) next (found_none holding.rows entry.base is) in
    let applied = apply_all 0 entry.effects holding.rows in
    IfOk-weaker c.take.result (IsTakenAs applied) (IsLookedAs (verdict c.args.client c.args.number entry.effects entry.base (served holding)))
    (λ looked seen. subst (λ (j : StoreVerdict). IsLookedAs j looked) (sym judged) (taken_looked applied looked seen))
    c.take.ensures.ok

pub returns-clause-state : goal.returns-clause-state
returns-clause-state c =
    let holding = c.args.self.now in
    let entry = c.args.entry.now in
    let rows : c.self.inside.tree ≡ holding.rows = ap (λ (h : Holding). h.rows) c.self.view_is in
    let next : c.args.number ≡ last_number holding.last c.args.client + 1 = omega (arith, c.last-last.ensures.last) in
    let is : None ≡ find (is_outdated holding.rows) entry.base = rw (← c.as_slice.ensures.items, ← rows) c.in_default.ensures in
    let judged = current c.args.client c.args.number entry.effects entry.base (served holding) next (found_none holding.rows entry.base is) in
    let same = served_current c.args.client c.args.number (apply_all 0 entry.effects holding.rows) (served holding) ∙ ap (λ (j : StoreVerdict). served_after c.args.client c.args.number j (served holding)) (sym judged) in
    subst (λ (s : Served). OnOk c.take.result (served c.take.new.self ≡ s)) same c.take.ensures.state
