use Rattle.std.proofs.Common.{◌∙◌, sym, ap, true, false, cond, List, [], ◌∷◌, ◌++◌, map, take, Bor}
use Rattle.std.specs.Cmp.Lexicographic.{pointwise}
use Rattle.std.specs.List.{fold, list_any}
use Rattle.std.specs.Str.{bytes_eq}
use Rattle.std.proofs.lemmas.Bool.{OnFalse_at}
use Rattle.std.proofs.lemmas.List.{take_all, take_more}
use Rattle.file_paths.specs.Path.{FilePath, is_same_path}
use Rattle.tree_values.specs.Inside.{add_new}
use Rattle.tree_values.proofs.Distinct.{fold_is_distinct}
use Rattle.tree_values.proofs.Firsts.{turned, known_with, after_next}
use Rattle.tree_values.proofs.effects.distinct_paths.Goals as goal
use Rattle.tree_values.proofs.effects.distinct_paths.Goals.{then-branch+in_ok-copy+in_ok-push, else-branch}

pub loop-path-init : goal.loop-path-init
loop-path-init c =
    record {
      firsts = c.new-firsts.ensures;
      known = λ path. ap (list_any (λ (other : Bor FilePath). is_same_path path.now other.now)) c.new-known.ensures.empty ∙ sym (ap (list_any (pointwise bytes_eq path.now)) c.new-firsts.ensures);
    }

pub loop-path-preserved : goal.loop-path-preserved
loop-path-preserved c =
    let path = c.path-item.result in
    let before = take c.loop-path.path-index c.args.paths.now in
    let taken = take_more c.args.paths.now c.loop-path.path-index path c.loop-path-test.true ∙ ap (λ (next : Bor FilePath). before ++ next ∷ []) (sym c.path-item.is) in
    let to_firsts = ap (λ (paths : List (Bor FilePath)). fold add_new [] (map (λ lent. lent.now) paths)) taken in
    elim c.if-branch.branch [
      | then-branch+in_ok-copy+in_ok-push w ↦
          (let longer = w.firsts-is ∙ (w.in_ok-push.ensures.ok ∙ ap (λ copied. c.loop-path.firsts ++ copied ∷ []) w.in_ok-copy.ensures) in
          let fresh = sym (c.loop-path.invariant.known path) ∙ turned _ _ (sym w.if-branch.true ∙ c.in_ok-insert.ensures.added) in
          record {
            firsts = longer ∙ sym (to_firsts ∙ after_next before path c.loop-path.firsts false c.loop-path.invariant.firsts fresh);
            known = λ other. c.in_ok-insert.ensures.updates.0 other ∙ ap (cond (is_same_path path.now other.now) true) (c.loop-path.invariant.known other)
                ∙ sym (ap (list_any (pointwise bytes_eq other.now)) longer ∙ known_with c.loop-path.firsts path.now other.now);
          })
      | else-branch w ↦
          (let stood = sym (c.loop-path.invariant.known path) ∙ turned _ _ (sym w.if-branch.false ∙ c.in_ok-insert.ensures.added) in
          record {
            firsts = w.firsts-is ∙ sym (to_firsts ∙ after_next before path c.loop-path.firsts true c.loop-path.invariant.firsts stood);
            known = λ other. ap (list_any (λ (lent : Bor FilePath). is_same_path other.now lent.now)) (OnFalse_at w.if-branch.false c.in_ok-insert.ensures.unchanged)
                ∙ c.loop-path.invariant.known other ∙ sym (ap (list_any (pointwise bytes_eq other.now)) w.firsts-is);
          })
    ]

pub returns : goal.returns
returns c =
    c.loop-path.invariant.firsts ∙ ap (λ (paths : List (Bor FilePath)). fold add_new [] (map (λ path. path.now) paths)) (take_all c.loop-path.path-index c.args.paths.now c.loop-path-test.false)
    ∙ fold_is_distinct (map (λ path. path.now) c.args.paths.now)
