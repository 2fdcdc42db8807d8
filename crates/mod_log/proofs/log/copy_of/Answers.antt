use Rattle.std.proofs.Common.{◌∙◌, [], ◌∷◌, ◌++◌, take, sym, ap}
use Rattle.std.proofs.lemmas.List.{take_more}
use Rattle.mod_log.proofs.log.copy_of.Goals as goal

pub loop-undo-preserved : goal.loop-undo-preserved
loop-undo-preserved c =
    let undos = c.args.undos.now in
    let i = c.loop-undo.undo-index in
    let undo = c.undo-item.result in
    let one_more = take_more undos i undo c.loop-undo-test.true ∙ ap (λ u. take i undos ++ u ∷ []) (sym c.undo-item.is) in
    c.in_ok-push_copy.ensures ∙ ap (λ copied. copied ++ undo ∷ []) c.loop-undo.invariant ∙ sym one_more
