use Rattle.std.proofs.Common.{arith, ap, ◌≡◌, ◌++◌, ◌∙◌, List, ℕ, length}
use Rattle.frame_parts.specs.declared.front.Front.{Front}
use Rattle.frame_parts.specs.Fronts.{fronts_in, there}
use Rattle.frame_parts.proofs.Putting.{puts_from}
use Rattle.frame_parts.proofs.front.Fronts.put.Goals as goal

pub returns-clause-put : goal.returns-clause-put
returns-clause-put c =
    let is : c.count_there-there.result ≡ length (there c.args.part.now (fronts_in c.args.self.now)) =
    c.count_there-there.ensures ∙ ap (λ (l : List Front). length (there c.args.part.now l)) c.deref.ensures.value in
    puts_from _ c.args.part.now c.args.piece.now c.args.now _ _ _ _ _ _ c.settle.result (omega (arith, is)) is
    (c.in_ok-extend_from_slice.ensures.items ∙ ap (λ (l : List ℕ). l ++ c.args.piece.now) c.take_front-front.ensures.front.bytes)
    c.take_front-front.ensures.front.seen c.take_front-front.ensures.others c.settle.ensures.put
