use Rattle.std.proofs.Common.{arith, sym, ◌∙◌}
use Rattle.std.proofs.lemmas.Option.{gets}
use Rattle.std.proofs.lemmas.Bool.Decides.{Decides-eqb}
use Rattle.std.proofs.lemmas.Slice.Eq.{slice_eq-Decides}
use Rattle.frame_parts.proofs.fronts.is_named.Goals as goal

pub returns-then-client-part : goal.returns-then-client-part
returns-then-client-part c =
    let same = slice_eq-Decides Decides-eqb _ _ _ c.eq.ensures in
    (λ holds. record { client = grind (arith, gets); print = sym c.digest.ensures ∙ same.0 holds }, λ named. same.1 (c.digest.ensures ∙ named.print))
