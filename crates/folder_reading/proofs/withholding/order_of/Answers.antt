use Rattle.std.proofs.Common.{◌≡◌, refl, rules, tests}
use Rattle.std.specs.Ordering.{nat_cmp}
use Rattle.std.specs.Cmp.Lexicographic.{slice_cmp}
use Rattle.std.proofs.lemmas.Iterator.Search.{cmp_from_yields_List}
use Rattle.std.proofs.lemmas.Iterator.Splits.{YieldsList-from_slice_split}
use Rattle.folder_reading.proofs.withholding.order_of.Goals as goal

pub returns : goal.returns
returns c =
    cmp_from_yields_List (λ x y. y ≡ x) _ (slice_cmp nat_cmp) _ c.cmp.ensures.ran
    (YieldsList-from_slice_split _ _ c.args.one.now c.split.ensures.rest c.split.ensures.done c.split.ensures.closure (λ x r q k. search (rules, tests)))
    (λ it e. rw e (YieldsList-from_slice_split _ _ c.args.other.now c.split-2.ensures.rest c.split-2.ensures.done c.split-2.ensures.closure (λ x r q k. search (rules, tests))))
    (λ x y. refl)
