use Rattle.std.proofs.Common.{ℕ, List, [], ◌∷◌, ◌++◌, length, sym, subst, ap, arith}
use Rattle.std.proofs.lemmas.List.{length_push}
use Rattle.std.specs.List.{AllByRecursion}
use Rattle.rs_parity.specs.Blocks.{IsCheck}
use Rattle.rs_parity.proofs.parities.Parities.push.Goals as goal

more : (xs : List (List ℕ)) (x : List ℕ) → AllByRecursion IsCheck xs → IsCheck x → AllByRecursion IsCheck (xs ++ x ∷ [])
more [] x all one = (one, tt)
more (y ∷ xs) x all one = (all.0, more xs x all.1 one)

pub invariant_of-self-2 : goal.invariant_of-self-2
invariant_of-self-2 c =
    let items = c.in_ok-push.ensures.items in
    (omega (arith, ap length items, length_push c.self.inside.items.items c.args.item, c.len.ensures), subst (AllByRecursion IsCheck) (sym items) (more _ _ c.self.invariant.1 c.told.ensures))
