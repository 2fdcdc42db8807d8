use Rattle.std.proofs.Common.{◌≡◌, ◌<◌, ◌∙◌, ap, length, ℕ, true, arith}
use Rattle.std.specs.Prelude.{nat_lt}
use Rattle.std.specs.Ordering.{is_lt}
use Rattle.std.proofs.lemmas.Bool.Decides.{nat_tests}
use Rattle.work_area.proofs.Searching.{last_row_tells}
use Rattle.work_area.proofs.rows.is_above_all.Goals as goal

is_some : (n : ℕ) → true ≡ nat_lt 0 n → 0 < n
is_some n h = grind (arith, nat_tests)

pub returns-in-Some : goal.returns-in-Some
returns-in-Some c =
    let h = c.in-Some.ensures.item in
    c.is_lt.ensures ∙ ap is_lt c.cmp.ensures
    ∙ last_row_tells c.args.rows.now c.in-Some.last.now c.args.path.now c.requires (is_some (length c.args.rows.now) h.0) h.1
