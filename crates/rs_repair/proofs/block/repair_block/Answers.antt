use Rattle.std.proofs.Common.{◌≡◌, ℕ, List, ◌++◌, ap, sym, subst, ◌∙◌}
use Rattle.rs_parity.specs.Blocks.{IsParity}
use Rattle.rs_repair.specs.Inside.{IsRepair}
use Rattle.rs_repair.proofs.Check.{same_from_zero}
use Rattle.rs_repair.proofs.Unique.{whole_block}
use Rattle.rs_repair.proofs.block.repair_block.Goals as goal

pub returns-then-is_zero-clause-some : goal.returns-then-is_zero-clause-some
returns-then-is_zero-clause-some c =
    let block = c.args.block.now in
    let given = c.args.given.now in
    let own = c.parity-own.result in
    let same : own ≡ given = same_from_zero own given c.difference.result c.difference.ensures (c.is_zero.ensures.0 c.if-is_zero.true) in
    let has = subst (λ (p : List ℕ). IsParity block p) same c.parity-own.ensures in
    let copied = c.in_ok-extend_from_slice.ensures.items ∙ ap (λ b. b ++ block) c.new-bytes.ensures.items in
    subst (λ (b : List ℕ). IsRepair block given b) (sym copied) (whole_block block given has)
