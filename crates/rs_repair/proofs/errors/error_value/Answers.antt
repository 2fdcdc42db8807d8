use Rattle.std.proofs.Common.{ℕ, get_or, ap, sym, ◌∙◌}
use Rattle.gf_65536.specs.Field.{gf_mul, gf_pow}
use Rattle.rs_repair.specs.Inside.{reduced}
use Rattle.rs_repair.proofs.Values.{reduced_same, reduced-append, gap-append}
use Rattle.rs_repair.proofs.errors.error_value.Goals as goal

pub returns : goal.returns
returns c =
    let sums = c.args.sums.now in
    let before = c.args.before.now in
    let after = c.args.after.now in
    let x = c.args.x in
    let f = λ (k : ℕ). get_or sums k 0 in
    let sum = c.reduced_by_all-2.ensures 0 ∙ reduced_same after _ (reduced before f) c.reduced_by_all.ensures 0 ∙ sym (reduced-append before after f 0) in
    let scale = c.mul-scale.ensures ∙ ap (gf_mul x) (c.mul.ensures ∙ (λ i. gf_mul (c.gap_of.ensures i) (c.gap_of-2.ensures i)) ∙ sym (gap-append x before after)) in
    c.mul-2.ensures ∙ (λ i. gf_mul (sum i) ((c.pow.ensures ∙ ap (λ s. gf_pow s 65534) scale) i))
