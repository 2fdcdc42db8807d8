use Rattle.std.proofs.Common.{◌≡◌, ◌≢◌, ℕ, ◌<◌, [], List, get_or, set, drop, ap, sym, subst, ◌∙◌, arith}
use Rattle.std.proofs.lemmas.List.{length-set, get_or-set_same, get_or-set_other}
use borrow.Author.Count.{below_more}
use Rattle.gf_65536.specs.Field.{gf_mul}
use Rattle.rs_repair.specs.Inside.{pairing, IsPlusMultiple}
use Rattle.rs_repair.proofs.Pairings.{pairing_cleared, pairing_below}
use Rattle.rs_repair.proofs.elimination.clear_above.Goals as goal

pub loop-i-preserved : goal.loop-i-preserved
loop-i-preserved c =
    let old = c.args.basis.now in
    let now = c.loop-i.basis in
    let i = c.loop-i.i in
    let pivot = c.args.pivot in
    let row = get_or old pivot [] in
    let new = c.plus_multiple.result in
    let sums = drop c.args.place c.args.sums.now in
    let kept = c.loop-i.invariant in
    let other = λ (k : ℕ) (ne : k ≢ i). get_or-set_other now i k new [] ne in
    let same = get_or-set_same now i new [] (omega arith) in
    let factor_is = c.mul-factor.ensures ∙ ap (λ v. gf_mul v c.inv-inverse.result) c.paired-in-loop-i.ensures in
    let added : IsPlusMultiple (get_or now i []) row (gf_mul (pairing (get_or now i []) sums) c.inv-inverse.result) new =
    subst (λ f. IsPlusMultiple (get_or now i []) row f new) factor_is c.plus_multiple.ensures in
    let inverse = ap (λ v. gf_mul v c.inv-inverse.result) (sym c.paired.ensures) ∙ c.inv-inverse.ensures in
    let before = kept.above i (omega arith) in
    record {
      size = length-set now i new ∙ kept.size;
      above = λ k h. other k (λ e. absurd (omega arith)) ∙ kept.above k (omega arith);
      kept = λ k h. other k (λ e. absurd (omega arith)) ∙ kept.kept k h;
      cleared = λ k from to. below_more
          (λ k. pivot < k → (factor : ℕ) × IsPlusMultiple (get_or old k []) row factor (get_or (set now i new) k []) × (pairing (get_or (set now i new) k []) sums ≡ 0)) i
          (λ k h from. subst (λ (r : List ℕ). (factor : ℕ) × IsPlusMultiple (get_or old k []) row factor r × (pairing r sums ≡ 0)) (sym (other k (λ e. absurd (omega arith)))) (kept.cleared k from h))
          (λ from. subst (λ (r : List ℕ). (factor : ℕ) × IsPlusMultiple (get_or old i []) row factor r × (pairing r sums ≡ 0)) (sym same) (
            _,
            subst (λ (r : List ℕ). IsPlusMultiple r row (gf_mul (pairing (get_or now i []) sums) c.inv-inverse.result) new) before added,
            pairing_cleared (get_or now i []) row new sums c.inv-inverse.result inverse (pairing_below (get_or now i []) sums) added,
          ))
          k to from;
    }
