use Rattle.std.proofs.Common.{◌∷◌, get_or, replicate, refl, ap, ◌∙◌, arith}
use Rattle.std.proofs.lemmas.List.{length-set}
use Rattle.gf_65536.proofs.Windows.{first_multiples, next_multiples}
use Rattle.gf_65536.proofs.multiples_of.Goals as goal

pub loop-half-init : goal.loop-half-init
loop-half-init c = record {
  size = refl;
  each = λ w h. ap (λ v. get_or (0 ∷ v ∷ replicate 14 0) w 0) c.from-single.ensures ∙ first_multiples c.args.a w (replicate 14 0) (omega arith) h;
}

pub loop-half-preserved : goal.loop-half-preserved
loop-half-preserved c =
    let half = c.loop-half.half in
    let entries = c.loop-half.multiples in
    record {
      size = length-set _ _ _ ∙ length-set _ _ _ ∙ c.loop-half.invariant.size;
      each = λ w h. next_multiples c.args.a c.from-single.result half entries (omega arith) c.from-single.ensures (omega arith) c.loop-half-test.true c.loop-half.invariant.size c.loop-half.invariant.each w (omega arith);
    }
