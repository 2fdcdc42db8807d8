use Rattle.std.proofs.Common.{rules, ◌≡◌, ℕ, ◌++◌, ◌∷◌, [], List, length, get_or, ap, sym, subst, ◌∙◌, arith}
use Rattle.std.proofs.lemmas.List.{get_or_append_left, get_or_push, length_push}
use borrow.Author.Count.{below_more}
use Rattle.rs_parity.specs.Limits.{max_len}
use Rattle.rs_parity.specs.Blocks.{block_of, IsParity}
use Rattle.rs_parity.specs.Sketches.{IsSketch}
use Rattle.rs_parity.proofs.Spelled.{sketches_fit_each}
use Rattle.rs_parity.proofs.sketch.sketch_of.Goals as goal

pub loop-i-preserved : goal.loop-i-preserved
loop-i-preserved c =
    let old = c.loop-i.parities in
    let new = c.push.new.self in
    let content = c.args.content.now in
    let word = λ (k : ℕ) (p : List ℕ). IsParity (block_of content k) p in
    let pushed : new ≡ old ++ c.parity.result ∷ [] = c.in_ok-push.ensures.ok in
    let kept = c.loop-i.invariant in
    record {
      size = ap length pushed ∙ length_push old c.parity.result ∙ omega arith;
      each = below_more (λ k. word k (get_or new k [])) c.loop-i.i
          (λ k h. subst (word k) (sym (ap (λ ps. get_or ps k []) pushed ∙ get_or_append_left old (c.parity.result ∷ []) [] k (omega arith))) (kept.each k h))
          (subst (word c.loop-i.i) (sym (ap (λ ps. get_or ps c.loop-i.i []) pushed ∙ get_or_push old c.parity.result [] c.loop-i.i kept.size))
          (subst (λ b. IsParity b c.parity.result) c.block.ensures c.parity.ensures));
    }

pub returns-clause-fits : goal.returns-clause-fits
returns-clause-fits c =
    let is : IsSketch c.args.content.now (record { len = length c.args.content.now; print = c.print.result; parities = c.loop-i.parities }) = search rules in
    sketches_fit_each c.args.content.now _ max_len is (omega (arith, c.requires))
