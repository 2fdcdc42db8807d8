use Rattle.std.proofs.Common.{◌≡◌, ◌+◌, length, map, ap, sym, subst, ◌∙◌, arith}
use Rattle.gf_65536.specs.Field.{gf_pow}
use Rattle.rs_parity.specs.CodeWord.{symbols}
use Rattle.rs_parity.proofs.Sums.{zip_sum}
use Rattle.rs_parity.proofs.Symbols.{length-symbols}
use Rattle.rs_repair.specs.Inside.{AreSums, AreRoots}
use Rattle.rs_repair.proofs.Check.{difference_is}
use Rattle.rs_repair.proofs.Exact.{corrected_is, later}
use Rattle.rs_repair.proofs.errors.candidate.Goals as goal

pub returns-then-not-annihilates_all-clause-none : goal.returns-then-not-annihilates_all-clause-none
returns-then-not-annihilates_all-clause-none c x bytes repair =
    let block = c.args.block.now in
    let given = c.args.given.now in
    let own = c.args.own.now in
    let row = c.locator-degree.result.0 in
    let sums = c.sums_of-sums.result in
    let rest = c.difference.ensures in
    let are_sums : AreSums (zip_sum own given) sums = subst (λ w. AreSums w sums) (difference_is own given c.difference.result rest) c.sums_of-sums.ensures in
    c.annihilates_all.ensures.no c.if-not-annihilates_all.true
    (later block given own x sums row c.locator-degree.result.1 c.requires.short (λ k. omega (arith, c.type_inv.block k)) bytes
    c.told-given rest.a_size (λ k. c.fits-given k) c.requires.own.code_word repair are_sums c.locator-degree.ensures.degree c.locator-degree.ensures.monic c.locator-degree.ensures.annihilates)

pub returns-clause-some : goal.returns-clause-some
returns-clause-some c x bytes repair =
    let block = c.args.block.now in
    let given = c.args.given.now in
    let own = c.args.own.now in
    let row = c.locator-degree.result.0 in
    let sums = c.sums_of-sums.result in
    let exponents = c.deref-2.result.now in
    let powers = c.deref-3.result.now in
    let rest = c.difference.ensures in
    let are_sums : AreSums (zip_sum own given) sums = subst (λ w. AreSums w sums) (difference_is own given c.difference.result rest) c.sums_of-sums.ensures in
    let bound : c.div_ceil.result + 32 ≡ length (symbols block) + 32 = omega (arith, length-symbols block, c.div_ceil.ensures) in
    let roots : AreRoots row (length (symbols block) + 32) exponents =
    subst (λ es. AreRoots row (length (symbols block) + 32) es) (sym c.deref-2.ensures.value) (subst (λ n. AreRoots row n c.in_ok-exponents.exponents.items) bound c.in_ok-exponents.ensures) in
    let are_powers : powers ≡ map (λ e. gf_pow 2 e) exponents = c.deref-3.ensures.value ∙ c.in_ok-powers.ensures ∙ ap (map (λ e. gf_pow 2 e)) (c.deref.ensures.value ∙ sym c.deref-2.ensures.value) in
    c.in_ok-bytes.ensures x bytes repair.size
    (λ s error h found. corrected_is block given own x sums row c.locator-degree.result.1 c.requires.short (λ k. omega (arith, c.type_inv.block k)) bytes
    c.told-given rest.a_size (λ k. c.fits-given k) c.requires.own.code_word repair are_sums c.locator-degree.ensures.degree c.locator-degree.ensures.monic c.locator-degree.ensures.annihilates
    exponents powers roots are_powers s error h found)
