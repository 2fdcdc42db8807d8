-- A block has one parity, and a content one sketch.
use Rattle.std.proofs.Common.{◌≡◌, ℕ, zero, suc, ◌*◌, ◌≤◌, List, [], ◌∷◌, ◌++◌, length, get_or, sym, ap, ◌∙◌, arith}
use Rattle.std.proofs.lemmas.Grind.{same_number_lists}
use Rattle.std.proofs.lemmas.List.{same_lists, get_or_default}
use Rattle.std.specs.Int.Bits.{bit_xor, xor_self}
use Rattle.gf_65536.specs.Field.{gf_mul, gf_pow}
use Rattle.gf_65536.proofs.Inverse.{same_from_xor}
use Rattle.rs_parity.specs.CodeWord.{symbols, sum_at}
use Rattle.rs_parity.specs.Weight.{weight}
use Rattle.rs_parity.specs.Blocks.{AreParities, OneParity, block_of}
use Rattle.rs_parity.specs.Sketches.{OneSketch}
use Rattle.rs_parity.proofs.Sums.{sum-append, sum-zip, zip_sum, length-zip, get_or-zip}
use Rattle.rs_parity.proofs.Distance.{vanish, weightless, elements-zip}

weight-≤ : (ws : List ℕ) → weight ws ≤ length ws
unfolding weight
weight-≤ [] = omega arith
weight-≤ (zero ∷ ws) = omega (arith, weight-≤ ws)
weight-≤ (suc w ∷ ws) = omega (arith, weight-≤ ws)

-- with the same front, the sums of two ends of one length are equal where both words' sums vanish
same_sums : (j : ℕ) (front a b : List ℕ) → length a ≡ length b → sum_at j (front ++ a) ≡ 0 → sum_at j (front ++ b) ≡ 0 → sum_at j a ≡ sum_at j b
same_sums j front a b size za zb =
    let head = gf_mul (sum_at j front) (gf_pow 2 (j * length b)) in
    let same_a : head ≡ sum_at j a = same_from_xor head (sum_at j a) (ap (λ n. bit_xor (gf_mul (sum_at j front) (gf_pow 2 (j * n))) (sum_at j a)) (sym size) ∙ sym (sum-append j front a) ∙ za) in
    let same_b : head ≡ sum_at j b = same_from_xor head (sum_at j b) (sym (sum-append j front b) ∙ zb) in
    sym same_a ∙ same_b

pub one_parity_each : OneParity
one_parity_each block a b pa pb =
    same_number_lists a b sizes (λ k h. same_from_xor (get_or a k 0) (get_or b k 0) (sym (get_or-zip a b k sizes) ∙ weightless (zip_sum a b) nothing k))
  where
    sizes : length a ≡ length b
    sizes = pa.check.size ∙ sym pb.check.size

    long : length (zip_sum a b) ≡ 32
    long = length-zip a b sizes ∙ pa.check.size

    nothing : weight (zip_sum a b) ≡ 0
    nothing = vanish 32 32 (zip_sum a b) long (omega arith) (elements-zip a b sizes pa.check.elements pb.check.elements)
        (omega (arith, weight-≤ (zip_sum a b), long))
        (λ j from to. sum-zip j a b sizes
        ∙ ap (λ z. bit_xor z (sum_at j b)) (same_sums j (symbols block) a b sizes (pa.code_word.vanishes j from to) (pb.code_word.vanishes j from to))
        ∙ xor_self (sum_at j b))

pub one_list : (content : List ℕ) (a b : List (List ℕ)) → AreParities content a → AreParities content b → a ≡ b
one_list content a b pa pb =
    same_lists a b (pa.count ∙ sym pb.count)
    (λ i d h.
    get_or_default a i d [] h ∙ one_parity_each (block_of content i) (get_or a i []) (get_or b i []) (pa.each i (omega (arith, pa.count))) (pb.each i (omega (arith, pa.count)))
    ∙ get_or_default b i [] d (omega (arith, pa.count, pb.count)))

pub one_sketch_each : OneSketch
one_sketch_each content a b sa sb =
    λ i. record {
      len = (sa.len ∙ sym sb.len) i;
      print = (sa.print ∙ sym sb.print) i;
      parities = one_list content a.parities b.parities sa.parities sb.parities i;
    }
