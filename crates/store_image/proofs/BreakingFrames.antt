-- What is refused of a text is refused of a record with it, too.
use Rattle.std.proofs.Common.{◌≡◌, ℕ, ◌+◌, ◌-◌, ◌<◌, List, [], ◌++◌, length, take, drop, Err, refl, sym, ap, subst, ◌∙◌, arith, append-nil, length-append, length-take}
use Rattle.std.proofs.lemmas.List.{drop_at, take-append-drop}
use Rattle.std.proofs.Math.Seq.{take-append-add}
use Rattle.byte_fields.specs.Field.{Reader, limited, number_at, span_at, tagged_at}
use Rattle.byte_fields.specs.Codec.{Stands}
use Rattle.byte_fields.specs.Cuts.{start_of, IsCut}
use Rattle.byte_fields.specs.Broken.{IsRefused}
use Rattle.byte_fields.proofs.Codec.{failed}
use Rattle.byte_fields.proofs.Facts.{le_fails, limited_refused}
use Rattle.byte_fields.proofs.Breaking.{refused_before}

-- what is refused is refused within the bytes of a record that begins with it
pub front_refused : {A : Type 0} (read : Reader A) (text rest : List ℕ) (offset : ℕ) → IsRefused read text offset → IsRefused (limited (length (text ++ rest)) read) (text ++ rest) offset
front_refused read text rest offset refused = limited_refused (length (text ++ rest)) read (text ++ rest) offset (omega arith) (refused_before read text rest offset refused)

-- where no byte is left for a kind
pub no_kind : {A : Type 0} (kinds : List (ℕ × Reader A)) → IsRefused (limited 0 (tagged_at kinds)) [] 0
unfolding limited number_at span_at
no_kind {A} kinds bytes at next stands = rw (le_fails (at + 1) (length (take (at + 0) bytes)) (omega (arith, length-take (at + 0) bytes))) (ap (failed (A × ℕ)) (omega arith))

-- a spelling that is cut short is refused at the field in which it ends
module _ {A : Type 0} {read : Reader A} {s f : A → List ℕ} {F : A → Type 0} (cut : IsCut read s f F) where
  pub cut_refused : (x : A) (end : ℕ) → F x → end < length (s x) → IsRefused (limited (length (take end (s x))) read) (take end (s x)) (start_of end (f x))
  unfolding limited
  cut_refused x end fits lt bytes at next stands =
      let long : length (take end (s x)) ≡ end = omega (arith, length-take end (s x), lt) in
      let front = take at bytes in
      let before : length front ≡ at = omega (arith, length-take at bytes, stands.next_is, stands.within) in
      let whole = front ++ s x in
      let there : Stands whole at (s x) (at + length (s x)) = record {
        here = drop_at front (s x) at before ∙ sym (append-nil (s x)) ∙ ap (λ (rest : List ℕ). s x ++ rest) (sym (behind front (s x) (at + length (s x)) (omega (arith, before))));
        next_is = refl;
        within = omega (arith, length-append front (s x), before);
      } in
      let same : take (at + end) whole ≡ take (at + end) bytes =
      taken front (s x) at end before ∙ sym (ap (λ (all : List ℕ). take (at + end) all) (sym (take-append-drop at bytes) ∙ ap (λ (rest : List ℕ). front ++ rest) stands.here)
      ∙ taken front (take end (s x) ++ drop next bytes) at end before ∙ ap (λ (rest : List ℕ). front ++ rest) (front_of (take end (s x)) (drop next bytes) end long)) in
      let ends = cut.cut whole at x (at + length (s x)) (at + end) there fits (omega arith) (omega (arith, lt)) in
      let left : (at + end) - at ≡ end = omega arith in
      let fails : read (take (at + end) bytes) at ≡ Err (at + start_of end (f x)) = subst (λ (b : List ℕ). read b at ≡ Err (at + start_of end (f x))) same (ends ∙ ap (λ (n : ℕ). Err (at + start_of n (f x))) left) in
      subst (λ (n : ℕ). read (take (at + n) bytes) at ≡ Err (at + start_of end (f x))) (sym long) fails
    where
      behind : (xs ys : List ℕ) (n : ℕ) → n ≡ length xs + length ys → drop n (xs ++ ys) ≡ []
      behind xs ys n is = ap (λ (zs : List ℕ). drop n zs) (sym (append-nil (xs ++ ys))) ∙ drop_at (xs ++ ys) [] n (omega (arith, is, length-append xs ys))

      taken : (xs ys : List ℕ) (n m : ℕ) → length xs ≡ n → take (n + m) (xs ++ ys) ≡ xs ++ take m ys
      taken xs ys n m is = ap (λ (k : ℕ). take (k + m) (xs ++ ys)) (sym is) ∙ take-append-add xs ys m

      front_of : (xs ys : List ℕ) (n : ℕ) → length xs ≡ n → take n (xs ++ ys) ≡ xs
      front_of xs ys n is = let all : n ≡ length xs + 0 = omega (arith, is) in ap (λ (k : ℕ). take k (xs ++ ys)) all ∙ take-append-add xs ys 0 ∙ append-nil xs
