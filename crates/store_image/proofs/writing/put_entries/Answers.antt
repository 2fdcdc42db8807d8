use Rattle.std.proofs.Common.{◌≡◌, ℕ, zero, suc, List, [], ◌∷◌, ◌++◌, add-one, take, length, refl, sym, ap, ◌∙◌, append_assoc}
use Rattle.std.specs.Prelude.{slice_get}
use Rattle.std.specs.Int.{w32}
use Rattle.std.specs.List.{flat_map}
use Rattle.std.specs.Option.{option_to_list}
use Rattle.std.proofs.lemmas.List.Concat.{flat_map-cons}
use Rattle.byte_fields.specs.Field.{digits}
use Rattle.mod_log.specs.Log.{entry}
use Rattle.store_image.proofs.writing.put_entries.Goals as goal

-- one more item, where there is one
one_more : {X : Type 0} (f : X → List ℕ) (xs : List X) (i : ℕ) → flat_map f (take (suc i) xs) ≡ flat_map f (take i xs) ++ flat_map f (option_to_list (slice_get xs i))
one_more f [] zero = refl
one_more f [] (suc i) = refl
one_more f (x ∷ xs) zero = refl
one_more f (x ∷ xs) (suc i) =
    let last = flat_map f (option_to_list (slice_get xs i)) in
    flat_map-cons f x (take (suc i) xs) ∙ ap (λ (rest : List ℕ). f x ++ rest) (one_more f xs i)
    ∙ sym (append_assoc (f x) (flat_map f (take i xs)) last) ∙ ap (λ (front : List ℕ). front ++ last) (sym (flat_map-cons f x (take i xs)))

pub loop-i-preserved : goal.loop-i-preserved
loop-i-preserved c =
    let pending = c.args.value.now.pending in
    let i = c.loop-i.i in
    let count = digits w32 (length pending) in
    let front = flat_map entry (take i pending) in
    let last = flat_map entry (option_to_list (slice_get pending i)) in
    let whole = append_assoc c.args.out.now.items (count ++ front) last ∙ ap (λ (rest : List ℕ). c.args.out.now.items ++ rest) (append_assoc count front last ∙ ap (λ (rest : List ℕ). count ++ rest) (sym (one_more entry pending i))) in
    rw add-one (c.in_ok-put_entry.ensures ∙ ap (λ (out : List ℕ). out ++ last) c.loop-i.invariant ∙ whole)
