-- One block more of a repaired content.
use Rattle.std.proofs.Common.{◌≡◌, ℕ, ◌+◌, ◌-◌, ◌*◌, ◌/◌, ◌%◌, ◌<◌, ◌≤◌, ⊎_elim, List, [], ◌++◌, min, length, get_or, take, drop, sym, ap, ◌∙◌, subst, arith, lit<}
use Rattle.std.proofs.lemmas.Bool.{cases_lt}
use Rattle.std.proofs.lemmas.List.{length-append, length-take, length-drop, take_all, drop_at, drop-append-le, take-append-le, get_or-take, get_or-drop, get_or_past}
use Rattle.std.proofs.lemmas.Grind.{same_number_lists}
use Rattle.std.proofs.lemmas.Nat.{div-add-mod'}
use Rattle.std.proofs.Math.Nat.{mod-lt}
use Rattle.std.specs.Int.{div_ceil}
use borrow.Author.Count.{below_more}
use Rattle.rs_parity.specs.Blocks.{block_of, block_count, blocks_in}
use Rattle.rs_parity.specs.declared.sketch.Sketch.{Sketch}
use Rattle.byte_fields.specs.Codec.{IsBytes}
use Rattle.rs_repair.specs.Repair.{Repairs, OneRepair, NearContentsAreRepaired}
use Rattle.rs_repair.specs.Inside.{IsRepair}
use Rattle.rs_repair.proofs.Unique.{one_repair_each}

front_short : (n : ℕ) (xs : List ℕ) → length (take n xs) ≤ n
front_short n xs = omega (arith, length-take n xs)

pub place_within : (len i blocks : ℕ) → blocks ≡ div_ceil len 131006 → i < blocks → i * 131006 < len
place_within len i blocks is h = omega arith

pub count_within : (len i blocks : ℕ) → blocks ≡ div_ceil len 131006 → i < blocks → i < (len + (131006 - 1)) / 131006
count_within len i blocks is h = omega arith

pub block_short : (xs : List ℕ) (i : ℕ) → length (block_of xs i) ≤ 131006
block_short xs i = front_short 131006 (drop (i * 131006) xs)

past_end : (m k : ℕ) → m ≤ 131006 → 131006 ≤ k → m ≤ k
past_end m k short past = omega arith

pub block_bytes : (xs : List ℕ) (i : ℕ) → IsBytes xs → IsBytes (block_of xs i)
block_bytes xs i h k = ⊎_elim
    (λ l. let e = sym (get_or-take 131006 (drop (i * 131006) xs) k 0 l ∙ get_or-drop (i * 131006) xs k 0) in subst (λ v. v < 256) e (h (i * 131006 + k)))
    (λ past. let e : 0 ≡ get_or (block_of xs i) k 0 = sym (get_or_past (block_of xs i) k 0 (past_end (length (block_of xs i)) k (block_short xs i) past)) in subst (λ v. v < 256) e (lit< tt))
    (cases_lt k 131006)

module _ (content bytes part : List ℕ) (parities : List (List ℕ)) (i : ℕ) (within : i * 131006 < length content) (size : length bytes ≡ min (i * 131006) (length content))
    (each : (k : ℕ) → k < i → IsRepair (block_of content k) (get_or parities k []) (block_of bytes k))
    (last : IsRepair (block_of content i) (get_or parities i []) part) where
  front : length bytes ≡ i * 131006
  front = omega arith

  part_size : length part ≡ min 131006 (length content - i * 131006)
  part_size = last.size ∙ length-take 131006 (drop (i * 131006) content) ∙ omega (arith, length-drop (i * 131006) content)

  pub size_more : length (bytes ++ part) ≡ min ((i + 1) * 131006) (length content)
  size_more = omega (arith, length-append bytes part, front, part_size)

  earlier : (k : ℕ) → k < i → block_of (bytes ++ part) k ≡ block_of bytes k
  earlier k h =
      let from : k * 131006 ≤ length bytes = omega (arith, front) in
      let enough : 131006 ≤ length (drop (k * 131006) bytes) = omega (arith, front, length-drop (k * 131006) bytes) in
      ap (take 131006) (drop-append-le (k * 131006) bytes part from) ∙ take-append-le 131006 (drop (k * 131006) bytes) part enough

  here : block_of (bytes ++ part) i ≡ part
  here = ap (take 131006) (drop_at bytes part (i * 131006) front) ∙ take_all 131006 part (omega (arith, part_size))

  pub each_more : (k : ℕ) → k < i + 1 → IsRepair (block_of content k) (get_or parities k []) (block_of (bytes ++ part) k)
  each_more = below_more (λ k. IsRepair (block_of content k) (get_or parities k []) (block_of (bytes ++ part) k)) i
      (λ k h. subst (λ (b : List ℕ). IsRepair (block_of content k) (get_or parities k []) b) (sym (earlier k h)) (each k h))
      (subst (λ (b : List ℕ). IsRepair (block_of content i) (get_or parities i []) b) (sym here) last)

same_length : (n m : ℕ) (a b : List ℕ) → length a ≡ length b → length (take n (drop m a)) ≡ length (take n (drop m b))
same_length n m a b e = length-take n (drop m a) ∙ ap (min n) (length-drop m a ∙ ap (λ l. l - m) e ∙ sym (length-drop m b)) ∙ sym (length-take n (drop m b))

same_from_blocks : (n : ℕ) (x y : List ℕ) → 0 < n → length x ≡ length y → ((i : ℕ) → i * n < length x → take n (drop (i * n) x) ≡ take n (drop (i * n) y)) → x ≡ y
same_from_blocks n x y some size same = same_number_lists x y size (λ k h. at x k ∙ ap (λ b. get_or b (k % n) 0) (same (k / n) (omega (arith, div-add-mod' k n))) ∙ sym (at y k))
  where
    at : (xs : List ℕ) (k : ℕ) → get_or xs k 0 ≡ get_or (take n (drop (k / n * n) xs)) (k % n) 0
    at xs k = ap (λ m. get_or xs m 0) (sym (div-add-mod' k n)) ∙ sym (get_or-drop (k / n * n) xs (k % n) 0) ∙ sym (get_or-take n (drop (k / n * n) xs) (k % n) 0 (mod-lt k some))

count_of : (len i : ℕ) → i * 131006 < len → i < (len + (131006 - 1)) / 131006
count_of len i h = omega arith

module _ (content x : List ℕ) (sketch : Sketch) where
  pub repair_at : Repairs content sketch x → (i : ℕ) → i < block_count content → IsRepair (block_of content i) (get_or sketch.parities i []) (block_of x i)
  repair_at repairs i h = record {
    size = same_length 131006 (i * 131006) x content (sym repairs.near.len);
    near = repairs.near.blocks i h;
    has_parity = repairs.parities.each i (subst (λ n. i < blocks_in n) repairs.near.len h);
  }

pub one_repair_whole : OneRepair
one_repair_whole content sketch x y bx by rx ry =
    same_from_blocks 131006 x y (lit< tt) (rx.len ∙ sym ry.len)
    (λ i h. let within = subst (λ n. i < blocks_in n) (sym rx.near.len) (count_of (length x) i h) in
    one_repair_each (block_of content i) (get_or sketch.parities i []) (block_of x i) (block_of y i) (block_short content i) (block_bytes x i bx) (block_bytes y i by)
    (repair_at content x sketch rx i within) (repair_at content y sketch ry i within))

pub near_contents_whole : NearContentsAreRepaired
near_contents_whole content sketched sketch near is = record { len = sym is.len; near = near; parities = is.parities }
