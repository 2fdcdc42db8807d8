-- Where what follows a field begins.
use Rattle.std.proofs.Common.{◌≡◌, ℕ, ◌+◌, ◌≤◌, leb, List, length, take, drop, Ok, subst}
use Rattle.std.specs.Int.{Width, byte_len, from_be_bytes}
use Rattle.std.proofs.lemmas.Bool.{leb-true}
use Rattle.byte_fields.specs.Field.{span_at, number_at}
use Rattle.byte_fields.proofs.Codec.{bind_ok, kept_ok, ok_is}

-- a span that was read ends within the bytes
pub span_within : (count : ℕ) (bytes : List ℕ) (at : ℕ) (text : List ℕ) (next : ℕ) → span_at count bytes at ≡ Ok (text, next) → next ≤ length bytes
unfolding span_at
span_within count bytes at text next e =
    let k = kept_ok (leb (at + count) (length bytes)) at (take count (drop at bytes), at + count) (text, next) e in
    subst (λ (x : List ℕ × ℕ). x.1 ≤ length bytes) k.1 (leb-true (at + count) (length bytes) k.0)

-- a number that was read ends within the bytes
pub number_within : (w : Width) (bytes : List ℕ) (at n next : ℕ) → number_at w bytes at ≡ Ok (n, next) → next ≤ length bytes
unfolding number_at
number_within w bytes at n next e =
    let b = bind_ok (span_at (byte_len w) bytes at) (λ span. Ok (from_be_bytes w span.0, span.1)) (n, next) e in
    let same = ok_is (from_be_bytes w b.0.0, b.0.1) (n, next) b.2 in
    subst (λ (x : ℕ × ℕ). x.1 ≤ length bytes) same (span_within (byte_len w) bytes at b.0.0 b.0.1 b.1)
