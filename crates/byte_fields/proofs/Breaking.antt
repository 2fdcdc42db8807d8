-- The laws of values that break a rule.
use Rattle.std.proofs.Common.{◌≡◌, ◌≢◌, ℕ, zero, suc, ◌+◌, ◌^◌, ◌<◌, Bool, true, false, ◌&&◌, List, [], ◌∷◌, ◌++◌, length, Err, refl, sym, ap, subst, ◌∙◌, arith, append_assoc, length-append}
use Rattle.std.specs.Int.{w32}
use Rattle.std.specs.List.{flat_map, AllByRecursion}
use Rattle.std.proofs.lemmas.List.Concat.{flat_map-cons}
use Rattle.byte_fields.specs.Field.{Reader, ◌>>=◌, ruled, mapped, number_at, digits, tagged_at, of_kind, each_at, EachFits}
use Rattle.byte_fields.specs.Codec.{IsCodec}
use Rattle.byte_fields.specs.Broken.{IsRead, IsRefused, EachIsRead, RulesAreOfTheirField, MeaningsAreOfTheirField, LaterFieldsAreRefusedLater, ItemsAreRefusedInTheirPlace}
use Rattle.byte_fields.proofs.Facts.{four_bytes, eq_fails}
use Rattle.byte_fields.proofs.Codec.{failed, stands_first, stands_second, u8_codec, u32_codec, ruled_codec, counted}

-- what fits is read from its spelling
pub read_again : {A : Type 0} {read : Reader A} {s : A → List ℕ} {F : A → Type 0} → IsCodec read s F → (x : A) → F x → IsRead read (s x) x
read_again codec x fits bytes at next stands = codec.again bytes at x next stands fits

-- a fault at another place that is the same
pub refused_there : {A : Type 0} (read : Reader A) (text : List ℕ) (offset offset' : ℕ) → offset ≡ offset' → IsRefused read text offset → IsRefused read text offset'
refused_there read text offset offset' e is = subst (IsRefused read text) e is

pub refused_text : {A : Type 0} (read : Reader A) (text text' : List ℕ) (offset : ℕ) → text ≡ text' → IsRefused read text offset → IsRefused read text' offset
refused_text read text text' offset e is = subst (λ (t : List ℕ). IsRefused read t offset) e is

pub rule_refused : {A : Type 0} → RulesAreOfTheirField A
unfolding ruled
rule_refused {A} read rule text x is broken bytes at next stands =
    rw (is bytes at next stands, broken) (ap (failed (A × ℕ)) (omega arith))

pub meaning_refused : {A B E : Type 0} → MeaningsAreOfTheirField A B E
unfolding mapped
meaning_refused {A} {B} read meaning text x cause is none bytes at next stands =
    rw (is bytes at next stands, none) (ap (failed (B × ℕ)) (omega arith))

-- what is refused as a field is refused before its rule is tried
pub ruled_refused : {A : Type 0} (read : Reader A) (rule : A → Bool) (text : List ℕ) (offset : ℕ) → IsRefused read text offset → IsRefused (ruled rule read) text offset
unfolding ruled
ruled_refused read rule text offset is bytes at next stands = rw (is bytes at next stands) refl

pub first_refused : {A B : Type 0} (first : Reader A) (later : A → Reader B) (text : List ℕ) (offset : ℕ) → IsRefused first text offset → IsRefused (λ bytes at. first bytes at >>= λ y. later y.0 bytes y.1) text offset
first_refused first later text offset is bytes at next stands = rw (is bytes at next stands) refl

pub later_refused : {A B : Type 0} → LaterFieldsAreRefusedLater A B
later_refused {A} {B} first later text more x offset is refused bytes at next stands =
    rw (is bytes at (at + length text) (stands_first bytes at text more next stands), refused bytes (at + length text) next (stands_second bytes at text more next stands)) (ap (failed (B × ℕ)) (omega arith))

-- more bytes behind those that are refused
pub refused_before : {A : Type 0} (read : Reader A) (text more : List ℕ) (offset : ℕ) → IsRefused read text offset → IsRefused read (text ++ more) offset
refused_before read text more offset is bytes at next stands = is bytes at (at + length text) (stands_first bytes at text more next stands)

-- ---- kinds

-- what is refused behind a kind
pub tagged_refused : {A : Type 0} (kinds : List (ℕ × Reader A)) (kind : ℕ) (read : Reader A) (text : List ℕ) (offset : ℕ) → kind < 2 ^ 8 → ((tag at : ℕ) (bytes : List ℕ) → of_kind kinds tag kind bytes at ≡ read bytes at)
    → IsRefused read text offset → IsRefused (tagged_at kinds) (kind ∷ text) (1 + offset)
tagged_refused {A} kinds kind read text offset byte is refused bytes at next stands =
    rw (u8_codec.again bytes at kind (at + 1) (stands_first bytes at (kind ∷ []) text next stands) byte, is at (at + 1) bytes, refused bytes (at + 1) next (stands_second bytes at (kind ∷ []) text next stands)) (ap (failed (A × ℕ)) (omega arith))

-- a kind that is none of the list
pub kind_refused : {A : Type 0} (kinds : List (ℕ × Reader A)) (kind : ℕ) → kind < 2 ^ 8 → ((tag at : ℕ) (bytes : List ℕ) → of_kind kinds tag kind bytes at ≡ Err tag) → IsRefused (tagged_at kinds) (kind ∷ []) 0
kind_refused {A} kinds kind byte is bytes at next stands =
    rw (u8_codec.again bytes at kind (at + 1) (stands_first bytes at (kind ∷ []) [] next stands) byte, is at (at + 1) bytes) (ap (failed (A × ℕ)) (omega arith))

-- a number that is none of the kinds
pub unknown_kind : {A : Type 0} (kinds : List (ℕ × Reader A)) (kind : ℕ) → kind < 2 ^ 8 → AllByRecursion (λ known. kind ≢ known.0) kinds → IsRefused (tagged_at kinds) (kind ∷ []) 0
unknown_kind {A} kinds kind byte none = kind_refused kinds kind byte (λ tag at bytes. by kinds none tag at bytes)
  where
    by : (rest : List (ℕ × Reader A)) → AllByRecursion (λ known. kind ≢ known.0) rest → (tag at : ℕ) (bytes : List ℕ) → of_kind rest tag kind bytes at ≡ Err tag
    by [] all tag at bytes = refl
    by (first ∷ others) all tag at bytes = rw (eq_fails kind first.0 all.0) (by others all.1 tag at bytes)

-- ---- rules of numbers

pub second_fails : (a b : Bool) → b ≡ false → (a && b) ≡ false
second_fails true b e = e
second_fails false b e = refl

-- ---- a count, and what is as long as it

module _ {A : Type 0} (rule : ℕ → Bool) (items : ℕ → Reader A) (count : ℕ) (small : count < 2 ^ 32) where
  pub count_refused : rule count ≡ false → IsRefused (counted (ruled rule (number_at w32)) items) (digits w32 count) 0
  count_refused broken = first_refused (ruled rule (number_at w32)) items (digits w32 count) 0 (rule_refused (number_at w32) rule (digits w32 count) count (read_again u32_codec count small) broken)

  pub counted_refused : rule count ≡ true → (text : List ℕ) (offset : ℕ) → IsRefused (items count) text offset → IsRefused (counted (ruled rule (number_at w32)) items) (digits w32 count ++ text) (4 + offset)
  counted_refused kept text offset refused =
      refused_there (counted (ruled rule (number_at w32)) items) (digits w32 count ++ text) (length (digits w32 count) + offset) (4 + offset) (omega (arith, four_bytes count))
      (later_refused (ruled rule (number_at w32)) items (digits w32 count) text count offset (read_again (ruled_codec rule u32_codec) count (small, kept)) refused)

-- ---- items

first_item_refused : {S A : Type 0} (item : S → Reader A) (after : S → A → S) (state : S) (n : ℕ) (text : List ℕ) (offset : ℕ) → IsRefused (item state) text offset → IsRefused (each_at item after (suc n) state) text offset
unfolding each_at
first_item_refused item after state n text offset refused bytes at next stands = rw (refused bytes at next stands) refl

later_item_refused : {S A : Type 0} (item : S → Reader A) (after : S → A → S) (state : S) (n : ℕ) (first : List ℕ) (x : A) (text : List ℕ) (offset : ℕ) → IsRead (item state) first x → IsRefused (each_at item after n (after state x)) text offset
    → IsRefused (each_at item after (suc n) state) (first ++ text) (length first + offset)
unfolding each_at
later_item_refused {S} {A} item after state n first x text offset is refused bytes at next stands =
    rw (is bytes at (at + length first) (stands_first bytes at first text next stands), refused bytes (at + length first) next (stands_second bytes at first text next stands)) (ap (failed (List A × ℕ)) (omega arith))

pub items_refused : {S A : Type 0} → ItemsAreRefusedInTheirPlace S A
items_refused item after spelling state [] zero text offset reads few refused = absurd (omega arith)
items_refused item after spelling state (x ∷ xs) zero text offset reads few refused = absurd (omega arith)
items_refused item after spelling state [] (suc n) text offset reads few refused =
    refused_there (each_at item after (suc n) state) text offset (length (flat_map spelling []) + offset) (omega arith) (first_item_refused item after state n text offset refused)
items_refused item after spelling state (x ∷ xs) (suc n) text offset reads few refused =
    let rest = items_refused item after spelling (after state x) xs n text offset reads.1 (omega (arith, few)) refused in
    let step = later_item_refused item after state n (spelling x) x (flat_map spelling xs ++ text) (length (flat_map spelling xs) + offset) reads.0 rest in
    let same : spelling x ++ (flat_map spelling xs ++ text) ≡ flat_map spelling (x ∷ xs) ++ text = sym (ap (λ (t : List ℕ). t ++ text) (flat_map-cons spelling x xs) ∙ append_assoc (spelling x) (flat_map spelling xs) text) in
    let long : length (spelling x) + (length (flat_map spelling xs) + offset) ≡ length (flat_map spelling (x ∷ xs)) + offset = omega (arith, ap length (flat_map-cons spelling x xs), length-append (spelling x) (flat_map spelling xs)) in
    refused_there (each_at item after (suc n) state) (flat_map spelling (x ∷ xs) ++ text) _ _ long (refused_text (each_at item after (suc n) state) _ _ _ same step)

-- items that fit are read from their spellings
pub each_read : {S A : Type 0} (item : S → Reader A) (after : S → A → S) (spelling : A → List ℕ) (Fits : S → A → Type 0) → ((state : S) → IsCodec (item state) spelling (Fits state)) → (state : S) (xs : List A) → EachFits Fits after state xs → EachIsRead item after spelling state xs
each_read item after spelling Fits codec state [] fits = tt
each_read item after spelling Fits codec state (x ∷ xs) fits = (read_again (codec state) x fits.0, each_read item after spelling Fits codec (after state x) xs fits.1)
