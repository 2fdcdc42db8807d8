-- Records, as they are spelled and taken piece by piece.
use Rattle.std.proofs.Common.{◌≡◌, ℕ, suc, zero, ◌+◌, ◌-◌, ◌<◌, ◌≤◌, List, [], ◌∷◌, ◌++◌, length, Ok, refl, sym, ap, ◌∙◌, append_assoc, arith, length-append}
use Rattle.std.specs.Prelude.{slice_index_or}
use Rattle.std.specs.Int.{w8, w32, w64}
use Rattle.std.specs.List.{sum_by, flat_map}
use Rattle.std.proofs.lemmas.List.Concat.{length-flat_map}
use Rattle.byte_fields.specs.Field.{digits, number_at, ruled}
use Rattle.byte_fields.specs.Numbers.{as_u64}
use Rattle.byte_fields.proofs.Facts.{four_bytes, eight_bytes, le_holds, lt_holds}
use Rattle.tree_values.specs.declared.node.Effect.{Effect}
use Rattle.tree_values.specs.Spelling.{effect, effects, EffectsFit}
use Rattle.tree_values.proofs.Sizes.{effects_size}
use Rattle.tree_values.specs.declared.format.Format.{Format}
use Rattle.store_image.specs.declared.image.ServerImage.{ServerImage}
use Rattle.store_image.specs.declared.record.ClientRecord.TheVariants.{Acked}
use Rattle.store_image.specs.Reading.{applied_effects_at}
use Rattle.store_image.specs.Records.{client_record, server_note, server_record, last_of, made_taken, taken_at}
use Rattle.store_image.proofs.Taken.{taken_size}

-- the record of a number
pub acked_record : (old : List ℕ) (number : ℕ) → ((old ++ digits w32 9) ++ 2 ∷ []) ++ digits w64 number ≡ old ++ client_record (Acked number)
acked_record old number =
    let text = digits w64 number in
    let size : 9 ≡ length (2 ∷ text) = omega (arith, eight_bytes number) in
    append_assoc (old ++ digits w32 9) (2 ∷ []) text ∙ append_assoc old (digits w32 9) (2 ∷ text) ∙ ap (λ (n : ℕ). old ++ (digits w32 n ++ 2 ∷ text)) size

-- how many bytes effects take
pub effects_sum : (es : List Effect) → EffectsFit es → (length (effects es) ≡ 4 + as_u64 (sum_by (λ e. length (effect e)) es)) × (length (effects es) ≤ 41963524)
effects_sum es fits =
    let size = effects_size es fits in
    (omega (arith, length-append (digits w32 (length es)) (flat_map effect es), four_bytes (length es), length-flat_map effect es, size), size)

-- the record of effects that were taken
pub taken_record : (old : List ℕ) (size client last : ℕ) (es : List Effect) → size ≡ 10 + length (effects es)
    → ((((old ++ digits w32 size) ++ 3 ∷ []) ++ client ∷ []) ++ digits w64 last) ++ effects es ≡ old ++ server_record (made_taken client last es)
taken_record old size client last es is =
    let number = digits w64 last in
    let front = old ++ digits w32 size in
    let text = server_note (made_taken client last es) in
    append_assoc ((front ++ 3 ∷ []) ++ client ∷ []) number (effects es) ∙ append_assoc (front ++ 3 ∷ []) (client ∷ []) (number ++ effects es)
    ∙ append_assoc front (3 ∷ []) (client ∷ (number ++ effects es)) ∙ append_assoc old (digits w32 size) text
    ∙ ap (λ (n : ℕ). old ++ (digits w32 n ++ text)) (is ∙ sym (taken_size (made_taken client last es)))

-- the last number of a client stands one place before its number
pub last_at : (image : ServerImage) (client : ℕ) → 1 ≤ client → last_of image client ≡ slice_index_or image.last (client - 1) 0
last_at image zero some = absurd (omega arith)
last_at image (suc i) some = let same : i ≡ suc i - 1 = omega arith in ap (λ (n : ℕ). slice_index_or image.last n 0) same

-- what is read of a record field by field
pub taken_reads : (format : Format) (image : ServerImage) (bytes : List ℕ) (at client middle last start : ℕ) (es : List Effect) (next : ℕ) → number_at w8 bytes at ≡ Ok (client, middle) → 1 ≤ client → client ≤ 64
    → number_at w64 bytes middle ≡ Ok (last, start) → last_of image client < last → applied_effects_at format image.tree bytes start ≡ Ok (es, next) → taken_at format image bytes at ≡ Ok (made_taken client last es, next)
unfolding taken_at ruled
taken_reads format image bytes at client middle last start es next read some few read' later read'' = rw (read, le_holds 1 client some, le_holds client 64 few, read', lt_holds (last_of image client) last later, read'') refl
