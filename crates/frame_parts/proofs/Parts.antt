-- Parts that are read.
use Rattle.std.proofs.Common.{◌≡◌, ◌≤◌, ◌<◌, ℕ, ◌+◌, ◌-◌, ◌^◌, List, [], ◌∷◌, ◌++◌, length, take, drop, slice_index, refl, sym, ap, ◌∙◌, arith, subst, w32, take_at, drop_at, drop-cons, drop-drop, take-append-drop, take_all, length-take, length-drop, length-append}
use Rattle.std.specs.Int.{to_be_bytes, from_be_bytes}
use Rattle.frame_parts.specs.declared.part.Part.{Part}
use Rattle.frame_parts.specs.declared.have.Have.{Have}
use Rattle.frame_parts.specs.Limits.{max_frame}
use Rattle.frame_parts.specs.Spelling.{mark, part_spelled, have_spelled, part_in, piece_in, have_in, Fits, IsPart, HasPart, IsHave, HasHave}
use Rattle.frame_parts.proofs.Numbers.{IsBytes, four_at, four_back, four_below, four_again}

-- the bytes behind a place are some of them, and those behind
split_at : (place count next : ℕ) (bytes : List ℕ) → next ≡ place + count → take count (drop place bytes) ++ drop next bytes ≡ drop place bytes
split_at place count next bytes is =
    ap (λ (n : ℕ). take count (drop place bytes) ++ drop n bytes) is
    ∙ ap (λ (l : List ℕ). take count (drop place bytes) ++ l) (sym (drop-drop count place bytes))
    ∙ take-append-drop count (drop place bytes)

-- the three bytes behind the length
three : (bytes : List ℕ) → 7 ≤ length bytes
    → (slice_index bytes 4 ∷ slice_index bytes 5 ∷ slice_index bytes 6 ∷ []) ++ drop 7 bytes ≡ drop 4 bytes
three bytes long =
    ap (λ (l : List ℕ). slice_index bytes 4 ∷ slice_index bytes 5 ∷ l) (sym (drop-cons bytes 6 0 (omega (arith, long))))
    ∙ ap (λ (l : List ℕ). slice_index bytes 4 ∷ l) (sym (drop-cons bytes 5 0 (omega (arith, long))))
    ∙ sym (drop-cons bytes 4 0 (omega (arith, long)))

-- the head behind those, and the piece
behind : (bytes : List ℕ) → IsBytes bytes → 47 ≤ length bytes
    → (part_in bytes).print ++ (to_be_bytes w32 (part_in bytes).size ++ (to_be_bytes w32 (part_in bytes).at ++ piece_in bytes)) ≡ drop 7 bytes
behind bytes are long =
    let at : to_be_bytes w32 (part_in bytes).at ++ piece_in bytes ≡ drop 43 bytes =
    ap (λ (l : List ℕ). l ++ piece_in bytes) (four_back 43 bytes are (omega (arith, long))) ∙ split_at 43 4 47 bytes refl in
    let size : to_be_bytes w32 (part_in bytes).size ++ (to_be_bytes w32 (part_in bytes).at ++ piece_in bytes) ≡ drop 39 bytes =
    ap (λ (l : List ℕ). to_be_bytes w32 (part_in bytes).size ++ l) at
    ∙ ap (λ (l : List ℕ). l ++ drop 43 bytes) (four_back 39 bytes are (omega (arith, long))) ∙ split_at 39 4 43 bytes refl in
    ap (λ (l : List ℕ). (part_in bytes).print ++ l) size ∙ split_at 7 32 39 bytes refl

length-piece : (bytes : List ℕ) → 47 ≤ length bytes → length bytes - 4 ≡ 43 + length (piece_in bytes)
length-piece bytes long = omega (arith, long, length-drop 47 bytes)

-- bytes that begin as a part does are the frame of what they say
pub is_spelled : (bytes : List ℕ) → IsBytes bytes → HasPart bytes → bytes ≡ part_spelled (part_in bytes) (piece_in bytes)
is_spelled bytes are form =
    let long : 47 ≤ length bytes = form.0 in
    let front : take 4 bytes ≡ to_be_bytes w32 (43 + length (piece_in bytes)) =
    form.2 ∙ ap (λ (n : ℕ). to_be_bytes w32 n) (length-piece bytes long) in
    let rest : (mark ∷ 1 ∷ slice_index bytes 6 ∷ []) ++ drop 7 bytes ≡ drop 4 bytes =
    ap (λ (n : ℕ). n ∷ 1 ∷ slice_index bytes 6 ∷ drop 7 bytes) (sym form.3)
    ∙ ap (λ (n : ℕ). slice_index bytes 4 ∷ n ∷ slice_index bytes 6 ∷ drop 7 bytes) (sym form.4)
    ∙ three bytes (omega (arith, long)) in
    sym (take-append-drop 4 bytes)
    ∙ ap (λ (l : List ℕ). take 4 bytes ++ l) (sym rest)
    ∙ ap (λ (l : List ℕ). l ++ ((mark ∷ 1 ∷ slice_index bytes 6 ∷ []) ++ drop 7 bytes)) front
    ∙ ap (λ (l : List ℕ). to_be_bytes w32 (43 + length (piece_in bytes)) ++ ((mark ∷ 1 ∷ slice_index bytes 6 ∷ []) ++ l)) (sym (behind bytes are long))

pub found : (bytes piece : List ℕ) (part : Part) → IsBytes bytes → HasPart bytes → part ≡ part_in bytes → piece ≡ piece_in bytes
    → part.at + length piece ≤ part.size → part.size ≤ max_frame → IsPart bytes part piece
found bytes piece part are form is rest within size = record {
  fits = record {
    client = subst (λ (p : Part). p.client < 256) (sym is) (are 6);
    print = ap (λ (p : Part). length p.print) is ∙ omega (arith, form.0, length-take 32 (drop 7 bytes), length-drop 7 bytes);
    within = within;
    size = size;
    short = omega (arith, form.0, form.1, ap (λ (l : List ℕ). length l) rest, length-drop 47 bytes);
  };
  same = is_spelled bytes are form ∙ ap (λ (p : Part). part_spelled p (piece_in bytes)) (sym is) ∙ ap (part_spelled part) (sym rest);
}

-- what a part's frame says

length-spelled : (part : Part) (piece : List ℕ) → length part.print ≡ 32 → length (part_spelled part piece) ≡ 47 + length piece
length-spelled part piece whole = omega (arith, whole, length-append part.print (to_be_bytes w32 part.size ++ (to_be_bytes w32 part.at ++ piece)))

behind_print : (part : Part) (piece : List ℕ) → length part.print ≡ 32
    → drop 39 (part_spelled part piece) ≡ to_be_bytes w32 part.size ++ (to_be_bytes w32 part.at ++ piece)
behind_print part piece whole = drop_at part.print (to_be_bytes w32 part.size ++ (to_be_bytes w32 part.at ++ piece)) 32 whole

behind_size : (part : Part) (piece : List ℕ) → length part.print ≡ 32 → drop 43 (part_spelled part piece) ≡ to_be_bytes w32 part.at ++ piece
behind_size part piece whole = sym (drop-drop 4 39 (part_spelled part piece)) ∙ ap (drop 4) (behind_print part piece whole)

pub piece_of_spelled : (part : Part) (piece : List ℕ) → length part.print ≡ 32 → piece_in (part_spelled part piece) ≡ piece
piece_of_spelled part piece whole = sym (drop-drop 4 43 (part_spelled part piece)) ∙ ap (drop 4) (behind_size part piece whole)

pub part_of_spelled : (part : Part) (piece : List ℕ) → Fits part piece → part_in (part_spelled part piece) ≡ part
part_of_spelled part piece fits =
    let print : take 32 (drop 7 (part_spelled part piece)) ≡ part.print =
    take_at part.print (to_be_bytes w32 part.size ++ (to_be_bytes w32 part.at ++ piece)) 32 fits.print in
    let size : from_be_bytes w32 (four_at 39 (part_spelled part piece)) ≡ part.size =
    ap (λ (l : List ℕ). from_be_bytes w32 (take 4 l)) (behind_print part piece fits.print)
    ∙ four_again part.size (omega (arith, fits.size)) in
    let at : from_be_bytes w32 (four_at 43 (part_spelled part piece)) ≡ part.at =
    ap (λ (l : List ℕ). from_be_bytes w32 (take 4 l)) (behind_size part piece fits.print)
    ∙ four_again part.at (omega (arith, fits.size, fits.within)) in
    ap (λ (l : List ℕ). record { client = part.client; print = l; size = from_be_bytes w32 (four_at 39 (part_spelled part piece)); at = from_be_bytes w32 (four_at 43 (part_spelled part piece)) }) print
    ∙ ap (λ (n : ℕ). record { client = part.client; print = part.print; size = n; at = from_be_bytes w32 (four_at 43 (part_spelled part piece)) }) size
    ∙ ap (λ (n : ℕ). record { client = part.client; print = part.print; size = part.size; at = n }) at

has_spelled : (part : Part) (piece : List ℕ) → Fits part piece → HasPart (part_spelled part piece)
has_spelled part piece fits =
    let long = length-spelled part piece fits.print in
    (omega (arith, long), omega (arith, long, fits.short), ap (λ (n : ℕ). to_be_bytes w32 n) (omega (arith, long)), refl, refl)

-- the bytes are the frame of no other part
pub no_other : (bytes : List ℕ) (part : Part) (piece : List ℕ) → IsPart bytes part piece
    → HasPart bytes × (part_in bytes ≡ part) × (piece_in bytes ≡ piece)
no_other bytes part piece is = (
  subst HasPart (sym is.same) (has_spelled part piece is.fits),
  ap part_in is.same ∙ part_of_spelled part piece is.fits,
  ap piece_in is.same ∙ piece_of_spelled part piece is.fits.print,
)

pub refused_form : (bytes : List ℕ) (part : Part) (piece : List ℕ) → (HasPart bytes → ⊥) → IsPart bytes part piece → ⊥
refused_form bytes part piece other is = other (no_other bytes part piece is).0

pub refused_size : (bytes read : List ℕ) (told part : Part) (piece : List ℕ) → told ≡ part_in bytes → read ≡ piece_in bytes
    → ((told.at + length read ≤ told.size) × (told.size ≤ max_frame) → ⊥) → IsPart bytes part piece → ⊥
refused_size bytes read told part piece says rest beyond is =
    let parts = no_other bytes part piece is in
    let same : part ≡ told = sym parts.1 ∙ sym says in
    let pieces : piece ≡ read = sym parts.2 ∙ sym rest in
    let fits : Fits told read = subst (λ (l : List ℕ). Fits told l) pieces (subst (λ (p : Part). Fits p piece) same is.fits) in
    beyond (fits.within, fits.size)

pub same_part : (bytes : List ℕ) (part other : Part) (piece piece' : List ℕ) → IsPart bytes part piece → IsPart bytes other piece'
    → (part ≡ other) × (piece ≡ piece')
same_part bytes part other piece piece' one two =
    let first = no_other bytes part piece one in
    let second = no_other bytes other piece' two in
    (sym first.1 ∙ second.1, sym first.2 ∙ second.2)

-- answers to parts

have_is : (bytes : List ℕ) → IsBytes bytes → HasHave bytes → bytes ≡ have_spelled (have_in bytes)
have_is bytes are form =
    let long : 11 ≤ length bytes = omega (arith, form.0) in
    let last : to_be_bytes w32 (have_in bytes).count ≡ drop 7 bytes =
    four_back 7 bytes are (omega (arith, long)) ∙ take_all 4 (drop 7 bytes) (omega (arith, form.0, length-drop 7 bytes)) in
    drop-cons bytes 0 0 (omega (arith, long))
    ∙ ap (λ (l : List ℕ). slice_index bytes 0 ∷ l) (drop-cons bytes 1 0 (omega (arith, long)))
    ∙ ap (λ (l : List ℕ). slice_index bytes 0 ∷ slice_index bytes 1 ∷ l) (drop-cons bytes 2 0 (omega (arith, long)))
    ∙ ap (λ (l : List ℕ). slice_index bytes 0 ∷ slice_index bytes 1 ∷ slice_index bytes 2 ∷ l) (drop-cons bytes 3 0 (omega (arith, long)))
    ∙ ap (λ (n : ℕ). n ∷ slice_index bytes 1 ∷ slice_index bytes 2 ∷ slice_index bytes 3 ∷ drop 4 bytes) form.1
    ∙ ap (λ (n : ℕ). 0 ∷ n ∷ slice_index bytes 2 ∷ slice_index bytes 3 ∷ drop 4 bytes) form.2
    ∙ ap (λ (n : ℕ). 0 ∷ 0 ∷ n ∷ slice_index bytes 3 ∷ drop 4 bytes) form.3
    ∙ ap (λ (n : ℕ). 0 ∷ 0 ∷ 0 ∷ n ∷ drop 4 bytes) form.4
    ∙ ap (λ (l : List ℕ). 0 ∷ 0 ∷ 0 ∷ 7 ∷ l) (sym (three bytes (omega (arith, long))))
    ∙ ap (λ (n : ℕ). 0 ∷ 0 ∷ 0 ∷ 7 ∷ n ∷ slice_index bytes 5 ∷ slice_index bytes 6 ∷ drop 7 bytes) form.5
    ∙ ap (λ (n : ℕ). 0 ∷ 0 ∷ 0 ∷ 7 ∷ mark ∷ n ∷ slice_index bytes 6 ∷ drop 7 bytes) form.6
    ∙ ap (λ (l : List ℕ). 0 ∷ 0 ∷ 0 ∷ 7 ∷ mark ∷ 2 ∷ slice_index bytes 6 ∷ l) (sym last)

pub found_have : (bytes : List ℕ) (have : Have) → IsBytes bytes → HasHave bytes → have ≡ have_in bytes → IsHave bytes have
found_have bytes have are form is = record {
  client = subst (λ (h : Have). h.client < 256) (sym is) (are 6);
  count = subst (λ (h : Have). h.count < 2 ^ 32) (sym is) (four_below 7 bytes are);
  same = have_is bytes are form ∙ ap have_spelled (sym is);
}

-- the bytes are of no other answer
pub same_have : (bytes : List ℕ) (have other : Have) → IsHave bytes have → IsHave bytes other → have ≡ other
same_have bytes have other one two =
    let same : have_spelled have ≡ have_spelled other = sym one.same ∙ two.same in
    let client : have.client ≡ other.client = ap (λ (l : List ℕ). slice_index l 6) same in
    let count : have.count ≡ other.count =
    sym (four_again have.count one.count) ∙ ap (λ (l : List ℕ). from_be_bytes w32 (drop 7 l)) same ∙ four_again other.count two.count in
    ap (λ (n : ℕ). record { client = n; count = have.count }) client
    ∙ ap (λ (n : ℕ). record { client = other.client; count = n }) count
