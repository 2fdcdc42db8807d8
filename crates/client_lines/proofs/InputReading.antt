-- Reading an input piece by piece.
use Rattle.std.proofs.Common.{◌≡◌, ℕ, zero, suc, ◌+◌, ◌-◌, ◌≤◌, List, [], ◌∷◌, ◌++◌, length, take, Option, None, Some, Ok, refl, sym, ◌∙◌, ap, arith}
use Rattle.std.proofs.lemmas.List.{append-nil, take_all, length-append}
use Rattle.outside.specs.Outside.{Told, Reads, Takes}
use Rattle.outside.proofs.Taking.{takes_nothing, takes_then, takes_read}
use Rattle.client_lines.specs.declared.input.InputEnd.{InputEnd}
use Rattle.client_lines.specs.declared.input.InputEnd.TheVariants.{Read, Failed, TooLong}
use Rattle.client_lines.specs.Limits.{max_input}
use Rattle.client_lines.specs.Input.{last_at, Reading, IsAtEnd, EndsAt, ReadsPiece, within_limit, lines_at}
use Rattle.shell_lang.specs.Lines.{cut_lines, whole_lines, unfinished, lines_of, last_line}
use Rattle.shell_lang.proofs.Cutting.{piece_added, all_lines_taken}
use Rattle.store_image.proofs.Appended.{take_none, take_past}
use Rattle.client_lines.proofs.SoFar.{HasRead}

-- nothing was read
pub no_piece : (left rest : Option (List ℕ)) (reading : Reading) (end : InputEnd) → Takes left rest [] → EndsAt rest reading.count end → ReadsPiece left rest reading reading (Some end)
no_piece left rest reading end taken ended = record {
  piece = [];
  taken = taken;
  count = omega arith;
  bytes = sym (append-nil reading.bytes) ∙ ap (λ (l : List ℕ). reading.bytes ++ l) (sym (take_none (max_input - reading.count)));
  ended = ended;
}

-- a read of nothing is at the end
pub at_end : (E : Type 0) (left rest : Option (List ℕ)) (buf : List ℕ) → Told left rest (λ old new. Reads {E = E} old new buf (Ok 0)) → IsAtEnd rest
at_end E None None buf reads = tt
at_end E None (Some y) buf reads = absurd (cc reads)
at_end E (Some x) None buf reads = tt
at_end E (Some x) (Some y) buf reads = reads.2 ∙ reads.3 refl

-- the end of the input
pub end_piece : (E : Type 0) (left rest : Option (List ℕ)) (reading : Reading) (buf : List ℕ) (n : ℕ)
    → Told left rest (λ before after. Reads {E = E} before after buf (Ok n)) → n ≡ 0 → reading.count ≤ max_input → ReadsPiece left rest reading reading (Some Read)
end_piece E left rest reading buf zero reads none few =
    no_piece left rest reading Read (takes_read E left rest buf 0 reads) (at_end E left rest buf reads, few)
end_piece E left rest reading buf (suc n) reads none few = absurd (omega arith)

-- ---- the lines that are behind

-- nothing was read yet
pub has_read_none : (left : Option (List ℕ)) (reading : Reading) → reading ≡ record { bytes = []; count = 0 } → HasRead left left reading []
has_read_none left reading is = record {
  input = [];
  taken = takes_nothing left;
  count = ap (λ (r : Reading). r.count) is;
  cut = ap cut_lines (take_none max_input) ∙ ap cut_lines (sym (ap (λ (r : Reading). r.bytes) is));
}

-- one more piece was read
pub has_read_piece : (left mid rest : Option (List ℕ)) (old new : Reading) (behind : List (List ℕ)) (end : Option InputEnd)
    → HasRead left mid old behind → old.count ≤ max_input → ReadsPiece mid rest old new end → HasRead left rest new behind
has_read_piece left mid rest old new behind end before few reads =
    let short : length before.input ≤ max_input = omega (arith, before.count) in
    let whole : within_limit before.input ≡ before.input = take_all max_input before.input short in
    let piece : within_limit (before.input ++ reads.piece) ≡ before.input ++ take (max_input - old.count) reads.piece =
    take_past max_input before.input reads.piece short ∙ ap (λ (k : ℕ). before.input ++ take (max_input - k) reads.piece) (sym before.count) in
    record {
      input = before.input ++ reads.piece;
      taken = takes_then left mid rest before.input reads.piece before.taken reads.taken;
      count = reads.count ∙ ap (λ (k : ℕ). k + length reads.piece) before.count ∙ sym (length-append before.input reads.piece);
      cut =
          ap cut_lines piece
          ∙ piece_added behind before.input old.bytes (take (max_input - old.count) reads.piece) (ap cut_lines (sym whole) ∙ before.cut)
          ∙ ap (λ (l : List ℕ). behind ++ cut_lines l) (sym reads.bytes);
    }

-- no line is left: those behind, and the last one where it is a line, are the lines of the input
pub has_read_all : (left rest : Option (List ℕ)) (reading : Reading) (behind : List (List ℕ)) (end : InputEnd) (now : HasRead left rest reading behind)
    → cut_lines reading.bytes ≡ reading.bytes ∷ [] → EndsAt rest reading.count end → lines_at end now.input ≡ behind ++ last_at end reading.bytes
has_read_all left rest reading behind Read now none ended =
    let short : length now.input ≤ max_input = omega (arith, now.count, ended.1) in
    let whole : within_limit now.input ≡ now.input = take_all max_input now.input short in
    let lines : (whole_lines (within_limit now.input) ≡ behind) × (unfinished (within_limit now.input) ≡ reading.bytes) =
    all_lines_taken behind (within_limit now.input) reading.bytes now.cut none in
    ap lines_of (sym whole) ∙ ap (λ (l : List (List ℕ)). l ++ last_line (unfinished (within_limit now.input))) lines.0 ∙ ap (λ (l : List ℕ). behind ++ last_line l) lines.1
has_read_all left rest reading behind Failed now none ended =
    let short : length now.input ≤ max_input = omega (arith, now.count) in
    ap whole_lines (sym (take_all max_input now.input short)) ∙ (all_lines_taken behind (within_limit now.input) reading.bytes now.cut none).0 ∙ sym (append-nil behind)
has_read_all left rest reading behind TooLong now none ended =
    (all_lines_taken behind (within_limit now.input) reading.bytes now.cut none).0 ∙ sym (append-nil behind)
