-- A certificate that is read piece by piece.
use Rattle.std.proofs.Common.{◌≡◌, ℕ, ◌+◌, ◌≤◌, ◌<◌, List, ◌++◌, length, take, Option, None, Some, Result, Ok, Err, sym, ◌∙◌, ap, subst, arith}
use Rattle.std.specs.Prelude.{IfOk}
use Rattle.std.proofs.lemmas.List.{length-append, length-take-le}
use Rattle.outside.specs.Outside.{Told, Reads, Takes}
use Rattle.outside.proofs.Taking.{takes_then, takes_read}
use Rattle.client_lines.specs.declared.input.InputEnd.{InputEnd}
use Rattle.client_lines.specs.Input.{EndsAt}
use Rattle.client_proof.specs.Inside.{AddsPiece, AddsWithin, ReadsAll, ReadsWithin}

-- a piece was read, and stands within the limit or past it
piece_added : (left rest : Option (List ℕ)) (old piece new : List ℕ) (end : Option InputEnd) → Takes left rest piece → 0 < length piece
    → AddsWithin old piece new end → AddsPiece left rest old new end
piece_added left rest old piece new None taken some adds =
    let long = length-append old piece in
    record {
      piece = piece;
      taken = taken;
      ended = (omega (arith, long, some), omega (arith, long, adds.1));
      added = λ other. adds.0;
    }
piece_added left rest old piece new (Some end) taken some adds = record {
  piece = piece;
  taken = taken;
  ended = subst (EndsAt rest (length (old ++ piece))) (sym adds.0) (length-append old piece ∙ adds.1);
  added = λ other. absurd (other (ap (λ (e : InputEnd). Some e) adds.0));
}

pub read_added : (E F : Type 0) (left rest : Option (List ℕ)) (old new buf : List ℕ) (count : ℕ) (result : Result (Option InputEnd) F)
    → Told left rest (λ before after. Reads {E = E} before after buf (Ok count)) → 0 < count → count ≤ length buf
    → IfOk result (AddsWithin old (take count buf) new) → IfOk result (AddsPiece left rest old new)
read_added E F left rest old new buf count (Ok end) reads some fits adds =
    let size = length-take-le count buf fits in
    piece_added left rest old (take count buf) new end (takes_read E left rest buf count reads) (omega (arith, size, some)) adds
read_added E F left rest old new buf count (Err e) reads some fits adds = tt

-- the input came to its end behind pieces that are the bytes
pub all_read : (left mid rest : Option (List ℕ)) (old new : List ℕ) (end : InputEnd) → Takes left mid old
    → AddsPiece mid rest old new (Some end) → ReadsAll left rest new end
all_read left mid rest old new end before piece = record {
  input = old ++ piece.piece;
  taken = takes_then left mid rest old piece.piece before piece.taken;
  ended = piece.ended;
  whole = λ is. piece.added (λ other. absurd (cc (is, other)));
}

-- a piece was lost for want of memory
pub lost : (left mid rest : Option (List ℕ)) (old : List ℕ) → Takes left mid old → ReadsWithin mid rest (length old) → ReadsWithin left rest 0
lost left mid rest old before piece = (
  old ++ piece.0,
  takes_then left mid rest old piece.0 before piece.1,
  let long = length-append old piece.0 in let fits = piece.2 in omega (arith, long, fits),
)
