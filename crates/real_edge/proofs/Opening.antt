-- What is left of an answer without its seal.
use Rattle.std.proofs.Common.{◌≡◌, ◌≤◌, ℕ, List, length, Result, Ok, Err, IfOk, OnErr, Bor, true, false, true≢false, sym, subst, ap, ◌∙◌, arith, length-drop}
use Rattle.std.specs.Prelude.{is_ok}
use Rattle.sealed_frames.specs.declared.sealing.Way.{Way}
use Rattle.sealed_frames.specs.Limits.{seal_bytes}
use Rattle.sealed_frames.specs.Sealing.{IsSealable, IsSealedUnder, frame_in}
use Rattle.sealed_frames.proofs.Parts.{frame_of_sealed}

-- behind the seal stands the frame that is sealed
behind_seal : (key : List ℕ) (way : Way) (bytes frame : List ℕ) → IsSealedUnder key way bytes frame → IsSealedUnder key way bytes (frame_in bytes)
behind_seal key way bytes frame by =
    subst (IsSealedUnder key way bytes) (sym (ap frame_in by.same ∙ frame_of_sealed key way frame)) by

-- so it is where bytes were opened
pub opened_frame : {E : Type 0} (key : List ℕ) (way : Way) (bytes : List ℕ) (opened : Result (Bor (List ℕ)) E)
    → IfOk opened (λ frame. IsSealedUnder key way bytes frame.now) → is_ok opened ≡ true → IsSealedUnder key way bytes (frame_in bytes)
opened_frame key way bytes (Ok frame) by fine = behind_seal key way bytes frame.now by
opened_frame key way bytes (Err e) by fine = absurd (true≢false (sym fine))

-- and no frame is there where they were not
pub no_frame : {E : Type 0} (key : List ℕ) (way : Way) (bytes frame : List ℕ) (opened : Result (Bor (List ℕ)) E)
    → OnErr opened ((frame : List ℕ) → IsSealedUnder key way bytes frame → ⊥) → is_ok opened ≡ false → IsSealedUnder key way bytes frame → ⊥
no_frame key way bytes frame (Ok found) none other by = absurd (true≢false other)
no_frame key way bytes frame (Err e) none other by = none frame by

-- a frame that can be sealed has its seal before it
pub long_sealed : (bytes : List ℕ) → IsSealable (frame_in bytes) → seal_bytes ≤ length bytes
long_sealed bytes fits = omega (arith, fits.0, length-drop 37 bytes)
