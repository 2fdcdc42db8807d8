-- Calls that are made again within one window of a connection's time, or two.
use Rattle.std.proofs.Common.{◌≡◌, inl, inr, ℕ, ◌∙◌, min, List, ◌++◌, length, take, drop, Option, None, Some, Result, Ok, Err, refl, sym, subst, ap, arith}
use Rattle.std.proofs.KnownBytes.{Keeps-trans}
use Rattle.std.proofs.lemmas.List.{length-take, take-append-drop, take-append-le}
use Rattle.std.specs.Io.{WritesAtMost}
use Rattle.std.specs.Io.KnownBytes.{Keeps, Appends, Consumes, ReadConsumes, WriteAppends}
use Rattle.paced_talks.specs.declared.window.Window.{Window}
use Rattle.paced_talks.specs.Window.{after_bytes, LeadsOn}

-- ---- known bytes

pub keeps_same : (a : Option (List ℕ)) → Keeps a a
keeps_same None = tt
keeps_same (Some x) = refl

keeps_appends : (a b c : Option (List ℕ)) (piece : List ℕ) → Keeps a b → Appends b c piece → Appends a c piece
keeps_appends None b c piece first second = tt
keeps_appends (Some x) None c piece first second = absurd first
keeps_appends (Some x) (Some y) None piece first second = absurd second
keeps_appends (Some x) (Some y) (Some z) piece first second = second ∙ ap (λ (l : List ℕ). l ++ piece) first

keeps_consumes : (a b c : Option (List ℕ)) (piece : List ℕ) → Keeps a b → Consumes b c piece → Consumes a c piece
keeps_consumes None b c piece first second = tt
keeps_consumes (Some x) None c piece first second = absurd first
keeps_consumes (Some x) (Some y) None piece first second = absurd second
keeps_consumes (Some x) (Some y) (Some z) piece first second = sym first ∙ second

pub reads_then : {E : Type 0} (a b c : Option (List ℕ)) (r : Result ℕ E) (buf : List ℕ) → Keeps a b → ReadConsumes b c r buf → ReadConsumes a c r buf
reads_then a b c (Ok n) buf first second = (keeps_consumes a b c (take n buf) first second.0, second.1)
reads_then a b c (Err e) buf first second = Keeps-trans a b c first second

pub writes_then : {E : Type 0} (a b c : Option (List ℕ)) (r : Result ℕ E) (buf : List ℕ) → Keeps a b → WriteAppends b c r buf → WriteAppends a c r buf
writes_then a b c (Ok n) buf first second = keeps_appends a b c (take n buf) first second
writes_then a b c (Err e) buf first second = Keeps-trans a b c first second

-- a write that was offered a piece alone is one of the whole
pub piece_written : {E : Type 0} (a b : Option (List ℕ)) (r : Result ℕ E) (most : ℕ) (buf : List ℕ) → WritesAtMost r (take most buf)
    → WriteAppends a b r (take most buf) → WriteAppends a b r buf
piece_written a b (Ok n) most buf few appends =
    subst (Appends a b) (sym (ap (take n) (sym (take-append-drop most buf)) ∙ take-append-le n (take most buf) (drop most buf) few)) appends
piece_written a b (Err e) most buf few appends = appends

pub piece_short : {E : Type 0} (r : Result ℕ E) (most : ℕ) (buf : List ℕ) → WritesAtMost r (take most buf) → WritesAtMost r buf
piece_short (Ok n) most buf few = let long : length (take most buf) ≡ min most (length buf) = length-take most buf in omega (arith, few, long)
piece_short (Err e) most buf few = tt

-- ---- windows

pub stays : (a : Window) → LeadsOn a a
stays a = inl refl

-- no third window follows within one call, since the second has moved nothing yet
pub goes_on : (a b c : Window) → LeadsOn a b → LeadsOn b c → LeadsOn a c
goes_on a b c (inl same) second = subst (λ (w : Window). LeadsOn w c) same second
goes_on a b c (inr next) (inl same) = inr (next.0, next.1, next.2, same ∙ next.3)
goes_on a b c (inr next) (inr third) = absurd (omega (arith, third.0, ap (λ (w : Window). w.moved) next.3))

pub moved : (a b c : Window) (count : ℕ) → LeadsOn a b → c ≡ after_bytes count b → (window : Window) × LeadsOn a window × (c ≡ after_bytes count window)
moved a b c count first is = (b, first, is)
