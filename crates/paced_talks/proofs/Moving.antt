-- Bytes that come within windows.
use Rattle.std.proofs.Common.{◌≡◌, inl, inr, ℕ, ◌+◌, refl, arith}
use Rattle.std.specs.declared.time.Instant.{Instant}
use Rattle.paced_talks.specs.declared.window.Window.{Window}
use Rattle.paced_talks.specs.Window.{after_bytes, LeadsOn}
use Rattle.paced_talks.specs.Talks.{HasMoved, MovedAt}

pub stays : (a : Window) → LeadsOn a a
stays a = inl refl

-- nothing came
pub moves_none : (before after : ℕ) (a b : Window) → after ≡ before → LeadsOn a b → HasMoved before after a b
moves_none before after a b same leads = inl (same, leads)

-- so many bytes came
pub moves_some : (before after count : ℕ) (a b c : Window) → LeadsOn a b → c ≡ after_bytes count b → after ≡ before + count → HasMoved before after a c
moves_some before after count a b c leads moved grows = inr (count, b, leads, moved, grows)

pub moved_now : (before after count : ℕ) (now old new : Instant) → after ≡ before + count → (count ≡ 0 → ⊥) → new ≡ now → MovedAt before after now old new
moved_now before after count now old new grows some is = (λ more. is, λ none. absurd (some (omega (arith, grows, none))))

pub moved_before : (before after : ℕ) (now old new : Instant) → after ≡ before → new ≡ old → MovedAt before after now old new
moved_before before after now old new none is = (λ more. absurd (omega (arith, none, more)), λ same. is)
