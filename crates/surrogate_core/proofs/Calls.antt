-- How often a runner is asked in a whole handling, by its own count.
use Rattle.std.proofs.Common.{◌≡◌, ℕ, ◌<◌, Bool, true, false, ◌∙◌, sym, ap, subst, arith, refl}
use Rattle.tree_values.specs.Tree.{Volume}
use Rattle.cmd_capture.specs.Runs.{IsAskedAtMostOnce}
use Rattle.surrogate_core.specs.declared.machine.Stage.{Stage}
use Rattle.surrogate_core.specs.Handling.{Phase, Idle, Fetching, Holding, Machine, is_fetching}
use Rattle.surrogate_core.specs.Inside.{phase_of, asks_left}

not_both : {A : Type 0} (is : Bool) → is ≡ false → is ≡ true → A
not_both is unlike like = absurd (cc)

-- a round is not asked behind a call, unless nothing is called in it
pub calls_then : (phase : Phase) (start before after : ℕ) → IsAskedAtMostOnce start before → (is_fetching phase ≡ true → before ≡ start)
    → IsAskedAtMostOnce before after → (is_fetching phase ≡ false → after ≡ before) → IsAskedAtMostOnce start after
calls_then (Fetching client sketched) start before after once not_yet asked unasked = subst (λ (c : ℕ). IsAskedAtMostOnce c after) (not_yet refl) asked
calls_then Idle start before after once not_yet asked unasked = subst (λ (c : ℕ). IsAskedAtMostOnce start c) (sym (unasked refl)) once
calls_then (Holding client number copy) start before after once not_yet asked unasked =
    subst (λ (c : ℕ). IsAskedAtMostOnce start c) (sym (unasked refl)) once

unfetched : (old new : Phase) → asks_left new < asks_left old → is_fetching new ≡ false
unfetched old Idle fewer = refl
unfetched old (Holding client number copy) fewer = refl
unfetched Idle (Fetching client sketched) fewer = absurd (omega (arith, fewer))
unfetched (Fetching c s) (Fetching client sketched) fewer = absurd (omega (arith, fewer))
unfetched (Holding c n copy) (Fetching client sketched) fewer = absurd (omega (arith, fewer))

-- no snapshot is awaited behind a round
pub fetched_once : (old new : Phase) (start now : ℕ) → asks_left new < asks_left old → is_fetching new ≡ true → now ≡ start
fetched_once old new start now fewer is = not_both (is_fetching new) (unfetched old new fewer) is

-- none is awaited where a machine without one is as it was
pub still_unfetched : (state : Stage) (old new : Volume) (machine : Machine) (start now : ℕ) → record { copy = old; phase = phase_of state old } ≡ machine → machine.phase ≡ Idle
    → new ≡ old → is_fetching (phase_of state new) ≡ true → now ≡ start
still_unfetched state old new machine start now view waits same is =
    not_both (is_fetching (phase_of state new))
    (ap (λ (rows : Volume). is_fetching (phase_of state rows)) same ∙ ap is_fetching (ap (λ (m : Machine). m.phase) view ∙ waits)) is
