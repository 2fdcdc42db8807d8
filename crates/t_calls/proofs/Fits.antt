-- What is taken from bytes can be spelled.
use Rattle.std.proofs.Common.{◌≡◌, ℕ, ◌^◌, ◌<◌, ◌≤◌, List, Result, Ok, Err, IfOk, arith}
use Rattle.byte_fields.specs.Codec.{IsBytes}
use Rattle.byte_fields.specs.Field.{Gives}
use Rattle.byte_fields.specs.declared.error.TakeError.{TakeError}
use Rattle.tree_values.specs.Limits.{max_effects, max_files}
use Rattle.tree_values.specs.Spelling.{EffectFits, EffectsFit}
use Rattle.tree_values.specs.Reading.{effect_at, effects_within, effects_at}
use Rattle.tree_values.specs.declared.node.Effect.{Effect}
use Rattle.tree_laws.proofs.Parts.{effect_codec, effects_within_codec, effects_codec}
use Rattle.mod_log.specs.Reading.{entry_at}
use Rattle.mod_log.specs.declared.log.Entry.{Entry}
use Rattle.mod_log.proofs.Codec.{entry_codec}

-- of an effect that a call took where there was so much room
pub effect_taken_fits : (room : ℕ) (bytes : List ℕ) (taken : Result (Effect × ℕ) TakeError) → IsBytes bytes → Gives taken (effect_at room bytes 0)
    → IfOk taken (λ x. EffectFits x.0)
effect_taken_fits room bytes (Ok (effect, next)) are_bytes gives = ((effect_codec room).found bytes 0 effect next are_bytes (omega arith) gives).1.0
effect_taken_fits room bytes (Err e) are_bytes gives = tt

-- of effects that a call took as those of an entry
pub all_effects_taken_fit : (bytes : List ℕ) (taken : Result (List Effect × ℕ) TakeError) → IsBytes bytes → Gives taken (effects_at bytes 0)
    → IfOk taken (λ x. EffectsFit x.0)
all_effects_taken_fit bytes (Ok (effects, next)) are_bytes gives = (effects_codec.found bytes 0 effects next are_bytes (omega arith) gives).1
all_effects_taken_fit bytes (Err e) are_bytes gives = tt

effects_fit : (most room : ℕ) (bytes : List ℕ) (effects : List Effect) (next : ℕ) → most ≤ max_effects → room ≤ max_files → IsBytes bytes
    → effects_within most room bytes 0 ≡ Ok (effects, next) → EffectsFit effects
effects_fit most room bytes effects next few small are_bytes taken =
    let fits = ((effects_within_codec most room (omega (arith, few))).found bytes 0 effects next are_bytes (omega arith) taken).1 in
    record { some = fits.some; few = omega (arith, fits.few, few); each = fits.each; all_contents = omega (arith, fits.all_contents, small) }

-- of effects that a call took within limits that are none above those of an entry
pub effects_taken_fit : (most room : ℕ) (bytes : List ℕ) (taken : Result (List Effect × ℕ) TakeError) → most ≤ max_effects → room ≤ max_files
    → IsBytes bytes → Gives taken (effects_within most room bytes 0) → IfOk taken (λ x. EffectsFit x.0)
effects_taken_fit most room bytes (Ok (effects, next)) few small are_bytes gives = effects_fit most room bytes effects next few small are_bytes gives
effects_taken_fit most room bytes (Err e) few small are_bytes gives = tt

-- of an entry that a call took
pub entry_taken_fits : (number : ℕ) (bytes : List ℕ) (taken : Result (Entry × ℕ) TakeError) → IsBytes bytes
    → Gives taken (entry_at number bytes 0) → IfOk taken (λ x. EffectsFit x.0.effects)
entry_taken_fits number bytes (Ok (entry, next)) are_bytes gives = ((entry_codec number).found bytes 0 entry next are_bytes (omega arith) gives).1.fits
entry_taken_fits number bytes (Err e) are_bytes gives = tt
