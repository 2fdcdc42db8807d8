-- What is valid where an operation is.
use Rattle.std.proofs.Common.{ℕ, ◌-◌, ◌<◌, refl, arith}
use Rattle.std.specs.Prelude.{◌^◌}
use Rattle.mod_log.specs.declared.sketching.SketchEntry.{SketchEntry}
use Rattle.wire_frames.specs.Cause.{CauseFits}
use Rattle.wire_frames.specs.Frame.{IsValid}
use Rattle.wire_frames.specs.declared.cause.Cause.{Cause}
use Rattle.wire_frames.specs.declared.message.Message.TheVariants.{Operate, Pull, Done, Declined}

-- its number can be told as done
pub done_valid : (client : ℕ) (sketched : SketchEntry) → IsValid (Operate client sketched) → IsValid (Done client sketched.seq)
done_valid client sketched valid = record { client_fits = valid.client_fits; number_fits = valid.number_fits; number_small = valid.number_small; body_fits = tt }

-- or as declined
pub declined_valid : (client number : ℕ) (cause : Cause) → IsValid (Done client number) → CauseFits cause → IsValid (Declined client number cause)
declined_valid client number cause valid fits = record { client_fits = valid.client_fits; number_fits = valid.number_fits; number_small = valid.number_small; body_fits = fits }

-- what the server has before it can be asked for
pub pull_valid : (client : ℕ) (sketched : SketchEntry) → IsValid (Operate client sketched) → IsValid (Pull client (sketched.seq - 1))
pull_valid client sketched valid =
    let small : sketched.seq < 2 ^ 64 = valid.number_small in
    record { client_fits = valid.client_fits; number_fits = refl; number_small = omega (arith, small); body_fits = tt }
