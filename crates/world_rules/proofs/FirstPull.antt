-- The frame of client 1's first pull, which the tests ask.
use Rattle.std.proofs.Common.{[], ◌∷◌, refl, arith}
use Rattle.byte_fields.specs.Field.{digits}
use Rattle.wire_frames.specs.declared.message.Message.{Message}
use Rattle.wire_frames.specs.declared.message.Message.TheVariants.{Pull}
use Rattle.wire_frames.specs.Frame.{frame_version, IsValid, Spells}
use Rattle.world_rules.specs.declared.asking.Peer.TheVariants.{Server}
use Rattle.world_rules.specs.Asking.{IsRequest}

pub first_pull : (request : Message) × Spells request (0 ∷ 0 ∷ 0 ∷ 11 ∷ frame_version ∷ 3 ∷ 1 ∷ 0 ∷ 0 ∷ 0 ∷ 0 ∷ 0 ∷ 0 ∷ 0 ∷ 0 ∷ []) × IsRequest Server request
unfolding digits
first_pull =
    let valid : IsValid (Pull 1 0) = record { client_fits = refl; number_fits = refl; number_small = omega arith; body_fits = tt } in
    (Pull 1 0, (valid, refl), tt)
