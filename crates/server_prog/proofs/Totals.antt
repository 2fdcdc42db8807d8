-- What the connections of a run amount to.
use Rattle.std.proofs.Common.{◌≡◌, inl, inr, ℕ, List, Option, Result, Ok, Err, ap, arith}
use Rattle.outside.specs.Port.{Talk}
use Rattle.port_serving.specs.Laws.{HasFallen, HasTalks, IsTold}
use Rattle.port_serving.proofs.Totals as ports
use Rattle.server_prog.specs.declared.run.Stopped.{Stopped}
use Rattle.server_prog.specs.declared.run.Stopped.TheVariants.{Sink, Keeper, Image, Memory}
use Rattle.server_prog.specs.Serving.{ServerTelling}
use Rattle.server_prog.specs.Run.{server_status_of, ServerRun}
use Rattle.server_prog.specs.Laws.{IsWhole, FallsAreBounded, FramesAreCounted}

-- a run that ended with 5, 6 or 7 ended neither with 0 nor with 4
pub five : (status : ℕ) → status ≡ 5 → IsWhole status → ⊥
five status is (inl zero) = omega arith
five status is (inr four) = omega arith

pub six : (status : ℕ) → status ≡ 6 → IsWhole status → ⊥
six status is (inl zero) = omega arith
six status is (inr four) = omega arith

pub seven : (status : ℕ) → status ≡ 7 → IsWhole status → ⊥
seven status is (inl zero) = omega arith
seven status is (inr four) = omega arith

same_port : (old new : ServerTelling) → new ≡ old → new.port ≡ old.port
same_port old new same = ap (λ (t : ServerTelling). t.port) same

module _ (count status : ℕ) (old new : ServerTelling) (written now : Option (List ℕ)) where
  bounded : (ended : Result (Unit {0}) Stopped) → status ≡ server_status_of ended → ServerRun count old new written now ended → HasFallen count (IsWhole status) old.port new.port
  bounded (Ok done) is turn = ports.all_fallen count turn.1 old.port new.port (IsWhole status) turn.3.port
  bounded (Err Sink) is turn = ports.all_fallen count turn.1 old.port new.port (IsWhole status) turn.4.port
  bounded (Err Keeper) is (inl before) = ports.not_fallen count old.port new.port (IsWhole status) (five status is) (same_port old new before.0)
  bounded (Err Keeper) is (inr broken) = ports.front_fallen count broken.1 broken.3.frames old.port new.port (IsWhole status) (five status is) broken.3.port
  bounded (Err Image) is before = ports.not_fallen count old.port new.port (IsWhole status) (six status is) (same_port old new before.0.0)
  bounded (Err Memory) is (inl before) = ports.not_fallen count old.port new.port (IsWhole status) (seven status is) (same_port old new before.0)
  bounded (Err Memory) is (inr (inl line)) = ports.all_fallen count line.1 old.port new.port (IsWhole status) line.4.port
  bounded (Err Memory) is (inr (inr broken)) = ports.front_fallen count broken.1 broken.3.frames old.port new.port (IsWhole status) (seven status is) broken.3.port

  module _ (talks : List Talk) (has : HasTalks talks old.port new.port) where
    abbrev Tells : Type 0
    Tells = IsTold (IsWhole status) (status ≡ 0) talks old.port new.port written now

    stopped : (IsWhole status → ⊥) → new ≡ old → Tells
    stopped part same = ports.told_none old.port new.port (same_port old new same) talks has (IsWhole status) (status ≡ 0) written now part (λ zero. part (inl zero))

    counted : (ended : Result (Unit {0}) Stopped) → status ≡ server_status_of ended → ServerRun count old new written now ended → Tells
    counted (Ok done) is turn = ports.told_all count turn.1 old.port new.port turn.3.port talks has (IsWhole status) (status ≡ 0) written now turn.4
    counted (Err Sink) is turn = ports.told_in_line count turn.1 old.port new.port turn.4.port talks has (IsWhole status) (status ≡ 0) written now (λ zero. absurd (omega arith))
    counted (Err Keeper) is (inl before) = stopped (five status is) before.0
    counted (Err Keeper) is (inr broken) =
        ports.told_front count broken.1 broken.3.frames old.port new.port broken.3.port talks has (IsWhole status) (status ≡ 0) written now (five status is) (λ zero. five status is (inl zero))
    counted (Err Image) is before = stopped (six status is) before.0.0
    counted (Err Memory) is (inl before) = stopped (seven status is) before.0
    counted (Err Memory) is (inr (inl line)) = ports.told_in_line count line.1 old.port new.port line.4.port talks has (IsWhole status) (status ≡ 0) written now (λ zero. absurd (omega arith))
    counted (Err Memory) is (inr (inr broken)) =
        ports.told_front count broken.1 broken.3.frames old.port new.port broken.3.port talks has (IsWhole status) (status ≡ 0) written now (seven status is) (λ zero. seven status is (inl zero))

pub falls_are_bounded : FallsAreBounded
falls_are_bounded count status old new written now ran = bounded count status old new written now ran.0 ran.1 ran.2

pub frames_are_counted : FramesAreCounted
frames_are_counted count status old new written now talks ran has = counted count status old new written now talks has ran.0 ran.1 ran.2
