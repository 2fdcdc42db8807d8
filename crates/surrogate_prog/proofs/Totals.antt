-- What the connections of a run amount to.
use Rattle.std.proofs.Common.{◌≡◌, inl, inr, ℕ, List, Option, Result, Ok, Err, arith}
use Rattle.outside.specs.Port.{Talk}
use Rattle.port_serving.specs.Laws.{HasFallen, HasTalks, IsTold}
use Rattle.port_serving.proofs.Totals as ports
use Rattle.surrogate_prog.specs.declared.run.Stopped.{Stopped}
use Rattle.surrogate_prog.specs.declared.run.Stopped.TheVariants.{Sink, Memory}
use Rattle.surrogate_prog.specs.Words.{SurrogateInvocation}
use Rattle.surrogate_prog.specs.Run.{SurrogateTelling, surrogate_status_of, SurrogateRun}
use Rattle.surrogate_prog.specs.Laws.{SurrogateIsWhole, SurrogateFallsAreBounded, SurrogateFramesAreCounted}

seven : (status : ℕ) → status ≡ 7 → SurrogateIsWhole status → ⊥
seven status is (inl zero) = omega arith
seven status is (inr four) = omega arith

module _ (run : SurrogateInvocation) (status : ℕ) (old new : SurrogateTelling) (written now : Option (List ℕ)) where
  bounded : (ended : Result (Unit {0}) Stopped) → status ≡ surrogate_status_of ended → SurrogateRun run old new written now ended → HasFallen run.count (SurrogateIsWhole status) old.port new.port
  bounded (Ok done) is turn = ports.all_fallen run.count turn.0 old.port new.port (SurrogateIsWhole status) turn.2.port
  bounded (Err Sink) is turn = ports.all_fallen run.count turn.0 old.port new.port (SurrogateIsWhole status) turn.3.port
  bounded (Err Memory) is (inl line) = ports.all_fallen run.count line.0 old.port new.port (SurrogateIsWhole status) line.3.port
  bounded (Err Memory) is (inr broken) = ports.front_fallen run.count broken.0 broken.3.frames old.port new.port (SurrogateIsWhole status) (seven status is) broken.3.port

  module _ (talks : List Talk) (has : HasTalks talks old.port new.port) where
    counted : (ended : Result (Unit {0}) Stopped) → status ≡ surrogate_status_of ended → SurrogateRun run old new written now ended → IsTold (SurrogateIsWhole status) (status ≡ 0) talks old.port new.port written now
    counted (Ok done) is turn = ports.told_all run.count turn.0 old.port new.port turn.2.port talks has (SurrogateIsWhole status) (status ≡ 0) written now turn.3
    counted (Err Sink) is turn = ports.told_in_line run.count turn.0 old.port new.port turn.3.port talks has (SurrogateIsWhole status) (status ≡ 0) written now (λ zero. absurd (omega arith))
    counted (Err Memory) is (inl line) = ports.told_in_line run.count line.0 old.port new.port line.3.port talks has (SurrogateIsWhole status) (status ≡ 0) written now (λ zero. absurd (omega arith))
    counted (Err Memory) is (inr broken) =
        ports.told_front run.count broken.0 broken.3.frames old.port new.port broken.3.port talks has (SurrogateIsWhole status) (status ≡ 0) written now (seven status is) (λ zero. seven status is (inl zero))

pub falls_are_bounded : SurrogateFallsAreBounded
falls_are_bounded run status old new written now ran = bounded run status old new written now ran.0 ran.1 ran.2

pub frames_are_counted : SurrogateFramesAreCounted
frames_are_counted run status old new written now talks ran has = counted run status old new written now talks has ran.0 ran.1 ran.2
