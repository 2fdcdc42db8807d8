-- What made an entry: no command, or a command whose run is known by the print of its job and its status.
use Rattle.std.specs.Prelude.{◌≡◌, ℕ, ◌<◌, ◌^◌, List, [], ◌∷◌, ◌++◌, length, Option, Some, None}
use Rattle.byte_fields.specs.Codec.{IsBytes}
use Rattle.cmd_capture.specs.Spelling.{command, IsCommand}
use Rattle.mod_log.specs.declared.origin.Origin.{Origin}

-- the print of the job, the status and the command
abbrev pub origin : Origin → List ℕ
origin o = o.job_print ++ (o.status ∷ command o.command)

-- the byte 0 where no command made it; the byte 1 and the origin else
abbrev pub made_by : Option Origin → List ℕ
made_by None = 0 ∷ []
made_by (Some o) = 1 ∷ origin o

-- an origin with a spelling
pub record OriginFits (o : Origin) : Type 0 where
  pub command_fits : IsCommand o.command
  pub print_fits : length o.job_print ≡ 32
  pub print_bytes : IsBytes o.job_print
  pub status_fits : o.status < 2 ^ 8

-- no command, or an origin with a spelling
abbrev pub MadeByFits : Option Origin → Type 0
MadeByFits None = Unit {0}
MadeByFits (Some o) = OriginFits o
