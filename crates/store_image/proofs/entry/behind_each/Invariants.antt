use Rattle.std.proofs.Common.{◌-◌, length, take, drop}
use Rattle.byte_fields.specs.Field.{each_at}
use Rattle.byte_fields.proofs.Loop.{SoFar}
use Rattle.store_image.specs.Reading.{first_kept_base_at, kept_bases_after}
use Rattle.store_image.proofs.entry.behind_each.Given as goal

abbrev pub invariant-loop-known : goal.invariant-loop-known
invariant-loop-known l = SoFar first_kept_base_at kept_bases_after l.bytes (each_at first_kept_base_at kept_bases_after (length l.bases) l.bases l.bytes l.start) (take l.known-index l.bases) (length l.bases - l.known-index) (drop l.known-index l.bases) l.at
