use Rattle.wire_frames.proofs.HeaderLaws.{length_first, version_second, kind_third, client_fourth, fields_behind, message_before}
use Rattle.wire_frames.proofs.CutFrames.{cut_frames}
use Rattle.wire_frames.proofs.laws.refusals_name_the_first_fault.Goals as goal

pub returns : goal.returns
returns c = record { length = length_first; version = version_second; kind = kind_third; client = client_fourth; fields = fields_behind; trailing = message_before; cut = cut_frames }
