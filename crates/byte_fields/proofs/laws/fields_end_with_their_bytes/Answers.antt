use Rattle.byte_fields.proofs.Cutting.{span_cut, u8_cut, u16_cut, u32_cut, u64_cut}
use Rattle.byte_fields.proofs.laws.fields_end_with_their_bytes.Goals as goal

pub returns : goal.returns
returns c = record { spans = span_cut; bytes = u8_cut; two_bytes = u16_cut; four_bytes = u32_cut; eight_bytes = u64_cut }
