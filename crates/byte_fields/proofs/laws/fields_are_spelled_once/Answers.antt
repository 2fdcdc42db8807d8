use Rattle.byte_fields.proofs.Codec.{span_codec, u8_codec, u16_codec, u32_codec, u64_codec}
use Rattle.byte_fields.proofs.laws.fields_are_spelled_once.Goals as goal

pub returns : goal.returns
returns c = record { spans = span_codec; bytes = u8_codec; two_bytes = u16_codec; four_bytes = u32_codec; eight_bytes = u64_codec }
