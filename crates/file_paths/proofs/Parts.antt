-- The laws of the spellings of paths and contents: what is read is spelled so, what is spelled so is read, where bytes
-- that end too early are refused, and where values that break a rule are.
use Rattle.std.proofs.Common.{ℕ, ◌^◌, ◌<◌, leb, length, refl, arith}
use Rattle.std.specs.Int.{w16, w32}
use Rattle.std.proofs.lemmas.Bool.{leb-true, le-leb}
use Rattle.byte_fields.specs.Field.{digits, ruled, mapped, number_at, span_at}
use Rattle.byte_fields.specs.Codec.{IsCodec}
use Rattle.byte_fields.specs.Cuts.{IsCut}
use Rattle.byte_fields.proofs.Codec.{span_codec, byte_span_codec, u16_codec, u32_codec, ruled_codec, mapped_codec, codec_for, counted_codec}
use Rattle.byte_fields.proofs.Cutting.{span_cut, u16_cut, u32_cut, ruled_cut, mapped_cut, cut_for, counted_cut}
use Rattle.byte_fields.proofs.Facts.{le_fails}
use Rattle.byte_fields.proofs.Breaking.{read_again, rule_refused, meaning_refused, first_refused, later_refused}
use Rattle.file_paths.specs.Path.{FilePath, IsPath, path_of, path_text}
use Rattle.file_paths.specs.Spelling.{path, content, ContentFits}
use Rattle.file_paths.specs.Reading.{path_at, content_at}
use Rattle.file_paths.specs.Fields.{path_fields, content_fields}
use Rattle.file_paths.specs.Broken.{BrokenTexts, BrokenLengths}
use Rattle.file_paths.proofs.PathTexts.{path_of_text, text_of_path_read}

-- ---- one spelling for each value

pub path_codec : IsCodec path_at path IsPath
unfolding path_at
path_codec =
    codec_for (counted_codec (λ (p : FilePath). length (path_text p)) u16_codec (λ n lt. mapped_codec path_text (span_codec n) path_of_text text_of_path_read) (λ n p fits. fits.0))
    (λ p fits. fits.1.1)
    (λ p fits. (omega (arith, fits.short), (refl, fits)))

pub content_codec : (limit : ℕ) → limit < 2 ^ 32 → IsCodec (content_at limit) content (ContentFits limit)
unfolding content_at
content_codec limit lt =
    codec_for (counted_codec length (ruled_codec (λ n. leb n limit) u32_codec) (λ n fits. byte_span_codec n) (λ n t fits. fits.0))
    (λ c fits. (leb-true (length c) limit fits.0.1, fits.1.1))
    (λ c fits. ((omega (arith, fits.0, lt), le-leb (length c) limit fits.0), (refl, fits.1)))

-- ---- bytes that end too early

pub path_cut : IsCut path_at path path_fields IsPath
unfolding path_at
path_cut =
    cut_for (counted_cut (λ (p : FilePath). length (path_text p)) u16_codec u16_cut (λ n lt. mapped_cut (span_cut n) path_of path_text IsPath))
    (λ p fits. (omega (arith, fits.short), (refl, fits)))

pub content_cut : (limit : ℕ) → limit < 2 ^ 32 → IsCut (content_at limit) content content_fields (ContentFits limit)
unfolding content_at
content_cut limit lt =
    cut_for (counted_cut length (ruled_codec (λ n. leb n limit) u32_codec) (ruled_cut u32_cut (λ n. leb n limit)) (λ n fits. span_cut n))
    (λ c fits. ((omega (arith, fits.0, lt), le-leb (length c) limit fits.0), refl))

-- ---- values that break a rule

pub text_refused : BrokenTexts
unfolding path_at digits
text_refused text cause small none =
    later_refused (number_at w16) (λ n. mapped path_of (span_at n)) (digits w16 (length text)) text (length text) 0 (read_again u16_codec (length text) small)
    (meaning_refused (span_at (length text)) path_of text text cause (read_again (span_codec (length text)) text refl) none)

pub length_refused : BrokenLengths
unfolding content_at
length_refused limit size large small =
    first_refused (ruled (λ n. leb n limit) (number_at w32)) (λ n. span_at n) (digits w32 size) 0
    (rule_refused (number_at w32) (λ n. leb n limit) (digits w32 size) size (read_again u32_codec size small) (le_fails size limit large))
