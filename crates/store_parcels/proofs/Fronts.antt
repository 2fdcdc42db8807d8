-- What stands before the steps is read as it is spelled.
use Rattle.std.proofs.Common.{◌≡◌, ℕ, ◌≤◌, List, [], ◌∷◌, ◌++◌, length, Ok, refl, arith}
use Rattle.std.specs.Prelude.{nat_le}
use Rattle.std.specs.List.{flat_map, AllByRecursion}
use Rattle.byte_fields.specs.Field.{EachFits}
use Rattle.byte_fields.specs.Codec.{Stands, IsBytes, IsCodec}
use Rattle.byte_fields.proofs.Facts.{le_holds, le_of}
use Rattle.byte_fields.proofs.Codec.{span_codec, u16_codec, ruled_codec, each_codec, counted_codec, codec_for, again2}
use Rattle.file_paths.specs.Path.{FilePath, IsPath}
use Rattle.file_paths.specs.Spelling.{path}
use Rattle.file_paths.specs.Reading.{path_at}
use Rattle.file_paths.proofs.Parts.{path_codec}
use Rattle.store_parcels.specs.declared.front.NamedStore.{NamedStore}
use Rattle.store_parcels.specs.Limits.{max_sources}
use Rattle.store_parcels.specs.Front.{sources, paths_at, sources_at, front_at}

all_found : (paths : List FilePath) → EachFits {S = Unit {0}} (λ state x. IsPath x) (λ state x. state) tt paths → AllByRecursion IsPath paths
all_found [] fits = tt
all_found (x ∷ xs) fits = (fits.0, all_found xs fits.1)

all_again : (paths : List FilePath) → AllByRecursion IsPath paths → EachFits {S = Unit {0}} (λ state x. IsPath x) (λ state x. state) tt paths
all_again [] fits = tt
all_again (x ∷ xs) fits = (fits.0, all_again xs fits.1)

paths_codec : (n : ℕ) → IsCodec (paths_at n) (flat_map path) (λ paths. (length paths ≡ n) × AllByRecursion IsPath paths)
unfolding paths_at
paths_codec n =
    codec_for (each_codec {S = Unit {0}} {A = FilePath} (λ state. path_at) (λ state x. state) path (λ state x. IsPath x) (λ state. path_codec) n tt)
    (λ paths fits. (fits.0, all_found paths fits.1))
    (λ paths fits. (fits.0, all_again paths fits.1))

-- paths that have a spelling behind their number
abbrev pub SourcesFit : List FilePath → Type 0
SourcesFit paths = (length paths ≤ max_sources) × AllByRecursion IsPath paths

pub sources_codec : IsCodec sources_at sources SourcesFit
unfolding sources_at
sources_codec =
    codec_for (counted_codec length (ruled_codec (λ n. nat_le n max_sources) u16_codec) (λ n few. paths_codec n) (λ n paths fits. fits.0))
    (λ paths fits. (le_of (length paths) max_sources fits.0.1, fits.1.1))
    (λ paths fits. ((omega (arith, fits.0), le_holds (length paths) max_sources fits.0), (refl, fits.1)))

pub sources_are_within : (bytes : List ℕ) (at : ℕ) (paths : List FilePath) (next : ℕ) → IsBytes bytes → at ≤ length bytes
    → sources_at bytes at ≡ Ok (paths, next) → next ≤ length bytes
sources_are_within bytes at paths next are le read = (sources_codec.found bytes at paths next are le read).0.within

pub front_is_read : (store : NamedStore) (bytes : List ℕ) (at : ℕ) (print : List ℕ) (paths : List FilePath) (next : ℕ)
    → Stands bytes at (print ++ sources paths) next → length print ≡ 32 → SourcesFit paths
    → front_at store bytes at ≡ Ok (record { store = store; print = print; sources = paths }, next)
unfolding front_at
front_is_read store bytes at print paths next stands long fits =
    again2 (span_codec 32) (λ text long. sources_codec) (λ text those. record { store = store; print = text; sources = those }) bytes at print paths next stands long fits
