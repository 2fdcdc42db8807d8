-- The head of a certificate, by where its path stands.
use Rattle.std.proofs.Common.{◌≡◌, ℕ, [], length, None, sym, ap, ◌∙◌, arith}
use Rattle.std.proofs.lemmas.List.{length-take-le}
use Rattle.std.proofs.lemmas.Option.{slice_get-get_or}
use Rattle.file_paths.specs.Path.{FilePath}
use Rattle.tree_values.specs.declared.node.Row.{Row}
use Rattle.tree_values.specs.Tree.{Volume, row_at, rows_below}
use Rattle.tree_values.specs.Inside.{StandsAt, BelongsAt}
use Rattle.tree_proof.specs.declared.certificate.Presence.{Presence}
use Rattle.tree_proof.specs.declared.certificate.Presence.TheVariants.{Present, Absent}
use Rattle.tree_proof.specs.declared.certificate.CertificateHead.{CertificateHead}
use Rattle.tree_proof.specs.Trees.{presence_of, certificate_head_of}

abbrev head_with : ℕ → Presence → ℕ → CertificateHead
head_with count kind index = record { count = count; kind = kind; index = index }

abbrev some_row : Row
some_row = record { path = []; version = 0; node = None }

pub head_stands : (rows : Volume) (asked : FilePath) (i : ℕ) → StandsAt rows asked i → head_with (length rows) Present i ≡ certificate_head_of rows asked
head_stands rows asked i at =
    let kind : Present ≡ presence_of (row_at rows asked) = sym (ap presence_of (at.row ∙ slice_get-get_or rows i some_row at.within)) in
    let index : i ≡ length (rows_below rows asked) = sym (ap length at.below ∙ length-take-le i rows (omega (arith, at.within))) in
    (λ k. head_with (length rows) (kind k) (index k))

pub head_belongs : (rows : Volume) (asked : FilePath) (i : ℕ) → BelongsAt rows asked i → head_with (length rows) Absent i ≡ certificate_head_of rows asked
head_belongs rows asked i at =
    let kind : Absent ≡ presence_of (row_at rows asked) = sym (ap presence_of at.row) in
    let index : i ≡ length (rows_below rows asked) = sym (ap length at.below ∙ length-take-le i rows at.within) in
    (λ k. head_with (length rows) (kind k) (index k))
