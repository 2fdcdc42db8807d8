-- The laws of the refusals that an Unfit and a Full may tell.
use Rattle.std.proofs.Common.{◌≢◌, refl, sym, true≢false}
use Rattle.byte_fields.specs.Codec.{IsCodec}
use Rattle.byte_fields.specs.Cuts.{IsCut}
use Rattle.byte_fields.proofs.Codec.{codec_for}
use Rattle.byte_fields.proofs.Cutting.{cut_for}
use Rattle.tree_values.specs.declared.node.TreeError.{TreeError}
use Rattle.tree_values.specs.declared.node.TreeError.TheVariants.{RootFixed, NoParent, Exists, Missing, IsFolder, NotEmpty, RowsFull, FileTooLarge, TreeFull, VersionTop, Memory}
use Rattle.tree_values.specs.Fault.{tree_fault, fault_fields, FaultFitsOf}
use Rattle.tree_laws.proofs.FaultLaws.{fault_of_codec, fault_of_cut}
use Rattle.wire_frames.specs.Fault.{unfit_numbers, full_numbers, UnfitFits, FullFits, unfit_fault_at, full_fault_at}

-- ---- refusals that more room would not cure

pub unfit_fits : (x : TreeError) → UnfitFits x → FaultFitsOf unfit_numbers x
unfit_fits RootFixed fits = (fits, refl)
unfit_fits (NoParent p) fits = (fits, refl)
unfit_fits (Exists p) fits = (fits, refl)
unfit_fits (Missing p) fits = (fits, refl)
unfit_fits (IsFolder p) fits = (fits, refl)
unfit_fits (NotEmpty p child) fits = (fits, refl)
unfit_fits (FileTooLarge n) fits = (fits, refl)
unfit_fits (VersionTop p) fits = (fits, refl)
unfit_fits _ fits = absurd fits

fits_unfit : (x : TreeError) → FaultFitsOf unfit_numbers x → UnfitFits x
fits_unfit RootFixed fits = fits.0
fits_unfit (NoParent p) fits = fits.0
fits_unfit (Exists p) fits = fits.0
fits_unfit (Missing p) fits = fits.0
fits_unfit (IsFolder p) fits = fits.0
fits_unfit (NotEmpty p child) fits = fits.0
fits_unfit (RowsFull n) fits = absurd (true≢false (sym fits.1))
fits_unfit (FileTooLarge n) fits = fits.0
fits_unfit (TreeFull n) fits = absurd (true≢false (sym fits.1))
fits_unfit (VersionTop p) fits = fits.0
fits_unfit Memory fits = absurd fits.0

pub unfit_codec : IsCodec unfit_fault_at tree_fault UnfitFits
unfit_codec = codec_for (fault_of_codec unfit_numbers) fits_unfit unfit_fits

pub unfit_cut : IsCut unfit_fault_at tree_fault fault_fields UnfitFits
unfit_cut = cut_for (fault_of_cut unfit_numbers) unfit_fits

pub unfit_is_spelled : (x : TreeError) → UnfitFits x → x ≢ Memory
unfit_is_spelled Memory fits e = absurd fits
unfit_is_spelled _ fits e = absurd cc

-- ---- refusals for want of room

pub full_fits : (x : TreeError) → FullFits x → FaultFitsOf full_numbers x
full_fits (RowsFull n) fits = (fits, refl)
full_fits (TreeFull n) fits = (fits, refl)
full_fits _ fits = absurd fits

fits_full : (x : TreeError) → FaultFitsOf full_numbers x → FullFits x
fits_full (RowsFull n) fits = fits.0
fits_full (TreeFull n) fits = fits.0
fits_full Memory fits = absurd fits.0
fits_full _ fits = absurd (true≢false (sym fits.1))

pub full_codec : IsCodec full_fault_at tree_fault FullFits
full_codec = codec_for (fault_of_codec full_numbers) fits_full full_fits

pub full_cut : IsCut full_fault_at tree_fault fault_fields FullFits
full_cut = cut_for (fault_of_cut full_numbers) full_fits

pub full_is_spelled : (x : TreeError) → FullFits x → x ≢ Memory
full_is_spelled Memory fits e = absurd fits
full_is_spelled _ fits e = absurd cc
