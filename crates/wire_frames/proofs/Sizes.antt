-- Each valid message has a frame that the reader takes.
use Rattle.std.proofs.Common.{◌^◌, ◌<◌, ◌≤◌, ◌++◌, length, arith, length-append}
use Rattle.std.specs.Int.{w64}
use Rattle.byte_fields.specs.Field.{digits}
use Rattle.file_paths.specs.Spelling.{path}
use Rattle.tree_values.specs.Spelling.{rows}
use Rattle.file_paths.proofs.Sizes.{path_size}
use Rattle.tree_values.proofs.Sizes.{rows_size}
use Rattle.tree_values.specs.declared.node.TreeError.{TreeError}
use Rattle.tree_values.specs.declared.node.TreeError.TheVariants.{RootFixed, NoParent, Exists, Missing, IsFolder, NotEmpty, RowsFull, FileTooLarge, TreeFull, VersionTop}
use Rattle.wire_frames.specs.declared.message.Message.{Message}
use Rattle.wire_frames.specs.declared.message.Message.TheVariants as messages
use Rattle.tree_values.specs.Fault.{tree_fault}
use Rattle.wire_frames.specs.Fault.{UnfitFits, FullFits}
use Rattle.wire_frames.proofs.CauseLaws.{cause_size}
use Rattle.wire_frames.proofs.OperationSizes.{operation_size}
use Rattle.wire_frames.proofs.PartLaws.{parts_size}
use Rattle.wire_frames.specs.Frame.{body, payload, frame, BodyFits, IsValid}

unfit_size : (f : TreeError) → UnfitFits f → length (tree_fault f) ≤ 2053
unfolding digits
unfit_size RootFixed fits = omega arith
unfit_size (NoParent p) fits = omega (arith, path_size p fits)
unfit_size (Exists p) fits = omega (arith, path_size p fits)
unfit_size (Missing p) fits = omega (arith, path_size p fits)
unfit_size (IsFolder p) fits = omega (arith, path_size p fits)
unfit_size (NotEmpty p q) fits = omega (arith, length-append (path p) (path q), path_size p fits.0, path_size q fits.1)
unfit_size (FileTooLarge n) fits = omega arith
unfit_size (VersionTop p) fits = omega (arith, path_size p fits)
unfit_size _ fits = absurd fits

full_size : (f : TreeError) → FullFits f → length (tree_fault f) ≤ 9
unfolding digits
full_size (RowsFull n) fits = omega arith
full_size (TreeFull n) fits = omega arith
full_size _ fits = absurd fits

body_size : (m : Message) → BodyFits m → length (body m) ≤ 50999000
unfolding digits
body_size (messages.Store c n ps) fits = omega (arith, parts_size n ps fits)
body_size (messages.Operate c entry) fits = omega (arith, operation_size entry fits)
body_size (messages.Stale c n upto p theirs ours) fits = omega (arith, length-append (path p) (digits w64 theirs ++ digits w64 ours), path_size p fits.1.0)
body_size (messages.Unfit c n upto i f) fits = omega (arith, unfit_size f fits.2)
body_size (messages.Full c n upto i f) fits = omega (arith, full_size f fits.2)
body_size (messages.Gap c n last) fits = omega arith
body_size (messages.Malformed code offset) fits = omega arith
body_size (messages.Pull c n) fits = omega arith
body_size (messages.Accepted c n upto) fits = omega arith
body_size (messages.Done c n) fits = omega arith
body_size (messages.Declined c n why) fits = omega (arith, cause_size why fits)
body_size (messages.Snapshot c n last rs) fits = omega (arith, length-append (digits w64 last) (rows rs), rows_size rs fits.1)

pub frame_small : (m : Message) → IsValid m → length (frame m) ≤ 51000000
unfolding digits
frame_small m valid = omega (arith, body_size m valid.body_fits)

pub payload_small : (m : Message) → IsValid m → length (payload m) < 2 ^ 32
unfolding digits
payload_small m valid = omega (arith, body_size m valid.body_fits)
