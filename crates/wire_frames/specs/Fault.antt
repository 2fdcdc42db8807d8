-- Which refusals of a volume an Unfit and a Full may tell.
use Rattle.std.specs.Prelude.{ℕ, ◌<◌, ◌^◌, List, [], ◌∷◌}
use Rattle.byte_fields.specs.Field.{Reader}
use Rattle.file_paths.specs.Path.{IsPath}
use Rattle.tree_values.specs.declared.node.TreeError.{TreeError}
use Rattle.tree_values.specs.declared.node.TreeError.TheVariants.{RootFixed, NoParent, Exists, Missing, IsFolder, NotEmpty, RowsFull}
use Rattle.tree_values.specs.declared.node.TreeError.TheVariants.{FileTooLarge, TreeFull, VersionTop, Memory}
use Rattle.tree_values.specs.Fault.{fault_of}

-- the numbers of the refusals that more room would not cure
abbrev pub unfit_numbers : List ℕ
unfit_numbers = 1 ∷ 2 ∷ 3 ∷ 4 ∷ 5 ∷ 6 ∷ 8 ∷ 10 ∷ []

-- the numbers of the refusals for want of room
abbrev pub full_numbers : List ℕ
full_numbers = 7 ∷ 9 ∷ []

-- a refusal that more room would not cure
abbrev pub UnfitFits : TreeError → Type 0
UnfitFits RootFixed = Unit {0}
UnfitFits (NoParent p) = IsPath p
UnfitFits (Exists p) = IsPath p
UnfitFits (Missing p) = IsPath p
UnfitFits (IsFolder p) = IsPath p
UnfitFits (NotEmpty p child) = IsPath p × IsPath child
UnfitFits (RowsFull n) = ⊥
UnfitFits (FileTooLarge n) = n < 2 ^ 64
UnfitFits (TreeFull n) = ⊥
UnfitFits (VersionTop p) = IsPath p
UnfitFits Memory = ⊥

-- a refusal for want of room
abbrev pub FullFits : TreeError → Type 0
FullFits (RowsFull n) = n < 2 ^ 32
FullFits (TreeFull n) = n < 2 ^ 64
FullFits _ = ⊥

-- reading a refusal that more room would not cure
abbrev pub unfit_fault_at : Reader TreeError
unfit_fault_at = fault_of unfit_numbers

-- reading a refusal for want of room
abbrev pub full_fault_at : Reader TreeError
full_fault_at = fault_of full_numbers
