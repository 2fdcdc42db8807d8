-- Why an effect is refused: the one spelling of a refusal, its fields, and how it is read.
use Rattle.std.specs.Prelude.{◌≡◌, ℕ, ◌<◌, ◌^◌, ◌==◌, Bool, true, List, [], ◌∷◌, ◌++◌, get_or}
use Rattle.std.specs.Int.{w32, w64}
use Rattle.std.specs.List.{filter, list_any}
use Rattle.byte_fields.specs.Field.{Reader, digits, number_at, none, one, two, tagged_at}
use Rattle.file_paths.specs.Path.{IsPath}
use Rattle.file_paths.specs.Spelling.{path}
use Rattle.file_paths.specs.Fields.{path_fields}
use Rattle.file_paths.specs.Reading.{path_at}
use Rattle.tree_values.specs.declared.node.TreeError.{TreeError}
use Rattle.tree_values.specs.declared.node.TreeError.TheVariants.{RootFixed, NoParent, Exists, Missing, IsFolder, NotEmpty, RowsFull}
use Rattle.tree_values.specs.declared.node.TreeError.TheVariants.{FileTooLarge, TreeFull, VersionTop, Memory}

-- the number of the refusal, and what it names; want of memory has no spelling
abbrev pub tree_fault : TreeError → List ℕ
tree_fault RootFixed = 1 ∷ []
tree_fault (NoParent p) = 2 ∷ path p
tree_fault (Exists p) = 3 ∷ path p
tree_fault (Missing p) = 4 ∷ path p
tree_fault (IsFolder p) = 5 ∷ path p
tree_fault (NotEmpty p child) = 6 ∷ (path p ++ path child)
tree_fault (RowsFull n) = 7 ∷ digits w32 n
tree_fault (FileTooLarge n) = 8 ∷ digits w64 n
tree_fault (TreeFull n) = 9 ∷ digits w64 n
tree_fault (VersionTop p) = 10 ∷ path p
tree_fault Memory = []

-- the number of the refusal, its first byte
abbrev pub fault_number : TreeError → ℕ
fault_number fault = get_or (tree_fault fault) 0 0

-- the number of the refusal, and the fields of what it names, given by their numbers of bytes
abbrev pub fault_fields : TreeError → List ℕ
fault_fields RootFixed = 1 ∷ []
fault_fields (NoParent p) = 1 ∷ path_fields p
fault_fields (Exists p) = 1 ∷ path_fields p
fault_fields (Missing p) = 1 ∷ path_fields p
fault_fields (IsFolder p) = 1 ∷ path_fields p
fault_fields (NotEmpty p child) = 1 ∷ (path_fields p ++ path_fields child)
fault_fields (RowsFull n) = 1 ∷ 4 ∷ []
fault_fields (FileTooLarge n) = 1 ∷ 8 ∷ []
fault_fields (TreeFull n) = 1 ∷ 8 ∷ []
fault_fields (VersionTop p) = 1 ∷ path_fields p
fault_fields Memory = []

-- a refusal that has a spelling: its paths are paths, and its numbers fit their width
abbrev pub FaultFits : TreeError → Type 0
FaultFits RootFixed = Unit {0}
FaultFits (NoParent p) = IsPath p
FaultFits (Exists p) = IsPath p
FaultFits (Missing p) = IsPath p
FaultFits (IsFolder p) = IsPath p
FaultFits (NotEmpty p child) = IsPath p × IsPath child
FaultFits (RowsFull n) = n < 2 ^ 32
FaultFits (FileTooLarge n) = n < 2 ^ 64
FaultFits (TreeFull n) = n < 2 ^ 64
FaultFits (VersionTop p) = IsPath p
FaultFits Memory = ⊥

-- the numbers of the refusals, with what follows each
abbrev pub fault_kinds : List (ℕ × Reader TreeError)
fault_kinds =
    (1, none RootFixed) ∷ (2, one path_at NoParent) ∷ (3, one path_at Exists) ∷ (4, one path_at Missing) ∷ (5, one path_at IsFolder)
    ∷ (6, two path_at (λ _. path_at) NotEmpty) ∷ (7, one (number_at w32) RowsFull) ∷ (8, one (number_at w64) FileTooLarge)
    ∷ (9, one (number_at w64) TreeFull) ∷ (10, one path_at VersionTop) ∷ []

-- a refusal
unfoldable pub fault_at : Reader TreeError
fault_at = tagged_at fault_kinds

-- whether a number is one of these
abbrev pub is_one_of : List ℕ → ℕ → Bool
is_one_of numbers number = list_any (λ n. n == number) numbers

-- the kinds of refusal that have these numbers
abbrev pub kinds_of : List ℕ → List (ℕ × Reader TreeError)
kinds_of numbers = filter (λ known. is_one_of numbers known.0) fault_kinds

-- a refusal of one of these numbers; another number is a fault of its byte
unfoldable pub fault_of : List ℕ → Reader TreeError
fault_of numbers = tagged_at (kinds_of numbers)

-- a refusal of one of these numbers that has a spelling
abbrev pub FaultFitsOf : List ℕ → TreeError → Type 0
FaultFitsOf numbers fault = FaultFits fault × (is_one_of numbers (fault_number fault) ≡ true)
