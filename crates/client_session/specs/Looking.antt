-- What the lines that read the tree answer.
use Rattle.std.specs.Prelude.{ℕ, List, [], ◌∷◌, ◌++◌, map, Option, None, Some, Result, Ok, Err}
use Rattle.file_paths.specs.Path.{FilePath, resolved}
use Rattle.tree_values.specs.Tree.{Volume, node_at, is_folder, children}
use Rattle.file_paths.specs.declared.path.PathError.{PathError}
use Rattle.tree_values.specs.declared.node.Node.{Node}
use Rattle.tree_values.specs.declared.node.Node.TheVariants.{Folder, File}
use Rattle.tree_values.specs.declared.node.TreeError.TheVariants.{Missing, IsFolder}
use Rattle.shell_lang.specs.declared.answer.Child.{Child}
use Rattle.shell_lang.specs.declared.answer.LineAnswer.{LineAnswer}
use Rattle.shell_lang.specs.declared.answer.LineAnswer.TheVariants.{Text, Listing, At, Refused}
use Rattle.shell_lang.specs.declared.answer.Fault.TheVariants as faults

-- what is found at a path; at the root a folder
abbrev pub node_found : Volume → FilePath → Option Node
node_found tree [] = Some Folder
node_found tree (name ∷ names) = node_at tree (name ∷ names)

-- nothing stands at the path
abbrev pub missing : FilePath → LineAnswer
missing path = Refused (faults.Tree (Missing path))

-- the content of a file
abbrev pub shown : FilePath → Option Node → LineAnswer
shown path None = missing path
shown path (Some Folder) = Refused (faults.Tree (IsFolder path))
shown path (Some (File content exec)) = Text content

-- a name in a folder, and whether a folder stands there
abbrev pub child_at : Volume → FilePath → List ℕ → Child
child_at tree folder name = record { name = name; folder = is_folder tree (folder ++ name ∷ []) }

-- what stands in a folder, in the order of the names
abbrev pub listed : Volume → FilePath → Option Node → LineAnswer
listed tree path None = missing path
listed tree path (Some Folder) = Listing (map (child_at tree path) (children tree path))
listed tree path (Some (File content exec)) = Refused (faults.NotFolder path)

-- the folder that is entered
abbrev pub entered : FilePath → Option Node → LineAnswer
entered path None = missing path
entered path (Some Folder) = At path
entered path (Some (File content exec)) = Refused (faults.NotFolder path)

-- the answer about the path that a word names, or the refusal of the word
abbrev pub about : Result FilePath PathError → (FilePath → LineAnswer) → LineAnswer
about (Ok path) answer = answer path
about (Err refusal) answer = Refused (faults.Path refusal)

-- `cat` of a word in the current folder
abbrev pub cat_answer : Volume → FilePath → List ℕ → LineAnswer
cat_answer tree folder word = about (resolved folder word) (λ path. shown path (node_found tree path))

-- `ls` of a word in the current folder, or of the current folder itself
abbrev pub list_answer : Volume → FilePath → Option (List ℕ) → LineAnswer
list_answer tree folder None = listed tree folder (node_found tree folder)
list_answer tree folder (Some word) = about (resolved folder word) (λ path. listed tree path (node_found tree path))

-- `cd` to a word in the current folder
abbrev pub enter_answer : Volume → FilePath → List ℕ → LineAnswer
enter_answer tree folder word = about (resolved folder word) (λ path. entered path (node_found tree path))

-- the current folder behind an answer: another one exactly where the answer says at which
abbrev pub folder_by : LineAnswer → FilePath → FilePath
folder_by (At path) folder = path
folder_by answer folder = folder
