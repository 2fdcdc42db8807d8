-- The line that tells what a certificate says of a path, or why it is refused.
use Rattle.std.specs.Prelude.{ℕ, Bool, true, false, List, [], ◌∷◌, ◌++◌, Result, Ok, Err, codes}
use Rattle.hex.specs.Hex.{encode_lower}
use Rattle.shell_lang.specs.Faults.{number, spaced_path}
use Rattle.tree_proof.specs.declared.slim.SlimNode.{SlimNode}
use Rattle.tree_proof.specs.declared.slim.SlimNode.TheVariants as slims
use Rattle.tree_proof.specs.declared.checking.Finding.{Finding}
use Rattle.tree_proof.specs.declared.checking.Finding.TheVariants.{Row, NoRow}
use Rattle.tree_proof.specs.declared.checking.CheckError.{CheckError}
use Rattle.tree_proof.specs.declared.checking.CheckError.TheVariants.{BadCert, OtherPath, WrongRoot, Memory}

-- what a file is called, by whether it may be run
abbrev pub file_word : Bool → List ℕ
file_word false = codes "file"
file_word true = codes "program"

-- what stands there, and of a file its length and the digits of its print
abbrev pub node_text : SlimNode → List ℕ
node_text slims.None = codes "none"
node_text slims.Folder = codes "folder"
node_text (slims.File exec len print) = file_word exec ++ (number len ++ 32 ∷ encode_lower print)

abbrev pub finding_text : Finding → List ℕ
finding_text (Row row) = codes "row" ++ (number row.version ++ 32 ∷ node_text row.node)
finding_text NoRow = codes "no row"

-- a refusal's name, and its value: of two roots the digits of the one that was computed; want of memory is never told
abbrev pub refusal_text : CheckError → List ℕ
refusal_text (BadCert place) = codes "BadCert" ++ number place
refusal_text (OtherPath path) = codes "OtherPath" ++ spaced_path path
refusal_text (WrongRoot wanted found) = codes "WrongRoot " ++ encode_lower found
refusal_text Memory = []

-- the line that answers
abbrev pub answer_line : Result Finding CheckError → List ℕ
answer_line (Ok finding) = finding_text finding ++ 10 ∷ []
answer_line (Err refused) = codes "refused " ++ (refusal_text refused ++ 10 ∷ [])
