-- The text of each answer.
use Rattle.std.specs.Prelude.{◌≢◌, ⊤, ℕ, List, [], ◌∷◌, ◌++◌, length, codes, decimal, flat_map, if◌then◌else◌}
use Rattle.file_paths.specs.Path.{path_text}
use Rattle.shell_lang.specs.Faults.{number, spaced_path, tree_fault_text, fault_text, IsShown}
use Rattle.tree_values.specs.declared.node.TreeError.TheVariants as trees
use Rattle.shell_lang.specs.declared.answer.Child.{Child}
use Rattle.shell_lang.specs.declared.answer.LineAnswer.{LineAnswer}
use Rattle.shell_lang.specs.declared.answer.LineAnswer.TheVariants as answers

-- the words that an answer begins with
abbrev pub answer_name : LineAnswer → List ℕ
answer_name (answers.Logged seq) = codes "logged"
answer_name (answers.Text content) = []
answer_name (answers.Listing children) = []
answer_name (answers.At p) = codes "at /"
answer_name (answers.Ran seq status) = codes "logged"
answer_name (answers.Nothing status) = codes "nothing logged status"
answer_name answers.NotRun = codes "not run"
answer_name (answers.OddTree i) = codes "odd tree"
answer_name (answers.Clash p) = codes "clash"
answer_name (answers.Status acked pending) = codes "acknowledged"
answer_name (answers.Synced n) = codes "synced"
answer_name (answers.Stale seq p theirs ours) = codes "stale"
answer_name (answers.Unfit seq index fault) = codes "unfit"
answer_name (answers.Full seq index fault) = codes "full"
answer_name (answers.Unanswered seq) = codes "unanswered"
answer_name (answers.Behind seq last) = codes "behind"
answer_name (answers.Pulled n) = codes "pulled"
answer_name (answers.OtherLast last) = codes "other last"
answer_name (answers.Older p theirs ours) = codes "older"
answer_name answers.PullUnanswered = codes "unanswered"
answer_name (answers.Refused fault) = codes "refused"

-- what follows in the same line
abbrev pub answer_values : LineAnswer → List ℕ
answer_values (answers.Logged seq) = number seq
answer_values (answers.Text content) = decimal (length content)
answer_values (answers.Listing children) = decimal (length children)
answer_values (answers.At p) = path_text p
answer_values (answers.Ran seq status) = number seq ++ (codes " status" ++ number status)
answer_values (answers.Nothing status) = number status
answer_values answers.NotRun = []
answer_values (answers.OddTree i) = number i
answer_values (answers.Clash p) = spaced_path p
answer_values (answers.Status acked pending) = number acked ++ (codes " pending" ++ number pending)
answer_values (answers.Synced n) = number n
answer_values (answers.Stale seq p theirs ours) = number seq ++ (spaced_path p ++ (number theirs ++ number ours))
answer_values (answers.Unfit seq index fault) = number seq ++ (number index ++ 32 ∷ tree_fault_text fault)
answer_values (answers.Full seq index fault) = number seq ++ (number index ++ 32 ∷ tree_fault_text fault)
answer_values (answers.Unanswered seq) = number seq
answer_values (answers.Behind seq last) = number seq ++ number last
answer_values (answers.Pulled n) = number n
answer_values (answers.OtherLast last) = number last
answer_values (answers.Older p theirs ours) = spaced_path p ++ (number theirs ++ number ours)
answer_values answers.PullUnanswered = []
answer_values (answers.Refused fault) = 32 ∷ fault_text fault

-- `d NAME` or `f NAME`, and a line end
abbrev pub child_line : Child → List ℕ
child_line child = (if child.folder then 100 else 102) ∷ 32 ∷ child.name ++ 10 ∷ []

-- what follows the first line: a content gets no line end behind it
abbrev pub answer_body : LineAnswer → List ℕ
answer_body (answers.Text content) = content
answer_body (answers.Listing children) = flat_map child_line children
answer_body answer = []

-- a first line, and what follows it
abbrev pub text_of : LineAnswer → List ℕ
text_of answer = answer_name answer ++ (answer_values answer ++ 10 ∷ answer_body answer)

-- no refusal in the answer is want of memory
abbrev pub HasNoMemory : LineAnswer → Type 0
HasNoMemory (answers.Unfit seq index fault) = fault ≢ trees.Memory
HasNoMemory (answers.Full seq index fault) = fault ≢ trees.Memory
HasNoMemory (answers.Refused fault) = IsShown fault
HasNoMemory answer = ⊤
