-- What a shelving writes.
use Rattle.std.specs.Prelude.{ℕ, List, [], ◌∷◌, ◌++◌, length, codes, decimal, flat_map}
use Rattle.file_paths.specs.Path.{path_text}
use Rattle.shell_lang.specs.Texts.{text_of}
use Rattle.shell_lang.specs.declared.answer.LineAnswer.TheVariants as answers
use Rattle.shell_lang.specs.declared.answer.Fault.TheVariants as faults
use Rattle.conflict_shelf.specs.Shelf.{place_name}
use Rattle.conflict_shelf.specs.declared.shelf.Shelved.{Shelved}
use Rattle.client_shelf.specs.declared.ends.Ending.{Ending}
use Rattle.client_shelf.specs.declared.ends.Ending.TheVariants as ends

-- `f S.I PATH` and a line end
abbrev pub shelved_line : Shelved → List ℕ
shelved_line shelved = codes "f " ++ (place_name shelved.seq shelved.index ++ 32 ∷ (path_text shelved.path ++ 10 ∷ []))

-- `shelved E entries F files` and a line end
abbrev pub counts_line : ℕ → ℕ → List ℕ
counts_line entries files = codes "shelved " ++ (decimal entries ++ (codes " entries " ++ (decimal files ++ (codes " files" ++ 10 ∷ []))))

-- a line for each content, and then how many entries and contents there are
abbrev pub shelf_text : ℕ → List Shelved → List ℕ
shelf_text entries names = flat_map shelved_line names ++ counts_line entries (length names)

-- what is written at an end: the same as a session writes of the refusal of a path or of the log, and of a pull
abbrev pub ending_text : Ending → List ℕ
ending_text ends.NoImage = codes "refused NoImage" ++ 10 ∷ []
ending_text ends.NewImage = codes "refused NewImage" ++ 10 ∷ []
ending_text (ends.BadFolder fault) = text_of (answers.Refused (faults.Path fault))
ending_text ends.NothingPending = codes "refused NothingPending" ++ 10 ∷ []
ending_text (ends.BadPlace fault) = text_of (answers.Refused (faults.Path fault))
ending_text ends.Unanswered = text_of answers.PullUnanswered
ending_text (ends.OtherLast last) = text_of (answers.OtherLast last)
ending_text (ends.Older path theirs ours) = text_of (answers.Older path theirs ours)
ending_text (ends.Unlogged refusal) = text_of (answers.Refused (faults.Log refusal))
ending_text (ends.Shelved entries names) = shelf_text entries names
