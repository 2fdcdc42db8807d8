-- What a shelf holds, in the words of the log that it is made of.
use Rattle.std.specs.Prelude.{◌≡◌, ◌↔◌, List, [], ◌∷◌, ◌++◌, map, filter, slice_get, Some, Ok}
use Rattle.std.specs.List.{AllByRecursion}
use Rattle.file_paths.specs.Path.{FilePath, IsPath}
use Rattle.tree_values.specs.Lists.{IsIn, NoneTwice}
use Rattle.tree_values.specs.Spelling.{EffectsFit}
use Rattle.tree_values.specs.declared.node.Effect.{Effect}
use Rattle.tree_values.specs.declared.node.Effect.TheVariants.{Make, Put}
use Rattle.mod_log.specs.declared.log.Entry.{Entry}
use Rattle.mod_log.specs.Log.{Log, IsLog}
use Rattle.conflict_shelf.specs.Shelf.{PutAside, puts_of, puts_in, has_put, place_name, shelved}

-- the folder's file `S.I`
abbrev pub file_of : FilePath → PutAside → FilePath
file_of folder put = folder ++ place_name put.name.seq put.name.index ∷ []

-- the content is put there
abbrev pub put_in : FilePath → PutAside → Effect
put_in folder put = Put (file_of folder put) put.content

-- the effect with this index of the pending entry with this number puts this content at this path
pub record WasPut (log : Log) (put : PutAside) : Type 0 where
  pub entry : Entry
  pub pending : IsIn entry log.pending
  pub numbered : entry.seq ≡ put.name.seq
  pub at : slice_get entry.effects put.name.index ≡ Some (Put put.name.path put.content)

-- What is set aside are just the contents that pending entries put, each with its name.
abbrev pub PutsAreSetAside : Type 0
PutsAreSetAside = (log : Log) (put : PutAside) → IsIn put (puts_in log.pending) ↔ WasPut log put

-- The folder is made; then each pending entry with a Put is one entry, with its contents in order, each in its file. Others leave none.
abbrev pub ShelvesHoldThemInOrder : Type 0
ShelvesHoldThemInOrder = (log : Log) (folder : FilePath) (lists : List (List Effect)) → IsLog log → IsPath folder
    → shelved folder log.pending ≡ Ok lists
    → lists ≡ (Make folder ∷ []) ∷ map (λ entry. map (put_in folder) (puts_of entry)) (filter has_put log.pending)

-- No two contents have one file.
abbrev pub FilesDiffer : Type 0
FilesDiffer = (log : Log) (folder : FilePath) → IsLog log → NoneTwice (map (file_of folder) (puts_in log.pending))

-- Each entry has 1 to 4,096 effects, with paths, and with contents of at most 32 MiB together.
abbrev pub ShelvesFit : Type 0
ShelvesFit = (log : Log) (folder : FilePath) (lists : List (List Effect)) → IsLog log → IsPath folder
    → shelved folder log.pending ≡ Ok lists → AllByRecursion EffectsFit lists

-- Where each file is one, nothing is refused.
abbrev pub ShelvesStand : Type 0
ShelvesStand = (log : Log) (folder : FilePath) → IsLog log → IsPath folder
    → AllByRecursion (λ put. IsPath (file_of folder put)) (puts_in log.pending)
    → (lists : List (List Effect)) × (shelved folder log.pending ≡ Ok lists)
