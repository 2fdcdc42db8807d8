-- What a log's pending entries put, as entries that put it into a folder.
use Rattle.std.specs.Prelude.{◌≡◌, ℕ, ◌+◌, Bool, nat_lt, List, [], ◌∷◌, ◌++◌, length}
use Rattle.std.specs.Prelude.{map, filter, Option, Some, None, Result, Ok, Err, decimal}
use Rattle.std.specs.List.{flat_map}
use Rattle.std.specs.Option.{option_to_list}
use Rattle.std.specs.Result.{result_map_both}
use Rattle.file_paths.specs.Path.{FilePath, resolved}
use Rattle.tree_values.specs.declared.node.Effect.{Effect}
use Rattle.tree_values.specs.declared.node.Effect.TheVariants.{Make, Put, Remove, Move, Mode}
use Rattle.mod_log.specs.declared.log.Entry.{Entry}
use Rattle.conflict_shelf.specs.declared.shelf.Shelf.{Shelf}
use Rattle.conflict_shelf.specs.declared.shelf.Shelved.{Shelved}
use Rattle.conflict_shelf.specs.declared.shelf.ShelfError.{ShelfError}
use Rattle.conflict_shelf.specs.declared.shelf.ShelfError.TheVariants.{Path}

-- ---- what is set aside

-- a content that a pending entry puts: which it is, and its bytes
pub record PutAside : Type 0 where
  pub name : Shelved
  pub content : List ℕ

-- what the effect with this index puts, where it puts something; whether it may be run is left out
abbrev pub put_of : ℕ → ℕ → Effect → Option PutAside
put_of seq index (Make path) = None
put_of seq index (Put path content) =
    Some (record { name = record { seq = seq; index = index; path = path }; content = content })
put_of seq index (Remove path) = None
put_of seq index (Move from to) = None
put_of seq index (Mode path exec) = None

-- what an entry's effects put, of which the first has this index
abbrev pub puts_from : ℕ → ℕ → List Effect → List PutAside
puts_from seq index [] = []
puts_from seq index (effect ∷ effects) = option_to_list (put_of seq index effect) ++ puts_from seq (index + 1) effects

-- what an entry puts
abbrev pub puts_of : Entry → List PutAside
puts_of entry = puts_from entry.seq 0 entry.effects

-- whether it puts something
abbrev pub has_put : Entry → Bool
has_put entry = nat_lt 0 (length (puts_of entry))

-- what entries put, in their order
abbrev pub puts_in : List Entry → List PutAside
puts_in entries = flat_map puts_of entries

-- which contents these are
abbrev pub names_in : List Entry → List Shelved
names_in entries = map (λ put. put.name) (puts_in entries)

-- ---- where it goes

-- `S.I`: the number of the entry and the index of the effect, in decimal
abbrev pub place_name : ℕ → ℕ → List ℕ
place_name seq index = decimal seq ++ 46 ∷ decimal index

-- the effect that puts a content at its place in the folder, or why that is no path
abbrev pub set_aside : FilePath → PutAside → Result Effect ShelfError
set_aside folder put = result_map_both (λ path. Put path put.content) Path (resolved folder (place_name put.name.seq put.name.index))

-- a value before others, or the first fault
abbrev pub before : {T E : Type 0} → Result T E → Result (List T) E → Result (List T) E
before (Ok value) (Ok values) = Ok (value ∷ values)
before (Ok value) (Err fault) = Err fault
before (Err fault) values = Err fault

-- all the values, or the first fault
abbrev pub all_or_fault : {T E : Type 0} → List (Result T E) → Result (List T) E
all_or_fault [] = Ok []
all_or_fault (first ∷ rest) = before first (all_or_fault rest)

-- the effects that put into the folder what an entry puts
abbrev pub shelved_entry : FilePath → Entry → Result (List Effect) ShelfError
shelved_entry folder entry = all_or_fault (map (set_aside folder) (puts_of entry))

-- the folder is made, and then each entry that puts something is one that puts it there
abbrev pub shelved : FilePath → List Entry → Result (List (List Effect)) ShelfError
shelved folder entries =
    before (Ok (Make folder ∷ [])) (all_or_fault (map (shelved_entry folder) (filter has_put entries)))

-- the shelf of these entries in the folder
pub record IsShelfOf (folder : FilePath) (pending : List Entry) (shelf : Shelf) : Type 0 where
  pub entries : shelved folder pending ≡ Ok shelf.entries
  pub names : shelf.names ≡ names_in pending
