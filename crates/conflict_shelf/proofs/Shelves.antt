-- What the entries of a shelf are, that a log can take them, and that they are where each file has a path.
use Rattle.std.proofs.Common.{◌≡◌, ℕ, ◌+◌, ◌<◌, ◌≤◌, ◌^◌, true, false, Bool, List, [], ◌∷◌, ◌++◌, length, map, cond, Option, Some, None, Result, Ok, Err, inl, inr, refl, sym, ap, ◌∙◌, subst, arith}
use Rattle.std.specs.Option.{option_to_list}
use Rattle.std.specs.Result.{result_map_both}
use Rattle.std.specs.List.{filter, AllByRecursion}
use Rattle.std.proofs.lemmas.List.Sums.{sum_by-cons}
use Rattle.byte_fields.proofs.Facts.{lt_of}
use Rattle.file_paths.specs.Path.{FilePath, IsPath, resolved}
use Rattle.file_paths.specs.declared.path.PathError.{PathError}
use Rattle.tree_values.specs.Lists.{IsIn}
use Rattle.tree_values.specs.Tree.{Volume}
use Rattle.tree_values.specs.Effects.{changed_all, content_size, contents_size}
use Rattle.tree_values.specs.Spelling.{EffectFits, EffectsFit}
use Rattle.tree_values.specs.declared.node.Effect.{Effect}
use Rattle.tree_values.specs.declared.node.Effect.TheVariants.{Make, Put, Remove, Move, Mode}
use Rattle.mod_log.specs.declared.log.Entry.{Entry}
use Rattle.mod_log.specs.Log.{Log, IsLog, AreEntriesOf}
use Rattle.conflict_shelf.specs.declared.shelf.ShelfError.TheVariants.{Path}
use Rattle.conflict_shelf.specs.Shelf.{PutAside, put_of, puts_from, puts_of, puts_in, has_put, place_name, set_aside, before, all_or_fault, shelved_entry, shelved}
use Rattle.conflict_shelf.specs.Laws.{file_of, put_in}
use Rattle.conflict_shelf.proofs.Files.{IsSmall, file_is, file_stands}
use Rattle.conflict_shelf.proofs.Putting.{put_found, slice_short}
use Rattle.conflict_shelf.proofs.Shelving.{each_entry, behind_folder, first_ok}

-- an entry with a spelling, whose number is one
record IsFine (entry : Entry) : Type 0 where
  fits : EffectsFit entry.effects
  numbered : entry.seq < 2 ^ 64

all_fine : (number : ℕ) (volume : Volume) (entries : List Entry) → number + length entries ≤ 2 ^ 64 → AreEntriesOf number volume entries → AllByRecursion IsFine entries
all_fine number volume [] few are = tt
all_fine number volume (entry ∷ entries) few are =
    (record { fits = are.0.fits; numbered = omega (arith, are.0.numbered, few) }, all_fine (number + 1) (changed_all entry.effects volume) entries (omega (arith, few)) are.1)

log_fine : (log : Log) → IsLog log → AllByRecursion IsFine log.pending
log_fine log is = all_fine (log.acked + 1) log.base log.pending (omega (arith, is.last)) is.entries

-- ---- all of a list

all_of : {X : Type 0} (P : X → Type 0) (xs : List X) → ((x : X) → IsIn x xs → P x) → AllByRecursion P xs
all_of P [] each = tt
all_of P (x ∷ xs) each = (each x (inl refl), all_of P xs (λ y later. each y (inr later)))

all_parts : {X : Type 0} (P : X → Type 0) (xs ys : List X) → AllByRecursion P (xs ++ ys) → AllByRecursion P xs × AllByRecursion P ys
all_parts P [] ys all = (tt, all)
all_parts P (x ∷ xs) ys all = let rest = all_parts P xs ys all.1 in ((all.0, rest.0), rest.1)

-- what is left of a list passes, too
all_left : {X : Type 0} (P : X → Type 0) (passes : X → Bool) (xs : List X) → AllByRecursion P xs → AllByRecursion (λ x. P x × (passes x ≡ true)) (filter passes xs)
all_left P passes [] all = tt
all_left P passes (x ∷ xs) all = by (passes x) refl (all_left P passes xs all.1)
  where
    by : (b : Bool) → passes x ≡ b → AllByRecursion (λ y. P y × (passes y ≡ true)) (filter passes xs) → AllByRecursion (λ y. P y × (passes y ≡ true)) (cond b (x ∷ filter passes xs) (filter passes xs))
    by true e later = ((all.0, e), later)
    by false e later = later

-- ---- one entry

puts_small : (entry : Entry) → IsFine entry → AllByRecursion IsSmall (puts_of entry)
puts_small entry fine =
    all_of IsSmall (puts_of entry)
    (λ put is. let known = put_found entry.seq 0 entry.effects put is in
    let short = slice_short entry.effects known.0 (Put put.name.path put.content) known.3 in
    record { seq = omega (arith, known.1, fine.numbered); index = omega (arith, known.2, short, fine.fits.few) })

placed_path : (r : Result FilePath PathError) (content : List ℕ) (value : Effect) → result_map_both (λ path. Put path content) Path r ≡ Ok value → (path : FilePath) × (r ≡ Ok path) × (value ≡ Put path content)
placed_path (Ok path) content value e = (path, refl, cc e)
placed_path (Err fault) content value e = absurd (cc e)

module _ (folder : FilePath) (is : IsPath folder) where
  -- its file has a path
  abbrev HasPath : PutAside → Type 0
  HasPath put = IsPath (file_of folder put)

  -- what an entry puts, where it goes
  abbrev files_of : Entry → List Effect
  files_of entry = map (put_in folder) (puts_of entry)

  put_there : (puts : List PutAside) (effects : List Effect) → AllByRecursion IsSmall puts → all_or_fault (map (set_aside folder) puts) ≡ Ok effects → (effects ≡ map (put_in folder) puts) × AllByRecursion HasPath puts
  put_there [] effects small e = (cc e, tt)
  put_there (put ∷ puts) effects small e =
      let first = first_ok (set_aside folder put) (all_or_fault (map (set_aside folder) puts)) effects e in
      let path = placed_path (resolved folder (place_name put.name.seq put.name.index)) put.content first.0 first.3 in
      let file = file_is folder put is small.0 path.0 path.1 in
      let rest = put_there puts first.1 small.1 first.4 in
      let here : first.0 ≡ put_in folder put = path.2 ∙ ap (λ p. Put p put.content) file.1 in
      (first.2 ∙ ap (λ effect. effect ∷ first.1) here ∙ ap (λ effects. put_in folder put ∷ effects) rest.0, (file.0, rest.1))

  stands_there : (puts : List PutAside) → AllByRecursion IsSmall puts → AllByRecursion HasPath puts → all_or_fault (map (set_aside folder) puts) ≡ Ok (map (put_in folder) puts)
  stands_there [] small paths = refl
  stands_there (put ∷ puts) small paths =
      ap (λ r. before r (all_or_fault (map (set_aside folder) puts))) (ap (result_map_both (λ path. Put path put.content) Path) (file_stands folder put is small.0 paths.0))
      ∙ ap (before (Ok (put_in folder put))) (stands_there puts small.1 paths.1)

  one_more_at_most : (o : Option PutAside) (puts : List PutAside) → length (option_to_list o ++ puts) ≤ 1 + length puts
  one_more_at_most None puts = omega arith
  one_more_at_most (Some put) puts = omega arith

  puts_few : (seq k : ℕ) (effects : List Effect) → length (puts_from seq k effects) ≤ length effects
  puts_few seq k [] = omega arith
  puts_few seq k (effect ∷ effects) = omega (arith, one_more_at_most (put_of seq k effect) (puts_from seq (k + 1) effects), puts_few seq (k + 1) effects)

  each_fits : (seq k : ℕ) (effects : List Effect) → AllByRecursion EffectFits effects → AllByRecursion HasPath (puts_from seq k effects) → AllByRecursion EffectFits (map (put_in folder) (puts_from seq k effects))
  each_fits seq k [] fits paths = tt
  each_fits seq k (Make path ∷ effects) fits paths = each_fits seq (k + 1) effects fits.1 paths
  each_fits seq k (Put path content ∷ effects) fits paths = (((paths.0, fits.0.0.1), fits.0.1), each_fits seq (k + 1) effects fits.1 paths.1)
  each_fits seq k (Remove path ∷ effects) fits paths = each_fits seq (k + 1) effects fits.1 paths
  each_fits seq k (Move from to ∷ effects) fits paths = each_fits seq (k + 1) effects fits.1 paths
  each_fits seq k (Mode path exec ∷ effects) fits paths = each_fits seq (k + 1) effects fits.1 paths

  sizes : (seq k : ℕ) (effects : List Effect) → contents_size (map (put_in folder) (puts_from seq k effects)) ≤ contents_size effects
  sizes seq k [] = omega arith
  sizes seq k (Make path ∷ effects) = omega (arith, sum_by-cons content_size (Make path) effects, sizes seq (k + 1) effects)
  sizes seq k (Put path content ∷ effects) =
      omega (
        arith,
        sum_by-cons content_size (Put path content) effects,
        sum_by-cons content_size (put_in folder (record { name = record { seq = seq; index = k; path = path }; content = content })) (map (put_in folder) (puts_from seq (k + 1) effects)),
        sizes seq (k + 1) effects,
      )
  sizes seq k (Remove path ∷ effects) = omega (arith, sum_by-cons content_size (Remove path) effects, sizes seq (k + 1) effects)
  sizes seq k (Move from to ∷ effects) = omega (arith, sum_by-cons content_size (Move from to) effects, sizes seq (k + 1) effects)
  sizes seq k (Mode path exec ∷ effects) = omega (arith, sum_by-cons content_size (Mode path exec) effects, sizes seq (k + 1) effects)

  mapped_length : (puts : List PutAside) → length (map (put_in folder) puts) ≡ length puts
  mapped_length [] = refl
  mapped_length (put ∷ puts) = omega (arith, mapped_length puts)

  entry_fits : (entry : Entry) → IsFine entry → has_put entry ≡ true → AllByRecursion HasPath (puts_of entry) → EffectsFit (files_of entry)
  entry_fits entry fine some paths =
      let long : 0 < length (puts_of entry) = lt_of 0 (length (puts_of entry)) some in
      record {
        some = omega (arith, mapped_length (puts_of entry), long);
        few = omega (arith, mapped_length (puts_of entry), puts_few entry.seq 0 entry.effects, fine.fits.few);
        each = each_fits entry.seq 0 entry.effects fine.fits.each paths;
        all_contents = omega (arith, sizes entry.seq 0 entry.effects, fine.fits.all_contents);
      }

  -- ---- all entries

  each_there : (entries : List Entry) (lists : List (List Effect)) → AllByRecursion (λ entry. IsFine entry × (has_put entry ≡ true)) entries → all_or_fault (map (shelved_entry folder) entries) ≡ Ok lists
      → (lists ≡ map files_of entries) × AllByRecursion EffectsFit lists
  each_there [] lists fine e = let none : [] ≡ lists = cc e in (sym none, subst (AllByRecursion EffectsFit) none tt)
  each_there (entry ∷ entries) lists fine e =
      let first = first_ok (shelved_entry folder entry) (all_or_fault (map (shelved_entry folder) entries)) lists e in
      let here = put_there (puts_of entry) first.0 (puts_small entry fine.0.0) first.3 in
      let rest = each_there entries first.1 fine.1 first.4 in
      let fits : EffectsFit first.0 = subst EffectsFit (sym here.0) (entry_fits entry fine.0.0 fine.0.1 here.1) in
      (first.2 ∙ ap (λ effects. effects ∷ first.1) here.0 ∙ ap (λ more. files_of entry ∷ more) rest.0, subst (AllByRecursion EffectsFit) (sym first.2) (fits, rest.1))

  folder_fits : EffectsFit (Make folder ∷ [])
  folder_fits = record { some = omega arith; few = omega arith; each = ((is, omega arith), tt); all_contents = omega arith }

  pub in_order : (log : Log) (lists : List (List Effect)) → IsLog log → shelved folder log.pending ≡ Ok lists
      → (lists ≡ (Make folder ∷ []) ∷ map files_of (filter has_put log.pending)) × AllByRecursion EffectsFit lists
  in_order log lists legal e =
      let parts = behind_folder folder (each_entry folder log.pending) lists e in
      let there = each_there (filter has_put log.pending) parts.0 (all_left IsFine has_put log.pending (log_fine log legal)) parts.1 in
      (parts.2 ∙ ap (λ each. (Make folder ∷ []) ∷ each) there.0, subst (AllByRecursion EffectsFit) (sym parts.2) (folder_fits, there.1))

  stand_each : (entries : List Entry) → AllByRecursion IsFine entries → AllByRecursion HasPath (puts_in entries) → each_entry folder entries ≡ Ok (map files_of (filter has_put entries))
  stand_each [] fine paths = refl
  stand_each (entry ∷ entries) fine paths =
      let parts = all_parts HasPath (puts_of entry) (puts_in entries) paths in
      let rest = stand_each entries fine.1 parts.1 in
      elim (has_put entry) as (λ b. all_or_fault (map (shelved_entry folder) (cond b (entry ∷ filter has_put entries) (filter has_put entries))) ≡ Ok (map files_of (cond b (entry ∷ filter has_put entries) (filter has_put entries)))) [
        | true ↦ ap (λ r. before r (each_entry folder entries)) (stands_there (puts_of entry) (puts_small entry fine.0) parts.0) ∙ ap (before (Ok (files_of entry))) rest
        | false ↦ rest
      ]

  pub shelves_stand : (log : Log) → IsLog log → AllByRecursion HasPath (puts_in log.pending) → (lists : List (List Effect)) × (shelved folder log.pending ≡ Ok lists)
  shelves_stand log legal paths =
      ((Make folder ∷ []) ∷ map files_of (filter has_put log.pending), ap (before (Ok (Make folder ∷ []))) (stand_each log.pending (log_fine log legal) paths))
