-- Which contents entries put, and that each has a number and an index of its own.
use Rattle.std.proofs.Common.{◌≡◌, ℕ, zero, suc, ◌+◌, ◌<◌, ◌≤◌, List, [], ◌∷◌, ◌++◌, length, map, Option, Some, None, inl, inr, refl, sym, ap, ◌∙◌, subst, arith}
use Rattle.std.specs.Prelude.{◌⊎◌, slice_get}
use Rattle.std.specs.Option.{option_to_list}
use Rattle.std.proofs.lemmas.List.{map-append}
use Rattle.tree_values.specs.Lists.{IsIn, NoneTwice}
use Rattle.tree_values.specs.Tree.{Volume}
use Rattle.tree_values.specs.Effects.{changed_all}
use Rattle.tree_values.specs.declared.node.Effect.{Effect}
use Rattle.tree_values.specs.declared.node.Effect.TheVariants.{Make, Put, Remove, Move, Mode}
use Rattle.vol_tree.proofs.Behind.{IsIn-left, IsIn-right}
use Rattle.file_paths.specs.Path.{FilePath}
use Rattle.mod_log.specs.declared.log.Entry.{Entry}
use Rattle.mod_log.specs.Log.{Log, IsLog, AreEntriesOf}
use Rattle.conflict_shelf.specs.Shelf.{PutAside, put_of, puts_from, puts_of, puts_in}
use Rattle.conflict_shelf.specs.Laws.{WasPut, file_of}
use Rattle.conflict_shelf.proofs.Files.{IsSmall, same_file}

-- ---- what is in lists

pub in_parts : {X : Type 0} (x : X) (xs ys : List X) → IsIn x (xs ++ ys) → IsIn x xs ⊎ IsIn x ys
in_parts x [] ys is = inr is
in_parts x (y ∷ xs) ys (inl same) = inl (inl same)
in_parts x (y ∷ xs) ys (inr later) =
    elim (in_parts x xs ys later) [
      | inl front ↦ inl (inr front)
      | inr back ↦ inr back
    ]

in_option : {X : Type 0} (x : X) (o : Option X) → IsIn x (option_to_list o) → o ≡ Some x
in_option x None is = absurd is
in_option x (Some y) (inl same) = ap (λ z. Some z) (sym same)
in_option x (Some y) (inr never) = absurd never

in_map : {X : Type 0} (f : X → FilePath) (path : FilePath) (xs : List X) → IsIn path (map f xs) → (x : X) × IsIn x xs × (path ≡ f x)
in_map f path [] is = absurd is
in_map f path (x ∷ xs) (inl same) = (x, inl refl, same)
in_map f path (x ∷ xs) (inr later) = let found = in_map f path xs later in (found.0, inr found.1, found.2)

none_twice_append : (xs ys : List FilePath) → NoneTwice xs → NoneTwice ys → ((path : FilePath) → IsIn path xs → IsIn path ys → ⊥) → NoneTwice (xs ++ ys)
none_twice_append [] ys none none' apart = none'
none_twice_append (x ∷ xs) ys none none' apart = (first, none_twice_append xs ys none.1 none' (λ path front back. apart path (inr front) back))
  where
    first : IsIn x (xs ++ ys) → ⊥
    first is =
        elim (in_parts x xs ys is) [
          | inl front ↦ none.0 front
          | inr back ↦ apart x (inl refl) back
        ]

-- ---- what effects put

-- this content, of the effect with this index of an entry
abbrev pub aside : ℕ → ℕ → FilePath → List ℕ → PutAside
aside seq index path content = record { name = record { seq = seq; index = index; path = path }; content = content }

some_is : {X : Type 0} (x y : X) → Some x ≡ Some y → x ≡ y
some_is x y e = cc e

pub put_is : (seq index : ℕ) (effect : Effect) (put : PutAside) → put_of seq index effect ≡ Some put → (put.name.seq ≡ seq) × (put.name.index ≡ index) × (effect ≡ Put put.name.path put.content)
put_is seq index (Make path) put e = absurd (cc e)
put_is seq index (Put path content) put e =
    subst (λ (p : PutAside). (p.name.seq ≡ seq) × (p.name.index ≡ index) × (Put path content ≡ Put p.name.path p.content)) (some_is (aside seq index path content) put e) (refl, refl, refl)
put_is seq index (Remove path) put e = absurd (cc e)
put_is seq index (Move from to) put e = absurd (cc e)
put_is seq index (Mode path exec) put e = absurd (cc e)

-- a put content is of an effect of its index
pub put_found : (seq k : ℕ) (effects : List Effect) (put : PutAside) → IsIn put (puts_from seq k effects)
    → (j : ℕ) × (put.name.seq ≡ seq) × (put.name.index ≡ k + j) × (slice_get effects j ≡ Some (Put put.name.path put.content))
put_found seq k [] put is = absurd is
put_found seq k (effect ∷ effects) put is =
    elim (in_parts put (option_to_list (put_of seq k effect)) (puts_from seq (k + 1) effects) is) [
      | inl here ↦ first (put_is seq k effect put (in_option put (put_of seq k effect) here))
      | inr later ↦ next (put_found seq (k + 1) effects put later)
    ]
  where
    first : (put.name.seq ≡ seq) × (put.name.index ≡ k) × (effect ≡ Put put.name.path put.content)
        → (j : ℕ) × (put.name.seq ≡ seq) × (put.name.index ≡ k + j) × (slice_get (effect ∷ effects) j ≡ Some (Put put.name.path put.content))
    first known = (zero, known.0, omega (arith, known.1), ap (λ e. Some e) known.2)

    next : (j : ℕ) × (put.name.seq ≡ seq) × (put.name.index ≡ k + 1 + j) × (slice_get effects j ≡ Some (Put put.name.path put.content))
        → (j : ℕ) × (put.name.seq ≡ seq) × (put.name.index ≡ k + j) × (slice_get (effect ∷ effects) j ≡ Some (Put put.name.path put.content))
    next known = (suc known.0, known.1, omega (arith, known.2), known.3)

-- and each effect that puts one has it
pub put_within : (seq k j i : ℕ) (effects : List Effect) (path : FilePath) (content : List ℕ) → i ≡ k + j → slice_get effects j ≡ Some (Put path content)
    → IsIn (aside seq i path content) (puts_from seq k effects)
put_within seq k j i [] path content at found = absurd (cc found)
put_within seq k zero i (effect ∷ effects) path content at found =
    let same : i ≡ k = omega (arith, at) in
    let put : effect ≡ Put path content = some_is effect (Put path content) found in
    rw (same, put) (inl refl)
put_within seq k (suc j) i (effect ∷ effects) path content at found =
    IsIn-right (aside seq i path content) (option_to_list (put_of seq k effect)) (puts_from seq (k + 1) effects) (put_within seq (k + 1) j i effects path content (omega (arith, at)) found)

-- ---- what entries put

in_entries : (entries : List Entry) (put : PutAside) → IsIn put (puts_in entries) → (entry : Entry) × IsIn entry entries × IsIn put (puts_of entry)
in_entries [] put is = absurd is
in_entries (entry ∷ entries) put is =
    elim (in_parts put (puts_of entry) (puts_in entries) is) [
      | inl here ↦ (entry, inl refl, here)
      | inr later ↦ next (in_entries entries put later)
    ]
  where
    next : (e : Entry) × IsIn e entries × IsIn put (puts_of e) → (e : Entry) × IsIn e (entry ∷ entries) × IsIn put (puts_of e)
    next found = (found.0, inr found.1, found.2)

of_entry : (entries : List Entry) (entry : Entry) (put : PutAside) → IsIn entry entries → IsIn put (puts_of entry) → IsIn put (puts_in entries)
of_entry [] entry put among is = absurd among
of_entry (first ∷ entries) entry put (inl same) is = IsIn-left put (puts_of first) (puts_in entries) (subst (λ (e : Entry). IsIn put (puts_of e)) same is)
of_entry (first ∷ entries) entry put (inr later) is = IsIn-right put (puts_of first) (puts_in entries) (of_entry entries entry put later is)

pub was_put : (log : Log) (put : PutAside) → IsIn put (puts_in log.pending) → WasPut log put
was_put log put is =
    let found = in_entries log.pending put is in
    let known = put_found found.0.seq 0 found.0.effects put found.2 in
    let same : known.0 ≡ put.name.index = omega (arith, known.2) in
    record {
      entry = found.0;
      pending = found.1;
      numbered = sym known.1;
      at = subst (λ (j : ℕ). slice_get found.0.effects j ≡ Some (Put put.name.path put.content)) same known.3;
    }

pub is_put : (log : Log) (put : PutAside) → WasPut log put → IsIn put (puts_in log.pending)
is_put log put was =
    of_entry log.pending was.entry put was.pending
    (subst (λ (n : ℕ). IsIn (aside n put.name.index put.name.path put.content) (puts_of was.entry)) was.numbered
    (put_within was.entry.seq 0 put.name.index put.name.index was.entry.effects put.name.path put.content (omega arith) was.at))

-- ---- numbers and indices

pub slice_short : {X : Type 0} (xs : List X) (j : ℕ) (x : X) → slice_get xs j ≡ Some x → j < length xs
slice_short [] j x found = absurd (cc found)
slice_short (y ∷ xs) zero x found = omega arith
slice_short (y ∷ xs) (suc j) x found = omega (arith, slice_short xs j x found)

-- the contents of entries that follow one another
pub puts_bounds : (number : ℕ) (volume : Volume) (entries : List Entry) (put : PutAside) → AreEntriesOf number volume entries → IsIn put (puts_in entries)
    → (number ≤ put.name.seq) × (put.name.seq < number + length entries) × (put.name.index < 4096)
puts_bounds number volume [] put are is = absurd is
puts_bounds number volume (entry ∷ entries) put are is =
    elim (in_parts put (puts_of entry) (puts_in entries) is) [
      | inl here ↦ first here
      | inr later ↦ next (puts_bounds (number + 1) (changed_all entry.effects volume) entries put are.1 later)
    ]
  where
    first : IsIn put (puts_of entry) → (number ≤ put.name.seq) × (put.name.seq < number + length (entry ∷ entries)) × (put.name.index < 4096)
    first here =
        let known = put_found entry.seq 0 entry.effects put here in
        let short = slice_short entry.effects known.0 (Put put.name.path put.content) known.3 in
        (omega (arith, known.1, are.0.numbered), omega (arith, known.1, are.0.numbered), omega (arith, known.2, short, are.0.fits.few))

    next : (number + 1 ≤ put.name.seq) × (put.name.seq < number + 1 + length entries) × (put.name.index < 4096)
        → (number ≤ put.name.seq) × (put.name.seq < number + length (entry ∷ entries)) × (put.name.index < 4096)
    next known = (omega (arith, known.0), omega (arith, known.1), known.2)

pub puts_small : (log : Log) (put : PutAside) → IsLog log → IsIn put (puts_in log.pending) → IsSmall put
puts_small log put is within =
    let known = puts_bounds (log.acked + 1) log.base log.pending put is.entries within in
    record { seq = omega (arith, known.1, is.last); index = omega (arith, known.2) }

module _ (folder : FilePath) where
  -- the contents of one entry
  one_entry : (seq k : ℕ) (effects : List Effect) → ((put : PutAside) → IsIn put (puts_from seq k effects) → IsSmall put) → NoneTwice (map (file_of folder) (puts_from seq k effects))
  one_entry seq k [] small = tt
  one_entry seq k (effect ∷ effects) small =
      by (put_of seq k effect) refl (one_entry seq (k + 1) effects (λ put is. small put (IsIn-right put (option_to_list (put_of seq k effect)) (puts_from seq (k + 1) effects) is)))
    where
      by : (o : Option PutAside) → put_of seq k effect ≡ o → NoneTwice (map (file_of folder) (puts_from seq (k + 1) effects)) → NoneTwice (map (file_of folder) (option_to_list o ++ puts_from seq (k + 1) effects))
      by None e later = later
      by (Some put) e later = (apart, later)
        where
          here : IsIn put (puts_from seq k (effect ∷ effects))
          here = IsIn-left put (option_to_list (put_of seq k effect)) (puts_from seq (k + 1) effects) (subst (λ (o : Option PutAside). IsIn put (option_to_list o)) (sym e) (inl refl))

          apart : IsIn (file_of folder put) (map (file_of folder) (puts_from seq (k + 1) effects)) → ⊥
          apart is =
              let found = in_map (file_of folder) (file_of folder put) (puts_from seq (k + 1) effects) is in
              let there : IsIn found.0 (puts_from seq k (effect ∷ effects)) = IsIn-right found.0 (option_to_list (put_of seq k effect)) (puts_from seq (k + 1) effects) found.1 in
              let same = same_file folder put found.0 (small put here) (small found.0 there) found.2 in
              let index = put_is seq k effect put e in
              let known = put_found seq (k + 1) effects found.0 found.1 in
              omega (arith, same.1, index.1, known.2)

  each_entry_differs : (number : ℕ) (volume : Volume) (entries : List Entry) → AreEntriesOf number volume entries → ((put : PutAside) → IsIn put (puts_in entries) → IsSmall put) → NoneTwice (map (file_of folder) (puts_in entries))
  each_entry_differs number volume [] are small = tt
  each_entry_differs number volume (entry ∷ entries) are small =
      subst NoneTwice (sym (map-append (file_of folder) (puts_of entry) (puts_in entries)))
      (none_twice_append (map (file_of folder) (puts_of entry)) (map (file_of folder) (puts_in entries))
      (one_entry entry.seq 0 entry.effects (λ put is. small put (IsIn-left put (puts_of entry) (puts_in entries) is)))
      (each_entry_differs (number + 1) (changed_all entry.effects volume) entries are.1 (λ put is. small put (IsIn-right put (puts_of entry) (puts_in entries) is)))
      apart)
    where
      apart : (path : FilePath) → IsIn path (map (file_of folder) (puts_of entry)) → IsIn path (map (file_of folder) (puts_in entries)) → ⊥
      apart path front back =
          let one = in_map (file_of folder) path (puts_of entry) front in
          let other = in_map (file_of folder) path (puts_in entries) back in
          let same = same_file folder one.0 other.0 (small one.0 (IsIn-left one.0 (puts_of entry) (puts_in entries) one.1)) (small other.0 (IsIn-right other.0 (puts_of entry) (puts_in entries) other.1)) (sym one.2 ∙ other.2) in
          let here = put_found entry.seq 0 entry.effects one.0 one.1 in
          let known = puts_bounds (number + 1) (changed_all entry.effects volume) entries other.0 are.1 other.1 in
          omega (arith, same.0, here.1, are.0.numbered, known.0)

  pub files_differ : (log : Log) → IsLog log → NoneTwice (map (file_of folder) (puts_in log.pending))
  files_differ log is = each_entry_differs (log.acked + 1) log.base log.pending is.entries (λ put within. puts_small log put is within)
