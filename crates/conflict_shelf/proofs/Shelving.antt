-- What is set aside of one effect or one entry more, and where that is refused.
use Rattle.std.proofs.Common.{◌≡◌, ℕ, ◌+◌, ◌<◌, true, false, List, [], ◌∷◌, ◌++◌, length, take, drop, get_or, map, Option, Some, None, Result, Ok, Err, refl, sym, ap, ◌∙◌, subst, cond, arith, append_assoc, append-nil}
use Rattle.std.specs.Prelude.{nat_lt, option_map, slice_get}
use Rattle.std.specs.List.{filter}
use Rattle.std.specs.Option.{option_to_list}
use Rattle.std.proofs.lemmas.List.{take_more, map-append, take-append-drop, length-take-le}
use Rattle.std.proofs.lemmas.List.Elements.{filter-append}
use Rattle.std.proofs.lemmas.Option.{slice_get_within, get_or_from_slice_get}
use Rattle.std.proofs.lemmas.Grind.{flat_map-append}
use Rattle.std.proofs.lemmas.List.Concat.{flat_map-cons}
use Rattle.byte_fields.proofs.Facts.{lt_holds, lt_fails}
use Rattle.file_paths.specs.Path.{FilePath}
use Rattle.tree_values.specs.declared.node.Effect.{Effect}
use Rattle.tree_values.specs.declared.node.Effect.TheVariants.{Make}
use Rattle.mod_log.specs.declared.log.Entry.{Entry}
use Rattle.conflict_shelf.specs.declared.shelf.Shelf.{Shelf}
use Rattle.conflict_shelf.specs.declared.shelf.Shelved.{Shelved}
use Rattle.conflict_shelf.specs.declared.shelf.ShelfError.{ShelfError}
use Rattle.conflict_shelf.specs.Shelf.{PutAside, put_of, puts_from, puts_of, has_put, puts_in, names_in, set_aside, before, all_or_fault, shelved_entry, shelved, IsShelfOf}
use Rattle.conflict_shelf.specs.Inside.{shelved_effect, list_if_any}

-- ---- values or a first fault

-- values before others, or the first fault
abbrev pub behind : {T E : Type 0} → Result (List T) E → Result (List T) E → Result (List T) E
behind (Ok values) (Ok others) = Ok (values ++ others)
behind (Ok values) (Err fault) = Err fault
behind (Err fault) others = Err fault

none_before : {T E : Type 0} (r : Result (List T) E) → r ≡ behind (Ok []) r
none_before (Ok values) = refl
none_before (Err fault) = refl

one_before : {T E : Type 0} (x : Result T E) (r s : Result (List T) E) → before x (behind r s) ≡ behind (before x r) s
one_before (Ok value) (Ok values) (Ok others) = refl
one_before (Ok value) (Ok values) (Err fault) = refl
one_before (Ok value) (Err fault) s = refl
one_before (Err fault) r s = refl

pub all-append : {T E : Type 0} (xs ys : List (Result T E)) → all_or_fault (xs ++ ys) ≡ behind (all_or_fault xs) (all_or_fault ys)
all-append [] ys = none_before (all_or_fault ys)
all-append (x ∷ xs) ys = ap (before x) (all-append xs ys) ∙ one_before x (all_or_fault xs) (all_or_fault ys)

-- ---- the effects of an entry

-- what an effect within others puts
pub puts-cut : (seq k j : ℕ) (xs : List Effect) (e : Effect) (ys : List Effect) → j ≡ k + length xs
    → puts_from seq k (xs ++ e ∷ ys) ≡ puts_from seq k xs ++ (option_to_list (put_of seq j e) ++ puts_from seq (j + 1) ys)
puts-cut seq k j [] e ys at = let same : j ≡ k = omega (arith, at) in rw same refl
puts-cut seq k j (x ∷ xs) e ys at =
    ap (λ puts. option_to_list (put_of seq k x) ++ puts) (puts-cut seq (k + 1) j xs e ys (omega (arith, at)))
    ∙ sym (append_assoc (option_to_list (put_of seq k x)) (puts_from seq (k + 1) xs) (option_to_list (put_of seq j e) ++ puts_from seq (j + 1) ys))

-- what the effects up to the next one put
pub puts_more : (seq : ℕ) (effects : List Effect) (i : ℕ) (e : Effect) → i < length effects → e ≡ get_or effects i e
    → puts_from seq 0 (take (i + 1) effects) ≡ puts_from seq 0 (take i effects) ++ option_to_list (put_of seq i e)
puts_more seq effects i e within read =
    let long : length (take i effects) ≡ i = length-take-le i effects (omega (arith, within)) in
    ap (puts_from seq 0) (take_more effects i e within ∙ ap (λ x. take i effects ++ x ∷ []) (sym read))
    ∙ puts-cut seq 0 i (take i effects) e [] (omega (arith, long))
    ∙ ap (λ puts. puts_from seq 0 (take i effects) ++ puts) (append-nil (option_to_list (put_of seq i e)))

-- the effects, cut at one of them
cut_at : {X : Type 0} (xs : List X) (i : ℕ) (x : X) → i < length xs → x ≡ get_or xs i x → xs ≡ take i xs ++ x ∷ drop (i + 1) xs
cut_at xs i x within read =
    sym (take-append-drop (i + 1) xs)
    ∙ ap (λ front. front ++ drop (i + 1) xs) (take_more xs i x within ∙ ap (λ y. take i xs ++ y ∷ []) (sym read))
    ∙ append_assoc (take i xs) (x ∷ []) (drop (i + 1) xs)

pub effect_more : (folder : FilePath) (seq : ℕ) (effects : List Effect) (i : ℕ) (e : Effect) (so_far found : List Effect) → i < length effects → e ≡ get_or effects i e
    → all_or_fault (map (set_aside folder) (puts_from seq 0 (take i effects))) ≡ Ok so_far → shelved_effect folder seq i e ≡ Ok found
    → all_or_fault (map (set_aside folder) (puts_from seq 0 (take (i + 1) effects))) ≡ Ok (so_far ++ found)
effect_more folder seq effects i e so_far found within read is one =
    ap (λ puts. all_or_fault (map (set_aside folder) puts)) (puts_more seq effects i e within read)
    ∙ ap all_or_fault (map-append (set_aside folder) (puts_from seq 0 (take i effects)) (option_to_list (put_of seq i e)))
    ∙ all-append (map (set_aside folder) (puts_from seq 0 (take i effects))) (map (set_aside folder) (option_to_list (put_of seq i e)))
    ∙ ap (λ r. behind r (shelved_effect folder seq i e)) is
    ∙ ap (behind (Ok so_far)) one

pub effect_stop : (folder : FilePath) (seq : ℕ) (effects : List Effect) (i : ℕ) (e : Effect) (so_far : List Effect) (fault : ShelfError) → i < length effects → e ≡ get_or effects i e
    → all_or_fault (map (set_aside folder) (puts_from seq 0 (take i effects))) ≡ Ok so_far → shelved_effect folder seq i e ≡ Err fault
    → all_or_fault (map (set_aside folder) (puts_from seq 0 effects)) ≡ Err fault
effect_stop folder seq effects i e so_far fault within read is none =
    let long : length (take i effects) ≡ i = length-take-le i effects (omega (arith, within)) in
    let here = option_to_list (put_of seq i e) in
    let later = puts_from seq (i + 1) (drop (i + 1) effects) in
    ap (λ es. all_or_fault (map (set_aside folder) (puts_from seq 0 es))) (cut_at effects i e within read)
    ∙ ap (λ puts. all_or_fault (map (set_aside folder) puts)) (puts-cut seq 0 i (take i effects) e (drop (i + 1) effects) (omega (arith, long)))
    ∙ ap all_or_fault (map-append (set_aside folder) (puts_from seq 0 (take i effects)) (here ++ later))
    ∙ all-append (map (set_aside folder) (puts_from seq 0 (take i effects))) (map (set_aside folder) (here ++ later))
    ∙ ap (λ r. behind r (all_or_fault (map (set_aside folder) (here ++ later)))) is
    ∙ ap (λ puts. behind (Ok so_far) (all_or_fault puts)) (map-append (set_aside folder) here later)
    ∙ ap (behind (Ok so_far)) (all-append (map (set_aside folder) here) (map (set_aside folder) later))
    ∙ ap (λ r. behind (Ok so_far) (behind r (all_or_fault (map (set_aside folder) later)))) none

-- which contents they are, with one more
pub names_more : (names : List Shelved) (seq : ℕ) (effects : List Effect) (i : ℕ) (e : Effect) → i < length effects → e ≡ get_or effects i e
    → (names ++ map (λ put. put.name) (puts_from seq 0 (take i effects))) ++ option_to_list (option_map (λ put. put.name) (put_of seq i e))
    ≡ names ++ map (λ put. put.name) (puts_from seq 0 (take (i + 1) effects))
names_more names seq effects i e within read =
    append_assoc names (map (λ put. put.name) (puts_from seq 0 (take i effects))) (option_to_list (option_map (λ put. put.name) (put_of seq i e)))
    ∙ ap (λ more. names ++ (map (λ put. put.name) (puts_from seq 0 (take i effects)) ++ more)) (mapped (put_of seq i e))
    ∙ ap (λ more. names ++ more) (sym (map-append (λ (put : PutAside). put.name) (puts_from seq 0 (take i effects)) (option_to_list (put_of seq i e))))
    ∙ ap (λ puts. names ++ map (λ put. put.name) puts) (sym (puts_more seq effects i e within read))
  where
    mapped : (o : Option PutAside) → option_to_list (option_map (λ put. put.name) o) ≡ map (λ put. put.name) (option_to_list o)
    mapped None = refl
    mapped (Some put) = refl

-- ---- the entries

-- the entries of a shelf behind the one that makes the folder
abbrev pub each_entry : FilePath → List Entry → Result (List (List Effect)) ShelfError
each_entry folder entries = all_or_fault (map (shelved_entry folder) (filter has_put entries))

pub each-append : (folder : FilePath) (xs ys : List Entry) → each_entry folder (xs ++ ys) ≡ behind (each_entry folder xs) (each_entry folder ys)
each-append folder xs ys =
    ap (λ es. all_or_fault (map (shelved_entry folder) es)) (filter-append has_put xs ys)
    ∙ ap all_or_fault (map-append (shelved_entry folder) (filter has_put xs) (filter has_put ys))
    ∙ all-append (map (shelved_entry folder) (filter has_put xs)) (map (shelved_entry folder) (filter has_put ys))

-- values of which none is a fault
pub first_ok : {T E : Type 0} (x : Result T E) (r : Result (List T) E) (values : List T) → before x r ≡ Ok values → (value : T) × (others : List T) × (values ≡ value ∷ others) × (x ≡ Ok value) × (r ≡ Ok others)
first_ok (Ok value) (Ok others) values e = (value, others, cc e, refl, refl)
first_ok (Ok value) (Err fault) values e = absurd (cc e)
first_ok (Err fault) r values e = absurd (cc e)

has_some : (entry : Entry) (put : PutAside) (puts : List PutAside) → puts_of entry ≡ put ∷ puts → has_put entry ≡ true
has_some entry put puts is = ap (λ ps. nat_lt 0 (length ps)) is ∙ lt_holds 0 (length (put ∷ puts)) (omega arith)

same_ok : {T E : Type 0} (r : Result T E) (x y : T) → r ≡ Ok x → r ≡ Ok y → x ≡ y
same_ok r x y e e' = cc (sym e ∙ e')

not_both : {T E : Type 0} (r : Result T E) (x : T) (fault : E) → r ≡ Ok x → r ≡ Err fault → ⊥
not_both r x fault e e' = cc (sym e ∙ e')

some_list : (effects : List Effect) (effect : Effect) (others : List Effect) → effects ≡ effect ∷ others → effects ∷ [] ≡ list_if_any effects
some_list effects effect others is = subst (λ (es : List Effect). es ∷ [] ≡ list_if_any es) (sym is) refl

-- an entry more
each_one : (folder : FilePath) (entry : Entry) (effects : List Effect) → shelved_entry folder entry ≡ Ok effects → each_entry folder (entry ∷ []) ≡ Ok (list_if_any effects)
each_one folder entry effects is = by (puts_of entry) refl
  where
    by : (puts : List PutAside) → puts_of entry ≡ puts → each_entry folder (entry ∷ []) ≡ Ok (list_if_any effects)
    by [] none =
        let nothing : [] ≡ effects = same_ok (shelved_entry folder entry) [] effects (ap (λ puts. all_or_fault (map (set_aside folder) puts)) none) is in
        let without : has_put entry ≡ false = ap (λ puts. nat_lt 0 (length puts)) none ∙ lt_fails 0 0 (omega arith) in
        ap (λ b. all_or_fault (map (shelved_entry folder) (cond b (entry ∷ []) []))) without
        ∙ ap (λ es. Ok (list_if_any es)) nothing
    by (put ∷ puts) some =
        let first = first_ok (set_aside folder put) (all_or_fault (map (set_aside folder) puts)) effects (sym (ap (λ ps. all_or_fault (map (set_aside folder) ps)) some) ∙ is) in
        ap (λ b. all_or_fault (map (shelved_entry folder) (cond b (entry ∷ []) []))) (has_some entry put puts some)
        ∙ ap (λ r. before r (Ok [])) is
        ∙ ap (λ ls. Ok ls) (some_list effects first.0 first.1 first.2)

-- an entry that is refused
each_stop : (folder : FilePath) (entry : Entry) (later : List Entry) (fault : ShelfError) → shelved_entry folder entry ≡ Err fault → each_entry folder (entry ∷ later) ≡ Err fault
each_stop folder entry later fault none = by (puts_of entry) refl
  where
    by : (puts : List PutAside) → puts_of entry ≡ puts → each_entry folder (entry ∷ later) ≡ Err fault
    by [] empty = absurd (not_both (shelved_entry folder entry) [] fault (ap (λ puts. all_or_fault (map (set_aside folder) puts)) empty) none)
    by (put ∷ puts) some =
        ap (λ b. all_or_fault (map (shelved_entry folder) (cond b (entry ∷ filter has_put later) (filter has_put later)))) (has_some entry put puts some)
        ∙ ap (λ r. before r (each_entry folder later)) none

-- the entries of a shelf are those behind its folder
pub behind_folder : (folder : FilePath) (r : Result (List (List Effect)) ShelfError) (lists : List (List Effect)) → before (Ok (Make folder ∷ [])) r ≡ Ok lists
    → (each : List (List Effect)) × (r ≡ Ok each) × (lists ≡ (Make folder ∷ []) ∷ each)
behind_folder folder (Ok each) lists e = (each, refl, cc e)
behind_folder folder (Err fault) lists e = absurd (cc e)

names_one : (entries : List Entry) (entry : Entry) → names_in (entries ++ entry ∷ []) ≡ names_in entries ++ map (λ put. put.name) (puts_of entry)
names_one entries entry =
    ap (map (λ (put : PutAside). put.name)) (flat_map-append puts_of entries (entry ∷ []) ∙ ap (λ puts. puts_in entries ++ puts) (flat_map-cons puts_of entry [] ∙ append-nil (puts_of entry)))
    ∙ map-append (λ (put : PutAside). put.name) (puts_in entries) (puts_of entry)

pub shelf_more : (folder : FilePath) (entries : List Entry) (entry : Entry) (old new : Shelf) (effects : List Effect) → IsShelfOf folder entries old → shelved_entry folder entry ≡ Ok effects
    → new.entries ≡ old.entries ++ list_if_any effects → new.names ≡ old.names ++ map (λ put. put.name) (puts_of entry) → IsShelfOf folder (entries ++ entry ∷ []) new
shelf_more folder entries entry old new effects is one lists names =
    let was = behind_folder folder (each_entry folder entries) old.entries is.entries in
    record {
      entries =
          ap (before (Ok (Make folder ∷ []))) (
          each-append folder entries (entry ∷ []) ∙ ap (λ r. behind r (each_entry folder (entry ∷ []))) was.1 ∙ ap (behind (Ok was.0)) (each_one folder entry effects one)
          )
          ∙ ap (λ ls. Ok (ls ++ list_if_any effects)) (sym was.2) ∙ ap (λ ls. Ok ls) (sym lists);
      names = names ∙ ap (λ ns. ns ++ map (λ (put : PutAside). put.name) (puts_of entry)) is.names ∙ sym (names_one entries entry);
    }

pub shelf_stop : (folder : FilePath) (entries : List Entry) (entry : Entry) (later : List Entry) (old : Shelf) (fault : ShelfError) → IsShelfOf folder entries old → shelved_entry folder entry ≡ Err fault
    → shelved folder (entries ++ entry ∷ later) ≡ Err fault
shelf_stop folder entries entry later old fault is none =
    let was = behind_folder folder (each_entry folder entries) old.entries is.entries in
    ap (before (Ok (Make folder ∷ []))) (
    each-append folder entries (entry ∷ later) ∙ ap (λ r. behind r (each_entry folder (entry ∷ later))) was.1 ∙ ap (behind (Ok was.0)) (each_stop folder entry later fault none)
    )

-- the log's entries up to one of them, and cut at it
pub entries_more : (entries : List Entry) (i : ℕ) (entry : Entry) → Some entry ≡ slice_get entries i → take (i + 1) entries ≡ take i entries ++ entry ∷ []
entries_more entries i entry found =
    take_more entries i entry (slice_get_within entries i entry (sym found)) ∙ ap (λ x. take i entries ++ x ∷ []) (get_or_from_slice_get entries i entry entry (sym found))

pub entries_cut : (entries : List Entry) (i : ℕ) (entry : Entry) → Some entry ≡ slice_get entries i → entries ≡ take i entries ++ entry ∷ drop (i + 1) entries
entries_cut entries i entry found = cut_at entries i entry (slice_get_within entries i entry (sym found)) (sym (get_or_from_slice_get entries i entry entry (sym found)))
