-- The laws of entries in which an effect or a base breaks a rule.
use Rattle.std.proofs.Common.{◌≡◌, ◌≢◌, ◌⊎◌, ℕ, ◌+◌, ◌-◌, ◌^◌, ◌<◌, ◌≤◌, true, false, ◌&&◌, leb, eqb, List, [], ◌∷◌, ◌++◌, length, Option, Ok, inl, inr, refl, sym, subst, ◌∙◌, arith, length-append}
use Rattle.std.specs.Int.{w32}
use Rattle.std.specs.List.{flat_map, AllByRecursion}
use Rattle.std.proofs.lemmas.Bool.{le-leb, eq-eqb, ne_eqb}
use Rattle.std.specs.Result.{is_ok}
use Rattle.std.proofs.lemmas.List.{take_all}
use Rattle.std.proofs.lemmas.List.Sums.{sum_by-cons}
use Rattle.byte_fields.specs.Field.{Reader, ◌>>=◌, digits, one, each_at, passed}
use Rattle.byte_fields.specs.Broken.{IsRefused, EachIsRead}
use Rattle.byte_fields.proofs.Breaking.{read_again, refused_there, ruled_refused, first_refused, later_refused, second_fails, count_refused, counted_refused, items_refused, each_read}
use Rattle.byte_fields.proofs.Facts.{le_fails}
use Rattle.tree_values.specs.declared.node.Effect.{Effect}
use Rattle.tree_values.specs.declared.node.Base.{Base}
use Rattle.tree_values.specs.Tree.{Volume, IsTree, apply, changed}
use Rattle.tree_values.specs.Effects.{content_size, contents_size, changed_all, base_of}
use Rattle.tree_values.specs.Spelling.{effect, effects, base, BaseFits}
use Rattle.tree_values.specs.Reading.{effect_at, room_after}
use Rattle.mod_log.specs.declared.origin.Origin.{Origin}
use Rattle.mod_log.specs.declared.log.Entry.{Entry}
use Rattle.mod_log.specs.Origin.{made_by, MadeByFits}
use Rattle.mod_log.specs.Reading.{made_by_at}
use Rattle.mod_log.proofs.Origins.{made_by_codec}
use Rattle.mod_log.specs.Log.{Log, after, tree_of, IsLog}
use Rattle.mod_log.proofs.Entries.{holds_trees}
use Rattle.mod_log.proofs.BasesFit.{base_of-fits}
use Rattle.tree_values.specs.declared.format.Format.TheVariants.{Second}
use Rattle.store_image.specs.Reading.{Growing, growing_effect_at, grown, applied_effects_at, known_base_at, first_kept_base_at, kept_bases_after, known_bases_at, next_entry_at}
use Rattle.store_image.specs.Broken.{AreTaken, growing_behind}
use Rattle.store_image.proofs.Growing.{all_known, GrowingFits, growing_codec, taken_again, EffectsApply, start_of_entry, applied_effects_codec}
use Rattle.store_image.proofs.Bases.{IsFirst, first_base_codec}
use Rattle.store_image.proofs.Entries.{next_number, made_entry, few_known}

-- ---- effects

grown_passed : (growing : Growing) (es : List Effect) → passed grown growing es ≡ record { tree = changed_all es growing.tree; room = growing.room - contents_size es }
grown_passed growing [] =
    let room : growing.room ≡ growing.room - contents_size [] = omega arith in
    λ i. record { tree = growing.tree; room = room i }
grown_passed growing (e ∷ es) =
    let room : room_after growing.room e - contents_size es ≡ growing.room - contents_size (e ∷ es) = omega (arith, sum_by-cons content_size e es) in
    grown_passed (grown growing e) es ∙ (λ i. record { tree = changed_all es (changed e growing.tree); room = room i })

wrong_effects : (count : ℕ) → (count ≡ 0) ⊎ (4096 < count) → (leb 1 count && leb count 4096) ≡ false
wrong_effects count (inl e) = rw e refl
wrong_effects count (inr lt) = second_fails (leb 1 count) (leb count 4096) (le_fails count 4096 lt)

right_effects : (count : ℕ) → 1 ≤ count → count ≤ 4096 → (leb 1 count && leb count 4096) ≡ true
right_effects count some few = rw (le-leb 1 count some, le-leb count 4096 few) refl

pub effects_count_refused : (v : Volume) (count : ℕ) → count < 2 ^ 32 → (count ≡ 0) ⊎ (4096 < count) → IsRefused (applied_effects_at Second v) (digits w32 count) 0
unfolding applied_effects_at
effects_count_refused v count small wrong = count_refused (λ n. leb 1 n && leb n 4096) (λ n. each_at (growing_effect_at Second) grown n (start_of_entry v)) count small (wrong_effects count wrong)

pub effect_refused : (v : Volume) (before : List Effect) (count : ℕ) (text : List ℕ) (offset : ℕ) → AreTaken v before → length before < count → count ≤ 4096 → IsRefused (growing_effect_at Second (growing_behind before v)) text offset
    → IsRefused (applied_effects_at Second v) (digits w32 count ++ (flat_map effect before ++ text)) (4 + (length (flat_map effect before) + offset))
unfolding applied_effects_at
effect_refused v before count text offset taken some few refused =
    counted_refused (λ n. leb 1 n && leb n 4096) (λ n. each_at (growing_effect_at Second) grown n (start_of_entry v)) count (omega arith) (right_effects count (omega arith) few) (flat_map effect before ++ text) (length (flat_map effect before) + offset)
    (items_refused (growing_effect_at Second) grown effect (start_of_entry v) before count text offset
    (each_read (growing_effect_at Second) grown effect (GrowingFits Second) (growing_codec Second) (start_of_entry v) before (taken_again Second 0 (start_of_entry v) before taken.each (all_known before) taken.small taken.applies)) some
    (subst (λ (growing : Growing). IsRefused (growing_effect_at Second growing) text offset) (sym (grown_passed (start_of_entry v) before)) refused))

-- ---- bases

bases_read : (before more : List Base) → AllByRecursion BaseFits before → EachIsRead first_kept_base_at kept_bases_after base (before ++ more) before
unfolding IsFirst
bases_read [] more fits = tt
bases_read (b ∷ bs) more fits = (read_again (first_base_codec (b ∷ (bs ++ more))) b (fits.0, refl), bases_read bs more fits.1)

bases_passed : (before more : List Base) → passed kept_bases_after (before ++ more) before ≡ more
bases_passed [] more = refl
bases_passed (b ∷ bs) more = bases_passed bs more

front_fits : (before more : List Base) → AllByRecursion BaseFits (before ++ more) → AllByRecursion BaseFits before
front_fits [] more fits = tt
front_fits (b ∷ bs) more fits = (fits.0, front_fits bs more fits.1)

first_is_known : (known : Base) (others : List Base) (text : List ℕ) (offset : ℕ) → IsRefused (known_base_at known) text offset → IsRefused (first_kept_base_at (known ∷ others)) text offset
unfolding first_kept_base_at
first_is_known known others text offset refused = refused

bases_count_refused : (known : List Base) (count : ℕ) → count < 2 ^ 32 → count ≢ length known → IsRefused (known_bases_at known) (digits w32 count) 0
unfolding known_bases_at
bases_count_refused known count small differ = count_refused (λ n. eqb n (length known)) (λ n. each_at first_kept_base_at kept_bases_after n known) count small (ne_eqb count (length known) differ)

base_refused : (before others : List Base) (known : Base) (text : List ℕ) (offset : ℕ) → AllByRecursion BaseFits (before ++ known ∷ others) → length (before ++ known ∷ others) < 2 ^ 32 → IsRefused (known_base_at known) text offset
    → IsRefused (known_bases_at (before ++ known ∷ others)) (digits w32 (length (before ++ known ∷ others)) ++ (flat_map base before ++ text)) (4 + (length (flat_map base before) + offset))
unfolding known_bases_at
base_refused before others known text offset fits small refused =
    let all = before ++ known ∷ others in
    counted_refused (λ n. eqb n (length all)) (λ n. each_at first_kept_base_at kept_bases_after n all) (length all) small (eq-eqb (length all) (length all) refl) (flat_map base before ++ text) (length (flat_map base before) + offset)
    (items_refused first_kept_base_at kept_bases_after base all before (length all) text offset (bases_read before (known ∷ others) (front_fits before (known ∷ others) fits)) (omega (arith, length-append before (known ∷ others)))
    (subst (λ (left : List Base). IsRefused (first_kept_base_at left) text offset) (sym (bases_passed before (known ∷ others))) (first_is_known known others text offset refused)))

-- ---- in an entry

-- all entries of a log lead to a tree
pub whole_tree : (log : Log) → IsLog log → IsTree (tree_of log)
whole_tree log is = subst (λ (es : List Entry). IsTree (after es log.base)) (take_all (length log.pending) log.pending (omega arith)) (holds_trees log (length log.pending) is)

applied_effects : (v : Volume) (es : List Effect) → AreTaken v es → 1 ≤ length es → length es ≤ 4096 → EffectsApply Second v es
applied_effects v es taken some few = record { fits = record { some = some; few = few; each = taken.each; all_contents = taken.small }; known = all_known es; applies = taken.applies }

-- the bases of effects, and the entry of both
abbrev bases_behind : Log → Option Origin → List Effect → Reader Entry
bases_behind log o es = one (known_bases_at (base_of es (tree_of log))) (made_entry (next_number log) o es)

behind_maker : (log : Log) (o : Option Origin) (text : List ℕ) (offset : ℕ) → MadeByFits o → IsRefused (applied_effects_at Second (tree_of log)) text offset → IsRefused (next_entry_at Second log) (made_by o ++ text) (length (made_by o) + offset)
unfolding next_entry_at
behind_maker log o text offset made refused =
    later_refused made_by_at (λ x bytes at. applied_effects_at Second (tree_of log) bytes at >>= λ es. bases_behind log x es.0 bytes es.1) (made_by o) text o offset (read_again made_by_codec o made)
    (first_refused (applied_effects_at Second (tree_of log)) (bases_behind log o) text offset refused)

behind_effects : (log : Log) (o : Option Origin) (es : List Effect) (text : List ℕ) (offset : ℕ) → MadeByFits o → EffectsApply Second (tree_of log) es → IsRefused (known_bases_at (base_of es (tree_of log))) text offset
    → IsRefused (next_entry_at Second log) (made_by o ++ (effects es ++ text)) (length (made_by o) + (length (effects es) + offset))
unfolding next_entry_at
behind_effects log o es text offset made apply refused =
    let v = tree_of log in
    later_refused made_by_at (λ x bytes at. applied_effects_at Second v bytes at >>= λ fs. bases_behind log x fs.0 bytes fs.1) (made_by o) (effects es ++ text) o (length (effects es) + offset) (read_again made_by_codec o made)
    (later_refused (applied_effects_at Second v) (bases_behind log o) (effects es) text es offset (read_again (applied_effects_codec Second v) es apply)
    (first_refused (known_bases_at (base_of es v)) (λ bs bytes at. Ok (made_entry (next_number log) o es bs, at)) text offset refused))

pub effects_are_none : (log : Log) (o : Option Origin) (count : ℕ) → MadeByFits o → count < 2 ^ 32 → (count ≡ 0) ⊎ (4096 < count) → IsRefused (next_entry_at Second log) (made_by o ++ digits w32 count) (length (made_by o))
effects_are_none log o count made small wrong =
    refused_there (next_entry_at Second log) (made_by o ++ digits w32 count) (length (made_by o) + 0) (length (made_by o)) (omega arith)
    (behind_maker log o (digits w32 count) 0 made (effects_count_refused (tree_of log) count small wrong))

pub effect_is_refused : (log : Log) (o : Option Origin) (before : List Effect) (count : ℕ) (text : List ℕ) (offset : ℕ) → MadeByFits o → AreTaken (tree_of log) before → length before < count → count ≤ 4096 → IsRefused (growing_effect_at Second (growing_behind before (tree_of log))) text offset
    → IsRefused (next_entry_at Second log) (made_by o ++ (digits w32 count ++ (flat_map effect before ++ text))) (length (made_by o) + (4 + (length (flat_map effect before) + offset)))
effect_is_refused log o before count text offset made taken some few refused =
    behind_maker log o (digits w32 count ++ (flat_map effect before ++ text)) (4 + (length (flat_map effect before) + offset)) made (effect_refused (tree_of log) before count text offset taken some few refused)

pub bases_are_others : (log : Log) (o : Option Origin) (es : List Effect) (count : ℕ) → MadeByFits o → AreTaken (tree_of log) es → 1 ≤ length es → length es ≤ 4096 → count < 2 ^ 32 → count ≢ length (base_of es (tree_of log))
    → IsRefused (next_entry_at Second log) (made_by o ++ (effects es ++ digits w32 count)) (length (made_by o) + length (effects es))
bases_are_others log o es count made taken some few small differ =
    refused_there (next_entry_at Second log) (made_by o ++ (effects es ++ digits w32 count)) (length (made_by o) + (length (effects es) + 0)) (length (made_by o) + length (effects es)) (omega arith)
    (behind_effects log o es (digits w32 count) 0 made (applied_effects (tree_of log) es taken some few) (bases_count_refused (base_of es (tree_of log)) count small differ))

pub base_is_refused : (log : Log) (o : Option Origin) (es : List Effect) (before others : List Base) (known : Base) (text : List ℕ) (offset : ℕ) → IsLog log → MadeByFits o → AreTaken (tree_of log) es → 1 ≤ length es → length es ≤ 4096 → base_of es (tree_of log) ≡ before ++ known ∷ others
    → IsRefused (known_base_at known) text offset
    → IsRefused (next_entry_at Second log) (made_by o ++ (effects es ++ (digits w32 (length (before ++ known ∷ others)) ++ (flat_map base before ++ text)))) (length (made_by o) + (length (effects es) + (4 + (length (flat_map base before) + offset))))
base_is_refused log o es before others known text offset is made taken some few are refused =
    let v = tree_of log in
    let apply = applied_effects v es taken some few in
    let fits = subst (AllByRecursion BaseFits) are (base_of-fits es v apply.fits (whole_tree log is)) in
    let small = subst (λ (bs : List Base). length bs < 2 ^ 32) are (few_known es v apply.fits) in
    behind_effects log o es (digits w32 (length (before ++ known ∷ others)) ++ (flat_map base before ++ text)) (4 + (length (flat_map base before) + offset)) made apply
    (subst (λ (bs : List Base). IsRefused (known_bases_at bs) (digits w32 (length (before ++ known ∷ others)) ++ (flat_map base before ++ text)) (4 + (length (flat_map base before) + offset))) (sym are)
    (base_refused before others known text offset fits small refused))

-- ---- before a value is tried

pub effect_is_none : (growing : Growing) (text : List ℕ) (offset : ℕ) → IsRefused (effect_at growing.room) text offset → IsRefused (growing_effect_at Second growing) text offset
unfolding growing_effect_at
effect_is_none growing text offset refused = ruled_refused (effect_at growing.room) (λ e. is_ok (apply e growing.tree)) text offset refused
