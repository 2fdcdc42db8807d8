-- The laws of entries and of sketched effects that break a rule.
use Rattle.std.proofs.Common.{◌≡◌, ◌⊎◌, ℕ, ◌+◌, ◌-◌, ◌^◌, ◌<◌, ◌≤◌, ◌&&◌, leb, List, [], ◌∷◌, ◌++◌, length, Option, inr, refl, sym, subst, ◌∙◌, arith, lit<}
use Rattle.std.specs.Int.{w32}
use Rattle.std.specs.List.{flat_map, AllByRecursion}
use Rattle.std.proofs.lemmas.List.Sums.{sum_by-cons}
use Rattle.byte_fields.specs.Field.{Reader, digits, none, one, two, each_at, passed}
use Rattle.byte_fields.specs.Broken.{IsRefused}
use Rattle.byte_fields.proofs.Breaking.{read_again, refused_there, first_refused, later_refused, tagged_refused, unknown_kind, count_refused, counted_refused, items_refused, each_read}
use Rattle.tree_laws.proofs.Breaking.{wrong_count, right_count}
use Rattle.file_paths.specs.Limits.{max_file}
use Rattle.rs_parity.specs.Spelling.{sketch_at}
use Rattle.rs_parity.proofs.Cut.{len_refused}
use Rattle.file_paths.specs.Path.{FilePath, IsPath}
use Rattle.tree_values.specs.Effects.{touched_all, distinct}
use Rattle.file_paths.specs.Spelling.{path}
use Rattle.tree_values.specs.Spelling.{effects, EffectsFit}
use Rattle.file_paths.specs.Reading.{path_at}
use Rattle.tree_values.specs.Reading.{bit_at, effects_at, bases_at}
use Rattle.tree_values.specs.declared.node.Effect.{Effect}
use Rattle.tree_values.specs.declared.node.Base.{Base}
use Rattle.file_paths.proofs.Parts.{path_codec}
use Rattle.tree_laws.proofs.Parts.{effects_codec}
use Rattle.mod_log.specs.declared.log.Entry.{Entry}
use Rattle.mod_log.specs.declared.sketched.SketchEffect.{SketchEffect}
use Rattle.mod_log.specs.declared.sketched.SketchEffect.TheVariants.{Make, Put, Remove, Move, Mode}
use Rattle.mod_log.specs.declared.origin.Origin.{Origin}
use Rattle.mod_log.specs.Origin.{made_by, MadeByFits}
use Rattle.mod_log.specs.Sketched.{sketched_size, sketched_sizes}
use Rattle.mod_log.specs.Spelling.{sketch_effect, SketchEffectFits, SketchEffectFitsIn}
use Rattle.mod_log.specs.Reading.{made_by_at, entry_at, sketch_put_at, sketch_effect_kinds, sketch_effect_at, sketch_room_after, sketch_effects_within}
use Rattle.mod_log.specs.Broken.{BrokenEntries, BrokenSketchEffects, BrokenSketchLists}
use Rattle.mod_log.proofs.Origins.{made_by_codec, unknown_maker, origin_refused}
use Rattle.mod_log.proofs.Codec.{sketch_effect_codec, rooms_again}

-- ---- entries

module _ (number : ℕ) where
  abbrev entry_of : Option Origin → List Effect → List Base → Entry
  entry_of o es bs = record { seq = number; origin = o; effects = es; base = bs }

  abbrev behind_origin : Option Origin → Reader Entry
  behind_origin o = two effects_at (λ es. bases_at (distinct (touched_all es))) (entry_of o)

  maker_refused : (text : List ℕ) (offset : ℕ) → IsRefused made_by_at text offset → IsRefused (entry_at number) text offset
  unfolding entry_at
  maker_refused text offset refused = first_refused made_by_at behind_origin text offset refused

  behind_maker : (o : Option Origin) (text : List ℕ) (offset : ℕ) → MadeByFits o → IsRefused (behind_origin o) text offset → IsRefused (entry_at number) (made_by o ++ text) (length (made_by o) + offset)
  unfolding entry_at
  behind_maker o text offset fits refused = later_refused made_by_at behind_origin (made_by o) text o offset (read_again made_by_codec o fits) refused

  effects_refused : (o : Option Origin) (text : List ℕ) (offset : ℕ) → IsRefused effects_at text offset → IsRefused (behind_origin o) text offset
  effects_refused o text offset refused = first_refused effects_at (λ es. one (bases_at (distinct (touched_all es))) (entry_of o es)) text offset refused

  bases_refused : (o : Option Origin) (es : List Effect) (text : List ℕ) (offset : ℕ) → EffectsFit es → IsRefused (bases_at (distinct (touched_all es))) text offset
      → IsRefused (behind_origin o) (effects es ++ text) (length (effects es) + offset)
  bases_refused o es text offset fits refused =
      later_refused effects_at (λ xs. one (bases_at (distinct (touched_all xs))) (entry_of o xs)) (effects es) text es offset (read_again effects_codec es fits)
      (first_refused (bases_at (distinct (touched_all es))) (λ bs. none (entry_of o es bs)) text offset refused)

pub broken_entries : BrokenEntries
broken_entries = record {
  maker_is_another = λ number byte small another. maker_refused number (byte ∷ []) 0 (unknown_maker byte small another);
  origin_is_none = λ number text offset refused. maker_refused number (1 ∷ text) (1 + offset) (origin_refused text offset refused);
  effects_are_none = λ number o text offset made refused. behind_maker number o text offset made (effects_refused number o text offset refused);
  bases_are_none = λ number o es text offset made fits refused. behind_maker number o (effects es ++ text) (length (effects es) + offset) made (bases_refused number o es text offset fits refused);
}

-- ---- sketched effects

module _ (room : ℕ) where
  path_refused : (made : FilePath → SketchEffect) (text : List ℕ) (offset : ℕ) → IsRefused path_at text offset → IsRefused (one path_at made) text offset
  path_refused made text offset refused = first_refused path_at (λ p. none (made p)) text offset refused

  put_refused : (text : List ℕ) (offset : ℕ) → IsRefused path_at text offset → IsRefused (sketch_put_at room) text offset
  put_refused text offset refused = first_refused path_at (λ p. one (sketch_at room) (Put p)) text offset refused

  move_refused : (text : List ℕ) (offset : ℕ) → IsRefused path_at text offset → IsRefused (two path_at (λ from. path_at) Move) text offset
  move_refused text offset refused = first_refused path_at (λ p. one path_at (Move p)) text offset refused

  target_refused : (from : FilePath) (text : List ℕ) (offset : ℕ) → IsPath from → IsRefused path_at text offset → IsRefused (two path_at (λ from. path_at) Move) (path from ++ text) (length (path from) + offset)
  target_refused from text offset is refused =
      later_refused path_at (λ p. one path_at (Move p)) (path from) text from offset (read_again path_codec from is) (first_refused path_at (λ q. none (Move from q)) text offset refused)

  mode_refused : (text : List ℕ) (offset : ℕ) → IsRefused path_at text offset → IsRefused (two path_at (λ path. bit_at) Mode) text offset
  mode_refused text offset refused = first_refused path_at (λ p. one bit_at (Mode p)) text offset refused

  bit_refused : (p : FilePath) (text : List ℕ) (offset : ℕ) → IsPath p → IsRefused bit_at text offset → IsRefused (two path_at (λ path. bit_at) Mode) (path p ++ text) (length (path p) + offset)
  bit_refused p text offset is refused =
      later_refused path_at (λ q. one bit_at (Mode q)) (path p) text p offset (read_again path_codec p is) (first_refused bit_at (λ exec. none (Mode p exec)) text offset refused)

  sketch_refused : (p : FilePath) (text : List ℕ) (offset : ℕ) → IsPath p → IsRefused (sketch_at room) text offset → IsRefused (sketch_put_at room) (path p ++ text) (length (path p) + offset)
  sketch_refused p text offset is refused =
      later_refused path_at (λ q. one (sketch_at room) (Put q)) (path p) text p offset (read_again path_codec p is) (first_refused (sketch_at room) (λ s. none (Put p s)) text offset refused)

  behind_put : (text : List ℕ) (offset : ℕ) → IsRefused (sketch_put_at room) text offset → IsRefused (sketch_effect_at room) (2 ∷ text) (1 + offset)
  unfolding sketch_effect_at
  behind_put text offset refused = tagged_refused (sketch_effect_kinds room) 2 (sketch_put_at room) text offset (lit< tt) (λ tag at bytes. refl) refused

  put_len_refused : (len : ℕ) (p : FilePath) → IsPath p → len < 2 ^ 32 → (max_file < len) ⊎ (room < len) → IsRefused (sketch_effect_at room) (2 ∷ (path p ++ digits w32 len)) (1 + length (path p))
  put_len_refused len p is small large =
      refused_there (sketch_effect_at room) (2 ∷ (path p ++ digits w32 len)) (1 + (length (path p) + 0)) (1 + length (path p)) (omega arith)
      (behind_put (path p ++ digits w32 len) (length (path p) + 0) (sketch_refused p (digits w32 len) 0 is (len_refused room len small large)))

pub broken_sketch_effects : BrokenSketchEffects
unfolding sketch_effect_at
broken_sketch_effects = record {
  kind_is_none = λ room kind byte none. unknown_kind (sketch_effect_kinds room) kind byte none;
  path_is_none = λ room text offset refused. (
    tagged_refused (sketch_effect_kinds room) 1 (one path_at Make) text offset (lit< tt) (λ tag at bytes. refl) (path_refused room Make text offset refused),
    (
      behind_put room text offset (put_refused room text offset refused),
      (
        tagged_refused (sketch_effect_kinds room) 3 (one path_at Remove) text offset (lit< tt) (λ tag at bytes. refl) (path_refused room Remove text offset refused),
        (tagged_refused (sketch_effect_kinds room) 4 (two path_at (λ from. path_at) Move) text offset (lit< tt) (λ tag at bytes. refl) (move_refused room text offset refused), tt),
      ),
    ),
  );
  target_is_none = λ room from text offset is refused.
      tagged_refused (sketch_effect_kinds room) 4 (two path_at (λ from. path_at) Move) (path from ++ text) (length (path from) + offset) (lit< tt) (λ tag at bytes. refl) (target_refused room from text offset is refused);
  mode_path_is_none = λ room text offset refused. tagged_refused (sketch_effect_kinds room) 5 (two path_at (λ path. bit_at) Mode) text offset (lit< tt) (λ tag at bytes. refl) (mode_refused room text offset refused);
  bit_is_none = λ room p text offset is refused.
      tagged_refused (sketch_effect_kinds room) 5 (two path_at (λ path. bit_at) Mode) (path p ++ text) (length (path p) + offset) (lit< tt) (λ tag at bytes. refl) (bit_refused room p text offset is refused);
  sketch_is_none = λ room p text offset is refused. behind_put room (path p ++ text) (length (path p) + offset) (sketch_refused room p text offset is refused);
  content_is_large = λ room len p is small large. put_len_refused room len p is small large;
}

-- ---- lists of sketched effects

room_left : (room : ℕ) (es : List SketchEffect) → passed sketch_room_after room es ≡ room - sketched_sizes es
room_left room [] = omega arith
room_left room (e ∷ es) = room_left (room - sketched_size e) es ∙ omega (arith, sum_by-cons sketched_size e es)

effect_refused : (most room count : ℕ) (before : List SketchEffect) (text : List ℕ) (offset : ℕ) → length before < count → count ≤ most → count < 2 ^ 32 → AllByRecursion SketchEffectFits before → sketched_sizes before ≤ room
    → IsRefused (sketch_effect_at (room - sketched_sizes before)) text offset → IsRefused (sketch_effects_within most room) (digits w32 count ++ (flat_map sketch_effect before ++ text)) (4 + (length (flat_map sketch_effect before) + offset))
unfolding sketch_effects_within
effect_refused most room count before text offset some few small fits le refused =
    counted_refused (λ n. leb 1 n && leb n most) (λ n. each_at sketch_effect_at sketch_room_after n room) count small (right_count count most (length before) some few) (flat_map sketch_effect before ++ text) (length (flat_map sketch_effect before) + offset)
    (items_refused sketch_effect_at sketch_room_after sketch_effect room before count text offset (each_read sketch_effect_at sketch_room_after sketch_effect SketchEffectFitsIn sketch_effect_codec room before (rooms_again room before fits le)) some
    (subst (λ (left : ℕ). IsRefused (sketch_effect_at left) text offset) (sym (room_left room before)) refused))

pub broken_sketch_lists : BrokenSketchLists
unfolding sketch_effects_within
broken_sketch_lists = record {
  count_is_wrong = λ most room count small wrong. count_refused (λ n. leb 1 n && leb n most) (λ n. each_at sketch_effect_at sketch_room_after n room) count small (wrong_count count most wrong);
  effect_is_refused = effect_refused;
  contents_are_large = λ most room count before p len some few small fits le is fits_len large.
      effect_refused most room count before (2 ∷ (path p ++ digits w32 len)) (1 + length (path p)) some few small fits le (put_len_refused (room - sketched_sizes before) len p is fits_len (inr (omega arith)));
}
