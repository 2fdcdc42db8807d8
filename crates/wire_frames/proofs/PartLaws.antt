-- The laws of a store's entries: one spelling for each list, where bytes end inside one, that their spellings are bytes, and how
-- long they are at most.
use Rattle.std.proofs.Common.{◌≡◌, ℕ, ◌+◌, ◌-◌, ◌*◌, ◌^◌, ◌<◌, ◌≤◌, min, true, ◌&&◌, leb, List, [], ◌∷◌, length, refl, ap, subst, ◌∙◌, arith, length-append}
use Rattle.std.specs.List.{flat_map, AllByRecursion}
use Rattle.std.specs.Int.{w32}
use Rattle.std.proofs.lemmas.List.{length-map}
use Rattle.std.proofs.lemmas.List.Concat.{flat_map-cons}
use Rattle.std.proofs.lemmas.List.Sums.{sum_by-cons}
use Rattle.byte_fields.specs.Field.{EachFits, passed, digits}
use Rattle.byte_fields.specs.Codec.{Stands, IsBytes, IsCodec}
use Rattle.byte_fields.specs.Cuts.{IsCut}
use Rattle.byte_fields.proofs.Codec.{u8_codec, ruled_codec, found2, again2, fault2, each_codec, counted_codec, codec_for}
use Rattle.byte_fields.proofs.Cutting.{sum_both, two_cut, u8_cut, ruled_cut, each_cut, counted_cut, cut_for}
use Rattle.byte_fields.proofs.Facts.{and_of, le_of, four_bytes, bytes_appended, byte_before, bytes_of_each}
use Rattle.tree_values.specs.declared.node.Effect.{Effect}
use Rattle.tree_values.specs.declared.node.Effect.TheVariants.{Make, Put, Remove, Move, Mode}
use Rattle.tree_values.specs.declared.node.Base.{Base}
use Rattle.tree_values.specs.Tree.{touched_paths}
use Rattle.tree_values.specs.Limits.{max_files, max_effects}
use Rattle.tree_values.specs.Effects.{touched_all, distinct, content_size, contents_size}
use Rattle.tree_values.specs.Spelling.{effect, effects, bases, EffectFits, EffectsFitWithin, EffectsFit, AreBasesOf}
use Rattle.tree_values.specs.Fields.{effects_fields, bases_fields}
use Rattle.tree_values.specs.Reading.{effects_within, bases_at}
use Rattle.tree_values.proofs.Sizes.{effect_size, bases_size}
use Rattle.tree_laws.proofs.Parts.{effects_within_codec}
use Rattle.tree_laws.proofs.CutParts.{effects_within_cut, bases_cut}
use Rattle.tree_laws.proofs.SpelledBytes.{effects_are_bytes, bases_are_bytes}
use Rattle.tree_laws.proofs.Few.{distinct_length, touched_few, bases_of}
use Rattle.wire_frames.specs.declared.parts.Part.{Part}
use Rattle.wire_frames.specs.declared.parts.Room.{Room}
use Rattle.wire_frames.specs.Limits.{max_parts}
use Rattle.wire_frames.specs.Parts.{part_of, part, parts, part_fields, parts_fields, effects_count, contents_count, PartFits, count_rule, PartsFit, part_at, room_behind, store_room, parts_at}

-- ---- a part where there is some room

-- the most effects that a part may have, where there is this room, and the most bytes of content
abbrev pub most_in : Room → ℕ
most_in room = min max_effects room.effects

abbrev pub content_in : Room → ℕ
content_in room = min max_files room.content

-- a part that has still room
abbrev pub PartFitsIn : Room → Part → Type 0
PartFitsIn room p = EffectsFitWithin (most_in room) (content_in room) p.effects × AreBasesOf (distinct (touched_all p.effects)) p.base

-- effects that have still room are no more than those of an entry
fit_alone : (room : Room) (es : List Effect) → EffectsFitWithin (most_in room) (content_in room) es → EffectsFit es
fit_alone room es fits = record { some = fits.some; few = omega (arith, fits.few); each = fits.each; all_contents = omega (arith, fits.all_contents) }

fit_here : (room : Room) (es : List Effect) → EffectsFit es → length es ≤ room.effects → contents_size es ≤ room.content → EffectsFitWithin (most_in room) (content_in room) es
fit_here room es fits few small = record { some = fits.some; few = omega (arith, fits.few, few); each = fits.each; all_contents = omega (arith, fits.all_contents, small) }

effects_in : (room : Room) → IsCodec (effects_within (most_in room) (content_in room)) effects (EffectsFitWithin (most_in room) (content_in room))
effects_in room = effects_within_codec (most_in room) (content_in room) (omega arith)

cut_in : (room : Room) → IsCut (effects_within (most_in room) (content_in room)) effects effects_fields (EffectsFitWithin (most_in room) (content_in room))
cut_in room = effects_within_cut (most_in room) (content_in room) (omega arith)

bases_in : (room : Room) (es : List Effect) → EffectsFitWithin (most_in room) (content_in room) es → IsCodec (bases_at (distinct (touched_all es))) bases (AreBasesOf (distinct (touched_all es)))
bases_in room es fits = bases_of es (fit_alone room es fits)

pub part_codec : (room : Room) → IsCodec (part_at room) part (PartFitsIn room)
unfolding part_at
part_codec room = record {
  found = λ bytes at x next fits le e.
      let r = found2 (effects_in room) (bases_in room) part_of bytes at x next fits le e in
      subst (λ (y : Part). Stands bytes at (part y) next × PartFitsIn room y) r.is (r.stands, (r.first_fits, r.second_fits));
  again = λ bytes at x next stands fits. again2 (effects_in room) (bases_in room) part_of bytes at x.effects x.base next stands fits.0 fits.1;
  fault = fault2 (effects_in room) (bases_in room) part_of;
}

pub part_cut : (room : Room) → IsCut (part_at room) part part_fields (PartFitsIn room)
unfolding part_at
part_cut room = record {
  whole = λ x fits.
      omega (
        arith,
        sum_both (effects_fields x.effects) (bases_fields x.base),
        length-append (effects x.effects) (bases x.base),
        (cut_in room).whole x.effects fits.0,
        (bases_cut (distinct (touched_all x.effects)) (touched_few x.effects (fit_alone room x.effects fits.0))).whole x.base fits.1,
      );
  cut = λ bytes at x next end stands fits le lt.
      two_cut (effects_in room) (cut_in room) (λ es few. bases_cut (distinct (touched_all es)) (touched_few es (fit_alone room es few))) part_of bytes at x.effects x.base next end stands fits.0 fits.1 le lt;
}

-- ---- parts one after the other

more_effects : (p : Part) (ps : List Part) → effects_count (p ∷ ps) ≡ length p.effects + effects_count ps
more_effects p ps = sum_by-cons (λ (q : Part). length q.effects) p ps

more_contents : (p : Part) (ps : List Part) → contents_count (p ∷ ps) ≡ contents_size p.effects + contents_count ps
more_contents p ps = sum_by-cons (λ (q : Part). contents_size q.effects) p ps

-- parts fit together in a room
pub record FitTogether (room : Room) (ps : List Part) : Type 0 where
  pub each : AllByRecursion PartFits ps
  pub few : effects_count ps ≤ room.effects
  pub all_contents : contents_count ps ≤ room.content

rooms_found : (room : Room) (ps : List Part) → EachFits PartFitsIn room_behind room ps → FitTogether room ps
rooms_found room [] fits = record { each = tt; few = omega arith; all_contents = omega arith }
rooms_found room (p ∷ ps) fits =
    let rest = rooms_found (room_behind room p) ps fits.1 in
    record {
      each = ((fit_alone room p.effects fits.0.0, fits.0.1), rest.each);
      few = omega (arith, fits.0.0.few, rest.few, more_effects p ps);
      all_contents = omega (arith, fits.0.0.all_contents, rest.all_contents, more_contents p ps);
    }

pub rooms_again : (room : Room) (ps : List Part) → AllByRecursion PartFits ps → effects_count ps ≤ room.effects → contents_count ps ≤ room.content → EachFits PartFitsIn room_behind room ps
rooms_again room [] each few small = tt
rooms_again room (p ∷ ps) each few small =
    let n = more_effects p ps in
    let m = more_contents p ps in (
      (fit_here room p.effects each.0.0 (omega (arith, few, n)) (omega (arith, small, m)), each.0.1),
      rooms_again (room_behind room p) ps each.1 (omega (arith, few, n)) (omega (arith, small, m)),
    )

-- the room that parts leave
pub room_left : (room : Room) (ps : List Part) → passed room_behind room ps ≡ record { effects = room.effects - effects_count ps; content = room.content - contents_count ps }
room_left room [] =
    let n : room.effects ≡ room.effects - effects_count [] = omega arith in
    let m : room.content ≡ room.content - contents_count [] = omega arith in
    λ i. record { effects = n i; content = m i }
room_left room (p ∷ ps) =
    let n : room.effects - length p.effects - effects_count ps ≡ room.effects - effects_count (p ∷ ps) = omega (arith, more_effects p ps) in
    let m : room.content - contents_size p.effects - contents_count ps ≡ room.content - contents_count (p ∷ ps) = omega (arith, more_contents p ps) in
    room_left (room_behind room p) ps ∙ (λ i. record { effects = n i; content = m i })

count_small : (number count : ℕ) → count_rule number count ≡ true → count < 2 ^ 8
count_small number count e =
    let both = and_of (leb 1 count && leb count max_parts) (leb (number + count) 18446744073709551616) e in
    omega (arith, le_of count max_parts (and_of (leb 1 count) (leb count max_parts) both.0).1)

module _ (number : ℕ) where
  pub parts_codec : IsCodec (parts_at number) parts (PartsFit number)
  unfolding parts_at
  parts_codec =
      codec_for (counted_codec length (ruled_codec (count_rule number) u8_codec) (λ n _. each_codec part_at room_behind part PartFitsIn part_codec n store_room) (λ n ps fits. fits.0))
      (λ ps fits.
      let r = rooms_found store_room ps fits.1.1 in
      record { counted = fits.0.1; each = r.each; few = r.few; all_contents = r.all_contents })
      (λ ps fits. ((count_small number (length ps) fits.counted, fits.counted), (refl, rooms_again store_room ps fits.each fits.few fits.all_contents)))

  pub parts_cut : IsCut (parts_at number) parts parts_fields (PartsFit number)
  unfolding parts_at
  parts_cut =
      cut_for (counted_cut length (ruled_codec (count_rule number) u8_codec) (ruled_cut u8_cut (count_rule number)) (λ n _. each_cut part_at room_behind part part_fields PartFitsIn part_codec part_cut n store_room))
      (λ ps fits. ((count_small number (length ps) fits.counted, fits.counted), (refl, rooms_again store_room ps fits.each fits.few fits.all_contents)))

-- ---- bytes

pub part_is_bytes : (p : Part) → PartFits p → IsBytes (part p)
part_is_bytes p fits =
    bytes_appended (effects p.effects) (bases p.base) (effects_are_bytes max_effects max_files p.effects fits.0) (bases_are_bytes (distinct (touched_all p.effects)) p.base fits.1)

pub parts_are_bytes : (number : ℕ) (ps : List Part) → PartsFit number ps → IsBytes (parts ps)
parts_are_bytes number ps fits =
    byte_before (length ps) (flat_map part ps) (omega (arith, count_small number (length ps) fits.counted)) (bytes_of_each part part_is_bytes ps fits.each)

-- ---- at most

all_effects_size : (es : List Effect) → AllByRecursion EffectFits es → length (flat_map effect es) ≤ 2053 * length es + contents_size es
all_effects_size [] fits = omega arith
all_effects_size (e ∷ es) fits =
    omega (arith, ap length (flat_map-cons effect e es), length-append (effect e) (flat_map effect es), effect_size e fits.0, all_effects_size es fits.1, sum_by-cons content_size e es)

touches_length : (e : Effect) → length (touched_paths e) ≤ 2
touches_length (Make p) = omega arith
touches_length (Put p c) = omega arith
touches_length (Remove p) = omega arith
touches_length (Move p q) = omega arith
touches_length (Mode p exec) = omega arith

all_touches_length : (es : List Effect) → length (touched_all es) ≤ 2 * length es
all_touches_length [] = omega arith
all_touches_length (e ∷ es) =
    omega (arith, ap length (flat_map-cons touched_paths e es), length-append (touched_paths e) (flat_map touched_paths es), touches_length e, all_touches_length es)

-- for each effect at most two
bases_few : (es : List Effect) (bs : List Base) → AreBasesOf (distinct (touched_all es)) bs → length bs ≤ 2 * length es
bases_few es bs are = omega (arith, length-map bs (λ (b : Base). b.path), ap length are.0, distinct_length (touched_all es), all_touches_length es)

part_size : (p : Part) → PartFits p → length (part p) ≤ 8 + 4121 * length p.effects + contents_size p.effects
part_size p fits =
    omega (
      arith,
      length-append (effects p.effects) (bases p.base),
      length-append (digits w32 (length p.effects)) (flat_map effect p.effects),
      four_bytes (length p.effects),
      all_effects_size p.effects fits.0.each,
      bases_size p.base fits.1.1,
      bases_few p.effects p.base fits.1,
    )

all_parts_size : (ps : List Part) → AllByRecursion PartFits ps → length (flat_map part ps) ≤ 8 * length ps + 4121 * effects_count ps + contents_count ps
all_parts_size [] fits = omega arith
all_parts_size (p ∷ ps) fits =
    omega (arith, ap length (flat_map-cons part p ps), length-append (part p) (flat_map part ps), part_size p fits.0, all_parts_size ps fits.1, more_effects p ps, more_contents p ps)

pub parts_size : (number : ℕ) (ps : List Part) → PartsFit number ps → length (parts ps) ≤ 50436161
parts_size number ps fits = omega (arith, all_parts_size ps fits.each, count_small number (length ps) fits.counted, fits.few, fits.all_contents)

-- ---- one part

-- a part that fits alone fits as the only one
pub one_fits : (number : ℕ) (p : Part) → count_rule number 1 ≡ true → PartFits p → PartsFit number (p ∷ [])
one_fits number p rule fits = record {
  counted = rule;
  each = (fits, tt);
  few = omega (arith, fits.0.few, more_effects p []);
  all_contents = omega (arith, fits.0.all_contents, more_contents p []);
}
