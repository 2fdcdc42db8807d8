-- How long operations are: exactly, from the lengths of the contents that are sketched, and at most.
use Rattle.std.proofs.Common.{◌≡◌, ℕ, ◌*◌, ◌+◌, ◌≤◌, List, [], ◌∷◌, ◌++◌, length, Option, Some, refl, sym, ap, ◌∙◌, arith, length-append}
use Rattle.std.specs.Int.{w16, w32}
use Rattle.std.specs.List.{flat_map, sum_by, AllByRecursion}
use Rattle.std.proofs.lemmas.List.Concat.{flat_map-cons, length-flat_map}
use Rattle.std.proofs.lemmas.List.Sums.{sum_by-cons}
use Rattle.byte_fields.specs.Field.{digits}
use Rattle.byte_fields.proofs.Facts.{two_bytes, four_bytes}
use Rattle.rs_parity.specs.Limits.{max_len}
use Rattle.rs_parity.specs.Blocks.{IsCheck}
use Rattle.rs_parity.specs.Spelling.{parity_spelling, sketch_spelling, SketchFits}
use Rattle.rs_parity.specs.declared.sketch.Sketch.{Sketch}
use Rattle.rs_parity.proofs.Spelled.{sketches_fit_each}
use Rattle.file_paths.specs.Limits.{max_file}
use Rattle.file_paths.specs.Spelling.{path}
use Rattle.file_paths.proofs.Sizes.{path_size}
use Rattle.cmd_capture.specs.Spelling.{command}
use Rattle.tree_values.specs.Effects.{content_size}
use Rattle.tree_values.specs.Spelling.{bit, effect, effects, base, bases}
use Rattle.tree_values.proofs.Sizes.{bases_size, mode_length}
use Rattle.tree_values.specs.declared.node.Base.{Base}
use Rattle.tree_values.specs.declared.node.Effect.{Effect}
use Rattle.tree_values.specs.declared.node.Effect.TheVariants as plain
use Rattle.mod_log.specs.declared.sketched.SketchEffect.{SketchEffect}
use Rattle.mod_log.specs.declared.sketched.SketchEffect.TheVariants.{Make, Put, Remove, Move, Mode}
use Rattle.mod_log.specs.declared.log.Entry.{Entry}
use Rattle.mod_log.specs.declared.origin.Origin.{Origin}
use Rattle.mod_log.specs.declared.sketching.SketchEntry.{SketchEntry}
use Rattle.mod_log.specs.Origin.{origin, OriginFits}
use Rattle.mod_log.specs.Sketched.{IsSketchedAs, AreSketchedAs, IsSketchOf}
use Rattle.mod_log.specs.Spelling.{sketch_effect, sketch_effects, SketchEffectFits, SketchEffectsFit}
use Rattle.wire_frames.specs.declared.message.Message.{Message}
use Rattle.wire_frames.specs.declared.message.Message.TheVariants as messages
use Rattle.wire_frames.specs.Frame.{body, frame}
use Rattle.wire_frames.specs.Operation.{operation, OperationFits}
use Rattle.wire_frames.specs.Parts.{part_of, part}
use Rattle.wire_frames.specs.Inside.{sketched_length}
use Rattle.wire_frames.proofs.OperationLaws.{few_bases}

-- ---- sketches

symbols_length : (symbols : List ℕ) → length (flat_map (digits w16) symbols) ≡ 2 * length symbols
symbols_length [] = refl
symbols_length (symbol ∷ symbols) =
    omega (arith, ap length (flat_map-cons (digits w16) symbol symbols), length-append (digits w16 symbol) (flat_map (digits w16) symbols), two_bytes symbol, symbols_length symbols)

parity_length : (parity : List ℕ) → IsCheck parity → length (parity_spelling parity) ≡ 64
unfolding parity_spelling
parity_length parity check = omega (arith, symbols_length parity, check.size)

parities_length : (parities : List (List ℕ)) → AllByRecursion IsCheck parities → length (flat_map parity_spelling parities) ≡ 64 * length parities
parities_length [] checks = refl
parities_length (parity ∷ parities) checks =
    omega (arith, ap length (flat_map-cons parity_spelling parity parities), length-append (parity_spelling parity) (flat_map parity_spelling parities), parity_length parity checks.0, parities_length parities checks.1)

sketch_length : (room : ℕ) (s : Sketch) → SketchFits room s → length (sketch_spelling s) ≡ 36 + 64 * length s.parities
unfolding sketch_spelling
sketch_length room s fits =
    omega (arith, length-append (digits w32 s.len) (s.print ++ flat_map parity_spelling s.parities), length-append s.print (flat_map parity_spelling s.parities), four_bytes s.len, fits.print, parities_length s.parities fits.checks)

-- ---- exactly

sketched_is : (e : Effect) (k : SketchEffect) → content_size e ≤ max_file → IsSketchedAs e k → length (sketch_effect k) ≡ sketched_length e
sketched_is (plain.Make p) (Make q) small is = ap (λ x. length (1 ∷ path x)) is
sketched_is (plain.Put p content) (Put q s) small is =
    let fits = sketches_fit_each content s max_len is.1 (omega (arith, small)) in
    omega (arith, ap (λ x. length (path x)) is.0, length-append (path q) (sketch_spelling s), sketch_length max_len s fits, is.1.parities.count)
sketched_is (plain.Remove p) (Remove q) small is = ap (λ x. length (3 ∷ path x)) is
sketched_is (plain.Move p to) (Move q onto) small is = λ i. length (4 ∷ (path (is.0 i) ++ path (is.1 i)))
sketched_is (plain.Make p) (Put q s) small is = absurd is
sketched_is (plain.Make p) (Remove q) small is = absurd is
sketched_is (plain.Make p) (Move q onto) small is = absurd is
sketched_is (plain.Put p content) (Make q) small is = absurd is
sketched_is (plain.Put p content) (Remove q) small is = absurd is
sketched_is (plain.Put p content) (Move q onto) small is = absurd is
sketched_is (plain.Remove p) (Make q) small is = absurd is
sketched_is (plain.Remove p) (Put q s) small is = absurd is
sketched_is (plain.Remove p) (Move q onto) small is = absurd is
sketched_is (plain.Move p to) (Make q) small is = absurd is
sketched_is (plain.Move p to) (Put q s) small is = absurd is
sketched_is (plain.Move p to) (Remove q) small is = absurd is
sketched_is (plain.Mode p exec) (Mode q other) small is = λ i. length (5 ∷ (path (is.0 i) ++ bit (is.1 i)))
sketched_is (plain.Make p) (Mode q other) small is = absurd is
sketched_is (plain.Put p content) (Mode q other) small is = absurd is
sketched_is (plain.Remove p) (Mode q other) small is = absurd is
sketched_is (plain.Move p to) (Mode q other) small is = absurd is
sketched_is (plain.Mode p exec) (Make q) small is = absurd is
sketched_is (plain.Mode p exec) (Put q s) small is = absurd is
sketched_is (plain.Mode p exec) (Remove q) small is = absurd is
sketched_is (plain.Mode p exec) (Move q onto) small is = absurd is

pub sketches_length : (es : List Effect) (ks : List SketchEffect) → AllByRecursion (λ e. content_size e ≤ max_file) es → AreSketchedAs es ks → length (sketch_effects ks) ≡ 4 + sum_by sketched_length es
sketches_length es ks small are = omega (arith, length-append (digits w32 (length ks)) (flat_map sketch_effect ks), four_bytes (length ks), by es ks small are)
  where
    by : (es : List Effect) (ks : List SketchEffect) → AllByRecursion (λ e. content_size e ≤ max_file) es → AreSketchedAs es ks → length (flat_map sketch_effect ks) ≡ sum_by sketched_length es
    by [] [] small are = refl
    by (e ∷ es) (k ∷ ks) small are =
        omega (arith, ap length (flat_map-cons sketch_effect k ks), length-append (sketch_effect k) (flat_map sketch_effect ks), sketched_is e k small.0 are.0, by es ks small.1 are.1, sum_by-cons sketched_length e es)
    by [] (k ∷ ks) small are = absurd are
    by (e ∷ es) [] small are = absurd are

-- ---- at most

sketch_effect_size : (k : SketchEffect) → SketchEffectFits k → length (sketch_effect k) ≤ 5223
sketch_effect_size (Make p) fits = omega (arith, path_size p fits)
sketch_effect_size (Put p s) fits = omega (arith, length-append (path p) (sketch_spelling s), path_size p fits.0, sketch_length max_file s fits.1, fits.1.count, fits.1.len)
sketch_effect_size (Remove p) fits = omega (arith, path_size p fits)
sketch_effect_size (Move p q) fits = omega (arith, length-append (path p) (path q), path_size p fits.0, path_size q fits.1)
sketch_effect_size (Mode p exec) fits = omega (arith, mode_length p exec, path_size p fits)

all_sketches_size : (ks : List SketchEffect) → AllByRecursion SketchEffectFits ks → length (flat_map sketch_effect ks) ≤ 5223 * length ks
all_sketches_size [] fits = omega arith
all_sketches_size (k ∷ ks) fits =
    omega (arith, ap length (flat_map-cons sketch_effect k ks), length-append (sketch_effect k) (flat_map sketch_effect ks), sketch_effect_size k fits.0, all_sketches_size ks fits.1)

sketches_size : (ks : List SketchEffect) → SketchEffectsFit ks → length (sketch_effects ks) ≤ 21393412
sketches_size ks fits = omega (arith, length-append (digits w32 (length ks)) (flat_map sketch_effect ks), four_bytes (length ks), all_sketches_size ks fits.each, fits.few)

origin_size : (o : Origin) → OriginFits o → length (origin o) ≤ 65569
origin_size o fits = omega (arith, length-append o.job_print (o.status ∷ command o.command), fits.print_fits, fits.command_fits.short)

pub operation_size : (e : SketchEntry) → OperationFits e → length (operation e) ≤ 29929513
operation_size e fits =
    omega (
      arith,
      length-append (origin e.origin) (sketch_effects e.effects ++ bases e.base),
      length-append (sketch_effects e.effects) (bases e.base),
      origin_size e.origin fits.origin_fits,
      sketches_size e.effects fits.effects_fit,
      bases_size e.base fits.based.1,
      few_bases e.effects e.base fits.based fits.effects_fit,
    )

-- ---- frames

pub frame_length : (m : Message) → length (frame m) ≡ 15 + length (body m)
unfolding digits
frame_length m = omega arith

-- the bases of a list, behind their count
bases_length : (bs : List Base) → length (bases bs) ≡ 4 + sum_by (λ b. length (base b)) bs
bases_length bs = omega (arith, length-append (digits w32 (length bs)) (flat_map base bs), four_bytes (length bs), length-flat_map base bs)

-- a store of one entry
pub store_length : (client number : ℕ) (es : List Effect) (bs : List Base)
    → length (frame (messages.Store client number (part_of es bs ∷ []))) ≡ 24 + sum_by (λ e. length (effect e)) es + sum_by (λ b. length (base b)) bs
store_length client number es bs =
    omega (
      arith,
      frame_length (messages.Store client number (part_of es bs ∷ [])),
      ap length (flat_map-cons part (part_of es bs) []),
      length-append (part (part_of es bs)) [],
      length-append (effects es) (bases bs),
      length-append (digits w32 (length es)) (flat_map effect es),
      four_bytes (length es),
      length-flat_map effect es,
      bases_length bs,
    )

same_origin : (a b : Origin) → (let o : Option Origin = Some a in o ≡ Some b) → a ≡ b
same_origin a b e = cc

pub operation_length : (client : ℕ) (entry : Entry) (sketched : SketchEntry) (o : Origin) → AllByRecursion (λ e. content_size e ≤ max_file) entry.effects → entry.origin ≡ Some o → IsSketchOf entry sketched
    → length (frame (messages.Operate client sketched)) ≡ 23 + length (origin o) + sum_by sketched_length entry.effects + sum_by (λ b. length (base b)) entry.base
operation_length client entry sketched o small made is =
    omega (
      arith,
      frame_length (messages.Operate client sketched),
      length-append (origin sketched.origin) (sketch_effects sketched.effects ++ bases sketched.base),
      length-append (sketch_effects sketched.effects) (bases sketched.base),
      ap (λ x. length (origin x)) (same_origin o sketched.origin (sym made ∙ is.made_by)),
      sketches_length entry.effects sketched.effects small is.effects_are,
      ap (λ bs. length (bases bs)) is.based,
      bases_length entry.base,
    )
