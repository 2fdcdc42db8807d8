-- The paths that effects touch are few, so that their number fits its field.
use Rattle.std.proofs.Common.{◌*◌, ◌^◌, ◌<◌, ◌≤◌, not, List, [], ◌∷◌, length, ap, arith, length-append}
use Rattle.std.specs.List.{flat_map}
use Rattle.std.proofs.lemmas.List.Concat.{flat_map-cons}
use Rattle.byte_fields.proofs.Facts.{filter_length}
use Rattle.byte_fields.specs.Codec.{IsCodec}
use Rattle.tree_values.specs.declared.node.Effect.{Effect}
use Rattle.tree_values.specs.declared.node.Effect.TheVariants.{Make, Put, Remove, Move, Mode}
use Rattle.file_paths.specs.Path.{FilePath, is_same_path}
use Rattle.tree_values.specs.Tree.{touched_paths}
use Rattle.tree_values.specs.Effects.{touched_all, distinct}
use Rattle.tree_values.specs.Spelling.{bases, EffectsFit, AreBasesOf}
use Rattle.tree_values.specs.Reading.{bases_at}
use Rattle.tree_laws.proofs.Parts.{bases_codec}

pub distinct_length : (ps : List FilePath) → length (distinct ps) ≤ length ps
distinct_length [] = omega arith
distinct_length (p ∷ ps) = omega (arith, filter_length (λ other. not (is_same_path other p)) (distinct ps), distinct_length ps)

touches_length : (e : Effect) → length (touched_paths e) ≤ 2
touches_length (Make p) = omega arith
touches_length (Put p c) = omega arith
touches_length (Remove p) = omega arith
touches_length (Move p q) = omega arith
touches_length (Mode p exec) = omega arith

all_touches_length : (es : List Effect) → length (touched_all es) ≤ 2 * length es
all_touches_length [] = omega arith
all_touches_length (e ∷ es) =
    omega (arith, ap length (flat_map-cons touched_paths e es), length-append (touched_paths e) (flat_map touched_paths es), touches_length e, all_touches_length es)

pub touched_few : (es : List Effect) → EffectsFit es → length (distinct (touched_all es)) < 2 ^ 32
touched_few es fits = omega (arith, distinct_length (touched_all es), all_touches_length es, fits.few)

-- the versions of the touched paths are spelled once
pub bases_of : (es : List Effect) → EffectsFit es → IsCodec (bases_at (distinct (touched_all es))) bases (AreBasesOf (distinct (touched_all es)))
bases_of es fits = bases_codec (distinct (touched_all es)) (touched_few es fits)
