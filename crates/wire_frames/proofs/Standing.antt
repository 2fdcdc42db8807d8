-- Which operations stand for which stores.
use Rattle.std.proofs.Common.{◌≡◌, ℕ, ◌+◌, ◌^◌, ◌<◌, true, List, refl, sym, subst, arith}
use Rattle.file_paths.specs.Path.{FilePath}
use Rattle.tree_values.specs.declared.node.Base.{Base}
use Rattle.tree_values.specs.Effects.{touched_all, distinct}
use Rattle.tree_values.specs.Spelling.{AreBasesOf}
use Rattle.mod_log.specs.Origin.{MadeByFits}
use Rattle.mod_log.specs.Sketched.{sketches_touch}
use Rattle.mod_log.proofs.Entries.{legal_each}
use Rattle.mod_log.proofs.Sketches.{sketches_are_filled, fillings_touch_alike, fillings_fit, sketches_fit}
use Rattle.byte_fields.proofs.Facts.{le_holds}
use Rattle.wire_frames.specs.Parts.{part_of, count_rule}
use Rattle.wire_frames.proofs.PartLaws.{one_fits}
use Rattle.wire_frames.specs.Laws.{FilledStoresAreValid, SketchedStoresAreValid}

-- one entry may stand behind each number of 64 bits
pub one_counted : (number : ℕ) → number < 2 ^ 64 → count_rule number 1 ≡ true
one_counted number small = rw (le_holds (number + 1) 18446744073709551616 (omega (arith, small))) refl

pub filled_stores : FilledStoresAreValid
filled_stores client sketched effects valid fill =
    let fits = valid.body_fits in
    let alike : touched_all effects ≡ sketches_touch sketched.effects = (fillings_touch_alike effects sketched.effects fill).0 in
    record {
      client_fits = valid.client_fits;
      number_fits = valid.number_fits;
      number_small = valid.number_small;
      body_fits = one_fits sketched.seq (part_of effects sketched.base) (one_counted sketched.seq valid.number_small)
          (fillings_fit effects sketched.effects fits.effects_fit fill, subst (λ (touched : List FilePath). AreBasesOf (distinct touched) sketched.base) (sym alike) fits.based);
    }

pub sketched_stores : SketchedStoresAreValid
sketched_stores client entry sketched valid made is =
    let fits = valid.body_fits.each.0 in
    let filled = sketches_are_filled entry.effects sketched.effects (legal_each entry.effects fits.0.each) is.effects_are in
    let alike : touched_all entry.effects ≡ sketches_touch sketched.effects = (fillings_touch_alike entry.effects sketched.effects filled).0 in
    let based : AreBasesOf (distinct (sketches_touch sketched.effects)) entry.base = subst (λ (touched : List FilePath). AreBasesOf (distinct touched) entry.base) alike fits.1 in
    record {
      client_fits = valid.client_fits;
      number_fits = rw is.numbered valid.number_fits;
      number_small = rw is.numbered valid.number_small;
      body_fits = record {
        origin_fits = subst MadeByFits is.made_by made;
        effects_fit = sketches_fit entry.effects sketched.effects fits.0 is.effects_are;
        based = subst (λ (bs : List Base). AreBasesOf (distinct (sketches_touch sketched.effects)) bs) (sym is.based) based;
      };
    }
