-- The laws of entries and of sketched effects: what is read is spelled so, and what is spelled so is read.
use Rattle.std.proofs.Common.{◌≡◌, ℕ, ◌-◌, ◌^◌, ◌<◌, ◌≤◌, ◌&&◌, leb, List, [], ◌∷◌, length, Ok, refl, subst, arith, lit<}
use Rattle.std.specs.List.{sum_by, AllByRecursion}
use Rattle.std.proofs.lemmas.Bool.{leb-true, le-leb, and_parts}
use Rattle.std.proofs.lemmas.List.Sums.{sum_by-cons}
use Rattle.byte_fields.specs.Field.{Reader, EachFits}
use Rattle.byte_fields.specs.Codec.{Stands, IsCodec}
use Rattle.byte_fields.proofs.Codec.{IsBranch, u32_codec, ruled_codec, codec_for, counted_codec, each_codec, found3, again3, fault3, tagged_found, tagged_fault, tagged_again1, tagged_again2, branch1, branch2}
use Rattle.file_paths.specs.Limits.{max_file}
use Rattle.rs_parity.specs.Spelling.{SketchFits}
use Rattle.rs_parity.specs.declared.sketch.Sketch.{Sketch}
use Rattle.rs_parity.proofs.Spelled.{sketch_codec}
use Rattle.file_paths.proofs.Parts.{path_codec}
use Rattle.tree_laws.proofs.Parts.{effects_codec, bit_codec}
use Rattle.tree_laws.proofs.Few.{bases_of}
use Rattle.mod_log.specs.declared.log.Entry.{Entry}
use Rattle.mod_log.specs.declared.sketched.SketchEffect.{SketchEffect}
use Rattle.mod_log.specs.declared.sketched.SketchEffect.TheVariants.{Make, Put, Remove, Move, Mode}
use Rattle.mod_log.proofs.Origins.{made_by_codec}
use Rattle.mod_log.specs.Log.{entry}
use Rattle.mod_log.specs.Sketched.{sketched_size}
use Rattle.mod_log.specs.Spelling.{sketch_effect, sketch_effects, SketchEffectFits, SketchEffectFitsIn, SketchEffectsFitWithin}
use Rattle.mod_log.specs.Reading.{entry_at, EntryFits, sketch_effect_kinds, sketch_effect_at, sketch_room_after, sketch_effects_within}

-- ---- entries

pub entry_codec : (number : ℕ) → IsCodec (entry_at number) entry (EntryFits number)
unfolding entry_at
entry_codec number = record {
  fault = λ bytes at place fits le e. fault3 made_by_codec (λ _ _. effects_codec) (λ _ es _ f. bases_of es f) (λ o es bs. record { seq = number; origin = o; effects = es; base = bs }) bytes at place fits le e;
  found = λ bytes at x next fits le e.
      let r = found3 made_by_codec (λ _ _. effects_codec) (λ _ es _ f. bases_of es f) (λ o es bs. record { seq = number; origin = o; effects = es; base = bs }) bytes at x next fits le e in
      subst (λ (y : Entry). Stands bytes at (entry y) next × EntryFits number y) r.is
      (r.stands, record { numbered = refl; origin_fits = r.first_fits; fits = r.second_fits; based = r.third_fits });
  again = λ bytes at x next stands fits.
      subst (λ (n : ℕ). entry_at n bytes at ≡ Ok (x, next)) fits.numbered
      (again3 made_by_codec (λ _ _. effects_codec) (λ _ es _ f. bases_of es f) (λ o es bs. record { seq = x.seq; origin = o; effects = es; base = bs }) bytes at x.origin x.effects x.base next stands fits.origin_fits fits.fits fits.based);
}

-- ---- sketched effects

-- a sketch that fits where there is room for its content
pub in_room : (room : ℕ) (sketch : Sketch) → SketchFits max_file sketch → sketch.len ≤ room → SketchFits room sketch
in_room room sketch fits le = record { len = omega (arith, fits.len); print = fits.print; print_bytes = fits.print_bytes; count = fits.count; checks = fits.checks }

of_room : (room : ℕ) (sketch : Sketch) → SketchFits room sketch → SketchFits max_file sketch
of_room room sketch fits = record { len = omega (arith, fits.len); print = fits.print; print_bytes = fits.print_bytes; count = fits.count; checks = fits.checks }

module _ (room : ℕ) where
  effect_again : (bytes : List ℕ) (at : ℕ) (x : SketchEffect) (next : ℕ) → Stands bytes at (sketch_effect x) next → SketchEffectFitsIn room x → sketch_effect_at room bytes at ≡ Ok (x, next)
  unfolding sketch_effect_at
  effect_again bytes at (Make p) next stands fits = tagged_again1 (sketch_effect_kinds room) 1 (lit< tt) path_codec Make bytes at p next refl stands fits.0
  effect_again bytes at (Put p s) next stands fits =
      tagged_again2 (sketch_effect_kinds room) 2 (lit< tt) path_codec (λ _ _. sketch_codec room) Put bytes at p s next refl stands fits.0.0 (in_room room s fits.0.1 fits.1)
  effect_again bytes at (Remove p) next stands fits = tagged_again1 (sketch_effect_kinds room) 3 (lit< tt) path_codec Remove bytes at p next refl stands fits.0
  effect_again bytes at (Move p q) next stands fits =
      tagged_again2 (sketch_effect_kinds room) 4 (lit< tt) path_codec (λ _ _. path_codec) Move bytes at p q next refl stands fits.0.0 fits.0.1
  effect_again bytes at (Mode p exec) next stands fits =
      tagged_again2 (sketch_effect_kinds room) 5 (lit< tt) path_codec (λ _ _. bit_codec) Mode bytes at p exec next refl stands fits.0 tt

  effect_branches : AllByRecursion (λ (k : ℕ × Reader SketchEffect). IsBranch sketch_effect (SketchEffectFitsIn room) k.0 k.1) (sketch_effect_kinds room)
  effect_branches = (
    branch1 (lit< tt) path_codec Make (λ p. refl) (λ p fits. (fits, omega arith)),
    (
      branch2 (lit< tt) path_codec (λ _ _. sketch_codec room) Put (λ p s. refl) (λ p s fits sketch_fits. ((fits, of_room room s sketch_fits), omega (arith, sketch_fits.len))),
      (
        branch1 (lit< tt) path_codec Remove (λ p. refl) (λ p fits. (fits, omega arith)),
        (
          branch2 (lit< tt) path_codec (λ _ _. path_codec) Move (λ p q. refl) (λ p q fits fits'. ((fits, fits'), omega arith)),
          (branch2 (lit< tt) path_codec (λ _ _. bit_codec) Mode (λ p exec. refl) (λ p exec fits fits'. (fits, omega arith)), tt),
        ),
      ),
    ),
  )

  pub sketch_effect_codec : IsCodec (sketch_effect_at room) sketch_effect (SketchEffectFitsIn room)
  unfolding sketch_effect_at
  sketch_effect_codec = record {
    found = tagged_found sketch_effect (SketchEffectFitsIn room) (sketch_effect_kinds room) effect_branches;
    fault = tagged_fault sketch_effect (SketchEffectFitsIn room) (sketch_effect_kinds room) effect_branches;
    again = effect_again;
  }

rooms_found : (room : ℕ) (es : List SketchEffect) → EachFits SketchEffectFitsIn sketch_room_after room es → AllByRecursion SketchEffectFits es × (sum_by sketched_size es ≤ room)
rooms_found room [] fits = (tt, omega arith)
rooms_found room (e ∷ es) fits =
    let rest = rooms_found (room - sketched_size e) es fits.1 in
    ((fits.0.0, rest.0), omega (arith, fits.0.1, rest.1, sum_by-cons sketched_size e es))

pub rooms_again : (room : ℕ) (es : List SketchEffect) → AllByRecursion SketchEffectFits es → sum_by sketched_size es ≤ room → EachFits SketchEffectFitsIn sketch_room_after room es
rooms_again room [] fits le = tt
rooms_again room (e ∷ es) fits le =
    ((fits.0, omega (arith, sum_by-cons sketched_size e es)), rooms_again (room - sketched_size e) es fits.1 (omega (arith, sum_by-cons sketched_size e es)))

pub sketch_effects_codec : (most room : ℕ) → most < 2 ^ 32 → IsCodec (sketch_effects_within most room) sketch_effects (SketchEffectsFitWithin most room)
unfolding sketch_effects_within
sketch_effects_codec most room lt =
    codec_for (counted_codec length (ruled_codec (λ n. leb 1 n && leb n most) u32_codec) (λ n _. each_codec sketch_effect_at sketch_room_after sketch_effect SketchEffectFitsIn sketch_effect_codec n room) (λ n es fits. fits.0))
    (λ es fits.
    let b = and_parts (leb 1 (length es)) (leb (length es) most) fits.0.1 in
    let r = rooms_found room es fits.1.1 in
    record { some = leb-true 1 (length es) b.0; few = leb-true (length es) most b.1; each = r.0; all_contents = r.1 })
    (λ es fits. ((omega (arith, fits.few, lt), rw (le-leb 1 (length es) fits.some, le-leb (length es) most fits.few) refl), (refl, rooms_again room es fits.each fits.all_contents)))
