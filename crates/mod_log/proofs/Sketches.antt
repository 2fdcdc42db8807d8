-- Sketched effects: what fills them, what they touch and how much they stand for, and that effects have one list of them.
use Rattle.std.proofs.Common.{◌≡◌, inl, inr, ℕ, ◌+◌, ◌≤◌, Bool, List, [], ◌∷◌, ◌++◌, length, Some, refl, sym, ◌∙◌, ap, subst, arith}
use Rattle.std.specs.Prelude.{unwrap_or}
use Rattle.std.specs.List.{AllByRecursion}
use Rattle.std.proofs.lemmas.List.Concat.{flat_map-cons}
use Rattle.std.proofs.lemmas.List.Sums.{sum_by-cons}
use Rattle.sha2.specs.Sha256.{sha256}
use Rattle.byte_fields.specs.Codec.{IsBytes}
use Rattle.file_paths.specs.Limits.{max_file}
use Rattle.rs_parity.specs.Sketches.{IsSketch, Distinct}
use Rattle.rs_parity.specs.declared.sketch.Sketch.{Sketch}
use Rattle.rs_parity.proofs.Spelled.{sketches_fit_each}
use Rattle.rs_parity.proofs.Unique.{one_sketch_each}
use Rattle.file_paths.specs.Path.{FilePath}
use Rattle.tree_values.specs.Lists.{IsIn}
use Rattle.tree_values.specs.Tree.{touched_paths, IsLegalEffect}
use Rattle.tree_values.specs.Effects.{content_size}
use Rattle.tree_values.specs.Spelling.{EffectFits}
use Rattle.tree_values.specs.declared.node.Effect.{Effect}
use Rattle.tree_values.specs.declared.node.Effect.TheVariants.{Make, Put, Remove, Move, Mode}
use Rattle.mod_log.proofs.Entries.{legal_each}
use Rattle.mod_log.specs.Sketched.{sketch_paths, sketched_size, IsSketchedAs, AreSketchedAs, Fills, AllFill, WritesContent, SketchesAreFilled, FillingsAreEqual, FillingsTouchAlike, OneSketchList, OneSketchOf}
use Rattle.mod_log.specs.Spelling.{SketchEffectFits, FillingsFit, SketchesOfEffectsFit}
use Rattle.mod_log.specs.declared.origin.Origin.{Origin}
use Rattle.mod_log.specs.declared.sketched.SketchEffect.{SketchEffect}
use Rattle.mod_log.specs.declared.sketched.SketchEffect.TheVariants as of_sketch

-- ---- one effect

-- what holds of each kind of effect and its sketch, holds of an effect and its sketch
sketched_kinds : (P : Effect → SketchEffect → Type 0) → ((p : FilePath) → P (Make p) (of_sketch.Make p)) → ((p : FilePath) (content : List ℕ) (sketch : Sketch) → IsSketch content sketch → P (Put p content) (of_sketch.Put p sketch))
    → ((p : FilePath) → P (Remove p) (of_sketch.Remove p)) → ((p to : FilePath) → P (Move p to) (of_sketch.Move p to))
    → ((p : FilePath) (exec : Bool) → P (Mode p exec) (of_sketch.Mode p exec)) → (e : Effect) (k : SketchEffect) → IsSketchedAs e k → P e k
sketched_kinds P make put remove move mode (Make p) (of_sketch.Make q) is = subst (λ (x : FilePath). P (Make p) (of_sketch.Make x)) (sym is) (make p)
sketched_kinds P make put remove move mode (Put p content) (of_sketch.Put q sketch) is = subst (λ (x : FilePath). P (Put p content) (of_sketch.Put x sketch)) (sym is.0) (put p content sketch is.1)
sketched_kinds P make put remove move mode (Remove p) (of_sketch.Remove q) is = subst (λ (x : FilePath). P (Remove p) (of_sketch.Remove x)) (sym is) (remove p)
sketched_kinds P make put remove move mode (Move p to) (of_sketch.Move q onto) is =
    subst (λ (x : FilePath). P (Move p to) (of_sketch.Move x onto)) (sym is.0) (subst (λ (x : FilePath). P (Move p to) (of_sketch.Move p x)) (sym is.1) (move p to))
sketched_kinds P make put remove move mode (Make p) (of_sketch.Put q sketch) is = absurd is
sketched_kinds P make put remove move mode (Make p) (of_sketch.Remove q) is = absurd is
sketched_kinds P make put remove move mode (Make p) (of_sketch.Move q onto) is = absurd is
sketched_kinds P make put remove move mode (Put p content) (of_sketch.Make q) is = absurd is
sketched_kinds P make put remove move mode (Put p content) (of_sketch.Remove q) is = absurd is
sketched_kinds P make put remove move mode (Put p content) (of_sketch.Move q onto) is = absurd is
sketched_kinds P make put remove move mode (Remove p) (of_sketch.Make q) is = absurd is
sketched_kinds P make put remove move mode (Remove p) (of_sketch.Put q sketch) is = absurd is
sketched_kinds P make put remove move mode (Remove p) (of_sketch.Move q onto) is = absurd is
sketched_kinds P make put remove move mode (Move p to) (of_sketch.Make q) is = absurd is
sketched_kinds P make put remove move mode (Move p to) (of_sketch.Put q sketch) is = absurd is
sketched_kinds P make put remove move mode (Move p to) (of_sketch.Remove q) is = absurd is
sketched_kinds P make put remove move mode (Mode p exec) (of_sketch.Mode q bit) is =
    subst (λ (x : FilePath). P (Mode p exec) (of_sketch.Mode x bit)) (sym is.0) (subst (λ (x : Bool). P (Mode p exec) (of_sketch.Mode p x)) (sym is.1) (mode p exec))
sketched_kinds P make put remove move mode (Make p) (of_sketch.Mode q bit) is = absurd is
sketched_kinds P make put remove move mode (Put p content) (of_sketch.Mode q bit) is = absurd is
sketched_kinds P make put remove move mode (Remove p) (of_sketch.Mode q bit) is = absurd is
sketched_kinds P make put remove move mode (Move p to) (of_sketch.Mode q bit) is = absurd is
sketched_kinds P make put remove move mode (Mode p exec) (of_sketch.Make q) is = absurd is
sketched_kinds P make put remove move mode (Mode p exec) (of_sketch.Put q sketch) is = absurd is
sketched_kinds P make put remove move mode (Mode p exec) (of_sketch.Remove q) is = absurd is
sketched_kinds P make put remove move mode (Mode p exec) (of_sketch.Move q onto) is = absurd is

-- what holds of each kind of sketch and what fills it, holds of a sketch and what fills it
filled_kinds : (P : SketchEffect → Effect → Type 0) → ((p : FilePath) → P (of_sketch.Make p) (Make p)) → ((p : FilePath) (sketch : Sketch) (content : List ℕ) → length content ≡ sketch.len → sha256 content ≡ sketch.print → IsBytes content → P (of_sketch.Put p sketch) (Put p content))
    → ((p : FilePath) → P (of_sketch.Remove p) (Remove p)) → ((p to : FilePath) → P (of_sketch.Move p to) (Move p to))
    → ((p : FilePath) (exec : Bool) → P (of_sketch.Mode p exec) (Mode p exec)) → (k : SketchEffect) (e : Effect) → Fills k e → P k e
filled_kinds P make put remove move mode (of_sketch.Make p) (Make q) fills = subst (λ (x : FilePath). P (of_sketch.Make p) (Make x)) (sym fills) (make p)
filled_kinds P make put remove move mode (of_sketch.Put p sketch) (Put q content) fills = subst (λ (x : FilePath). P (of_sketch.Put p sketch) (Put x content)) (sym fills.0) (put p sketch content fills.1 fills.2 fills.3)
filled_kinds P make put remove move mode (of_sketch.Remove p) (Remove q) fills = subst (λ (x : FilePath). P (of_sketch.Remove p) (Remove x)) (sym fills) (remove p)
filled_kinds P make put remove move mode (of_sketch.Move p to) (Move q onto) fills =
    subst (λ (x : FilePath). P (of_sketch.Move p to) (Move x onto)) (sym fills.0) (subst (λ (x : FilePath). P (of_sketch.Move p to) (Move p x)) (sym fills.1) (move p to))
filled_kinds P make put remove move mode (of_sketch.Make p) (Put q content) fills = absurd fills
filled_kinds P make put remove move mode (of_sketch.Make p) (Remove q) fills = absurd fills
filled_kinds P make put remove move mode (of_sketch.Make p) (Move q onto) fills = absurd fills
filled_kinds P make put remove move mode (of_sketch.Put p sketch) (Make q) fills = absurd fills
filled_kinds P make put remove move mode (of_sketch.Put p sketch) (Remove q) fills = absurd fills
filled_kinds P make put remove move mode (of_sketch.Put p sketch) (Move q onto) fills = absurd fills
filled_kinds P make put remove move mode (of_sketch.Remove p) (Make q) fills = absurd fills
filled_kinds P make put remove move mode (of_sketch.Remove p) (Put q content) fills = absurd fills
filled_kinds P make put remove move mode (of_sketch.Remove p) (Move q onto) fills = absurd fills
filled_kinds P make put remove move mode (of_sketch.Move p to) (Make q) fills = absurd fills
filled_kinds P make put remove move mode (of_sketch.Move p to) (Put q content) fills = absurd fills
filled_kinds P make put remove move mode (of_sketch.Move p to) (Remove q) fills = absurd fills
filled_kinds P make put remove move mode (of_sketch.Mode p exec) (Mode q bit) fills =
    subst (λ (x : FilePath). P (of_sketch.Mode p exec) (Mode x bit)) (sym fills.0) (subst (λ (x : Bool). P (of_sketch.Mode p exec) (Mode p x)) (sym fills.1) (mode p exec))
filled_kinds P make put remove move mode (of_sketch.Make p) (Mode q bit) fills = absurd fills
filled_kinds P make put remove move mode (of_sketch.Put p sketch) (Mode q bit) fills = absurd fills
filled_kinds P make put remove move mode (of_sketch.Remove p) (Mode q bit) fills = absurd fills
filled_kinds P make put remove move mode (of_sketch.Move p to) (Mode q bit) fills = absurd fills
filled_kinds P make put remove move mode (of_sketch.Mode p exec) (Make q) fills = absurd fills
filled_kinds P make put remove move mode (of_sketch.Mode p exec) (Put q content) fills = absurd fills
filled_kinds P make put remove move mode (of_sketch.Mode p exec) (Remove q) fills = absurd fills
filled_kinds P make put remove move mode (of_sketch.Mode p exec) (Move q onto) fills = absurd fills

own_filling : (e : Effect) (k : SketchEffect) → IsSketchedAs e k → IsLegalEffect e → Fills k e
own_filling = sketched_kinds (λ e k. IsLegalEffect e → Fills k e) (λ p legal. refl) (λ p content sketch is legal. (refl, sym is.len, sym is.print, legal.1)) (λ p legal. refl) (λ p to legal. (refl, refl)) (λ p exec legal. (refl, refl))

abbrev Alike : SketchEffect → Effect → Type 0
Alike k e = (touched_paths e ≡ sketch_paths k) × (content_size e ≡ sketched_size k)

filling_alike : (k : SketchEffect) (e : Effect) → Fills k e → Alike k e
filling_alike = filled_kinds Alike (λ p. (refl, refl)) (λ p sketch content len print bytes. (refl, len)) (λ p. (refl, refl)) (λ p to. (refl, refl)) (λ p exec. (refl, refl))

filling_fits : (k : SketchEffect) (e : Effect) → Fills k e → SketchEffectFits k → EffectFits e
filling_fits =
    filled_kinds (λ k e. SketchEffectFits k → EffectFits e) (λ p fits. (fits, omega arith)) (λ p sketch content len print bytes fits. ((fits.0, bytes), omega (arith, len, fits.1.len))) (λ p fits. (fits, omega arith)) (λ p to fits. (fits, omega arith)) (λ p exec fits. (fits, omega arith))

sketch_fits : (e : Effect) (k : SketchEffect) → IsSketchedAs e k → EffectFits e → SketchEffectFits k
sketch_fits =
    sketched_kinds (λ e k. EffectFits e → SketchEffectFits k) (λ p fits. fits.0) (λ p content sketch is fits. (fits.0.0, sketches_fit_each content sketch max_file is (omega (arith, fits.1)))) (λ p fits. fits.0) (λ p to fits. fits.0) (λ p exec fits. fits.0)

filling_equal : (e : Effect) (k : SketchEffect) → IsSketchedAs e k → (other : Effect) → Fills k other → Distinct (WritesContent (e ∷ [])) (WritesContent (other ∷ [])) → other ≡ e
filling_equal = sketched_kinds (λ e k. (other : Effect) → Fills k other → Distinct (WritesContent (e ∷ [])) (WritesContent (other ∷ [])) → other ≡ e) make put remove move mode
  where
    make : (p : FilePath) (other : Effect) → Fills (of_sketch.Make p) other → Distinct (WritesContent (Make p ∷ [])) (WritesContent (other ∷ [])) → other ≡ Make p
    make p (Make q) fills differ = ap Make fills
    make p (Put q content) fills differ = absurd fills
    make p (Remove q) fills differ = absurd fills
    make p (Move q onto) fills differ = absurd fills
    make p (Mode q bit) fills differ = absurd fills

    put : (p : FilePath) (content : List ℕ) (sketch : Sketch) → IsSketch content sketch → (other : Effect) → Fills (of_sketch.Put p sketch) other → Distinct (WritesContent (Put p content ∷ [])) (WritesContent (other ∷ [])) → other ≡ Put p content
    put p content sketch is (Put q written) fills differ =
        let same : content ≡ written = differ content written (p, inl refl) (q, inl refl) (sym is.print ∙ sym fills.2) in
        λ i. Put (fills.0 i) (sym same i)
    put p content sketch is (Make q) fills differ = absurd fills
    put p content sketch is (Remove q) fills differ = absurd fills
    put p content sketch is (Move q onto) fills differ = absurd fills
    put p content sketch is (Mode q bit) fills differ = absurd fills

    remove : (p : FilePath) (other : Effect) → Fills (of_sketch.Remove p) other → Distinct (WritesContent (Remove p ∷ [])) (WritesContent (other ∷ [])) → other ≡ Remove p
    remove p (Remove q) fills differ = ap Remove fills
    remove p (Make q) fills differ = absurd fills
    remove p (Put q content) fills differ = absurd fills
    remove p (Move q onto) fills differ = absurd fills
    remove p (Mode q bit) fills differ = absurd fills

    move : (p to : FilePath) (other : Effect) → Fills (of_sketch.Move p to) other → Distinct (WritesContent (Move p to ∷ [])) (WritesContent (other ∷ [])) → other ≡ Move p to
    move p to (Move q onto) fills differ = λ i. Move (fills.0 i) (fills.1 i)
    move p to (Make q) fills differ = absurd fills
    move p to (Put q content) fills differ = absurd fills
    move p to (Remove q) fills differ = absurd fills
    move p to (Mode q bit) fills differ = absurd fills

    mode : (p : FilePath) (exec : Bool) (other : Effect) → Fills (of_sketch.Mode p exec) other → Distinct (WritesContent (Mode p exec ∷ [])) (WritesContent (other ∷ [])) → other ≡ Mode p exec
    mode p exec (Mode q bit) fills differ = λ i. Mode (fills.0 i) (fills.1 i)
    mode p exec (Make q) fills differ = absurd fills
    mode p exec (Put q content) fills differ = absurd fills
    mode p exec (Remove q) fills differ = absurd fills
    mode p exec (Move q onto) fills differ = absurd fills

one_sketch_effect : (e : Effect) (a : SketchEffect) → IsSketchedAs e a → (b : SketchEffect) → IsSketchedAs e b → a ≡ b
one_sketch_effect = sketched_kinds (λ e a. (b : SketchEffect) → IsSketchedAs e b → a ≡ b) make put remove move mode
  where
    make : (p : FilePath) (b : SketchEffect) → IsSketchedAs (Make p) b → of_sketch.Make p ≡ b
    make p (of_sketch.Make q) is = ap of_sketch.Make (sym is)
    make p (of_sketch.Put q sketch) is = absurd is
    make p (of_sketch.Remove q) is = absurd is
    make p (of_sketch.Move q onto) is = absurd is
    make p (of_sketch.Mode q bit) is = absurd is

    put : (p : FilePath) (content : List ℕ) (sketch : Sketch) → IsSketch content sketch → (b : SketchEffect) → IsSketchedAs (Put p content) b → of_sketch.Put p sketch ≡ b
    put p content sketch is (of_sketch.Put q other) is' =
        let same : sketch ≡ other = one_sketch_each content sketch other is is'.1 in
        λ i. of_sketch.Put (sym is'.0 i) (same i)
    put p content sketch is (of_sketch.Make q) is' = absurd is'
    put p content sketch is (of_sketch.Remove q) is' = absurd is'
    put p content sketch is (of_sketch.Move q onto) is' = absurd is'
    put p content sketch is (of_sketch.Mode q bit) is' = absurd is'

    remove : (p : FilePath) (b : SketchEffect) → IsSketchedAs (Remove p) b → of_sketch.Remove p ≡ b
    remove p (of_sketch.Remove q) is = ap of_sketch.Remove (sym is)
    remove p (of_sketch.Make q) is = absurd is
    remove p (of_sketch.Put q sketch) is = absurd is
    remove p (of_sketch.Move q onto) is = absurd is
    remove p (of_sketch.Mode q bit) is = absurd is

    move : (p to : FilePath) (b : SketchEffect) → IsSketchedAs (Move p to) b → of_sketch.Move p to ≡ b
    move p to (of_sketch.Move q onto) is = λ i. of_sketch.Move (sym is.0 i) (sym is.1 i)
    move p to (of_sketch.Make q) is = absurd is
    move p to (of_sketch.Put q sketch) is = absurd is
    move p to (of_sketch.Remove q) is = absurd is
    move p to (of_sketch.Mode q bit) is = absurd is

    mode : (p : FilePath) (exec : Bool) (b : SketchEffect) → IsSketchedAs (Mode p exec) b → of_sketch.Mode p exec ≡ b
    mode p exec (of_sketch.Mode q bit) is = λ i. of_sketch.Mode (sym is.0 i) (sym is.1 i)
    mode p exec (of_sketch.Make q) is = absurd is
    mode p exec (of_sketch.Put q sketch) is = absurd is
    mode p exec (of_sketch.Remove q) is = absurd is
    mode p exec (of_sketch.Move q onto) is = absurd is

-- ---- effects in a row

pub sketches_are_filled : SketchesAreFilled
sketches_are_filled [] [] legal are = tt
sketches_are_filled (e ∷ es) (k ∷ ks) legal are = (own_filling e k are.0 legal.0, sketches_are_filled es ks legal.1 are.1)
sketches_are_filled [] (k ∷ ks) legal are = absurd are
sketches_are_filled (e ∷ es) [] legal are = absurd are

in_front : (x y : Effect) (ys : List Effect) → IsIn x (y ∷ []) → IsIn x (y ∷ ys)
in_front x y ys (inl is) = inl is
in_front x y ys (inr none) = absurd none

pub fillings_are_equal : FillingsAreEqual
fillings_are_equal [] [] [] are fill differ = refl
fillings_are_equal (e ∷ es) (o ∷ os) (k ∷ ks) are fill differ =
    let first : o ≡ e = filling_equal e k are.0 o fill.0 (λ x y a b same. differ x y (a.0, in_front (Put a.0 x) e es a.1) (b.0, in_front (Put b.0 y) o os b.1) same) in
    let rest : os ≡ es = fillings_are_equal es os ks are.1 fill.1 (λ x y a b same. differ x y (a.0, inr a.1) (b.0, inr b.1) same) in
    λ i. first i ∷ rest i
fillings_are_equal [] os (k ∷ ks) are fill differ = absurd are
fillings_are_equal (e ∷ es) os [] are fill differ = absurd are
fillings_are_equal [] (o ∷ os) [] are fill differ = absurd fill
fillings_are_equal (e ∷ es) [] (k ∷ ks) are fill differ = absurd fill

pub fillings_touch_alike : FillingsTouchAlike
fillings_touch_alike [] [] fill = (refl, refl)
fillings_touch_alike (e ∷ es) (k ∷ ks) fill =
    let one = filling_alike k e fill.0 in
    let rest = fillings_touch_alike es ks fill.1 in (
      flat_map-cons touched_paths e es ∙ (λ i. one.0 i ++ rest.0 i) ∙ sym (flat_map-cons sketch_paths k ks),
      sum_by-cons content_size e es ∙ (λ i. one.1 i + rest.1 i) ∙ sym (sum_by-cons sketched_size k ks),
    )
fillings_touch_alike [] (k ∷ ks) fill = absurd fill
fillings_touch_alike (e ∷ es) [] fill = absurd fill

as_many : (es : List Effect) (ks : List SketchEffect) → AllFill ks es → length es ≡ length ks
as_many [] [] fill = refl
as_many (e ∷ es) (k ∷ ks) fill = omega (arith, as_many es ks fill.1)
as_many [] (k ∷ ks) fill = absurd fill
as_many (e ∷ es) [] fill = absurd fill

all_fit : (es : List Effect) (ks : List SketchEffect) → AllFill ks es → AllByRecursion SketchEffectFits ks → AllByRecursion EffectFits es
all_fit [] [] fill fits = tt
all_fit (e ∷ es) (k ∷ ks) fill fits = (filling_fits k e fill.0 fits.0, all_fit es ks fill.1 fits.1)
all_fit [] (k ∷ ks) fill fits = absurd fill
all_fit (e ∷ es) [] fill fits = absurd fill

pub fillings_fit : FillingsFit
fillings_fit es ks fits fill =
    let many = as_many es ks fill in
    record { some = omega (arith, many, fits.some); few = omega (arith, many, fits.few); each = all_fit es ks fill fits.each; all_contents = omega (arith, (fillings_touch_alike es ks fill).1, fits.all_contents) }

all_sketches_fit : (es : List Effect) (ks : List SketchEffect) → AreSketchedAs es ks → AllByRecursion EffectFits es → AllByRecursion SketchEffectFits ks
all_sketches_fit [] [] are fits = tt
all_sketches_fit (e ∷ es) (k ∷ ks) are fits = (sketch_fits e k are.0 fits.0, all_sketches_fit es ks are.1 fits.1)
all_sketches_fit [] (k ∷ ks) are fits = absurd are
all_sketches_fit (e ∷ es) [] are fits = absurd are

pub sketches_fit : SketchesOfEffectsFit
sketches_fit es ks fits are =
    let fill = sketches_are_filled es ks (legal_each es fits.each) are in
    let many = as_many es ks fill in
    record { some = omega (arith, many, fits.some); few = omega (arith, many, fits.few); each = all_sketches_fit es ks are fits.each; all_contents = omega (arith, (fillings_touch_alike es ks fill).1, fits.all_contents) }

pub one_sketch_list : OneSketchList
one_sketch_list [] [] [] are are' = refl
one_sketch_list (e ∷ es) (a ∷ as') (b ∷ bs) are are' =
    let first : a ≡ b = one_sketch_effect e a are.0 b are'.0 in
    let rest : as' ≡ bs = one_sketch_list es as' bs are.1 are'.1 in
    λ i. first i ∷ rest i
one_sketch_list [] (a ∷ as') bs are are' = absurd are
one_sketch_list [] [] (b ∷ bs) are are' = absurd are'
one_sketch_list (e ∷ es) [] bs are are' = absurd are
one_sketch_list (e ∷ es) (a ∷ as') [] are are' = absurd are'

-- ---- entries

one_origin : (a b : Origin) → Some a ≡ Some b → a ≡ b
one_origin a b e = ap (λ o. unwrap_or o a) e

pub one_sketch_of : OneSketchOf
one_sketch_of e a b is is' =
    let seq : a.seq ≡ b.seq = is.numbered ∙ sym is'.numbered in
    let origin : a.origin ≡ b.origin = one_origin a.origin b.origin (sym is.made_by ∙ is'.made_by) in
    let base : a.base ≡ b.base = is.based ∙ sym is'.based in
    let effects : a.effects ≡ b.effects = one_sketch_list e.effects a.effects b.effects is.effects_are is'.effects_are in
    λ i. record { seq = seq i; origin = origin i; base = base i; effects = effects i }

-- ---- one more

pub sketched_more : (es : List Effect) (ks : List SketchEffect) (e : Effect) (k : SketchEffect) → AreSketchedAs es ks → IsSketchedAs e k → AreSketchedAs (es ++ e ∷ []) (ks ++ k ∷ [])
sketched_more [] [] e k are is = (is, tt)
sketched_more (x ∷ es) (y ∷ ks) e k are is = (are.0, sketched_more es ks e k are.1 is)
sketched_more [] (y ∷ ks) e k are is = absurd are
sketched_more (x ∷ es) [] e k are is = absurd are

-- contents that fit are short enough to be sketched
pub short_contents : (es : List Effect) → AllByRecursion EffectFits es → AllByRecursion (λ e. content_size e ≤ max_file) es
short_contents [] fits = tt
short_contents (e ∷ es) fits = (fits.0.1, short_contents es fits.1)
