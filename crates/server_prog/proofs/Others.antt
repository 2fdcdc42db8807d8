-- What is kept under the names that are not the server's.
use Rattle.std.proofs.Common.{◌≡◌, ◌≢◌, ⊎_elim, ℕ, List, Option, None, Some, Result, Ok, Err, refl, ap, ◌∙◌}
use Rattle.std.specs.Prelude.{Vec}
use Rattle.std.specs.declared.alloc.Global.{Global}
use Rattle.outside.specs.Outside.{Told}
use Rattle.outside.specs.Keeper.{Images, IsPut, Loads, Saves, Appends}
use Rattle.world_rules.proofs.Asks.{told_then, told_start, told_as}
use Rattle.server_prog.specs.Run.{OthersKept}

module _ (name : List ℕ) where
  abbrev Stay : Images → Images → Type 0
  Stay before after = (other : List ℕ) → other ≢ name → after other ≡ before other

  stay_same : (before after : Images) → after ≡ before → Stay before after
  stay_same before after same other apart = ap (λ (kept : Images). kept other) same

  -- nothing was kept
  pub others_none : (kept : Option Images) → OthersKept name kept kept
  others_none kept = told_start kept Stay (λ before other apart. refl)

  -- one after the other
  pub others_then : (a b c : Option Images) → OthersKept name a b → OthersKept name b c → OthersKept name a c
  others_then a b c one two = told_then a b c Stay Stay Stay one two (λ x y z first second other apart. second other apart ∙ first other apart)

  pub others_loaded : {E : Type 0} (result : Result (Option (Vec ℕ Global)) E) (a b : Option Images) → Told a b (λ old new. Loads name result old new) → OthersKept name a b
  others_loaded result a b told = told_as a b (λ old new. Loads name result old new) Stay told (λ x y loads. by result x y loads)
    where
      by : {E : Type 0} (result : Result (Option (Vec ℕ Global)) E) (x y : Images) → Loads name result x y → Stay x y
      by (Ok image) x y loads = stay_same x y loads.1
      by (Err error) x y loads = stay_same x y loads

  -- a load changes what is kept under no name
  pub images_loaded : {E : Type 0} (result : Result (Option (Vec ℕ Global)) E) (a b : Option Images) → Told a b (λ old new. Loads name result old new) → b ≡ a
  images_loaded result None None told = refl
  images_loaded result None (Some y) told = told
  images_loaded result (Some x) None told = absurd told
  images_loaded (Ok image) (Some x) (Some y) told = ap Some told.1
  images_loaded (Err error) (Some x) (Some y) told = ap Some told

  pub others_saved : {T E : Type 0} (image : List ℕ) (result : Result T E) (a b : Option Images) → Told a b (λ old new. Saves name image result old new) → OthersKept name a b
  others_saved image result a b told = told_as a b (λ old new. Saves name image result old new) Stay told (λ x y saves. by result x y saves)
    where
      by : {T E : Type 0} (result : Result T E) (x y : Images) → Saves name image result x y → Stay x y
      by (Ok done) x y saves = saves.others
      by (Err error) x y saves = ⊎_elim (λ same. stay_same x y same) (λ (put : IsPut name image x y). put.others) saves

  pub others_appended : {T E : Type 0} (piece : List ℕ) (result : Result T E) (a b : Option Images) → Told a b (λ old new. Appends name piece result old new) → OthersKept name a b
  others_appended piece result a b told = told_as a b (λ old new. Appends name piece result old new) Stay told (λ x y appends. by result x y appends)
    where
      by : {T E : Type 0} (result : Result T E) (x y : Images) → Appends name piece result x y → Stay x y
      by (Ok done) x y appends = appends.others
      by (Err error) x y appends = ⊎_elim (λ same. stay_same x y same) (λ front. front.1.others) appends
