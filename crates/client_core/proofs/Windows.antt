-- The window of what is pending, as it grows by an entry.
use Rattle.std.proofs.Common.{◌≡◌, ⊎_elim, ℕ, zero, suc, ◌+◌, ◌-◌, ◌<◌, ◌≤◌, List, [], ◌∷◌, ◌++◌, length, take, Some, None, slice_get, Result, Ok, Err, IfOk, refl, sym, ◌∙◌, ap, subst, arith, append_assoc, length-append}
use Rattle.std.specs.Prelude.{min}
use Rattle.std.specs.declared.alloc.AllocError.{AllocError}
use Rattle.std.specs.List.{AllByRecursion}
use Rattle.std.proofs.Math.Seq.{take-append_seam}
use Rattle.std.proofs.lemmas.List.{take_more, take_all}
use Rattle.std.proofs.lemmas.Option.{slice_get_within, get_or_from_slice_get}
use Rattle.std.proofs.lemmas.List.Sums.{sum_by-cons, sum_by-append}
use Rattle.tree_values.specs.Effects.{contents_size}
use Rattle.tree_values.specs.Limits.{max_effects, max_files}
use Rattle.tree_values.specs.Spelling.{EffectsFit}
use Rattle.mod_log.specs.declared.log.Entry.{Entry}
use Rattle.wire_frames.specs.declared.parts.Part.{Part}
use Rattle.wire_frames.specs.Parts.{part_of, effects_count, contents_count}
use Rattle.world_rules.specs.InStep.{parts_of}
use Rattle.client_core.specs.declared.route.Route.{Route}
use Rattle.client_core.specs.declared.window.WindowRoom.{WindowRoom}
use Rattle.client_core.specs.Limits.{max_window, max_beside}
use Rattle.client_core.specs.Syncing.{IsFirst, IsHeavy, FitsWindow, IsLongest, IsWindow}
use Rattle.client_core.specs.Inside.{LeavesRoom, IsLightEntry}
use Rattle.client_core.proofs.Firsts.{none_is}

-- ---- the parts of entries

parts-append : (xs ys : List Entry) → parts_of (xs ++ ys) ≡ parts_of xs ++ parts_of ys
parts-append [] ys = refl
parts-append (x ∷ xs) ys = ap (λ (parts : List Part). part_of x.effects x.base ∷ parts) (parts-append xs ys)

effects_first : (x : Entry) (xs : List Entry) → effects_count (parts_of (x ∷ xs)) ≡ length x.effects + effects_count (parts_of xs)
effects_first x xs = sum_by-cons (λ (p : Part). length p.effects) (part_of x.effects x.base) (parts_of xs)

contents_first : (x : Entry) (xs : List Entry) → contents_count (parts_of (x ∷ xs)) ≡ contents_size x.effects + contents_count (parts_of xs)
contents_first x xs = sum_by-cons (λ (p : Part). contents_size p.effects) (part_of x.effects x.base) (parts_of xs)

effects_last : (xs : List Entry) (x : Entry) → effects_count (parts_of (xs ++ x ∷ [])) ≡ effects_count (parts_of xs) + length x.effects
effects_last xs x =
    let both : effects_count (parts_of (xs ++ x ∷ [])) ≡ effects_count (parts_of xs) + effects_count (parts_of (x ∷ [])) =
    ap effects_count (parts-append xs (x ∷ [])) ∙ sum_by-append (λ (p : Part). length p.effects) (parts_of xs) (parts_of (x ∷ [])) in
    omega (arith, both, effects_first x [])

contents_last : (xs : List Entry) (x : Entry) → contents_count (parts_of (xs ++ x ∷ [])) ≡ contents_count (parts_of xs) + contents_size x.effects
contents_last xs x =
    let both : contents_count (parts_of (xs ++ x ∷ [])) ≡ contents_count (parts_of xs) + contents_count (parts_of (x ∷ [])) =
    ap contents_count (parts-append xs (x ∷ [])) ∙ sum_by-append (λ (p : Part). contents_size p.effects) (parts_of xs) (parts_of (x ∷ [])) in
    omega (arith, both, contents_first x [])

-- ---- lists

all_last : {X : Type 0} (P : X → Type 0) (xs : List X) (x : X) → AllByRecursion P xs → P x → AllByRecursion P (xs ++ x ∷ [])
all_last P [] x all one = (one, tt)
all_last P (y ∷ xs) x all one = (all.0, all_last P xs x all.1 one)

of_last : {X : Type 0} (P : X → Type 0) (xs : List X) (x : X) → AllByRecursion P (xs ++ x ∷ []) → P x
of_last P [] x all = all.0
of_last P (y ∷ xs) x all = of_last P xs x all.1

get_behind : (xs ys : List Entry) → slice_get (xs ++ ys) (length xs) ≡ slice_get ys 0
get_behind [] ys = refl
get_behind (x ∷ xs) ys = get_behind xs ys

-- ---- a window so far

module _ (client : ℕ) (route : Route) (pending : List Entry) where
  -- The first pending entry and those behind it, so many, fit a window, and so much room is left behind them.
  pub record SoFar (count : ℕ) (room : WindowRoom) : Type 0 where
    pub first : Entry
    pub behind : List Entry
    pub left : List Entry
    pub parts : pending ≡ (first ∷ behind) ++ left
    pub counted : count ≡ length (first ∷ behind)
    pub heavy : AllByRecursion (IsHeavy client route) behind
    pub first_fits : contents_size first.effects ≤ max_files
    pub effects : effects_count (parts_of (first ∷ behind)) + room.effects ≡ max_effects
    pub content : contents_count (parts_of behind) + room.content ≡ min (max_files - contents_size first.effects) max_beside

  -- so many are the window
  abbrev pub Found : ℕ → Type 0
  Found count = (chosen : List Entry) × IsWindow client route pending chosen × (count ≡ length chosen)

  -- the first entry alone
  pub begun : (first : Entry) (room : WindowRoom) → IsFirst first pending → EffectsFit first.effects → length first.effects + room.effects ≡ max_effects → room.content ≡ min (max_files - contents_size first.effects) max_beside
      → SoFar 1 room
  begun first room is fits effects content = by pending refl is
    where
      by : (entries : List Entry) → pending ≡ entries → IsFirst first entries → SoFar 1 room
      by [] same is = absurd is
      by (e ∷ left) same is = record {
        first = first;
        behind = [];
        left = left;
        parts = same ∙ ap (λ (x : Entry). x ∷ left) is;
        counted = refl;
        heavy = tt;
        first_fits = fits.all_contents;
        effects = omega (arith, effects_first first [], effects);
        content = omega (arith, content);
      }

  module _ (count : ℕ) (room : WindowRoom) (so_far : SoFar count room) where
    abbrev chosen : List Entry
    chosen = so_far.first ∷ so_far.behind

    fits : count ≤ max_window → FitsWindow client route chosen
    fits few = record {
      storable = record {
        some = omega arith;
        few = omega (arith, so_far.counted, few);
        few_effects = omega (arith, so_far.effects);
        all_contents = omega (arith, contents_first so_far.first so_far.behind, so_far.content, so_far.first_fits);
      };
      few = omega (arith, so_far.counted, few);
      heavy = so_far.heavy;
      beside = omega (arith, so_far.content);
    }

    found : count ≤ max_window → IsLongest client route chosen so_far.left → Found count
    found few longest = (chosen, record { left = so_far.left; front = so_far.parts; fits = fits few; longest = longest }, so_far.counted)

    next_is : slice_get pending count ≡ slice_get so_far.left 0
    next_is = (λ i. slice_get (so_far.parts i) (so_far.counted i)) ∙ get_behind chosen so_far.left

    -- nothing is left
    pub found_all : count ≤ max_window → None ≡ slice_get pending count → Found count
    found_all few none = found few (subst (IsLongest client route chosen) (sym (none_is so_far.left (none ∙ next_is))) tt)

    -- it is full
    pub found_full : count ≡ max_window → Found count
    found_full full = found (omega (arith, full)) (by so_far.left)
      where
        by : (left : List Entry) → IsLongest client route chosen left
        by [] = tt
        by (next ∷ left) = λ more. absurd (omega (arith, more.few, length-append chosen (next ∷ []), so_far.counted, full))

    -- the next entry does not join
    module _ (entry : Entry) (few : count ≤ max_window) (is : Some entry ≡ slice_get pending count) where
      ended : (FitsWindow client route (chosen ++ entry ∷ []) → ⊥) → Found count
      ended joins = found few (by so_far.left (is ∙ next_is))
        where
          by : (left : List Entry) → Some entry ≡ slice_get left 0 → IsLongest client route chosen left
          by [] first = tt
          by (next ∷ left) first =
              let same : entry ≡ next = cc first in
              subst (λ (e : Entry). FitsWindow client route (chosen ++ e ∷ []) → ⊥) same joins

      -- since there is no room for it
      pub found_room : LeavesRoom room entry None → Found count
      found_room none = ended (λ more. ⊎_elim
          (λ (low : room.effects < length entry.effects). absurd (omega (arith, low, so_far.effects, effects_last chosen entry, more.storable.few_effects)))
          (λ (low : room.content < contents_size entry.effects).
          absurd (omega (arith, low, so_far.content, so_far.first_fits, contents_last chosen entry, contents_first so_far.first so_far.behind, contents_last so_far.behind entry, more.beside, more.storable.all_contents)))
          none)

      -- since it is light
      pub found_light : IsLightEntry client route entry → Found count
      found_light light = ended (λ more. of_last (IsHeavy client route) so_far.behind entry more.heavy light.0 light.1 light.2)

    -- one more joins
    pub joined : (entry : Entry) (left : WindowRoom) → Some entry ≡ slice_get pending count → LeavesRoom room entry (Some left) → (IsLightEntry client route entry → ⊥) → SoFar (count + 1) left
    joined entry room_left is leaves heavy = by so_far.left refl (is ∙ next_is)
      where
        by : (left : List Entry) → so_far.left ≡ left → Some entry ≡ slice_get left 0 → SoFar (count + 1) room_left
        by [] same first = absurd (cc first)
        by (next ∷ left) same first =
            let here : next ≡ entry = cc first in
            record {
              first = so_far.first;
              behind = so_far.behind ++ entry ∷ [];
              left = left;
              parts = so_far.parts ∙ ap (λ (more : List Entry). chosen ++ more) (same ∙ ap (λ (e : Entry). e ∷ left) here) ∙ sym (append_assoc chosen (entry ∷ []) left);
              counted = omega (arith, so_far.counted, length-append so_far.behind (entry ∷ []));
              heavy = all_last (IsHeavy client route) so_far.behind entry so_far.heavy (λ address sketched light. heavy (address, sketched, light));
              first_fits = so_far.first_fits;
              effects = omega (arith, so_far.effects, effects_last chosen entry, leaves.0);
              content = omega (arith, so_far.content, contents_last so_far.behind entry, leaves.1);
            }

-- so many of the first pending entries are those of the window
pub front_is : (client : ℕ) (route : Route) (pending chosen : List Entry) (count : ℕ) → IsWindow client route pending chosen → count ≡ length chosen → take count pending ≡ chosen
front_is client route pending chosen count window counted =
    (λ i. take (counted i) (window.front i)) ∙ take-append_seam chosen window.left

-- ---- the parts of the first entries

pub parts_more : (pending : List Entry) (count : ℕ) (entry : Entry) → Some entry ≡ slice_get pending count → parts_of (take (count + 1) pending) ≡ parts_of (take count pending) ++ part_of entry.effects entry.base ∷ []
parts_more pending count entry is =
    let within : count < length pending = slice_get_within pending count entry (sym is) in
    ap parts_of (take_more pending count entry within ∙ ap (λ (e : Entry). take count pending ++ e ∷ []) (get_or_from_slice_get pending count entry entry (sym is)))
    ∙ parts-append (take count pending) (entry ∷ [])

past : (entries : List Entry) (n : ℕ) → None ≡ slice_get entries n → length entries ≤ n
past [] n none = omega arith
past (e ∷ entries) zero none = absurd (cc none)
past (e ∷ entries) (suc n) none = omega (arith, past entries n none)

pub parts_past : (pending : List Entry) (i count : ℕ) → i ≤ count → None ≡ slice_get pending i → parts_of (take i pending) ≡ parts_of (take count pending)
parts_past pending i count low none =
    let long : length pending ≤ i = past pending i none in
    ap parts_of (take_all i pending long ∙ sym (take_all count pending (omega (arith, low, long))))

-- where so many are the window, these parts are its
pub window_parts : (client : ℕ) (route : Route) (pending : List Entry) (count : ℕ) (r : Result (List Part) AllocError) → Found client route pending count → IfOk r (λ parts. parts ≡ parts_of (take count pending))
    → IfOk r (λ parts. (chosen : List Entry) × IsWindow client route pending chosen × (parts ≡ parts_of chosen))
window_parts client route pending count (Ok parts) found is = (found.0, found.1, is ∙ ap parts_of (front_is client route pending found.0 count found.1 found.2))
window_parts client route pending count (Err e) found is = tt
