-- What a whole shelving comes to.
use Rattle.std.proofs.Common.{Bool, true, not, ◌&&◌, ◌≡◌, ◌≢◌, ◌⊎◌, inl, ⊎_elim, ◌≤◌, List, [], ◌∷◌, Option, Result, Ok, Err, refl, sym, ◌∙◌, ap, subst}
use Rattle.std.specs.Result.{result_map_both}
use Rattle.std.proofs.lemmas.Bool.{true≢false}
use Rattle.std.proofs.lemmas.Slice.Eq.{bytes_eq-Decides}
use Rattle.outside.specs.Outside.{Told}
use Rattle.outside.specs.Keeper.{Images}
use Rattle.file_paths.specs.Path.{FilePath, path_of}
use Rattle.file_paths.specs.declared.path.PathError.{PathError}
use Rattle.tree_values.specs.declared.node.Effect.{Effect}
use Rattle.mod_log.specs.declared.log.Entry.{Entry}
use Rattle.mod_log.specs.Log.{Log}
use Rattle.world_rules.proofs.Asks.{told_as}
use Rattle.client_core.specs.Keeping.{IsKept}
use Rattle.conflict_shelf.specs.declared.shelf.ShelfError.{ShelfError}
use Rattle.conflict_shelf.specs.declared.shelf.ShelfError.TheVariants as shelves
use Rattle.conflict_shelf.specs.Shelf.{shelved}
use Rattle.client_shelf.specs.declared.ends.Ending.{Ending}
use Rattle.client_shelf.specs.declared.ends.Ending.TheVariants as ends
use Rattle.client_shelf.specs.Shelving.{Shelving, IsShelving, is_beside, are_apart, IsStored, IsUnused, unshelved, planned_by, planned}
use Rattle.client_shelf.specs.Ending.{Standing, ChangesOnly, IsDue}
use Rattle.client_shelf.specs.Inside.{EndsSo}

-- ---- which ends a plan has

abbrev IsOfPlan : Ending → Type 0
IsOfPlan ends.NoImage = ⊥
IsOfPlan ends.NewImage = ⊥
IsOfPlan ending = Unit {0}

unshelved_of : (fault : ShelfError) (ending : Ending) → unshelved fault ≡ ending → IsOfPlan ending
unshelved_of (shelves.Path fault) ending is = subst IsOfPlan is tt
unshelved_of shelves.Memory ending is = subst IsOfPlan is tt

mapped_of : (r : Result (List (List Effect)) ShelfError) (ending : Ending) → result_map_both (λ lists. lists) unshelved r ≡ Err ending → IsOfPlan ending
mapped_of (Ok lists) ending is = absurd (cc)
mapped_of (Err fault) ending is = let same : unshelved fault ≡ ending = cc in unshelved_of fault ending same

planned_of : (folder : Result FilePath PathError) (pending : List Entry) (ending : Ending) → planned_by folder pending ≡ Err ending → IsOfPlan ending
planned_of (Err fault) pending ending is = let same : ends.BadFolder fault ≡ ending = cc in subst IsOfPlan same tt
planned_of (Ok folder) [] ending is = let same : ends.NothingPending ≡ ending = cc in subst IsOfPlan same tt
planned_of (Ok folder) (entry ∷ entries) ending is = mapped_of (shelved folder (entry ∷ entries)) ending is

module _ (asked : Shelving) where
  due_of : (images : Option Images) (stuck start : Log) (ending : Ending) → IsOfPlan ending → IsStored images asked.image asked.client stuck → IsKept images asked.new_image asked.new_client start → IsUnused start
      → planned asked.folder stuck.pending ≡ Err ending → IsDue asked images ending
  due_of images stuck start ends.NoImage of stored kept unused is = absurd of
  due_of images stuck start ends.NewImage of stored kept unused is = absurd of
  due_of images stuck start (ends.BadFolder fault) of stored kept unused is = (stuck, start, stored, kept, unused, is)
  due_of images stuck start ends.NothingPending of stored kept unused is = (stuck, start, stored, kept, unused, is)
  due_of images stuck start (ends.BadPlace fault) of stored kept unused is = (stuck, start, stored, kept, unused, is)
  due_of images stuck start ends.Unanswered of stored kept unused is = (stuck, start, stored, kept, unused, is)
  due_of images stuck start (ends.OtherLast last) of stored kept unused is = (stuck, start, stored, kept, unused, is)
  due_of images stuck start (ends.Older path theirs ours) of stored kept unused is = (stuck, start, stored, kept, unused, is)
  due_of images stuck start (ends.Unlogged refusal) of stored kept unused is = (stuck, start, stored, kept, unused, is)
  due_of images stuck start (ends.Shelved entries names) of stored kept unused is = (stuck, start, stored, kept, unused, is)

  -- the end that the plan has is due, and nothing is done
  pub planned_ends : (old : Standing) (stuck start : Log) (ending : Ending) → IsStored old.images asked.image asked.client stuck → IsKept old.images asked.new_image asked.new_client start → IsUnused start
      → planned asked.folder stuck.pending ≡ Err ending → EndsSo asked (Ok ending) old old
  planned_ends old stuck start ending stored kept unused is =
      inl (due_of old.images stuck start ending (planned_of (path_of asked.folder) stuck.pending ending is) stored kept unused is, refl)

-- ---- what stands under the first name

-- images that are apart have two names
images_differ : (asked : Shelving) → are_apart asked.image asked.new_image ≡ true → asked.image ≢ asked.new_image
images_differ asked apart same =
    true≢false
    (sym apart ∙ ap (λ (b : Bool). not b && not (is_beside asked.image asked.new_image) && not (is_beside asked.new_image asked.image))
    ((bytes_eq-Decides asked.image asked.new_image).1 same))

-- so it stays
pub image_stays : (asked : Shelving) → IsShelving asked → (i j : Option Images) → Told i j (ChangesOnly asked.new_image) → Told i j (λ before after. after asked.image ≡ before asked.image)
image_stays asked is i j told =
    told_as i j (ChangesOnly asked.new_image) (λ before after. after asked.image ≡ before asked.image) told (λ x y changes. changes.0 asked.image (images_differ asked is.apart))
