-- An image that is put under a name.
use Rattle.std.proofs.Common.{◌≡◌, inl, inr, ℕ, ◌≤◌, List, length, Option, Some, None, refl, Result, Ok, Err, sym, ap, subst, arith}
use Rattle.outside.specs.Outside.{Told}
use Rattle.outside.specs.Keeper.{Images, IsPut, Saves}
use Rattle.mod_log.specs.Log.{Log}
use Rattle.store_image.specs.declared.image.TheConstants.{MAX_CLIENT_IMAGE}
use Rattle.store_image.specs.declared.record.ClientRecord.{ClientRecord}
use Rattle.store_image.specs.Spelling.{client as image}
use Rattle.store_image.specs.Image.{IsKeptWholeFor, Keeps}
use Rattle.store_image.proofs.Appended.{records_are_appended}
use Rattle.world_rules.proofs.Asks.{told_start, told_as}
use Rattle.client_core.specs.Keeping.{IsSmall, LeavesKept, KeepsNext, WritesNext}

module _ {E : Type 0} (name : List ℕ) (number : ℕ) (log : Log) where
  -- a save of the client's image keeps it, or leaves what was kept
  pub saved_keeps : (bytes : List ℕ) (r : Result (Unit {0}) E) (i j : Option Images) → IsKeptWholeFor number log bytes → bytes ≡ image (record { client = number; log = log })
      → length bytes ≤ MAX_CLIENT_IMAGE → Told i j (λ old new. Saves name bytes r old new) → Told i j (KeepsNext name number log None r)
  saved_keeps bytes r i j whole spelled small told = told_as i j (λ old new. Saves name bytes r old new) (KeepsNext name number log None r) told (by r)
    where
      here : (x y : Images) → IsPut name bytes x y → Keeps (y name) number log
      here x y put = subst (λ (found : Option (List ℕ)). Keeps found number log) (sym put.here) (records_are_appended.clients_kept number log bytes whole)

      by : (r : Result (Unit {0}) E) (x y : Images) → Saves name bytes r x y → KeepsNext name number log None r x y
      by (Ok done) x y put = record { bytes = bytes; here = put.here; written = spelled; whole = whole; small = omega (arith, small); others = put.others }
      by (Err e) x y (inl same) = (
        inl (λ c l keeps. subst (λ (images : Images). Keeps (images name) c l) (sym same) keeps),
        λ other differs. ap (λ (images : Images). images other) same,
        inl (ap (λ (images : Images). images name) same),
      )
      by (Err e) x y (inr put) = (inr (here x y put), put.others, inr (subst IsSmall (sym put.here) (omega (arith, small))))

  -- where nothing was written, what was kept still is
  pub unwritten_keeps : (notes : Option (List ClientRecord)) (e : E) (i : Option Images) → Told i i (KeepsNext {E = E} name number log notes (Err e))
  unwritten_keeps notes e i = told_start i (KeepsNext name number log notes (Err e)) (λ x. (left notes (x name), λ other differs. refl, inl refl))
    where
      left : (notes : Option (List ClientRecord)) (found : Option (List ℕ)) → LeavesKept number log notes found found
      left None found = inl (λ c l keeps. keeps)
      left (Some notes) found = inl (λ c l keeps. keeps)

  -- the bytes that were saved are the image
  pub saved_writes : (bytes : List ℕ) (r : Result (Unit {0}) E) (i j : Option Images) → bytes ≡ image (record { client = number; log = log }) → Told i j (λ old new. Saves name bytes r old new)
      → Told i j (WritesNext name number log None r)
  saved_writes bytes r i j spelled told =
      told_as i j (λ old new. Saves name (image (record { client = number; log = log })) r old new) (WritesNext name number log None r)
      (subst (λ (text : List ℕ). Told i j (λ old new. Saves name text r old new)) spelled told) (λ x y put. put)

  -- where nothing was written, all is as before
  pub unwritten_writes : (notes : Option (List ClientRecord)) (e : E) (i : Option Images) → Told i i (WritesNext {E = E} name number log notes (Err e))
  unwritten_writes notes e i = told_start i (WritesNext name number log notes (Err e)) (λ x. as_before notes x)
    where
      as_before : (notes : Option (List ClientRecord)) (x : Images) → WritesNext {E = E} name number log notes (Err e) x x
      as_before None x = inl refl
      as_before (Some notes) x = inl refl
