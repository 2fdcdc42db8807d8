-- Lists, one item more.
use Rattle.std.proofs.Common.{◌≡◌, ℕ, ◌+◌, ◌<◌, ◌∙◌, Option, Some, None, List, [], ◌∷◌, ◌++◌, length, take, get_or, ap, refl, sym, append-nil}
use Rattle.std.specs.List.{filter_map}
use Rattle.std.specs.Option.{option_to_list}
use Rattle.cmd_capture.specs.declared.job.JobRow.{JobRow}
use Rattle.temp_names.specs.Rename.{new_path, row_under, unrenamed_rows, renamed_rows, with_job_row, with_job_rows}
use Rattle.temp_names.specs.declared.pairs.Renamed.{Renamed}
use Rattle.std.proofs.lemmas.List.{take_more}
use Rattle.std.proofs.lemmas.List.Elements.{filter_map-append, filter-append}

-- a list made of one item
filter_map_one : {X Y : Type 0} (f : X → Option Y) (x : X) (found : Option Y) → f x ≡ found → filter_map f (x ∷ []) ≡ option_to_list found
filter_map_one f x None e = rw e refl
filter_map_one f x (Some y) e = rw e refl

pub filter_map_more : {X Y : Type 0} (f : X → Option Y) (xs : List X) (i : ℕ) (d : X) → i < length xs
    → filter_map f (take (i + 1) xs) ≡ filter_map f (take i xs) ++ option_to_list (f (get_or xs i d))
filter_map_more f xs i d h =
    ap (filter_map f) (take_more xs i d h)
    ∙ filter_map-append f (take i xs) (get_or xs i d ∷ [])
    ∙ ap (λ ys. filter_map f (take i xs) ++ ys) (filter_map_one f (get_or xs i d) (f (get_or xs i d)) refl)

-- the step of a loop that adds what it finds
pub filter_map_step : {X Y : Type 0} (f : X → Option Y) (xs : List X) (i : ℕ) (x : X) (found : Option Y) (before after : List Y)
    → i < length xs → x ≡ get_or xs i x → before ≡ filter_map f (take i xs) → found ≡ f x → after ≡ before ++ option_to_list found
    → after ≡ filter_map f (take (i + 1) xs)
filter_map_step f xs i x found before after h at so is now =
    now
    ∙ (λ k. so k ++ option_to_list (is k))
    ∙ ap (λ y. filter_map f (take i xs) ++ option_to_list (f y)) at
    ∙ sym (filter_map_more f xs i x h)

-- one more row that is put at its place
pub with_job_rows_more : (done : List JobRow) (new : JobRow) (rows : List JobRow) → with_job_rows (done ++ new ∷ []) rows ≡ with_job_row new (with_job_rows done rows)
unfolding with_job_rows
with_job_rows_more [] new rows = refl
with_job_rows_more (first ∷ done) new rows = with_job_rows_more done new (with_job_row first rows)

pub with_job_rows_none : (rows : List JobRow) → with_job_rows [] rows ≡ rows
unfolding with_job_rows
with_job_rows_none rows = refl

-- one more row that keeps its path, or gets a new one
module _ (renaming : List Renamed) (rows : List JobRow) (row : JobRow) where
  pub kept_more : new_path renaming row.path ≡ None → unrenamed_rows renaming (rows ++ row ∷ []) ≡ unrenamed_rows renaming rows ++ row ∷ []
  kept_more e = filter-append _ rows (row ∷ []) ∙ (rw e refl)

  pub kept_same : (to : List (List ℕ)) → new_path renaming row.path ≡ Some to → unrenamed_rows renaming (rows ++ row ∷ []) ≡ unrenamed_rows renaming rows
  kept_same to e = filter-append _ rows (row ∷ []) ∙ (rw e (append-nil _))

  pub renamed_more : (to : List (List ℕ)) → new_path renaming row.path ≡ Some to
      → renamed_rows renaming (rows ++ row ∷ []) ≡ renamed_rows renaming rows ++ row_under to row ∷ []
  renamed_more to e = filter_map-append _ rows (row ∷ []) ∙ (rw e refl)

  pub renamed_same : new_path renaming row.path ≡ None → renamed_rows renaming (rows ++ row ∷ []) ≡ renamed_rows renaming rows
  renamed_same e = filter_map-append _ rows (row ∷ []) ∙ (rw e (append-nil _))
