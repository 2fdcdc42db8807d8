-- Paths below a folder.
use Rattle.std.proofs.Common.{◌≡◌, ◌-◌, ◌<◌, ◌≤◌, true, false, ◌&&◌, [], ◌∷◌, length, take, sym, ap, ◌∙◌, arith, true≢false}
use Rattle.std.specs.Prelude.{nat_lt}
use Rattle.std.proofs.lemmas.List.{length-take, take-take}
use Rattle.std.specs.Cmp.Lexicographic.{pointwise_decides, bytes_decides}
use Rattle.byte_fields.proofs.Facts.{lt_holds, lt_of, and_of, and_holds}
use Rattle.file_paths.specs.Path.{FilePath, folder_of}
use Rattle.tree_values.specs.Tree.{is_root}
use Rattle.work_area.specs.Jobs.{is_within}
use Rattle.folder_sides.specs.Sides.{is_below}

pub begins : (p f : FilePath) → is_within p f ≡ true → f ≡ take (length f) p
begins p f h = (pointwise_decides bytes_decides f (take (length f) p)).0 h

pub within : (p f : FilePath) → f ≡ take (length f) p → is_within p f ≡ true
within p f h = (pointwise_decides bytes_decides f (take (length f) p)).1 h

pub folder_len : (p : FilePath) → length (folder_of p) ≡ length p - 1
folder_len p = omega (arith, length-take (length p - 1) p)

pub up_within : (r p : FilePath) → is_within r p ≡ true → is_within r (folder_of p) ≡ true
up_within r p h =
    let fits : length p - 1 ≤ length p = omega arith in
    within r (folder_of p)
    (ap (take (length p - 1)) (begins r p h) ∙ take-take (length p - 1) (length p) r fits ∙ ap (λ n. take n r) (sym (folder_len p)))

-- what lies below a path lies below its folder
pub up_below : (r p : FilePath) → is_below r p ≡ true → is_below r (folder_of p) ≡ true
up_below r p h =
    let parts = and_of (is_within r p) (nat_lt (length p) (length r)) h in
    let deep : length p < length r = lt_of (length p) (length r) parts.1 in
    and_holds (is_within r (folder_of p)) (nat_lt (length (folder_of p)) (length r)) (up_within r p parts.0)
    (lt_holds (length (folder_of p)) (length r) (omega (arith, folder_len p, deep)))

some_name : (p : FilePath) → is_root p ≡ false → 0 < length p
some_name [] h = absurd (true≢false h)
some_name (n ∷ p) h = omega arith

-- a path lies below its folder
pub own_below : (p : FilePath) → is_root p ≡ false → is_below p (folder_of p) ≡ true
own_below p h =
    and_holds (is_within p (folder_of p)) (nat_lt (length (folder_of p)) (length p))
    (within p (folder_of p) (ap (λ n. take n p) (sym (folder_len p))))
    (lt_holds (length (folder_of p)) (length p) (omega (arith, folder_len p, some_name p h)))
