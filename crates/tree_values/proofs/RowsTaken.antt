-- The rows that were read are in order, and what room they leave.
use Rattle.std.proofs.Common.{◌≡◌, ℕ, zero, suc, ◌+◌, ◌-◌, ◌<◌, Bool, true, false, ◌&&◌, not, leb, List, [], ◌∷◌, ◌++◌, length, Result, Ok, Err, refl, sym, ap, subst, ◌∙◌, arith, take, get_or, append_assoc}
use Rattle.std.specs.Int.{w64}
use Rattle.std.specs.List.{AllByRecursion, list_all}
use Rattle.std.proofs.lemmas.List.{take_more, take_all, append-nil}
use Rattle.std.specs.Cmp.{first_so, second_so}
use Rattle.std.specs.Ordering.{is_lt}
use Rattle.std.specs.declared.cmp.Ordering.{Ordering}
use Rattle.std.specs.declared.cmp.Ordering.TheVariants.{Less}
use Rattle.byte_fields.specs.Field.{◌>>=◌, ruled, number_at, passed, each_at}
use Rattle.byte_fields.proofs.Codec.{bind_ok, kept_ok, ok_is}
use Rattle.file_paths.specs.Path.{FilePath, path_cmp, folder_of}
use Rattle.tree_values.specs.declared.format.Format.{Format}
use Rattle.tree_values.specs.declared.node.Row.{Row}
use Rattle.tree_values.specs.Tree.{Volume, AreInOrder, is_root, is_folder, node_size}
use Rattle.file_paths.specs.Reading.{path_at}
use Rattle.tree_values.specs.Reading.{may_stand, standing_at, room_beside, next_row_at, with_next}
use Rattle.tree_values.specs.Inside.{begun_row_at, with_begun}
use Rattle.file_paths.proofs.Order.{paths_total, same_place, is_less}
use Rattle.tree_values.proofs.Ordered.{order_join, size_append}

-- a row that was read may stand there
next_stands : (format : Format) (before : Volume) (bytes : List ℕ) (at : ℕ) (r : Row) (next : ℕ) → next_row_at format before bytes at ≡ Ok (r, next) → may_stand before r.path ≡ true
unfolding next_row_at ruled
next_stands format before bytes at r next e =
    let a = bind_ok (ruled (may_stand before) path_at bytes at) _ (r, next) e in
    let p = bind_ok (path_at bytes at) _ a.0 a.1 in
    let k = kept_ok (may_stand before p.0.0) at p.0 a.0 p.2 in
    let b = bind_ok (ruled (leb 1) (number_at w64) bytes a.0.1) _ (r, next) a.2 in
    let c = bind_ok (standing_at format (is_folder before (folder_of a.0.0)) (room_beside before) bytes b.0.1) _ (r, next) b.2 in
    let made = ok_is {A = Row × ℕ} (record { path = a.0.0; version = b.0.0; node = c.0.0 }, c.0.1) (r, next) c.2 in
    let same : a.0.0 ≡ r.path = ap (λ (x : Row × ℕ). x.0.path) made in
    let there : p.0.0 ≡ a.0.0 = ap (λ (x : FilePath × ℕ). x.0) k.1 in
    subst (λ (q : FilePath). may_stand before q ≡ true) (there ∙ same) k.0

all_low : (before : Volume) (p : FilePath) → list_all (λ other. is_lt (path_cmp other.path p)) before ≡ true → AllByRecursion (λ other. path_cmp other.path p ≡ Less) before
all_low [] p h = tt
all_low (x ∷ xs) p h = (is_less (path_cmp x.path p) (first_so _ _ h), all_low xs p (second_so _ _ h))

-- one row more keeps the order
pub order_with_next : (format : Format) (before : Volume) (bytes : List ℕ) (at : ℕ) (r : Row) (next : ℕ) → next_row_at format before bytes at ≡ Ok (r, next) → AreInOrder before → AreInOrder (before ++ r ∷ [])
order_with_next format before bytes at r next e order =
    let low = all_low before r.path (second_so (not (is_root r.path)) _ (next_stands format before bytes at r next e)) in
    order_join r.path before (r ∷ []) low (ap is_lt (same_place r.path), tt) order (tt, tt)

-- what room one row more leaves
pub room_with_next : (before : Volume) (r : Row) → room_beside (before ++ r ∷ []) ≡ room_beside before - node_size r.node
room_with_next before r = omega (arith, size_append before (r ∷ []))

-- the rows that were taken are those that were read
pub rows_passed : (before rows : Volume) → passed with_next before rows ≡ before ++ rows
rows_passed before [] = sym (append-nil before)
rows_passed before (r ∷ rows) = rows_passed (before ++ r ∷ []) rows ∙ append_assoc before (r ∷ []) rows

-- so are those that were taken with their format
pub begun_passed : (format : Format) (before rows : Volume) → passed with_begun (record { format = format; rows = before }) rows ≡ record { format = format; rows = before ++ rows }
begun_passed format before [] = ap (λ (all : Volume). record { format = format; rows = all }) (sym (append-nil before))
begun_passed format before (r ∷ rows) =
    begun_passed format (before ++ r ∷ []) rows ∙ ap (λ (all : Volume). record { format = format; rows = all }) (append_assoc before (r ∷ []) rows)

-- and they are read as if the format stood apart
pub begun_read : (format : Format) (n : ℕ) (before : Volume) (bytes : List ℕ) (at : ℕ) → each_at begun_row_at with_begun n (record { format = format; rows = before }) bytes at ≡ each_at (next_row_at format) with_next n before bytes at
unfolding each_at
begun_read format zero before bytes at = refl
begun_read format (suc n) before bytes at = by (next_row_at format before bytes at) (λ rows next. begun_read format n rows bytes next)
  where
    by : (read : Result (Row × ℕ) ℕ)
        → ((rows : Volume) (next : ℕ) → each_at begun_row_at with_begun n (record { format = format; rows = rows }) bytes next ≡ each_at (next_row_at format) with_next n rows bytes next)
        → ◌≡◌ {A = Result (List Row × ℕ) ℕ}
        (read >>= λ first. each_at begun_row_at with_begun n (record { format = format; rows = before ++ first.0 ∷ [] }) bytes first.1 >>= λ others. Ok (first.0 ∷ others.0, others.1))
        (read >>= λ first. each_at (next_row_at format) with_next n (before ++ first.0 ∷ []) bytes first.1 >>= λ others. Ok (first.0 ∷ others.0, others.1))
    by (Ok x) later = rw (later (before ++ x.0 ∷ []) x.1) refl
    by (Err place) later = refl

-- ---- a path above the last row's is above all

low_first : (x last : Row) (p : FilePath) → path_cmp x.path last.path ≡ Less → (b : Bool) → is_lt (path_cmp last.path p) ≡ b → (is_lt (path_cmp x.path p) && b) ≡ b
low_first x last p below true e = ap (λ (o : Ordering). is_lt o && true) (paths_total.trans x.path last.path p below (is_less (path_cmp last.path p) e))
low_first x last p below false e = by (is_lt (path_cmp x.path p))
  where
    by : (b : Bool) → (b && false) ≡ false
    by true = refl
    by false = refl

is_last : (front : Volume) (last : Row) (p : FilePath) → AreInOrder (front ++ last ∷ []) → list_all (λ other. is_lt (path_cmp other.path p)) (front ++ last ∷ []) ≡ is_lt (path_cmp last.path p)
is_last [] last p order = by (is_lt (path_cmp last.path p))
  where
    by : (b : Bool) → (b && true) ≡ b
    by true = refl
    by false = refl
is_last (x ∷ front) last p order =
    rw (is_last front last p order.1) (low_first x last p (below front order.0) (is_lt (path_cmp last.path p)) refl)
  where
    below : (rows : Volume) → AllByRecursion (λ (next : Row). path_cmp x.path next.path ≡ Less) (rows ++ last ∷ []) → path_cmp x.path last.path ≡ Less
    below [] all = all.0
    below (y ∷ rows) all = below rows all.1

-- the last row tells whether a path is above those of all rows
pub last_tells : (rows : Volume) (last : Row) (p : FilePath) → AreInOrder rows → 0 < length rows → last ≡ get_or rows (length rows - 1) last → is_lt (path_cmp last.path p) ≡ list_all (λ other. is_lt (path_cmp other.path p)) rows
last_tells rows last p order some is =
    let k : length rows - 1 < length rows = omega (arith, some) in
    let all : length rows - 1 + 1 ≡ length rows = omega (arith, some) in
    let whole : rows ≡ take (length rows - 1) rows ++ last ∷ [] =
    sym (take_all (length rows) rows (omega arith)) ∙ ap (λ (n : ℕ). take n rows) (sym all) ∙ take_more rows (length rows - 1) last k
    ∙ ap (λ (r : Row). take (length rows - 1) rows ++ r ∷ []) (sym is) in
    let order' : AreInOrder (take (length rows - 1) rows ++ last ∷ []) = subst AreInOrder whole order in
    sym (ap (list_all (λ other. is_lt (path_cmp other.path p))) whole ∙ is_last (take (length rows - 1) rows) last p order')
