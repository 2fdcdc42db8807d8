-- What is kept while frames are served.
use Rattle.std.proofs.Common.{◌≡◌, ◌⊎◌, inl, inr, ℕ, Bool, true, false, ◌||◌, List, [], ◌∷◌, ◌++◌, Option, None, Some, refl, sym, ◌∙◌, ap, subst, true≢false}
use Rattle.outside.specs.Outside.{Told}
use Rattle.world_rules.specs.Served.{Served}
use Rattle.server_core.specs.Framing.{frame_after, frames_after, takes, change}
use Rattle.server_core.specs.Keeping.{IsKeptForServed}
use Rattle.server_core.proofs.Noting.{taken_frames_change}
use Rattle.server_prog.specs.Serving.{KeptAs, IsKeptAfter, PerhapsKept}

-- what is kept under a name, told or not
abbrev pub Kept : Type 0
Kept = Option (Option (List ℕ))

-- nothing was kept
pub kept_same : (k : Kept) (s : Served) → Told k k (KeptAs false s)
kept_same None s = refl
kept_same (Some x) s = refl

-- one after the other
pub told_then : (a b c : Kept) (P Q R : Option (List ℕ) → Option (List ℕ) → Type 0) → ((x y z : Option (List ℕ)) → P x y → Q y z → R x z) → Told a b P → Told b c Q → Told a c R
told_then None None c P Q R joins first second = second
told_then None (Some y) c P Q R joins first second = absurd (cc first)
told_then (Some x) None c P Q R joins first second = absurd first
told_then (Some x) (Some y) None P Q R joins first second = absurd second
told_then (Some x) (Some y) (Some z) P Q R joins first second = joins x y z first second

pub told_with : (a b : Kept) (P Q : Option (List ℕ) → Option (List ℕ) → Type 0) → ((x y : Option (List ℕ)) → P x y → Q x y) → Told a b P → Told a b Q
told_with None b P Q with_it told = told
told_with (Some x) None P Q with_it told = absurd told
told_with (Some x) (Some y) P Q with_it told = with_it x y told

-- ---- whether frames change the state

pub frames_after-append : (xs ys : List (List ℕ)) (s : Served) → frames_after (xs ++ ys) s ≡ frames_after ys (frames_after xs s)
frames_after-append [] ys s = refl
frames_after-append (x ∷ xs) ys s = frames_after-append xs ys (frame_after x s)

either : (a b : Bool) → (a || b) ≡ false → (a ≡ false) × (b ≡ false)
either true b e = absurd (true≢false e)
either false b e = (refl, e)

pub or_false : (a : Bool) → (a || false) ≡ a
or_false true = refl
or_false false = refl

or_assoc : (a b c : Bool) → (a || (b || c)) ≡ ((a || b) || c)
or_assoc true b c = refl
or_assoc false b c = refl

pub change-append : (xs ys : List (List ℕ)) (s : Served) → change (xs ++ ys) s ≡ (change xs s || change ys (frames_after xs s))
change-append [] ys s = refl
change-append (x ∷ xs) ys s = ap (λ b. takes x s || b) (change-append xs ys (frame_after x s)) ∙ or_assoc (takes x s) (change xs (frame_after x s)) (change ys (frames_after xs (frame_after x s)))

pub unchanged : (frames : List (List ℕ)) (s : Served) → change frames s ≡ false → frames_after frames s ≡ s
unchanged [] s none = refl
unchanged (f ∷ frames) s none =
    let both = either (takes f s) (change frames (frame_after f s)) none in
    let here = (taken_frames_change f s).1 both.0 in
    unchanged frames (frame_after f s) both.1 ∙ here

-- ---- what is kept of frames in a row

pub kept_both : (p q : Bool) (t u : Served) → (q ≡ false → u ≡ t) → (x y z : Option (List ℕ)) → KeptAs p t x y → KeptAs q u y z → KeptAs (p || q) u x z
kept_both false q t u same x y z first second = subst (λ (k : Option (List ℕ)). KeptAs q u k z) first second
kept_both true true t u same x y z first second = second
kept_both true false t u same x y z first second =
    record { bytes = first.bytes; here = second ∙ first.here; kept = subst (λ (s : Served). IsKeptForServed s first.bytes) (sym (same refl)) first.kept; small = first.small }

-- no more than before was kept
pub kept_again : (p q : Bool) (t : Served) → q ≡ p → (x y z : Option (List ℕ)) → KeptAs p t x y → KeptAs q t y z → KeptAs p t x z
kept_again false false t is x y z first second = second ∙ first
kept_again false true t is x y z first second = absurd (true≢false is)
kept_again true false t is x y z first second = absurd (true≢false (sym is))
kept_again true true t is x y z first second = second

pub kept_more : (xs ys : List (List ℕ)) (s t u : Served) (a b c : Kept) → t ≡ frames_after xs s → u ≡ frames_after ys t → Told a b (KeptAs (change xs s) t) → Told b c (KeptAs (change ys t) u) → Told a c (KeptAs (change (xs ++ ys) s) u)
kept_more xs ys s t u a b c is is' first second =
    let both : change (xs ++ ys) s ≡ (change xs s || change ys t) = change-append xs ys s ∙ ap (λ v. change xs s || change ys v) (sym is) in
    subst (λ (p : Bool). Told a c (KeptAs p u)) (sym both)
    (told_then a b c (KeptAs (change xs s) t) (KeptAs (change ys t) u) (KeptAs (change xs s || change ys t) u) (kept_both (change xs s) (change ys t) t u (λ none. is' ∙ unchanged ys t none)) first second)

-- what is kept where the frames at hand may be missing
pub perhaps_more : (fs hs : List (List ℕ)) (saved : Bool) (s t : Served) → t ≡ frames_after fs s → saved ≡ change fs s → (x y z : Option (List ℕ)) → KeptAs (change fs s) t x y → KeptAs saved t y z ⊎ IsKeptAfter hs t y z → PerhapsKept fs hs s x z
perhaps_more fs hs saved s t is same x y z first (inl second) = inl (subst (λ (u : Served). KeptAs (change fs s) u x z) is (kept_again (change fs s) saved t same x y z first second))
perhaps_more fs hs saved s t is same x y z first (inr second) =
    let both = kept_both (change fs s) (change hs t) t (frames_after hs t) (unchanged hs t) x y z first second in
    let changes : change (fs ++ hs) s ≡ (change fs s || change hs t) = change-append fs hs s ∙ ap (λ u. change fs s || change hs u) (sym is) in
    let state : frames_after hs t ≡ frames_after (fs ++ hs) s = ap (frames_after hs) is ∙ sym (frames_after-append fs hs s) in
    inr (subst (λ (b : Bool). KeptAs b (frames_after (fs ++ hs) s) x z) (sym changes) (subst (λ (u : Served). KeptAs (change fs s || change hs t) u x z) state both))

-- ---- one frame

-- where its keeping was refused
pub perhaps_one : (changed saved : Bool) (frame : List ℕ) (s t : Served) (a b : Kept) → changed ≡ takes frame s → t ≡ frame_after frame s → Told a b (λ o n. KeptAs saved s o n ⊎ KeptAs changed t o n)
    → Told a b (λ o n. KeptAs saved s o n ⊎ IsKeptAfter (frame ∷ []) s o n)
perhaps_one changed saved frame s t a b is after kept =
    subst (λ (p : Bool). Told a b (λ o n. KeptAs saved s o n ⊎ KeptAs p (frame_after frame s) o n)) (is ∙ sym (or_false (takes frame s)))
    (subst (λ (v : Served). Told a b (λ o n. KeptAs saved s o n ⊎ KeptAs changed v o n)) after kept)
