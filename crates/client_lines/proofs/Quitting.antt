-- Lines up to the first that quits.
use Rattle.std.proofs.Common.{◌≡◌, ℕ, Bool, true, false, ◌||◌, List, [], ◌∷◌, ◌++◌, refl, sym, ◌∙◌, ap, append_assoc, true≢false, if◌then◌else◌}
use Rattle.std.proofs.lemmas.List.{append-nil}
use Rattle.std.proofs.lemmas.List.Folds.{list_any-append}
use Rattle.client_lines.specs.declared.input.InputEnd.{InputEnd}
use Rattle.client_lines.specs.declared.input.InputEnd.TheVariants.{Read, Failed, TooLong}
use Rattle.client_lines.specs.Input.{last_at}
use Rattle.client_lines.specs.Run.{quits, has_quit, up_to_quit, ended_input}

neither : (a b : Bool) → (a || b) ≡ false → (a ≡ false) × (b ≡ false)
neither true b none = absurd (true≢false none)
neither false b none = (refl, none)

pub quit_behind : (ls ms : List (List ℕ)) → has_quit ls ≡ false → has_quit (ls ++ ms) ≡ has_quit ms
quit_behind ls ms none = list_any-append quits ls ms ∙ ap (λ (b : Bool). b || has_quit ms) none

pub quit_in_front : (ls ms : List (List ℕ)) → has_quit ls ≡ true → has_quit (ls ++ ms) ≡ true
quit_in_front ls ms some = list_any-append quits ls ms ∙ ap (λ (b : Bool). b || has_quit ms) some

pub no_quit_then : (ls ms : List (List ℕ)) → has_quit ls ≡ false → has_quit ms ≡ false → has_quit (ls ++ ms) ≡ false
no_quit_then ls ms none no_more = quit_behind ls ms none ∙ no_more

pub one_line : (line : List ℕ) (b : Bool) → quits line ≡ b → has_quit (line ∷ []) ≡ b
one_line line true is = ap (λ (b : Bool). b || false) is
one_line line false is = ap (λ (b : Bool). b || false) is

-- behind lines that do not quit
pub behind_no_quit : (ls ms : List (List ℕ)) → has_quit ls ≡ false → up_to_quit (ls ++ ms) ≡ ls ++ up_to_quit ms
behind_no_quit [] ms none = refl
behind_no_quit (l ∷ ls) ms none =
    let both = neither (quits l) (has_quit ls) none in
    ap (λ (b : Bool). l ∷ (if b then [] else up_to_quit (ls ++ ms))) both.0 ∙ ap (λ (rest : List (List ℕ)). l ∷ rest) (behind_no_quit ls ms both.1)

-- a line behind lines that do not quit
pub up_to_line : (ls : List (List ℕ)) (l : List ℕ) (ms : List (List ℕ)) → has_quit ls ≡ false → up_to_quit (ls ++ l ∷ ms) ≡ (ls ++ l ∷ []) ++ (if quits l then [] else up_to_quit ms)
up_to_line ls l ms none = behind_no_quit ls (l ∷ ms) none ∙ sym (append_assoc ls (l ∷ []) (if quits l then [] else up_to_quit ms))

-- it quits
pub quit_at : (ls : List (List ℕ)) (l : List ℕ) (ms : List (List ℕ)) → has_quit ls ≡ false → quits l ≡ true → up_to_quit (ls ++ l ∷ ms) ≡ ls ++ l ∷ []
quit_at ls l ms none quit = behind_no_quit ls (l ∷ ms) none ∙ ap (λ (b : Bool). ls ++ l ∷ (if b then [] else up_to_quit ms)) quit

-- no line quits
pub all_lines : (ls : List (List ℕ)) → has_quit ls ≡ false → up_to_quit ls ≡ ls
all_lines ls none = ap up_to_quit (sym (append-nil ls)) ∙ behind_no_quit ls [] none ∙ append-nil ls

quit_cuts : (l : List ℕ) (rest : List (List ℕ)) → quits l ≡ true → up_to_quit (l ∷ rest) ≡ l ∷ []
quit_cuts l rest is = ap (λ (b : Bool). l ∷ (if b then [] else up_to_quit rest)) is

no_quit_goes_on : (l : List ℕ) (rest : List (List ℕ)) → quits l ≡ false → up_to_quit (l ∷ rest) ≡ l ∷ up_to_quit rest
no_quit_goes_on l rest is = ap (λ (b : Bool). l ∷ (if b then [] else up_to_quit rest)) is

ends_by_case : (l : List ℕ) (ls ms : List (List ℕ)) (b : Bool) → quits l ≡ b → (quits l || has_quit ls) ≡ true → (has_quit ls ≡ true → up_to_quit (ls ++ ms) ≡ up_to_quit ls) → up_to_quit (l ∷ ls ++ ms) ≡ up_to_quit (l ∷ ls)
ends_by_case l ls ms true is some rest = quit_cuts l (ls ++ ms) is ∙ sym (quit_cuts l ls is)
ends_by_case l ls ms false is some rest =
    no_quit_goes_on l (ls ++ ms) is ∙ ap (λ (more : List (List ℕ)). l ∷ more) (rest (sym (ap (λ (b : Bool). b || has_quit ls) is) ∙ some)) ∙ sym (no_quit_goes_on l ls is)

-- a line quits, and what is behind does not count
pub ends_in_front : (ls ms : List (List ℕ)) → has_quit ls ≡ true → up_to_quit (ls ++ ms) ≡ up_to_quit ls
ends_in_front [] ms some = absurd (true≢false (sym some))
ends_in_front (l ∷ ls) ms some = ends_by_case l ls ms (quits l) refl some (ends_in_front ls ms)

-- more lines add lines only
pub front_of : (ls ms : List (List ℕ)) → (more : List (List ℕ)) × (up_to_quit (ls ++ ms) ≡ up_to_quit ls ++ more)
front_of ls ms = by (has_quit ls) refl
  where
    by : (b : Bool) → has_quit ls ≡ b → (more : List (List ℕ)) × (up_to_quit (ls ++ ms) ≡ up_to_quit ls ++ more)
    by true some = ([], ends_in_front ls ms some ∙ sym (append-nil (up_to_quit ls)))
    by false none = (up_to_quit ms, behind_no_quit ls ms none ∙ ap (λ (front : List (List ℕ)). front ++ up_to_quit ms) (sym (all_lines ls none)))

-- ---- the end of an input

single : (l : List ℕ) (b : Bool) → l ∷ (if b then [] else []) ≡ l ∷ []
single l true = refl
single l false = refl

-- the last line, where there is one, is the only one
pub last_up_to : (end : InputEnd) (bytes : List ℕ) → up_to_quit (last_at end bytes) ≡ last_at end bytes
last_up_to Read [] = refl
last_up_to Read (b ∷ bs) = single (b ∷ bs) (quits (b ∷ bs))
last_up_to Failed bytes = refl
last_up_to TooLong bytes = refl

read_stays : (b : Bool) → Read ≡ ended_input b Read
read_stays true = refl
read_stays false = refl

-- and whether it quits makes no other end
pub end_stays : (end : InputEnd) (bytes : List ℕ) → end ≡ ended_input (has_quit (last_at end bytes)) end
end_stays Read bytes = read_stays (has_quit (last_at Read bytes))
end_stays Failed bytes = refl
end_stays TooLong bytes = refl
