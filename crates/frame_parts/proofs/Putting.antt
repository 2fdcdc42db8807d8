-- A part that begins behind what is there.
use Rattle.std.proofs.Common.{◌≡◌, ℕ, List, ◌++◌, length, take, Result, Ok, Err, IfOk, inr, sym, ap, ◌∙◌, subst, take_at}
use Rattle.frame_parts.specs.declared.part.Part.{Part}
use Rattle.frame_parts.specs.declared.front.Front.{Front}
use Rattle.frame_parts.specs.declared.front.Put.{Put}
use Rattle.frame_parts.specs.Fronts.{without, there, Settles, Puts}

pub puts_from : {E : Type 0} (most : ℕ) (part : Part) (piece : List ℕ) (now : ℕ) (old new others : List Front) (count seen : ℕ) (joined : List ℕ) (r : Result Put E)
    → part.at ≡ length (there part old) → count ≡ length (there part old) → joined ≡ there part old ++ piece → seen ≡ now → others ≡ without part.client old
    → IfOk r (λ put. Settles most part (take count joined) joined seen others put new) → IfOk r (λ put. Puts most part piece now old put new)
puts_from most part piece now old new others count seen joined (Err e) at is joins stands rest settles = settles
puts_from most part piece now old new others count seen joined (Ok put) at is joins stands rest settles =
    let before : take count joined ≡ there part old = ap (take count) joins ∙ take_at (there part old) piece count (sym is) in
    inr (
      at,
      subst (λ (l : List Front). Settles most part (there part old) (there part old ++ piece) now l put new) rest
          (subst (λ (n : ℕ). Settles most part (there part old) (there part old ++ piece) n others put new) stands
          (subst (λ (l : List ℕ). Settles most part (there part old) l seen others put new) joins
          (subst (λ (l : List ℕ). Settles most part l joined seen others put new) before settles))),
    )
