-- Of which images a keeper holds the locks.
use Rattle.std.specs.Prelude.{◌≡◌, ℕ, ◌<◌, List, length, slice_get, IfSome}
use Rattle.real_edge.specs.declared.lock.HeldLock.{HeldLock}

-- at this place among the locks that are held stands that of the image with this name
abbrev pub HoldsAt : ℕ → List HeldLock → List ℕ → Type 0
HoldsAt place held name = (place < length held) × IfSome (slice_get held place) (λ lock. lock.name.items ≡ name)

-- one of them is that of the image with this name
abbrev pub Holds : List HeldLock → List ℕ → Type 0
Holds held name = (place : ℕ) × HoldsAt place held name

-- each image whose lock was held has it held still
abbrev pub StayHeld : List HeldLock → List HeldLock → Type 0
StayHeld old new = (name : List ℕ) → Holds old name → Holds new name
