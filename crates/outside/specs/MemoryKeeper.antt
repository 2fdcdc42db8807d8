-- The keeper in memory, as contracts see it.
use Rattle.std.specs.Prelude.{◌≡◌, ℕ, Bool, true, false, ◌==◌, List, find, take, Option, option_map, is_some, unwrap_or, Result, Ok, Err}
use Rattle.std.specs.Prelude.{if◌then◌else◌}
use Rattle.std.specs.Str.{bytes_eq}
use Rattle.outside.specs.declared.errors.KeepError.{KeepError}
use Rattle.outside.specs.declared.errors.KeepError.TheVariants.{Failed, Memory}
use Rattle.outside.specs.declared.calls.Calls.{Calls}
use Rattle.outside.specs.declared.memory_keeper.KeepFail.{KeepFail}
use Rattle.outside.specs.declared.memory_keeper.NamedImage.{NamedImage}
use Rattle.outside.specs.Keeper.{Images, IsPut, followed_by}

pub record KeeperInMemory : Type 0 where
  -- what is kept, each image beside its name
  pub slots : List NamedImage
  -- which of its calls fail, counted from 0, and what they leave
  pub fails : List KeepFail
  -- the calls made of it, and its faults
  pub calls : Calls

-- the slot of this name
abbrev pub has_name : List ℕ → NamedImage → Bool
has_name name slot = bytes_eq slot.name.items name

-- what the slots keep under each name
abbrev pub images_of : List NamedImage → Images
images_of slots name = option_map (λ slot. slot.image.items) (find (has_name name) slots)

-- how a call fails, where it is a named one
abbrev pub fail_of : List KeepFail → ℕ → Option KeepFail
fail_of fails call = find (λ fail. fail.call == call) fails

-- whether the next call fails
abbrev pub keeping_fails_now : KeeperInMemory → Bool
keeping_fails_now keeper = is_some (fail_of keeper.fails keeper.calls.made)

-- whether the next call leaves the new image where it fails
abbrev pub leaves_new : KeeperInMemory → Bool
leaves_new keeper = unwrap_or (option_map (λ fail. fail.leaves_new) (fail_of keeper.fails keeper.calls.made)) false

-- whether the call answered that it failed
abbrev pub has_failed : {T : Type 0} → Result T KeepError → Bool
has_failed (Err Failed) = true
has_failed _ = false

-- what a failed save leaves: the new image, or all as before
abbrev pub LeavesImage : Bool → List ℕ → List ℕ → List NamedImage → List NamedImage → Type 0
LeavesImage true name image old new = IsPut name image (images_of old) (images_of new)
LeavesImage false name image old new = new ≡ old

-- what a save leaves
abbrev pub SavesAs : {T : Type 0} → List ℕ → List ℕ → Result T KeepError → KeeperInMemory → List NamedImage → Type 0
SavesAs name image (Ok done) old new = IsPut name image (images_of old.slots) (images_of new)
SavesAs name image (Err Failed) old new = LeavesImage (leaves_new old) name image old.slots new
SavesAs name image (Err Memory) old new = new ≡ old.slots

-- what a call that fails so leaves of the piece that it appends: the whole, or a front of so many bytes
abbrev pub left_of : KeepFail → List ℕ → List ℕ
left_of fail piece = if fail.leaves_new then piece else take fail.part piece

-- the same of the next call; the whole piece where it does not fail
abbrev pub left_now : KeeperInMemory → List ℕ → List ℕ
left_now keeper piece = unwrap_or (option_map (λ fail. left_of fail piece) (fail_of keeper.fails keeper.calls.made)) piece

-- what an append leaves
abbrev pub AppendsAs : {T : Type 0} → List ℕ → List ℕ → Result T KeepError → KeeperInMemory → List NamedImage → Type 0
AppendsAs name piece (Ok done) old new = IsPut name (followed_by piece (images_of old.slots name)) (images_of old.slots) (images_of new)
AppendsAs name piece (Err Failed) old new =
    IsPut name (followed_by (left_now old piece) (images_of old.slots name)) (images_of old.slots) (images_of new)
AppendsAs name piece (Err Memory) old new = new ≡ old.slots
