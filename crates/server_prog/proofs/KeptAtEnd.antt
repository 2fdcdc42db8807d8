-- What is kept at the end of a run.
use Rattle.std.proofs.Common.{◌≡◌, ◌≤◌, ◌⊎◌, inl, inr, ℕ, List, [], ◌∷◌, ◌++◌, length, Option, Some, Result, Ok, Err, sym, ◌∙◌, ap, subst, arith}
use Rattle.std.specs.Prelude.{IfSome}
use Rattle.std.proofs.lemmas.List.{append-nil}
use Rattle.outside.specs.Outside.{Told}
use Rattle.outside.specs.Port.{Talk}
use Rattle.port_serving.specs.Serving.{Connection, frames_taken}
use Rattle.port_serving.specs.Laws.{frames_of, HasTalks}
use Rattle.port_serving.proofs.Totals.{all_taken, front_taken, none_taken}
use Rattle.world_rules.specs.Served.{Served}
use Rattle.server_core.specs.Framing.{change}
use Rattle.server_core.specs.Keeping.{KeepsServed}
use Rattle.server_prog.specs.declared.run.Stopped.{Stopped}
use Rattle.server_prog.specs.declared.run.Stopped.TheVariants.{Sink, Keeper, Image, Memory}
use Rattle.server_prog.specs.Serving.{KeptAs, IsKeptAfter, PerhapsKept, IsRecordedAfter, ServerTelling}
use Rattle.server_prog.specs.Run.{server_status_of, Opens, ServerIsServed, IsBrokenOff, ServerRun}
use Rattle.server_prog.specs.Laws.{IsWhole, IsNothingTaken, IsKeptBefore, KeptImagesAreServed, LaterChangesAreRecords}
use Rattle.server_prog.proofs.Connections.{holds}
use Rattle.server_prog.proofs.Kept.{Kept}
use Rattle.server_prog.proofs.Totals.{five, six, seven}

-- what is told of a keeper that tells
told : (P : Option (List ℕ) → Option (List ℕ) → Type 0) (a b : Kept) (o n : Option (List ℕ)) → a ≡ Some o → b ≡ Some n → Told a b P → P o n
told P a b o n is is' kept = subst (λ (k : Kept). Told (Some o) k P) is' (subst (λ (k : Kept). Told k b P) is kept)

module _ (count status : ℕ) (old new : ServerTelling) (written now : Option (List ℕ)) (talks : List Talk) (o n : Option (List ℕ)) (has : HasTalks talks old.port new.port) (old_is : old.kept ≡ Some o) (new_is : new.kept ≡ Some n) where
  abbrev taken : List (List ℕ)
  taken = frames_of talks

  abbrev Ends : Type 0
  Ends = IsNothingTaken status taken o n ⊎ ((first : Served) × KeepsServed o first × (IsKeptAfter taken first o n ⊎ IsKeptBefore status taken first o n))

  opened : (first : Served) → Opens old.kept first → KeepsServed o first
  opened first opens = subst (λ (k : Kept). IfSome k (λ image. KeepsServed image first)) old_is opens

  served : (first : Served) (connections : List Connection) (after : Served) → ServerIsServed count first connections after old new → Ends
  served first connections after is =
      let same = all_taken count connections old.port new.port is.port talks has in
      let kept = told (KeptAs (change (frames_taken connections) first) after) old.kept new.kept o n old_is new_is is.serves.kept in
      let state = holds connections first after is.serves.replies in
      inr (first, opened first is.opens, inl (subst (λ (fs : List (List ℕ)). IsKeptAfter fs first o n) same (subst (λ (s : Served). KeptAs (change (frames_taken connections) first) s o n) state kept)))

  before_serving : (stopped : (status ≡ 5) ⊎ ((status ≡ 6) ⊎ (status ≡ 7))) → new ≡ old → Ends
  before_serving stopped same =
      let none = none_taken old.port new.port (ap (λ (t : ServerTelling). t.port) same) talks has in
      let kept : Some n ≡ Some o = sym new_is ∙ ap (λ (t : ServerTelling). t.kept) same ∙ old_is in
      inl (record { stopped = stopped; nothing = none; same = same_kept n o kept })
    where
      same_kept : (x y : Option (List ℕ)) → Some x ≡ Some y → x ≡ y
      same_kept x y e = cc

  -- with the frame at hand, or without
  finish : (fs hs : List (List ℕ)) (first : Served) → length hs ≤ 1 → fs ++ hs ≡ taken → (status ≡ 5) ⊎ (status ≡ 7) → KeepsServed o first → PerhapsKept fs hs first o n → Ends
  finish fs hs first few all stopped opens (inr kept) = inr (first, opens, inl (subst (λ (l : List (List ℕ)). IsKeptAfter l first o n) all kept))
  finish fs [] first few all stopped opens (inl kept) = inr (first, opens, inl (subst (λ (l : List (List ℕ)). IsKeptAfter l first o n) (sym (append-nil fs) ∙ all) kept))
  finish fs (h ∷ []) first few all stopped opens (inl kept) = inr (first, opens, inr (record { stopped = stopped; before = fs; at_hand = h; all = sym all; kept = kept }))
  finish fs (h ∷ k ∷ more) first few all stopped opens (inl kept) = absurd (omega (arith, few))

  broken_off : (first : Served) (connections : List Connection) (after : Served) → (status ≡ 5) ⊎ (status ≡ 7) → IsBrokenOff count first connections after old new → Ends
  broken_off first connections after stopped is =
      let fs = frames_taken connections in
      let all = front_taken count connections is.frames old.port new.port is.port talks has in
      finish fs is.frames first is.port.at_hand.few all stopped (opened first is.opens) (told (PerhapsKept fs is.frames first) old.kept new.kept o n old_is new_is is.kept)

  at_end : (ended : Result (Unit {0}) Stopped) → status ≡ server_status_of ended → ServerRun count old new written now ended → Ends
  at_end (Ok done) is turn = served turn.0 turn.1 turn.2 turn.3
  at_end (Err Sink) is turn = served turn.0 turn.1 turn.2 turn.4
  at_end (Err Keeper) is (inl before) = before_serving (inl is) before.0
  at_end (Err Keeper) is (inr broken) = broken_off broken.0 broken.1 broken.2 (inl is) broken.3
  at_end (Err Image) is before = before_serving (inr (inl is)) before.0.0
  at_end (Err Memory) is (inl before) = before_serving (inr (inr is)) before.0
  at_end (Err Memory) is (inr (inl line)) = served line.0 line.1 line.2 line.4
  at_end (Err Memory) is (inr (inr broken)) = broken_off broken.0 broken.1 broken.2 (inr is) broken.3

  -- serving came to its end
  abbrev Recorded : Type 0
  Recorded = (first : Served) × KeepsServed o first × IsRecordedAfter taken first o n

  recorded : (first : Served) (connections : List Connection) (after : Served) → ServerIsServed count first connections after old new → Recorded
  recorded first connections after is =
      let same = all_taken count connections old.port new.port is.port talks has in
      let records = told (IsRecordedAfter (frames_taken connections) first) old.kept new.kept o n old_is new_is is.recorded in
      (first, opened first is.opens, subst (λ (fs : List (List ℕ)). IsRecordedAfter fs first o n) same records)

  whole : (ended : Result (Unit {0}) Stopped) → status ≡ server_status_of ended → ServerRun count old new written now ended → IsWhole status → Recorded
  whole (Ok done) is turn ends = recorded turn.0 turn.1 turn.2 turn.3
  whole (Err Sink) is turn ends = recorded turn.0 turn.1 turn.2 turn.4
  whole (Err Keeper) is turn ends = absurd (five status is ends)
  whole (Err Image) is turn ends = absurd (six status is ends)
  whole (Err Memory) is turn ends = absurd (seven status is ends)

pub later_changes_are_records : LaterChangesAreRecords
later_changes_are_records count status old new written now talks o n ran has old_is new_is ends = whole count status old new written now talks o n has old_is new_is ran.0 ran.1 ran.2 ends

pub kept_images_are_served : KeptImagesAreServed
kept_images_are_served count status old new written now talks o n ran has old_is new_is = at_end count status old new written now talks o n has old_is new_is ran.0 ran.1 ran.2
