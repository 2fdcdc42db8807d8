-- Each step of the world keeps what a client's log and the world agree on: messages that join, a volume that grows, and an entry of
-- the client's own store.
use Rattle.std.proofs.Common.{◌≡◌, ⊎_elim, ℕ, ◌+◌, ◌-◌, ◌<◌, ◌≤◌, Bool, true, false, true≢false, List, [], ◌∷◌, ◌++◌, Result, Ok, Err, refl, sym, ◌∙◌, ap, subst, arith}
use Rattle.std.specs.Prelude.{Option, Some, None, nat_lt, nat_le, if◌then◌else◌}
use Rattle.std.specs.List.{AllByRecursion}
use Rattle.file_paths.specs.Path.{FilePath}
use Rattle.tree_values.specs.Effects.{changed_all, apply_all, base_of, Conflict, first_conflict}
use Rattle.tree_values.specs.Tree.{Volume, version_at, IsTree, IsLegalEffect}
use Rattle.vol_tree.specs.Behind.{IsBehind, IsAhead}
use Rattle.tree_values.specs.Lists.{IsIn}
use Rattle.tree_values.specs.declared.node.Effect.{Effect}
use Rattle.tree_values.specs.declared.node.Base.{Base}
use Rattle.tree_values.specs.declared.node.TreeError.{TreeError}
use Rattle.vol_tree.proofs.Behind.{IsBehind-trans, IsBehind-changes, IsBehind-after, AgreeAt-touched, ahead_at_conflict, ahead_where_refused, applied-changes, applied_all-tree, lt-changes, same-changes}
use Rattle.mod_log.specs.declared.log.Entry.{Entry}
use Rattle.mod_log.specs.Log.{Log, tree_at, IsLog}
use Rattle.wire_frames.specs.declared.message.Message.{Message}
use Rattle.wire_frames.specs.declared.message.Message.TheVariants.{Store, Operate, Pull, Accepted, Stale, Unfit, Gap, Snapshot, Done, Declined, Full, Malformed}
use Rattle.wire_frames.specs.Frame.{client_of}
use Rattle.world_rules.specs.Served.{TakenEntry, entry_stored, StoreVerdict, Taken, judged, passes, is_want_of_room, reply, taken_if}
use Rattle.world_rules.specs.InStep.{ahead, IsTakenUpTo, IsPendingAt, IsRefusedAfter, IsFitting}
use Rattle.world_rules.proofs.Asks.{IsIn-push}
use Rattle.world_rules.proofs.Next.{IsNext, tree_at-next, next_within, next_fits, next_pending, above_later, TakesInOrder}
use Rattle.byte_fields.proofs.Facts.{lt_of, le_of, not_le_of}
use Rattle.mod_log.proofs.Entries.{legal_each, holds_trees}

-- what a log, the number last taken of its client, the served volume and the packets agree on
pub record Agree (client : ℕ) (log : Log) (last : ℕ) (volume : Volume) (packets : List Message) : Type 0 where
  pub not_lower : log.acked ≤ last
  pub not_higher : IsTakenUpTo log last
  pub behind : IsBehind (tree_at last log) volume
  pub fitting : (message : Message) → IsIn message packets → client_of message ≡ client → IsFitting log last volume message
  pub log_is : IsLog log
  pub tree : IsTree volume

-- ---- a message that joins, and a volume that grows

module _ (client : ℕ) (log : Log) where
  pub joined : (last : ℕ) (volume : Volume) (packets : List Message) (message : Message) → Agree client log last volume packets
      → (client_of message ≡ client → IsFitting log last volume message) → Agree client log last volume (packets ++ message ∷ [])
  joined last volume packets message now fits = record {
    not_lower = now.not_lower;
    not_higher = now.not_higher;
    behind = now.behind;
    fitting = λ other among own. ⊎_elim
        (λ old. now.fitting other old own)
        (λ same. subst (λ m. client_of m ≡ client → IsFitting log last volume m) (sym same) fits own)
        (IsIn-push other message packets among);
    log_is = now.log_is;
    tree = now.tree;
  }

  grown_ahead : (last : ℕ) (volume newer : Volume) → IsBehind volume newer → IsAhead volume (tree_at last log) → IsAhead newer (tree_at last log)
  grown_ahead last volume newer grows ahead = (ahead.0, omega (arith, ahead.1, grows.versions ahead.0))

  IsFitting-grown : (last : ℕ) (volume newer : Volume) → IsBehind volume newer → (message : Message) → IsFitting log last volume message → IsFitting log last newer message
  IsFitting-grown last volume newer grows (Store of number parts) fits = fits
  IsFitting-grown last volume newer grows (Pull of number) fits = fits
  IsFitting-grown last volume newer grows (Accepted of number upto) fits = fits
  IsFitting-grown last volume newer grows (Stale of number upto path theirs ours) fits = (fits.0, λ e. omega (arith, fits.1 e, grows.versions path))
  IsFitting-grown last volume newer grows (Unfit of number upto index cause) fits = (fits.0, λ e. grown_ahead last volume newer grows (fits.1 e))
  IsFitting-grown last volume newer grows (Full of number upto index cause) fits = (fits.0, λ e. grown_ahead last volume newer grows (fits.1 e))
  IsFitting-grown last volume newer grows (Gap of number beyond) fits = fits
  IsFitting-grown last volume newer grows (Snapshot of number upto seen) fits = (fits.0, fits.1, IsBehind-trans _ _ _ fits.2 grows, fits.3)
  IsFitting-grown last volume newer grows (Operate of sketched) fits = fits
  IsFitting-grown last volume newer grows (Done of number) fits = fits
  IsFitting-grown last volume newer grows (Declined of number cause) fits = tt
  IsFitting-grown last volume newer grows (Malformed code offset) fits = tt

  pub grown : (last : ℕ) (volume newer : Volume) (packets : List Message) → IsBehind volume newer → IsTree newer → Agree client log last volume packets → Agree client log last newer packets
  grown last volume newer packets grows rows now = record {
    not_lower = now.not_lower;
    not_higher = now.not_higher;
    behind = IsBehind-trans _ _ _ now.behind grows;
    fitting = λ message among own. IsFitting-grown last volume newer grows message (now.fitting message among own);
    log_is = now.log_is;
    tree = rows;
  }

-- ---- an entry of the client is taken: it is the next pending one

module _ (client : ℕ) (log : Log) (last : ℕ) (entry : Entry) (low : log.acked ≤ last) (next : IsNext log last entry) where
  taken_ahead : (volume : Volume) (path : FilePath) → version_at (tree_at last log) path < version_at volume path → version_at (tree_at (last + 1) log) path < version_at (changed_all entry.effects volume) path
  taken_ahead volume path lt =
      subst (λ t. version_at t path < version_at (changed_all entry.effects volume) path) (sym (tree_at-next log last entry low next))
      (lt-changes entry.effects (tree_at last log) volume path lt)

  still_refused : (upto : ℕ) → IsRefusedAfter log last upto → IsRefusedAfter log (last + 1) upto
  still_refused upto is = record { at_most_taken = omega (arith, is.at_most_taken); one_is_left = is.one_is_left }

  IsFitting-taken : (volume : Volume) → (message : Message) → IsFitting log last volume message → IsFitting log (last + 1) (changed_all entry.effects volume) message
  IsFitting-taken volume (Store of number parts) fits = (fits.0, above_later log last (last + 1) number parts (omega arith) fits.1)
  IsFitting-taken volume (Pull of number) fits = omega (arith, fits)
  IsFitting-taken volume (Accepted of number upto) fits = omega (arith, fits)
  IsFitting-taken volume (Stale of number upto path theirs ours) fits = (still_refused upto fits.0, λ e. taken_ahead volume path (fits.1 e))
  IsFitting-taken volume (Unfit of number upto index cause) fits = (still_refused upto fits.0, λ e. let ahead = fits.1 e in (ahead.0, taken_ahead volume ahead.0 ahead.1))
  IsFitting-taken volume (Full of number upto index cause) fits = (still_refused upto fits.0, λ e. let ahead = fits.1 e in (ahead.0, taken_ahead volume ahead.0 ahead.1))
  IsFitting-taken volume (Gap of number beyond) fits = fits
  IsFitting-taken volume (Snapshot of number upto seen) fits = (fits.0, omega (arith, fits.1), IsBehind-trans _ _ _ fits.2 (IsBehind-after entry.effects volume), fits.3)
  IsFitting-taken volume (Operate of sketched) fits = (fits.0, λ above. fits.1 (omega (arith, above)))
  IsFitting-taken volume (Done of number) fits = omega (arith, fits)
  IsFitting-taken volume (Declined of number cause) fits = tt
  IsFitting-taken volume (Malformed code offset) fits = tt

  pub taken_next : (volume : Volume) (packets : List Message) → last + 1 ≤ log.acked + ahead → IsTree (changed_all entry.effects volume) → first_conflict entry.base volume ≡ None
      → Agree client log last volume packets → Agree client log (last + 1) (changed_all entry.effects volume) packets
  taken_next volume packets near tree_after agrees now = record {
    not_lower = omega (arith, low);
    not_higher = record { at_most_ahead = near; at_most_logged = next_within log last entry low next };
    behind = subst (λ t. IsBehind t (changed_all entry.effects volume)) (sym (tree_at-next log last entry low next))
        (IsBehind-changes entry.effects (tree_at last log) volume now.behind
        (AgreeAt-touched (tree_at last log) volume entry.effects (ap (λ b. first_conflict b volume) (sym (next_fits log last entry now.log_is next).based) ∙ agrees)));
    fitting = λ message among own. IsFitting-taken volume message (now.fitting message among own);
    log_is = now.log_is;
    tree = tree_after;
  }

-- ---- the verdict on an entry of the client's store

abbrev pub last_after : ℕ → ℕ → StoreVerdict → ℕ
last_after number last (Taken volume) = number
last_after number last _ = last

abbrev pub volume_after : Volume → StoreVerdict → Volume
volume_after volume (Taken after) = after
volume_after volume _ = volume

-- What is agreed on holds after the verdict, and a reply that tells it fits.
pub record Judged (client : ℕ) (log : Log) (last : ℕ) (volume : Volume) (packets : List Message) (number : ℕ) (stored : TakenEntry) (judgement : StoreVerdict) : Type 0 where
  pub state : Agree client log (last_after number last judgement) (volume_after volume judgement) packets
  pub taken : TakesInOrder client log last (last_after number last judgement) (taken_if judgement stored)
  -- where the next entry is looked at, too, this one is taken
  pub up : passes judgement ≡ true → number ≤ last_after number last judgement
  -- where it is not, this is answered, whatever the store's own number and end
  pub fits : passes judgement ≡ false → (of end : ℕ) → IsFitting log last volume (reply client of end last judgement)
  -- a path with the same version in the client's tree and in the volume keeps it
  pub same : (path : FilePath) → version_at (tree_at last log) path ≡ version_at volume path → version_at (tree_at (last_after number last judgement) log) path ≡ version_at (volume_after volume judgement) path

module _ (client : ℕ) (log : Log) (last : ℕ) (volume : Volume) (packets : List Message) (number : ℕ) (effects : List Effect) (base : List Base) where
  refusal_fits : (of index : ℕ) (cause : TreeError) (full : Bool) → IsRefusedAfter log last last → IsAhead volume (tree_at last log)
      → IsFitting log last volume (if full then Full client of last index cause else Unfit client of last index cause)
  refusal_fits of index cause true left ahead = (left, λ e. ahead)
  refusal_fits of index cause false left ahead = (left, λ e. ahead)

  pub own_entry : (repeated beyond : Bool) (conflict : Option Conflict) (applied : Result Volume (ℕ × TreeError))
      → nat_le number last ≡ repeated → nat_lt (last + 1) number ≡ beyond → first_conflict base volume ≡ conflict → apply_all 0 effects volume ≡ applied
      → number ≤ last + 1 → number ≤ log.acked + ahead → (last < number → IsPendingAt log number effects base)
      → Agree client log last volume packets
      → Judged client log last volume packets number (entry_stored client number effects base) (judged repeated beyond conflict applied)
  own_entry true beyond conflict applied a b c d most near pending now =
      record { state = now; taken = refl; up = λ e. le_of number last a; fits = λ e. absurd (true≢false e); same = λ path e. e }
  own_entry false true conflict applied a b c d most near pending now = absurd (omega (arith, lt_of (last + 1) number b, most))
  own_entry false false (Some conflict) applied a b c d most near pending now =
      let above = not_le_of number last a in
      let next_is : number ≡ last + 1 = omega (arith, above, most) in
      let is = next_pending log last number effects base now.log_is now.not_lower next_is (pending above) in
      let entry = is.0 in
      let fits = next_fits log last entry now.log_is is.1 in
      let found : first_conflict (base_of entry.effects (tree_at last log)) volume ≡ Some conflict = ap (λ k. first_conflict k volume) (sym (is.3 ∙ fits.based)) ∙ c in
      let lt = ahead_at_conflict (tree_at last log) volume entry.effects conflict now.behind found in
      let left : IsRefusedAfter log last last = record { at_most_taken = omega arith; one_is_left = omega (arith, next_within log last entry now.not_lower is.1) } in
      record {
        state = now;
        taken = refl;
        up = λ e. absurd (true≢false (sym e));
        fits = λ e of end. (left, λ e. lt);
        same = λ path e. e;
      }
  own_entry false false None (Err cause) a b c d most near pending now =
      let above = not_le_of number last a in
      let next_is : number ≡ last + 1 = omega (arith, above, most) in
      let is = next_pending log last number effects base now.log_is now.not_lower next_is (pending above) in
      let entry = is.0 in
      let fits = next_fits log last entry now.log_is is.1 in
      let refused : apply_all 0 entry.effects volume ≡ Err cause = ap (λ k. apply_all 0 k volume) (sym is.2) ∙ d in
      let ahead = ahead_where_refused (tree_at last log) volume entry.effects _ cause now.behind (holds_trees log (last - log.acked) now.log_is) now.tree fits.applies refused in
      let left : IsRefusedAfter log last last = record { at_most_taken = omega arith; one_is_left = omega (arith, next_within log last entry now.not_lower is.1) } in
      record {
        state = now;
        taken = refl;
        up = λ e. absurd (true≢false (sym e));
        fits = λ e of end. refusal_fits of cause.0 cause.1 (is_want_of_room cause.1) left ahead;
        same = λ path e. e;
      }
  own_entry false false None (Ok after) a b c d most near pending now =
      let above = not_le_of number last a in
      let next_is : number ≡ last + 1 = omega (arith, above, most) in
      let is = next_pending log last number effects base now.log_is now.not_lower next_is (pending above) in
      let entry = is.0 in
      let fits = next_fits log last entry now.log_is is.1 in
      let agrees : first_conflict entry.base volume ≡ None = ap (λ k. first_conflict k volume) (sym is.3) ∙ c in
      let is_after : changed_all entry.effects volume ≡ after = ap (λ k. changed_all k volume) (sym is.2) ∙ sym (applied-changes effects 0 volume after d) in
      let legal = subst (AllByRecursion IsLegalEffect) (sym is.2) (legal_each entry.effects fits.fits.each) in
      let tree_after = subst IsTree (sym is_after) (applied_all-tree effects 0 volume after now.tree legal d) in
      let taken = taken_next client log last entry now.not_lower is.1 volume packets (omega (arith, near, next_is)) tree_after agrees now in
      let at_after = subst (λ v. Agree client log (last + 1) v packets) is_after taken in
      record {
        state = subst (λ n. Agree client log n after packets) (sym next_is) at_after;
        taken = (entry, is.1, λ i. entry_stored client (next_is i) (is.2 i) (is.3 i), next_is);
        up = λ e. omega arith;
        fits = λ e. absurd (true≢false e);
        same = λ path e.
            ap (λ n. version_at (tree_at n log) path) next_is
            ∙ ap (λ t. version_at t path) (tree_at-next log last entry now.not_lower is.1)
            ∙ same-changes entry.effects (tree_at last log) volume path e
            ∙ ap (λ v. version_at v path) is_after;
      }
