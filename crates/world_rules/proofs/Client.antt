-- Each move of the client keeps what its log and the world agree on: an entry logged, entries acknowledged, a snapshot pulled.
use Rattle.std.proofs.Common.{◌≡◌, ℕ, ◌+◌, ◌-◌, ◌<◌, ◌≤◌, List, [], ◌∷◌, length, refl, sym, ap, subst, arith, length-append, length-drop}
use Rattle.std.proofs.lemmas.List.{take-append-le}
use Rattle.tree_values.specs.Tree.{Volume, version_at, IsTree}
use Rattle.vol_tree.specs.Behind.{IsBehind, IsAhead}
use Rattle.tree_values.specs.Lists.{IsIn}
use Rattle.tree_values.specs.declared.node.Effect.{Effect}
use Rattle.tree_values.specs.declared.node.Base.{Base}
use Rattle.vol_tree.proofs.Behind.{IsIn-left, counted, node_of, IsTree-empty}
use Rattle.mod_log.specs.declared.log.Entry.{Entry}
use Rattle.mod_log.specs.declared.sketching.SketchEntry.{SketchEntry}
use Rattle.mod_log.specs.Log.{Log, after, tree_at, IsLog, logged, acknowledged, new_log}
use Rattle.wire_frames.specs.declared.message.Message.{Message}
use Rattle.wire_frames.specs.declared.message.Message.TheVariants.{Store, Operate, Pull, Accepted, Stale, Unfit, Gap, Snapshot, Done, Declined, Full, Malformed}
use Rattle.world_rules.specs.InStep.{IsTakenUpTo, IsSendable, IsPendingAt, IsRefusedAfter, IsSketchPending, IsFitting}
use Rattle.world_rules.proofs.Next.{tree_at-acked, tree_at-acknowledged, left_behind, above_as}
use Rattle.world_rules.proofs.Steps.{Agree}
use Rattle.mod_log.proofs.Entries.{acknowledged_is_log}

-- ---- an entry is logged

still_pending : (log : Log) (entry : Entry) (number : ℕ) (effects : List Effect) (base : List Base) → IsPendingAt log number effects base → IsPendingAt (logged entry log) number effects base
still_pending log entry number effects base is = (is.0, IsIn-left is.0 log.pending (entry ∷ []) is.1, is.2, is.3, is.4)

still_sketched : (log : Log) (entry : Entry) (sketched : SketchEntry) → IsSketchPending log sketched → IsSketchPending (logged entry log) sketched
still_sketched log entry sketched is = (is.0, IsIn-left is.0 log.pending (entry ∷ []) is.1, is.2)

module _ (client : ℕ) (log : Log) (last : ℕ) (volume : Volume) (packets : List Message) (now : Agree client log last volume packets) where
  pub tree_at-logged : (entry : Entry) → tree_at last (logged entry log) ≡ tree_at last log
  tree_at-logged entry =
      let within : last - log.acked ≤ length log.pending = omega (arith, now.not_higher.at_most_logged) in
      ap (λ es. after es log.base) (take-append-le (last - log.acked) log.pending (entry ∷ []) within)

  taken-logged : (entry : Entry) → IsTakenUpTo (logged entry log) last
  taken-logged entry = record { at_most_ahead = now.not_higher.at_most_ahead; at_most_logged = omega (arith, now.not_higher.at_most_logged, length-append log.pending (entry ∷ [])) }

  sendable-logged : (entry : Entry) (number : ℕ) → IsSendable log number → IsSendable (logged entry log) number
  sendable-logged entry number may = record { at_most_next = may.at_most_next; at_most_logged = omega (arith, may.at_most_logged, length-append log.pending (entry ∷ [])) }

  refused-logged : (entry : Entry) (upto : ℕ) → IsRefusedAfter log last upto → IsRefusedAfter (logged entry log) last upto
  refused-logged entry upto is = record { at_most_taken = is.at_most_taken; one_is_left = omega (arith, is.one_is_left, length-append log.pending (entry ∷ [])) }

  fitting-logged : (entry : Entry) (message : Message) → IsFitting log last volume message → IsFitting (logged entry log) last volume message
  fitting-logged entry (Store of number parts) fits =
      (sendable-logged entry number fits.0, above_as log (logged entry log) last last (λ n effects base above is. still_pending log entry n effects base (is above)) number parts fits.1)
  fitting-logged entry (Pull of number) fits = fits
  fitting-logged entry (Accepted of number upto) fits = fits
  fitting-logged entry (Stale of number upto path theirs ours) fits = (refused-logged entry upto fits.0, λ e. subst (λ t. version_at t path < version_at volume path) (sym (tree_at-logged entry)) (fits.1 e))
  fitting-logged entry (Unfit of number upto index cause) fits = (refused-logged entry upto fits.0, λ e. subst (IsAhead volume) (sym (tree_at-logged entry)) (fits.1 e))
  fitting-logged entry (Full of number upto index cause) fits = (refused-logged entry upto fits.0, λ e. subst (IsAhead volume) (sym (tree_at-logged entry)) (fits.1 e))
  fitting-logged entry (Gap of number beyond) fits = fits
  fitting-logged entry (Snapshot of number upto seen) fits = fits
  fitting-logged entry (Operate of sketched) fits = (sendable-logged entry sketched.seq fits.0, λ above. still_sketched log entry sketched (fits.1 above))
  fitting-logged entry (Done of number) fits = fits
  fitting-logged entry (Declined of number cause) fits = tt
  fitting-logged entry (Malformed code offset) fits = tt

  pub logged_agree : (entry : Entry) → IsLog (logged entry log) → Agree client (logged entry log) last volume packets
  logged_agree entry is = record {
    not_lower = now.not_lower;
    not_higher = taken-logged entry;
    behind = subst (λ t. IsBehind t volume) (sym (tree_at-logged entry)) now.behind;
    fitting = λ message among own. fitting-logged entry message (now.fitting message among own);
    log_is = is;
    tree = now.tree;
  }

-- ---- entries that were taken are acknowledged

module _ (client : ℕ) (log : Log) (upto last : ℕ) (volume : Volume) (packets : List Message) (low : log.acked ≤ upto) (high : upto ≤ last) (now : Agree client log last volume packets) where
  abbrev next_log : Log
  next_log = acknowledged upto log

  left_length : length next_log.pending ≡ length log.pending - (upto - log.acked)
  left_length = length-drop (upto - log.acked) log.pending

  sendable-acknowledged : (number : ℕ) → IsSendable log number → IsSendable next_log number
  sendable-acknowledged number may =
      record { at_most_next = omega (arith, may.at_most_next, low); at_most_logged = omega (arith, may.at_most_logged, left_length, low, high, now.not_higher.at_most_logged) }

  refused-acknowledged : (told : ℕ) → IsRefusedAfter log last told → IsRefusedAfter next_log last told
  refused-acknowledged told is =
      record { at_most_taken = is.at_most_taken; one_is_left = omega (arith, is.one_is_left, left_length, low, high, now.not_higher.at_most_logged) }

  -- an entry that was not taken is still pending
  entry-left : (entry : Entry) → IsIn entry log.pending → last < entry.seq → IsIn entry next_log.pending
  entry-left entry among above = left_behind (upto - log.acked) (log.acked + 1) log.base log.pending entry now.log_is.entries among (omega (arith, above, low, high))

  pending-left : (number : ℕ) (effects : List Effect) (base : List Base) → last < number → (last < number → IsPendingAt log number effects base) → IsPendingAt next_log number effects base
  pending-left number effects base above is =
      let at = is above in
      (at.0, entry-left at.0 at.1 (omega (arith, above, at.2)), at.2, at.3, at.4)

  sketch-left : (sketched : SketchEntry) → last < sketched.seq → IsSketchPending log sketched → IsSketchPending next_log sketched
  sketch-left sketched above is = (is.0, entry-left is.0 is.1 (omega (arith, above, is.2.numbered)), is.2)

  pub tree_at-left : tree_at last next_log ≡ tree_at last log
  tree_at-left = tree_at-acknowledged log upto last low high

  fitting-acknowledged : (message : Message) → IsFitting log last volume message → IsFitting next_log last volume message
  fitting-acknowledged (Store of number parts) fits = (sendable-acknowledged number fits.0, above_as log next_log last last pending-left number parts fits.1)
  fitting-acknowledged (Pull of number) fits = fits
  fitting-acknowledged (Accepted of number told) fits = fits
  fitting-acknowledged (Stale of number told path theirs ours) fits =
      (refused-acknowledged told fits.0, λ e. subst (λ t. version_at t path < version_at volume path) (sym tree_at-left) (fits.1 (omega (arith, e, low))))
  fitting-acknowledged (Unfit of number told index cause) fits = (refused-acknowledged told fits.0, λ e. subst (IsAhead volume) (sym tree_at-left) (fits.1 (omega (arith, e, low))))
  fitting-acknowledged (Full of number told index cause) fits = (refused-acknowledged told fits.0, λ e. subst (IsAhead volume) (sym tree_at-left) (fits.1 (omega (arith, e, low))))
  fitting-acknowledged (Gap of number beyond) fits = fits
  fitting-acknowledged (Snapshot of number told seen) fits = fits
  fitting-acknowledged (Operate of sketched) fits = (sendable-acknowledged sketched.seq fits.0, λ above. sketch-left sketched above (fits.1 above))
  fitting-acknowledged (Done of number) fits = fits
  fitting-acknowledged (Declined of number cause) fits = tt
  fitting-acknowledged (Malformed code offset) fits = tt

  pub acknowledged_agree : Agree client next_log last volume packets
  acknowledged_agree = record {
    not_lower = high;
    not_higher = record {
      at_most_ahead = omega (arith, now.not_higher.at_most_ahead, low);
      at_most_logged = omega (arith, now.not_higher.at_most_logged, left_length, low, high);
    };
    behind = subst (λ t. IsBehind t volume) (sym tree_at-left) now.behind;
    fitting = λ message among own. fitting-acknowledged message (now.fitting message among own);
    log_is = acknowledged_is_log log upto now.log_is low (omega (arith, high, now.not_higher.at_most_logged));
    tree = now.tree;
  }

-- ---- a snapshot is pulled where nothing is pending

module _ (client acked : ℕ) (tree seen : Volume) (last : ℕ) (volume : Volume) (packets : List Message) where
  abbrev idle : Log
  idle = record { acked = acked; base = tree; pending = [] }

  abbrev renewed : Log
  renewed = record { acked = acked; base = seen; pending = [] }

  fitting-pulled : last ≡ acked → (message : Message) → IsFitting idle last volume message → IsFitting renewed last volume message
  fitting-pulled is (Store of number parts) fits =
      (record { at_most_next = fits.0.at_most_next; at_most_logged = fits.0.at_most_logged }, above_as idle renewed last last (λ n effects base above is. is above) number parts fits.1)
  fitting-pulled is (Pull of number) fits = fits
  fitting-pulled is (Accepted of number upto) fits = fits
  fitting-pulled is (Stale of number upto path theirs ours) fits = (record { at_most_taken = fits.0.at_most_taken; one_is_left = fits.0.one_is_left }, λ e. absurd (omega (arith, e, fits.0.one_is_left)))
  fitting-pulled is (Unfit of number upto index cause) fits = (record { at_most_taken = fits.0.at_most_taken; one_is_left = fits.0.one_is_left }, λ e. absurd (omega (arith, e, fits.0.one_is_left)))
  fitting-pulled is (Full of number upto index cause) fits = (record { at_most_taken = fits.0.at_most_taken; one_is_left = fits.0.one_is_left }, λ e. absurd (omega (arith, e, fits.0.one_is_left)))
  fitting-pulled is (Gap of number beyond) fits = fits
  fitting-pulled is (Snapshot of number upto older) fits = fits
  fitting-pulled is (Operate of sketched) fits = (record { at_most_next = fits.0.at_most_next; at_most_logged = fits.0.at_most_logged }, fits.1)
  fitting-pulled is (Done of number) fits = fits
  fitting-pulled is (Declined of number cause) fits = tt
  fitting-pulled is (Malformed code offset) fits = tt

  pub pulled_agree : (number upto : ℕ) → IsIn (Snapshot client number upto seen) packets → Agree client idle last volume packets → Agree client renewed last volume packets
  pulled_agree number upto among now =
      let fits = now.fitting (Snapshot client number upto seen) among refl in
      let is : last ≡ acked = omega (arith, now.not_lower, now.not_higher.at_most_logged) in
      record {
        not_lower = now.not_lower;
        not_higher = record { at_most_ahead = now.not_higher.at_most_ahead; at_most_logged = now.not_higher.at_most_logged };
        behind = subst (λ t. IsBehind t volume) (sym (tree_at-acked renewed last is)) fits.2;
        fitting = λ message among own. fitting-pulled is message (now.fitting message among own);
        log_is = record { base_is = fits.3; entries = tt; few = now.log_is.few; small = now.log_is.small; last = now.log_is.last };
        tree = now.tree;
      }

-- ---- a new client

pub IsLog-new : IsLog new_log
IsLog-new = record { base_is = IsTree-empty; entries = tt; few = omega arith; small = omega arith; last = omega arith }

pub new_behind : (volume : Volume) → IsTree volume → IsBehind [] volume
new_behind volume tree = record {
  versions = λ path. omega arith;
  nodes = λ path e. sym (ap node_of (counted volume path tree (sym e)));
}
