-- Connections that are served one after the other.
use Rattle.std.proofs.Common.{◌≡◌, ◌≤◌, ◌<◌, ◌⊎◌, inl, inr, ℕ, ◌+◌, false, ◌||◌, List, [], ◌∷◌, ◌++◌, map, None, refl, sym, ◌∙◌, ap, subst}
use Rattle.std.proofs.lemmas.List.{append-nil}
use Rattle.std.specs.Prelude.{Vec, Option, is_some}
use Rattle.std.specs.declared.alloc.Global.{Global}
use Rattle.outside.specs.Outside.{Told}
use Rattle.outside.specs.Port.{PortTelling}
use Rattle.port_serving.specs.declared.serving.Came.{Came}
use Rattle.port_serving.specs.declared.serving.Came.TheVariants as came
use Rattle.port_serving.specs.declared.serving.Taking.{Taking}
use Rattle.port_serving.specs.declared.serving.Taking.TheVariants as taking
use Rattle.port_serving.specs.declared.serving.Tally.{Tally}
use Rattle.port_serving.specs.Serving.{Connection, exchanges, frames_taken, connection_of, Uses, IsAtHand, TakesConnection, tallied}
use Rattle.port_serving.proofs.Connections as ports
use Rattle.store_image.specs.declared.record.ServerRecord.{ServerRecord}
use Rattle.world_rules.specs.Served.{Served}
use Rattle.server_core.specs.Framing.{frame_after, frames_after, takes, change}
use Rattle.server_prog.specs.declared.journal.ServerJournal.{ServerJournal}
use Rattle.server_prog.specs.declared.journal.ServerJournal.TheVariants.{Unsaved}
use Rattle.server_prog.specs.Serving.{ServedBy, KeptAs, IsKeptAfter, PerhapsKept, first_and_records, IsRecordedAfter, ServesConnections, ServerTelling}
use Rattle.server_prog.specs.Inside.{is_saved, Journals, Puts, KeepsOn, ServerMayKeep, ServesNext, BreaksConnection, ServesAll, ServesFront}
use Rattle.server_prog.proofs.Appending.{still, puts_none}
use Rattle.server_prog.proofs.Recording.{counted_none, counted_frames, recorded}
use Rattle.server_prog.proofs.Kept.{Kept, kept_same, told_then, told_with, or_false, change-append, kept_more, perhaps_more, perhaps_one}
use Rattle.port_serving.proofs.Connections.{UsesSoFar}
use Rattle.server_prog.proofs.SoFar.{IsJournalOf, ServesSoFar}

-- ---- replies in a row

served_more : (xs ys : List (List ℕ × List ℕ)) (s t u : Served) → ServedBy xs s t → ServedBy ys t u → ServedBy (xs ++ ys) s u
served_more [] ys s t u first second = subst (λ (v : Served). ServedBy ys v u) first second
served_more (x ∷ xs) ys s t u first second = (first.0, served_more xs ys (frame_after x.0 s) t u first.1 second)

after_pairs : (pairs : List (List ℕ × List ℕ)) (s t : Served) → ServedBy pairs s t → t ≡ frames_after (map (λ pair. pair.0) pairs) s
after_pairs [] s t served = served
after_pairs (pair ∷ pairs) s t served = after_pairs pairs (frame_after pair.0 s) t served.1

-- the state is that after the frames
pub holds : (xs : List Connection) (s t : Served) → ServedBy (exchanges xs) s t → t ≡ frames_after (frames_taken xs) s
holds xs s t replies = after_pairs (exchanges xs) s t replies

pub serves_none : (s : Served) (kept : Kept) → ServesConnections [] s s kept kept
serves_none s kept = record { replies = refl; kept = kept_same kept s }

pub serves_more : (xs ys : List Connection) (s t u : Served) (a b c : Kept) → ServesConnections xs s t a b → ServesConnections ys t u b c → ServesConnections (xs ++ ys) s u a c
serves_more xs ys s t u a b c first second = record {
  replies = subst (λ (l : List (List ℕ × List ℕ)). ServedBy l s u) (sym (ports.exchanges-append xs ys)) (served_more (exchanges xs) (exchanges ys) s t u first.replies second.replies);
  kept =
      subst (λ (l : List (List ℕ)). Told a c (KeptAs (change l s) u)) (sym (ports.frames_taken-append xs ys))
      (kept_more (frames_taken xs) (frames_taken ys) s t u a b c (holds xs s t first.replies) (holds ys t u second.replies) first.kept second.kept);
}

-- ---- one connection

-- a frame that was taken is at hand
pub is_at_hand : (how : Taking) (frame : Vec ℕ Global) (a b : PortTelling) → how ≡ taking.Taken frame → TakesConnection how a b → IsAtHand (frame.items ∷ []) a b
is_at_hand how frame a b is leads = subst (λ (t : Taking). TakesConnection t a b) is leads

module _ (j : ServerJournal) (s : Served) (a b : ServerTelling) where
  -- nothing was kept
  stays : Journals j s a.kept → b.kept ≡ a.kept → Journals j s b.kept
  stays journals same = subst (Journals j s) (sym same) journals

  puts_nothing : b.kept ≡ a.kept → Told a.kept b.kept (Puts None j j s)
  puts_nothing same = subst (λ (k : Kept). Told a.kept k (Puts None j j s)) (sym same) (puts_none j s a.kept)

  pub none_left : Journals j s a.kept → b.port.left ≡ 0 → Uses [] a.port b.port → b.kept ≡ a.kept → ServesNext came.NoConnection j j s s a b
  none_left journals left uses same = record {
    frame = [];
    reply = [];
    uses = uses;
    serves = subst (λ (k : Kept). ServesConnections [] s s a.kept k) (sym same) (serves_none s a.kept);
    none = λ _. left;
    journals = stays journals same;
    saved = sym (or_false (is_saved j));
    note = None;
    noted = refl;
    puts = puts_nothing same;
  }

  -- the frame was not served
  pub breaks_unserved : (frame : List ℕ) → Journals j s a.kept → IsAtHand (frame ∷ []) a.port b.port → b.kept ≡ a.kept → BreaksConnection j s a b
  breaks_unserved frame journals at_hand same = record {
    frames = frame ∷ [];
    at_hand = at_hand;
    kept =
        subst (λ (k : Kept). Told a.kept k (λ o n. KeptAs (is_saved j) s o n ⊎ IsKeptAfter (frame ∷ []) s o n)) (sym same)
        (told_with a.kept a.kept (KeptAs (is_saved j) s) (λ o n. KeptAs (is_saved j) s o n ⊎ IsKeptAfter (frame ∷ []) s o n) (λ o n k. inl k) (still j s a.kept journals));
  }

  module _ (note : Option ServerRecord) (frame : List ℕ) (t : Served) (is : is_some note ≡ takes frame s) (after : t ≡ frame_after frame s) where
    -- its change was not kept
    pub breaks_unkept : IsAtHand (frame ∷ []) a.port b.port → ServerMayKeep (is_some note) j s t a.kept b.kept → BreaksConnection j s a b
    breaks_unkept at_hand may = record { frames = frame ∷ []; at_hand = at_hand; kept = perhaps_one (is_some note) (is_saved j) frame s t a.kept b.kept is after may }

    -- it was not answered
    pub breaks_unanswered : (next : ServerJournal) → IsAtHand (frame ∷ []) a.port b.port → KeepsOn note j next t a.kept b.kept → BreaksConnection j s a b
    breaks_unanswered next at_hand keeps =
        breaks_unkept at_hand (told_with a.kept b.kept (KeptAs (is_some note) t) (λ o n. KeptAs (is_saved j) s o n ⊎ KeptAs (is_some note) t o n) (λ o n k. inr k) keeps.kept)

-- ---- so far

-- nothing was taken yet
pub so_far_begins : (tally : Tally) (s : Served) (a : ServerTelling) → tally ≡ record { frames = 0; faults = 0 } → ServesSoFar 0 tally Unsaved s s a a
so_far_begins tally s a none = record {
  connections = [];
  port = subst (λ (t : Tally). UsesSoFar 0 t [] a.port a.port) (sym none) (ports.so_far_none a.port);
  serves = serves_none s a.kept;
  journals = tt;
  saved = refl;
  counted = counted_none a.kept;
}

-- one more take
pub so_far_next : (takes : ℕ) (tally new : Tally) (how : Came) (j k : ServerJournal) (s t u : Served) (a b c : ServerTelling) → (how ≡ came.NoConnection → ⊥) → new ≡ tallied tally how → ServesSoFar takes tally j s t a b → ServesNext how j k t u b c
    → ServesSoFar (takes + 1) new k s u a c
so_far_next takes tally new how j k s t u a b c other is before one =
    let last = connection_of how one.frame one.reply in
    let xs = frames_taken before.connections in
    let state : t ≡ frames_after xs s = holds before.connections s t before.serves.replies in
    let more : change (xs ++ frames_taken last) s ≡ (change xs s || change (frames_taken last) t) = change-append xs (frames_taken last) s ∙ ap (λ v. change xs s || change (frames_taken last) v) (sym state) in
    record {
      connections = before.connections ++ last;
      port = ports.so_far_next takes tally new how one.frame one.reply before.connections a.port b.port c.port other is before.port one.uses;
      serves = serves_more before.connections last s t u a.kept b.kept c.kept before.serves one.serves;
      journals = one.journals;
      saved =
          one.saved ∙ ap (λ p. p || change (frames_taken last) t) before.saved ∙ sym more
          ∙ ap (λ fs. change fs s) (sym (ports.frames_taken-append before.connections last));
      counted =
          subst (λ (fs : List (List ℕ)). Told a.kept c.kept (IsJournalOf k (first_and_records fs s))) (sym (ports.frames_taken-append before.connections last))
          (counted_frames j k xs (frames_taken last) one.note s t u a.kept b.kept c.kept state (holds last t u one.serves.replies) one.noted before.counted one.puts);
    }

-- no connection is left
pub all_came : (count takes : ℕ) (tally : Tally) (how : Came) (j k : ServerJournal) (s t u : Served) (a b c : ServerTelling) → takes ≤ count → how ≡ came.NoConnection → ServesSoFar takes tally j s t a b → ServesNext how j k t u b c → ServesAll count tally s u a c
all_came count takes tally how j k s t u a b c few is before one =
    let none : connection_of how one.frame one.reply ≡ [] = ap (λ (h : Came). connection_of h one.frame one.reply) is in
    let uses = subst (λ (xs : List Connection). Uses xs b.port c.port) none one.uses in
    let serves = subst (λ (xs : List Connection). ServesConnections xs t u b.kept c.kept) none one.serves in
    record {
      connections = before.connections;
      port = ports.all_left count takes tally before.connections a.port b.port c.port few before.port uses (one.none is);
      counts = before.port.counts;
      serves =
          subst (λ (xs : List Connection). ServesConnections xs s u a.kept c.kept) (append-nil before.connections)
          (serves_more before.connections [] s t u a.kept b.kept c.kept before.serves serves);
      recorded =
          let fs = frames_taken before.connections in
          told_then a.kept b.kept c.kept (IsRecordedAfter fs s) (KeptAs false u) (IsRecordedAfter fs s) (λ x y z is same. subst (λ (w : Option (List ℕ)). IsRecordedAfter fs s x w) (sym same) is)
          (recorded j fs s a.kept b.kept before.counted) serves.kept;
    }

-- all takes were made
pub all_made : (count takes : ℕ) (tally : Tally) (j : ServerJournal) (s t : Served) (a b : ServerTelling) → takes ≡ count → ServesSoFar takes tally j s t a b → ServesAll count tally s t a b
all_made count takes tally j s t a b full before = record {
  connections = before.connections;
  port = ports.all_made count takes tally before.connections a.port b.port full before.port;
  counts = before.port.counts;
  serves = before.serves;
  recorded = recorded j (frames_taken before.connections) s a.kept b.kept before.counted;
}

-- the next take was broken off
pub front : (count takes : ℕ) (tally : Tally) (j : ServerJournal) (s t : Served) (a b c : ServerTelling) → takes < count → ServesSoFar takes tally j s t a b → BreaksConnection j t b c → ServesFront count s a c
front count takes tally j s t a b c more before broken =
    let fs = frames_taken before.connections in
    record {
      connections = before.connections;
      frames = broken.frames;
      port = ports.front count takes tally before.connections broken.frames a.port b.port c.port more before.port broken.at_hand;
      after = t;
      replies = before.serves.replies;
      kept =
          told_then a.kept b.kept c.kept (KeptAs (change fs s) t) (λ o n. KeptAs (is_saved j) t o n ⊎ IsKeptAfter broken.frames t o n) (PerhapsKept fs broken.frames s)
          (perhaps_more fs broken.frames (is_saved j) s t (holds before.connections s t before.serves.replies) before.saved) before.serves.kept broken.kept;
    }
