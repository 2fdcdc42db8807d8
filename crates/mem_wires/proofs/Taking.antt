-- Which entries of a store a server takes by the numbers, and how its answer fits the request.
use Rattle.std.proofs.Common.{◌≡◌, ℕ, ◌+◌, ◌-◌, ◌<◌, ◌≤◌, Bool, true, false, List, [], ◌∷◌, ◌++◌, length, take, Option, Some, None, Result, Ok, Err, IfOk, OnOk, OnErr, refl, sym, ap, ◌∙◌, subst, arith, append_assoc, length-append}
use Rattle.std.specs.Prelude.{nat_lt, nat_le, if◌then◌else◌}
use Rattle.outside.specs.Outside.{Rose}
use Rattle.outside.specs.Memory.{one_more}
use Rattle.byte_fields.proofs.Facts.{lt_holds, lt_fails, le_of, not_le_of, not_lt_of}
use Rattle.tree_values.specs.Tree.{Volume}
use Rattle.tree_values.specs.Effects.{Conflict, apply_all, first_conflict}
use Rattle.tree_values.specs.declared.node.TreeError.{TreeError}
use Rattle.wire_frames.specs.declared.parts.Part.{Part}
use Rattle.wire_frames.specs.declared.message.Message.{Message}
use Rattle.wire_frames.specs.declared.message.Message.TheVariants.{Store, Pull, Unfit, Full}
use Rattle.wire_frames.specs.Frame.{Echoes, IsValid, client_of, speaks_upto}
use Rattle.world_rules.specs.declared.asking.Peer.{Peer}
use Rattle.world_rules.specs.declared.asking.Peer.TheVariants.{Server, Surrogate}
use Rattle.world_rules.specs.Served.{Served, IsServed, StoreVerdict, Repeated, Early, Outdated, Refused, Taken, judged, reply, end_of, is_want_of_room, answer, state_after, served_after, passes, served_through, verdict_through, TakenEntry, entry_stored, taken_if, taken_through, taken_of}
use Rattle.world_rules.specs.World.{IsForServer}
use Rattle.world_rules.specs.Asking.{IsRequest}
use Rattle.world_rules.proofs.Replies.{answer-valid}
use Rattle.world_rules.proofs.Sending.{some_parts}
use Rattle.server_core.specs.Holding.{Holding, served}
use Rattle.mem_wires.specs.Underway.{entries_above, stored_above}
use Rattle.server_core.proofs.Many.{raised}

-- ---- the front of a list

pub take_front : {X : Type 0} (xs ys : List X) → take (length xs) (xs ++ ys) ≡ xs
take_front [] ys = refl
take_front {X} (x ∷ xs) ys = ap (λ (l : List X). x ∷ l) (take_front xs ys)

front_within : {X : Type 0} (xs ys : List X) → take (length xs) ys ≡ xs → length xs ≤ length ys
front_within [] ys is = omega arith
front_within (x ∷ xs) [] is = absurd (cc)
front_within (x ∷ xs) (y ∷ ys) is = let later : take (length xs) ys ≡ xs = cc in omega (arith, front_within xs ys later)

-- ---- the entries that are taken are the first above the last number

-- These entries are the first of those, as many as the number rose by.
pub record AreFirst (above taken : List TakenEntry) (before after : ℕ) : Type 0 where
  pub rest : List TakenEntry
  pub parts : above ≡ taken ++ rest
  pub count : after ≡ before + length taken

no_first : (above : List TakenEntry) (last : ℕ) → AreFirst above [] last last
no_first above last = record { rest = above; parts = refl; count = omega arith }

-- entries that are numbered above both numbers are the same above either
above_either : (client number : ℕ) (parts : List Part) (a b : ℕ) → a < number → b < number → entries_above client number parts a ≡ entries_above client number parts b
above_either client number [] a b low other = refl
above_either client number (part ∷ parts) a b low other =
    let entry = entry_stored client number part.effects part.base in
    let rest = above_either client (number + 1) parts a b (omega (arith, low)) (omega (arith, other)) in
    ap (λ (t : Bool). (if t then entry ∷ [] else []) ++ entries_above client (number + 1) parts a) (lt_holds a number low ∙ sym (lt_holds b number other))
    ∙ ap (λ (l : List TakenEntry). (if nat_lt b number then entry ∷ [] else []) ++ l) rest

module _ (client : ℕ) where
  -- the entry of this number is not above the last one
  known : (number last : ℕ) (part : Part) (later : List TakenEntry) → number ≤ last
      → (if nat_lt last number then entry_stored client number part.effects part.base ∷ [] else []) ++ later ≡ later
  known number last part later low = ap (λ (t : Bool). (if t then entry_stored client number part.effects part.base ∷ [] else []) ++ later) (lt_fails last number low)

  new : (number last : ℕ) (part : Part) (later : List TakenEntry) → last < number
      → (if nat_lt last number then entry_stored client number part.effects part.base ∷ [] else []) ++ later ≡ entry_stored client number part.effects part.base ∷ later
  new number last part later high = ap (λ (t : Bool). (if t then entry_stored client number part.effects part.base ∷ [] else []) ++ later) (lt_holds last number high)

  -- an entry is taken, and the others are gone through
  took : (number : ℕ) (part : Part) (parts : List Part) (s : Served) (volume : Volume) → number ≡ s.last client + 1
      → (let next = served_after client number (Taken volume) s in
      AreFirst (entries_above client (number + 1) parts (next.last client)) (taken_through client (number + 1) parts next) (next.last client) ((served_through client (number + 1) parts next).last client))
      → (let next = served_after client number (Taken volume) s in
      AreFirst (entries_above client number (part ∷ parts) (s.last client)) (entry_stored client number part.effects part.base ∷ taken_through client (number + 1) parts next) (s.last client) ((served_through client (number + 1) parts next).last client))
  took number part parts s volume is rest =
      let next = served_after client number (Taken volume) s in
      let entry = entry_stored client number part.effects part.base in
      let last : next.last client ≡ number = raised s.last client number in
      record {
        rest = rest.rest;
        parts = new number (s.last client) part (entries_above client (number + 1) parts (s.last client)) (omega (arith, is))
            ∙ ap (λ (l : List TakenEntry). entry ∷ l)
            (above_either client (number + 1) parts (s.last client) (next.last client) (omega (arith, is)) (omega (arith, last)) ∙ rest.parts);
        count = omega (arith, rest.count, last, is);
      }

  first_taken : (number : ℕ) (parts : List Part) (s : Served) → AreFirst (entries_above client number parts (s.last client)) (taken_through client number parts s) (s.last client) ((served_through client number parts s).last client)
  first_taken number [] s = no_first [] (s.last client)
  first_taken number (part ∷ parts) s =
      by (nat_le number (s.last client)) refl (nat_lt (s.last client + 1) number) refl (first_conflict part.base s.volume) (apply_all 0 part.effects s.volume)
      (λ next. first_taken (number + 1) parts next)
    where
      by : (repeated : Bool) → nat_le number (s.last client) ≡ repeated → (beyond : Bool) → nat_lt (s.last client + 1) number ≡ beyond → (conflict : Option Conflict) → (applied : Result Volume (ℕ × TreeError))
          → ((next : Served) → AreFirst (entries_above client (number + 1) parts (next.last client)) (taken_through client (number + 1) parts next) (next.last client) ((served_through client (number + 1) parts next).last client))
          → (let judgement = judged repeated beyond conflict applied in
          let next = served_after client number judgement s in
          AreFirst (entries_above client number (part ∷ parts) (s.last client))
          (taken_if judgement (entry_stored client number part.effects part.base) ++ (if passes judgement then taken_through client (number + 1) parts next else []))
          (s.last client) ((if passes judgement then served_through client (number + 1) parts next else next).last client))
      by true is_repeated beyond is_beyond conflict applied rest =
          let later = rest s in
          record {
            rest = later.rest;
            parts = known number (s.last client) part (entries_above client (number + 1) parts (s.last client)) (le_of number (s.last client) is_repeated) ∙ later.parts;
            count = later.count;
          }
      by false is_repeated true is_beyond conflict applied rest = no_first (entries_above client number (part ∷ parts) (s.last client)) (s.last client)
      by false is_repeated false is_beyond (Some conflict) applied rest = no_first (entries_above client number (part ∷ parts) (s.last client)) (s.last client)
      by false is_repeated false is_beyond None (Err cause) rest = no_first (entries_above client number (part ∷ parts) (s.last client)) (s.last client)
      by false is_repeated false is_beyond None (Ok volume) rest =
          let next = served_after client number (Taken volume) s in
          let above = not_le_of number (s.last client) is_repeated in
          let within = not_lt_of (s.last client + 1) number is_beyond in
          took number part parts s volume (omega (arith, above, within)) (rest next)

-- what is taken of a message for the server
pub first_of : (m : Message) (s : Served) → IsForServer m → AreFirst (stored_above m (s.last (client_of m))) (taken_of m s) (s.last (client_of m)) ((state_after m s).last (client_of m))
first_of (Store client number parts) s for = first_taken client number parts s
first_of (Pull client number) s for = no_first [] (s.last client)
first_of _ s for = absurd for

-- behind others, those that are taken stay where as many are left as the number rose by
pub cut_first : (others above taken : List TakenEntry) (before after : ℕ) → AreFirst above taken before after → take (length others + (after - before)) (others ++ above) ≡ others ++ taken
cut_first others above taken before after first =
    let long : length others + (after - before) ≡ length (others ++ taken) = omega (arith, first.count, length-append others taken) in
    ap (λ (n : ℕ). take n (others ++ above)) long
    ∙ ap (λ (l : List TakenEntry). take (length (others ++ taken)) (others ++ l)) first.parts
    ∙ ap (λ (l : List TakenEntry). take (length (others ++ taken)) l) (sym (append_assoc others taken first.rest))
    ∙ take_front (others ++ taken) first.rest

-- ---- a request was served, or memory ran out

pub on_both : {T E P Q R : Type 0} (result : Result T E) → OnOk result P → OnOk result Q → (P → Q → R) → OnOk result R
on_both (Ok x) first second both = both first second
on_both (Err e) first second both = tt

pub reply_valid : {E : Type 0} (m : Message) (s : Served) (result : Result Message E) → IsValid m → IsServed s → IsForServer m → IfOk result (λ reply. reply ≡ answer m s)
    → IfOk result (λ reply. (reply ≡ answer m s) × IsValid reply)
reply_valid m s (Ok reply) valid legal for is = (is, subst IsValid (sym is) (answer-valid m s valid legal for))
reply_valid m s (Err e) valid legal for is = tt

-- the client's last number before and after, and the entries that are noted
module _ (m : Message) (for : IsForServer m) (old new : Holding) (taken noted : List TakenEntry) (before after : ℕ)
    (is_before : before ≡ (served old).last (client_of m)) (is_after : after ≡ (served new).last (client_of m)) where
  first_here : served new ≡ state_after m (served old) → AreFirst (stored_above m before) (taken_of m (served old)) before after
  first_here state =
      let first = first_of m (served old) for in
      let later : after ≡ (state_after m (served old)).last (client_of m) = is_after ∙ ap (λ (t : Served). t.last (client_of m)) state in
      record {
        rest = first.rest;
        parts = ap (stored_above m) is_before ∙ first.parts;
        count = omega (arith, first.count, is_before, later);
      }

  same_number : new ≡ old → after ≡ before
  same_number same = is_after ∙ ap (λ (h : Holding). (served h).last (client_of m)) same ∙ sym is_before

  pub not_lower : {E : Type 0} (result : Result Message E) → OnOk result (served new ≡ state_after m (served old)) → OnErr result (new ≡ old) → before ≤ after
  not_lower (Ok reply) state same = omega (arith, (first_here state).count)
  not_lower (Err e) state same = omega (arith, same_number same)

  pub cut_within : {E : Type 0} (result : Result Message E) → OnOk result (served new ≡ state_after m (served old)) → OnErr result (new ≡ old) → OnOk result (noted ≡ taken ++ stored_above m before)
      → take (length taken) noted ≡ taken → length taken + (after - before) ≤ length noted
  cut_within (Ok reply) state same is front =
      let first = first_here state in
      omega (arith, first.count, ap (λ (l : List TakenEntry). length l) is, length-append taken (stored_above m before), ap (λ (l : List TakenEntry). length l) first.parts, length-append (taken_of m (served old)) first.rest)
  cut_within (Err e) state same is front = omega (arith, same_number same, front_within taken noted front)

  pub cut_is : served new ≡ state_after m (served old) → noted ≡ taken ++ stored_above m before → take (length taken + (after - before)) noted ≡ taken ++ taken_of m (served old)
  cut_is state is = ap (λ (l : List TakenEntry). take (length taken + (after - before)) l) is ∙ cut_first taken (stored_above m before) (taken_of m (served old)) before after (first_here state)

-- ---- the server's answer is a reply to the request

module _ (client number : ℕ) (parts : List Part) (some : 1 ≤ number + length parts) where
  abbrev store : Message
  store = Store client number parts

  abbrev end : ℕ
  end = end_of number parts

  -- the entries of which it speaks are those of the store
  abbrev Within : Message → Type 0
  Within m = speaks_upto m ≤ end

  refused-within : (room : Bool) (upto index : ℕ) (fault : TreeError) → upto + 1 ≤ end → Within (if room then Full client number upto index fault else Unfit client number upto index fault)
  refused-within true upto index fault within = within
  refused-within false upto index fault within = within

  speaks_within : (n : ℕ) (left : List Part) (s : Served) → n + length left ≡ end + 1 → Within (reply client number end ((served_through client n left s).last client) (verdict_through client n left s))
  speaks_within n [] s ends = omega arith
  speaks_within n (part ∷ left) s ends =
      by (nat_le n (s.last client)) refl (nat_lt (s.last client + 1) n) (first_conflict part.base s.volume) (apply_all 0 part.effects s.volume)
      (λ next. speaks_within (n + 1) left next (omega (arith, ends)))
    where
      by : (repeated : Bool) → nat_le n (s.last client) ≡ repeated → (beyond : Bool) → (conflict : Option Conflict) → (applied : Result Volume (ℕ × TreeError))
          → ((next : Served) → Within (reply client number end ((served_through client (n + 1) left next).last client) (verdict_through client (n + 1) left next)))
          → (let judgement = judged repeated beyond conflict applied in
          let next = served_after client n judgement s in
          Within (reply client number end ((if passes judgement then served_through client (n + 1) left next else next).last client) (if passes judgement then verdict_through client (n + 1) left next else judgement)))
      by true is_repeated beyond conflict applied rest = rest s
      by false is_repeated true conflict applied rest = omega arith
      by false is_repeated false (Some conflict) applied rest = omega (arith, not_le_of n (s.last client) is_repeated, ends)
      by false is_repeated false None (Err cause) rest =
          refused-within (is_want_of_room cause.1) (s.last client) cause.0 cause.1 (omega (arith, not_le_of n (s.last client) is_repeated, ends))
      by false is_repeated false None (Ok volume) rest = rest (served_after client n (Taken volume) s)

  refused-echoes : (room : Bool) (upto index : ℕ) (fault : TreeError) → Within (if room then Full client number upto index fault else Unfit client number upto index fault)
      → Echoes store (if room then Full client number upto index fault else Unfit client number upto index fault)
  refused-echoes true upto index fault within = (tt, refl, refl, omega (arith, within, some))
  refused-echoes false upto index fault within = (tt, refl, refl, omega (arith, within, some))

  pub reply-echoes : (last : ℕ) (v : StoreVerdict) → Within (reply client number end last v) → Echoes store (reply client number end last v)
  reply-echoes last Repeated within = (tt, refl, refl, omega (arith, within, some))
  reply-echoes last Early within = (tt, refl, refl, omega (arith, within, some))
  reply-echoes last (Outdated conflict) within = (tt, refl, refl, omega (arith, within, some))
  reply-echoes last (Refused cause) within = refused-echoes (is_want_of_room cause.1) last cause.0 cause.1 within
  reply-echoes last (Taken volume) within = (tt, refl, refl, omega (arith, within, some))

  pub store-echoes : (s : Served) → Echoes store (answer store s)
  store-echoes s = reply-echoes ((served_through client number parts s).last client) (verdict_through client number parts s) (speaks_within number parts s (omega (arith, some)))

pub answer-echoes : (m : Message) (s : Served) → IsForServer m → IsValid m → Echoes m (answer m s)
answer-echoes (Store client number parts) s for valid = store-echoes client number parts (omega (arith, some_parts number parts valid.body_fits)) s
answer-echoes (Pull client number) s for valid = (tt, refl, refl, omega arith)
answer-echoes _ s for valid = absurd for

-- ---- what may be asked of the server

asked_of_server : (m : Message) → IsRequest Server m → IsForServer m
asked_of_server (Store client number parts) asked = tt
asked_of_server (Pull client number) asked = tt
asked_of_server _ asked = absurd asked

-- what was read of a request to the server is for it
pub for_server : (to : Peer) (asked read : Message) → to ≡ Server → asked ≡ read → IsRequest to asked → IsForServer read
for_server to asked read is same request =
    asked_of_server read (subst (λ (p : Peer). IsRequest p read) is (subst (λ (m : Message). IsRequest to m) same request))

pub not_the_server : Surrogate ≡ Server → ⊥
not_the_server is = absurd (cc)

-- where the count did not rise nothing was counted
pub rose_if : (b : Bool) (before : ℕ) → (Rose before (if b then one_more before else before) → ⊥) → b ≡ false
rose_if true before calm = absurd (calm (omega arith))
rose_if false before calm = refl
