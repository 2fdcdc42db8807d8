-- What a server holds, what it answers to a message, and what it holds then.
use Rattle.std.specs.Prelude.{◌≡◌, ℕ, ◌+◌, ◌-◌, ◌<◌, ◌^◌, Bool, true, false, ◌==◌, List, [], ◌∷◌, ◌++◌, length, Option, Some, None}
use Rattle.std.specs.Prelude.{Result, Ok, Err, nat_lt, nat_le, if◌then◌else◌}
use Rattle.tree_values.specs.Effects.{apply_all, Conflict, first_conflict}
use Rattle.tree_values.specs.Tree.{Volume, IsTree}
use Rattle.tree_values.specs.declared.node.Effect.{Effect}
use Rattle.tree_values.specs.declared.node.Base.{Base}
use Rattle.tree_values.specs.declared.node.TreeError.{TreeError}
use Rattle.tree_values.specs.declared.node.TreeError.TheVariants.{RowsFull, TreeFull}
use Rattle.wire_frames.specs.Limits.{max_client}
use Rattle.wire_frames.specs.declared.parts.Part.{Part}
use Rattle.wire_frames.specs.declared.message.Message.{Message}
use Rattle.wire_frames.specs.declared.message.Message.TheVariants.{Store, Pull, Accepted, Stale, Unfit, Gap, Snapshot, Full, Malformed}

-- the volume, and for each client the number of its last accepted entry, 0 where there is none
pub record Served : Type 0 where
  pub volume : Volume
  pub last : ℕ → ℕ

-- the volume is a tree, the numbers have 64 bits, and no client above the highest number has any
pub record IsServed (served : Served) : Type 0 where
  pub tree : IsTree served.volume
  pub small : (client : ℕ) → served.last client < 2 ^ 64
  pub of_none : served.last 0 ≡ 0
  pub of_no_others : (client : ℕ) → max_client < client → served.last client ≡ 0

-- the volume without rows, of which no client has written
abbrev pub new_served : Served
new_served = record { volume = []; last = λ client. 0 }

-- this client's last number is the given one; all others are as before
abbrev pub with_last : (ℕ → ℕ) → ℕ → ℕ → (ℕ → ℕ)
with_last last client number other = if other == client then number else last other

-- what becomes of an entry of a store
pub data StoreVerdict : Type 0 where
  Repeated : StoreVerdict
  Early : StoreVerdict
  Outdated : Conflict → StoreVerdict
  Refused : ℕ × TreeError → StoreVerdict
  Taken : Volume → StoreVerdict

-- by cases, in this order: the number was accepted before; it is beyond the next; a version of the base is not the
-- volume's; an effect is refused; else the effects are applied
abbrev pub judged : Bool → Bool → Option Conflict → Result Volume (ℕ × TreeError) → StoreVerdict
judged true beyond conflict applied = Repeated
judged false true conflict applied = Early
judged false false (Some conflict) applied = Outdated conflict
judged false false None (Err refusal) = Refused refusal
judged false false None (Ok volume) = Taken volume

-- what becomes of an entry of this client, with this number, these effects and this base
abbrev pub verdict : ℕ → ℕ → List Effect → List Base → Served → StoreVerdict
verdict client number effects base served =
    judged
    (nat_le number (served.last client))
    (nat_lt (served.last client + 1) number)
    (first_conflict base served.volume)
    (apply_all 0 effects served.volume)

-- the served state after an entry
abbrev pub served_after : ℕ → ℕ → StoreVerdict → Served → Served
served_after client number (Taken volume) served = record { volume = volume; last = with_last served.last client number }
served_after client number _ served = served

-- ---- the entries of a store, one after the other

-- whether the next entry is looked at, too: this one is taken, now or before
abbrev pub passes : StoreVerdict → Bool
passes Repeated = true
passes (Taken volume) = true
passes _ = false

-- the served state after these entries, numbered on from this number, up to the first that is not taken
abbrev pub served_through : ℕ → ℕ → List Part → Served → Served
served_through client number [] served = served
served_through client number (part ∷ parts) served =
    let judgement = verdict client number part.effects part.base served in
    let next = served_after client number judgement served in
    if passes judgement then served_through client (number + 1) parts next else next

-- what becomes of the first of them that is not taken; where all are, the last is as one that was taken before
abbrev pub verdict_through : ℕ → ℕ → List Part → Served → StoreVerdict
verdict_through client number [] served = Repeated
verdict_through client number (part ∷ parts) served =
    let judgement = verdict client number part.effects part.base served in
    let next = served_after client number judgement served in
    if passes judgement then verdict_through client (number + 1) parts next else judgement

-- ---- what is answered

-- whether the volume has no room for an effect
abbrev pub is_want_of_room : TreeError → Bool
is_want_of_room (RowsFull n) = true
is_want_of_room (TreeFull n) = true
is_want_of_room _ = false

-- Full where the volume wants room for the effect of this index, and else Unfit
abbrev pub refusal : ℕ → ℕ → ℕ → ℕ → TreeError → Message
refusal client number upto index fault =
    if is_want_of_room fault then Full client number upto index fault else Unfit client number upto index fault

-- The reply to a store of this number, which ends with entry `end`, where `last` is the number of the client's last accepted entry
-- once the store was gone through, and the verdict is that on the first of its entries that is not taken.
abbrev pub reply : ℕ → ℕ → ℕ → ℕ → StoreVerdict → Message
reply client number end last Repeated = Accepted client number end
reply client number end last Early = Gap client number last
reply client number end last (Outdated conflict) = Stale client number last conflict.path conflict.theirs conflict.ours
reply client number end last (Refused cause) = refusal client number last cause.0 cause.1
reply client number end last (Taken volume) = Accepted client number end

-- the number of the last entry of a store
abbrev pub end_of : ℕ → List Part → ℕ
end_of number parts = number + length parts - 1

-- the answer to a store and to a pull; any other message is not for a server
abbrev pub answer : Message → Served → Message
answer (Store client number parts) served =
    reply client number (end_of number parts) ((served_through client number parts served).last client)
    (verdict_through client number parts served)
answer (Pull client number) served = Snapshot client number (served.last client) served.volume
answer message served = Malformed 7 0

-- the served state after a message; only a store changes it
abbrev pub state_after : Message → Served → Served
state_after (Store client number parts) served = served_through client number parts served
state_after message served = served

-- ---- what is taken

-- an entry that a server took: whose it is, its number, its effects, and the versions before them
pub record TakenEntry : Type 0 where
  pub client : ℕ
  pub number : ℕ
  pub effects : List Effect
  pub base : List Base

-- the entry of a store
abbrev pub entry_stored : ℕ → ℕ → List Effect → List Base → TakenEntry
entry_stored client number effects base = record { client = client; number = number; effects = effects; base = base }

-- the entry, where the verdict on it is that it is taken
abbrev pub taken_if : StoreVerdict → TakenEntry → List TakenEntry
taken_if (Taken volume) entry = entry ∷ []
taken_if _ entry = []

-- those of these entries that are taken, in order
abbrev pub taken_through : ℕ → ℕ → List Part → Served → List TakenEntry
taken_through client number [] served = []
taken_through client number (part ∷ parts) served =
    let judgement = verdict client number part.effects part.base served in
    let next = served_after client number judgement served in
    taken_if judgement (entry_stored client number part.effects part.base)
    ++ (if passes judgement then taken_through client (number + 1) parts next else [])

-- the entries of a store that are taken
abbrev pub taken_of : Message → Served → List TakenEntry
taken_of (Store client number parts) served = taken_through client number parts served
taken_of message served = []

-- the served state after an entry that was taken
abbrev pub state_behind : TakenEntry → Served → Served
state_behind entry served =
    served_after entry.client entry.number (verdict entry.client entry.number entry.effects entry.base served) served

-- the served state after these entries, one after the other
abbrev pub replay : List TakenEntry → Served → Served
replay [] served = served
replay (entry ∷ entries) served = replay entries (state_behind entry served)
