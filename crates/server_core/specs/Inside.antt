-- Words that only the contracts of private functions cite.
use Rattle.std.specs.Prelude.{◌≡◌, ◌⊎◌, ℕ, ◌+◌, ◌-◌, ◌<◌, ◌≤◌, ◌^◌, List, [], ◌∷◌, ◌++◌, length, take, set, not, ◌==◌}
use Rattle.std.specs.Prelude.{nat_lt, nat_le, ◌&&◌, Bool}
use Rattle.std.specs.Prelude.{Option, Some, None, Result, Ok, Err, if◌then◌else◌}
use Rattle.std.specs.List.{AllByRecursion}
use Rattle.tree_values.specs.declared.node.Base.{Base}
use Rattle.tree_values.specs.Tree.{Volume, version_at}
use Rattle.tree_values.specs.Effects.{Conflict}
use Rattle.tree_values.specs.declared.node.Effect.{Effect}
use Rattle.tree_values.specs.declared.node.TreeError.{TreeError}
use Rattle.tree_values.specs.declared.node.Row.{Row}
use Rattle.vol_tree.specs.Undos.{undone_all, CanUndoAll}
use Rattle.wire_frames.specs.Limits.{max_client}
use Rattle.wire_frames.specs.declared.parts.Part.{Part}
use Rattle.wire_frames.specs.declared.message.Message.{Message}
use Rattle.wire_frames.specs.Parts.{PartFits}
use Rattle.wire_frames.specs.Frame.{frame}
use Rattle.store_image.specs.declared.record.ServerRecord.{ServerRecord}
use Rattle.world_rules.specs.Served.{Served, StoreVerdict, Repeated, Early, Outdated, Refused, Taken, with_last, served_through}
use Rattle.world_rules.specs.Served.{verdict_through, end_of, reply}
use Rattle.server_core.specs.declared.server.Underway.{Underway}
use Rattle.server_core.specs.declared.server.Answered.{Answered}
use Rattle.server_core.specs.declared.server.Looked.{Looked}
use Rattle.server_core.specs.declared.server.Looked.TheVariants as looks
use Rattle.server_core.specs.Holding.{Holding}

-- whether the path has another version in the volume
abbrev pub is_outdated : Volume → Base → Bool
is_outdated volume base = not (version_at volume base.path == base.version)

-- the conflict at a path of a base
abbrev pub conflict_at : Volume → Base → Conflict
conflict_at volume base = record { path = base.path; theirs = version_at volume base.path; ours = base.version }

-- ---- replies

-- the reply to a store by the verdict at which it ends
abbrev pub reply_to : Underway → ℕ → StoreVerdict → Message
reply_to store last judgement = reply store.client store.number store.upto last judgement

-- the reply to a store of which these entries are left, behind so many
abbrev pub reply_through : Underway → ℕ → List Part → Served → Message
reply_through store done parts served =
    let at = store.number + done in
    reply_to store ((served_through store.client at parts served).last store.client) (verdict_through store.client at parts served)

-- this reply, and its frame
pub record IsAnsweredBy (wanted : Message) (answered : Answered) : Type 0 where
  pub reply : answered.reply ≡ wanted
  pub frame : answered.frame.items ≡ frame wanted

-- ---- entries that are left of a store

-- These entries are left of a valid store, behind so many that were gone through, as the server now is.
pub record IsUnderway (store : Underway) (done : ℕ) (parts : List Part) (served : Served) : Type 0 where
  pub low : 1 ≤ store.client
  pub high : store.client ≤ max_client
  pub numbered : 1 ≤ store.number
  pub number_small : store.number < 2 ^ 64
  pub upto_small : store.upto < 2 ^ 64
  pub behind : store.number ≤ store.upto
  pub small : store.number + done + length parts ≤ 18446744073709551616
  pub ends : end_of (store.number + done) parts ≡ store.upto
  pub fits : AllByRecursion PartFits parts
  pub next : (store.number + done ≡ store.number) ⊎ (store.number + done ≤ served.last store.client + 1)

-- what was seen of an entry is the verdict on it
abbrev pub IsLookedAs : StoreVerdict → Looked → Type 0
IsLookedAs Repeated looks.Repeated = Unit {0}
IsLookedAs Early looks.Early = Unit {0}
IsLookedAs (Outdated conflict) (looks.Outdated path theirs ours) = conflict ≡ record { path = path; theirs = theirs; ours = ours }
IsLookedAs (Refused cause) (looks.Refused index fault) = cause ≡ (index, fault)
IsLookedAs (Taken volume) (looks.Taken undos) = Unit {0}
IsLookedAs judgement looked = ⊥

-- what was made of a client's next entry, whose base is current
abbrev pub IsTakenAs : Result Volume (ℕ × TreeError) → Looked → Type 0
IsTakenAs (Ok volume) (looks.Taken undos) = Unit {0}
IsTakenAs (Err cause) (looks.Refused index fault) = cause ≡ (index, fault)
IsTakenAs applied looked = ⊥

-- what is served after it
abbrev pub served_with : ℕ → ℕ → Result Volume (ℕ × TreeError) → Served → Served
served_with client number (Ok volume) served = record { volume = volume; last = with_last served.last client number }
served_with client number (Err cause) served = served

-- what is held once these effects are undone, and the client's last number is this one
abbrev pub store_undone : ℕ → ℕ → List (List Row) → Holding → Holding
store_undone client last undos held = record { rows = undone_all undos held.rows; last = set held.last (client - 1) last }

-- an entry of this number that was taken can be taken back; where none was, nothing has changed
abbrev pub CanTakeBack : ℕ → ℕ → Holding → Holding → Looked → Type 0
CanTakeBack client number old new (looks.Taken undos) =
    CanUndoAll undos.items new.rows × (undone_all undos.items new.rows ≡ old.rows) × (new.last ≡ set old.last (client - 1) number)
CanTakeBack client number old new looked = new ≡ old

-- ---- what is noted

-- the effects of the entries, numbered on from this number, that are above another, one after the other
abbrev pub effects_numbered_above : ℕ → List Part → ℕ → List Effect
effects_numbered_above number [] last = []
effects_numbered_above number (part ∷ parts) last =
    (if nat_lt last number then part.effects else []) ++ effects_numbered_above (number + 1) parts last

-- how many effects the entries have together that are numbered above one number and up to another
abbrev pub effects_between : ℕ → List Part → ℕ → ℕ → ℕ
effects_between number [] above upto = 0
effects_between number (part ∷ parts) above upto =
    (if nat_lt above number && nat_le number upto then length part.effects else 0) + effects_between (number + 1) parts above upto

-- the record of a store that raised its client's last number so, of whose effects above the old one these are copies
abbrev pub record_with : ℕ → ℕ → List Part → ℕ → ℕ → List Effect → Option ServerRecord
record_with client number parts before last copies =
    if nat_lt before last then Some (record {
      client = client;
      last = last;
      effects = take (effects_between number parts before last) copies;
    }) else None
