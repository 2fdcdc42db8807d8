-- Words that only contracts below the whole run cite.
use Rattle.std.specs.Prelude.{◌≡◌, ◌≤◌, ◌⊎◌, ℕ, ◌+◌, nat_le, Bool, true, false, ◌||◌, List, [], length, if◌then◌else◌}
use Rattle.std.specs.Prelude.{Option, None, Some, IfSome, is_some, option_to_list}
use Rattle.outside.specs.Outside.{Told}
use Rattle.outside.specs.declared.errors.SinkError.{SinkError}
use Rattle.outside.specs.declared.errors.SinkError.TheVariants as sinks
use Rattle.outside.specs.declared.errors.KeepError.{KeepError}
use Rattle.outside.specs.declared.errors.KeepError.TheVariants as keeps
use Rattle.port_serving.specs.declared.serving.Came.{Came}
use Rattle.port_serving.specs.declared.serving.Came.TheVariants as came
use Rattle.port_serving.specs.declared.serving.Tally.{Tally}
use Rattle.port_serving.specs.Serving.{Connection, connection_of, exchanges, frames_taken, Uses, IsAtHand, UsesAll, UsesFront, Counts}
use Rattle.store_image.specs.declared.image.TheConstants.{MAX_SERVER_IMAGE, MAX_RECORDS}
use Rattle.store_image.specs.declared.record.ServerRecord.{ServerRecord}
use Rattle.store_image.specs.Records.{server_record}
use Rattle.outside.specs.Keeper.{followed_by}
use Rattle.world_rules.specs.Served.{Served}
use Rattle.server_core.specs.Framing.{change}
use Rattle.server_core.specs.Keeping.{IsKeptWholeForServed, records_taken}
use Rattle.server_prog.specs.declared.journal.ServerJournal.{ServerJournal}
use Rattle.server_prog.specs.declared.journal.ServerJournal.TheVariants as journals
use Rattle.server_prog.specs.declared.run.Stopped.{Stopped}
use Rattle.server_prog.specs.declared.run.Stopped.TheVariants as stops
use Rattle.server_prog.specs.Serving.{KeptAs, IsKeptAfter, PerhapsKept, IsImageWithRecords, IsRecordedAfter}
use Rattle.server_prog.specs.Serving.{ServedBy, ServesConnections, ServerTelling}

-- ---- what this run has kept

-- whether an image was saved
abbrev pub is_saved : ServerJournal → Bool
is_saved journals.Unsaved = false
is_saved (journals.Saved records) = true

-- the bytes of the records with one more of this size, where so few may stand behind a saved image
abbrev pub room_for : ServerJournal → ℕ → Option ℕ
room_for journals.Unsaved size = None
room_for (journals.Saved records) size = if nat_le (records + size) MAX_RECORDS then Some (records + size) else None

-- an image and whole records behind it, of so many bytes, are kept for the state
pub record IsJournaled (records : ℕ) (state : Served) (now : Option (List ℕ)) : Type 0 where
  pub bytes : List ℕ
  pub here : now ≡ Some bytes
  pub whole : IsKeptWholeForServed state bytes
  pub few : records ≤ MAX_RECORDS
  pub small : length bytes ≤ MAX_SERVER_IMAGE + records

-- what the journal says of what is kept, where the keeper tells it
abbrev pub Journals : ServerJournal → Served → Option (Option (List ℕ)) → Type 0
Journals journals.Unsaved state kept = Unit {0}
Journals (journals.Saved records) state kept = IfSome kept (IsJournaled records state)

-- the record stands behind what was kept, where there is room for it, and else an image for the state after it is kept
abbrev pub PutsRecord : Option ℕ → ServerRecord → ServerJournal → Served → Option (List ℕ) → Option (List ℕ) → Type 0
PutsRecord (Some total) note next after old new = (next ≡ journals.Saved total) × (new ≡ Some (followed_by (server_record note) old))
PutsRecord None note next after old new = (next ≡ journals.Saved 0) × IsImageWithRecords after [] new

-- the same where there is a record; else all is as before
abbrev pub Puts : Option ServerRecord → ServerJournal → ServerJournal → Served → Option (List ℕ) → Option (List ℕ) → Type 0
Puts None journal next after old new = (next ≡ journal) × (new ≡ old)
Puts (Some note) journal next after old new = PutsRecord (room_for journal (length (server_record note))) note next after old new

-- what changed was kept, where anything did, and the journal goes on with it
pub record KeepsOn (note : Option ServerRecord) (journal next : ServerJournal) (after : Served)
    (old new : Option (Option (List ℕ))) : Type 0 where
  pub saved : is_saved next ≡ (is_saved journal || is_some note)
  pub journals : Journals next after new
  pub kept : Told old new (KeptAs (is_some note) after)
  pub puts : Told old new (Puts note journal next after)

-- its keeping was refused: what is kept has the change or not
abbrev pub ServerMayKeep : Bool → ServerJournal → Served → Served → Option (Option (List ℕ)) → Option (Option (List ℕ)) → Type 0
ServerMayKeep changed journal before after old new = Told old new (λ o n. KeptAs (is_saved journal) before o n ⊎ KeptAs changed after o n)

-- ---- connections

-- one connection was used up and served, or none was left
pub record ServesNext (how : Came) (journal next : ServerJournal) (before after : Served) (old new : ServerTelling) : Type 0 where
  pub frame : List ℕ
  pub reply : List ℕ
  pub uses : Uses (connection_of how frame reply) old.port new.port
  pub serves : ServesConnections (connection_of how frame reply) before after old.kept new.kept
  pub none : how ≡ came.NoConnection → new.port.left ≡ 0
  pub journals : Journals next after new.kept
  pub saved : is_saved next ≡ (is_saved journal || change (frames_taken (connection_of how frame reply)) before)
  pub note : Option ServerRecord
  pub noted : option_to_list note ≡ records_taken (frames_taken (connection_of how frame reply)) before
  pub puts : Told old.kept new.kept (Puts note journal next after)

-- want of memory, or a fault of the keeper, broke off the connection at hand
pub record BreaksConnection (journal : ServerJournal) (before : Served) (old new : ServerTelling) : Type 0 where
  pub frames : List (List ℕ)
  pub at_hand : IsAtHand frames old.port new.port
  pub kept : Told old.kept new.kept (λ o n. KeptAs (is_saved journal) before o n ⊎ IsKeptAfter frames before o n)

-- at the end of the takes, or of the connections
pub record ServesAll (count : ℕ) (tally : Tally) (before after : Served) (old new : ServerTelling) : Type 0 where
  pub connections : List Connection
  pub port : UsesAll count connections old.port new.port
  pub counts : Counts connections tally
  pub serves : ServesConnections connections before after old.kept new.kept
  pub recorded : Told old.kept new.kept (IsRecordedAfter (frames_taken connections) before)

-- broken off for want of memory, or by a fault of the keeper
pub record ServesFront (count : ℕ) (before : Served) (old new : ServerTelling) : Type 0 where
  pub connections : List Connection
  pub frames : List (List ℕ)
  pub port : UsesFront count connections frames old.port new.port
  pub after : Served
  pub replies : ServedBy (exchanges connections) before after
  pub kept : Told old.kept new.kept (PerhapsKept (frames_taken connections) frames before)

-- a fault of the sink, and of the keeper, as the run's end
abbrev pub stopped_by_sink : SinkError → Stopped
stopped_by_sink sinks.Failed = stops.Sink
stopped_by_sink sinks.Memory = stops.Memory

abbrev pub stopped_by_keeper : KeepError → Stopped
stopped_by_keeper keeps.Failed = stops.Keeper
stopped_by_keeper keeps.Memory = stops.Memory
