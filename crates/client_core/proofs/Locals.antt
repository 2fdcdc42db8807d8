-- What logging local effects makes of the client and the world.
use Rattle.std.proofs.Common.{Bool, false, ◌≡◌, ◌≢◌, ◌⊎◌, inl, inr, ℕ, List, [], ◌∷◌, Option, Some, None, Result, Ok, Err, IfOk, IfErr, OnOk, OnErr, refl, sym, subst}
use Rattle.outside.specs.Keeper.{Images}
use Rattle.cmd_capture.specs.Runs.{RunnerTelling}
use Rattle.file_paths.specs.Refusals.{unless_refused}
use Rattle.tree_values.specs.declared.node.Effect.{Effect}
use Rattle.mod_log.specs.declared.origin.Origin.{Origin}
use Rattle.mod_log.specs.declared.log.Entry.{Entry}
use Rattle.mod_log.specs.declared.log.LogError.{LogError}
use Rattle.mod_log.specs.declared.log.LogError.TheVariants.{EntryTooLarge, LogFull, LastNumber, Tree, Memory}
use Rattle.mod_log.specs.Log.{Log, IsLog, logged}
use Rattle.mod_log.specs.Append.{next_entry, appended, append_refusals}
use Rattle.world_rules.specs.Telling.{LinkTelling}
use Rattle.client_core.specs.Trace.{Trace, nothing}
use Rattle.client_core.specs.Logging.{local_entry, LocalTurn}
use Rattle.client_core.specs.declared.keeping.Journal.{Journal}
use Rattle.client_core.specs.Journal.{next_notes}
use Rattle.client_core.specs.Keeping.{IsKept, IsReady, IsKeptReady}
use Rattle.client_core.specs.Goes.{Goes}
use Rattle.client_core.proofs.Going.{goes_none, goes_logged}
use Rattle.client_core.proofs.Journal.{IsOneAtMost, ready_current, logged_ready, logged_one}

-- effects that have their turn, or for which memory was wanted before they did anything
abbrev pub LocalEnds : List Effect → Log → Result ℕ LogError → Log → Trace → Type 0
LocalEnds effects before result after trace =
    LocalTurn effects before result after trace ⊎ ((result ≡ Err Memory) × (after ≡ before) × (trace ≡ nothing))

unrefused : {T E : Type 0} (refusals : List (Option E)) (value new : T) → unless_refused refusals value ≡ Ok new → value ≡ new
unrefused [] value new is = cc
unrefused (None ∷ rest) value new is = unrefused rest value new is
unrefused (Some refusal ∷ rest) value new is = absurd (cc)

-- what is logged is the next entry
pub appended-is : (origin : Option Origin) (effects : List Effect) (before after : Log) → appended origin effects before ≡ Ok after → logged (next_entry origin effects before) before ≡ after
appended-is origin effects before after is = unrefused (append_refusals origin effects before) (logged (next_entry origin effects before) before) after is

module _ (name : List ℕ) (client : ℕ) (ships : Bool) (effects : List Effect) (before after : Log) (i : Option Images) (keeps : IsKept i name client before) where
  logs_goes : (number : ℕ) → appended None effects before ≡ Ok after → number ≡ (local_entry effects before).seq → IsLog after
      → (r : RunnerTelling) (t : LinkTelling) → Goes client ships name (LocalEnds effects before (Ok number) after) before after before i i r r t t
  logs_goes number is shown is_log r t =
      let entry : Entry = local_entry effects before in
      let same : logged entry before ≡ after = appended-is None effects before after is in
      subst (λ (next : Log). Goes client ships name (LocalEnds effects before (Ok number) next) before next before i i r r t t) same
      (goes_logged name client ships (LocalEnds effects before (Ok number) (logged entry before)) entry before i r t keeps (subst IsLog (sym same) is_log)
      (inl (subst (λ (next : Log). appended None effects before ≡ Ok next) (sym same) is, shown, refl)))

  refused_goes : (refusal : LogError) → appended None effects before ≡ Err refusal → after ≡ before
      → (r : RunnerTelling) (t : LinkTelling) → Goes client ships name (LocalEnds effects before (Err refusal) after) before after before i i r r t t
  refused_goes refusal is same r t =
      subst (λ (next : Log). Goes client ships name (LocalEnds effects before (Err refusal) next) before next before i i r r t t) (sym same)
      (goes_none name client ships (LocalEnds effects before (Err refusal) before) before i r t keeps (inl (is, refl, refl)))

  -- what `local_all` makes of the client, over any link: the entry is logged, and nothing is asked, run or kept
  pub local_goes : (result : Result ℕ LogError) → OnOk result (appended None effects before ≡ Ok after) → IfOk result (λ seq. seq ≡ (local_entry effects before).seq)
      → IfErr result (λ e. e ≢ Memory → appended None effects before ≡ Err e) → OnErr result (after ≡ before) → IsLog after
      → (r : RunnerTelling) (t : LinkTelling) → Goes client ships name (LocalEnds effects before result after) before after before i i r r t t
  local_goes (Ok number) ok seq err same is_log r t = logs_goes number ok seq is_log r t
  local_goes (Err (EntryTooLarge count bytes)) ok seq err same is_log r t = refused_goes (EntryTooLarge count bytes) (err (λ e. absurd (cc))) same r t
  local_goes (Err (LogFull count bytes)) ok seq err same is_log r t = refused_goes (LogFull count bytes) (err (λ e. absurd (cc))) same r t
  local_goes (Err LastNumber) ok seq err same is_log r t = refused_goes LastNumber (err (λ e. absurd (cc))) same r t
  local_goes (Err (Tree i refusal)) ok seq err same is_log r t = refused_goes (Tree i refusal) (err (λ e. absurd (cc))) same r t
  local_goes (Err Memory) ok seq err same is_log r t =
      subst (λ (next : Log). Goes client ships name (LocalEnds effects before (Err Memory) next) before next before i i r r t t) (sym same)
      (goes_none name client ships (LocalEnds effects before (Err Memory) before) before i r t keeps (inr (refl, refl, refl)))

-- a client that might go on under a name still may
pub local_ready : (effects : List Effect) (before after : Log) (result : Result ℕ LogError) → OnOk result (appended None effects before ≡ Ok after) → OnErr result (after ≡ before)
    → (name : List ℕ) (number : ℕ) (journal : Option Journal) (i : Option Images) → IsReady i name (record { number = number; log = before; journal = journal })
    → IsReady i name (record { number = number; log = after; journal = journal })
local_ready effects before after (Ok seq) is same name number journal i ready =
    subst (λ (l : Log). IsReady i name (record { number = number; log = l; journal = journal })) (appended-is None effects before after is) (logged_ready name number before (next_entry None effects before) journal i ready)
local_ready effects before after (Err refusal) is same name number journal i ready =
    subst (λ (l : Log). IsReady i name (record { number = number; log = l; journal = journal })) (sym same) ready

-- and one that is kept has one note at most to add
pub local_one : (effects : List Effect) (before after : Log) → appended None effects before ≡ Ok after → (name : List ℕ) (number : ℕ) (journal now : Option Journal) → now ≡ journal → (i : Option Images)
    → IsKeptReady i name (record { number = number; log = before; journal = journal }) → IsOneAtMost i (next_notes now false after)
local_one effects before after is name number journal now same i kept =
    subst (λ (j : Option Journal). IsOneAtMost i (next_notes j false after)) (sym same)
    (subst (λ (l : Log). IsOneAtMost i (next_notes journal false l)) (appended-is None effects before after is)
    (logged_one name number before (next_entry None effects before) journal i (ready_current name number before journal i kept.0 kept.1)))
