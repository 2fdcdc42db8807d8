-- How what a session keeps record by record goes on from line to line.
use Rattle.std.proofs.Common.{◌≡◌, ℕ, false, List, Option, None, Result, Ok, Err, IfOk}
use Rattle.outside.specs.Outside.{Told}
use Rattle.outside.specs.Keeper.{Images}
use Rattle.mod_log.specs.Log.{Log}
use Rattle.vol_tree.proofs.Behind.{IsIn-left, IsIn-right}
use Rattle.world_rules.proofs.Asks.{told_as}
use Rattle.store_image.specs.declared.record.ClientRecord.{ClientRecord}
use Rattle.client_core.specs.declared.route.Route.{Route}
use Rattle.client_core.specs.declared.pulling.PullEnd.TheVariants.{Pulled}
use Rattle.client_core.specs.Client.{Client}
use Rattle.client_core.specs.Trace.{Trace, nothing, followed, IsLastOrBefore}
use Rattle.client_core.specs.Keeping.{IsKept}
use Rattle.client_core.specs.Noting.{logs_behind, AreRecorded, TakesNoRows, KeepsRecords, KeepsChanges}
use Rattle.client_core.proofs.Noting.{changes_same, changes_then, recorded_from_none}
use Rattle.shell_lang.specs.declared.line.Line.{Line}
use Rattle.shell_lang.specs.declared.line.LineError.{LineError}
use Rattle.shell_lang.specs.declared.answer.LineAnswer.{LineAnswer}
use Rattle.client_session.specs.Session.{Sitting, state_of, LineTurn, has_pulled}
use Rattle.client_session.specs.Doing.{Telling, WentDoing}
use Rattle.client_session.proofs.Doing.{WentKept, went_none, kept_none, went_as, kept_as, kept_then, kept_next}
use Rattle.client_session.proofs.Recorded.{line_unpulled}
use Rattle.client_lines.specs.declared.run.Stop.{Stop}
use Rattle.client_lines.specs.InsideRun.{NotesChanges, WentNoting}

-- what is so is so where a run was not stopped
pub unstopped : {T E : Type 0} (r : Result T E) (K : Type 0) → K → IfOk r (λ done. K)
unstopped (Ok done) K is = is
unstopped (Err e) K is = tt

-- ---- one stretch after another

module _ (name : List ℕ) where
  notes_none : (x : Client) (i : Option Images) → NotesChanges name x x i i nothing
  notes_none x i = λ none. changes_same name x i

  notes_then : (x y z : Client) (i j l : Option Images) (m n : Trace) → NotesChanges name x y i j m → NotesChanges name y z j l n → NotesChanges name x z i l (followed m n)
  notes_then x y z i j l m n first second = λ none.
      changes_then name x y z m.changes n.changes i j l
      (first (λ count among. none count (IsIn-left (Pulled count) m.pulls n.pulls among)))
      (second (λ count among. none count (IsIn-right (Pulled count) m.pulls n.pulls among)))

  -- a line keeps its changes so
  pub notes_line : (route : Route) (x y : Sitting) (line : Result Line LineError) (answer : Option LineAnswer) (i j : Option Images) (trace : Trace) → LineTurn route (state_of x) line answer (state_of y) trace
      → (has_pulled line answer ≡ false → KeepsChanges name x.client y.client trace.changes i j) → NotesChanges name x.client y.client i j trace
  notes_line route x y line answer i j trace turn kept = λ none. kept (line_unpulled (state_of x) (state_of y) trace route line answer turn none)

  -- from a client without a journal on
  pub notes_recorded : (x y : Client) (i j : Option Images) (trace : Trace) → x.journal ≡ None → NotesChanges name x y i j trace
      → TakesNoRows trace → Told i j (λ old new. AreRecorded x.number trace.changes (old name) (new name))
  notes_recorded x y i j trace start noted none =
      told_as i j (λ old new. (notes : List ClientRecord) × (trace.changes ≡ logs_behind x.log notes) × KeepsRecords name x y notes old new)
      (λ old new. AreRecorded x.number trace.changes (old name) (new name)) (noted none) (λ old new all. recorded_from_none name x y all.0 trace.changes old new start all.1 all.2)

-- ---- over a link

module _ (route : Route) where
  -- a session did what these turns say, its client is kept, and its changes were kept record by record
  abbrev pub KeptNoting : (Trace → Type 0) → Sitting → Sitting → Option Images → Option Images → Telling → Telling → Type 0
  KeptNoting turns x y i j t u = WentKept route (λ trace. turns trace × NotesChanges route.image x.client y.client i j trace) (state_of x) (state_of y) i j t u

  pub noting_none : (T : Trace → Type 0) (x : Sitting) (i : Option Images) (t : Telling) → IsKept i route.image x.client.number x.client.log → T nothing → KeptNoting T x x i i t t
  noting_none T x i t keeps turn = kept_none route (λ trace. T trace × NotesChanges route.image x.client x.client i i trace) (state_of x) i t keeps (turn, notes_none route.image x.client i)

  pub done_none : {U E : Type 0} (r : Result U E) (T : Log → Trace → Type 0) (x : Sitting) (i : Option Images) (t : Telling) → IsKept i route.image x.client.number x.client.log → T x.client.log nothing → WentNoting route r T x x i i t t
  done_none r T x i t keeps turn =
      went_none route (λ k trace. T k trace × IfOk r (λ done. NotesChanges route.image x.client x.client i i trace)) (state_of x) i t keeps
      (turn, unstopped r (NotesChanges route.image x.client x.client i i nothing) (notes_none route.image x.client i))

  -- what comes to an end so far
  pub noting_as : {U E : Type 0} (r : Result U E) (T : Trace → Type 0) (S : Log → Trace → Type 0) (x y : Sitting) (i j : Option Images) (t u : Telling) → KeptNoting T x y i j t u
      → ((trace : Trace) → T trace → S y.client.log trace) → WentNoting route r S x y i j t u
  noting_as r T S x y i j t u went to =
      kept_as route (λ trace. T trace × NotesChanges route.image x.client y.client i j trace) (λ k trace. S k trace × IfOk r (λ done. NotesChanges route.image x.client y.client i j trace)) (state_of x) (state_of y) i j t u went
      (λ trace both. (to trace both.0, unstopped r (NotesChanges route.image x.client y.client i j trace) both.1))

  pub noting_then : {U : Type 0} (done : U) (T R : Trace → Type 0) (S : Log → Trace → Type 0) (x y z : Sitting) (i j l : Option Images) (t u v : Telling) → KeptNoting T x y i j t u
      → WentNoting {T = U} {E = Stop} route (Ok done) S y z j l u v → ((k : Log) (n : Trace) → S k n → k ≡ z.client.log) → ((m n : Trace) → T m → S z.client.log n → R (followed m n)) → KeptNoting R x z i l t v
  noting_then done T R S x y z i j l t u v first second is join =
      kept_then route (λ trace. T trace × NotesChanges route.image x.client y.client i j trace) (λ trace. R trace × NotesChanges route.image x.client z.client i l trace)
      (λ k trace. S k trace × NotesChanges route.image y.client z.client j l trace) (state_of x) (state_of y) (state_of z) i j l t u v first second
      (λ k n both. is k n both.0) (λ m n p q. (join m n p.0 q.0, notes_then route.image x.client y.client z.client i j l m n p.1 q.1))

  pub noting_next : {U V : Type 0} (done : U) (all : V) (T : Trace → Type 0) (S R : Log → Trace → Type 0) (x y z : Sitting) (i j l : Option Images) (t u v : Telling) → KeptNoting T x y i j t u
      → WentNoting {T = U} {E = Stop} route (Ok done) S y z j l u v → ((k : Log) (m n : Trace) → T m → S k n → R k (followed m n)) → WentNoting {T = V} {E = Stop} route (Ok all) R x z i l t v
  noting_next done all T S R x y z i j l t u v first second join =
      kept_next route (λ trace. T trace × NotesChanges route.image x.client y.client i j trace) (λ k trace. S k trace × NotesChanges route.image y.client z.client j l trace)
      (λ k trace. R k trace × NotesChanges route.image x.client z.client i l trace) (state_of x) (state_of y) (state_of z) i j l t u v first second
      (λ k m n p q. (join k m n p.0 q.0, notes_then route.image x.client y.client z.client i j l m n p.1 q.1))

  -- and what stops a run
  pub noting_stops : {U : Type 0} (V : Type 0) (r : Result U Stop) (e : Stop) (T : Trace → Type 0) (S R : Log → Trace → Type 0) (x y z : Sitting) (i j l : Option Images) (t u v : Telling) → KeptNoting T x y i j t u
      → WentNoting route r S y z j l u v → ((k : Log) (m n : Trace) → T m → S k n → R k (followed m n)) → WentNoting {T = V} {E = Stop} route (Err e) R x z i l t v
  noting_stops V r e T S R x y z i j l t u v first second join =
      kept_next route (λ trace. T trace × NotesChanges route.image x.client y.client i j trace) (λ k trace. S k trace × IfOk r (λ done. NotesChanges route.image y.client z.client j l trace))
      (λ k trace. R k trace × Unit {0}) (state_of x) (state_of y) (state_of z) i j l t u v first second
      (λ k m n p q. (join k m n p.0 q.0, tt))

  -- another relation of the same turns
  pub stopped_as : (V : Type 0) (e : Stop) (T S : Log → Trace → Type 0) (x y : Sitting) (i j : Option Images) (t u : Telling) → WentDoing route T (state_of x) (state_of y) i j t u
      → ((k : Log) (trace : Trace) → T k trace → IsLastOrBefore x.client.log trace.changes k → S k trace) → WentNoting {T = V} {E = Stop} route (Err e) S x y i j t u
  stopped_as V e T S x y i j t u went to = went_as route T (λ k trace. S k trace × Unit {0}) (state_of x) (state_of y) i j t u went (λ k trace turn behind. (to k trace turn behind, tt))

  pub ended_as : {V : Type 0} (done : V) (T S : Log → Trace → Type 0) (x y : Sitting) (i j : Option Images) (t u : Telling) → WentDoing route T (state_of x) (state_of y) i j t u
      → ((k : Log) (trace : Trace) → T k trace → S k trace × NotesChanges route.image x.client y.client i j trace) → WentNoting {T = V} {E = Stop} route (Ok done) S x y i j t u
  ended_as done T S x y i j t u went to =
      went_as route T (λ k trace. S k trace × NotesChanges route.image x.client y.client i j trace) (state_of x) (state_of y) i j t u went (λ k trace turn behind. to k trace turn)

  pub stops_as : {U : Type 0} (V : Type 0) (r : Result U Stop) (e : Stop) (T S : Log → Trace → Type 0) (x y : Sitting) (i j : Option Images) (t u : Telling) → WentNoting route r T x y i j t u
      → ((k : Log) (trace : Trace) → T k trace → S k trace) → WentNoting {T = V} {E = Stop} route (Err e) S x y i j t u
  stops_as V r e T S x y i j t u went to =
      stopped_as V e (λ k trace. T k trace × IfOk r (λ done. NotesChanges route.image x.client y.client i j trace)) S x y i j t u went (λ k trace both behind. to k trace both.0)

  pub ends_as : {U V : Type 0} (done : U) (all : V) (T S : Log → Trace → Type 0) (x y : Sitting) (i j : Option Images) (t u : Telling) → WentNoting {T = U} {E = Stop} route (Ok done) T x y i j t u
      → ((k : Log) (trace : Trace) → T k trace → S k trace) → WentNoting {T = V} {E = Stop} route (Ok all) S x y i j t u
  ends_as done all T S x y i j t u went to =
      ended_as all (λ k trace. T k trace × NotesChanges route.image x.client y.client i j trace) S x y i j t u went (λ k trace both. (to k trace both.0, both.1))
