-- How what a session does goes on from line to line.
use Rattle.std.proofs.Common.{◌≡◌, ℕ, Bool, List, Option, is_some, refl, ◌∙◌, subst}
use Rattle.outside.specs.Keeper.{Images}
use Rattle.mod_log.specs.Log.{Log}
use Rattle.client_core.specs.declared.route.Route.{Route}
use Rattle.client_core.specs.Trace.{Trace, nothing, followed, IsLastOrBefore}
use Rattle.client_core.specs.Keeping.{IsKept}
use Rattle.client_core.specs.Goes.{Goes}
use Rattle.client_core.proofs.Going.{goes_none, goes_then}
use Rattle.client_session.specs.Session.{SessionState}
use Rattle.client_session.specs.Doing.{Telling, Does, WentDoing}

-- a session did what these turns say, and the client is kept at the end
abbrev pub WentKept : Route → (Trace → Type 0) → SessionState → SessionState → Option Images → Option Images → Telling → Telling → Type 0
WentKept route turns before after images now old new = Does (is_some route.surrogate) route.image turns before after after.client.log images now old new

module _ (ships : Bool) (name : List ℕ) where
  pub does_none : (T : Trace → Type 0) (s : SessionState) (i : Option Images) (t : Telling) → IsKept i name s.client.number s.client.log → T nothing → Does ships name T s s s.client.log i i t t
  does_none T s i t keeps turn = record { number = refl; goes = goes_none name s.client.number ships T s.client.log i t.runner t.link keeps turn }

  -- another relation of the same turns
  pub does_as : (T S : Trace → Type 0) (a b : SessionState) (k : Log) (i j : Option Images) (t u : Telling) → Does ships name T a b k i j t u
      → ((trace : Trace) → T trace → IsLastOrBefore a.client.log trace.changes k → S trace) → Does ships name S a b k i j t u
  does_as T S a b k i j t u does to = record {
    number = does.number;
    goes = record { trace = does.goes.trace; turn = to does.goes.trace does.goes.turn does.goes.keeping.behind; keeping = does.goes.keeping; has_run = does.goes.has_run; rose = does.goes.rose; told = does.goes.told };
  }

  -- one stretch, at whose end the client is kept, after another
  pub does_then : (T S R : Trace → Type 0) (a b c : SessionState) (k : Log) (i j l : Option Images) (t u v : Telling) → Does ships name T a b b.client.log i j t u → Does ships name S b c k j l u v
      → ((m n : Trace) → T m → S n → IsLastOrBefore b.client.log n.changes k → R (followed m n)) → Does ships name R a c k i l t v
  does_then T S R a b c k i j l t u v first second join =
      let kept_so = λ (trace : Trace). S trace × IsLastOrBefore b.client.log trace.changes k in
      let after : Does ships name kept_so b c k j l u v = does_as S kept_so b c k j l u v second (λ trace turn behind. (turn, behind)) in
      record {
        number = second.number ∙ first.number;
        goes = goes_then name a.client.number ships T kept_so R a.client.log b.client.log c.client.log k i j l t.runner u.runner v.runner t.link u.link v.link first.goes
            (subst (λ (n : ℕ). Goes n ships name kept_so b.client.log c.client.log k j l u.runner v.runner u.link v.link) first.number after.goes) (λ m n p q. join m n p q.0 q.1);
      }

  -- a stretch whose turns say that the client is kept at its end
  pub does_kept : (T : Log → Trace → Type 0) (a b : SessionState) (i j : Option Images) (t u : Telling) → (k : Log) × Does ships name (T k) a b k i j t u
      → ((k : Log) (trace : Trace) → T k trace → k ≡ b.client.log) → Does ships name (T b.client.log) a b b.client.log i j t u
  does_kept T a b i j t u does is =
      let same : does.0 ≡ b.client.log = is does.0 does.1.goes.trace does.1.goes.turn in
      subst (λ (k : Log). Does ships name (T k) a b k i j t u) same does.1

-- ---- of a route

module _ (route : Route) where
  -- nothing was done
  pub went_none : (T : Log → Trace → Type 0) (s : SessionState) (i : Option Images) (t : Telling) → IsKept i route.image s.client.number s.client.log → T s.client.log nothing → WentDoing route T s s i i t t
  went_none T s i t keeps turn = (s.client.log, does_none (is_some route.surrogate) route.image (T s.client.log) s i t keeps turn)

  pub kept_none : (T : Trace → Type 0) (s : SessionState) (i : Option Images) (t : Telling) → IsKept i route.image s.client.number s.client.log → T nothing → WentKept route T s s i i t t
  kept_none T s i t keeps turn = does_none (is_some route.surrogate) route.image T s i t keeps turn

  -- another relation of the same turns
  pub went_as : (T S : Log → Trace → Type 0) (a b : SessionState) (i j : Option Images) (t u : Telling) → WentDoing route T a b i j t u
      → ((k : Log) (trace : Trace) → T k trace → IsLastOrBefore a.client.log trace.changes k → S k trace) → WentDoing route S a b i j t u
  went_as T S a b i j t u went to = (went.0, does_as (is_some route.surrogate) route.image (T went.0) (S went.0) a b went.0 i j t u went.1 (to went.0))

  pub kept_as : (T : Trace → Type 0) (S : Log → Trace → Type 0) (a b : SessionState) (i j : Option Images) (t u : Telling) → WentKept route T a b i j t u
      → ((trace : Trace) → T trace → S b.client.log trace) → WentDoing route S a b i j t u
  kept_as T S a b i j t u went to = (b.client.log, does_as (is_some route.surrogate) route.image T (S b.client.log) a b b.client.log i j t u went (λ trace turn behind. to trace turn))

  -- one stretch, at whose end the client is kept, after another of the same kind
  pub kept_then : (T R : Trace → Type 0) (S : Log → Trace → Type 0) (a b c : SessionState) (i j l : Option Images) (t u v : Telling) → WentKept route T a b i j t u → WentDoing route S b c j l u v
      → ((k : Log) (n : Trace) → S k n → k ≡ c.client.log) → ((m n : Trace) → T m → S c.client.log n → R (followed m n)) → WentKept route R a c i l t v
  kept_then T R S a b c i j l t u v first second is join =
      does_then (is_some route.surrogate) route.image T (S c.client.log) R a b c c.client.log i j l t u v first (does_kept (is_some route.surrogate) route.image S b c j l u v second is) (λ m n f s behind. join m n f s)

  -- and after another that says what is kept at its end
  pub kept_next : (T : Trace → Type 0) (S R : Log → Trace → Type 0) (a b c : SessionState) (i j l : Option Images) (t u v : Telling) → WentKept route T a b i j t u → WentDoing route S b c j l u v
      → ((k : Log) (m n : Trace) → T m → S k n → R k (followed m n)) → WentDoing route R a c i l t v
  kept_next T S R a b c i j l t u v first second join =
      (second.0, does_then (is_some route.surrogate) route.image T (S second.0) (R second.0) a b c second.0 i j l t u v first second.1 (λ m n p q behind. join second.0 m n p q))
