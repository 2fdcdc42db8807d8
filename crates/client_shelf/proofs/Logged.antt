-- What logging entries one after the other makes of a log, and of a client that is in step.
use Rattle.std.proofs.Common.{◌≡◌, ◌≢◌, inl, inr, ℕ, zero, suc, ◌+◌, ◌<◌, ◌≤◌, length, List, [], ◌∷◌, ◌++◌, map, take, drop, get_or, Option, None, Some, Result, Ok, Err, refl, sym, ◌∙◌, ap, subst, append_assoc, false}
use Rattle.std.specs.Prelude.{IsSome}
use Rattle.std.specs.List.{AllByRecursion}
use Rattle.std.proofs.lemmas.List.{append-nil, take_more, take-append-drop}
use Rattle.std.proofs.Math.Seq.{take-nil}
use Rattle.tree_values.specs.Lists.{IsIn}
use Rattle.tree_values.specs.Tree.{Volume}
use Rattle.tree_values.specs.Spelling.{EffectsFit}
use Rattle.tree_values.specs.declared.node.Effect.{Effect}
use Rattle.mod_log.specs.declared.origin.Origin.{Origin}
use Rattle.mod_log.specs.declared.log.Entry.{Entry}
use Rattle.mod_log.specs.declared.log.LogError.{LogError}
use Rattle.mod_log.specs.Log.{Log, IsLog, logged, new_log_of}
use Rattle.mod_log.specs.Append.{appended}
use Rattle.mod_log.proofs.Entries.{legal_each}
use Rattle.mod_log.proofs.Appending.{appended_adds}
use Rattle.store_image.specs.declared.record.ClientRecord.{ClientRecord}
use Rattle.store_image.specs.declared.record.ClientRecord.TheVariants.{Logged}
use Rattle.store_image.specs.Records.{with_records}
use Rattle.wire_frames.specs.declared.message.Message.{Message}
use Rattle.world_rules.specs.World.{World}
use Rattle.world_rules.specs.InStep.{InStep, HasNoCollision}
use Rattle.world_rules.specs.Run.{kept_at, Logs}
use Rattle.world_rules.proofs.Runs.{move_keeps}
use Rattle.client_core.specs.Logging.{local_entry}
use Rattle.client_core.proofs.Locals.{appended-is}
use Rattle.client_shelf.specs.Shelving.{appended_on, appended_each, appended_all}

-- ---- which entries are logged

each_refused : (lists : List (List Effect)) (refusal : LogError) → appended_each (Err refusal) lists ≡ Err refusal
each_refused [] refusal = refl
each_refused (effects ∷ lists) refusal = each_refused lists refusal

-- no command made the entry
abbrev pub IsLocal : Entry → Type 0
IsLocal entry = entry.origin ≡ None

-- these entries lead from one log to the other, each of the effects in its place, and a front of the effects logs a front of them
pub record LogsAs (lists : List (List Effect)) (before after : Log) : Type 0 where
  pub entries : List Entry
  pub leads : after ≡ with_records before (map Logged entries)
  pub effects_are : map (λ (e : Entry). e.effects) entries ≡ lists
  pub local : AllByRecursion IsLocal entries
  pub front : (count : ℕ) → appended_all (take count lists) before ≡ Ok (with_records before (take count (map Logged entries)))

ok_same : {T E : Type 0} (a b : T) (r : Result T E) → r ≡ Ok a → r ≡ Ok b → a ≡ b
ok_same a b r is also = let same = sym is ∙ also in cc

not_both : {T E : Type 0} (a : T) (e : E) (r : Result T E) → r ≡ Ok a → r ≡ Err e → ⊥
not_both a e r is also = let same = sym is ∙ also in absurd (cc)

-- a first entry, and those of the others
logs_first : (effects : List Effect) (lists : List (List Effect)) (before middle after : Log) → appended None effects before ≡ Ok middle → LogsAs lists middle after → LogsAs (effects ∷ lists) before after
logs_first effects lists before middle after is rest =
    record {
      entries = entry ∷ rest.entries;
      leads = rest.leads ∙ ap (λ (l : Log). with_records l (map Logged rest.entries)) (sym next);
      effects_are = ap (λ more. effects ∷ more) rest.effects_are;
      local = (refl, rest.local);
      front = fronts;
    }
  where
    entry : Entry
    entry = local_entry effects before

    next : logged (local_entry effects before) before ≡ middle
    next = appended-is None effects before middle is

    fronts : (count : ℕ) → appended_all (take count (effects ∷ lists)) before ≡ Ok (with_records before (take count (map Logged (local_entry effects before ∷ rest.entries))))
    fronts zero = refl
    fronts (suc count) =
        ap (λ (r : Result Log LogError). appended_each r (take count lists)) is ∙ rest.front count
        ∙ ap (λ (l : Log). Ok (with_records l (take count (map Logged rest.entries)))) (sym (appended-is None effects before middle is))

logs_by : (effects : List Effect) (lists : List (List Effect)) (before after : Log) (r : Result Log LogError) → appended None effects before ≡ r → appended_each r lists ≡ Ok after
    → ((middle : Log) → appended_each (Ok middle) lists ≡ Ok after → LogsAs lists middle after) → LogsAs (effects ∷ lists) before after
logs_by effects lists before after (Ok middle) is e rest = logs_first effects lists before middle after is (rest middle e)
logs_by effects lists before after (Err refusal) is e rest = absurd (not_both after refusal (appended_each (Err refusal) lists) e (each_refused lists refusal))

pub logs_as : (lists : List (List Effect)) (before after : Log) → appended_all lists before ≡ Ok after → LogsAs lists before after
logs_as [] before after e = record { entries = []; leads = ok_same after before (Ok before) e refl; effects_are = refl; local = tt; front = front }
  where
    front : (count : ℕ) → appended_all (take count []) before ≡ Ok (with_records before (take count (map Logged [])))
    front count =
        ap (λ lists. appended_all lists before) (take-nil count) ∙ ap (λ (notes : List ClientRecord). Ok (with_records before notes)) (sym (take-nil count))
logs_as (effects ∷ lists) before after e = logs_by effects lists before after (appended None effects before) refl e (λ middle rest. logs_as lists middle after rest)

-- the entries stand behind those that were pending
pub logged_behind : (before : Log) (entries : List Entry)
    → with_records before (map Logged entries) ≡ record { acked = before.acked; base = before.base; pending = before.pending ++ entries }
logged_behind before [] = λ i. record { acked = before.acked; base = before.base; pending = sym (append-nil before.pending) i }
logged_behind before (entry ∷ entries) =
    logged_behind (logged entry before) entries
    ∙ ap (λ (pending : List Entry). record { acked = before.acked; base = before.base; pending = pending }) (append_assoc before.pending (entry ∷ []) entries)

-- behind rows they are all that is pending
pub logged_on_rows : (seen : Volume) (lists : List (List Effect)) (log : Log) → appended_all lists (new_log_of 0 seen) ≡ Ok log
    → (log.acked ≡ 0) × (log.base ≡ seen) × (map (λ (e : Entry). e.effects) log.pending ≡ lists) × AllByRecursion IsLocal log.pending
logged_on_rows seen lists log e =
    let whole = logs_as lists (new_log_of 0 seen) log e in
    let is : log ≡ record { acked = 0; base = seen; pending = whole.entries } = whole.leads ∙ logged_behind (new_log_of 0 seen) whole.entries in (
      ap (λ (l : Log). l.acked) is,
      ap (λ (l : Log). l.base) is,
      ap (λ (l : Log). map (λ (e : Entry). e.effects) l.pending) is ∙ whole.effects_are,
      subst (λ (l : Log). AllByRecursion IsLocal l.pending) (sym is) whole.local,
    )

-- ---- the client stays in step

all_in : {X : Type 0} (P : X → Type 0) (x : X) (xs : List X) → AllByRecursion P xs → IsIn x xs → P x
all_in P x (y ∷ ys) all (inl is) = subst P (sym is) all.0
all_in P x (y ∷ ys) all (inr among) = all_in P x ys all.1 among
all_in P x [] all among = absurd among

all_push : {X : Type 0} (P : X → Type 0) (xs : List X) (x : X) → AllByRecursion P xs → P x → AllByRecursion P (xs ++ x ∷ [])
all_push P [] x all p = (p, tt)
all_push P (y ∷ ys) x all p = (all.0, all_push P ys x all.1 p)

none_some : (origin : Option Origin) → origin ≡ None → IsSome origin → ⊥
none_some None is some = absurd (cc (some))
none_some (Some origin) is some = absurd (cc (is))

-- what no command made is shipped as it is
never_collide : (client : ℕ) (packets : List Message) (entries : List Entry) → AllByRecursion IsLocal entries → HasNoCollision client entries packets
never_collide client packets entries local sketched among x y writes carried same =
    absurd (none_some writes.0.origin (all_in IsLocal writes.0 entries local writes.1) writes.2)

-- one entry more
one_in_step : (client : ℕ) (world : World) (effects : List Effect) (before middle : Log) → EffectsFit effects → AllByRecursion IsLocal before.pending → appended None effects before ≡ Ok middle
    → InStep client before world → InStep client middle world × AllByRecursion IsLocal middle.pending
one_in_step client world effects before middle fit local is now =
    let next : logged (local_entry effects before) before ≡ middle = appended-is None effects before middle is in
    let log_is : IsLog middle = (appended_adds None effects before middle now.log_is tt (legal_each effects fit.each) fit.some is).1 in
    let here : InStep client (logged (local_entry effects before) before) world =
    move_keeps client false (kept_at before world) (Logs (local_entry effects before)) now (subst IsLog (sym next) log_is) (never_collide client world.packets before.pending local) in (
      subst (λ (l : Log). InStep client l world) next here,
      subst (λ (l : Log). AllByRecursion IsLocal l.pending) next (all_push IsLocal before.pending (local_entry effects before) local refl),
    )

step_by : (client : ℕ) (world : World) (effects : List Effect) (lists : List (List Effect)) (before after : Log) (r : Result Log LogError) → EffectsFit effects → AllByRecursion IsLocal before.pending
    → appended None effects before ≡ r → appended_each r lists ≡ Ok after → InStep client before world
    → ((middle : Log) → AllByRecursion IsLocal middle.pending → appended_each (Ok middle) lists ≡ Ok after → InStep client middle world → InStep client after world) → InStep client after world
step_by client world effects lists before after (Ok middle) fit local is e now rest =
    let here = one_in_step client world effects before middle fit local is now in rest middle here.1 e here.0
step_by client world effects lists before after (Err refusal) fit local is e now rest = absurd (not_both after refusal (appended_each (Err refusal) lists) e (each_refused lists refusal))

pub logs_in_step : (client : ℕ) (world : World) (lists : List (List Effect)) (before after : Log) → AllByRecursion EffectsFit lists → AllByRecursion IsLocal before.pending
    → appended_all lists before ≡ Ok after → InStep client before world → InStep client after world
logs_in_step client world [] before after fit local e now = subst (λ (l : Log). InStep client l world) (ok_same before after (Ok before) refl e) now
logs_in_step client world (effects ∷ lists) before after fit local e now =
    step_by client world effects lists before after (appended None effects before) fit.0 local refl e now (λ middle some rest here. logs_in_step client world lists middle after fit.1 some rest here)

-- ---- the loop

each-append : (xs ys : List (List Effect)) (r : Result Log LogError) → appended_each r (xs ++ ys) ≡ appended_each (appended_each r xs) ys
each-append [] ys r = refl
each-append (x ∷ xs) ys r = each-append xs ys (appended_on x r)

module _ (lists : List (List Effect)) (i : ℕ) (effects : List Effect) (start log : Log) (within : i < length lists) (is : effects ≡ get_or lists i effects) (so_far : appended_all (take i lists) start ≡ Ok log) where
  here : (r : Result Log LogError) → appended None effects log ≡ r → appended_all (take (i + 1) lists) start ≡ r
  here r e =
      let more : take (i + 1) lists ≡ take i lists ++ effects ∷ [] = take_more lists i effects within ∙ ap (λ x. take i lists ++ x ∷ []) (sym is) in
      ap (λ some. appended_all some start) more ∙ each-append (take i lists) (effects ∷ []) (Ok start) ∙ ap (λ (q : Result Log LogError). appended_each q (effects ∷ [])) so_far ∙ e

  pub one_more : (next : Log) → appended None effects log ≡ Ok next → appended_all (take (i + 1) lists) start ≡ Ok next
  one_more next e = here (Ok next) e

  pub one_refused : (refusal : LogError) → appended None effects log ≡ Err refusal → appended_all lists start ≡ Err refusal
  one_refused refusal e =
      ap (λ some. appended_all some start) (sym (take-append-drop (i + 1) lists)) ∙ each-append (take (i + 1) lists) (drop (i + 1) lists) (Ok start)
      ∙ ap (λ (q : Result Log LogError). appended_each q (drop (i + 1) lists)) (here (Err refusal) e) ∙ each_refused (drop (i + 1) lists) refusal
