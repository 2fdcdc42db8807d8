-- How a store goes on behind what is seen of an entry.
use Rattle.std.proofs.Common.{◌≡◌, ℕ, ◌+◌, ◌-◌, ◌≤◌, Bool, true, false, List, [], ◌∷◌, ◌++◌, length, set, Result, Ok, Err, refl, sym, ap, ◌∙◌, subst, arith, true≢false}
use Rattle.std.specs.Prelude.{if◌then◌else◌, OnOk, Vec}
use Rattle.std.specs.declared.alloc.Global.{Global}
use Rattle.tree_values.specs.Tree.{Volume}
use Rattle.tree_values.specs.declared.node.TreeError.{TreeError}
use Rattle.file_paths.specs.Path.{FilePath}
use Rattle.wire_frames.specs.declared.parts.Part.{Part}
use Rattle.world_rules.specs.Served.{Served, IsServed, StoreVerdict, Repeated, Early, Outdated, Refused, Taken, verdict, served_after, passes, served_through, verdict_through}
use Rattle.world_rules.specs.Served.{TakenEntry, entry_stored, taken_if, taken_through}
use Rattle.server_core.specs.declared.server.Underway.{Underway}
use Rattle.server_core.specs.declared.server.Looked.{Looked}
use Rattle.server_core.specs.declared.server.Looked.TheVariants as looks
use Rattle.tree_values.specs.declared.node.Row.{Row}
use Rattle.vol_tree.specs.Undos.{undone_all}
use Rattle.wire_frames.specs.Frame.{IsValid}
use Rattle.server_core.specs.Holding.{Holding, last_number}
use Rattle.server_core.specs.Framing.{is_any}
use Rattle.server_core.specs.Inside.{IsUnderway, IsLookedAs, CanTakeBack, reply_to, reply_through, store_undone}
use Rattle.server_core.proofs.Underway.{first_sound}
use Rattle.server_core.proofs.Numbers.{back_is}

-- ---- what is seen tells the verdict

-- whether the next entry is looked at, too
abbrev pub is_on : Looked → Bool
is_on looks.Repeated = true
is_on (looks.Taken undos) = true
is_on looked = false

pub seen_on : (j : StoreVerdict) (looked : Looked) → IsLookedAs j looked → is_on looked ≡ true → passes j ≡ true
seen_on Repeated looked seen on = refl
seen_on (Taken volume) looked seen on = refl
seen_on Early looks.Repeated seen on = absurd seen
seen_on Early looks.Early seen on = on
seen_on Early (looks.Outdated path theirs ours) seen on = absurd seen
seen_on Early (looks.Refused index fault) seen on = absurd seen
seen_on Early (looks.Taken undos) seen on = absurd seen
seen_on (Outdated conflict) looks.Repeated seen on = absurd seen
seen_on (Outdated conflict) looks.Early seen on = absurd seen
seen_on (Outdated conflict) (looks.Outdated path theirs ours) seen on = on
seen_on (Outdated conflict) (looks.Refused index fault) seen on = absurd seen
seen_on (Outdated conflict) (looks.Taken undos) seen on = absurd seen
seen_on (Refused cause) looks.Repeated seen on = absurd seen
seen_on (Refused cause) looks.Early seen on = absurd seen
seen_on (Refused cause) (looks.Outdated path theirs ours) seen on = absurd seen
seen_on (Refused cause) (looks.Refused index fault) seen on = on
seen_on (Refused cause) (looks.Taken undos) seen on = absurd seen

pub seen_outdated : (j : StoreVerdict) (path : FilePath) (theirs ours : ℕ) → IsLookedAs j (looks.Outdated path theirs ours) → j ≡ Outdated (record { path = path; theirs = theirs; ours = ours })
seen_outdated Repeated path theirs ours seen = absurd seen
seen_outdated Early path theirs ours seen = absurd seen
seen_outdated (Outdated conflict) path theirs ours seen = ap (λ c. Outdated c) seen
seen_outdated (Refused cause) path theirs ours seen = absurd seen
seen_outdated (Taken volume) path theirs ours seen = absurd seen

pub seen_refused : (j : StoreVerdict) (index : ℕ) (fault : TreeError) → IsLookedAs j (looks.Refused index fault) → j ≡ Refused (index, fault)
seen_refused Repeated index fault seen = absurd seen
seen_refused Early index fault seen = absurd seen
seen_refused (Outdated conflict) index fault seen = absurd seen
seen_refused (Refused cause) index fault seen = ap (λ c. Refused c) seen
seen_refused (Taken volume) index fault seen = absurd seen

pub seen_taken : (j : StoreVerdict) (undos : Vec (List Row) Global) → IsLookedAs j (looks.Taken undos) → (volume : Volume) × (j ≡ Taken volume)
seen_taken Repeated undos seen = absurd seen
seen_taken Early undos seen = absurd seen
seen_taken (Outdated conflict) undos seen = absurd seen
seen_taken (Refused cause) undos seen = absurd seen
seen_taken (Taken volume) undos seen = (volume, refl)

-- whether the entry is taken
abbrev pub is_taking : Looked → Bool
is_taking (looks.Taken undos) = true
is_taking looked = false

-- an entry that is not taken changes nothing
pub seen_still : (client number : ℕ) (old new : Holding) (looked : Looked) → is_taking looked ≡ false → CanTakeBack client number old new looked → new ≡ old
seen_still client number old new looks.Repeated not can = can
seen_still client number old new looks.Early not can = can
seen_still client number old new (looks.Outdated path theirs ours) not can = can
seen_still client number old new (looks.Refused index fault) not can = can
seen_still client number old new (looks.Taken undos) not can = absurd (true≢false not)

-- what follows from what a result says
pub on_ok : {T E P Q : Type 0} (r : Result T E) → (P → Q) → OnOk r P → OnOk r Q
on_ok (Ok x) f p = f p
on_ok (Err e) f p = p

idle_behind : (first second : List TakenEntry) → is_any (first ++ second) ≡ false → is_any second ≡ false
idle_behind [] second none = none
idle_behind (entry ∷ entries) second none = absurd (true≢false none)

-- ---- how the store goes on

module _ (store : Underway) (done : ℕ) (part : Part) (parts : List Part) (s : Served) where
  abbrev j : StoreVerdict
  j = verdict store.client (store.number + done) part.effects part.base s

  abbrev next : Served
  next = served_after store.client (store.number + done) j s

  -- behind an entry that is passed
  pub on_state : (s' : Served) → passes j ≡ true → s' ≡ next → served_through store.client (store.number + (done + 1)) parts s' ≡ served_through store.client (store.number + done) (part ∷ parts) s
  on_state s' on is =
      let number : store.number + (done + 1) ≡ store.number + done + 1 = omega arith in
      (λ i. served_through store.client (number i) parts (is i))
      ∙ sym (ap (λ (b : Bool). if b then served_through store.client (store.number + done + 1) parts next else next) on)

  on_end : (s' : Served) → passes j ≡ true → s' ≡ next → verdict_through store.client (store.number + (done + 1)) parts s' ≡ verdict_through store.client (store.number + done) (part ∷ parts) s
  on_end s' on is =
      let number : store.number + (done + 1) ≡ store.number + done + 1 = omega arith in
      (λ i. verdict_through store.client (number i) parts (is i))
      ∙ sym (ap (λ (b : Bool). if b then verdict_through store.client (store.number + done + 1) parts next else j) on)

  pub on_reply : (s' : Served) → passes j ≡ true → s' ≡ next → reply_through store (done + 1) parts s' ≡ reply_through store done (part ∷ parts) s
  on_reply s' on is =
      let state = on_state s' on is in
      let end = on_end s' on is in
      λ i. reply_to store ((state i).last store.client) (end i)

  -- where nothing is taken, nothing is behind it
  pub on_idle : (s' : Served) → passes j ≡ true → s' ≡ next → is_any (taken_through store.client (store.number + done) (part ∷ parts) s) ≡ false → is_any (taken_through store.client (store.number + (done + 1)) parts s') ≡ false
  on_idle s' on is none =
      let number : store.number + (done + 1) ≡ store.number + done + 1 = omega arith in
      let here = taken_if j (entry_stored store.client (store.number + done) part.effects part.base) in
      let all : taken_through store.client (store.number + done) (part ∷ parts) s ≡ here ++ taken_through store.client (store.number + done + 1) parts next =
      ap (λ (b : Bool). here ++ (if b then taken_through store.client (store.number + done + 1) parts next else [])) on in
      (λ i. is_any (taken_through store.client (number i) parts (is i))) ∙ idle_behind here (taken_through store.client (store.number + done + 1) parts next) (sym (ap is_any all) ∙ none)

  -- an entry that is taken is something
  pub taken_any : (volume : Volume) → j ≡ Taken volume → is_any (taken_through store.client (store.number + done) (part ∷ parts) s) ≡ true
  taken_any volume is =
      let stored = entry_stored store.client (store.number + done) part.effects part.base in
      ap
      (λ (v : StoreVerdict). is_any (taken_if v stored ++ (if passes v then taken_through store.client (store.number + done + 1) parts (served_after store.client (store.number + done) v s) else [])))
      is

  -- at an entry that is not
  pub ends_state : (judgement : StoreVerdict) → j ≡ judgement → passes judgement ≡ false → served_after store.client (store.number + done) judgement s ≡ s → served_through store.client (store.number + done) (part ∷ parts) s ≡ s
  ends_state judgement is stops same =
      ap (λ (v : StoreVerdict). if passes v then served_through store.client (store.number + done + 1) parts (served_after store.client (store.number + done) v s) else served_after store.client (store.number + done) v s) is
      ∙ ap (λ (b : Bool). if b then served_through store.client (store.number + done + 1) parts (served_after store.client (store.number + done) judgement s) else served_after store.client (store.number + done) judgement s) stops
      ∙ same

  ends_end : (judgement : StoreVerdict) → j ≡ judgement → passes judgement ≡ false → verdict_through store.client (store.number + done) (part ∷ parts) s ≡ judgement
  ends_end judgement is stops =
      ap (λ (v : StoreVerdict). if passes v then verdict_through store.client (store.number + done + 1) parts (served_after store.client (store.number + done) v s) else v) is
      ∙ ap (λ (b : Bool). if b then verdict_through store.client (store.number + done + 1) parts (served_after store.client (store.number + done) judgement s) else judgement) stops

  pub ends_reply : (judgement : StoreVerdict) → j ≡ judgement → passes judgement ≡ false → served_after store.client (store.number + done) judgement s ≡ s → reply_to store (s.last store.client) judgement ≡ reply_through store done (part ∷ parts) s
  ends_reply judgement is stops same =
      let state = ends_state judgement is stops same in
      let end = ends_end judgement is stops in
      sym (λ i. reply_to store ((state i).last store.client) (end i))

  -- its reply is valid
  pub ends_valid : IsUnderway store done (part ∷ parts) s → IsServed s → (last : ℕ) → last ≡ s.last store.client → (judgement : StoreVerdict) → j ≡ judgement → passes judgement ≡ false → IsValid (reply_to store last judgement)
  ends_valid under legal last same judgement is stops =
      let sound = first_sound store done part parts s under legal in
      let valid = sound.valid (ap (λ (v : StoreVerdict). passes v) is ∙ stops) in
      let back = sym same in
      let told : reply_to store (s.last store.client) j ≡ reply_to store last judgement = λ i. reply_to store (back i) (is i) in
      subst IsValid told valid

-- ---- taking an entry back

pub back_to : (client number last : ℕ) (old seen mid : Holding) (items : List (List Row)) → undone_all items seen.rows ≡ old.rows → seen.last ≡ set old.last (client - 1) number → mid ≡ seen
    → last ≡ last_number old.last client → 1 ≤ client → client ≤ length old.last → store_undone client last items mid ≡ old
back_to client number last old seen mid items rows lasts mid_is last_is low high =
    let mid_rows : undone_all items mid.rows ≡ old.rows = ap (λ (h : Holding). undone_all items h.rows) mid_is ∙ rows in
    let mid_lasts : mid.last ≡ set old.last (client - 1) number = ap (λ (h : Holding). h.last) mid_is ∙ lasts in
    ap (λ (n : ℕ). store_undone client n items mid) last_is ∙ back_is old mid client number items low high mid_rows mid_lasts
