-- What a server answers to a valid store or pull is valid, and what it holds then is legal.
use Rattle.std.proofs.Common.{◌≡◌, ◌⊎◌, inl, inr, ⊎_elim, ℕ, ◌+◌, ◌-◌, ◌<◌, ◌≤◌, Bool, true, false, true≢false, not, cond, List, [], ◌∷◌, length, find, Option, Some, None, option_map, Result, Ok, Err, refl, sym, ap, ◌∙◌, subst, arith}
use Rattle.std.specs.Prelude.{◌==◌, ◌^◌, nat_lt, nat_le, ◌&&◌, if◌then◌else◌}
use Rattle.std.specs.List.{AllByRecursion}
use Rattle.std.proofs.lemmas.Bool.Decides.{nat_tests}
use Rattle.file_paths.specs.Path.{FilePath, IsPath, folder_of}
use Rattle.file_paths.specs.Refusals.{when, unless_refused}
use Rattle.tree_values.specs.declared.node.Row.{Row}
use Rattle.tree_values.specs.declared.node.Base.{Base}
use Rattle.tree_values.specs.declared.node.Effect.{Effect}
use Rattle.tree_values.specs.declared.node.Effect.TheVariants.{Make, Put, Remove, Move, Mode}
use Rattle.tree_values.specs.declared.node.TreeError.{TreeError}
use Rattle.tree_values.specs.declared.node.TreeError.TheVariants.{NotEmpty}
use Rattle.tree_values.specs.Tree.{Volume, IsRow, IsTree, version_at, is_child, refusals, apply, changed}
use Rattle.tree_values.specs.Effects.{apply_all, unless_refused_at, Conflict, first_conflict}
use Rattle.tree_values.specs.Spelling.{EffectFits, BaseFits}
use Rattle.file_paths.proofs.PathLemmas.{front_is_path}
use Rattle.tree_values.proofs.Undoing.{find_among}
use Rattle.vol_tree.proofs.Behind.{applied-tree, applied_all-tree}
use Rattle.wire_frames.specs.Fault.{UnfitFits, FullFits}
use Rattle.wire_frames.specs.Frame.{ConflictFits, IsValid}
use Rattle.wire_frames.specs.declared.message.Message.{Message}
use Rattle.wire_frames.specs.declared.message.Message.TheVariants.{Store, Pull, Accepted, Unfit, Full}
use Rattle.wire_frames.specs.declared.parts.Part.{Part}
use Rattle.wire_frames.specs.Parts.{PartFits}
use Rattle.world_rules.specs.Served.{Served, IsServed, with_last, StoreVerdict, Repeated, Early, Outdated, Refused, Taken, judged, verdict, served_after, passes, served_through, verdict_through, is_want_of_room, refusal, end_of, reply, answer, state_after}
use Rattle.world_rules.specs.World.{IsForServer}
use Rattle.world_rules.proofs.Sending.{some_parts, small_parts}
use Rattle.byte_fields.proofs.Facts.{eq_itself, le_holds, le_of, lt_of, not_lt_of}
use Rattle.mod_log.proofs.BasesFit.{version-small}
use Rattle.mod_log.proofs.Entries.{legal_each}

-- ---- what a refused effect names

-- Full can tell a want of room, and Unfit any other refusal
abbrev pub IsTold : TreeError → Type 0
IsTold fault = ((is_want_of_room fault ≡ true) × FullFits fault) ⊎ ((is_want_of_room fault ≡ false) × UnfitFits fault)

-- whatever refusal stands here can be told
abbrev pub Tells : Option TreeError → Type 0
Tells found = (fault : TreeError) → found ≡ Some fault → IsTold fault

tells : (told : TreeError) → IsTold told → Tells (Some told)
tells told is fault e = let same : told ≡ fault = cc in subst IsTold same is

tells_nothing : Tells None
tells_nothing fault e = absurd (cc)

tells_when : (test : Bool) (told : TreeError) → IsTold told → Tells (when test told)
tells_when true told is = tells told is
tells_when false told is = tells_nothing

tells_child : (p : FilePath) (rows : Volume) → IsPath p → AllByRecursion IsRow rows → Tells (option_map (λ child. NotEmpty p child.path) (find (is_child p) rows))
tells_child p rows path each = by (find (is_child p) rows) refl
  where
    by : (found : Option Row) → find (is_child p) rows ≡ found → Tells (option_map (λ child. NotEmpty p child.path) found)
    by None e = tells_nothing
    by (Some child) e = tells (NotEmpty p child.path) (inr (refl, (path, (find_among IsRow (is_child p) rows child each e).is_path)))

folder-path : (p : FilePath) → IsPath p → IsPath (folder_of p)
folder-path p path = front_is_path p (length p - 1) path

refusals-tell : (effect : Effect) (rows : Volume) → EffectFits effect → IsTree rows → AllByRecursion Tells (refusals effect rows)
refusals-tell (Make p) rows fits tree = (
  tells_when _ _ (inr (refl, tt)),
  (
    tells_when _ _ (inr (refl, folder-path p fits.0)),
    (
      tells_when _ _ (inr (refl, fits.0)),
      (
        tells_when _ _ (inl (refl, omega arith)),
        (
          tells_when _ _ (inr (refl, fits.0)),
          tt,
        ),
      ),
    ),
  ),
)
refusals-tell (Put p content) rows fits tree = (
  tells_when _ _ (inr (refl, tt)),
  (
    tells_when _ _ (inr (refl, folder-path p fits.0.0)),
    (
      tells_when _ _ (inr (refl, fits.0.0)),
      (
        tells_when _ _ (inl (refl, omega arith)),
        (
          tells_when _ _ (inr (refl, omega (arith, fits.1))),
          (
            tells_when _ _ (inl (refl, omega (arith, fits.1, tree.small))),
            (
              tells_when _ _ (inr (refl, fits.0.0)),
              tt,
            ),
          ),
        ),
      ),
    ),
  ),
)
refusals-tell (Remove p) rows fits tree = (
  tells_when _ _ (inr (refl, tt)),
  (
    tells_when _ _ (inr (refl, fits.0)),
    (
      tells_child p rows fits.0 tree.each,
      (
        tells_when _ _ (inr (refl, fits.0)),
        tt,
      ),
    ),
  ),
)
refusals-tell (Move p q) rows fits tree = (
  tells_when _ _ (inr (refl, tt)),
  (
    tells_when _ _ (inr (refl, folder-path q fits.0.1)),
    (
      tells_when _ _ (inr (refl, fits.0.1)),
      (
        tells_when _ _ (inr (refl, fits.0.0)),
        (
          tells_when _ _ (inr (refl, fits.0.0)),
          (
            tells_when _ _ (inl (refl, omega arith)),
            (
              tells_when _ _ (inr (refl, fits.0.0)),
              (
                tells_when _ _ (inr (refl, fits.0.1)),
                tt,
              ),
            ),
          ),
        ),
      ),
    ),
  ),
)
refusals-tell (Mode p exec) rows fits tree = (
  tells_when _ _ (inr (refl, tt)),
  (
    tells_when _ _ (inr (refl, fits.0)),
    (
      tells_when _ _ (inr (refl, fits.0)),
      (
        tells_when _ _ (inr (refl, fits.0)),
        tt,
      ),
    ),
  ),
)

first_refused : (all : List (Option TreeError)) (value : Volume) (fault : TreeError) → AllByRecursion Tells all → unless_refused all value ≡ Err fault → IsTold fault
first_refused [] value fault each e = absurd (cc)
first_refused (None ∷ rest) value fault each e = first_refused rest value fault each.1 e
first_refused (Some told ∷ rest) value fault each e = let same : told ≡ fault = cc in each.0 fault (ap Some same)

-- a refused effect that fits names what a message can tell
pub refused-told : (effect : Effect) (rows : Volume) (fault : TreeError) → EffectFits effect → IsTree rows → apply effect rows ≡ Err fault → IsTold fault
refused-told effect rows fault fits tree e = first_refused (refusals effect rows) (changed effect rows) fault (refusals-tell effect rows fits tree) e

-- of effects in a row, the first that is refused is one of them, and its refusal can be told
pub refused_all-told : (effects : List Effect) (at : ℕ) (rows : Volume) (cause : ℕ × TreeError) → AllByRecursion EffectFits effects → IsTree rows → apply_all at effects rows ≡ Err cause
    → (cause.0 < at + length effects) × IsTold cause.1
refused_all-told [] at rows cause fits tree e = absurd (cc)
refused_all-told (effect ∷ later) at rows cause fits tree e = by (apply effect rows) refl e (λ next h. refused_all-told later (at + 1) next cause fits.1 h)
  where
    by : (r : Result Volume TreeError) → apply effect rows ≡ r → unless_refused_at at r (apply_all (at + 1) later) ≡ Err cause
        → ((next : Volume) → IsTree next → apply_all (at + 1) later next ≡ Err cause → (cause.0 < at + 1 + length later) × IsTold cause.1)
        → (cause.0 < at + length (effect ∷ later)) × IsTold cause.1
    by (Ok next) is e rest = let last = rest next (applied-tree effect rows next tree fits.0.0 is) e in (omega (arith, last.0), last.1)
    by (Err fault) is e rest =
        let same : (at, fault) ≡ cause = cc in
        let index : at ≡ cause.0 = ap (λ (c : ℕ × TreeError). c.0) same in
        (omega (arith, index), subst (λ (c : ℕ × TreeError). IsTold c.1) same (refused-told effect rows fault fits.0 tree is))

-- ---- what a base and a tree hold

differ : (theirs ours : ℕ) → (theirs == ours) ≡ false → not (ours == theirs) ≡ true
differ theirs ours e = grind (arith, nat_tests)

conflict-fits : (bases : List Base) (rows : Volume) (c : Conflict) → AllByRecursion BaseFits bases → IsTree rows → first_conflict bases rows ≡ Some c → ConflictFits c
conflict-fits [] rows c fits tree e = absurd (cc)
conflict-fits (base ∷ bases) rows c fits tree e = by (version_at rows base.path == base.version) refl e (conflict-fits bases rows c fits.1 tree)
  where
    by : (b : Bool) → (version_at rows base.path == base.version) ≡ b → cond b (first_conflict bases rows) (Some (record { path = base.path; theirs = version_at rows base.path; ours = base.version })) ≡ Some c
        → (first_conflict bases rows ≡ Some c → ConflictFits c) → ConflictFits c
    by true is e rest = rest e
    by false is e rest =
        let same : record { path = base.path; theirs = version_at rows base.path; ours = base.version } ≡ c = cc in
        subst ConflictFits same (fits.0.0, version-small rows base.path tree, fits.0.1, differ _ _ is)

-- ---- what is served then

with_last-small : (last : ℕ → ℕ) (client number other : ℕ) → last other < 2 ^ 64 → number < 2 ^ 64 → with_last last client number other < 2 ^ 64
with_last-small last client number other old new = by (other == client)
  where
    by : (b : Bool) → (if b then number else last other) < 2 ^ 64
    by true = new
    by false = old

-- the number of a client that is not the given one is as before
with_last-other : (last : ℕ → ℕ) (client number other : ℕ) → (other == client) ≡ false → with_last last client number other ≡ last other
with_last-other last client number other e =
    let P : Bool → Type 0 = λ b. (if b then number else last other) ≡ last other in subst P (sym e) refl

apart_below : (client : ℕ) → 1 ≤ client → (0 == client) ≡ false
apart_below client low = grind (arith, nat_tests)

apart_above : (client other : ℕ) → client ≤ 64 → 64 < other → (other == client) ≡ false
apart_above client other high above = grind (arith, nat_tests)

-- a tree with one client's number raised is legal
pub raised-legal : (client number : ℕ) (volume : Volume) (s : Served) → 1 ≤ client → client ≤ 64 → number < 2 ^ 64 → IsTree volume → IsServed s → IsServed (record { volume = volume; last = with_last s.last client number })
raised-legal client number volume s low high small tree served = record {
  tree = tree;
  small = λ other. with_last-small s.last client number other (served.small other) small;
  of_none = with_last-other s.last client number 0 (apart_below client low) ∙ served.of_none;
  of_no_others = λ other above. with_last-other s.last client number other (apart_above client other high above) ∙ served.of_no_others other above;
}

pub client_low : (client : ℕ) → (nat_le 1 client && nat_le client 64) ≡ true → 1 ≤ client
client_low client e = grind (arith, nat_tests)

pub client_high : (client : ℕ) → (nat_le 1 client && nat_le client 64) ≡ true → client ≤ 64
client_high client e = grind (arith, nat_tests)

-- and the given one's is the given number
with_last-own : (last : ℕ → ℕ) (client number : ℕ) → with_last last client number client ≡ number
with_last-own last client number = ap (λ b. if b then number else last client) (eq_itself client)

-- ---- the answers

module _ (client number end : ℕ) (client_fits : (nat_le 1 client && nat_le client 64) ≡ true) (number_fits : nat_le 1 number ≡ true) (number_small : number < 2 ^ 64) (end_small : end < 2 ^ 64) (behind : number ≤ end) where
  pub refusal-valid : (upto index : ℕ) (fault : TreeError) → upto < 2 ^ 64 → number ≤ upto + 1 → index < 2 ^ 32 → IsTold fault → IsValid (refusal client number upto index fault)
  refusal-valid upto index fault small low index_fits told = ⊎_elim
      (λ full.
      let P : Bool → Type 0 = λ b. IsValid (if b then Full client number upto index fault else Unfit client number upto index fault) in
      subst P (sym full.0) (record { client_fits = client_fits; number_fits = number_fits; number_small = number_small; body_fits = ((small, le_holds number (upto + 1) low), index_fits, full.1) }))
      (λ unfit.
      let P : Bool → Type 0 = λ b. IsValid (if b then Full client number upto index fault else Unfit client number upto index fault) in
      subst P (sym unfit.0) (record { client_fits = client_fits; number_fits = number_fits; number_small = number_small; body_fits = ((small, le_holds number (upto + 1) low), index_fits, unfit.1) }))
      told

  pub accepted-valid : IsValid (Accepted client number end)
  accepted-valid = record { client_fits = client_fits; number_fits = number_fits; number_small = number_small; body_fits = (end_small, le_holds number end behind) }

  -- ---- one entry

  -- What the verdict on the entry of number `n` says: what is served then is legal, where the next is looked at, too, this one is
  -- taken, and where it is not, a valid reply is given.
  pub record IsSound (n : ℕ) (s : Served) (judgement : StoreVerdict) : Type 0 where
    pub legal : IsServed (served_after client n judgement s)
    pub up : passes judgement ≡ true → n ≤ (served_after client n judgement s).last client
    pub valid : passes judgement ≡ false → IsValid (reply client number end (s.last client) judgement)

  pub entry_sound : (n : ℕ) (part : Part) (s : Served) → PartFits part → IsServed s → number ≤ n → n < 2 ^ 64 → (n ≡ number) ⊎ (n ≤ s.last client + 1) → IsSound n s (verdict client n part.effects part.base s)
  entry_sound n part s fits served low small next =
      by (nat_le n (s.last client)) refl (nat_lt (s.last client + 1) n) refl (first_conflict part.base s.volume) refl (apply_all 0 part.effects s.volume) refl
    where
      -- the number is not too far on
      near : nat_lt (s.last client + 1) n ≡ false → number ≤ s.last client + 1
      near e = omega (arith, not_lt_of (s.last client + 1) n e, low)

      early : nat_lt (s.last client + 1) n ≡ true → s.last client + 2 ≤ number
      early e = ⊎_elim (λ (is : n ≡ number). omega (arith, lt_of (s.last client + 1) n e, is)) (λ (le : n ≤ s.last client + 1). absurd (omega (arith, lt_of (s.last client + 1) n e, le))) next

      by : (repeated : Bool) → nat_le n (s.last client) ≡ repeated → (beyond : Bool) → nat_lt (s.last client + 1) n ≡ beyond → (conflict : Option Conflict) → first_conflict part.base s.volume ≡ conflict
          → (applied : Result Volume (ℕ × TreeError)) → apply_all 0 part.effects s.volume ≡ applied → IsSound n s (judged repeated beyond conflict applied)
      by true is_repeated beyond is_beyond conflict is_conflict applied is_applied = record { legal = served; up = λ e. le_of n (s.last client) is_repeated; valid = λ e. absurd (true≢false e) }
      by false is_repeated true is_beyond conflict is_conflict applied is_applied = record {
        legal = served;
        up = λ e. absurd (true≢false (sym e));
        valid = λ e. record { client_fits = client_fits; number_fits = number_fits; number_small = number_small; body_fits = (served.small client, le_holds (s.last client + 2) number (early is_beyond)) };
      }
      by false is_repeated false is_beyond (Some conflict) is_conflict applied is_applied = record {
        legal = served;
        up = λ e. absurd (true≢false (sym e));
        valid = λ e. record {
          client_fits = client_fits;
          number_fits = number_fits;
          number_small = number_small;
          body_fits = ((served.small client, le_holds number (s.last client + 1) (near is_beyond)), conflict-fits part.base s.volume conflict fits.1.1 served.tree is_conflict);
        };
      }
      by false is_repeated false is_beyond None is_conflict (Err cause) is_applied =
          let told = refused_all-told part.effects 0 s.volume cause fits.0.each served.tree is_applied in
          record {
            legal = served;
            up = λ e. absurd (true≢false (sym e));
            valid = λ e. refusal-valid (s.last client) cause.0 cause.1 (served.small client) (near is_beyond) (omega (arith, told.0, fits.0.few)) told.1;
          }
      by false is_repeated false is_beyond None is_conflict (Ok volume) is_applied = record {
        legal = raised-legal client n volume s (client_low client client_fits) (client_high client client_fits) small (applied_all-tree part.effects 0 s.volume volume served.tree (legal_each part.effects fits.0.each) is_applied) served;
        up = λ e. omega (arith, with_last-own s.last client n);
        valid = λ e. absurd (true≢false e);
      }

  -- ---- the entries of a store

  record AreSound (next : Served) (judgement : StoreVerdict) : Type 0 where
    legal : IsServed next
    valid : IsValid (reply client number end (next.last client) judgement)

  entries_sound : (n : ℕ) (parts : List Part) (s : Served) → AllByRecursion PartFits parts → IsServed s → number ≤ n → n + length parts ≤ 18446744073709551616 → (n ≡ number) ⊎ (n ≤ s.last client + 1)
      → AreSound (served_through client n parts s) (verdict_through client n parts s)
  entries_sound n [] s fits served low small next = record { legal = served; valid = accepted-valid }
  entries_sound n (part ∷ parts) s fits served low small next =
      let judgement = verdict client n part.effects part.base s in
      let first = entry_sound n part s fits.0 served low (omega (arith, small)) next in
      by judgement first (λ up. entries_sound (n + 1) parts (served_after client n judgement s) fits.1 first.legal (omega (arith, low)) (omega (arith, small)) (inr (omega (arith, up))))
    where
      by : (j : StoreVerdict) → IsSound n s j → (n ≤ (served_after client n j s).last client → AreSound (served_through client (n + 1) parts (served_after client n j s)) (verdict_through client (n + 1) parts (served_after client n j s)))
          → AreSound (if passes j then served_through client (n + 1) parts (served_after client n j s) else served_after client n j s) (if passes j then verdict_through client (n + 1) parts (served_after client n j s) else j)
      by Repeated one rest = rest (one.up refl)
      by (Taken volume) one rest = rest (one.up refl)
      by Early one rest = record { legal = one.legal; valid = one.valid refl }
      by (Outdated conflict) one rest = record { legal = one.legal; valid = one.valid refl }
      by (Refused cause) one rest = record { legal = one.legal; valid = one.valid refl }

-- a valid store leaves what is served legal, and its reply is valid
pub store-sound : (client number : ℕ) (parts : List Part) (s : Served) → IsValid (Store client number parts) → IsServed s
    → IsServed (state_after (Store client number parts) s) × IsValid (answer (Store client number parts) s)
store-sound client number parts s valid served =
    let fits = valid.body_fits in
    let some = some_parts number parts fits in
    let small = small_parts number parts fits in
    let sound = entries_sound client number (end_of number parts) valid.client_fits valid.number_fits valid.number_small (omega (arith, some, small)) (omega (arith, some)) number parts s fits.each served (omega arith) small (inl refl) in
    (sound.legal, sound.valid)

-- the answer to a valid store or pull is valid
pub answer-valid : (m : Message) (s : Served) → IsValid m → IsServed s → IsForServer m → IsValid (answer m s)
answer-valid (Store client number parts) s valid served for_server = (store-sound client number parts s valid served).1
answer-valid (Pull client number) s valid served for_server =
    record { client_fits = valid.client_fits; number_fits = refl; number_small = valid.number_small; body_fits = (served.small client, served.tree) }
answer-valid _ s valid served for_server = absurd for_server

-- a valid message leaves what a server holds legal
pub state_after-legal : (m : Message) (s : Served) → IsValid m → IsServed s → IsServed (state_after m s)
state_after-legal (Store client number parts) s valid served = (store-sound client number parts s valid served).0
state_after-legal _ s valid served = served
