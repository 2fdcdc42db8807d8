-- What is so of each entry that is taken, and goes on from one to the next, is so of stores and of many messages.
use Rattle.std.proofs.Common.{◌≡◌, ℕ, ◌+◌, Bool, true, false, List, [], ◌∷◌, ◌++◌, Option, Some, None, Result, Ok, Err, refl, arith}
use Rattle.std.specs.Prelude.{nat_lt, nat_le, if◌then◌else◌}
use Rattle.std.proofs.lemmas.Bool.Decides.{nat_tests}
use Rattle.tree_values.specs.declared.node.Base.{Base}
use Rattle.tree_values.specs.declared.node.Effect.{Effect}
use Rattle.tree_values.specs.declared.node.TreeError.{TreeError}
use Rattle.tree_values.specs.Tree.{Volume}
use Rattle.tree_values.specs.Effects.{apply_all, Conflict, first_conflict}
use Rattle.wire_frames.specs.declared.parts.Part.{Part}
use Rattle.wire_frames.specs.declared.message.Message.{Message}
use Rattle.wire_frames.specs.declared.message.Message.TheVariants.{Store}
use Rattle.world_rules.specs.Served.{Served, TakenEntry, entry_stored, with_last, StoreVerdict, Repeated, Early, Outdated, Refused, Taken, judged, verdict, served_after, passes, served_through, state_after, taken_if, taken_through, taken_of}
use Rattle.server_core.specs.Laws.{state_after_all, taken_among}

-- the served state once a client's entry of this number led to this volume
abbrev pub raised_to : ℕ → ℕ → Volume → Served → Served
raised_to client number new s = record { volume = new; last = with_last s.last client number }

-- What is so where nothing is taken, and of one entry that is taken, and goes on.
pub record Rule (P : Served → List TakenEntry → Served → Type 0) : Type 0 where
  pub nothing : (s : Served) → P s [] s
  pub one : (client number : ℕ) (effects : List Effect) (base : List Base) (new : Volume) (s : Served) → number ≡ s.last client + 1 → apply_all 0 effects s.volume ≡ Ok new
      → P s (entry_stored client number effects base ∷ []) (raised_to client number new s)
  pub joined : (s t u : Served) (first second : List TakenEntry) → P s first t → P t second u → P s (first ++ second) u

pub next_number : (n last : ℕ) → nat_le n last ≡ false → nat_lt (last + 1) n ≡ false → n ≡ last + 1
next_number n last above within = grind (arith, nat_tests)

module _ (P : Served → List TakenEntry → Served → Type 0) (rule : Rule P) where
  -- of one entry
  of_entry : (client number : ℕ) (effects : List Effect) (base : List Base) (s : Served)
      → let judgement = verdict client number effects base s in P s (taken_if judgement (entry_stored client number effects base)) (served_after client number judgement s)
  of_entry client number effects base s =
      by (nat_le number (s.last client)) refl (nat_lt (s.last client + 1) number) refl (first_conflict base s.volume) (apply_all 0 effects s.volume) refl
    where
      by : (r : Bool) → nat_le number (s.last client) ≡ r → (b : Bool) → nat_lt (s.last client + 1) number ≡ b → (c : Option Conflict)
          → (a : Result Volume (ℕ × TreeError)) → apply_all 0 effects s.volume ≡ a → P s (taken_if (judged r b c a) (entry_stored client number effects base)) (served_after client number (judged r b c a) s)
      by true is_r b is_b c a is_a = rule.nothing s
      by false is_r true is_b c a is_a = rule.nothing s
      by false is_r false is_b (Some c) a is_a = rule.nothing s
      by false is_r false is_b None (Err cause) is_a = rule.nothing s
      by false is_r false is_b None (Ok volume) is_a = rule.one client number effects base volume s (next_number number (s.last client) is_r is_b) is_a

  -- of the entries of a store
  pub of_entries : (client number : ℕ) (parts : List Part) (s : Served) → P s (taken_through client number parts s) (served_through client number parts s)
  of_entries client number [] s = rule.nothing s
  of_entries client number (part ∷ parts) s =
      let judgement = verdict client number part.effects part.base s in
      by judgement (of_entry client number part.effects part.base s) (of_entries client (number + 1) parts (served_after client number judgement s))
    where
      by : (j : StoreVerdict) → P s (taken_if j (entry_stored client number part.effects part.base)) (served_after client number j s) → P (served_after client number j s) (taken_through client (number + 1) parts (served_after client number j s)) (served_through client (number + 1) parts (served_after client number j s))
          → P s (taken_if j (entry_stored client number part.effects part.base) ++ (if passes j then taken_through client (number + 1) parts (served_after client number j s) else [])) (if passes j then served_through client (number + 1) parts (served_after client number j s) else served_after client number j s)
      by Repeated one rest = rest
      by Early one rest = one
      by (Outdated conflict) one rest = one
      by (Refused cause) one rest = one
      by (Taken volume) one rest = rule.joined s (served_after client number (Taken volume) s) (served_through client (number + 1) parts (served_after client number (Taken volume) s)) (taken_if (Taken volume) (entry_stored client number part.effects part.base)) (taken_through client (number + 1) parts (served_after client number (Taken volume) s)) one rest

  pub of_message : (message : Message) (s : Served) → P s (taken_of message s) (state_after message s)
  of_message (Store client number parts) s = of_entries client number parts s
  of_message _ s = rule.nothing s

  pub of_messages : (messages : List Message) (s : Served) → P s (taken_among messages s) (state_after_all messages s)
  of_messages [] s = rule.nothing s
  of_messages (message ∷ messages) s =
      rule.joined s (state_after message s) (state_after_all messages (state_after message s)) (taken_of message s) (taken_among messages (state_after message s)) (of_message message s) (of_messages messages (state_after message s))
