-- The talk that was begun last is answered.
use Rattle.std.proofs.Common.{◌≡◌, ℕ, zero, suc, ◌+◌, ◌-◌, true, List, [], ◌∷◌, ◌++◌, length, get_or, slice_set, Option, None, Some, option_map, refl, sym, ◌∙◌, ap, subst, arith}
use Rattle.std.proofs.lemmas.List.{length-map}
use Rattle.std.specs.Prelude.{slice_get, is_none}
use Rattle.outside.specs.Port.{Talk}
use Rattle.outside.specs.declared.memory_port.HeldTalk.{HeldTalk}
use Rattle.outside.specs.MemoryPort.{talk_of, talks_of, is_open, awaits_answer}

-- a frame, and the answer to it
abbrev talk : List ℕ → Option (List ℕ) → Talk
talk frame reply = record { frame = frame; reply = reply }

none_of : (reply : Option (List ℕ)) → is_none reply ≡ true → reply ≡ None
none_of None none = refl
none_of (Some x) none = absurd (cc none)

last_answered : (talks : List HeldTalk) (at : ℕ) (held new : HeldTalk) (reply : List ℕ) → at + 1 ≡ length talks → is_open (slice_get (talks_of talks) at) ≡ true → held ≡ get_or talks at held → new.frame ≡ held.frame
    → option_map (λ r. r.items) new.reply ≡ Some reply
    → (before : List Talk) × (frame : List ℕ) × (talks_of talks ≡ before ++ talk frame None ∷ []) × (talks_of (slice_set talks at new) ≡ before ++ talk frame (Some reply) ∷ [])
last_answered [] at held new reply end unanswered is frame answer = absurd (omega arith)
last_answered (x ∷ []) zero held new reply end unanswered is frame answer =
    ([], x.frame.items, ap (λ r. talk x.frame.items r ∷ []) (none_of _ unanswered), ap (λ f. talk f.items (option_map (λ r. r.items) new.reply) ∷ []) (frame ∙ ap (λ h. h.frame) is) ∙ ap (λ r. talk x.frame.items r ∷ []) answer)
last_answered (x ∷ []) (suc at) held new reply end unanswered is frame answer = absurd (omega (arith, end))
last_answered (x ∷ y ∷ more) zero held new reply end unanswered is frame answer = absurd (omega (arith, end))
last_answered (x ∷ y ∷ more) (suc at) held new reply end unanswered is frame answer =
    let rest = last_answered (y ∷ more) at held new reply (omega (arith, end)) unanswered is frame answer in
    (talk_of x ∷ rest.0, rest.1, ap (λ (l : List Talk). talk_of x ∷ l) rest.2, ap (λ (l : List Talk). talk_of x ∷ l) rest.3)

-- a talk that waits is there
last_there : (talks : List HeldTalk) → awaits_answer (talks_of talks) ≡ true → (length talks - 1 + 1 ≡ length talks) × (is_open (slice_get (talks_of talks) (length talks - 1)) ≡ true)
last_there [] waits = absurd (cc waits)
last_there (x ∷ xs) waits = (omega arith, subst (λ (n : ℕ). is_open (slice_get (talks_of (x ∷ xs)) (n - 1)) ≡ true) (length-map (x ∷ xs) talk_of) waits)

pub waiting_answered : (talks : List HeldTalk) (many : ℕ) (held new : HeldTalk) (reply : List ℕ) → many ≡ length talks → awaits_answer (talks_of talks) ≡ true → held ≡ get_or talks (many - 1) held → new.frame ≡ held.frame
    → option_map (λ r. r.items) new.reply ≡ Some reply
    → (before : List Talk) × (frame : List ℕ) × (talks_of talks ≡ before ++ talk frame None ∷ []) × (talks_of (slice_set talks (many - 1) new) ≡ before ++ talk frame (Some reply) ∷ [])
waiting_answered talks many held new reply all waits is frame answer =
    let there = last_there talks waits in
    let end : many - 1 + 1 ≡ length talks = omega (arith, all, there.0) in
    last_answered talks (many - 1) held new reply end (subst (λ (n : ℕ). is_open (slice_get (talks_of talks) (n - 1)) ≡ true) (sym all) there.1) is frame answer
