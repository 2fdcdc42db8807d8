use Rattle.std.proofs.Common.{◌≡◌, ◌+◌, ◌≤◌, ℕ, List, ◌∷◌, length, IfOk, refl, sym, ap, ◌∙◌, subst, arith, true≢false}
use Rattle.wire_frames.specs.declared.parts.Part.{Part}
use Rattle.wire_frames.specs.declared.message.Message.{Message}
use Rattle.wire_frames.specs.Frame.{IsValid}
use Rattle.world_rules.specs.Served.{IsServed, StoreVerdict, Refused, verdict, taken_through}
use Rattle.server_core.specs.declared.server.Looked.{Looked}
use Rattle.server_core.specs.Holding.{Holding, served}
use Rattle.server_core.specs.Framing.{is_any}
use Rattle.server_core.specs.Inside.{IsAnsweredBy, IsUnderway, IsLookedAs, CanTakeBack, reply_to, reply_through}
use Rattle.server_core.proofs.Going.{is_on, is_taking, on_ok, seen_on, seen_still, seen_taken, on_idle, taken_any, seen_outdated, seen_refused, on_reply, ends_reply, ends_valid, back_to}
use Rattle.server_core.proofs.server.Server.+go_through.Goals as goal

pub take_back-requires-clause-legal : goal.take_back-requires-clause-legal
take_back-requires-clause-legal t c =
    let old = c.args.self.now in
    let store = c.args.store in
    let can = subst (λ (l : Looked). CanTakeBack store.client (store.number + c.args.done) old c.look.new.self l) c.in-Taken.is c.in_ok-look.ensures.undo in
    let high : store.client ≤ 64 = c.requires.high in
    let all : length c.self.inside.last ≡ 64 = omega arith in
    let inside : store.client ≤ length c.self.inside.last = omega (arith, high, all) in
    let within : store.client ≤ length old.last = subst (λ (h : Holding). store.client ≤ length h.last) c.self.view_is inside in
    let back = back_to store.client (store.number + c.args.done) c.last-before.result old c.look.new.self c.go_through-in-Taken.new.self c.in-Taken.undos.items can.1 can.2 c.in-Err.ensures.err c.last-before.ensures.last c.requires.low within in
    subst (λ (h : Holding). IsServed (served h)) (sym back) c.last-before.ensures.legal

pub framed-requires-in-Outdated : goal.framed-requires-in-Outdated
framed-requires-in-Outdated t c =
    let s = served c.args.self.now in
    let store = c.args.store in
    let done = c.args.done in
    let entry = c.in-Some.entry.now in
    let later = c.in-Some.later.now in
    let split : c.args.entries.now ≡ entry ∷ later = c.in-Some.ensures.cases.0 in
    let j = verdict store.client (store.number + done) entry.effects entry.base s in
    let under = subst (λ (l : List Part). IsUnderway store done l s) split c.requires in
    let looked = subst (λ (l : Looked). IsLookedAs j l) c.in-Outdated.is c.in_ok-look.ensures.ok in
    let is = seen_outdated j c.in-Outdated.path c.in-Outdated.theirs c.in-Outdated.ours looked in
    subst IsValid (sym c.stale.ensures) (ends_valid store done entry later s under c.last-before.ensures.legal c.last-before.result c.last-before.ensures.last _ is refl)

pub framed-requires-in-Refused : goal.framed-requires-in-Refused
framed-requires-in-Refused t c =
    let s = served c.args.self.now in
    let store = c.args.store in
    let done = c.args.done in
    let entry = c.in-Some.entry.now in
    let later = c.in-Some.later.now in
    let split : c.args.entries.now ≡ entry ∷ later = c.in-Some.ensures.cases.0 in
    let j = verdict store.client (store.number + done) entry.effects entry.base s in
    let under = subst (λ (l : List Part). IsUnderway store done l s) split c.requires in
    let looked = subst (λ (l : Looked). IsLookedAs j l) c.in-Refused.is c.in_ok-look.ensures.ok in
    let is = seen_refused j c.in-Refused.index c.in-Refused.fault looked in
    subst IsValid (sym c.refusal.ensures) (ends_valid store done entry later s under c.last-before.ensures.legal c.last-before.result c.last-before.ensures.last _ is refl)

pub returns-in-Repeated-clause-ok : goal.returns-in-Repeated-clause-ok
returns-in-Repeated-clause-ok t c =
    let s = served c.args.self.now in
    let store = c.args.store in
    let done = c.args.done in
    let entry = c.in-Some.entry.now in
    let later = c.in-Some.later.now in
    let split : c.args.entries.now ≡ entry ∷ later = c.in-Some.ensures.cases.0 in
    let j = verdict store.client (store.number + done) entry.effects entry.base s in
    let on = seen_on j c.in_ok-look.field-0 c.in_ok-look.ensures.ok (ap (λ (l : Looked). is_on l) c.in-Repeated.is) in
    let same = on_reply store done entry later s (served c.look.new.self) on c.in_ok-look.ensures.state ∙ sym (ap (λ (l : List Part). reply_through store done l s) split) in
    subst (λ (m : Message). IfOk c.go_through.result (IsAnsweredBy m)) same c.go_through.ensures.ok

pub returns-in-Ok-clause-ok : goal.returns-in-Ok-clause-ok
returns-in-Ok-clause-ok t c =
    let s = served c.args.self.now in
    let store = c.args.store in
    let done = c.args.done in
    let entry = c.in-Some.entry.now in
    let later = c.in-Some.later.now in
    let split : c.args.entries.now ≡ entry ∷ later = c.in-Some.ensures.cases.0 in
    let j = verdict store.client (store.number + done) entry.effects entry.base s in
    let on = seen_on j c.in_ok-look.field-0 c.in_ok-look.ensures.ok (ap (λ (l : Looked). is_on l) c.in-Taken.is) in
    let same = on_reply store done entry later s (served c.look.new.self) on c.in_ok-look.ensures.state ∙ sym (ap (λ (l : List Part). reply_through store done l s) split) in
    subst (λ (m : Message). IsAnsweredBy m c.in-Ok.told) same c.in-Ok.ensures.ok

pub returns-in-Err-clause-err : goal.returns-in-Err-clause-err
returns-in-Err-clause-err t c =
    let old = c.args.self.now in
    let store = c.args.store in
    let can = subst (λ (l : Looked). CanTakeBack store.client (store.number + c.args.done) old c.look.new.self l) c.in-Taken.is c.in_ok-look.ensures.undo in
    let high : store.client ≤ 64 = c.requires.high in
    let all : length c.self.inside.last ≡ 64 = omega arith in
    let inside : store.client ≤ length c.self.inside.last = omega (arith, high, all) in
    let within : store.client ≤ length old.last = subst (λ (h : Holding). store.client ≤ length h.last) c.self.view_is inside in
    let back = back_to store.client (store.number + c.args.done) c.last-before.result old c.look.new.self c.go_through-in-Taken.new.self c.in-Taken.undos.items can.1 can.2 c.in-Err.ensures.err c.last-before.ensures.last c.requires.low within in
    c.take_back.ensures.held ∙ back

pub returns-in-Refused-clause-ok : goal.returns-in-Refused-clause-ok
returns-in-Refused-clause-ok t c =
    let s = served c.args.self.now in
    let store = c.args.store in
    let done = c.args.done in
    let entry = c.in-Some.entry.now in
    let later = c.in-Some.later.now in
    let split : c.args.entries.now ≡ entry ∷ later = c.in-Some.ensures.cases.0 in
    let j = verdict store.client (store.number + done) entry.effects entry.base s in
    let looked = subst (λ (l : Looked). IsLookedAs j l) c.in-Refused.is c.in_ok-look.ensures.ok in
    let is = seen_refused j c.in-Refused.index c.in-Refused.fault looked in
    let judgement : StoreVerdict = Refused (c.in-Refused.index, c.in-Refused.fault) in
    let told = c.refusal.ensures ∙ ap (λ (n : ℕ). reply_to store n judgement) c.last-before.ensures.last ∙ ends_reply store done entry later s judgement is refl refl ∙ sym (ap (λ (l : List Part). reply_through store done l s) split) in
    subst (λ (m : Message). IfOk c.framed-in-Refused.result (IsAnsweredBy m)) told c.framed-in-Refused.ensures

-- where nothing is taken, nothing changes
pub returns-in-Repeated-clause-kept : goal.returns-in-Repeated-clause-kept
returns-in-Repeated-clause-kept t c =
    let s = served c.args.self.now in
    let store = c.args.store in
    let done = c.args.done in
    let entry = c.in-Some.entry.now in
    let later = c.in-Some.later.now in
    let split : c.args.entries.now ≡ entry ∷ later = c.in-Some.ensures.cases.0 in
    let j = verdict store.client (store.number + done) entry.effects entry.base s in
    let on = seen_on j c.in_ok-look.field-0 c.in_ok-look.ensures.ok (ap (λ (l : Looked). is_on l) c.in-Repeated.is) in
    let still = seen_still store.client (store.number + done) c.args.self.now c.look.new.self c.in_ok-look.field-0 (ap (λ (l : Looked). is_taking l) c.in-Repeated.is) c.in_ok-look.ensures.undo in
    on_ok c.go_through.result
    (λ kept none.
    kept (on_idle store done entry later s (served c.look.new.self) on c.in_ok-look.ensures.state (sym (ap (λ (l : List Part). is_any (taken_through store.client (store.number + done) l s)) split) ∙ none)) ∙ still)
    c.go_through.ensures.kept

pub returns-in-Ok-clause-kept : goal.returns-in-Ok-clause-kept
returns-in-Ok-clause-kept t c =
    let s = served c.args.self.now in
    let store = c.args.store in
    let done = c.args.done in
    let entry = c.in-Some.entry.now in
    let later = c.in-Some.later.now in
    let split : c.args.entries.now ≡ entry ∷ later = c.in-Some.ensures.cases.0 in
    let j = verdict store.client (store.number + done) entry.effects entry.base s in
    let looked = subst (λ (l : Looked). IsLookedAs j l) c.in-Taken.is c.in_ok-look.ensures.ok in
    let is = seen_taken j c.in-Taken.undos looked in
    let some = ap (λ (l : List Part). is_any (taken_through store.client (store.number + done) l s)) split ∙ taken_any store done entry later s is.0 is.1 in
    λ none. absurd (true≢false (sym some ∙ none))
