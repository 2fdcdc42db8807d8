use Rattle.std.proofs.Common.{◌≡◌, ◌∙◌, ℕ, List, ap, sym, subst}
use Rattle.std.specs.Prelude.{is_some, Option}
use Rattle.tree_values.specs.declared.node.Effect.{Effect}
use Rattle.store_image.specs.declared.record.ServerRecord.{ServerRecord}
use Rattle.wire_frames.specs.declared.parts.Part.{Part}
use Rattle.wire_frames.specs.declared.message.Message.TheVariants.{Store}
use Rattle.wire_frames.specs.Frame.{IsValid}
use Rattle.world_rules.specs.Served.{Served, IsServed, served_through, taken_through}
use Rattle.server_core.specs.Holding.{served}
use Rattle.server_core.specs.Inside.{effects_numbered_above, record_with}
use Rattle.server_core.specs.Keeping.{NoteLeads, record_of_all}
use Rattle.server_core.proofs.Records.{store_is_noted, taken_leads, any_is_noted}
use Rattle.server_core.proofs.server.Server.store_recorded.Goals as goal

-- the record of what was read before and behind the serving is that of all taken entries
noted : (client number : ℕ) (parts copied listed : List Part) (s t : Served) (before last : ℕ) (copies : List Effect) (told : Option ServerRecord) → IsValid (Store client number parts) → t ≡ served_through client number parts s
    → before ≡ s.last client → last ≡ t.last client → copied ≡ parts → copies ≡ effects_numbered_above number copied before → listed ≡ parts → told ≡ record_with client number listed before last copies
    → told ≡ record_of_all (taken_through client number parts s)
noted client number parts copied listed s t before last copies told valid state was is slice are slice' made =
    let now : last ≡ (served_through client number parts s).last client = is ∙ ap (λ (u : Served). u.last client) state in
    let above : copies ≡ effects_numbered_above number parts (s.last client) = are ∙ (λ i. effects_numbered_above number (slice i) (was i)) in
    made ∙ (λ i. record_with client number (slice' i) (was i) (now i) (above i)) ∙ store_is_noted client number parts s valid

pub returns-in-Ok-clause-entry : goal.returns-in-Ok-clause-entry
returns-in-Ok-clause-entry c =
    noted c.args.client c.args.number c.args.entries.now c.as_slice.result.now c.as_slice-in-Ok.result.now (served c.args.self.now) (served c.store.new.self) c.last-before.result c.last-last.result
    c.in_ok-copies.copies.items c.record_of-note.result c.requires.valid c.in-Ok.ensures.state c.last-before.ensures.last c.last-last.ensures.last c.as_slice.ensures.items c.in_ok-copies.ensures
    c.as_slice-in-Ok.ensures.items c.record_of-note.ensures

pub returns-in-Ok-clause-taken : goal.returns-in-Ok-clause-taken
returns-in-Ok-clause-taken c =
    ap (λ (note : Option ServerRecord). is_some note) (returns-in-Ok-clause-entry c) ∙ any_is_noted (taken_through c.args.client c.args.number c.args.entries.now (served c.args.self.now))

pub returns-in-Ok-clause-leads : goal.returns-in-Ok-clause-leads
returns-in-Ok-clause-leads c =
    let s = served c.args.self.now in
    let after = served_through c.args.client c.args.number c.args.entries.now s in
    let legal : IsServed s = c.last-before.ensures.legal in
    subst (λ (t : Served). NoteLeads c.record_of-note.result s t) (sym c.in-Ok.ensures.state)
    (subst (λ (note : Option ServerRecord). NoteLeads note s after) (sym (returns-in-Ok-clause-entry c)) (taken_leads (Store c.args.client c.args.number c.args.entries.now) s c.requires.valid legal))
