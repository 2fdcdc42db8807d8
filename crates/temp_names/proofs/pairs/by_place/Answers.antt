use Rattle.std.proofs.Common.{◌∙◌, List, length, filter, sym, ap}
use Rattle.temp_names.specs.declared.candidate.Candidate.{Candidate}
use Rattle.temp_names.specs.declared.candidate.Likeness.TheVariants.{Group}
use Rattle.temp_names.specs.Renaming.{is_alike}
use Rattle.temp_names.proofs.Both.{by_place_equal, by_place_other}
use Rattle.temp_names.proofs.pairs.by_place.Goals as goal

pub returns-then-clients-replays : goal.returns-then-clients-replays
returns-then-clients-replays c =
    let front = c.alike-clients.ensures ∙ ap (λ (cs : List Candidate). filter (is_alike Group c.args.c.now) cs) c.deref.ensures.value in
    let back = c.alike-replays.ensures ∙ ap (λ (cs : List Candidate). filter (is_alike Group c.args.c.now) cs) c.deref-2.ensures.value in
    c.counterpart.ensures
    ∙ by_place_equal c.args.sides.now.clients.items c.args.sides.now.replays.items c.args.c.now
    (ap length (sym front) ∙ c.if-clients-replays.true ∙ ap length back)

pub returns-else-clients-replays : goal.returns-else-clients-replays
returns-else-clients-replays c =
    let front = c.alike-clients.ensures ∙ ap (λ (cs : List Candidate). filter (is_alike Group c.args.c.now) cs) c.deref.ensures.value in
    let back = c.alike-replays.ensures ∙ ap (λ (cs : List Candidate). filter (is_alike Group c.args.c.now) cs) c.deref-2.ensures.value in
    by_place_other c.args.sides.now.clients.items c.args.sides.now.replays.items c.args.c.now
    (λ same. c.if-clients-replays.false (ap length front ∙ same ∙ sym (ap length back)))
