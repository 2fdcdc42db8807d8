use Rattle.std.proofs.Common.{◌∙◌, sym, subst}
use Rattle.temp_names.specs.Renaming.{without_paths}
use Rattle.temp_names.specs.Laws.{RisesBy}
use Rattle.temp_names.specs.Inside.{path_of_candidate}
use Rattle.temp_names.proofs.Found.{new_clients_rise}
use Rattle.temp_names.proofs.pairs.pairs_of.Goals as goal

pub pairs-requires : goal.pairs-requires
pairs-requires c =
    let clients = c.deref.ensures.value ∙ c.in_ok-both.ensures.clients in
    let replays = c.deref-2.ensures.value ∙ c.in_ok-both.ensures.replays in
    subst (RisesBy path_of_candidate) (sym (c.deref-5.ensures.value ∙ c.in_ok-clients.ensures ∙ (λ i. without_paths (clients i) (replays i))))
    (new_clients_rise c.args.templates.now c.args.effects.now c.args.job_rows.now c.args.rows.now)
