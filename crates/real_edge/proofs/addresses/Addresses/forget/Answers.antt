use Rattle.std.proofs.Common.{rules, ◌∙◌, List, ℕ, not, ap}
use Rattle.std.proofs.lemmas.Fn.{filter_same}
use Rattle.std.specs.Str.{bytes_eq}
use Rattle.real_edge.specs.Addresses.{without_address}
use Rattle.real_edge.proofs.addresses.Addresses.forget.Goals as goal

pub returns : goal.returns
returns c = filter_same _ (λ (text : List ℕ). not (bytes_eq text c.args.address.now)) _ (λ x b f' k. search rules) _ _ c.retain.ensures.filtered
    ∙ ap (without_address c.args.address.now) c.self.view_is
