use Rattle.std.proofs.Common.{◌≡◌, take, option_map}
use Rattle.std.specs.List.{filter_map}
use Rattle.temp_names.specs.Renaming.{renamed}
use Rattle.temp_names.specs.Inside.{partner_of}
use Rattle.temp_names.proofs.pairs.partnered.Given as goal

abbrev pub invariant-loop-c : goal.invariant-loop-c
invariant-loop-c l = l.found.items ≡ filter_map (λ c. option_map (renamed c) (partner_of l.by_print l.by_group c)) (take l.c-index l.clients)
