use Rattle.std.proofs.Common.{◌∙◌, sym, ap}
use Rattle.std.proofs.Math.ListN.{get_or-map}
use Rattle.surrogate_pool.proofs.addresses.part_at.Goals as goal
use Rattle.surrogate_pool.proofs.Turning.{text_of}

pub returns : goal.returns
returns c = ap text_of c.index.ensures ∙ sym (get_or-map text_of c.args.addresses.now.items c.args.place c.index.result.now)
