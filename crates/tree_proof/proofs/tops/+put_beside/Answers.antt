use Rattle.std.proofs.Common.{sym}
use Rattle.std.proofs.lemmas.List.{append-nil}
use Rattle.tree_proof.proofs.Levels.{beside_none}
use Rattle.tree_proof.proofs.tops.+put_beside.Goals as goal

pub returns-then-levels-eq0 : goal.returns-then-levels-eq0
returns-then-levels-eq0 t c = rw (c.if-levels-eq0.true, beside_none c.args.digests.now c.args.place) (sym (append-nil c.args.out.now.items))
