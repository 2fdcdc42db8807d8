use Rattle.std.proofs.Common.{◌∙◌, sym, refl}
use Rattle.std.proofs.lemmas.Bool.{ne_eqb}
use Rattle.vol_tree.proofs.Behind.{counted, has_row}
use Rattle.vol_tree.proofs.tree.lacks_room.Goals as goal

pub returns-then-version-eq0 : goal.returns-then-version-eq0
returns-then-version-eq0 c = λ path is.
    let none = counted c.args.rows.now path c.requires (sym is ∙ c.if-version-eq0.true) in
    rw (c.count.ensures, none) refl

pub returns-else-version-eq0 : goal.returns-else-version-eq0
returns-else-version-eq0 c = λ path is. rw (has_row c.args.rows.now path (λ z. c.if-version-eq0.false (is ∙ z)), ne_eqb c.args.version 0 c.if-version-eq0.false) refl
