use Rattle.std.proofs.Common.{[], ◌∷◌}
use Rattle.byte_fields.proofs.Fronts.{front_unchanged}
use Rattle.cmd_capture.proofs.spelling.put_node.Goals as goal

pub returns-in-Folder-clause-err : goal.returns-in-Folder-clause-err
returns-in-Folder-clause-err c =
    rw c.in-Folder.is
    (front_unchanged c.put_kind.result c.args.out.now.items c.put_kind.new.out.items (1 ∷ []) c.put_kind.ensures.err)
