use Rattle.std.proofs.Common.{◌≡◌, true, length, arith}
use Rattle.outside.specs.Keeper.{kept_under}
use Rattle.outside.proofs.Writing.{on_err}
use Rattle.server_core.specs.Holding.{served}
use Rattle.server_prog.proofs.Appending.{not_kept, record_kept, record_refused, image_kept, image_refused}
use Rattle.server_prog.proofs.journal.keep_record.Goals as goal

-- nothing was kept
pub returns-in_err-piece-clause-err : goal.returns-in_err-piece-clause-err
returns-in_err-piece-clause-err g c = λ before leads journals. on_err _ _ _ _ (not_kept true c.args.journal before (served c.args.server.now) (kept_under c.args.name.now (g.K.Keeper.images c.args.keeper.now)) journals)

pub returns-in_err-image-in-None-clause-err : goal.returns-in_err-image-in-None-clause-err
returns-in_err-image-in-None-clause-err g c = λ before leads journals. on_err _ _ _ _ (not_kept true c.args.journal before (served c.args.server.now) (kept_under c.args.name.now (g.K.Keeper.images c.args.keeper.now)) journals)

-- the record was appended
pub returns-in_ok-append-in-Some-clause-ok : goal.returns-in_ok-append-in-Some-clause-ok
returns-in_ok-append-in-Some-clause-ok g c = λ before leads journals.
    let size : c.len.result ≡ length c.in_ok-piece.piece.items = omega (arith, c.len.ensures, c.in_ok-piece.piece.ok) in
    record_kept c.args.name.now c.args.journal c.args.note before (served c.args.server.now) (g.K.Keeper.images c.args.keeper.now) (g.K.Keeper.images c.append.new.self) leads journals
    c.in_ok-piece.piece.items c.deref.result.now c.len.result c.in-Some.records c.deref.ensures.value c.in_ok-piece.ensures size c.in-Some.ensures c.in_ok-append-in-Some.ensures.images

pub returns-in_err-append-in-Some-clause-err : goal.returns-in_err-append-in-Some-clause-err
returns-in_err-append-in-Some-clause-err g c = λ before leads journals.
    let size : c.len.result ≡ length c.in_ok-piece.piece.items = omega (arith, c.len.ensures, c.in_ok-piece.piece.ok) in
    on_err _ _ _ _
    (record_refused c.args.name.now c.args.journal c.args.note before (served c.args.server.now) (g.K.Keeper.images c.args.keeper.now) (g.K.Keeper.images c.append.new.self) leads journals
    c.in_ok-piece.piece.items c.deref.result.now c.len.result c.in-Some.records c.deref.ensures.value c.in_ok-piece.ensures size c.in-Some.ensures c.in_err-append-in-Some.ensures.images)

-- the image was saved
pub returns-in_ok-save-in-None-clause-ok : goal.returns-in_ok-save-in-None-clause-ok
returns-in_ok-save-in-None-clause-ok g c = λ before leads journals.
    let size : c.len.result ≡ length c.in_ok-piece.piece.items = omega (arith, c.len.ensures, c.in_ok-piece.piece.ok) in
    image_kept c.args.name.now c.args.journal c.args.note before (served c.args.server.now) (g.K.Keeper.images c.args.keeper.now) (g.K.Keeper.images c.save.new.self) leads journals
    c.in_ok-image-in-None.image.items c.deref-in-None.result.now c.deref-in-None.ensures.value c.in_ok-image-in-None.ensures.image c.in_ok-image-in-None.ensures.small
    c.in_ok-piece.piece.items c.len.result c.in_ok-piece.ensures size c.in-None.ensures c.in_ok-save-in-None.ensures.images

pub returns-in_err-save-in-None-clause-err : goal.returns-in_err-save-in-None-clause-err
returns-in_err-save-in-None-clause-err g c = λ before leads journals. on_err _ _ _ _
    (image_refused c.args.name.now c.args.journal c.args.note before (served c.args.server.now) (g.K.Keeper.images c.args.keeper.now) (g.K.Keeper.images c.save.new.self) leads journals
    c.in_ok-image-in-None.image.items c.deref-in-None.result.now c.deref-in-None.ensures.value c.in_ok-image-in-None.ensures.image c.in_ok-image-in-None.ensures.small c.in_err-save-in-None.ensures.images)
