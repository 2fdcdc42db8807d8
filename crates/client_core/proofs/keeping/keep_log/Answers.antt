use Rattle.std.proofs.Common.{refl, sym, ◌∙◌, ap, List, Option, ℕ, subst}
use Rattle.outside.specs.Outside.{Told}
use Rattle.outside.specs.declared.errors.KeepError.{KeepError}
use Rattle.outside.specs.declared.errors.KeepError.TheVariants.{Memory}
use Rattle.store_image.specs.declared.record.ClientRecord.{ClientRecord}
use Rattle.client_core.specs.Journal.{next_notes, bytes_after, journal_with}
use Rattle.client_core.specs.Keeping.{KeepsNext, WritesNext}
use Rattle.client_core.proofs.Counting.{unrisen}
use Rattle.client_core.specs.declared.keeping.Journal.{Journal}
use Rattle.client_core.specs.Inside.{IsCountedBy}
use Rattle.client_core.proofs.Journal.{no_piece, piece_bytes, next_room, piece_keeps, piece_writes, piece_counted}
use Rattle.client_core.proofs.Putting.{unwritten_keeps, unwritten_writes}
use Rattle.client_core.proofs.keeping.keep_log.Goals as goal

pub returns-in-Err-clause-kept : goal.returns-in-Err-clause-kept
returns-in-Err-clause-kept g c =
    unwritten_keeps c.args.name.now c.args.client c.args.log.now (next_notes c.args.journal.now c.args.rose c.args.log.now) Memory (g.K.Keeper.images c.args.keeper.now)

pub returns-in-Err-clause-cause : goal.returns-in-Err-clause-cause
returns-in-Err-clause-cause g c =
    unrisen _ (g.K.Keeper.faults c.args.keeper.now) (g.K.Keeper.faults c.args.keeper.now) (λ is. absurd (cc)) refl

pub returns-in-Some-clause-kept : goal.returns-in-Some-clause-kept
returns-in-Some-clause-kept g c =
    let notes = next_notes c.args.journal.now c.args.rose c.args.log.now in
    piece_keeps c.args.journal.now notes c.in-Ok.piece c.in-Some.piece c.in-Ok.ensures c.in-Some.is (next_room c.args.journal.now c.args.rose c.args.log.now) c.args.name.now c.args.log.now c.args.client
    c.append_piece.result (g.K.Keeper.images c.args.keeper.now) (g.K.Keeper.images c.append_piece.new.keeper) c.requires.counted c.requires.ready c.append_piece.ensures.appended

pub returns-in-Some-clause-counted : goal.returns-in-Some-clause-counted
returns-in-Some-clause-counted g c =
    let notes = next_notes c.args.journal.now c.args.rose c.args.log.now in
    let j = g.K.Keeper.images c.append_piece.new.keeper in
    subst (λ (now : Option Journal). IsCountedBy j c.args.name.now now) (sym c.append_piece.ensures.journal)
    (piece_counted c.args.journal.now notes c.in-Ok.piece c.in-Some.piece c.in-Ok.ensures c.in-Some.is (next_room c.args.journal.now c.args.rose c.args.log.now) c.args.name.now c.args.log.now
    c.append_piece.result (g.K.Keeper.images c.args.keeper.now) j c.requires.counted c.append_piece.ensures.appended)

pub returns-in-Some-clause-journal : goal.returns-in-Some-clause-journal
returns-in-Some-clause-journal g c =
    let notes = next_notes c.args.journal.now c.args.rose c.args.log.now in
    c.append_piece.ensures.journal ∙ ap (λ (bytes : ℕ). journal_with bytes c.args.log.now c.append_piece.result) (piece_bytes c.args.journal.now notes c.in-Ok.piece c.in-Some.piece c.in-Ok.ensures c.in-Some.is)

pub returns-in-None-clause-kept : goal.returns-in-None-clause-kept
returns-in-None-clause-kept g c =
    let notes = next_notes c.args.journal.now c.args.rose c.args.log.now in
    subst (λ (some : Option (List ClientRecord)). Told (g.K.Keeper.images c.args.keeper.now) (g.K.Keeper.images c.save_log.new.keeper) (KeepsNext {E = KeepError} c.args.name.now c.args.client c.args.log.now some c.save_log.result))
    (sym (no_piece c.args.journal.now notes c.in-Ok.piece c.in-Ok.ensures c.in-None.is)) c.save_log.ensures.kept

pub returns-in-None-clause-journal : goal.returns-in-None-clause-journal
returns-in-None-clause-journal g c =
    let notes = next_notes c.args.journal.now c.args.rose c.args.log.now in
    c.save_log.ensures.journal ∙ ap (λ (some : Option (List ClientRecord)). journal_with (bytes_after some c.args.journal.now) c.args.log.now c.save_log.result) (sym (no_piece c.args.journal.now notes c.in-Ok.piece c.in-Ok.ensures c.in-None.is))

-- ---- what is written

pub returns-in-Err-clause-writes : goal.returns-in-Err-clause-writes
returns-in-Err-clause-writes g c =
    unwritten_writes c.args.name.now c.args.client c.args.log.now (next_notes c.args.journal.now c.args.rose c.args.log.now) Memory (g.K.Keeper.images c.args.keeper.now)

pub returns-in-Some-clause-writes : goal.returns-in-Some-clause-writes
returns-in-Some-clause-writes g c =
    let notes = next_notes c.args.journal.now c.args.rose c.args.log.now in
    piece_writes c.args.journal.now notes c.in-Ok.piece c.in-Some.piece c.in-Ok.ensures c.in-Some.is c.args.name.now c.args.client c.args.log.now
    c.append_piece.result (g.K.Keeper.images c.args.keeper.now) (g.K.Keeper.images c.append_piece.new.keeper) c.append_piece.ensures.appended

pub returns-in-None-clause-writes : goal.returns-in-None-clause-writes
returns-in-None-clause-writes g c =
    let notes = next_notes c.args.journal.now c.args.rose c.args.log.now in
    subst (λ (some : Option (List ClientRecord)). Told (g.K.Keeper.images c.args.keeper.now) (g.K.Keeper.images c.save_log.new.keeper) (WritesNext {E = KeepError} c.args.name.now c.args.client c.args.log.now some c.save_log.result))
    (sym (no_piece c.args.journal.now notes c.in-Ok.piece c.in-Ok.ensures c.in-None.is)) c.save_log.ensures.writes
