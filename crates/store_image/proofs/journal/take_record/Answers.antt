use Rattle.std.proofs.Common.{arith}
use Rattle.store_image.specs.Inside.{record_of}
use Rattle.store_image.proofs.Framing.{framed_codec}
use Rattle.store_image.proofs.Notes.{note_codec, follows}
use Rattle.store_image.proofs.journal.take_record.Goals as goal

pub take_note-requires : goal.take_note-requires
take_note-requires c =
    let log = c.args.log.now in
    let note = c.in_ok-note.note in
    follows c.args.format log note ((framed_codec (note_codec c.args.format log)).found c.args.bytes.now c.args.at (record_of note log) c.in_ok-note.next (λ i. omega (arith, c.type_inv.bytes i)) c.requires.within c.in_ok-note.ensures.read).1.0
