use Rattle.std.proofs.Common.{◌∙◌, [], ◌∷◌, sym, arith, length-append}
use Rattle.std.proofs.lemmas.Result.{err_from_is_err_and}
use Rattle.byte_fields.proofs.Loop.{goes_on, breaks_off, is_done}
use Rattle.mod_log.specs.Append.{next_entry}
use Rattle.store_image.specs.Reading.{next_entry_at, with_entry}
use Rattle.store_image.proofs.Entries.{next_is, tree-logged}
use Rattle.store_image.proofs.reading.entries_from.Goals as goal

pub returns-in_err-origin-clause-read : goal.returns-in_err-origin-clause-read
returns-in_err-origin-clause-read c =
    let p = err_from_is_err_and c.from_residual.result c.from_residual.ensures.1 in
    rw (p.1, p.2) (breaks_off (next_entry_at c.args.format) with_entry c.args.bytes.now _ c.in_err-origin.field-0.0 c.loop.log.pending c.args.count c.loop.counter c.loop.log c.loop.at c.loop-test.true c.in_err-origin.ensures.read c.loop.invariant.so_far)

pub log_entry-requires : goal.log_entry-requires
log_entry-requires c =
    let inv = c.loop.invariant in
    (next_is c.args.format c.loop.log c.args.bytes.now c.args.start c.loop.at (next_entry c.in_ok-origin.origin c.in_ok-origin.effects c.loop.log) c.in_ok-origin.next (λ i. omega (arith, c.type_inv.bytes i)) inv.within c.requires.room inv.size inv.is_log
    (omega (arith, inv.pending, c.loop-test.true, c.requires.few)) (omega (arith, inv.pending, inv.acked, c.loop-test.true, c.requires.numbers)) c.in_ok-origin.ensures.read).is_log

pub loop-preserved : goal.loop-preserved
loop-preserved c =
    let inv = c.loop.invariant in
    let e = next_entry c.in_ok-origin.origin c.in_ok-origin.effects c.loop.log in
    let read = c.in_ok-origin.ensures.read in
    let next = next_is c.args.format c.loop.log c.args.bytes.now c.args.start c.loop.at e c.in_ok-origin.next (λ i. omega (arith, c.type_inv.bytes i)) inv.within c.requires.room inv.size inv.is_log
    (omega (arith, inv.pending, c.loop-test.true, c.requires.few)) (omega (arith, inv.pending, inv.acked, c.loop-test.true, c.requires.numbers)) read in
    let step = goes_on (next_entry_at c.args.format) with_entry c.args.bytes.now _ c.loop.log.pending c.args.count c.loop.counter c.loop.log c.loop.at e c.in_ok-origin.next c.loop-test.true read inv.so_far in
    rw c.in_ok-log_entry.ensures (record {
      so_far = step;
      acked = inv.acked;
      base = inv.base;
      is_log = next.is_log;
      pending = omega (arith, length-append c.loop.log.pending (e ∷ []), inv.pending);
      size = omega (arith, next.size, next.later, inv.size);
      within = next.within;
      ahead = c.in_ok-origin.ensures.applied ∙ sym (tree-logged c.loop.log e);
    })

pub returns-clause-read : goal.returns-clause-read
returns-clause-read c = is_done (next_entry_at c.args.format) with_entry c.args.bytes.now _ c.loop.log.pending c.args.count c.loop.counter c.loop.log c.loop.at c.loop-test.false c.loop.invariant.so_far
