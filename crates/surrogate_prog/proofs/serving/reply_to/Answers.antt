use Rattle.std.proofs.Common.{rules, ◌≡◌, ◌≢◌, Ok, Err}
use Rattle.wire_frames.specs.declared.message.FrameError.TheVariants.{Memory}
use Rattle.outside.proofs.Writing.{on_err}
use Rattle.wire_frames.specs.Reading.{frame_of}
use Rattle.surrogate_prog.proofs.Doing.{replies_where, breaks_where, refused_where, refused_read, breaks_before}
use Rattle.surrogate_prog.proofs.serving.reply_to.Goals as goal

pub returns-in-Ok-clause-ok : goal.returns-in-Ok-clause-ok
returns-in-Ok-clause-ok g c =
    let read : frame_of c.args.bytes.now ≡ Ok c.in-Ok.request = search rules in
    replies_where _ _ _ _ _ _ _ _ c.in-Ok.request read c.in-Ok.ensures.found.0 c.handle.ensures.ok

pub returns-in-Ok-clause-err : goal.returns-in-Ok-clause-err
returns-in-Ok-clause-err g c =
    let read : frame_of c.args.bytes.now ≡ Ok c.in-Ok.request = search rules in
    breaks_where _ _ _ _ _ _ _ c.in-Ok.request read c.in-Ok.ensures.found.0 c.handle.ensures.err

pub returns-in-Err-Memory-clause-err : goal.returns-in-Err-Memory-clause-err
returns-in-Err-Memory-clause-err g c = breaks_before _ _ _ _ _

pub returns-in-Err : goal.returns-in-Err
returns-in-Err g c =
    let other : c.in-Err.refusal ≢ Memory = search rules in
    let read : frame_of c.args.bytes.now ≡ Err c.in-Err.refusal = refused_read c.in-Err.refusal (frame_of c.args.bytes.now) other c.in-Err.ensures.exact in
    record {
      idle = c.requires.idle;
      ok = refused_where _ _ _ _ _ _ c.in-Err.refusal c.malformed.result read c.malformed.ensures.reply c.in_frame.ensures;
      err = on_err _ _ _ _ (breaks_before _ _ _ _ _);
    }
