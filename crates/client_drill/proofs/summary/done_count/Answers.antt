use Rattle.std.proofs.Common.{◌∙◌, ap, subst, length, List, ℕ, Option}
use Rattle.std.specs.Prelude.{IfSome, fold}
use Rattle.std.proofs.lemmas.List.{take_all}
use Rattle.wire_frames.specs.declared.message.Message.{Message}
use Rattle.wire_frames.specs.Frame.{IsValid}
use Rattle.client_drill.specs.Drilled.{done_in, with_number, done_among}
use Rattle.client_drill.proofs.Counting.{none_left, one_left, done_more, within_more}
use Rattle.client_drill.proofs.summary.done_count.Goals as goal

pub returns-in_default : goal.returns-in_default
returns-in_default c =
    let packets = c.args.net.now.wires.packets in
    c.len.ensures ∙ c.loop-k.done.ok.0 ∙ ap (λ (ns : List ℕ). length ns) c.loop-k.invariant.done
    ∙ ap (λ (ms : List Message). length (done_among ms)) (take_all c.loop-k.k packets (none_left packets c.loop-k.k c.in_default.ensures.frame))

pub loop-k-preserved : goal.loop-k-preserved
loop-k-preserved c =
    let packets = c.args.net.now.wires.packets in
    let sent = one_left packets c.loop-k.k c.in-Some.frame.now c.in-Some.ensures.frame in
    let valid : IsValid sent.0 = subst (λ (o : Option Message). IfSome o IsValid) sent.1 c.in-Some.ensures.valid in
    record {
      done = c.in_ok-note_done.ensures sent.0 (valid, sent.2) ∙ ap (λ (ns : List ℕ). fold with_number ns (done_in sent.0)) c.loop-k.invariant.done ∙ done_more packets c.loop-k.k sent.0 sent.1;
      within = within_more packets c.loop-k.k sent.0 sent.1;
    }
