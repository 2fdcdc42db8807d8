use Rattle.std.proofs.Common.{◌≡◌, ◌∙◌, ℕ, List, Ok, sym, ap, subst}
use Rattle.program_words.specs.Status.{code}
use Rattle.tree_proof.specs.Checking.{checked}
use Rattle.client_lines.specs.declared.input.InputEnd.{InputEnd}
use Rattle.client_lines.specs.declared.input.InputEnd.TheVariants.{Read, Failed, TooLong}
use Rattle.client_proof.specs.Ending.{StreamFaults, CheckEnds}
use Rattle.client_proof.specs.Inside.{ReadsAll, TellsFinding}
use Rattle.client_proof.proofs.Ends.{ends_failed, ends_long, ends_unread, ends_told}
use Rattle.client_proof.proofs.run.check_run.Goals.{in-Ok-Read, in-Ok-Failed, in-Ok-TooLong, in-Err}
use Rattle.client_proof.proofs.run.check_run.Goals as goal

pub returns : goal.returns
returns g c =
    let r = c.args.root.now in
    let p = c.args.path.now in
    let left = g.I.Source.left c.args.input.now in
    let rest = g.I.Source.left c.read_all.new.input in
    let written = g.O.Sink.written c.args.output.now in
    let now = g.O.Sink.written c.match-read_all.output in
    let before : StreamFaults = record { source = g.I.Source.faults c.args.input.now; sink = g.O.Sink.faults c.args.output.now } in
    let after : StreamFaults = record { source = g.I.Source.faults c.read_all.new.input; sink = g.O.Sink.faults c.match-read_all.output } in
    let bytes = c.read_all.new.bytes.items in
    elim c.match-read_all.branch [
      | in-Ok-Read w ↦
          let is : c.read_all.result ≡ Ok Read = w.in-Ok-Read.is ∙ ap (λ (e : InputEnd). Ok e) w.in-Ok-Read.field-0-is in
          let reads : ReadsAll left rest bytes Read = subst (ReadsAll left rest bytes) w.in-Ok-Read.field-0-is w.in-Ok-Read.ensures.ok in
          let tells = subst (λ (b : List ℕ). TellsFinding (checked r p b) w.tell-status.result written (g.O.Sink.written w.tell-status.new.output)) w.deref.ensures.value w.tell-status.ensures.tells in
          let told : StreamFaults = record { source = after.source; sink = g.O.Sink.faults w.tell-status.new.output } in
          let same : after.source ≡ before.source = c.read_all.ensures.cause.never (λ failed. absurd (cc (is, failed))) in
          rw (c.code.ensures, w.status-is, w.output-is) (ends_told r p left rest written (g.O.Sink.written w.tell-status.new.output) before told bytes reads same w.tell-status.result w.tell-status.ensures.cause tells)
      | in-Ok-Failed w ↦
          let is : c.read_all.result ≡ Ok Failed = w.in-Ok-Failed.is ∙ ap (λ (e : InputEnd). Ok e) w.in-Ok-Failed.field-0-is in
          let reads : ReadsAll left rest bytes Failed = subst (ReadsAll left rest bytes) w.in-Ok-Failed.field-0-is w.in-Ok-Failed.ensures.ok in
          subst (λ (n : ℕ). CheckEnds r p n left rest written now before after) (sym (c.code.ensures ∙ ap code w.status-is))
          (ends_failed r p left rest written now before after bytes reads c.read_all.ensures.cause is (ap g.O.Sink.faults w.output-is) (ap g.O.Sink.written w.output-is))
      | in-Ok-TooLong w ↦
          let is : c.read_all.result ≡ Ok TooLong = w.in-Ok-TooLong.is ∙ ap (λ (e : InputEnd). Ok e) w.in-Ok-TooLong.field-0-is in
          let reads : ReadsAll left rest bytes TooLong = subst (ReadsAll left rest bytes) w.in-Ok-TooLong.field-0-is w.in-Ok-TooLong.ensures.ok in
          let same : after.source ≡ before.source = c.read_all.ensures.cause.never (λ failed. absurd (cc (is, failed))) in
          subst (λ (n : ℕ). CheckEnds r p n left rest written now before after) (sym (c.code.ensures ∙ ap code w.status-is))
          (ends_long r p left rest written now before after bytes reads same (ap g.O.Sink.faults w.output-is) (ap g.O.Sink.written w.output-is))
      | in-Err w ↦
          let is = w.in-Err.is in
          let same : after.source ≡ before.source = c.read_all.ensures.cause.never (λ failed. absurd (cc (is, failed))) in
          subst (λ (n : ℕ). CheckEnds r p n left rest written now before after) (sym (c.code.ensures ∙ ap code w.status-is))
          (ends_unread r p left rest written now before after w.in-Err.ensures.err same (ap g.O.Sink.faults w.output-is) (ap g.O.Sink.written w.output-is))
    ]
