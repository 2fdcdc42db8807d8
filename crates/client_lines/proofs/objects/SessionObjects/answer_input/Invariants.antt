use Rattle.std.proofs.Common.{◌≡◌, ◌≤◌, ◌-◌, ℕ, List, [], ◌∷◌}
use Rattle.shell_lang.specs.Lines.{cut_lines}
use Rattle.client_session.specs.Session.{state_of}
use Rattle.client_lines.specs.Limits.{max_input}
use Rattle.client_lines.specs.Objects.{objects_tell, SameObjects}
use Rattle.client_lines.proofs.RunningObjects.{SessionGoes}
use Rattle.client_lines.proofs.SoFar.{ReadsSoFar, AnswersSoFar}
use Rattle.client_lines.proofs.objects.SessionObjects.answer_input.Given as goal

abbrev pub invariant-loop-reader : goal.invariant-loop-reader
invariant-loop-reader g l =
    let p = objects_tell g.O.Sink g.K.Keeper g.R.Runner g.L.Link l.fn.self in
    let q = objects_tell g.O.Sink g.K.Keeper g.R.Runner g.L.Link l.self in
    let left = g.I.Source.left l.fn.input in
    let mid = g.I.Source.left l.input in
    record {
      few : l.reader.count ≤ max_input;
      no_line : cut_lines l.reader.bytes ≡ l.reader.bytes ∷ [];
      taken : (behind : List (List ℕ)) × ReadsSoFar left mid l.reader behind;
      source_same : g.I.Source.faults l.input ≡ g.I.Source.faults l.fn.input;
      same : SameObjects l.fn.self l.self;
      did : SessionGoes (AnswersSoFar p.route (state_of l.fn.session) left mid l.reader p.written q.written (state_of l.session)) l.fn.session l.session p q;
    }

abbrev pub decreases-loop-reader : goal.decreases-loop-reader
decreases-loop-reader g l = max_input - l.reader.count
