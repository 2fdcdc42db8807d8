use Rattle.std.proofs.Common.{◌≡◌, ℕ, List, length}
use Rattle.client_session.specs.Session.{state_of}
use Rattle.client_lines.specs.Objects.{objects_tell, SameObjects}
use Rattle.client_lines.proofs.RunningObjects.{SessionGoes}
use Rattle.client_lines.proofs.SoFar.{CutsFront, AnswersFront}
use Rattle.client_lines.proofs.objects.SessionObjects.answer_lines.Given as goal

abbrev pub invariant-loop-line : goal.invariant-loop-line
invariant-loop-line g l =
    let p = objects_tell g.O.Sink g.K.Keeper g.R.Runner g.L.Link l.fn.self in
    let q = objects_tell g.O.Sink g.K.Keeper g.R.Runner g.L.Link l.self in
    record {
      count : l.reader.count ≡ l.fn.reader.count;
      cut : (lines : List (List ℕ)) × CutsFront l.fn.reader.bytes l.reader.bytes lines;
      same : SameObjects l.fn.self l.self;
      did : SessionGoes (AnswersFront p.route (state_of l.fn.session) l.fn.reader.bytes l.reader.bytes p.written q.written (state_of l.session)) l.fn.session l.session p q;
    }

abbrev pub decreases-loop-line : goal.decreases-loop-line
decreases-loop-line g l = length l.reader.bytes
