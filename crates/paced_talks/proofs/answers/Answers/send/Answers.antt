use Rattle.std.proofs.Common.{◌≡◌, ◌∙◌, ℕ, ◌-◌, List, length, take, drop, length-drop, arith}
use Rattle.std.proofs.lemmas.List.{take_all}
use Rattle.paced_talks.proofs.answers.Answers.send.Goals as goal

pub returns-clause-queued : goal.returns-clause-queued
returns-clause-queued g c = λ none.
    let admitted = c.in_ok-admit.ensures in
    let sent : ℕ = c.in-Ok.sent in
    let answer : List ℕ = c.args.answer.now in
    let rest : take (length answer - sent) (drop sent answer) ≡ drop sent answer =
    take_all (length answer - sent) (drop sent answer) (omega (arith, length-drop sent answer)) in (
      admitted.0,
      admitted.1,
      c.send_front.new.stream,
      sent,
      admitted.2,
      (admitted.3.0, admitted.3.1 ∙ rest, admitted.3.2, admitted.3.3 ∙ c.sending.ensures),
      c.in-Ok.ensures.bytes,
    )
