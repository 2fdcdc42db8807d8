use Rattle.std.proofs.Common.{◌≡◌, ℕ, ◌-◌, List, length, take, drop, length-drop, ap, subst, arith}
use Rattle.std.proofs.lemmas.List.{take_all}
use Rattle.std.specs.Io.KnownBytes.{Appends}
use Rattle.paced_talks.proofs.Sending.{sends_more}
use Rattle.paced_talks.proofs.answering.send_front.Goals as goal

pub loop-sent-preserved : goal.loop-sent-preserved
loop-sent-preserved g c =
    let sent : ℕ = c.loop-sent.sent in
    let answer : List ℕ = c.args.answer.now in
    let long : length (drop sent answer) ≡ length answer - sent = length-drop sent answer in
    let piece : take (length answer - sent) (drop sent answer) ≡ drop sent answer = take_all (length answer - sent) (drop sent answer) (omega (arith, long)) in
    let few : length (take (length answer - sent) (drop sent answer)) ≡ length (drop sent answer) = ap length piece in
    record {
      within = omega (arith, long, few, c.in-Ok.ensures.bound, c.loop-sent.invariant.within);
      bytes = sends_more _ _ _ sent c.in-Ok.count answer c.loop-sent.invariant.bytes
          (subst (λ (l : List ℕ). Appends (g.S.Write.contents c.loop-sent.stream) (g.S.Write.contents c.write.new.self) (take c.in-Ok.count l)) piece c.in-Ok.ensures.bytes);
    }
