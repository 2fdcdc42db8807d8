use Rattle.std.proofs.Common.{rules, ◌≡◌, Bool, false, true, ◌++◌, ◌∷◌, [], Some, Ok, Err, refl, sym, ap, ◌∙◌, subst, arith}
use Rattle.std.proofs.lemmas.Result.{err_from_is_err_and}
use Rattle.shell_lang.specs.Lines.{whole_lines, cut_lines}
use Rattle.client_core.specs.declared.route.Route.{Route}
use Rattle.client_session.specs.Session.{state_of}
use Rattle.client_lines.specs.declared.input.InputEnd.TheVariants.{Read, Failed}
use Rattle.client_lines.specs.declared.input.InputEnd.{InputEnd}
use Rattle.client_lines.specs.declared.run.Stop.TheVariants.{Memory}
use Rattle.client_lines.specs.Input.{last_at, Reading, EndsAt, GoesOnOrEnds}
use Rattle.client_lines.specs.Run.{has_quit, up_to_quit}
use Rattle.client_lines.specs.InsideRun.{AnswersLines, AnswersInput, HasUnfinished}
use Rattle.client_lines.specs.Objects.{objects_tell}
use Rattle.client_lines.proofs.Counting.{no_source_fault}
use Rattle.client_lines.proofs.RunningPieces.{reads_none, reads_more, failed_in, quits_in, stops_in, lost_in, all_in, ends_at, so_far_none, so_far_more, so_far_failed, so_far_quits, so_far_stops, so_far_lost, all_answered, all_stops}
use Rattle.client_lines.proofs.RunningObjects.{SessionGoes, same_then, goes_none, goes_ends, goes_wanted, goes_then, goes_next, goes_stops}
use Rattle.client_lines.proofs.SoFar.{AnswersSoFar}
use Rattle.client_lines.proofs.objects.SessionObjects.answer_input.Goals.{in-Some+in-Read-1, in-None-1}
use Rattle.client_lines.proofs.objects.SessionObjects.answer_input.Goals as goal

pub loop-reader-init : goal.loop-reader-init
loop-reader-init g c =
    let p = objects_tell g.O.Sink g.K.Keeper g.R.Runner g.L.Link c.args.self.now in
    let a = state_of c.args.session.now in
    let left = g.I.Source.left c.args.input.now in
    let reader = c.new-reader.result in
    record {
      few = omega (arith, ap (λ (x : Reading). x.count) c.new-reader.ensures);
      no_line = ap (λ (x : Reading). cut_lines x.bytes) c.new-reader.ensures ∙ ap (λ (x : Reading). x.bytes ∷ []) (sym c.new-reader.ensures);
      taken = ([], reads_none left reader c.new-reader.ensures);
      source_same = refl;
      same = record { output = refl; keeper = refl; runner = refl; link = refl };
      did = goes_none (AnswersSoFar p.route a left left reader p.written p.written a) c.args.session.now p c.requires (so_far_none p.route a left p.written reader c.new-reader.ensures);
    }

pub returns-in_err-end-clause-did : goal.returns-in_err-end-clause-did
returns-in_err-end-clause-did g c =
    let x = err_from_is_err_and c.from_residual.result c.from_residual.ensures.1 in
    let p = objects_tell g.O.Sink g.K.Keeper g.R.Runner g.L.Link c.args.self.now in
    let q = objects_tell g.O.Sink g.K.Keeper g.R.Runner g.L.Link c.loop-reader.self in
    let a = state_of c.args.session.now in
    let b = state_of c.loop-reader.session in
    let left = g.I.Source.left c.args.input.now in
    let mid = g.I.Source.left c.loop-reader.input in
    let rest = g.I.Source.left c.read_piece.new.input in
    let old = c.loop-reader.reader in
    let lost = c.in_err-end.ensures.err in
    rw (x.1, x.2) (goes_wanted (AnswersSoFar p.route a left mid old p.written q.written b) (AnswersInput p.route a left rest p.written q.written (Err Memory) b) c.args.session.now c.loop-reader.session p q c.loop-reader.invariant.did
    (λ m so_far. so_far_lost p.route a left p.written mid rest old lost.0 b q.written m c.loop-reader.invariant.few lost.1 lost.2 so_far) InputEnd)

pub returns-in_err-end-clause-input : goal.returns-in_err-end-clause-input
returns-in_err-end-clause-input g c =
    let x = err_from_is_err_and c.from_residual.result c.from_residual.ensures.1 in
    let taken = c.loop-reader.invariant.taken in
    let lost = c.in_err-end.ensures.err in
    let lines = lost_in _ _ _ c.loop-reader.reader taken.0 lost.0 c.loop-reader.invariant.few lost.1 lost.2 taken.1 in
    rw x.1 (taken.0 ++ lines.0, lines.1, lines.2)

pub returns-in-Some-Failed-clause-did : goal.returns-in-Some-Failed-clause-did
returns-in-Some-Failed-clause-did g c =
    let p = objects_tell g.O.Sink g.K.Keeper g.R.Runner g.L.Link c.args.self.now in
    let q = objects_tell g.O.Sink g.K.Keeper g.R.Runner g.L.Link c.loop-reader.self in
    let a = state_of c.args.session.now in
    let b = state_of c.loop-reader.session in
    let left = g.I.Source.left c.args.input.now in
    let mid = g.I.Source.left c.loop-reader.input in
    let rest = g.I.Source.left c.read_piece.new.input in
    let old = c.loop-reader.reader in
    let new = c.read_piece.new.self in
    let failed : c.in-Some-Failed.field-0 ≡ Failed = rw c.in-Some-Failed.is at c.in-Some-Failed.field-0-is in
    let ended : c.in_ok-end.end ≡ Some Failed = c.in-Some-Failed.is ∙ ap (λ (e : InputEnd). Some e) failed in
    let same : new ≡ old = c.in_ok-end.ensures.failed (ap Ok ended) in
    goes_ends (AnswersSoFar p.route a left mid old p.written q.written b) (AnswersInput p.route a left rest p.written q.written (Ok Failed) b) c.args.session.now c.loop-reader.session p q c.loop-reader.invariant.did
    (λ m so_far. so_far_failed p.route a left p.written mid rest old new c.in_ok-end.end b q.written m c.loop-reader.invariant.few c.in_ok-end.ensures.ok ended same c.loop-reader.invariant.no_line so_far) Failed

pub returns-in-Some-Failed-clause-input : goal.returns-in-Some-Failed-clause-input
returns-in-Some-Failed-clause-input g c =
    let taken = c.loop-reader.invariant.taken in
    let old = c.loop-reader.reader in
    let new = c.read_piece.new.self in
    let failed : c.in-Some-Failed.field-0 ≡ Failed = rw c.in-Some-Failed.is at c.in-Some-Failed.field-0-is in
    let ended : c.in_ok-end.end ≡ Some Failed = c.in-Some-Failed.is ∙ ap (λ (e : InputEnd). Some e) failed in
    let same : new ≡ old = c.in_ok-end.ensures.failed (ap Ok ended) in
    (taken.0, failed_in _ _ _ old new taken.0 c.in_ok-end.end c.loop-reader.invariant.few c.in_ok-end.ensures.ok ended same c.loop-reader.invariant.no_line taken.1)

pub returns-then-quit-clause-did : goal.returns-then-quit-clause-did
returns-then-quit-clause-did g c =
    let p = objects_tell g.O.Sink g.K.Keeper g.R.Runner g.L.Link c.args.self.now in
    let q = objects_tell g.O.Sink g.K.Keeper g.R.Runner g.L.Link c.loop-reader.self in
    let s = objects_tell g.O.Sink g.K.Keeper g.R.Runner g.L.Link c.answer_lines.new.self in
    let a = state_of c.args.session.now in
    let b = state_of c.loop-reader.session in
    let d = state_of c.answer_lines.new.session in
    let left = g.I.Source.left c.args.input.now in
    let mid = g.I.Source.left c.loop-reader.input in
    let rest = g.I.Source.left c.read_piece.new.input in
    let old = c.loop-reader.reader in
    let new = c.read_piece.new.self in
    let done = c.in_ok-quit.quit in
    let quit : has_quit (whole_lines new.bytes) ≡ true = sym c.in_ok-quit.ensures.quit ∙ c.if-quit.true in
    goes_next (AnswersSoFar p.route a left mid old p.written q.written b) (λ (route : Route). AnswersLines route b (up_to_quit (whole_lines new.bytes)) q.written s.written (Ok done) d) c.args.session.now c.loop-reader.session c.answer_lines.new.session p q s
    c.loop-reader.invariant.did done Read (AnswersInput p.route a left rest p.written s.written (Ok Read) d) c.in_ok-quit.ensures.did
    (λ k m n first last. so_far_quits p.route a left p.written mid rest old new c.in_ok-end.end b d k q.written s.written m n c.loop-reader.invariant.few c.in_ok-end.ensures.ok quit first last.0 last.1)

pub returns-then-quit-clause-input : goal.returns-then-quit-clause-input
returns-then-quit-clause-input g c =
    let taken = c.loop-reader.invariant.taken in
    let new = c.read_piece.new.self in
    (taken.0 ++ up_to_quit (whole_lines new.bytes), quits_in _ _ _ c.loop-reader.reader new taken.0 c.in_ok-end.end c.loop-reader.invariant.few c.in_ok-end.ensures.ok (sym c.in_ok-quit.ensures.quit ∙ c.if-quit.true) taken.1)

pub returns-in_err-quit-clause-did : goal.returns-in_err-quit-clause-did
returns-in_err-quit-clause-did g c =
    let x = err_from_is_err_and c.from_residual-in_err-quit.result c.from_residual-in_err-quit.ensures.1 in
    let p = objects_tell g.O.Sink g.K.Keeper g.R.Runner g.L.Link c.args.self.now in
    let q = objects_tell g.O.Sink g.K.Keeper g.R.Runner g.L.Link c.loop-reader.self in
    let s = objects_tell g.O.Sink g.K.Keeper g.R.Runner g.L.Link c.answer_lines.new.self in
    let a = state_of c.args.session.now in
    let b = state_of c.loop-reader.session in
    let d = state_of c.answer_lines.new.session in
    let left = g.I.Source.left c.args.input.now in
    let mid = g.I.Source.left c.loop-reader.input in
    let rest = g.I.Source.left c.read_piece.new.input in
    let old = c.loop-reader.reader in
    let new = c.read_piece.new.self in
    let stop = c.in_err-quit.field-0.0 in
    rw (x.1, x.2) (goes_stops (AnswersSoFar p.route a left mid old p.written q.written b) (λ (route : Route). AnswersLines {T = Bool} route b (up_to_quit (whole_lines new.bytes)) q.written s.written (Err stop) d) c.args.session.now c.loop-reader.session c.answer_lines.new.session p q s
    c.loop-reader.invariant.did {U = Bool} InputEnd stop (AnswersInput p.route a left rest p.written s.written (Err stop) d) c.in_err-quit.ensures.did
    (λ k m n first last. so_far_stops p.route a left p.written mid rest old new c.in_ok-end.end stop b d k q.written s.written m n c.loop-reader.invariant.few c.in_ok-end.ensures.ok first last))

pub returns-in_err-quit-clause-input : goal.returns-in_err-quit-clause-input
returns-in_err-quit-clause-input g c =
    let x = err_from_is_err_and c.from_residual-in_err-quit.result c.from_residual-in_err-quit.ensures.1 in
    let taken = c.loop-reader.invariant.taken in
    let new = c.read_piece.new.self in
    let lines = stops_in _ _ _ c.loop-reader.reader new taken.0 c.in_ok-end.end c.loop-reader.invariant.few c.in_ok-end.ensures.ok taken.1 in
    rw x.1 ((taken.0 ++ up_to_quit (whole_lines new.bytes)) ++ lines.0, lines.1, lines.2)

pub returns-in_err-answer_last-clause-did : goal.returns-in_err-answer_last-clause-did
returns-in_err-answer_last-clause-did g c =
    let x = err_from_is_err_and c.from_residual-in_err-answer_last.result c.from_residual-in_err-answer_last.ensures.1 in
    let p = objects_tell g.O.Sink g.K.Keeper g.R.Runner g.L.Link c.args.self.now in
    let q = objects_tell g.O.Sink g.K.Keeper g.R.Runner g.L.Link c.loop-reader.self in
    let s = objects_tell g.O.Sink g.K.Keeper g.R.Runner g.L.Link c.answer_lines.new.self in
    let v = objects_tell g.O.Sink g.K.Keeper g.R.Runner g.L.Link c.answer_last.new.self in
    let a = state_of c.args.session.now in
    let b = state_of c.loop-reader.session in
    let d = state_of c.answer_lines.new.session in
    let left = g.I.Source.left c.args.input.now in
    let mid = g.I.Source.left c.loop-reader.input in
    let rest = g.I.Source.left c.read_piece.new.input in
    let old = c.loop-reader.reader in
    let new = c.read_piece.new.self in
    let e = state_of c.answer_last.new.session in
    let final = c.answer_lines.new.reader in
    let end = c.in-Some.end in
    let done = c.in_ok-quit.quit in
    let left_is : HasUnfinished new final = c.in_ok-quit.ensures.left c.if-quit.false in
    let none : has_quit (whole_lines new.bytes) ≡ false = sym c.in_ok-quit.ensures.quit ∙ c.if-quit.false in
    let ends : EndsAt rest final.count end = ends_at rest old.count new final c.in_ok-end.end end c.in-Some.is left_is c.in_ok-end.ensures.ok.ended in
    let so_far : SessionGoes (AnswersSoFar p.route a left rest final p.written s.written d) c.args.session.now c.answer_lines.new.session p s =
    goes_then (AnswersSoFar p.route a left mid old p.written q.written b) (λ (route : Route). AnswersLines route b (up_to_quit (whole_lines new.bytes)) q.written s.written (Ok done) d) c.args.session.now c.loop-reader.session c.answer_lines.new.session p q s
    c.loop-reader.invariant.did done (AnswersSoFar p.route a left rest final p.written s.written d) c.in_ok-quit.ensures.did (λ k trace turn. turn.1)
    (λ m n first last. so_far_more p.route a left p.written mid rest old new final c.in_ok-end.end b d q.written s.written m n c.loop-reader.invariant.few c.in_ok-end.ensures.ok left_is none first last.0) in
    let stop = c.in_err-answer_last.field-0.0 in
    rw (x.1, x.2) (goes_stops (AnswersSoFar p.route a left rest final p.written s.written d) (λ (route : Route). AnswersLines {T = Unit {0}} route d (last_at end final.bytes) s.written v.written (Err stop) e) c.args.session.now c.answer_lines.new.session c.answer_last.new.session p s v
    so_far {U = Unit {0}} InputEnd stop (AnswersInput p.route a left rest p.written v.written (Err stop) e) c.in_err-answer_last.ensures.did
    (λ k m n first last. all_stops p.route a left p.written rest final end stop d e k s.written v.written m n left_is.no_line ends first last))

pub returns-in_err-answer_last-clause-input : goal.returns-in_err-answer_last-clause-input
returns-in_err-answer_last-clause-input g c =
    let x = err_from_is_err_and c.from_residual-in_err-answer_last.result c.from_residual-in_err-answer_last.ensures.1 in
    let taken = c.loop-reader.invariant.taken in
    let new = c.read_piece.new.self in
    let lines = stops_in _ _ _ c.loop-reader.reader new taken.0 c.in_ok-end.end c.loop-reader.invariant.few c.in_ok-end.ensures.ok taken.1 in
    rw x.1 ((taken.0 ++ up_to_quit (whole_lines new.bytes)) ++ lines.0, lines.1, lines.2)

pub returns-in-Some-clause-did : goal.returns-in-Some-clause-did
returns-in-Some-clause-did g c =
    let p = objects_tell g.O.Sink g.K.Keeper g.R.Runner g.L.Link c.args.self.now in
    let q = objects_tell g.O.Sink g.K.Keeper g.R.Runner g.L.Link c.loop-reader.self in
    let s = objects_tell g.O.Sink g.K.Keeper g.R.Runner g.L.Link c.answer_lines.new.self in
    let v = objects_tell g.O.Sink g.K.Keeper g.R.Runner g.L.Link c.answer_last.new.self in
    let a = state_of c.args.session.now in
    let b = state_of c.loop-reader.session in
    let d = state_of c.answer_lines.new.session in
    let left = g.I.Source.left c.args.input.now in
    let mid = g.I.Source.left c.loop-reader.input in
    let rest = g.I.Source.left c.read_piece.new.input in
    let old = c.loop-reader.reader in
    let new = c.read_piece.new.self in
    let e = state_of c.answer_last.new.session in
    let final = c.answer_lines.new.reader in
    let end = c.in-Some.end in
    let done = c.in_ok-quit.quit in
    let left_is : HasUnfinished new final = c.in_ok-quit.ensures.left c.if-quit.false in
    let none : has_quit (whole_lines new.bytes) ≡ false = sym c.in_ok-quit.ensures.quit ∙ c.if-quit.false in
    let ends : EndsAt rest final.count end = ends_at rest old.count new final c.in_ok-end.end end c.in-Some.is left_is c.in_ok-end.ensures.ok.ended in
    let so_far : SessionGoes (AnswersSoFar p.route a left rest final p.written s.written d) c.args.session.now c.answer_lines.new.session p s =
    goes_then (AnswersSoFar p.route a left mid old p.written q.written b) (λ (route : Route). AnswersLines route b (up_to_quit (whole_lines new.bytes)) q.written s.written (Ok done) d) c.args.session.now c.loop-reader.session c.answer_lines.new.session p q s
    c.loop-reader.invariant.did done (AnswersSoFar p.route a left rest final p.written s.written d) c.in_ok-quit.ensures.did (λ k trace turn. turn.1)
    (λ m n first last. so_far_more p.route a left p.written mid rest old new final c.in_ok-end.end b d q.written s.written m n c.loop-reader.invariant.few c.in_ok-end.ensures.ok left_is none first last.0) in
    let answered = c.in_ok-answer_last.field-0 in
    goes_next (AnswersSoFar p.route a left rest final p.written s.written d) (λ (route : Route). AnswersLines route d (last_at end final.bytes) s.written v.written (Ok answered) e) c.args.session.now c.answer_lines.new.session c.answer_last.new.session p s v
    so_far answered end (AnswersInput p.route a left rest p.written v.written (Ok end) e) c.in_ok-answer_last.ensures.did
    (λ k m n first last. all_answered p.route a left p.written rest final end d e k s.written v.written m n left_is.no_line ends first last.0 last.1)

pub returns-in-Some-clause-input : goal.returns-in-Some-clause-input
returns-in-Some-clause-input g c =
    let left = g.I.Source.left c.args.input.now in
    let mid = g.I.Source.left c.loop-reader.input in
    let rest = g.I.Source.left c.read_piece.new.input in
    let old = c.loop-reader.reader in
    let new = c.read_piece.new.self in
    let final = c.answer_lines.new.reader in
    let end = c.in-Some.end in
    let taken = c.loop-reader.invariant.taken in
    let left_is : HasUnfinished new final = c.in_ok-quit.ensures.left c.if-quit.false in
    let none : has_quit (whole_lines new.bytes) ≡ false = sym c.in_ok-quit.ensures.quit ∙ c.if-quit.false in
    let ends : EndsAt rest final.count end = ends_at rest old.count new final c.in_ok-end.end end c.in-Some.is left_is c.in_ok-end.ensures.ok.ended in
    let behind = taken.0 ++ whole_lines new.bytes in (
      behind ++ last_at end final.bytes,
      all_in left rest final behind end left_is.no_line ends
          (reads_more left mid rest old new final taken.0 c.in_ok-end.end c.loop-reader.invariant.few c.in_ok-end.ensures.ok left_is none taken.1),
    )

pub loop-reader-preserved : goal.loop-reader-preserved
loop-reader-preserved g c =
    let p = objects_tell g.O.Sink g.K.Keeper g.R.Runner g.L.Link c.args.self.now in
    let q = objects_tell g.O.Sink g.K.Keeper g.R.Runner g.L.Link c.loop-reader.self in
    let s = objects_tell g.O.Sink g.K.Keeper g.R.Runner g.L.Link c.answer_lines.new.self in
    let a = state_of c.args.session.now in
    let b = state_of c.loop-reader.session in
    let d = state_of c.answer_lines.new.session in
    let left = g.I.Source.left c.args.input.now in
    let mid = g.I.Source.left c.loop-reader.input in
    let rest = g.I.Source.left c.read_piece.new.input in
    let old = c.loop-reader.reader in
    let new = c.read_piece.new.self in
    let final = c.answer_lines.new.reader in
    let done = c.in_ok-quit.quit in
    let left_is : HasUnfinished new final = c.in_ok-quit.ensures.left c.if-quit.false in
    let none : has_quit (whole_lines new.bytes) ≡ false = sym c.in_ok-quit.ensures.quit ∙ c.if-quit.false in
    let taken = c.loop-reader.invariant.taken in
    record {
      few = omega (arith, left_is.count, (subst (GoesOnOrEnds rest old.count new.count) c.in_default-end.is c.in_ok-end.ensures.ok.ended).1);
      no_line = left_is.no_line;
      taken = (taken.0 ++ whole_lines new.bytes, reads_more left mid rest old new final taken.0 c.in_ok-end.end c.loop-reader.invariant.few c.in_ok-end.ensures.ok left_is none taken.1);
      source_same = c.in_ok-end.ensures.cause.never (λ is. absurd (cc (is, c.in_default-end.is))) ∙ c.loop-reader.invariant.source_same;
      same = same_then c.args.self.now c.loop-reader.self c.answer_lines.new.self c.loop-reader.invariant.same c.answer_lines.ensures.same;
      did = goes_then (AnswersSoFar p.route a left mid old p.written q.written b) (λ (route : Route). AnswersLines route b (up_to_quit (whole_lines new.bytes)) q.written s.written (Ok done) d) c.args.session.now c.loop-reader.session c.answer_lines.new.session p q s
          c.loop-reader.invariant.did done (AnswersSoFar p.route a left rest final p.written s.written d) c.in_ok-quit.ensures.did (λ k trace turn. turn.1)
          (λ m n first last. so_far_more p.route a left p.written mid rest old new final c.in_ok-end.end b d q.written s.written m n c.loop-reader.invariant.few c.in_ok-end.ensures.ok left_is none first last.0);
    }

pub returns-in_err-answer_last-clause-source : goal.returns-in_err-answer_last-clause-source
returns-in_err-answer_last-clause-source g c =
    let x = err_from_is_err_and c.from_residual-in_err-answer_last.result c.from_residual-in_err-answer_last.ensures.1 in
    let other : c.in-Some.end ≡ Failed → ⊥ = λ is. elim c.match-end.branch [ in-Some+in-Read-1 w ↦ first_of (cc (is), grind (arith, is), search (rules, is)) | in-None-1 w ↦ first_of (cc (is), grind (arith, is), search (rules, is)) ] in
    no_source_fault (g.I.Source.faults c.args.input.now) (g.I.Source.faults c.loop-reader.input) (g.I.Source.faults c.read_piece.new.input) c.from_residual-in_err-answer_last.result
    (λ is. absurd (cc (is, x.1)))
    (c.in_ok-end.ensures.cause.never (λ is. other (cc (is, c.in-Some.is))))
    c.loop-reader.invariant.source_same

pub returns-in-Some-clause-source : goal.returns-in-Some-clause-source
returns-in-Some-clause-source g c =
    let other : c.in-Some.end ≡ Failed → ⊥ = λ is. elim c.match-end.branch [ in-Some+in-Read-1 w ↦ first_of (cc (is), grind (arith, is), search (rules, is)) | in-None-1 w ↦ first_of (cc (is), grind (arith, is), search (rules, is)) ] in
    no_source_fault (g.I.Source.faults c.args.input.now) (g.I.Source.faults c.loop-reader.input) (g.I.Source.faults c.read_piece.new.input) (Ok c.in-Some.end)
    (λ is. other (cc (is)))
    (c.in_ok-end.ensures.cause.never (λ is. other (cc (is, c.in-Some.is))))
    c.loop-reader.invariant.source_same
