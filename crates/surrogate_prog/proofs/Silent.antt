-- Servers that did not answer.
use Rattle.std.proofs.Common.{◌≡◌, ◌≤◌, ℕ, ◌+◌, ◌*◌, Bool, true, false, List, [], ◌∷◌, ◌++◌, Result, Ok, Err, refl, sym, ◌∙◌, ap, subst, arith}
use Rattle.std.specs.Prelude.{count_by, cond}
use Rattle.std.specs.declared.alloc.AllocError.{AllocError}
use Rattle.std.proofs.lemmas.List.Sums.{sum_by-append}
use Rattle.replay_judge.proofs.Agreed.{all_fill}
use Rattle.tree_values.specs.Tree.{Volume}
use Rattle.cmd_capture.specs.declared.runner.Run.{Run}
use Rattle.mod_log.specs.declared.sketching.SketchEntry.{SketchEntry}
use Rattle.wire_frames.specs.declared.cause.Cause.{Cause}
use Rattle.wire_frames.specs.declared.cause.Cause.TheVariants as causes
use Rattle.wire_frames.specs.declared.message.FrameError.{FrameError}
use Rattle.wire_frames.specs.declared.message.Message.{Message}
use Rattle.wire_frames.specs.declared.message.Message.TheVariants as messages
use Rattle.wire_frames.specs.Malformed.{refusal_code, refusal_offset}
use Rattle.wire_frames.specs.Reading.{frame_of}
use Rattle.world_rules.specs.declared.asking.Ask.{Ask}
use Rattle.world_rules.specs.Settling.{failed_asks}
use Rattle.surrogate_core.specs.Handling.{Handling}
use Rattle.surrogate_core.specs.Serving.{ServesTo}
use Rattle.surrogate_core.proofs.Copies.{keeps_the_copy}
use Rattle.surrogate_core.proofs.Causes.{declines_have_causes}
use Rattle.surrogate_prog.specs.Serving.{Doings, ServesRead}
use Rattle.surrogate_prog.specs.Laws.{silent_cause, is_silent, SilentServersFailedEight}
use Rattle.world_rules.proofs.Settled.{failed-append}

silent_of : (cause : Cause) → silent_cause cause ≡ true → cause ≡ causes.NoServer
silent_of causes.NoServer is = refl
silent_of cause is = absurd (cc is)

-- a handling that is declined so asked eight times in vain
handled_silent : (server work : List ℕ) (copy after : Volume) (client : ℕ) (sketched : SketchEntry) (runs : List Run) (asks : List Ask) (reply : Message) → Handling server work copy client sketched runs asks reply after
    → is_silent reply ≡ true → 8 ≤ failed_asks asks
handled_silent server work copy after client sketched runs asks (messages.Declined of number cause) handling is =
    let ends = keeps_the_copy all_fill client sketched copy server work runs asks (messages.Declined of number cause) after handling in
    declines_have_causes server work copy after client sketched runs asks causes.NoServer
    (subst (λ (m : Message). Handling server work copy client sketched runs asks m after)
    (ap (λ c. messages.Declined c number cause) ends.0 ∙ ap (λ n. messages.Declined client n cause) ends.1 ∙ ap (λ w. messages.Declined client sketched.seq w) (silent_of cause is)) handling)
handled_silent server work copy after client sketched runs asks reply handling is = absurd (cc is)

abbrev as_ok : Message → Result Message AllocError
as_ok message = Ok message

served_silent : (server work : List ℕ) (copy after : Volume) (request : Message) (runs : List Run) (asks : List Ask) (reply : Message) → ServesTo server work copy request runs asks (Ok reply) after
    → is_silent reply ≡ true → 8 ≤ failed_asks asks
served_silent server work copy after (messages.Operate client sketched) runs asks reply serves is = handled_silent server work copy after client sketched runs asks reply serves is
served_silent server work copy after request runs asks reply serves is = absurd (no_silence reply serves.0 is)
  where
    no_silence : (reply : Message) → as_ok reply ≡ as_ok (messages.Malformed 7 0) → is_silent reply ≡ true → ⊥
    no_silence (messages.Malformed code offset) e is = cc is
    no_silence reply e is = cc e

read_silent : (server work : List ℕ) (copy after : Volume) (came : Result Message FrameError) (did : Doings) (reply : Message) → ServesRead server work copy came did reply after → is_silent reply ≡ true → 8 ≤ failed_asks did.asks
read_silent server work copy after (Ok request) did reply serves is = served_silent server work copy after request did.runs did.asks reply serves.0 is
read_silent server work copy after (Err refusal) did reply serves is = absurd (by serves.0)
  where
    by : reply ≡ messages.Malformed (refusal_code refusal) (refusal_offset refusal) → ⊥
    by malformed = absurd (cc (sym (ap is_silent malformed) ∙ is))

-- ---- counts

pub counted : (test : Message → Bool) (reply : Message) (replies : List Message) → count_by test (reply ∷ replies) ≡ cond (test reply) 1 0 + count_by test replies
counted test reply replies = omega (arith, sum_by-append (λ (r : Message). cond (test r) 1 0) (reply ∷ []) replies)

enough : (silent : Bool) (count asked rest : ℕ) → (silent ≡ true → 8 ≤ asked) → 8 * count ≤ rest → 8 * (cond silent 1 0 + count) ≤ asked + rest
enough true count asked rest eight more = omega (arith, eight refl, more)
enough false count asked rest eight more = omega (arith, more)

pub silent_servers_failed_eight : SilentServersFailedEight
silent_servers_failed_eight server work copy after [] did serves = ([], tt, omega arith)
silent_servers_failed_eight server work copy after (pair ∷ pairs) did serves =
    let one = serves.3 in
    let more = silent_servers_failed_eight server work serves.2 after pairs serves.1 serves.4 in
    let eight = read_silent server work copy serves.2 (frame_of pair.0) serves.0 one.reply one.serves in (
      one.reply ∷ more.0,
      (one.spells, more.1),
      subst (λ (d : Doings). 8 * count_by is_silent (one.reply ∷ more.0) ≤ failed_asks d.asks) (sym serves.5)
          (subst (λ (n : ℕ). 8 * n ≤ failed_asks (serves.0.asks ++ serves.1.asks)) (sym (counted is_silent one.reply more.0))
          (subst (λ (n : ℕ). 8 * (cond (is_silent one.reply) 1 0 + count_by is_silent more.0) ≤ n) (sym (failed-append serves.0.asks serves.1.asks))
          (enough (is_silent one.reply) (count_by is_silent more.0) (failed_asks serves.0.asks) (failed_asks serves.1.asks) eight more.2))),
    )
