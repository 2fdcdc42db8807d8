-- What handlings did outside, one after the other.
use Rattle.std.proofs.Common.{◌≡◌, ◌≢◌, inl, inr, ℕ, ◌+◌, List, [], ◌∷◌, ◌++◌, Option, None, Some, option_map, Result, Ok, Err, refl, sym, ◌∙◌, ap, subst, arith, append_assoc}
use Rattle.std.proofs.lemmas.List.{append-nil}
use Rattle.std.specs.Prelude.{IfOk, OnErr, Vec}
use Rattle.std.specs.declared.alloc.Global.{Global}
use Rattle.std.specs.declared.alloc.AllocError.{AllocError}
use Rattle.outside.specs.Outside.{RoseBy}
use Rattle.tree_values.specs.Lists.{IsIn}
use Rattle.tree_values.specs.Tree.{Volume}
use Rattle.cmd_capture.specs.declared.runner.Run.{Run}
use Rattle.wire_frames.specs.declared.message.FrameError.{FrameError}
use Rattle.wire_frames.specs.declared.message.FrameError.TheVariants as refusals
use Rattle.wire_frames.specs.declared.message.Message.{Message}
use Rattle.wire_frames.specs.declared.message.Message.TheVariants as messages
use Rattle.wire_frames.specs.Frame.{IsValid, frame}
use Rattle.wire_frames.specs.Malformed.{refusal_code, refusal_offset}
use Rattle.wire_frames.specs.Reading.{frame_of, GivesFrame}
use Rattle.world_rules.specs.declared.asking.Ask.{Ask}
use Rattle.world_rules.specs.World.{World, MovedBy}
use Rattle.world_rules.specs.Asking.{AnswersStand}
use Rattle.world_rules.specs.Settling.{failed_asks}
use Rattle.world_rules.proofs.Asks.{moved_by_then, moved_by_none, moved_packets, told_then, told_start, told_as, answers_append, answers_stay}
use Rattle.surrogate_core.specs.Serving.{MayAsk, ServesTo, Serves, WorldWent, failures_told}
use Rattle.surrogate_prog.specs.Serving.{Doings, did_nothing, and_then, ServesRead, BreaksServing, AnyAsks, Outside, Did}
use Rattle.surrogate_prog.specs.Inside.{IsMessageHandled, BreaksHandled, RepliesTo, BreaksReply}
use Rattle.world_rules.proofs.Settled.{failed-append}
use Rattle.port_serving.proofs.Connections.{raised_more}
use Rattle.world_rules.proofs.Allowing.{all_allowed_as}

-- ---- who may send

moved_as : (P Q : Message → Type 0) (made : List Ask) (old new : World) → ((message : Message) → P message → Q message) → MovedBy P made old new → MovedBy Q made old new
moved_as P Q made old new too moved = record { steps = moved.steps; allowed = all_allowed_as P Q too moved.steps old moved.allowed; result = moved.result }

among_first : (x : List ℕ) (xs ys : List (List ℕ)) → IsIn x xs → IsIn x (xs ++ ys)
among_first x [] ys is = absurd is
among_first x (y ∷ xs) ys (inl is) = inl is
among_first x (y ∷ xs) ys (inr is) = inr (among_first x xs ys is)

among_last : (x : List ℕ) (xs ys : List (List ℕ)) → IsIn x ys → IsIn x (xs ++ ys)
among_last x [] ys is = is
among_last x (y ∷ xs) ys is = inr (among_last x xs ys is)

asks_first : (xs ys : List (List ℕ)) (message : Message) → AnyAsks xs message → AnyAsks (xs ++ ys) message
asks_first xs ys message asks = (asks.0, asks.1, asks.2, among_first asks.0 xs ys asks.3, asks.4, asks.5, asks.6)

asks_last : (xs ys : List (List ℕ)) (message : Message) → AnyAsks ys message → AnyAsks (xs ++ ys) message
asks_last xs ys message asks = (asks.0, asks.1, asks.2, among_last asks.0 xs ys asks.3, asks.4, asks.5, asks.6)

-- ---- counts

rose_more : (m n a b c : ℕ) → RoseBy m a b → RoseBy n b c → RoseBy (m + n) a c
rose_more m n a b c first second = omega arith

runs_more : (a b c : Option (List Run)) (xs ys : List Run) → b ≡ option_map (λ list. list ++ xs) a → c ≡ option_map (λ list. list ++ ys) b → c ≡ option_map (λ list. list ++ (xs ++ ys)) a
runs_more None b c xs ys first second = second ∙ ap (option_map (λ (list : List Run). list ++ ys)) first
runs_more (Some x) b c xs ys first second = second ∙ ap (option_map (λ (list : List Run). list ++ ys)) first ∙ ap (λ (l : List Run). Some l) (append_assoc x xs ys)

no_runs : (a : Option (List Run)) → a ≡ option_map (λ list. list ++ []) a
no_runs None = refl
no_runs (Some x) = ap (λ (l : List Run). Some l) (sym (append-nil x))

-- ---- outside

pub nothing_done : (frames : List (List ℕ)) (there : Outside) → Did frames did_nothing there there
nothing_done frames there = record {
  has_run = record { told = no_runs there.runner.runs; counted = omega arith };
  had_troubles = omega arith;
  went = told_start there.link.world (λ before after. MovedBy (AnyAsks frames) [] before after × AnswersStand after []) (λ world. (moved_by_none (AnyAsks frames) world, tt));
}

pub did_more : (xs ys : List (List ℕ)) (first more : Doings) (a b c : Outside) → Did xs first a b → Did ys more b c → Did (xs ++ ys) (and_then first more) a c
did_more xs ys first more a b c one two = record {
  has_run = record {
    told = runs_more a.runner.runs b.runner.runs c.runner.runs first.runs more.runs one.has_run.told two.has_run.told;
    counted = raised_more first.failed more.failed a.runner.faults b.runner.faults c.runner.faults one.has_run.counted two.has_run.counted;
  };
  had_troubles =
      subst (λ (n : ℕ). RoseBy n a.link.troubles c.link.troubles) (sym (failed-append first.asks more.asks))
      (rose_more (failed_asks first.asks) (failed_asks more.asks) a.link.troubles b.link.troubles c.link.troubles one.had_troubles two.had_troubles);
  went =
      told_then a.link.world b.link.world c.link.world (λ before after. MovedBy (AnyAsks xs) first.asks before after × AnswersStand after first.asks)
      (λ before after. MovedBy (AnyAsks ys) more.asks before after × AnswersStand after more.asks)
      (λ before after. MovedBy (AnyAsks (xs ++ ys)) (first.asks ++ more.asks) before after × AnswersStand after (first.asks ++ more.asks)) one.went two.went joined;
}
  where
    joined : (x y z : World) → MovedBy (AnyAsks xs) first.asks x y × AnswersStand y first.asks → MovedBy (AnyAsks ys) more.asks y z × AnswersStand z more.asks
        → MovedBy (AnyAsks (xs ++ ys)) (first.asks ++ more.asks) x z × AnswersStand z (first.asks ++ more.asks)
    joined x y z before after = (
      moved_by_then (AnyAsks (xs ++ ys)) first.asks more.asks x y z (moved_as (AnyAsks xs) (AnyAsks (xs ++ ys)) first.asks x y (asks_first xs ys) before.0)
          (moved_as (AnyAsks ys) (AnyAsks (xs ++ ys)) more.asks y z (asks_last xs ys) after.0),
      answers_append first.asks more.asks z (answers_stay first.asks y z (λ message. moved_packets (AnyAsks ys) more.asks y z message after.0) before.1) after.1,
    )

-- ---- one message

-- what a handling did of a message that these bytes spell
abbrev pub doings_of : List Run → Result Message AllocError → List Ask → Doings
doings_of runs result asks = record { runs = runs; failed = failures_told result; asks = asks }

went_any : (bytes server work : List ℕ) (copy after : Volume) (request : Message) (result : Result Message AllocError) (runs : List Run) (asks : List Ask) → frame_of bytes ≡ Ok request → IsValid request
    → ServesTo server work copy request runs asks result after → (old new : World) → WorldWent request asks old new → MovedBy (AnyAsks (bytes ∷ [])) asks old new × AnswersStand new asks
went_any bytes server work copy after (messages.Operate client sketched) result runs asks read valid serves old new went =
    (moved_as (MayAsk client sketched) (AnyAsks (bytes ∷ [])) asks old new (λ message may. (bytes, client, sketched, inl refl, read, valid, may)) went.0, went.1)
went_any bytes server work copy after request result runs asks read valid serves old new went = idle asks serves.2 went
  where
    idle : (made : List Ask) → made ≡ [] → new ≡ old → MovedBy (AnyAsks (bytes ∷ [])) made old new × AnswersStand new made
    idle made none same =
        subst (λ (l : List Ask). MovedBy (AnyAsks (bytes ∷ [])) l old new × AnswersStand new l) (sym none)
        (subst (λ (w : World). MovedBy (AnyAsks (bytes ∷ [])) [] old w) (sym same) (moved_by_none (AnyAsks (bytes ∷ [])) old), tt)

pub did_of : (bytes server work : List ℕ) (copy after : Volume) (request : Message) (result : Result Message AllocError) (old new : Outside) → frame_of bytes ≡ Ok request → IsValid request
    → (serves : Serves server work copy request result after old.runner new.runner old.link new.link) → Did (bytes ∷ []) (doings_of serves.runs result serves.asks) old new
did_of bytes server work copy after request result old new read valid serves = record {
  has_run = serves.has_run;
  had_troubles = serves.had_troubles;
  went = told_as old.link.world new.link.world (WorldWent request serves.asks) (λ before after. MovedBy (AnyAsks (bytes ∷ [])) serves.asks before after × AnswersStand after serves.asks) serves.went (λ x y went. went_any bytes server work copy after request result serves.runs serves.asks read valid serves.serves x y went);
}

module _ (server work bytes : List ℕ) (copy : Volume) (request : Message) (old new : Outside) (read : frame_of bytes ≡ Ok request) (valid : IsValid request) where
  pub replies_handled : (answer : List ℕ) (after : Volume) → IsMessageHandled server work copy request answer after old new → RepliesTo server work bytes answer copy after old new
  replies_handled answer after handled =
      let did = doings_of handled.serves.runs (Ok handled.reply) handled.serves.asks in
      record {
        did = did;
        serves = record {
          reply = handled.reply;
          serves = subst (λ (r : Result Message FrameError). ServesRead server work copy r did handled.reply after) (sym read) (handled.serves.serves, refl);
          spells = handled.spells;
        };
        did_outside = did_of bytes server work copy after request (Ok handled.reply) old new read valid handled.serves;
      }

  pub breaks_handled : BreaksHandled server work copy request old new → BreaksReply server work bytes copy old new
  breaks_handled broken = record {
    did = doings_of broken.serves.runs broken.result broken.serves.asks;
    breaks = inr (record { bytes = bytes; taken = refl; request = request; read = read; result = broken.result; after = broken.after; serves = broken.serves.serves; failed = refl });
    did_outside = did_of bytes server work copy broken.after request broken.result old new read valid broken.serves;
  }

-- bytes that are refused are answered so
pub replies_refused : (server work bytes answer : List ℕ) (copy : Volume) (refusal : FrameError) (there : Outside) → frame_of bytes ≡ Err refusal
    → answer ≡ frame (messages.Malformed (refusal_code refusal) (refusal_offset refusal)) → RepliesTo server work bytes answer copy copy there there
replies_refused server work bytes answer copy refusal there read spells = record {
  did = did_nothing;
  serves = record {
    reply = messages.Malformed (refusal_code refusal) (refusal_offset refusal);
    serves = subst (λ (r : Result Message FrameError). ServesRead server work copy r did_nothing (messages.Malformed (refusal_code refusal) (refusal_offset refusal)) copy) (sym read) (refl, refl, refl);
    spells = spells;
  };
  did_outside = nothing_done (bytes ∷ []) there;
}

pub breaks_before : (server work bytes : List ℕ) (copy : Volume) (there : Outside) → BreaksReply server work bytes copy there there
breaks_before server work bytes copy there = record { did = did_nothing; breaks = inl refl; did_outside = nothing_done (bytes ∷ []) there }

-- a frame that was served and is not answered
pub unanswered : (server work bytes reply : List ℕ) (s t : Volume) (old new : Outside) → RepliesTo server work bytes reply s t old new → BreaksReply server work bytes s old new
unanswered server work bytes reply s t old new replied = record { did = replied.did; breaks = by (frame_of bytes) refl replied.serves.serves; did_outside = replied.did_outside }
  where
    by : (came : Result Message FrameError) → frame_of bytes ≡ came → ServesRead server work s came replied.did replied.serves.reply t → BreaksServing server work s (bytes ∷ []) replied.did
    by (Ok request) read serves =
        inr (record { bytes = bytes; taken = refl; request = request; read = read; result = Ok replied.serves.reply; after = t; serves = serves.0; failed = serves.1 })
    by (Err refusal) read serves = inl serves.1

-- ---- by what a call gave

module _ (server work bytes : List ℕ) (copy : Volume) (old new : Outside) (result : Result (Vec ℕ Global) AllocError) where
  pub replies_where : (after : Volume) (request : Message) → frame_of bytes ≡ Ok request → IsValid request → IfOk result (λ answer. IsMessageHandled server work copy request answer.items after old new)
      → IfOk result (λ answer. RepliesTo server work bytes answer.items copy after old new)
  replies_where after request read valid handled = by result handled
    where
      by : (came : Result (Vec ℕ Global) AllocError) → IfOk came (λ answer. IsMessageHandled server work copy request answer.items after old new) → IfOk came (λ answer. RepliesTo server work bytes answer.items copy after old new)
      by (Ok answer) is = replies_handled server work bytes copy request old new read valid answer.items after is
      by (Err e) is = tt

  pub breaks_where : (request : Message) → frame_of bytes ≡ Ok request → IsValid request → OnErr result (BreaksHandled server work copy request old new) → OnErr result (BreaksReply server work bytes copy old new)
  breaks_where request read valid broken = by result broken
    where
      by : (came : Result (Vec ℕ Global) AllocError) → OnErr came (BreaksHandled server work copy request old new) → OnErr came (BreaksReply server work bytes copy old new)
      by (Ok answer) is = tt
      by (Err e) is = breaks_handled server work bytes copy request old new read valid is

pub refused_where : (server work bytes : List ℕ) (copy : Volume) (there : Outside) (result : Result (Vec ℕ Global) AllocError) (refusal : FrameError) (message : Message) → frame_of bytes ≡ Err refusal
    → message ≡ messages.Malformed (refusal_code refusal) (refusal_offset refusal) → IfOk result (λ answer. answer.items ≡ frame message) → IfOk result (λ answer. RepliesTo server work bytes answer.items copy copy there there)
refused_where server work bytes copy there (Ok answer) refusal message read is spells = replies_refused server work bytes answer.items copy refusal there read (spells ∙ ap frame is)
refused_where server work bytes copy there (Err e) refusal message read is spells = tt

-- bytes that were refused for themselves are refused by the definition so
pub refused_read : (refusal : FrameError) (wanted : Result Message FrameError) → refusal ≢ refusals.Memory → GivesFrame (Err refusal) wanted → wanted ≡ Err refusal
refused_read refusals.Memory wanted other gives = absurd (other refl)
refused_read refusal wanted other gives = gives
