-- How a check ends.
use Rattle.std.proofs.Common.{◌≡◌, ◌⊎◌, inl, inr, ℕ, ◌+◌, ◌≤◌, ◌<◌, List, length, Option, None, Some, Result, Ok, Err, refl, sym, ap, subst, arith}
use Rattle.std.specs.Prelude.{IsTrue, IfSome}
use Rattle.std.proofs.lemmas.List.{length-append}
use Rattle.outside.specs.Outside.{Takes, RisesWhere}
use Rattle.file_paths.specs.Path.{FilePath}
use Rattle.program_words.specs.Status.{code}
use Rattle.program_words.specs.declared.status.Status.{Status}
use Rattle.program_words.specs.declared.status.Status.TheVariants.{Done, CannotListen, NoForm, SourceFailed, SinkFailed, KeeperFailed}
use Rattle.program_words.specs.declared.status.Status.TheVariants.{OtherImage, NoMemory, TooLong, Refused}
use Rattle.tree_proof.specs.Tops.{Digest}
use Rattle.tree_proof.specs.Checking.{checked}
use Rattle.tree_proof.specs.declared.checking.Finding.{Finding}
use Rattle.tree_proof.specs.declared.checking.CheckError.{CheckError}
use Rattle.client_lines.specs.declared.input.InputEnd.TheVariants as ends
use Rattle.client_lines.specs.Limits.{max_input}
use Rattle.client_lines.proofs.Counting.{other_status, rises}
use Rattle.client_proof.specs.Ending.{StreamFaults, is_check_status, answer_status, WritesAnswer, BreaksAnswer, CheckEnds}
use Rattle.client_proof.specs.Inside.{ReadsAll, ReadsWithin, TellsFinding}

-- what holds of every value holds of one that is told
of_told : {A : Type 0} (told : Option A) (P : A → Type 0) → ((x : A) → P x) → IfSome told P
of_told None P holds = tt
of_told (Some x) P holds = holds x

-- no more is taken than there was
taken_fits : (bytes : List ℕ) (rest : Option (List ℕ)) (input : List ℕ) → Takes (Some bytes) rest input → length input ≤ length bytes
taken_fits bytes None input taken = absurd taken
taken_fits bytes (Some behind) input taken = let long = ap length taken in omega (arith, long, length-append input behind)

-- where a byte past the limit was taken, there were more than the limit
past_limit : (P : Type 0) (left rest : Option (List ℕ)) (input : List ℕ) → Takes left rest input → max_input < length input
    → IfSome left (λ bytes. length bytes ≤ max_input → P)
past_limit P None rest input taken past = tt
past_limit P (Some bytes) rest input taken past = λ few. let fits = taken_fits bytes rest input taken in absurd (omega (arith, fits))

-- an answer is found or refused
no_answer : (answer : Result Finding CheckError) (status : ℕ) → (status ≡ 0 → ⊥) → (status ≡ 9 → ⊥) → status ≡ answer_status answer → ⊥
no_answer (Ok finding) status no_finding no_refusal is = no_finding is
no_answer (Err refused) status no_finding no_refusal is = no_refusal is

-- a status that is none of two
neither : {P : Type 0} (status a b : ℕ) → (status ≡ a → ⊥) → (status ≡ b → ⊥) → (status ≡ a) ⊎ (status ≡ b) → P
neither status a b no_a no_b (inl is) = absurd (no_a is)
neither status a b no_a no_b (inr is) = absurd (no_b is)

-- ---- each end

module _ (root : Digest) (path : FilePath) (left rest written now : Option (List ℕ)) (before after : StreamFaults) where
  -- the source failed
  pub ends_failed : {P : Type 0} (bytes : List ℕ) → ReadsAll left rest bytes ends.Failed → RisesWhere P before.source after.source → P
      → after.sink ≡ before.sink → now ≡ written → CheckEnds root path 3 left rest written now before after
  ends_failed bytes reads source failed sink same =
      let few : length reads.input ≤ max_input = reads.ended in
      record {
        known = refl;
        source = record { later = source.later; once = λ is. source.once failed; never = λ no. absurd (no refl) };
        sink = other_status 4 before.sink after.sink 3 (λ is. absurd (cc is)) sink;
        input = reads.input;
        taken = reads.taken;
        most = omega (arith, few);
        past = (λ is. absurd (cc is), λ long. absurd (omega (arith, few)));
        answered = neither 3 0 9 (λ is. absurd (cc is)) (λ is. absurd (cc is));
        unread = λ is. same;
        unwritten = λ is. absurd (cc is);
        no_memory = λ is. absurd (cc is);
        complete = of_told left _ (λ all few no_source no_sink. absurd (no_source (rises before.source after.source source failed)));
      }

  -- a byte past the limit was read
  pub ends_long : (bytes : List ℕ) → ReadsAll left rest bytes ends.TooLong → after.source ≡ before.source
      → after.sink ≡ before.sink → now ≡ written → CheckEnds root path 8 left rest written now before after
  ends_long bytes reads source sink same =
      let most : length reads.input ≡ max_input + 1 = reads.ended in
      record {
        known = refl;
        source = other_status 3 before.source after.source 8 (λ is. absurd (cc is)) source;
        sink = other_status 4 before.sink after.sink 8 (λ is. absurd (cc is)) sink;
        input = reads.input;
        taken = reads.taken;
        most = omega (arith, most);
        past = (λ is. omega (arith, most), λ long. refl);
        answered = neither 8 0 9 (λ is. absurd (cc is)) (λ is. absurd (cc is));
        unread = λ is. same;
        unwritten = λ is. absurd (cc is);
        no_memory = λ is. absurd (cc is);
        complete = past_limit _ left rest reads.input reads.taken (omega (arith, most));
      }

  -- memory ran out before the end of the input
  pub ends_unread : ReadsWithin left rest 0 → after.source ≡ before.source → after.sink ≡ before.sink → now ≡ written
      → CheckEnds root path 7 left rest written now before after
  ends_unread reads source sink same =
      let fits = reads.2 in
      let few : length reads.0 ≤ max_input = omega (arith, fits) in
      record {
        known = refl;
        source = other_status 3 before.source after.source 7 (λ is. absurd (cc is)) source;
        sink = other_status 4 before.sink after.sink 7 (λ is. absurd (cc is)) sink;
        input = reads.0;
        taken = reads.1;
        most = omega (arith, few);
        past = (λ is. absurd (cc is), λ long. absurd (omega (arith, few)));
        answered = neither 7 0 9 (λ is. absurd (cc is)) (λ is. absurd (cc is));
        unread = neither 7 3 8 (λ is. absurd (cc is)) (λ is. absurd (cc is));
        unwritten = λ is. absurd (cc is);
        no_memory = λ is. inl same;
        complete = of_told left _ (λ all few no_source no_sink. inr (inr refl));
      }

  module _ (bytes : List ℕ) (reads : ReadsAll left rest bytes ends.Read) (source : after.source ≡ before.source) where
    whole : bytes ≡ reads.input
    whole = reads.whole refl

    taken : Takes left rest bytes
    taken = subst (Takes left rest) (sym whole) reads.taken

    few : length bytes ≤ max_input
    few = let long = ap length whole in omega (arith, long, reads.ended.1)

    -- the answer was written whole
    answered_whole : (status : ℕ) → IsTrue (is_check_status status) → (status ≡ 3 → ⊥) → (status ≡ 4 → ⊥) → (status ≡ 7 → ⊥)
        → (status ≡ 8 → ⊥) → (status ≡ 0) ⊎ ((status ≡ 9) ⊎ (status ≡ 7)) → RisesWhere (status ≡ 4) before.sink after.sink
        → WritesAnswer (checked root path bytes) status written now → CheckEnds root path status left rest written now before after
    answered_whole status known no_3 no_4 no_7 no_8 either sink answers = record {
      known = known;
      source = other_status 3 before.source after.source status no_3 source;
      sink = sink;
      input = bytes;
      taken = taken;
      most = omega (arith, few);
      past = (λ is. absurd (no_8 is), λ long. absurd (omega (arith, few)));
      answered = λ is. (reads.ended.0, answers);
      unread = neither status 3 8 no_3 no_8;
      unwritten = λ is. absurd (no_4 is);
      no_memory = λ is. absurd (no_7 is);
      complete = of_told left _ (λ all short no_source no_sink. either);
    }

    -- the sink failed
    ends_unwritten : RisesWhere (◌≡◌ {A = ℕ} 4 4) before.sink after.sink → BreaksAnswer (checked root path bytes) written now
        → CheckEnds root path 4 left rest written now before after
    ends_unwritten sink front = record {
      known = refl;
      source = other_status 3 before.source after.source 4 (λ is. absurd (cc is)) source;
      sink = sink;
      input = bytes;
      taken = taken;
      most = omega (arith, few);
      past = (λ is. absurd (cc is), λ long. absurd (omega (arith, few)));
      answered = neither 4 0 9 (λ is. absurd (cc is)) (λ is. absurd (cc is));
      unread = neither 4 3 8 (λ is. absurd (cc is)) (λ is. absurd (cc is));
      unwritten = λ is. (reads.ended.0, front);
      no_memory = λ is. absurd (cc is);
      complete = of_told left _ (λ all short no_source no_sink. absurd (no_sink (rises before.sink after.sink sink refl)));
    }

    -- memory ran out behind the end of the input
    ends_broken : RisesWhere (◌≡◌ {A = ℕ} 7 4) before.sink after.sink → BreaksAnswer (checked root path bytes) written now
        → CheckEnds root path 7 left rest written now before after
    ends_broken sink front = record {
      known = refl;
      source = other_status 3 before.source after.source 7 (λ is. absurd (cc is)) source;
      sink = sink;
      input = bytes;
      taken = taken;
      most = omega (arith, few);
      past = (λ is. absurd (cc is), λ long. absurd (omega (arith, few)));
      answered = neither 7 0 9 (λ is. absurd (cc is)) (λ is. absurd (cc is));
      unread = neither 7 3 8 (λ is. absurd (cc is)) (λ is. absurd (cc is));
      unwritten = λ is. absurd (cc is);
      no_memory = λ is. inr (reads.ended.0, front);
      complete = of_told left _ (λ all short no_source no_sink. inr (inr refl));
    }

    -- a status that no answer has
    no_such : {P : Type 0} (status : ℕ) → (status ≡ 0 → ⊥) → (status ≡ 9 → ⊥) → WritesAnswer (checked root path bytes) status written now → P
    no_such status no_0 no_9 answers = absurd (no_answer (checked root path bytes) status no_0 no_9 answers.0)

    pub ends_told : (status : Status) → RisesWhere (code status ≡ 4) before.sink after.sink
        → TellsFinding (checked root path bytes) status written now → CheckEnds root path (code status) left rest written now before after
    ends_told Done sink tells =
        answered_whole 0 refl (λ is. absurd (cc is)) (λ is. absurd (cc is)) (λ is. absurd (cc is)) (λ is. absurd (cc is)) (inl refl) sink tells
    ends_told Refused sink tells =
        answered_whole 9 refl (λ is. absurd (cc is)) (λ is. absurd (cc is)) (λ is. absurd (cc is)) (λ is. absurd (cc is)) (inr (inl refl)) sink tells
    ends_told SinkFailed sink tells = ends_unwritten sink tells
    ends_told NoMemory sink tells = ends_broken sink tells
    ends_told CannotListen sink tells = no_such 1 (λ is. absurd (cc is)) (λ is. absurd (cc is)) tells
    ends_told NoForm sink tells = no_such 2 (λ is. absurd (cc is)) (λ is. absurd (cc is)) tells
    ends_told SourceFailed sink tells = no_such 3 (λ is. absurd (cc is)) (λ is. absurd (cc is)) tells
    ends_told KeeperFailed sink tells = no_such 5 (λ is. absurd (cc is)) (λ is. absurd (cc is)) tells
    ends_told OtherImage sink tells = no_such 6 (λ is. absurd (cc is)) (λ is. absurd (cc is)) tells
    ends_told TooLong sink tells = no_such 8 (λ is. absurd (cc is)) (λ is. absurd (cc is)) tells
