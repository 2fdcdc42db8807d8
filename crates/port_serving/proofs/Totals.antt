-- What the connections of a run amount to.
use Rattle.std.proofs.Common.{◌≡◌, inl, inr, ⊎_elim, ℕ, ◌+◌, ◌-◌, List, [], ◌∷◌, ◌++◌, length, map, Option, None, Some, refl, sym, ◌∙◌, ap, subst, arith}
use Rattle.std.proofs.lemmas.List.{append_cancel_left, append-nil, map-append}
use Rattle.std.proofs.lemmas.Grind.{flat_map-append}
use Rattle.std.specs.Option.{option_to_list}
use Rattle.outside.specs.Outside.{Told, raised, Adds}
use Rattle.outside.specs.Port.{Talk, PortTelling, AddsTalks}
use Rattle.port_serving.specs.Serving.{Connection, Missed, Unanswered, Answered, frames_taken, frames_answered, talks, unanswered, failed_connections, UsesAll, UsesFront, served_line, served_line_of}
use Rattle.port_serving.specs.Laws.{frames_of, replies_of, TalksAreExchanges, fall, HasFallen, HasTalks, IsTold}
use Rattle.port_serving.proofs.Connections.{adds_none, adds_more, failures-append}

-- ---- frames and replies of talks

pub frames_of-append : (xs ys : List Talk) → frames_of (xs ++ ys) ≡ frames_of xs ++ frames_of ys
frames_of-append xs ys = map-append _ xs ys

pub replies_of-append : (xs ys : List Talk) → replies_of (xs ++ ys) ≡ replies_of xs ++ replies_of ys
replies_of-append xs ys = flat_map-append (λ (talk : Talk). option_to_list talk.reply) xs ys

pub frames_of_talks : (connections : List Connection) → frames_of (talks connections) ≡ frames_taken connections
frames_of_talks [] = refl
frames_of_talks (Missed ∷ more) = frames_of_talks more
frames_of_talks (Unanswered frame reply ∷ more) = ap (λ (l : List (List ℕ)). frame ∷ l) (frames_of_talks more)
frames_of_talks (Answered frame reply ∷ more) = ap (λ (l : List (List ℕ)). frame ∷ l) (frames_of_talks more)

pub replies_of_talks : (connections : List Connection) → replies_of (talks connections) ≡ frames_answered connections
replies_of_talks [] = refl
replies_of_talks (Missed ∷ more) = replies_of_talks more
replies_of_talks (Unanswered frame reply ∷ more) = replies_of_talks more
replies_of_talks (Answered frame reply ∷ more) = ap (λ (l : List (List ℕ)). reply ∷ l) (replies_of_talks more)

pub frames_at_hand : (frames : List (List ℕ)) → frames_of (map unanswered frames) ≡ frames
frames_at_hand [] = refl
frames_at_hand (frame ∷ frames) = ap (λ (l : List (List ℕ)). frame ∷ l) (frames_at_hand frames)

no_replies : (frames : List (List ℕ)) → replies_of (map unanswered frames) ≡ []
no_replies [] = refl
no_replies (frame ∷ frames) = no_replies frames

told_by : (f : List Talk → List (List ℕ)) (old new : Option (List Talk)) (more : List Talk) (frames : List (List ℕ)) → ((before : List Talk) → f (before ++ more) ≡ f before ++ frames) → AddsTalks old new more
    → Told old new (λ before after. f after ≡ f before ++ frames)
told_by f None new more frames joins adds = adds
told_by f (Some x) None more frames joins adds = absurd adds
told_by f (Some x) (Some y) more frames joins adds = ap f adds ∙ joins x

pub talks_are_exchanges : TalksAreExchanges
talks_are_exchanges connections old new uses = record {
  taken = told_by frames_of old.talks new.talks (talks connections) (frames_taken connections) (λ before. frames_of-append before (talks connections) ∙ ap (λ (l : List (List ℕ)). frames_of before ++ l) (frames_of_talks connections)) uses.talks;
  answered = told_by replies_of old.talks new.talks (talks connections) (frames_answered connections) (λ before. replies_of-append before (talks connections) ∙ ap (λ (l : List (List ℕ)). replies_of before ++ l) (replies_of_talks connections)) uses.talks;
}

-- each connection is answered, or a call of the port failed
answered_or_failed : (connections : List Connection) → failed_connections connections + length (frames_answered connections) ≡ length connections
answered_or_failed [] = refl
answered_or_failed (Missed ∷ more) =
    let one : failed_connections (Missed ∷ more) ≡ 1 + failed_connections more = failures-append (Missed ∷ []) more in
    omega (arith, one, answered_or_failed more)
answered_or_failed (Unanswered frame reply ∷ more) =
    let one : failed_connections (Unanswered frame reply ∷ more) ≡ 1 + failed_connections more = failures-append (Unanswered frame reply ∷ []) more in
    omega (arith, one, answered_or_failed more)
answered_or_failed (Answered frame reply ∷ more) =
    let none : failed_connections (Answered frame reply ∷ more) ≡ 0 + failed_connections more = failures-append (Answered frame reply ∷ []) more in
    omega (arith, none, answered_or_failed more)

-- ---- the fall

pub all_fallen : (count : ℕ) (connections : List Connection) (old new : PortTelling) (whole : Type 0) → UsesAll count connections old new → HasFallen count whole old new
all_fallen count connections old new whole is = record {
  fewer = omega (arith, is.uses.left);
  most = omega (arith, is.uses.left, is.most);
  ended = λ _. ⊎_elim (λ (full : length connections ≡ count). inl (omega (arith, is.uses.left, full))) (λ (none : new.left ≡ 0). inr none) is.ended;
}

pub front_fallen : (count : ℕ) (connections : List Connection) (frames : List (List ℕ)) (old new : PortTelling) (whole : Type 0) → (whole → ⊥) → UsesFront count connections frames old new → HasFallen count whole old new
front_fallen count connections frames old new whole other is = record {
  fewer = omega (arith, is.uses.left, is.at_hand.left);
  most = omega (arith, is.uses.left, is.at_hand.left, is.most);
  ended = λ ended. absurd (other ended);
}

pub not_fallen : (count : ℕ) (old new : PortTelling) (whole : Type 0) → (whole → ⊥) → new ≡ old → HasFallen count whole old new
not_fallen count old new whole other same =
    let left : new.left ≡ old.left = ap (λ (t : PortTelling). t.left) same in
    record { fewer = omega (arith, left); most = omega (arith, left); ended = λ ended. absurd (other ended) }

-- ---- the talks

pub same_talks : (old new : Option (List Talk)) (before xs ys : List Talk) → old ≡ Some before → new ≡ Some (before ++ ys) → AddsTalks old new xs → xs ≡ ys
same_talks old new before xs ys o n adds =
    let told : before ++ ys ≡ before ++ xs =
    subst (λ (m : Option (List Talk)). AddsTalks (Some before) m xs) n (subst (λ (p : Option (List Talk)). AddsTalks p new xs) o adds) in
    sym (append_cancel_left before ys xs told)

-- connections that were all used up, as told
module _ (count : ℕ) (connections : List Connection) (old new : PortTelling) (is : UsesAll count connections old new) (all : List Talk) (has : HasTalks all old new) where
  same_all : talks connections ≡ all
  same_all = same_talks old.talks new.talks has.before (talks connections) all has.old_talks has.new_talks is.uses.talks

  pub all_taken : frames_taken connections ≡ frames_of all
  all_taken = sym (frames_of_talks connections) ∙ ap frames_of same_all

  all_replied : frames_answered connections ≡ replies_of all
  all_replied = sym (replies_of_talks connections) ∙ ap replies_of same_all

  all_failed : failed_connections connections ≡ fall old new - length (replies_of all)
  all_failed = omega (arith, answered_or_failed connections, ap length all_replied, is.uses.left)

  same_line : served_line_of connections ≡ served_line (length (frames_of all)) (fall old new - length (replies_of all))
  same_line = ap (λ (l : List (List ℕ)). served_line (length l) (failed_connections connections)) all_taken ∙ ap (λ (n : ℕ). served_line (length (frames_of all)) n) all_failed

  raised_all : new.faults ≡ raised (fall old new - length (replies_of all)) old.faults
  raised_all = is.uses.failed ∙ ap (λ (n : ℕ). raised n old.faults) all_failed

  pub told_all : (whole lined : Type 0) (written now : Option (List ℕ)) → Adds written now (served_line_of connections) → IsTold whole lined all old new written now
  told_all whole lined written now adds = record { all = λ _. raised_all; at_hand = inl raised_all; line = λ _. subst (Adds written now) same_line adds }

  pub told_in_line : (whole lined : Type 0) (written now : Option (List ℕ)) → (lined → ⊥) → IsTold whole lined all old new written now
  told_in_line whole lined written now other = record { all = λ _. raised_all; at_hand = inl raised_all; line = λ line. absurd (other line) }

module _ (count : ℕ) (connections : List Connection) (frames : List (List ℕ)) (old new : PortTelling) (is : UsesFront count connections frames old new) (all : List Talk) (has : HasTalks all old new) where
  same_front : talks connections ++ map unanswered frames ≡ all
  same_front =
      same_talks old.talks new.talks has.before (talks connections ++ map unanswered frames) all has.old_talks has.new_talks
      (adds_more old.talks is.middle.talks new.talks (talks connections) (map unanswered frames) is.uses.talks is.at_hand.talks)

  pub front_taken : frames_taken connections ++ frames ≡ frames_of all
  front_taken =
      sym (ap (λ (l : List (List ℕ)). l ++ frames) (frames_of_talks connections)) ∙ sym (ap (λ (l : List (List ℕ)). frames_of (talks connections) ++ l) (frames_at_hand frames))
      ∙ sym (frames_of-append (talks connections) (map unanswered frames)) ∙ ap frames_of same_front

  front_replied : length (frames_answered connections) ≡ length (replies_of all)
  front_replied =
      let both : replies_of all ≡ frames_answered connections ++ [] =
      ap replies_of (sym same_front) ∙ replies_of-append (talks connections) (map unanswered frames) ∙ ap (λ (l : List (List ℕ)). replies_of (talks connections) ++ l) (no_replies frames)
      ∙ ap (λ (l : List (List ℕ)). l ++ []) (replies_of_talks connections) in
      ap length (sym (both ∙ append-nil (frames_answered connections)))

  pub told_front : (whole lined : Type 0) (written now : Option (List ℕ)) → (whole → ⊥) → (lined → ⊥) → IsTold whole lined all old new written now
  told_front whole lined written now part unlined =
      let missing : failed_connections connections ≡ fall old new - length (replies_of all) - 1 = omega (arith, answered_or_failed connections, front_replied, is.uses.left, is.at_hand.left) in
      record {
        all = λ ended. absurd (part ended);
        at_hand = inr (is.at_hand.faults ∙ is.uses.failed ∙ ap (λ (n : ℕ). raised n old.faults) missing);
        line = λ line. absurd (unlined line);
      }

-- nothing was taken
module _ (old new : PortTelling) (same : new ≡ old) (all : List Talk) (has : HasTalks all old new) where
  pub none_taken : frames_of all ≡ []
  none_taken =
      let none : [] ≡ all = same_talks old.talks new.talks has.before [] all has.old_talks has.new_talks (subst (λ (t : PortTelling). AddsTalks old.talks t.talks []) (sym same) (adds_none old.talks)) in
      ap frames_of (sym none)

  pub told_none : (whole lined : Type 0) (written now : Option (List ℕ)) → (whole → ⊥) → (lined → ⊥) → IsTold whole lined all old new written now
  told_none whole lined written now part unlined =
      let left : new.left ≡ old.left = ap (λ (t : PortTelling). t.left) same in
      let faults : new.faults ≡ old.faults = ap (λ (t : PortTelling). t.faults) same in
      record { all = λ ended. absurd (part ended); at_hand = inl (omega (arith, left, faults)); line = λ line. absurd (unlined line) }
