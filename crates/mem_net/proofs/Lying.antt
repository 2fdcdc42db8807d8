-- What an ask of a liar comes to.
use Rattle.std.proofs.Common.{◌≡◌, ℕ, ◌≤◌, ◌↔◌, Bool, true, false, IsTrue, List, ◌∷◌, drop, Err, Ok, Vec, refl, sym, ◌∙◌, ap, subst}
use Rattle.std.specs.declared.alloc.Global.{Global}
use Rattle.outside.specs.Outside.{Rose, raised, HasCause, CountsFault}
use Rattle.wire_frames.specs.declared.message.Message.{Message}
use Rattle.world_rules.specs.declared.link.LinkError.{LinkError}
use Rattle.world_rules.specs.declared.link.LinkError.TheVariants.{Failed}
use Rattle.world_rules.specs.Asking.{IsReplyTo}
use Rattle.mem_net.specs.Lying.{Liar, LiesTo}

-- ---- what it answers

abbrev Answers : Message → List ℕ → Bool → Type 0
Answers request bytes is = IsTrue is ↔ IsReplyTo request bytes

-- the bytes that were looked at are those of the reply
module _ (request : Message) (bytes : Vec ℕ Global) (seen : List ℕ) (same : seen ≡ bytes.items) (is : Bool) (answers : Answers request seen is) where
  pub is_reply_by : is ≡ true → IsReplyTo request bytes.items
  is_reply_by test = subst (IsReplyTo request) same (answers.0 test)

  pub no_reply_by : is ≡ false → IsReplyTo request bytes.items → ⊥
  no_reply_by test reply = absurd (apart (sym test ∙ answers.1 (subst (IsReplyTo request) (sym same) reply)))
    where
      apart : false ≡ true → ⊥
      apart both = absurd (cc)

pub lies_by : (request : Message) (replies rest : List (Vec ℕ Global)) (bytes : Vec ℕ Global) → replies ≡ bytes ∷ rest → IsReplyTo request bytes.items
    → LiesTo request replies (Ok bytes)
lies_by request replies rest bytes front reply = subst (λ (l : List (Vec ℕ Global)). LiesTo request l (Ok bytes)) (sym front) (refl, reply)

pub fails_by : (request : Message) (replies rest : List (Vec ℕ Global)) (bytes : Vec ℕ Global) (error : LinkError) → replies ≡ bytes ∷ rest → error ≡ Failed
    → (IsReplyTo request bytes.items → ⊥) → LiesTo request replies (Err error)
fails_by request replies rest bytes error front failed none =
    subst (λ (l : List (Vec ℕ Global)). LiesTo request l (Err error)) (sym front)
    (subst (λ (e : LinkError). LiesTo request (bytes ∷ rest) (Err e)) (sym failed) none)

-- ---- what is left

pub one_taken : (old taken new : Liar) (bytes : Vec ℕ Global) → old.replies ≡ bytes ∷ taken.replies → new ≡ record taken { troubles = raised 1 taken.troubles }
    → new.replies ≡ drop 1 old.replies
one_taken old taken new bytes front counted = ap (λ (l : Liar). l.replies) counted ∙ sym (ap (λ (l : List (Vec ℕ Global)). drop 1 l) front)

-- ---- the troubles

module _ (old taken new : Liar) (error : LinkError) (taking : taken ≡ record old { replies = taken.replies }) (later : taken.troubles ≤ new.troubles) where
  before : (P : ℕ → Type 0) → P taken.troubles → P old.troubles
  before P holds = subst P (ap (λ (l : Liar). l.troubles) taking) holds

  pub caused : Rose taken.troubles new.troubles → HasCause {T = Vec ℕ Global} Failed old.troubles new.troubles (Err error)
  caused rose = before (λ (n : ℕ). HasCause {T = Vec ℕ Global} Failed n new.troubles (Err error)) (record { later = later; failed = λ is. rose })

  pub counts : error ≡ Failed → new ≡ record taken { troubles = raised 1 taken.troubles } → CountsFault {T = Vec ℕ Global} Failed old.troubles new.troubles (Err error)
  counts failed counted =
      before (λ (n : ℕ). CountsFault {T = Vec ℕ Global} Failed n new.troubles (Err error))
      (record {
        later = later;
        once = λ is. ap (λ (l : Liar). l.troubles) counted;
        never = λ other. absurd (other (ap Err failed));
      })
