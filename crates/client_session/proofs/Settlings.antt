-- Asks that begin with a settling tell which settling it is.
use Rattle.std.proofs.Common.{◌≡◌, ℕ, zero, suc, ◌<◌, List, [], ◌∷◌, ◌++◌, Option, None, Some, refl, sym, ◌∙◌, ap, arith}
use Rattle.wire_frames.specs.declared.message.Message.{Message}
use Rattle.world_rules.specs.declared.asking.Peer.{Peer}
use Rattle.world_rules.specs.declared.asking.Ask.{Ask}
use Rattle.world_rules.specs.declared.asking.Answer.TheVariants.{Reply, Failed}
use Rattle.world_rules.specs.Asking.{ask_of}
use Rattle.world_rules.specs.Settling.{failures, settled, IsSettling}

abbrev first_or : Ask → List Ask → Ask
first_or other [] = other
first_or other (ask ∷ asks) = ask

abbrev all_but_first : List Ask → List Ask
all_but_first [] = []
all_but_first (ask ∷ asks) = asks

module _ (to : Peer) (address : List ℕ) (request : Message) where
  same_reply : (a b : Message) (xs ys : List Ask) → ask_of to address request (Reply a) ∷ xs ≡ ask_of to address request (Reply b) ∷ ys → (a ≡ b) × (xs ≡ ys)
  same_reply a b xs ys is =
      let replies : Reply a ≡ Reply b = ap (λ (ask : Ask). ask.answer) (ap (first_or (ask_of to address request (Reply a))) is) in
      let same : a ≡ b = cc (replies) in (same, ap all_but_first is)

  not_failed : (a : Message) (xs ys : List Ask) → ask_of to address request (Reply a) ∷ xs ≡ ask_of to address request Failed ∷ ys → ⊥
  not_failed a xs ys is =
      let answers : Reply a ≡ Failed = ap (λ (ask : Ask). ask.answer) (ap (first_or (ask_of to address request (Reply a))) is) in absurd (cc (answers))

  both_settled : (f g : ℕ) (a b : Message) (xs ys : List Ask) → settled to address request f a ++ xs ≡ settled to address request g b ++ ys → (f ≡ g) × (a ≡ b) × (xs ≡ ys)
  both_settled zero zero a b xs ys is = let same = same_reply a b xs ys is in (refl, same.0, same.1)
  both_settled zero (suc g) a b xs ys is = absurd (not_failed a xs (settled to address request g b ++ ys) is)
  both_settled (suc f) zero a b xs ys is = absurd (not_failed b ys (settled to address request f a ++ xs) (sym is))
  both_settled (suc f) (suc g) a b xs ys is =
      let rest : settled to address request f a ++ xs ≡ settled to address request g b ++ ys = ap all_but_first is in
      let same = both_settled f g a b xs ys rest in (ap suc same.0, same.1, same.2)

  settled_or_not : (f m : ℕ) (a : Message) (xs ys : List Ask) → f < m → settled to address request f a ++ xs ≡ failures to address request m ++ ys → ⊥
  settled_or_not f zero a xs ys less is = omega (arith, less)
  settled_or_not zero (suc m) a xs ys less is = not_failed a xs (failures to address request m ++ ys) is
  settled_or_not (suc f) (suc m) a xs ys less is =
      let rest : settled to address request f a ++ xs ≡ failures to address request m ++ ys = ap all_but_first is in settled_or_not f m a xs ys (omega (arith, less)) rest

  both_failed : (m : ℕ) (xs ys : List Ask) → failures to address request m ++ xs ≡ failures to address request m ++ ys → xs ≡ ys
  both_failed zero xs ys is = is
  both_failed (suc m) xs ys is = let rest : failures to address request m ++ xs ≡ failures to address request m ++ ys = ap all_but_first is in both_failed m xs ys rest

  -- the first settling of these asks is one
  pub same_settling : (r s : Option Message) (ks bs xs ys : List Ask) → IsSettling to address request r ks → IsSettling to address request s bs → ks ++ xs ≡ bs ++ ys → (r ≡ s) × (ks ≡ bs) × (xs ≡ ys)
  same_settling (Some a) (Some b) ks bs xs ys p q is =
      let whole : settled to address request p.0 a ++ xs ≡ settled to address request q.0 b ++ ys = sym (ap (λ (l : List Ask). l ++ xs) p.4) ∙ is ∙ ap (λ (l : List Ask). l ++ ys) q.4 in
      let same = both_settled p.0 q.0 a b xs ys whole in
      let asks : ks ≡ bs = p.4 ∙ ap (λ (n : ℕ). settled to address request n a) same.0 ∙ ap (λ (m : Message). settled to address request q.0 m) same.1 ∙ sym q.4 in
      (ap (λ (m : Message). Some m) same.1, asks, same.2)
  same_settling (Some a) None ks bs xs ys p q is =
      absurd (settled_or_not p.0 8 a xs ys p.1 (sym (ap (λ (l : List Ask). l ++ xs) p.4) ∙ is ∙ ap (λ (l : List Ask). l ++ ys) q))
  same_settling None (Some b) ks bs xs ys p q is =
      absurd (settled_or_not q.0 8 b ys xs q.1 (sym (ap (λ (l : List Ask). l ++ ys) q.4) ∙ sym is ∙ ap (λ (l : List Ask). l ++ xs) p))
  same_settling None None ks bs xs ys p q is =
      (refl, p ∙ sym q, both_failed 8 xs ys (sym (ap (λ (l : List Ask). l ++ xs) p) ∙ is ∙ ap (λ (l : List Ask). l ++ ys) q))
