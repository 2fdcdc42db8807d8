-- What a settling came to, from what each ask of it did.
use Rattle.std.proofs.Common.{◌≡◌, ◌⊎◌, inl, inr, ⊎_elim, ℕ, zero, suc, ◌+◌, ◌<◌, ◌≤◌, List, [], ◌∷◌, ◌++◌, Option, None, Some, IfSome, Result, Ok, Err, Vec, refl, ap, subst, arith}
use Rattle.std.specs.declared.alloc.AllocError.{AllocError}
use Rattle.std.specs.declared.alloc.Global.{Global}
use Rattle.std.proofs.Math.ListN.{replicate, replicate-append-replicate}
use Rattle.std.proofs.lemmas.List.{append-nil}
use Rattle.outside.specs.Outside.{Told}
use Rattle.tree_values.specs.Lists.{IsIn}
use Rattle.wire_frames.specs.declared.message.Message.{Message}
use Rattle.wire_frames.specs.Frame.{IsValid, Echoes, Spells}
use Rattle.world_rules.specs.declared.asking.Peer.{Peer}
use Rattle.world_rules.specs.declared.asking.Ask.{Ask}
use Rattle.world_rules.specs.declared.asking.Answer.{Answer}
use Rattle.world_rules.specs.declared.asking.Answer.TheVariants.{Reply, Failed, Memory}
use Rattle.world_rules.specs.declared.link.LinkError.TheVariants.{Failed as LinkFailed, Memory as LinkMemory}
use Rattle.world_rules.specs.declared.link.AskError.{AskError}
use Rattle.world_rules.specs.declared.link.AskError.TheVariants.{Troubles, Memory as AskMemory}
use Rattle.world_rules.specs.World.{World, Moved}
use Rattle.world_rules.specs.Telling.{LinkTelling, HadTroubles, IsCalm}
use Rattle.world_rules.specs.Asking.{ask_of, AsksOnce, IsDirect, IsReplyTo, AnswersStand}
use Rattle.world_rules.specs.Settling.{failures, settled, failed_asks, Settled, IsReadAs, IsFreshReply}
use Rattle.world_rules.proofs.Asks.{moved_then, moved_none, told_then, told_start, told_as, answers_append}

-- without trouble no ask has failed
pub first_try : (n : ℕ) (before between now : LinkTelling) → HadTroubles n before between → between.troubles ≤ now.troubles → IsCalm before now → n ≡ 0
first_try zero before between now rose later calm = refl
first_try (suc n) before between now rose later calm = absurd (calm (omega arith))

-- ---- asks that failed

pub failed-append : (xs ys : List Ask) → failed_asks (xs ++ ys) ≡ failed_asks xs + failed_asks ys
failed-append [] ys = omega arith
failed-append (x ∷ xs) ys = omega (arith, failed-append xs ys)

module _ (to : Peer) (address : List ℕ) (request : Message) where
  abbrev one : Answer → List Ask
  one answer = ask_of to address request answer ∷ []

  pub failed-failures : (n : ℕ) → failed_asks (failures to address request n) ≡ n
  failed-failures zero = refl
  failed-failures (suc n) = omega (arith, failed-failures n)

  failures_stand : (n : ℕ) (world : World) → AnswersStand world (failures to address request n)
  failures_stand zero world = tt
  failures_stand (suc n) world = (tt, failures_stand n world)

  -- so many asks that failed
  abbrev pub Failures : ℕ → World → World → Type 0
  Failures n old new = Moved request (failures to address request n) old new

  pub fails : (n : ℕ) (a b c : World) → Failures n a b → AsksOnce to address request b c (Err LinkFailed) → Failures (n + 1) a c
  fails n a b c so_far once =
      let failed = ask_of to address request Failed in
      subst (λ (m : List Ask). Moved request m a c) (replicate-append-replicate n 1 failed) (moved_then request (replicate n failed) (failed ∷ []) a b c so_far once)

  module _ (n : ℕ) (t u v : LinkTelling) (below : n < 8) (rose : HadTroubles n t u) (later : u.troubles ≤ v.troubles) (so_far : Told t.world u.world (Failures n)) where
    -- the reply that the bytes spell, in the world that is told
    replied : (b c : Option World) (frame : Vec ℕ Global) → IsReplyTo request frame.items → Told b c (λ y z. AsksOnce to address request y z (Ok frame))
        → (reply : Message) × Spells reply frame.items × Echoes request reply × Told b c (λ y z. IsIn reply z.packets × Moved request (one (Reply reply)) y z)
    replied (Some y) (Some z) frame is once = (once.0, once.1, once.2, (once.3, once.4))
    replied (Some y) None frame is once = absurd once
    replied None c frame is once = (is.0, is.1, is.2, once)

    -- after some asks that failed there came a reply
    pub replies : (frame : Vec ℕ Global) → IsReplyTo request frame.items → Told u.world v.world (λ y z. AsksOnce to address request y z (Ok frame))
        → (came : Result (Option Message) AllocError) × IsReadAs (Ok frame) came × Settled to address request t v came
    replies frame is once =
        let came = replied u.world v.world frame is once in
        let reply = came.0 in (
          Ok (Some reply),
          came.1,
          record {
            asks = settled to address request n reply;
            settling = (n, below, came.1.0, came.2, refl);
            rose = omega (arith, rose, later, failed-append (failures to address request n) (one (Reply reply)), failed-failures n);
            told = told_then t.world u.world v.world (Failures n) (λ y z. IsIn reply z.packets × Moved request (one (Reply reply)) y z)
                (λ x z. Moved request (settled to address request n reply) x z × AnswersStand z (settled to address request n reply)) so_far came.3
                (λ x y z failed sent. (
                  moved_then request (failures to address request n) (one (Reply reply)) x y z failed sent.1,
                  answers_append (failures to address request n) (one (Reply reply)) z (failures_stand n z) ((sent.0, came.2), tt),
                ));
          },
        )

    -- what was asked when memory was wanted
    broken : (b c : Option World) → Told b c (λ y z. AsksOnce to address request y z (Err LinkMemory))
        → Told b c (λ y z. Moved request (one Memory) y z) ⊎ Told b c (λ y z. Moved request [] y z)
    broken (Some y) (Some z) once = once
    broken (Some y) None once = absurd once
    broken None c once = inr once

    -- after some asks that failed memory was wanted
    pub breaks : (e : AllocError) → Told u.world v.world (λ y z. AsksOnce to address request y z (Err LinkMemory)) → Settled to address request t v (Err e)
    breaks e once = ⊎_elim
        (λ (more : _). record {
          asks = failures to address request n ++ one Memory;
          settling = (n, below, inr (Memory, refl));
          rose = omega (arith, rose, later, failed-append (failures to address request n) (one Memory), failed-failures n);
          told = told_then t.world u.world v.world (Failures n) (Moved request (one Memory)) (λ x z. Moved request (failures to address request n ++ one Memory) x z × AnswersStand z (failures to address request n ++ one Memory)) so_far more
              (λ x y z failed last. (
                moved_then request (failures to address request n) (one Memory) x y z failed last,
                answers_append (failures to address request n) (one Memory) z (failures_stand n z) (tt, tt),
              ));
        })
        (λ (none : _). record {
          asks = failures to address request n ++ [];
          settling = (n, below, inl (append-nil (failures to address request n)));
          rose = omega (arith, rose, later, failed-append (failures to address request n) [], failed-failures n);
          told = told_then t.world u.world v.world (Failures n) (Moved request []) (λ x z. Moved request (failures to address request n ++ []) x z × AnswersStand z (failures to address request n ++ [])) so_far none
              (λ x y z failed last. (
                moved_then request (failures to address request n) [] x y z failed last,
                answers_append (failures to address request n) [] z (failures_stand n z) tt,
              ));
        })
        (broken u.world v.world once)

  -- eight asks failed
  pub exhausts : (t u : LinkTelling) → HadTroubles 8 t u → Told t.world u.world (Failures 8) → Settled to address request t u (Ok None)
  exhausts t u rose so_far = record {
    asks = failures to address request 8;
    settling = refl;
    rose = omega (arith, rose, failed-failures 8);
    told = told_as t.world u.world (Failures 8) (λ x z. Moved request (failures to address request 8) x z × AnswersStand z (failures to address request 8)) so_far
        (λ x z failed. (failed, failures_stand 8 z));
  }

  -- nothing was asked yet
  pub settled_nothing : (t : LinkTelling) (e : AllocError) → Settled to address request t t (Err e)
  settled_nothing t e = record {
    asks = [];
    settling = (0, omega arith, inl refl);
    rose = omega arith;
    told = told_start t.world (λ x z. Moved request [] x z × Unit {0}) (λ x. (moved_none request x, tt));
  }

  -- ---- what a reader makes of it

  -- the reply was read
  pub settled_read : (t v : LinkTelling) (frame : Vec ℕ Global) (found : Message) → ((reply : Message) → Spells reply frame.items → reply ≡ found)
      → (came : Result (Option Message) AllocError) → IsReadAs (Ok frame) came → Settled to address request t v came → Settled to address request t v (Ok (Some found))
  settled_read t v frame found same (Ok (Some reply)) read s = subst (λ (m : Message). Settled to address request t v (Ok (Some m))) (same reply read) s
  settled_read t v frame found same (Ok None) read s = absurd read
  settled_read t v frame found same (Err e) read s = absurd read

  -- the reply came, and memory for reading it did not
  pub settled_unread : (t v : LinkTelling) (frame : Vec ℕ Global) (e : AllocError) (came : Result (Option Message) AllocError) → IsReadAs (Ok frame) came → Settled to address request t v came
      → Settled to address request t v (Err e)
  settled_unread t v frame e (Ok (Some reply)) read s = record { asks = s.asks; settling = (s.settling.0, s.settling.1, inr (Reply reply, s.settling.4)); rose = s.rose; told = s.told }
  settled_unread t v frame e (Ok None) read s = absurd read
  settled_unread t v frame e (Err other) read s = absurd read

  pub settled_none : (t v : LinkTelling) (came : Result (Option Message) AllocError) → IsReadAs (Err Troubles) came → Settled to address request t v came → Settled to address request t v (Ok None)
  settled_none t v (Ok None) read s = s
  settled_none t v (Ok (Some reply)) read s = absurd read
  settled_none t v (Err e) read s = absurd read

  pub settled_broken : (t v : LinkTelling) (e : AllocError) (came : Result (Option Message) AllocError) → IsReadAs (Err AskMemory) came → Settled to address request t v came
      → Settled to address request t v (Err e)
  settled_broken t v e (Err other) read s = record { asks = s.asks; settling = s.settling; rose = s.rose; told = s.told }
  settled_broken t v e (Ok None) read s = absurd read
  settled_broken t v e (Ok (Some reply)) read s = absurd read

  -- what is known of a reply, and of none
  pub settled_echoes : (t v : LinkTelling) (came : Option Message) → Settled to address request t v (Ok came) → IfSome came (λ reply. IsValid reply × Echoes request reply)
  settled_echoes t v (Some reply) s = (s.settling.2, s.settling.3)
  settled_echoes t v None s = tt

  pub settled_troubles : (t v : LinkTelling) (came : Option Message) → Settled to address request t v (Ok came) → came ≡ None → HadTroubles 8 t v
  settled_troubles t v (Some reply) s none = absurd (cc)
  settled_troubles t v None s none = omega (arith, s.rose, ap failed_asks s.settling, failed-failures 8)

  -- the reply that was read is the server's answer at a moment of the asking
  pub direct_reply : (old new : World) (frame : Vec ℕ Global) (found : Message) → ((reply : Message) → Spells reply frame.items → reply ≡ found)
      → IsDirect {E = AskError} to address request old new (Ok frame) → IsFreshReply request old new found
  direct_reply old new frame found same s = subst (IsFreshReply request old new) (same s.0 s.1) (ask_of to address request (Reply s.0) ∷ [], s.2)

-- the reply that a frame is read as
pub spelled_reply : (frame : Vec ℕ Global) (came : Result (Option Message) AllocError) → IsReadAs (Ok frame) came → (reply : Message) × Spells reply frame.items
spelled_reply frame (Ok (Some reply)) read = (reply, read)
spelled_reply frame (Ok None) read = absurd read
spelled_reply frame (Err e) read = absurd read
