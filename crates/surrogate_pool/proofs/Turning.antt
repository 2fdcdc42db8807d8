-- A turn of the loop that asks each surrogate, and its ends, over a link that tells its world.
use Rattle.std.proofs.Common.{◌≡◌, ℕ, ◌+◌, ◌<◌, ◌≤◌, true, false, List, [], ◌∷◌, ◌++◌, length, take, drop, Option, None, Some, Ok, Err, Vec, Bor, refl, sym, ◌∙◌, ap, subst, arith, append_assoc}
use Rattle.std.specs.Prelude.{get_or, ◌==◌, is_ok, IfSome}
use Rattle.std.specs.declared.alloc.Global.{Global}
use Rattle.std.proofs.lemmas.Bool.{true≢false}
use Rattle.std.proofs.lemmas.List.{length-take-le, take_all, take-append-drop, take_more}
use Rattle.std.proofs.lemmas.List.Splits.{length-slice_split}
use Rattle.wire_frames.specs.declared.message.Message.{Message}
use Rattle.wire_frames.specs.Frame.{Spells}
use Rattle.world_rules.specs.declared.asking.Peer.TheVariants.{Surrogate}
use Rattle.world_rules.specs.declared.link.LinkError.{LinkError}
use Rattle.world_rules.specs.declared.link.LinkError.TheVariants.{Failed as LinkFailed, Memory as LinkMemory}
use Rattle.world_rules.specs.Telling.{LinkTelling, ToldWorlds}
use Rattle.world_rules.specs.Asking.{AsksOnce}
use Rattle.world_rules.proofs.Asks.{told_as, told_then}
use Rattle.surrogate_pool.specs.Addresses.{addresses_in}
use Rattle.surrogate_pool.specs.Rounds.{is_done}
use Rattle.surrogate_pool.specs.Inside.{HasAsked}
use Rattle.surrogate_pool.proofs.Trying.{HasTried, first_of, result_of, tried_failed, tried_reply, asked_all, asked_in_part, asked_done}

-- the bytes behind a reference
abbrev pub text_of : Bor (List ℕ) → List ℕ
text_of part = part.now

-- where no reply came there is no result
pub no_first : (first : Option (Vec ℕ Global)) → result_of first ≡ Err LinkFailed → first ≡ None
no_first None is = refl
no_first (Some frame) is = absurd (true≢false (ap is_ok is))

-- the first reply is one of them
pub first_replies : (P : List ℕ → Type 0) (first : Option (Vec ℕ Global)) (frame : Vec ℕ Global) → IfSome first (λ bytes. P bytes.items)
    → P frame.items → IfSome (first_of first frame) (λ bytes. P bytes.items)
first_replies P None frame earlier here = here
first_replies P (Some reply) frame earlier here = earlier

-- a word joins one address at the least
pub some_address : (list : List ℕ) → 1 ≤ length (addresses_in list)
some_address list = omega (arith, length-slice_split (λ byte. byte == 44) list)

module _ (request : Message) (list : List ℕ) (t u : LinkTelling) (i : ℕ) (first : Option (Vec ℕ Global))
    (so_far : ToldWorlds t u (HasTried request (take i (addresses_in list)) first)) where
  abbrev before : List (List ℕ)
  before = take i (addresses_in list)

  -- all were asked
  pub told_all : i ≡ length (addresses_in list) → ToldWorlds t u (HasAsked Surrogate list request i (result_of first))
  told_all end =
      let none_left : length (addresses_in list) ≤ i = omega (arith, end) in
      let many : length before ≡ i = length-take-le i (addresses_in list) (omega (arith, end)) in
      let some : 1 ≤ length before = omega (arith, many, end, some_address list) in
      told_as t.world u.world (HasTried request before first) (HasAsked Surrogate list request i (result_of first)) so_far
      (λ x y tried. subst (λ n. HasAsked Surrogate list request n (result_of first) x y) many
      (asked_all request list before first x y tried (sym (take_all i (addresses_in list) none_left)) some))

  module _ (v : LinkTelling) (address : List ℕ) (within : i < length (addresses_in list)) (read : address ≡ get_or (addresses_in list) i address) where
    abbrev behind : List (List ℕ)
    behind = drop (i + 1) (addresses_in list)

    many_before : length before ≡ i
    many_before = length-take-le i (addresses_in list) (omega (arith, within))

    one_more : take (i + 1) (addresses_in list) ≡ before ++ address ∷ []
    one_more = take_more (addresses_in list) i address within ∙ ap (λ part. before ++ part ∷ []) (sym read)

    listed : addresses_in list ≡ before ++ address ∷ behind
    listed = sym (take-append-drop (i + 1) (addresses_in list)) ∙ ap (λ l. l ++ behind) one_more ∙ append_assoc before (address ∷ []) behind

    -- this one tells that the operation is done
    pub told_done : (frame : Vec ℕ Global) → ((reply : Message) → Spells reply frame.items → is_done reply ≡ true)
        → ToldWorlds u v (λ x y. AsksOnce Surrogate address request x y (Ok frame))
        → ToldWorlds t v (HasAsked Surrogate list request (i + 1) (Ok frame))
    told_done frame done once =
        told_then t.world u.world v.world (HasTried request before first) (λ x y. AsksOnce Surrogate address request x y (Ok frame))
        (HasAsked Surrogate list request (i + 1) (Ok frame)) so_far once
        (λ x y z tried asked. subst (λ n. HasAsked Surrogate list request (n + 1) (Ok frame) x z) many_before
        (asked_done request list before first x y tried z address behind listed frame done asked))

    -- memory ran out in this ask
    pub told_broken : (error : LinkError) → error ≡ LinkMemory → ToldWorlds u v (λ x y. AsksOnce Surrogate address request x y (Err error))
        → ToldWorlds t v (HasAsked Surrogate list request i (Err LinkMemory))
    told_broken error is broken =
        let once = subst (λ (e : LinkError). ToldWorlds u v (λ x y. AsksOnce Surrogate address request x y (Err e))) is broken in
        told_then t.world u.world v.world (HasTried request before first) (λ x y. AsksOnce Surrogate address request x y (Err LinkMemory))
        (HasAsked Surrogate list request i (Err LinkMemory)) so_far once
        (λ x y z tried asked. subst (λ n. HasAsked Surrogate list request n (Err LinkMemory) x z) many_before
        (asked_in_part request list before first x y tried z address behind listed asked))

    -- it failed
    pub told_failed : (error : LinkError) → error ≡ LinkFailed → ToldWorlds u v (λ x y. AsksOnce Surrogate address request x y (Err error))
        → ToldWorlds t v (HasTried request (take (i + 1) (addresses_in list)) first)
    told_failed error is failed =
        let once = subst (λ (e : LinkError). ToldWorlds u v (λ x y. AsksOnce Surrogate address request x y (Err e))) is failed in
        told_then t.world u.world v.world (HasTried request before first) (λ x y. AsksOnce Surrogate address request x y (Err LinkFailed))
        (HasTried request (take (i + 1) (addresses_in list)) first) so_far once
        (λ x y z tried asked. subst (λ l. HasTried request l first x z) (sym one_more) (tried_failed request before address first x y z tried asked))

    -- it was answered otherwise
    pub told_reply : (frame : Vec ℕ Global) → ((reply : Message) → Spells reply frame.items → is_done reply ≡ false)
        → ToldWorlds u v (λ x y. AsksOnce Surrogate address request x y (Ok frame))
        → ToldWorlds t v (HasTried request (take (i + 1) (addresses_in list)) (first_of first frame))
    told_reply frame undone once =
        told_then t.world u.world v.world (HasTried request before first) (λ x y. AsksOnce Surrogate address request x y (Ok frame))
        (HasTried request (take (i + 1) (addresses_in list)) (first_of first frame)) so_far once
        (λ x y z tried asked. subst (λ l. HasTried request l (first_of first frame) x z) (sym one_more)
        (tried_reply request before address first x y z tried frame undone asked))
