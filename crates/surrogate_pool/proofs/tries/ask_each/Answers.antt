use Rattle.std.proofs.Common.{◌≡◌, ◌∙◌, ℕ, ◌+◌, ◌<◌, ◌≤◌, List, length, take, Option, Some, Result, Err, Vec, Global, sym, ap, subst, arith}
use Rattle.std.specs.Prelude.{IfSome, is_some, get_or}
use Rattle.std.proofs.lemmas.Bool.{true≢false}
use Rattle.std.proofs.lemmas.List.{length-map}
use Rattle.wire_frames.specs.Frame.{Spells}
use Rattle.world_rules.specs.declared.asking.Peer.TheVariants.{Surrogate}
use Rattle.world_rules.specs.declared.link.LinkError.{LinkError}
use Rattle.world_rules.specs.Telling.{LinkTelling, ToldWorlds}
use Rattle.world_rules.specs.Asking.{IsReplyTo}
use Rattle.world_rules.proofs.Asks.{told_start}
use Rattle.surrogate_pool.specs.Addresses.{addresses_in}
use Rattle.surrogate_pool.specs.Inside.{HasAsked}
use Rattle.surrogate_pool.proofs.Trying.{HasTried, first_of, result_of, asked_nothing}
use Rattle.surrogate_pool.proofs.Turning.{text_of, no_first, first_replies, some_address, told_all, told_done, told_broken, told_failed, told_reply}
use Rattle.surrogate_pool.proofs.tries.ask_each.Goals as goal
use Rattle.surrogate_pool.proofs.tries.ask_each.Goals.{in-Ok-ask+else-is_done, in-Err-Failed}

pub returns-in_default-clause-asked : goal.returns-in_default-clause-asked
returns-in_default-clause-asked g c = λ request spells.
    told_start (g.L.Link.tells c.args.link.now).world _ (asked_nothing request c.args.address.now)

pub returns-then-is_done-clause-asked : goal.returns-then-is_done-clause-asked
returns-then-is_done-clause-asked g c = λ request spells.
    let list = c.args.address.now in
    let sized : length (addresses_in list) ≡ c.len-many.result =
    omega (arith, ap (λ (l : List (List ℕ)). length l) c.in-Ok.ensures, length-map c.in-Ok.addresses.items text_of, c.in-Ok.addresses.ok.0, c.len-many.ensures) in
    told_done request list (g.L.Link.tells c.args.link.now) (g.L.Link.tells c.loop-tried.link) c.loop-tried.tried c.loop-tried.first
    (c.loop-tried.invariant.tried request spells) (g.L.Link.tells c.ask.new.self) c.part_at-part.result.now (omega (arith, sized, c.loop-tried-test.true))
    (c.part_at-part.ensures ∙ ap (λ (l : List (List ℕ)). get_or l c.loop-tried.tried c.part_at-part.result.now) c.in-Ok.ensures) c.in-Ok-ask.reply
    (λ reply spelled. sym (c.is_done.ensures reply (subst (Spells reply) (sym c.deref.ensures.value) spelled)) ∙ c.if-is_done.true)
    (c.in-Ok-ask.ensures.world request spells)

pub returns-in-Err-Memory-clause-asked : goal.returns-in-Err-Memory-clause-asked
returns-in-Err-Memory-clause-asked g c = λ request spells.
    let list = c.args.address.now in
    let sized : length (addresses_in list) ≡ c.len-many.result =
    omega (arith, ap (λ (l : List (List ℕ)). length l) c.in-Ok.ensures, length-map c.in-Ok.addresses.items text_of, c.in-Ok.addresses.ok.0, c.len-many.ensures) in
    told_broken request list (g.L.Link.tells c.args.link.now) (g.L.Link.tells c.loop-tried.link) c.loop-tried.tried c.loop-tried.first
    (c.loop-tried.invariant.tried request spells) (g.L.Link.tells c.ask.new.self) c.part_at-part.result.now (omega (arith, sized, c.loop-tried-test.true))
    (c.part_at-part.ensures ∙ ap (λ (l : List (List ℕ)). get_or l c.loop-tried.tried c.part_at-part.result.now) c.in-Ok.ensures)
    c.in-Err-Memory.field-0 c.in-Err-Memory.field-0-is (c.in-Err-Memory.ensures.world request spells)

pub loop-tried-preserved : goal.loop-tried-preserved
loop-tried-preserved g c =
    let list = c.args.address.now in
    let t : LinkTelling = g.L.Link.tells c.args.link.now in
    let u : LinkTelling = g.L.Link.tells c.loop-tried.link in
    let v : LinkTelling = g.L.Link.tells c.ask.new.self in
    let sized : length (addresses_in list) ≡ c.len-many.result =
    omega (arith, ap (λ (l : List (List ℕ)). length l) c.in-Ok.ensures, length-map c.in-Ok.addresses.items text_of, c.in-Ok.addresses.ok.0, c.len-many.ensures) in
    let within : c.loop-tried.tried < length (addresses_in list) = omega (arith, sized, c.loop-tried-test.true) in
    let read : c.part_at-part.result.now ≡ get_or (addresses_in list) c.loop-tried.tried c.part_at-part.result.now =
    c.part_at-part.ensures ∙ ap (λ (l : List (List ℕ)). get_or l c.loop-tried.tried c.part_at-part.result.now) c.in-Ok.ensures in
    elim c.match-ask.branch [
      | in-Ok-ask+else-is_done w ↦
          let next : c.match-ask.first ≡ first_of c.loop-tried.first w.in-Ok-ask.reply = w.first-is ∙ ap Some w.unwrap_or.ensures in
          record {
            later = omega (arith, c.loop-tried.invariant.later, w.in-Ok-ask.ensures.cause.later);
            rose = λ none some. absurd (true≢false (sym (ap is_some w.first-is) ∙ ap is_some none));
            kept = g.met.L.Link.keeps_then c.args.link.now c.loop-tried.link c.ask.new.self c.loop-tried.invariant.kept w.in-Ok-ask.ensures.kept;
            first = λ request spells. subst (λ (first : Option (Vec ℕ Global)). IfSome first (λ bytes. IsReplyTo request bytes.items)) (sym next)
                (first_replies (IsReplyTo request) c.loop-tried.first w.in-Ok-ask.reply (c.loop-tried.invariant.first request spells) (w.in-Ok-ask.ensures.reply request spells));
            tried = λ request spells. subst (λ (first : Option (Vec ℕ Global)). ToldWorlds t v (HasTried request (take (c.loop-tried.tried + 1) (addresses_in list)) first)) (sym next)
                (told_reply request list t u c.loop-tried.tried c.loop-tried.first
                (c.loop-tried.invariant.tried request spells) v c.part_at-part.result.now within read w.in-Ok-ask.reply
                (λ reply spelled. sym (w.is_done.ensures reply (subst (Spells reply) (sym w.deref.ensures.value) spelled)) ∙ w.if-is_done.false)
                (w.in-Ok-ask.ensures.world request spells));
          }
      | in-Err-Failed w ↦ record {
        later = omega (arith, c.loop-tried.invariant.later, w.in-Err-Failed.ensures.cause.later);
        rose = λ none some. omega (arith, c.loop-tried.invariant.later, w.in-Err-Failed.ensures.cause.failed (ap Err w.in-Err-Failed.field-0-is));
        kept = g.met.L.Link.keeps_then c.args.link.now c.loop-tried.link c.ask.new.self c.loop-tried.invariant.kept w.in-Err-Failed.ensures.kept;
        first = λ request spells. subst (λ (first : Option (Vec ℕ Global)). IfSome first (λ bytes. IsReplyTo request bytes.items)) (sym w.first-is)
            (c.loop-tried.invariant.first request spells);
        tried = λ request spells. subst (λ (first : Option (Vec ℕ Global)). ToldWorlds t v (HasTried request (take (c.loop-tried.tried + 1) (addresses_in list)) first)) (sym w.first-is)
            (told_failed request list t u c.loop-tried.tried c.loop-tried.first
            (c.loop-tried.invariant.tried request spells) v c.part_at-part.result.now within read
            w.in-Err-Failed.field-0 w.in-Err-Failed.field-0-is (w.in-Err-Failed.ensures.world request spells));
      }
    ]

pub returns-clause-asked : goal.returns-clause-asked
returns-clause-asked g c = λ request spells.
    let list = c.args.address.now in
    let t : LinkTelling = g.L.Link.tells c.args.link.now in
    let u : LinkTelling = g.L.Link.tells c.loop-tried.link in
    let sized : length (addresses_in list) ≡ c.len-many.result =
    omega (arith, ap (λ (l : List (List ℕ)). length l) c.in-Ok.ensures, length-map c.in-Ok.addresses.items text_of, c.in-Ok.addresses.ok.0, c.len-many.ensures) in
    let many : c.loop-tried.tried ≡ c.len-many.result = omega (arith, c.loop-tried-test.false, c.loop-tried.auto.tried-end) in
    subst (λ (answer : Result (Vec ℕ Global) LinkError). ToldWorlds t u (HasAsked Surrogate list request c.len-many.result answer)) (sym c.ok_or.ensures.value)
    (subst (λ (n : ℕ). ToldWorlds t u (HasAsked Surrogate list request n (result_of c.loop-tried.first))) many
    (told_all request list t u c.loop-tried.tried c.loop-tried.first (c.loop-tried.invariant.tried request spells) (omega (arith, many, sized))))

pub returns-clause-cause : goal.returns-clause-cause
returns-clause-cause g c =
    let list = c.args.address.now in
    let sized : length (addresses_in list) ≡ c.len-many.result =
    omega (arith, ap (λ (l : List (List ℕ)). length l) c.in-Ok.ensures, length-map c.in-Ok.addresses.items text_of, c.in-Ok.addresses.ok.0, c.len-many.ensures) in
    let some : 1 ≤ c.loop-tried.tried = omega (arith, sized, c.loop-tried-test.false, c.loop-tried.auto.tried-end, some_address list) in
    record {
      later = c.loop-tried.invariant.later;
      failed = λ fails. c.loop-tried.invariant.rose (no_first c.loop-tried.first (sym c.ok_or.ensures.value ∙ fails)) some;
    }
