use Rattle.std.proofs.Common.{◌≡◌, ◌∙◌, ℕ, List, Err, alloc_error, sym, subst}
use Rattle.std.proofs.lemmas.Result.{err_from_is_err_and}
use Rattle.wire_frames.specs.declared.message.Message.{Message}
use Rattle.wire_frames.specs.Frame.{Spells}
use Rattle.world_rules.specs.declared.link.AskError.{AskError}
use Rattle.world_rules.specs.Telling.{LinkTelling}
use Rattle.world_rules.specs.Settling.{IsReadAs}
use Rattle.world_rules.proofs.Asks.{told_as}
use Rattle.world_rules.proofs.Settled.{settled_nothing, settled_read, settled_unread, settled_none, settled_broken, spelled_reply, direct_reply}
use Rattle.world_rules.proofs.settling.settle.Goals as goal

pub returns-in_err-frame-clause-settled : goal.returns-in_err-frame-clause-settled
returns-in_err-frame-clause-settled g c =
    let p = err_from_is_err_and c.from_residual.result c.from_residual.ensures.1 in
    rw p.1 (settled_nothing c.args.to c.args.address.now c.args.request.now (g.L.Link.tells c.args.link.now) p.0)

pub read_reply-requires : goal.read_reply-requires
read_reply-requires g c =
    let request : Message = c.args.request.now in
    let spells : Spells request c.deref.result.now = (c.requires.valid, c.deref.ensures.value ∙ c.in_ok-frame.ensures) in
    let came = c.in-Ok.ensures.settled request spells in
    let told = spelled_reply c.in-Ok.bytes came.0 came.1 in
    (told.0, subst (λ (b : List ℕ). Spells told.0 b) (sym c.deref-in-Ok.ensures.value) told.1)

pub returns-in-Ok-read_reply-clause-settled : goal.returns-in-Ok-read_reply-clause-settled
returns-in-Ok-read_reply-clause-settled g c =
    let to = c.args.to in
    let address = c.args.address.now in
    let request : Message = c.args.request.now in
    let t : LinkTelling = g.L.Link.tells c.args.link.now in
    let u : LinkTelling = g.L.Link.tells c.ask_eight.new.link in
    let spells : Spells request c.deref.result.now = (c.requires.valid, c.deref.ensures.value ∙ c.in_ok-frame.ensures) in
    let same : (reply : Message) → Spells reply c.in-Ok.bytes.items → reply ≡ c.in-Ok-read_reply.reply =
    λ reply is. c.in-Ok-read_reply.ensures reply (subst (λ (b : List ℕ). Spells reply b) (sym c.deref-in-Ok.ensures.value) is) in
    let came = c.in-Ok.ensures.settled request spells in
    settled_read to address request t u c.in-Ok.bytes c.in-Ok-read_reply.reply same came.0 came.1 came.2

pub returns-in-Ok-read_reply-clause-direct : goal.returns-in-Ok-read_reply-clause-direct
returns-in-Ok-read_reply-clause-direct g c = λ to_server calm.
    let to = c.args.to in
    let address = c.args.address.now in
    let request : Message = c.args.request.now in
    let t : LinkTelling = g.L.Link.tells c.args.link.now in
    let u : LinkTelling = g.L.Link.tells c.ask_eight.new.link in
    let spells : Spells request c.deref.result.now = (c.requires.valid, c.deref.ensures.value ∙ c.in_ok-frame.ensures) in
    let same : (reply : Message) → Spells reply c.in-Ok.bytes.items → reply ≡ c.in-Ok-read_reply.reply =
    λ reply is. c.in-Ok-read_reply.ensures reply (subst (λ (b : List ℕ). Spells reply b) (sym c.deref-in-Ok.ensures.value) is) in
    told_as t.world u.world _ _ (c.in-Ok.ensures.direct request spells to_server calm) (λ x y is. direct_reply to address request x y c.in-Ok.bytes c.in-Ok-read_reply.reply same is)

pub returns-in-Ok-clause-settled : goal.returns-in-Ok-clause-settled
returns-in-Ok-clause-settled g c =
    let to = c.args.to in
    let address = c.args.address.now in
    let request : Message = c.args.request.now in
    let t : LinkTelling = g.L.Link.tells c.args.link.now in
    let u : LinkTelling = g.L.Link.tells c.ask_eight.new.link in
    let spells : Spells request c.deref.result.now = (c.requires.valid, c.deref.ensures.value ∙ c.in_ok-frame.ensures) in
    let came = c.in-Ok.ensures.settled request spells in
    settled_unread to address request t u c.in-Ok.bytes c.in-Err.refused came.0 came.1 came.2

pub returns-in-Err-Troubles-clause-settled : goal.returns-in-Err-Troubles-clause-settled
returns-in-Err-Troubles-clause-settled g c =
    let to = c.args.to in
    let address = c.args.address.now in
    let request : Message = c.args.request.now in
    let t : LinkTelling = g.L.Link.tells c.args.link.now in
    let u : LinkTelling = g.L.Link.tells c.ask_eight.new.link in
    let spells : Spells request c.deref.result.now = (c.requires.valid, c.deref.ensures.value ∙ c.in_ok-frame.ensures) in
    let came = c.in-Err-Troubles.ensures.settled request spells in
    settled_none to address request t u came.0 (subst (λ (e : AskError). IsReadAs (Err e) came.0) c.in-Err-Troubles.field-0-is came.1) came.2

pub returns-clause-settled : goal.returns-clause-settled
returns-clause-settled g c =
    let to = c.args.to in
    let address = c.args.address.now in
    let request : Message = c.args.request.now in
    let t : LinkTelling = g.L.Link.tells c.args.link.now in
    let u : LinkTelling = g.L.Link.tells c.ask_eight.new.link in
    let spells : Spells request c.deref.result.now = (c.requires.valid, c.deref.ensures.value ∙ c.in_ok-frame.ensures) in
    let came = c.in-Err-Memory.ensures.settled request spells in
    settled_broken to address request t u alloc_error came.0 (subst (λ (e : AskError). IsReadAs (Err e) came.0) c.in-Err-Memory.field-0-is came.1) came.2
