use Rattle.std.proofs.Common.{◌≡◌, ◌≤◌, ℕ, List, length, None, refl, sym, ◌∙◌, subst}
use Rattle.outside.specs.declared.errors.KeepError.TheVariants.{Memory}
use Rattle.store_image.specs.declared.image.TheConstants.{MAX_CLIENT_IMAGE}
use Rattle.store_image.specs.Spelling.{client as image}
use Rattle.store_image.specs.Image.{IsKeptWholeFor}
use Rattle.client_core.proofs.Counting.{unrisen}
use Rattle.client_core.proofs.Putting.{saved_keeps, saved_writes, unwritten_keeps, unwritten_writes}
use Rattle.client_core.proofs.keeping.save_image.Goals as goal

pub returns-in-Err-clause-kept : goal.returns-in-Err-clause-kept
returns-in-Err-clause-kept g c = unwritten_keeps c.args.name.now c.args.client c.args.log.now None Memory (g.K.Keeper.images c.args.keeper.now)

pub returns-clause-kept : goal.returns-clause-kept
returns-clause-kept g c =
    let spelled : c.deref.result.now ≡ image (record { client = c.args.client; log = c.args.log.now }) = c.deref.ensures.value ∙ c.in-Ok.ensures.spelled in
    saved_keeps c.args.name.now c.args.client c.args.log.now c.deref.result.now c.save.result (g.K.Keeper.images c.args.keeper.now) (g.K.Keeper.images c.save.new.self)
    (subst (IsKeptWholeFor c.args.client c.args.log.now) (sym c.deref.ensures.value) c.in-Ok.ensures.whole) spelled
    (subst (λ (bytes : List ℕ). length bytes ≤ MAX_CLIENT_IMAGE) (sym c.deref.ensures.value) c.in-Ok.ensures.small) c.save.ensures.images

pub returns-in-Err-clause-cause : goal.returns-in-Err-clause-cause
returns-in-Err-clause-cause g c =
    unrisen _ (g.K.Keeper.faults c.args.keeper.now) (g.K.Keeper.faults c.args.keeper.now) (λ is. absurd (cc)) refl

pub returns-in-Err-clause-writes : goal.returns-in-Err-clause-writes
returns-in-Err-clause-writes g c = unwritten_writes c.args.name.now c.args.client c.args.log.now None Memory (g.K.Keeper.images c.args.keeper.now)

pub returns-clause-writes : goal.returns-clause-writes
returns-clause-writes g c =
    saved_writes c.args.name.now c.args.client c.args.log.now c.deref.result.now c.save.result (g.K.Keeper.images c.args.keeper.now) (g.K.Keeper.images c.save.new.self)
    (c.deref.ensures.value ∙ c.in-Ok.ensures.spelled) c.save.ensures.images
