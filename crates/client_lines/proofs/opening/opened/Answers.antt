use Rattle.std.proofs.Common.{◌≡◌, ◌≢◌, ℕ, sym, ◌∙◌, ap, subst}
use Rattle.mod_log.specs.Log.{Log}
use Rattle.store_image.specs.declared.image.ImageError.{ImageError}
use Rattle.store_image.specs.declared.image.ImageError.TheVariants.{BadImage, Memory}
use Rattle.store_image.specs.Image.{IsKeptFor}
use Rattle.store_image.proofs.Keeping.{client_once}
use Rattle.client_core.specs.Client.{Client}
use Rattle.client_lines.proofs.opening.opened.Goals as goal

pub returns-in-Ok : goal.returns-in-Ok
returns-in-Ok c =
    let bytes = c.args.bytes.now in
    let number : c.in-Ok.image.client ≡ c.args.number = c.if-read_client-number.true in
    let log : c.from_image.result.log ≡ c.in-Ok.image.log = ap (λ (x : Client). x.log) c.from_image.ensures in
    let kept : IsKeptFor c.args.number c.from_image.result.log bytes =
    subst (λ (n : ℕ). IsKeptFor n c.from_image.result.log bytes) number (subst (λ (l : Log). IsKeptFor c.in-Ok.image.client l bytes) (sym log) c.in-Ok.ensures.kept) in (
      ap (λ (x : Client). x.number) c.from_image.ensures ∙ number,
      ap (λ (x : Client). x.journal) c.from_image.ensures,
      kept,
      λ start is. (client_once c.args.number c.args.number c.from_image.result.log start bytes kept is).1,
    )

bad_image : (offset : ℕ) → BadImage offset ≢ Memory
bad_image offset is = cc

pub returns-in-Err-BadImage : goal.returns-in-Err-BadImage
returns-in-Err-BadImage c =
    let bad = c.in-Err-BadImage in
    bad.ensures.none (subst (λ (e : ImageError). e ≢ Memory) (sym bad.field-0-is) (bad_image bad.field-0-0)) c.args.number
