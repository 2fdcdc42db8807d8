-- What holds while the entries of a store are gone through: each step leaves the others to be gone through, and each reply is valid.
use Rattle.std.proofs.Common.{◌≡◌, ℕ, ◌+◌, List, ◌∷◌, ◌∙◌, arith}
use Rattle.wire_frames.specs.declared.parts.Part.{Part}
use Rattle.world_rules.specs.Served.{Served, IsServed, StoreVerdict, verdict}
use Rattle.world_rules.proofs.Sending.{client_ok, number_ok}
use Rattle.world_rules.proofs.Replies.{IsSound, entry_sound}
use Rattle.server_core.specs.declared.server.Underway.{Underway}
use Rattle.server_core.specs.Inside.{IsUnderway}

module _ (store : Underway) (done : ℕ) (part : Part) (parts : List Part) (s : Served) (under : IsUnderway store done (part ∷ parts) s) (served : IsServed s) where
  abbrev judgement : StoreVerdict
  judgement = verdict store.client (store.number + done) part.effects part.base s

  -- the verdict on the first is sound
  pub first_sound : IsSound store.client store.number store.upto (client_ok store.client under.low under.high) (number_ok store.number under.numbered) under.number_small under.upto_small under.behind (store.number + done) s judgement
  first_sound =
      entry_sound store.client store.number store.upto (client_ok store.client under.low under.high) (number_ok store.number under.numbered) under.number_small under.upto_small under.behind
      (store.number + done) part s under.fits.0 served (omega arith) (omega (arith, under.small)) under.next
