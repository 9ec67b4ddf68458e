-- What a call makes of a sitting is what its move in a schedule makes of it. Assumes nothing.
use Rattle.std.proofs.Common.{◌≡◌, ℕ, List, Err, Option, Result, refl, subst}
use Rattle.refusals.specs.declared.causes.Refusal.{Refusal}
use Rattle.refusals.specs.declared.causes.Refusal.TheVariants.{OutOfPlace}
use Rattle.committee.specs.declared.rota.Rota.{Ghosts as RotaMeans}
use Rattle.register.specs.declared.ledger.Register.{Ghosts as RegisterMeans}
use Rattle.protocol.specs.declared.step.Answer.{Answer}
use Rattle.protocol.specs.declared.draft.Draft.{Draft}
use Rattle.protocol.specs.Runs.{Sitting, Ticks, Proposes, Expires, Delivers, Injects}
use Rattle.protocol.specs.Runs.Move.{ticks as tick, proposes as propose, expires as expire, delivers as deliver, injects as inject}
use Rattle.protocol.specs.Runs.Onward.{here, then}
use Rattle.moves.specs.Orders.{opens, proposes, ticks, expires, delivers, injects}
use Rattle.player.specs.Making.{MakesMove}
use Rattle.player.specs.Playing.{drafted}

module _ {R G : Type 0} (ρ : RotaMeans R) (γ : RegisterMeans G) (a : Sitting R G) where
  pub opened-again : (register f faulty delay overlap : ℕ) (rota : Option (List ℕ)) → MakesMove ρ γ a (opens register f faulty delay overlap rota) a (Err OutOfPlace)
  opened-again register f faulty delay overlap rota = record { answer = refl; after = refl; same = refl; onward = here }

  module _ (b : Sitting R G) (r : Result Answer Refusal) where
    pub proposed : (p x : ℕ) → Proposes ρ γ a p x b r → MakesMove ρ γ a (proposes p x) b r
    proposed p x y = record { answer = y.answer; after = y.after; same = y.same; onward = then here (propose p x r y) }

    pub ticked : (p k : ℕ) → Ticks ρ γ a p k b r → MakesMove ρ γ a (ticks p k) b r
    ticked p k y = record { answer = y.answer; after = y.after; same = y.same; onward = then here (tick p k r y) }

    pub expired : (p t : ℕ) → Expires ρ γ a p t b r → MakesMove ρ γ a (expires p t) b r
    expired p t y = record { answer = y.answer; after = y.after; same = y.same; onward = then here (expire p t r y) }

    pub delivered : (i p : ℕ) → Delivers ρ γ a i p b r → MakesMove ρ γ a (delivers i p) b r
    delivered i p y = record { answer = y.answer; after = y.after; same = y.same; onward = then here (deliver i p r y) }

    pub injected : (p kind to number value back vouch : ℕ) (d : Draft) → d ≡ drafted kind to number value back vouch → Injects ρ γ a p d b r → MakesMove ρ γ a (injects p kind to number value back vouch) b r
    injected p kind to number value back vouch d e given =
        let P : Draft → Type 0 = λ x. Injects ρ γ a p x b r in
        let y = subst P e given in
        record { answer = y.answer; after = y.after; same = y.same; onward = then here (inject p (drafted kind to number value back vouch) r y) }
