-- From what is written line by line to what a whole sitting shows. Assumes nothing.
use Rattle.std.proofs.Common.{◌≡◌, ℕ, List, [], ◌++◌, length, map, replicate, Ok, Option, sym, refl, ap, ◌∙◌, subst, append_assoc}
use Rattle.std.specs.Option.{option_map}
use Rattle.refusals.specs.declared.causes.Refusal.{Refusal}
use Rattle.committee.specs.declared.rota.Rota.{Ghosts as RotaMeans}
use Rattle.register.specs.declared.ledger.Register.{Ghosts as RegisterMeans}
use Rattle.register.specs.declared.pair.Pair.{Pair}
use Rattle.protocol.specs.declared.board.Board.{Board}
use Rattle.protocol.specs.Moments.{Moment, moment, signed_of, no_record}
use Rattle.moves.specs.declared.orders.Opening.{Opening}
use Rattle.moves.specs.Orders.{placed_of}
use Rattle.player.specs.declared.outcome.Outcome.TheVariants.{Opened}
use Rattle.player.specs.Outcomes.{line_of}
use Rattle.player.specs.Playing.{Played, playing}
use Rattle.exam.specs.declared.sitting.Rest.{Rest}
use Rattle.exam.specs.Schedules.{ending, lines, Shows, Behind}
use Rattle.exam.specs.Sitting.{lines_on, cause_of, OpensNamed, leads_by, ShowsBy}

pub lined_up : (before first then last : List ℕ) (line played end end' : List ℕ) → first ≡ before ++ line → then ≡ first ++ played → last ≡ then ++ end' → end' ≡ end → last ≡ before ++ (line ++ (played ++ end))
lined_up before first then last line played end end' a b c e =
    c ∙ ap (λ (x : List ℕ). then ++ x) e ∙ ap (λ (x : List ℕ). x ++ end) (b ∙ ap (λ (x : List ℕ). x ++ played) a)
    ∙ append_assoc (before ++ line) played end ∙ append_assoc before line (played ++ end)

-- ---- what is printed once OPEN is judged

module _ {R G : Type 0} (ρ : RotaMeans R) (γ : RegisterMeans G) (o : Opening) (rota : Option R) (g : G) (empty : γ.pairs g ≡ []) (rest : Rest) (before after : List ℕ) where
  -- the register that OPEN finds holds nothing
  cause-is : cause_of o (length (γ.pairs g)) (option_map ρ.size rota) ≡ cause_of o 0 (option_map ρ.size rota)
  cause-is = ap (λ (xs : List Pair). cause_of o (length xs) (option_map ρ.size rota)) empty

  lines_are : (b : Board R) → OpensNamed ρ o rota (length (γ.pairs g)) (Ok b) → lines_on ρ γ b g rest ≡ lines (leads_by ρ rota) γ.ROOM b.table (map placed_of rest.moves.now) rest.fault
  lines_are b is =
      let n = b.table.setting.committee.n in
      let os = map placed_of rest.moves.now in
      let L : Played → List ℕ = λ p. line_of 1 (Opened n) ++ (p.text ++ ending p.last.table rest.fault) in
      let M : List Pair → Moment = λ xs. moment b.table (replicate 1024 no_record) (signed_of xs) in
      ap (λ (k : ℕ). L (playing (ρ.leader b.rota) k γ.ROOM 2 (M (γ.pairs g)) os)) is.2
      ∙ ap (λ (xs : List Pair). L (playing (ρ.leader b.rota) n γ.ROOM 2 (M xs) os)) empty
      ∙ ap (λ (x : Option R). L (playing (leads_by ρ x) n γ.ROOM 2 (M []) os)) is.1.led

  pub sat-down : (b : Board R) → OpensNamed ρ o rota (length (γ.pairs g)) (Ok b) → after ≡ before ++ lines_on ρ γ b g rest
      → Behind (ShowsBy (leads_by ρ rota) γ.ROOM o (option_map ρ.size rota) rest) before after
  sat-down b is written =
      let os = map placed_of rest.moves.now in
      let text = lines (leads_by ρ rota) γ.ROOM b.table os rest.fault in
      let P : Option Refusal → Type 0 = λ x. Shows (leads_by ρ rota) γ.ROOM o.f o.faulty o.delay o.overlap os rest.fault x text in
      (text, written ∙ ap (λ (x : List ℕ). before ++ x) (lines_are b is), subst P (sym (sym cause-is ∙ is.0)) (b.table, is.1.fresh, refl))
