-- What is promised of every sitting, from a new board and an empty register, after any moves. Assumes nothing.
--   IsMember c p        p is a correct process of the committee
--   HasDecided t p x    process p has decided the value x
--   HasProposed t p x   process p has proposed the value x
--   EpochOrder          whoever is in epoch e + 1 has f + 1 correct processes behind it that went through epoch e
--   Agreement           no two correct processes have decided differently
--   Unanimity           where all correct proposals are w, so is every correct decision; and with no correct proposal there is none
--   FewWords            the words of certification, and of each epoch, are few
--   Stable              no further move changes a correct decision
--   Promises            all of these, for every rota and register
--   Begins              a board that is opened on an empty register begins a run, on whatever wire, with all that is promised
--   Keeps               what starts as a sitting of a run ends as one, and with all that is promised
use Rattle.std.specs.Prelude.{◌≡◌, ℕ, ◌+◌, ◌*◌, ◌<◌, ◌≤◌, Bool, true, false}
use Rattle.counting.specs.Counts.{count_to}
use Rattle.committee.specs.declared.membership.Committee.{Committee}
use Rattle.committee.specs.declared.rota.Rota.{Ghosts as RotaMeans}
use Rattle.committee.specs.Views.{epoch_of}
use Rattle.register.specs.declared.ledger.Register.{Ghosts as RegisterMeans}
use Rattle.protocol.specs.declared.board.Board.{Board}
use Rattle.protocol.specs.declared.board.Table.{Table}
use Rattle.protocol.specs.Processes.{idle}
use Rattle.protocol.specs.Plans.{seat, used_of}
use Rattle.protocol.specs.Runs.{Sitting, sitting, moment_of, New, Run, Onward}
use Rattle.agreement.specs.Wires.{Wire, Correct, Sent, Entered}
use Rattle.agreement.specs.Words.{words_in}
use Rattle.safety.specs.Kept.{committee_of}

abbrev pub IsMember : Committee → ℕ → Type 0
IsMember c p = (p < c.n) × Correct c p

abbrev pub HasDecided : Table → ℕ → ℕ → Type 0
HasDecided t p x = (1 ≤ x) × ((seat t p).core.decided ≡ x)

abbrev pub HasProposed : Table → ℕ → ℕ → Type 0
HasProposed t p x = (idle (seat t p).certification.phase ≡ false) × ((seat t p).certification.proposal ≡ x)

-- the group is given by a test on process numbers
abbrev pub EpochOrder : Committee → Table → Wire → Type 0
EpochOrder c t ws =
    (p e : ℕ) → IsMember c p → 1 ≤ e → (seat t p).synchronizer.epoch ≡ e + 1
    → (group : ℕ → Bool) × (c.f + 1 ≤ count_to group 31)
    × ((o : ℕ) → group o ≡ true → IsMember c o × Sent ws o 4 e 0 × ((v : ℕ) → 1 ≤ v → epoch_of c.f v ≡ e → Entered ws o v))

abbrev pub Agreement : Committee → Table → Type 0
Agreement c t = (p o x y : ℕ) → IsMember c p → IsMember c o → HasDecided t p x → HasDecided t o y → x ≡ y

pub record Unanimity (c : Committee) (t : Table) : Type 0 where
  pub shared : (w : ℕ) → ((o x : ℕ) → IsMember c o → HasProposed t o x → x ≡ w) → (p x : ℕ) → IsMember c p → HasDecided t p x → x ≡ w
  pub unproposed : ((o x : ℕ) → IsMember c o → HasProposed t o x → ⊥) → (p x : ℕ) → IsMember c p → HasDecided t p x → ⊥

abbrev pub certification_bound : Committee → ℕ
certification_bound c = 3 * (c.n * c.n)

abbrev pub epoch_bound : Committee → ℕ
epoch_bound c = 2 * (c.n * c.n) + 8 * (c.n * (c.f + 1))

pub record FewWords (c : Committee) (ws : Wire) : Type 0 where
  pub certification : words_in c 0 ws ≤ certification_bound c
  pub epoch : (e : ℕ) → 1 ≤ e → words_in c e ws ≤ epoch_bound c

pub record Promise {R G : Type 0} (ρ : RotaMeans R) (γ : RegisterMeans G) (b : Sitting R G) : Type 0 where
  pub order : let m = moment_of γ b in EpochOrder (committee_of m) m.table (used_of m)
  pub agreement : let m = moment_of γ b in Agreement (committee_of m) m.table
  pub unanimity : let m = moment_of γ b in Unanimity (committee_of m) m.table
  pub words : let m = moment_of γ b in FewWords (committee_of m) (used_of m)
  pub stable : (d : Sitting R G) → Onward ρ γ b d → (p x : ℕ) → IsMember (committee_of (moment_of γ b)) p
      → HasDecided b.board.table p x → HasDecided d.board.table p x

abbrev pub Promises : {R G : Type 0} → RotaMeans R → RegisterMeans G → Type 0
Promises {R} {G} ρ γ = (b : Sitting R G) → Run ρ γ b → Promise ρ γ b

abbrev pub Keeps : {R G : Type 0} → RotaMeans R → RegisterMeans G → Sitting R G → Sitting R G → Type 0
Keeps ρ γ a b = Run ρ γ a → Run ρ γ b × Promise ρ γ b

abbrev pub Begins : {R G : Type 0} → RotaMeans R → RegisterMeans G → Board R → G → Type 0
Begins ρ γ b g = (w : Wire) → let a = sitting b w g in New ρ γ a × Run ρ γ a × Promise ρ γ a
