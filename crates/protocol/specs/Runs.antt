-- A run: what comes of a new board and an empty register by any moves, each as the contract of its call has it. Assumes nothing.
--   Sitting     a board with its rota, the wire and the register
--   moment_of   a sitting by what its register means
--   Makes       what a move with this plan answers, and what it leaves; a refusal leaves everything
--   Ticks, Proposes, Expires, Delivers, Injects   the five moves on a board
--   New         a board as open makes it, and an empty register
--   Move        one move, accepted or refused
--   Onward      any number of moves
--   Run         what can be reached from a new board and an empty register
use Rattle.std.specs.Prelude.{◌≡◌, ℕ, true, false, List, length, replicate, is_ok, Result}
use Rattle.refusals.specs.declared.causes.Refusal.{Refusal}
use Rattle.committee.specs.declared.rota.Rota.{Ghosts as RotaMeans}
use Rattle.register.specs.declared.ledger.Register.{Ghosts as RegisterMeans}
use Rattle.wire.specs.declared.record.Record.{Record}
use Rattle.protocol.specs.declared.board.Board.{Board}
use Rattle.protocol.specs.declared.draft.Draft.{Draft}
use Rattle.protocol.specs.declared.step.Step.{Step}
use Rattle.protocol.specs.declared.step.Answer.{Answer}
use Rattle.protocol.specs.Processes.{blank_process}
use Rattle.protocol.specs.Ranges.{setting_fits}
use Rattle.protocol.specs.Moments.{Moment, moment, signed_of, played, received, told}
use Rattle.protocol.specs.Plans.{tick_plan, propose_plan, expire_plan, deliver_plan, inject_plan}

pub record Sitting (R G : Type 0) : Type 0 where
  pub board : Board R
  pub wire : List Record
  pub register : G

abbrev pub sitting : {R G : Type 0} → Board R → List Record → G → Sitting R G
sitting b w g = record { board = b; wire = w; register = g }

abbrev pub moment_of : {R G : Type 0} → RegisterMeans G → Sitting R G → Moment
moment_of γ a = moment a.board.table a.wire (signed_of (γ.pairs a.register))

pub record Makes {R G : Type 0} (γ : RegisterMeans G) (plan : Result Step Refusal) (m : Moment) (a b : Sitting R G) (r : Result Answer Refusal) : Type 0 where
  pub answer : r ≡ told plan
  pub after : moment_of γ b ≡ m
  pub same : b.board.rota ≡ a.board.rota
  pub stays : is_ok plan ≡ false → b ≡ a

module _ {R G : Type 0} (ρ : RotaMeans R) (γ : RegisterMeans G) where
  abbrev pub Ticks : Sitting R G → ℕ → ℕ → Sitting R G → Result Answer Refusal → Type 0
  Ticks a p k b r = let plan = tick_plan (ρ.size a.board.rota) (moment_of γ a) p k in Makes γ plan (played plan p (moment_of γ a)) a b r

  abbrev pub Proposes : Sitting R G → ℕ → ℕ → Sitting R G → Result Answer Refusal → Type 0
  Proposes a p x b r = let plan = propose_plan (ρ.size a.board.rota) γ.ROOM (moment_of γ a) p x in Makes γ plan (played plan p (moment_of γ a)) a b r

  abbrev pub Expires : Sitting R G → ℕ → ℕ → Sitting R G → Result Answer Refusal → Type 0
  Expires a p t b r =
      let plan = expire_plan (ρ.leader a.board.rota) (ρ.size a.board.rota) γ.ROOM (moment_of γ a) p t in
      Makes γ plan (played plan p (moment_of γ a)) a b r

  abbrev pub Delivers : Sitting R G → ℕ → ℕ → Sitting R G → Result Answer Refusal → Type 0
  Delivers a i p b r =
      let plan = deliver_plan (ρ.leader a.board.rota) (ρ.size a.board.rota) γ.ROOM (moment_of γ a) p i in
      Makes γ plan (received plan p i (moment_of γ a)) a b r

  abbrev pub Injects : Sitting R G → ℕ → Draft → Sitting R G → Result Answer Refusal → Type 0
  Injects a p d b r = let plan = inject_plan (ρ.size a.board.rota) γ.ROOM (moment_of γ a) p d in Makes γ plan (played plan p (moment_of γ a)) a b r

  pub record New (a : Sitting R G) : Type 0 where
    pub still : a.board.table.processes ≡ replicate 31 blank_process
    pub unused : a.board.table.used ≡ 0
    pub timely : setting_fits a.board.table.setting ≡ true
    pub fitting : ρ.size a.board.rota ≡ a.board.table.setting.committee.n
    pub unsigned : length (γ.pairs a.register) ≡ 0

  pub data Move : Sitting R G → Sitting R G → Type 0 where
    ticks : {a b : Sitting R G} (p k : ℕ) (r : Result Answer Refusal) → Ticks a p k b r → Move a b
    proposes : {a b : Sitting R G} (p x : ℕ) (r : Result Answer Refusal) → Proposes a p x b r → Move a b
    expires : {a b : Sitting R G} (p t : ℕ) (r : Result Answer Refusal) → Expires a p t b r → Move a b
    delivers : {a b : Sitting R G} (i p : ℕ) (r : Result Answer Refusal) → Delivers a i p b r → Move a b
    injects : {a b : Sitting R G} (p : ℕ) (d : Draft) (r : Result Answer Refusal) → Injects a p d b r → Move a b

  pub data Onward : Sitting R G → Sitting R G → Type 0 where
    here : {a : Sitting R G} → Onward a a
    then : {a b c : Sitting R G} → Onward a b → Move b c → Onward a c

  pub record Run (b : Sitting R G) : Type 0 where
    pub start : Sitting R G
    pub new : New start
    pub onward : Onward start b
