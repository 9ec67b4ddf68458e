-- Certification: from the proposal to a certificate, and the start of view 1. Assumes nothing.
--   proposes         what propose comes to
--   entering v k     the view core on entering view v
--   begun s q y w    the process that begins with the offer y, vouched for by w
--   begins           CERTIFICATE is sent, and view 1 entered; l is its leader
--   on_disclose      from so many senders with this value, and from so many in all
--   on_allow_any     from so many senders
--   on_certificate   whether its certificate holds
use Rattle.std.specs.Prelude.{ℕ, ◌+◌, ◌*◌, Bool, true, cond, not, ◌&&◌, nat_le}
use Rattle.committee.specs.Thresholds.{weak_quorum_of, disclosure_quorum_of}
use Rattle.wire.specs.declared.kind.Kind.TheVariants.{Disclose, AllowAny}
use Rattle.wire.specs.declared.vouch.Vouch.{Vouch}
use Rattle.wire.specs.declared.vouch.Vouch.TheVariants.{Nothing, Disclosed, Any}
use Rattle.wire.specs.declared.record.Record.{Record}
use Rattle.protocol.specs.declared.process.Phase.TheVariants.{Certifying, Running}
use Rattle.protocol.specs.declared.process.ViewCore.{ViewCore}
use Rattle.protocol.specs.declared.process.Process.{Process}
use Rattle.protocol.specs.declared.board.Setting.{Setting}
use Rattle.protocol.specs.declared.step.Step.{Step}
use Rattle.protocol.specs.Processes.{process_of, certification_of, synchronizer_of, core_of, with_certification}
use Rattle.protocol.specs.Sending.{to_all, certificate, view_change}
use Rattle.protocol.specs.Steps.{moves, drops, heeds, acts_with, acts_twice}

abbrev pub proposes : Setting → Process → ℕ → ℕ → Step
proposes s q p x =
    let c = q.certification in
    moves (with_certification (certification_of Certifying x c.offer c.vouch c.allowed) q) (to_all s.committee p Disclose 0 x)

abbrev pub entering : ℕ → ViewCore → ViewCore
entering v k = core_of v k.prepared k.locked 0 0 k.led k.decided

abbrev pub view_ticks : Setting → ℕ
view_ticks s = s.overlap + 2 * s.delay

abbrev pub begun : Setting → Process → ℕ → Vouch → Process
begun s q y w =
    process_of (certification_of Running q.certification.proposal y w q.certification.allowed)
    (synchronizer_of 1 1 q.synchronizer.clock (q.synchronizer.clock + view_ticks s) q.synchronizer.spread)
    (entering 1 q.core)

abbrev pub begins : Setting → Process → ℕ → ℕ → Vouch → ℕ → ℕ → Step
begins s q p x w y l = acts_twice (begun s q y w) (certificate s.committee p x w) (view_change l p 1 q.core)

abbrev pub on_disclose : Setting → Process → ℕ → Record → ℕ → ℕ → ℕ → Step
on_disclose s q p r same all l =
    let c = q.certification in
    cond (nat_le (weak_quorum_of s.committee) same) (begins s q p r.value Disclosed r.value l)
    (cond (nat_le (disclosure_quorum_of s.committee) all && not c.allowed)
    (acts_with (with_certification (certification_of c.phase c.proposal c.offer c.vouch true) q) (to_all s.committee p AllowAny 0 0))
    (heeds q))

abbrev pub on_allow_any : Setting → Process → ℕ → ℕ → ℕ → Step
on_allow_any s q p from l = cond (nat_le (weak_quorum_of s.committee) from) (begins s q p 0 Any q.certification.proposal l) (heeds q)

-- with a certificate for any value, the own proposal is offered
abbrev pub offered : Process → Record → Vouch → ℕ
offered q r Nothing = r.value
offered q r Disclosed = r.value
offered q r Any = q.certification.proposal

abbrev pub on_certificate : Setting → Process → ℕ → Record → Bool → ℕ → Step
on_certificate s q p r holds l = cond holds (begins s q p r.value r.vouch (offered q r r.vouch) l) (drops q)
