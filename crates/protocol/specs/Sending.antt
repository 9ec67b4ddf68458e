-- The records that correct processes send. Assumes nothing.
--   to_all c p k m x       kind k with number m and value x from process p to all of the committee
--   to_one l p k m x       the same to process l alone
--   certificate c p x w    CERTIFICATE for the value x, or for any, as the vouch w says
--   view_change l p v k    VIEW-CHANGE v with what the view core k has prepared, to the leader l
--   proposal c p v x b w   PREPARE v for the value x, backed by view b or vouched for by w
use Rattle.std.specs.Prelude.{ℕ}
use Rattle.committee.specs.declared.membership.Committee.{Committee}
use Rattle.committee.specs.declared.sets.ProcessSet.{ProcessSet}
use Rattle.committee.specs.Sets.{all, with_member, of_bits}
use Rattle.wire.specs.declared.kind.Kind.{Kind}
use Rattle.wire.specs.declared.kind.Kind.TheVariants.{Certificate, ViewChange, Prepare}
use Rattle.wire.specs.declared.vouch.Vouch.{Vouch}
use Rattle.wire.specs.declared.vouch.Vouch.TheVariants.{Nothing}
use Rattle.wire.specs.declared.record.Record.{Record}
use Rattle.protocol.specs.declared.process.ViewCore.{ViewCore}

abbrev pub sent : ProcessSet → ℕ → Kind → ℕ → ℕ → ℕ → Vouch → Record
sent to p k m x b w = record { sender = p; kind = k; number = m; value = x; back = b; vouch = w; to = to; got = of_bits 0; heeded = of_bits 0 }

abbrev pub only : ℕ → ProcessSet
only l = with_member (of_bits 0) l

abbrev pub to_all : Committee → ℕ → Kind → ℕ → ℕ → Record
to_all c p k m x = sent (all c.n) p k m x 0 Nothing

abbrev pub to_one : ℕ → ℕ → Kind → ℕ → ℕ → Record
to_one l p k m x = sent (only l) p k m x 0 Nothing

abbrev pub certificate : Committee → ℕ → ℕ → Vouch → Record
certificate c p x w = sent (all c.n) p Certificate 0 x 0 w

abbrev pub view_change : ℕ → ℕ → ℕ → ViewCore → Record
view_change l p v k = sent (only l) p ViewChange v k.prepared.value k.prepared.view Nothing

abbrev pub proposal : Committee → ℕ → ℕ → ℕ → ℕ → Vouch → Record
proposal c p v x b w = sent (all c.n) p Prepare v x b w
