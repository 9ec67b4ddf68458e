use Rattle.player.proofs.Moving.{opened-again, proposed, ticked, expired, delivered, injected}
use Rattle.player.proofs.making.make.Goals as goal

pub returns-in-Open : goal.returns-in-Open
returns-in-Open g c = rw c.in-Open.is (opened-again g.R.Rota g.G.Register _ _ _ _ _ _ _)

pub returns-in-Propose : goal.returns-in-Propose
returns-in-Propose g c = rw c.in-Propose.is (proposed g.R.Rota g.G.Register _ _ _ _ _ c.propose.ensures.exact)

pub returns-in-Tick : goal.returns-in-Tick
returns-in-Tick g c = rw c.in-Tick.is (ticked g.R.Rota g.G.Register _ _ _ _ _ c.tick.ensures.exact)

pub returns-in-Expire : goal.returns-in-Expire
returns-in-Expire g c = rw c.in-Expire.is (expired g.R.Rota g.G.Register _ _ _ _ _ c.expire.ensures.exact)

pub returns-in-Deliver : goal.returns-in-Deliver
returns-in-Deliver g c = rw c.in-Deliver.is (delivered g.R.Rota g.G.Register _ _ _ _ _ c.deliver.ensures.exact)

pub returns-in-Inject : goal.returns-in-Inject
returns-in-Inject g c = rw c.in-Inject.is (injected g.R.Rota g.G.Register _ _ _ _ _ _ _ _ _ _ _ c.draft_of.ensures c.inject.ensures.exact)
