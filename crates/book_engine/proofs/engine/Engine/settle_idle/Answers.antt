use Rattle.book_engine.proofs.engine.Engine.settle_idle.Goals as goal

pub invariant_of-self : goal.invariant_of-self
invariant_of-self g c = record { fits = c.settle_idle.ensures.fits; follow = c.settle_idle.ensures.follow (g.C.Customs.customs c.args.self.now.customs) c.args.self.now.day c.args.self.now.follow }
