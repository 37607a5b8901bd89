use Rattle.book_engine.proofs.engine.Engine.name_text.Goals as goal

pub invariant_of-self : goal.invariant_of-self
invariant_of-self g c = record { fits = c.name_text.ensures.fits; follow = c.name_text.ensures.follow (g.C.Customs.customs c.args.self.now.customs) c.args.self.now.day c.args.self.now.follow }
