use Rattle.book_engine.proofs.engine.Engine.paste.Goals as goal

pub invariant_of-self-in-Copied-1 : goal.invariant_of-self-in-Copied-1
invariant_of-self-in-Copied-1 g c = record { fits = c.paste.ensures.fits; follow = c.paste.ensures.follow (g.C.Customs.customs c.args.self.now.customs) c.args.self.now.day c.args.self.now.follow }
