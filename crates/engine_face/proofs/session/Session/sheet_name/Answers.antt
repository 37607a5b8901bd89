use Rattle.std.proofs.Common.{refl, subst, ℕ, List, Some}
use Rattle.engine_face.specs.Session.{NameFits, NameTold}
use Rattle.engine_face.proofs.session.Session.sheet_name.Goals as goal

pub returns-in-Some-clause-wrote : goal.returns-in-Some-clause-wrote
returns-in-Some-clause-wrote c = λ d stands.
    let P : List ℕ → Type 0 = λ name. NameFits (Some name) c.args.room.now c.tell.new.room c.tell.result in
    rw (← (c.sheet_name.ensures d stands), c.in-Some.is) (subst P c.as_bytes.ensures c.tell.ensures.fits)

pub returns-in-Some-clause-told : goal.returns-in-Some-clause-told
returns-in-Some-clause-told c = λ d stands.
    let P : List ℕ → Type 0 = λ name. NameTold (Some name) c.args.needed.now c.tell.new.needed in
    rw (← (c.sheet_name.ensures d stands), c.in-Some.is) (subst P c.as_bytes.ensures c.tell.ensures.told)

pub returns-in-None-clause-wrote : goal.returns-in-None-clause-wrote
returns-in-None-clause-wrote c = λ d stands. rw (← (c.sheet_name.ensures d stands), c.in-None.is) (refl, refl)

pub returns-in-None-clause-told : goal.returns-in-None-clause-told
returns-in-None-clause-told c = λ d stands. rw (← (c.sheet_name.ensures d stands), c.in-None.is) refl
