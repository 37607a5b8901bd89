use Rattle.dep_graph.proofs.touches.handed_on.Goals as goal

pub returns-in-Some-Range-Range : goal.returns-in-Some-Range-Range
returns-in-Some-Range-Range c = λ b is.
    let (same, on) = c.handed_block.ensures b is in
    let first = c.in-Some-Range-Range.before-is in
    let second = c.in-Some-Range-Range.is-1 in
    (cc, (c.in-Some-Range-Range.before, cc, on))
