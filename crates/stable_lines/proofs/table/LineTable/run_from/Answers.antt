use Rattle.std.proofs.Common.{◌∙◌, ◌∷◌, ◌+◌, ◌-◌, arith}
use Rattle.stable_lines.specs.Lines.{IsRunFrom}
use Rattle.stable_lines.specs.internal.Levels.{IsLed}
use Rattle.stable_lines.proofs.Leading.{if_some_weaker}
use Rattle.stable_lines.proofs.table.LineTable.run_from.Goals as goal

pub returns-clause-run : goal.returns-clause-run
returns-clause-run c =
    let t = c.args.self.now in
    let p = c.args.position in
    if_some_weaker c.led.result (IsLed (t.lines.near ∷ t.lines.far) (record { from = p; to = p; count = t.limit - p })) (IsRunFrom t p)
    (λ run h. (h.0, h.1, omega (arith, h.2, c.if-position-self.false), λ i lt. t.read (p + i) ∙ h.3 i lt)) c.led.ensures.led
