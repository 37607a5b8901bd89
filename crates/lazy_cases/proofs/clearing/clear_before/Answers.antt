use Rattle.std.proofs.Common.{◌∙◌, arith}
use Rattle.lazy_cases.proofs.Stores.{all-go, go-more, others-few}
use Rattle.lazy_cases.proofs.clearing.clear_before.Goals as goal

pub returns-in_err-clear_way_on-clause-few : goal.returns-in_err-clear_way_on-clause-few
returns-in_err-clear_way_on-clause-few c = others-few c.ids.id c.ids.store c.clear_way_on.new.store c.clear_way_on.ensures.others (omega arith) c.ids.invariant.few

pub ids-preserved : goal.ids-preserved
ids-preserved c =
    let after = c.clear_way_on.new.store in
    record {
      few = others-few c.ids.id c.ids.store after c.clear_way_on.ensures.others (omega arith) c.ids.invariant.few;
      line = c.clear_way_on.ensures.line ∙ c.ids.invariant.line;
      on = go-more c.ids.id c.ids.store after c.clear_way_on.ensures.others c.clear_way_on.ensures.line c.args.position c.ids.invariant.on c.in_ok-clear_way_on.ensures.on;
    }

pub returns-clause-on : goal.returns-clause-on
returns-clause-on c = all-go c.ids.id c.ids.store (omega (arith, c.ids-test.false)) c.ids.invariant.few c.args.position c.ids.invariant.on
