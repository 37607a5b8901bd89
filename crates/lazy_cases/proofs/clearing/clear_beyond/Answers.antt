use Rattle.std.proofs.Common.{◌∙◌, arith}
use Rattle.lazy_cases.proofs.Stores.{all-come, come-more, others-few}
use Rattle.lazy_cases.proofs.clearing.clear_beyond.Goals as goal

pub returns-in_err-clear_way_back-clause-few : goal.returns-in_err-clear_way_back-clause-few
returns-in_err-clear_way_back-clause-few c = others-few c.ids.id c.ids.store c.clear_way_back.new.store c.clear_way_back.ensures.others (omega arith) c.ids.invariant.few

pub ids-preserved : goal.ids-preserved
ids-preserved c =
    let after = c.clear_way_back.new.store in
    record {
      few = others-few c.ids.id c.ids.store after c.clear_way_back.ensures.others (omega arith) c.ids.invariant.few;
      line = c.clear_way_back.ensures.line ∙ c.ids.invariant.line;
      back = come-more c.ids.id c.ids.store after c.clear_way_back.ensures.others c.clear_way_back.ensures.line c.ids.invariant.back c.in_ok-clear_way_back.ensures.back;
    }

pub returns-clause-back : goal.returns-clause-back
returns-clause-back c = all-come c.ids.id c.ids.store (omega (arith, c.ids-test.false)) c.ids.invariant.few c.args.store.now.line c.ids.invariant.line c.ids.invariant.back
