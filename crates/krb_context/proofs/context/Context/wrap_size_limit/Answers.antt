use Rattle.std.proofs.Common.{◌≡◌, ◌∙◌, ap}
use Rattle.krb_context.specs.Context.{State}
use Rattle.krb_context.specs.Wrap.{wrap_overhead}
use Rattle.krb_context.proofs.Sides.{limit_fits, limit_none}
use Rattle.krb_context.proofs.context.Context.wrap_size_limit.Goals as goal

overhead : (c : goal.After-checked_sub) → c.wrap_overhead.result ≡ wrap_overhead c.args.self.now.sender c.args.is_sealed
overhead c = c.wrap_overhead.ensures.value ∙ ap (λ (s : State). wrap_overhead s.sender c.args.is_sealed) c.self.view_is

pub returns-clause-fits : goal.returns-clause-fits
returns-clause-fits c =
    limit_fits c.args.self.now.sender c.args.is_sealed c.args.self.now.options.rotation c.args.size c.wrap_overhead.result c.checked_sub.result (overhead c) c.checked_sub.ensures

pub returns-clause-none : goal.returns-clause-none
returns-clause-none c =
    limit_none c.args.self.now.sender c.args.is_sealed c.args.self.now.options.rotation c.args.size c.wrap_overhead.result c.checked_sub.result (overhead c) c.checked_sub.ensures
