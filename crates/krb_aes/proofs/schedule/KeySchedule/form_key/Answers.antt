use Rattle.std.proofs.Common.{length, ◌≡◌, ◌+◌, ◌-◌, ◌*◌, arith, sym, ap, ◌∙◌}
use Rattle.krb_aes.specs.KeyExpansion.{key_expansion}
use Rattle.krb_aes.specs.Inner.Schedule.{form_round_key}
use Rattle.krb_aes.proofs.schedule.KeySchedule.form_key.Goals as goal

pub returns-clause-value : goal.returns-clause-value
returns-clause-value c =
    let long : c.self.inside.key_len ≡ length c.args.self.now = sym (rw c.self.view_is at c.self.invariant.key_size) in
    let sixteen : 16 * c.args.round + 16 - 16 * c.args.round ≡ 16 = omega arith in
    let value = c.self.invariant.formed c.args.round c.requires.some (omega (arith, long, c.requires.round)) in
    rw sixteen (value ∙ ap (λ k. form_round_key (key_expansion k) c.args.round) c.self.view_is)
