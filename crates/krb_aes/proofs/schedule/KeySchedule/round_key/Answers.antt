use Rattle.std.proofs.Common.{◌≡◌, ◌+◌, ◌-◌, ◌*◌, ◌≤◌, length, take, arith, sym, ap, ◌∙◌}
use Rattle.krb_aes.specs.KeyExpansion.{key_expansion}
use Rattle.krb_aes.proofs.ExpansionRules.{round_key-take, bytes_of_words}
use Rattle.krb_aes.proofs.schedule.KeySchedule.round_key.Goals as goal

pub returns-clause-value : goal.returns-clause-value
returns-clause-value c =
    let words = c.self.inside.words in
    let key_len = c.self.inside.key_len in
    let same : key_expansion c.args.self.now ≡ take (4 * key_len + 112) words =
    ap key_expansion (sym c.self.view_is) ∙ sym c.self.invariant.expanded in
    let long : length c.args.self.now ≡ key_len = rw c.self.view_is at c.self.invariant.key_size in
    let within : 16 * c.args.round + 16 ≤ 4 * key_len + 112 = omega (arith, bytes_of_words c.args.self.now c.requires.key) in
    let sixteen : 16 * c.args.round + 16 - 16 * c.args.round ≡ 16 = omega arith in
    rw (sixteen, same) (sym (round_key-take words (4 * key_len + 112) c.args.round within))
