use Rattle.std.proofs.Common.{arith, inl}
use Rattle.krb_aes.proofs.Bytes.{key_of_array}
use Rattle.krb_aes.proofs.ExpansionRules.{schedule_of}
use Rattle.krb_aes.proofs.schedule.KeySchedule.new_128.Goals as goal

pub invariant_of-result : goal.invariant_of-result
invariant_of-result c =
    let key = key_of_array c.args.key.now (inl c.told-key) c.fits-key in
    let keys = c.prepared_keys.result in
    schedule_of 16 c.args.key.now c.expand-words.result keys.form_words keys.inv_words c.told-key key c.expand-words.ensures.key
    c.expand-words.ensures.words
    (λ j some below. c.prepared_keys.ensures.formed j some (omega (arith, below, c.told-key)))
    (λ j some below. c.prepared_keys.ensures.inverse j some (omega (arith, below, c.told-key)))
