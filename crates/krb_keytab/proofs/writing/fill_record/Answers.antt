use Rattle.std.proofs.Common.{◌≡◌, ◌-◌, ℕ, length, replicate, take, drop, ap, sym, ◌∙◌, arith}
use Rattle.std.proofs.lemmas.List.{length-replicate, length-drop, take_rest}
use Rattle.krb_keytab.specs.Written.{record_length}
use Rattle.krb_keytab.proofs.PutLaws.{puts_mid, Puts-length}
use Rattle.krb_keytab.proofs.MadeLaws.{filled}
use Rattle.krb_keytab.proofs.writing.fill_record.Goals as goal

pub returns-clause-filled : goal.returns-clause-filled
returns-clause-filled c =
    let e = c.args.entry.now in
    let out = c.args.out.now in
    let zeros = length out - record_length e in
    let size = length out - 4 in
    let first = rw c.bytes_of_u32.ensures at c.put-at.ensures in
    let start : c.put-at.result ≡ 4 = first.end_is in
    let second = rw (c.body.ensures.spelled, start) at c.put-end.ensures in
    let end = c.put-end.result in
    let long : length c.put-end.new.out ≡ length out = omega (arith, Puts-length second.puts, Puts-length first.puts) in
    let left : length c.put-end.new.out - end ≡ zeros = omega (arith, long, second.end_is) in
    let count = length-replicate {A = ℕ} zeros 0 in
    let rest : length (take (length c.put-end.new.out - end) (drop end c.put-end.new.out)) ≡ zeros = ap length (take_rest c.put-end.new.out end) ∙ length-drop end c.put-end.new.out ∙ left in
    let filling : c.fill.new.self ≡ replicate zeros 0 = c.fill.ensures.after (λ y h. h) ∙ ap (λ n. replicate n 0) rest in
    let third = puts_mid c.put-end.new.out end (length c.put-end.new.out - end) (replicate zeros 0) c.fill.new.self (omega (arith, count, long, second.end_is, c.requires.room)) (left ∙ sym count) filling in
    filled {old = out} e size zeros (rw start at first) second third (omega (arith, c.requires.room)) (omega (arith, c.requires.room))
