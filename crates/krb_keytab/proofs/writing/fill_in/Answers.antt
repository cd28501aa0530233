use Rattle.std.proofs.Common.{◌≡◌, ◌-◌, ℕ, List, length, drop, ap, ◌∙◌, arith}
use Rattle.std.proofs.lemmas.List.{length-drop, length-take-le}
use Rattle.krb_keytab.specs.Format.{record_bytes}
use Rattle.krb_keytab.specs.Written.{padded_record, record_length}
use Rattle.krb_keytab.proofs.PutLaws.{vec_puts}
use Rattle.krb_keytab.proofs.MadeLaws.{padded_length}
use Rattle.krb_keytab.proofs.writing.fill_in.Goals as goal

pub returns-clause-filled : goal.returns-clause-filled
returns-clause-filled c =
    let old = c.args.file.now.items in
    let slice = c.deref_mut.result.now in
    let from = c.args.from in
    let to = c.args.to in
    let e = c.args.entry.now in
    let value = c.deref_mut.ensures.value in
    let size : length old ≡ c.args.file.now.len = omega (arith, ap length value, c.deref_mut.ensures.len) in
    let part = length-take-le (to - from) (drop from slice) (omega (arith, length-drop from slice, ap length value, c.requires.within)) in
    let text : List ℕ = record_bytes (padded_record e (to - from - record_length e)) in
    vec_puts old slice c.fill_record.new.out text from to c.args.file.now.len value size (omega (arith, c.requires.room)) c.requires.within (c.fill_record.ensures.filled ∙ ap (λ n. record_bytes (padded_record e (n - record_length e))) part) (omega (arith, c.requires.room, padded_length e (to - from - record_length e)))
