use Rattle.std.proofs.Common.{◌≡◌, ℕ, ◌++◌, List, length, take, refl, ap, sym, subst, ◌∙◌, arith}
use Rattle.std.specs.Prelude.{All}
use Rattle.std.specs.List.{flat_map}
use Rattle.std.proofs.lemmas.List.{length-append, take_all}
use Rattle.std.proofs.lemmas.List.Elements.{All-more}
use Rattle.std.proofs.lemmas.List.Folds.{length-flat_map-take}
use Rattle.krb_keytab.specs.Entry.{KeytabEntry, FitsEntry}
use Rattle.krb_keytab.specs.Format.{version, record_bytes}
use Rattle.krb_keytab.specs.Written.{written_record, written}
use Rattle.krb_keytab.proofs.PutLaws.{flat_step}
use Rattle.krb_keytab.proofs.MadeLaws.{written_keytab}
use Rattle.krb_keytab.proofs.keytab.Keytab.to_bytes.Goals as goal

abbrev writing : KeytabEntry → List ℕ
writing e = record_bytes (written_record e)

pub returns-then-at-size-clause-fault : goal.returns-then-at-size-clause-fault
returns-then-at-size-clause-fault c = λ _.
    let now = c.loop-entry.invariant in
    let i = c.loop-entry.entry-index in
    let xs = c.entries-entry-items.result.now in
    let e = c.entry-item.result in
    let part = length-flat_map-take writing xs i e c.loop-entry-test.true in
    (refl, omega (arith, now.limit, ap length now.written, part, ap (λ x. length (writing x)) c.entry-item.is, c.record_length-size.ensures.length, c.if-at-size.true, ap (λ ys. length (flat_map writing ys)) c.entries-entry-items.ensures))

pub loop-entry-preserved : goal.loop-entry-preserved
loop-entry-preserved c =
    let now = c.loop-entry.invariant in
    let i = c.loop-entry.entry-index in
    let xs = c.entries-entry-items.result.now in
    let e = c.entry-item.result in
    let old = c.loop-entry.bytes.items in
    let put = c.in_ok-put_record.ensures in
    let whole : take c.len-at.result old ≡ old = take_all c.len-at.result old (omega arith) in
    let added : c.put_record.new.file.items ≡ old ++ writing e = put.ok ∙ ap (λ (t : List ℕ). t ++ writing e) whole in
    let step = flat_step writing xs i e c.loop-entry-test.true c.entry-item.is in
    record {
      written = added ∙ ap (λ (t : List ℕ). t ++ writing e) now.written ∙ ap (λ (t : List ℕ). version ++ t) (sym step);
      limit = omega (arith, now.limit, ap length added, length-append old (writing e), c.record_length-size.ensures.length, c.if-at-size.false);
      fit = All-more FitsEntry xs i e c.loop-entry-test.true now.fit (subst FitsEntry c.entry-item.is put.fits);
    }

pub returns-clause-read_back : goal.returns-clause-read_back
returns-clause-read_back c =
    let now = c.loop-entry.invariant in
    let xs = c.entries-entry-items.result.now in
    let all : take c.loop-entry.entry-index xs ≡ c.args.self.now = take_all c.loop-entry.entry-index xs (omega arith) ∙ c.entries-entry-items.ensures in
    written_keytab c.loop-entry.bytes.items c.args.self.now (now.written ∙ ap written all) now.limit (subst (All FitsEntry) all now.fit)
