use Rattle.std.proofs.Common.{◌≡◌, ◌∙◌, arith, ap, refl, rules, string_bytes, Option, Ok, Err}
use Rattle.krb_file_commands.proofs.FaultLaws.{err_is}
use Rattle.krb_file.proofs.FileLaws.{takes_file}
use Rattle.krb_ccache.specs.Format.{IsCache}
use Rattle.krb_ccache.specs.Value.{Cache}
use Rattle.krb_ccache.specs.declared.credential.Credential.{Credential}
use Rattle.krb_ccache.specs.declared.fault.CacheFault.TheVariants.{OutOfMemory}
use Rattle.krb_file_commands.specs.Lines.{cache_lines}
use Rattle.krb_file_commands.proofs.FileLaws.{of_file_map}
use Rattle.krb_file_commands.proofs.ReadingLaws.{cache_read, lacking}
use Rattle.krb_file_commands.proofs.WalkLaws.{credential_listed, cache_told, fault_told, credentials_taken}
use Rattle.krb_file_commands.proofs.lines.LinesFromCredentials.from_credentials.Goals as goal

pub returns-in_err-lines-clause-made : goal.returns-in_err-lines-clause-made
returns-in_err-lines-clause-made g c =
    rw (err_is c.from_residual.result c.from_residual.ensures.1)
    (λ from opened. lacking _ _ _ _ _ _ _ _ _ OutOfMemory refl tt (search rules) (takes_file _ _ 0 _ refl opened.gave))

pub returns-in_err-credential-clause-made : goal.returns-in_err-credential-clause-made
returns-in_err-credential-clause-made g c =
    let next = c.in_err-credential.ensures in
    rw (err_is c.from_residual-in_err-credential.result c.from_residual-in_err-credential.ensures.1) (λ from opened.
    let listed = c.loop-lines.invariant.listed from opened in
    cache_read c.each_file_has_one_answer.ensures.one _ _ _ _ _ (Err c.in_err-credential.field-0.0) tt
    (λ memory read. fault_told from (g.S.Source.remaining c.next.new.self.source) c.in_err-credential.field-0.0 c.a_source_tells_its_file.ensures (next.fault from listed.cache_read listed.read memory read))
    (credentials_taken g.S.Source.remaining from c.loop-lines.reader c.next.new.self _ listed next.given next.limit) (search rules))

pub returns-in_err-write_credential-clause-made : goal.returns-in_err-write_credential-clause-made
returns-in_err-write_credential-clause-made g c =
    rw (err_is c.from_residual-in_err-write_credential.result c.from_residual-in_err-write_credential.ensures.1)
    (λ from opened. lacking _ _ _ _ _ _ _ _ _ OutOfMemory refl tt (search rules)
    (credentials_taken g.S.Source.remaining from c.loop-lines.reader c.next.new.self _ (c.loop-lines.invariant.listed from opened) c.next.ensures.given c.next.ensures.limit))

pub loop-lines-preserved : goal.loop-lines-preserved
loop-lines-preserved g c =
    let going = c.loop-lines.invariant.going in
    let next = c.in_ok-credential.ensures in
    record {
      listed = λ from opened. credential_listed g.S.Source.remaining from c.loop-lines.reader c.next.new.self _ _ c.in-Some.credential (c.loop-lines.invariant.listed from opened) next.given next.limit
          (λ value read. rw c.in-Some.is at next.item from value read) c.in_ok-write_credential.ensures;
      going = rw c.in-Some.is at next.ended going;
      failures = omega (arith, next.failed going, c.loop-lines.invariant.failures);
      lent = next.lent ∙ c.loop-lines.invariant.lent;
    }

pub returns-clause-made : goal.returns-clause-made
returns-clause-made g c = λ from opened.
    let listed = c.loop-lines.invariant.listed from opened in
    let next = c.in_ok-credential.ensures in
    let made : c.into_bytes.result.items ≡ string_bytes c.loop-lines.lines = search rules in
    cache_read c.each_file_has_one_answer.ensures.one _ _ _ _ _ (Ok c.into_bytes.result)
    (of_file_map IsCache _ (λ (cache : Cache) (is : string_bytes c.loop-lines.lines ≡ cache_lines cache). made ∙ is)
    (cache_told from (g.S.Source.remaining c.next.new.self.source) _ listed.cache_read c.a_source_tells_its_file.ensures
    (next.end from listed.cache_read listed.read (ap (λ (o : Option Credential). Ok o) c.in_default.is)) listed.holds)) tt
    (credentials_taken g.S.Source.remaining from c.loop-lines.reader c.next.new.self _ listed next.given next.limit) (search rules)
