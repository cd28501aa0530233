use Rattle.std.proofs.Common.{◌≡◌, List, ℕ, refl, rules, subst, sym, ap, ◌∙◌}
use Rattle.krb_keytab.specs.Entry.{KeytabEntry}
use Rattle.krb_keytab.specs.Format.{IsKeytab}
use Rattle.krb_file_commands.specs.Status.{of_keytab}
use Rattle.krb_file_commands.proofs.AddLaws.{parsed_reads}
use Rattle.krb_file_commands.proofs.FaultLaws.{err_is, if_some_map, no_ok}
use Rattle.krb_file_commands.proofs.FileLaws.{of_file}
use Rattle.krb_file_commands.proofs.ReadingLaws.{lacking}
use Rattle.krb_file_commands.proofs.RemoveLaws.{unread_exits}
use Rattle.krb_file_commands.proofs.WholeLaws.{fault_known, fault_of_whole, taken_of, whole_taken}
use Rattle.krb_file_commands.proofs.add.read_held.Goals as goal

pub returns-in_err-file-clause-reads : goal.returns-in_err-file-clause-reads
returns-in_err-file-clause-reads g c =
    rw (err_is c.from_residual.result c.from_residual.ensures.1)
    (lacking _ _ _ _ _ _ _ _ _ c.in_err-file.field-0.0 (unread_exits c.in_err-file.field-0.0 c.in_err-file.ensures.which) tt (search rules) c.in_err-file.ensures.taken)

pub returns-in_err-held-clause-reads : goal.returns-in_err-held-clause-reads
returns-in_err-held-clause-reads g c =
    let from = g.S.Source.remaining c.args.source.now in
    let file = c.in_ok-file.file.items in
    let met = c.in_err-held.field-0.0 in
    let fault = rw c.deref.ensures.value at c.in_err-held.ensures.fault in
    rw (err_is c.from_residual-in_err-held.result c.from_residual-in_err-held.ensures.1) (record {
      made = tt;
      fault = λ content. fault_known from file met c.in_ok-file.ensures.bytes (fault (λ memory. content (ap of_keytab memory)));
      faulty = λ given e tells has. tt;
      allowed = tt;
      reads = rw (parsed_reads met file fault) (search rules);
      taken = c.in_ok-file.ensures.taken;
    })

pub returns-clause-reads : goal.returns-clause-reads
returns-clause-reads g c =
    let from = g.S.Source.remaining c.args.source.now in
    let file = c.in_ok-file.file.items in
    let held = c.in_ok-held.held in
    let found = rw c.deref.ensures.value at c.in_ok-held.ensures.found in
    record {
      made = of_file IsKeytab from held (λ (entries : List KeytabEntry). held ≡ entries)
          (if_some_map from (λ bytes same. subst (λ (b : List ℕ). IsKeytab b held) (sym same) found) (whole_taken from file held c.in_ok-file.ensures.bytes found)) refl;
      fault = tt;
      faulty = λ given fault tells has.
          let faulty = rw c.deref.ensures.value at c.parse.ensures.faulty in
          let met = faulty fault (fault_of_whole given file fault (taken_of from given file c.in_ok-file.ensures.bytes tells) has) in
          no_ok held fault (sym c.in_ok-held.was ∙ met);
      allowed = tt;
      reads = search rules;
      taken = c.in_ok-file.ensures.taken;
    }
