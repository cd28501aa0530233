use Rattle.std.proofs.Common.{rules}
use Rattle.krb_file_commands.proofs.FaultLaws.{err_is}
use Rattle.krb_file_commands.proofs.RemoveLaws.{answer_means, no_failed_read, none_unremoved, removed_known, unread_exits, unremoved_known}
use Rattle.krb_file_commands.proofs.ReadingLaws.{faulty, lacking}
use Rattle.krb_file_commands.proofs.remove.RemoveKeyProduct.make.Goals as goal

pub returns-in_err-file : goal.returns-in_err-file
returns-in_err-file g c =
    rw (err_is c.from_residual.result c.from_residual.ensures.1)
    (lacking _ _ _ _ _ _ _ _ _ c.in_err-file.field-0.0 (unread_exits c.in_err-file.field-0.0 c.in_err-file.ensures.which) tt (search rules) c.in_err-file.ensures.taken)

pub returns-in_err-remove_in : goal.returns-in_err-remove_in
returns-in_err-remove_in g c =
    let met = c.in_err-remove_in.field-0.0 in
    let means = answer_means c.remove_in.result c.in_ok-file.file.items c.args.self.now.index met c.remove_in.ensures.missing c.remove_in.ensures.fault in
    let unremoved = means.0 c.in_err-remove_in.was in
    rw (err_is c.from_residual-in_err-remove_in.result c.from_residual-in_err-remove_in.ensures.1)
    (faulty _ _ _ _ _ _ _ _ _ met (unremoved_known (g.S.Source.remaining c.args.source.now) c.in_ok-file.file.items c.args.self.now.index met c.in_ok-file.ensures.bytes unremoved) tt
    (rw (no_failed_read met c.in_ok-file.file.items c.args.self.now.index unremoved) (search rules)) c.in_ok-file.ensures.taken)

pub returns : goal.returns
returns g c =
    let from = g.S.Source.remaining c.args.source.now in
    let file = c.in_ok-file.file.items in
    let index = c.args.self.now.index in
    record {
      made = removed_known from file c.remove_in.new.file.items index c.in_ok-file.ensures.bytes c.in_ok-remove_in.ensures.ok c.in_ok-remove_in.ensures.list;
      fault = tt;
      faulty = none_unremoved from file index c.remove_in.result tt c.in_ok-remove_in.was c.in_ok-file.ensures.bytes
          (λ f. answer_means c.remove_in.result file index f c.remove_in.ensures.missing c.remove_in.ensures.fault);
      allowed = tt;
      reads = search rules;
      taken = c.in_ok-file.ensures.taken;
    }
