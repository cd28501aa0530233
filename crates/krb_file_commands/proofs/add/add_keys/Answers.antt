use Rattle.std.proofs.Common.{inl, Err}
use Rattle.krb_keytab.specs.declared.fault.KeytabFault.TheVariants.{OutOfMemory, Read}
use Rattle.krb_file_commands.proofs.AddLaws.{extended_known, too_long_known}
use Rattle.krb_file_commands.proofs.FaultLaws.{err_is, if_some_map, none_met}
use Rattle.krb_file_commands.proofs.add.add_keys.Goals as goal

pub returns-in_err-file-clause-fault : goal.returns-in_err-file-clause-fault
returns-in_err-file-clause-fault g c =
    rw (err_is c.from_residual.result c.from_residual.ensures.1)
    (λ content. if_some_map (g.S.Source.remaining c.args.source.now) (λ given has. inl has) (c.in_err-file.ensures.reads.fault content))

pub returns-in_err-add_each-in-Ok-clause-fault : goal.returns-in_err-add_each-in-Ok-clause-fault
returns-in_err-add_each-in-Ok-clause-fault g c =
    rw (err_is c.from_residual-in_err-add_each-in-Ok.result c.from_residual-in_err-add_each-in-Ok.ensures.1)
    (too_long_known (g.S.Source.remaining c.args.source.now) (g.F.Source.remaining c.args.others.now)
    c.in_ok-file.file.items c.in-Ok.others c.in_err-add_each-in-Ok.field-0.0 c.in_ok-file.ensures.whole c.in-Ok.ensures.reads.found c.in_err-add_each-in-Ok.ensures.fault)

pub returns-in_ok-add_each-in-Ok-clause-added : goal.returns-in_ok-add_each-in-Ok-clause-added
returns-in_ok-add_each-in-Ok-clause-added g c =
    extended_known (g.S.Source.remaining c.args.source.now) (g.F.Source.remaining c.args.others.now)
    c.in_ok-file.file.items c.in-Ok.others _ c.in_ok-file.ensures.whole c.in-Ok.ensures.reads.found c.in_ok-add_each-in-Ok.ensures.added

pub returns-in_ok-add_each-in-Ok-clause-others : goal.returns-in_ok-add_each-in-Ok-clause-others
returns-in_ok-add_each-in-Ok-clause-others g c = λ given fault tells is.
    none_met OutOfMemory Read c.read.result c.in-Ok.others fault c.in-Ok.is (c.read.ensures.reads.only given (Err fault) tells is)
