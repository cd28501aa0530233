use Rattle.std.proofs.Common.{rules, Err}
use Rattle.krb_file_commands.proofs.ReadingLaws.{cache_read}
use Rattle.krb_file_commands.proofs.WalkLaws.{fault_told}
use Rattle.krb_file_commands.proofs.walk.walk_ccache.Goals as goal

pub returns-in-Ok : goal.returns-in-Ok
returns-in-Ok g c = let made = c.from_credentials-made.ensures.made _ (record { read = c.in-Ok.ensures.read; gave = c.in-Ok.ensures.gave }) in search rules

pub returns-in-Err : goal.returns-in-Err
returns-in-Err g c =
    cache_read c.each_file_has_one_answer.ensures.one _ _ _ _ _ (Err c.in-Err.back.1) tt
    (λ memory read. fault_told _ _ c.in-Err.back.1 c.a_source_tells_its_file.ensures (c.in-Err.ensures.fault memory read)) (search rules) (search rules)
