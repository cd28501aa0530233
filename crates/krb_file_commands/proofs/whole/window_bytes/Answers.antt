use Rattle.std.proofs.Common.{refl}
use Rattle.krb_file_commands.proofs.WholeLaws.{fills_taken}
use Rattle.krb_file_commands.proofs.whole.window_bytes.Goals as goal

pub returns-in_err-fill-clause-taken : goal.returns-in_err-fill-clause-taken
returns-in_err-fill-clause-taken g c = fills_taken _ _ _ _ _ _ refl c.in_err-fill.ensures.fills

pub returns-in_err-from_slice-clause-taken : goal.returns-in_err-from_slice-clause-taken
returns-in_err-from_slice-clause-taken g c = fills_taken _ _ _ _ _ _ refl c.in_ok-fill.ensures.fills

pub returns-clause-taken : goal.returns-clause-taken
returns-clause-taken g c = fills_taken _ _ _ _ _ _ refl c.in_ok-fill.ensures.fills
