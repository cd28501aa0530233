use Rattle.std.proofs.Common.{◌≡◌, true, Result, Ok, Err, OnErr, is_err, string_bytes, arith, sym, ◌∙◌}
use Rattle.std.proofs.lemmas.Str.{IsUtf8-string_bytes}
use Rattle.krb_name.proofs.Continued.{is_seam}
use Rattle.krb_name.proofs.principal.Principal.write_text.Goals as goal

on_failure : {T E P : Type 0} (result : Result T E) → is_err result ≡ true → OnErr result P → P
on_failure (Ok _) failed continues = absurd cc
on_failure (Err _) failed continues = continues

pub truncate-requires : goal.truncate-requires
truncate-requires c =
    let old = c.args.text.now in
    let new = c.write_into-written.new.text in
    let continues = on_failure _ (sym c.is_err.ensures.value ∙ c.if-is_err.true) c.write_into-written.ensures.err in
    λ within. is_seam (string_bytes old) (string_bytes new) c.len-len.result (omega (arith, old.bytes.ok.0)) (IsUtf8-string_bytes old) (IsUtf8-string_bytes new) continues
