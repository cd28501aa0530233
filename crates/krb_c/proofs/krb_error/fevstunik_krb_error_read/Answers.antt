use Rattle.std.proofs.Common.{subst, sym}
use Rattle.krb_der.specs.Kind.{ValueOf}
use Rattle.krb_der.specs.Spells.{IsMessage}
use Rattle.krb_msg.specs.Module.{krb_error}
use Rattle.krb_c.specs.Errors.{HandsError, found_error}
use Rattle.krb_c.proofs.krb_error.fevstunik_krb_error_read.Goals as goal

pub returns-in-Ok-to_owned : goal.returns-in-Ok-to_owned
returns-in-Ok-to_owned c =
    let hands : HandsError c.args.error.now c.args.found.now c.hand_over_with.new.told c.args.buffer.now c.hand_over_with.new.buffer c.hand_over_with.result = record {
      message = c.in-Ok-to_owned.message;
      is_message = subst (λ (v : ValueOf krb_error). IsMessage krb_error v c.args.error.now) (sym c.in-Ok-to_owned.ensures) c.in-Ok.ensures.found;
      tells = c.hand_over_with.ensures _ _ c.told.ensures;
    } in found_error hands
