use Rattle.std.proofs.Common.{◌≡◌, ◌∙◌, ap, subst, sym}
use Rattle.std.specs.Prelude.{◌≢◌}
use Rattle.std.proofs.lemmas.Option.{same_Some}
use Rattle.krb_enc.specs.Key.{UsageKeyValue}
use Rattle.krb_ap.specs.Opened.{entry_key}
use Rattle.krb_ap.specs.Inner.Stages.{IsShut, ready_key}
use Rattle.krb_ap.specs.Inner.TicketKeys.{TicketKeysValue}
use Rattle.krb_ap.specs.declared.refusal.Refusal.TheVariants.{OutOfMemory}
use Rattle.krb_ap.proofs.Truth.{err_is}
use Rattle.krb_ap.proofs.ticket_keys.TicketKeys.open.Goals as goal

pub returns-in_err-plain-clause-nothing : goal.returns-in_err-plain-clause-nothing
returns-in_err-plain-clause-nothing c =
    let cached : c.in-Some.keys ≡ ready_key (entry_key c.args.entry.now) =
    same_Some _ _ (sym c.in-Some.is ∙ ap (λ (k : TicketKeysValue). k.keys) c.self.view_is ∙ c.cache.ensures) in
    rw (err_is _ c.from_residual.ensures) (subst (λ (k : UsageKeyValue). c.in_err-plain.field-0.0 ≢ OutOfMemory → IsShut k.key k.usage c.args.cipher.now)
    cached c.in_err-plain.ensures.nothing)
