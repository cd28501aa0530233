-- If something is agreed, nothing prevented it.
use Rattle.std.proofs.Common.{List, ℕ, true, Ok, Err, subst}
use Rattle.krb_ccache.specs.Format.{IsCache}
use Rattle.krb_ccache.specs.Value.{Cache}
use Rattle.krb_ap.specs.Finish.{Agreement, FinishCause, IsAgreed, agreement_of}
use Rattle.krb_ap.specs.Request.{Awaited}
use Rattle.krb_ap.specs.declared.finish.Agreed.{Agreed}
use Rattle.krb_ap.specs.declared.finish.FinishFault.{FinishFault}
use Rattle.krb_client_commands.specs.Finishing.{IsAgreement, IsRefusedReply, IsUnasked, IsUnfinished, no_confounder}
use Rattle.krb_client_commands.specs.Requesting.{plain_options}
use Rattle.krb_client_commands.specs.declared.fault.ClientFault.{ClientFault}
use Rattle.krb_client_commands.specs.declared.fault.ClientFault.TheVariants as of
use Rattle.krb_client_commands.specs.declared.finish.Replied.{Replied}
use Rattle.krb_file_commands.proofs.FaultLaws.{no_ok, same_ok}
use Rattle.krb_file_commands.proofs.ReadingLaws.{CachesHaveOne}
use Rattle.krb_client_commands.proofs.RequestLaws.{RequestsAreOne, RequestsArePrevented}

abbrev pub AgreedApart : Type 0
AgreedApart = (awaited : Awaited) (bytes : List ℕ) (agreement : Agreement) (fault : FinishFault) → IsAgreed awaited bytes agreement → FinishCause awaited bytes fault → ⊥

pub none_unfinished : CachesHaveOne → RequestsAreOne → RequestsArePrevented → AgreedApart → (replied : Replied) (given : List ℕ) (cache : Cache) (agreed : Agreed) → IsCache given cache
    → IsAgreement cache replied.service replied.at replied.reply.items agreed → (fault : ClientFault) → IsUnfinished replied given fault → ⊥
none_unfinished one same law apart replied given cache agreed is agreement (of.Cache fault) has = no_ok cache fault (one given (Ok cache) (Err fault) is has)
none_unfinished one same law apart replied given cache agreed is agreement (of.Request fault) has =
    let cache_is = same_ok has.0 cache (one given (Ok has.0) (Ok cache) has.1.0 is) in
    law cache replied.service replied.at no_confounder (plain_options true) agreement.pending.bytes agreement.awaited fault agreement.pending.request
    (subst (λ (c : Cache). IsUnasked c replied.service replied.at fault) cache_is has.1.1)
none_unfinished one same law apart replied given cache agreed is agreement (of.Finish fault) has =
    let cache_is = same_ok has.0 cache (one given (Ok has.0) (Ok cache) has.1.0 is) in
    let refused = subst (λ (c : Cache). IsRefusedReply c replied.service replied.at replied.reply.items fault) cache_is has.1.1 in
    let awaits = (same cache replied.service replied.at no_confounder (plain_options true) refused.pending.bytes agreement.pending.bytes refused.awaited agreement.awaited refused.pending.request agreement.pending.request).1 in
    apart agreement.awaited replied.reply.items (agreement_of agreed) fault agreement.agrees (subst (λ (a : Awaited). FinishCause a replied.reply.items fault) awaits refused.cause)
none_unfinished one same law apart replied given cache agreed is agreement of.OutOfMemory has = absurd has
