use Rattle.krb_ap.proofs.BuiltAccepted.{refused_by}
use Rattle.krb_ap.proofs.laws.built_may_be_refused.Goals as goal

pub returns : goal.returns
returns c = λ setup history moment bytes built cause holds.
    refused_by c.facts.ensures setup history moment built.cache built.service built.at built.confounder built.options bytes built.awaited built.part
    built.request built.ticket built.has_ticket cause holds
