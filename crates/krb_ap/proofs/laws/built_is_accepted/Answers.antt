use Rattle.krb_ap.proofs.BuiltAccepted.{accepted_by}
use Rattle.krb_ap.proofs.laws.built_is_accepted.Goals as goal

pub returns : goal.returns
returns c = λ setup history moment bytes built may.
    accepted_by c.facts.ensures setup history moment built.cache built.service built.at built.confounder built.options bytes built.awaited built.part
    built.request built.ticket built.has_ticket may
