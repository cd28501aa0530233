use Rattle.krb_explain_keys.proofs.OpeningLaws.{under}
use Rattle.krb_explain_keys.proofs.opening.ticket_text.Goals as goal

pub returns : goal.returns
returns c = under (λ v. v.items) _ _ _ _ c.opened.result c.key_of_entry-key.ensures c.opened.ensures
