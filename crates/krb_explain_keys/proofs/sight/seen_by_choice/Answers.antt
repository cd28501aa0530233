use Rattle.krb_explain_keys.proofs.sight.seen_by_choice.Goals as goal

pub returns-in-Entry : goal.returns-in-Entry
returns-in-Entry c = rw c.in-Entry.is c.seen_by_entry.ensures
