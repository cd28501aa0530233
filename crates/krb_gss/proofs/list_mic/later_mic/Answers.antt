use Rattle.krb_gss.proofs.ListingLaws.{mic-found, mic-only, mic-none, mic-faulty}
use Rattle.krb_gss.proofs.list_mic.later_mic.Goals as goal

pub returns-in-Ok-clause-found : goal.returns-in-Ok-clause-found
returns-in-Ok-clause-found c = mic-found c.in-Ok.ensures c.content.result c.content.ensures

pub returns-in-Ok-clause-only : goal.returns-in-Ok-clause-only
returns-in-Ok-clause-only c mic k = mic-only c.in-Ok.ensures c.content.result c.content.ensures mic k

pub returns-in-Err-clause-only : goal.returns-in-Err-clause-only
returns-in-Err-clause-only c mic k = absurd (mic-none c.in-Err.ensures mic k)

pub returns-in-Err-clause-faulty : goal.returns-in-Err-clause-faulty
returns-in-Err-clause-faulty c = mic-faulty c.in-Err.ensures
