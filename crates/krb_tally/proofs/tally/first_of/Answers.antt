use Rattle.krb_tally.proofs.TallyLaws.{first_least, head_of}
use Rattle.krb_tally.proofs.tally.first_of.Goals as goal

pub returns-in-Some-clause-least : goal.returns-in-Some-clause-least
returns-in-Some-clause-least g c =
    first_least g.T.Timed.timestamp c.args.buckets.now c.in-Some.bucket.now c.first-in-Some.result.now c.in-Some.ensures.value c.requires c.first-in-Some.ensures.there c.first-in-Some.ensures.least

pub returns-in-Some-clause-first : goal.returns-in-Some-clause-first
returns-in-Some-clause-first g c =
    head_of c.args.buckets.now c.in-Some.bucket.now c.first-in-Some.result.now c.in-Some.ensures.value c.first-in-Some.ensures.there c.first-in-Some.ensures.place
