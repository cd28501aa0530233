use Rattle.std.proofs.Common.{◌∙◌, arith, Option, Ok, subst}
use Rattle.krb_file.proofs.Exits.{err_is}
use Rattle.krb_keytab.specs.Entry.{KeytabEntry}
use Rattle.krb_keytab.specs.Inner.Meeting.{MeetsNext}
use Rattle.krb_keytab.proofs.ToldLaws.{entry_taken, end_taken, next_faulty, next_takes}
use Rattle.krb_keytab.proofs.step.read_entries.Goals as goal

pub returns-in_err-entry-clause-fault : goal.returns-in_err-entry-clause-fault
returns-in_err-entry-clause-fault g c =
    rw (err_is c.from_residual-in_err-entry.result c.from_residual-in_err-entry.ensures.1) (next_faulty _ _ _ c.loop-entries.entries c.in_err-entry.field-0.0 c.loop-entries.invariant.taken c.in_err-entry.ensures.meets)

pub loop-entries-preserved : goal.loop-entries-preserved
loop-entries-preserved g c =
    let from = (g.F.Feed.hand c.args.feed.now).source in
    let meets = subst (λ (next : Option KeytabEntry). MeetsNext (g.F.Feed.hand c.loop-entries.feed) (g.F.Feed.hand c.read_entry.new.feed) (Ok next)) c.in-Some.is c.in_ok-entry.ensures.meets in
    record {
      taken = entry_taken from (g.F.Feed.hand c.loop-entries.feed) (g.F.Feed.hand c.read_entry.new.feed) c.loop-entries.entries c.push.new.self c.in-Some.entry c.loop-entries.invariant.taken meets c.in-Ok.ensures.ok;
      limit = meets.within;
      failures = omega (arith, c.in_ok-entry.ensures.failed, c.loop-entries.invariant.failures);
      lent = c.in_ok-entry.ensures.lent ∙ c.loop-entries.invariant.lent;
    }

pub returns-clause-found : goal.returns-clause-found
returns-clause-found g c =
    let from = (g.F.Feed.hand c.args.feed.now).source in
    let meets = subst (λ (next : Option KeytabEntry). MeetsNext (g.F.Feed.hand c.loop-entries.feed) (g.F.Feed.hand c.read_entry.new.feed) (Ok next)) c.in_default.is c.in_ok-entry.ensures.meets in
    end_taken from (g.F.Feed.hand c.loop-entries.feed) (g.F.Feed.hand c.read_entry.new.feed) c.loop-entries.entries c.loop-entries.invariant.taken meets

pub returns-clause-taken : goal.returns-clause-taken
returns-clause-taken g c = next_takes _ _ _ c.loop-entries.entries _ c.loop-entries.invariant.taken c.in_ok-entry.ensures.meets

pub returns-in_err-entry-clause-taken : goal.returns-in_err-entry-clause-taken
returns-in_err-entry-clause-taken g c = next_takes _ _ _ c.loop-entries.entries _ c.loop-entries.invariant.taken c.in_err-entry.ensures.meets

pub returns-in_default-push-clause-taken : goal.returns-in_default-push-clause-taken
returns-in_default-push-clause-taken g c = next_takes _ _ _ c.loop-entries.entries _ c.loop-entries.invariant.taken c.in_ok-entry.ensures.meets
