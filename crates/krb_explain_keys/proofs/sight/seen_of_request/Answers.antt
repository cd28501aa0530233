use Rattle.std.proofs.Common.{rules}
use Rattle.krb_keytab.specs.Pick.{choice_of}
use Rattle.krb_explain_keys.specs.Inner.Seen.{sight_of}
use Rattle.krb_explain_keys.proofs.SightLaws.{after_choice}
use Rattle.krb_explain_keys.proofs.sight.seen_of_request.Goals as goal

pub returns : goal.returns
returns c = record {
  choice = choice_of c.pick_for-picked.result;
  lines = c.in_ok-lines.lines.items;
  choice_is = rw c.in_ok-service.ensures at c.pick_for-picked.ensures;
  lines_are = rw c.in_ok-service.ensures at c.in_ok-lines.ensures;
  sees = after_choice _ _ _ _ (sight_of c.in_ok-seen.seen) _ _ (c.in_ok-seen.ensures c.args.keytab.now);
  finds = search rules;
}
