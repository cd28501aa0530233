use Rattle.std.proofs.Common.{◌≡◌, ◌++◌, ◌≤◌, length, subst, ◌∙◌, arith}
use Rattle.krb_keytab.specs.Items.{LacksVersion}
use Rattle.krb_keytab.proofs.MeetLaws.{held_out}
use Rattle.krb_keytab.proofs.StandLaws.{version_ran}
use Rattle.krb_keytab.proofs.step.read_version.Goals as goal

pub returns-then-whole-clause-opens : goal.returns-then-whole-clause-opens
returns-then-whole-clause-opens g c =
    let fills = c.in_ok-whole.ensures.fills in
    let came : length fills.piece ≡ 2 = rw c.if-whole.true at fills.came in
    let bytes_are = c.bytes.ensures.bytes ∙ fills.keeps.bytes in
    let ran_out = c.conclude.ensures.runs_out in
    let out = held_out (λ part. length part ≤ 2) (g.F.Feed.hand c.args.feed.now) fills ran_out (omega (arith, came)) (omega (arith, came, c.requires.start)) in
    let lacks = subst LacksVersion bytes_are (c.is_version.ensures.other c.if-is_version.false) in
    record {
      piece = fills.piece ++ ran_out.piece;
      moves = out.0;
      peaks = out.1;
      meets = version_ran (g.F.Feed.hand c.conclude.new.feed).source _ fills.piece ran_out.piece c.conclude.result ran_out.ran (omega (arith, out.0.given, c.requires.start)) came lacks;
    }
