use Rattle.std.proofs.Common.{◌≡◌, ℕ, ◌+◌, ◌<◌, ◌≤◌, List, [], ◌∷◌, ◌++◌, length, None, Ok, subst, sym, ap, ◌∙◌, arith, inr}
use Rattle.std.specs.Int.{w32, to_be_bytes}
use Rattle.krb_file.specs.File.{file_limit}
use Rattle.krb_keytab.specs.Inner.Meeting.{IsFewAt, MeetsSize}
use Rattle.krb_keytab.proofs.MeetLaws.{ran, few_ran, held_out, fills_within}
use Rattle.krb_keytab.proofs.step.read_size.Goals as goal

pub returns-then-whole-clause-meets : goal.returns-then-whole-clause-meets
returns-then-whole-clause-meets g c =
    let fills = c.in_ok-whole.ensures.fills in
    let came = rw c.if-whole.true at fills.came in
    let few_is = c.bytes-in_default.ensures.bytes ∙ fills.keeps.bytes in
    let few = subst (λ (n : ℕ). IsFewAt n fills.piece c.last_behind-last.result) c.given-at.ensures (subst (λ (t : List ℕ). IsFewAt c.given-at.result t c.last_behind-last.result) few_is c.last_behind-last.ensures) in
    let short : length fills.piece < 4 = omega (arith, c.in_default.ensures.short, ap length c.bytes.ensures.bytes, ap length fills.keeps.bytes) in
    let ran_out = c.conclude.ensures.runs_out in
    let full : (g.F.Feed.hand c.args.feed.now).given + length fills.piece ≡ file_limit = omega (arith, came, short, c.min.ensures, c.given-at.ensures, c.requires.limit) in
    let out = held_out (λ part. length part ≤ 4) (g.F.Feed.hand c.args.feed.now) fills ran_out (omega (arith, short)) (omega (arith, full)) in
    record {
      piece = fills.piece ++ ran_out.piece;
      moves = out.0;
      peaks = out.1;
      meets = few_ran (g.F.Feed.hand c.conclude.new.feed).source (g.F.Feed.hand c.args.feed.now).given _ fills.piece ran_out.piece c.last_behind-last.result c.conclude.result few ran_out.ran full short out.0.given;
    }

pub returns-then-size-eq0-clause-meets : goal.returns-then-size-eq0-clause-meets
returns-then-size-eq0-clause-meets g c =
    let fills = c.in_ok-whole.ensures.fills in
    let bytes_are = sym fills.keeps.bytes ∙ sym c.bytes.ensures.bytes ∙ c.in-Ok.ensures.size.0 in
    let came : length fills.piece ≤ c.min.result = fills_within _ _ _ _ _ _ fills in
    let ran_out = c.conclude-then-size-eq0.ensures.runs_out in
    let left = (g.F.Feed.hand c.conclude-then-size-eq0.new.feed).source in
    let given = (g.F.Feed.hand c.args.feed.now).given in
    let size : length fills.piece ≡ 4 = ap length bytes_are in
    let zero : fills.piece ≡ 0 ∷ 0 ∷ 0 ∷ 0 ∷ [] = bytes_are ∙ ap (λ (n : ℕ). to_be_bytes w32 n) c.if-size-eq0.true in
    let within : given + length fills.piece ≤ file_limit = omega (arith, came, c.min.ensures, c.given-at.ensures, c.requires.limit) in
    let out = held_out (λ part. length part ≤ 4) (g.F.Feed.hand c.args.feed.now) fills ran_out (omega (arith, size)) within in
    record {
      piece = fills.piece ++ ran_out.piece;
      moves = out.0;
      peaks = out.1;
      meets = ran (MeetsSize left given (fills.piece ++ ran_out.piece)) (Ok None) c.conclude-then-size-eq0.result left given _ fills.piece ran_out.piece None ran_out.ran within out.0.given
          (λ more within. inr (more, ap (λ (t : List ℕ). t ++ more) zero)) (λ h. h) (λ h. h) tt;
    }
