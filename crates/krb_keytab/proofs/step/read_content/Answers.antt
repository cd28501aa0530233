use Rattle.std.proofs.Common.{◌≡◌, ℕ, pos, ◌+◌, List, ◌++◌, ◌≤◌, length, Some, Err, subst, ap, append_assoc, ◌∙◌, arith}
use Rattle.std.specs.Int.{w32}
use Rattle.std.proofs.lemmas.List.{length-append}
use Rattle.krb_file.proofs.Exits.{err_is}
use Rattle.krb_file.specs.Cursor.{signed_bytes}
use Rattle.krb_keytab.specs.Inner.Entry.{HoldsEntry, HoldsNone}
use Rattle.krb_keytab.specs.Inner.Meeting.{Meets}
use Rattle.krb_keytab.specs.declared.fault.KeytabFault.TheVariants.{Truncated, BadEntry}
use Rattle.krb_keytab.proofs.MeetLaws.{ran, cut_off, entry_whole, no_entry, held_out, body_met, body_lost}
use Rattle.krb_keytab.proofs.step.read_content.Goals as goal

pub returns-in_err-hold-clause-meets : goal.returns-in_err-hold-clause-meets
returns-in_err-hold-clause-meets g c =
    rw (err_is c.from_residual.result c.from_residual.ensures.1) (body_lost g.K.Keep.kept_of (g.F.Feed.hand c.args.feed.now) _ c.args.at c.args.count (omega (arith, c.requires.at, c.requires.limit)) _ c.in_err-hold.ensures.fills)

pub returns-then-not-branch-clause-meets : goal.returns-then-not-branch-clause-meets
returns-then-not-branch-clause-meets g c =
    let fills = c.in_ok-hold.ensures.fills in
    let came = rw c.if-not-branch.true at fills.came in
    body_met g.K.Keep.kept_of (g.F.Feed.hand c.args.feed.now) _ c.args.at c.args.count (omega (arith, c.requires.at, c.requires.limit)) _ fills (Err (Truncated c.args.at)) (
    record {
      limit = omega (arith, came.0, length-append (signed_bytes w32 (pos c.args.count)) fills.piece, c.requires.limit);
      all = came.1;
      lacks = cut_off c.args.at (pos c.args.count) fills.piece (record { sfits = omega (arith, c.requires.limit) }) came.0;
    }
    )

pub returns-in_err-kept-clause-meets : goal.returns-in_err-kept-clause-meets
returns-in_err-kept-clause-meets g c =
    rw (err_is c.from_residual-in_err-kept.result c.from_residual-in_err-kept.ensures.1) (body_met g.K.Keep.kept_of (g.F.Feed.hand c.args.feed.now) _ c.args.at c.args.count (omega (arith, c.requires.at, c.requires.limit)) _ c.in_ok-hold.ensures.fills _ tt)

pub returns-in-Some-clause-meets : goal.returns-in-Some-clause-meets
returns-in-Some-clause-meets g c =
    let fills = c.in_ok-hold.ensures.fills in
    let came = rw c.if-not-branch.false at fills.came in
    let body_is = c.bytes.ensures.bytes ∙ fills.keeps.bytes in
    let kept = rw c.in-Some.is at c.in_ok-kept.ensures.kept in
    body_met g.K.Keep.kept_of (g.F.Feed.hand c.args.feed.now) _ c.args.at c.args.count (omega (arith, c.requires.at, c.requires.limit)) _ fills _ (
      kept.0,
      kept.2,
      omega (arith, length-append (signed_bytes w32 (pos c.args.count)) fills.piece, fills.keeps.peak, ap length fills.keeps.bytes),
      entry_whole c.args.at c.args.count fills.piece kept.0 c.requires.limit came (subst (λ (body : List ℕ). HoldsEntry body kept.0) body_is kept.1),
    )

pub returns-in-None-clause-meets : goal.returns-in-None-clause-meets
returns-in-None-clause-meets g c =
    let fills = c.in_ok-hold.ensures.fills in
    let came = rw c.if-not-branch.false at fills.came in
    let body_is = c.bytes.ensures.bytes ∙ fills.keeps.bytes in
    let of_entry = g.K.Keep.kept_of in
    let at = c.args.at in
    let word = signed_bytes w32 (pos c.args.count) in
    let ran_out = c.conclude.ensures.runs_out in
    let none = subst HoldsNone body_is (rw c.in-None.is at c.in_ok-kept.ensures.kept) in
    let first : List ℕ = word ++ fills.piece in
    let size : length first ≡ 4 + length fills.piece = length-append word fills.piece in
    let left = (g.F.Feed.hand c.conclude.new.feed).source in
    let out = held_out (λ part. length part ≤ c.args.count) (g.F.Feed.hand c.args.feed.now) fills ran_out (omega (arith, came)) (omega (arith, came, c.requires.at, c.requires.limit)) in
    record {
      piece = fills.piece ++ ran_out.piece;
      moves = out.0;
      peaks = out.1;
      meets = subst (λ (t : List ℕ). Meets of_entry left at t (g.F.Feed.hand c.conclude.new.feed).peak c.conclude.result) (append_assoc word fills.piece ran_out.piece)
          (ran (Meets of_entry left at (first ++ ran_out.piece) (g.F.Feed.hand c.conclude.new.feed).peak) (Err (BadEntry at)) c.conclude.result _ at _ first ran_out.piece (Some (BadEntry at)) ran_out.ran
          (omega (arith, size, came, c.requires.limit)) (omega (arith, ran_out.moves.given, fills.keeps.given, c.requires.at, size, length-append first ran_out.piece))
          (λ more within. no_entry at c.args.count fills.piece more c.requires.some c.requires.limit came none)
          (λ h. h) (λ h. h) tt);
    }
