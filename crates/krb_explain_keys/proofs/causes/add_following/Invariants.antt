use Rattle.std.proofs.Common.{◌≡◌, ◌++◌, drop, map}
use Rattle.krb_explain_keys.specs.CauseLines.{following}
use Rattle.krb_explain_keys.specs.Inner.Seen.{looked_of}
use Rattle.krb_explain_keys.proofs.causes.add_following.Given as goal

-- what is added, with what is left to add
abbrev pub invariant-loop-cause : goal.invariant-loop-cause
invariant-loop-cause l = l.lines.items ++ following l.first (map looked_of (drop l.cause-index l.causes))
    ≡ l.fn.lines.items ++ following l.first (map looked_of l.causes)
