use Rattle.std.proofs.Common.{◌-◌, length, take}
use Rattle.std.specs.Prelude.{All}
use Rattle.krb_ap.proofs.Walk.{Unwanted}
use Rattle.krb_ap.proofs.credentials.first.Given as goal

-- none so far is wanted
abbrev pub invariant-loop-place : goal.invariant-loop-place
invariant-loop-place l = All (Unwanted l.cache l.service l.wanted) (take l.next l.cache.credentials)

abbrev pub decreases-loop-place : goal.decreases-loop-place
decreases-loop-place l = length l.cache.credentials - l.next
