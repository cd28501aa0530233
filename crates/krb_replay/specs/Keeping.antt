-- How long a store that several services share keeps a stamp.
use Rattle.std.specs.Prelude.{ℕ, ℤ, pos, ◌+ℤ◌, ◌*◌}
use Rattle.krb_replay.specs.Stamp.{Stamp}

-- The stamp's time plus twice the skew. A service accepts a request until its clock is later than
-- the request's time by more than the skew (RFC 4120, section 3.2.3), and the store's clock may be
-- ahead of the service's by the skew again.
abbrev pub kept_until : Stamp → ℕ → ℤ
kept_until stamp skew = stamp.time +ℤ pos (2 * skew)
