-- The moment from which a store of stamps remembers: that of its making, if it has lost nothing since. Stamps of requests that were let
-- in before may be in another store, or lost, and a service that shares the store has a start by which it refuses such requests.
-- Moments are microseconds.
use Rattle.std.specs.Prelude.{◌≡◌, ◌≤◌, ◌≤ℤ◌, ◌+ℤ◌, ℕ, ℤ, pos, Some}
use Rattle.krb_ap.specs.History.{effective}
use Rattle.krb_ap.specs.Setup.{Setup}
use Rattle.krb_ap.specs.Sharing.{Asked}
use Rattle.krb_ap.specs.Taken.{Accept}

-- The service's start covers the moment from which its store remembers, for services of the largest skew: it is that moment, or later
-- by as much as its own skew is smaller.
pub record StartsWith (from : ℤ) (largest : ℕ) (setup : Setup) : Type 0 where
  pub start : ℤ
  pub start_is : setup.start ≡ Some start
  pub covers : (from +ℤ pos largest) ≤ℤ (start +ℤ pos setup.skew)

-- Before that moment, by the clock that counts for it, some service accepted a request, over another store or none. Its keytab, its
-- start and what it had seen may be any; its skew isn't larger than the largest.
pub record IsFromBefore (from : ℤ) (largest : ℕ) (asked : Asked) : Type 0 where
  pub accepted : Accept asked.setup asked.history asked.call asked.taken
  pub before : effective asked.history asked.call.moment ≤ℤ from
  pub skew_is : asked.setup.skew ≤ largest
