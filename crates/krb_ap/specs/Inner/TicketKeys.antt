-- A service key's keys for tickets, if any are cached, with the plain text of the ticket that they opened last.
use Rattle.std.specs.Prelude.{ℕ, List, Option}
use Rattle.krb_enc.specs.Key.{UsageKeyValue}

pub record TicketKeysValue : Type 0 where
  pub keys : Option UsageKeyValue
  pub plain : List ℕ
