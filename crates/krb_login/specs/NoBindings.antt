-- What a client sends in place of the hash of channel bindings if it has none (RFC 4121, section 4.1.1.2).
use Rattle.std.specs.Prelude.{ℕ, List, replicate}

-- sixteen zeros say that the client has none
abbrev pub none_sent : List ℕ
none_sent = replicate 16 0
