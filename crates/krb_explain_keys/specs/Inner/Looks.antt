-- A row of the table of what to look at.
use Rattle.std.specs.Prelude.{ℕ, List}
use Rattle.krb_explain_keys.specs.declared.look_at.Look.{Look}

abbrev pub look_of : Look → ℕ × List ℕ
look_of row = (row.0, row.1.now)
