-- The flags of RFC 4120 that the exchange looks at, by their numbers.
use Rattle.std.specs.Prelude.{ℕ}

-- of ap-options (section 5.5.1)
abbrev pub use_session_key : ℕ
use_session_key = 1

abbrev pub mutual_required : ℕ
mutual_required = 2

-- of a ticket's flags (section 5.3)
abbrev pub invalid : ℕ
invalid = 7

abbrev pub transited_policy_checked : ℕ
transited_policy_checked = 12
