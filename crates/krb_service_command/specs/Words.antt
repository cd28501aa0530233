-- What words of the command line ask of `accept` and of `explain`.
use Rattle.std.specs.Prelude.{◌≡◌, ◌≤◌, ◌*◌, ◌⊎◌, ℕ, ℤ, pos, List, Option, Some, None, Ok, Err}
use Rattle.std.specs.Borrow.{Bor}
use Rattle.krb_time.specs.Moments.{micros_of}
use Rattle.krb_time.specs.Time.{IsSeconds}
use Rattle.krb_name.specs.Reading.{IsReadAs}
use Rattle.krb_name.specs.declared.principal.Principal.{Principal}
use Rattle.krb_name.specs.declared.text_fault.TextFault.{TextFault}
use Rattle.krb_command_line.specs.declared.command_line.AcceptWords.{AcceptWords}
use Rattle.krb_command_line.specs.declared.command_line.ExplainWords.{ExplainWords}
use Rattle.krb_file_commands.specs.Status.{service_status}
use Rattle.krb_file_commands.specs.Words.{Asks, IsNumber, WritesInteger}

-- the text writes in decimal how many seconds clocks may differ, up to a day; a skew counts microseconds
pub record IsSkew (text : List ℕ) (skew : ℕ) : Type 0 where
  pub seconds : ℕ
  pub writes_seconds : IsNumber text seconds
  pub limit : seconds ≤ 86_400
  pub skew_is : skew ≡ 1_000_000 * seconds

-- the text writes in decimal a second of the years 0000 to 9999
abbrev pub IsSecond : List ℕ → ℤ → Type 0
IsSecond text second = WritesInteger text second × IsSeconds second

-- the text writes in decimal the second at which the service was started again
pub record IsStart (text : List ℕ) (start : ℤ) : Type 0 where
  pub second : ℤ
  pub writes_second : IsSecond text second
  pub start_is : start ≡ micros_of second 0

-- the text is the name of a service on a host
abbrev pub IsServiceName : List ℕ → Principal → Type 0
IsServiceName text name = IsReadAs text (Ok name) × (name.name_type ≡ pos 3)

-- an option is there, and this is the exit status of a fault that it may be read with: memory may run out for each
abbrev pub IsUnreadName : Option (Bor (List ℕ)) → ℕ → Type 0
IsUnreadName None status = ⊥
IsUnreadName (Some text) status = (fault : TextFault) × (IsReadAs text.now (Err fault) × (status ≡ service_status fault))

-- ---- what the words don't ask for

-- a second
abbrev pub LacksSecond : List ℕ → Type 0
LacksSecond text = (second : ℤ) → ¬ IsSecond text second

-- how many seconds clocks may differ
abbrev pub LacksSkew : List ℕ → Type 0
LacksSkew text = (skew : ℕ) → ¬ IsSkew text skew

-- a skew and a start
abbrev pub LacksTimes : AcceptWords → Type 0
LacksTimes words = (skew : ℕ) (start : Option ℤ) → IsSkew words.skew.now skew → ¬ Asks IsStart words.started start

-- a name, or none
abbrev pub LacksName : Option (Bor (List ℕ)) → Type 0
LacksName text = (name : Option Principal) → ¬ Asks IsServiceName text name

-- ---- why a command ends before it opens a file, with this exit status

-- a second is asked for by a word that writes none; or it is left to the machine's clock, which can't be read
abbrev pub IsUnreadSecond : Option (Bor (List ℕ)) → ℕ → Type 0
IsUnreadSecond None status = status ≡ 3
IsUnreadSecond (Some text) status = LacksSecond text.now × (status ≡ 2)

abbrev pub IsUnreadAccept : AcceptWords → ℕ → Type 0
IsUnreadAccept words status = (LacksTimes words × (status ≡ 2)) ⊎ (IsUnreadName words.service status ⊎ IsUnreadName words.only status)

-- `explain` with a keytab
abbrev pub IsUnreadExplain : ExplainWords → ℕ → Type 0
IsUnreadExplain words status = (LacksSkew words.skew.now × (status ≡ 2)) ⊎ (IsUnreadSecond words.at status ⊎ IsUnreadName words.only status)
