-- What words of the command line ask for.
use Rattle.std.specs.Prelude.{◌≡◌, ◌≢◌, ◌⊎◌, ◌<◌, ◌%◌, ℕ, ℤ, pos, length, List, Option, Ok, Err}
use Rattle.std.specs.Borrow.{Bor}
use Rattle.hex.specs.Hex.{decode_of}
use Rattle.krb_time.specs.Moments.{micros_of}
use Rattle.krb_time.specs.Time.{IsSeconds}
use Rattle.krb_name.specs.Reading.{IsReadAs}
use Rattle.krb_name.specs.declared.principal.Principal.{Principal}
use Rattle.krb_name.specs.declared.text_fault.TextFault.{TextFault}
use Rattle.krb_gss.specs.declared.opening.Wrapping.{Wrapping}
use Rattle.krb_command_line.specs.declared.command_line.FinishWords.{FinishWords}
use Rattle.krb_command_line.specs.declared.command_line.RequestWords.{RequestWords}
use Rattle.krb_call_lines.specs.CallLine.{SpellsConfounder}
use Rattle.krb_file_commands.specs.Status.{service_status}
use Rattle.krb_file_commands.specs.Words.{Asks, IsNumber, WritesInteger}
use Rattle.krb_client_commands.specs.Requesting.{IsTokenWord}

-- the texts write in decimal a second of the years 0000 to 9999 and the microseconds after it, and this is that moment
pub record IsMoment (seconds_text micros_text : List ℕ) (moment : ℤ) : Type 0 where
  pub seconds : ℤ
  pub micros : ℕ
  pub writes_seconds : WritesInteger seconds_text seconds
  pub writes_micros : IsNumber micros_text micros
  pub years : IsSeconds seconds
  pub within_second : micros < 1_000_000
  pub moment_is : moment ≡ micros_of seconds micros

-- the text is the name of a service on a host
abbrev pub IsServiceName : List ℕ → Principal → Type 0
IsServiceName text name = IsReadAs text (Ok name) × (name.name_type ≡ pos 3)

-- ---- what the words don't ask for

-- a moment
abbrev pub LacksMoment : List ℕ → List ℕ → Type 0
LacksMoment seconds micros = (moment : ℤ) → ¬ IsMoment seconds micros moment

-- a service
abbrev pub LacksName : List ℕ → Type 0
LacksName text = (name : Principal) → ¬ IsServiceName text name

-- a confounder
abbrev pub LacksConfounder : List ℕ → Type 0
LacksConfounder text = (confounder : List ℕ) → ¬ SpellsConfounder text confounder

-- a token, or none
abbrev pub LacksToken : Option (Bor (List ℕ)) → Type 0
LacksToken word = (wrapping : Option Wrapping) → ¬ Asks IsTokenWord word wrapping

-- the bytes of a reply
abbrev pub LacksBytes : List ℕ → Type 0
LacksBytes text = (bytes : List ℕ) → ¬ (decode_of text ≡ Ok bytes)

-- a request
abbrev pub LacksRequest : RequestWords → Type 0
LacksRequest words = LacksName words.service.now ⊎ (LacksConfounder words.confounder.now ⊎ LacksToken words.token)

-- the reply to one
abbrev pub LacksReply : FinishWords → Type 0
LacksReply words = LacksName words.service.now ⊎ LacksBytes words.reply.now

-- ---- why a command ends before it opens the cache, with this exit status

-- the name has a fault; memory may run out for each
abbrev pub IsUnreadName : List ℕ → ℕ → Type 0
IsUnreadName text status = (fault : TextFault) × (IsReadAs text (Err fault) × (status ≡ service_status fault))

abbrev pub IsUnreadRequest : RequestWords → ℕ → Type 0
IsUnreadRequest words status =
    IsUnreadName words.service.now status
    ⊎ ((LacksMoment words.time.now words.usec.now ⊎ (LacksConfounder words.confounder.now ⊎ LacksToken words.token)) × (status ≡ 2))

-- the text has no bytes of a reply; or memory ran out for them, which isn't said of a text of odd length
abbrev pub IsUnreadReply : List ℕ → ℕ → Type 0
IsUnreadReply text status = (LacksBytes text × (status ≡ 2)) ⊎ ((length text % 2 ≢ 1) × (status ≡ 3))

abbrev pub IsUnreadFinish : FinishWords → ℕ → Type 0
IsUnreadFinish words status =
    IsUnreadName words.service.now status
    ⊎ ((LacksMoment words.time.now words.usec.now × (status ≡ 2)) ⊎ IsUnreadReply words.reply.now status)
