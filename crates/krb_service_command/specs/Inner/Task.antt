-- What `accept` and `explain` are asked for, and what `accept` then answers to an input.
use Rattle.std.specs.Prelude.{◌≡◌, ◌⊎◌, ℕ, List, [], ◌++◌, Option, Some, Ok, IfSome, length, if◌then◌else◌}
use Rattle.std.specs.Io.KnownBytes.{Appends}
use Rattle.krb_file.specs.Flow.{counted}
use Rattle.krb_keytab.specs.Entry.{KeytabEntry}
use Rattle.krb_keytab.specs.Format.{IsKeytab}
use Rattle.krb_ap.specs.Setup.{Setup, Arrival}
use Rattle.krb_call_lines.specs.declared.form.Form.TheVariants.{Message, Token}
use Rattle.krb_command_line.specs.declared.command_line.AcceptWords.{AcceptWords}
use Rattle.krb_command_line.specs.declared.command_line.ExplainWords.{ExplainWords}
use Rattle.krb_explain.specs.Input.{read_of}
use Rattle.krb_file_commands.specs.Words.{Asks}
use Rattle.krb_service_command.specs.AnswerEnd.{named}
use Rattle.krb_service_command.specs.Answering.{BecomeInTurn, HasLines, PrintsBeginning, TakesLines, answer_lines, input_limit, last_line, status_of_lines}
use Rattle.krb_service_command.specs.Explaining.{IsServedBy}
use Rattle.krb_service_command.specs.Words.{IsSecond, IsServiceName, IsSkew, IsStart}
use Rattle.krb_service_command.specs.declared.accept.AnswerOptions.{AnswerOptions}
use Rattle.krb_service_command.specs.declared.answering.LineOutcome.{LineOutcome}
use Rattle.krb_service_command.specs.declared.explain_keys.ExplainWithKeys.{ExplainWithKeys}
use Rattle.krb_service_command.specs.declared.task.AcceptTask.{AcceptTask}

-- the words ask for this
pub record AsksAccept (words : AcceptWords) (task : AcceptTask) : Type 0 where
  pub keytab : task.keytab ≡ words.keytab
  pub skew : IsSkew words.skew.now task.times.skew
  pub start : Asks IsStart words.started task.times.start
  pub form : task.form ≡ (if words.tokens then Token else Message)
  pub service : Asks IsServiceName words.service task.service
  pub only : Asks IsServiceName words.only task.only

-- the words of `explain` ask for this with a keytab; without `--at` the second is that of the clock
pub record AsksExplain (words : ExplainWords) (wanted : ExplainWithKeys) : Type 0 where
  pub skew : IsSkew words.skew.now wanted.skew
  pub second : IfSome words.at (λ at. IsSecond at.now wanted.second)
  pub only : Asks IsServiceName words.only wanted.only
  pub message : IfSome words.message (λ text. read_of text.now ≡ Ok wanted.bytes.items)

-- a new service of this setup answered all lines of the input, and this is the exit status
pub record AnswersInput (options : AnswerOptions) (setup : Setup) (input : List ℕ) (status : ℕ) (Old New : Option (List ℕ)) : Type 0 where
  pub lines : List (List ℕ)
  pub rest : List ℕ
  pub outcomes : List LineOutcome
  pub end : List Arrival
  pub parts : HasLines input lines rest
  pub become : BecomeInTurn options setup [] (lines ++ last_line rest) outcomes end
  pub printed : Appends Old New (answer_lines outcomes)
  pub status_is : status ≡ status_of_lines outcomes

-- it took lines of the input, and their answers were printed up to some byte of the last
pub record BeginsInput (options : AnswerOptions) (setup : Setup) (input : List ℕ) (Old New : Option (List ℕ)) : Type 0 where
  pub taken : List (List ℕ)
  pub outcomes : List LineOutcome
  pub end : List Arrival
  pub takes : TakesLines input taken
  pub become : BecomeInTurn options setup [] taken outcomes end
  pub printed : PrintsBeginning Old New outcomes

-- a read failed, or so many bytes came as are taken; it answered the whole lines of what came
pub record AnswersCame (options : AnswerOptions) (setup : Setup) (input : List ℕ) (unread : Option (List ℕ)) (old_failures new_failures : ℕ)
    (Old New : Option (List ℕ)) : Type 0 where
  pub came : List ℕ
  pub left : List ℕ
  pub lines : List (List ℕ)
  pub rest : List ℕ
  pub outcomes : List LineOutcome
  pub end : List Arrival
  pub input_is : input ≡ came ++ left
  pub unread_is : unread ≡ Some left
  pub why : (new_failures ≡ counted old_failures 1) ⊎ (length came ≡ input_limit)
  pub parts : HasLines came lines rest
  pub become : BecomeInTurn options setup [] lines outcomes end
  pub printed : Appends Old New (answer_lines outcomes)

-- these are the entries of the keytab that a source had to come, if its bytes are known
abbrev pub AreEntriesOf : Option (List ℕ) → List KeytabEntry → Type 0
AreEntriesOf from entries = IfSome from (λ given. IsKeytab given entries)

-- This is so for a new service as it is asked for: how it answers, and what it decides by. It has those of a keytab's entries that are of its
-- name, if one was asked for.
pub record Serves (task : AcceptTask) (from : Option (List ℕ)) (Holds : AnswerOptions → Setup → Type 0) : Type 0 where
  pub entries : List KeytabEntry
  pub options : AnswerOptions
  pub setup : Setup
  pub keytab : AreEntriesOf from entries
  pub served : IsServedBy task.only entries setup.entries
  pub skew : setup.skew ≡ task.times.skew
  pub start : setup.start ≡ task.times.start
  pub form : options.form ≡ task.form
  pub service : named options.service ≡ task.service
  pub holds : Holds options setup
